use Rattle.std.proofs.Common.{◌≡◌, ℕ, ◌^◌, true, false, List, sym, refl, ap, ◌∙◌, subst, inl, ⊎_elim}
use lib.Bits.{bit_or}
use Rattle.std.proofs.lemmas.Bool.{false≢true}
use Rattle.site.specs.declared.parts.Link.{Link}
use Rattle.site.specs.Sites.{plan}
use Rattle.paths.specs.PortSets.{is_port, number_of}
use Rattle.paths.proofs.Numbered.{one_port_more}
use Rattle.paths.proofs.ports.PortSet.insert.Goals as goal

pub returns : goal.returns
returns c =
    let port : is_port (plan c.args.site.now).links c.args.port ≡ true = subst (λ (x : List Link). is_port x c.args.port ≡ true) c.links.ensures c.in-Some.ensures.0 in
    let set : c.with.result.bits ≡ bit_or c.args.self.now.bits (2 ^ number_of (plan c.args.site.now).links c.args.port) =
    c.with.ensures ∙ ap (λ (x : ℕ). bit_or c.args.self.now.bits (2 ^ x)) (c.in-Some.ensures.1 ∙ ap (λ (x : List Link). number_of x c.args.port) c.links.ensures) in
    record { test = sym port; set = set; each = one_port_more (plan c.args.site.now).links c.args.self.now c.with.result c.args.port port set }

pub returns-in_default : goal.returns-in_default
returns-in_default c =
    let port : is_port (plan c.args.site.now).links c.args.port ≡ false = subst (λ (x : List Link). is_port x c.args.port ≡ false) c.links.ensures c.in_default.ensures in
    record { test = sym port; set = refl; each = λ q. (λ h. inl h, λ h. ⊎_elim (λ a. a) (λ b. absurd (false≢true b.0)) h) }
