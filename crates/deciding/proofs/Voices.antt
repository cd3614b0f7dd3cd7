-- A decision by one sense of touching is the same by another that agrees on the rules.
use Rattle.std.proofs.Common.{ℕ, List}
use Rattle.kind.specs.Sense.{Sense}
use Rattle.site.specs.Plans.{Plan}
use Rattle.paths.specs.declared.ports.Port.{Port}
use Rattle.rules.specs.declared.verdict.Saying.{Saying}
use Rattle.rules.specs.declared.verdict.Saying.TheVariants as saying
use Rattle.rules.specs.Rules.{Ruling}
use Rattle.deciding.specs.declared.settling.Decision.{Decision}
use Rattle.deciding.specs.declared.settling.Decision.TheVariants.{Permit, Deny, Split, Silent}
use Rattle.deciding.specs.Deciding.{VoiceBy, DecidesBy}
use Rattle.pairs.specs.Lists.{Has}

module _ {C P : Type 0} (s : Plan) (k : Sense C P) (port : Port) (class : ℕ) (point : P) (rs : List (Ruling C)) where
  -- on these rules, the one follows from the other
  abbrev pub ImpliesOn : (Ruling C → Port → Type 0) → (Ruling C → Port → Type 0) → Type 0
  ImpliesOn T U = (r : Ruling C) → Has rs r → T r port → U r port

  module _ (T U : Ruling C → Port → Type 0) (on : ImpliesOn T U) (back : ImpliesOn U T) where
    voice : (d : Saying) → VoiceBy s k T rs port class point d → VoiceBy s k U rs port class point d
    voice d v = record {
      r = v.r;
      stands = v.stands;
      speaks = record { touch = on v.r v.stands v.speaks.touch; hold = v.speaks.hold; word = v.speaks.word };
      says = v.says;
      first = λ q h z. v.first q h (record { touch = back q h z.touch; hold = z.hold; word = z.word });
    }

  module _ (T U : Ruling C → Port → Type 0) (on : ImpliesOn T U) (back : ImpliesOn U T) where
    pub decides_also : (d : Decision) → DecidesBy s k T rs port class point d → DecidesBy s k U rs port class point d
    decides_also Permit x = (voice T U on back saying.Permit x.0, λ v. x.1 (voice U T back on saying.Deny v))
    decides_also Deny x = ((λ v. x.0 (voice U T back on saying.Permit v)), voice T U on back saying.Deny x.1)
    decides_also Split x = (voice T U on back saying.Permit x.0, voice T U on back saying.Deny x.1)
    decides_also Silent x = ((λ v. x.0 (voice U T back on saying.Permit v)), λ v. x.1 (voice U T back on saying.Deny v))
