-- From the fields of a map to the site that is read.
use Rattle.std.proofs.Common.{◌≡◌, ℕ, true, false, List, length, IfOk, Ok, Err, Result, sym, ap, ◌∙◌}
use Rattle.site.specs.declared.refusals.Cause.TheVariants.{Unsealable}
use Rattle.site.specs.declared.refusals.Refusal.{Refusal}
use Rattle.site.specs.declared.sealed.Site.{Site}
use Rattle.site.specs.Plans.{Plan}
use Rattle.site.specs.Maps.{blank, fields, onward, read_map, seal, sealable}
use Rattle.site.specs.Promises.{Sound}
use Rattle.site.specs.Refusals.{refuse}
use Rattle.site.specs.Sites.{plan, told}
use Rattle.site.proofs.Keeping.{says_sound}
use Rattle.site.proofs.Saying.{read_says}

-- how the whole map ends, by how its fields end
module _ (bs : List ℕ) where
  pub fields_refused : (e : Refusal) → Err e ≡ fields (length bs) 0 blank bs → Err e ≡ read_map bs
  fields_refused e h = ap (onward (seal (length bs))) h

  pub unsealed : (s : Plan) → Ok s ≡ fields (length bs) 0 blank bs → sealable s ≡ false → refuse Unsealable (length bs) ≡ read_map bs
  unsealed s h e = sym (rw e) ∙ ap (onward (seal (length bs))) h

  pub sealed : (s : Plan) → Ok s ≡ fields (length bs) 0 blank bs → sealable s ≡ true → Ok s ≡ read_map bs
  sealed s h e = sym (rw e) ∙ ap (onward (seal (length bs))) h

pub read_sound : (bs : List ℕ) (s : Plan) → Ok s ≡ read_map bs → Sound s
read_sound bs s e = says_sound bs s (read_says bs s (sym e))

pub told_sound : (r : Result Site Refusal) (bs : List ℕ) → told r ≡ read_map bs → IfOk r (λ s. Sound (plan s))
told_sound (Ok s) bs e = read_sound bs (plan s) e
told_sound (Err c) bs e = tt
