use Rattle.std.proofs.Common.{◌≡◌, true, sym, subst}
use Rattle.fixed.specs.Spelling.{is_name}
use Rattle.fixed.proofs.Lettered.{put_whole}
use Rattle.fixed.proofs.naming.calls.spelled.Goals as goal

pub invariant_of-result : goal.invariant_of-result
invariant_of-result c = record {
  proper = subst (λ bs. is_name bs ≡ true) (sym (put_whole _ _ _ c.new-letters.ensures c.extend_from_slice.ensures c.requires)) c.requires;
}

pub returns : goal.returns
returns c = put_whole _ _ _ c.new-letters.ensures c.extend_from_slice.ensures c.requires
