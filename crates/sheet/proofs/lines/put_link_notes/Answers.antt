use Rattle.std.proofs.Common.{[], ◌++◌, codes, decimal, string_bytes, sym, ap, ◌∙◌, append_assoc, append-nil}
use Rattle.std.proofs.lemmas.Bool.{cond-true, cond-false}
use Rattle.site.specs.Links.{nowhere}
use Rattle.site.specs.Sites.{plan}
use Rattle.sheet.specs.Sheets.{Appended, link_note, shown, name_at}
use Rattle.sheet.proofs.Putting.{each_more, shown_at, named}
use Rattle.sheet.proofs.lines.put_link_notes.Goals as goal
use Rattle.sheet.proofs.lines.put_link_notes.Goals.{then-ends_at+in_ok-write, else-ends_at}

pub loop-i-preserved : goal.loop-i-preserved
loop-i-preserved c =
    each_more _ (link_note (plan c.args.site.now) c.args.node) c.links-link-items.result.now c.loop-i.i-counter nowhere c.loop-i.invariant c.loop-i-test.true
    (elim c.if-ends_at.branch [
      | then-ends_at+in_ok-write w ↦
          (let wrote : Appended (string_bytes c.loop-i.text) (codes " " ++ (decimal c.loop-i.i-counter ++ (codes " (" ++ (shown w.node_name.result ++ codes ")")))) (string_bytes c.if-ends_at.text) =
          record { is = ap string_bytes w.text-is ∙ w.in_ok-write.ensures.bytes } in
          named _ (ap (λ n. codes " " ++ (decimal c.loop-i.i-counter ++ (codes " (" ++ (n ++ codes ")")))) (shown_at (plan c.args.site.now).nodes w.far_end.result _ w.node_name.ensures ∙ ap (name_at (plan c.args.site.now)) w.far_end.ensures)
          ∙ ap (λ l. codes " " ++ l) (sym (append_assoc (decimal c.loop-i.i-counter) (codes " (") _)) ∙ sym (cond-true _ _ _ (sym c.ends_at.ensures ∙ w.if-ends_at.true))) wrote)
      | else-ends_at w ↦
          (let wrote : Appended (string_bytes c.loop-i.text) [] (string_bytes c.if-ends_at.text) = record { is = ap string_bytes w.text-is ∙ sym (append-nil _) } in
          named _ (sym (cond-false _ _ _ (sym c.ends_at.ensures ∙ w.if-ends_at.false))) wrote)
    ])
