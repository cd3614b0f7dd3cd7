use Rattle.std.proofs.Common.{◌++◌, codes, string_bytes, ap, ◌∙◌, append_assoc}
use Rattle.fixed.specs.Names.{spelling}
use Rattle.site.specs.Sites.{plan}
use Rattle.sheet.specs.Sheets.{Appended, node_note}
use Rattle.sheet.proofs.Putting.{each_more, then, named}
use Rattle.sheet.proofs.lines.put_notes.Goals as goal

pub loop-i-preserved : goal.loop-i-preserved
loop-i-preserved c =
    let head : Appended (string_bytes c.loop-i.text) (codes "# links of " ++ (spelling c.name-item.result ++ codes ":")) (string_bytes c.write.new.self) = record { is = c.in_ok-write.ensures.bytes } in
    let end : Appended (string_bytes c.put_link_notes.new.text) (codes "\n") (string_bytes c.push_str.new.self) = record { is = c.in_ok-push_str.ensures.bytes } in
    each_more _ (λ k name. node_note (plan c.args.site.now) k (spelling name)) c.nodes-name-items.result.now c.loop-i.i c.name-item.result c.loop-i.invariant c.loop-i-test.true
    (named _ (ap (λ l. codes "# links of " ++ l) (append_assoc (spelling c.name-item.result) (codes ":") _) ∙ ap (λ name. node_note (plan c.args.site.now) c.loop-i.i (spelling name)) c.name-item.is)
    (then head (then c.in_ok-put_link_notes.ensures end)))
