use Rattle.std.proofs.Common.{◌++◌, vec_items, codes, sym, ap, ◌∙◌}
use Rattle.std.proofs.lemmas.List.Folds.{flat_map-map}
use Rattle.std.specs.List.{flat_map}
use Rattle.fixed.specs.Names.{spelling}
use Rattle.site.specs.Sites.{plan}
use Rattle.sheet.specs.Sheets.{name_line, sheet_of}
use Rattle.sheet.proofs.Putting.{then, named}
use Rattle.sheet.proofs.lines.sheet.Goals as goal

pub returns : goal.returns
returns c =
    let whole =
    then c.in_ok-put_counts.ensures
    (then (named _ (sym (flat_map-map (name_line (codes "node ")) spelling c.nodes.result.now) ∙ ap (flat_map (name_line (codes "node "))) c.nodes.ensures) c.in_ok-put_names.ensures)
    (then c.in_ok-put_links.ensures
    (then (named _ (sym (flat_map-map (name_line (codes "class ")) spelling c.classes.result.now) ∙ ap (flat_map (name_line (codes "class "))) c.classes.ensures) c.in_ok-put_names-2.ensures)
    (then c.in_ok-put_users.ensures
    (then c.in_ok-put_reading.ensures
    c.in_ok-put_notes.ensures))))) in
    ap vec_items c.into_bytes.ensures.value ∙ whole.is ∙ ap (λ l. l ++ sheet_of (plan c.args.site.now)) c.new-text.ensures.bytes
