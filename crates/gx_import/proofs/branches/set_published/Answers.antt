use Rattle.std.proofs.Common.{IsTrue, map, ap, sym, subst, ◌∙◌}
use Rattle.std.specs.FinMap.Entries.{is_sorted}
use Rattle.gx_model.specs.Texts.{byte_cmp}
use Rattle.gx_import.specs.Rows.{row_of}
use Rattle.gx_import.specs.Standing.{published_tip}
use Rattle.gx_import.proofs.RelatedRows.{changed_rows, changed_sorted}
use Rattle.gx_import.proofs.branches.set_published.Goals as goal

pub invariant_of-branches : goal.invariant_of-branches
invariant_of-branches g c =
    let es = c.branches.inside.rows.entries in
    subst (λ entries. IsTrue (is_sorted byte_cmp (map row_of entries))) (sym c.set_each.ensures)
    (subst (λ rows. IsTrue (is_sorted byte_cmp rows)) (sym (changed_rows published_tip es)) (sym (changed_sorted published_tip (map row_of es)) ∙ c.branches.invariant))

pub returns : goal.returns
returns g c =
    ap (map row_of) c.set_each.ensures ∙ changed_rows published_tip c.branches.inside.rows.entries
    ∙ ap (map (λ row. (row.0, published_tip row.1))) c.branches.view_is
