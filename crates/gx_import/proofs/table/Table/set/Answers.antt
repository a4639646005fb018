use Rattle.std.proofs.Common.{IsTrue, map, ap, sym, subst, ◌∙◌}
use Rattle.std.specs.FinMap.Entries.{is_sorted, put}
use Rattle.gx_model.specs.Texts.{byte_cmp}
use Rattle.gx_import.specs.Rows.{row_of}
use Rattle.gx_import.proofs.SortedRows.{put_in, put_sorted}
use Rattle.gx_import.proofs.table.Table.set.Goals as goal

pub invariant_of-self-2 : goal.invariant_of-self-2
invariant_of-self-2 g c =
    subst (λ es. IsTrue (is_sorted byte_cmp (map row_of es))) (sym c.in_ok-insert.ensures.entries)
    (put_sorted c.args.name c.args.value c.self.inside.rows.entries c.self.invariant)

pub returns : goal.returns
returns g c =
    ap (map row_of) c.in_ok-insert.ensures.entries ∙ put_in c.args.name c.args.value c.self.inside.rows.entries
    ∙ ap (put byte_cmp c.args.name.items c.args.value) c.self.view_is
