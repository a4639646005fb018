use Rattle.gx_tree.proofs.Homes.{files_same}
use Rattle.std.proofs.Common.{sym, ◌∙◌}
use Rattle.std.proofs.lemmas.Bool.{eqb-true, eq-eqb}
use Rattle.std.proofs.lemmas.List.{length-map}
use Rattle.gx_tree.specs.Views.{shown_entry, shown_entries}
use Rattle.gx_tree.proofs.EditSteps.{no_files, no_entries}
use Rattle.gx_tree.proofs.directory.Directory.is_empty.Goals as goal

pub returns : goal.returns
returns g c =
    let es = c.self.inside.entries.value.items in
    let ok = c.self.inside.entries.value.ok in
    let e = rw c.deref.ensures at c.is_empty.ensures in (
      (λ t. sym (files_same c.self.view_is) ∙ no_entries (shown_entries es) (length-map es shown_entry ∙ sym ok.0 ∙ eqb-true _ _ (sym e ∙ t))),
      (λ z. e ∙ eq-eqb _ _ (ok.0 ∙ sym (length-map es shown_entry) ∙ no_files (shown_entries es) c.self.invariant.0 ((files_same c.self.view_is) ∙ z))),
    )
