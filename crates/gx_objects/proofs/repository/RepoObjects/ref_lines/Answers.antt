use Rattle.std.proofs.Common.{◌++◌, sym, ap, ◌∙◌, append-nil}
use Rattle.std.specs.List.{flat_map}
use Rattle.gx_model.specs.Stores.StoreText.{stored_ref}
use Rattle.gx_objects.proofs.Named.{refs_are}
use Rattle.gx_objects.proofs.repository.RepoObjects.ref_lines.Goals as goal

pub returns-clause-spelled : goal.returns-clause-spelled
returns-clause-spelled g c =
    let repo = c.args.self.now in
    let made = c.loop-name.room.items in
    let none = ap (λ left. made ++ flat_map stored_ref left) (sym c.in-None.ensures.steps.0) in
    (repo.1.refs, c.as_slice.ensures.value ∙ sym (append-nil made) ∙ none ∙ c.loop-name.invariant.2, refs_are (g.N.Namer.name_of repo.0) (g.met.N.Namer.is_namer repo.0) repo.1 c.sound.ensures)
