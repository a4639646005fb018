use Rattle.std.proofs.Common.{◌≡◌, ℕ, List}
use Rattle.std.proofs.lemmas.Result.{err_from_is_err_and}
use Rattle.gx_model.specs.Streams.Commands as model
use Rattle.gx_model.specs.Replay.{State, content}
use Rattle.gx_model.specs.Texts.{Bytes}
use Rattle.gx_object.specs.declared.name.Name.{Name}
use Rattle.gx_command.specs.Views.{shown_data}
use Rattle.gx_import.proofs.Contents.{blob_put, no_directory, no_gitlink}
use Rattle.gx_import.proofs.Blobs.{blob_refused}
use Rattle.gx_import.proofs.changes.content.Goals as goal

pub returns-in_ok-add_blob_owned-in-Inline-clause-steps : goal.returns-in_ok-add_blob_owned-in-Inline-clause-steps
returns-in_ok-add_blob_owned-in-Inline-clause-steps g c = λ s h.
    let name = g.N.Namer.name_of c.args.repo.now.0 in
    let d = c.args.data_ref in
    let b = c.in-Inline.bytes.items in
    let inline : (x : List ℕ) → shown_data d ≡ model.Object x → ⊥ = rw c.in-Inline.is (λ x e. cc e) in
    let ok = c.in_ok-add_blob_owned-in-Inline in
    rw c.in-Inline.is (blob_put name c.args.repo.now.1 c.add_blob_owned.new.self.1 c.args.tables.now s h c.args.mode b ok.field-0 (no_gitlink c.args.mode d inline c.requires.suits) (no_directory c.args.mode d c.requires.suits) ok.ensures.history ok.ensures.value)

pub returns-in_err-add_blob_owned-in-Inline-clause-steps : goal.returns-in_err-add_blob_owned-in-Inline-clause-steps
returns-in_err-add_blob_owned-in-Inline-clause-steps g c = λ s h.
    let name = g.N.Namer.name_of c.args.repo.now.0 in
    let from = c.from_residual-in_err-add_blob_owned-in-Inline in
    let p = err_from_is_err_and from.result from.ensures.1 in
    let b = c.in-Inline.bytes.items in
    let refused = c.in_err-add_blob_owned-in-Inline in
    rw (c.in-Inline.is, p.1, p.2) (blob_refused name (c.puts_add_values.ensures name (g.met.N.Namer.is_namer c.args.repo.now.0)) c.args.repo.now.1 c.sound.ensures c.add_blob_owned.new.self.1.records b {X = Name} {Y = State × Bytes} (λ u x. Unit {0}) (content name s c.args.mode (model.Inline b)) refused.field-0.0 refused.ensures.adds)
