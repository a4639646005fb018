use Rattle.std.proofs.Common.{Ok, refl}
use Rattle.std.proofs.lemmas.Bool.{false≢true}
use Rattle.std.proofs.lemmas.Result.{err_from_is_err_and}
use Rattle.gx_model.specs.Histories.Values.{blob_value}
use Rattle.gx_model.specs.Replay.{State, added, marked}
use Rattle.gx_import.specs.Standing.{Follows}
use Rattle.gx_import.proofs.Blobs.{blob_hidden, blob_refused, put_known}
use Rattle.gx_import.proofs.Marking.{marked_follows}
use Rattle.gx_import.proofs.Standings.{added_one, marked_one, one_has}
use Rattle.gx_import.proofs.blob.apply_blob.Goals as goal

pub returns-in_err-name-clause-steps : goal.returns-in_err-name-clause-steps
returns-in_err-name-clause-steps g c = λ s h.
    let name = g.N.Namer.name_of c.args.repo.now.0 in
    let p = err_from_is_err_and c.from_residual.result c.from_residual.ensures.1 in
    let rs = c.args.repo.now.1.records in
    let v = blob_value c.args.blob.bytes.items in
    rw (p.1, p.2) (blob_refused name (c.puts_add_values.ensures name (g.met.N.Namer.is_namer c.args.repo.now.0)) c.args.repo.now.1 c.sound.ensures c.add_blob_owned.new.self.1.records c.args.blob.bytes.items {X = Unit {0}} {Y = State} (λ t x. Follows name c.add_blob_owned.new.self.1 c.args.tables.now s t) (Ok (marked c.args.blob.mark v (added v s))) c.in_err-name.field-0.0 c.in_err-name.ensures.adds)

pub returns-clause-steps : goal.returns-clause-steps
returns-clause-steps g c = λ s h.
    let name = g.N.Namer.name_of c.args.repo.now.0 in
    let v = blob_value c.args.blob.bytes.items in (
      _,
      refl,
      marked_follows name c.add_blob_owned.new.self.1 _ s c.args.blob.mark v
          (marked_one name c.add_blob_owned.new.self.1 c.args.tables.now c.set.new.self (added v s) (added_one name c.args.repo.now.1 c.add_blob_owned.new.self.1 c.args.tables.now s h v refl c.in_ok-name.ensures.history) v _
          (record { stands = one_has s.history.values v; kind = refl; named = c.in_ok-name.ensures.value }) c.args.blob.mark c.in_ok-set.ensures.sets),
    )

pub returns-in_err-set-clause-steps : goal.returns-in_err-set-clause-steps
returns-in_err-set-clause-steps g c = λ s h.
    let p = err_from_is_err_and c.from_residual-in_err-set.result c.from_residual-in_err-set.ensures.1 in
    rw (p.1, p.2) tt

pub returns-in_err-name-clause-hidden : goal.returns-in_err-name-clause-hidden
returns-in_err-name-clause-hidden g c =
    let p = err_from_is_err_and c.from_residual.result c.from_residual.ensures.1 in
    rw (p.1, p.2) (blob_hidden (Unit {0}) g.N.Namer.name_of c.args.repo.now c.args.blob c.in_err-name.field-0.0 c.in_err-name.ensures.unhidden)

pub returns-in_err-set-clause-hidden : goal.returns-in_err-set-clause-hidden
returns-in_err-set-clause-hidden g c =
    let p = err_from_is_err_and c.from_residual-in_err-set.result c.from_residual-in_err-set.ensures.1 in
    rw (p.1, p.2) (put_known c.args.repo.now.1.records _ _ c.in_ok-name.ensures.adds.1, λ unmarked. absurd (false≢true (c.in_err-set.ensures.unmarked unmarked)))
