use Rattle.std.proofs.Common.{map, Err}
use Rattle.std.proofs.lemmas.Result.{err_from_is_err_and}
use Rattle.gx_model.specs.Records.Publishing.{with_changes}
use Rattle.gx_repo.specs.Refs.{shown_update}
use Rattle.gx_file.proofs.SetRefs.{are_set, not_set}
use Rattle.gx_file.proofs.WantingRefs.{are_fine, wants_all, wants_behind, were_fine}
use Rattle.gx_file.proofs.refs.read_refs.Goals as goal

pub returns-clause-refs : goal.returns-clause-refs
returns-clause-refs g c =
    rw c.refs_fault.ensures (not_set c.args.repo.now.1 c.requires.none c.args.count c.args.text.now (map shown_update c.gather-gathered.new.changes.items) c.gather-gathered.result
    c.in-Err.fault c.gather-gathered.ensures.refs (rw c.as_slice.ensures.value at c.in-Err.ensures.refs))

pub returns-in-Ok-clause-refs : goal.returns-in-Ok-clause-refs
returns-in-Ok-clause-refs g c =
    are_set c.args.repo.now.1 c.requires.none c.args.count c.args.text.now (map shown_update c.gather-gathered.new.changes.items) c.gather-gathered.result
    c.publish.new.self.1.refs c.gather-gathered.ensures.refs (rw c.as_slice.ensures.value at c.in-Ok.ensures.refs)

pub returns-in-Ok-clause-memory : goal.returns-in-Ok-clause-memory
returns-in-Ok-clause-memory g c =
    let r = c.args.repo.now.1 in
    let refs = map shown_update c.gather-gathered.new.changes.items in
    wants_behind r c.args.count c.args.text.now refs (were_fine r refs c.publish.new.self.1.refs (rw c.as_slice.ensures.value at c.in-Ok.ensures.refs)) c.gather-gathered.result c.gather-gathered.ensures.memory

pub returns-in_err-_rest-in-Err-OutOfMemory-clause-refs : goal.returns-in_err-_rest-in-Err-OutOfMemory-clause-refs
returns-in_err-_rest-in-Err-OutOfMemory-clause-refs g c =
    let p = err_from_is_err_and c.from_residual.result c.from_residual.ensures.1 in
    let r = c.args.repo.now.1 in
    let refs = map shown_update c.gather-gathered.new.changes.items in
    let fine = (rw c.as_slice.ensures.value at (rw c.in-Err-OutOfMemory.field-0-is at c.in-Err-OutOfMemory.ensures.unhidden)).0 in
    rw (p.1, p.2) (are_set r c.requires.none c.args.count c.args.text.now refs (Err c.in_err-_rest-in-Err-OutOfMemory.field-0.0) (with_changes r.refs refs) c.in_err-_rest-in-Err-OutOfMemory.ensures.refs (are_fine r refs fine))

pub returns-in_err-_rest-in-Err-OutOfMemory-clause-memory : goal.returns-in_err-_rest-in-Err-OutOfMemory-clause-memory
returns-in_err-_rest-in-Err-OutOfMemory-clause-memory g c =
    let p = err_from_is_err_and c.from_residual.result c.from_residual.ensures.1 in
    let r = c.args.repo.now.1 in
    let refs = map shown_update c.gather-gathered.new.changes.items in
    let fine = (rw c.as_slice.ensures.value at (rw c.in-Err-OutOfMemory.field-0-is at c.in-Err-OutOfMemory.ensures.unhidden)).0 in
    rw (p.1, p.2) (wants_behind r c.args.count c.args.text.now refs fine (Err c.in_err-_rest-in-Err-OutOfMemory.field-0.0) c.in_err-_rest-in-Err-OutOfMemory.ensures.memory)

pub returns-in-Err-OutOfMemory-clause-memory : goal.returns-in-Err-OutOfMemory-clause-memory
returns-in-Err-OutOfMemory-clause-memory g c = λ w.
    let r = c.args.repo.now.1 in
    let refs = map shown_update c.gather-gathered.new.changes.items in
    let fine = (rw c.as_slice.ensures.value at (rw c.in-Err-OutOfMemory.field-0-is at c.in-Err-OutOfMemory.ensures.unhidden)).0 in
    wants_all r c.args.count c.args.text.now refs fine c.in_ok-_rest-in-Err-OutOfMemory._rest c.in_ok-_rest-in-Err-OutOfMemory.ensures.refs
