use Rattle.std.proofs.lemmas.Result.{err_from_is_err_and}
use Rattle.gx_file.proofs.reading.read_store.Goals as goal

pub returns-in_err-read_into-clause-memory : goal.returns-in_err-read_into-clause-memory
returns-in_err-read_into-clause-memory g c =
    let p = err_from_is_err_and c.from_residual.result c.from_residual.ensures.1 in
    rw (p.1, p.2) (rw c.new-repo.ensures at c.in_err-read_into.ensures.memory)
