use Rattle.std.proofs.Common.{Err, Ok, subst, sym}
use Rattle.std.proofs.lemmas.Result.{err_from_is_err_and}
use Rattle.gx_model.specs.Faults.{◌>>=◌}
use Rattle.gx_model.specs.Records.HistoryOf.{history_of}
use Rattle.gx_text.specs.Lent.{lent_texts}
use Rattle.gx_told.specs.Answering.{IsTold}
use Rattle.gx_told.specs.Differing.{differing_words}
use Rattle.gx_told.specs.declared.fault.ToldFault.TheVariants.{OutOfMemory}
use Rattle.gx_told.proofs.Prints.{none_printed}
use Rattle.gx_told.proofs.Tellings.{each_told}
use Rattle.gx_told.proofs.ToldDifferences.{some_given}
use Rattle.gx_told.proofs.telling.tell.Goals as goal

pub returns-in_err-asked-in-Diff : goal.returns-in_err-asked-in-Diff
returns-in_err-asked-in-Diff g c =
    let p = err_from_is_err_and c.from_residual.result c.from_residual.ensures.1 in
    let told = g.O.Objects.told c.args.objects.now in
    let name = g.O.Objects.name_of c.args.objects.now in
    let was = g.W.Sink.taken c.args.sink.now in
    let asked = c.in-Diff in
    rw (p.1, p.2) (each_told told _ (λ r.
    subst (λ q. IsTold name q r was was (Err OutOfMemory)) (sym asked.is)
    (let given = differing_words name (history_of r) asked.old.now asked.new.now (lent_texts asked.paths.items) in
    let t = some_given r asked.options given in
    (t.0, t.1, none_printed (given >>= λ ss. Ok t.0) was))))
