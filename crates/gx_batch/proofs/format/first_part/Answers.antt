use Rattle.std.proofs.Common.{Err, Ok, Some, codes}
use Rattle.std.proofs.lemmas.Bool.Decides.{Decides-eqb}
use Rattle.std.proofs.lemmas.Result.{err_from_is_err_and}
use Rattle.std.proofs.lemmas.Slice.Eq.{strip_prefix_is}
use Rattle.gx_batch.proofs.PlainParts.{named_first}
use Rattle.gx_batch.proofs.format.first_part.Goals as goal

pub returns-in_err-named_part-in-Some : goal.returns-in_err-named_part-in-Some
returns-in_err-named_part-in-Some c =
    let p = err_from_is_err_and c.from_residual.result c.from_residual.ensures.1 in
    let begins = strip_prefix_is Decides-eqb c.args.text.now (codes "%(") (Some c.in-Some.after) c.in-Some.ensures.cases in
    rw (p.1, p.2) (named_first c.args.text.now c.in-Some.after.now (Err c.in_err-named_part-in-Some.field-0.0) begins c.in_err-named_part-in-Some.ensures)

pub returns-in_ok-named_part-in-Some : goal.returns-in_ok-named_part-in-Some
returns-in_ok-named_part-in-Some c =
    let begins = strip_prefix_is Decides-eqb c.args.text.now (codes "%(") (Some c.in-Some.after) c.in-Some.ensures.cases in
    named_first c.args.text.now c.in-Some.after.now (Ok c.in_ok-named_part-in-Some.field-0) begins c.in_ok-named_part-in-Some.ensures
