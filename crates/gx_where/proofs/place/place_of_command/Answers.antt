use Rattle.std.proofs.Common.{◌-◌, Ok, Some, None, inr, arith}
use Rattle.std.proofs.lemmas.Result.{err_from_is_err_and}
use Rattle.gx_command.proofs.BehindCommands.{are_behind}
use Rattle.gx_where.proofs.ToldPlaces.{told, is_why, begins}
use Rattle.gx_where.proofs.place.place_of_command.Goals as goal

pub returns-in_err-left-clause-why : goal.returns-in_err-left-clause-why
returns-in_err-left-clause-why g c =
    let p = err_from_is_err_and c.from_residual.result c.from_residual.ensures.1 in
    rw (p.1, p.2) (is_why _ (omega (arith, c.if-text-gt-LIMIT.false)) _ c.new-source.ensures.coming _ _ (omega (arith, c.if-command-eq0.false)) c.in_err-left.ensures)

pub overflow_sub-count_items : goal.overflow_sub-count_items
overflow_sub-count_items g c =
    let left = told c.args.text.now (omega (arith, c.if-text-gt-LIMIT.false)) _ c.new-source.ensures.coming (c.args.command - 1) (Ok (Some c.in-Some.left)) (rw c.in-Some.is at c.in_ok-left.ensures) in
    omega (arith, left.0, c.count_items.ensures)

pub returns-in-Some-clause-begins : goal.returns-in-Some-clause-begins
returns-in-Some-clause-begins g c =
    let left = told c.args.text.now (omega (arith, c.if-text-gt-LIMIT.false)) _ c.new-source.ensures.coming (c.args.command - 1) (Ok (Some c.in-Some.left)) (rw c.in-Some.is at c.in_ok-left.ensures) in
    begins _ _ _ _ _ _ left c.count_items.ensures c.rest_behind.ensures.items c.place_of_rest.ensures.byte

pub returns-in-None-clause-why : goal.returns-in-None-clause-why
returns-in-None-clause-why g c = inr (told c.args.text.now (omega (arith, c.if-text-gt-LIMIT.false)) _ c.new-source.ensures.coming (c.args.command - 1) (Ok None) (rw c.in-None.is at c.in_ok-left.ensures))

pub returns-in-Some-clause-commands : goal.returns-in-Some-clause-commands
returns-in-Some-clause-commands g c =
    let left = told c.args.text.now (omega (arith, c.if-text-gt-LIMIT.false)) _ c.new-source.ensures.coming (c.args.command - 1) (Ok (Some c.in-Some.left)) (rw c.in-Some.is at c.in_ok-left.ensures) in
    are_behind _ _ _ (begins _ _ _ _ _ _ left c.count_items.ensures c.rest_behind.ensures.items c.place_of_rest.ensures.byte)
