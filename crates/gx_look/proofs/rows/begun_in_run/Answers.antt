use Rattle.std.proofs.Common.{sym, ◌∙◌}
use Rattle.gx_look.proofs.RowsBetween.{run_empty, run_next_out, run_one, run_out, run_two}
use Rattle.gx_look.proofs.rows.begun_in_run.Goals as goal

pub returns-in_default : goal.returns-in_default
returns-in_default g c = run_empty c.args.run.now c.args.ends.now c.in_ok-front.front (g.S.ReadAt.text c.args.source.now) c.in_ok-front.ensures c.in_default.is

pub returns-then-not-is_between : goal.returns-then-not-is_between
returns-then-not-is_between g c = run_out c.args.run.now c.args.ends.now c.in_ok-front.front (g.S.ReadAt.text c.args.source.now) c.in-Some.first c.in_ok-front.ensures c.in-Some.is (sym c.is_between.ensures ∙ c.if-not-is_between.true)

pub returns-in_default-second : goal.returns-in_default-second
returns-in_default-second g c = run_one c.args.run.now c.args.ends.now c.in_ok-front.front (g.S.ReadAt.text c.args.source.now) c.in-Some.first c.in_ok-front.ensures c.in-Some.is (sym c.is_between.ensures ∙ c.if-not-is_between.false) c.in_default-second.is

pub returns-then-is_between : goal.returns-then-is_between
returns-then-is_between g c =
    run_two c.args.run.now c.args.ends.now c.in_ok-front.front (g.S.ReadAt.text c.args.source.now) c.in-Some.first c.in-Some-second.second c.in_ok-front.ensures c.in-Some.is (sym c.is_between.ensures ∙ c.if-not-is_between.false) c.in-Some-second.is (sym c.is_between-2.ensures ∙ c.if-is_between.true)

pub returns-else-is_between : goal.returns-else-is_between
returns-else-is_between g c =
    run_next_out c.args.run.now c.args.ends.now c.in_ok-front.front (g.S.ReadAt.text c.args.source.now) c.in-Some.first c.in-Some-second.second c.in_ok-front.ensures c.in-Some.is (sym c.is_between.ensures ∙ c.if-not-is_between.false) c.in-Some-second.is (sym c.is_between-2.ensures ∙ c.if-is_between.false)
