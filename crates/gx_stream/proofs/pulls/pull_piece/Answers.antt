use Rattle.std.proofs.Common.{◌≡◌, ◌-◌, [], take, true, Some, sym, subst, arith}
use Rattle.gx_stream.specs.Pulled.{Passes, shown_coming}
use Rattle.gx_stream.specs.declared.pulls.SourceState.TheVariants.{Open}
use Rattle.gx_stream.proofs.Arrivals.{pulled_failed, pulled_more, pulled_none, pulled_over}
use Rattle.gx_stream.proofs.pulls.pull_piece.Goals as goal

pub returns-in-Err-clause-keeps : goal.returns-in-Err-clause-keeps
returns-in-Err-clause-keeps g c = pulled_failed _ _ _ _ _ c.in-Err.ensures.bytes

pub returns-in-Ok-eq0-clause-keeps : goal.returns-in-Ok-eq0-clause-keeps
returns-in-Ok-eq0-clause-keeps g c = pulled_none _ _ _ _ _ c.in-Ok-eq0.field-0-test c.in-Ok-eq0.ensures.bytes

pub returns-then-taken-count-clause-keeps : goal.returns-then-taken-count-clause-keeps
returns-then-taken-count-clause-keeps g c =
    let room = c.args.room.now in
    let all : c.min-taken.result ≡ room = omega (arith, c.min-taken.ensures, c.if-taken-count.true) in
    subst (λ k. Passes [] (shown_coming Open room (g.R.Source.coming c.args.source.now) []) (Some (record { bytes = take k c.pull.new.buffer; fails = true }))) (sym all) (pulled_over _ _ _ _ _ (omega (arith, all, c.if-taken-count.true)) c.in-Ok.ensures.bytes)

pub returns-else-taken-count-clause-keeps : goal.returns-else-taken-count-clause-keeps
returns-else-taken-count-clause-keeps g c =
    let room = c.args.room.now in
    let n = c.in-Ok.count in
    let all : c.min-taken.result ≡ n = omega (arith, c.min-taken.ensures, c.if-taken-count.false) in
    subst (λ k. Passes [] (shown_coming Open room (g.R.Source.coming c.args.source.now) []) (shown_coming Open (room - k) (g.R.Source.coming c.pull.new.self) (take k c.pull.new.buffer))) (sym all) (pulled_more room (g.R.Source.coming c.args.source.now) (g.R.Source.coming c.pull.new.self) c.pull.new.buffer n (omega (arith, c.min-taken.ensures, c.if-taken-count.false)) c.in-Ok.ensures.bytes)
