use Rattle.std.proofs.Common.{◌+◌, ◌-◌, take, sym, subst, arith}
use Rattle.gx_stream.specs.Input.{KeepsStream, shown_stream, state_of}
use Rattle.gx_stream.specs.declared.input.State.TheVariants.{Open}
use Rattle.gx_stream.proofs.Arrivals.{items_kept}
use Rattle.gx_stream.proofs.Pieces.{came_behind}
use Rattle.gx_stream.proofs.input.pull_behind.Goals as goal

pub returns-clause-longer : goal.returns-clause-longer
returns-clause-longer g c =
    let came = c.args.came.now in
    let n = c.pull_piece-state.result.1 in
    let piece = c.pull_piece-state.new.piece in
    (take n piece, came_behind c.args.text.now piece came (came + 65536 - came) n (omega (arith, c.requires)) c.pull_piece-state.ensures.within)

pub returns-clause-keeps : goal.returns-clause-keeps
returns-clause-keeps g c =
    let came = c.args.came.now in
    let n = c.pull_piece-state.result.1 in
    let piece = c.pull_piece-state.new.piece in
    let text = take came c.args.text.now in
    let now = came_behind c.args.text.now piece came (came + 65536 - came) n (omega (arith, c.requires)) c.pull_piece-state.ensures.within in
    let was = g.R.Source.coming c.args.source.now in
    let is = g.R.Source.coming c.pull_piece-state.new.source in
    let kept = items_kept c.args.room.now c.pull_piece-state.new.room was is text (take n piece) c.pull_piece-state.result.0 c.pull_piece-state.ensures.keeps in
    rw c.state_of.ensures (subst (λ t. KeepsStream (shown_stream Open c.args.room.now was text) (shown_stream (state_of c.pull_piece-state.result.0) c.pull_piece-state.new.room is t)) (sym now) kept)
