use Rattle.std.proofs.Common.{◌++◌, subst, take}
use Rattle.std.proofs.lemmas.Result.{err_from_is_err_and}
use Rattle.std.specs.Option.{option_map}
use Rattle.gx_stream.specs.Heard.{heard}
use Rattle.gx_stream.specs.Pulled.{shown_coming}
use Rattle.gx_offered.proofs.ReadSources.{IsStill, failed, one_came, unheld}
use Rattle.gx_offered.proofs.source.read_all.Goals as goal

pub returns-in_err-resize : goal.returns-in_err-resize
returns-in_err-resize g c =
    let p = err_from_is_err_and c.from_residual.result c.from_residual.ensures.1 in
    rw (p.1, p.2) (unheld g.row.A.Denot (g.R.Source.coming c.args.source))

pub returns-in_err-extend_from_slice : goal.returns-in_err-extend_from_slice
returns-in_err-extend_from_slice g c =
    let p = err_from_is_err_and c.from_residual-in_err-extend_from_slice.result c.from_residual-in_err-extend_from_slice.ensures.1 in
    rw (p.1, p.2) (unheld g.row.A.Denot (g.R.Source.coming c.args.source))

pub returns-in-Failed : goal.returns-in-Failed
returns-in-Failed g c =
    let coming = g.R.Source.coming c.args.source in
    let was = g.R.Source.coming c.loop-text.source in
    let is = g.R.Source.coming c.pull_piece-state.new.source in
    let room = c.pull_piece-state.new.room in
    let text = c.loop-text.text.items in
    let taken = take c.pull_piece-state.result.1 c.pull_piece-state.new.piece in
    let start = option_map heard coming in
    let still = one_came start c.loop-text.room room was is text taken c.pull_piece-state.result.0 c.pull_piece-state.ensures.keeps c.loop-text.invariant.still in
    failed g.row.A.Denot coming (text ++ taken) (subst (λ s. IsStill start (shown_coming s room is (text ++ taken))) c.in-Failed.is still)
