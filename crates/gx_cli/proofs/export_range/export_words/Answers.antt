use Rattle.std.proofs.Common.{map}
use Rattle.std.proofs.lemmas.Result.{err_from_is_err_and}
use Rattle.gx_rev.specs.Views.{shown_range}
use Rattle.gx_text.specs.Lent.{lent_texts}
use Rattle.gx_cli.proofs.SentRanges.{range_refused, range_sent, range_stopped, range_unread}
use Rattle.gx_cli.proofs.export_range.export_words.Goals as goal

pub returns-in_err-ranges : goal.returns-in_err-ranges
returns-in_err-ranges g c =
    let p = err_from_is_err_and c.from_residual.result c.from_residual.ensures.1 in
    rw (p.1, p.2) (range_unread (g.N.Namer.name_of c.args.repo.now.0) c.args.done c.args.repo.now.1 (lent_texts c.args.words.now) (g.W.Sink.taken c.args.sink.now) c.in_err-ranges.field-0.0 c.in_err-ranges.ensures)

pub returns-in-Ok : goal.returns-in-Ok
returns-in-Ok g c =
    range_sent (g.N.Namer.name_of c.args.repo.now.0) c.args.done c.args.repo.now.1 (lent_texts c.args.words.now) (map shown_range c.in_ok-ranges.ranges.items) c.in_ok-ranges.ensures
    (g.W.Sink.taken c.args.sink.now) (g.W.Sink.taken c.export_range.new.sink) tt (rw c.as_slice.ensures.value at c.in-Ok.ensures.range)

pub returns-in-Err-Walk : goal.returns-in-Err-Walk
returns-in-Err-Walk g c =
    rw c.refused.ensures (range_refused (g.N.Namer.name_of c.args.repo.now.0) c.args.done c.args.repo.now.1 (lent_texts c.args.words.now) (map shown_range c.in_ok-ranges.ranges.items) c.in_ok-ranges.ensures
    (g.W.Sink.taken c.args.sink.now) (g.W.Sink.taken c.export_range.new.sink) c.in-Err-Walk.fault.word c.in-Err-Walk.fault.kind (rw c.as_slice.ensures.value at (rw c.in-Err-Walk.field-0-is at c.in-Err-Walk.ensures.range)))

pub returns : goal.returns
returns g c =
    range_stopped (g.N.Namer.name_of c.args.repo.now.0) c.args.done c.args.repo.now.1 (lent_texts c.args.words.now) (map shown_range c.in_ok-ranges.ranges.items) c.in_ok-ranges.ensures
    (g.W.Sink.taken c.args.sink.now) (g.W.Sink.taken c.export_range.new.sink) c.in-Err-Export.fault (rw c.as_slice.ensures.value at (rw c.in-Err-Export.field-0-is at c.in-Err-Export.ensures.range))
