use Rattle.std.proofs.lemmas.Result.{err_from_is_err_and}
use Rattle.gx_object.specs.Commits.{bytes_of_names}
use Rattle.gx_kept.proofs.MarkedBeyond.{beyond_untold, reached_are}
use Rattle.gx_kept.proofs.beyond.mark_reached.Goals as goal

pub returns-in_err-mark_tips-clause-fault : goal.returns-in_err-mark_tips-clause-fault
returns-in_err-mark_tips-clause-fault g c =
    let p = err_from_is_err_and c.from_residual.result c.from_residual.ensures.1 in
    let o = c.args.objects.now in
    rw p.1 (λ same. beyond_untold (g.O.Objects.name_of o) (g.O.Objects.stands o) c.args.listing.now c.args.refs.now (g.O.Objects.told o) c.sound_if_told.ensures.sound c.requires.listed c.requires.held
    c.in_err-mark_tips.ensures.refused)

pub returns-clause-marks : goal.returns-clause-marks
returns-clause-marks g c =
    let o = c.args.objects.now in
    reached_are (g.O.Objects.name_of o) (g.O.Objects.stands o) c.args.listing.now c.args.refs.now (g.O.Objects.told o) c.sound_if_told.ensures.sound c.requires.listed
    (bytes_of_names c.args.names.now) c.args.marks.now c.mark_tips.new.marks c.mark_names.new.marks c.spread.new.marks c.requires.none c.in_ok-mark_tips.ensures.marks c.mark_names.ensures.marks c.spread.result c.spread.ensures.spreads
