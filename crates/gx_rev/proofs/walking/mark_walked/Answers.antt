use Rattle.gx_model.specs.Laws.RangeLaws.{is_excluded}
use Rattle.gx_rev.specs.Walking.{is_included}
use Rattle.gx_rev.proofs.walking.mark_walked.Goals as goal

pub spread_by-requires-clause-tips : goal.spread_by-requires-clause-tips
spread_by-requires-clause-tips g c = let w = c.in_ok-mark_words.ensures.tips in (is_included w.0, w.2)

pub spread_by-requires-2-clause-tips : goal.spread_by-requires-2-clause-tips
spread_by-requires-2-clause-tips g c = let w = c.in_ok-mark_words.ensures.tips in (is_excluded w.0, w.3)

pub returns : goal.returns
returns g c =
    let w = c.in_ok-mark_words.ensures.tips in
    (w.0, w.1, c.in_ok-spread_by.ensures.spread (is_included w.0) w.2, c.in_ok-spread_by-2.ensures.spread (is_excluded w.0) w.3)
