use Rattle.std.proofs.Common.{sym, ◌∙◌}
use Rattle.gx_repo.proofs.DroppedRefs.{Entered-next, Entered-none}
use Rattle.gx_repo.proofs.dropping.enter_names.Goals as goal

pub loop-place-init : goal.loop-place-init
loop-place-init g c = Entered-none _ _ _ c.requires.none

pub loop-place-preserved : goal.loop-place-preserved
loop-place-preserved g c =
    Entered-next _ c.args.names.now c.loop-place.place _ c.loop-place-test.true c.loop-place.entered c.insert.new.self c.loop-place.invariant
    (sym c.is_held.ensures ∙ c.if-not-is_held.false) (sym c.in-Ok.ensures.added ∙ c.if-not-is_new.false) c.in-Ok.ensures.updates.0
