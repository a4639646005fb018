use Rattle.std.proofs.Common.{true, false, refl, ap, sym, ◌∙◌, map, drop_of_length-le}
use Rattle.gx_repo.specs.Refs.{are_held, shown_update}
use Rattle.gx_repo.proofs.NamedRefs.{next_is_held}
use Rattle.gx_repo.proofs.ref_list.RefList.are_held.Goals as goal

pub loop-change-init : goal.loop-change-init
loop-change-init g c = refl

pub loop-change-preserved : goal.loop-change-preserved
loop-change-preserved g c =
    sym (next_is_held c.args.self.now c.args.changes.now c.loop-change.change-index _ true c.loop-change-test.true (sym c.is_held.ensures ∙ c.if-not-is_held.false)) ∙ c.loop-change.invariant

pub returns-then-not-is_held : goal.returns-then-not-is_held
returns-then-not-is_held g c =
    sym (next_is_held c.args.self.now c.args.changes.now c.loop-change.change-index _ false c.loop-change-test.true (sym c.is_held.ensures ∙ c.if-not-is_held.true)) ∙ c.loop-change.invariant

pub returns : goal.returns
returns g c =
    sym (ap (λ cs. are_held c.args.self.now (map shown_update cs)) (drop_of_length-le c.args.changes.now c.loop-change-test.false)) ∙ c.loop-change.invariant
