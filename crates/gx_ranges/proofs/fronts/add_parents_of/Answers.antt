use Rattle.std.proofs.Common.{◌≡◌, ◌+◌, ◌≤◌, ap, arith, length, subst, sym}
use Rattle.std.specs.Prelude.{IfSome}
use Rattle.gx_ranges.specs.Fronts.{AreBelow}
use Rattle.gx_ranges.proofs.Reached.{first_reach}
use Rattle.gx_ranges.proofs.Steps.{AddsFirst, adds_all, adds_next, adds_no_more, adds_none, adds_tips, parent_is_before, parent_is_held}
use Rattle.gx_rev.specs.Objects.{parents_at}
use Rattle.gx_ranges.proofs.fronts.add_parents_of.Goals as goal
use Rattle.gx_ranges.proofs.fronts.add_parents_of.Goals.{in-Some+in_ok-add_below, in_default}

pub loop-number-init : goal.loop-number-init
loop-number-init g c =
    let o = c.args.objects.now in
    record {
      adds = adds_none (g.O.Objects.name_of o) c.sound_if_told.ensures.namer (g.O.Objects.stands o) (g.O.Objects.told o) c.args.commit.now c.args.front.now.entries c.requires.tips;
      below = λ h. h;
    }

pub add_below-requires-clause-tips : goal.add_below-requires-clause-tips
add_below-requires-clause-tips g c =
    let o = c.args.objects.now in
    adds_tips (g.O.Objects.name_of o) c.sound_if_told.ensures.namer (g.O.Objects.stands o) (g.O.Objects.told o) (λ r. first_reach (parents_at r c.args.commit.now) c.loop-number.number) c.args.front.now.entries c.loop-number.front.entries c.loop-number.invariant.adds

pub add_below-requires-clause-held : goal.add_below-requires-clause-held
add_below-requires-clause-held g c =
    let o = c.args.objects.now in
    let s = c.sound_if_told.ensures in
    parent_is_held (g.O.Objects.name_of o) s.namer (g.O.Objects.stands o) c.args.commit.now c.in-Some.parent c.args.place c.loop-number.number c.args.view.now c.in-Some.ensures (g.O.Objects.told o) s.sound c.requires.tip c.requires.parts

pub add_below-requires-clause-before : goal.add_below-requires-clause-before
add_below-requires-clause-before g c =
    let o = c.args.objects.now in
    let s = c.sound_if_told.ensures in
    parent_is_before (g.O.Objects.name_of o) s.namer (g.O.Objects.stands o) c.args.commit.now c.in-Some.parent c.args.place c.loop-number.number c.args.view.now c.in-Some.ensures (g.O.Objects.told o) s.sound s.order c.requires.tip c.requires.parts

pub loop-number-preserved : goal.loop-number-preserved
loop-number-preserved g c =
    let o = c.args.objects.now in
    let s = c.sound_if_told.ensures in
    let stands = g.O.Objects.stands o in
    let told = g.O.Objects.told o in
    let commit = c.args.commit.now in
    let n = c.loop-number.number in
    let old = c.args.front.now.entries in
    let now = c.loop-number.front.entries in
    elim c.match-parent.branch [
      | in-Some+in_ok-add_below w ↦
          let new = w.add_below.new.front.entries in
          let same : c.match-parent.front.entries ≡ new = ap (λ s. s.entries) w.front-is in
          record {
            adds = subst (λ xs. IfSome told (AddsFirst stands (n + 1) commit old xs)) (sym same)
                (adds_next (g.O.Objects.name_of o) s.namer stands commit w.in-Some.parent c.args.place n c.args.view.now w.in-Some.ensures told old now new s.sound c.requires.tip c.requires.parts w.in_ok-add_below.ensures.adds c.loop-number.invariant.adds);
            below = λ h. subst (AreBelow c.args.place) (sym same) (w.in_ok-add_below.ensures.below (c.loop-number.invariant.below h));
          }
      | in_default w ↦
          let same : c.match-parent.front.entries ≡ now = ap (λ s. s.entries) w.front-is in
          record {
            adds = subst (λ xs. IfSome told (AddsFirst stands (n + 1) commit old xs)) (sym same)
                (adds_no_more (g.O.Objects.name_of o) s.namer stands commit c.args.place n c.args.view.now w.in_default.ensures told old now s.sound c.requires.tip c.requires.parts c.loop-number.invariant.adds);
            below = λ h. subst (AreBelow c.args.place) (sym same) (c.loop-number.invariant.below h);
          }
    ]

pub returns-clause-below : goal.returns-clause-below
returns-clause-below g c = c.loop-number.invariant.below

pub returns-clause-adds : goal.returns-clause-adds
returns-clause-adds g c =
    let o = c.args.objects.now in
    let all : length c.args.view.now.parents ≤ c.loop-number.number = omega (arith, c.parent_count-number-end.ensures) in
    adds_all (g.O.Objects.name_of o) c.sound_if_told.ensures.namer (g.O.Objects.stands o) c.args.commit.now c.loop-number.number c.args.view.now all (g.O.Objects.told o) c.args.front.now.entries c.loop-number.front.entries c.requires.parts c.loop-number.invariant.adds
