use Rattle.std.proofs.Common.{◌≡◌, ◌<◌, ℕ, [], ◌∷◌, ap, arith, false, length, length-append, subst, sym, true, ◌∙◌}
use Rattle.gx_object.specs.declared.name.Name.{Name}
use Rattle.gx_ranges.specs.Fronts.{AreBelow}
use Rattle.gx_ranges.proofs.Tips.{all_last, below_inserted, nothing_left}
use Rattle.gx_ref_filters.proofs.Stepping.{all_taken, none_taken, one_taken, start_tips}
use Rattle.gx_ref_filters.proofs.steps.step_down.Goals as goal

pub add_parents-requires-clause-tips : goal.add_parents-requires-clause-tips
add_parents-requires-clause-tips g c =
    let o = c.args.objects.now in
    start_tips (g.O.Objects.stands o) (g.O.Objects.told o) c.new-parents.result.entries c.new-parents.ensures.empty

pub loop-there-init : goal.loop-there-init
loop-there-init g c =
    let o = c.args.objects.now in
    let empty = c.new-parents.ensures.empty in
    record {
      taking = none_taken (g.O.Objects.stands o) (c.args.last, c.args.commit.now) c.args.front.now.entries c.args.steps.now.items (g.O.Objects.told o) c.new-parents.result.entries c.add_parents.new.front.entries empty c.requires.tips c.in_ok-add_parents.ensures.adds;
      left = c.in_ok-add_parents.ensures.below (subst (AreBelow c.args.last) (sym empty) tt);
      below = λ h. h;
    }

pub loop-there-preserved : goal.loop-there-preserved
loop-there-preserved g c =
    let o = c.args.objects.now in
    let s = c.sound_if_told.ensures in
    let l = c.loop-there in
    let rest = c.pop_last.new.self.entries in
    let parent : ℕ × Name = (c.in-Some.there, c.in-Some.parent) in
    let low = all_last (λ tip. tip.0 < c.args.last) rest parent (subst (AreBelow c.args.last) c.in-Some.ensures.removal l.invariant.left) in
    let put = c.in_ok-insert.ensures.entries in
    record {
      taking = one_taken (g.O.Objects.stands o) (c.args.last, c.args.commit.now) c.args.front.now.entries c.args.steps.now.items (g.O.Objects.name_of o) s.namer c.in-Some.there c.in-Some.parent l.parents.entries rest l.front.entries c.insert.new.self.entries
          l.steps.items c.push.new.self.items c.in-Some.ensures.removal c.in_ok-push.ensures.items put (g.O.Objects.told o) s.sound s.order c.requires.tip l.invariant.taking;
      left = low.0;
      below = λ h. subst (AreBelow c.args.last) (sym put) (below_inserted c.args.last c.in-Some.there c.in-Some.parent l.front.entries low.1 (l.invariant.below h));
    }

pub loop-there-smaller : goal.loop-there-smaller
loop-there-smaller g c =
    let rest = c.pop_last.new.self.entries in
    let parent : ℕ × Name = (c.in-Some.there, c.in-Some.parent) in
    let long = ap length c.in-Some.ensures.removal ∙ length-append rest (parent ∷ []) in
    omega (arith, long)

pub returns-clause-below : goal.returns-clause-below
returns-clause-below g c = c.loop-there.invariant.below

pub returns-clause-steps : goal.returns-clause-steps
returns-clause-steps g c =
    let o = c.args.objects.now in
    let s = c.sound_if_told.ensures in
    let l = c.loop-there in
    let none : l.parents.entries ≡ [] = nothing_left l.parents.entries (λ m. let f : false ≡ true = c.in_default.ensures.variant.1 m in cc f) in
    all_taken (g.O.Objects.stands o) (c.args.last, c.args.commit.now) c.args.front.now.entries c.args.steps.now.items (g.O.Objects.name_of o) s.namer (g.O.Objects.told o) l.parents.entries l.front.entries l.steps.items none s.sound s.order c.requires.tip l.invariant.taking
