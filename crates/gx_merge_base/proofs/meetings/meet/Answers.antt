use Rattle.std.proofs.Common.{◌≡◌, ℕ, ◌≤◌, suc, ap, arith, subst, ◌∙◌}
use Rattle.std.proofs.lemmas.List.Elements.{recursion_from_All}
use Rattle.std.specs.BTreeMap.Range.{IsLtBy}
use Rattle.std.specs.Map.{keys_of}
use Rattle.std.specs.Ordering.{nat_cmp}
use Rattle.std.specs.Prelude.{IfSome}
use Rattle.gx_object.specs.declared.name.Name.{Name}
use Rattle.gx_ranges.specs.Fronts.{AreBelow, IsLast, LeadsToPlace, behind_last}
use Rattle.gx_ranges.proofs.Steps.{last_is_tip, rest_are_tips}
use Rattle.gx_ranges.proofs.Tips.{behind_below, behind_end, below_keys}
use Rattle.gx_merge_base.proofs.MetWalks.{begins, later, leaves, left_tips_of, there}
use Rattle.gx_merge_base.proofs.meetings.meet.Goals as goal

pub loop-lefts-init : goal.loop-lefts-init
loop-lefts-init g c =
    let o = c.args.objects.now in
    begins (g.O.Objects.stands o) c.args.lefts.now.entries c.args.rights.now.entries (g.O.Objects.told o) c.new-common.result.entries c.new-met.result.entries c.new-common.ensures.empty c.new-met.ensures.empty c.requires.lefts c.requires.rights

pub add_parents-requires-clause-tips : goal.add_parents-requires-clause-tips
add_parents-requires-clause-tips g c =
    let o = c.args.objects.now in
    let stands = g.O.Objects.stands o in
    let told = g.O.Objects.told o in
    let now = c.loop-lefts in
    rest_are_tips (g.O.Objects.name_of o) c.sound_if_told.ensures.namer stands told now.lefts.entries c.pop_last.new.self.entries (c.in-Some.place, c.in-Some.commit) c.in-Some.ensures.removal
    (left_tips_of stands c.args.lefts.now.entries c.args.rights.now.entries told now.lefts.entries now.rights.entries now.common.entries now.met.entries now.invariant)

pub add_parents-requires-clause-tip : goal.add_parents-requires-clause-tip
add_parents-requires-clause-tip g c =
    let o = c.args.objects.now in
    let stands = g.O.Objects.stands o in
    let told = g.O.Objects.told o in
    let now = c.loop-lefts in
    last_is_tip (g.O.Objects.name_of o) c.sound_if_told.ensures.namer stands told now.lefts.entries c.pop_last.new.self.entries (c.in-Some.place, c.in-Some.commit) c.in-Some.ensures.removal
    (left_tips_of stands c.args.lefts.now.entries c.args.rights.now.entries told now.lefts.entries now.rights.entries now.common.entries now.met.entries now.invariant)

pub loop-lefts-smaller-then-not-branch : goal.loop-lefts-smaller-then-not-branch
loop-lefts-smaller-then-not-branch g c =
    let rest = c.pop_last.new.self.entries in
    let last : ℕ × Name = (c.in-Some.place, c.in-Some.commit) in
    let new = c.add_parents.new.front.entries in
    let low : AreBelow c.in-Some.place rest = below_keys c.in-Some.place rest (recursion_from_All (λ q. IsLtBy nat_cmp q c.in-Some.place) (keys_of rest) c.in-Some.ensures.all_below) in
    let was : behind_last c.loop-lefts.lefts.entries ≡ suc c.in-Some.place = ap behind_last c.in-Some.ensures.removal ∙ behind_end rest last in
    let now : behind_last new ≤ c.in-Some.place = behind_below c.in-Some.place new (c.in_ok-add_parents.ensures.below low) in
    omega (arith, was, now)

pub loop-lefts-smaller-then-branch : goal.loop-lefts-smaller-then-branch
loop-lefts-smaller-then-branch g c =
    let rest = c.pop_last.new.self.entries in
    let last : ℕ × Name = (c.in-Some.place, c.in-Some.commit) in
    let low : AreBelow c.in-Some.place rest = below_keys c.in-Some.place rest (recursion_from_All (λ q. IsLtBy nat_cmp q c.in-Some.place) (keys_of rest) c.in-Some.ensures.all_below) in
    let was : behind_last c.loop-lefts.lefts.entries ≡ suc c.in-Some.place = ap behind_last c.in-Some.ensures.removal ∙ behind_end rest last in
    let now : behind_last rest ≤ c.in-Some.place = behind_below c.in-Some.place rest low in
    omega (arith, was, now)

pub loop-lefts-smaller : goal.loop-lefts-smaller
loop-lefts-smaller g c =
    let rest = c.pop_last.new.self.entries in
    let last : ℕ × Name = (c.in-Some.place, c.in-Some.commit) in
    let low : AreBelow c.in-Some.place rest = below_keys c.in-Some.place rest (recursion_from_All (λ q. IsLtBy nat_cmp q c.in-Some.place) (keys_of rest) c.in-Some.ensures.all_below) in
    let was : behind_last c.loop-lefts.lefts.entries ≡ suc c.in-Some.place = ap behind_last c.in-Some.ensures.removal ∙ behind_end rest last in
    let now : behind_last rest ≤ c.in-Some.place = behind_below c.in-Some.place rest low in
    omega (arith, was, now)

pub loop-lefts-preserved-then-branch : goal.loop-lefts-preserved-then-branch
loop-lefts-preserved-then-branch g c =
    let o = c.args.objects.now in
    let s = c.sound_if_told.ensures in
    let stands = g.O.Objects.stands o in
    let told = g.O.Objects.told o in
    let now = c.loop-lefts in
    let rest = c.pop_last.new.self.entries in
    let last : ℕ × Name = (c.in-Some.place, c.in-Some.commit) in
    let low : AreBelow c.in-Some.place rest = below_keys c.in-Some.place rest (recursion_from_All (λ q. IsLtBy nat_cmp q c.in-Some.place) (keys_of rest) c.in-Some.ensures.all_below) in
    let was : IsLast now.lefts.entries rest last = (c.in-Some.ensures.removal, low) in
    let reached = subst (λ b. IfSome told (λ r. LeadsToPlace stands c.in-Some.place now.met.entries r b)) c.if-branch.true c.in_ok-is_reached.ensures.answer in
    leaves (g.O.Objects.name_of o) s.namer stands c.args.lefts.now.entries c.args.rights.now.entries now.lefts.entries rest now.rights.entries now.common.entries now.met.entries c.is_reached.new.front.entries last was
    told s.sound s.order now.invariant c.in_ok-is_reached.ensures.down reached

pub loop-lefts-preserved-then-not-branch : goal.loop-lefts-preserved-then-not-branch
loop-lefts-preserved-then-not-branch g c =
    let o = c.args.objects.now in
    let s = c.sound_if_told.ensures in
    let stands = g.O.Objects.stands o in
    let told = g.O.Objects.told o in
    let now = c.loop-lefts in
    let rest = c.pop_last.new.self.entries in
    let last : ℕ × Name = (c.in-Some.place, c.in-Some.commit) in
    let low : AreBelow c.in-Some.place rest = below_keys c.in-Some.place rest (recursion_from_All (λ q. IsLtBy nat_cmp q c.in-Some.place) (keys_of rest) c.in-Some.ensures.all_below) in
    let was : IsLast now.lefts.entries rest last = (c.in-Some.ensures.removal, low) in
    let alone = subst (λ b. IfSome told (λ r. LeadsToPlace stands c.in-Some.place now.rights.entries r b)) c.if-not-branch.true c.in_ok-is_reached-2.ensures.answer in
    later (g.O.Objects.name_of o) s.namer stands c.args.lefts.now.entries c.args.rights.now.entries now.lefts.entries rest now.rights.entries now.common.entries now.met.entries c.is_reached.new.front.entries last was
    c.is_reached-in-loop-lefts.new.front.entries told c.add_parents.new.front.entries s.sound s.order now.invariant c.in_ok-is_reached.ensures.down c.in_ok-is_reached-2.ensures.down alone c.in_ok-add_parents.ensures.adds

pub loop-lefts-preserved : goal.loop-lefts-preserved
loop-lefts-preserved g c =
    let o = c.args.objects.now in
    let s = c.sound_if_told.ensures in
    let stands = g.O.Objects.stands o in
    let told = g.O.Objects.told o in
    let now = c.loop-lefts in
    let rest = c.pop_last.new.self.entries in
    let last : ℕ × Name = (c.in-Some.place, c.in-Some.commit) in
    let low : AreBelow c.in-Some.place rest = below_keys c.in-Some.place rest (recursion_from_All (λ q. IsLtBy nat_cmp q c.in-Some.place) (keys_of rest) c.in-Some.ensures.all_below) in
    let was : IsLast now.lefts.entries rest last = (c.in-Some.ensures.removal, low) in
    let reached = subst (λ b. IfSome told (λ r. LeadsToPlace stands c.in-Some.place now.rights.entries r b)) c.if-not-branch.false c.in_ok-is_reached-2.ensures.answer in
    there (g.O.Objects.name_of o) s.namer stands c.args.lefts.now.entries c.args.rights.now.entries now.lefts.entries rest now.rights.entries now.common.entries now.met.entries c.is_reached.new.front.entries last was
    c.is_reached-in-loop-lefts.new.front.entries told c.remove.new.self.entries c.insert.new.self.entries c.insert-in-loop-lefts.new.self.entries c.remove.ensures.entries c.in_ok-insert.ensures.entries c.in_ok-insert-2.ensures.entries s.sound s.order now.invariant
    c.in_ok-is_reached.ensures.down c.in_ok-is_reached-2.ensures.down reached
