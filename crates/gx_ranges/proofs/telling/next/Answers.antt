use Rattle.std.proofs.Common.{◌≡◌, ℕ, ◌≤◌, [], suc, ap, arith, ◌∙◌, subst}
use Rattle.std.proofs.lemmas.List.Elements.{recursion_from_All}
use Rattle.std.specs.BTreeMap.Range.{IsLtBy}
use Rattle.std.specs.Map.{keys_of}
use Rattle.std.specs.Ordering.{nat_cmp}
use Rattle.std.specs.Prelude.{IfSome, true, false}
use Rattle.gx_object.specs.declared.name.Name.{Name}
use Rattle.gx_ranges.specs.Fronts.{AreBelow, IsLast, LeadsToPlace, behind_last}
use Rattle.gx_ranges.proofs.Steps.{down_tips, rest_are_tips}
use Rattle.gx_ranges.proofs.Tellings.{drops_it, finds_it, finds_none, same_walks}
use Rattle.gx_ranges.proofs.Tips.{behind_below, behind_end, below_keys, nothing_left}
use Rattle.gx_ranges.proofs.telling.next.Goals as goal

pub loop-place-init : goal.loop-place-init
loop-place-init g c =
    let o = c.args.objects.now in
    record {
      wanted = c.requires.wanted;
      unwanted = c.requires.unwanted;
      keeps = same_walks (g.O.Objects.stands o) (g.O.Objects.told o) c.args.wanted.now.entries c.args.unwanted.now.entries;
      lower = omega arith;
    }

pub loop-place-preserved : goal.loop-place-preserved
loop-place-preserved g c =
    let o = c.args.objects.now in
    let s = c.sound_if_told.ensures in
    let name = g.O.Objects.name_of o in
    let stands = g.O.Objects.stands o in
    let told = g.O.Objects.told o in
    let now = c.loop-place.wanted.entries in
    let rest = c.pop_last.new.self.entries in
    let last : ℕ × Name = (c.in-Some.place, c.in-Some.commit) in
    let unwanted = c.loop-place.unwanted.entries in
    let new = c.is_reached.new.front.entries in
    let low : AreBelow c.in-Some.place rest = below_keys c.in-Some.place rest (recursion_from_All (λ q. IsLtBy nat_cmp q c.in-Some.place) (keys_of rest) c.in-Some.ensures.all_below) in
    let was : IsLast now rest last = (c.in-Some.ensures.removal, low) in
    let reached = subst (λ b. IfSome told (λ r. LeadsToPlace stands c.in-Some.place unwanted r b)) c.if-not-branch.false c.in_ok-is_reached.ensures.answer in
    record {
      wanted = rest_are_tips name s.namer stands told now rest last c.in-Some.ensures.removal c.loop-place.invariant.wanted;
      unwanted = down_tips name s.namer stands told c.in-Some.place unwanted new c.in_ok-is_reached.ensures.down;
      keeps = drops_it name s.namer stands c.args.wanted.now.entries c.args.unwanted.now.entries now rest unwanted new last was told s.sound s.order c.loop-place.invariant.keeps c.in_ok-is_reached.ensures.down reached;
      lower = (
          let e : behind_last now ≡ suc c.in-Some.place = ap behind_last c.in-Some.ensures.removal ∙ behind_end rest last in
          let l : behind_last rest ≤ c.in-Some.place = behind_below c.in-Some.place rest low in
          omega (arith, e, l, c.loop-place.invariant.lower));
    }

pub loop-place-smaller : goal.loop-place-smaller
loop-place-smaller g c =
    let rest = c.pop_last.new.self.entries in
    let last : ℕ × Name = (c.in-Some.place, c.in-Some.commit) in
    let low : AreBelow c.in-Some.place rest = below_keys c.in-Some.place rest (recursion_from_All (λ q. IsLtBy nat_cmp q c.in-Some.place) (keys_of rest) c.in-Some.ensures.all_below) in
    let e : behind_last c.loop-place.wanted.entries ≡ suc c.in-Some.place = ap behind_last c.in-Some.ensures.removal ∙ behind_end rest last in
    let l : behind_last rest ≤ c.in-Some.place = behind_below c.in-Some.place rest low in
    omega (arith, e, l)

pub returns-then-not-branch-clause-next : goal.returns-then-not-branch-clause-next
returns-then-not-branch-clause-next g c =
    let o = c.args.objects.now in
    let s = c.sound_if_told.ensures in
    let stands = g.O.Objects.stands o in
    let told = g.O.Objects.told o in
    let now = c.loop-place.wanted.entries in
    let rest = c.pop_last.new.self.entries in
    let last : ℕ × Name = (c.in-Some.place, c.in-Some.commit) in
    let unwanted = c.loop-place.unwanted.entries in
    let low : AreBelow c.in-Some.place rest = below_keys c.in-Some.place rest (recursion_from_All (λ q. IsLtBy nat_cmp q c.in-Some.place) (keys_of rest) c.in-Some.ensures.all_below) in
    let was : IsLast now rest last = (c.in-Some.ensures.removal, low) in
    let reached = subst (λ b. IfSome told (λ r. LeadsToPlace stands c.in-Some.place unwanted r b)) c.if-not-branch.true c.in_ok-is_reached.ensures.answer in
    finds_it (g.O.Objects.name_of o) s.namer stands c.args.wanted.now.entries c.args.unwanted.now.entries now rest unwanted c.is_reached.new.front.entries last was told s.sound s.order c.loop-place.invariant.keeps c.in_ok-is_reached.ensures.down reached

pub returns-then-not-branch-clause-last : goal.returns-then-not-branch-clause-last
returns-then-not-branch-clause-last g c =
    let rest = c.pop_last.new.self.entries in
    let last : ℕ × Name = (c.in-Some.place, c.in-Some.commit) in
    let low : AreBelow c.in-Some.place rest = below_keys c.in-Some.place rest (recursion_from_All (λ q. IsLtBy nat_cmp q c.in-Some.place) (keys_of rest) c.in-Some.ensures.all_below) in
    let e : behind_last c.loop-place.wanted.entries ≡ suc c.in-Some.place = ap behind_last c.in-Some.ensures.removal ∙ behind_end rest last in
    let l = c.loop-place.invariant.lower in
    (low, omega (arith, e, l))

pub returns-clause-next : goal.returns-clause-next
returns-clause-next g c =
    let o = c.args.objects.now in
    let s = c.sound_if_told.ensures in
    let now = c.loop-place.wanted.entries in
    let none : now ≡ [] = nothing_left now (λ l. let f : false ≡ true = c.in_default.ensures.variant.1 l in cc f) in
    finds_none (g.O.Objects.name_of o) s.namer (g.O.Objects.stands o) c.args.wanted.now.entries c.args.unwanted.now.entries (g.O.Objects.told o) now c.loop-place.unwanted.entries none s.sound s.order c.loop-place.invariant.keeps
