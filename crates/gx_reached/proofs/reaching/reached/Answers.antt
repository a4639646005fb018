use Rattle.std.proofs.Common.{◌≡◌, ℕ, ◌≤◌, ◌∙◌, [], true, false, suc, ap, arith, inl, subst, sym}
use Rattle.std.specs.List.{AllByRecursion}
use Rattle.gx_reached.specs.Reaching.{AddsAll, AddsLinks, IsStep, behind_last, targets_of, tip_links}
use Rattle.gx_reached.specs.declared.links.Link.{Link}
use Rattle.gx_reached.proofs.Falling.{FallsTo, falls_first, falls_on}
use Rattle.gx_reached.proofs.Fronts.{all_below, behind_below, behind_end, nothing_left, steps_last}
use Rattle.gx_reached.proofs.Leading.{AreLed, led_first, led_on}
use Rattle.gx_reached.proofs.Stepping.{all_visited, told_alone, visits_told, waits_first}
use Rattle.gx_reached.proofs.reaching.reached.Goals as goal

pub loop-place-init : goal.loop-place-init
loop-place-init g c =
    let o = c.args.objects.now in
    let told = g.O.Objects.told o in
    let stands = g.O.Objects.stands o in
    let refs = c.args.refs.now in
    let old = c.new-front.result.entries in
    let front = c.add_tips.new.front.entries in
    let order = c.new-order.result.items in
    let bad = c.add_tips.new.bad in
    let e = c.in_ok-add_tips.ensures in
    record {
      bad = e.bad;
      keeps = e.keeps;
      falls = falls_first order front c.new-order.ensures.items;
      led = led_first (g.O.Objects.name_of o) refs order old front c.new-order.ensures.items c.new-front.ensures.empty e.only;
      steps = told_alone told (λ r. AddsAll r stands (tip_links refs) old front bad) (λ r. AllByRecursion (IsStep r stands) front) (λ r a. a.adds.steps) e.adds;
      visited = waits_first told stands refs order old front bad c.new-order.ensures.items e.adds;
    }

pub add_links-requires-clause-step : goal.add_links-requires-clause-step
add_links-requires-clause-step g c =
    let o = c.args.objects.now in
    let stands = g.O.Objects.stands o in
    let whole = c.loop-place.front.entries in
    let rest = c.pop_last.new.self.entries in
    let k : ℕ × Link = (c.in-Some.place, c.in-Some.link) in
    told_alone (g.O.Objects.told o) (λ r. AllByRecursion (IsStep r stands) whole) (λ r. IsStep r stands k) (λ r s. (steps_last r stands rest k (subst (AllByRecursion (IsStep r stands)) c.in-Some.ensures.removal s)).1) c.loop-place.invariant.steps

pub add_links-requires-clause-steps : goal.add_links-requires-clause-steps
add_links-requires-clause-steps g c =
    let o = c.args.objects.now in
    let stands = g.O.Objects.stands o in
    let whole = c.loop-place.front.entries in
    let rest = c.pop_last.new.self.entries in
    let k : ℕ × Link = (c.in-Some.place, c.in-Some.link) in
    told_alone (g.O.Objects.told o) (λ r. AllByRecursion (IsStep r stands) whole) (λ r. AllByRecursion (IsStep r stands) rest) (λ r s. (steps_last r stands rest k (subst (AllByRecursion (IsStep r stands)) c.in-Some.ensures.removal s)).0) c.loop-place.invariant.steps

pub loop-place-preserved : goal.loop-place-preserved
loop-place-preserved g c =
    let o = c.args.objects.now in
    let name = g.O.Objects.name_of o in
    let told = g.O.Objects.told o in
    let stands = g.O.Objects.stands o in
    let tips = targets_of c.args.refs.now in
    let l = c.loop-place in
    let rest = c.pop_last.new.self.entries in
    let k : ℕ × Link = (c.in-Some.place, c.in-Some.link) in
    let taken = c.in-Some.ensures.removal in
    let pushed = c.in_ok-push.ensures.items in
    let e = c.in_ok-add_links.ensures in
    let new = c.add_links.new.front.entries in
    record {
      bad = e.bad;
      keeps = λ n b. e.keeps n (l.invariant.keeps n b);
      falls = subst (λ xs. FallsTo xs new) (sym pushed) (falls_on l.order.items rest new k k.1.name (subst (FallsTo l.order.items) taken l.invariant.falls) (e.below (all_below k.0 rest c.in-Some.ensures.all_below)));
      led = subst (λ xs. AreLed name tips xs new) (sym pushed) (led_on name tips l.order.items rest new k (subst (AreLed name tips l.order.items) taken l.invariant.led) e.only);
      steps = told_alone told (λ r. AddsLinks r stands k.1.name.bytes rest new c.add_links.new.bad) (λ r. AllByRecursion (IsStep r stands) new) (λ r a. a.adds.steps) e.adds;
      visited = visits_told told stands tips l.order.items c.push.new.self.items k l.front.entries rest new l.bad c.add_links.new.bad taken pushed e.keeps l.invariant.steps e.adds l.invariant.visited;
    }

pub loop-place-smaller : goal.loop-place-smaller
loop-place-smaller g c =
    let rest = c.pop_last.new.self.entries in
    let k : ℕ × Link = (c.in-Some.place, c.in-Some.link) in
    let was : behind_last c.loop-place.front.entries ≡ suc k.0 = ap behind_last c.in-Some.ensures.removal ∙ behind_end rest k in
    let now : behind_last c.add_links.new.front.entries ≤ k.0 = behind_below k.0 c.add_links.new.front.entries (c.in_ok-add_links.ensures.below (all_below k.0 rest c.in-Some.ensures.all_below)) in
    omega (arith, was, now)

pub returns-clause-falls : goal.returns-clause-falls
returns-clause-falls g c = c.loop-place.invariant.falls.falls

pub returns-clause-led : goal.returns-clause-led
returns-clause-led g c = λ called a. c.loop-place.invariant.led called (inl a)

pub returns-clause-visited : goal.returns-clause-visited
returns-clause-visited g c =
    let o = c.args.objects.now in
    let l = c.loop-place in
    let none : l.front.entries ≡ [] = nothing_left l.front.entries (λ m. let f : false ≡ true = c.in_default.ensures.variant.1 m in cc f) in
    all_visited (g.O.Objects.told o) (g.O.Objects.stands o) (targets_of c.args.refs.now) l.order.items l.front.entries l.bad none l.invariant.visited
