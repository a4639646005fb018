use Rattle.std.proofs.Common.{[], inl, refl, subst, sym}
use Rattle.std.specs.List.{AllByRecursion}
use Rattle.std.proofs.lemmas.List.{take_all}
use Rattle.gx_repo.specs.declared.publishing.RefChange.{RefChange}
use Rattle.gx_reached.specs.Links.{Link, no_blob}
use Rattle.gx_reached.specs.Reaching.{AddsAll, IsStep, OnlyAdds, tip_links}
use Rattle.gx_reached.proofs.Stepping.{adds_none, next_bad, next_placed, next_puts, next_stays, none_told, one_stands, place_told, step_tip, told_each}
use Rattle.gx_reached.proofs.reaching.add_tips.Goals as goal

abbrev tip_link : RefChange → Link
tip_link ref = no_blob ref.target.bytes

pub loop-change-init : goal.loop-change-init
loop-change-init g c =
    let o = c.args.objects.now in
    let stands = g.O.Objects.stands o in
    let front = c.args.front.now.entries in
    record {
      bad = c.requires.bad;
      keeps = λ n b. b;
      only = λ n i. inl i;
      adds = told_each (g.O.Objects.told o) (λ r. AddsAll r stands [] front front c.args.bad.now) (λ r. adds_none r stands front c.args.bad.now (subst (AllByRecursion (IsStep r stands)) (sym c.requires.none) tt));
    }

pub place_of-requires-clause-stands : goal.place_of-requires-clause-stands
place_of-requires-clause-stands g c =
    let o = c.args.objects.now in
    one_stands (λ (ref : RefChange). ref.target.bytes) (g.O.Objects.stands o) c.args.refs.now c.loop-change.change-index _ (g.O.Objects.told o) c.loop-change-test.true c.requires.tips

pub loop-change-preserved-in_default : goal.loop-change-preserved-in_default
loop-change-preserved-in_default g c =
    let o = c.args.objects.now in
    let stands = g.O.Objects.stands o in
    let told = g.O.Objects.told o in
    let refs = c.args.refs.now in
    let l = c.loop-change in
    let i = l.change-index in
    let e = c.in_ok-place.ensures in
    let then = c.place_of.new.bad in
    let old = c.args.front.now.entries in
    let front = l.front.entries in
    record {
      bad = e.bad;
      keeps = λ n b. e.keeps n (l.invariant.keeps n b);
      only = next_stays tip_link refs i c.loop-change-test.true old front l.invariant.only;
      adds = next_bad tip_link refs i _ c.loop-change-test.true old front l.bad then e.keeps told stands l.invariant.adds (none_told told stands _ then c.in_ok-place.field-0 c.in_default.is e.place);
    }

pub loop-change-preserved : goal.loop-change-preserved
loop-change-preserved g c =
    let o = c.args.objects.now in
    let stands = g.O.Objects.stands o in
    let told = g.O.Objects.told o in
    let refs = c.args.refs.now in
    let l = c.loop-change in
    let i = l.change-index in
    let lt = c.loop-change-test.true in
    let e = c.in_ok-place.ensures in
    let then = c.place_of.new.bad in
    let old = c.args.front.now.entries in
    let front = l.front.entries in
    let now = c.insert.new.self.entries in
    let place = c.in-Some.place in
    let made = c.in_ok-insert.ensures.entries in
    let there = place_told told stands _ then c.in_ok-place.field-0 place c.in-Some.is e.place in
    record {
      bad = e.bad;
      keeps = λ n b. e.keeps n (l.invariant.keeps n b);
      only = next_puts tip_link refs i _ lt old front now _ place made refl l.invariant.only;
      adds = next_placed tip_link refs i _ lt old front now _ place made refl l.bad then e.keeps told stands c.sound_if_told.ensures.order l.invariant.adds (step_tip stands place _ told there);
    }

pub returns-clause-only : goal.returns-clause-only
returns-clause-only g c =
    let l = c.loop-change in
    subst (λ refs. OnlyAdds (tip_links refs) c.args.front.now.entries l.front.entries) (take_all l.change-index c.args.refs.now c.loop-change-test.false) l.invariant.only
