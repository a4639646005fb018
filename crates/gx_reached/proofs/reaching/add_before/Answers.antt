use Rattle.std.proofs.Common.{◌≡◌, ◌+◌, ◌∙◌, [], false, ap, get_or, inl, map, refl, subst, sym, take}
use Rattle.std.specs.BTreeMap.{insert_entry}
use Rattle.std.specs.List.{AllByRecursion}
use Rattle.std.specs.Ordering.{nat_cmp}
use Rattle.std.proofs.lemmas.List.{take_all}
use Rattle.gx_reached.specs.Links.{shown_link}
use Rattle.gx_reached.specs.Reaching.{AddsAll, AreBelow, IsStep, OnlyAdds}
use Rattle.gx_reached.specs.declared.links.Link.{Link}
use Rattle.gx_reached.proofs.Fronts.{below_inserted}
use Rattle.gx_reached.proofs.Stepping.{adds_none, before_stands, next_bad, next_placed, next_puts, next_stays, none_behind, none_told, one_before, place_told, step_before, told_alone}
use Rattle.gx_reached.proofs.reaching.add_before.Goals as goal
use Rattle.gx_reached.proofs.reaching.add_before.Goals.{then-place-limit+in_ok-insert, else-place-limit}

abbrev no_link : Link
no_link = record { name = record { bytes = [] }; is_blob = false }

pub loop-link-init : goal.loop-link-init
loop-link-init g c =
    let o = c.args.objects.now in
    let stands = g.O.Objects.stands o in
    let front = c.args.front.now.entries in
    record {
      bad = c.requires.bad;
      keeps = λ n b. b;
      below = λ h. h;
      only = λ n i. inl i;
      adds = told_alone (g.O.Objects.told o) (λ r. AllByRecursion (IsStep r stands) front) (λ r. AddsAll r stands [] front front c.args.bad.now) (λ r s. adds_none r stands front c.args.bad.now s) c.requires.steps;
    }

pub place_of-requires-clause-stands : goal.place_of-requires-clause-stands
place_of-requires-clause-stands g c =
    let o = c.args.objects.now in
    let stands = g.O.Objects.stands o in
    let told = g.O.Objects.told o in
    let links = c.args.links.now in
    let i = c.loop-link.link-index in
    before_stands stands c.args.limit (get_or links i no_link) told (one_before stands c.args.limit links i no_link told c.loop-link-test.true c.requires.before)

pub loop-link-preserved-in_default : goal.loop-link-preserved-in_default
loop-link-preserved-in_default g c =
    let o = c.args.objects.now in
    let stands = g.O.Objects.stands o in
    let told = g.O.Objects.told o in
    let links = c.args.links.now in
    let l = c.loop-link in
    let i = l.link-index in
    let e = c.in_ok-place.ensures in
    let then = c.place_of.new.bad in
    let old = c.args.front.now.entries in
    let front = l.front.entries in
    record {
      bad = e.bad;
      keeps = λ n b. e.keeps n (l.invariant.keeps n b);
      below = l.invariant.below;
      only = next_stays shown_link links i c.loop-link-test.true old front l.invariant.only;
      adds = next_bad shown_link links i no_link c.loop-link-test.true old front l.bad then e.keeps told stands l.invariant.adds (none_told told stands (get_or links i no_link).name.bytes then c.in_ok-place.field-0 c.in_default.is e.place);
    }

pub loop-link-preserved : goal.loop-link-preserved
loop-link-preserved g c =
    let o = c.args.objects.now in
    let stands = g.O.Objects.stands o in
    let told = g.O.Objects.told o in
    let links = c.args.links.now in
    let limit = c.args.limit in
    let l = c.loop-link in
    let i = l.link-index in
    let lt = c.loop-link-test.true in
    let e = c.in_ok-place.ensures in
    let then = c.place_of.new.bad in
    let old = c.args.front.now.entries in
    let front = l.front.entries in
    let now = c.if-place-limit.front.entries in
    let place = c.in-Some.place in
    let link : Link = get_or links i no_link in
    let there = place_told told stands link.name.bytes then c.in_ok-place.field-0 place c.in-Some.is e.place in
    let before = one_before stands limit links i no_link told lt c.requires.before in
    elim c.if-place-limit.branch [
      | then-place-limit+in_ok-insert w ↦
          let same : now ≡ w.insert.new.self.entries = ap (λ s. s.entries) w.front-is in
          let made : now ≡ insert_entry nat_cmp front place link = same ∙ w.in_ok-insert.ensures.entries in
          record {
            bad = e.bad;
            keeps = λ n b. e.keeps n (l.invariant.keeps n b);
            below = λ h. subst (AreBelow limit) (sym made) (below_inserted limit place link front w.if-place-limit.true (l.invariant.below h));
            only = next_puts shown_link links i no_link lt old front now link place made refl l.invariant.only;
            adds = next_placed shown_link links i no_link lt old front now link place made refl l.bad then e.keeps told stands c.sound_if_told.ensures.order l.invariant.adds (step_before stands limit place link told there before);
          }
      | else-place-limit w ↦
          let same : now ≡ front = ap (λ s. s.entries) w.front-is in
          record {
            bad = e.bad;
            keeps = λ n b. e.keeps n (l.invariant.keeps n b);
            below = λ h. subst (AreBelow limit) (sym same) (l.invariant.below h);
            only = subst (OnlyAdds (map shown_link (take (i + 1) links)) old) (sym same) (next_stays shown_link links i lt old front l.invariant.only);
            adds = none_behind stands limit place link told (λ r. AddsAll r stands (map shown_link (take (i + 1) links)) old now then) w.if-place-limit.false there before;
          }
    ]

pub returns-clause-only : goal.returns-clause-only
returns-clause-only g c =
    let l = c.loop-link in
    subst (λ links. OnlyAdds (map shown_link links) c.args.front.now.entries l.front.entries) (take_all l.link-index c.args.links.now c.loop-link-test.false) l.invariant.only
