use Rattle.std.proofs.Common.{◌≡◌, ◌<◌, ℕ, [], ◌∷◌, ap, arith, false, length, length-append, subst, sym, true, ◌∙◌}
use Rattle.std.specs.Prelude.{IfSome}
use Rattle.gx_model.specs.Revisions.Ranges.{some_reaches}
use Rattle.gx_object.specs.declared.name.Name.{Name}
use Rattle.gx_ranges.specs.Fronts.{Adds, AreBelow}
use Rattle.gx_ranges.proofs.Tips.{all_last, nothing_left}
use Rattle.gx_rev.specs.Objects.{parents_at}
use Rattle.gx_branches.proofs.Told.{are_left, last_left, none_left, one_less, ranked_left}
use Rattle.gx_branches.proofs.ranks.lower_parents.Goals as goal

pub loop-there-init : goal.loop-there-init
loop-there-init g c =
    let o = c.args.objects.now in
    let s = c.sound_if_told.ensures in
    let stands = g.O.Objects.stands o in
    let told = g.O.Objects.told o in
    let commit = c.args.commit.now in
    let parents = c.add_parents.new.front.entries in
    let empty = c.new-parents.ensures.empty in
    record {
      left = are_left (g.O.Objects.name_of o) s.namer stands told s.sound s.order (λ r. some_reaches (parents_at r commit)) c.args.rank parents c.args.front.now.entries c.requires.ranked
          (subst (λ xs. IfSome told (λ r. Adds stands (some_reaches (parents_at r commit)) xs parents r)) empty c.in_ok-add_parents.ensures.adds);
      before = c.in_ok-add_parents.ensures.below (subst (AreBelow c.args.place) (sym empty) tt);
      below = λ h. h;
    }

pub lower-requires-clause-ranked : goal.lower-requires-clause-ranked
lower-requires-clause-ranked g c =
    let o = c.args.objects.now in
    let s = c.sound_if_told.ensures in
    let l = c.loop-there in
    ranked_left (g.O.Objects.name_of o) s.namer (g.O.Objects.stands o) (g.O.Objects.told o) s.sound s.order (λ r. some_reaches (parents_at r c.args.commit.now)) c.args.rank l.parents.entries c.args.front.now.entries l.front.entries l.invariant.left

pub lower-requires-clause-tip : goal.lower-requires-clause-tip
lower-requires-clause-tip g c =
    let o = c.args.objects.now in
    let s = c.sound_if_told.ensures in
    let l = c.loop-there in
    last_left (g.O.Objects.name_of o) s.namer (g.O.Objects.stands o) (g.O.Objects.told o) s.sound s.order (λ r. some_reaches (parents_at r c.args.commit.now)) c.args.rank l.parents.entries c.pop_last.new.self.entries (c.in-Some.there, c.in-Some.parent)
    c.args.front.now.entries l.front.entries c.in-Some.ensures.removal l.invariant.left

pub loop-there-preserved : goal.loop-there-preserved
loop-there-preserved g c =
    let o = c.args.objects.now in
    let s = c.sound_if_told.ensures in
    let l = c.loop-there in
    let rest = c.pop_last.new.self.entries in
    let last : ℕ × Name = (c.in-Some.there, c.in-Some.parent) in
    let low = all_last (λ tip. tip.0 < c.args.place) rest last (subst (AreBelow c.args.place) c.in-Some.ensures.removal l.invariant.before) in
    record {
      left = one_less (g.O.Objects.name_of o) s.namer (g.O.Objects.stands o) (g.O.Objects.told o) s.sound s.order (λ r. some_reaches (parents_at r c.args.commit.now)) c.args.rank l.parents.entries rest last c.args.front.now.entries l.front.entries
          c.lower.new.front.entries c.in-Some.ensures.removal l.invariant.left c.in_ok-lower.ensures.lowers;
      before = low.0;
      below = λ h. c.in_ok-lower.ensures.below c.args.place low.1 (l.invariant.below h);
    }

pub loop-there-smaller : goal.loop-there-smaller
loop-there-smaller g c =
    let rest = c.pop_last.new.self.entries in
    let last : ℕ × Name = (c.in-Some.there, c.in-Some.parent) in
    let long = ap length c.in-Some.ensures.removal ∙ length-append rest (last ∷ []) in
    omega (arith, long)

pub returns-clause-below : goal.returns-clause-below
returns-clause-below g c = c.loop-there.invariant.below

pub returns-clause-lowers : goal.returns-clause-lowers
returns-clause-lowers g c =
    let o = c.args.objects.now in
    let s = c.sound_if_told.ensures in
    let l = c.loop-there in
    let none : l.parents.entries ≡ [] = nothing_left l.parents.entries (λ m. let f : false ≡ true = c.in_default.ensures.variant.1 m in cc f) in
    none_left (g.O.Objects.name_of o) s.namer (g.O.Objects.stands o) (g.O.Objects.told o) s.sound s.order (λ r. some_reaches (parents_at r c.args.commit.now)) c.args.rank l.parents.entries c.args.front.now.entries l.front.entries none l.invariant.left
