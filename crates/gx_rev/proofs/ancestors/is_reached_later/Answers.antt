use Rattle.std.proofs.Common.{◌≡◌, false, true, [], ap, sym, subst, arith, ◌∙◌}
use Rattle.std.specs.List.{AllByRecursion}
use Rattle.std.specs.Ordering.{nat_cmp}
use Rattle.std.specs.BTreeMap.Range.{IsLtBy}
use Rattle.std.proofs.lemmas.List.Elements.{recursion_from_All}
use Rattle.gx_rev.specs.Parents.{AreParentPlaces, IsCommitPlace}
use Rattle.gx_rev.specs.Ancestors.{SomeReaches, behind_last}
use Rattle.gx_rev.proofs.PlaceLists.{all_before, all_last, all_places, at_last, behind_before, behind_end, none_left, stepped}
use Rattle.gx_rev.proofs.ancestors.is_reached_later.Goals as goal

pub loop-place-init : goal.loop-place-init
loop-place-init g c = record { commits = c.requires.commits; holds = c.requires.holds; same = λ made e. ((λ h. h), (λ h. h)) }

pub returns-then-place-last-clause-told : goal.returns-then-place-last-clause-told
returns-then-place-last-clause-told g c = λ made e.
    let r = c.args.repo.now.1 in
    let keys = c.pop_last.new.self.keys in
    let was = c.in-Some.ensures.removal in
    let all = all_last (IsCommitPlace r) keys c.in-Some.place (subst (AllByRecursion (IsCommitPlace r)) was c.loop-place.invariant.commits) in
    let before = all_before r c.in-Some.place keys all.0 (recursion_from_All (λ q. IsLtBy nat_cmp q c.in-Some.place) keys c.in-Some.ensures.all_below) in
    let told = at_last (g.N.Namer.name_of c.args.repo.now.0) (g.met.N.Namer.is_namer c.args.repo.now.0) r c.sound.ensures c.args.last made e keys c.in-Some.place c.if-place-last.true before in
    let same = c.loop-place.invariant.same made e in
    ((λ h. same.0 (subst (λ ks. SomeReaches r ks made) (sym was) (told.0 h))), (λ h. told.1 (subst (λ ks. SomeReaches r ks made) was (same.1 h))))

pub insert_places-requires : goal.insert_places-requires
insert_places-requires g c =
    let r = c.args.repo.now.1 in
    let keys = c.pop_last.new.self.keys in
    let all = all_last (IsCommitPlace r) keys c.in-Some.place (subst (AllByRecursion (IsCommitPlace r)) c.in-Some.ensures.removal c.loop-place.invariant.commits) in
    record {
      commit = all.1;
      parents = subst (AreParentPlaces r c.in-Some.place) (sym c.of.ensures) c.in_ok-learn.ensures.known;
      before = all_before r c.in-Some.place keys all.0 (recursion_from_All (λ q. IsLtBy nat_cmp q c.in-Some.place) keys c.in-Some.ensures.all_below);
    }

pub learn-requires-clause-commit : goal.learn-requires-clause-commit
learn-requires-clause-commit g c =
    let r = c.args.repo.now.1 in
    (all_last (IsCommitPlace r) c.pop_last.new.self.keys c.in-Some.place (subst (AllByRecursion (IsCommitPlace r)) c.in-Some.ensures.removal c.loop-place.invariant.commits)).1

pub loop-place-preserved : goal.loop-place-preserved
loop-place-preserved g c =
    let r = c.args.repo.now.1 in
    let keys = c.pop_last.new.self.keys in
    let was = c.in-Some.ensures.removal in
    let new = c.insert_places.new.places.keys in
    let all = all_last (IsCommitPlace r) keys c.in-Some.place (subst (AllByRecursion (IsCommitPlace r)) was c.loop-place.invariant.commits) in
    record {
      holds = c.in_ok-learn.ensures.holds;
      commits = all_places r c.in-Some.place new c.in_ok-insert_places.ensures.before;
      same = λ made e.
          let step = stepped (g.N.Namer.name_of c.args.repo.now.0) (g.met.N.Namer.is_namer c.args.repo.now.0) r c.sound.ensures c.args.last made e keys new c.in-Some.place all.1.0 c.if-place-last.false all.1.1 (c.in_ok-insert_places.ensures.parents all.1.0 all.1.1) in
          let same = c.loop-place.invariant.same made e in
          ((λ h. same.0 (subst (λ ks. SomeReaches r ks made) (sym was) (step.0 h))), (λ h. step.1 (subst (λ ks. SomeReaches r ks made) was (same.1 h))));
    }

pub loop-place-smaller : goal.loop-place-smaller
loop-place-smaller g c =
    let r = c.args.repo.now.1 in
    let low = behind_before r c.in-Some.place c.insert_places.new.places.keys c.in_ok-insert_places.ensures.before in
    let high = ap behind_last c.in-Some.ensures.removal ∙ behind_end c.pop_last.new.self.keys c.in-Some.place in
    omega (arith, low, high)

pub returns-clause-told : goal.returns-clause-told
returns-clause-told g c = λ made e.
    let r = c.args.repo.now.1 in
    let same = c.loop-place.invariant.same made e in
    let none : c.loop-place.places.keys ≡ [] = none_left c.loop-place.places.keys (λ l. let f : false ≡ true = c.in_default.ensures.variant.1 l in cc f) in
    ((λ h. absurd (let f : false ≡ true = h in cc f)), (λ h. absurd (subst (λ ks. SomeReaches r ks made) none (same.1 h))))
