use Rattle.std.proofs.Common.{◌<◌, ◌∙◌, arith, subst}
use Rattle.std.specs.List.{AllByRecursion}
use Rattle.std.specs.Ordering.{nat_cmp}
use Rattle.std.specs.BTreeMap.Range.{IsLtBy}
use Rattle.std.proofs.lemmas.List.Elements.{recursion_from_All}
use Rattle.gx_rev.specs.Parents.{IsCommitPlace}
use Rattle.gx_rev.proofs.MeetingWalks.{both_met, left_down, put_back, right_down}
use Rattle.gx_rev.proofs.PlaceLists.{all_before, all_last}
use Rattle.gx_rev.proofs.meetings.go_down.Goals as goal

pub returns-then-left-right-clause-down : goal.returns-then-left-right-clause-down
returns-then-left-right-clause-down g c =
    let r = c.args.repo.now.1 in
    let xs = c.pop_last.new.self.keys in
    let k = c.in-Some.left in
    let was = c.in-Some.ensures.removal in
    let lefts = all_last (IsCommitPlace r) xs k (subst (AllByRecursion (IsCommitPlace r)) was c.requires.meeting.3.left_places) in
    let low = recursion_from_All (λ q. IsLtBy nat_cmp q k) xs c.in-Some.ensures.all_below in
    let ys = c.pop_last-2.new.self.keys in
    let j = c.in-Some-pop_last.right in
    let were = c.in-Some-pop_last.ensures.removal in
    let rights = all_last (IsCommitPlace r) ys j (subst (AllByRecursion (IsCommitPlace r)) were c.requires.meeting.3.right_places) in
    let below = recursion_from_All (λ q. IsLtBy nat_cmp q j) ys c.in-Some-pop_last.ensures.all_below in
    both_met r c.args.marks.now xs ys c.args.lefts.now.keys c.args.rights.now.keys k j was were c.if-left-right.true (all_before r k xs lefts.0 low) (all_before r j ys rights.0 below) lefts.1

pub visit-requires-clause-commit : goal.visit-requires-clause-commit
visit-requires-clause-commit g c =
    let r = c.args.repo.now.1 in
    let xs = c.pop_last.new.self.keys in
    let k = c.in-Some.left in
    let was = c.in-Some.ensures.removal in
    let lefts = all_last (IsCommitPlace r) xs k (subst (AllByRecursion (IsCommitPlace r)) was c.requires.meeting.3.left_places) in
    let low = recursion_from_All (λ q. IsLtBy nat_cmp q k) xs c.in-Some.ensures.all_below in
    lefts.1

pub visit-requires-clause-before : goal.visit-requires-clause-before
visit-requires-clause-before g c =
    let r = c.args.repo.now.1 in
    let xs = c.pop_last.new.self.keys in
    let k = c.in-Some.left in
    let was = c.in-Some.ensures.removal in
    let lefts = all_last (IsCommitPlace r) xs k (subst (AllByRecursion (IsCommitPlace r)) was c.requires.meeting.3.left_places) in
    let low = recursion_from_All (λ q. IsLtBy nat_cmp q k) xs c.in-Some.ensures.all_below in
    all_before r k xs lefts.0 low

pub returns-then-left-right-2-clause-down : goal.returns-then-left-right-2-clause-down
returns-then-left-right-2-clause-down g c =
    let r = c.args.repo.now.1 in
    let xs = c.pop_last.new.self.keys in
    let k = c.in-Some.left in
    let was = c.in-Some.ensures.removal in
    let lefts = all_last (IsCommitPlace r) xs k (subst (AllByRecursion (IsCommitPlace r)) was c.requires.meeting.3.left_places) in
    let low = recursion_from_All (λ q. IsLtBy nat_cmp q k) xs c.in-Some.ensures.all_below in
    let ys = c.pop_last-2.new.self.keys in
    let j = c.in-Some-pop_last.right in
    let were = c.in-Some-pop_last.ensures.removal in
    let rights = all_last (IsCommitPlace r) ys j (subst (AllByRecursion (IsCommitPlace r)) were c.requires.meeting.3.right_places) in
    let below = recursion_from_All (λ q. IsLtBy nat_cmp q j) ys c.in-Some-pop_last.ensures.all_below in
    left_down (g.N.Namer.name_of c.args.repo.now.0) (g.met.N.Namer.is_namer c.args.repo.now.0) r c.sound.ensures c.args.marks.now xs c.visit.new.places.keys ys c.args.lefts.now.keys c.args.rights.now.keys c.insert.new.self.keys k j
    was were (c.in_ok-insert.ensures.keys ∙ put_back ys j below) c.if-left-right-2.true (all_before r j ys rights.0 below) lefts.1 c.in_ok-visit.ensures.parents c.in_ok-visit.ensures.before

pub visit-requires-2-clause-commit : goal.visit-requires-2-clause-commit
visit-requires-2-clause-commit g c =
    let r = c.args.repo.now.1 in
    let ys = c.pop_last-2.new.self.keys in
    let j = c.in-Some-pop_last.right in
    let were = c.in-Some-pop_last.ensures.removal in
    let rights = all_last (IsCommitPlace r) ys j (subst (AllByRecursion (IsCommitPlace r)) were c.requires.meeting.3.right_places) in
    let below = recursion_from_All (λ q. IsLtBy nat_cmp q j) ys c.in-Some-pop_last.ensures.all_below in
    rights.1

pub visit-requires-2-clause-before : goal.visit-requires-2-clause-before
visit-requires-2-clause-before g c =
    let r = c.args.repo.now.1 in
    let ys = c.pop_last-2.new.self.keys in
    let j = c.in-Some-pop_last.right in
    let were = c.in-Some-pop_last.ensures.removal in
    let rights = all_last (IsCommitPlace r) ys j (subst (AllByRecursion (IsCommitPlace r)) were c.requires.meeting.3.right_places) in
    let below = recursion_from_All (λ q. IsLtBy nat_cmp q j) ys c.in-Some-pop_last.ensures.all_below in
    all_before r j ys rights.0 below

pub returns-clause-down : goal.returns-clause-down
returns-clause-down g c =
    let r = c.args.repo.now.1 in
    let xs = c.pop_last.new.self.keys in
    let k = c.in-Some.left in
    let was = c.in-Some.ensures.removal in
    let lefts = all_last (IsCommitPlace r) xs k (subst (AllByRecursion (IsCommitPlace r)) was c.requires.meeting.3.left_places) in
    let low = recursion_from_All (λ q. IsLtBy nat_cmp q k) xs c.in-Some.ensures.all_below in
    let ys = c.pop_last-2.new.self.keys in
    let j = c.in-Some-pop_last.right in
    let were = c.in-Some-pop_last.ensures.removal in
    let rights = all_last (IsCommitPlace r) ys j (subst (AllByRecursion (IsCommitPlace r)) were c.requires.meeting.3.right_places) in
    let below = recursion_from_All (λ q. IsLtBy nat_cmp q j) ys c.in-Some-pop_last.ensures.all_below in
    let later : k < j = omega (arith, c.if-left-right.false, c.if-left-right-2.false) in
    right_down r c.args.marks.now c.args.lefts.now.keys c.args.rights.now.keys c.insert-2.new.self.keys c.visit-2.new.places.keys
    (left_down (g.N.Namer.name_of c.args.repo.now.0) (g.met.N.Namer.is_namer c.args.repo.now.0) r c.sound.ensures c.args.marks.now ys c.visit-2.new.places.keys xs c.args.rights.now.keys c.args.lefts.now.keys c.insert-2.new.self.keys j k
    were was (c.in_ok-insert-2.ensures.keys ∙ put_back xs k low) later (all_before r k xs lefts.0 low) rights.1 c.in_ok-visit-2.ensures.parents c.in_ok-visit-2.ensures.before)
