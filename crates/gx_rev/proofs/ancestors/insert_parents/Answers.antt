use Rattle.std.proofs.Common.{◌≡◌, ◌≤◌, ◌+◌, ◌∙◌, ap, sym, subst, arith, length, Some}
use Rattle.std.specs.List.{AllByRecursion, slice_get}
use Rattle.std.specs.Ordering.{nat_cmp}
use Rattle.std.specs.BTreeSet.{insert_key}
use Rattle.gx_model.specs.Histories.Values.{Commit, commit_value, list_of, parents_of}
use Rattle.gx_model.specs.Histories.Marks.{IsAt}
use Rattle.gx_model.proofs.Records.HeldValues.{commit_held, names_long, no_parent_there, parent_there}
use Rattle.gx_model.proofs.Records.Standing.{at_within, commit_at_place, commit_name_there}
use Rattle.gx_model.specs.Laws.RepositoryLaws.{values_of}
use Rattle.gx_rev.specs.Objects.{commit_at}
use Rattle.gx_rev.specs.Ancestors.{IsCommitBefore}
use Rattle.gx_rev.proofs.PlaceLists.{HasFirst, all_insert, all_inserted, no_parent_more, no_parent_yet, parent_inserted, parent_place}
use Rattle.gx_rev.proofs.ancestors.insert_parents.Goals as goal
use Rattle.gx_rev.proofs.ancestors.insert_parents.Goals.{in-Some+in_ok-insert, in_default}

pub loop-number-init : goal.loop-number-init
loop-number-init g c = record {
  before = c.requires.before;
  parents = λ made e. no_parent_yet c.args.repo.now.1 (parents_of made) c.args.places.now.keys;
}

pub name_at-commit-requires : goal.name_at-commit-requires
name_at-commit-requires g c =
    at_within (values_of c.args.repo.now.1) c.args.place (commit_value c.requires.commit.0) c.requires.commit.1

pub view_of-view-requires : goal.view_of-view-requires
view_of-view-requires g c =
    commit_name_there (g.N.Namer.name_of c.args.repo.now.0) (g.met.N.Namer.is_namer c.args.repo.now.0) c.args.repo.now.1 c.sound.ensures c.name_at-commit.result.bytes c.args.place c.requires.commit.0 c.name_at-commit.ensures.held c.name_at-commit.ensures.value c.requires.commit.1

pub place_of-requires : goal.place_of-requires
place_of-requires g c =
    let name = g.N.Namer.name_of c.args.repo.now.0 in
    let namer = g.met.N.Namer.is_namer c.args.repo.now.0 in
    let r = c.args.repo.now.1 in
    let held = commit_name_there name namer r c.sound.ensures c.name_at-commit.result.bytes c.args.place c.requires.commit.0 c.name_at-commit.ensures.held c.name_at-commit.ensures.value c.requires.commit.1 in
    commit_held name namer r c.sound.ensures c.in-Some.parent.bytes
    (parent_there name namer r c.sound.ensures c.name_at-commit.result.bytes c.in-Some.parent.bytes c.loop-number.number held (rw c.view_of-view.ensures at c.in-Some.ensures)).1

pub loop-number-preserved : goal.loop-number-preserved
loop-number-preserved g c =
    let name = g.N.Namer.name_of c.args.repo.now.0 in
    let namer = g.met.N.Namer.is_namer c.args.repo.now.0 in
    let r = c.args.repo.now.1 in
    let here = c.name_at-commit.result in
    let held = commit_name_there name namer r c.sound.ensures here.bytes c.args.place c.requires.commit.0 c.name_at-commit.ensures.held c.name_at-commit.ensures.value c.requires.commit.1 in
    let at = commit_at_place name namer r c.sound.ensures here.bytes c.args.place held c.name_at-commit.ensures.value in
    let n = c.loop-number.number in
    let old = c.args.places.now.keys in
    let now = c.loop-number.places.keys in
    let same = λ (made : Commit) (e : IsAt r c.args.place made). (let o : Some (commit_value made) ≡ Some (commit_value (commit_at r here)) = sym e ∙ at in let p : made ≡ commit_at r here = cc o in p) in
    elim c.match-parent.branch [
      | in-Some+in_ok-insert w ↦
          let there = parent_there name namer r c.sound.ensures here.bytes w.in-Some.parent.bytes n held (rw c.view_of-view.ensures at w.in-Some.ensures) in
          let place = commit_at_place name namer r c.sound.ensures w.in-Some.parent.bytes w.place_of.result there.1 w.place_of.ensures in
          let keys : c.match-parent.places.keys ≡ insert_key nat_cmp now w.place_of.result = ap (λ s. s.keys) w.places-is ∙ w.in_ok-insert.ensures.keys in
          record {
            before = subst (AllByRecursion (IsCommitBefore r c.args.place)) (sym keys)
                (all_insert (IsCommitBefore r c.args.place) w.place_of.result now
                (parent_place name namer r c.sound.ensures (commit_at r here) (commit_at r w.in-Some.parent) c.args.place w.place_of.result n at there.0 place)
                c.loop-number.invariant.before);
            parents = λ made e. subst (HasFirst r (parents_of made) (n + 1) old) (sym keys)
                (parent_inserted r (parents_of made) n (commit_at r w.in-Some.parent) w.place_of.result old now
                (ap (λ q. slice_get (list_of (parents_of q)) n) (same made e) ∙ there.0) place (c.loop-number.invariant.parents made e));
          }
      | in_default w ↦
          let keys : c.match-parent.places.keys ≡ now = ap (λ s. s.keys) w.places-is in
          record {
            before = subst (AllByRecursion (IsCommitBefore r c.args.place)) (sym keys) c.loop-number.invariant.before;
            parents = λ made e. subst (HasFirst r (parents_of made) (n + 1) old) (sym keys)
                (no_parent_more r (parents_of made) n old now
                (ap (λ q. slice_get (list_of (parents_of q)) n) (same made e) ∙ no_parent_there name namer r c.sound.ensures here.bytes n (rw c.view_of-view.ensures at w.in_default.ensures)) (c.loop-number.invariant.parents made e));
          }
    ]

pub returns-clause-before : goal.returns-clause-before
returns-clause-before g c = c.loop-number.invariant.before

pub returns-clause-parents : goal.returns-clause-parents
returns-clause-parents g c = λ made e.
    let name = g.N.Namer.name_of c.args.repo.now.0 in
    let r = c.args.repo.now.1 in
    let here = commit_at r c.name_at-commit.result in
    let namer = g.met.N.Namer.is_namer c.args.repo.now.0 in
    let held = commit_name_there name namer r c.sound.ensures c.name_at-commit.result.bytes c.args.place c.requires.commit.0 c.name_at-commit.ensures.held c.name_at-commit.ensures.value c.requires.commit.1 in
    let at = commit_at_place name namer r c.sound.ensures c.name_at-commit.result.bytes c.args.place held c.name_at-commit.ensures.value in
    let same : made ≡ here = (let o : Some (commit_value made) ≡ Some (commit_value here) = sym e ∙ at in cc o) in
    let count : c.parent_count-number-end.result ≡ length (list_of (parents_of made)) = c.parent_count-number-end.ensures ∙ ap (λ v. length v.parents) c.view_of-view.ensures ∙ names_long name (parents_of here) ∙ ap (λ q. length (list_of (parents_of q))) (sym same) in
    let done : length (list_of (parents_of made)) ≤ c.loop-number.number = omega (arith, count) in
    all_inserted r (parents_of made) c.loop-number.number c.args.places.now.keys c.loop-number.places.keys done (c.loop-number.invariant.parents made e)
