use Rattle.std.proofs.Common.{◌+◌, sym, subst, arith, get_or}
use Rattle.std.specs.List.{AllByRecursion}
use Rattle.gx_model.specs.Histories.Values.{list_of, parents_of}
use Rattle.gx_rev.specs.Ancestors.{IsCommitBefore}
use Rattle.gx_rev.proofs.PlaceLists.{HasFirst, all_insert, all_inserted, no_parent_yet, parent_inserted, parent_place}
use Rattle.gx_rev.proofs.ParentPlaces.{as_many_places, got, stands_there}
use Rattle.gx_rev.proofs.ancestors.insert_places.Goals as goal

pub loop-parent-init : goal.loop-parent-init
loop-parent-init g c = record {
  before = c.requires.before;
  parents = λ made e. no_parent_yet c.args.repo.now.1 (parents_of made) c.args.places.now.keys;
}

pub loop-parent-preserved : goal.loop-parent-preserved
loop-parent-preserved g c =
    let name = g.N.Namer.name_of c.args.repo.now.0 in
    let namer = g.met.N.Namer.is_namer c.args.repo.now.0 in
    let r = c.args.repo.now.1 in
    let i = c.loop-parent.parent-index in
    let parent = get_or c.args.parents.now i 0 in
    let keys = c.in_ok-insert.ensures.keys in
    let here = c.requires.commit in
    let there = stands_there r (list_of (parents_of here.0)) c.args.parents.now i parent (c.requires.parents here.0 here.1) (got c.args.parents.now i c.loop-parent-test.true) in
    record {
      before = subst (AllByRecursion (IsCommitBefore r c.args.place)) (sym keys)
          (all_insert (IsCommitBefore r c.args.place) parent c.loop-parent.places.keys (parent_place name namer r c.sound.ensures here.0 there.0 c.args.place parent i here.1 there.1 there.2) c.loop-parent.invariant.before);
      parents = λ made e.
          let one = stands_there r (list_of (parents_of made)) c.args.parents.now i parent (c.requires.parents made e) (got c.args.parents.now i c.loop-parent-test.true) in
          subst (HasFirst r (parents_of made) (i + 1) c.args.places.now.keys) (sym keys)
          (parent_inserted r (parents_of made) i one.0 parent c.args.places.now.keys c.loop-parent.places.keys one.1 one.2 (c.loop-parent.invariant.parents made e));
    }

pub returns-clause-parents : goal.returns-clause-parents
returns-clause-parents g c = λ made e.
    let r = c.args.repo.now.1 in
    let count = as_many_places r (list_of (parents_of made)) c.args.parents.now (c.requires.parents made e) in
    all_inserted r (parents_of made) c.loop-parent.parent-index c.args.places.now.keys c.loop-parent.places.keys (omega (arith, count, c.loop-parent-test.false)) (c.loop-parent.invariant.parents made e)
