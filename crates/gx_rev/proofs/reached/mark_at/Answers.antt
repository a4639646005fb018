use Rattle.std.proofs.Common.{◌∙◌, arith, get_or, length-set, refl, set, true}
use Rattle.gx_model.specs.Laws.RepositoryLaws.{values_of}
use Rattle.gx_model.specs.Histories.Values.{commit_value, list_of}
use Rattle.gx_model.proofs.Revisions.Marking.{all_parents, mark_there, next_marked, same_marked}
use Rattle.gx_model.proofs.Records.Standing.{at_within}
use Rattle.gx_rev.proofs.ParentPlaces.{as_many_places, got, is_there, stands_there}
use Rattle.gx_rev.proofs.reached.mark_at.Goals as goal

pub loop-place-init : goal.loop-place-init
loop-place-init g c = record { long = refl; marked = λ parents h. same_marked c.args.repo.now.1 (list_of parents) c.args.marks.now }

pub bounds-marks-place : goal.bounds-marks-place
bounds-marks-place g c =
    let r = c.args.repo.now.1 in
    let i = c.loop-place.place-index in
    let place = get_or c.args.places.now i 0 in
    let there = is_there r c.args.places.now i place c.requires.commits (got c.args.places.now i c.loop-place-test.true) in
    let within = at_within (values_of r) place (commit_value there.0) there.1 in
    let long = c.requires.long in
    let same = c.loop-place.invariant.long in
    omega (arith, within, long, same)

pub loop-place-preserved : goal.loop-place-preserved
loop-place-preserved g c =
    let name = g.N.Namer.name_of c.args.repo.now.0 in
    let namer = g.met.N.Namer.is_namer c.args.repo.now.0 in
    let r = c.args.repo.now.1 in
    let i = c.loop-place.place-index in
    let marks = c.loop-place.marks in
    let place = get_or c.args.places.now i 0 in
    let long = c.requires.long in
    let same = c.loop-place.invariant.long in
    record {
      long = length-set marks place true ∙ same;
      marked = λ parents h.
          let there = stands_there r (list_of parents) c.args.places.now i place h (got c.args.places.now i c.loop-place-test.true) in
          let within = at_within (values_of r) place (commit_value there.0) there.2 in
          next_marked r (list_of parents) i there.0 c.args.marks.now marks (set marks place true) there.1 (c.loop-place.invariant.marked parents h)
          (mark_there name namer r c.sound.ensures marks place there.0 (omega (arith, within, long, same)) there.2);
    }

pub returns : goal.returns
returns g c = λ parents h.
    let r = c.args.repo.now.1 in
    let count = as_many_places r (list_of parents) c.args.places.now h in
    all_parents r parents c.loop-place.place-index c.args.marks.now c.loop-place.marks (omega (arith, count, c.loop-place-test.false)) (c.loop-place.invariant.marked parents h)
