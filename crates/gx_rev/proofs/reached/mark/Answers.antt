use Rattle.std.proofs.Common.{◌≡◌, ◌<◌, arith, length, length-set, true}
use Rattle.gx_model.specs.Laws.RepositoryLaws.{values_of}
use Rattle.gx_rev.specs.Objects.{commit_at, value_at}
use Rattle.gx_model.proofs.Revisions.Marking.{mark_there}
use Rattle.gx_model.proofs.Records.Standing.{at_within, commit_at_place}
use Rattle.gx_rev.proofs.Tips.{commit_more}
use Rattle.gx_rev.proofs.reached.mark.Goals as goal

pub returns-clause-marked : goal.returns-clause-marked
returns-clause-marked g c =
    let name = g.N.Namer.name_of c.args.repo.now.0 in
    let namer = g.met.N.Namer.is_namer c.args.repo.now.0 in
    let r = c.args.repo.now.1 in
    let within = at_within (values_of r) c.place_of-place.result (value_at r c.args.commit.now) c.place_of-place.ensures in
    let long : length c.args.marks.now ≡ length (values_of r) = c.requires.long in
    let in_marks : c.place_of-place.result < length c.args.marks.now = omega (arith, within, long) in
    mark_there name namer r c.sound.ensures c.args.marks.now c.place_of-place.result (commit_at r c.args.commit.now) in_marks (commit_at_place name namer r c.sound.ensures c.args.commit.now.bytes c.place_of-place.result c.requires.held c.place_of-place.ensures)

pub returns-clause-tips : goal.returns-clause-tips
returns-clause-tips g c =
    let name = g.N.Namer.name_of c.args.repo.now.0 in
    let namer = g.met.N.Namer.is_namer c.args.repo.now.0 in
    let r = c.args.repo.now.1 in
    commit_more r (commit_at r c.args.commit.now) c.place_of-place.result c.args.marks.now _ (commit_at_place name namer r c.sound.ensures c.args.commit.now.bytes c.place_of-place.result c.requires.held c.place_of-place.ensures) (length-set c.args.marks.now c.place_of-place.result true) (returns-clause-marked g c)
