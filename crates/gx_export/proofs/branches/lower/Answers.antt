use Rattle.std.proofs.Common.{◌≡◌, ◌<◌, arith, length}
use Rattle.gx_model.specs.Laws.RepositoryLaws.{values_of}
use Rattle.gx_model.proofs.Records.Standing.{at_within, commit_at_place}
use Rattle.gx_rev.specs.Objects.{commit_at, value_at}
use Rattle.gx_export.proofs.RankedRefs.{lowered}
use Rattle.gx_export.proofs.branches.lower.Goals as goal

pub returns : goal.returns
returns g c =
    let name = g.N.Namer.name_of c.args.repo.now.0 in
    let namer = g.met.N.Namer.is_namer c.args.repo.now.0 in
    let r = c.args.repo.now.1 in
    let place = c.place_of-place.result in
    let within = at_within (values_of r) place (value_at r c.args.commit.now) c.place_of-place.ensures in
    let long : length c.args.ranks.now ≡ length (values_of r) = c.requires.long in
    let in_ranks : place < length c.args.ranks.now = omega (arith, within, long) in
    lowered name namer r c.sound.ensures (commit_at r c.args.commit.now) c.args.ranks.now place c.args.rank _ (commit_at_place name namer r c.sound.ensures c.args.commit.now.bytes place c.requires.held c.place_of-place.ensures) in_ranks c.min.ensures
