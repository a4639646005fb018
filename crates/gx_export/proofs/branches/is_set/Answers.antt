use Rattle.std.proofs.Common.{◌∙◌, ap, false, arith}
use Rattle.std.specs.Prelude.{slice_index_or}
use Rattle.gx_model.specs.Histories.Values.{commit_value}
use Rattle.gx_model.specs.Laws.RepositoryLaws.{values_of}
use Rattle.gx_model.proofs.Records.HeldValues.{commit_held, peeled_to}
use Rattle.gx_model.proofs.Revisions.Marking.{mark_tells}
use Rattle.gx_model.proofs.Records.PeeledRefs.{not_unpeeled, target_peels}
use Rattle.gx_model.proofs.Records.Standing.{at_within, commit_at_place}
use Rattle.gx_rev.specs.Objects.{commit_at, value_at}
use Rattle.gx_rev.proofs.RefTips.{tip_is}
use Rattle.gx_export.proofs.branches.is_set.Goals as goal

pub place_of-place-requires : goal.place_of-place-requires
place_of-place-requires g c =
    let name = g.N.Namer.name_of c.args.repo.now.0 in
    let namer = g.met.N.Namer.is_namer c.args.repo.now.0 in
    let r = c.args.repo.now.1 in
    let n = c.args.object.now.bytes in
    let t = c.requires.target in
    let held = (peeled_to name namer r c.sound.ensures n c.in-Some.commit.bytes (target_peels name namer r c.sound.ensures t.0 n t.1).held c.in-Some.ensures.commit).1 in
    commit_held name namer r c.sound.ensures c.in-Some.commit.bytes held

pub bounds-set-place : goal.bounds-set-place
bounds-set-place g c =
    let r = c.args.repo.now.1 in
    let within = at_within (values_of r) c.place_of-place.result (value_at r c.in-Some.commit) c.place_of-place.ensures in
    omega (arith, within, c.requires.long)

pub returns-in_default : goal.returns-in_default
returns-in_default g c =
    let t = c.requires.target in
    absurd (not_unpeeled (g.N.Namer.name_of c.args.repo.now.0) (g.met.N.Namer.is_namer c.args.repo.now.0) c.args.repo.now.1 c.sound.ensures t.0 c.args.object.now.bytes t.1 c.in_default.ensures.commit)

pub returns : goal.returns
returns g c = λ test e.
    let name = g.N.Namer.name_of c.args.repo.now.0 in
    let namer = g.met.N.Namer.is_namer c.args.repo.now.0 in
    let r = c.args.repo.now.1 in
    let n = c.args.object.now.bytes in
    let t = c.requires.target in
    let place = c.place_of-place.result in
    let held = (peeled_to name namer r c.sound.ensures n c.in-Some.commit.bytes (target_peels name namer r c.sound.ensures t.0 n t.1).held c.in-Some.ensures.commit).1 in
    ap (λ marks. slice_index_or marks place false) e
    ∙ mark_tells (values_of r) test place (commit_value (commit_at r c.in-Some.commit)) false (commit_at_place name namer r c.sound.ensures c.in-Some.commit.bytes place held c.place_of-place.ensures)
    ∙ ap test (tip_is name namer r c.sound.ensures t.0 n c.in-Some.commit.bytes t.1 c.in-Some.ensures.commit)
