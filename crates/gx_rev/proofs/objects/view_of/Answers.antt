use Rattle.gx_model.proofs.Records.HeldValues.{commit_text_held, kind_held}
use Rattle.gx_model.specs.declared.objects.Kind.TheVariants as kinds
use Rattle.gx_rev.specs.Objects.{commit_at}
use Rattle.gx_model.specs.Records.{parts_of_commit}
use Rattle.gx_rev.proofs.objects.view_of.Goals as goal

pub body_of-body-requires : goal.body_of-body-requires
body_of-body-requires g c =
    (kind_held (g.N.Namer.name_of c.args.repo.now.0) (g.met.N.Namer.is_namer c.args.repo.now.0) c.args.repo.now.1 c.sound.ensures kinds.Commit c.args.commit.now.bytes c.requires).0

pub unreachable-requires : goal.unreachable-requires
unreachable-requires g c =
    let name = g.N.Namer.name_of c.args.repo.now.0 in
    let namer = g.met.N.Namer.is_namer c.args.repo.now.0 in
    let r = c.args.repo.now.1 in
    c.in_default.ensures.only (parts_of_commit name (commit_at r c.args.commit.now)) (commit_text_held name namer r c.sound.ensures c.args.commit.now.bytes c.body_of-body.result.now c.requires c.body_of-body.ensures)

pub returns : goal.returns
returns g c =
    let name = g.N.Namer.name_of c.args.repo.now.0 in
    let namer = g.met.N.Namer.is_namer c.args.repo.now.0 in
    let r = c.args.repo.now.1 in
    c.in-Ok.ensures.only (parts_of_commit name (commit_at r c.args.commit.now)) (commit_text_held name namer r c.sound.ensures c.args.commit.now.bytes c.body_of-body.result.now c.requires c.body_of-body.ensures)
