use Rattle.gx_object.specs.Commits.{bytes_of_names}
use Rattle.gx_cli.proofs.CollectedStores.{repository_collected}
use Rattle.gx_cli.proofs.gc.collect_opened.Goals as goal

pub returns-in-Ok : goal.returns-in-Ok
returns-in-Ok g c =
    let names = g.N.Namer.name_of c.args.repo.0 in
    let namer = g.met.N.Namer.is_namer c.args.repo.0 in
    repository_collected g.N.Namer.name_of (bytes_of_names c.args.kept.now) c.args.repo c.prune.new.self c.in-Ok.gone namer (c.pruned_stands.ensures names namer) (c.pruned_answers.ensures names namer) c.sound.ensures
    c.prune.ensures.namer c.in-Ok.ensures.pruned c.in-Ok.ensures.objects c.in-Ok.ensures.bytes
