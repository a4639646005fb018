use Rattle.std.proofs.Common.{subst, sym}
use Rattle.gx_cli.specs.Forms.{ExportsAs}
use Rattle.gx_cli.proofs.export.export_as.Goals as goal

pub returns-in-FullTree : goal.returns-in-FullTree
returns-in-FullTree g c =
    subst (λ form. ExportsAs (g.N.Namer.name_of c.args.repo.now.0) form c.args.repo.now.1 (g.W.Sink.taken c.args.sink.now) (g.W.Sink.taken c.export.new.sink) c.export.result) (sym c.in-FullTree.is) c.export.ensures

pub returns-in-Changes : goal.returns-in-Changes
returns-in-Changes g c =
    subst (λ form. ExportsAs (g.N.Namer.name_of c.args.repo.now.0) form c.args.repo.now.1 (g.W.Sink.taken c.args.sink.now) (g.W.Sink.taken c.export_changes.new.sink) c.export_changes.result) (sym c.in-Changes.is) c.export_changes.ensures
