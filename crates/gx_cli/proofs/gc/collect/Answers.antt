use Rattle.std.proofs.Common.{inl, subst, sym}
use Rattle.gx_cli.specs.Serving.{EndsCollected, IsRefused}
use Rattle.gx_cli.proofs.CollectedStores.{text_collected}
use Rattle.gx_cli.proofs.gc.collect.Goals as goal

pub returns-then-keeps : goal.returns-then-keeps
returns-then-keeps g c = subst (λ k. EndsCollected (g.N.Namer.name_of c.args.repo.0) k c.args.repo.1 c.refused.result) (sym c.if-keeps.true) c.refused.ensures

pub returns-in-Ok : goal.returns-in-Ok
returns-in-Ok g c =
    subst (λ k. EndsCollected (g.N.Namer.name_of c.args.repo.0) k c.args.repo.1 c.with_text.result) (sym c.if-keeps.false)
    (text_collected g.N.Namer.name_of c.args.repo c.in-Ok.left c.in-Ok.field-0-1 c.with_text.result c.in-Ok.ensures c.with_text.ensures)

pub returns-in-Err : goal.returns-in-Err
returns-in-Err g c =
    subst (λ k. EndsCollected (g.N.Namer.name_of c.args.repo.0) k c.args.repo.1 c.refused-in-Err.result) (sym c.if-keeps.false)
    (inl (subst (λ f. IsRefused f c.refused-in-Err.result) c.in-Err.ensures c.refused-in-Err.ensures))
