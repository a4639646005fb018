use Rattle.std.proofs.Common.{ap, ◌∙◌}
use Rattle.gx_store.specs.Bodies.{bytes_of}
use Rattle.gx_store.proofs.store.Store.put_body.Goals as goal

pub insert-requires-clause-named : goal.insert-requires-clause-named
insert-requires-clause-named g c =
    c.name-name.ensures ∙ ap (g.N.Namer.name_of c.self.inside.namer c.args.kind) c.as_slice.ensures
    ∙ ap (λ v. g.N.Namer.name_of v.0 c.args.kind (bytes_of c.args.body)) c.self.view_is
