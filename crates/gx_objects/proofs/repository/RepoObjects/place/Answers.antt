use Rattle.std.proofs.Common.{◌∙◌, ap}
use Rattle.gx_store.specs.Stores.{place_named}
use Rattle.gx_objects.proofs.Named.{same_number}
use Rattle.gx_objects.proofs.repository.RepoObjects.place.Goals as goal

pub returns-in-Some-clause-place : goal.returns-in-Some-clause-place
returns-in-Some-clause-place g c =
    let called = c.args.name.now.bytes in
    c.in-Some.ensures ∙ ap (λ store. place_named store.1 called) c.store.ensures.held ∙ same_number (place_named c.args.self.now.1.records called)

pub returns-in-None-clause-place : goal.returns-in-None-clause-place
returns-in-None-clause-place g c =
    let called = c.args.name.now.bytes in
    c.in-None.ensures ∙ ap (λ store. place_named store.1 called) c.store.ensures.held ∙ same_number (place_named c.args.self.now.1.records called)
