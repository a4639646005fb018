use Rattle.std.proofs.Common.{◌≡◌, ◌∙◌, Some, sym, ap}
use Rattle.std.specs.List.{slice_get}
use Rattle.std.specs.Option.{option_map}
use Rattle.gx_model.specs.Histories.{object_of}
use Rattle.gx_model.specs.Records.Growth.{record_named}
use Rattle.gx_objects.proofs.Named.{named_found, record_there}
use Rattle.gx_objects.proofs.repository.RepoObjects.object_at.Goals as goal

pub returns-clause-held : goal.returns-clause-held
returns-clause-held g c =
    let there = record_there c.args.self.now.1.records c.args.name.now.bytes c.args.place c.requires.there in
    ap (option_map object_of) (c.in-Some.ensures ∙ ap (λ store. slice_get store.1 c.args.place) c.store.ensures.held ∙ there.1 ∙ sym there.2)

pub returns-clause-named : goal.returns-clause-named
returns-clause-named g c =
    let records = c.args.self.now.1.records in
    let there = record_there records c.args.name.now.bytes c.args.place c.requires.there in
    let found : Some (c.in-Some.kind, c.in-Some.body.now) ≡ option_map object_of (record_named records c.args.name.now.bytes) =
    ap (option_map object_of) (c.in-Some.ensures ∙ ap (λ store. slice_get store.1 c.args.place) c.store.ensures.held ∙ there.1 ∙ sym there.2) in
    named_found (g.N.Namer.name_of c.args.self.now.0) records c.args.name.now.bytes (c.in-Some.kind, c.in-Some.body.now) c.sound.ensures.named found
