use Rattle.std.proofs.Common.{rules, ◌≡◌, Some}
use Rattle.std.specs.Option.{option_map}
use Rattle.gx_model.specs.Histories.{object_of}
use Rattle.gx_model.specs.Records.Growth.{record_named}
use Rattle.gx_objects.proofs.Named.{named_found}
use Rattle.gx_objects.proofs.repository.RepoObjects.object.Goals as goal

pub returns-in-Some-clause-named : goal.returns-in-Some-clause-named
returns-in-Some-clause-named g c =
    let r = c.args.self.now.1 in
    let found : Some (c.in-Some.kind, c.in-Some.body.now) ≡ option_map object_of (record_named c.args.self.now.1.records c.args.name.now.bytes) = search rules in
    named_found (g.N.Namer.name_of c.args.self.now.0) r.records c.args.name.now.bytes (c.in-Some.kind, c.in-Some.body.now) c.sound.ensures.named found
