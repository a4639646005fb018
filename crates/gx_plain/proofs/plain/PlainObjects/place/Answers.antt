use Rattle.std.proofs.Common.{None, Some, sym, subst}
use Rattle.std.specs.Prelude.{IfSome}
use Rattle.gx_objects.specs.Answers.{StandsThere}
use Rattle.gx_listed.specs.Listings.{Listed}
use Rattle.gx_plain.proofs.ListedObjects.{some_listed, within_listed}
use Rattle.gx_plain.specs.Plain.{places_in, told_by}
use Rattle.gx_plain.proofs.PlainTexts.{none_tells, place_tells}
use Rattle.gx_plain.proofs.plain.PlainObjects.place.Goals as goal

pub returns-in_default-clause-place : goal.returns-in_default-clause-place
returns-in_default-clause-place g c =
    let it = c.self.inside in
    let n = c.args.name.now.bytes in
    subst (λ v. IfSome (told_by (g.N.Namer.name_of v.0) v.1) (λ r. StandsThere (places_in (g.N.Namer.name_of v.0) v.1) n r None)) c.self.view_is
    (none_tells (g.N.Namer.name_of it.namer) (g.S.ReadAt.text it.source) it.version it.listing it.tail c.self.invariant n c.in_default.ensures)

pub returns-in-Some-get-clause-place : goal.returns-in-Some-get-clause-place
returns-in-Some-get-clause-place g c =
    let it = c.self.inside in
    let n = c.args.name.now.bytes in
    let one : Listed = (c.in-Some-get._name, c.in-Some-get.standing) in
    subst (λ v. IfSome (told_by (g.N.Namer.name_of v.0) v.1) (λ r. StandsThere (places_in (g.N.Namer.name_of v.0) v.1) n r (Some c.in-Some-get.standing.place))) c.self.view_is
    (place_tells (g.N.Namer.name_of it.namer) (g.S.ReadAt.text it.source) it.version it.listing it.tail c.self.invariant n c.in-Some.number one c.in-Some.ensures (sym c.in-Some-get.ensures))

pub returns-in-None-clause-place : goal.returns-in-None-clause-place
returns-in-None-clause-place g c =
    let listed = c.self.inside.listing in
    let i = c.in-Some.number in
    absurd (some_listed listed i (within_listed listed c.args.name.now.bytes i c.in-Some.ensures) c.in-None.ensures)
