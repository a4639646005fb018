use Rattle.std.proofs.Common.{◌≡◌, None, Some, sym, subst}
use Rattle.std.specs.Prelude.{IfSome}
use Rattle.std.specs.Option.{option_map}
use Rattle.std.proofs.lemmas.Result.{err_from_is_err_and}
use Rattle.gx_model.specs.Texts.{Bytes}
use Rattle.gx_model.specs.Histories.{object_of}
use Rattle.gx_model.specs.Records.Growth.{record_named}
use Rattle.gx_objects.specs.Answers.{StandsThere}
use Rattle.gx_plain.specs.Plain.{places_in, told_by}
use Rattle.gx_plain.specs.Records.{body_in}
use Rattle.gx_plain.proofs.PlainTexts.{body_tells, fault_tells, unplaced}
use Rattle.gx_plain.proofs.plain.PlainObjects.object.Goals as goal

pub returns-in_default-clause-held : goal.returns-in_default-clause-held
returns-in_default-clause-held g c =
    let v = c.args.self.now in
    let name = g.N.Namer.name_of v.0 in
    unplaced (told_by name v.1) (places_in name v.1) c.args.name.now.bytes (rw c.in_default.is at c.in_ok-place.ensures.place)

pub returns-in_err-found-clause-fault : goal.returns-in_err-found-clause-fault
returns-in_err-found-clause-fault g c =
    let p = err_from_is_err_and c.from_residual-in_err-found.result c.from_residual-in_err-found.ensures.1 in
    let it = c.self.inside in
    let n = c.args.name.now.bytes in
    let there = subst (λ v. IfSome (told_by (g.N.Namer.name_of v.0) v.1) (λ r. StandsThere (places_in (g.N.Namer.name_of v.0) v.1) n r (Some c.in-Some.place))) (sym c.self.view_is) (rw c.in-Some.is at c.in_ok-place.ensures.place) in
    rw (p.1, p.2) (λ same. subst (λ v. told_by (g.N.Namer.name_of v.0) v.1 ≡ None) c.self.view_is
    (fault_tells (g.N.Namer.name_of it.namer) (g.S.ReadAt.text it.source) it.version it.listing it.tail c.self.invariant n c.in-Some.place there c.read_named.new.room.items c.in_err-found.field-0.0 c.in_err-found.ensures.record same))

pub returns-clause-held : goal.returns-clause-held
returns-clause-held g c =
    let it = c.self.inside in
    let n = c.args.name.now.bytes in
    let found = c.in_ok-found.found in
    let room = c.read_named.new.room.items in
    let there = subst (λ v. IfSome (told_by (g.N.Namer.name_of v.0) v.1) (λ r. StandsThere (places_in (g.N.Namer.name_of v.0) v.1) n r (Some c.in-Some.place))) (sym c.self.view_is) (rw c.in-Some.is at c.in_ok-place.ensures.place) in
    let tells = body_tells (g.N.Namer.name_of it.namer) (g.S.ReadAt.text it.source) it.version it.listing it.tail c.self.invariant n c.in-Some.place there room found c.in_ok-found.ensures.record in
    let seen = subst (λ v. IfSome (told_by (g.N.Namer.name_of v.0) v.1) (λ r. Some (found.kind, body_in room found) ≡ option_map object_of (record_named r.records n))) c.self.view_is tells in
    subst (λ (z : Bytes). IfSome (told_by (g.N.Namer.name_of c.args.self.now.0) c.args.self.now.1) (λ r. Some (found.kind, body_in z found) ≡ option_map object_of (record_named r.records n))) (sym c.as_slice.ensures.value) seen
