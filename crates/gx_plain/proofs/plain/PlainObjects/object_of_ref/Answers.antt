use Rattle.std.proofs.Common.{drop, sym, subst}
use Rattle.std.specs.Prelude.{IfSome}
use Rattle.std.proofs.lemmas.Option.{IfSome_then}
use Rattle.gx_model.specs.Texts.{Bytes}
use Rattle.gx_objects.specs.Answers.{FindsRef}
use Rattle.gx_look.specs.Refs.{AreLines}
use Rattle.gx_plain.proofs.RoomsRead.{from_place}
use Rattle.gx_plain.specs.Plain.{told_by}
use Rattle.gx_plain.proofs.PlainTexts.{lines_tell}
use Rattle.gx_plain.proofs.plain.PlainObjects.object_of_ref.Goals as goal

pub returns-clause-object : goal.returns-clause-object
returns-clause-object g c =
    let it = c.self.inside in
    let told = g.S.ReadAt.text it.source in
    let name = g.N.Namer.name_of it.namer in
    let namer = g.met.N.Namer.is_namer it.namer in
    let tells = lines_tell name told it.version it.listing it.tail c.self.invariant namer (c.stores_are_read.ensures name namer) in
    subst (λ v. IfSome (told_by (g.N.Namer.name_of v.0) v.1) (λ r. FindsRef c.args.name.now r c.find_by_names.result)) c.self.view_is
    (IfSome_then (told_by name told) tells (λ r lines.
    let held = subst (λ (z : Bytes). AreLines (drop it.tail.refs z) r.refs) (sym c.as_slice.ensures.value) lines in
    c.find_by_names.ensures r.refs (subst (λ (z : Bytes). AreLines z r.refs) (sym (from_place it.tail.refs c.as_slice.result.now)) held)))
