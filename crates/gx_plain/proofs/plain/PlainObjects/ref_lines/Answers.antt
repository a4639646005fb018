use Rattle.std.proofs.Common.{◌≡◌, drop, refl, sym, subst, Option, Some, None}
use Rattle.std.specs.Prelude.{IfSome}
use Rattle.std.specs.List.{flat_map}
use Rattle.std.proofs.lemmas.Option.{IfSome_then}
use Rattle.gx_model.proofs.Texts.Cuts.{some_is}
use Rattle.gx_model.specs.Histories.{Records}
use Rattle.gx_model.specs.Texts.{Bytes}
use Rattle.gx_model.specs.Stores.StoreText.{stored_ref}
use Rattle.gx_plain.specs.Plain.{told_by}
use Rattle.gx_look.specs.Refs.{AreLines}
use Rattle.gx_plain.proofs.SoundRefs.{lines_of}
use Rattle.gx_plain.proofs.RoomsRead.{from_place}
use Rattle.gx_plain.proofs.PlainTexts.{lines_tell}
use Rattle.gx_plain.proofs.plain.PlainObjects.ref_lines.Goals as goal

-- where nothing is left, none is told
nothing : (told : Option Records) → IfSome told (λ r. None ≡ Some (flat_map stored_ref r.refs)) → told ≡ None
nothing None h = refl
nothing (Some r) h = absurd (cc)

pub returns-in-Some-clause-lines : goal.returns-in-Some-clause-lines
returns-in-Some-clause-lines g c =
    let it = c.self.inside in
    let told = g.S.ReadAt.text it.source in
    let name = g.N.Namer.name_of it.namer in
    let namer = g.met.N.Namer.is_namer it.namer in
    let tells = lines_tell name told it.version it.listing it.tail c.self.invariant namer (c.stores_are_read.ensures name namer) in
    subst (λ v. IfSome (told_by (g.N.Namer.name_of v.0) v.1) (λ r. c.in-Some.refs.now ≡ flat_map stored_ref r.refs)) c.self.view_is
    (IfSome_then (told_by (g.N.Namer.name_of it.namer) told) tells (λ r lines.
    let held = subst (λ (z : Bytes). AreLines (drop it.tail.refs z) r.refs) (sym c.as_slice.ensures.value) lines in
    some_is c.in-Some.refs.now (flat_map stored_ref r.refs) (c.in-Some.ensures r.refs (subst (λ (z : Bytes). AreLines z r.refs) (sym (from_place it.tail.refs c.as_slice.result.now)) held))))

pub returns-in-None-clause-fault : goal.returns-in-None-clause-fault
returns-in-None-clause-fault g c = λ same.
    let it = c.self.inside in
    let told = g.S.ReadAt.text it.source in
    let name = g.N.Namer.name_of it.namer in
    let namer = g.met.N.Namer.is_namer it.namer in
    let tells = lines_tell name told it.version it.listing it.tail c.self.invariant namer (c.stores_are_read.ensures name namer) in
    subst (λ v. told_by (g.N.Namer.name_of v.0) v.1 ≡ None) c.self.view_is
    (nothing (told_by (g.N.Namer.name_of it.namer) told) (IfSome_then (told_by (g.N.Namer.name_of it.namer) told) tells (λ r lines.
    let held = subst (λ (z : Bytes). AreLines (drop it.tail.refs z) r.refs) (sym c.as_slice.ensures.value) lines in
    c.in-None.ensures r.refs (subst (λ (z : Bytes). AreLines z r.refs) (sym (from_place it.tail.refs c.as_slice.result.now)) held))))

pub returns-in-Some-clause-spelled : goal.returns-in-Some-clause-spelled
returns-in-Some-clause-spelled g c =
    let it = c.self.inside in
    let l = c.self.invariant.lines.lines in
    let held = subst (λ (z : Bytes). AreLines (drop it.tail.refs z) l.0) (sym c.as_slice.ensures.value) (lines_of (drop it.tail.refs it.tail.text.items) l.0 l.1 l.2) in
    (l.0, some_is c.in-Some.refs.now (flat_map stored_ref l.0) (c.in-Some.ensures l.0 (subst (λ (z : Bytes). AreLines z l.0) (sym (from_place it.tail.refs c.as_slice.result.now)) held)), l.2)
