use Rattle.std.proofs.Common.{Some, None, ◌≡◌, sym, subst}
use Rattle.std.specs.Prelude.{IfSome, slice_range}
use Rattle.std.specs.Option.{option_map}
use Rattle.std.proofs.lemmas.Result.{err_from_is_err_and}
use Rattle.gx_model.specs.Texts.{Bytes}
use Rattle.gx_model.specs.Histories.{object_of}
use Rattle.gx_model.specs.Records.Growth.{record_named}
use Rattle.gx_objects.specs.Answers.{StandsThere}
use Rattle.gx_look.specs.Looking.{place_at, told_by, told_rows}
use Rattle.gx_look.proofs.ToldNames.{record_tells, record_untold}
use Rattle.gx_look.proofs.ToldPlaces.{number_leads}
use Rattle.gx_look.proofs.look.LookObjects.object_at.Goals as goal

pub returns-in_err-standing-clause-fault : goal.returns-in_err-standing-clause-fault
returns-in_err-standing-clause-fault g c =
    let p = err_from_is_err_and c.from_residual.result c.from_residual.ensures.1 in
    let it = c.self.inside in
    let told = g.S.ReadAt.text it.source in
    let called = c.args.name.now.bytes in
    let there = subst (λ v. IfSome (told_by (g.N.Namer.name_of v.0) v.1) (λ r. StandsThere (place_at (told_rows (g.N.Namer.name_of v.0) v.1)) called r (Some c.args.place))) (sym c.self.view_is) c.requires.there in
    let tells = number_leads (g.N.Namer.name_of it.namer) (g.met.N.Namer.is_namer it.namer) told it.ends it.tail c.self.invariant called c.args.place there in
    rw (p.1, p.2) (λ same. subst (λ v. told_by (g.N.Namer.name_of v.0) v.1 ≡ None) c.self.view_is
    (record_untold (g.N.Namer.name_of it.namer) told it.ends c.args.place called c.read_record.new.room.items c.in_err-standing.field-0.0 tells c.in_err-standing.ensures.record same))

pub returns-clause-held : goal.returns-clause-held
returns-clause-held g c =
    let it = c.self.inside in
    let told = g.S.ReadAt.text it.source in
    let called = c.args.name.now.bytes in
    let there = subst (λ v. IfSome (told_by (g.N.Namer.name_of v.0) v.1) (λ r. StandsThere (place_at (told_rows (g.N.Namer.name_of v.0) v.1)) called r (Some c.args.place))) (sym c.self.view_is) c.requires.there in
    let tells = number_leads (g.N.Namer.name_of it.namer) (g.met.N.Namer.is_namer it.namer) told it.ends it.tail c.self.invariant called c.args.place there in
    let standing = c.in_ok-standing.standing in
    let told_so = record_tells (g.N.Namer.name_of it.namer) told it.ends c.args.place called c.read_record.new.room.items standing tells c.in_ok-standing.ensures.record in
    let seen = subst (λ v. IfSome (told_by (g.N.Namer.name_of v.0) v.1) (λ r. Some (standing.kind, slice_range c.read_record.new.room.items standing.start standing.end) ≡ option_map object_of (record_named r.records called))) c.self.view_is told_so in
    subst (λ (z : Bytes). IfSome (told_by (g.N.Namer.name_of c.args.self.now.0) c.args.self.now.1) (λ r. Some (standing.kind, slice_range z standing.start standing.end) ≡ option_map object_of (record_named r.records called))) (sym c.as_slice.ensures.value) seen
