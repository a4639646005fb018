use Rattle.std.proofs.Common.{List, subst}
use Rattle.std.specs.Prelude.{IfSome}
use Rattle.gx_growing_parts.specs.declared.runs.Run.{Run}
use Rattle.gx_objects.specs.Answers.{StandsThere}
use Rattle.gx_look.specs.Looking.{place_at, told_by, told_rows}
use Rattle.gx_look.specs.Rows.{PlacesIn}
use Rattle.gx_look.proofs.ToldPlaces.{place_answer}
use Rattle.gx_look.proofs.look.LookObjects.place.Goals as goal

pub returns-clause-place : goal.returns-clause-place
returns-clause-place g c =
    let it = c.self.inside in
    let told = g.S.ReadAt.text it.source in
    let called = c.args.name.now.bytes in
    let found = subst (λ (runs : List Run). PlacesIn told runs called c.in_ok-place.place) c.as_slice.ensures.value c.in_ok-place.ensures in
    subst (λ v. IfSome (told_by (g.N.Namer.name_of v.0) v.1) (λ r. StandsThere (place_at (told_rows (g.N.Namer.name_of v.0) v.1)) called r c.in_ok-place.place)) c.self.view_is
    (place_answer (g.N.Namer.name_of it.namer) (g.met.N.Namer.is_namer it.namer) told it.ends it.tail c.self.invariant called c.in_ok-place.place found)
