use Rattle.std.proofs.Common.{length, subst}
use Rattle.std.specs.Prelude.{IfSome}
use Rattle.gx_objects.specs.Answers.{GoesUp}
use Rattle.gx_plain.specs.Plain.{places_in, told_by}
use Rattle.gx_plain.proofs.PlainTexts.{order_tells, told_sound}
use Rattle.gx_plain.proofs.plain.PlainObjects.sound_if_told.Goals as goal

pub returns-clause-sound : goal.returns-clause-sound
returns-clause-sound g c =
    let name = g.N.Namer.name_of c.args.self.now.0 in
    told_sound name (c.stores_are_read.ensures name (g.met.N.Namer.is_namer c.args.self.now.0)) c.args.self.now.1

pub returns-clause-order : goal.returns-clause-order
returns-clause-order g c =
    let it = c.self.inside in
    subst (λ v. IfSome (told_by (g.N.Namer.name_of v.0) v.1) (λ r. GoesUp (places_in (g.N.Namer.name_of v.0) v.1) (length r.records))) c.self.view_is
    (order_tells (g.N.Namer.name_of it.namer) (g.S.ReadAt.text it.source) it.version it.listing it.tail c.self.invariant)
