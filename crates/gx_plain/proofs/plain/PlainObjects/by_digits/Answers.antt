use Rattle.std.proofs.Common.{subst}
use Rattle.std.specs.Prelude.{IfSome}
use Rattle.gx_objects.specs.Answers.{FindsBegun}
use Rattle.gx_store.specs.declared.prefix.Prefix.TheVariants.{Absent}
use Rattle.gx_plain.specs.Plain.{told_by}
use Rattle.gx_plain.proofs.PlainTexts.{digits_tell, no_digits_tell}
use Rattle.gx_plain.proofs.plain.PlainObjects.by_digits.Goals as goal

pub returns-in-Some-clause-name : goal.returns-in-Some-clause-name
returns-in-Some-clause-name g c =
    let it = c.self.inside in
    let name = g.N.Namer.name_of it.namer in
    let namer = g.met.N.Namer.is_namer it.namer in
    subst (λ v. IfSome (told_by (g.N.Namer.name_of v.0) v.1) (λ r. FindsBegun c.args.digits.now r c.found_between.result)) c.self.view_is
    (digits_tell name (g.S.ReadAt.text it.source) it.version it.listing it.tail c.self.invariant namer (c.stores_are_read.ensures name namer) c.args.digits.now c.in-Some.ends c.found_between.result c.in-Some.ensures.within c.found_between.ensures)

pub returns-in-None-clause-name : goal.returns-in-None-clause-name
returns-in-None-clause-name g c =
    let it = c.self.inside in
    let name = g.N.Namer.name_of it.namer in
    let namer = g.met.N.Namer.is_namer it.namer in
    subst (λ v. IfSome (told_by (g.N.Namer.name_of v.0) v.1) (λ r. FindsBegun c.args.digits.now r Absent)) c.self.view_is
    (no_digits_tell name (g.S.ReadAt.text it.source) it.version it.listing it.tail c.self.invariant namer (c.stores_are_read.ensures name namer) c.args.digits.now c.in-None.ensures.none)
