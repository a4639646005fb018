use Rattle.std.proofs.Common.{List, subst}
use Rattle.std.specs.Prelude.{IfSome}
use Rattle.gx_growing_parts.specs.declared.runs.Run.{Run}
use Rattle.gx_objects.specs.Answers.{FindsBegun}
use Rattle.gx_look.specs.Looking.{told_by}
use Rattle.gx_look.specs.Rows.{BegunIn}
use Rattle.gx_look.proofs.ToldBegun.{begun_tells, none_tells}
use Rattle.gx_look.proofs.look.LookObjects.by_digits.Goals as goal

pub returns-in_default-clause-name : goal.returns-in_default-clause-name
returns-in_default-clause-name g c = none_tells (g.N.Namer.name_of c.args.self.now.0) (g.met.N.Namer.is_namer c.args.self.now.0) c.args.self.now.1 c.args.digits.now c.in_default.ensures.none

pub returns-clause-name : goal.returns-clause-name
returns-clause-name g c =
    let it = c.self.inside in
    let told = g.S.ReadAt.text it.source in
    let found = subst (λ (runs : List Run). BegunIn told runs c.in-Some.ends c.in_ok-found.found) c.as_slice.ensures.value c.in_ok-found.ensures in
    subst (λ v. IfSome (told_by (g.N.Namer.name_of v.0) v.1) (λ r. FindsBegun c.args.digits.now r c.in_ok-found.found)) c.self.view_is
    (begun_tells (g.N.Namer.name_of it.namer) (g.met.N.Namer.is_namer it.namer) told it.ends it.tail c.self.invariant c.args.digits.now c.in-Some.ends c.in_ok-found.found c.in-Some.ensures.within found)
