use Rattle.std.proofs.Common.{Err, subst, sym}
use Rattle.gx_placed.specs.Places.{shown_object}
use Rattle.gx_placed.specs.Steps.{PutsLast}
use Rattle.gx_placed.proofs.Last.{may_not, may_stand}
use Rattle.gx_placed.proofs.frame.Frame.put_into.Goals as goal

pub returns-in-Ok-clause-puts : goal.returns-in-Ok-clause-puts
returns-in-Ok-clause-puts g c = λ ready.
    may_stand (g.N.Namer.name_of c.args.repo.now.0) c.args.repo.now.1.records c.add_body.new.self.1.records (shown_object c.args.self.object) ready (tt {0}) c.args.self.place c.in-Ok.field-0 c.in-Ok.ensures.adds

pub returns-clause-puts : goal.returns-clause-puts
returns-clause-puts g c = λ ready.
    subst (λ f. PutsLast {X = Unit {0}} c.args.repo.now.1.records c.add_body.new.self.1.records c.args.self.place (shown_object c.args.self.object) (Err f)) (sym c.fault_at.ensures)
    (may_not (g.N.Namer.name_of c.args.repo.now.0) c.args.repo.now.1.records c.add_body.new.self.1.records (shown_object c.args.self.object) ready (Unit {0}) c.args.self.place c.in-Err.fault c.in-Err.ensures.adds)
