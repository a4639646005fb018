use Rattle.std.proofs.Common.{refl, sym}
use Rattle.gx_object.specs.Entries.{shown}
use Rattle.gx_questions.proofs.ReadEntries.{first_left, left_bad, left_end, left_here, left_next, on_err}
use Rattle.gx_questions.proofs.places.find_entry.Goals as goal

pub loop-entry-init : goal.loop-entry-init
loop-entry-init c = first_left c.args.body.now c.args.component.now c.new-reader.result.entries c.new-reader.ensures.only

pub returns-in_err-entry-clause-fault : goal.returns-in_err-entry-clause-fault
returns-in_err-entry-clause-fault c = on_err c.from_residual.result _ (left_bad c.args.body.now c.args.component.now c.loop-entry.reader.entries c.in_err-entry.ensures.fault c.loop-entry.invariant)

pub returns-then-eq-clause-found : goal.returns-then-eq-clause-found
returns-then-eq-clause-found c =
    let entry = c.in-Some.entry in
    left_here c.args.body.now c.args.component.now (shown entry) c.loop-entry.reader.entries c.read.new.self.entries (rw c.in-Some.is at c.in_ok-entry.ensures.next) c.loop-entry.invariant (sym c.if-eq.ensures) (entry.mode, entry.name) refl

pub loop-entry-smaller : goal.loop-entry-smaller
loop-entry-smaller c = rw c.in-Some.is at c.in_ok-entry.ensures.most

pub loop-entry-preserved : goal.loop-entry-preserved
loop-entry-preserved c =
    left_next c.args.body.now c.args.component.now (shown c.in-Some.entry) c.loop-entry.reader.entries c.read.new.self.entries (rw c.in-Some.is at c.in_ok-entry.ensures.next) c.loop-entry.invariant (sym c.if-eq.ensures)

pub returns-clause-found : goal.returns-clause-found
returns-clause-found c = left_end c.args.body.now c.args.component.now c.loop-entry.reader.entries (rw c.in_default.is at c.in_ok-entry.ensures.end) c.loop-entry.invariant
