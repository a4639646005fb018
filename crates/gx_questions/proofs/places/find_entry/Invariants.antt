use Rattle.gx_questions.proofs.ReadEntries.{IsLeftOf}
use Rattle.gx_questions.proofs.places.find_entry.Given as goal

abbrev pub invariant-loop-entry : goal.invariant-loop-entry
invariant-loop-entry l = IsLeftOf l.body l.component l.reader.entries

abbrev pub decreases-loop-entry : goal.decreases-loop-entry
decreases-loop-entry l = l.reader.most
