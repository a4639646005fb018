-- Archives of revisions, as they are printed.
use Rattle.std.proofs.Common.{◌≡◌, ap, subst, sym, inl, inr, [], Option, Result, Ok, Err}
use Rattle.std.specs.Result.{result_map_both}
use Rattle.gx_model.specs.Faults.{Given, IsFaultOf, ◌>>=◌}
use Rattle.gx_model.specs.Texts.{Bytes}
use Rattle.gx_model.specs.Texts.Sinks.{Taken}
use Rattle.gx_model.proofs.Texts.SentTexts.{took_nothing}
use Rattle.gx_archive.specs.Asked.{DeliversAsked, StopsWithin}
use Rattle.gx_archive.specs.declared.fault.AskedArchiveFault.{AskedArchiveFault}
use Rattle.gx_archive.specs.declared.fault.AskedArchiveFault.TheVariants as archive
use Rattle.gx_print.specs.Stored.{only_word}
use Rattle.gx_print.proofs.ReadSteps.{nothing_in_front}
use Rattle.gx_questions.specs.Answers.{of_revision}
use Rattle.gx_rev.specs.RevFaults.{fault_of}
use Rattle.gx_rev.specs.declared.fault.RevFault.{RevFault}
use Rattle.gx_rev.specs.declared.fault.RevFault.TheVariants as rev
use Rattle.gx_told.specs.Archiving.{of_archive}
use Rattle.gx_told.specs.Faults.{refused_at}
use Rattle.gx_told.specs.Printing.{Prints, PrintsFront}
use Rattle.gx_told.proofs.Prints.{none_printed}

-- a front of an archive went out, or nothing
front_printed : (given : Given Bytes) (was now : Option Taken) → StopsWithin given was now → PrintsFront (only_word given) was now
front_printed given was now (inl same) = subst (λ t. PrintsFront (only_word given) was t) (sym same) ([], nothing_in_front (only_word given), took_nothing was)
front_printed given was now (inr h) =
    let front = h.2 in
    subst (λ g. PrintsFront g was now) (sym (ap only_word h.1)) (front.0, (front.1, front.2), front.3)

-- the archive that is given, or why none is
pub archive_printed : (given : Given Bytes) (was now : Option Taken) (answer : Result (Unit {0}) AskedArchiveFault) → DeliversAsked given was now answer → Prints (only_word given) was now (result_map_both (λ done. done) of_archive answer)
archive_printed given was now (Ok u) h = (h.0, ap only_word h.1, h.2)
archive_printed given was now (Err archive.WriteFailed) h = (h.0, ap only_word h.1, h.2)
archive_printed given was now (Err archive.OutOfMemory) h = front_printed given was now h
archive_printed given was now (Err archive.ReadFailed) h = front_printed given was now h
archive_printed given was now (Err archive.Damaged) h = h
archive_printed given was now (Err (archive.Revision kind)) h = subst (λ t. Prints (only_word given) was t (Err (of_archive (archive.Revision kind)))) (sym h.1) (ap only_word h.0, took_nothing was)

-- the word isn't a revision, and nothing is printed
pub unread_word : {X : Type 0} (read : Given X) (given : X → Given Bytes) (was : Option Taken) (kind : RevFault) → IsFaultOf (fault_of kind) read → Prints (only_word (read >>= given)) was was (Err (refused_at 1 (of_revision kind)))
unread_word read given was rev.OutOfMemory i = none_printed (only_word (read >>= given)) was
unread_word read given was kind i = (ap (λ r. only_word (r >>= given)) i, took_nothing was)
