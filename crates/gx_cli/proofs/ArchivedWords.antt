-- Archives of revisions, as they are printed.
use Rattle.std.proofs.Common.{◌≡◌, refl, sym, ap, subst, [], Option, Result, Ok, Err}
use Rattle.std.specs.Result.{result_map_both}
use Rattle.gx_model.specs.Faults.{Given, IsFaultOf, ◌>>=◌}
use Rattle.gx_model.specs.Texts.{Bytes}
use Rattle.gx_model.specs.Texts.Sinks.{Taken}
use Rattle.gx_archive.specs.Writing.{Delivers}
use Rattle.gx_archive.specs.declared.fault.ArchiveFault.{ArchiveFault}
use Rattle.gx_archive.specs.declared.fault.ArchiveFault.TheVariants as archive
use Rattle.gx_rev.specs.RevFaults.{fault_of}
use Rattle.gx_rev.specs.declared.fault.RevFault.{RevFault}
use Rattle.gx_rev.specs.declared.fault.RevFault.TheVariants.{OutOfMemory}
use Rattle.gx_cli.specs.Answers.{Prints}
use Rattle.gx_cli.specs.Gathering.{of_archive}
use Rattle.gx_print.specs.Stored.{of_word, only_word}
use Rattle.gx_cli.specs.Words.{refused_at}
use Rattle.gx_cli.specs.declared.fault.CliFault.TheVariants as cli
use Rattle.gx_print.proofs.ReadSteps.{nothing_in_front}
use Rattle.gx_cli.proofs.SentLines.{given_text}
use Rattle.gx_model.proofs.Texts.SentTexts.{took_nothing}

-- what isn't given, and nothing printed
not_given : (given : Given Bytes) (was : Option Taken) (kind : RevFault) → given ≡ Err (fault_of kind) → Prints (only_word given) was was (Err (refused_at 1 kind))
not_given given was OutOfMemory e = ([], nothing_in_front (only_word given), took_nothing was)
not_given given was kind e = (of_word 1 (fault_of kind), ap only_word e, (refl, refl), took_nothing was)

-- the archive that is given, or why none is
pub archive_printed : (given : Given Bytes) (was now : Option Taken) (answer : Result (Unit {0}) ArchiveFault) → Delivers given was now answer → Prints (only_word given) was now (result_map_both (λ done. done) of_archive answer)
archive_printed given was now (Ok u) h = (h.0, ap only_word h.1, h.2)
archive_printed given was now (Err archive.WriteFailed) h = (h.0, ap only_word h.1, h.2)
archive_printed given was now (Err archive.OutOfMemory) h = given_text (only_word given) h.0 was now (Err cli.OutOfMemory) (ap only_word h.1) h.2
archive_printed given was now (Err (archive.Revision kind)) h = subst (λ t. Prints (only_word given) was t (Err (refused_at 1 kind))) (sym h.1) (not_given given was kind h.0)

-- the word isn't a revision, and nothing printed
pub unread_word : {A : Type 0} (read : Given A) (given : A → Given Bytes) (was : Option Taken) (kind : RevFault) → IsFaultOf (fault_of kind) read → Prints (only_word (read >>= given)) was was (Err (refused_at 1 kind))
unread_word read given was OutOfMemory i = ([], nothing_in_front (only_word (read >>= given)), took_nothing was)
unread_word read given was kind i = (of_word 1 (fault_of kind), ap (λ r. only_word (r >>= given)) i, (refl, refl), took_nothing was)
