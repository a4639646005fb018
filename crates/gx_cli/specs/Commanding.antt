-- What is answered to a line of a batch with commands.
-- Source: git-cat-file(1), "--batch-command", which has `contents`, `info` and `flush`. git ends at a line that it doesn't know; here the
-- next one is answered.
use Rattle.std.specs.Prelude.{◌-◌, true, false, List, [], ◌∷◌, codes, Ok}
use Rattle.gx_model.specs.declared.objects.Kind.{Kind}
use Rattle.gx_model.specs.Histories.{Records}
use Rattle.gx_model.specs.Objects.{line}
use Rattle.gx_model.specs.Records.HistoryOf.{history_of}
use Rattle.gx_model.specs.Texts.{Bytes}
use Rattle.gx_batch.specs.Answers.{batch_answer, reason}
use Rattle.gx_batch.specs.declared.format.Part.{Part}
use Rattle.gx_print.specs.Asking.{Asked, answered_by, archive, asked_of, contents, flush, info, log, ls, no_options, refs, rev_parse, unknown}
use Rattle.gx_print.specs.Logs.{log_text}
use Rattle.gx_print.specs.Stored.{Printed, list_text, names_text, refs_text}
use Rattle.gx_cli.specs.Archived.{tar_text}

-- what a command prints of these words, or the word that is refused, and why
abbrev pub answered : Bytes → List Bytes → Printed → Bytes
answered command words given = answered_by reason command words given

module _ (name : Kind → Bytes → Bytes) (parts : List Part) (repository : Records) where
  -- what is answered to a line that asks this
  abbrev pub answer_to : Bytes → Asked → Bytes
  answer_to text (contents revision) = batch_answer name false parts (history_of repository) revision
  answer_to text (info revision) = batch_answer name true parts (history_of repository) revision
  answer_to text flush = []
  answer_to text refs = answered (codes "refs") [] (Ok (refs_text repository))
  answer_to text (ls recursive revision) = answered (codes "ls") (revision ∷ []) (list_text name recursive (history_of repository) revision)
  answer_to text (archive revision) = answered (codes "archive") (revision ∷ []) (tar_text name [] (history_of repository) revision)
  answer_to text (log words) = answered (codes "log") words (log_text name no_options (history_of repository) words)
  answer_to text (rev_parse words) = answered (codes "rev-parse") words (names_text name (history_of repository) words)
  answer_to text unknown = line text (codes "unknown")

  -- what is answered to a line
  abbrev pub command_answer : Bytes → Bytes
  command_answer text = answer_to text (asked_of text)
