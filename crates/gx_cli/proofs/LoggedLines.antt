-- What is printed where the lines of a source are words, too.
use Rattle.std.proofs.Common.{◌≡◌, refl, sym, subst, Bool, true, false, List, [], ◌++◌, append-nil, map, ℕ, Option, None, Some, Result, Ok, Err}
use Rattle.std.specs.declared.vec.Vec.{Vec}
use Rattle.gx_model.specs.declared.objects.Kind.{Kind}
use Rattle.gx_model.specs.Histories.{Records}
use Rattle.gx_model.specs.Records.HistoryOf.{history_of}
use Rattle.gx_model.specs.Texts.{Bytes}
use Rattle.gx_model.specs.Texts.Sinks.{Taken}
use Rattle.gx_stream.specs.Heard.{heard}
use Rattle.gx_text.specs.Devices.{Coming}
use Rattle.gx_batch.specs.Lines.{lines_from}
use Rattle.gx_batch.specs.declared.ending.LineEnding.TheVariants.{Lf}
use Rattle.gx_asks.specs.declared.question.LogOptions.{LogOptions}
use Rattle.gx_cli.specs.Answers.{IsRefusal, Prints}
use Rattle.gx_cli.specs.Gathering.{AreLines, GathersLines}
use Rattle.gx_cli.specs.Logs.{LogsFrom, LogsRead}
use Rattle.gx_print.specs.Logs.{log_text}
use Rattle.gx_print.specs.Stored.{Printed, Refusal, of_word}
use Rattle.gx_cli.specs.declared.fault.CliFault.{CliFault}
use Rattle.gx_cli.specs.declared.fault.CliFault.TheVariants.{OutOfMemory, ReadFailed}
use Rattle.gx_model.proofs.Texts.SentTexts.{took_nothing}
use Rattle.gx_print.proofs.ReadSteps.{nothing_in_front}

-- no text that is given is answered as a failed read
no_refusal : (refusal : Refusal) → IsRefusal refusal ReadFailed → ⊥
no_refusal (of_word n f) h = h

-- memory may run out before anything is printed
pub nothing_out : (given : Printed) (was : Option Taken) → Prints given was was (Err OutOfMemory)
nothing_out given was = ([], nothing_in_front given, took_nothing was)

module _ (name : Kind → Bytes → Bytes) (options : LogOptions) (repository : Records) where
  lines_unread : (A : Type 0) (words lines : List Bytes) (fails : Bool) (was : Option Taken) (fault : CliFault) → AreLines {A = A} lines fails (Err fault) → LogsRead name options repository words fails was was (Err fault)
  lines_unread A words lines fails was ReadFailed h = (h, refl)
  lines_unread A words lines fails was OutOfMemory h = nothing_out (log_text name options (history_of repository) words) was
  lines_unread A words lines fails was fault h = absurd h

  -- nothing is printed where a source isn't read
  pub source_unread : (A : Type 0) (words : List Bytes) (coming : Option Coming) (was : Option Taken) (fault : CliFault) → GathersLines {A = A} coming (Err fault) → LogsFrom name options true repository words coming was was (Err fault)
  source_unread A words None was fault h = (h.0, lines_unread A (words ++ lines_from Lf h.0) (lines_from Lf h.0) h.0.fails was fault h.1)
  source_unread A words (Some c) was fault h = lines_unread A (words ++ lines_from Lf (heard c)) (lines_from Lf (heard c)) (heard c).fails was fault h

  lines_read : (words : List Bytes) (fails : Bool) (was now : Option Taken) (answer : Result (Unit {0}) CliFault) → fails ≡ false → Prints (log_text name options (history_of repository) words) was now answer → LogsRead name options repository words fails was now answer
  lines_read words fails was now (Err ReadFailed) e h = absurd (no_refusal h.0 h.2)
  lines_read words fails was now (Err OutOfMemory) e h = h
  lines_read words fails was now answer e h = (e, h)

  -- what is printed of words and of the lines that were read
  pub source_read : {A : Type 0} (words : List Bytes) (coming : Option Coming) (read : Vec (Vec ℕ A) A) (was now : Option Taken) (answer : Result (Unit {0}) CliFault) → GathersLines coming (Ok read)
      → Prints (log_text name options (history_of repository) (words ++ map (λ line. line.items) read.items)) was now answer → LogsFrom name options true repository words coming was now answer
  source_read words None read was now answer h k =
      (h.0, lines_read (words ++ lines_from Lf h.0) h.0.fails was now answer h.1.0 (subst (λ lines. Prints (log_text name options (history_of repository) (words ++ lines)) was now answer) h.1.1 k))
  source_read words (Some c) read was now answer h k =
      lines_read (words ++ lines_from Lf (heard c)) (heard c).fails was now answer h.0 (subst (λ lines. Prints (log_text name options (history_of repository) (words ++ lines)) was now answer) h.1 k)

  -- what is printed of words and of no line
  pub no_lines : (words : List Bytes) (was now : Option Taken) (answer : Result (Unit {0}) CliFault) → Prints (log_text name options (history_of repository) (words ++ [])) was now answer → Prints (log_text name options (history_of repository) words) was now answer
  no_lines words was now answer h = subst (λ ws. Prints (log_text name options (history_of repository) ws) was now answer) (append-nil words) h

  -- where lines are asked for, and where they aren't
  pub logs_lines : (stdin : Bool) (words : List Bytes) (coming : Option Coming) (was now : Option Taken) (answer : Result (Unit {0}) CliFault) → stdin ≡ true → LogsFrom name options true repository words coming was now answer → LogsFrom name options stdin repository words coming was now answer
  logs_lines stdin words coming was now answer e h = subst (λ b. LogsFrom name options b repository words coming was now answer) (sym e) h

  pub logs_words : (stdin : Bool) (words : List Bytes) (coming : Option Coming) (was now : Option Taken) (answer : Result (Unit {0}) CliFault) → stdin ≡ false → Prints (log_text name options (history_of repository) words) was now answer → LogsFrom name options stdin repository words coming was now answer
  logs_words stdin words coming was now answer e h = subst (λ b. LogsFrom name options b repository words coming was now answer) (sym e) h
