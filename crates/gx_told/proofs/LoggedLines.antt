-- What is printed where the lines of a source are words, too.
use Rattle.std.proofs.Common.{◌≡◌, refl, sym, ap, subst, Bool, true, false, ℕ, List, [], ◌++◌, append-nil, map, Option, None, Some, Result, Ok, Err}
use Rattle.std.specs.Prelude.{IfSome}
use Rattle.std.specs.declared.vec.Vec.{Vec}
use Rattle.gx_model.specs.declared.objects.Kind.{Kind}
use Rattle.gx_model.specs.Faults.{◌>>=◌}
use Rattle.gx_model.specs.Histories.{Records}
use Rattle.gx_model.specs.Histories.Values.{Commit}
use Rattle.gx_model.specs.Records.HistoryOf.{history_of}
use Rattle.gx_model.specs.Revisions.{RangeWord}
use Rattle.gx_model.specs.Texts.{Bytes}
use Rattle.gx_model.specs.Texts.Sinks.{Taken}
use Rattle.gx_stream.specs.Heard.{heard}
use Rattle.gx_text.specs.Devices.{Coming}
use Rattle.gx_batch.specs.Batches.{AreRead, GivesLines}
use Rattle.gx_batch.specs.Lines.{lines_from}
use Rattle.gx_batch.specs.declared.ending.LineEnding.TheVariants.{Lf}
use Rattle.gx_batch.specs.declared.fault.BatchFault.{BatchFault}
use Rattle.gx_batch.specs.declared.fault.BatchFault.TheVariants as batch
use Rattle.gx_asks.specs.declared.question.LogOptions.{LogOptions}
use Rattle.gx_questions.specs.declared.fault.AskFault.{AskFault}
use Rattle.gx_questions.specs.declared.fault.AskFault.TheVariants as ask
use Rattle.gx_ranges.specs.Answers.{RefusesWord}
use Rattle.gx_ranges.specs.Listings.{AreTipsOf, StillLists}
use Rattle.gx_ranges.specs.declared.walking.CommitWalk.{CommitWalk}
use Rattle.gx_print.specs.Logs.{chosen, commits_logged, commits_text, log_text}
use Rattle.gx_model.proofs.Texts.SentTexts.{took_nothing}
use Rattle.gx_print.specs.Stored.{all_words}
use Rattle.gx_print.proofs.ReadSteps.{nothing_in_front}
use Rattle.gx_told.specs.Faults.{of_batch, refused_at}
use Rattle.gx_told.specs.Logging.{LogsFrom, LogsRead, PrintsWalk, ranges_text}
use Rattle.gx_told.specs.Printing.{Prints}
use Rattle.gx_told.specs.declared.fault.ToldFault.{ToldFault}
use Rattle.gx_told.specs.declared.fault.ToldFault.TheVariants.{OutOfMemory, ReadFailed}
use Rattle.gx_told.proofs.Prints.{given_text, none_printed}
use Rattle.gx_told.proofs.Tellings.{both_told, map_told}

module _ (name : Kind → Bytes → Bytes) (options : LogOptions) (r : Records) where
  lines_unread : (A : Type 0) (words lines : List Bytes) (fails : Bool) (was : Option Taken) (fault : BatchFault) → AreRead {A = A} lines fails (Err fault) → LogsRead name options r words fails was was (Err (of_batch fault))
  lines_unread A words lines fails was batch.ReadFailed h = (h, refl)
  lines_unread A words lines fails was batch.OutOfMemory h = none_printed (log_text name options (history_of r) words) was
  lines_unread A words lines fails was batch.WriteFailed h = absurd h

  unread_from : (A : Type 0) (words : List Bytes) (coming : Option Coming) (was : Option Taken) (fault : BatchFault) → GivesLines {A = A} Lf coming (Err fault) → LogsFrom name options true r words coming was was (Err (of_batch fault))
  unread_from A words None was fault h = (h.0, lines_unread A (words ++ lines_from Lf h.0) (lines_from Lf h.0) h.0.fails was fault h.1)
  unread_from A words (Some c) was fault h = lines_unread A (words ++ lines_from Lf (heard c)) (lines_from Lf (heard c)) (heard c).fails was fault h

  -- nothing is printed where a source isn't read
  pub source_unread : (A : Type 0) (stdin : Bool) (words : List Bytes) (coming : Option Coming) (was : Option Taken) (fault : BatchFault) → stdin ≡ true → GivesLines {A = A} Lf coming (Err fault) → LogsFrom name options stdin r words coming was was (Err (of_batch fault))
  source_unread A stdin words coming was fault e h = subst (λ b. LogsFrom name options b r words coming was was (Err (of_batch fault))) (sym e) (unread_from A words coming was fault h)

  lines_read : (words : List Bytes) (fails : Bool) (was now : Option Taken) (answer : Result (Unit {0}) ToldFault) → fails ≡ false → Prints (log_text name options (history_of r) words) was now answer → LogsRead name options r words fails was now answer
  lines_read words fails was now (Err ReadFailed) e h = absurd h
  lines_read words fails was now (Err OutOfMemory) e h = h
  lines_read words fails was now answer e h = (e, h)

  read_from : {A : Type 0} (words : List Bytes) (coming : Option Coming) (read : Vec (Vec ℕ A) A) (was now : Option Taken) (answer : Result (Unit {0}) ToldFault) → GivesLines Lf coming (Ok read)
      → Prints (log_text name options (history_of r) (words ++ map (λ line. line.items) read.items)) was now answer → LogsFrom name options true r words coming was now answer
  read_from words None read was now answer h k =
      (h.0, lines_read (words ++ lines_from Lf h.0) h.0.fails was now answer h.1.0 (subst (λ lines. Prints (log_text name options (history_of r) (words ++ lines)) was now answer) h.1.1 k))
  read_from words (Some c) read was now answer h k =
      lines_read (words ++ lines_from Lf (heard c)) (heard c).fails was now answer h.0 (subst (λ lines. Prints (log_text name options (history_of r) (words ++ lines)) was now answer) h.1 k)

  -- what is printed of words and of the lines that were read
  pub source_read : {A : Type 0} (stdin : Bool) (words : List Bytes) (coming : Option Coming) (read : Vec (Vec ℕ A) A) (was now : Option Taken) (answer : Result (Unit {0}) ToldFault) → stdin ≡ true → GivesLines Lf coming (Ok read)
      → Prints (log_text name options (history_of r) (words ++ map (λ line. line.items) read.items)) was now answer → LogsFrom name options stdin r words coming was now answer
  source_read stdin words coming read was now answer e h k = subst (λ b. LogsFrom name options b r words coming was now answer) (sym e) (read_from words coming read was now answer h k)

  -- what is printed of words and of no line
  pub no_lines : (stdin : Bool) (words : List Bytes) (coming : Option Coming) (was now : Option Taken) (answer : Result (Unit {0}) ToldFault) → stdin ≡ false → Prints (log_text name options (history_of r) (words ++ [])) was now answer → LogsFrom name options stdin r words coming was now answer
  no_lines stdin words coming was now answer e h =
      subst (λ b. LogsFrom name options b r words coming was now answer) (sym e) (subst (λ ws. Prints (log_text name options (history_of r) ws) was now answer) (append-nil words) h)

-- ---- the commits of ranges

-- a word isn't a range, or one gives nothing
pub ranges_refused : (told : Option Records) (name : Kind → Bytes → Bytes) (options : LogOptions) (ws : List RangeWord) (was : Option Taken) (word : ℕ) (fault : AskFault)
    → RefusesWord {X = List Commit} told (λ r. commits_logged name (history_of r) options.all ws) word fault → IfSome told (λ r. Prints (ranges_text name options (history_of r) ws) was was (Err (refused_at word fault)))
ranges_refused None name options ws was word fault h = tt
ranges_refused (Some r) name options ws was word ask.OutOfMemory h = none_printed (ranges_text name options (history_of r) ws) was
ranges_refused (Some r) name options ws was word ask.ReadFailed h = ([], nothing_in_front (ranges_text name options (history_of r) ws), took_nothing was)
ranges_refused (Some r) name options ws was word ask.Damaged h = absurd (cc h.1)
ranges_refused (Some r) name options ws was word (ask.Revision kind) h = (ap (λ g. all_words (g >>= λ cs. Ok (commits_text name options (chosen name options cs)))) h, took_nothing was)

-- ---- a walk

module _ {A : Type 0} (name : Kind → Bytes → Bytes) (options : LogOptions) (stands : ℕ → ℕ) (told : Option Records) (ws : List RangeWord) (walk : CommitWalk A) where
  -- a walk begins with the commits that are logged
  abbrev Begins : Records → Type 0
  Begins r = (commits : List Commit) × (commits_logged name (history_of r) options.all ws ≡ Ok commits) × StillLists stands r walk commits

  pub begun_tips : IfSome told Begins → IfSome told (λ r. AreTipsOf stands r walk)
  begun_tips = map_told told Begins (λ r. AreTipsOf stands r walk) (λ r h. h.2.tips)

  -- what is printed of a walk is printed of the ranges
  pub walk_given : (was now : Option Taken) (answer : Result (Unit {0}) ToldFault) → IfSome told Begins → IfSome told (λ r. PrintsWalk name stands options walk was now r answer)
      → IfSome told (λ r. Prints (ranges_text name options (history_of r) ws) was now answer)
  walk_given was now answer = both_told told Begins (λ r. PrintsWalk name stands options walk was now r answer) (λ r. Prints (ranges_text name options (history_of r) ws) was now answer) (λ r b k.
      given_text (ranges_text name options (history_of r) ws) (commits_text name options (chosen name options b.0)) was now answer
      (ap (λ g. all_words (g >>= λ cs. Ok (commits_text name options (chosen name options cs)))) b.1)
      (k b.0 b.2))
