-- What is answered to questions by what is told.
use Rattle.std.specs.Prelude.{◌≡◌, [], ◌∷◌, Bool, true, map, Option, Result, Ok}
use Rattle.gx_model.specs.declared.objects.Kind.{Kind}
use Rattle.gx_model.specs.Texts.{Bytes}
use Rattle.gx_model.specs.Histories.{Records}
use Rattle.gx_model.specs.Records.HistoryOf.{history_of}
use Rattle.gx_model.specs.Texts.Sinks.{Taken}
use Rattle.gx_text.specs.Devices.{Coming}
use Rattle.gx_text.specs.Lent.{lent_texts}
use Rattle.gx_asks.specs.declared.question.Question.{Question}
use Rattle.gx_asks.specs.declared.question.Question.TheVariants as questions
use Rattle.gx_print.specs.Stored.{list_text, names_text, refs_text, show_text}
use Rattle.gx_ref_filters.specs.Filters.{shown_filter}
use Rattle.gx_told.specs.Archiving.{tar_text}
use Rattle.gx_told.specs.Filtering.{kept_text}
use Rattle.gx_told.specs.Differing.{TellsDiff, differing_words}
use Rattle.gx_told.specs.Logging.{LogsFrom}
use Rattle.gx_told.specs.Printing.{Prints}
use Rattle.gx_told.specs.declared.fault.ToldFault.{ToldFault}

module _ (name : Kind → Bytes → Bytes) where
  -- what is answered of a repository to a question
  abbrev pub IsAnswered : Question → Records → Option Coming → Option Taken → Option Taken → Result (Unit {0}) ToldFault → Type 0
  IsAnswered (questions.Show word) r coming was now answer = Prints (show_text name (history_of r) word.now) was now answer
  IsAnswered (questions.Ls recursive word) r coming was now answer = Prints (list_text name recursive (history_of r) word.now) was now answer
  IsAnswered (questions.Archive prefix word) r coming was now answer = Prints (tar_text name prefix.now (history_of r) word.now) was now answer
  IsAnswered questions.Refs r coming was now answer = Prints (Ok (refs_text r)) was now answer
  IsAnswered (questions.RefsThat filters patterns) r coming was now answer =
      Prints (kept_text name (history_of r) (map shown_filter filters.items) (lent_texts patterns.items)) was now answer
  IsAnswered (questions.Names words) r coming was now answer = Prints (names_text name (history_of r) (lent_texts words.items)) was now answer
  IsAnswered (questions.Log options words) r coming was now answer = LogsFrom name options options.stdin r (lent_texts words.items) coming was now answer
  IsAnswered question r coming was now answer = (answer ≡ Ok tt) × (now ≡ was)

  -- what is told of it of a question that is answered yes or no
  abbrev pub IsTold : Question → Records → Option Taken → Option Taken → Result Bool ToldFault → Type 0
  IsTold (questions.Diff options old new asked) r was now answer =
      TellsDiff r options (differing_words name (history_of r) old.now new.now (lent_texts asked.items)) was now answer
  IsTold question r was now answer = (answer ≡ Ok true) × (now ≡ was)
