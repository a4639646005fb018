-- What is answered to a line that is a command.
use Rattle.std.proofs.Common.{◌≡◌, ◌∙◌, ℕ, sym, ap, subst, List, [], Option, Some, Result, Ok, Err}
use Rattle.gx_model.specs.declared.objects.Kind.{Kind}
use Rattle.gx_model.specs.Histories.{Records}
use Rattle.gx_model.specs.Objects.{line}
use Rattle.gx_model.specs.Texts.{Bytes}
use Rattle.gx_model.specs.Texts.Sinks.{Taken}
use Rattle.gx_batch.specs.Answers.{reason}
use Rattle.gx_batch.specs.declared.format.Part.{Part}
use Rattle.gx_print.specs.Asking.{answered_by, asked_of, printed_answer, shown_asked}
use Rattle.gx_print.specs.Stored.{Printed}
use Rattle.gx_print.specs.Words.{word_at}
use Rattle.gx_print.specs.declared.asked.Asked.{Asked}
use Rattle.gx_rev.specs.RevFaults.{fault_of}
use Rattle.gx_rev.specs.declared.fault.RevFault.{RevFault}
use Rattle.gx_told.specs.Batching.{SendsAnswer, answer_to, command_answer, having_taken}
use Rattle.gx_told.specs.Printing.{Prints}
use Rattle.gx_told.specs.declared.fault.ToldFault.{ToldFault}
use Rattle.gx_told.specs.declared.fault.ToldFault.TheVariants.{Revision}

module _ (command : Bytes) (words : List Bytes) (given : Printed) (was now : Option Taken) (answer : Result (Unit {0}) ToldFault) where
  -- a text that was made in memory, behind its line
  pub text_answered : (made : Taken) (text : Bytes) (u : Unit {0}) → Prints given (Some (having_taken [])) (Some made) (Ok u) → text ≡ made.bytes
      → SendsAnswer (printed_answer command text) was now answer → SendsAnswer (answered_by reason command words given) was now answer
  text_answered made text u printed same sent =
      let is : made ≡ having_taken printed.0 = cc printed.2 in
      let whole : text ≡ printed.0 = same ∙ ap (λ (m : Taken). m.bytes) is in
      subst (λ g. SendsAnswer (answered_by reason command words g) was now answer) (sym printed.1) (subst (λ t. SendsAnswer (printed_answer command t) was now answer) whole sent)

  -- the word that is refused, and why
  pub word_answered : (before behind : Option Taken) (number : ℕ) (kind : RevFault) (word why : Bytes) → Prints given before behind (Err (Revision number kind)) → word ≡ word_at words number → why ≡ reason (fault_of kind)
      → SendsAnswer (line word why) was now answer → SendsAnswer (answered_by reason command words given) was now answer
  word_answered before behind number kind word why printed at is sent =
      let told = subst (λ w. SendsAnswer (line w (reason (fault_of kind))) was now answer) at (subst (λ y. SendsAnswer (line word y) was now answer) is sent) in
      subst (λ g. SendsAnswer (answered_by reason command words g) was now answer) (sym printed.0) told

-- what is answered to a line, by what it asks
pub asked_answered : (name : Kind → Bytes → Bytes) (parts : List Part) (repository : Records) (text : Bytes) (read asked : Asked) (was now : Option Taken) (answer : Result (Unit {0}) ToldFault)
    → read ≡ asked → shown_asked read ≡ asked_of text → SendsAnswer (answer_to name parts repository text (shown_asked asked)) was now answer → SendsAnswer (command_answer name parts repository text) was now answer
asked_answered name parts repository text read asked was now answer is told sent =
    subst (λ a. SendsAnswer (answer_to name parts repository text a) was now answer) (ap shown_asked (sym is) ∙ told) sent
