-- What is answered to a line that is a command.
use Rattle.std.proofs.Common.{◌≡◌, ℕ, sym, ap, subst, ◌∙◌, List, [], Option, Some, Result, Ok, Err}
use Rattle.gx_model.specs.declared.objects.Kind.{Kind}
use Rattle.gx_model.specs.Histories.{Records}
use Rattle.gx_model.specs.Objects.{line}
use Rattle.gx_model.specs.Texts.{Bytes}
use Rattle.gx_model.specs.Texts.Sinks.{Taken}
use Rattle.gx_batch.specs.Answers.{reason}
use Rattle.gx_batch.specs.Batches.{Sent}
use Rattle.gx_batch.specs.declared.fault.BatchFault.{BatchFault}
use Rattle.gx_batch.specs.declared.format.Part.{Part}
use Rattle.gx_rev.specs.RevFaults.{fault_of}
use Rattle.gx_rev.specs.declared.fault.RevFault.{RevFault}
use Rattle.gx_cli.specs.Answers.{IsRefusal, Prints}
use Rattle.gx_cli.specs.Commanding.{answer_to, answered, command_answer}
use Rattle.gx_print.specs.Asking.{asked_of, printed_answer, shown_asked}
use Rattle.gx_print.specs.Words.{word_at}
use Rattle.gx_print.specs.Stored.{Printed, Refusal, of_word}
use Rattle.gx_cli.specs.Trying.{having_taken}
use Rattle.gx_print.specs.declared.asked.Asked.{Asked}
use Rattle.gx_cli.specs.declared.fault.CliFault.TheVariants.{Revision}

module _ (command : Bytes) (words : List Bytes) (given : Printed) (was now : Option Taken) (answer : Result (Unit {0}) BatchFault) where
  -- a text that was made in memory, behind its line
  pub text_answered : (made : Taken) (text : Bytes) (u : Unit {0}) → Prints given (Some (having_taken [])) (Some made) (Ok u) → text ≡ made.bytes
      → Sent (printed_answer command text) was now answer → Sent (answered command words given) was now answer
  text_answered made text u printed same sent =
      let is : made ≡ having_taken printed.0 = cc printed.2 in
      let whole : text ≡ printed.0 = same ∙ ap (λ (m : Taken). m.bytes) is in
      subst (λ g. Sent (answered command words g) was now answer) (sym printed.1) (subst (λ t. Sent (printed_answer command t) was now answer) whole sent)

  -- the word that is refused, and why
  pub word_answered : (before behind : Option Taken) (number : ℕ) (kind : RevFault) (word why : Bytes) → Prints given before behind (Err (Revision number kind)) → word ≡ word_at words number → why ≡ reason (fault_of kind)
      → Sent (line word why) was now answer → Sent (answered command words given) was now answer
  word_answered before behind number kind word why printed at is sent = by printed.0 printed.1 printed.2
    where
      by : (refusal : Refusal) → given ≡ Err refusal → IsRefusal refusal (Revision number kind) → Sent (answered command words given) was now answer
      by (of_word n f) e k =
          let named : word ≡ word_at words n = at ∙ ap (word_at words) k.0 in
          let told : why ≡ reason f = is ∙ ap reason (sym k.1) in
          let line_sent = subst (λ w. Sent (line w (reason f)) was now answer) named (subst (λ y. Sent (line word y) was now answer) told sent) in
          subst (λ g. Sent (answered command words g) was now answer) (sym e) line_sent

-- what is answered to a line, by what it asks
pub asked_answered : (name : Kind → Bytes → Bytes) (parts : List Part) (repository : Records) (text : Bytes) (read asked : Asked) (was now : Option Taken) (answer : Result (Unit {0}) BatchFault)
    → read ≡ asked → shown_asked read ≡ asked_of text → Sent (answer_to name parts repository text (shown_asked asked)) was now answer → Sent (command_answer name parts repository text) was now answer
asked_answered name parts repository text read asked was now answer is told sent =
    subst (λ a. Sent (answer_to name parts repository text a) was now answer) (ap shown_asked (sym is) ∙ told) sent
