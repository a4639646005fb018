-- What is printed where a text goes out, where a word is refused, and where nothing went out.
use Rattle.std.proofs.Common.{◌≡◌, ℕ, refl, sym, ap, subst, [], Option, None, Some, Result, Ok, Err}
use Rattle.std.specs.Prelude.{IfSome}
use Rattle.gx_model.specs.Faults.{Given, ◌>>=◌}
use Rattle.gx_model.specs.Histories.{Records}
use Rattle.gx_model.specs.Revisions.Ranges.{WordFault}
use Rattle.gx_model.specs.Texts.{Bytes}
use Rattle.gx_model.specs.Texts.Sinks.{Taken}
use Rattle.gx_objects.specs.declared.fault.LookFault.{LookFault}
use Rattle.gx_objects.specs.declared.fault.LookFault.TheVariants as look
use Rattle.gx_questions.specs.Answers.{Refuses, RefusesUntold}
use Rattle.gx_questions.specs.declared.fault.AskFault.{AskFault}
use Rattle.gx_questions.specs.declared.fault.AskFault.TheVariants as ask
use Rattle.gx_rev.specs.declared.fault.RevFault.{RevFault}
use Rattle.gx_rev.specs.declared.fault.RevFault.TheVariants as rev
use Rattle.gx_rev.specs.RevFaults.{fault_of}
use Rattle.gx_print.specs.Stored.{Printed, all_words, only_word}
use Rattle.gx_print.specs.Words.{IsRefusedAt}
use Rattle.gx_print.proofs.ReadSteps.{nothing_in_front}
use Rattle.gx_model.proofs.Texts.SentTexts.{took_nothing}
use Rattle.gx_told.specs.Faults.{of_look, refused_at, unread}
use Rattle.gx_told.specs.Printing.{Prints, PrintsText, RefusesWord, Sent}
use Rattle.gx_told.specs.declared.fault.ToldFault.{ToldFault}
use Rattle.gx_told.specs.declared.fault.ToldFault.TheVariants.{OutOfMemory, Revision, StoreReadFailed, WriteFailed}
use Rattle.gx_told.proofs.Tellings.{both_told}

-- ---- a text

-- what was sent is printed
pub sent_prints : (text : Bytes) (was now : Option Taken) (answer : Result (Unit {0}) ToldFault) → Sent text was now answer → PrintsText text was now answer
sent_prints text was now (Ok u) h = h
sent_prints text was now (Err WriteFailed) h = h
sent_prints text was now (Err OutOfMemory) h = absurd h
sent_prints text was now (Err StoreReadFailed) h = absurd h
sent_prints text was now (Err fault) h = absurd h

-- a text that is given
pub given_text : (given : Printed) (text : Bytes) (was now : Option Taken) (answer : Result (Unit {0}) ToldFault) → given ≡ Ok text → PrintsText text was now answer → Prints given was now answer
given_text given text was now answer e h = subst (λ g. Prints g was now answer) (sym e) (by answer h)
  where
    by : (r : Result (Unit {0}) ToldFault) → PrintsText text was now r → Prints (Ok text) was now r
    by (Ok u) k = (text, refl, k)
    by (Err WriteFailed) k = (text, refl, k)
    by (Err OutOfMemory) k = (k.0, (k.1, k.2), k.3)
    by (Err StoreReadFailed) k = (k.0, (k.1, k.2), k.3)
    by (Err (Revision number kind)) k = absurd k
    by (Err fault) k = absurd k

-- ---- nothing went out

-- memory ran out before anything went out
pub none_sent : (text : Bytes) (was : Option Taken) → PrintsText text was was (Err OutOfMemory)
none_sent text was = ([], text, refl, took_nothing was)

pub none_printed : (given : Printed) (was : Option Taken) → Prints given was was (Err OutOfMemory)
none_printed given was = ([], nothing_in_front given, took_nothing was)

-- a held object isn't there
pub held_stops : (X : Type 0) (told : Option Records) (text : Records → Bytes) (was : Option Taken) (fault : AskFault) → RefusesUntold {X = X} told (Err fault) → IfSome told (λ r. PrintsText (text r) was was (Err (refused_at 1 fault)))
held_stops X None text was fault h = tt
held_stops X (Some r) text was ask.OutOfMemory h = none_sent (text r) was
held_stops X (Some r) text was ask.ReadFailed h = ([], text r, refl, took_nothing was)
held_stops X (Some r) text was ask.Damaged h = absurd (cc h)
held_stops X (Some r) text was (ask.Revision kind) h = absurd h

-- the refs aren't there
pub look_stops : (told : Option Records) (text : Records → Bytes) (was : Option Taken) (fault : LookFault) → (fault ≡ look.Damaged → told ≡ None) → IfSome told (λ r. PrintsText (text r) was was (Err (of_look fault)))
look_stops None text was fault h = tt
look_stops (Some r) text was look.OutOfMemory h = none_sent (text r) was
look_stops (Some r) text was look.ReadFailed h = ([], text r, refl, took_nothing was)
look_stops (Some r) text was look.Damaged h = absurd (cc (h refl))

-- a word is refused
pub refusal_prints : (given : Printed) (was : Option Taken) (fault : ToldFault) → RefusesWord fault given → Prints given was was (Err fault)
refusal_prints given was OutOfMemory h = none_printed given was
refusal_prints given was StoreReadFailed h = ([], nothing_in_front given, took_nothing was)
refusal_prints given was (Revision number kind) h = (h, took_nothing was)
refusal_prints given was fault h = absurd h

-- a word isn't read
pub unread_prints : {Y : Type 0} (read : Result Y WordFault) (next : Y → Result Bytes WordFault) (was : Option Taken) (number : ℕ) (kind : RevFault) → IsRefusedAt number (fault_of kind) read
    → Prints (all_words (read >>= next)) was was (Err (unread number kind))
unread_prints read next was number rev.OutOfMemory h = none_printed (all_words (read >>= next)) was
unread_prints read next was number kind h = (ap (λ x. all_words (x >>= next)) h, took_nothing was)

-- ---- the only word

-- the only word is refused
pub only_refused : {Y : Type 0} (told : Option Records) (given : Records → Given Y) (text : Records → Y → Bytes) (was : Option Taken) (fault : AskFault) → Refuses told given fault
    → IfSome told (λ r. Prints (only_word (given r >>= λ y. Ok (text r y))) was was (Err (refused_at 1 fault)))
only_refused None given text was fault h = tt
only_refused (Some r) given text was ask.OutOfMemory h = none_printed (only_word (given r >>= λ y. Ok (text r y))) was
only_refused (Some r) given text was ask.ReadFailed h = ([], nothing_in_front (only_word (given r >>= λ y. Ok (text r y))), took_nothing was)
only_refused (Some r) given text was ask.Damaged h = absurd (cc h)
only_refused (Some r) given text was (ask.Revision kind) h = (ap (λ g. only_word (g >>= λ y. Ok (text r y))) h, took_nothing was)

-- what it gives is printed
pub only_given : {Y : Type 0} (told : Option Records) (given : Records → Given Y) (y : Records → Y) (text : Records → Y → Bytes) (was now : Option Taken) (answer : Result (Unit {0}) ToldFault)
    → IfSome told (λ r. given r ≡ Ok (y r)) → IfSome told (λ r. PrintsText (text r (y r)) was now answer) → IfSome told (λ r. Prints (only_word (given r >>= λ y. Ok (text r y))) was now answer)
only_given told given y text was now answer =
    both_told told (λ r. given r ≡ Ok (y r)) (λ r. PrintsText (text r (y r)) was now answer) (λ r. Prints (only_word (given r >>= λ y. Ok (text r y))) was now answer)
    (λ r e h. given_text (only_word (given r >>= λ y. Ok (text r y))) (text r (y r)) was now answer (ap (λ g. only_word (g >>= λ y. Ok (text r y))) e) h)
