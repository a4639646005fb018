-- What is printed where one of several words is refused.
use Rattle.std.proofs.Common.{◌≡◌, refl, sym, ap, subst, [], Option, Result, Ok, Err}
use Rattle.gx_model.specs.Faults.{Given, IsFaultOf, ◌>>=◌}
use Rattle.gx_model.specs.Revisions.Ranges.{WordFault}
use Rattle.gx_model.specs.Texts.{Bytes}
use Rattle.gx_model.specs.Texts.Sinks.{Taken}
use Rattle.gx_rev.specs.declared.fault.RevFault.{RevFault}
use Rattle.gx_rev.specs.declared.fault.RevFault.TheVariants.{OutOfMemory}
use Rattle.gx_rev.specs.RevFaults.{fault_of}
use Rattle.gx_cli.specs.declared.fault.CliFault.{CliFault}
use Rattle.gx_cli.specs.declared.fault.CliFault.TheVariants as cli
use Rattle.gx_print.specs.Stored.{Refusal, all_words, of_word, only_word}
use Rattle.gx_cli.specs.Answers.{Prints}
use Rattle.gx_print.proofs.ReadSteps.{nothing_in_front, then_words}
use Rattle.gx_cli.specs.Words.{RefusesWord, refused_at}
use Rattle.gx_model.proofs.Texts.SentTexts.{took_nothing}

-- where the first words are refused, so are all
fails_first : {A B : Type 0} (a : Result A WordFault) (f : A → Result B WordFault) (why : Refusal) → all_words a ≡ Err why → all_words (a >>= f) ≡ Err why
fails_first (Ok x) f why e = absurd (cc e)
fails_first (Err g) f why e = let same : of_word g.word g.fault ≡ why = cc e in ap Err same

-- and what is refused is what the first words are refused for
pub first_refused : {A B : Type 0} (a : Result A WordFault) (f : A → Result B WordFault) (fault : CliFault) → RefusesWord fault (all_words a) → RefusesWord fault (all_words (a >>= f))
first_refused a f (cli.Revision number why) h = fails_first a f (of_word number (fault_of why)) h
first_refused a f cli.OutOfMemory h = tt
first_refused a f fault h = absurd h

-- the first of several words that is refused, and nothing printed
pub refusal_printed : {Y : Type 0} (given : Result Y Refusal) (text : Y → Bytes) (was : Option Taken) (fault : CliFault) → RefusesWord fault given → Prints (given >>= λ y. Ok (text y)) was was (Err fault)
refusal_printed given text was (cli.Revision number why) h = (of_word number (fault_of why), ap (λ r. r >>= λ y. Ok (text y)) h, (refl, refl), took_nothing was)
refusal_printed given text was cli.OutOfMemory h = ([], nothing_in_front (given >>= λ y. Ok (text y)), took_nothing was)
refusal_printed given text was fault h = absurd h

-- the only word is refused, and nothing printed
pub only_refused : {Y : Type 0} (given : Given Y) (text : Y → Bytes) (was : Option Taken) (kind : RevFault) → IsFaultOf (fault_of kind) given → Prints (only_word (given >>= λ y. Ok (text y))) was was (Err (refused_at 1 kind))
only_refused given text was OutOfMemory i = ([], nothing_in_front (only_word (given >>= λ y. Ok (text y))), took_nothing was)
only_refused given text was kind i = (of_word 1 (fault_of kind), ap (λ r. only_word (r >>= λ y. Ok (text y))) i, (refl, refl), took_nothing was)

-- what is refused in the second step is refused
pub later_refused : {A B : Type 0} (a : Result A WordFault) (x : A) (f : A → Result B WordFault) (fault : CliFault) → all_words a ≡ Ok x → RefusesWord fault (all_words (f x)) → RefusesWord fault (all_words (a >>= f))
later_refused a x f fault e h = subst (RefusesWord fault) (sym (then_words a x f e)) h
