-- What words give in several steps.
use Rattle.std.proofs.Common.{◌≡◌, refl, ap, [], Result, Ok, Err}
use Rattle.gx_model.specs.Faults.{◌>>=◌}
use Rattle.gx_model.specs.Revisions.Ranges.{WordFault}
use Rattle.gx_print.specs.Stored.{IsFrontOf, Printed, Refusal, all_words, of_word}

-- what is made of what all words give, in two steps
pub in_two : {A B C : Type 0} (a : Result A WordFault) (f : A → Result B WordFault) (k : B → C) → all_words (a >>= λ x. f x >>= λ y. Ok (k y)) ≡ (all_words (a >>= f) >>= λ y. Ok (k y))
in_two {A} {B} {C} (Err e) f k = refl
in_two {A} {B} {C} (Ok x) f k = by (f x)
  where
    by : (r : Result B WordFault) → all_words (r >>= λ y. Ok (k y)) ≡ (all_words r >>= λ y. Ok (k y))
    by (Ok y) = refl
    by (Err e) = refl

-- what the first words give is what the second step is for
pub then_words : {A B : Type 0} (a : Result A WordFault) (x : A) (f : A → Result B WordFault) → all_words a ≡ Ok x → all_words (a >>= f) ≡ all_words (f x)
then_words (Ok y) x f e = let same : y ≡ x = cc e in ap (λ z. all_words (f z)) same
then_words (Err e) x f k = absurd (cc k)

-- where the first words are refused, so are all
fails_first : {A B : Type 0} (a : Result A WordFault) (f : A → Result B WordFault) (why : Refusal) → all_words a ≡ Err why → all_words (a >>= f) ≡ Err why
fails_first (Ok x) f why e = absurd (cc e)
fails_first (Err g) f why e = let same : of_word g.word g.fault ≡ why = cc e in ap Err same

-- nothing is a front of whatever is printed
pub nothing_in_front : (given : Printed) → IsFrontOf given []
nothing_in_front (Ok text) = (text, refl)
nothing_in_front (Err refusal) = refl
