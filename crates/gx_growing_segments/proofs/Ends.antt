-- What is left of a text is no longer than the text.
use Rattle.std.proofs.Common.{◌≡◌, ℕ, ◌+◌, ◌<◌, ◌≤◌, true, [], ◌∷◌, ◌++◌, length, Ok, ap, arith, refl, subst, sym}
use Rattle.std.specs.Prelude.{nat_eq}
use Rattle.std.proofs.lemmas.Bool.Decides.{nat_tests}
use Rattle.std.proofs.lemmas.List.{length-append}
use Rattle.gx_model.specs.Stores.StoreReading.{stored_body, stored_count}
use Rattle.gx_model.specs.Texts.{Bytes}
use Rattle.gx_model.specs.Texts.Numbers.{number_text}
use Rattle.gx_model.proofs.Stores.StoreTexts.{body_of, count_of}
use Rattle.gx_file.specs.TextEnds.{EndsWith}
use Rattle.gx_file.proofs.LeftTexts.{left_behind}

pub ends_long : (k rest : Bytes) → EndsWith k rest → length rest ≤ length k
ends_long k rest h = let e = ap length h.1 in let l = length-append h.0 rest in omega (arith, e, l)

-- Behind the line of a count less is left.
pub count_less : (word text : Bytes) (n : ℕ) (rest : Bytes) → stored_count word text ≡ Ok (n, rest) → length rest < length text
count_less word text n rest e =
    let front = word ++ 32 ∷ number_text n in
    let spelled : length text ≡ length ((front ++ 10 ∷ []) ++ rest) = ap length (count_of word text (n, rest) e) in
    let long = length-append (front ++ 10 ∷ []) rest in
    let one : length (front ++ 10 ∷ []) ≡ length front + 1 = length-append front (10 ∷ []) in
    omega (arith, spelled, long, one)

-- Behind a body less is left.
pub body_less : (n : ℕ) (text body rest : Bytes) → stored_body n text ≡ Ok (body, rest) → length rest < length text
body_less n text body rest e =
    let spelled = ap length (body_of n text (body, rest) e).0 in
    let long = length-append body (10 ∷ rest) in
    omega (arith, spelled, long)

-- A text is left of itself.
pub all_left : (k : Bytes) → EndsWith k k
all_left k = ([], refl)

-- What is left of what is left of a text is left of it.
pub ends_more : (k m n : Bytes) → EndsWith k m → EndsWith m n → EndsWith k n
ends_more k m n h i = left_behind k i.0 n (subst (EndsWith k) i.1 h)

-- Nothing stands behind where no byte does.
pub none_behind : (x : Bytes) → true ≡ nat_eq (length x) 0 → length x ≡ 0
none_behind x h = let none : nat_eq (length x) 0 ≡ true = sym h in grind (arith, nat_tests)

-- What stands behind a part of what is left is left, where that is spelled so.
pub ends_behind : (k m front n : Bytes) → EndsWith k m → m ≡ front ++ n → EndsWith k n
ends_behind k m front n h e = ends_more k m n h (front, e)
