-- What stands at the front of a line, and what ends a body.
use Rattle.std.proofs.Common.{◌≡◌, ℕ, ◌+◌, true, false, cond, [], ◌∷◌, ◌++◌, length, take, drop, Option, Some, None, Result, Ok, refl, sym, ap, ◌∙◌, arith}
use Rattle.std.specs.Prelude.{◌&&◌, nat_eq}
use Rattle.std.specs.Option.{ok_or, option_map, MatchOption}
use Rattle.std.specs.List.{starts_with}
use Rattle.std.specs.Cmp.Lexicographic.{pointwise}
use Rattle.std.proofs.Math.Bool.{and_assoc}
use Rattle.std.proofs.lemmas.List.{drop-drop}
use Rattle.std.proofs.lemmas.Cmp.{nat_eq_equiv, nat_list_eq_equiv}
use Rattle.std.specs.Borrow.{Bor}
use Rattle.std.specs.Prelude.{nat_lt, ◌<◌}
use Rattle.std.proofs.lemmas.Bool.Decides.{nat_tests}
use Rattle.gx_model.specs.declared.store_faults.FileFault.TheVariants as model
use Rattle.gx_model.specs.declared.store_faults.FileFault.{FileFault}
use Rattle.gx_model.specs.Texts.{Bytes, cut_at}
use Rattle.gx_model.specs.Faults.{NeedsNoMemory, ◌>>=◌}
use Rattle.gx_model.specs.Stores.StoreReading.{after_word, only_if, stored_body, stored_line}
use Rattle.gx_lines.specs.Reads.{Reads}
use Rattle.gx_text.specs.Lent.{lent_pair}

-- A line begins with a word and a space where it begins with the word and what follows begins with the space.
pub begins_so : (word l : Bytes) → starts_with nat_eq l (word ++ 32 ∷ []) ≡ (pointwise nat_eq (take (length word) l) word && pointwise nat_eq (take 1 (drop (length word) l)) (32 ∷ []))
begins_so [] [] = refl
begins_so [] (x ∷ xs) = ap (λ b. b && true) (nat_eq_equiv.symm 32 x)
begins_so (w ∷ ws) [] = refl
begins_so (w ∷ ws) (x ∷ xs) =
    (λ i. nat_eq_equiv.symm w x i && begins_so ws xs i)
    ∙ sym (and_assoc (nat_eq x w) (pointwise nat_eq (take (length ws) xs) ws) (pointwise nat_eq (take 1 (drop (length ws) xs)) (32 ∷ [])))

-- A text begins with these bytes where the front of their length is them.
pub front_is : (x front : Bytes) → starts_with nat_eq x front ≡ pointwise nat_eq (take (length front) x) front
front_is x front = nat_list_eq_equiv.symm front (take (length front) x)

-- Nothing follows a word that isn't there.
pub no_word : (word l : Bytes) → pointwise nat_eq (take (length word) l) word ≡ false → None ≡ after_word word l
no_word word l e = sym (ap (λ b. cond b (Some (drop (length word + 1) l)) None) (begins_so word l ∙ ap (λ b. b && pointwise nat_eq (take 1 (drop (length word) l)) (32 ∷ [])) e))

-- What follows the space behind a word follows the word and the space.
pub word_cut : (word l : Bytes) (rest : Bor Bytes) (found : Option (Bor Bytes)) → pointwise nat_eq (take (length word) l) word ≡ true → rest.now ≡ drop (length word) l
    → MatchOption found (pointwise nat_eq (take 1 rest.now) (32 ∷ []) ≡ false) (λ x. (pointwise nat_eq (take 1 rest.now) (32 ∷ []) ≡ true) × (x.now ≡ drop 1 rest.now) × (length x.now + 1 ≡ length rest.now))
    → option_map (λ x. x.now) found ≡ after_word word l
word_cut word l rest None e r h =
    let space = ap (λ b. pointwise nat_eq (take 1 b) (32 ∷ [])) (sym r) ∙ h in
    sym (ap (λ b. cond b (Some (drop (length word + 1) l)) None) (begins_so word l ∙ (λ i. e i && space i)))
word_cut word l rest (Some x) e r h =
    let space = ap (λ b. pointwise nat_eq (take 1 b) (32 ∷ [])) (sym r) ∙ h.0 in
    ap Some (h.1 ∙ ap (drop 1) r ∙ drop-drop 1 (length word) l)
    ∙ sym (ap (λ b. cond b (Some (drop (length word + 1) l)) None) (begins_so word l ∙ (λ i. e i && space i)))

-- A body is what stands before its LF.
pub body_cut : (n : ℕ) (text front back rest : Bytes) → n < length text → front ≡ take n text → back ≡ drop n text → pointwise nat_eq (take 1 back) (10 ∷ []) ≡ true → rest ≡ drop 1 back
    → stored_body n text ≡ Ok (front, rest)
body_cut n text front back rest lt f b e r =
    let whole : nat_lt n (length text) ≡ true = grind (arith, nat_tests) in
    let ended = front_is (drop n text) (10 ∷ []) ∙ ap (λ x. pointwise nat_eq (take 1 x) (10 ∷ [])) (sym b) ∙ e in
    let left = sym (r ∙ ap (drop 1) b ∙ drop-drop 1 n text) in
    let fronts = sym f in
    (λ i. only_if (whole i) model.Truncated >>= λ _. only_if (ended i) model.BadRecord >>= λ _. Ok (fronts i, left i))

-- The first line is read where an LF ends one, and the text is cut off otherwise.
pub line_found : (text : Bytes) (found : Option (Bor Bytes × Bor Bytes)) (answer : Result (Bor Bytes × Bor Bytes) FileFault) → option_map lent_pair found ≡ cut_at 10 text → answer ≡ ok_or found model.Truncated → Reads lent_pair answer (stored_line text)
line_found text None answer e a = rw a (ap (λ o. ok_or o model.Truncated) (sym e))
line_found text (Some parts) answer e a = rw a (ap (λ o. ok_or o model.Truncated) (sym e))

-- A text that is cut off is no want of memory.
pub no_memory_for_lines : (found : Option (Bor Bytes × Bor Bytes)) (answer : Result (Bor Bytes × Bor Bytes) FileFault) → answer ≡ ok_or found model.Truncated → NeedsNoMemory model.OutOfMemory answer
no_memory_for_lines None answer a = rw a (λ same. cc)
no_memory_for_lines (Some parts) answer a = rw a tt
