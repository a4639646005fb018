-- An item at the front of a text is read by its line and its body.
use Rattle.std.proofs.Common.{◌≡◌, ℕ, ◌+◌, ◌<◌, ◌^◌, Bool, true, false, cond, [], ◌∷◌, ◌++◌, length, take, drop, Option, Some, None, Result, Ok, Err, refl, sym, ap, subst, ◌∙◌, append_assoc, arith}
use Rattle.std.specs.Prelude.{IfOk, nat_eq, nat_lt}
use Rattle.std.specs.Borrow.{Bor}
use Rattle.std.specs.Cmp.Lexicographic.{pointwise}
use Rattle.std.specs.Fmt.{decimal}
use Rattle.std.specs.Option.{ok_or, option_and_then}
use Rattle.std.specs.Str.Parse.{digits_value}
use Rattle.std.proofs.lemmas.Bool.{and_parts}
use Rattle.std.proofs.lemmas.Bool.Decides.{nat_tests}
use Rattle.std.proofs.lemmas.Cmp.{nat_list_eq_equiv}
use Rattle.std.proofs.lemmas.List.{drop-drop}
use Rattle.gx_model.specs.declared.objects.Kind.{Kind}
use Rattle.gx_model.specs.Faults.{◌>>=◌}
use Rattle.gx_model.specs.Objects.{unhex}
use Rattle.gx_model.specs.Objects.Naming.{lower_name_in}
use Rattle.gx_model.specs.Stores.StoreReading.{if_written_so, stored_number}
use Rattle.gx_model.specs.Texts.{Bytes, cut_at, same_bytes}
use Rattle.gx_model.specs.Texts.Digits.{is_name_text}
use Rattle.gx_model.specs.Texts.Numbers.{is_number, number_text}
use Rattle.gx_model.proofs.Texts.Cuts.{cut_spelled}
use Rattle.gx_model.proofs.Texts.Decimals.{text_is_decimal}
use Rattle.gx_wide.specs.ObjectsTexts.{BadLine, BadNumber, TruncatedData, body_in, item_at, item_in, length_in, object_in, only_where}
use Rattle.gx_offered.specs.declared.fault.ItemFault.{ItemFault}
use Rattle.gx_offered.specs.declared.fault.ItemFault.TheVariants as fault
use Rattle.gx_offered.specs.declared.item.Found.{Found}
use Rattle.gx_offered.specs.Ends.{EndsWith}
use Rattle.gx_offered.specs.Items.{Gives, ref_before, shown_read, text_found}

-- what is read of an item, where it stands
abbrev Answer : Type 0
Answer = Result (Found × Bor Bytes) ItemFault

-- ---- digits

unnamed : (digits : Bytes) → None ≡ lower_name_in digits → is_name_text digits ≡ false
unfolding lower_name_in
unnamed digits e = by (is_name_text digits) e
  where
    by : (b : Bool) → None ≡ cond b (Some (unhex digits)) None → b ≡ false
    by true h = absurd cc
    by false h = refl

named : (digits called : Bytes) → Some called ≡ lower_name_in digits → (is_name_text digits ≡ true) × (unhex digits ≡ called)
unfolding lower_name_in
named digits called e = by (is_name_text digits) e
  where
    by : (b : Bool) → Some called ≡ cond b (Some (unhex digits)) None → (b ≡ true) × (unhex digits ≡ called)
    by true h = (refl, cc)
    by false h = absurd cc

-- ---- lines

module _ (name : Kind → Bytes → Bytes) (text : Bytes) where
  -- no LF ends the line
  pub no_line : None ≡ cut_at 10 text → item_at name text ≡ Err TruncatedData
  unfolding item_at
  no_line e = rw (sym e) refl

  -- the line has no space
  pub no_space : (line rest : Bytes) → Some (line, rest) ≡ cut_at 10 text → None ≡ cut_at 32 line → item_at name text ≡ Err BadLine
  unfolding item_at
  no_space line rest e f = rw (sym e, sym f) refl

  -- no name stands before it
  pub no_name : (line rest digits told : Bytes) → Some (line, rest) ≡ cut_at 10 text → Some (digits, told) ≡ cut_at 32 line → None ≡ lower_name_in digits → item_at name text ≡ Err BadLine
  unfolding item_at
  no_name line rest digits told e f g = rw (sym e, sym f, unnamed digits g) refl

  -- what is told behind the name
  told_by : (line rest digits told called : Bytes) → Some (line, rest) ≡ cut_at 10 text → Some (digits, told) ≡ cut_at 32 line → Some called ≡ lower_name_in digits
      → item_at name text ≡ item_in name digits told (cut_at 32 told) rest
  unfolding item_at
  told_by line rest digits told called e f g = rw (sym e, sym f, (named digits called g).0) refl

  -- a ref
  pub ref_told : (line rest digits told called : Bytes) (answer : Answer) → Some (line, rest) ≡ cut_at 10 text → Some (digits, told) ≡ cut_at 32 line → Some called ≡ lower_name_in digits → None ≡ cut_at 32 told
      → ((d : Bytes) → unhex d ≡ called → Gives shown_read answer (ref_before d told rest)) → Gives shown_read answer (item_at name text)
  ref_told line rest digits told called answer e f g h k =
      subst (Gives shown_read answer) (sym (told_by line rest digits told called e f g ∙ ap (λ o. item_in name digits told o rest) (sym h))) (k digits (named digits called g).1)

  -- an object
  pub object_told : (line rest digits told called word size : Bytes) (answer : Answer) → Some (line, rest) ≡ cut_at 10 text → Some (digits, told) ≡ cut_at 32 line → Some called ≡ lower_name_in digits → Some (word, size) ≡ cut_at 32 told
      → ((d : Bytes) → unhex d ≡ called → Gives shown_read answer (object_in name d word size rest)) → Gives shown_read answer (item_at name text)
  object_told line rest digits told called word size answer e f g h k =
      subst (Gives shown_read answer) (sym (told_by line rest digits told called e f g ∙ ap (λ o. item_in name digits told o rest) (sym h))) (k digits (named digits called g).1)

-- ---- what is left

-- what stands behind a line
pub behind_line : (text line rest : Bytes) (answer : Answer) → Some (line, rest) ≡ cut_at 10 text → IfOk answer (λ read. rest ≡ text_found read.0 ++ 10 ∷ read.1.now) → IfOk answer (λ read. EndsWith text (text_found read.0 ++ 10 ∷ read.1.now))
behind_line text line rest (Err fault) e h = tt
behind_line text line rest (Ok read) e h =
    (line ++ 10 ∷ [], cut_spelled 10 text (line, rest) (sym e) ∙ sym (append_assoc line (10 ∷ []) rest) ∙ ap (λ r. (line ++ 10 ∷ []) ++ r) h)

-- what a line tells behind its first word, and what stands behind the line
pub behind_word : (text line rest digits told : Bytes) (answer : Answer) → Some (line, rest) ≡ cut_at 10 text → Some (digits, told) ≡ cut_at 32 line → IfOk answer (λ read. told ++ 10 ∷ rest ≡ text_found read.0 ++ 10 ∷ read.1.now) → IfOk answer (λ read. EndsWith text (text_found read.0 ++ 10 ∷ read.1.now))
behind_word text line rest digits told (Err fault) e f h = tt
behind_word text line rest digits told (Ok read) e f h = (
  digits ++ 32 ∷ [],
  cut_spelled 10 text (line, rest) (sym e) ∙ ap (λ l. l ++ 10 ∷ rest) (cut_spelled 32 line (digits, told) (sym f) ∙ sym (append_assoc digits (32 ∷ []) told))
      ∙ append_assoc (digits ++ 32 ∷ []) told (10 ∷ rest) ∙ ap (λ r. (digits ++ 32 ∷ []) ++ r) h,
)

-- ---- lengths

-- a length is a number without leading zeros
length_law : (x : Bytes) → length_in x ≡ ok_or (stored_number x) BadNumber
length_law x = by (is_number x) refl
  where
    n : ℕ
    n = digits_value 10 x

    written : is_number x ≡ true → same_bytes x (number_text n) ≡ same_bytes (decimal n) x
    written e =
        let p = and_parts _ (nat_lt n (2 ^ 64)) e in
        let small : n < 2 ^ 64 = grind (arith, nat_tests) in
        ap (same_bytes x) (text_is_decimal n small) ∙ nat_list_eq_equiv.symm x (decimal n)

    told : (t : Bool) → (only_where t BadNumber >>= λ _. Ok n) ≡ ok_or (cond t (Some n) None) BadNumber
    told true = refl
    told false = refl

    by : (b : Bool) → is_number x ≡ b → (ok_or (cond b (Some n) None) BadNumber >>= λ m. only_where (same_bytes x (number_text m)) BadNumber >>= λ _. Ok m) ≡ ok_or (option_and_then (if_written_so x) (cond b (Some n) None)) BadNumber
    by false e = refl
    by true e = ap (λ t. only_where t BadNumber >>= λ _. Ok n) (written e) ∙ told (same_bytes (decimal n) x)

pub length_told : (x : Bytes) (found : Option ℕ) (answer : Result ℕ ItemFault) → found ≡ stored_number x → answer ≡ ok_or found fault.BadNumber → Gives (λ (n : ℕ). n) answer (length_in x)
length_told x None answer e a = rw a (length_law x ∙ ap (λ o. ok_or o BadNumber) (sym e))
length_told x (Some n) answer e a = rw a (length_law x ∙ ap (λ o. ok_or o BadNumber) (sym e))

-- ---- bodies

-- a body is what stands before its LF
pub body_cut : (n : ℕ) (text front back rest : Bytes) → n < length text → front ≡ take n text → back ≡ drop n text → pointwise nat_eq (take 1 back) (10 ∷ []) ≡ true → rest ≡ drop 1 back
    → body_in n text ≡ Ok (front, rest)
body_cut n text front back rest lt f b e r =
    let whole : nat_lt n (length text) ≡ true = grind (arith, nat_tests) in
    let ended : same_bytes (take 1 (drop n text)) (10 ∷ []) ≡ true = ap (λ x. pointwise nat_eq (take 1 x) (10 ∷ [])) (sym b) ∙ e in
    let left = sym (r ∙ ap (drop 1) b ∙ drop-drop 1 n text) in
    let fronts = sym f in
    (λ i. cond (whole i) (cond (ended i) (Ok (fronts i, left i)) (Err BadLine)) (Err TruncatedData))
