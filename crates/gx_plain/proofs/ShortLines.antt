-- How short the line of a record is, and those of the front of a plain text.
use Rattle.std.proofs.Common.{◌≡◌, ℕ, ◌+◌, ◌-◌, ◌<◌, ◌≤◌, ◌^◌, Bool, true, false, cond, ◌∷◌, length, replicate, Some, None, refl, sym, ap, ◌∙◌, subst, arith}
use Rattle.std.specs.Prelude.{◌&&◌, nat_lt}
use Rattle.std.specs.Bool.{passes}
use Rattle.std.specs.List.{list_all}
use Rattle.std.specs.Char.{is_ascii_digit}
use Rattle.std.specs.Fmt.{decimal}
use Rattle.std.specs.Map.{lookup}
use Rattle.std.specs.Option.{option_and_then}
use Rattle.std.specs.Str.Parse.{digits_value}
use Rattle.std.proofs.lemmas.Bool.Decides.{nat_tests}
use Rattle.std.proofs.lemmas.List.{length-append, length-replicate}
use Rattle.std.proofs.lemmas.Option.{cond_some}
use Rattle.gx_model.specs.declared.objects.Kind.{Kind}
use Rattle.gx_model.specs.declared.objects.Kind.TheVariants as kind
use Rattle.gx_model.specs.declared.store_versions.Version.{Version}
use Rattle.gx_model.specs.declared.store_versions.Version.TheVariants.{One, Two}
use Rattle.gx_model.specs.Texts.{Bytes, cut_at, same_bytes}
use Rattle.gx_model.specs.Texts.Digits.{is_name_text}
use Rattle.gx_model.specs.Texts.Numbers.{decimal_of, is_number, number_text}
use Rattle.gx_model.specs.Objects.{unhex}
use Rattle.gx_model.specs.Objects.Naming.{kind_word}
use Rattle.gx_model.specs.Stores.StoreReading.{Length, if_written_so, kind_words, length_field, record_line, stored_number, with_digits, with_length}
use Rattle.gx_model.proofs.ObjectTexts.OneTree.{forty}
use Rattle.gx_model.proofs.Stores.StoreTexts.{both_some, number_of}
use Rattle.gx_model.proofs.Texts.Cuts.{cut_spelled}
use Rattle.gx_model.proofs.Texts.PathTests.{is_true, same_is, second}
use Rattle.gx_growing.specs.GrowingText.{long_number}
use Rattle.gx_growing.proofs.Fields.{long_length}

-- ---- numbers

pub few_digits : (n : ℕ) → n < 2 ^ 64 → length (number_text n) ≤ 20
few_digits n h =
    let k = length (number_text n) in
    let zero : ℕ = 48 in
    let a = length-append (replicate (20 - k) zero) (number_text n) in
    let b : length (replicate (20 - k) zero) ≡ 20 - k = length-replicate (20 - k) zero in
    let c : length (long_number n) ≡ 20 = long_length n h in
    omega arith

number_small : (x : Bytes) (n : ℕ) → decimal_of x ≡ Some n → n < 2 ^ 64
number_small x n e =
    let q = cond_some (is_number x) (digits_value 10 x) n e in
    let small : nat_lt (digits_value 10 x) (2 ^ 64) ≡ true = is_true _ (second (list_all is_ascii_digit x && nat_lt 0 (length x)) _ (passes _ q.0)) in
    let below : digits_value 10 x < 2 ^ 64 = grind (arith, nat_tests) in
    subst (λ m. m < 2 ^ 64) q.1 below

pub stored_small : (x : Bytes) (n : ℕ) → stored_number x ≡ Some n → n < 2 ^ 64
stored_small x n e =
    let p = both_some (if_written_so x) (decimal_of x) n e in
    let q = cond_some (same_bytes (decimal p.0) x) p.0 n p.2 in
    subst (λ m. m < 2 ^ 64) q.1 (number_small x p.0 p.1)

-- a number that is read has at most twenty digits
pub twenty : (x : Bytes) (n : ℕ) → stored_number x ≡ Some n → length x ≤ 20
twenty x n e = subst (λ z. length z ≤ 20) (sym (number_of x n e)) (few_digits n (stored_small x n e))

-- ---- a record's line

word_short : (k : Kind) → length (kind_word k) ≤ 6
word_short kind.Blob = omega arith
word_short kind.Tree = omega arith
word_short kind.Commit = omega arith
word_short kind.Tag = omega arith

word_few : (w : Bytes) (k : Kind) → lookup (same_bytes w) kind_words ≡ Some k → length w ≤ 6
word_few w k e = by (same_bytes w (kind_word kind.Blob)) (same_bytes w (kind_word kind.Tree)) (same_bytes w (kind_word kind.Commit)) (same_bytes w (kind_word kind.Tag)) refl refl refl refl e
  where
    is : (j : Kind) → same_bytes w (kind_word j) ≡ true → length w ≤ 6
    is j h = subst (λ z. length z ≤ 6) (sym (same_is w (kind_word j) (passes _ h))) (word_short j)

    by : (a b c d : Bool) → same_bytes w (kind_word kind.Blob) ≡ a → same_bytes w (kind_word kind.Tree) ≡ b → same_bytes w (kind_word kind.Commit) ≡ c → same_bytes w (kind_word kind.Tag) ≡ d
        → cond a (Some kind.Blob) (cond b (Some kind.Tree) (cond c (Some kind.Commit) (cond d (Some kind.Tag) None))) ≡ Some k → length w ≤ 6
    by true b c d f g h j i = is kind.Blob f
    by false true c d f g h j i = is kind.Tree g
    by false false true d f g h j i = is kind.Commit h
    by false false false true f g h j i = is kind.Tag j
    by false false false false f g h j i = absurd (cc)

field_few : (v : Version) (field : Bytes) (n : Length) → length_field v field ≡ Some n → length field ≤ 61
field_few One field n e =
    let p = both_some (λ (m : ℕ). Some (m, None)) (stored_number field) n e in
    let few = twenty field p.0 p.1 in
    omega arith
field_few Two field n e =
    let p = both_some (λ (q : Bytes × Bytes). option_and_then (with_digits q.1) (stored_number q.0)) (cut_at 32 field) n e in
    let m = both_some (with_digits p.0.1) (stored_number p.0.0) n p.2 in
    let d = cond_some (is_name_text p.0.1) (m.0, Some (unhex p.0.1)) n m.2 in
    let few = twenty p.0.0 m.0 m.1 in
    let digits : length p.0.1 ≡ 40 = forty p.0.1 (passes _ d.0) in
    let whole : length field ≡ length p.0.0 + length (32 ∷ p.0.1) = ap length (cut_spelled 32 field p.0 p.1) ∙ length-append p.0.0 (32 ∷ p.0.1) in
    omega arith

-- the line of a record has fewer than eighty bytes
pub line_short : (v : Version) (l : Bytes) (x : Kind × Length) → record_line v l ≡ Some x → length l < 80
line_short v l x e =
    let p = both_some (λ (q : Bytes × Bytes). option_and_then (with_length v q.1) (lookup (same_bytes q.0) kind_words)) (cut_at 32 l) x e in
    let k = both_some (with_length v p.0.1) (lookup (same_bytes p.0.0) kind_words) x p.2 in
    let n = both_some (λ (n : Length). Some (k.0, n)) (length_field v p.0.1) x k.2 in
    let word = word_few p.0.0 k.0 k.1 in
    let field = field_few v p.0.1 n.0 n.1 in
    let whole : length l ≡ length p.0.0 + length (32 ∷ p.0.1) = ap length (cut_spelled 32 l p.0 p.1) ∙ length-append p.0.0 (32 ∷ p.0.1) in
    omega arith
