-- Slots and lines of runs: each is read again from its text, and whatever is read is spelled so.
use Rattle.std.proofs.Common.{◌≡◌, ℕ, zero, suc, ◌+◌, ◌*◌, ◌-◌, ◌%◌, ◌/◌, ◌≤◌, ◌<◌, ◌^◌, Bool, true, false, cond, refl, sym, ap, subst, ◌∙◌, List, [], ◌∷◌, ◌++◌, length, replicate, map, Option, None, Some, Ok, arith, append_assoc, eq-eqb, eqb→eq}
use Rattle.std.specs.Prelude.{T, ◌&&◌, nat_eq, nat_lt}
use Rattle.std.specs.Bool.{passes}
use Rattle.std.specs.Char.{digit_value, is_ascii_digit}
use Rattle.std.specs.Fmt.{decimal}
use Rattle.std.specs.Str.Parse.{digits_value, digits_value_after}
use Rattle.std.specs.Int.Digits.{digits_of}
use Rattle.std.specs.List.{AllByRecursion, flat_map, list_all}
use Rattle.std.specs.Option.{ok_or, option_and_then, option_map}
use Rattle.std.proofs.lemmas.Bool.Decides.{nat_tests}
use Rattle.std.proofs.lemmas.Fmt.{digits_value-decimal}
use Rattle.std.proofs.lemmas.Int.Digits.{length-digits_of-le}
use Rattle.std.proofs.lemmas.List.{length-append, length-map, length-replicate}
use Rattle.std.proofs.lemmas.Str.{digit_value_digit}
use Rattle.gx_model.specs.declared.store_faults.FileFault.TheVariants as fault
use Rattle.gx_model.specs.Texts.{Bytes, cut_at, is_line, lacks, same_bytes}
use Rattle.gx_model.specs.Texts.Digits.{is_lower_digit}
use Rattle.gx_model.specs.Texts.Numbers.{decimal_of, is_number, number_text}
use Rattle.gx_model.specs.Faults.{◌>>=◌}
use Rattle.gx_model.specs.Objects.{hex, hex_digit, unhex}
use Rattle.gx_model.specs.Stores.StoreReading.{Stored, if_written_so, stored_line, stored_number}
use Rattle.gx_model.proofs.Texts.PathTests.{all_append, both, first, is_true, second}
use Rattle.gx_model.proofs.Texts.Cuts.{cut_after, cut_spelled, map_some}
use Rattle.gx_model.proofs.Texts.Decimals.{AreDigits, numerals, text_digits, text_is_decimal}
use Rattle.gx_model.proofs.Texts.HexDigits.{one_unhex}
use Rattle.gx_model.proofs.Texts.LineTexts.{line_append}
use Rattle.gx_model.proofs.Streams.CommandFields.{number_no_space}
use Rattle.gx_model.proofs.ObjectTexts.BodiesReadBack.{unhex_hex}
use Rattle.gx_model.proofs.ObjectTexts.OneTree.{unhex_long}
use Rattle.gx_model.proofs.ObjectTexts.TreePaths.{unhex_bytes}
use Rattle.gx_model.proofs.ObjectTexts.OneTree as tree
use Rattle.gx_model.proofs.Records.OneHistory.{hex_line}
use Rattle.gx_model.proofs.Records.ReadRecords.{hex_long, hex_text}
use Rattle.gx_model.proofs.Stores.StoreTexts.{both_some, both_steps, if_there, line_lacks, line_of, line_read, number_line, number_of, number_read, ok_is}
use Rattle.gx_growing.specs.GrowingText.{IsRun, Run, Slot, is_digest, long_number, run_text, slot_text}
use Rattle.gx_growing.specs.GrowingReading.{Fields, digest_in, fields_in, is_digest_text, long_number_in, next_run, next_runs, run_in, slot_in, with_digest, with_second}

-- ---- numbers of twenty digits

-- a digit's value
digit_of : (a : ℕ) → is_ascii_digit a ≡ true → (digit_value a + 48 ≡ a) × (digit_value a < 10)
digit_of a h =
    let low : 48 ≤ a = grind (arith, nat_tests) in
    let high : a ≤ 57 = grind (arith, nat_tests) in
    let value = digit_value_digit a (low, high) in
    (value, omega arith)

-- digits are told by their value and their number
one_digits : (x y : Bytes) (m n : ℕ) → AreDigits x → AreDigits y → length x ≡ length y → digits_value_after 10 m x ≡ digits_value_after 10 n y → (m ≡ n) × (x ≡ y)
one_digits [] [] m n f g l e = (e, refl)
one_digits [] (b ∷ y) m n f g l e = absurd cc
one_digits (a ∷ x) [] m n f g l e = absurd cc
one_digits (a ∷ x) (b ∷ y) m n f g l e =
    let c = digit_of a (is_true _ (first (is_ascii_digit a) (list_all is_ascii_digit x) (passes _ f))) in
    let d = digit_of b (is_true _ (first (is_ascii_digit b) (list_all is_ascii_digit y) (passes _ g))) in
    let few : length x ≡ length y = cc in
    let rest = one_digits x y (m * 10 + digit_value a) (n * 10 + digit_value b)
    (is_true _ (second (is_ascii_digit a) (list_all is_ascii_digit x) (passes _ f))) (is_true _ (second (is_ascii_digit b) (list_all is_ascii_digit y) (passes _ g))) few e in
    let apart = told m n (digit_value a) (digit_value b) a b c d rest.0 in
    (apart.0, λ i. apart.1 i ∷ rest.1 i)
  where
    told : (m n p q a b : ℕ) → (p + 48 ≡ a) × (p < 10) → (q + 48 ≡ b) × (q < 10) → m * 10 + p ≡ n * 10 + q → (m ≡ n) × (a ≡ b)
    told m n p q a b c d e = (omega (arith, c.0, c.1, d.0, d.1, e), omega (arith, c.0, c.1, d.0, d.1, e))

-- zeros in front change no value
after_zeros : (k : ℕ) (x : Bytes) → digits_value_after 10 0 (replicate k 48 ++ x) ≡ digits_value_after 10 0 x
after_zeros zero x = refl
after_zeros (suc k) x = after_zeros k x

zero_digits : (k : ℕ) → AreDigits (replicate k 48)
zero_digits zero = refl
zero_digits (suc k) = zero_digits k

-- a number below 2^64 has twenty digits or fewer
number_short : (n : ℕ) → n < 2 ^ 64 → length (number_text n) ≤ 20
unfolding number_text
number_short n h =
    let l = length-digits_of-le 10 20 n (omega arith) (omega arith) in
    elim (nat_eq n 0) as (λ b. length (cond b (48 ∷ []) (map (λ d. 48 + d) (digits_of 10 n))) ≤ 20) [
      | true ↦ omega arith
      | false ↦ (let m = length-map (digits_of 10 n) (λ d. 48 + d) in omega arith)
    ]

long_digits : (n : ℕ) → AreDigits (long_number n)
long_digits n = is_true _ (all_append is_ascii_digit (replicate (20 - length (number_text n)) 48) (number_text n) (passes _ (zero_digits (20 - length (number_text n)))) (passes _ (text_digits n)))

-- a number of twenty digits has twenty
pub long_length : (n : ℕ) → n < 2 ^ 64 → length (long_number n) ≡ 20
long_length n h =
    let s = number_short n h in
    let a = length-append (replicate (20 - length (number_text n)) 48) (number_text n) in
    let r = length-replicate (20 - length (number_text n)) 48 in
    sum (length (number_text n)) (length (replicate (20 - length (number_text n)) 48)) (length (long_number n)) s a r
  where
    sum : (k z t : ℕ) → k ≤ 20 → t ≡ z + k → z ≡ 20 - k → t ≡ 20
    sum k z t s a r = omega arith

long_value : (n : ℕ) → n < 2 ^ 64 → digits_value 10 (long_number n) ≡ n
long_value n h = after_zeros (20 - length (number_text n)) (number_text n) ∙ ap (digits_value 10) (text_is_decimal n h) ∙ digits_value-decimal numerals n h

-- a number of twenty digits is read as the number
pub long_read : (n : ℕ) → n < 2 ^ 64 → long_number_in (long_number n) ≡ Some n
long_read n h =
    let l : nat_eq (length (long_number n)) 20 ≡ true = ap (λ k. nat_eq k 20) (long_length n h) in
    let some : nat_lt 0 (length (long_number n)) ≡ true = ap (nat_lt 0) (long_length n h) in
    let small : nat_lt (digits_value 10 (long_number n)) (2 ^ 64) ≡ true = let v = long_value n h in grind (arith, nat_tests) in
    ap (λ b. cond b (decimal_of (long_number n)) None) l
    ∙ (λ i. cond (long_digits n i && some i && small i) (Some (digits_value 10 (long_number n))) None)
    ∙ ap Some (long_value n h)

-- a number of twenty digits is written so
pub long_of : (x : Bytes) (n : ℕ) → long_number_in x ≡ Some n → (x ≡ long_number n) × (n < 2 ^ 64)
long_of x n e = by (nat_eq (length x) 20) (is_number x) refl refl e
  where
    by : (a b : Bool) → nat_eq (length x) 20 ≡ a → is_number x ≡ b → cond a (cond b (Some (digits_value 10 x)) None) None ≡ Some n → (x ≡ long_number n) × (n < 2 ^ 64)
    by false b h g i = absurd (cc)
    by true false h g i = absurd (cc)
    by true true h g i =
        let value : digits_value 10 x ≡ n = cc i in
        let digits : AreDigits x = is_true _ (first (list_all is_ascii_digit x) _ (first (list_all is_ascii_digit x && nat_lt 0 (length x)) _ (passes _ g))) in
        let test : nat_lt (digits_value 10 x) (2 ^ 64) ≡ true = is_true _ (second (list_all is_ascii_digit x && nat_lt 0 (length x)) _ (passes _ g)) in
        let below : digits_value 10 x < 2 ^ 64 = grind (arith, nat_tests) in
        let small = subst (λ m. m < 2 ^ 64) value below in
        let long : length x ≡ 20 = eqb→eq (length x) 20 (passes _ h) in
        ((one_digits x (long_number n) 0 0 digits (long_digits n) (long ∙ sym (long_length n small)) (value ∙ sym (long_value n small))).1, small)

no_space : (x : Bytes) → AreDigits x → lacks 32 x ≡ true
no_space [] h = refl
no_space (b ∷ x) h =
    let d : is_ascii_digit b ≡ true = is_true _ (first (is_ascii_digit b) (list_all is_ascii_digit x) (passes _ h)) in
    let other : nat_eq b 32 ≡ false = grind (arith, nat_tests) in
    rw other (no_space x (is_true _ (second (is_ascii_digit b) (list_all is_ascii_digit x) (passes _ h))))

long_no_space : (n : ℕ) → lacks 32 (long_number n) ≡ true
long_no_space n = no_space (long_number n) (long_digits n)

-- ---- digests

-- a digest has 32 bytes
pub digest_long : (d : Bytes) → T (is_digest d) → length d ≡ 32
digest_long d h = eqb→eq (length d) 32 (first (nat_eq (length d) 32) _ h)

digest_bytes : (d : Bytes) → T (is_digest d) → T (list_all (λ b. nat_lt b 256) d)
digest_bytes d h = second (nat_eq (length d) 32) _ h

-- the digits of bytes are lower-case digits
lower_digits : (x : Bytes) → T (list_all (λ b. nat_lt b 256) x) → T (list_all is_lower_digit (hex x))
lower_digits [] h = tt
lower_digits (b ∷ x) h =
    let one = first (nat_lt b 256) (list_all (λ c. nat_lt c 256) x) h in
    let name : Bytes = b ∷ replicate 19 0 in
    let two = tree.digits_of (hex name) (hex_text name (both _ _ one tt)) in
    let front = first (is_lower_digit (hex_digit (b / 16))) _ two in
    let back = first (is_lower_digit (hex_digit (b % 16))) _ (second (is_lower_digit (hex_digit (b / 16))) _ two) in
    both _ _ front (both _ _ back (lower_digits x (second (nat_lt b 256) (list_all (λ c. nat_lt c 256) x) h)))

digest_text : (d : Bytes) → T (is_digest d) → is_digest_text (hex d) ≡ true
digest_text d h =
    let l = digest_long d h in
    let m = hex_long d in
    let long : length (hex d) ≡ 64 = omega arith in
    is_true _ (both _ _ (passes _ (eq-eqb (length (hex d)) 64 long)) (lower_digits d (digest_bytes d h)))

-- a digest is read from its digits
pub digest_read : (d : Bytes) → T (is_digest d) → digest_in (hex d) ≡ Some d
digest_read d h = ap (λ b. cond b (Some (unhex (hex d))) None) (digest_text d h) ∙ ap Some (unhex_hex d (digest_bytes d h))

-- what is read as a digest is written so
pub digest_of : (x d : Bytes) → digest_in x ≡ Some d → (x ≡ hex d) × T (is_digest d)
digest_of x d e = by (is_digest_text x) refl e
  where
    by : (b : Bool) → is_digest_text x ≡ b → cond b (Some (unhex x)) None ≡ Some d → (x ≡ hex d) × T (is_digest d)
    by false h i = absurd (cc)
    by true h i =
        let same : unhex x ≡ d = cc i in
        let digits = second (nat_eq (length x) 64) (list_all is_lower_digit x) (passes _ h) in
        let long : length x ≡ 64 = eqb→eq (length x) 64 (first (nat_eq (length x) 64) _ (passes _ h)) in
        let bytes = unhex_bytes x digits in
        let is : T (is_digest (unhex x)) = both _ _ (passes _ (eq-eqb (length (unhex x)) 32 (unhex_long x 32 long))) bytes in
        let again = hex_long (unhex x) in
        let short = unhex_long x 32 long in
        let even : length (hex (unhex x)) ≡ length x = omega arith in
        let text : hex (unhex x) ≡ x = one_unhex (hex (unhex x)) x (lower_digits (unhex x) bytes) digits even (ap (λ n. n % 2) (even ∙ long)) (unhex_hex (unhex x) bytes) in
        (sym text ∙ ap hex same, subst (λ z. T (is_digest z)) same is)

-- ---- two numbers and a digest

-- what is told by two numbers and a digest
pub record AreFields (first second : ℕ) (digest : Bytes) : Type 0 where
  pub one : first < 2 ^ 64
  pub other : second < 2 ^ 64
  pub is : T (is_digest digest)

module _ (show : ℕ → Bytes) (number : Bytes → Option ℕ) (of : (x : Bytes) (n : ℕ) → number x ≡ Some n → (x ≡ show n) × (n < 2 ^ 64)) (again : (n : ℕ) → n < 2 ^ 64 → number (show n) ≡ Some n) (no_space : (n : ℕ) → lacks 32 (show n) ≡ true) where
  -- the text of two numbers and a digest
  abbrev fields_text : Fields → Bytes
  fields_text p = show p.0 ++ (32 ∷ (show p.1.0 ++ (32 ∷ hex p.1.1)))

  fields_of : (x : Bytes) (p : Fields) → fields_in number x ≡ Some p → (x ≡ fields_text p) × AreFields p.0 p.1.0 p.1.1
  fields_of x p e =
      let c = both_some (λ q. option_and_then (with_second number q.1) (number q.0)) (cut_at 32 x) p e in
      let a = both_some (with_second number c.0.1) (number c.0.0) p c.2 in
      let k = both_some (λ q. option_and_then (with_digest a.0 q.1) (number q.0)) (cut_at 32 c.0.1) p a.2 in
      let b = both_some (with_digest a.0 k.0.1) (number k.0.0) p k.2 in
      let d = map_some (λ digest. (a.0, (b.0, digest))) (digest_in k.0.1) p b.2 in
      let one = of c.0.0 a.0 a.1 in
      let two = of k.0.0 b.0 b.1 in
      let three = digest_of k.0.1 d.0 d.1 in
      let same : ◌≡◌ {A = Fields} (a.0, (b.0, d.0)) p = d.2 in
      let spelled : x ≡ fields_text (a.0, (b.0, d.0)) =
      cut_spelled 32 x c.0 c.1 ∙ (λ i. one.0 i ++ 32 ∷ cut_spelled 32 c.0.1 k.0 k.1 i) ∙ (λ i. show a.0 ++ (32 ∷ (two.0 i ++ (32 ∷ three.0 i)))) in
      subst (λ z. (x ≡ fields_text z) × AreFields z.0 z.1.0 z.1.1) same (spelled, record { one = one.1; other = two.1; is = three.1 })

  fields_read : (p : Fields) → AreFields p.0 p.1.0 p.1.1 → fields_in number (fields_text p) ≡ Some p
  fields_read p h =
      ap (option_and_then (λ q. option_and_then (with_second number q.1) (number q.0))) (cut_after 32 (show p.0) (show p.1.0 ++ (32 ∷ hex p.1.1)) (no_space p.0))
      ∙ ap (option_and_then (with_second number (show p.1.0 ++ (32 ∷ hex p.1.1)))) (again p.0 h.one)
      ∙ ap (option_and_then (λ q. option_and_then (with_digest p.0 q.1) (number q.0))) (cut_after 32 (show p.1.0) (hex p.1.1) (no_space p.1.0))
      ∙ ap (option_and_then (with_digest p.0 (hex p.1.1))) (again p.1.0 h.other)
      ∙ ap (option_map (λ digest. (p.0, (p.1.0, digest)))) (digest_read p.1.1 h.is)

-- ---- slots

-- what is read as a slot is its text
pub slot_of : (x : Bytes) (s : Slot) → slot_in x ≡ Some s → (x ≡ slot_text s) × AreFields s.ends s.tail s.digest
slot_of x s e =
    let m = map_some (λ p. record { ends = p.0; tail = p.1.0; digest = p.1.1 }) (fields_in long_number_in x) s e in
    subst (λ (z : Slot). (x ≡ slot_text z) × AreFields z.ends z.tail z.digest) m.2 (fields_of long_number long_number_in long_of long_read long_no_space x m.0 m.1)

-- a slot is read from its text
pub slot_read : (s : Slot) → AreFields s.ends s.tail s.digest → slot_in (slot_text s) ≡ Some s
slot_read s h = ap (option_map (λ p. record { ends = p.0; tail = p.1.0; digest = p.1.1 })) (fields_read long_number long_number_in long_of long_read long_no_space (s.ends, (s.tail, s.digest)) h)

-- ---- runs

-- a number that is read is below 2^64
decimal_small : (x : Bytes) (n : ℕ) → decimal_of x ≡ Some n → n < 2 ^ 64
decimal_small x n e = by (is_number x) refl e
  where
    by : (b : Bool) → is_number x ≡ b → cond b (Some (digits_value 10 x)) None ≡ Some n → n < 2 ^ 64
    by false h i = absurd (cc)
    by true h i =
        let test : nat_lt (digits_value 10 x) (2 ^ 64) ≡ true = is_true _ (second (list_all is_ascii_digit x && nat_lt 0 (length x)) _ (passes _ h)) in
        let value : digits_value 10 x ≡ n = cc i in
        let below : digits_value 10 x < 2 ^ 64 = grind (arith, nat_tests) in
        subst (λ m. m < 2 ^ 64) value below

stored_small : (x : Bytes) (n : ℕ) → stored_number x ≡ Some n → n < 2 ^ 64
stored_small x n e = let p = both_some (if_written_so x) (decimal_of x) n e in by p.0 (decimal_small x p.0 p.1) (same_bytes (decimal p.0) x) p.2
  where
    by : (m : ℕ) → m < 2 ^ 64 → (b : Bool) → cond b (Some m) None ≡ Some n → n < 2 ^ 64
    by m l true i = let j : m ≡ n = cc i in subst (λ k. k < 2 ^ 64) j l
    by m l false i = absurd (cc)

stored_of : (x : Bytes) (n : ℕ) → stored_number x ≡ Some n → (x ≡ number_text n) × (n < 2 ^ 64)
stored_of x n e = (number_of x n e, stored_small x n e)

-- the text of a run without its LF
abbrev run_line : Run → Bytes
run_line run = number_text run.place ++ (32 ∷ (number_text run.count ++ (32 ∷ hex run.digest)))

-- what is read as a run is its text
pub run_of : (x : Bytes) (r : Run) → run_in x ≡ Some r → (x ≡ run_line r) × IsRun r
run_of x r e =
    let m = map_some (λ p. record { place = p.0; count = p.1.0; digest = p.1.1 }) (fields_in stored_number x) r e in
    let f = subst (λ (z : Run). (x ≡ run_line z) × AreFields z.place z.count z.digest) m.2 (fields_of number_text stored_number stored_of number_read number_no_space x m.0 m.1) in
    (f.0, record { place = f.1.one; count = f.1.other; digest = is_true _ f.1.is })

-- a run is read from its text
pub run_read : (r : Run) → IsRun r → run_in (run_line r) ≡ Some r
run_read r h =
    ap (option_map (λ p. record { place = p.0; count = p.1.0; digest = p.1.1 }))
    (fields_read number_text stored_number stored_of number_read number_no_space (r.place, (r.count, r.digest)) (record { one = h.place; other = h.count; is = passes _ h.digest }))

run_is_line : (r : Run) → T (is_line (run_line r))
run_is_line r =
    let digest = is_true _ (hex_line r.digest) in
    let count = line_append (number_text r.count) (32 ∷ hex r.digest) (is_true _ (number_line r.count)) digest in
    passes _ (line_append (number_text r.place) (32 ∷ (number_text r.count ++ (32 ∷ hex r.digest))) (is_true _ (number_line r.place)) count)

-- a run's text and what follows it, grouped to the right
run_flat : (r : Run) (rest : Bytes) → run_line r ++ 10 ∷ rest ≡ run_text r ++ rest
run_flat r rest = grouped (number_text r.place) (number_text r.count) (hex r.digest) rest
  where
    grouped : (a b c d : Bytes) → (a ++ (32 ∷ (b ++ (32 ∷ c)))) ++ 10 ∷ d ≡ (a ++ (32 ∷ (b ++ (32 ∷ (c ++ 10 ∷ []))))) ++ d
    grouped a b c d = simp append_assoc

-- what is read in a run's line
abbrev run_rest : Bytes × Bytes → Stored (Run × Bytes)
run_rest l = ok_or (run_in l.0) fault.BadRecord >>= λ run. Ok (run, l.1)

-- what is read as the next run is its text
pub next_run_of : (text : Bytes) (x : Run × Bytes) → next_run text ≡ Ok x → (text ≡ run_text x.0 ++ x.1) × IsRun x.0
next_run_of text x e =
    let p = both_steps (stored_line text) run_rest x e in
    let q = both_steps (ok_or (run_in p.0.0) fault.BadRecord) (λ run. Ok (run, p.0.1)) x p.2 in
    let same : ◌≡◌ {A = Run × Bytes} (q.0, p.0.1) x = ok_is (q.0, p.0.1) x q.2 in
    let run = run_of p.0.0 q.0 (if_there fault.BadRecord (run_in p.0.0) q.0 q.1) in
    subst (λ (z : Run × Bytes). (text ≡ run_text z.0 ++ z.1) × IsRun z.0) same
    (line_of text p.0 p.1 ∙ ap (λ z. z ++ 10 ∷ p.0.1) run.0 ∙ run_flat q.0 p.0.1, run.1)

-- a run is read from its line
pub next_run_read : (r : Run) (rest : Bytes) → IsRun r → next_run (run_text r ++ rest) ≡ Ok (r, rest)
next_run_read r rest h =
    ap next_run (sym (run_flat r rest))
    ∙ ap (λ s. s >>= run_rest) (line_read (run_line r) rest (line_lacks (run_line r) (run_is_line r)))
    ∙ ap (λ o. ok_or o fault.BadRecord >>= λ run. Ok (run, rest)) (run_read r h)

-- runs are read, each as it is written
pub record AreRuns (n : ℕ) (text : Bytes) (x : List Run × Bytes) : Type 0 where
  pub count : length x.0 ≡ n
  pub spelled : text ≡ flat_map run_text x.0 ++ x.1
  pub runs : AllByRecursion IsRun x.0

-- what is read as the next runs is their text
pub next_runs_of : (n : ℕ) (text : Bytes) (x : List Run × Bytes) → next_runs n text ≡ Ok x → AreRuns n text x
next_runs_of zero text x e =
    let same : ◌≡◌ {A = List Run × Bytes} ([], text) x = ok_is ([], text) x e in
    subst (AreRuns zero text) same (record { count = refl; spelled = refl; runs = tt })
next_runs_of (suc n) text x e =
    let p = both_steps (next_run text) (λ y. next_runs n y.1 >>= λ ys. Ok (y.0 ∷ ys.0, ys.1)) x e in
    let q = both_steps (next_runs n p.0.1) (λ ys. Ok (p.0.0 ∷ ys.0, ys.1)) x p.2 in
    let one = next_run_of text p.0 p.1 in
    let more = next_runs_of n p.0.1 q.0 q.1 in
    let same : ◌≡◌ {A = List Run × Bytes} (p.0.0 ∷ q.0.0, q.0.1) x = ok_is (p.0.0 ∷ q.0.0, q.0.1) x q.2 in
    subst (AreRuns (suc n) text) same (record {
      count = ap suc more.count;
      spelled = one.0 ∙ ap (λ z. run_text p.0.0 ++ z) more.spelled ∙ sym (append_assoc (run_text p.0.0) (flat_map run_text q.0.0) q.0.1);
      runs = (one.1, more.runs);
    })

-- runs are read from their lines
pub next_runs_read : (rs : List Run) (rest : Bytes) → AllByRecursion IsRun rs → next_runs (length rs) (flat_map run_text rs ++ rest) ≡ Ok (rs, rest)
next_runs_read [] rest h = refl
next_runs_read (r ∷ rs) rest h =
    ap (next_runs (length (r ∷ rs))) (append_assoc (run_text r) (flat_map run_text rs) rest)
    ∙ ap (λ s. s >>= λ y. next_runs (length rs) y.1 >>= λ ys. Ok (y.0 ∷ ys.0, ys.1)) (next_run_read r (flat_map run_text rs ++ rest) h.0)
    ∙ ap (λ s. s >>= λ ys. Ok (r ∷ ys.0, ys.1)) (next_runs_read rs rest h.1)
