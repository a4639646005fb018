-- The line of a record in a store text: it is read again, and whatever is read is spelled so.
use Rattle.std.proofs.Common.{◌≡◌, ℕ, ◌%◌, ◌<◌, ◌^◌, Bool, true, false, cond, refl, sym, ap, ◌∙◌, ◌∷◌, ◌++◌, length, Option, None, Some, eq-eqb}
use Rattle.std.specs.Prelude.{T}
use Rattle.std.specs.Bool.{passes}
use Rattle.std.specs.Option.{option_and_then}
use Rattle.std.specs.Map.{lookup}
use Rattle.gx_model.specs.declared.objects.Kind.{Kind}
use Rattle.gx_model.specs.declared.objects.Kind.TheVariants as kind
use Rattle.gx_model.specs.declared.store_versions.Version.{Version}
use Rattle.gx_model.specs.declared.store_versions.Version.TheVariants.{One, Two}
use Rattle.gx_model.specs.Texts.Numbers.{number_text}
use Rattle.gx_model.specs.Texts.{Bytes, cut_at, is_line, lacks, same_bytes}
use Rattle.gx_model.specs.Texts.Digits.{is_name_text}
use Rattle.gx_model.specs.Objects.{hex, is_name, unhex}
use Rattle.gx_model.specs.Objects.Naming.{kind_word}
use Rattle.gx_model.specs.Stores.StoreText.{length_text}
use Rattle.gx_model.specs.Stores.StoreReading.{Length, is_stated, kind_words, length_field, record_line, stored_number, with_digits, with_length}
use Rattle.gx_model.proofs.Texts.PathTests.{both, is_same, is_true, same_is}
use Rattle.gx_model.proofs.Texts.Cuts.{cut_after, cut_spelled}
use Rattle.gx_model.proofs.Texts.LineTexts.{line_append}
use Rattle.gx_model.proofs.Streams.CommandFields.{number_no_space}
use Rattle.gx_model.proofs.Texts.HexDigits.{one_unhex}
use Rattle.gx_model.proofs.ObjectTexts.OneTree.{digits_of, forty, unhex_long}
use Rattle.gx_model.proofs.Records.OneHistory.{hex_line}
use Rattle.gx_model.proofs.ObjectTexts.BodiesReadBack.{bytes_name, unhex_hex}
use Rattle.gx_model.proofs.ObjectTexts.TreePaths.{unhex_bytes}
use Rattle.gx_model.proofs.Records.ReadRecords.{hex_text}
use Rattle.gx_model.proofs.Stores.StoreTexts.{both_some, number_line, number_of, number_read}

-- ---- digits

-- a name's digits are those of the bytes that they write
pub hex_unhex : (x : Bytes) → T (is_name_text x) → hex (unhex x) ≡ x
hex_unhex x h =
    let d = digits_of x h in
    let long : length (unhex x) ≡ 20 = unhex_long x 20 (forty x h) in
    let bytes = unhex_bytes x d in
    let name : T (is_name (unhex x)) = both _ _ (passes _ (eq-eqb (length (unhex x)) 20 long)) bytes in
    let text = hex_text (unhex x) name in
    one_unhex (hex (unhex x)) x (digits_of (hex (unhex x)) text) d (forty (hex (unhex x)) text ∙ sym (forty x h)) (ap (λ n. n % 2) (forty (hex (unhex x)) text)) (unhex_hex (unhex x) bytes)

-- ---- a length, and a name behind it

-- the name that a line states
abbrev pub stated_name : Version → Bytes → Option Bytes
stated_name One name = None
stated_name Two name = Some name

-- a stated name is the record's
pub stated_is_named : (v : Version) (name : Bytes) → is_stated (stated_name v name) name ≡ true
stated_is_named One name = refl
stated_is_named Two name = is_true _ (is_same name name refl)

-- a name's digits are read where they state this name
digits_state : (digits name : Bytes) (n : ℕ) (y : Length) → with_digits digits n ≡ Some y → is_stated y.1 name ≡ true → (n ≡ y.0) × (digits ≡ hex name)
digits_state digits name n y e s = by (is_name_text digits) refl e
  where
    by : (b : Bool) → is_name_text digits ≡ b → cond b (Some (n, Some (unhex digits))) None ≡ Some y → (n ≡ y.0) × (digits ≡ hex name)
    by false h i = absurd (cc)
    by true h i =
        let same : ◌≡◌ {A = Length} (n, Some (unhex digits)) y = cc i in
        let stated : is_stated (Some (unhex digits)) name ≡ true = ap (λ (z : Length). is_stated z.1 name) same ∙ s in
        (ap (λ (z : Length). z.0) same, sym (hex_unhex digits (passes _ h)) ∙ ap hex (same_is (unhex digits) name (passes _ stated)))

-- a length is a number's text, with the digits of the name that it states
field_of : (v : Version) (x name : Bytes) (y : Length) → length_field v x ≡ Some y → is_stated y.1 name ≡ true → x ≡ length_text v y.0 name
field_of One x name y e s =
    let p = both_some (λ (n : ℕ). Some (n, None)) (stored_number x) y e in
    let same : ◌≡◌ {A = Length} (p.0, None) y = cc (p.2) in
    number_of x p.0 p.1 ∙ ap (λ (z : Length). number_text z.0) same
field_of Two x name y e s =
    let p = both_some (λ q. option_and_then (with_digits q.1) (stored_number q.0)) (cut_at 32 x) y e in
    let n = both_some (with_digits p.0.1) (stored_number p.0.0) y p.2 in
    let d = digits_state p.0.1 name n.0 y n.2 s in
    cut_spelled 32 x p.0 p.1 ∙ (λ i. number_of p.0.0 n.0 n.1 i ++ 32 ∷ d.1 i) ∙ ap (λ m. number_text m ++ 32 ∷ hex name) d.0

-- a length's text is read
field_read : (v : Version) (n : ℕ) (name : Bytes) → n < 2 ^ 64 → T (is_name name) → length_field v (length_text v n name) ≡ Some (n, stated_name v name)
field_read One n name l h = ap (option_and_then (λ (m : ℕ). Some (m, None))) (number_read n l)
field_read Two n name l h =
    let text = hex_text name h in
    ap (option_and_then (λ q. option_and_then (with_digits q.1) (stored_number q.0))) (cut_after 32 (number_text n) (hex name) (number_no_space n))
    ∙ ap (option_and_then (with_digits (hex name))) (number_read n l)
    ∙ ap (λ b. cond b (Some (n, Some (unhex (hex name)))) None) (is_true _ text)
    ∙ ap (λ z. Some (n, Some z)) (unhex_hex name (bytes_name name h))

-- a length's text has no LF
pub length_is_line : (v : Version) (n : ℕ) (name : Bytes) → T (is_line (length_text v n name))
length_is_line One n name = number_line n
length_is_line Two n name = passes _ (line_append (number_text n) (32 ∷ hex name) (is_true _ (number_line n)) (is_true _ (hex_line name)))

-- ---- kinds

-- a kind's word is found, and has neither space nor LF
pub kind_found : (k : Kind) → (lookup (same_bytes (kind_word k)) kind_words ≡ Some k) × (lacks 32 (kind_word k) ≡ true) × T (is_line (kind_word k))
kind_found kind.Blob = (refl, refl, tt)
kind_found kind.Tree = (refl, refl, tt)
kind_found kind.Commit = (refl, refl, tt)
kind_found kind.Tag = (refl, refl, tt)

-- a word that finds a kind is its word
kind_of : (w : Bytes) (k : Kind) → lookup (same_bytes w) kind_words ≡ Some k → w ≡ kind_word k
kind_of w k e = by (same_bytes w (kind_word kind.Blob)) (same_bytes w (kind_word kind.Tree)) (same_bytes w (kind_word kind.Commit)) (same_bytes w (kind_word kind.Tag)) refl refl refl refl e
  where
    is : (j : Kind) → same_bytes w (kind_word j) ≡ true → ◌≡◌ {A = Option Kind} (Some j) (Some k) → w ≡ kind_word k
    is j h i = let s : j ≡ k = cc i in same_is w (kind_word j) (passes _ h) ∙ ap kind_word s

    by : (a b c d : Bool) → same_bytes w (kind_word kind.Blob) ≡ a → same_bytes w (kind_word kind.Tree) ≡ b → same_bytes w (kind_word kind.Commit) ≡ c → same_bytes w (kind_word kind.Tag) ≡ d
        → cond a (Some kind.Blob) (cond b (Some kind.Tree) (cond c (Some kind.Commit) (cond d (Some kind.Tag) None))) ≡ Some k → w ≡ kind_word k
    by true b c d f g h j i = is kind.Blob f i
    by false true c d f g h j i = is kind.Tree g i
    by false false true d f g h j i = is kind.Commit h i
    by false false false true f g h j i = is kind.Tag j i
    by false false false false f g h j i = absurd (cc)

-- ---- the line

-- what is read of the two fields of a record's line
abbrev kind_rest : Version → Bytes × Bytes → Option (Kind × Length)
kind_rest v p = option_and_then (with_length v p.1) (lookup (same_bytes p.0) kind_words)

-- a record's line has a kind's word and a length, with the name that it states
pub record_line_of : (v : Version) (l name : Bytes) (x : Kind × Length) → record_line v l ≡ Some x → is_stated x.1.1 name ≡ true → l ≡ kind_word x.0 ++ 32 ∷ length_text v x.1.0 name
record_line_of v l name x e s =
    let p = both_some (kind_rest v) (cut_at 32 l) x e in
    let k = both_some (with_length v p.0.1) (lookup (same_bytes p.0.0) kind_words) x p.2 in
    let n = both_some (λ (n : Length). Some (k.0, n)) (length_field v p.0.1) x k.2 in
    let same : ◌≡◌ {A = Kind × Length} (k.0, n.0) x = cc (n.2) in
    let stated : is_stated n.0.1 name ≡ true = ap (λ (z : Kind × Length). is_stated z.1.1 name) same ∙ s in
    cut_spelled 32 l p.0 p.1 ∙ (λ i. kind_of p.0.0 k.0 k.1 i ++ 32 ∷ field_of v p.0.1 name n.0 n.1 stated i) ∙ ap (λ (z : Kind × Length). kind_word z.0 ++ 32 ∷ length_text v z.1.0 name) same

-- a record's line is read as its kind and length
pub record_line_read : (v : Version) (k : Kind) (n : ℕ) (name : Bytes) → n < 2 ^ 64 → T (is_name name) → record_line v (kind_word k ++ 32 ∷ length_text v n name) ≡ Some (k, (n, stated_name v name))
record_line_read v k n name l h =
    let f = kind_found k in
    ap (option_and_then (kind_rest v)) (cut_after 32 (kind_word k) (length_text v n name) f.1)
    ∙ ap (option_and_then (with_length v (length_text v n name))) f.0
    ∙ ap (option_and_then (λ (m : Length). Some (k, m))) (field_read v n name l h)
