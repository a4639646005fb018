-- Each text of a line has one shape, and it is what the function gives.
use Rattle.std.proofs.Common.{◌≡◌, ◌⊎◌, inl, inr, ℕ, zero, suc, ◌<◌, Bool, true, false, Option, Some, None, Ok, Err, List, [], ◌∷◌, length, codes, refl, sym, ap, ◌∙◌, arith}
use Rattle.std.specs.Prelude.{replicate, ◌==◌, if◌then◌else◌}
use Rattle.std.specs.List.{list_all}
use Rattle.std.proofs.lemmas.Bool.{false≢true, eqb-true}
use Rattle.std.proofs.lemmas.Bool.Decides.{nat_tests}
use Rattle.gx_model.specs.declared.faults.Fault.{Fault}
use Rattle.gx_model.specs.declared.faults.Fault.TheVariants as faults
use Rattle.gx_model.specs.Texts.{Bytes, is_line}
use Rattle.gx_model.specs.Texts.Numbers.{decimal_of}
use Rattle.gx_model.specs.Texts.RefNames.{is_ref_name, is_tag_name}
use Rattle.gx_model.specs.Texts.Idents.{is_ident, IsIdent}
use Rattle.gx_model.specs.Histories.Values.{is_optional_encoding}
use Rattle.gx_model.specs.Faults.{Given, ◌>>=◌}
use Rattle.gx_model.specs.Streams.Spelling.{IsNot}
use Rattle.gx_model.specs.Streams.Commands.{Marked, Named}
use Rattle.gx_model.specs.Streams.Lines as read
use Rattle.gx_model.specs.Streams.Grammar.{AtMark, AtName, AtBlock, where_of}
use Rattle.gx_model.specs.Streams.Lines.{mark_of, mark_number, any_text, encoding_of, ident_of, ref_of, tag_of, commit_ish_of, commit_ish_by, feature_of, mode_of, is_null}
use Rattle.gx_model.specs.Texts.Digits.{is_any_name_text}
use Rattle.gx_model.specs.Streams.LineShapes.{TextShape, IsOneOf, IsForm, has_form, lacks_form, IsIdentText, IsRefText, IsEncodingText, IsAnyText, IsMarkText, is_mark, mark_is_zero, mark_is_no_number, is_no_mark, forty_zeros, IsCommitIshText, names_mark, names_bad_mark, names_zeros, names_commit, IsFeatureText, asks_done, asks_raw_dates, asks_force, asks_other, mode_texts, IsModeText, mode_file, mode_executable, mode_link, mode_gitlink, mode_directory, mode_other, IsDataRefText, at_mark, at_bad_mark, at_block, at_zeros, at_name, at_nothing, IsTagNameText, with_colon}
use Rattle.gx_model.proofs.Texts.Idents.{and_one, and_two, ident_tells}
use Rattle.gx_model.proofs.Streams.Readings.{refuted}
use Rattle.gx_model.proofs.Streams.WordShapes.{same, differs, tested}

-- what the shape says is what the function gives
abbrev pub IsReadBy : {A : Type 0} → TextShape A → (Bytes → Given A) → Type 0
IsReadBy {A} Shape read = (text : Bytes) (g : Given A) → Shape text g → read text ≡ g

-- each text has the shape of something
abbrev pub IsTotal : {A : Type 0} → TextShape A → Type 0
IsTotal {A} Shape = (text : Bytes) → (g : Given A) × Shape text g

-- ---- texts of one form

form_read : (Form : Bytes → Type 0) (f : Fault) (test : Bytes → Bool) → ((text : Bytes) → Form text → test text ≡ true) → ((text : Bytes) → test text ≡ true → Form text)
    → IsReadBy (IsForm Form f) (λ text. if test text then Ok text else Err f)
form_read Form f test holds only text g (has_form h) = rw (holds text h) refl
form_read Form f test holds only text g (lacks_form h) = rw (refuted (test text) (λ e. h (only text e))) refl

form_there : (Form : Bytes → Type 0) (f : Fault) (test : Bytes → Bool) → ((text : Bytes) → Form text → test text ≡ true) → ((text : Bytes) → test text ≡ true → Form text) → IsTotal (IsForm Form f)
form_there Form f test holds only text = by (tested (test text)) where
  by : (test text ≡ true) ⊎ (test text ≡ true → ⊥) → (g : Given Bytes) × IsForm Form f text g
  by (inl e) = (Ok text, has_form (only text e))
  by (inr n) = (Err f, lacks_form (λ h. n (holds text h)))

pub ident_shape : IsReadBy IsIdentText ident_of
ident_shape = form_read IsIdent faults.BadIdent is_ident (λ text. (ident_tells text).1) (λ text. (ident_tells text).0)

pub ident_there : IsTotal IsIdentText
ident_there = form_there IsIdent faults.BadIdent is_ident (λ text. (ident_tells text).1) (λ text. (ident_tells text).0)

pub ref_shape : IsReadBy IsRefText ref_of
ref_shape = form_read (λ text. is_ref_name text ≡ true) faults.BadRefName is_ref_name (λ text h. h) (λ text h. h)

pub ref_there : IsTotal IsRefText
ref_there = form_there (λ text. is_ref_name text ≡ true) faults.BadRefName is_ref_name (λ text h. h) (λ text h. h)

pub tag_shape : IsReadBy IsTagNameText tag_of
tag_shape = form_read (λ text. is_tag_name text ≡ true) faults.BadRefName is_tag_name (λ text h. h) (λ text h. h)

pub tag_there : IsTotal IsTagNameText
tag_there = form_there (λ text. is_tag_name text ≡ true) faults.BadRefName is_tag_name (λ text h. h) (λ text h. h)

encoded : (text : Bytes) → (0 < length text) × (is_line text ≡ true) → is_optional_encoding (Some text) ≡ true
encoded [] h = let l = h.0 in absurd (omega (arith, l))
encoded (b ∷ bs) h = h.1

encoding_is : (text : Bytes) → is_optional_encoding (Some text) ≡ true → (0 < length text) × (is_line text ≡ true)
encoding_is [] e = absurd (false≢true e)
encoding_is (b ∷ bs) e = (omega arith, e)

pub encoding_shape : IsReadBy IsEncodingText encoding_of
encoding_shape = form_read (λ text. (0 < length text) × (is_line text ≡ true)) faults.BadLine (λ text. is_optional_encoding (Some text)) encoded encoding_is

pub encoding_there : IsTotal IsEncodingText
encoding_there = form_there (λ text. (0 < length text) × (is_line text ≡ true)) faults.BadLine (λ text. is_optional_encoding (Some text)) encoded encoding_is

pub any_shape : IsReadBy IsAnyText any_text
any_shape text g h = sym h

pub any_there : IsTotal IsAnyText
any_there text = (Ok tt, refl)

-- ---- marks

no_colon : (text : Bytes) → IsNot with_colon text → read.colon_number text ≡ None
no_colon [] h = refl
no_colon (b ∷ bs) h = rw (refuted (b == 58) (λ e. h bs (ap (λ x. x ∷ bs) (eqb-true b 58 e)))) refl

-- behind a `:`, or with none
colon : (text : Bytes) → ((digits : Bytes) × (text ≡ with_colon digits)) ⊎ IsNot with_colon text
colon [] = inr (λ x e. absurd cc)
colon (b ∷ bs) = by (tested (b == 58)) where
  by : ((b == 58) ≡ true) ⊎ ((b == 58) ≡ true → ⊥) → ((digits : Bytes) × (b ∷ bs ≡ with_colon digits)) ⊎ IsNot with_colon (b ∷ bs)
  by (inl e) = inl (bs, ap (λ x. x ∷ bs) (eqb-true b 58 e))
  by (inr n) = inr (λ x e. let k : b ≡ 58 = cc in n (let t : (b == 58) ≡ true = grind (arith, nat_tests) in t))

number_is : (digits : Bytes) (n : ℕ) → decimal_of digits ≡ Some n → 0 < n → mark_number digits ≡ Ok n
number_is digits n e l =
    let t : (n == 0) ≡ false = grind (arith, nat_tests) in
    rw (e, t) refl

pub mark_shape : IsReadBy IsMarkText mark_of
unfolding mark_of
mark_shape text g (is_mark {digits = digits} {n = n} e d l) = ap mark_of e ∙ number_is digits n d l
mark_shape text g (mark_is_zero {digits = digits} e d) = ap mark_of e ∙ rw d refl
mark_shape text g (mark_is_no_number {digits = digits} e d) = ap mark_of e ∙ rw d refl
mark_shape text g (is_no_mark h) = rw (no_colon text h) refl

behind_colon : (text digits : Bytes) → text ≡ with_colon digits → (g : Given ℕ) × IsMarkText text g
behind_colon text digits e = by (decimal_of digits) refl where
  by : (o : Option ℕ) → decimal_of digits ≡ o → (g : Given ℕ) × IsMarkText text g
  by None d = (Err faults.BadNumber, mark_is_no_number e d)
  by (Some zero) d = (Err faults.BadNumber, mark_is_zero e d)
  by (Some (suc n)) d = (Ok (suc n), is_mark e d (omega arith))

pub mark_there : IsTotal IsMarkText
mark_there text = by (colon text) where
  by : ((digits : Bytes) × (text ≡ with_colon digits)) ⊎ IsNot with_colon text → (g : Given ℕ) × IsMarkText text g
  by (inl c) = behind_colon text c.0 c.1
  by (inr h) = (Err faults.BadLine, is_no_mark h)

-- a mark begins with `:`
mark_begins : (text : Bytes) (n : ℕ) → IsMarkText text (Ok n) → (digits : Bytes) × (text ≡ with_colon digits)
mark_begins text n (is_mark {digits = digits} e d l) = (digits, e)

number_of : (text digits : Bytes) (g : Given ℕ) → text ≡ with_colon digits → IsMarkText text g → mark_number digits ≡ g
unfolding mark_of
number_of text digits g e h = sym (ap mark_of e) ∙ mark_shape text g h

-- ---- what names a commit

zeros_are : (bs : Bytes) → list_all (λ b. b == 48) bs ≡ true → bs ≡ replicate (length bs) 48
zeros_are [] e = refl
zeros_are (b ∷ bs) e = let here = eqb-true b 48 (and_one (b == 48) _ e) in let again = zeros_are bs (and_two (b == 48) _ e) in cc

null_is : (text : Bytes) → is_null text ≡ true → text ≡ forty_zeros
null_is text e = zeros_are text (and_one _ _ e) ∙ ap (λ n. replicate n 48) (eqb-true (length text) 40 (and_two (list_all (λ b. b == 48) text) _ e))

no_null : (text : Bytes) → (text ≡ forty_zeros → ⊥) → is_null text ≡ false
no_null text h = refuted (is_null text) (λ e. h (null_is text e))

pub commit_ish_shape : IsReadBy IsCommitIshText commit_ish_of
unfolding commit_ish_of
commit_ish_shape text g (names_mark {n = n} h) =
    let m = mark_begins text n h in
    ap commit_ish_of m.1 ∙ ap (λ r. r >>= λ n. Ok (Marked n)) (number_of text m.0 (Ok n) m.1 h)
commit_ish_shape text g (names_bad_mark {digits = digits} {f = f} e h) = ap commit_ish_of e ∙ ap (λ r. r >>= λ n. Ok (Marked n)) (number_of text digits (Err f) e h)
commit_ish_shape text g (names_zeros e) = ap commit_ish_of e
commit_ish_shape text g (names_commit h z) = rw (no_colon text h, no_null text z) refl

pub commit_ish_there : IsTotal IsCommitIshText
commit_ish_there text = by (colon text) where
  marked : (digits : Bytes) → text ≡ with_colon digits → (g : Given ℕ) → IsMarkText text g → (r : Given _) × IsCommitIshText text r
  marked digits e (Ok n) h = (Ok (Marked n), names_mark h)
  marked digits e (Err f) h = (Err f, names_bad_mark e h)

  bare : IsNot with_colon text → (text ≡ forty_zeros) ⊎ (text ≡ forty_zeros → ⊥) → (r : Given _) × IsCommitIshText text r
  bare h (inl z) = (Err faults.Unsupported, names_zeros z)
  bare h (inr z) = (Ok (Named text), names_commit h z)

  by : ((digits : Bytes) × (text ≡ with_colon digits)) ⊎ IsNot with_colon text → (r : Given _) × IsCommitIshText text r
  by (inl c) = let m = behind_colon text c.0 c.1 in marked c.0 c.1 m.0 m.1
  by (inr h) = bare h (same text forty_zeros)

-- ---- features

pub feature_shape : IsReadBy IsFeatureText feature_of
feature_shape text g (asks_done e) = rw e refl
feature_shape text g (asks_raw_dates e) = rw e refl
feature_shape text g (asks_force e) = rw e refl
feature_shape text g (asks_other h) =
    rw (differs text (codes "done") (λ e. h (inl e)), differs text (codes "date-format=raw") (λ e. h (inr (inl e))), differs text (codes "force") (λ e. h (inr (inr (inl e))))) refl

abbrev SameOrNot : Bytes → Bytes → Type 0
SameOrNot x y = (x ≡ y) ⊎ (x ≡ y → ⊥)

pub feature_there : IsTotal IsFeatureText
feature_there text = by (same text (codes "done")) (same text (codes "date-format=raw")) (same text (codes "force")) where
  by : SameOrNot text (codes "done") → SameOrNot text (codes "date-format=raw") → SameOrNot text (codes "force") → (g : Given _) × IsFeatureText text g
  by (inl e) b c = (_, asks_done e)
  by (inr m) (inl e) c = (_, asks_raw_dates e)
  by (inr m) (inr n) (inl e) = (_, asks_force e)
  by (inr m) (inr n) (inr o) = (Err faults.Unsupported, asks_other no) where
    no : IsOneOf (codes "done" ∷ codes "date-format=raw" ∷ codes "force" ∷ []) text → ⊥
    no (inl e) = m e
    no (inr (inl e)) = n e
    no (inr (inr (inl e))) = o e
    no (inr (inr (inr e))) = e

-- ---- modes

pub mode_shape : IsReadBy IsModeText mode_of
mode_shape text g (mode_file (inl e)) = rw e refl
mode_shape text g (mode_file (inr e)) = rw e refl
mode_shape text g (mode_executable (inl e)) = rw e refl
mode_shape text g (mode_executable (inr e)) = rw e refl
mode_shape text g (mode_link e) = rw e refl
mode_shape text g (mode_gitlink e) = rw e refl
mode_shape text g (mode_directory (inl e)) = rw e refl
mode_shape text g (mode_directory (inr e)) = rw e refl
mode_shape text g (mode_other h) =
    rw (
      differs text (codes "100644") (λ e. h (inl e)),
      differs text (codes "644") (λ e. h (inr (inl e))),
      differs text (codes "100755") (λ e. h (inr (inr (inl e)))),
      differs text (codes "755") (λ e. h (inr (inr (inr (inl e))))),
      differs text (codes "120000") (λ e. h (inr (inr (inr (inr (inl e)))))),
      differs text (codes "160000") (λ e. h (inr (inr (inr (inr (inr (inl e))))))),
      differs text (codes "040000") (λ e. h (inr (inr (inr (inr (inr (inr (inl e)))))))),
      differs text (codes "40000") (λ e. h (inr (inr (inr (inr (inr (inr (inr (inl e))))))))),
    ) refl

-- one of these, or none
one_of : (xs : List Bytes) (text : Bytes) → IsOneOf xs text ⊎ (IsOneOf xs text → ⊥)
one_of [] text = inr (λ h. h)
one_of (x ∷ xs) text = by (same text x) (one_of xs text) where
  by : SameOrNot text x → IsOneOf xs text ⊎ (IsOneOf xs text → ⊥) → IsOneOf (x ∷ xs) text ⊎ (IsOneOf (x ∷ xs) text → ⊥)
  by (inl e) o = inl (inl e)
  by (inr n) (inl h) = inl (inr h)
  by (inr n) (inr m) = inr none where
    none : IsOneOf (x ∷ xs) text → ⊥
    none (inl e) = n e
    none (inr h) = m h

pub mode_there : IsTotal IsModeText
mode_there text = by (one_of mode_texts text) where
  by : IsOneOf mode_texts text ⊎ (IsOneOf mode_texts text → ⊥) → (g : Given _) × IsModeText text g
  by (inl (inl e)) = (_, mode_file (inl e))
  by (inl (inr (inl e))) = (_, mode_file (inr e))
  by (inl (inr (inr (inl e)))) = (_, mode_executable (inl e))
  by (inl (inr (inr (inr (inl e))))) = (_, mode_executable (inr e))
  by (inl (inr (inr (inr (inr (inl e)))))) = (_, mode_link e)
  by (inl (inr (inr (inr (inr (inr (inl e))))))) = (_, mode_gitlink e)
  by (inl (inr (inr (inr (inr (inr (inr (inl e)))))))) = (_, mode_directory (inl e))
  by (inl (inr (inr (inr (inr (inr (inr (inr (inl e))))))))) = (_, mode_directory (inr e))
  by (inl (inr (inr (inr (inr (inr (inr (inr (inr e))))))))) = absurd e
  by (inr h) = (Err faults.BadMode, mode_other h)

-- ---- what content is taken from

name_no_colon : (text : Bytes) → is_any_name_text text ≡ true → IsNot with_colon text
name_no_colon text h x e = false≢true (sym (ap is_any_name_text e) ∙ h)

name_no_block : (text : Bytes) → is_any_name_text text ≡ true → text ≡ codes "inline" → ⊥
name_no_block text h e = false≢true (sym (ap is_any_name_text e) ∙ h)

pub dataref_shape : IsReadBy IsDataRefText where_of
dataref_shape text g (at_mark {n = n} h) =
    let m = mark_begins text n h in
    ap where_of m.1 ∙ ap (λ r. r >>= λ n. Ok (AtMark n)) (number_of text m.0 (Ok n) m.1 h)
dataref_shape text g (at_bad_mark {digits = digits} {f = f} e h) = ap where_of e ∙ ap (λ r. r >>= λ n. Ok (AtMark n)) (number_of text digits (Err f) e h)
dataref_shape text g (at_block e) = ap where_of e
dataref_shape text g (at_zeros e) = ap where_of e
dataref_shape text g (at_name h z) = rw (no_colon text (name_no_colon text h), differs text (codes "inline") (name_no_block text h), no_null text z, h) refl
dataref_shape text g (at_nothing m b h) = rw (no_colon text m, differs text (codes "inline") b, no_null text (λ e. h (ap is_any_name_text e)), refuted (is_any_name_text text) h) refl

pub dataref_there : IsTotal IsDataRefText
dataref_there text = by (colon text) where
  marked : (digits : Bytes) → text ≡ with_colon digits → (g : Given ℕ) → IsMarkText text g → (r : Given _) × IsDataRefText text r
  marked digits e (Ok n) h = (Ok (AtMark n), at_mark h)
  marked digits e (Err f) h = (Err f, at_bad_mark e h)

  bare : IsNot with_colon text → SameOrNot text (codes "inline") → SameOrNot text forty_zeros → (is_any_name_text text ≡ true) ⊎ (is_any_name_text text ≡ true → ⊥) → (r : Given _) × IsDataRefText text r
  bare m (inl b) z h = (Ok AtBlock, at_block b)
  bare m (inr b) (inl z) h = (Err faults.Unsupported, at_zeros z)
  bare m (inr b) (inr z) (inl h) = (Ok (AtName text), at_name h z)
  bare m (inr b) (inr z) (inr h) = (Err faults.BadLine, at_nothing m b h)

  by : ((digits : Bytes) × (text ≡ with_colon digits)) ⊎ IsNot with_colon text → (r : Given _) × IsDataRefText text r
  by (inl c) = let m = behind_colon text c.0 c.1 in marked c.0 c.1 m.0 m.1
  by (inr h) = bare h (same text (codes "inline")) (same text forty_zeros) (tested (is_any_name_text text))
