-- Texts that hold no LF.
use Rattle.std.proofs.Common.{◌≡◌, ℕ, ◌+◌, ◌/◌, ◌%◌, Bool, true, false, cond, not, ◌&&◌, Option, Some, None, [], ◌∷◌, ◌++◌, nat_eq, refl, sym, ap, ◌∙◌, arith, inl, inr, ◌⊎◌, append_assoc}
use Rattle.std.specs.List.{list_all, flat_map}
use Rattle.std.specs.Char.{is_ascii_digit}
use Rattle.std.proofs.lemmas.Bool.{false≢true, and_from, not-true, or_parts, not_from_false}
use Rattle.std.proofs.lemmas.Bool.Decides.{Decides-eqb, nat_tests}
use Rattle.std.proofs.lemmas.List.Folds.{list_all-append}
use Rattle.gx_model.specs.Texts.{Bytes, is_line, lacks}
use Rattle.gx_model.specs.Texts.Numbers.{is_number}
use Rattle.gx_model.specs.Texts.RefNames.{is_ref_name, is_ref_byte, tag_ref, is_tag_name}
use Rattle.gx_model.specs.Texts.Idents.{is_ident, is_plain, is_offset, IsIdentHead}
use Rattle.gx_model.specs.Texts.Paths.{printed, printed_byte, is_printed_bare, letter_of, escaped}
use Rattle.gx_model.proofs.Texts.Idents.{and_one, and_two, reads_ident}

-- each byte passes a test that LF doesn't pass
pub line_by : (P : ℕ → Bool) → P 10 ≡ false → (xs : Bytes) → list_all P xs ≡ true → is_line xs ≡ true
line_by P not_lf [] h = refl
line_by P not_lf (x ∷ xs) h =
    let rest = line_by P not_lf xs (and_two (P x) _ h) in
    elim (nat_eq x 10) as (λ t. nat_eq x 10 ≡ t → (not t && is_line xs) ≡ true) [
      | true ↦ λ e. absurd (false≢true (sym not_lf ∙ ap P (sym ((Decides-eqb x 10).0 e)) ∙ and_one (P x) _ h))
      | false ↦ λ e. rest
    ] refl

pub line_append : (xs ys : Bytes) → is_line xs ≡ true → is_line ys ≡ true → is_line (xs ++ ys) ≡ true
line_append xs ys h g = list_all-append (λ b. not (nat_eq b 10)) xs ys ∙ and_from _ _ h g

pub digits_are_line : (ds : Bytes) → list_all is_ascii_digit ds ≡ true → is_line ds ≡ true
digits_are_line ds h = line_by is_ascii_digit refl ds h

-- ---- ref names

second_of : (a b c d e f : Bool) → (a && b && c && d && e && f) ≡ true → b ≡ true
second_of true true c d e f h = refl
second_of true false c d e f h = absurd (false≢true h)
second_of false b c d e f h = absurd (false≢true h)

pub all_ref_bytes : (n : Bytes) → is_ref_name n ≡ true → list_all is_ref_byte n ≡ true
all_ref_bytes n h = second_of _ (list_all is_ref_byte n) _ _ _ _ h

pub ref_is_line : (n : Bytes) → is_ref_name n ≡ true → is_line n ≡ true
ref_is_line n h = line_by is_ref_byte refl n (all_ref_bytes n h)

pub tag_is_line : (n : Bytes) → is_tag_name n ≡ true → is_line n ≡ true
tag_is_line n h = ref_is_line (tag_ref n) h

-- ---- identities

lacks_is_line : (xs : Bytes) → lacks 10 xs ≡ true → is_line xs ≡ true
lacks_is_line [] h = refl
lacks_is_line (x ∷ xs) h =
    let p = or_parts (nat_eq x 10) _ (not-true _ h) in
    rw p.0 (lacks_is_line xs (not_from_false _ p.1))

plain_is_line : (xs : Bytes) → is_plain xs ≡ true → is_line xs ≡ true
plain_is_line xs h = lacks_is_line xs (and_two (lacks 60 xs && lacks 62 xs) _ h)

head_is_line : (head : Bytes) → IsIdentHead head → is_line head ≡ true
head_is_line head (inl e) = rw e refl
head_is_line head (inr h) = rw h.2 (line_append h.0 (32 ∷ []) (plain_is_line h.0 h.1) refl)

number_is_line : (ds : Bytes) → is_number ds ≡ true → is_line ds ≡ true
number_is_line ds h = digits_are_line ds (and_one _ _ (and_one _ _ h))

offset_is_line : (ds : Bytes) → is_offset ds ≡ true → is_line ds ≡ true
offset_is_line ds h = digits_are_line ds (and_one _ _ (and_one _ _ h))

sign_is_line : (sign : ℕ) (offset : Bytes) → (sign ≡ 43) ⊎ (sign ≡ 45) → is_line offset ≡ true → is_line (sign ∷ offset) ≡ true
sign_is_line sign offset (inl e) h = rw e h
sign_is_line sign offset (inr e) h = rw e h

pub ident_is_line : (bs : Bytes) → is_ident bs ≡ true → is_line bs ≡ true
ident_is_line bs e =
    let h = reads_ident bs e in
    let regrouped : bs ≡ h.head ++ 60 ∷ (h.email ++ 62 ∷ (32 ∷ (h.seconds ++ 32 ∷ (h.sign ∷ h.offset)))) = h.spelled ∙ simp append_assoc in
    let offset = sign_is_line h.sign h.offset h.sign_is (offset_is_line h.offset h.offset_is) in
    let date = line_append h.seconds (32 ∷ (h.sign ∷ h.offset)) (number_is_line h.seconds h.seconds_is) offset in
    let email = line_append h.email (62 ∷ (32 ∷ (h.seconds ++ 32 ∷ (h.sign ∷ h.offset)))) (plain_is_line h.email h.email_is) date in
    ap is_line regrouped ∙ line_append h.head (60 ∷ (h.email ++ 62 ∷ (32 ∷ (h.seconds ++ 32 ∷ (h.sign ∷ h.offset))))) (head_is_line h.head h.head_is) email

-- ---- printed paths

letter_no_lf : (x l : ℕ) → letter_of x ≡ Some l → nat_eq l 10 ≡ false
letter_no_lf x l e = grind (arith, nat_tests)

octal_no_lf : (k : ℕ) → nat_eq (48 + k) 10 ≡ false
octal_no_lf k = grind (arith, nat_tests)

escaped_is_line : (x : ℕ) (o : Option ℕ) → letter_of x ≡ o → is_line (escaped x o) ≡ true
escaped_is_line x None e = rw (octal_no_lf (x / 8 / 8), octal_no_lf (x / 8 % 8), octal_no_lf (x % 8)) refl
escaped_is_line x (Some l) e = rw (letter_no_lf x l e) refl

byte_is_line : (x : ℕ) → is_line (printed_byte x) ≡ true
byte_is_line x =
    elim (is_printed_bare x) as (λ t. is_printed_bare x ≡ t → is_line (cond t (x ∷ []) (escaped x (letter_of x))) ≡ true) [
      | true ↦ λ e. line_by is_printed_bare refl (x ∷ []) (rw e refl)
      | false ↦ λ e. escaped_is_line x (letter_of x) refl
    ] refl

bytes_are_line : (xs : Bytes) → is_line (flat_map printed_byte xs) ≡ true
bytes_are_line [] = refl
bytes_are_line (x ∷ xs) = line_append (printed_byte x) (flat_map printed_byte xs) (byte_is_line x) (bytes_are_line xs)

pub printed_is_line : (xs : Bytes) → is_line (printed xs) ≡ true
printed_is_line xs =
    elim (list_all is_printed_bare xs) as (λ t. list_all is_printed_bare xs ≡ t → is_line (cond t xs (34 ∷ (flat_map printed_byte xs ++ 34 ∷ []))) ≡ true) [
      | true ↦ λ e. line_by is_printed_bare refl xs e
      | false ↦ λ e. line_append (flat_map printed_byte xs) (34 ∷ []) (bytes_are_line xs) refl
    ] refl
