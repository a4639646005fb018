-- The fields that an export's lines have are read again.
use Rattle.std.proofs.Common.{◌≡◌, ℕ, ◌<◌, ◌^◌, Bool, true, false, cond, ◌&&◌, Some, None, Ok, [], ◌∷◌, ◌++◌, length, nat_eq, codes, refl, sym, ap, ◌∙◌, arith}
use Rattle.std.specs.Prelude.{◌==◌}
use Rattle.std.specs.List.{list_all}
use Rattle.std.specs.Char.{is_ascii_digit}
use Rattle.std.specs.Fmt.{decimal}
use Rattle.std.specs.Str.{bytes_eq}
use Rattle.std.proofs.lemmas.Bool.{false≢true, false_from_ne_true, leb-true}
use Rattle.std.proofs.lemmas.Bool.Decides.{nat_tests}
use Rattle.std.proofs.lemmas.Slice.Eq.{bytes_eq-Decides}
use Rattle.gx_model.specs.Texts.{Bytes, lacks}
use Rattle.gx_model.specs.Texts.Paths.{Path, is_component, path_text, printed}
use Rattle.gx_model.specs.Texts.Digits.{is_any_digit, is_any_name_text, is_lower_digit, is_name_text}
use Rattle.gx_model.specs.Streams.Commands.{Marked, Named}
use Rattle.gx_model.specs.Streams.Grammar.{AtMark, AtName, where_of, where_by}
use Rattle.gx_model.specs.Streams.Lines.{mark_of, of_mark, mark_number, commit_ish_of, commit_ish_by, last_path}
use Rattle.gx_model.specs.Laws.ExportLaws.{IsMark, IsLink, IsPath}
use Rattle.gx_model.proofs.Texts.Idents.{and_one, and_two}
use Rattle.gx_model.specs.Texts.Numbers.{number_text}
use Rattle.gx_model.proofs.Texts.Decimals.{decimal_digits, decimal_read, text_digits}
use Rattle.gx_model.proofs.Texts.PathTexts.{path_again}
use Rattle.gx_model.proofs.Texts.Quotes.{path_printed}

-- ---- marks

number_read : (n : ℕ) → IsMark n → mark_number (decimal n) ≡ Ok n
number_read n h =
    let t : (n == 0) ≡ false = let k = h.0 in grind (arith, nat_tests) in
    rw (decimal_read n h.1, t) refl

pub mark_read : (n : ℕ) → IsMark n → mark_of (58 ∷ decimal n) ≡ Ok n
unfolding mark_of
mark_read n h = ap (λ g. of_mark (Some g)) (number_read n h)

pub commit_ish_read : (n : ℕ) → IsMark n → commit_ish_of (58 ∷ decimal n) ≡ Ok (Marked n)
unfolding commit_ish_of
commit_ish_read n h = ap (λ g. commit_ish_by (58 ∷ decimal n) (Some g)) (number_read n h)

pub where_mark : (n : ℕ) → IsMark n → where_of (58 ∷ decimal n) ≡ Ok (AtMark n)
where_mark n h = ap (λ g. where_by (58 ∷ decimal n) (Some g)) (number_read n h)

-- ---- no space stands in a mark or in digits

lacks-by : (P : ℕ → Bool) → ((b : ℕ) → P b ≡ true → (b == 32) ≡ false) → (xs : Bytes) → list_all P xs ≡ true → lacks 32 xs ≡ true
lacks-by P f [] e = refl
lacks-by P f (x ∷ xs) e = rw (f x (and_one (P x) _ e)) (lacks-by P f xs (and_two (P x) _ e))

digit_no_space : (b : ℕ) → is_ascii_digit b ≡ true → (b == 32) ≡ false
digit_no_space b e = grind (arith, nat_tests)

pub mark_no_space : (n : ℕ) → n < 2 ^ 64 → lacks 32 (58 ∷ decimal n) ≡ true
mark_no_space n h = lacks-by is_ascii_digit digit_no_space (decimal n) (decimal_digits n h)

pub number_no_space : (n : ℕ) → lacks 32 (number_text n) ≡ true
number_no_space n = lacks-by is_ascii_digit digit_no_space (number_text n) (text_digits n)

hex_no_space : (b : ℕ) → is_lower_digit b ≡ true → (b == 32) ≡ false
hex_no_space b e = grind (arith, nat_tests)

pub all_hex : (x : Bytes) → is_name_text x ≡ true → list_all is_lower_digit x ≡ true
all_hex x h = and_two (nat_eq (length x) 40) _ h

pub link_no_space : (x : Bytes) → is_name_text x ≡ true → lacks 32 x ≡ true
link_no_space x h = lacks-by is_lower_digit hex_no_space x (all_hex x h)

-- ---- a gitlink's digits

hex_any : (b : ℕ) → is_lower_digit b ≡ true → is_any_digit b ≡ true
hex_any b e = grind (arith, nat_tests)

hex_each : (x : Bytes) → list_all is_lower_digit x ≡ true → list_all is_any_digit x ≡ true
hex_each [] e = refl
hex_each (b ∷ bs) e = rw (hex_any b (and_one (is_lower_digit b) _ e)) (hex_each bs (and_two (is_lower_digit b) _ e))

pub hex_no_colon : (b : ℕ) → is_lower_digit b ≡ true → (b == 58) ≡ false
hex_no_colon b e = grind (arith, nat_tests)

pub not_inline : (x : Bytes) → is_name_text x ≡ true → bytes_eq x (codes "inline") ≡ false
not_inline x h = false_from_ne_true _ (λ t. false≢true (ap is_name_text (sym ((bytes_eq-Decides x (codes "inline")).0 t)) ∙ h))

is_name_is : (x : Bytes) → is_name_text x ≡ true → is_any_name_text x ≡ true
is_name_is x h = rw (hex_each x (all_hex x h)) (and_one (nat_eq (length x) 40) _ h)

pub where_link : (x : Bytes) → IsLink x → where_of x ≡ Ok (AtName x)
where_link [] h = absurd (false≢true h.0)
where_link (b ∷ bs) h =
    let c = hex_no_colon b (and_one (is_lower_digit b) _ (all_hex (b ∷ bs) h.0)) in
    ap (λ t. where_by (b ∷ bs) (cond t (Some (mark_number bs)) None)) c ∙ rw (not_inline (b ∷ bs) h.0, h.1, is_name_is (b ∷ bs) h.0) refl

-- ---- a commit's digits

not_zeros : (xs : Bytes) → list_all (λ b. b == 48) (xs ++ codes "^0") ≡ false
not_zeros [] = refl
not_zeros (x ∷ xs) = elim (x == 48) as (λ t. (t && list_all (λ b. b == 48) (xs ++ codes "^0")) ≡ false) [ true ↦ not_zeros xs | false ↦ refl ]

pub commit_ish_digits : (x : Bytes) → is_name_text x ≡ true → commit_ish_of (x ++ codes "^0") ≡ Ok (Named (x ++ codes "^0"))
unfolding commit_ish_of
commit_ish_digits [] h = absurd (false≢true h)
commit_ish_digits (b ∷ bs) h =
    let c = hex_no_colon b (and_one (is_lower_digit b) _ (all_hex (b ∷ bs) h)) in
    let x = (b ∷ bs) ++ codes "^0" in
    ap (λ t. commit_ish_by x (cond t (Some (mark_number (bs ++ codes "^0"))) None)) c ∙ rw (not_zeros (b ∷ bs)) refl

-- ---- paths

pub path_read : (p : Path) → IsPath p → last_path (printed (path_text p)) ≡ Ok p
path_read [] h = absurd (false≢true h)
path_read (c ∷ p) h =
    path_printed (c ∷ p) (path_again (c ∷ p) (and_one _ _ h) (leb-true (length (path_text (c ∷ p))) 4095 (and_two (list_all is_component (c ∷ p)) _ h)))
