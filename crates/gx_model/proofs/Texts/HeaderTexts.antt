-- Header lines: where they end, and which encoding they tell.
use Rattle.std.proofs.Common.{◌≡◌, Bool, true, false, not, ◌&&◌, ◌==◌, Option, Some, None, [], ◌∷◌, ◌++◌, refl, sym, ap, ◌∙◌}
use Rattle.std.specs.Option.{unwrap_or}
use Rattle.std.specs.Prelude.{T}
use Rattle.std.proofs.lemmas.Bool.{false≢true, not-true}
use Rattle.gx_model.specs.Texts.{Bytes, is_line, lacks}
use Rattle.gx_model.specs.Texts.Headers.{are_lines, encoding_header, encoding_in, headers_from, headers_in, is_headers, unless_empty}
use Rattle.gx_model.specs.Histories.Values.{IsEncodingAlone, is_optional_encoding}
use Rattle.gx_model.proofs.Texts.Cuts.{cut_after}
use Rattle.gx_model.proofs.Texts.Idents.{and_one, and_two}
use Rattle.gx_model.proofs.Texts.PathTests.{is_true}

-- ---- where they end

lines_cut : (is_start : Bool) (headers rest : Bytes) → are_lines is_start headers ≡ true → headers_from is_start (headers ++ 10 ∷ rest) ≡ (headers, rest)
lines_cut true [] rest h = refl
lines_cut false [] rest h = absurd (false≢true h)
lines_cut is_start (b ∷ headers) rest h =
    let none = not-true _ (and_one (not (is_start && b == 10)) _ h) in
    let again = lines_cut (b == 10) headers rest (and_two (not (is_start && b == 10)) _ h) in
    rw (none, again) refl

-- headers end at the first empty line
pub headers_cut : (headers rest : Bytes) → T (is_headers headers) → headers_in (headers ++ 10 ∷ rest) ≡ (headers, rest)
headers_cut headers rest h = lines_cut true headers rest (is_true _ h)

-- so a text has its headers in one way
pub one_headers : (headers others m n : Bytes) → T (is_headers headers) → T (is_headers others) → headers ++ (10 ∷ m) ≡ others ++ (10 ∷ n) → (headers ≡ others) × (m ≡ n)
one_headers headers others m n h k e =
    let same : (headers, m) ≡ (others, n) = sym (headers_cut headers m h) ∙ ap headers_in e ∙ headers_cut others n k in
    (ap (λ (q : Bytes × Bytes). q.0) same, ap (λ (q : Bytes × Bytes). q.1) same)

-- ---- encodings

line_ends : (x : Bytes) → is_line x ≡ true → are_lines false (x ++ 10 ∷ []) ≡ true
line_ends [] h = refl
line_ends (b ∷ x) h =
    let none = not-true _ (and_one (not (b == 10)) _ h) in
    rw none (line_ends x (and_two (not (b == 10)) _ h))

-- the header of an encoding is a header
pub encoding_is_headers : (encoding : Option Bytes) → is_optional_encoding encoding ≡ true → is_headers (encoding_header encoding) ≡ true
encoding_is_headers None h = refl
encoding_is_headers (Some []) h = absurd (false≢true h)
encoding_is_headers (Some (b ∷ x)) h = line_ends (b ∷ x) h

line_lacks : (x : Bytes) → is_line x ≡ true → lacks 10 x ≡ true
line_lacks [] h = refl
line_lacks (b ∷ x) h =
    let none = not-true _ (and_one (not (b == 10)) _ h) in
    rw none (line_lacks x (and_two (not (b == 10)) _ h))

-- it tells this encoding
pub encoding_again : (encoding : Option Bytes) → is_optional_encoding encoding ≡ true → encoding_in (encoding_header encoding) ≡ encoding
encoding_again None h = refl
encoding_again (Some []) h = absurd (false≢true h)
encoding_again (Some (b ∷ x)) h = ap (λ (o : Option (Bytes × Bytes)). unless_empty (unwrap_or o ([], [])).0) (cut_after 10 (b ∷ x) [] (line_lacks (b ∷ x) h))

-- what headers tell that are the header of an encoding, or none
pub record TellEncoding (headers : Bytes) : Type 0 where
  pub proper : is_optional_encoding (encoding_in headers) ≡ true
  pub alone : encoding_header (encoding_in headers) ≡ headers

pub encoding_told : (headers : Bytes) → IsEncodingAlone headers → TellEncoding headers
encoding_told headers h =
    let same : encoding_in headers ≡ h.0 = ap encoding_in h.2 ∙ encoding_again h.0 h.1 in
    record { proper = ap is_optional_encoding same ∙ h.1; alone = ap encoding_header same ∙ sym h.2 }

-- such headers are headers
pub alone_is_headers : (headers : Bytes) → IsEncodingAlone headers → is_headers headers ≡ true
alone_is_headers headers h = ap is_headers h.2 ∙ encoding_is_headers h.0 h.1
