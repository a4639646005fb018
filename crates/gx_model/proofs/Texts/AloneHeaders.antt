-- Which headers are that of an encoding, or none.
use Rattle.std.proofs.Common.{◌≡◌, Bool, true, false, cond, Option, Some, None, [], ◌∷◌, drop, codes, refl, sym, ap, ◌∙◌}
use Rattle.std.specs.Option.{option_map, unwrap_or}
use Rattle.std.specs.Prelude.{◌↔◌, nat_eq}
use Rattle.std.specs.List.{starts_with}
use Rattle.std.specs.Bool.{passes}
use Rattle.std.proofs.lemmas.Bool.{and_from, not_from_false}
use Rattle.gx_model.specs.Texts.{Bytes, cut_at, is_line, parts_at}
use Rattle.gx_model.specs.Texts.Headers.{encoding_header, encoding_in, is_encoding_alone, unless_empty}
use Rattle.gx_model.specs.Histories.Values.{IsEncodingAlone, is_optional_encoding}
use Rattle.gx_model.proofs.Texts.Cuts.{map_some}
use Rattle.gx_model.proofs.Texts.HeaderTexts.{encoding_told}
use Rattle.gx_model.proofs.Texts.PathTests.{is_same, is_true, same_is}

-- what stands before the first LF is a line
pub cut_line : (bytes : Bytes) (p : Bytes × Bytes) → cut_at 10 bytes ≡ Some p → is_line p.0 ≡ true
unfolding cut_at
cut_line [] p e = absurd cc
cut_line (b ∷ bytes) p e = by (nat_eq b 10) refl e (λ q f. cut_line bytes q f)
  where
    by : (t : Bool) → nat_eq b 10 ≡ t → cond t (Some ([], bytes)) (option_map (λ q. (b ∷ q.0, q.1)) (cut_at 10 bytes)) ≡ Some p → ((q : Bytes × Bytes) → cut_at 10 bytes ≡ Some q → is_line q.0 ≡ true) → is_line p.0 ≡ true
    by true h f again = let same : ([], bytes) ≡ p = cc in ap (λ (q : Bytes × Bytes). is_line q.0) (sym same)
    by false h f again =
        let q = map_some (λ (q : Bytes × Bytes). let r : Bytes × Bytes = (b ∷ q.0, q.1) in r) (cut_at 10 bytes) p f in
        ap (λ (r : Bytes × Bytes). is_line r.0) (sym q.2) ∙ and_from _ _ (not_from_false _ h) (again q.0 q.1)

-- what headers tell is an encoding, whatever they are
encoding_proper : (headers : Bytes) → is_optional_encoding (encoding_in headers) ≡ true
encoding_proper headers =
    elim (starts_with nat_eq headers (codes "encoding ")) as (λ t. is_optional_encoding (cond t (unless_empty (parts_at 10 (drop 9 headers)).0) None) ≡ true) [
      | true ↦ told (cut_at 10 (drop 9 headers)) refl
      | false ↦ refl
    ]
  where
    by : (x : Bytes) → is_line x ≡ true → is_optional_encoding (unless_empty x) ≡ true
    by [] h = refl
    by (b ∷ x) h = h

    told : (o : Option (Bytes × Bytes)) → cut_at 10 (drop 9 headers) ≡ o → is_optional_encoding (unless_empty (unwrap_or o ([], [])).0) ≡ true
    told None e = refl
    told (Some p) e = by p.0 (cut_line (drop 9 headers) p e)

-- the test passes exactly those that are the header of an encoding, or none
pub alone_decides : (headers : Bytes) → (is_encoding_alone headers ≡ true) ↔ IsEncodingAlone headers
alone_decides headers = (
  λ h. (encoding_in headers, encoding_proper headers, same_is headers (encoding_header (encoding_in headers)) (passes _ h)),
  λ k. is_true _ (is_same headers (encoding_header (encoding_in headers)) (sym (encoding_told headers k).alone)),
)
