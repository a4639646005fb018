-- Where a tag's body has its object's digits.
use Rattle.std.proofs.Common.{◌≡◌, ℕ, suc, zero, ◌≤◌, ◌+◌, refl, ap, ◌∙◌, arith, [], ◌∷◌, ◌++◌, length, take, drop, length-append}
use Rattle.std.specs.Prelude.{codes}
use Rattle.std.specs.Bool.{passes}
use Rattle.gx_model.specs.Texts.{Bytes}
use Rattle.gx_model.specs.Objects.{TagParts, IsTagText, hex, line, optional_line}
use Rattle.gx_model.proofs.Records.OneHistory.{line_flat}
use Rattle.gx_model.proofs.ObjectTexts.BodiesReadBack.{tag_text_flat, long_name}
use Rattle.gx_model.proofs.Records.ReadRecords.{hex_long}

taken : (x r : Bytes) (n : ℕ) → length x ≡ n → take n (x ++ r) ≡ x
taken [] r zero e = refl
taken [] r (suc n) e = absurd (omega arith)
taken (a ∷ x) r zero e = absurd (omega arith)
taken (a ∷ x) r (suc n) e = ap (λ y. a ∷ y) (taken x r n (omega arith))

-- a tag's body has the digits of its object after 7 bytes
pub digits_at : (p : TagParts) (body : Bytes) → IsTagText p body → (take 40 (drop 7 body) ≡ hex p.object) × (47 ≤ length body)
digits_at p body h =
    let r1 = line (codes "type") (codes "commit") ++ (line (codes "tag") p.name ++ (optional_line (codes "tagger") p.tagger ++ (10 ∷ p.message))) in
    let e : body ≡ codes "object" ++ (32 ∷ (hex p.object ++ (10 ∷ r1))) = h.0 ∙ tag_text_flat p ∙ line_flat (codes "object") (hex p.object) r1 in
    let n : length p.object ≡ 20 = long_name p.object (passes _ h.1) in
    let m = hex_long p.object in
    let l : length (hex p.object) ≡ 40 = omega arith in
    let a = length-append (hex p.object) (10 ∷ r1) in
    let k = ap length e in
    (ap (λ z. take 40 (drop 7 z)) e ∙ taken (hex p.object) (10 ∷ r1) 40 l, long (length body) (length (hex p.object)) (length r1) l (k ∙ ap (λ z. suc (suc (suc (suc (suc (suc (suc z))))))) a))
  where
    long : (n m r : ℕ) → m ≡ 40 → n ≡ suc (suc (suc (suc (suc (suc (suc (m + suc r))))))) → 47 ≤ n
    long n m r e f = omega arith
