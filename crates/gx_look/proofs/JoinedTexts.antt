-- Whether a text is others together.
use Rattle.std.proofs.Common.{◌≡◌, ◌≢◌, Bool, true, false, ℕ, ◌-◌, ◌++◌, length, drop, take, refl, sym, ap, ◌∙◌, append_assoc, arith}
use Rattle.std.specs.Bool.{passes}
use Rattle.std.proofs.Math.Seq.{drop-append_seam, take-append_seam}
use Rattle.std.proofs.lemmas.List.{length-append, length-drop, take_all}
use Rattle.gx_model.specs.Texts.{Bytes, same_bytes}
use Rattle.gx_model.proofs.Texts.PathTests.{is_same, is_true, same_is}

two_tests : (a b : Bool) → (a ≡ true → b ≡ true) → (b ≡ true → a ≡ true) → a ≡ b
two_tests true b f g = sym (f refl)
two_tests false true f g = g refl
two_tests false false f g = refl

same_behind : (front x y : Bytes) → front ++ x ≡ front ++ y → x ≡ y
same_behind front x y e = sym (drop-append_seam front x) ∙ ap (drop (length front)) e ∙ drop-append_seam front y

-- a slice from a place on is what stands behind the place
pub from_place : (n : ℕ) (text : Bytes) → take (length text - n) (drop n text) ≡ drop n text
from_place n text = let l = length-drop n text in take_all (length text - n) (drop n text) (omega arith)

-- in front of one text stands one
pub same_before : (x y end : Bytes) → x ++ end ≡ y ++ end → x ≡ y
same_before x y end e =
    let a = length-append x end in
    let b = length-append y end in
    let c = ap length e in
    let same : length x ≡ length y = omega arith in
    sym (take-append_seam x end) ∙ (λ i. take (same i) (e i)) ∙ take-append_seam y end

-- behind two texts the third one decides
pub third_decides : (text before word after rest behind : Bytes) → text ≡ before ++ rest → rest ≡ word ++ behind → same_bytes behind after ≡ same_bytes text (before ++ word ++ after)
third_decides text before word after rest behind e f =
    let whole : text ≡ before ++ (word ++ behind) = e ∙ ap (λ z. before ++ z) f in
    two_tests (same_bytes behind after) (same_bytes text (before ++ word ++ after))
    (λ t. let same : text ≡ before ++ word ++ after = whole ∙ ap (λ z. before ++ (word ++ z)) (same_is behind after (passes _ t)) ∙ sym (append_assoc before word after) in is_true _ (is_same text (before ++ word ++ after) same))
    (λ t. let same : before ++ (word ++ behind) ≡ before ++ (word ++ after) = sym whole ∙ same_is text (before ++ word ++ after) (passes _ t) ∙ append_assoc before word after in
    is_true _ (is_same behind after (same_behind word behind after (same_behind before (word ++ behind) (word ++ after) same))))

-- a text that doesn't begin with the first isn't all three
pub first_misses : (text before word after : Bytes) → ((rest : Bytes) → text ≢ before ++ rest) → false ≡ same_bytes text (before ++ word ++ after)
first_misses text before word after none =
    two_tests false (same_bytes text (before ++ word ++ after)) (λ t. absurd (cc))
    (λ t. absurd (none (word ++ after) (same_is text (before ++ word ++ after) (passes _ t) ∙ append_assoc before word after)))

-- nor is one of which the rest doesn't begin with the second
pub second_misses : (text before word after rest : Bytes) → text ≡ before ++ rest → ((behind : Bytes) → rest ≢ word ++ behind) → false ≡ same_bytes text (before ++ word ++ after)
second_misses text before word after rest e none =
    two_tests false (same_bytes text (before ++ word ++ after)) (λ t. absurd (cc))
    (λ t. absurd (none after (same_behind before rest (word ++ after) (sym e ∙ same_is text (before ++ word ++ after) (passes _ t) ∙ append_assoc before word after))))
