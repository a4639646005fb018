-- A tag's name by itself: a ref name, or `@`.
use Rattle.std.proofs.Common.{◌≡◌, ◌∙◌, ◌+◌, ◌-◌, ◌≤◌, ◌&&◌, ◌||◌, ℕ, Bool, true, false, not, suc, [], ◌∷◌, ◌++◌, length, drop, refl, sym, ap, subst, arith, codes, nat_eq}
use Rattle.std.specs.Cmp.Lexicographic.{pointwise}
use Rattle.std.specs.List.{ends_with, list_all}
use Rattle.std.specs.Str.{bytes_eq}
use Rattle.std.proofs.lemmas.Slice.Eq.{bytes_eq-Decides}
use Rattle.gx_model.specs.Texts.{Bytes, has_pair}
use Rattle.gx_model.specs.Texts.RefNames.{is_ref_byte, is_ref_component, is_ref_name, is_tag_name, ref_components}

drop_front : (front text : Bytes) (n : ℕ) → drop (length front + n) (front ++ text) ≡ drop n text
drop_front [] text n = let none : length {A = ℕ} [] + n ≡ n = omega arith in ap (λ k. drop k text) none
drop_front (b ∷ bs) text n =
    let more : length (b ∷ bs) + n ≡ suc (length bs + n) = omega arith in
    rw more (drop_front bs text n)

length_front : (front text : Bytes) → length (front ++ text) ≡ length front + length text
length_front [] text = omega arith
length_front (b ∷ bs) text = let rest = length_front bs text in omega (arith, rest)

-- what a text ends with, the text behind it ends with, too
ends_front : (front text last : Bytes) → length last ≤ length text → ends_with nat_eq (front ++ text) last ≡ ends_with nat_eq text last
ends_front front text last h =
    let at : length (front ++ text) - length last ≡ length front + (length text - length last) = let all = length_front front text in omega (arith, all, h) in
    rw at (ap (pointwise nat_eq last) (drop_front front text (length text - length last)))

last_test : (p q : Bool) → q ≡ false → (p && not false) ≡ ((p && not q) || q)
last_test true q e = rw e refl
last_test false q e = rw e refl

pub tag_names : (text : Bytes) → is_tag_name text ≡ (is_ref_name text || bytes_eq text (codes "@"))
tag_names [] = refl
tag_names (b ∷ bs) = go (bytes_eq (b ∷ bs) (codes "@")) refl
  where
    text : Bytes
    text = b ∷ bs

    tests : Bool → Bool
    tests ends = list_all is_ref_component (ref_components text) && list_all is_ref_byte text && not (has_pair 46 46 text) && not (has_pair 64 123 text) && not ends

    same : is_tag_name text ≡ (tests (ends_with nat_eq text (codes ".")) && not false)
    same = ap (λ ends. tests ends && not false) (ends_front (codes "refs/tags/") text (codes ".") (omega arith))

    go : (q : Bool) → bytes_eq (b ∷ bs) (codes "@") ≡ q → is_tag_name (b ∷ bs) ≡ (is_ref_name (b ∷ bs) || bytes_eq (b ∷ bs) (codes "@"))
    go true e = subst (λ t. is_tag_name t ≡ (is_ref_name t || bytes_eq t (codes "@"))) (sym ((bytes_eq-Decides (b ∷ bs) (codes "@")).0 e)) refl
    go false e = same ∙ last_test (tests (ends_with nat_eq text (codes "."))) (bytes_eq text (codes "@")) e
