-- The order of two texts by their fronts, and by their rests where the fronts are the same.
use Rattle.std.proofs.Common.{◌≡◌, ◌≤◌, ◌-◌, min, ℕ, zero, suc, true, false, [], ◌∷◌, ◌++◌, take, drop, length, refl, sym, ap, ◌∙◌, arith, Ordering}
use Rattle.std.specs.Prelude.{nat_eq}
use Rattle.std.specs.List.{starts_with}
use Rattle.std.proofs.lemmas.Bool.{and_parts, false≢true, false_from_ne_true}
use Rattle.std.proofs.lemmas.Bool.Decides.{nat_tests}
use Rattle.std.specs.declared.cmp.Ordering.TheVariants.{Less, Equal, Greater}
use Rattle.std.specs.Ordering.{nat_cmp, ordering_then}
use Rattle.std.proofs.lemmas.List.{take_rest}
use Rattle.gx_model.specs.Texts.{Bytes, byte_cmp}

then_then : (o p q : Ordering) → ordering_then o (ordering_then p q) ≡ ordering_then (ordering_then o p) q
then_then Less p q = refl
then_then Equal p q = refl
then_then Greater p q = refl

compared_by_fronts : (a m b n : Bytes) (k : ℕ) → k ≤ length a → k ≤ length b
    → byte_cmp (a ++ m) (b ++ n) ≡ ordering_then (byte_cmp (take k a) (take k b)) (byte_cmp (drop k a ++ m) (drop k b ++ n))
compared_by_fronts a m b n zero h i = refl
compared_by_fronts [] m b n (suc k) h i = absurd (omega (arith, h))
compared_by_fronts (x ∷ a) m [] n (suc k) h i = absurd (omega (arith, i))
compared_by_fronts (x ∷ a) m (y ∷ b) n (suc k) h i =
    ap (ordering_then (nat_cmp x y)) (compared_by_fronts a m b n k (omega (arith, h)) (omega (arith, i)))
    ∙ then_then (nat_cmp x y) (byte_cmp (take k a) (take k b)) (byte_cmp (drop k a ++ m) (drop k b ++ n))

then_more : (o p : Ordering) → (o ≡ Equal → ⊥) → o ≡ ordering_then o p
then_more Less p h = refl
then_more Equal p h = absurd (h refl)
then_more Greater p h = refl

-- where what both have first differs, that decides
pub fronts_tell : (a m b n : Bytes) (k : ℕ) (o : Ordering) → k ≡ min (length a) (length b) → o ≡ byte_cmp (take k a) (take k b) → (o ≡ Equal → ⊥) → o ≡ byte_cmp (a ++ m) (b ++ n)
fronts_tell a m b n k o e f different =
    then_more o (byte_cmp (drop k a ++ m) (drop k b ++ n)) different
    ∙ ap (λ x. ordering_then x (byte_cmp (drop k a ++ m) (drop k b ++ n))) f
    ∙ sym (compared_by_fronts a m b n k (omega (arith, e)) (omega (arith, e)))

-- where it is the same, the rests decide
pub rests_tell : (a m b n : Bytes) (k : ℕ) (o r : Ordering) → k ≡ min (length a) (length b) → o ≡ byte_cmp (take k a) (take k b) → o ≡ Equal
    → r ≡ byte_cmp (take (length a - k) (drop k a) ++ m) (take (length b - k) (drop k b) ++ n) → r ≡ byte_cmp (a ++ m) (b ++ n)
rests_tell a m b n k o r e f equal g =
    let rests : r ≡ byte_cmp (drop k a ++ m) (drop k b ++ n) = rw (take_rest a k, take_rest b k) at g in
    rests
    ∙ ap (λ x. ordering_then x (byte_cmp (drop k a ++ m) (drop k b ++ n))) (sym equal ∙ f)
    ∙ sym (compared_by_fronts a m b n k (omega (arith, e)) (omega (arith, e)))

same_heads : (x y : ℕ) → nat_eq x y ≡ true → nat_cmp x y ≡ Equal
same_heads x y h = grind (arith, nat_tests)

begun_alike : (a b : Bytes) (k : ℕ) → starts_with nat_eq b a ≡ true → k ≤ length a → byte_cmp (take k a) (take k b) ≡ Equal
begun_alike a b zero h le = refl
begun_alike [] b (suc k) h le = absurd (omega (arith, le))
begun_alike (x ∷ a) [] (suc k) h le = absurd (false≢true h)
begun_alike (x ∷ a) (y ∷ b) (suc k) h le =
    let p = and_parts (nat_eq x y) (starts_with nat_eq b a) h in
    rw (same_heads x y p.0, begun_alike a b k p.1 (omega (arith, le))) refl

-- where the fronts differ, neither text begins with the other
pub begins_not : (a b : Bytes) (k : ℕ) → k ≤ length a → byte_cmp (take k a) (take k b) ≡ Less → starts_with nat_eq b a ≡ false
begins_not a b k le less = false_from_ne_true _ (λ h. cc (sym less ∙ begun_alike a b k h le))
