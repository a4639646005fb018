use Rattle.std.proofs.Common.{◌≡◌, ℕ, zero, suc, min, [], ◌∷◌, ◌++◌, length, take, drop, refl, sym, ap, ◌∙◌, arith, append_assoc}
use Rattle.std.specs.Ordering.{nat_cmp, ordering_then}
use Rattle.std.specs.declared.cmp.Ordering.{Ordering}
use Rattle.std.specs.declared.cmp.Ordering.TheVariants.{Less, Equal, Greater}
use Rattle.gx_model.specs.Texts.{Bytes, byte_cmp}
use Rattle.gx_look.proofs.refs.compare.Goals as goal

then_turned : (a b c : Ordering) → ordering_then a (ordering_then b c) ≡ ordering_then (ordering_then a b) c
then_turned Less b c = refl
then_turned Equal b c = refl
then_turned Greater b c = refl

-- a text is compared with two others together by what stands beside each
by_parts : (t a b : Bytes) (n : ℕ) → n ≡ min (length a) (length t) → byte_cmp t (a ++ b) ≡ ordering_then (byte_cmp (take n t) a) (byte_cmp (drop n t) b)
by_parts t [] b zero e = refl
by_parts t [] b (suc n) e = absurd (omega (arith, e))
by_parts [] (y ∷ ys) b zero e = refl
by_parts [] (y ∷ ys) b (suc n) e = absurd (omega (arith, e))
by_parts (x ∷ xs) (y ∷ ys) b zero e = absurd (omega (arith, e))
by_parts (x ∷ xs) (y ∷ ys) b (suc n) e =
    ap (ordering_then (nat_cmp x y)) (by_parts xs ys b n (omega (arith, e))) ∙ then_turned (nat_cmp x y) (byte_cmp (take n xs) ys) (byte_cmp (drop n xs) b)

compared : (t before word after front rest middle end : Bytes) (n m : ℕ) (o p q s r : Ordering) → n ≡ min (length before) (length t) → front ≡ take n t → rest ≡ drop n t
    → m ≡ min (length word) (length rest) → middle ≡ take m rest → end ≡ drop m rest → o ≡ byte_cmp front before → p ≡ byte_cmp middle word → q ≡ byte_cmp end after
    → s ≡ ordering_then o p → r ≡ ordering_then s q → r ≡ byte_cmp t (before ++ word ++ after)
compared t before word after front rest middle end n m o p q s r least f b last g e first second third both all =
    all ∙ ap (λ x. ordering_then x q) both ∙ sym (then_turned o p q)
    ∙ (λ i. ordering_then ((first ∙ ap (λ x. byte_cmp x before) f) i) (ordering_then ((second ∙ ap (λ x. byte_cmp x word) g) i) ((third ∙ ap (λ x. byte_cmp x after) e) i)))
    ∙ ap (ordering_then (byte_cmp (take n t) before)) (sym (by_parts rest word after m last))
    ∙ ap (λ x. ordering_then (byte_cmp (take n t) before) (byte_cmp x (word ++ after))) b
    ∙ sym (by_parts t before (word ++ after) n least)
    ∙ ap (byte_cmp t) (sym (append_assoc before word after))

pub returns : goal.returns
returns c =
    compared c.args.text.now c.args.before.now c.args.word.now c.args.after.now c.split_at.result.0.now c.split_at.result.1.now c.split_at-2.result.0.now c.split_at-2.result.1.now c.min.result c.min-2.result c.cmp.result c.cmp-2.result c.cmp-3.result c.then.result c.then-2.result
    c.min.ensures c.split_at.ensures.front c.split_at.ensures.back c.min-2.ensures c.split_at-2.ensures.front c.split_at-2.ensures.back c.cmp.ensures c.cmp-2.ensures c.cmp-3.ensures c.then.ensures c.then-2.ensures
