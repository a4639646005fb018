-- The words of a text, by where its first space stands.
use Rattle.std.proofs.Common.{◌≡◌, ◌<◌, Bool, true, false, eqb, refl, ap, subst, arith, [], ◌∷◌, length, length-append, Option, Some, None}
use Rattle.std.specs.List.{onto_first}
use Rattle.std.specs.Option.{option_map}
use Rattle.gx_model.specs.Texts.{Bytes, cut_at}
use Rattle.gx_print.specs.Words.{words_in}
use Rattle.gx_model.proofs.Texts.Cuts.{cut_spelled, map_some}

-- what stands before the first space is a word, and the others stand behind it
pub word_before : (text : Bytes) (p : Bytes × Bytes) → cut_at 32 text ≡ Some p → words_in text ≡ p.0 ∷ words_in p.1
unfolding cut_at
word_before [] p e = absurd cc
word_before (b ∷ bs) p e = by (λ q h. word_before bs q h) (eqb b 32) refl
  where
    by : ((q : Bytes × Bytes) → cut_at 32 bs ≡ Some q → words_in bs ≡ q.0 ∷ words_in q.1) → (t : Bool) → eqb b 32 ≡ t → words_in (b ∷ bs) ≡ p.0 ∷ words_in p.1
    by again true t =
        let h : Some ([], bs) ≡ Some p = rw t at e in
        let is : ([], bs) ≡ p = cc h in
        rw t (subst (λ (q : Bytes × Bytes). [] ∷ words_in bs ≡ q.0 ∷ words_in q.1) is refl)
    by again false t =
        let h = map_some (λ (q : Bytes × Bytes). (b ∷ q.0, q.1)) (cut_at 32 bs) p (rw t at e) in
        rw t (subst (λ (q : Bytes × Bytes). onto_first b (words_in bs) ≡ q.0 ∷ words_in q.1) h.2 (ap (onto_first b) (again h.0 h.1)))

-- where there is no space, the text is the only word
pub only_word_of : (text : Bytes) → cut_at 32 text ≡ None → words_in text ≡ text ∷ []
unfolding cut_at
only_word_of [] e = refl
only_word_of (b ∷ bs) e = by (λ h. only_word_of bs h) (eqb b 32) refl
  where
    none_of : (o : Option (Bytes × Bytes)) → option_map {U = Bytes × Bytes} (λ (q : Bytes × Bytes). (b ∷ q.0, q.1)) o ≡ None → o ≡ None
    none_of None h = refl
    none_of (Some q) h = absurd cc

    by : (cut_at 32 bs ≡ None → words_in bs ≡ bs ∷ []) → (t : Bool) → eqb b 32 ≡ t → words_in (b ∷ bs) ≡ (b ∷ bs) ∷ []
    by again true t = absurd (cc (rw t at e))
    by again false t = rw t (ap (onto_first b) (again (none_of (cut_at 32 bs) (rw t at e))))

-- what stands behind the first space is shorter
pub shorter_behind : (text : Bytes) (p : Bytes × Bytes) → cut_at 32 text ≡ Some p → length p.1 < length text
shorter_behind text p e =
    let spelled = cut_spelled 32 text p e in
    let long = length-append p.0 (32 ∷ p.1) in
    rw spelled (omega (arith, long))
