-- Where a base ends and where each suffix does, as a search for the next `^` or `~` tells it.
use Rattle.std.proofs.Common.{◌≡◌, ℕ, zero, suc, ◌+◌, ◌<◌, ◌≤◌, Bool, false, true, if◌then◌else◌, List, [], ◌∷◌, ◌++◌, Ok, Err, append-nil, append_assoc, get_or, length, map, take, drop, refl, ap, sym, ◌∙◌, arith}
use Rattle.std.proofs.lemmas.List.{drop_more, map-append}
use Rattle.std.specs.Prelude.{◌||◌, ◌==◌}
use Rattle.gx_rev.proofs.Dots.{not_true_false}
use Rattle.memchr.specs.Find.{is_byte2, Passes}
use Rattle.gx_model.specs.Texts.{Bytes}
use Rattle.gx_model.specs.Faults.{Given, ◌>>=◌}
use Rattle.gx_model.specs.Histories.Values.{Value}
use Rattle.gx_model.specs.Revisions as model
use Rattle.gx_model.specs.Revisions.{base_and_suffixes, goes_on, starts_suffix, suffix_of, suffixes_of}
use Rattle.gx_model.specs.Revisions.Denotation.{all_suffixed, suffixed}
use Rattle.gx_rev.specs.Views.{shown_suffix}
use Rattle.gx_rev.specs.declared.suffix.Suffix.{Suffix}

-- no byte begins a suffix: all is the base
pub base_alone : (bs : Bytes) → ((k : ℕ) → 0 ≤ k → k < length bs → ¬ (Passes (is_byte2 94 126) bs k)) → base_and_suffixes bs ≡ (bs, [])
base_alone [] h = refl
base_alone (b ∷ bs) h =
    let e : (b == 94 || b == 126) ≡ false = not_true_false _ (h 0 (omega arith) (omega arith)) in
    let rest = base_alone bs (λ k low lt. h (suc k) (omega arith) (omega arith)) in
    rw (e, rest) refl

-- the base ends where the first suffix begins
pub base_before : (bs : Bytes) (k : ℕ) → k < length bs → ((j : ℕ) → 0 ≤ j → j < k → ¬ (Passes (is_byte2 94 126) bs j)) → Passes (is_byte2 94 126) bs k
    → (take k bs ≡ (base_and_suffixes bs).0) × (base_and_suffixes (drop k bs) ≡ ([], (base_and_suffixes bs).1))
base_before [] k lt h p = absurd (omega arith)
base_before (b ∷ bs) zero lt h p = let e : (b == 94 || b == 126) ≡ true = p in rw e (refl, refl)
base_before (b ∷ bs) (suc k) lt h p =
    let e : (b == 94 || b == 126) ≡ false = not_true_false _ (h 0 (omega arith) (omega arith)) in
    let rest = base_before bs k (omega arith) (λ j low lt. h (suc j) (omega arith) (omega arith)) p in
    rw e (ap (λ x. b ∷ x) rest.0, rest.1)

-- ---- suffixes one after the other

-- the next suffix, behind those before it
pub next_suffix : (whole : Given (List model.Suffix)) (rest after text others : Bytes) (mark : ℕ) (before now : List Suffix) (s : Suffix) → rest ≡ mark ∷ after → (base_and_suffixes rest).0 ≡ []
    → text ≡ (base_and_suffixes after).0 → base_and_suffixes others ≡ ([], (base_and_suffixes after).1) → suffix_of (mark ∷ text) ≡ Ok (shown_suffix s) → now ≡ before ++ s ∷ []
    → whole ≡ (suffixes_of (base_and_suffixes rest).1 >>= λ ss. Ok (map shown_suffix before ++ ss))
    → whole ≡ (suffixes_of (base_and_suffixes others).1 >>= λ ss. Ok (map shown_suffix now ++ ss))
next_suffix whole rest after text others mark before now s is none same left e made h = by (mark == 94 || mark == 126) refl
  where
    joined : (r : Given (List model.Suffix)) → ((r >>= λ ss. Ok (shown_suffix s ∷ ss)) >>= λ ss. Ok (map shown_suffix before ++ ss)) ≡ (r >>= λ ss. Ok (map shown_suffix now ++ ss))
    joined (Err f) = refl
    joined (Ok ss) = ap Ok (sym (ap (λ xs. map shown_suffix xs ++ ss) made ∙ ap (λ xs. xs ++ ss) (map-append shown_suffix before (s ∷ [])) ∙ append_assoc (map shown_suffix before) (shown_suffix s ∷ []) ss))

    by : (b : Bool) → (mark == 94 || mark == 126) ≡ b → whole ≡ (suffixes_of (base_and_suffixes others).1 >>= λ ss. Ok (map shown_suffix now ++ ss))
    by false f =
        let one : mark ∷ (base_and_suffixes after).0 ≡ [] = sym (ap (λ c. ((if c then starts_suffix mark else goes_on mark) (base_and_suffixes after)).0) f) ∙ ap (λ bs. (base_and_suffixes bs).0) (sym is) ∙ none in
        absurd (cc)
    by true f =
        h ∙ ap (λ bs. suffixes_of (base_and_suffixes bs).1 >>= λ ss. Ok (map shown_suffix before ++ ss)) is
        ∙ ap (λ c. suffixes_of ((if c then starts_suffix mark else goes_on mark) (base_and_suffixes after)).1 >>= λ ss. Ok (map shown_suffix before ++ ss)) f
        ∙ ap (λ r. (r >>= λ x. suffixes_of (base_and_suffixes after).1 >>= λ ss. Ok (x ∷ ss)) >>= λ ss. Ok (map shown_suffix before ++ ss)) (ap (λ x. suffix_of (mark ∷ x)) (sym same) ∙ e)
        ∙ joined (suffixes_of (base_and_suffixes after).1)
        ∙ ap (λ p. suffixes_of p.1 >>= λ ss. Ok (map shown_suffix now ++ ss)) (sym left)

-- with nothing left these are all
pub last_suffix : (whole : Given (List model.Suffix)) (rest : Bytes) (before : List Suffix) → length rest ≡ 0
    → whole ≡ (suffixes_of (base_and_suffixes rest).1 >>= λ ss. Ok (map shown_suffix before ++ ss)) → whole ≡ Ok (map shown_suffix before)
last_suffix whole [] before e h = h ∙ ap Ok (append-nil (map shown_suffix before))
last_suffix whole (b ∷ bs) before e h = absurd (omega arith)

-- what one suffix more gives of what those before it gave
pub next_suffixed : (all : Given Value) (v w : Value) (suffixes : List Suffix) (i : ℕ) (d : Suffix) → i < length suffixes → suffixed v (shown_suffix (get_or suffixes i d)) ≡ Ok w
    → all ≡ all_suffixed v (map shown_suffix (drop i suffixes)) → all ≡ all_suffixed w (map shown_suffix (drop (i + 1) suffixes))
next_suffixed all v w suffixes i d lt e h =
    h ∙ ap (λ ss. all_suffixed v (map shown_suffix ss)) (drop_more suffixes i d lt) ∙ ap (λ r. r >>= λ u. all_suffixed u (map shown_suffix (drop (i + 1) suffixes))) e
