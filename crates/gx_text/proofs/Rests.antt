-- What follows a quoted text stands at the end of the bytes that it was read from.
use Rattle.std.proofs.Common.{◌≡◌, ℕ, zero, suc, ◌-◌, ◌≤◌, Bool, true, false, cond, eqb, leb, ◌&&◌, ◌||◌, [], ◌∷◌, ◌++◌, length, drop, Option, Some, None, Ok, refl, sym, ap, ◌∙◌, arith, append_assoc}
use Rattle.std.specs.Option.{option_map, option_and_then}
use Rattle.std.proofs.lemmas.List.{drop_at, length-append}
use Rattle.gx_model.specs.Texts.{Bytes}
use Rattle.gx_model.specs.Texts.Paths.{Path, path_of, quoted_of, named, octal_of, escape_at, char_at, with_char, unquote_within, unquote, or_bad_path}
use Rattle.gx_model.proofs.Texts.Cuts.{some_is, map_some}

abbrev pub Follows : Bytes → Bytes → Type 0
Follows rest bs = (front : Bytes) × (bs ≡ front ++ rest)

after_all : (c b a : Bytes) → Follows c b → Follows b a → Follows c a
after_all c b a f g = (g.0 ++ f.0, g.1 ∙ ap (λ r. g.0 ++ r) f.1 ∙ sym (append_assoc g.0 f.0 c))

kept : {X : Type 0} (o : Option X) (rest : Bytes) (p : X × Bytes) → option_map (λ x. (x, rest)) o ≡ Some p → rest ≡ p.1
kept None rest p e = absurd cc
kept (Some x) rest p e = ap (λ q. q.1) (some_is (x, rest) p e)

escape_rest : (bs : Bytes) (p : ℕ × Bytes) → escape_at bs ≡ Some p → Follows p.1 bs
escape_rest [] p e = absurd cc
escape_rest (a ∷ []) p e = (a ∷ [], ap (λ r. a ∷ r) (kept (named a) [] p e))
escape_rest (a ∷ b ∷ []) p e = (a ∷ [], ap (λ r. a ∷ r) (kept (named a) (b ∷ []) p e))
escape_rest (a ∷ b ∷ c ∷ bs) p e = by (leb 48 a && leb a 51) e where
  by : (t : Bool) → cond t (option_map (λ x. (x, bs)) (octal_of a b c)) (option_map (λ x. (x, b ∷ c ∷ bs)) (named a)) ≡ Some p → Follows p.1 (a ∷ b ∷ c ∷ bs)
  by true e = (a ∷ b ∷ c ∷ [], ap (λ r. a ∷ b ∷ c ∷ r) (kept (octal_of a b c) bs p e))
  by false e = (a ∷ [], ap (λ r. a ∷ r) (kept (named a) (b ∷ c ∷ bs) p e))

char_rest : (bs : Bytes) (p : Option ℕ × Bytes) → char_at bs ≡ Some p → Follows p.1 bs
unfolding char_at
char_rest [] p e = absurd cc
char_rest (b ∷ bs) p e = by (eqb b 34) (eqb b 92) (eqb b 10 || eqb b 0) e where
  by : (s t u : Bool) → cond s (Some (None, bs)) (cond t (option_map (λ x. (Some x.0, x.1)) (escape_at bs)) (cond u None (Some (Some b, bs)))) ≡ Some p → Follows p.1 (b ∷ bs)
  by true t u e = (b ∷ [], ap (λ r. b ∷ r.1) (some_is (None, bs) p e))
  by false true u e =
      let h = map_some (λ (x : ℕ × Bytes). (Some x.0, x.1)) (escape_at bs) p e in
      let f = escape_rest bs h.0 h.1 in
      (b ∷ f.0, ap (λ r. b ∷ r) (f.1 ∙ ap (λ q. f.0 ++ q.1) h.2))
  by false false true e = absurd cc
  by false false false e = (b ∷ [], ap (λ r. b ∷ r.1) (some_is (Some b, bs) p e))

char_then : (n : ℕ) (o : Option ℕ) (rest : Bytes) (p : Bytes × Bytes) → with_char o rest (unquote_within n rest) ≡ Some p → ((rest : Bytes) (q : Bytes × Bytes) → unquote_within n rest ≡ Some q → Follows q.1 rest) → Follows p.1 rest
char_then n None rest p e again = ([], ap (λ q. q.1) (some_is ([], rest) p e))
char_then n (Some b) rest p e again =
    let h = map_some (λ (q : Bytes × Bytes). (b ∷ q.0, q.1)) (unquote_within n rest) p e in
    let f = again rest h.0 h.1 in
    (f.0, f.1 ∙ ap (λ q. f.0 ++ q.1) h.2)

body_rest : (n : ℕ) (bs : Bytes) (p : Bytes × Bytes) → unquote_within n bs ≡ Some p → Follows p.1 bs
unfolding unquote_within
body_rest zero bs p e = absurd cc
body_rest (suc n) bs p e = by (char_at bs) refl e (λ rest q h. body_rest n rest q h) where
  by : (o : Option (Option ℕ × Bytes)) → char_at bs ≡ o → option_and_then (λ x. with_char x.0 x.1 (unquote_within n x.1)) o ≡ Some p → ((rest : Bytes) (q : Bytes × Bytes) → unquote_within n rest ≡ Some q → Follows q.1 rest) → Follows p.1 bs
  by None h e again = absurd cc
  by (Some x) h e again = after_all p.1 x.1 bs (char_then n x.0 x.1 p e again) (char_rest bs x h)

unquoted_rest : (bs : Bytes) (p : Bytes × Bytes) → unquote bs ≡ Some p → Follows p.1 bs
unquoted_rest [] p e = absurd cc
unquoted_rest (b ∷ bs) p e = by (eqb b 34) e where
  by : (t : Bool) → cond t (unquote_within (length bs) bs) None ≡ Some p → Follows p.1 (b ∷ bs)
  by true e = let f = body_rest (length bs) bs p e in (b ∷ f.0, ap (λ r. b ∷ r) f.1)
  by false e = absurd cc

given : (o : Option (Bytes × Bytes)) (p : Bytes × Bytes) → or_bad_path o ≡ Ok p → o ≡ Some p
given None p e = absurd cc
given (Some x) p e = cc

-- the rest has no more bytes than the whole, and stands behind the bytes that were used
pub record IsUsed (bs rest : Bytes) : Type 0 where
  pub within : length rest ≤ length bs
  pub behind : drop (length bs - length rest) bs ≡ rest

pub used : (bs text rest : Bytes) → or_bad_path (unquote bs) ≡ Ok (text, rest) → IsUsed bs rest
used bs text rest e =
    let f = unquoted_rest bs (text, rest) (given (unquote bs) (text, rest) e) in
    let long = ap length f.1 ∙ length-append f.0 rest in
    record {
      within = omega (arith, long);
      behind = ap (drop (length bs - length rest)) f.1 ∙ drop_at f.0 rest (length bs - length rest) (omega (arith, long));
    }

-- the path of the bytes that a quoted text stands for
pub quoted_path : (bs text rest : Bytes) (p : Path) → or_bad_path (unquote bs) ≡ Ok (text, rest) → path_of text ≡ Ok p → quoted_of bs ≡ Ok (p, rest)
unfolding quoted_of
quoted_path bs text rest p e h = rw (given (unquote bs) (text, rest) e, h) refl
