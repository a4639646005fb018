-- The lines of a text that end with a byte: the first stands before the first such byte.
use Rattle.std.proofs.Common.{◌≡◌, ℕ, Bool, true, false, eqb, [], ◌∷◌, ◌++◌, Option, Some, None, refl, ap, subst, ◌∙◌, arith, length, ◌<◌}
use Rattle.std.specs.Option.{option_map}
use Rattle.std.proofs.lemmas.Bool.Decides.{nat_tests}
use Rattle.gx_model.specs.Texts.{Bytes, cut_at, lacks}
use Rattle.gx_model.proofs.Texts.Cuts.{lacks-cons, map_some, some_is}
use Rattle.gx_batch.specs.Lines.{begun_with, lines_of}

module _ (e : ℕ) where
  pub line_past : (b : ℕ) (bs : Bytes) (fails : Bool) → eqb b e ≡ false → lines_of e (b ∷ bs) fails ≡ begun_with b fails (lines_of e bs fails)
  unfolding lines_of
  line_past b bs fails h = rw h refl

  pub line_here : (bs : Bytes) (fails : Bool) → lines_of e (e ∷ bs) fails ≡ [] ∷ lines_of e bs fails
  unfolding lines_of
  line_here bs fails = let h : eqb e e ≡ true = grind (arith, nat_tests) in rw h refl

  pub no_lines : (fails : Bool) → lines_of e [] fails ≡ []
  unfolding lines_of
  no_lines fails = refl

  -- a line, its ending and more
  pub line_first : (l rest : Bytes) (fails : Bool) → lacks e l ≡ true → lines_of e (l ++ e ∷ rest) fails ≡ l ∷ lines_of e rest fails
  line_first [] rest fails h = line_here rest fails
  line_first (b ∷ bs) rest fails h =
      let p = lacks-cons e b bs h in
      line_past b (bs ++ e ∷ rest) fails p.0 ∙ ap (begun_with b fails) (line_first bs rest fails p.1)

  -- no line came whole
  pub line_cut : (l : Bytes) → lacks e l ≡ true → lines_of e l true ≡ []
  line_cut [] h = no_lines true
  line_cut (b ∷ bs) h =
      let p = lacks-cons e b bs h in
      line_past b bs true p.0 ∙ ap (begun_with b true) (line_cut bs p.1)

  -- the last line, which has no ending
  pub line_last : (l : Bytes) → 0 < length l → lacks e l ≡ true → lines_of e l false ≡ l ∷ []
  line_last [] some h = absurd (omega arith)
  line_last (b ∷ []) some h =
      let p = lacks-cons e b [] h in
      line_past b [] false p.0 ∙ ap (begun_with b false) (no_lines false)
  line_last (b ∷ c ∷ bs) some h =
      let p = lacks-cons e b (c ∷ bs) h in
      line_past b (c ∷ bs) false p.0 ∙ ap (begun_with b false) (line_last (c ∷ bs) (omega arith) p.1)

-- neither of two texts has the byte
pub lacks_both : (c : ℕ) (xs ys : Bytes) → lacks c xs ≡ true → lacks c ys ≡ true → lacks c (xs ++ ys) ≡ true
lacks_both c [] ys h k = k
lacks_both c (x ∷ xs) ys h k =
    let p = lacks-cons c x xs h in
    let rest = lacks_both c xs ys p.1 k in
    rw p.0 rest

-- what stands before the first c has none
pub cut_lacks : (c : ℕ) (bs : Bytes) (p : Bytes × Bytes) → cut_at c bs ≡ Some p → lacks c p.0 ≡ true
unfolding cut_at
cut_lacks c [] p e = absurd cc
cut_lacks c (b ∷ bs) p e = step (λ q h. cut_lacks c bs q h) (eqb b c) refl where
  step : ((q : Bytes × Bytes) → cut_at c bs ≡ Some q → lacks c q.0 ≡ true) → (t : Bool) → eqb b c ≡ t → lacks c p.0 ≡ true
  step again true t =
      let h : Some ([], bs) ≡ Some p = rw t at e in
      subst (λ (q : Bytes × Bytes). lacks c q.0 ≡ true) (some_is ([], bs) p h) refl
  step again false t =
      let h = map_some (λ (q : Bytes × Bytes). (b ∷ q.0, q.1)) (cut_at c bs) p (rw t at e) in
      let rest = again h.0 h.1 in
      let here : lacks c (b ∷ h.0.0) ≡ true = rw t rest in
      subst (λ (q : Bytes × Bytes). lacks c q.0 ≡ true) h.2 here

unmapped : (b : ℕ) (o : Option (Bytes × Bytes)) → ◌≡◌ {A = Option (Bytes × Bytes)} None (option_map (λ (p : Bytes × Bytes). (b ∷ p.0, p.1)) o) → None ≡ o
unmapped b None k = refl
unmapped b (Some p) k = absurd cc

-- where nothing is cut there is none
pub uncut_lacks : (c : ℕ) (bs : Bytes) → None ≡ cut_at c bs → lacks c bs ≡ true
unfolding cut_at
uncut_lacks c [] e = refl
uncut_lacks c (b ∷ bs) e = step (λ h. uncut_lacks c bs h) (eqb b c) refl where
  step : (None ≡ cut_at c bs → lacks c bs ≡ true) → (t : Bool) → eqb b c ≡ t → lacks c (b ∷ bs) ≡ true
  step again true t = let h : ◌≡◌ {A = Option (Bytes × Bytes)} None (Some ([], bs)) = rw t at e in absurd cc
  step again false t =
      let h : ◌≡◌ {A = Option (Bytes × Bytes)} None (option_map (λ (p : Bytes × Bytes). (b ∷ p.0, p.1)) (cut_at c bs)) = rw t at e in
      rw t (again (unmapped b (cut_at c bs) h))
