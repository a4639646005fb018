-- The lines of a text stand in it, each with the byte at its end.
use Rattle.std.proofs.Common.{◌≡◌, ℕ, Bool, true, false, eqb, [], ◌∷◌, List, refl, sym, ap, subst, ◌∙◌}
use Rattle.std.proofs.lemmas.Bool.{eqb-true}
use Rattle.gx_model.specs.Texts.{Bytes, lacks}
use Rattle.gx_batch.specs.Lines.{begun_with, lines_of}
use Rattle.gx_batch.specs.LineLaws.{AreLines, last_line}
use Rattle.gx_batch.proofs.CutLines.{line_here, line_past}

begun_last : (b : ℕ) (left : Bytes) → begun_with b false (last_line left) ≡ (b ∷ left) ∷ []
begun_last b [] = refl
begun_last b (c ∷ cs) = refl

module _ (e : ℕ) where
  lacks_more : (b : ℕ) (l : Bytes) → eqb b e ≡ false → lacks e l ≡ true → lacks e (b ∷ l) ≡ true
  lacks_more b l h k = rw h k

  -- such a byte at the front
  one_more : (bs : Bytes) (whole all : List Bytes) → AreLines e bs whole all → AreLines e (e ∷ bs) ([] ∷ whole) ([] ∷ all)
  one_more bs whole all s = record {
    left = s.left;
    spelled = ap (λ x. e ∷ x) s.spelled;
    lines = (refl, s.lines);
    unended = s.unended;
    last = ap (λ ls. [] ∷ ls) s.last;
  }

  -- another byte at the front
  one_longer : (b : ℕ) (bs : Bytes) (whole all : List Bytes) → eqb b e ≡ false → AreLines e bs whole all → AreLines e (b ∷ bs) (begun_with b true whole) (begun_with b false all)
  one_longer b bs [] all h s = record {
    left = b ∷ s.left;
    spelled = ap (λ x. b ∷ x) s.spelled;
    lines = tt;
    unended = lacks_more b s.left h s.unended;
    last = ap (begun_with b false) s.last ∙ begun_last b s.left;
  }
  one_longer b bs (l ∷ ls) all h s = record {
    left = s.left;
    spelled = ap (λ x. b ∷ x) s.spelled;
    lines = (lacks_more b l h s.lines.0, s.lines.1);
    unended = s.unended;
    last = ap (begun_with b false) s.last;
  }

  -- the empty text
  nothing : AreLines e [] (lines_of e [] true) (lines_of e [] false)
  unfolding lines_of
  nothing = record { left = []; spelled = refl; lines = tt; unended = refl; last = refl }

  pub lines_spell : (text : Bytes) → AreLines e text (lines_of e text true) (lines_of e text false)
  lines_spell [] = nothing
  lines_spell (b ∷ bs) = by (eqb b e) refl (lines_spell bs)
    where
      by : (t : Bool) → eqb b e ≡ t → AreLines e bs (lines_of e bs true) (lines_of e bs false) → AreLines e (b ∷ bs) (lines_of e (b ∷ bs) true) (lines_of e (b ∷ bs) false)
      by true h s =
          let here = one_more bs (lines_of e bs true) (lines_of e bs false) s in
          let lined = subst (λ ls. AreLines e (e ∷ bs) ls ([] ∷ lines_of e bs false)) (sym (line_here e bs true)) here in
          let both = subst (λ ls. AreLines e (e ∷ bs) (lines_of e (e ∷ bs) true) ls) (sym (line_here e bs false)) lined in
          subst (λ c. AreLines e (c ∷ bs) (lines_of e (c ∷ bs) true) (lines_of e (c ∷ bs) false)) (sym (eqb-true b e h)) both
      by false h s =
          let here = one_longer b bs (lines_of e bs true) (lines_of e bs false) h s in
          let lined = subst (λ ls. AreLines e (b ∷ bs) ls (begun_with b false (lines_of e bs false))) (sym (line_past e b bs true h)) here in
          subst (λ ls. AreLines e (b ∷ bs) (lines_of e (b ∷ bs) true) ls) (sym (line_past e b bs false h)) lined
