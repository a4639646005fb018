-- Pages of rows and their digests, one by one.
use Rattle.std.proofs.Common.{◌≡◌, suc, ◌<◌, ◌≤◌, Bool, true, false, [], ◌∷◌, ◌++◌, length, take, drop, refl, sym, ap, ◌∙◌, arith, length-drop}
use Rattle.std.proofs.lemmas.Bool.{eq-eqb, false_from_ne_true, false≢true, true≢false}
use Rattle.std.proofs.Math.Seq.{take-append_seam}
use Rattle.std.proofs.lemmas.List.{length-append, take-append-drop}
use Rattle.std.specs.Bool.{passes}
use Rattle.std.specs.Prelude.{nat_eq, not}
use Rattle.std.specs.Cmp.Lexicographic.{bytes_decides}
use Rattle.gx_model.specs.Texts.{Bytes, same_bytes}
use Rattle.gx_model.proofs.Texts.PathTests.{same_is}
use Rattle.gx_growing.specs.GrowingText.{digests_of, page_count, page_digests}

-- Equal fronts don't tell two texts apart.
pub same_front : (a x y : Bytes) → same_bytes (a ++ x) (a ++ y) ≡ same_bytes x y
same_front [] x y = refl
same_front (c ∷ a) x y = rw (eq-eqb c c refl) (same_front a x y)

-- What isn't empty has bytes.
pub some_bytes : (x : Bytes) → false ≡ nat_eq (length x) 0 → 0 < length x
some_bytes [] h = absurd (false≢true h)
some_bytes (b ∷ x) h = omega arith

-- Bytes that don't differ are equal.
pub same_from : (a b : Bytes) → false ≡ not (same_bytes a b) → a ≡ b
same_from a b h = by (same_bytes a b) refl h
  where
    by : (t : Bool) → same_bytes a b ≡ t → false ≡ not t → a ≡ b
    by true e f = (bytes_decides a b).0 e
    by false e f = absurd (true≢false (sym f))

-- Bytes that differ aren't equal.
pub other_from : (a b : Bytes) → true ≡ not (same_bytes a b) → a ≡ b → ⊥
other_from a b h e = true≢false (h ∙ ap not ((bytes_decides a b).1 e))

module _ (digest : Bytes → Bytes) where
  -- The first page's digest stands in front of those of the others.
  pub pages_more : (rows : Bytes) → 0 < length rows → page_digests digest rows ≡ digest (take 16380 rows) ++ page_digests digest (drop 16380 rows)
  pages_more rows h =
      let more : page_count (length rows) ≡ suc (page_count (length (drop 16380 rows))) = omega (arith, length-drop 16380 rows) in
      ap (λ n. digests_of digest n rows) more

  -- Where the first digest is that of the first page, the others decide.
  pub page_read : (rows digests : Bytes) → 0 < length rows → take 32 digests ≡ digest (take 16380 rows)
      → same_bytes digests (page_digests digest rows) ≡ same_bytes (drop 32 digests) (page_digests digest (drop 16380 rows))
  page_read rows digests h e =
      ap (λ x. same_bytes digests x) (pages_more rows h)
      ∙ ap (λ x. same_bytes x (digest (take 16380 rows) ++ page_digests digest (drop 16380 rows))) (sym (take-append-drop 32 digests))
      ∙ ap (λ x. same_bytes (x ++ drop 32 digests) (digest (take 16380 rows) ++ page_digests digest (drop 16380 rows))) e
      ∙ same_front (digest (take 16380 rows)) (drop 32 digests) (page_digests digest (drop 16380 rows))

  -- Digests that are too short aren't those of the pages.
  pub too_short : (rows digests : Bytes) → 0 < length rows → length (digest (take 16380 rows)) ≡ 32 → length digests < 32
      → same_bytes digests (page_digests digest rows) ≡ false
  too_short rows digests h long few = false_from_ne_true _ (λ same.
      let e = same_is digests (page_digests digest rows) (passes _ same) ∙ pages_more rows h in
      let l = ap length e ∙ length-append (digest (take 16380 rows)) (page_digests digest (drop 16380 rows)) in
      omega (arith, few, long, l))

  -- Where the first digest is another one, they aren't those of the pages.
  pub page_differs : (rows digests : Bytes) → 0 < length rows → length (digest (take 16380 rows)) ≡ 32 → 32 ≤ length digests → (take 32 digests ≡ digest (take 16380 rows) → ⊥)
      → same_bytes digests (page_digests digest rows) ≡ false
  page_differs rows digests h long many other = false_from_ne_true _ (λ same.
      let e = same_is digests (page_digests digest rows) (passes _ same) ∙ pages_more rows h in
      other (ap (take 32) e ∙ ap (λ n. take n (digest (take 16380 rows) ++ page_digests digest (drop 16380 rows))) (sym long)
      ∙ take-append_seam (digest (take 16380 rows)) (page_digests digest (drop 16380 rows))))
