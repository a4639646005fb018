-- A CR directly before an LF is left out.
use Rattle.std.proofs.Common.{◌≡◌, ℕ, suc, ◌-◌, Bool, true, false, eqb, if◌then◌else◌, [], ◌∷◌, ◌++◌, refl, sym, ap, ◌∙◌, arith, length, take, slice_index}
use Rattle.std.specs.Prelude.{◌==◌, ◌&&◌, nat_lt}
use Rattle.std.specs.Io.BufRead.{strip_last}
use Rattle.std.proofs.lemmas.Bool.Decides.{nat_tests}
use Rattle.gx_model.specs.Texts.{Bytes, lacks}
use Rattle.gx_model.proofs.Texts.Cuts.{lacks-cons}
use Rattle.gx_batch.specs.Lines.{without_crs}

pull : (t : Bool) (b : ℕ) (xs ys : Bytes) → (if t then b ∷ xs else b ∷ ys) ≡ b ∷ (if t then xs else ys)
pull true b xs ys = refl
pull false b xs ys = refl

positive : (n : ℕ) → nat_lt 0 (suc n) ≡ true
positive n = grind (arith, nat_tests)

-- one byte more at the front
strip-more : (b c : ℕ) (bs : Bytes) → strip_last 13 (b ∷ c ∷ bs) ≡ b ∷ strip_last 13 (c ∷ bs)
strip-more b c bs =
    let n = length bs in
    let e : suc (suc n) - 1 ≡ suc n = omega arith in
    let f : suc n - 1 ≡ n = omega arith in
    rw (positive (suc n), positive n, e, f) (pull (slice_index (c ∷ bs) n == 13) b (take n (c ∷ bs)) (c ∷ bs))

-- a byte before another that is no LF stays
past : (b c : ℕ) (bs : Bytes) → eqb c 10 ≡ false → without_crs (b ∷ c ∷ bs) ≡ b ∷ without_crs (c ∷ bs)
unfolding without_crs
past b c bs e = by (eqb b 13) (eqb c 10) e
  where
    by : (t u : Bool) → u ≡ false → (if t && u then without_crs (c ∷ bs) else b ∷ without_crs (c ∷ bs)) ≡ b ∷ without_crs (c ∷ bs)
    by true false e = refl
    by false false e = refl
    by true true e = absurd (cc)
    by false true e = absurd (cc)

lf_stays : (rest : Bytes) → without_crs (10 ∷ rest) ≡ 10 ∷ without_crs rest
unfolding without_crs
lf_stays rest = refl

last_one : (b : ℕ) (rest : Bytes) → without_crs (b ∷ 10 ∷ rest) ≡ strip_last 13 (b ∷ []) ++ without_crs (10 ∷ rest)
unfolding without_crs
last_one b rest = by (eqb b 13)
  where
    by : (t : Bool) → (if t && true then without_crs (10 ∷ rest) else b ∷ without_crs (10 ∷ rest)) ≡ (if t then [] else b ∷ []) ++ without_crs (10 ∷ rest)
    by true = refl
    by false = refl

-- the line's CR goes, and the LF stays
pub crs_first : (l rest : Bytes) → lacks 10 l ≡ true → without_crs (l ++ 10 ∷ rest) ≡ strip_last 13 l ++ 10 ∷ without_crs rest
crs_first [] rest h = lf_stays rest
crs_first (b ∷ []) rest h = last_one b rest ∙ ap (λ bs. strip_last 13 (b ∷ []) ++ bs) (lf_stays rest)
crs_first (b ∷ c ∷ bs) rest h =
    let p = lacks-cons 10 b (c ∷ bs) h in
    let q = lacks-cons 10 c bs p.1 in
    past b c (bs ++ 10 ∷ rest) q.0 ∙ ap (λ bs. b ∷ bs) (crs_first (c ∷ bs) rest p.1) ∙ ap (λ l. l ++ 10 ∷ without_crs rest) (sym (strip-more b c bs))

single : (b : ℕ) → without_crs (b ∷ []) ≡ b ∷ []
unfolding without_crs
single b = by (eqb b 13)
  where
    by : (t : Bool) → (if t && false then [] else b ∷ []) ≡ b ∷ []
    by true = refl
    by false = refl

pub crs_none : without_crs [] ≡ []
unfolding without_crs
crs_none = refl

-- a text without an LF stays
pub crs_kept : (l : Bytes) → lacks 10 l ≡ true → without_crs l ≡ l
crs_kept [] h = crs_none
crs_kept (b ∷ []) h = single b
crs_kept (b ∷ c ∷ bs) h =
    let p = lacks-cons 10 b (c ∷ bs) h in
    let q = lacks-cons 10 c bs p.1 in
    past b c bs q.0 ∙ ap (λ bs. b ∷ bs) (crs_kept (c ∷ bs) p.1)

-- a line without an LF has none without its CR
pub strip_lacks : (l : Bytes) → lacks 10 l ≡ true → lacks 10 (strip_last 13 l) ≡ true
strip_lacks [] h = refl
strip_lacks (b ∷ []) h = by (eqb b 13) h
  where
    by : (t : Bool) → lacks 10 (b ∷ []) ≡ true → lacks 10 (if t then [] else b ∷ []) ≡ true
    by true h = refl
    by false h = h
strip_lacks (b ∷ c ∷ bs) h =
    let p = lacks-cons 10 b (c ∷ bs) h in
    let rest = strip_lacks (c ∷ bs) p.1 in
    rw (strip-more b c bs, p.0) rest
