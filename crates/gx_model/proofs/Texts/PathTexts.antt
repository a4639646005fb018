-- The components of a text.
use Rattle.std.specs.Prelude.{nat_lt}
use Rattle.std.proofs.Common.{◌≡◌, ◌↔◌, ℕ, ◌++◌, ◌<◌, ◌≤◌, Bool, true, false, cond, not, eqb, leb, [], ◌∷◌, length, Result, Ok, Err, refl, sym, ap, ◌∙◌, arith, inl, inr}
use Rattle.std.specs.List.{list_all, list_any, slice_split, All, AllByRecursion}
use Rattle.std.proofs.lemmas.Bool.{false≢true, or_parts, not-true, leb-true, leb-false}
use Rattle.std.proofs.lemmas.Bool.Decides.{nat_tests}
use Rattle.std.proofs.lemmas.List.Elements.{All-from_recursion}
use Rattle.std.proofs.lemmas.List.Splits.{join_with_byte-slice_split, slice_split_none, slice_split_at}
use Rattle.gx_model.specs.declared.faults.Fault.{Fault}
use Rattle.gx_model.specs.declared.faults.Fault.TheVariants as faults
use Rattle.gx_model.specs.Texts.{Bytes}
use Rattle.gx_model.specs.Texts.Paths.{AreBytes, Path, is_component, parts_of, path_of, path_text, IsPathOf}
use Rattle.gx_model.specs.Laws.TextLaws.{HasNoPath, IsLongPathText, IsPathFault}
use Rattle.gx_model.proofs.Texts.Idents.{and_one, and_two}

-- the components of a text, joined again, are the text
pub text_of_parts : (text : Bytes) → path_text (parts_of text) ≡ text
text_of_parts [] = refl
text_of_parts (b ∷ bs) = join_with_byte-slice_split 47 (b ∷ bs)

-- ---- the components, and so the text, are bytes

all_bytes : (c : Bytes) → list_all (λ b. nat_lt b 256) c ≡ true → AreBytes c
all_bytes [] e = tt
all_bytes (b ∷ c) e = (below b (and_one (nat_lt b 256) _ e), all_bytes c (and_two (nat_lt b 256) _ e))
  where
    below : (b : ℕ) → nat_lt b 256 ≡ true → b < 256
    below b e = grind (arith, nat_tests)

component_bytes : (c : Bytes) → is_component c ≡ true → AreBytes c
component_bytes c e = all_bytes c (and_one _ _ (and_one _ _ (and_one _ _ (and_one _ _ (and_one _ _ e)))))

join_bytes : (c d : Bytes) → AreBytes c → AreBytes d → AreBytes (c ++ d)
join_bytes [] d h k = k
join_bytes (b ∷ c) d h k = (h.0, join_bytes c d h.1 k)

pub path_bytes : (p : Path) → list_all is_component p ≡ true → AreBytes (path_text p)
path_bytes [] e = tt
path_bytes (c ∷ []) e = component_bytes c (and_one (is_component c) _ e)
path_bytes (c ∷ d ∷ p) e = join_bytes c (47 ∷ path_text (d ∷ p)) (component_bytes c (and_one (is_component c) _ e)) (omega arith, path_bytes (d ∷ p) (and_two (is_component c) _ e))

-- ---- the components of a path's text are the path

apart : (c : Bytes) → list_any (λ b. eqb b 47) c ≡ false → AllByRecursion (λ x. eqb x 47 ≡ false) c
apart [] e = tt
apart (x ∷ c) e = let p = or_parts (eqb x 47) _ e in (p.0, apart c p.1)

no_slash : (c : Bytes) → is_component c ≡ true → All (λ x. eqb x 47 ≡ false) c
no_slash c e = All-from_recursion _ c (apart c (not-true _ (and_two _ (not (list_any (λ b. eqb b 47) c)) (and_one _ (not (list_any (λ b. eqb b 0) c)) e))))

split_joined : (c : Bytes) (p : Path) → list_all is_component (c ∷ p) ≡ true → slice_split (λ x. eqb x 47) (path_text (c ∷ p)) ≡ c ∷ p
split_joined c [] e = slice_split_none (λ x. eqb x 47) c (no_slash c (and_one _ true e))
split_joined c (d ∷ p) e =
    slice_split_at (λ x. eqb x 47) c 47 (path_text (d ∷ p)) (no_slash c (and_one (is_component c) _ e)) refl ∙ ap (λ ds. c ∷ ds) (split_joined d p (and_two (is_component c) _ e))

some_parts : (bs : Bytes) → 0 < length bs → parts_of bs ≡ slice_split (λ x. eqb x 47) bs
some_parts [] lt = absurd (omega arith)
some_parts (b ∷ bs) lt = refl

filled : (c : Bytes) (p : Path) → is_component c ≡ true → 0 < length (path_text (c ∷ p))
filled [] p e = absurd (false≢true e)
filled (b ∷ c) [] e = omega arith
filled (b ∷ c) (d ∷ p) e = omega arith

pub parts_joined : (p : Path) → list_all is_component p ≡ true → parts_of (path_text p) ≡ p
parts_joined [] e = refl
parts_joined (c ∷ p) e = some_parts (path_text (c ∷ p)) (filled c p (and_one (is_component c) _ e)) ∙ split_joined c p e

-- the one path of a text
same_parts : (text : Bytes) (p : Path) → path_text p ≡ text → list_all is_component p ≡ true → parts_of text ≡ p
same_parts text p e h = ap parts_of (sym e) ∙ parts_joined p h

-- ---- reading a path

pub path_read : (text : Bytes) (p : Path) → IsPathOf text p → path_of text ≡ Ok p
path_read text p h =
    let same = same_parts text p h.joined h.components in
    let all : list_all is_component (parts_of text) ≡ true = ap (list_all is_component) same ∙ h.components in
    let short : leb (length text) 4095 ≡ true = let k = h.short in grind (arith, nat_tests) in
    rw (all, short, same) refl

pub path_again : (p : Path) → list_all is_component p ≡ true → length (path_text p) ≤ 4095 → path_of (path_text p) ≡ Ok p
path_again p e le = path_read (path_text p) p (record { joined = refl; components = e; short = le })

-- what reading may give: the components, or one of two faults
data Given (text : Bytes) : Result Path Fault → Type 0 where
  given : list_all is_component (parts_of text) ≡ true → length text ≤ 4095 → Given text (Ok (parts_of text))
  bad : list_all is_component (parts_of text) ≡ false → Given text (Err faults.BadPath)
  long : list_all is_component (parts_of text) ≡ true → 4095 < length text → Given text (Err faults.PathTooLong)

reading : (text : Bytes) → Given text (path_of text)
reading text = by (list_all is_component (parts_of text)) refl (leb (length text) 4095) refl where
  by : (t : Bool) → list_all is_component (parts_of text) ≡ t → (u : Bool) → leb (length text) 4095 ≡ u → Given text (cond t (cond u (Ok (parts_of text)) (Err faults.PathTooLong)) (Err faults.BadPath))
  by true e true k = given e (leb-true (length text) 4095 k)
  by true e false k = long e (leb-false (length text) 4095 k)
  by false e u k = bad e

found : (text : Bytes) (r : Result Path Fault) (p : Path) → Given text r → r ≡ Ok p → IsPathOf text p
found text (Ok q) p (given e k) h =
    let same : parts_of text ≡ p = cc in
    record { joined = ap path_text (sym same) ∙ text_of_parts text; components = ap (list_all is_component) (sym same) ∙ e; short = k }
found text (Err f) p (bad e) h = absurd cc
found text (Err f) p (long e k) h = absurd cc

pub path_tells : (text : Bytes) (p : Path) → (path_of text ≡ Ok p) ↔ IsPathOf text p
path_tells text p = (found text (path_of text) p (reading text), path_read text p)

-- ---- the refusals

refused : (text : Bytes) (r : Result Path Fault) (f : Fault) → Given text r → r ≡ Err f → IsPathFault text f
refused text (Ok q) f (given e k) h = absurd cc
refused text (Err g) f (bad e) h =
    let same : f ≡ faults.BadPath = cc in
    inl (same, λ p j c. false≢true (sym e ∙ ap (list_all is_component) (same_parts text p j c) ∙ c))
refused text (Err g) f (long e k) h =
    let same : f ≡ faults.PathTooLong = cc in
    inr (same, record { path = parts_of text; joined = text_of_parts text; components = e; long = k })

bad_again : (text : Bytes) (r : Result Path Fault) → Given text r → HasNoPath text → r ≡ Err faults.BadPath
bad_again text (Ok q) (given e k) h = absurd (h (parts_of text) (text_of_parts text) e)
bad_again text (Err g) (bad e) h = refl
bad_again text (Err g) (long e k) h = absurd (h (parts_of text) (text_of_parts text) e)

long_again : (text : Bytes) (r : Result Path Fault) → Given text r → IsLongPathText text → r ≡ Err faults.PathTooLong
long_again text (Ok q) (given e k) h = absurd (let lt = h.long in omega arith)
long_again text (Err g) (bad e) h = absurd (false≢true (sym e ∙ ap (list_all is_component) (same_parts text h.path h.joined h.components) ∙ h.components))
long_again text (Err g) (long e k) h = refl

refused_again : (text : Bytes) (f : Fault) → IsPathFault text f → path_of text ≡ Err f
refused_again text f (inl h) = bad_again text (path_of text) (reading text) h.1 ∙ ap Err (sym h.0)
refused_again text f (inr h) = long_again text (path_of text) (reading text) h.1 ∙ ap Err (sym h.0)

pub path_refused : (text : Bytes) (f : Fault) → (path_of text ≡ Err f) ↔ IsPathFault text f
path_refused text f = (refused text (path_of text) f (reading text), refused_again text f)
