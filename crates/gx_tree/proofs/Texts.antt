-- Equal and different texts and paths.
use Rattle.std.proofs.Common.{◌≡◌, ◌≢◌, Bool, true, false, [], ◌∷◌, ◌⊎◌, inl, inr, refl, sym}
use Rattle.std.specs.Prelude.{T}
use Rattle.std.proofs.lemmas.Slice.Eq.{bytes_eq-Decides}
use Rattle.std.proofs.lemmas.Bool.{false_from_ne_true, cases_Bool, false≢true, true≢false, and_parts}
use Rattle.gx_model.specs.Texts.{Bytes, same_bytes}
use Rattle.gx_model.specs.Texts.Paths.{Path, same_path}

pub same_itself : (c : Bytes) → same_bytes c c ≡ true
same_itself c = (bytes_eq-Decides c c).1 refl

pub cases_bytes : (c d : Bytes) → (c ≡ d) ⊎ (same_bytes c d ≡ false)
cases_bytes c d = elim (cases_Bool (same_bytes c d)) [ inl e ↦ inl ((bytes_eq-Decides c d).0 e) | inr e ↦ inr e ]

pub bytes_are : (c d : Bytes) → same_bytes c d ≡ true → c ≡ d
bytes_are c d e = (bytes_eq-Decides c d).0 e

pub bytes_same : (c d : Bytes) → c ≡ d → same_bytes c d ≡ true
bytes_same c d e = (bytes_eq-Decides c d).1 e

pub bytes_differ : (c d : Bytes) → (c ≢ d) → same_bytes c d ≡ false
bytes_differ c d n = false_from_ne_true _ (λ e. n ((bytes_eq-Decides c d).0 e))

pub differ_from : (c d : Bytes) → same_bytes c d ≡ false → c ≢ d
differ_from c d n s = true≢false (rw (bytes_same c d s) at n)

pub same_bytes_flip : (c d : Bytes) → same_bytes c d ≡ same_bytes d c
same_bytes_flip c d = elim (cases_bytes c d) [
  | inl e ↦ rw e refl
  | inr e ↦ rw (e, bytes_differ d c (λ s. differ_from c d e (sym s))) refl
]

pub same_path_itself : (p : Path) → same_path p p ≡ true
same_path_itself [] = refl
same_path_itself (c ∷ p) = rw (same_itself c) (same_path_itself p)

pub path_is : (p q : Path) → same_path p q ≡ true → p ≡ q
path_is [] [] e = refl
path_is [] (d ∷ q) e = absurd (false≢true e)
path_is (c ∷ p) [] e = absurd (false≢true e)
path_is (c ∷ p) (d ∷ q) e =
    let h = and_parts (same_bytes c d) (same_path p q) e in
    let s = bytes_are c d h.0 in
    let r = path_is p q h.1 in
    λ i. s i ∷ r i

pub cases_paths : (p q : Path) → (p ≡ q) ⊎ ((same_path p q ≡ false) × (p ≢ q))
cases_paths p q = elim (cases_Bool (same_path p q)) [
  | inl e ↦ inl (path_is p q e)
  | inr e ↦ inr (e, λ s. true≢false (rw (s, same_path_itself q) at e))
]

pub holds : (b : Bool) → T b → b ≡ true
holds true h = refl
holds false h = absurd h
