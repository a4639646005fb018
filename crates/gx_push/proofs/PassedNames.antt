-- The names of those in a list that pass, one after the other.
use Rattle.std.proofs.Common.{◌≡◌, ℕ, ◌+◌, ◌<◌, ◌≤◌, Bool, true, false, List, [], ◌∷◌, ◌++◌, append-nil, append_assoc, length, map, drop, get_or, sym, ap, ◌∙◌, drop_of_length-le}
use Rattle.std.specs.Prelude.{if◌then◌else◌}
use Rattle.std.specs.List.{filter}
use Rattle.std.proofs.lemmas.List.{drop_more}
use Rattle.gx_model.specs.Texts.{Bytes}

module _ {X V : Type 0} (name : X → Bytes) (p : X → Bool) (shown : V → X) (list : List V) where
  -- the names of the first ones, and those that are left
  abbrev pub AreNamed : List Bytes → ℕ → Type 0
  AreNamed names i = (names ++ map name (filter p (map shown (drop i list)))) ≡ map name (filter p (map shown list))

  at_next : (i : ℕ) (d : V) (b : Bool) → i < length list → p (shown (get_or list i d)) ≡ b
      → map name (filter p (map shown (drop i list))) ≡ map name (if b then shown (get_or list i d) ∷ filter p (map shown (drop (i + 1) list)) else filter p (map shown (drop (i + 1) list)))
  at_next i d b lt e =
      ap (λ vs. map name (filter p (map shown vs))) (drop_more list i d lt)
      ∙ ap (λ t. map name (if t then shown (get_or list i d) ∷ filter p (map shown (drop (i + 1) list)) else filter p (map shown (drop (i + 1) list)))) e

  pub named_more : (names : List Bytes) (i : ℕ) (d : V) → i < length list → AreNamed names i → p (shown (get_or list i d)) ≡ true → AreNamed (names ++ name (shown (get_or list i d)) ∷ []) (i + 1)
  named_more names i d lt h e =
      append_assoc names (name (shown (get_or list i d)) ∷ []) (map name (filter p (map shown (drop (i + 1) list)))) ∙ ap (λ ns. names ++ ns) (sym (at_next i d true lt e)) ∙ h

  pub named_same : (names : List Bytes) (i : ℕ) (d : V) → i < length list → AreNamed names i → p (shown (get_or list i d)) ≡ false → AreNamed names (i + 1)
  named_same names i d lt h e = ap (λ ns. names ++ ns) (sym (at_next i d false lt e)) ∙ h

  pub named_all : (names : List Bytes) (i : ℕ) → length list ≤ i → AreNamed names i → names ≡ map name (filter p (map shown list))
  named_all names i le h = sym (append-nil names) ∙ ap (λ vs. names ++ map name (filter p (map shown vs))) (sym (drop_of_length-le list le)) ∙ h
