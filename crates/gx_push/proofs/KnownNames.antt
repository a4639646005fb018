-- Names of refs that can be dropped: some of those that are told of, each once, and each is there.
use Rattle.std.proofs.Common.{◌≡◌, ◌+◌, Bool, true, false, List, [], ◌∷◌, ◌++◌, append-nil, length, map, Some, None, Result, Ok, Err, refl, sym, ap, ◌∙◌}
use Rattle.std.specs.Prelude.{ℕ, if◌then◌else◌, not, ◌&&◌, ◌||◌}
use Rattle.std.specs.List.{filter}
use Rattle.std.proofs.lemmas.Bool.{true≢false}
use Rattle.std.proofs.lemmas.List.{map-append}
use Rattle.std.proofs.lemmas.List.Elements.{filter-append}
use Rattle.gx_model.specs.Texts.{Bytes, same_bytes}
use Rattle.gx_model.specs.Records.Publishing.{Ref}
use Rattle.gx_repo.specs.Dropping.{dropped, is_among, unknown_behind}
use Rattle.gx_repo.specs.Refs.{is_ref_held}
use Rattle.gx_repo.proofs.DroppedRefs.{none_unknown}
use Rattle.gx_push.specs.declared.fault.RefFault.{RefFault}
use Rattle.gx_push.specs.Lines.{read_lines}
use Rattle.gx_push.proofs.ReadLines.{AreNew, read_new}

module _ {X : Type 0} (name : X → Bytes) (refs : List Ref) (p : X → Bool) (held : (x : X) → p x ≡ true → is_ref_held refs (name x) ≡ true) where
  -- the names of those that pass
  abbrev passed : List X → List Bytes
  passed xs = map name (filter p xs)

  passed_more : (before : List X) (x : X) (b : Bool) → p x ≡ b → passed (before ++ x ∷ []) ≡ (if b then passed before ++ name x ∷ [] else passed before)
  passed_more before x b e =
      ap (map name) (filter-append p before (x ∷ [])) ∙ map-append name (filter p before) (filter p (x ∷ [])) ∙ ap (λ t. passed before ++ map name (if t then x ∷ [] else [])) e ∙ by b
    where
      by : (b : Bool) → (passed before ++ map name (if b then x ∷ [] else [])) ≡ (if b then passed before ++ name x ∷ [] else passed before)
      by true = refl
      by false = append-nil (passed before)

  -- they are some of all
  new_among : (before : List X) (n : Bytes) → is_among (map name before) n ≡ false → is_among (passed before) n ≡ false
  new_among [] n e = refl
  new_among (x ∷ xs) n e = step (p x) ∙ by (same_bytes (name x) n) (p x) e (new_among xs n) where
    step : (b : Bool) → is_among (map name (if b then x ∷ filter p xs else filter p xs)) n ≡ (if b then same_bytes (name x) n || is_among (passed xs) n else is_among (passed xs) n)
    step true = refl
    step false = refl

    by : (a b : Bool) → (a || is_among (map name xs) n) ≡ false → (is_among (map name xs) n ≡ false → is_among (passed xs) n ≡ false) → (if b then a || is_among (passed xs) n else is_among (passed xs) n) ≡ false
    by true b h k = absurd (true≢false h)
    by false true h k = k h
    by false false h k = k h

  none_unknown_behind : (before rest : List X) → AreNew name before rest → unknown_behind refs (passed before) (passed rest) ≡ None
  none_unknown_behind before [] h = refl
  none_unknown_behind before (x ∷ xs) h = by (p x) refl (none_unknown_behind (before ++ x ∷ []) xs h.1) where
    by : (b : Bool) → p x ≡ b → unknown_behind refs (passed (before ++ x ∷ [])) (passed xs) ≡ None → unknown_behind refs (passed before) (map name (if b then x ∷ filter p xs else filter p xs)) ≡ None
    by true e k =
        let there = held x e in
        let new = new_among before (name x) h.0 in
        let both : (is_ref_held refs (name x) && not (is_among (passed before) (name x))) ≡ true = λ j. there j && not (new j) in
        ap (λ t. if t then unknown_behind refs (passed before ++ name x ∷ []) (passed xs) else Some (length (passed before) + 1)) both
        ∙ ap (λ ns. unknown_behind refs ns (passed xs)) (sym (passed_more before x true e)) ∙ k
    by false e k = ap (λ ns. unknown_behind refs ns (passed xs)) (sym (passed_more before x false e)) ∙ k

  -- so all of them can be dropped
  pub all_known : (read : List Bytes → Bytes → Result X RefFault) → ((names : List Bytes) (line : Bytes) (told : X) → read names line ≡ Ok told → is_among names (name told) ≡ false)
      → (lines : List Bytes) (all : List X) → read_lines name read lines ≡ Ok all → (names : List Bytes) → names ≡ passed all → (number : ℕ) → dropped names refs ≡ Err number → ⊥
  all_known read new lines all e names s number h =
      let behind = read_new name read new [] lines all e in
      let none = ap (unknown_behind refs []) (s ∙ ap passed behind.1) ∙ none_unknown_behind [] behind.0 behind.2 in
      let bad = sym (none_unknown names refs none) ∙ h in
      cc bad
