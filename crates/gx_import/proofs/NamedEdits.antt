-- Edits of a map of names are those of its file map: they look at paths alone.
use Rattle.std.proofs.Common.{◌≡◌, Bool, true, false, cond, not, ◌&&◌, List, [], ◌∷◌, ◌++◌, length, drop, map, Option, Some, None, Ok, refl, ap, ◌∙◌}
use Rattle.std.specs.Prelude.{is_some}
use Rattle.std.specs.List.{filter, list_all}
use Rattle.std.specs.declared.cmp.Ordering.TheVariants.{Less, Equal, Greater}
use Rattle.std.specs.FinMap.Entries.{by_order, put}
use Rattle.gx_model.specs.declared.faults.Fault.{Fault}
use Rattle.gx_model.specs.declared.faults.Fault.TheVariants.{NoSuchPath, RootNotTree, PathTooLong}
use Rattle.gx_model.specs.Faults.{unless, ◌>>=◌}
use Rattle.gx_model.specs.Texts.Paths.{Path, are_in_line, begins, is_short, path_cmp, same_path}
use Rattle.gx_model.specs.Histories.Files.{file_at, under}
use Rattle.gx_model.specs.Histories.Edits.{copied, copy_fault, is_root, modified, moved, removed, renamed, with_all, without, without_line}

module _ {X Y : Type 0} (h : X → Y) where
  -- each leaf so
  abbrev pub leafed : List (Path × X) → List (Path × Y)
  leafed files = map (λ entry. (entry.0, h entry.1)) files

  filter_leafed : (t : Path → Bool) (f : List (Path × X)) → filter (λ e. t e.0) (leafed f) ≡ leafed (filter (λ e. t e.0) f)
  filter_leafed t [] = refl
  filter_leafed t (e ∷ es) =
      elim (t e.0) as (λ b. cond b ((e.0, h e.1) ∷ filter (λ e. t e.0) (leafed es)) (filter (λ e. t e.0) (leafed es)) ≡ leafed (cond b (e ∷ filter (λ e. t e.0) es) (filter (λ e. t e.0) es))) [
        | true ↦ ap (λ z. (e.0, h e.1) ∷ z) (filter_leafed t es)
        | false ↦ filter_leafed t es
      ]

  put_leafed : (p : Path) (x : X) (f : List (Path × X)) → put path_cmp p (h x) (leafed f) ≡ leafed (put path_cmp p x f)
  put_leafed p x [] = refl
  put_leafed p x (e ∷ es) =
      elim (path_cmp p e.0) as (λ o. by_order o ((p, h x) ∷ (e.0, h e.1) ∷ leafed es) ((e.0, h x) ∷ leafed es) ((e.0, h e.1) ∷ put path_cmp p (h x) (leafed es)) ≡ leafed (by_order o ((p, x) ∷ e ∷ es) ((e.0, x) ∷ es) (e ∷ put path_cmp p x es))) [
        | Less ↦ refl
        | Equal ↦ refl
        | Greater ↦ ap (λ z. (e.0, h e.1) ∷ z) (put_leafed p x es)
      ]

  moved_leafed : (s d : Path) (f : List (Path × X)) → moved s d (leafed f) ≡ leafed (moved s d f)
  moved_leafed s d [] = refl
  moved_leafed s d (e ∷ es) = ap (λ z. (d ++ drop (length s) e.0, h e.1) ∷ z) (moved_leafed s d es)

  with_all_leafed : (es f : List (Path × X)) → with_all (leafed es) (leafed f) ≡ leafed (with_all es f)
  with_all_leafed [] f = refl
  with_all_leafed (e ∷ es) f = ap (put path_cmp e.0 (h e.1)) (with_all_leafed es f) ∙ put_leafed e.0 e.1 (with_all es f)

  all_leafed : (t : Path → Bool) (f : List (Path × X)) → list_all (λ e. t e.0) (leafed f) ≡ list_all (λ e. t e.0) f
  all_leafed t [] = refl
  all_leafed t (e ∷ es) = ap (λ b. t e.0 && b) (all_leafed t es)

  some_leafed : (p : Path) (f : List (Path × X)) → is_some (file_at (leafed f) p) ≡ is_some (file_at f p)
  some_leafed p [] = refl
  some_leafed p (e ∷ es) =
      elim (same_path p e.0) as (λ b. is_some (cond b (Some (h e.1)) (file_at (leafed es) p)) ≡ is_some (cond b (Some e.1) (file_at es p))) [ true ↦ refl | false ↦ some_leafed p es ]

  placed_leafed : (s d : Path) (f rest : List (Path × X)) → with_all (moved s d (under s (leafed f))) (without_line d (leafed rest)) ≡ leafed (with_all (moved s d (under s f)) (without_line d rest))
  placed_leafed s d f rest =
      (λ i. with_all (moved s d (filter_leafed (begins s) f i)) (filter_leafed (λ q. not (are_in_line d q)) rest i))
      ∙ ap (λ z. with_all z (leafed (without_line d rest))) (moved_leafed s d (under s f))
      ∙ with_all_leafed (moved s d (under s f)) (without_line d rest)

  fault_leafed : (s d : Path) (f : List (Path × X)) → copy_fault (leafed f) s d ≡ copy_fault f s d
  fault_leafed s d f = λ i.
      cond (all_leafed (λ q. not (begins s q)) f i) (Some NoSuchPath)
      (cond (some_leafed s f i && is_root d) (Some RootNotTree)
      (cond (short i) None (Some PathTooLong)))
    where
      short : list_all (λ e. is_short e.0) (moved s d (under s (leafed f))) ≡ list_all (λ e. is_short e.0) (moved s d (under s f))
      short = ap (λ z. list_all (λ e. is_short e.0) (moved s d z)) (filter_leafed (begins s) f) ∙ ap (list_all (λ e. is_short e.0)) (moved_leafed s d (under s f)) ∙ all_leafed is_short (moved s d (under s f))

  unless_leafed : (o : Option Fault) (g : List (Path × X)) → unless o (leafed g) ≡ (unless o g >>= λ z. Ok (leafed z))
  unless_leafed None g = refl
  unless_leafed (Some e) g = refl

  -- the edits
  pub modified_leafed : (f : List (Path × X)) (p : Path) (x : X) → modified (leafed f) p (h x) ≡ (modified f p x >>= λ z. Ok (leafed z))
  modified_leafed f [] x = refl
  modified_leafed f (c ∷ p) x = ap Ok (ap (put path_cmp (c ∷ p) (h x)) (filter_leafed (λ q. not (are_in_line (c ∷ p) q)) f) ∙ put_leafed (c ∷ p) x (without_line (c ∷ p) f))

  pub removed_leafed : (f : List (Path × X)) (p : Path) → removed (leafed f) p ≡ leafed (removed f p)
  removed_leafed f p = filter_leafed (λ q. not (begins p q)) f

  pub copied_leafed : (f : List (Path × X)) (s d : Path) → copied (leafed f) s d ≡ (copied f s d >>= λ z. Ok (leafed z))
  copied_leafed f s d = (λ i. unless (fault_leafed s d f i) (placed_leafed s d f f i)) ∙ unless_leafed (copy_fault f s d) _

  pub renamed_leafed : (f : List (Path × X)) (s d : Path) → renamed (leafed f) s d ≡ (renamed f s d >>= λ z. Ok (leafed z))
  renamed_leafed f s d =
      (λ i. unless (fault_leafed s d f i) (with_all (moved s d (under s (leafed f))) (without_line d (filter_leafed (λ q. not (begins s q)) f i))))
      ∙ ap (unless (copy_fault f s d)) (placed_leafed s d f (without s f))
      ∙ unless_leafed (copy_fault f s d) _
