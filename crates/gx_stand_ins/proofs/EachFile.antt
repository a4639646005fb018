-- Changes of files whose contents are each changed by a function: the changed files go along.
use Rattle.std.proofs.Common.{◌≡◌, Bool, cond, List, [], ◌∷◌, ◌++◌, length, drop, Option, None, Some, Result, Ok, refl, ap, ◌∙◌}
use Rattle.std.specs.Prelude.{is_some, not, ◌&&◌}
use Rattle.std.specs.List.{list_all}
use Rattle.std.specs.Option.{option_map}
use Rattle.std.specs.FinMap.Entries.{put}
use Rattle.gx_model.specs.declared.faults.Fault.{Fault}
use Rattle.gx_model.specs.declared.faults.Fault.TheVariants.{NoSuchPath, RootNotTree, PathTooLong}
use Rattle.gx_model.specs.Faults.{unless, ◌>>=◌}
use Rattle.gx_model.specs.Texts.Paths.{Path, are_in_line, begins, is_short, path_cmp, same_path}
use Rattle.gx_model.specs.Histories.Files.{file_at, under}
use Rattle.gx_model.specs.Histories.Edits.{copied, copy_fault, is_root, modified, moved, removed, renamed, with_all, without, without_line}
use Rattle.gx_stand_ins.proofs.EachValue.{each, each_all, each_filter, each_lookup, each_put}

module _ {X Y : Type 0} (g : X → Y) where
  -- files with their contents changed
  abbrev Files : List (Path × X) → List (Path × Y)
  Files f = each g f

  -- where there is no fault, with their contents changed
  abbrev pub Edited : Result (List (Path × X)) Fault → Result (List (Path × Y)) Fault
  Edited r = r >>= λ f. Ok (Files f)

  each_moved : (s d : Path) (f : List (Path × X)) → moved s d (Files f) ≡ Files (moved s d f)
  each_moved s d [] = refl
  each_moved s d (e ∷ es) = ap (λ z. (d ++ drop (length s) e.0, g e.1) ∷ z) (each_moved s d es)

  each_with_all : (es f : List (Path × X)) → with_all (Files es) (Files f) ≡ Files (with_all es f)
  each_with_all [] f = refl
  each_with_all (e ∷ es) f = ap (put path_cmp e.0 (g e.1)) (each_with_all es f) ∙ each_put g path_cmp e.0 e.1 (with_all es f)

  pub each_under : (p : Path) (f : List (Path × X)) → under p (Files f) ≡ Files (under p f)
  each_under p f = each_filter g (begins p) f

  each_without : (p : Path) (f : List (Path × X)) → without p (Files f) ≡ Files (without p f)
  each_without p f = each_filter g (λ q. not (begins p q)) f

  each_without_line : (p : Path) (f : List (Path × X)) → without_line p (Files f) ≡ Files (without_line p f)
  each_without_line p f = each_filter g (λ q. not (are_in_line p q)) f

  -- what is found at a path
  pub each_at : (f : List (Path × X)) (p : Path) → file_at (Files f) p ≡ option_map g (file_at f p)
  each_at f p = each_lookup g (same_path p) f

  some_mapped : (o : Option X) → is_some (option_map g o) ≡ is_some o
  some_mapped None = refl
  some_mapped (Some x) = refl

  moved_under : (s d : Path) (f : List (Path × X)) → moved s d (under s (Files f)) ≡ Files (moved s d (under s f))
  moved_under s d f = ap (moved s d) (each_under s f) ∙ each_moved s d (under s f)

  abbrev fault_by : Bool → Bool → Bool → Option Fault
  fault_by none root short = cond none (Some NoSuchPath) (cond root (Some RootNotTree) (cond short None (Some PathTooLong)))

  each_fault : (f : List (Path × X)) (s d : Path) → copy_fault (Files f) s d ≡ copy_fault f s d
  each_fault f s d =
      let none = each_all g (λ q. not (begins s q)) f in
      let root = ap is_some (each_at f s) ∙ some_mapped (file_at f s) in
      let short = ap (list_all (λ e. is_short e.0)) (moved_under s d f) ∙ each_all g is_short (moved s d (under s f)) in
      λ i. fault_by (none i) (root i && is_root d) (short i)

  edited : (o : Option Fault) (f : List (Path × X)) → unless o (Files f) ≡ Edited (unless o f)
  edited None f = refl
  edited (Some e) f = refl

  -- a file put goes along
  pub each_modified : (f : List (Path × X)) (p : Path) (x : X) → modified (Files f) p (g x) ≡ Edited (modified f p x)
  each_modified f [] x = refl
  each_modified f (c ∷ p) x = ap Ok (ap (put path_cmp (c ∷ p) (g x)) (each_without_line (c ∷ p) f) ∙ each_put g path_cmp (c ∷ p) x (without_line (c ∷ p) f))

  -- and so do what is left out
  pub each_removed : (f : List (Path × X)) (p : Path) → removed (Files f) p ≡ Files (removed f p)
  each_removed f p = each_without p f

  -- a copy
  pub each_copied : (f : List (Path × X)) (s d : Path) → copied (Files f) s d ≡ Edited (copied f s d)
  each_copied f s d =
      let new = (λ i. with_all (moved_under s d f i) (each_without_line d f i)) ∙ each_with_all (moved s d (under s f)) (without_line d f) in
      (λ i. unless (each_fault f s d i) (new i)) ∙ edited (copy_fault f s d) (with_all (moved s d (under s f)) (without_line d f))

  -- and a rename
  pub each_renamed : (f : List (Path × X)) (s d : Path) → renamed (Files f) s d ≡ Edited (renamed f s d)
  each_renamed f s d =
      let left = ap (without_line d) (each_without s f) ∙ each_without_line d (without s f) in
      let new = (λ i. with_all (moved_under s d f i) (left i)) ∙ each_with_all (moved s d (under s f)) (without_line d (without s f)) in
      (λ i. unless (each_fault f s d i) (new i)) ∙ edited (copy_fault f s d) (with_all (moved s d (under s f)) (without_line d (without s f)))
