-- A step of an edit, at the component at i of the path.
use Rattle.std.proofs.Common.{◌≡◌, ◌≢◌, ℕ, ◌+◌, ◌<◌, zero, suc, true, false, [], ◌∷◌, ◌++◌, length, get_or, drop, Option, Some, None, refl, sym, ap, ◌∙◌, arith, subst}
use Rattle.std.specs.List.{list_all}
use Rattle.std.proofs.lemmas.Bool.{and_parts, true≢false}
use Rattle.gx_model.specs.Texts.{Bytes}
use Rattle.gx_model.specs.Texts.Paths.{Path, is_component}
use Rattle.gx_model.specs.Histories.Files.{FileMap, Leaf}
use Rattle.gx_model.specs.Records.HistoryOf.{placed}
use Rattle.gx_model.specs.Histories.Edits.{is_root, removed}
use Rattle.gx_tree.specs.Edits.{with_grafted, without_path}
use Rattle.gx_tree.specs.Nodes.{Kept, Level, IsKept, IsLevel, file, files, folder, is_inner_path, kept_at, kept_map, with_kept}
use Rattle.gx_tree.specs.Steps.{files_of, folder_if_any, grafted, kept_grafted, kept_removed, replaced}
use Rattle.gx_tree.proofs.Below.{at_component}
use Rattle.gx_tree.proofs.EditLaws.{IsLevel-removed, removed_files}
use Rattle.gx_tree.proofs.Grafts.{IsLevel-grafted, grafted_files}

components-drop : (p : Path) (i : ℕ) → list_all is_component p ≡ true → list_all is_component (drop i p) ≡ true
components-drop p zero h = h
components-drop [] (suc i) h = h
components-drop (c ∷ p) (suc i) h = components-drop p i (and_parts _ _ h).1

pub inner_at : {c : Bytes} (p : Path) (i : ℕ) → i < length p → c ≡ get_or p i [] → list_all is_component p ≡ true → is_inner_path (c ∷ drop (i + 1) p) ≡ true
inner_at p i l e h = subst (λ q. list_all is_component q ≡ true) (at_component p i l e) (components-drop p i h)

-- what an edit leaves, by the new list of entries
pub record Leaves (f : FileMap Bytes) (out : Level) : Type 0 where
  pub level : IsLevel out
  pub is : files out ≡ f

-- to put k at a path is to change the entry of its first component
pub grafted_whole : (p : Path) (i : ℕ) (k : Kept) (es out : Level) → i < length p → list_all is_component p ≡ true → IsKept k → IsLevel es → out ≡ with_grafted (drop i p) k es → Leaves (grafted (drop i p) (kept_map k) (files es)) out
grafted_whole p i k es out l hp hk h e =
    let c : Bytes = get_or p i [] in
    let at : drop i p ≡ c ∷ drop (i + 1) p = at_component p i l refl in
    let q = inner_at p i l refl hp in
    let new : out ≡ with_kept c (kept_grafted (drop (i + 1) p) k (kept_at c es)) es = e ∙ ap (λ z. with_grafted z k es) at in
    record {
      level = subst IsLevel (sym new) (IsLevel-grafted c (drop (i + 1) p) k es q hk h);
      is = ap files new ∙ sym (grafted_files c (drop (i + 1) p) k es q hk h) ∙ ap (λ z. grafted z (kept_map k) (files es)) (sym at);
    }

-- the entry of the component at i, where o is kept, becomes j
pub grafted_from : {o : Option Kept} {j : Kept} (c : Bytes) (p : Path) (i : ℕ) (k : Kept) (es out : Level) → i < length p → c ≡ get_or p i [] → kept_at c es ≡ o → j ≡ kept_grafted (drop (i + 1) p) k o → out ≡ with_kept c j es → out ≡ with_grafted (drop i p) k es
grafted_from c p i k es out l ec eo ej e =
    e ∙ ap (λ z. with_kept c z es) (ej ∙ ap (kept_grafted (drop (i + 1) p) k) (sym eo)) ∙ ap (λ z. with_grafted z k es) (sym (at_component p i l ec))

pub kept_grafted_folder : (q : Path) (j : Kept) (o : Option Kept) → is_root q ≡ false → folder (grafted q (kept_map j) (files_of o)) ≡ kept_grafted q j o
kept_grafted_folder [] j o h = absurd (true≢false h)
kept_grafted_folder (d ∷ q) j o h = refl

-- to remove a path is to change the entry of its first component, or to take it out
pub removed_whole : (p : Path) (i : ℕ) (es out : Level) → i < length p → list_all is_component p ≡ true → IsLevel es → out ≡ without_path (drop i p) es → Leaves (removed (files es) (drop i p)) out
removed_whole p i es out l hp h e =
    let c : Bytes = get_or p i [] in
    let at : drop i p ≡ c ∷ drop (i + 1) p = at_component p i l refl in
    let q = inner_at p i l refl hp in
    let new : out ≡ replaced c (kept_removed (drop (i + 1) p) (kept_at c es)) es = e ∙ ap (λ z. without_path z es) at in
    record {
      level = subst IsLevel (sym new) (IsLevel-removed c (drop (i + 1) p) es (and_parts _ _ q).0 h);
      is = ap files new ∙ sym (removed_files c (drop (i + 1) p) es (and_parts _ _ q).0 h) ∙ ap (removed (files es)) (sym at);
    }

-- of the entry of the component at i, where o is kept, j is left, if anything
pub removed_from : {o j : Option Kept} (c : Bytes) (p : Path) (i : ℕ) (es out : Level) → i < length p → c ≡ get_or p i [] → kept_at c es ≡ o → j ≡ kept_removed (drop (i + 1) p) o → out ≡ replaced c j es → out ≡ without_path (drop i p) es
removed_from c p i es out l ec eo ej e =
    e ∙ ap (λ z. replaced c z es) (ej ∙ ap (kept_removed (drop (i + 1) p)) (sym eo)) ∙ ap (λ z. without_path z es) (sym (at_component p i l ec))

pub kept_removed_file : (q : Path) (x : Leaf Bytes) → is_root q ≡ false → Some (file x) ≡ kept_removed q (Some (file x))
kept_removed_file [] x h = absurd (true≢false h)
kept_removed_file (d ∷ q) x h = refl

some_folder : (f : FileMap Bytes) → (f ≢ []) → Some (folder f) ≡ folder_if_any f
some_folder [] n = absurd (n refl)
some_folder (e ∷ f) n = refl

pub kept_removed_folder : (q : Path) (f g : FileMap Bytes) → is_root q ≡ false → g ≡ removed f q → (g ≢ []) → Some (folder g) ≡ kept_removed q (Some (folder f))
kept_removed_folder [] f g h e n = absurd (true≢false h)
kept_removed_folder (d ∷ q) f g h e n = some_folder g n ∙ ap folder_if_any e

placed_some : (c : Bytes) (k : Kept) (f : FileMap Bytes) → IsKept k → placed c (kept_map k) ++ f ≢ []
placed_some c (file x) f h = λ e. cc
placed_some c (folder []) f h = λ e. h.0 refl
placed_some c (folder (g ∷ gs)) f h = λ e. cc

pub no_files : (es : Level) → IsLevel es → files es ≡ [] → length es ≡ 0
no_files [] h e = refl
no_files (x ∷ es) h e = absurd (placed_some x.0 x.1 (files es) h.1 e)

pub no_entries : (es : Level) → length es ≡ 0 → files es ≡ []
no_entries [] e = refl
no_entries (x ∷ es) e = absurd (omega arith)

pub removed_root : (p : Path) (f : FileMap Bytes) → length p ≡ 0 → removed f p ≡ []
removed_root [] [] e = refl
removed_root [] (x ∷ f) e = removed_root [] f refl
removed_root (c ∷ p) f e = absurd (omega arith)

pub kept_removed_none : (q : Path) (f g : FileMap Bytes) → is_root q ≡ false → g ≡ removed f q → g ≡ [] → None ≡ kept_removed q (Some (folder f))
kept_removed_none [] f g h e n = absurd (true≢false h)
kept_removed_none (d ∷ q) f g h e n = ap folder_if_any (sym n ∙ e)
