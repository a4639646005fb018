-- What comes to stand among the entries of the directory at which two paths part.
use Rattle.std.proofs.Common.{◌≡◌, ℕ, ◌+◌, ◌<◌, true, false, [], length, get_or, drop, None, refl, sym, ap, ◌∙◌}
use Rattle.std.specs.List.{list_all}
use Rattle.gx_model.specs.Texts.{Bytes, same_bytes}
use Rattle.gx_model.specs.Texts.Paths.{Path, is_component}
use Rattle.gx_model.specs.Histories.Edits.{removed}
use Rattle.gx_tree.specs.Edits.{without_path}
use Rattle.gx_tree.specs.Nodes.{Kept, Level, IsKept, IsLevel, files, kept_at, kept_map, with_kept}
use Rattle.gx_tree.specs.Steps.{grafted, kept_grafted, kept_removed}
use Rattle.gx_tree.proofs.Below.{at_component}
use Rattle.gx_tree.proofs.EditLaws.{kept_at-replaced}
use Rattle.gx_tree.proofs.EditSteps.{Leaves, grafted_from, grafted_whole, removed_whole}
use Rattle.gx_tree.proofs.Texts.{same_bytes_flip}

-- what stood at the other component still does
kept_beside : (s : Path) (i : ℕ) (b : Bytes) (es mid : Level) → i < length s → same_bytes (get_or s i []) b ≡ false → mid ≡ without_path (drop i s) es → kept_at b mid ≡ kept_at b es
kept_beside s i b es mid l n em =
    let a = get_or s i [] in
    let flip : same_bytes b a ≡ false = same_bytes_flip b a ∙ n in
    ap (kept_at b) (em ∙ ap (λ z. without_path z es) (at_component s i l refl))
    ∙ kept_at-replaced a b (kept_removed (drop (i + 1) s) (kept_at a es)) es
    ∙ rw flip refl

-- where j stands at the component of d, once s is removed, k stands at d
pub carried_above : {j : Kept} (s d : Path) (i : ℕ) (k : Kept) (es mid out : Level) → i < length s → i < length d → list_all is_component s ≡ true → list_all is_component d ≡ true → same_bytes (get_or s i []) (get_or d i []) ≡ false → IsKept k → IsLevel es → kept_grafted (drop (i + 1) d) k None ≡ kept_grafted (drop (i + 1) d) k (kept_at (get_or d i []) es) → mid ≡ without_path (drop i s) es → j ≡ kept_grafted (drop (i + 1) d) k None → out ≡ with_kept (get_or d i []) j mid → Leaves (grafted (drop i d) (kept_map k) (removed (files es) (drop i s))) out
carried_above {j} s d i k es mid out ls ld hs hd n hk h anew em ej eo =
    let b = get_or d i [] in
    let left = removed_whole s i es mid ls hs h em in
    let new : j ≡ kept_grafted (drop (i + 1) d) k (kept_at b mid) = ej ∙ anew ∙ ap (kept_grafted (drop (i + 1) d) k) (sym (kept_beside s i b es mid ls n em)) in
    let come = grafted_whole d i k mid out ld hd hk left.level (grafted_from b d i k mid out ld refl refl new eo) in
    record { level = come.level; is = come.is ∙ ap (grafted (drop i d) (kept_map k)) left.is }
