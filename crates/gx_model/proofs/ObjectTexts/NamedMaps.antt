-- The files of a map of names stay held.
use Rattle.std.proofs.Common.{◌≡◌, cond, true, false, List, [], ◌∷◌, Result, Ok, Err, refl, sym, subst}
use Rattle.std.specs.Prelude.{◌≢◌, not, OnErr}
use Rattle.std.specs.List.{AllByRecursion}
use Rattle.std.specs.FinMap.Entries.{by_order, put}
use Rattle.std.specs.declared.cmp.Ordering.TheVariants.{Less, Equal, Greater}
use Rattle.gx_model.specs.declared.objects.Kind.TheVariants as kinds
use Rattle.gx_model.specs.declared.objects.Mode.{Mode}
use Rattle.gx_model.specs.declared.objects.Mode.TheVariants.{File, Exec, Link, Gitlink, Dir}
use Rattle.gx_model.specs.Texts.{Bytes}
use Rattle.gx_model.specs.Histories.Edits.{modified, without_line}
use Rattle.gx_model.specs.Histories.Files.{FileMap, Leaf}
use Rattle.gx_model.specs.Texts.Paths.{Path, are_in_line, path_cmp}
use Rattle.gx_model.specs.Histories.{Record}
use Rattle.gx_model.specs.Records.Sound.{IsHeldAs, IsNamedMap, Keeps}
use Rattle.gx_model.specs.Faults.{Gives}
use Rattle.gx_model.specs.declared.faults.Fault.{Fault}
use Rattle.gx_model.specs.Objects.NameMaps.{IsNameMap}

leaf_kept : (old new : List Record) → Keeps old new → (mode : Mode) (n : Bytes) → mode ≢ Dir → IsHeldAs old mode n → IsHeldAs new mode n
leaf_kept old new k File n m h = k kinds.Blob n h
leaf_kept old new k Exec n m h = k kinds.Blob n h
leaf_kept old new k Link n m h = k kinds.Blob n h
leaf_kept old new k Gitlink n m h = h
leaf_kept old new k Dir n m h = absurd (m refl)

leaves_kept : (old new : List Record) → Keeps old new → (f : FileMap Bytes) → AllByRecursion (λ e. e.1.0 ≢ Dir) f → AllByRecursion (λ e. IsHeldAs old e.1.0 e.1.1) f → AllByRecursion (λ e. IsHeldAs new e.1.0 e.1.1) f
leaves_kept old new k [] m h = tt
leaves_kept old new k (e ∷ es) m h = (leaf_kept old new k e.1.0 e.1.1 m.0 h.0, leaves_kept old new k es m.1 h.1)

-- where all stays held, a map of names does
pub named_kept : (old new : List Record) → Keeps old new → (f : FileMap Bytes) → IsNamedMap old f → IsNamedMap new f
named_kept old new k f h = record { file_map = h.file_map; files = h.files; names = h.names; held = leaves_kept old new k f h.files h.held }

held_beside : (rs : List Record) (p : Path) (f : FileMap Bytes) → AllByRecursion (λ e. IsHeldAs rs e.1.0 e.1.1) f → AllByRecursion (λ e. IsHeldAs rs e.1.0 e.1.1) (without_line p f)
held_beside rs p [] h = tt
held_beside rs p (e ∷ es) h = elim (not (are_in_line p e.0)) as (λ b. AllByRecursion (λ e. IsHeldAs rs e.1.0 e.1.1) (cond b (e ∷ without_line p es) (without_line p es))) [
  | true ↦ (h.0, held_beside rs p es h.1)
  | false ↦ held_beside rs p es h.1
]

held_with : (rs : List Record) (p : Path) (leaf : Leaf Bytes) (f : FileMap Bytes) → IsHeldAs rs leaf.0 leaf.1 → AllByRecursion (λ e. IsHeldAs rs e.1.0 e.1.1) f → AllByRecursion (λ e. IsHeldAs rs e.1.0 e.1.1) (put path_cmp p leaf f)
held_with rs p leaf [] is h = (is, tt)
held_with rs p leaf (e ∷ es) is h = elim (path_cmp p e.0) as (λ o. AllByRecursion (λ e. IsHeldAs rs e.1.0 e.1.1) (by_order o ((p, leaf) ∷ e ∷ es) ((e.0, leaf) ∷ es) (e ∷ put path_cmp p leaf es))) [
  | Less ↦ (is, h)
  | Equal ↦ (is, h.1)
  | Greater ↦ (h.0, held_with rs p leaf es is h.1)
]

-- with a file more whose content is held
pub named_with : (rs : List Record) (p : Path) (leaf : Leaf Bytes) (f g : FileMap Bytes) → modified f p leaf ≡ Ok g → IsHeldAs rs leaf.0 leaf.1 → IsNamedMap rs f → IsNameMap g → IsNamedMap rs g
named_with rs [] leaf f g e is h m = absurd (cc)
named_with rs (c ∷ p) leaf f g e is h m =
    let same : put path_cmp (c ∷ p) leaf (without_line (c ∷ p) f) ≡ g = cc in
    record { file_map = m.file_map; files = m.files; names = m.names; held = subst (AllByRecursion (λ e. IsHeldAs rs e.1.0 e.1.1)) same (held_with rs (c ∷ p) leaf (without_line (c ∷ p) f) is (held_beside rs (c ∷ p) f h.held)) }

-- a file put at a path, or refused
pub named_after : {F : Type 0} (fault_of : F → Fault) (rs : List Record) (p : Path) (leaf : Leaf Bytes) (f g : FileMap Bytes) (answer : Result (Unit {0}) F) → Gives fault_of (λ _. g) answer (modified f p leaf) → OnErr answer (g ≡ f)
    → IsHeldAs rs leaf.0 leaf.1 → IsNamedMap rs f → IsNameMap g → IsNamedMap rs g
named_after fault_of rs p leaf f g (Ok x) gives same is h m = named_with rs p leaf f g gives is h m
named_after fault_of rs p leaf f g (Err e) gives same is h m = subst (IsNamedMap rs) (sym same) h
