-- What is told of a tree without the rooms of all records.
use Rattle.std.proofs.Common.{◌≡◌, ◌∙◌, Bool, true, false, cond, nat_eq, not, ◌&&◌, ◌||◌, List, [], ◌∷◌, ◌++◌, length, None, Some, is_some, option_map, refl, sym, ap, subst, append_assoc}
use Rattle.std.specs.List.{AllByRecursion, list_all, list_any}
use Rattle.gx_model.specs.declared.objects.Kind.{Kind}
use Rattle.gx_model.specs.declared.objects.Kind.TheVariants as kinds
use Rattle.gx_model.specs.declared.objects.Mode.{Mode}
use Rattle.gx_model.specs.declared.objects.Mode.TheVariants.{File, Exec, Link, Gitlink, Dir}
use Rattle.gx_model.specs.declared.store_faults.FileFault.TheVariants as model
use Rattle.gx_model.specs.Texts.{Bytes, same_bytes}
use Rattle.gx_model.specs.Texts.Paths.{is_short}
use Rattle.gx_model.specs.Objects.{Entry, IsNamer, is_dir}
use Rattle.gx_model.specs.Histories.{Record, object_of, record_for}
use Rattle.gx_model.specs.Records.HistoryOf.{files_of_entries, named_values}
use Rattle.gx_model.specs.Records.Growth.{record_named}
use Rattle.gx_model.specs.Records.RecordFaults.{content_fault, has_empty_directory, has_long_path, is_bad_below, is_without_entries, record_fault}
use Rattle.gx_model.specs.Records.Sound.{HasShortPaths, IsHeldAs, IsLinked, IsLinkedAfter, IsSound, IsTree}
use Rattle.gx_model.proofs.ObjectTexts.BodiesReadBack.{entries_read}
use Rattle.gx_model.proofs.Records.HeldObjects.{IsShown}
use Rattle.gx_model.proofs.Records.ShortPaths.{short_paths}
use Rattle.gx_model.proofs.Records.TakenRecords.{all_named}
use Rattle.gx_repo.specs.Records.{IsLinkedTree, IsRecordHeld}
use Rattle.gx_repo.proofs.AddedRecords.{against_record, duplicate}
use Rattle.gx_repo.proofs.ContentFaults.{bad_below, nothing_against}
use Rattle.gx_repo.proofs.HeldRecords.{some_left}

-- a tree with an entry that names one without entries
pub empty_fault : (rs : List Record) (r : Record) → IsLinkedTree rs r.kind r.body → has_empty_directory rs r.body ≡ true → record_fault rs r ≡ Some model.BadObject
empty_fault rs r linked e =
    against_record rs r model.BadObject (bad_below rs r.kind r.body linked.1 linked.2
    (subst (λ k. is_bad_below rs k r.body ≡ true) (sym linked.0) (ap (λ b. b || has_long_path rs r.body) e)))

-- ---- a tree that is held

-- what an entry names is held among more records
held_more : (xs ys : List Record) (m : Mode) (n : Bytes) → IsHeldAs xs m n → IsHeldAs (xs ++ ys) m n
held_more xs ys File n h = some_left (λ r. (r.kind ≡ kinds.Blob) × (r.name ≡ n)) xs ys h
held_more xs ys Exec n h = some_left (λ r. (r.kind ≡ kinds.Blob) × (r.name ≡ n)) xs ys h
held_more xs ys Link n h = some_left (λ r. (r.kind ≡ kinds.Blob) × (r.name ≡ n)) xs ys h
held_more xs ys Gitlink n h = tt
held_more xs ys Dir n h = some_left _ xs ys h

entries_more : (xs ys : List Record) (es : List Entry) → AllByRecursion (λ e. IsHeldAs xs e.mode e.name) es → AllByRecursion (λ e. IsHeldAs (xs ++ ys) e.mode e.name) es
entries_more xs ys [] h = tt
entries_more xs ys (e ∷ es) h = (held_more xs ys e.mode e.name h.0, entries_more xs ys es h.1)

-- the tree that a name finds has its links among all records
linked_named : (before rs : List Record) (n : Bytes) (r : Record) → IsLinkedAfter before rs → record_named rs n ≡ Some r → r.kind ≡ kinds.Tree → IsTree (before ++ rs) r.body
linked_named before [] n r h e k = absurd (cc)
linked_named before (x ∷ xs) n r h e k =
    elim (same_bytes n x.name) as (λ b. cond b (Some x) (record_named xs n) ≡ Some r → IsTree (before ++ x ∷ xs) r.body) [
      | true ↦ λ i.
          let s : x ≡ r = cc i in
          let its = subst (λ j. IsLinked before j r.body) k (subst (λ (z : Record). IsLinked before z.kind z.body) s h.0) in
          (its.0, its.1, entries_more before (x ∷ xs) its.0 its.2)
      | false ↦ λ i. subst (λ z. IsTree z r.body) (append_assoc before (x ∷ []) xs) (linked_named (before ++ x ∷ []) xs n r h.1 i k)
    ] e

module _ (name : Kind → Bytes → Bytes) (namer : IsNamer name) (rs : List Record) (sound : IsSound name (record { records = rs; refs = [] })) where
  tree_fine : (body : Bytes) → IsLinkedTree rs kinds.Tree body → has_empty_directory rs body ≡ false → IsRecordHeld rs (record_for name kinds.Tree body) → content_fault rs kinds.Tree body ≡ None
  tree_fine body linked full found =
      let r = record_for name kinds.Tree body in
      let its = linked_named [] rs r.name r sound.linked found refl in
      let short : list_all (λ x. is_short x.0) (files_of_entries (named_values rs) its.0) ≡ true =
      (short_paths name namer (record { records = rs; refs = [] }) sound its.0 body its.1 its.2).1 (all_named (HasShortPaths rs) rs r.name r sound.paths found) in
      let fits : has_long_path rs body ≡ false =
      subst (λ es. not (list_all (λ x. is_short x.0) (files_of_entries (named_values rs) es)) ≡ false) (sym (entries_read its.0 body its.1)) (ap not short) in
      nothing_against rs kinds.Tree body linked.1 linked.2 (λ i. (full i || fits i))

  -- a tree that is held is a duplicate, where none of its entries names one without entries
  pub held_fault : (k : Kind) (body : Bytes) → IsLinkedTree rs k body → has_empty_directory rs body ≡ false → IsRecordHeld rs (record_for name k body)
      → record_fault rs (record_for name k body) ≡ Some model.DuplicateObject
  held_fault kinds.Tree body linked full found = duplicate rs (record_for name kinds.Tree body) (tree_fine body linked full found) (ap is_some found)
  held_fault _ body linked full found = let other = linked.0 in absurd (cc)

-- ---- what the look for it finds

-- whether an entry names a tree without entries
abbrev pub names_empty : List Record → Entry → Bool
names_empty rs e = is_dir e.mode && is_without_entries (record_named rs e.name)

module _ {X : Type 0} (test : X → Bool) (all left : List X) where
  -- none of the elements before passes, nor does this one
  pub any_next : (x : X) (rest : List X) → left ≡ x ∷ rest → list_any test left ≡ list_any test all → test x ≡ false → list_any test rest ≡ list_any test all
  any_next x rest s h f = sym (ap (λ b. b || list_any test rest) f) ∙ sym (ap (list_any test) s) ∙ h

  -- this one does
  pub any_here : (x : X) (rest : List X) → left ≡ x ∷ rest → list_any test left ≡ list_any test all → test x ≡ true → true ≡ list_any test all
  any_here x rest s h t = sym (ap (λ b. b || list_any test rest) t) ∙ sym (ap (list_any test) s) ∙ h

  -- none is left
  pub any_end : left ≡ [] → list_any test left ≡ list_any test all → false ≡ list_any test all
  any_end s h = sym (ap (list_any test) s) ∙ h

-- the body that a look-up shows
pub without_entries : (rs : List Record) (n body : Bytes) (k : Kind) → IsShown rs n k body → nat_eq (length body) 0 ≡ is_without_entries (record_named rs n)
without_entries rs n body k h = ap (λ b. nat_eq (length b) 0) (sym h.of_body) ∙ ap is_without_entries (sym h.found)

module _ (name : Kind → Bytes → Bytes) (rs : List Record) (k : Kind) (body : Bytes) (n : Bytes) (named : n ≡ name k body) where
  -- what a look-up shows is this record
  pub shown_alike : (l : Kind) (bytes : Bytes) → IsShown rs n l bytes → (l ≡ k) × (bytes ≡ body) → IsRecordHeld rs (record_for name k body)
  shown_alike l bytes h same =
      ap (record_named rs) (sym named) ∙ h.found ∙ (λ i. Some (record { name = (h.named ∙ named) i; kind = (h.of_kind ∙ same.0) i; body = (h.of_body ∙ same.1) i }))

  -- or another
  pub shown_other : (l : Kind) (bytes : Bytes) → IsShown rs n l bytes → ((l ≡ k) × (bytes ≡ body) → ⊥) → IsRecordHeld rs (record_for name k body) → ⊥
  shown_other l bytes h other held =
      let found : record_named rs n ≡ Some (record_for name k body) = ap (record_named rs) named ∙ held in
      let both : Some h.held ≡ Some (record_for name k body) = sym h.found ∙ found in
      let one : h.held ≡ record_for name k body = cc in
      other (sym h.of_kind ∙ ap (λ (r : Record). r.kind) one, sym h.of_body ∙ ap (λ (r : Record). r.body) one)

  -- or none
  pub shown_none : None ≡ option_map object_of (record_named rs n) → IsRecordHeld rs (record_for name k body) → ⊥
  shown_none none held =
      let found : record_named rs n ≡ Some (record_for name k body) = ap (record_named rs) named ∙ held in
      let clash : None ≡ Some (object_of (record_for name k body)) = none ∙ ap (option_map object_of) found in
      absurd (cc)
