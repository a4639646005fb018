-- What stands at a path of a held tree: what it shows, and that it is held.
use Rattle.std.proofs.Common.{◌≡◌, ◌%◌, refl, sym, ap, subst, ◌∙◌, append-nil, List, [], ◌∷◌, Option, None, Some, Result, Ok, Err}
use Rattle.std.specs.Prelude.{T, IfSome, IsTrue}
use Rattle.std.specs.Option.{option_map}
use Rattle.gx_model.specs.declared.faults.Fault.{Fault}
use Rattle.gx_model.specs.declared.faults.Fault.TheVariants as fault
use Rattle.gx_model.specs.declared.objects.Kind.{Kind}
use Rattle.gx_model.specs.declared.objects.Kind.TheVariants as kind
use Rattle.gx_model.specs.declared.objects.Mode.{Mode}
use Rattle.gx_model.specs.declared.objects.Mode.TheVariants.{File, Exec, Link, Gitlink, Dir}
use Rattle.gx_model.specs.Texts.{Bytes}
use Rattle.gx_model.specs.Texts.Digits.{is_name_text}
use Rattle.gx_model.specs.Texts.Paths.{Path}
use Rattle.gx_model.specs.Faults.{◌>>=◌}
use Rattle.gx_model.specs.Histories.{IsIn, Records}
use Rattle.gx_model.specs.Histories.Files.{FileMap, Leaf, file_at, sub_map}
use Rattle.gx_model.specs.Histories.Values.{Value, blob_value, is_leaf, tree_value}
use Rattle.gx_model.specs.Objects.{Entry, IsNamer, hex, is_name, unhex}
use Rattle.gx_model.specs.Objects.Naming.{lower_name_in}
use Rattle.gx_model.specs.Records.{content_name, kind_of, name_of, tree_name}
use Rattle.gx_model.specs.Records.HistoryOf.{history_of}
use Rattle.gx_model.specs.Records.Sound.{IsSound}
use Rattle.gx_model.specs.Records.Walks.{entry_at, entry_for, place_in, place_of, walked}
use Rattle.gx_model.specs.Revisions.Denotation.{Shown, all_suffixed, at_path, base_value, denoted, object, of_leaf, of_sub_map, shown_at, submodule}
use Rattle.gx_model.proofs.ObjectTexts.NameDigits.{hex_unhex, name_found}
use Rattle.gx_model.proofs.ObjectTexts.OneTree.{digits_of, forty}
use Rattle.gx_model.proofs.ObjectTexts.TreePaths.{entries_of, leaf_at}
use Rattle.gx_model.proofs.Records.GrownRecords.{distinct_of}
use Rattle.gx_model.proofs.Records.HeldTrees.{content}
use Rattle.gx_model.proofs.Records.HeldValues.{held_is, held_kind, kind_held, tree_stands, value_held}
use Rattle.gx_model.proofs.Records.HistoriesExist.{stands}
use Rattle.gx_model.proofs.Records.OneHistory.{told_by_name}
use Rattle.gx_model.proofs.Records.TreeWalks.{entry_of, walk_sound}
use Rattle.gx_model.proofs.Revisions.NamedByDigits.{digits_give}
use Rattle.gx_model.proofs.Revisions.ShownValues.{file_stands, held_value}
use Rattle.gx_model.proofs.Texts.PathTests.{is_true}
use Rattle.gx_object.specs.declared.name.Name.{Name}
use Rattle.gx_rev.specs.Answers.{IsNamed, shown_as, shown_by}
use Rattle.gx_objects.specs.declared.objects.Object.{Object as Held}
use Rattle.gx_rev.specs.Objects.{IsHeldAs, entries_at, files_at}
use Rattle.gx_rev.specs.Places.{IsHeldPlace, IsOfEntry, place_of_entry, shown_place}
use Rattle.gx_rev.specs.declared.shown.Shown.{Shown as Seen}
use Rattle.gx_rev.specs.declared.shown.Shown.TheVariants.{Object}
use Rattle.gx_questions.specs.Answers.{IfTold}
use Rattle.gx_questions.specs.Entries.{IsEntryIn}
use Rattle.gx_questions.specs.Objects.{IsObjectAt}
use Rattle.gx_questions.proofs.Found.{Sound, entries_written}

-- a gitlink's digits are those of its name
hex_again : (x : Bytes) → T (is_name_text x) → hex (unhex x) ≡ x
hex_again x h = hex_unhex x (ap (λ n. n % 2) (forty x h)) (is_true _ (digits_of x h))

-- and they write a name
name_again : (x : Bytes) → T (is_name_text x) → IsTrue (is_name (unhex x))
unfolding lower_name_in
name_again x h = (name_found x (unhex x) (rw (is_true _ h) refl)).1

module _ (name : Kind → Bytes → Bytes) (namer : IsNamer name) (r : Records) (sound : IsSound name r) where
  abbrev Stands : Value → Type 0
  Stands = IsIn (history_of r).values

  -- what stands at a path stands in the history, since a revision gives it: the tree's digits, and the path
  path_stands : (f : FileMap Bytes) (p : Path) (v : Value) → Stands (tree_value f) → at_path f p ≡ Ok (object v) → Stands v
  unfolding denoted
  path_stands f p v i e =
      let h = history_of r in
      let x = hex (tree_name name f) in
      let apart = told_by_name name namer h.values (distinct_of name namer r h (stands name namer r sound)) in
      let base : base_value name h x ≡ Ok (tree_value f) =
      ap (λ vs. base_value name (record { values = vs; refs = h.refs }) x) (sym (append-nil h.values)) ∙ digits_give name namer h.values [] h.refs (tree_value f) apart i in
      held_value name namer r sound (record { base = x; suffixes = []; path = Some p }) v (ap (λ g. g >>= λ v. all_suffixed v [] >>= λ w. shown_at w (Some p)) base ∙ e)

  -- ---- what is shown at a place

  -- this is shown, by a kind and a name that are those of what is held, or by a submodule's name
  abbrev pub IsShownAs : Result Shown Fault → Seen → Type 0
  IsShownAs shown seen = (shown ≡ Ok (shown_by r seen)) × IsNamed name r seen

  abbrev called : Bytes → Name
  called n = record { bytes = n }

  held_shown : (k : Kind) (v : Value) (n : Bytes) → Stands v → kind_of name v ≡ k → n ≡ name_of name v → IsShownAs (Ok (object v)) (Object k (called n))
  held_shown k v n i e s =
      let h = value_held name namer r sound k v n i e s in
      (ap (λ u. Ok (object u)) (sym h.1), (sym e ∙ ap (kind_of name) (sym h.1), s ∙ ap (name_of name) (sym h.1), (kind_held name namer r sound k n h.0).0))

  leaf_shown : (m : Mode) (x : Bytes) → ((v : Value) → of_leaf m x ≡ object v → Stands v) → T (is_leaf m x) → IsShownAs (Ok (of_leaf m x)) (shown_as m (called (content_name name m x)))
  leaf_shown File x s l = held_shown kind.Blob (blob_value x) (name kind.Blob x) (s (blob_value x) refl) refl refl
  leaf_shown Exec x s l = held_shown kind.Blob (blob_value x) (name kind.Blob x) (s (blob_value x) refl) refl refl
  leaf_shown Link x s l = held_shown kind.Blob (blob_value x) (name kind.Blob x) (s (blob_value x) refl) refl refl
  leaf_shown Gitlink x s l = (ap (λ y. Ok (submodule y)) (sym (hex_again x l)), name_again x l)
  leaf_shown Dir x s l = absurd l

  abbrev pub AtPlace : Option (Leaf Bytes) → Result Shown Fault → Type 0
  AtPlace None shown = shown ≡ Err fault.NoSuchPath
  AtPlace (Some place) shown = IsShownAs shown (shown_as place.0 (called place.1))

  at_place : (f : FileMap Bytes) (path : Path) → Stands (tree_value f) → AtPlace (place_in name f path) (at_path f path)
  at_place f [] i = held_shown kind.Tree (tree_value f) (tree_name name f) i refl refl
  at_place f (c ∷ p) i = by (file_at f (c ∷ p)) (sub_map f (c ∷ p)) refl refl
    where
      by : (o : Option (Leaf Bytes)) (g : FileMap Bytes) → file_at f (c ∷ p) ≡ o → sub_map f (c ∷ p) ≡ g → AtPlace (place_of name o g) (elim o [ Some x ↦ Ok (of_leaf x.0 x.1) | None ↦ of_sub_map g ])
      by (Some x) g k l = leaf_shown x.0 x.1 (λ v e. file_stands name namer (history_of r) (stands name namer r sound).history (distinct_of name namer r (history_of r) (stands name namer r sound)) f (c ∷ p) x.0 x.1 v i k e) (leaf_at name namer f (c ∷ p) x (content name namer r sound f i) k)
      by None [] k l = refl
      by None (x ∷ xs) k l =
          let here : at_path f (c ∷ p) ≡ Ok (object (tree_value (x ∷ xs))) =
          ap (λ (o : Option (Leaf Bytes)). elim o [ Some y ↦ Ok (of_leaf y.0 y.1) | None ↦ of_sub_map (sub_map f (c ∷ p)) ]) k ∙ ap of_sub_map l in
          held_shown kind.Tree (tree_value (x ∷ xs)) (tree_name name (x ∷ xs)) (path_stands f (c ∷ p) (tree_value (x ∷ xs)) i here) refl refl

  -- what a walk down a held tree gives
  walk_gives : (t : Bytes) (path : Path) (place : Option (Leaf Bytes)) → IsHeldAs kind.Tree r (called t) → place ≡ walked r.records t path → AtPlace place (at_path (files_at r (called t)) path)
  walk_gives t path place h e =
      let s = tree_stands name namer r sound t h in
      let v = held_is name namer r sound t (kind_held name namer r sound kind.Tree t h).0 in
      let f = files_at r (called t) in
      let named : t ≡ tree_name name f = sym v.named ∙ ap (name_of name) s.0 in
      let same : place ≡ place_in name f path = e ∙ ap (λ n. walked r.records n path) named ∙ walk_sound name namer r sound f s.1 path in
      subst (λ o. AtPlace o (at_path f path)) (sym same) (at_place f path s.1)

  -- ---- an entry of a held tree

  seen_held : (m : Mode) (n : Bytes) (shown : Result Shown Fault) → IsShownAs shown (shown_as m (called n)) → m ≡ Dir → IsHeldAs kind.Tree r (called n)
  seen_held File n shown s e = absurd (cc e)
  seen_held Exec n shown s e = absurd (cc e)
  seen_held Link n shown s e = absurd (cc e)
  seen_held Gitlink n shown s e = absurd (cc e)
  seen_held Dir n shown s e = held_kind name namer r sound kind.Tree n s.1.2 (sym s.1.0)

  -- a directory names a held tree
  place_held : (n c : Bytes) (found : Option (Mode × Name)) → IsHeldAs kind.Tree r (called n) → option_map shown_place found ≡ option_map place_of_entry (entry_at (entries_of name namer (files_at r (called n))) c) → IfSome found (IsHeldPlace r)
  place_held n c None h e = tt
  place_held n c (Some p) h e = by (place_in name f (c ∷ [])) (at_place f (c ∷ []) i) (e ∙ ap (option_map place_of_entry) (entry_of name namer f c (content name namer r sound f i)))
    where
      f : FileMap Bytes
      f = files_at r (called n)

      i : Stands (tree_value f)
      i = (tree_stands name namer r sound n h).1

      by : (o : Option (Leaf Bytes)) → AtPlace o (at_path f (c ∷ [])) → Some (shown_place p) ≡ option_map place_of_entry (entry_for name c o) → IsHeldPlace r p
      by None a e = absurd cc
      by (Some q) a e =
          let same : (p.0, p.1.bytes) ≡ q = cc e in
          λ d. subst (λ (z : Leaf Bytes). IsHeldAs kind.Tree r (called z.1)) (sym same) (seen_held q.0 q.1 (at_path f (c ∷ [])) a (sym (ap (λ (z : Leaf Bytes). z.0) same) ∙ d))

-- ---- of the repository that is told

module _ (name : Kind → Bytes → Bytes) (namer : IsNamer name) where
  -- what is found in the body of a held tree is of its entries, and a directory names a held tree
  module _ (told : Option Records) (n : Name) (o : Held) (c : Bytes) (found : Option (Mode × Name)) (sound : Sound name namer told) (held : IfTold told (IsHeldAs kind.Tree) n) (is : IfTold told (IsObjectAt name n) o) (here : IsEntryIn o.body.now c found) where
    pub entry_named : IfSome told (λ r. IsOfEntry (entry_at (entries_at r n) c) found)
    entry_named = by told sound held is
      where
        by : (told : Option Records) → Sound name namer told → IfTold told (IsHeldAs kind.Tree) n → IfTold told (IsObjectAt name n) o → IfSome told (λ r. IsOfEntry (entry_at (entries_at r n) c) found)
        by None s h f = tt
        by (Some r) s h f =
            let e = entries_written name namer r n o s h f in
            subst (λ z. IsOfEntry (entry_at z c) found) (sym e.named) (here (entries_of name namer (files_at r n)) e.text)

    pub entry_held : IfSome told (λ r. IfSome found (IsHeldPlace r))
    entry_held = by told sound held is
      where
        by : (told : Option Records) → Sound name namer told → IfTold told (IsHeldAs kind.Tree) n → IfTold told (IsObjectAt name n) o → IfSome told (λ r. IfSome found (IsHeldPlace r))
        by None s h f = tt
        by (Some r) s h f =
            let e = entries_written name namer r n o s h f in
            place_held name namer r s n.bytes c found h (here (entries_of name namer (files_at r n)) e.text)

  pub no_place : (told : Option Records) (t : Name) (path : Path) → Sound name namer told → IfTold told (IsHeldAs kind.Tree) t → IfSome told (λ r. None ≡ walked r.records t.bytes path) → IfSome told (λ r. at_path (files_at r t) path ≡ Err fault.NoSuchPath)
  no_place None t path s h e = tt
  no_place (Some r) t path s h e = walk_gives name namer r s t.bytes path None h e

  pub place_shown : (told : Option Records) (t : Name) (path : Path) (place : Mode × Name) → Sound name namer told → IfTold told (IsHeldAs kind.Tree) t → IfSome told (λ r. Some (shown_place place) ≡ walked r.records t.bytes path)
      → IfSome told (λ r. at_path (files_at r t) path ≡ Ok (shown_by r (shown_as place.0 place.1))) × IfTold told (IsNamed name) (shown_as place.0 place.1)
  place_shown None t path place s h e = (tt, tt)
  place_shown (Some r) t path place s h e = walk_gives name namer r s t.bytes path (Some (shown_place place)) h e
