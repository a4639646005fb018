-- What stands at a path of a tree, by the mode and the name that a walk gives.
use Rattle.std.proofs.Common.{◌≡◌, ◌%◌, refl, sym, ap, subst, ◌∙◌, [], ◌∷◌, map, Option, None, Some, Result, Ok, Err}
use Rattle.std.specs.Prelude.{T, IfSome, IsTrue}
use Rattle.gx_model.specs.declared.faults.Fault.{Fault}
use Rattle.gx_model.specs.declared.faults.Fault.TheVariants as fault
use Rattle.gx_model.specs.declared.objects.Kind.{Kind}
use Rattle.gx_model.specs.declared.objects.Kind.TheVariants as kind
use Rattle.gx_model.specs.declared.objects.Mode.{Mode}
use Rattle.gx_model.specs.declared.objects.Mode.TheVariants.{File, Exec, Link, Gitlink, Dir}
use Rattle.gx_model.specs.Texts.{Bytes}
use Rattle.gx_model.specs.Texts.Paths.{Path}
use Rattle.gx_model.specs.Histories.Files.{FileMap, Leaf, file_at, sub_map}
use Rattle.gx_model.specs.Histories.Values.{Value, blob_of, blob_value, blobs_of, is_content, is_leaf, sub_maps, tree_value}
use Rattle.gx_model.specs.Texts.Digits.{is_name_text}
use Rattle.gx_model.specs.Objects.{IsNamer, hex, is_name, unhex}
use Rattle.gx_model.specs.Objects.Naming.{lower_name_in}
use Rattle.gx_model.specs.Records.{content_name, kind_of, name_of, tree_name}
use Rattle.gx_model.specs.Histories.{AreDistinct, IsIn, Records}
use Rattle.gx_model.specs.Records.HistoryOf.{bytes_of_blob, files_of_tree, history_of, value_of_name}
use Rattle.gx_model.specs.Records.RecordFaults.{is_held}
use Rattle.gx_model.specs.Records.Sound.{IsSound}
use Rattle.gx_model.specs.Records.Walks.{place_in, place_of, walked}
use Rattle.gx_model.specs.Revisions.Denotation.{Shown, at_path, file_shown, object, of_file, of_leaf, of_sub_map, submodule}
use Rattle.gx_model.proofs.Records.OneHistory.{told_by_name}
use Rattle.gx_model.proofs.ObjectTexts.OneTree.{all_left, digits_of, forty, found_known, only_file}
use Rattle.gx_model.proofs.Records.LinkedValues.{parts_in}
use Rattle.gx_model.proofs.Records.GrownRecords.{distinct_of}
use Rattle.gx_model.proofs.Records.HistoriesExist.{stands}
use Rattle.gx_model.proofs.Texts.PathTests.{is_true}
use Rattle.gx_model.proofs.ObjectTexts.RebuiltValues.{has_some}
use Rattle.gx_model.proofs.ObjectTexts.TreePaths.{content_in, content_parts, file_sub, leaf_at, sub_in}
use Rattle.gx_model.proofs.Records.TreeWalks.{some_sub, sub_sub, walk_sound}
use Rattle.gx_model.proofs.ObjectTexts.NameDigits.{hex_unhex, name_found}
use Rattle.gx_rev.specs.Answers.{IsNamed, file_of, shown_as, shown_by}
use Rattle.gx_model.proofs.Records.HeldValues.{all_whole, held_is, kind_held, tree_stands, value_held}

-- a gitlink's digits are those of its name
hex_again : (x : Bytes) → T (is_name_text x) → hex (unhex x) ≡ x
hex_again x h = hex_unhex x (ap (λ n. n % 2) (forty x h)) (is_true _ (digits_of x h))

-- and they write a name
name_again : (x : Bytes) → T (is_name_text x) → IsTrue (is_name (unhex x))
unfolding lower_name_in
name_again x h = (name_found x (unhex x) (rw (is_true _ h) refl)).1

sub_root : (f : FileMap Bytes) → sub_map f [] ≡ f
sub_root [] = refl
sub_root (e ∷ es) = ap (λ fs. e ∷ fs) (sub_root es)

some_above : (g : FileMap Bytes) (p : Path) → T (has_some (sub_map g p)) → T (has_some g)
some_above [] p s = s
some_above (e ∷ es) p s = tt

module _ (name : Kind → Bytes → Bytes) (namer : IsNamer name) (r : Records) (sound : IsSound name r) where
  abbrev Stands : Value → Type 0
  Stands = IsIn (history_of r).values

  abbrev Files : Bytes → FileMap Bytes
  Files n = files_of_tree (value_of_name r.records n)

  apart : AreDistinct (map (name_of name) (history_of r).values)
  apart = distinct_of name namer r (history_of r) (stands name namer r sound)

  content : (f : FileMap Bytes) → Stands (tree_value f) → T (is_content f)
  content f i = content_in name namer (history_of r).values (all_whole name namer r sound) apart f i

  -- a sub-map that isn't empty stands in the history
  sub_map_stands : (p : Path) (f : FileMap Bytes) → Stands (tree_value f) → file_at f p ≡ None → T (has_some (sub_map f p)) → Stands (tree_value (sub_map f p))
  sub_map_stands [] f i n s = subst (λ g. Stands (tree_value g)) (sym (sub_root f)) i
  sub_map_stands (c ∷ p) f i n s = by (file_at f (c ∷ [])) refl (λ g j m k. sub_map_stands p g j m k)
    where
      file_above : (q : Path) (x : Leaf Bytes) → file_at f (c ∷ []) ≡ Some x → file_at f (c ∷ q) ≡ None → T (has_some (sub_map f (c ∷ q))) → ⊥
      file_above [] x e m k = let l : Some x ≡ None = sym e ∙ m in cc
      file_above (d ∷ q) x e m k = subst (λ g. T (has_some g)) (sub_sub c (d ∷ q) f ∙ ap (λ g. sub_map g (d ∷ q)) (only_file c f x (content_parts f (content f i)).apart e)) k

      by : (o : Option (Leaf Bytes)) → file_at f (c ∷ []) ≡ o → ((g : FileMap Bytes) → Stands (tree_value g) → file_at g p ≡ None → T (has_some (sub_map g p)) → Stands (tree_value (sub_map g p))) → Stands (tree_value (sub_map f (c ∷ p)))
      by (Some x) e rec = absurd (file_above p x e n s)
      by None e rec =
          let g = sub_map f (c ∷ []) in
          let k : T (has_some (sub_map g p)) = subst (λ fs. T (has_some fs)) (sub_sub c p f) s in
          let j = sub_in name namer (history_of r).values (all_whole name namer r sound) apart f c i (some_sub name namer c f (some_above g p k)) e in
          subst (λ fs. Stands (tree_value fs)) (sym (sub_sub c p f)) (rec g j (file_sub c p f ∙ n) k)

  -- the bytes of a file stand in the history
  blob_stands : (f : FileMap Bytes) (p : Path) (x : Leaf Bytes) → Stands (tree_value f) → file_at f p ≡ Some x → IfSome (blob_of x.0 x.1) Stands
  blob_stands f p x i e =
      let known = found_known name namer Stands (told_by_name name namer (history_of r).values apart) f p (all_left Stands (blobs_of f) (map tree_value (sub_maps f)) (parts_in (history_of r).values (tree_value f) (all_whole name namer r sound) i)) in
      subst (λ (o : Option (Leaf Bytes)). IfSome o (λ y. IfSome (blob_of y.0 y.1) Stands)) e known

  -- ---- what is shown

  -- a place, what is shown there, and the file there
  pub record IsAt (m : Mode) (n : Bytes) (shown : Result Shown Fault) (file : Result (Leaf Bytes) Fault) : Type 0 where
    pub shown_is : shown ≡ Ok (shown_by r (shown_as m (record { bytes = n })))
    pub named : IsNamed name r (shown_as m (record { bytes = n }))
    pub file_is : file ≡ file_of r m (record { bytes = n })

  abbrev pub AtPlace : Option (Leaf Bytes) → Result Shown Fault → Result (Leaf Bytes) Fault → Type 0
  AtPlace None shown file = (shown ≡ Err fault.NoSuchPath) × (file ≡ Err fault.NoSuchPath)
  AtPlace (Some place) shown file = IsAt place.0 place.1 shown file

  tree_at : (f : FileMap Bytes) (n : Bytes) → Stands (tree_value f) → n ≡ tree_name name f → IsAt Dir n (Ok (object (tree_value f))) (Err fault.WrongKind)
  tree_at f n i e =
      let h = value_held name namer r sound kind.Tree (tree_value f) n i refl e in
      record {
        shown_is = ap (λ v. Ok (object v)) (sym h.1);
        named = (ap (kind_of name) (sym h.1), e ∙ ap (name_of name) (sym h.1), (kind_held name namer r sound kind.Tree n h.0).0);
        file_is = refl;
      }

  leaf_shown : (m : Mode) (x : Bytes) → IfSome (blob_of m x) Stands → T (is_leaf m x) → IsAt m (content_name name m x) (Ok (of_leaf m x)) (Ok (m, x))
  leaf_shown Gitlink x j l = record { shown_is = ap (λ y. Ok (submodule y)) (sym (hex_again x l)); named = name_again x l; file_is = ap (λ y. Ok (Gitlink, y)) (sym (hex_again x l)) }
  leaf_shown Dir x j l = absurd l
  leaf_shown File x j l = let h = value_held name namer r sound kind.Blob (blob_value x) (name kind.Blob x) j refl refl in record {
    shown_is = ap (λ v. Ok (object v)) (sym h.1);
    named = (ap (kind_of name) (sym h.1), ap (name_of name) (sym h.1), (kind_held name namer r sound kind.Blob (name kind.Blob x) h.0).0);
    file_is = ap (λ v. Ok (File, bytes_of_blob v)) (sym h.1);
  }
  leaf_shown Exec x j l = let h = value_held name namer r sound kind.Blob (blob_value x) (name kind.Blob x) j refl refl in record {
    shown_is = ap (λ v. Ok (object v)) (sym h.1);
    named = (ap (kind_of name) (sym h.1), ap (name_of name) (sym h.1), (kind_held name namer r sound kind.Blob (name kind.Blob x) h.0).0);
    file_is = ap (λ v. Ok (Exec, bytes_of_blob v)) (sym h.1);
  }
  leaf_shown Link x j l = let h = value_held name namer r sound kind.Blob (blob_value x) (name kind.Blob x) j refl refl in record {
    shown_is = ap (λ v. Ok (object v)) (sym h.1);
    named = (ap (kind_of name) (sym h.1), ap (name_of name) (sym h.1), (kind_held name namer r sound kind.Blob (name kind.Blob x) h.0).0);
    file_is = ap (λ v. Ok (Link, bytes_of_blob v)) (sym h.1);
  }

  at_place : (f : FileMap Bytes) (path : Path) → Stands (tree_value f) → AtPlace (place_in name f path) (at_path f path) (file_shown f path)
  at_place f [] i = tree_at f (tree_name name f) i refl
  at_place f (c ∷ p) i = by (file_at f (c ∷ p)) (sub_map f (c ∷ p)) refl refl
    where
      by : (o : Option (Leaf Bytes)) (g : FileMap Bytes) → file_at f (c ∷ p) ≡ o → sub_map f (c ∷ p) ≡ g → AtPlace (place_of name o g) (elim o [ Some x ↦ Ok (of_leaf x.0 x.1) | None ↦ of_sub_map g ]) (of_file o g)
      by (Some x) g k l = leaf_shown x.0 x.1 (blob_stands f (c ∷ p) x i k) (leaf_at name namer f (c ∷ p) x (content f i) k)
      by None [] k l = (refl, refl)
      by None (x ∷ xs) k l =
          let j = sub_map_stands (c ∷ p) f i k (subst (λ g. T (has_some g)) (sym l) tt) in
          tree_at (x ∷ xs) (tree_name name (x ∷ xs)) (subst (λ g. Stands (tree_value g)) l j) refl

  -- what a walk down a held tree gives tells what is shown, and the file
  pub walk_shown : (t : Bytes) (path : Path) (place : Option (Leaf Bytes)) → IsTrue (is_held r.records kind.Tree t) → place ≡ walked r.records t path → AtPlace place (at_path (Files t) path) (file_shown (Files t) path)
  walk_shown t path place h e =
      let s = tree_stands name namer r sound t h in
      let v = held_is name namer r sound t (kind_held name namer r sound kind.Tree t h).0 in
      let called : t ≡ tree_name name (Files t) = sym v.named ∙ ap (name_of name) s.0 in
      let same : place ≡ place_in name (Files t) path = e ∙ ap (λ n. walked r.records n path) called ∙ walk_sound name namer r sound (Files t) s.1 path in
      subst (λ o. AtPlace o (at_path (Files t) path) (file_shown (Files t) path)) (sym same) (at_place (Files t) path s.1)
