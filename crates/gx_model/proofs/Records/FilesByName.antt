-- A map of names whose files' bytes stand in the history gives these files, and its blobs are held.
use Rattle.std.proofs.Common.{◌≡◌, ◌%◌, List, [], ◌∷◌, Option, Some, None, refl, sym, ap, subst, ◌∙◌}
use Rattle.std.specs.Prelude.{T, IfSome}
use Rattle.std.specs.Bool.{passes}
use Rattle.std.specs.List.{AllByRecursion, cons_option, list_all}
use Rattle.gx_model.specs.declared.objects.Kind.{Kind}
use Rattle.gx_model.specs.declared.objects.Mode.{Mode}
use Rattle.gx_model.specs.declared.objects.Mode.TheVariants.{File, Exec, Link, Gitlink, Dir}
use Rattle.gx_model.specs.Texts.{Bytes}
use Rattle.gx_model.specs.Histories.Files.{FileMap, is_file_map}
use Rattle.gx_model.specs.Histories.Values.{Value, blob_of, blob_value, blobs_of, is_leaf}
use Rattle.gx_model.specs.Objects.{IsNamer}
use Rattle.gx_model.specs.Records.{content_name, named_map}
use Rattle.gx_model.specs.Histories.{IsIn, Records}
use Rattle.gx_model.specs.Records.HistoryOf.{bytes_of_blob, content_of, contents_of, history_of, named_values}
use Rattle.gx_model.specs.Objects.NameMaps.{AreFiles}
use Rattle.gx_model.specs.Records.Sound.{IsHeldAs, IsNamedMap, IsSound}
use Rattle.gx_model.proofs.Texts.PathTests.{first, is_true, second}
use Rattle.gx_model.proofs.ObjectTexts.OneTree.{digits_of, forty}
use Rattle.gx_model.proofs.Records.HeldNames.{value_found}
use Rattle.gx_model.proofs.Records.HeldTrees.{name_map}
use Rattle.gx_model.proofs.Records.HeldValues.{value_holds}
use Rattle.gx_model.proofs.ObjectTexts.NameDigits.{hex_unhex}

known_parts : (P : Value → Type 0) (o : Option Value) (vs : List Value) → AllByRecursion P (cons_option o vs) → IfSome o P × AllByRecursion P vs
known_parts P None vs h = (tt, h)
known_parts P (Some v) vs h = h

module _ (name : Kind → Bytes → Bytes) (namer : IsNamer name) (r : Records) (sound : IsSound name r) where
  leaf_told : (m : Mode) (x : Bytes) → T (is_leaf m x) → IfSome (blob_of m x) (IsIn (history_of r).values) → content_of (named_values r.records) m (content_name name m x) ≡ x
  leaf_told File x l k = ap bytes_of_blob (value_found name namer r sound (blob_value x) k).1
  leaf_told Exec x l k = ap bytes_of_blob (value_found name namer r sound (blob_value x) k).1
  leaf_told Link x l k = ap bytes_of_blob (value_found name namer r sound (blob_value x) k).1
  leaf_told Gitlink x l k = hex_unhex x (ap (λ n. n % 2) (forty x l)) (is_true _ (digits_of x l))
  leaf_told Dir x l k = absurd l

  leaf_held : (m : Mode) (x : Bytes) → T (is_leaf m x) → IfSome (blob_of m x) (IsIn (history_of r).values) → IsHeldAs r.records m (content_name name m x)
  leaf_held File x l k = value_holds name namer r sound (blob_value x) k
  leaf_held Exec x l k = value_holds name namer r sound (blob_value x) k
  leaf_held Link x l k = value_holds name namer r sound (blob_value x) k
  leaf_held Gitlink x l k = tt
  leaf_held Dir x l k = absurd l

  leaves_told : (f : FileMap Bytes) → T (list_all (λ e. is_leaf e.1.0 e.1.1) f) → AllByRecursion (IsIn (history_of r).values) (blobs_of f) → contents_of (named_values r.records) (named_map name f) ≡ f
  leaves_told [] l k = refl
  leaves_told (e ∷ es) l k =
      let p = known_parts (IsIn (history_of r).values) (blob_of e.1.0 e.1.1) (blobs_of es) k in
      let one = leaf_told e.1.0 e.1.1 (first _ _ l) p.0 in
      let rest = leaves_told es (second (is_leaf e.1.0 e.1.1) _ l) p.1 in
      λ i. (e.0, (e.1.0, one i)) ∷ rest i

  leaves_held : (f : FileMap Bytes) → T (list_all (λ e. is_leaf e.1.0 e.1.1) f) → AllByRecursion (IsIn (history_of r).values) (blobs_of f) → AllByRecursion (λ e. IsHeldAs r.records e.1.0 e.1.1) (named_map name f)
  leaves_held [] l k = tt
  leaves_held (e ∷ es) l k =
      let p = known_parts (IsIn (history_of r).values) (blob_of e.1.0 e.1.1) (blobs_of es) k in
      (leaf_held e.1.0 e.1.1 (first _ _ l) p.0, leaves_held es (second (is_leaf e.1.0 e.1.1) _ l) p.1)

  module _ (f names : FileMap Bytes) (h : AreFiles name (history_of r).values f names) where
    leaves : T (list_all (λ e. is_leaf e.1.0 e.1.1) f)
    leaves = second (is_file_map f) _ (passes _ h.content)

    -- the files that the names give
    pub contents_told : contents_of (named_values r.records) names ≡ f
    contents_told = ap (contents_of (named_values r.records)) h.named ∙ leaves_told f leaves h.known

    -- their names may be added as trees
    pub files_named : IsNamedMap r.records names
    files_named =
        let m = name_map name namer f (passes _ h.content) in
        subst (IsNamedMap r.records) (sym h.named) (record { file_map = m.file_map; files = m.files; names = m.names; held = leaves_held f leaves h.known })
