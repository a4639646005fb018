-- What a name gives in a sound repository.
use Rattle.std.proofs.Common.{◌≡◌, true, false, cond, refl, sym, ap, subst, ◌∙◌, List, [], ◌∷◌, map, Option, None, Some, inl, inr}
use Rattle.std.specs.Prelude.{T, not, ◌&&◌, ◌≢◌, IsTrue, IfSome}
use Rattle.std.specs.List.{list_all, AllByRecursion, cons_option}
use Rattle.std.specs.Bool.{passes}
use Rattle.std.specs.Ordering.{nat_cmp, is_lt}
use Rattle.std.specs.Cmp.Lexicographic.{slice_cmp}
use Rattle.std.specs.FinMap.Entries.{is_sorted, below_all}
use Rattle.gx_model.specs.declared.objects.Kind.{Kind}
use Rattle.gx_model.specs.declared.objects.Kind.TheVariants as kind
use Rattle.gx_model.specs.declared.objects.Mode.{Mode}
use Rattle.gx_model.specs.declared.objects.Mode.TheVariants.{File, Exec, Link, Gitlink, Dir}
use Rattle.gx_model.specs.Texts.{same_bytes, Bytes}
use Rattle.gx_model.specs.Texts.Paths.{Path, path_cmp, are_in_line, is_file_path}
use Rattle.gx_model.specs.Histories.Files.{FileMap, are_apart, are_file_paths, is_file_map}
use Rattle.gx_model.specs.Histories.Values.{Value, blob_value, tree_value, commit_value, tag_value, blob_of, blobs_of, is_leaf, is_content, is_proper, parts}
use Rattle.gx_model.specs.Texts.RefNames.{is_ref_name}
use Rattle.gx_model.specs.Objects.{TagParts, IsTagText, IsNamer, is_name}
use Rattle.gx_model.specs.Records.{commit_body, kind_of, name_of, content_name, named_map}
use Rattle.gx_model.specs.Histories.{Record, Records, AreDistinct, IsIn, record_of, StandsFor}
use Rattle.gx_model.specs.Records.Sound.{AnyByRecursion, IsHeldAs, IsLinked, HasShortPaths, IsTarget, IsSound, IsNamedMap}
use Rattle.gx_model.specs.Records.HistoryOf.{Named, value_in, named_values, value_named, value_of_name, content_of, contents_of, history_of}
use Rattle.gx_model.specs.Records.Growth.{record_named}
use Rattle.gx_model.proofs.Texts.PathTests.{both, first, second, is_true, same_is}
use Rattle.gx_model.proofs.Records.OneHistory.{told_by_name, no_other}
use Rattle.gx_model.proofs.ObjectTexts.BodiesReadBack.{unhex_hex, bytes_name}
use Rattle.gx_model.proofs.Records.LinkedValues.{proper_in, named, found, is_blob, holds}
use Rattle.gx_model.proofs.Records.HistoriesExist.{tag_text_is, stands, named_is}
use Rattle.gx_model.proofs.Records.ReadRecords.{hex_text, is_read}
use Rattle.gx_model.proofs.Records.GrownRecords.{Lookup, looked_up, whole_of, distinct_of}

module _ (name : Kind → Bytes → Bytes) (namer : IsNamer name) where
  lookup_is : (vs : List Value) (n : Bytes) (w : Value) → record_named (map (record_of name) vs) n ≡ Some (record_of name w) → AnyByRecursion (λ r. (r.name ≡ n) × (r ≡ record_of name w)) (map (record_of name) vs)
  lookup_is [] n w h = absurd (cc)
  lookup_is (v ∷ vs) n w h =
      elim (same_bytes n (name_of name v)) as (λ b. same_bytes n (name_of name v) ≡ b → cond b (Some (record_of name v)) (record_named (map (record_of name) vs) n) ≡ Some (record_of name w) → AnyByRecursion (λ r. (r.name ≡ n) × (r ≡ record_of name w)) (map (record_of name) (v ∷ vs))) [
        | true ↦ λ k i. let e : record_of name v ≡ record_of name w = cc i in inl (sym (same_is n (name_of name v) (passes _ k)), e)
        | false ↦ λ k i. inr (lookup_is vs n w i)
      ] refl h

  -- the record of a name is that of its value
  pub finds : (r : Records) → IsSound name r → (n : Bytes) (s : Record) → record_named r.records n ≡ Some s → IsIn (history_of r).values (value_of_name r.records n) × (record_of name (value_of_name r.records n) ≡ s)
  finds r i n s e =
      let t = stands name namer r i in
      let vs = (history_of r).values in
      let d = distinct_of name namer r (history_of r) t in
      let k = named_is name namer r i in
      by (looked_up name namer vs n) t d k
    where
      by : Lookup name namer (history_of r).values n → StandsFor name r (history_of r) → AreDistinct (map (name_of name) (history_of r).values) → named_values r.records ≡ named name (history_of r).values
          → IsIn (history_of r).values (value_of_name r.records n) × (record_of name (value_of_name r.records n) ≡ s)
      by (inl q) t d k = absurd (let l : None ≡ Some s = sym q.1 ∙ ap (λ z. record_named z n) (sym t.records) ∙ e in (cc))
      by (inr q) t d k =
          let f = found name namer (λ z. (z.name ≡ n) × (z ≡ record_of name q.0)) n (λ z p. p.0) (history_of r).values d (lookup_is (history_of r).values n q.0 q.4) in
          let l : Some (record_of name q.0) ≡ Some s = sym q.4 ∙ ap (λ z. record_named z n) (sym t.records) ∙ e in
          let m : record_of name q.0 ≡ s = cc l in
          subst (λ ks. IsIn (history_of r).values (value_named ks n) × (record_of name (value_named ks n) ≡ s)) (sym k) (f.0, f.1.1 ∙ m)

  -- a value's name finds its record, and the value
  pub value_found : (r : Records) → IsSound name r → (v : Value) → IsIn (history_of r).values v → (record_named r.records (name_of name v) ≡ Some (record_of name v)) × (value_of_name r.records (name_of name v) ≡ v)
  value_found r i v j =
      let t = stands name namer r i in
      let d = distinct_of name namer r (history_of r) t in
      by t d (looked_up name namer (history_of r).values (name_of name v))
    where
      by : StandsFor name r (history_of r) → AreDistinct (map (name_of name) (history_of r).values) → Lookup name namer (history_of r).values (name_of name v) → (record_named r.records (name_of name v) ≡ Some (record_of name v)) × (value_of_name r.records (name_of name v) ≡ v)
      by t d (inl q) = absurd (no_other name namer (name_of name v) (history_of r).values v q.0 j refl)
      by t d (inr q) =
          let w = told_by_name name namer (history_of r).values d q.0 v q.1 j q.2 in
          let e : record_named r.records (name_of name v) ≡ Some (record_of name v) = ap (λ z. record_named z (name_of name v)) t.records ∙ q.4 ∙ ap (λ u. Some (record_of name u)) w in
          let f = finds r i (name_of name v) (record_of name v) e in
          (e, told_by_name name namer (history_of r).values d (value_of_name r.records (name_of name v)) v f.0 j (ap (λ z. z.name) f.1))

  -- ---- a body whose links are held

  -- the value is proper, its parts stand, and this is its record
  pub record IsLinkedValue (r : Records) (k : Kind) (body : Bytes) (v : Value) : Type 0 where
    pub proper : IsTrue (is_proper v)
    pub known : AllByRecursion (IsIn (history_of r).values) (parts v)
    pub recorded : record_of name v ≡ record { name = name k body; kind = k; body = body }

  -- a canonical body whose links are held is that of a value whose parts stand
  pub linked_value : (r : Records) → IsSound name r → (k : Kind) (body : Bytes) → IsLinked r.records k body → HasShortPaths r.records (record { name = name k body; kind = k; body = body }) → IsLinkedValue r k body (value_in (named_values r.records) k body)
  linked_value r i k body l s =
      let t = stands name namer r i in
      let vs = (history_of r).values in
      let q = is_read name namer vs (whole_of name namer (history_of r) t.history) (distinct_of name namer r (history_of r) t) r.records
      (λ P v j p. subst (AnyByRecursion P) (sym t.records) (holds name P vs v j p)) k body (subst (λ rs. IsLinked rs k body) t.records l) (λ es p e x h. passes _ (s es p e x h)) in
      subst (λ ks. IsLinkedValue r k body (value_in ks k body)) (sym (named_is name namer r i))
      (record { proper = is_true _ q.proper; known = q.known; recorded = λ z. record { name = name (q.same_kind z) (q.same_body z); kind = q.same_kind z; body = q.same_body z } })

  -- ---- refs

  -- other sound refs leave the repository sound, and its values as they are
  pub published : (r : Records) → IsSound name r → (refs : List (Bytes × Bytes)) → IsTrue (is_sorted (slice_cmp nat_cmp) refs) → IsTrue (list_all (λ x. is_ref_name x.0) refs) → AllByRecursion (λ x. IsTarget r.records x.0 x.1) refs
      → IsSound name (record { records = r.records; refs = refs }) × ((history_of (record { records = r.records; refs = refs })).values ≡ (history_of r).values)
  published r i refs s n h = (record { named = i.named; distinct = i.distinct; linked = i.linked; paths = i.paths; sorted = s; ref_names = n; held = h }, refl)

  -- ---- maps of names

  module _ (ks : Named) where
    paths_kept : (g : FileMap Bytes) → T (are_file_paths g) → T (are_file_paths (contents_of ks g))
    paths_kept [] h = tt
    paths_kept (e ∷ es) h = both _ _ (first _ _ h) (paths_kept es (second (is_file_path e.0) (are_file_paths es) h))

    line_kept : (p : Path) (g : FileMap Bytes) → T (list_all (λ f. not (are_in_line p f.0)) g) → T (list_all (λ f. not (are_in_line p f.0)) (contents_of ks g))
    line_kept p [] h = tt
    line_kept p (e ∷ es) h = both _ _ (first _ _ h) (line_kept p es (second (not (are_in_line p e.0)) _ h))

    apart_kept : (g : FileMap Bytes) → T (are_apart g) → T (are_apart (contents_of ks g))
    apart_kept [] h = tt
    apart_kept (e ∷ es) h = both _ _ (line_kept e.0 es (first _ _ h)) (apart_kept es (second (list_all (λ f. not (are_in_line e.0 f.0)) es) _ h))

    below_kept : (p : Path) (g : FileMap Bytes) → T (below_all path_cmp p g) → T (below_all path_cmp p (contents_of ks g))
    below_kept p [] h = tt
    below_kept p (e ∷ es) h = both _ _ (first _ _ h) (below_kept p es (second (is_lt (path_cmp p e.0)) (below_all path_cmp p es) h))

    sorted_kept : (g : FileMap Bytes) → T (is_sorted path_cmp g) → T (is_sorted path_cmp (contents_of ks g))
    sorted_kept [] h = tt
    sorted_kept (e ∷ es) h = both _ _ (below_kept e.0 es (first _ _ h)) (sorted_kept es (second (below_all path_cmp e.0 es) (is_sorted path_cmp es) h))

    map_kept : (g : FileMap Bytes) → T (is_file_map g) → T (is_file_map (contents_of ks g))
    map_kept g h =
        let a = first (are_file_paths g && are_apart g) (is_sorted path_cmp g) h in
        both _ _ (both _ _ (paths_kept g (first (are_file_paths g) (are_apart g) a)) (apart_kept g (second (are_file_paths g) (are_apart g) a))) (sorted_kept g (second (are_file_paths g && are_apart g) (is_sorted path_cmp g) h))

  -- a name is that of this content, which stands
  pub record IsContentOf (vs : List Value) (m : Mode) (n : Bytes) (x : Bytes) : Type 0 where
    pub leaf : T (is_leaf m x)
    pub same : content_name name m x ≡ n
    pub known : IfSome (blob_of m x) (IsIn vs)

  is_content_of : (vs : List Value) → AreDistinct (map (name_of name) vs) → (m : Mode) (n : Bytes) → m ≢ Dir → T (is_name n) → IsHeldAs (map (record_of name) vs) m n → IsContentOf vs m n (content_of (named name vs) m n)
  is_content_of vs d File n k i h =
      let f = found name namer (λ r. (r.kind ≡ kind.Blob) × (r.name ≡ n)) n (λ r q. q.1) vs d h in
      let e = is_blob name (value_named (named name vs) n) f.1.0 in
      record { leaf = tt; same = ap (name_of name) (sym e) ∙ f.1.1; known = subst (IsIn vs) e f.0 }
  is_content_of vs d Exec n k i h =
      let f = found name namer (λ r. (r.kind ≡ kind.Blob) × (r.name ≡ n)) n (λ r q. q.1) vs d h in
      let e = is_blob name (value_named (named name vs) n) f.1.0 in
      record { leaf = tt; same = ap (name_of name) (sym e) ∙ f.1.1; known = subst (IsIn vs) e f.0 }
  is_content_of vs d Link n k i h =
      let f = found name namer (λ r. (r.kind ≡ kind.Blob) × (r.name ≡ n)) n (λ r q. q.1) vs d h in
      let e = is_blob name (value_named (named name vs) n) f.1.0 in
      record { leaf = tt; same = ap (name_of name) (sym e) ∙ f.1.1; known = subst (IsIn vs) e f.0 }
  is_content_of vs d Gitlink n k i h = record { leaf = hex_text n i; same = unhex_hex n (bytes_name n i); known = tt }
  is_content_of vs d Dir n k i h = absurd (k refl)

  -- names are those of these contents, which stand
  pub record AreContents (vs : List Value) (g f : FileMap Bytes) : Type 0 where
    pub leaves : T (list_all (λ e. is_leaf e.1.0 e.1.1) f)
    pub same : named_map name f ≡ g
    pub known : AllByRecursion (IsIn vs) (blobs_of f)

  are_contents : (vs : List Value) → AreDistinct (map (name_of name) vs) → (g : FileMap Bytes) → AllByRecursion (λ e. e.1.0 ≢ Dir) g → T (list_all (λ e. is_name e.1.1) g) → AllByRecursion (λ e. IsHeldAs (map (record_of name) vs) e.1.0 e.1.1) g
      → AreContents vs g (contents_of (named name vs) g)
  are_contents vs d [] k i h = record { leaves = tt; same = refl; known = tt }
  are_contents vs d (e ∷ es) k i h =
      let one = is_content_of vs d e.1.0 e.1.1 k.0 (first _ _ i) h.0 in
      let rest = are_contents vs d es k.1 (second (is_name e.1.1) _ i) h.1 in
      record {
        leaves = both _ _ one.leaf rest.leaves;
        same = λ j. (e.0, (e.1.0, one.same j)) ∷ rest.same j;
        known = put_known (blob_of e.1.0 (content_of (named name vs) e.1.0 e.1.1)) one.known (blobs_of (contents_of (named name vs) es)) rest.known;
      }
    where
      put_known : (o : Option Value) → IfSome o (IsIn vs) → (us : List Value) → AllByRecursion (IsIn vs) us → AllByRecursion (IsIn vs) (cons_option o us)
      put_known None p us q = q
      put_known (Some v) p us q = (p, q)

  -- a map of names is that of this file map, whose bytes stand
  pub record IsContents (r : Records) (g f : FileMap Bytes) : Type 0 where
    pub content : IsTrue (is_content f)
    pub same : named_map name f ≡ g
    pub known : AllByRecursion (IsIn (history_of r).values) (blobs_of f)

  -- a map of names is that of a file map
  pub contents : (r : Records) → IsSound name r → (g : FileMap Bytes) → IsNamedMap r.records g → IsContents r g (contents_of (named_values r.records) g)
  contents r i g h =
      let t = stands name namer r i in
      let d = distinct_of name namer r (history_of r) t in
      let a = are_contents (history_of r).values d g h.files (passes _ h.names) (subst (λ rs. AllByRecursion (λ e. IsHeldAs rs e.1.0 e.1.1) g) t.records h.held) in
      let k = named_is name namer r i in
      subst (λ ks. IsContents r g (contents_of ks g)) (sym k) (record { content = is_true _ (both _ _ (map_kept (named name (history_of r).values) g (passes _ h.file_map)) a.leaves); same = a.same; known = a.known })

  -- the body of a held tag is that of some parts
  pub held_tag : (r : Records) → IsSound name r → (n : Bytes) (s : Record) → record_named r.records n ≡ Some s → s.kind ≡ kind.Tag → (p : TagParts) × IsTagText p s.body
  held_tag r i n s e k =
      let f = finds r i n s e in
      let v = value_of_name r.records n in
      let j : kind_of name v ≡ kind.Tag = ap (λ z. z.kind) f.1 ∙ k in
      by v f.0 f.1 j
    where
      by : (v : Value) → IsIn (history_of r).values v → record_of name v ≡ s → kind_of name v ≡ kind.Tag → (p : TagParts) × IsTagText p s.body
      by (blob_value x) j m l = absurd (cc)
      by (tree_value x) j m l = absurd (cc)
      by (commit_value x) j m l = absurd (cc)
      by (tag_value t) j m l = (record { object = name kind.Commit (commit_body name t.target); name = t.name; tagger = t.tagger; message = t.message }, subst (λ (z : Record). IsTagText (record { object = name kind.Commit (commit_body name t.target); name = t.name; tagger = t.tagger; message = t.message }) z.body) m (tag_text_is name namer t (proper_in (history_of r).values (tag_value t) (passes _ (stands name namer r i).history.proper) j)))
