-- The entries of a file map's tree are canonical.
use Rattle.std.proofs.Common.{◌≡◌, true, false, cond, refl, sym, ap, subst, List, [], ◌∷◌, ◌++◌, map, Option, None, Some}
use Rattle.std.specs.Prelude.{T, not, ◌&&◌, ◌||◌, IfSome}
use Rattle.std.specs.List.{list_all, list_any}
use Rattle.std.specs.Option.{option_map}
use Rattle.std.specs.FinMap.Entries.{is_sorted}
use Rattle.gx_model.specs.declared.objects.Kind.{Kind}
use Rattle.gx_model.specs.declared.objects.Mode.{Mode}
use Rattle.gx_model.specs.declared.objects.Mode.TheVariants.{File, Exec, Link, Gitlink, Dir}
use Rattle.gx_model.specs.Texts.{Bytes, byte_cmp, same_bytes}
use Rattle.gx_model.specs.Histories.Files.{FileMap, Leaf, first_components, file_at, sub_map, is_file_map}
use Rattle.gx_model.specs.Texts.Paths.{is_component}
use Rattle.gx_model.specs.Histories.Values.{is_content, is_leaf}
use Rattle.gx_model.specs.Objects.{IsNamer, entry_key, is_dir, is_canonical, are_different}
use Rattle.gx_model.specs.Records.{node, entry, entries, named_map, tree_name}
use Rattle.gx_model.proofs.Texts.PathTests.{both, first, second, is_true}
use Rattle.gx_model.proofs.Histories.FileMapEdits.{Parts, parts_of}
use Rattle.gx_model.proofs.Histories.PathRuns.{runs, heads, good_runs, AreDistinct, runs_avoid}
use Rattle.gx_model.proofs.ObjectTexts.SortedKeys.{keys, key_at, sorted_keys}
use Rattle.gx_model.proofs.ObjectTexts.OneTree.{spelling, node_entry, leaf_named, IsLeaf, leaves, firsts_proper}

-- no leaf is a directory
pub no_dir : (m : Mode) (x : Bytes) → T (is_leaf m x) → is_dir m ≡ false
no_dir File x h = refl
no_dir Exec x h = refl
no_dir Link x h = refl
no_dir Gitlink x h = refl
no_dir Dir x h = absurd h

none_same : (c : Bytes) (rs : List (Bytes × FileMap Bytes)) → T (runs_avoid c rs) → T (not (list_any (same_bytes c) (map (λ r. r.0) rs)))
none_same c [] h = tt
none_same c (r ∷ rs) h =
    elim (same_bytes c r.0) as (λ b. T (not b && runs_avoid c rs) → T (not (b || list_any (same_bytes c) (map (λ r. r.0) rs)))) [ true ↦ λ k. absurd k | false ↦ λ k. none_same c rs k ] h

different : (rs : List (Bytes × FileMap Bytes)) → AreDistinct rs → T (are_different (map (λ r. r.0) rs))
different [] h = tt
different (r ∷ rs) h = both _ _ (none_same r.0 rs h.0) (different rs h.1)

module _ (name : Kind → Bytes → Bytes) (namer : IsNamer name) where
  key_is : (o : Option (Leaf Bytes)) (c n : Bytes) → IfSome o (IsLeaf name namer) → entry_key (entry name c (node name (option_map (leaf_named name namer) o) n)) ≡ key_at o c
  key_is None c n h = refl
  key_is (Some x) c n h = ap (λ b. cond b (c ++ 47 ∷ []) c) (no_dir x.0 x.1 h)

  keys_are : (f : FileMap Bytes) (cs : List Bytes) → T (is_content f) → map (λ e. (entry_key e, e.component)) (map (node_entry name namer f) cs) ≡ keys f cs
  keys_are f [] h = refl
  keys_are f (c ∷ cs) h = λ i. (key_is (file_at f (c ∷ [])) c (tree_name name (sub_map f (c ∷ []))) (leaves name namer f (c ∷ []) h) i, c) ∷ keys_are f cs h i

  components_are : (f : FileMap Bytes) (cs : List Bytes) → map (λ e. e.component) (map (node_entry name namer f) cs) ≡ cs
  components_are f [] = refl
  components_are f (c ∷ cs) = ap (λ ds. c ∷ ds) (components_are f cs)

  proper_are : (f : FileMap Bytes) (cs : List Bytes) → T (list_all is_component cs) → T (list_all (λ e. is_component e.component) (map (node_entry name namer f) cs))
  proper_are f [] h = tt
  proper_are f (c ∷ cs) h = both _ _ (first _ _ h) (proper_are f cs (second (is_component c) _ h))

  -- the entries of a file map's tree are components, in order, each once
  pub canonical_entries : (f : FileMap Bytes) → T (is_content f) → T (is_canonical (entries name (named_map name f)))
  canonical_entries f h =
      let p : Parts f = parts_of f (is_true _ (first (is_file_map f) _ h)) in
      let d : T (are_different (first_components f)) = subst (λ cs. T (are_different cs)) (heads f) (different (runs f) (good_runs f p).distinct) in
      let whole : T (is_canonical (map (node_entry name namer f) (first_components f))) =
      both _ _
      (both _ _ (proper_are f (first_components f) (firsts_proper f p.paths)) (subst (λ ks. T (is_sorted byte_cmp ks)) (sym (keys_are f (first_components f) h)) (sorted_keys f p)))
      (subst (λ cs. T (are_different cs)) (sym (components_are f (first_components f))) d) in
      subst (λ es. T (is_canonical es)) (sym (spelling name namer f)) whole
