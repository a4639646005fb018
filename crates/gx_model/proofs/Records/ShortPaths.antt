-- No path below entries is too long just where no path of the file map is that they give.
use Rattle.std.proofs.Common.{◌≡◌, true, false, cond, refl, sym, ap, subst, ◌∙◌, List, [], ◌∷◌, map, Option, None, Some, inl, inr}
use Rattle.std.specs.Prelude.{T, ◌&&◌, ◌≢◌, is_some, IsTrue, ◌↔◌}
use Rattle.std.specs.List.{list_all, AllByRecursion}
use Rattle.std.specs.Bool.{passes}
use Rattle.gx_model.specs.declared.objects.Kind.{Kind}
use Rattle.gx_model.specs.declared.objects.Kind.TheVariants as kind
use Rattle.gx_model.specs.declared.objects.Mode.{Mode}
use Rattle.gx_model.specs.declared.objects.Mode.TheVariants.{File, Exec, Link, Gitlink, Dir}
use Rattle.gx_model.specs.Texts.{Bytes}
use Rattle.gx_model.specs.Texts.Paths.{Path, same_path, is_short}
use Rattle.gx_model.specs.Histories.Files.{FileMap, Leaf, file_at}
use Rattle.gx_model.specs.Histories.Values.{Value, tree_value}
use Rattle.gx_model.specs.Objects.{IsNamer, Entry, IsTreeText}
use Rattle.gx_model.specs.Records.{name_of, body_of}
use Rattle.gx_model.specs.Histories.{Records, AreDistinct, IsIn, record_of}
use Rattle.gx_model.specs.Histories.{IsWhole}
use Rattle.gx_model.specs.Records.Sound.{AnyByRecursion, IsHeldAs, HasPath, here, below, HasShortPaths, IsSound}
use Rattle.gx_model.specs.Records.HistoryOf.{Named, value_named, files_of_tree, entries_in, placed, files_at, files_of_entries, named_values, history_of}
use Rattle.gx_model.proofs.Texts.PathTests.{both, first, second, is_true, path_is, all_append}
use Rattle.gx_model.proofs.Histories.PathRuns.{same_itself}
use Rattle.gx_model.proofs.Records.OneHistory.{told_by_name}
use Rattle.gx_model.proofs.ObjectTexts.BodiesReadBack.{entries_read}
use Rattle.gx_model.proofs.ObjectTexts.RebuiltValues.{at_append}
use Rattle.std.specs.Option.{option_or}
use Rattle.gx_model.proofs.Records.LinkedValues.{named, is_tree, found, holds}
use Rattle.gx_model.proofs.ObjectTexts.TreePaths.{entries_of, text_of_tree, content_in, path_held, some_unrecord}
use Rattle.gx_model.proofs.Records.HistoriesExist.{stands, named_is}
use Rattle.gx_model.proofs.Records.ReadRecords.{entry_short}
use Rattle.gx_model.proofs.Records.GrownRecords.{whole_of, distinct_of}

short_at : (p : Path) (f : FileMap Bytes) → T (list_all (λ x. is_short x.0) f) → is_some (file_at f p) ≡ true → T (is_short p)
short_at p [] h s = absurd (cc)
short_at p (e ∷ es) h s =
    elim (same_path p e.0) as (λ b. same_path p e.0 ≡ b → is_some (cond b (Some e.1) (file_at es p)) ≡ true → T (is_short p)) [
      | true ↦ λ k i. subst (λ q. T (is_short q)) (sym (path_is p e.0 (passes _ k))) (first _ _ h)
      | false ↦ λ k i. short_at p es (second (is_short e.0) _ h) i
    ] refl s

own : (c : Bytes) (q : Path) (f : FileMap Bytes) → file_at (placed c f) (c ∷ q) ≡ file_at f q
own c q [] = refl
own c q (e ∷ es) =
    ap (λ b. cond (b && same_path q e.0) (Some e.1) (file_at (placed c es) (c ∷ q))) (same_itself c) ∙ ap (λ o. cond (same_path q e.0) (Some e.1) o) (own c q es)

left_some : (o p : Option (Leaf Bytes)) → is_some o ≡ true → is_some (option_or o p) ≡ true
left_some None p h = absurd (cc)
left_some (Some x) p h = refl

right_some : (o p : Option (Leaf Bytes)) → is_some p ≡ true → is_some (option_or o p) ≡ true
right_some None p h = h
right_some (Some x) p h = refl

in_whole : (ks : Named) (e : Entry) (q : Path) (es : List Entry) → AnyByRecursion (λ x. x ≡ e) es → is_some (file_at (files_at ks e.mode e.name) q) ≡ true → is_some (file_at (files_of_entries ks es) (e.component ∷ q)) ≡ true
in_whole ks e q [] s h = absurd s
in_whole ks e q (x ∷ xs) s h =
    ap is_some (at_append (e.component ∷ q) (placed x.component (files_at ks x.mode x.name)) (files_of_entries ks xs))
    ∙ elim s [
      | inl k ↦ left_some _ (file_at (files_of_entries ks xs) (e.component ∷ q)) (ap (λ (z : Entry). is_some (file_at (placed z.component (files_at ks z.mode z.name)) (e.component ∷ q))) k ∙ ap is_some (own e.component q (files_at ks e.mode e.name)) ∙ h)
      | inr k ↦ right_some (file_at (placed x.component (files_at ks x.mode x.name)) (e.component ∷ q)) _ (in_whole ks e q xs k h)
    ]

leaf_some : (ks : Named) (m : Mode) (n : Bytes) → m ≢ Dir → is_some (file_at (files_at ks m n) []) ≡ true
leaf_some ks File n h = refl
leaf_some ks Exec n h = refl
leaf_some ks Link n h = refl
leaf_some ks Gitlink n h = refl
leaf_some ks Dir n h = absurd (h refl)

module _ (name : Kind → Bytes → Bytes) (namer : IsNamer name) (vs : List Value) (whole : IsWhole vs) (distinct : AreDistinct (map (name_of name) vs)) where
  held_path : (es : List Entry) (p : Path) → HasPath (map (record_of name) vs) es p → is_some (file_at (files_of_entries (named name vs) es) p) ≡ true
  held_path es p (here e s m) = in_whole (named name vs) e [] es s (leaf_some (named name vs) e.mode e.name m)
  held_path es p (below {p = q} e fs s m r rest) =
      let u = some_unrecord name _ vs r in
      let f = files_of_tree u.0 in
      let t : u.0 ≡ tree_value f = is_tree name u.0 u.2.0 in
      let j : IsIn vs (tree_value f) = subst (IsIn vs) t u.1 in
      let g : fs ≡ entries_of name namer f = sym (entries_read fs _ u.2.2) ∙ ap (λ v. entries_in (body_of name v)) t ∙ entries_read (entries_of name namer f) _ (text_of_tree name namer f (content_in name namer vs whole distinct f j)) in
      let k = path_held name namer vs whole distinct fs q rest f j g in
      let w = found name namer (λ z. z.name ≡ e.name) e.name (λ z h. h) vs distinct (holds name (λ z. z.name ≡ e.name) vs u.0 u.1 u.2.1) in
      let v : value_named (named name vs) e.name ≡ u.0 = told_by_name name namer vs distinct (value_named (named name vs) e.name) u.0 w.0 u.1 (w.1 ∙ sym u.2.1) in
      in_whole (named name vs) e q es s (ap (λ z. is_some (file_at (files_at (named name vs) z e.name) q)) m ∙ ap (λ z. is_some (file_at (files_of_tree z) q)) v ∙ k)

  short_placed : (c : Bytes) (f : FileMap Bytes) → T (list_all (λ q. is_short (c ∷ q.0)) f) → T (list_all (λ x. is_short x.0) (placed c f))
  short_placed c [] h = tt
  short_placed c (e ∷ es) h = both _ _ (first _ _ h) (short_placed c es (second (is_short (c ∷ e.0)) _ h))

  all_short : (es fs : List Entry) → ((e : Entry) → AnyByRecursion (λ x. x ≡ e) fs → AnyByRecursion (λ x. x ≡ e) es) → ((p : Path) → HasPath (map (record_of name) vs) es p → T (is_short p)) → AllByRecursion (λ e. IsHeldAs (map (record_of name) vs) e.mode e.name) fs → T (list_all (λ x. is_short x.0) (files_of_entries (named name vs) fs))
  all_short es [] i s h = tt
  all_short es (e ∷ fs) i s h =
      all_append (λ x. is_short x.0) (placed e.component (files_at (named name vs) e.mode e.name)) (files_of_entries (named name vs) fs)
      (short_placed e.component (files_at (named name vs) e.mode e.name) (entry_short name namer vs whole distinct (map (record_of name) vs) (λ P v j p. holds name P vs v j p) es s e (i e (inl refl)) h.0))
      (all_short es fs (λ x t. i x (inr t)) s h.1)

  short_in : (es : List Entry) (body : Bytes) → IsTreeText es body → AllByRecursion (λ e. IsHeldAs (map (record_of name) vs) e.mode e.name) es
      → IsTrue (list_all (λ x. is_short x.0) (files_of_entries (named name vs) es)) ↔ HasShortPaths (map (record_of name) vs) (record { name = name kind.Tree body; kind = kind.Tree; body = body })
  short_in es body t h = (
    λ s fs p k u q. is_true _ (short_at p (files_of_entries (named name vs) es) (passes _ s) (held_path es p (subst (λ z. HasPath (map (record_of name) vs) z p) (sym (entries_read fs body u) ∙ entries_read es body t) q))),
    λ s. is_true _ (all_short es es (λ e z. z) (λ p q. passes _ (s es p refl t q)) h),
  )

-- the paths below a tree's entries are short where those of the file map are that the entries give
pub short_paths : (name : Kind → Bytes → Bytes) → IsNamer name → (r : Records) → IsSound name r → (es : List Entry) (body : Bytes) → IsTreeText es body → AllByRecursion (λ e. IsHeldAs r.records e.mode e.name) es
    → IsTrue (list_all (λ x. is_short x.0) (files_of_entries (named_values r.records) es)) ↔ HasShortPaths r.records (record { name = name kind.Tree body; kind = kind.Tree; body = body })
short_paths name namer r i es body t h =
    let s = stands name namer r i in
    let vs = (history_of r).values in
    let k = short_in name namer vs (whole_of name namer (history_of r) s.history) (distinct_of name namer r (history_of r) s) es body t (subst (λ rs. AllByRecursion (λ e. IsHeldAs rs e.mode e.name) es) s.records h) in
    subst (λ rs. IsTrue (list_all (λ x. is_short x.0) (files_of_entries (named_values r.records) es)) ↔ HasShortPaths rs (record { name = name kind.Tree body; kind = kind.Tree; body = body })) (sym s.records)
    (subst (λ ks. IsTrue (list_all (λ x. is_short x.0) (files_of_entries ks es)) ↔ HasShortPaths (map (record_of name) vs) (record { name = name kind.Tree body; kind = kind.Tree; body = body })) (sym (named_is name namer r i)) k)
