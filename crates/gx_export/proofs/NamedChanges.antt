-- What differs between two maps of names is what differs between what they stand for.
use Rattle.std.proofs.Common.{◌≡◌, ◌∙◌, Bool, true, false, cond, not, List, [], ◌∷◌, map, Option, Some, None, refl, sym, ap, subst}
use Rattle.std.specs.Prelude.{is_some, ◌&&◌}
use Rattle.std.specs.Bool.{passes}
use Rattle.std.specs.List.{filter, AllByRecursion}
use Rattle.std.specs.Option.{option_map}
use Rattle.gx_model.specs.declared.objects.Kind.{Kind}
use Rattle.gx_model.specs.declared.objects.Mode.{Mode}
use Rattle.gx_model.specs.Changes.{changed_files, gone_paths, is_this_leaf}
use Rattle.gx_model.specs.Histories.Files.{FileMap, Leaf, file_at}
use Rattle.gx_model.specs.Histories.Values.{same_mode}
use Rattle.gx_model.specs.Records.{content_name, named_map}
use Rattle.gx_model.specs.Records.HistoryOf.{Named, content_of, contents_of}
use Rattle.gx_model.specs.Texts.{Bytes, same_bytes}
use Rattle.gx_model.specs.Texts.Paths.{Path, same_path}
use Rattle.gx_model.proofs.Histories.SameValues.{mode_is}
use Rattle.gx_tree.proofs.LevelsOf.{at_each}
use Rattle.gx_tree.proofs.Texts.{bytes_are, same_itself}
use Rattle.gx_export.specs.Compared.{paths_below}

module _ (name : Kind → Bytes → Bytes) (named : Named) where
  -- the name of a file's content leads back to it
  abbrev LeadsBack : Path × Leaf Bytes → Type 0
  LeadsBack e = content_of named e.1.0 (content_name name e.1.0 e.1.1) ≡ e.1.1

  abbrev as_named : Leaf Bytes → Leaf Bytes
  as_named x = (x.0, content_name name x.0 x.1)

  pub all_lead_back : (f : FileMap Bytes) → contents_of named (named_map name f) ≡ f → AllByRecursion LeadsBack f
  all_lead_back [] e = tt
  all_lead_back (x ∷ f) e =
      let here : (x.0, (x.1.0, content_of named x.1.0 (content_name name x.1.0 x.1.1))) ≡ x = cc e in
      let rest : contents_of named (named_map name f) ≡ f = cc e in
      (ap (λ z. z.1.1) here, all_lead_back f rest)

  named_at : (f : FileMap Bytes) (p : Path) → file_at (named_map name f) p ≡ option_map as_named (file_at f p)
  named_at [] p = refl
  named_at (x ∷ f) p = elim (same_path p x.0) as (λ b. cond b (Some (as_named x.1)) (file_at (named_map name f) p) ≡ option_map as_named (cond b (Some x.1) (file_at f p))) [ true ↦ refl | false ↦ named_at f p ]

  -- contents are the same where their names are
  same_names : (m : Mode) (x y : Bytes) → content_of named m (content_name name m x) ≡ x → content_of named m (content_name name m y) ≡ y → same_bytes (content_name name m x) (content_name name m y) ≡ same_bytes x y
  same_names m x y h k = by (same_bytes x y) refl (same_bytes (content_name name m x) (content_name name m y)) refl
    where
      by : (b : Bool) → same_bytes x y ≡ b → (d : Bool) → same_bytes (content_name name m x) (content_name name m y) ≡ d → same_bytes (content_name name m x) (content_name name m y) ≡ same_bytes x y
      by true i true j = j ∙ sym i
      by false i false j = j ∙ sym i
      by true i false j = absurd (let f : true ≡ false = sym (same_itself (content_name name m y)) ∙ ap (λ z. same_bytes (content_name name m z) (content_name name m y)) (sym (bytes_are x y i)) ∙ j in cc f)
      by false i true j =
          let one : x ≡ y = sym h ∙ ap (content_of named m) (bytes_are (content_name name m x) (content_name name m y) j) ∙ k in
          absurd (let f : true ≡ false = sym (same_itself y) ∙ ap (λ z. same_bytes z y) (sym one) ∙ i in cc f)

  same_leaves : (x y : Leaf Bytes) → content_of named x.0 (content_name name x.0 x.1) ≡ x.1 → content_of named y.0 (content_name name y.0 y.1) ≡ y.1 → is_this_leaf (Some (as_named x)) (as_named y) ≡ is_this_leaf (Some x) y
  same_leaves x y h k = by (same_mode x.0 y.0) refl
    where
      by : (b : Bool) → same_mode x.0 y.0 ≡ b → (same_mode x.0 y.0 && same_bytes (content_name name x.0 x.1) (content_name name y.0 y.1)) ≡ (same_mode x.0 y.0 && same_bytes x.1 y.1)
      by false e = ap (λ b. b && same_bytes (content_name name x.0 x.1) (content_name name y.0 y.1)) e ∙ sym (ap (λ b. b && same_bytes x.1 y.1) e)
      by true e =
          let mode : x.0 ≡ y.0 = mode_is x.0 y.0 (passes _ e) in
          ap (λ b. same_mode x.0 y.0 && b)
          (subst (λ m. same_bytes (content_name name x.0 x.1) (content_name name m y.1) ≡ same_bytes x.1 y.1) mode (same_names x.0 x.1 y.1 h (subst (λ m. content_of named m (content_name name m y.1) ≡ y.1) (sym mode) k)))

  found_same : (f : FileMap Bytes) → AllByRecursion LeadsBack f → (p : Path) (y : Leaf Bytes) → content_of named y.0 (content_name name y.0 y.1) ≡ y.1 → is_this_leaf (file_at (named_map name f) p) (as_named y) ≡ is_this_leaf (file_at f p) y
  found_same f h p y k = ap (λ o. is_this_leaf o (as_named y)) (named_at f p) ∙ by (file_at f p) refl
    where
      by : (o : Option (Leaf Bytes)) → file_at f p ≡ o → is_this_leaf (option_map as_named o) (as_named y) ≡ is_this_leaf o y
      by None e = refl
      by (Some x) e = same_leaves x y (at_each LeadsBack (same_path p) f h x e).1 k

  -- what the names stand for
  pub named_changed : (f g : FileMap Bytes) → AllByRecursion LeadsBack f → AllByRecursion LeadsBack g → contents_of named (changed_files (named_map name f) (named_map name g)) ≡ changed_files f g
  named_changed f [] h k = refl
  named_changed f (y ∷ g) h k =
      let same = found_same f h y.0 y.1 k.0 in
      let rest = named_changed f g h k.1 in
      let names = changed_files (named_map name f) (named_map name g) in
      ap (λ b. contents_of named (cond (not b) ((y.0, as_named y.1) ∷ names) names)) same
      ∙ elim (not (is_this_leaf (file_at f y.0) y.1)) as (λ b. contents_of named (cond b ((y.0, as_named y.1) ∷ names) names) ≡ cond b (y ∷ changed_files f g) (changed_files f g)) [
        | true ↦ (λ i. (y.0, (y.1.0, k.0 i)) ∷ rest i)
        | false ↦ rest
      ]

  pub named_gone : (f g : FileMap Bytes) → gone_paths (named_map name f) (named_map name g) ≡ gone_paths f g
  named_gone [] g = refl
  named_gone (x ∷ f) g =
      let there = ap is_some (named_at g x.0) ∙ some_mapped (file_at g x.0) in
      let rest = named_gone f g in
      let old = filter (λ e. not (is_some (file_at (named_map name g) e.0))) (named_map name f) in
      let kept = filter (λ e. not (is_some (file_at g e.0))) f in
      ap (λ b. map (λ e. e.0) (cond (not b) ((x.0, as_named x.1) ∷ old) old)) there
      ∙ elim (not (is_some (file_at g x.0))) as (λ b. map (λ e. e.0) (cond b ((x.0, as_named x.1) ∷ old) old) ≡ map (λ e. e.0) (cond b (x ∷ kept) kept)) [ true ↦ ap (λ ps. x.0 ∷ ps) rest | false ↦ rest ]
    where
      some_mapped : (o : Option (Leaf Bytes)) → is_some (option_map as_named o) ≡ is_some o
      some_mapped None = refl
      some_mapped (Some y) = refl

pub paths_root : (ps : List Path) → paths_below [] ps ≡ ps
paths_root [] = refl
paths_root (p ∷ ps) = ap (λ qs. p ∷ qs) (paths_root ps)
