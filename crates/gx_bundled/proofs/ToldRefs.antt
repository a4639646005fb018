-- The lines of the refs that are told.
use Rattle.std.proofs.Common.{◌≡◌, ℕ, ◌+◌, ◌<◌, ◌≤◌, Bool, true, false, cond, List, [], ◌∷◌, ◌++◌, length, map, append-nil, take, get_or, Option, Some, None, inl, inr, refl, sym, ap, subst, ◌∙◌, arith}
use Rattle.std.specs.Prelude.{◌||◌, IfSome, IsTrue, T}
use Rattle.std.specs.Bool.{passes}
use Rattle.std.specs.Borrow.{Bor}
use Rattle.std.specs.FinMap.Entries.{is_sorted}
use Rattle.std.specs.List.{AllByRecursion, filter, flat_map, list_all, list_any}
use Rattle.std.proofs.lemmas.Grind.{flat_map-append}
use Rattle.std.proofs.lemmas.List.{map-append, take_all, take_more}
use Rattle.std.proofs.lemmas.List.Elements.{filter-append}
use Rattle.std.specs.declared.vec.Vec.{Vec}
use Rattle.gx_model.specs.declared.objects.Kind.{Kind}
use Rattle.gx_model.specs.Histories.{Records}
use Rattle.gx_model.specs.Objects.{IsNamer, is_name}
use Rattle.gx_model.specs.Records.Publishing.{Ref}
use Rattle.gx_model.specs.Records.Sound.{AnyByRecursion, IsSound}
use Rattle.gx_model.specs.Stores.StoreText.{stored_ref}
use Rattle.gx_model.specs.Texts.{Bytes, byte_cmp, same_bytes}
use Rattle.gx_model.specs.Texts.RefNames.{is_ref_name}
use Rattle.gx_model.proofs.Ranges.SetBranches.{sorted_filter}
use Rattle.gx_model.proofs.Stores.StoredRefs.{targets_name}
use Rattle.gx_model.proofs.Texts.PathTests.{both, first, is_true, second}
use Rattle.gx_object.specs.declared.name.Name.{Name}
use Rattle.gx_objects.specs.Answers.{AreRefs, SpellsRefs}
use Rattle.gx_ref_lines.specs.Refs.{shown_refs}
use Rattle.gx_repo.specs.Refs.{shown_lent_ref}
use Rattle.gx_kept.specs.Telling.{SpellsRefsOf}

-- ---- one ref after the other

module _ (test : Ref → Bool) (refs : List (Bor Bytes × Name)) (lines : Bytes) (i : ℕ) (d : Bor Bytes × Name) (inside : i < length refs)
    (so_far : lines ≡ flat_map stored_ref (filter test (shown_refs (take i refs)))) where
  abbrev ref : Ref
  ref = shown_lent_ref (get_or refs i d)

  more : (b : Bool) → test ref ≡ b → filter test (shown_refs (take (i + 1) refs)) ≡ filter test (shown_refs (take i refs)) ++ cond b (ref ∷ []) []
  more b e =
      ap (λ rs. filter test (shown_refs rs)) (take_more refs i d inside) ∙ ap (filter test) (map-append shown_lent_ref (take i refs) (get_or refs i d ∷ []))
      ∙ filter-append test (shown_refs (take i refs)) (ref ∷ []) ∙ ap (λ t. filter test (shown_refs (take i refs)) ++ cond t (ref ∷ []) []) e

  -- the next one is told
  pub line_more : test ref ≡ true → (new : Bytes) → new ≡ lines ++ stored_ref ref → new ≡ flat_map stored_ref (filter test (shown_refs (take (i + 1) refs)))
  line_more e new p =
      p ∙ ap (λ t. t ++ stored_ref ref) so_far ∙ ap (λ t. flat_map stored_ref (filter test (shown_refs (take i refs))) ++ t) (sym (append-nil (stored_ref ref)))
      ∙ sym (flat_map-append stored_ref (filter test (shown_refs (take i refs))) (ref ∷ [])) ∙ ap (flat_map stored_ref) (sym (more true e))

  -- or it isn't
  pub line_same : test ref ≡ false → lines ≡ flat_map stored_ref (filter test (shown_refs (take (i + 1) refs)))
  line_same e = so_far ∙ ap (flat_map stored_ref) (sym (append-nil _) ∙ sym (more false e))

pub lines_all : (test : Ref → Bool) (refs : List (Bor Bytes × Name)) (lines : Bytes) (i : ℕ) → length refs ≤ i → lines ≡ flat_map stored_ref (filter test (shown_refs (take i refs))) → lines ≡ flat_map stored_ref (filter test (shown_refs refs))
lines_all test refs lines i le e = e ∙ ap (λ rs. flat_map stored_ref (filter test (shown_refs rs))) (take_all i refs le)

-- ---- what is told are refs

module _ (test : Ref → Bool) where
  all_passed : (P : Ref → Type 0) (refs : List Ref) → AllByRecursion P refs → AllByRecursion P (filter test refs)
  all_passed P [] h = tt
  all_passed P (x ∷ xs) h = by (test x) (all_passed P xs h.1) where
    by : (b : Bool) → AllByRecursion P (filter test xs) → AllByRecursion P (cond b (x ∷ filter test xs) (filter test xs))
    by true k = (h.0, k)
    by false k = k

  names_passed : (p : Ref → Bool) (refs : List Ref) → T (list_all p refs) → T (list_all p (filter test refs))
  names_passed p [] h = tt
  names_passed p (x ∷ xs) h = by (test x) (names_passed p xs (second (p x) (list_all p xs) h)) where
    by : (b : Bool) → T (list_all p (filter test xs)) → T (list_all p (cond b (x ∷ filter test xs) (filter test xs)))
    by true k = both (p x) _ (first (p x) (list_all p xs) h) k
    by false k = k

  pub refs_passed : (refs : List Ref) → AreRefs refs → AreRefs (filter test refs)
  refs_passed refs a = record {
    sorted = is_true _ (sorted_filter test refs (passes _ a.sorted));
    names = is_true _ (names_passed (λ ref. is_ref_name ref.0) refs (passes _ a.names));
    objects = all_passed (λ ref. IsTrue (is_name ref.1)) refs a.objects;
  }

-- each ref is among all
each_own : (all refs : List Ref) → ((ref : Ref) → AnyByRecursion (λ other. other ≡ ref) refs → AnyByRecursion (λ other. other ≡ ref) all) → AllByRecursion (λ ref. AnyByRecursion (λ other. other ≡ ref) all) refs
each_own all [] f = tt
each_own all (x ∷ xs) f = (f x (inl refl), each_own all xs (λ ref a. f ref (inr a)))

refs_sound : (name : Kind → Bytes → Bytes) → IsNamer name → (r : Records) → IsSound name r → AreRefs r.refs
refs_sound name namer r sound = record {
  sorted = sound.sorted;
  names = sound.ref_names;
  objects = named r.refs (targets_name name namer r.records sound.distinct sound.named r.refs sound.held);
}
  where
    named : (refs : List Ref) → AllByRecursion (λ ref. T (is_name ref.1)) refs → AllByRecursion (λ ref. IsTrue (is_name ref.1)) refs
    named [] h = tt
    named (x ∷ xs) h = (is_true _ h.0, named xs h.1)

-- what was read of lines, and the lines of those of it that pass
module _ (test : List Ref → Ref → Bool) (lines : Bytes) (read : List Ref) (is : lines ≡ flat_map stored_ref read)
    (all : (refs : List Ref) → lines ≡ flat_map stored_ref refs → AreRefs refs → read ≡ refs) (told_lines : Bytes) (made : told_lines ≡ flat_map stored_ref (filter (test read) read)) where
  pub told_spelled : SpellsRefs lines → SpellsRefs told_lines
  told_spelled s = (filter (test read) read, made, refs_passed (test read) read (subst AreRefs (sym (all s.0 s.1 s.2)) s.2))

  module _ (name : Kind → Bytes → Bytes) (namer : IsNamer name) (told : Option Records) (sound : IfSome told (IsSound name)) (are : IfSome told (λ r. lines ≡ flat_map stored_ref r.refs)) where
    pub told_made : IfSome told (λ r. told_lines ≡ flat_map stored_ref (filter (test r.refs) r.refs))
    told_made = by told sound are where
      by : (o : Option Records) → IfSome o (IsSound name) → IfSome o (λ r. lines ≡ flat_map stored_ref r.refs) → IfSome o (λ r. told_lines ≡ flat_map stored_ref (filter (test r.refs) r.refs))
      by None s e = tt
      by (Some r) s e = made ∙ ap (λ rs. flat_map stored_ref (filter (test rs) rs)) (all r.refs e (refs_sound name namer r s))

    pub told_held : IfSome told (SpellsRefsOf told_lines)
    told_held = by told sound told_made where
      by : (o : Option Records) → IfSome o (IsSound name) → IfSome o (λ r. told_lines ≡ flat_map stored_ref (filter (test r.refs) r.refs)) → IfSome o (SpellsRefsOf told_lines)
      by None s e = tt
      by (Some r) s e = (
        filter (test r.refs) r.refs,
        refs_passed (test r.refs) r.refs (refs_sound name namer r s),
        e,
        all_passed (test r.refs) (λ ref. AnyByRecursion (λ other. other ≡ ref) r.refs) r.refs (each_own r.refs r.refs (λ ref a. a)),
      )
