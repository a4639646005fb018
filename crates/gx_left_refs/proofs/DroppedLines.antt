-- Refs that are dropped by their lines: which names are unknown, and which refs are left.
use Rattle.std.proofs.Common.{◌≡◌, ℕ, ◌+◌, ◌<◌, ◌≤◌, Bool, true, false, cond, List, [], ◌∷◌, ◌++◌, length, length-append, append-nil, take, get_or, Option, Some, None, Err, refl, sym, ap, subst, ◌∙◌, arith}
use Rattle.std.specs.Prelude.{not, ◌||◌, IsOk, IsTrue, is_some}
use Rattle.std.specs.Borrow.{Bor}
use Rattle.std.specs.BTreeMap.{is_at}
use Rattle.std.specs.BTreeSet.{BTreeSet}
use Rattle.std.specs.FinMap.Entries.{is_sorted}
use Rattle.std.specs.List.{flat_map, list_any}
use Rattle.std.proofs.lemmas.Bool.{true≢false}
use Rattle.std.proofs.lemmas.Grind.{flat_map-append}
use Rattle.std.proofs.lemmas.List.{map-append, take_more}
use Rattle.std.proofs.lemmas.List.Elements.{filter-append}
use Rattle.std.proofs.lemmas.List.Folds.{list_any-append}
use Rattle.std.proofs.lemmas.Map.Text.{is_eq-slice_cmp}
use Rattle.gx_model.specs.Records.Publishing.{Ref}
use Rattle.gx_model.specs.Stores.StoreText.{stored_ref}
use Rattle.gx_model.specs.Texts.{Bytes, byte_cmp, same_bytes}
use Rattle.gx_object.specs.Parts.{bytes_if}
use Rattle.gx_object.specs.declared.name.Name.{Name}
use Rattle.gx_ref_lines.specs.Refs.{shown_refs}
use Rattle.gx_ref_lines.proofs.LinesRead.{line_long}
use Rattle.gx_repo.specs.Dropping.{AreIn, Drops, HidesNoUnknown, dropped, is_among, is_entered}
use Rattle.gx_repo.specs.Refs.{FindsObject, is_ref_held, shown_lent_ref}
use Rattle.gx_repo.specs.declared.fault.DropFault.{DropFault}
use Rattle.gx_repo.specs.declared.fault.DropFault.TheVariants.{OutOfMemory, UnknownRef}
use Rattle.gx_repo.proofs.DroppedRefs.{AreKnown, none_unknown, one_unknown}
use Rattle.gx_text.specs.Lent.{lent_texts}
use Rattle.gx_left_refs.specs.Left.{TellsUnknown, not_entered}

-- ---- the names, one after the other

-- The first names are held in a set. Where the refs stand in order, none of these names is unknown, and the others are left.
pub record AreGone (refs : List Ref) (gone : BTreeSet (Bor Bytes)) (names : List (Bor Bytes)) (i : ℕ) : Type 0 where
  pub are : AreIn gone (lent_texts (take i names))
  pub rest : IsTrue (is_sorted byte_cmp refs) → AreKnown refs names i

-- a ref that is found is held
pub held_unless : (refs : List Ref) (name : Bytes) (found : Option Name) → FindsObject refs name found → (b : Bool) → is_some found ≡ not b → is_ref_held refs name ≡ not b
held_unless refs name found finds b e = ap is_some (sym finds) ∙ by found ∙ e where
  by : (o : Option Name) → is_some (bytes_if o) ≡ is_some o
  by None = refl
  by (Some object) = refl

-- whether a name is among some that are lent
pub among_lent : (names : List (Bor Bytes)) (name : Bytes) {b : Bool} → b ≡ list_any (λ (n : Bor Bytes). same_bytes n.now name) names → is_among (lent_texts names) name ≡ b
among_lent names name e = by names ∙ sym e where
  by : (ns : List (Bor Bytes)) → is_among (lent_texts ns) name ≡ list_any (λ (n : Bor Bytes). same_bytes n.now name) ns
  by [] = refl
  by (n ∷ ns) = ap (λ b. same_bytes n.now name || b) (by ns)

pub not_true : (b : Bool) → not b ≡ true → b ≡ false
not_true false e = refl
not_true true e = absurd (true≢false (sym e))

pub not_false : (b : Bool) → not b ≡ false → b ≡ true
not_false true e = refl
not_false false e = absurd (true≢false e)

-- one name more
among_push : (names : List Bytes) (n name : Bytes) → is_among (names ++ n ∷ []) name ≡ cond (same_bytes n name) true (is_among names name)
among_push names n name = list_any-append (λ x. same_bytes x name) names (n ∷ []) ∙ by (is_among names name) (same_bytes n name) where
  by : (a b : Bool) → (a || (b || false)) ≡ cond b true a
  by true true = refl
  by true false = refl
  by false true = refl
  by false false = refl

abbrev lent : Bytes → Bor Bytes
lent name = record { ref_ptr = (0, 0); now = name }

-- the next name is held in a set, too
pub are_next : (held now : BTreeSet (Bor Bytes)) (names : List (Bor Bytes)) (i : ℕ) (d : Bor Bytes) → i < length names → AreIn held (lent_texts (take i names))
    → ((name : Bor Bytes) → is_entered now name.now ≡ cond (is_at (λ (n : Bor Bytes). byte_cmp (get_or names i d).now n.now) name) true (is_entered held name.now))
    → AreIn now (lent_texts (take (i + 1) names))
are_next held now names i d lt h g name =
    let next = get_or names i d in
    g (lent name) ∙ ap (λ b. cond b true (is_entered held name)) (is_eq-slice_cmp next.now name) ∙ ap (λ b. cond (same_bytes next.now name) true b) (h name)
    ∙ sym (ap (λ ns. is_among (lent_texts ns) name) (take_more names i d lt) ∙ ap (λ ns. is_among ns name) (map-append (λ (n : Bor Bytes). n.now) (take i names) (next ∷ [])) ∙ among_push (lent_texts (take i names)) next.now name)

-- ---- the refs that are left

-- These are the lines of the first refs whose names aren't in a set, and how many they are.
pub record AreLeft (gone : BTreeSet (Bor Bytes)) (refs : List (Bor Bytes × Name)) (lines : Bytes) (count i : ℕ) : Type 0 where
  pub spelled : lines ≡ flat_map stored_ref (not_entered gone (shown_refs (take i refs)))
  pub counted : count ≡ length (not_entered gone (shown_refs (take i refs)))
  pub bound : count ≤ length lines

module _ (gone : BTreeSet (Bor Bytes)) (refs : List (Bor Bytes × Name)) (lines : Bytes) (count i : ℕ) (d : Bor Bytes × Name) (lt : i < length refs) (a : AreLeft gone refs lines count i) where
  abbrev ref : Ref
  ref = shown_lent_ref (get_or refs i d)

  left_more : (b : Bool) → is_entered gone ref.0 ≡ b → not_entered gone (shown_refs (take (i + 1) refs)) ≡ not_entered gone (shown_refs (take i refs)) ++ cond (not b) (ref ∷ []) []
  left_more b e =
      ap (λ rs. not_entered gone (shown_refs rs)) (take_more refs i d lt) ∙ ap (not_entered gone) (map-append shown_lent_ref (take i refs) (get_or refs i d ∷ []))
      ∙ filter-append (λ ref. not (is_entered gone ref.0)) (shown_refs (take i refs)) (ref ∷ [])
      ∙ ap (λ t. not_entered gone (shown_refs (take i refs)) ++ cond (not t) (ref ∷ []) []) e

  -- the next one's name is
  pub left_out : is_entered gone ref.0 ≡ true → AreLeft gone refs lines count (i + 1)
  left_out e =
      let more = left_more true e ∙ append-nil (not_entered gone (shown_refs (take i refs))) in
      record { spelled = a.spelled ∙ ap (flat_map stored_ref) (sym more); counted = a.counted ∙ ap length (sym more); bound = a.bound }

  -- and where it isn't, its line follows
  pub left_in : is_entered gone ref.0 ≡ false → (new_lines : Bytes) (new_count : ℕ) → new_lines ≡ lines ++ stored_ref ref → new_count ≡ count + 1 → AreLeft gone refs new_lines new_count (i + 1)
  left_in e new_lines new_count f g =
      let more = left_more false e in
      let was = not_entered gone (shown_refs (take i refs)) in
      let long = ap length f ∙ length-append lines (stored_ref ref) in
      record {
        spelled = f ∙ ap (λ z. z ++ stored_ref ref) a.spelled ∙ ap (λ z. flat_map stored_ref was ++ z) (sym (append-nil (stored_ref ref))) ∙ sym (flat_map-append stored_ref was (ref ∷ [])) ∙ ap (flat_map stored_ref) (sym more);
        counted = g ∙ ap (λ n. n + 1) a.counted ∙ sym (ap length more ∙ length-append was (ref ∷ []));
        bound = omega (arith, long, g, a.bound, line_long ref [] (stored_ref ref) (sym (append-nil (stored_ref ref))));
      }

-- ---- a call

-- a name is unknown, or memory is wanting
pub none_dropped : (refs left : List Ref) (names : List Bytes) (fault : DropFault) → TellsUnknown {T = Unit {0}} refs names (Err fault) → Drops refs left names (Err fault)
none_dropped refs left names OutOfMemory h = tt
none_dropped refs left names (UnknownRef number) h = one_unknown names refs number h

pub none_hidden : (refs : List Ref) (names : List Bytes) (fault : DropFault) → TellsUnknown {T = Unit {0}} refs names (Err fault) → HidesNoUnknown refs names (Err fault)
none_hidden refs names OutOfMemory h = subst IsOk (sym (none_unknown names refs h)) refl
none_hidden refs names (UnknownRef number) h = tt
