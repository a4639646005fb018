-- Refs that have none of some names, the same at two times.
use Rattle.std.proofs.Common.{◌≡◌, ℕ, ◌+◌, ◌<◌, ◌≤◌, Bool, true, false, List, [], ◌∷◌, length, drop, get_or, sym, ap, ap₂, ◌∙◌, drop_of_length-le}
use Rattle.std.specs.Prelude.{Option, None, Some, is_some, not}
use Rattle.std.specs.Borrow.{Bor}
use Rattle.std.specs.BTreeSet.{BTreeSet}
use Rattle.std.specs.Cmp.Lexicographic.{pointwise}
use Rattle.std.proofs.lemmas.Bool.{true≢false}
use Rattle.std.proofs.lemmas.List.{drop_more}
use Rattle.gx_model.specs.Records.Publishing.{Ref}
use Rattle.gx_model.specs.Texts.{Bytes}
use Rattle.gx_object.specs.declared.name.Name.{Name}
use Rattle.gx_push.specs.Pushes.{are_kept, same_ref}
use Rattle.gx_push.proofs.OtherRefs.{met, passed}
use Rattle.gx_ref_lines.specs.Refs.{shown_refs}
use Rattle.gx_repo.specs.Dropping.{AreIn, is_among, is_entered, without}
use Rattle.gx_repo.specs.Refs.{shown_lent_ref}
use Rattle.gx_growing_push.specs.Settling.{TellsOther, others_from}

abbrev Lent : Type 0
Lent = Bor Bytes × Name

-- any ref
past : Lent
past = (record { ref_ptr = (0, 0); now = [] }, record { bytes = [] })

module _ (others : List Bytes) (refs : List Lent) (i : ℕ) (d : Lent) (lt : i < length refs) where
  abbrev ref : Ref
  ref = shown_lent_ref (get_or refs i d)

  at_next : shown_refs (drop i refs) ≡ ref ∷ shown_refs (drop (i + 1) refs)
  at_next = ap shown_refs (drop_more refs i d lt)

  -- one that has such a name is passed
  passes : is_among others ref.0 ≡ true → others_from others refs i ≡ others_from others refs (i + 1)
  passes e = ap (without others) at_next ∙ passed others ref (shown_refs (drop (i + 1) refs)) e

  -- and another is the first of those that are left
  meets : is_among others ref.0 ≡ false → others_from others refs i ≡ ref ∷ others_from others refs (i + 1)
  meets e = ap (without others) at_next ∙ met others ref (shown_refs (drop (i + 1) refs)) e

-- what stands at a place is so whatever stands past the last
one_there : (refs : List Lent) (i : ℕ) (d e : Lent) → i < length refs → get_or refs i d ≡ get_or refs i e
one_there refs i d e lt =
    let both : (get_or refs i d ∷ drop (i + 1) refs) ≡ (get_or refs i e ∷ drop (i + 1) refs) = sym (drop_more refs i d lt) ∙ drop_more refs i e lt in
    cc both

-- ---- the first one from a place on

-- whatever names are in the set, this is the first of the others from a place on
abbrev pub FindsOther : BTreeSet (Bor Bytes) → List Lent → ℕ → Option ℕ → Type 0
FindsOther names refs from found = (others : List Bytes) → AreIn names others → TellsOther others refs from found

-- those from another place on are the same
abbrev pub AreSameFrom : BTreeSet (Bor Bytes) → List Lent → ℕ → ℕ → Type 0
AreSameFrom names refs from i = (others : List Bytes) → AreIn names others → others_from others refs i ≡ others_from others refs from

module _ (names : BTreeSet (Bor Bytes)) (refs : List Lent) (from i : ℕ) (h : AreSameFrom names refs from i) (d : Lent) (lt : i < length refs) where
  pub one_found : is_entered names (get_or refs i d).0.now ≡ false → FindsOther names refs from (Some i)
  one_found e others are f =
      sym (h others are) ∙ meets others refs i f lt (ap (λ (r : Lent). is_among others r.0.now) (one_there refs i f d lt) ∙ sym (are (get_or refs i d).0.now) ∙ e)

  pub one_passed : is_entered names (get_or refs i d).0.now ≡ true → AreSameFrom names refs from (i + 1)
  one_passed e others are = sym (passes others refs i d lt (sym (are (get_or refs i d).0.now) ∙ e)) ∙ h others are

-- ---- the same at two times

-- whether the others from two places on are the same tells whether all are
abbrev pub AreSameLeft : BTreeSet (Bor Bytes) → List Lent → List Lent → ℕ → ℕ → Type 0
AreSameLeft names before after place i =
    (others : List Bytes) → AreIn names others
    → pointwise same_ref (others_from others before place) (others_from others after i) ≡ are_kept others (shown_refs before) (shown_refs after)

-- so they are, or aren't
abbrev AreSame : BTreeSet (Bor Bytes) → List Lent → List Lent → Bool → Type 0
AreSame names before after same = (others : List Bytes) → AreIn names others → same ≡ are_kept others (shown_refs before) (shown_refs after)

module _ (names : BTreeSet (Bor Bytes)) (before after : List Lent) (place i : ℕ) (h : AreSameLeft names before after place i) where
  module _ (d : Lent) (lt : i < length after) where
    -- the next one has such a name
    pub same_passed : is_entered names (get_or after i d).0.now ≡ true → AreSameLeft names before after place (i + 1)
    same_passed e others are =
        ap (pointwise same_ref (others_from others before place)) (sym (passes others after i d lt (sym (are (get_or after i d).0.now) ∙ e))) ∙ h others are

    -- it has none, and before there is no other
    pub none_met : is_entered names (get_or after i d).0.now ≡ false → FindsOther names before place None → AreSame names before after false
    none_met e finds others are =
        sym (ap₂ (pointwise same_ref) (finds others are) (meets others after i d lt (sym (are (get_or after i d).0.now) ∙ e))) ∙ h others are

  -- there is no next one
  pub all_met : length after ≤ i → (next : Option ℕ) → FindsOther names before place next → (b : Bool) → is_some next ≡ not b → AreSame names before after b
  all_met le next finds b e others are =
      by next (finds others are) b e ∙ ap (λ rs. pointwise same_ref (others_from others before place) (without others (shown_refs rs))) (sym (drop_of_length-le after le)) ∙ h others are
    where
      by : (next : Option ℕ) → TellsOther others before place next → (b : Bool) → is_some next ≡ not b → b ≡ pointwise same_ref (others_from others before place) []
      by None told true e = ap (λ rs. pointwise same_ref rs []) (sym told)
      by None told false e = absurd (true≢false (sym e))
      by (Some next) told true e = absurd (true≢false e)
      by (Some next) told false e = ap (λ rs. pointwise same_ref rs []) (sym (told past))
