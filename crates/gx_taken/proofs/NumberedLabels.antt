-- The number of the first label of a name.
use Rattle.std.proofs.Common.{◌≡◌, ℕ, zero, suc, ◌+◌, ◌<◌, ◌≤◌, Bool, true, false, List, [], ◌∷◌, length, drop, get_or, refl, sym, ap, subst, ◌∙◌, drop_of_length-le}
use Rattle.std.specs.Prelude.{Some, IsTrue, ◌||◌, if◌then◌else◌}
use Rattle.std.specs.List.{slice_get}
use Rattle.std.proofs.lemmas.Bool.{true≢false}
use Rattle.std.proofs.lemmas.List.{drop_more}
use Rattle.std.proofs.lemmas.Option.{slice_get-get_or}
use Rattle.gx_model.specs.Texts.{Bytes, same_bytes}
use Rattle.gx_model.proofs.Texts.PathTests.{is_same, is_true}
use Rattle.gx_object.specs.declared.name.Name.{Name}
use Rattle.gx_placed.specs.declared.fault.ObjectFault.{ObjectFault}
use Rattle.gx_taken.specs.Calls.{IsUnplaced, object_refused}
use Rattle.gx_taken.specs.Parts.{is_named, shown_labels}
use Rattle.gx_taken.specs.Taking.{number_named}
use Rattle.gx_taken.specs.declared.fault.Refused.{Refused}
use Rattle.gx_taken.specs.declared.fault.TakeFault.TheVariants.{Item}
use Rattle.gx_taken.specs.declared.parts.Label.{Label}

module _ (labels : List Label) (called : Bytes) where
  -- none of the first ones has the name
  pub record AreOthers (i : ℕ) : Type 0 where
    pub number : number_named (shown_labels (drop i labels)) called ≡ number_named (shown_labels labels) called
    pub named : is_named (shown_labels (drop i labels)) called ≡ true

  number_next : (i : ℕ) (d : Label) (b : Bool) → i < length labels → same_bytes (get_or labels i d).name.bytes called ≡ b
      → number_named (shown_labels (drop i labels)) called ≡ (if b then (get_or labels i d).number else number_named (shown_labels (drop (i + 1) labels)) called)
  number_next i d b lt e =
      ap (λ ls. number_named (shown_labels ls) called) (drop_more labels i d lt)
      ∙ ap (λ t. if t then (get_or labels i d).number else number_named (shown_labels (drop (i + 1) labels)) called) e

  named_next : (i : ℕ) (d : Label) (b : Bool) → i < length labels → same_bytes (get_or labels i d).name.bytes called ≡ b
      → is_named (shown_labels (drop i labels)) called ≡ (b || is_named (shown_labels (drop (i + 1) labels)) called)
  named_next i d b lt e =
      ap (λ ls. is_named (shown_labels ls) called) (drop_more labels i d lt) ∙ ap (λ t. t || is_named (shown_labels (drop (i + 1) labels)) called) e

  pub first_others : is_named (shown_labels labels) called ≡ true → AreOthers 0
  first_others e = record { number = refl; named = e }

  pub next_others : (i : ℕ) (d : Label) → i < length labels → AreOthers i → same_bytes (get_or labels i d).name.bytes called ≡ false → AreOthers (i + 1)
  next_others i d lt h e = record { number = sym (number_next i d false lt e) ∙ h.number; named = sym (named_next i d false lt e) ∙ h.named }

  pub number_found : (i : ℕ) (d : Label) → i < length labels → AreOthers i → same_bytes (get_or labels i d).name.bytes called ≡ true → (get_or labels i d).number ≡ number_named (shown_labels labels) called
  number_found i d lt h e = sym (number_next i d true lt e) ∙ h.number

  pub never_absent : (i : ℕ) → length labels ≤ i → AreOthers i → ⊥
  never_absent i le h = true≢false (sym h.named ∙ ap (λ ls. is_named (shown_labels ls) called) (drop_of_length-le labels le))

-- a label has its own name
pub named_at : (labels : List Label) (at : ℕ) (label : Label) → slice_get labels at ≡ Some label → IsTrue (is_named (shown_labels labels) label.name.bytes)
named_at [] at label e = absurd (cc e)
named_at (l ∷ ls) zero label e =
    let is : l ≡ label = cc e in
    ap (λ b. b || is_named (shown_labels ls) label.name.bytes) (ap (λ (k : Label). same_bytes k.name.bytes label.name.bytes) is ∙ is_true _ (is_same label.name.bytes label.name.bytes refl))
named_at (l ∷ ls) (suc at) label e = by (same_bytes l.name.bytes label.name.bytes) (named_at ls at label e) where
  by : (b : Bool) → IsTrue (is_named (shown_labels ls) label.name.bytes) → IsTrue (b || is_named (shown_labels ls) label.name.bytes)
  by true h = refl
  by false h = h

abbrev pub no_label : Label
no_label = record { number = 0; name = record { bytes = [] } }

-- what is answered of the object at a place
pub unplaced_is : {A : Type 0} (labels : List Label) (at : ℕ) (d : Label) (name : Name) (against : ObjectFault) (number : ℕ) (kind : Refused A) → at < length labels → name ≡ (get_or labels at d).name
    → number ≡ number_named (shown_labels labels) name.bytes → kind ≡ object_refused name against → IsUnplaced labels at against (Item number kind)
unplaced_is {A} labels at d name against number kind lt is n k = λ label e.
    let same : get_or labels at d ≡ label = let both = sym (slice_get-get_or labels at d lt) ∙ e in cc both in
    let named : name ≡ label.name = is ∙ ap (λ (l : Label). l.name) same in
    λ i. Item ((n ∙ ap (λ (m : Name). number_named (shown_labels labels) m.bytes) named) i) ((k ∙ ap (λ (m : Name). object_refused {A = A} m against) named) i)

pub named_there : (labels : List Label) (at : ℕ) (d : Label) (name : Name) → at < length labels → name ≡ (get_or labels at d).name → IsTrue (is_named (shown_labels labels) name.bytes)
named_there labels at d name lt is = subst (λ (m : Name). IsTrue (is_named (shown_labels labels) m.bytes)) (sym is) (named_at labels at (get_or labels at d) (slice_get-get_or labels at d lt))
