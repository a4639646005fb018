-- A tree's body that is read entry by entry, up to the one with a component.
use Rattle.std.proofs.Common.{◌≡◌, Bool, true, false, cond, List, [], ◌∷◌, Option, Some, None, Result, Ok, Err, refl, sym, ap, ◌∙◌}
use Rattle.std.specs.Prelude.{OnErr}
use Rattle.std.specs.Option.{option_map}
use Rattle.gx_model.specs.declared.objects.Mode.{Mode}
use Rattle.gx_model.specs.Texts.{Bytes, same_bytes}
use Rattle.gx_model.specs.Objects.{Entry, IsTreeText}
use Rattle.gx_model.specs.Records.Walks.{entry_at}
use Rattle.gx_model.proofs.Texts.Cuts.{some_is}
use Rattle.gx_object.specs.declared.name.Name.{Name}
use Rattle.gx_rev.specs.Places.{place_of_entry, shown_place}
use Rattle.gx_questions.specs.Entries.{IsEntryIn, IsNoTree}

pub on_err : {T E : Type 0} (r : Result T E) (P : Type 0) → P → OnErr r P
on_err (Ok x) P p = tt
on_err (Err e) P p = p

-- where this is a tree's body, among the entries that are left is the first with a component
abbrev pub IsLeftOf : Bytes → Bytes → Option (List Entry) → Type 0
IsLeftOf body component left =
    (entries : List Entry) → IsTreeText entries body → (rest : List Entry) × (left ≡ Some rest) × (entry_at rest component ≡ entry_at entries component)

none_some : (rest : List Entry) (o : Option (List Entry)) → o ≡ None → o ≡ Some rest → ⊥
none_some rest None e f = cc
none_some rest (Some x) e f = cc

-- of some that are left there is one, and the others
parted : (e : Entry) (old new : Option (List Entry)) (rest : List Entry) → old ≡ option_map (λ left. e ∷ left) new → old ≡ Some rest → (left : List Entry) × (new ≡ Some left) × (e ∷ left ≡ rest)
parted e old None rest o s = absurd (none_some rest old o s)
parted e old (Some left) rest o s = (left, refl, some_is (e ∷ left) rest (sym o ∙ s))

module _ (body component : Bytes) where
  pub first_left : (left : Option (List Entry)) → ((entries : List Entry) → IsTreeText entries body → left ≡ Some entries) → IsLeftOf body component left
  first_left left only = λ entries text. (entries, only entries text, refl)

  -- at the end there is none
  pub left_end : (left : Option (List Entry)) → left ≡ Some [] → IsLeftOf body component left → IsEntryIn body component None
  left_end left e inside = λ entries text.
      let at = inside entries text in
      let same : [] ≡ at.0 = some_is [] at.0 (sym e ∙ at.1) in
      ap (option_map place_of_entry) (ap (λ z. entry_at z component) same ∙ at.2)

  -- what isn't read is no tree
  pub left_bad : (left : Option (List Entry)) → left ≡ None → IsLeftOf body component left → IsNoTree body
  left_bad left e inside = λ entries text. let at = inside entries text in none_some at.0 left e at.1

  module _ (e : Entry) (old new : Option (List Entry)) (one : old ≡ option_map (λ left. e ∷ left) new) (inside : IsLeftOf body component old) where
    -- the one with the component
    pub left_here : same_bytes component e.component ≡ true → (found : Mode × Name) → shown_place found ≡ place_of_entry e → IsEntryIn body component (Some found)
    left_here is found shows = λ entries text.
        let at = inside entries text in
        let p = parted e old new at.0 one at.1 in
        let here : entry_at (e ∷ p.0) component ≡ Some e = ap (λ b. cond b (Some e) (entry_at p.0 component)) is in
        ap Some shows ∙ ap (option_map place_of_entry) (sym here ∙ ap (λ z. entry_at z component) p.2 ∙ at.2)

    -- another
    pub left_next : same_bytes component e.component ≡ false → IsLeftOf body component new
    left_next other = λ entries text.
        let at = inside entries text in
        let p = parted e old new at.0 one at.1 in
        let later : entry_at (e ∷ p.0) component ≡ entry_at p.0 component = ap (λ b. cond b (Some e) (entry_at p.0 component)) other in
        (p.0, p.1, sym later ∙ ap (λ z. entry_at z component) p.2 ∙ at.2)
