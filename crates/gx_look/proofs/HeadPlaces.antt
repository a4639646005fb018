-- The parts of a head, at their places.
use Rattle.std.proofs.Common.{◌≡◌, ◌+◌, ◌++◌, [], ◌∷◌, Bool, Option, Some, None, take, drop, refl, sym, ap, ◌∙◌, append_assoc}
use Rattle.std.specs.Prelude.{if◌then◌else◌}
use Rattle.std.specs.Option.{option_map}
use Rattle.std.proofs.Math.Seq.{drop-append-add, drop-drop}
use Rattle.std.proofs.lemmas.List.{take_at}
use Rattle.gx_model.specs.Texts.{Bytes}
use Rattle.gx_growing.specs.GrowingText.{IsHead, Slot, head_text, part, picked, picks_first}
use Rattle.gx_growing.specs.GrowingReading.{slot_in}
use Rattle.gx_growing_parts.specs.Shown.{shown_slot}
use Rattle.gx_growing_parts.specs.declared.head.Slot.{Slot as GivenSlot}
use Rattle.gx_look.specs.Heads.{slot_part}

-- a slot, and whether it is the first
abbrev beside : Bool → Slot → Bool × Slot
beside is_first slot = (is_first, slot)

module _ (pick first second : Bytes) (head : IsHead pick first second) where
  abbrev behind_first : Bytes
  behind_first = second ++ 10 ∷ []

  abbrev behind_pick : Bytes
  behind_pick = first ++ (10 ∷ behind_first)

  abbrev behind_line : Bytes
  behind_line = pick ++ (10 ∷ behind_pick)

  from_first : drop 12 (head_text pick first second) ≡ behind_pick
  from_first =
      sym (drop-drop 2 10 (head_text pick first second))
      ∙ ap (λ n. drop (n + 1) behind_line) (sym head.one_byte)
      ∙ drop-append-add pick (10 ∷ behind_pick) 1

  pub pick_there : take 1 (drop 10 (head_text pick first second)) ≡ pick
  pick_there = take_at pick (10 ∷ behind_pick) 1 head.one_byte

  -- the same, where more follows the head
  pub pick_before : (rest : Bytes) → take 1 (drop 10 (head_text pick first second ++ rest)) ≡ pick
  pick_before rest = ap (take 1) (append_assoc pick (10 ∷ behind_pick) rest) ∙ take_at pick ((10 ∷ behind_pick) ++ rest) 1 head.one_byte

  pub first_there : take 106 (drop 12 (head_text pick first second)) ≡ first
  first_there = ap (take 106) from_first ∙ take_at first (10 ∷ behind_first) 106 head.of_first

  pub second_there : take 106 (drop 119 (head_text pick first second)) ≡ second
  second_there =
      ap (take 106) (
      sym (drop-drop 107 12 (head_text pick first second))
      ∙ ap (drop 107) from_first
      ∙ ap (λ n. drop (n + 1) behind_pick) (sym head.of_first)
      ∙ drop-append-add first (10 ∷ behind_first) 1
      )
      ∙ take_at second (10 ∷ []) 106 head.of_second

  -- what is read of the slot's text that a head's byte picks is told of the head
  pub picks_told : (text : Bytes) (is_first : Bool) (slot : Bytes) (read : Option GivenSlot) → text ≡ head_text pick first second → is_first ≡ picks_first (part text 10 1) → slot ≡ slot_part text is_first
      → option_map shown_slot read ≡ slot_in slot → option_map (λ s. beside is_first (shown_slot s)) read ≡ option_map (beside (picks_first pick)) (slot_in (picked pick first second))
  picks_told text is_first slot read e b there r =
      let one = ap (λ z. part z 10 1) e ∙ pick_there in
      let of_first = ap (λ z. part z 12 106) e ∙ first_there in
      let of_second = ap (λ z. part z 119 106) e ∙ second_there in
      let same : is_first ≡ picks_first pick = b ∙ ap picks_first one in
      let is : slot ≡ picked pick first second = there ∙ (λ i. if same i then of_first i else of_second i) in
      twice is_first read ∙ (λ i. option_map (beside (same i)) ((r ∙ ap slot_in is) i))
    where
      twice : (b : Bool) (read : Option GivenSlot) → option_map (λ s. beside b (shown_slot s)) read ≡ option_map (beside b) (option_map shown_slot read)
      twice b (Some s) = refl
      twice b None = refl
