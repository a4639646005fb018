-- Opening a growing text: its slot, its tail, and what these tell.
use Rattle.std.proofs.Common.{◌≡◌, ◌+◌, ◌-◌, ◌<◌, ◌≤◌, ◌^◌, List, ◌++◌, length, take, drop, codes, Option, Some, None, Ok, Err, refl, sym, ap, ◌∙◌, subst, arith, append_assoc}
use Rattle.std.specs.Prelude.{Bool, Result}
use Rattle.std.specs.List.{flat_map}
use Rattle.std.specs.Option.{option_map}
use Rattle.std.specs.Result.{result_ok}
use Rattle.std.proofs.Math.Seq.{drop-append_seam}
use Rattle.std.proofs.lemmas.List.{drop-take, length-append, take_at}
use Rattle.sha2.specs.Sha256.{sha256}
use Rattle.gx_model.specs.declared.objects.Kind.{Kind}
use Rattle.gx_model.specs.Texts.{Bytes}
use Rattle.gx_model.specs.Texts.Numbers.{number_text}
use Rattle.gx_model.specs.Objects.{IsNamer, line}
use Rattle.gx_model.specs.Histories.{Records}
use Rattle.gx_model.specs.Stores.StoreReading.{stored_count}
use Rattle.gx_model.proofs.Texts.Cuts.{some_is}
use Rattle.gx_model.proofs.Stores.StoreTexts.{count_read}
use Rattle.gx_at.specs.Reads.{StandsAt, part}
use Rattle.gx_growing.specs.GrowingText.{Run, Slot, head_text, picks_first, run_text, tail_text}
use Rattle.gx_growing.specs.GrowingReading.{Front, Grown, grown_of, head_of}
use Rattle.gx_growing.proofs.ReadFronts.{head_long, head_of_text}
use Rattle.gx_growing_parts.specs.Shown.{shown_slot}
use Rattle.gx_objects.specs.declared.fault.LookFault.{LookFault}
use Rattle.gx_objects.specs.declared.fault.LookFault.TheVariants.{Damaged}
use Rattle.gx_look.specs.declared.head.Picked.{Picked}
use Rattle.gx_look.specs.declared.tail.Tail.{Tail}
use Rattle.gx_look.specs.Heads.{PicksSlot, TellsSlot, shown_picked}
use Rattle.gx_look.specs.Looking.{told_by}
use Rattle.gx_look.specs.Opened.{IsOpenedAs, IsPicked}
use Rattle.gx_look.specs.Reading.{EndsBefore, Gives}
use Rattle.gx_look.specs.Tails.{HoldsTail, LeadsTo, TellsTail, refs_text, runs_text}
use Rattle.gx_look.proofs.HeadPlaces.{pick_before}
use Rattle.gx_look.proofs.OpenedTexts.{is_told, one_front}

-- ---- the head

-- a head that was read of a text
module _ (text : Bytes) (x : Slot × Bytes) (e : head_of text ≡ Ok x) where
  head_is : (head : Bytes) → StandsAt (Some text) 0 head → length head ≡ 226 → let h = head_of_text text x e in head ≡ head_text h.pick h.first h.second
  head_is head there l =
      let h = head_of_text text x e in
      there ∙ ap (λ n. take n text) l ∙ ap (take 226) h.spelled ∙ take_at (head_text h.pick h.first h.second) x.1 226 (head_long h.pick h.first h.second h.head)

  head_whole : 226 ≤ length text
  head_whole =
      let h = head_of_text text x e in
      let a = ap length h.spelled ∙ length-append (head_text h.pick h.first h.second) x.1 in
      let b = head_long h.pick h.first h.second h.head in
      omega arith

  slot_is : (head : Bytes) (found : Option Picked) → StandsAt (Some text) 0 head → length head ≡ 226 → PicksSlot head found → option_map shown_picked found ≡ Some (picks_first (part text 10 1), x.0)
  slot_is head found there l picks =
      let h = head_of_text text x e in
      let pick : part text 10 1 ≡ h.pick = ap (λ z. part z 10 1) h.spelled ∙ pick_before h.pick h.first h.second h.head x.1 in
      picks h.pick h.first h.second h.head (head_is head there l)
      ∙ ap (option_map (λ slot. (picks_first h.pick, slot))) h.slot
      ∙ ap (λ z. Some (picks_first z, x.0)) (sym pick)

pub slot_some : (told : Option Bytes) (head : Bytes) (found : Picked) → StandsAt told 0 head → length head ≡ 226 → PicksSlot head (Some found) → TellsSlot told (Ok found)
slot_some None head found there l picks = tt
slot_some (Some text) head found there l picks = λ x e. some_is (shown_picked found) (picks_first (part text 10 1), x.0) (slot_is text x e head (Some found) there l picks)

pub slot_none : (told : Option Bytes) (head : Bytes) → StandsAt told 0 head → length head ≡ 226 → PicksSlot head None → TellsSlot told (Err Damaged)
slot_none None head there l picks = tt
slot_none (Some text) head there l picks = λ x e same. let i = slot_is text x e head None there l picks in cc

pub slot_cut : (told : Option Bytes) (fault : LookFault) → EndsBefore told 226 fault → TellsSlot told (Err fault)
slot_cut None fault h = tt
slot_cut (Some text) fault h = λ x e same. let a = h same in let b = head_whole text x e in absurd (omega arith)

-- ---- the tail

-- what is told of a tail is told of each text that has it
pub tail_told : {A : Type 0} (told : Option Bytes) (slot : Slot) (result : Result (Tail A) LookFault)
    → ((text : Bytes) → told ≡ Some text → (runs : List Run) (refs : List (Bytes × Bytes)) → LeadsTo text slot runs refs → Gives (HoldsTail runs refs) result) → TellsTail told slot result
tail_told None slot result h = tt
tail_told (Some text) slot result h = h text refl

-- what was read of a text from its tail on up to its end is the tail
pub tail_is : (text : Bytes) (slot : Slot) (runs : List Run) (refs : List (Bytes × Bytes)) → LeadsTo text slot runs refs → (room : Bytes) → StandsAt (Some text) slot.tail room → length room ≡ slot.ends - slot.tail
    → room ≡ tail_text runs refs
tail_is text slot runs refs h room there l =
    let b = h.begins in
    let whole : slot.tail + (slot.ends - slot.tail) ≡ slot.ends = omega arith in
    there ∙ ap (part text slot.tail) l ∙ sym (drop-take slot.tail (slot.ends - slot.tail) text) ∙ ap (λ n. drop slot.tail (take n text)) whole ∙ h.spelled

-- a tail's text has its runs in front
pub runs_first : (runs : List Run) (refs : List (Bytes × Bytes)) → tail_text runs refs ≡ runs_text runs (line (codes "refs") (number_text (length refs)) ++ refs_text refs)
runs_first runs refs = refl

-- the count of refs is read
pub refs_counted : (refs : List (Bytes × Bytes)) → length refs < 2 ^ 64 → stored_count (codes "refs") (line (codes "refs") (number_text (length refs)) ++ refs_text refs) ≡ Ok (length refs, refs_text refs)
refs_counted refs l = count_read (codes "refs") (length refs) (refs_text refs) tt l

-- what stands at the end of a text stands where the text is so much longer
pub end_there : (text front end : Bytes) → text ≡ front ++ end → drop (length text - length end) text ≡ end
end_there text front end e =
    let a = ap length e ∙ length-append front end in
    let b : length text - length end ≡ length front = omega arith in
    (λ i. drop (b i) (e i)) ∙ drop-append_seam front end

-- the refs of a tail stand at its end
pub refs_last : (runs : List Run) (refs : List (Bytes × Bytes)) → (front : Bytes) × (tail_text runs refs ≡ front ++ refs_text refs)
refs_last runs refs =
    let a = line (codes "runs") (number_text (length runs)) in
    let b = flat_map run_text runs in
    let c = line (codes "refs") (number_text (length refs)) in
    (a ++ (b ++ c), sym (append_assoc a (b ++ c) (refs_text refs) ∙ ap (λ z. a ++ z) (append_assoc b c (refs_text refs))))

-- ---- what was opened

module _ (name : Kind → Bytes → Bytes) (namer : IsNamer name) where
  -- the tail of the slot that is picked is the last one
  pub opened_last : {A : Type 0} (told : Option Bytes) (found : Picked) (tail : Tail A) → TellsSlot told (Ok found) → TellsTail told (shown_slot found.slot) (Ok tail) → IsOpenedAs name told found.slot.ends tail
  opened_last None found tail h g = tt
  opened_last (Some text) found tail h g = λ r grown x front.
      let slot = found.slot in
      let t = is_told name namer text r grown in
      let same : t.0 ≡ x = one_front t.0 x (sym t.1.front_is ∙ front) in
      let picked : shown_slot slot ≡ t.0.0 = ap (λ (z : Bool × Slot). z.1) (h (t.0.0, t.1.front.rest) t.1.front.head_is) in
      let leads : LeadsTo text (shown_slot slot) t.0.1.runs t.0.1.refs = subst (λ z. LeadsTo text z t.0.1.runs t.0.1.refs) (sym picked) t.1.leads in
      let holds = g t.0.1.runs t.0.1.refs leads in
      subst (λ (z : Slot × Front). (slot.ends ≡ z.0.ends) × HoldsTail z.1.runs z.1.refs tail) same (ap (λ (z : Slot). z.ends) picked, holds)

  -- so is the byte that picks it
  pub opened_pick : (told : Option Bytes) (found : Picked) → TellsSlot told (Ok found) → IsPicked name told found.is_first
  opened_pick None found h = tt
  opened_pick (Some text) found h = λ r grown.
      let t = is_told name namer text r grown in
      sym (ap (λ (z : Bool × Slot). z.0) (h (t.0.0, t.1.front.rest) t.1.front.head_is))

  -- only what tells no repository is damaged
  pub slot_untold : (told : Option Bytes) (fault : LookFault) → TellsSlot told (Err fault) → fault ≡ Damaged → told_by name told ≡ None
  slot_untold None fault h same = refl
  slot_untold (Some text) fault h same = by (grown_of name sha256 text) refl
    where
      by : (g : Grown Records) → grown_of name sha256 text ≡ g → result_ok g ≡ None
      by (Err f) e = refl
      by (Ok r) e = let t = is_told name namer text r e in absurd (h (t.0.0, t.1.front.rest) t.1.front.head_is same)

  pub tail_untold : (A : Type 0) (told : Option Bytes) (found : Picked) (fault : LookFault) → TellsSlot told (Ok found) → TellsTail {A = A} told (shown_slot found.slot) (Err fault) → fault ≡ Damaged → told_by name told ≡ None
  tail_untold A None found fault h g same = refl
  tail_untold A (Some text) found fault h g same = by (grown_of name sha256 text) refl
    where
      by : (w : Grown Records) → grown_of name sha256 text ≡ w → result_ok w ≡ None
      by (Err f) e = refl
      by (Ok r) e =
          let t = is_told name namer text r e in
          let picked : shown_slot found.slot ≡ t.0.0 = ap (λ (z : Bool × Slot). z.1) (h (t.0.0, t.1.front.rest) t.1.front.head_is) in
          absurd (g t.0.1.runs t.0.1.refs (subst (λ z. LeadsTo text z t.0.1.runs t.0.1.refs) (sym picked) t.1.leads) same)
