-- What stands in a file after each step of an append, done or torn.
use Rattle.std.proofs.Common.{◌≡◌, ◌⊎◌, inl, inr, ℕ, ◌+◌, ◌≤◌, Bool, true, false, not, cond, [], ◌∷◌, ◌++◌, length, take, drop, refl, sym, ◌∙◌, ap, subst, arith, append_assoc, length-append}
use Rattle.gx_model.specs.Texts.{Bytes}
use Rattle.gx_growing.specs.GrowingText.{IsHead, head_length, head_text, picked, picks_first}
use Rattle.gx_growing.proofs.ReadFronts.{head_long}
use Rattle.gx_append.specs.Devices.{Cut, Torn, written_at}
use Rattle.gx_append.specs.Appending.{IsBeforeOrAfter, Shows, Staged, slot_place}
use Rattle.gx_append.proofs.Pieces.{at_first, at_pick, at_second, behind_front, held_behind, held_middle, mark, to_first, to_first_long, to_second, to_second_long, torn_middle}

-- a slot is picked by its byte alone
by_pick : (pick first second : Bytes) (b : Bool) → picks_first pick ≡ b → picked pick first second ≡ cond b first second
by_pick pick first second b e = ap (λ t. cond t first second) e

either : (x b : Bool) → (x ≡ b) ⊎ (x ≡ not b)
either true true = inl refl
either true false = inr refl
either false true = inr refl
either false false = inl refl

module _ (is_first : Bool) (was : Bytes) where
  -- the head and the segments
  front_long : (segments file : Bytes) (s : Shows is_first was segments file) (ends : ℕ) → ends ≡ head_length + length segments → ends ≡ length (head_text s.pick s.first s.second ++ segments)
  front_long segments file s ends e =
      let a = length-append (head_text s.pick s.first s.second) segments in
      let b = head_long s.pick s.first s.second s.head in
      omega arith

  -- a file is as long as the text in it
  pub shows_long : (segments file : Bytes) (ends : ℕ) → Shows is_first was segments file → ends ≡ head_length + length segments → ends ≤ length file
  shows_long segments file ends s e =
      let a = length-append (head_text s.pick s.first s.second) (segments ++ s.behind) in
      let b = length-append segments s.behind in
      let h = head_long s.pick s.first s.second s.head in
      let l : length file ≡ length (head_text s.pick s.first s.second ++ (segments ++ s.behind)) = ap length s.spelled in
      omega arith

  -- what keeps the front of a file up to its end keeps what it shows
  front_kept : (segments old new : Bytes) (ends : ℕ) → ends ≡ head_length + length segments → Shows is_first was segments old → (ends ≤ length old → take ends new ≡ take ends old) → Shows is_first was segments new
  front_kept segments old new ends e s kept =
      let head = head_text s.pick s.first s.second in
      let is : old ≡ (head ++ segments) ++ s.behind = s.spelled ∙ sym (append_assoc head segments s.behind) in
      record {
        pick = s.pick;
        first = s.first;
        second = s.second;
        behind = drop ends new;
        spelled = behind_front (head ++ segments) s.behind new ends (front_long segments old s ends e) (subst (λ f. ends ≤ length f → take ends new ≡ take ends f) is kept)
            ∙ append_assoc head segments (drop ends new);
        head = s.head;
        picks = s.picks;
        slot_is = s.slot_is;
      }

  -- the segment is torn, or cut off
  pub segment_torn : (segments : Bytes) (ends count : ℕ) → ends ≡ head_length + length segments → (old new : Bytes) → Shows is_first was segments old → Torn ends count old new → Shows is_first was segments new
  segment_torn segments ends count e old new s torn = front_kept segments old new ends e s torn.before

  pub segment_cut : (segments : Bytes) (ends : ℕ) → ends ≡ head_length + length segments → (old new : Bytes) → Shows is_first was segments old → Cut ends old new → Shows is_first was segments new
  segment_cut segments ends e old new s kept = front_kept segments old new ends e s kept

  -- the segment stands there
  pub segment_held : (segments segment file : Bytes) (ends : ℕ) → ends ≡ head_length + length segments → Shows is_first was segments file → Shows is_first was (segments ++ segment) (written_at ends segment file)
  segment_held segments segment file ends e s =
      let head = head_text s.pick s.first s.second in
      let rest = drop (length segment) s.behind in
      let is : file ≡ (head ++ segments) ++ s.behind = s.spelled ∙ sym (append_assoc head segments s.behind) in
      record {
        pick = s.pick;
        first = s.first;
        second = s.second;
        behind = rest;
        spelled = ap (written_at ends segment) is ∙ held_behind (head ++ segments) s.behind segment ends (front_long segments file s ends e)
            ∙ append_assoc head segments (segment ++ rest) ∙ ap (λ z. head ++ z) (sym (append_assoc segments segment rest));
        head = s.head;
        picks = s.picks;
        slot_is = s.slot_is;
      }

  -- what is shown with a segment more is shown without it
  pub shows_less : (segments segment file : Bytes) → Shows is_first was (segments ++ segment) file → Shows is_first was segments file
  shows_less segments segment file s = record {
    pick = s.pick;
    first = s.first;
    second = s.second;
    behind = segment ++ s.behind;
    spelled = s.spelled ∙ ap (λ z. head_text s.pick s.first s.second ++ z) (append_assoc segments segment s.behind);
    head = s.head;
    picks = s.picks;
    slot_is = s.slot_is;
  }

-- the slot that isn't picked is another one
other_slot : (is_first : Bool) (was segments file : Bytes) (s : Shows is_first was segments file) (count : ℕ) (new : Bytes) → count ≡ 106 → Torn (slot_place (not is_first)) count file new
    → Shows is_first was segments new
other_slot true was segments file s count new n torn =
    let rest = segments ++ s.behind in
    let torn_is = subst (λ f. Torn 119 count f new) (s.spelled ∙ at_second s.pick s.first s.second rest) torn in
    let cut = torn_middle (to_second s.pick s.first) s.second (10 ∷ rest) new 119 count (to_second_long s.pick s.first s.head.one_byte s.head.of_first) (n ∙ sym s.head.of_second) torn_is in
    record {
      pick = s.pick;
      first = s.first;
      second = cut.0;
      behind = s.behind;
      spelled = cut.2 ∙ sym (at_second s.pick s.first cut.0 rest);
      head = record { one_byte = s.head.one_byte; of_first = s.head.of_first; of_second = cut.1 ∙ s.head.of_second };
      picks = s.picks;
      slot_is = by_pick s.pick s.first cut.0 true s.picks ∙ sym (by_pick s.pick s.first s.second true s.picks) ∙ s.slot_is;
    }
other_slot false was segments file s count new n torn =
    let rest = segments ++ s.behind in
    let after = 10 ∷ (s.second ++ (10 ∷ rest)) in
    let torn_is = subst (λ f. Torn 12 count f new) (s.spelled ∙ at_first s.pick s.first s.second rest) torn in
    let cut = torn_middle (to_first s.pick) s.first after new 12 count (to_first_long s.pick s.head.one_byte) (n ∙ sym s.head.of_first) torn_is in
    record {
      pick = s.pick;
      first = cut.0;
      second = s.second;
      behind = s.behind;
      spelled = cut.2 ∙ sym (at_first s.pick cut.0 s.second rest);
      head = record { one_byte = s.head.one_byte; of_first = cut.1 ∙ s.head.of_first; of_second = s.head.of_second };
      picks = s.picks;
      slot_is = by_pick s.pick cut.0 s.second false s.picks ∙ sym (by_pick s.pick s.first s.second false s.picks) ∙ s.slot_is;
    }

-- the slots stand in front of where segments begin
pub slot_fits : (is_first : Bool) (place : ℕ) → place ≡ slot_place is_first → place ≤ head_length
slot_fits true place e = omega (arith, e)
slot_fits false place e = omega (arith, e)

-- the slot is torn
pub slot_torn : (is_first : Bool) (was segments : Bytes) (place count : ℕ) → place ≡ slot_place (not is_first) → count ≡ 106 → (old new : Bytes) → Shows is_first was segments old → Torn place count old new
    → Shows is_first was segments new
slot_torn is_first was segments place count e n old new s torn = other_slot is_first was segments old s count new n (subst (λ m. Torn m count old new) e torn)

-- the slot stands there
pub slot_held : (is_first : Bool) (was segments slot segment file : Bytes) → length slot ≡ 106 → Shows is_first was (segments ++ segment) file
    → Staged is_first was segments slot segment (written_at (slot_place (not is_first)) slot file)
slot_held true was segments slot segment file n s =
    let rest = (segments ++ segment) ++ s.behind in
    record {
      shows = record {
        pick = s.pick;
        first = s.first;
        second = slot;
        behind = s.behind;
        spelled = ap (written_at 119 slot) (s.spelled ∙ at_second s.pick s.first s.second rest)
            ∙ held_middle (to_second s.pick s.first) s.second (10 ∷ rest) slot 119 (to_second_long s.pick s.first s.head.one_byte s.head.of_first) (n ∙ sym s.head.of_second)
            ∙ sym (at_second s.pick s.first slot rest);
        head = record { one_byte = s.head.one_byte; of_first = s.head.of_first; of_second = n };
        picks = s.picks;
        slot_is = by_pick s.pick s.first slot true s.picks ∙ sym (by_pick s.pick s.first s.second true s.picks) ∙ s.slot_is;
      };
      other = λ pick e. by_pick pick s.first slot false e;
    }
slot_held false was segments slot segment file n s =
    let rest = (segments ++ segment) ++ s.behind in
    record {
      shows = record {
        pick = s.pick;
        first = slot;
        second = s.second;
        behind = s.behind;
        spelled = ap (written_at 12 slot) (s.spelled ∙ at_first s.pick s.first s.second rest)
            ∙ held_middle (to_first s.pick) s.first (10 ∷ (s.second ++ (10 ∷ rest))) slot 12 (to_first_long s.pick s.head.one_byte) (n ∙ sym s.head.of_first)
            ∙ sym (at_first s.pick slot s.second rest);
        head = record { one_byte = s.head.one_byte; of_first = n; of_second = s.head.of_second };
        picks = s.picks;
        slot_is = by_pick s.pick slot s.second false s.picks ∙ sym (by_pick s.pick s.first s.second false s.picks) ∙ s.slot_is;
      };
      other = λ pick e. by_pick pick slot s.second true e;
    }

module _ (is_first : Bool) (was segments slot segment : Bytes) where
  abbrev P : Bytes → Type 0
  P = Staged is_first was segments slot segment

  -- what stands behind the byte that picks
  abbrev after : (file : Bytes) → P file → Bytes
  after file g = 10 ∷ (g.shows.first ++ (10 ∷ (g.shows.second ++ (10 ∷ ((segments ++ segment) ++ g.shows.behind)))))

  -- a file that has another byte in the place of this one
  other_pick : (file pick new : Bytes) (g : P file) → length pick ≡ 1 → new ≡ mark ++ (pick ++ after file g) → IsBeforeOrAfter is_first was segments slot segment new
  other_pick file pick new g one e =
      let s = g.shows in
      let spelled : new ≡ head_text pick s.first s.second ++ ((segments ++ segment) ++ s.behind) = e ∙ sym (at_pick pick s.first s.second ((segments ++ segment) ++ s.behind)) in
      let head : IsHead pick s.first s.second = record { one_byte = one; of_first = s.head.of_first; of_second = s.head.of_second } in
      elim (either (picks_first pick) is_first) [
        | inl stays ↦
            inl (shows_less is_first was segments segment new (record {
              pick = pick;
              first = s.first;
              second = s.second;
              behind = s.behind;
              spelled = spelled;
              head = head;
              picks = stays;
              slot_is = by_pick pick s.first s.second is_first stays ∙ sym (by_pick s.pick s.first s.second is_first s.picks) ∙ s.slot_is;
            }))
        | inr turns ↦
            inr (record {
              pick = pick;
              first = s.first;
              second = s.second;
              behind = s.behind;
              spelled = spelled;
              head = head;
              picks = turns;
              slot_is = g.other pick turns;
            })
      ]

  -- the text is as before while the byte stays
  pub before_stays : (file : Bytes) → P file → IsBeforeOrAfter is_first was segments slot segment file
  before_stays file g = inl (shows_less is_first was segments segment file g.shows)

  -- the byte stands in the file
  pub pick_long : (file : Bytes) → P file → 10 ≤ length file
  pick_long file g = let l = shows_long is_first was (segments ++ segment) file (head_length + length (segments ++ segment)) g.shows refl in omega arith

  -- the byte is torn
  pub pick_torn : (file new : Bytes) → P file → Torn 10 1 file new → IsBeforeOrAfter is_first was segments slot segment new
  pick_torn file new g torn =
      let s = g.shows in
      let torn_is = subst (λ f. Torn 10 1 f new) (s.spelled ∙ at_pick s.pick s.first s.second ((segments ++ segment) ++ s.behind)) torn in
      let cut = torn_middle mark s.pick (after file g) new 10 1 refl (sym s.head.one_byte) torn_is in
      other_pick file cut.0 new g (cut.1 ∙ s.head.one_byte) cut.2

  -- it is written
  pub pick_held : (file : Bytes) → P file → (byte : ℕ) → picks_first (byte ∷ []) ≡ not is_first → Shows (not is_first) slot (segments ++ segment) (written_at 10 (byte ∷ []) file)
  pick_held file g byte turns =
      let s = g.shows in
      let rest = (segments ++ segment) ++ s.behind in
      record {
        pick = byte ∷ [];
        first = s.first;
        second = s.second;
        behind = s.behind;
        spelled = ap (written_at 10 (byte ∷ [])) (s.spelled ∙ at_pick s.pick s.first s.second rest) ∙ held_middle mark s.pick (after file g) (byte ∷ []) 10 refl (sym s.head.one_byte)
            ∙ sym (at_pick (byte ∷ []) s.first s.second rest);
        head = record { one_byte = refl; of_first = s.head.of_first; of_second = s.head.of_second };
        picks = turns;
        slot_is = g.other (byte ∷ []) turns;
      }
