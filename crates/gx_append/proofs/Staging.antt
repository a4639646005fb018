-- What stands on a device while a segment and its slot are written, and where they are cut off again.
use Rattle.std.proofs.Common.{◌≡◌, inr, ℕ, ◌+◌, ◌≤◌, ◌<◌, Bool, not, ◌++◌, length, take, refl, sym, ◌∙◌, subst, arith, Some, Ok, Err}
use Rattle.std.specs.Prelude.{Option}
use Rattle.std.proofs.lemmas.List.{length-take-le, take-take}
use Rattle.gx_model.specs.Texts.{Bytes}
use Rattle.gx_growing.specs.GrowingText.{head_length}
use Rattle.gx_append.specs.Devices.{Answer, CountsFaults, Cut, Cuts, CutsTo, FailsFor, Follows, OnlyText, Torn, Writes, most_faults, written_at}
use Rattle.gx_append.specs.Appending.{IsAsked, IsCutBack, IsTold, Shows, Staged, slot_place}
use Rattle.gx_append.proofs.Moments.{Known, Time}
use Rattle.gx_append.proofs.Shown.{segment_cut, segment_held, segment_torn, shows_long, slot_fits, slot_held, slot_torn}
use Rattle.gx_append.proofs.Steps.{Has, has, has_cut, has_written, writes_held}

-- what is asked of a text is asked of it still
pub asked_still : (told new : Option Bytes) (is_first : Bool) (ends : ℕ) (slot was segments : Bytes) → new ≡ told → IsAsked told is_first ends slot was segments → IsAsked new is_first ends slot was segments
asked_still told new is_first ends slot was segments e asked = record { file = asked.file; is = e ∙ asked.is; shows = asked.shows; ends_are = asked.ends_are; long = asked.long }

module _ {D : Type 0} (k : Known D) (begun : D) (is_first : Bool) (ends : ℕ) (slot was segments : Bytes) (asked : IsAsked (k.text begun) is_first ends slot was segments) where
  abbrev S : Bytes → Type 0
  S = Shows is_first was segments

  ends_fit : (file : Bytes) → S file → ends ≤ length file
  ends_fit file s = shows_long is_first was segments file ends s asked.ends_are

  place_fits : (place : ℕ) → place ≡ slot_place (not is_first) → (segments file : Bytes) → Shows is_first was segments file → place ≤ length file
  place_fits place e all file s =
      let a = shows_long is_first was all file (head_length + length all) s refl in
      let b = slot_fits (not is_first) place e in
      omega arith

  -- before
  pub at_first : OnlyText (k.text begun) (k.may_leave begun) → Has k begun begun S
  at_first durable = has k begun S asked.file durable asked.is asked.shows

  -- behind the segment, whether it is written or not
  pub after_segment : (new : D) (segment : Bytes) (result : Answer) → OnlyText (k.text begun) (k.may_leave begun) → Writes ends segment result (k.text begun) (k.text new)
      → Follows (Torn ends (length segment)) (k.may_leave begun) (k.may_leave new) → Time k begun new → Has k begun new S
  after_segment new segment result durable writes follows time =
      has_written k begun begun new S S ends segment result ends_fit (λ c s. s) (segment_torn is_first was segments ends (length segment) asked.ends_are) (at_first durable) writes follows time

  -- behind the slot
  pub after_slot : (old new : D) (place : ℕ) (result : Answer) → place ≡ slot_place (not is_first) → Has k begun old S → Writes place slot result (k.text old) (k.text new)
      → Follows (Torn place (length slot)) (k.may_leave old) (k.may_leave new) → Time k old new → Has k begun new S
  after_slot old new place result e h writes follows time =
      has_written k begun old new S S place slot result (place_fits place e segments) (λ c s. s) (slot_torn is_first was segments place (length slot) e asked.long) h writes follows time

  -- both are written
  pub both_held : (mid new : Option Bytes) (segment : Bytes) (place : ℕ) → place ≡ slot_place (not is_first) → Writes ends segment (Ok tt) (k.text begun) mid → Writes place slot (Ok tt) mid new
      → IsTold new (Staged is_first was segments slot segment)
  both_held mid new segment place e first second =
      let file = asked.file in
      let one = written_at ends segment file in
      let one_told : mid ≡ Some one = writes_held ends segment (k.text begun) mid file asked.is (ends_fit file asked.shows) first in
      let shows = segment_held is_first was segments segment file ends asked.ends_are asked.shows in
      let two_told : new ≡ Some (written_at place slot one) = writes_held place slot mid new one one_told (place_fits place e (segments ++ segment) one shows) second in
      let staged = slot_held is_first was segments slot segment one asked.long shows in
      (written_at place slot one, two_told, subst (λ m. Staged is_first was segments slot segment (written_at m slot one)) (sym e) staged)

  -- behind a cut
  pub after_cut : (first old new : D) (result : Answer) → Has k first old S → Cuts ends result (k.text old) (k.text new) → Follows (Cut ends) (k.may_leave old) (k.may_leave new) → Time k old new → Has k first new S
  after_cut first old new result h cuts follows time = has_cut k first old new S ends result ends_fit (segment_cut is_first was segments ends asked.ends_are) h cuts follows time

-- a cut that doesn't fail
pub cut_back : (is_first : Bool) (ends : ℕ) (was segments : Bytes) (before told new : Option Bytes) (result : Answer) (a b : ℕ) → ends ≡ head_length + length segments → IsTold told (Shows is_first was segments)
    → Cuts ends result told new → FailsFor told a b result → b < most_faults → b ≤ a → IsCutBack before new is_first was segments
cut_back is_first ends was segments before told new result a b e t cuts fails counted few =
    let file = t.0 in
    let fit = shows_long is_first was segments file ends t.2 e in
    by result (subst (λ o. Cuts ends result o new) t.1 cuts fit) (subst (λ o. FailsFor o a b result) t.1 fails)
  where
    by : (r : Answer) → CutsTo ends r t.0 new → CountsFaults a b r → IsCutBack before new is_first was segments
    by (Ok done) w counts =
        let fit = shows_long is_first was segments t.0 ends t.2 e in
        inr (take ends t.0, w, (segment_cut is_first was segments ends e t.0 (take ends t.0) t.2 (λ le. take-take ends ends t.0 (omega arith)), length-take-le ends t.0 fit ∙ e))
    by (Err error) w counts = let more = counts.failed refl counted in absurd (omega arith)
