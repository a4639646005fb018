-- What stands behind the records of a text that is told, or why it isn't read.
use Rattle.std.proofs.Common.{◌≡◌, ℕ, ◌-◌, ◌≤◌, false, List, codes, length, drop, Option, Some, None, Ok, Err, refl, sym, ap, ◌∙◌, arith}
use Rattle.std.proofs.lemmas.List.{length-append}
use Rattle.gx_model.specs.declared.objects.Kind.{Kind}
use Rattle.gx_model.specs.declared.store_faults.FileFault.{FileFault}
use Rattle.gx_model.specs.declared.store_versions.Version.{Version}
use Rattle.gx_model.specs.Texts.{Bytes}
use Rattle.gx_model.specs.Texts.Numbers.{number_text}
use Rattle.gx_model.specs.Objects.{IsNamer, line}
use Rattle.gx_model.specs.Stores.StoreReading.{stored_count}
use Rattle.gx_model.proofs.Stores.StoreTexts.{count_of}
use Rattle.gx_listed.specs.Listings.{Listed}
use Rattle.gx_look.specs.Refs.{PassesRefs}
use Rattle.gx_plain.proofs.RoomsRead.{end_there}
use Rattle.gx_objects.specs.declared.fault.LookFault.{LookFault}
use Rattle.gx_objects.specs.declared.fault.LookFault.TheVariants.{Damaged}
use Rattle.gx_plain.specs.Refs.{ReadsTail, TestsTargets}
use Rattle.gx_plain.specs.declared.refs.Tail.{Tail}
use Rattle.gx_plain.proofs.TailsOfRefs.{no_count, not_passed, read_behind, refused_behind, spelled_refs}

-- the lines of refs stand at the end of what was read
pub lines_last : (room : Bytes) (count : ℕ) (lines : Bytes) → stored_count (codes "refs") room ≡ Ok (count, lines) → (length lines ≤ length room) × (drop (length room - length lines) room ≡ lines)
lines_last room count lines e =
    let first = line (codes "refs") (number_text count) in
    let spelled = count_of (codes "refs") room (count, lines) e in
    let long = ap length spelled ∙ length-append first lines in
    (omega arith, end_there room first lines spelled)

module _ (A : Type 0) (name : Kind → Bytes → Bytes) (namer : IsNamer name) (v : Version) (listed : List Listed) (place : ℕ) (room : Bytes) where
  -- other faults tell nothing of the text
  pub unknown_tail : (told : Option Bytes) (why : LookFault) → (why ≡ Damaged → ⊥) → ReadsTail name v {A = A} told listed place (Err why)
  unknown_tail None why h = tt
  unknown_tail (Some text) why h = λ rs told same. absurd (h same)

  pub no_count_told : (told : Option Bytes) (rest : (text : Bytes) → told ≡ Some text → room ≡ drop place text) (why : FileFault) → stored_count (codes "refs") room ≡ Err why → ReadsTail name v {A = A} told listed place (Err Damaged)
  no_count_told None rest why e = tt
  no_count_told (Some text) rest why e = λ rs told same. no_count rs (drop place text) why (ap (stored_count (codes "refs")) (sym (rest text refl)) ∙ e)

  module _ (count : ℕ) (lines : Bytes) (counted : stored_count (codes "refs") room ≡ Ok (count, lines)) where
    pub not_passed_told : (told : Option Bytes) (rest : (text : Bytes) → told ≡ Some text → room ≡ drop place text) → PassesRefs count lines false → ReadsTail name v {A = A} told listed place (Err Damaged)
    not_passed_told None rest h = tt
    not_passed_told (Some text) rest h = λ rs told same. not_passed rs (drop place text) count lines (ap (stored_count (codes "refs")) (sym (rest text refl)) ∙ counted) name namer told.sound h

    pub targets_told : (told : Option Bytes) (rest : (text : Bytes) → told ≡ Some text → room ≡ drop place text) (why : LookFault) → TestsTargets name v told listed count lines (Err why) → ReadsTail name v {A = A} told listed place (Err why)
    targets_told None rest why h = tt
    targets_told (Some text) rest why h = λ rs told same. refused_behind rs (drop place text) count lines (ap (stored_count (codes "refs")) (sym (rest text refl)) ∙ counted) (h rs told same)

    pub tail_told : (told : Option Bytes) (rest : (text : Bytes) → told ≡ Some text → room ≡ drop place text) → TestsTargets name v told listed count lines (Ok tt) → (tail : Tail A) → drop tail.refs tail.text.items ≡ lines
        → ReadsTail name v told listed place (Ok tail)
    tail_told None rest h tail e = tt
    tail_told (Some text) rest h tail e = λ rs told.
        let t = h rs told in
        let here = ap (stored_count (codes "refs")) (sym (rest text refl)) ∙ counted in
        let spelled = spelled_refs rs (drop place text) count lines here name namer told.sound t.0 t.1 in
        (t.0, read_behind rs (drop place text) count lines here t.0 t.1, e ∙ spelled.spelled)
