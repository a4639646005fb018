-- The front of a text that is told, or why there is none.
use Rattle.std.proofs.Common.{◌≡◌, ℕ, ◌-◌, ◌≤◌, codes, length, Option, Some, None, Ok, Err, sym, ap, ◌∙◌, arith}
use Rattle.std.proofs.lemmas.List.{length-append}
use Rattle.gx_model.specs.declared.store_faults.FileFault.{FileFault}
use Rattle.gx_model.specs.declared.store_versions.Version.{Version}
use Rattle.gx_model.specs.Objects.{line}
use Rattle.gx_model.specs.Texts.{Bytes}
use Rattle.gx_model.specs.Texts.Numbers.{number_text}
use Rattle.gx_model.specs.Stores.StoreReading.{after_magic, stored_count}
use Rattle.gx_model.specs.Stores.StoreText.{version_text}
use Rattle.gx_model.proofs.Stores.StoreTexts.{count_of, magic_of}
use Rattle.gx_objects.specs.declared.fault.LookFault.{LookFault}
use Rattle.gx_objects.specs.declared.fault.LookFault.TheVariants.{Damaged}
use Rattle.gx_plain.specs.Reading.{IsFrontAt}
use Rattle.gx_plain.specs.Starts.{ReadsStart}
use Rattle.gx_plain.proofs.StartLines.{no_magic, no_objects, start_at, start_there}

-- other faults tell nothing of the text
pub unknown_start : (told : Option Bytes) (why : LookFault) → (why ≡ Damaged → ⊥) → ReadsStart told (Err why)
unknown_start None why other = tt
unknown_start (Some text) why other = λ same. absurd (other same)

pub no_magic_told : (told : Option Bytes) (room : Bytes) → IsFrontAt told 0 64 room → (why : FileFault) → after_magic room ≡ Err why → ReadsStart told (Err Damaged)
no_magic_told None room front why e = tt
no_magic_told (Some text) room front why e = λ same. no_magic text 64 why (omega arith) (ap after_magic (sym front) ∙ e)

module _ (room : Bytes) (x : Version × Bytes) (magic : after_magic room ≡ Ok x) where
  pub no_objects_told : (told : Option Bytes) → IsFrontAt told 0 64 room → (why : FileFault) → stored_count (codes "objects") x.1 ≡ Err why → ReadsStart told (Err Damaged)
  no_objects_told None front why e = tt
  no_objects_told (Some text) front why e = λ same. no_objects text 64 x (ap after_magic (sym front) ∙ magic) why (omega arith) e

  module _ (y : ℕ × Bytes) (objects : stored_count (codes "objects") x.1 ≡ Ok y) where
    -- what follows both lines is a part of what was read
    pub start_fits : length y.1 ≤ length room
    start_fits =
        let a = ap length (magic_of room x magic) ∙ length-append (line (codes "gxstore") (version_text x.0)) x.1 in
        let b = ap length (count_of (codes "objects") x.1 y objects) ∙ length-append (line (codes "objects") (number_text y.0)) y.1 in
        omega arith

    pub start_told : (told : Option Bytes) → IsFrontAt told 0 64 room → (place : ℕ) → place ≡ length room - length y.1 → ReadsStart told (Ok (record { version = x.0; count = y.0; place = place }))
    start_told None front place p = tt
    start_told (Some text) front place p =
        let first = ap after_magic (sym front) ∙ magic in
        let at = start_at text 64 x first y place objects (p ∙ ap (λ z. length z - length y.1) front) in
        record { lines = start_there text 64 x first y objects ∙ ap (λ z. Ok (x.0, (y.0, z))) at.0; within = at.1 }
