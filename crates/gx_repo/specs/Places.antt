-- Where a name stands among records.
use Rattle.std.specs.Prelude.{◌≡◌, ℕ, ◌<◌, true, false, List, length, get_or}
use Rattle.gx_model.specs.Texts.{Bytes, same_bytes}
use Rattle.gx_model.specs.Histories.{Record}

-- the first record with this name is here
pub record IsPlace (records : List Record) (name : Bytes) (place : ℕ) : Type 0 where
  pub within : place < length records
  pub named : (past : Record) → same_bytes name (get_or records place past).name ≡ true
  pub earlier : (before : ℕ) (past : Record) → before < place → same_bytes name (get_or records before past).name ≡ false
