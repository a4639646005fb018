-- How many bytes the bodies of what is saved have.
use Rattle.std.proofs.Common.{◌+◌, ◌≤◌, List, [], ◌∷◌, ◌++◌, length, Result, Ok, Err, arith}
use Rattle.std.specs.Prelude.{OnOk}
use Rattle.gx_model.specs.Histories.{Record}
use Rattle.gx_salvage_refs.specs.Saved.{body_bytes}

-- one more has the bytes of its body
pub bytes_with : (rs : List Record) (x : Record) → body_bytes (rs ++ x ∷ []) ≤ body_bytes rs + length x.body
bytes_with [] x = omega arith
bytes_with (r ∷ rs) x = let h = bytes_with rs x in omega (arith, h)

pub if_ok : {T E : Type 0} (r : Result T E) (P : Type 0) → P → OnOk r P
if_ok (Ok x) P p = p
if_ok (Err e) P p = tt
