-- A mark that is set changes neither the progress text nor how many values there were at the start.
use Rattle.std.proofs.Common.{ℕ, Option, Some, None, refl}
use Rattle.gx_model.specs.declared.objects.Kind.{Kind}
use Rattle.gx_model.specs.Texts.{Bytes}
use Rattle.gx_model.specs.Histories.Values.{Value}
use Rattle.gx_model.specs.Histories.{Records}
use Rattle.gx_model.specs.Replay.{State, added, marked}
use Rattle.gx_import.specs.declared.tables.Tables.{Tables}
use Rattle.gx_import.specs.Standing.{Follows, Stands}

-- a value that is added and then marked
pub marked_follows : (name : Kind → Bytes → Bytes) {A : Type 0} (r : Records) (tables : Tables A) (s : State) (mark : Option ℕ) (v : Value) → Stands name r tables (marked mark v (added v s)) → Follows name r tables s (marked mark v (added v s))
marked_follows name r tables s None v h = record { stands = h; progress = refl; held = refl }
marked_follows name r tables s (Some n) v h = record { stands = h; progress = refl; held = refl }
