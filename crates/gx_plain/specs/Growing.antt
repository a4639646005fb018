-- The growing text of a plain one.
use Rattle.std.specs.Prelude.{◌≡◌, Option, Result, Ok, Err}
use Rattle.sha2.specs.Sha256.{sha256}
use Rattle.gx_model.specs.declared.objects.Kind.{Kind}
use Rattle.gx_model.specs.Histories.{Records}
use Rattle.gx_model.specs.Texts.{Bytes}
use Rattle.gx_model.specs.Texts.Sinks.{Taken}
use Rattle.gx_model.specs.Stores.StoreReading.{store_of}
use Rattle.gx_growing.specs.GrowingText.{growing_text}
use Rattle.gx_kept.specs.Collecting.{Rewrites}
use Rattle.gx_kept.specs.Faults.{Stops}
use Rattle.gx_kept.specs.declared.fault.KeptFault.{KeptFault}
use Rattle.gx_kept.specs.declared.fault.KeptFault.TheVariants.{Damaged}
use Rattle.gx_plain.specs.Reading.{IsRefused}

-- the growing text of the repository of a text went out, which is read as that repository; or a front of it, or nothing where the text is
-- no repository's
abbrev pub Grows : (Kind → Bytes → Bytes) → Bytes → Option Taken → Option Taken → Result (Unit {0}) KeptFault → Type 0
Grows name text was now (Ok done) = (r : Records) × (store_of name text ≡ Ok r) × Rewrites {X = Unit {0}} name r was now (Ok done)
Grows name text was now (Err Damaged) = IsRefused (store_of name text) × (now ≡ was)
Grows name text was now (Err fault) = (r : Records) → store_of name text ≡ Ok r → Stops (growing_text sha256 r) was now fault
