-- The parts of a store text of version 2, as they are written. Source: this project's own format.
use Rattle.std.specs.Borrow.{Bor}
use Rattle.std.specs.Prelude.{◌++◌, codes, length, List, Option, Result}
use Rattle.std.specs.List.{flat_map}
use Rattle.gx_model.specs.Texts.Numbers.{number_text}
use Rattle.gx_model.specs.declared.objects.Kind.{Kind}
use Rattle.gx_model.specs.declared.store_versions.Version.TheVariants.{Two}
use Rattle.gx_model.specs.Histories.{Records}
use Rattle.gx_model.specs.Objects.{line}
use Rattle.gx_model.specs.Stores.StoreText.{stored_record, stored_ref}
use Rattle.gx_model.specs.Texts.{Bytes}
use Rattle.gx_object.specs.declared.name.Name.{Name}
use Rattle.gx_model.specs.Texts.Sinks.{Taken}
use Rattle.gx_text.specs.declared.device.Failed.{Failed}
use Rattle.gx_file.specs.Sending.{Sent}

-- a record of this name
abbrev pub record_called : Name → Kind → Bytes → Bytes
record_called name kind body = stored_record Two (record { name = name.bytes; kind = kind; body = body })

-- a sink by what it took
module _ {W : Type 0} (taken : W → Option Taken) where
  -- the number of the records and the records go out
  abbrev pub SendsRecords : Records → W → W → Result (Unit {0}) Failed → Type 0
  SendsRecords repository old new result =
      Sent (line (codes "objects") (number_text (length repository.records)) ++ flat_map (stored_record Two) repository.records) (taken old) (taken new) result

  -- the number of the refs and the refs go out
  abbrev pub SendsRefs : Records → W → W → Result (Unit {0}) Failed → Type 0
  SendsRefs repository old new result = Sent (line (codes "refs") (number_text (length repository.refs)) ++ flat_map stored_ref repository.refs) (taken old) (taken new) result

  -- texts go out, one after the other
  abbrev pub SendsParts : List (Bor Bytes) → W → W → Result (Unit {0}) Failed → Type 0
  SendsParts parts old new result = Sent (flat_map (λ part. part.now) parts) (taken old) (taken new) result
