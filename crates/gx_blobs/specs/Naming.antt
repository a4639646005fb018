-- What a source and a sink see of naming blobs. A store is seen by the names that its namer gives, and a sink by what it took before
-- the call and after it.
use Rattle.std.specs.Prelude.{ℕ, Option, Result}
use Rattle.std.specs.Option.{option_map}
use Rattle.gx_model.specs.declared.objects.Kind.{Kind}
use Rattle.gx_model.specs.Texts.{Bytes}
use Rattle.gx_model.specs.Texts.Sinks.{Taken}
use Rattle.gx_text.specs.Devices.{Coming}
use Rattle.gx_stream.specs.Heard.{items_from}
use Rattle.gx_stream.specs.Reading.{MayCome, Seen}
use Rattle.gx_blobs.specs.Printing.{PrintsBlobs, PrintsItems}
use Rattle.gx_blobs.specs.declared.blob_names.BlobsFault.{BlobsFault}

module _ {N W : Type 0} (name_of : N → Kind → Bytes → Bytes) (taken : W → Option Taken) where
  -- the names of the blobs of the items that are still to come go out
  abbrev pub NamesItems : N → Seen → W → W → Result ℕ BlobsFault → Type 0
  NamesItems namer reader old new answer =
      PrintsItems (name_of namer) (MayCome reader) reader.stream (taken old) (taken new) answer

  -- the names of the blobs of a source's stream go out
  abbrev pub NamesBlobs : N → Option Coming → W → W → Result ℕ BlobsFault → Type 0
  NamesBlobs namer coming old new answer =
      PrintsBlobs (name_of namer) (option_map items_from coming) (taken old) (taken new) answer
