-- The blob commands of a stream's items. Source: git-fast-import(1), "blob".
use Rattle.std.specs.Prelude.{ℕ, zero, suc, if◌then◌else◌, List, [], ◌∷◌, ◌++◌, length, codes, Option, Some, None, Ok, Err}
use Rattle.std.specs.Str.{bytes_eq}
use Rattle.gx_model.specs.declared.faults.Fault.{Fault}
use Rattle.gx_model.specs.Texts.{Bytes}
use Rattle.gx_model.specs.Streams.Items.{Item, Line, Data, End, Finished, Failed, Stream}
use Rattle.gx_model.specs.Streams.Commands.{Command, Blob, Commit, Tag, Reset, Checkpoint, Progress, Asks, OptionLine, Done}
use Rattle.gx_model.specs.Streams.Grammar.{blob_at}
use Rattle.gx_model.specs.Streams.Lines.{Read}

-- why no further blob comes: a fault of the grammar, or an item that begins no blob command
pub data Stop : Type 0 where
  refused : Fault → Stop
  not_a_blob : Stop

-- the blobs that come, and why no further one does, if not for the end
pub record BlobRun : Type 0 where
  pub bodies : List Bytes
  pub stop : Option Stop

abbrev pub stops : Option Stop → BlobRun
stops s = record { bodies = []; stop = s }

abbrev pub first_body : Bytes → BlobRun → BlobRun
first_body x run = record { bodies = x ∷ run.bodies; stop = run.stop }

abbrev pub body_of : Command → Bytes
body_of (Blob b) = b.bytes
body_of (Commit c) = []
body_of (Tag t) = []
body_of (Reset r) = []
body_of Checkpoint = []
body_of (Progress x) = []
body_of (Asks f) = []
body_of (OptionLine x) = []
body_of Done = []

-- a command's bytes, and then the blobs of the items after it
abbrev pub then_blobs : Read Command → (Stream → BlobRun) → BlobRun
then_blobs (Err f) next = stops (Some (refused f))
then_blobs (Ok r) next = first_body (body_of r.0) (next r.1)

-- the blobs of at most n items. Empty lines stand between the commands, and anything else is no blob
unfoldable pub blobs_within : ℕ → List Item → End → BlobRun
blobs_within n [] Finished = stops None
blobs_within n [] (Failed f) = stops (Some (refused f))
blobs_within zero (i ∷ more) end = stops None
blobs_within (suc n) (Data x ∷ more) end = stops (Some not_a_blob)
blobs_within (suc n) (Line [] ∷ more) end = blobs_within n more end
blobs_within (suc n) (Line (b ∷ bs) ∷ more) end =
    if bytes_eq (b ∷ bs) (codes "blob") then then_blobs (blob_at (record { items = more; end = end })) (λ t. blobs_within n t.items t.end) else stops (Some not_a_blob)

-- the blobs of items with their end
unfoldable pub blobs_of : Stream → BlobRun
blobs_of s = blobs_within (length s.items) s.items s.end

-- a run behind some blobs
abbrev pub behind : List Bytes → BlobRun → BlobRun
behind front run = record { bodies = front ++ run.bodies; stop = run.stop }
