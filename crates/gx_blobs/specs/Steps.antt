-- What each item does while a blob command is read, one item after the other. The commands themselves are those of
-- Blobs: that both give the same is proved.
use Rattle.std.specs.Prelude.{if◌then◌else◌, List, [], ◌∷◌, codes, Option, Some, None, ℕ, Ok, Err}
use Rattle.std.specs.Str.{bytes_eq}
use Rattle.gx_model.specs.declared.faults.Fault.TheVariants.{BadLine}
use Rattle.gx_model.specs.Texts.{Bytes}
use Rattle.gx_model.specs.Faults.{Given}
use Rattle.gx_model.specs.Streams.Items.{Item, Line, Data, End, Finished, Failed}
use Rattle.gx_model.specs.Streams.Lines.{words_of, is_word, mark_of}
use Rattle.gx_blobs.specs.Blobs.{Stop, refused, not_a_blob, BlobRun, stops, first_body}
use Rattle.gx_blobs.specs.declared.blob_names.Stage.{Stage}
use Rattle.gx_blobs.specs.declared.blob_names.Stage.TheVariants.{Expected, Started, Marked, Named}

-- the run stops, the command goes on, or the item's bytes are the blob
pub data Step : Type 0 where
  stop : Stop → Step
  go : Stage → Step
  body : Bytes → Step

abbrev pub refuse_line : Step
refuse_line = stop (refused BadLine)

abbrev pub named_by : Option Bytes → Step
named_by None = refuse_line
named_by (Some r) = go Named

abbrev pub marked_as : Given ℕ → Step
marked_as (Err f) = stop (refused f)
marked_as (Ok n) = go Marked

abbrev pub marked_by : Option Bytes → Step
marked_by None = refuse_line
marked_by (Some r) = marked_as (mark_of r)

unfoldable pub command_line : Bytes → Step
command_line [] = go Expected
command_line (b ∷ bs) = if bytes_eq (b ∷ bs) (codes "blob") then go Started else stop not_a_blob

unfoldable pub oid_line : Bytes → Step
oid_line l = if is_word (words_of l) (codes "original-oid") then named_by (words_of l).rest else refuse_line

unfoldable pub mark_line : Bytes → Step
mark_line l = if is_word (words_of l) (codes "mark") then marked_by (words_of l).rest else oid_line l

abbrev pub step_of : Stage → Item → Step
step_of Expected (Line l) = command_line l
step_of Expected (Data x) = stop not_a_blob
step_of Started (Line l) = mark_line l
step_of Started (Data x) = body x
step_of Marked (Line l) = oid_line l
step_of Marked (Data x) = body x
step_of Named (Line l) = refuse_line
step_of Named (Data x) = body x

-- why the run stops at the end of the items
abbrev pub stop_at : Stage → End → Option Stop
stop_at stage (Failed f) = Some (refused f)
stop_at Expected Finished = None
stop_at Started Finished = Some (refused BadLine)
stop_at Marked Finished = Some (refused BadLine)
stop_at Named Finished = Some (refused BadLine)

abbrev pub stepped : Step → (Stage → BlobRun) → BlobRun
stepped (stop s) next = stops (Some s)
stepped (go stage) next = next stage
stepped (body x) next = first_body x (next Expected)

unfoldable pub run_of : List Item → Stage → End → BlobRun
run_of [] stage end = stops (stop_at stage end)
run_of (i ∷ is) stage end = stepped (step_of stage i) (λ next. run_of is next end)
