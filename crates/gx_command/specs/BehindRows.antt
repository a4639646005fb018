-- What is left of worked streams behind their first commands. Each row holds by computing.
use Rattle.std.specs.Prelude.{◌≡◌, ℕ, false, codes, List, [], ◌∷◌, map, Option, Some, None, Ok, Err, refl}
use Rattle.gx_model.specs.declared.faults.Fault.TheVariants as faults
use Rattle.gx_model.specs.Texts.{Bytes, cut_at}
use Rattle.gx_model.specs.Streams.Spelling.{text_of_lines}
use Rattle.gx_model.specs.Faults.{Given}
use Rattle.gx_model.specs.Streams.Items.{Item, Line, Data, End, Stream, Finished, Failed, counted_block, lines_before, delimited, first_line, first_of, read_upto, items_of}
use Rattle.gx_model.specs.Streams.Grammar.{item_after_in, blob_at, reset_at, command_at}
use Rattle.gx_model.specs.Streams.Lines.{rest_line_in, block_in, mark_of, commit_ish_of}
use Rattle.gx_command.specs.Heads.{first_in}
use Rattle.gx_command.specs.Behind.{left_behind}

-- a stream's lines, how many commands are passed, and what is left
pub record BehindRow : Type 0 where
  pub lines : List Bytes
  pub commands : ℕ
  pub left : Given (Option Stream)

abbrev left : List Item → End → Given (Option Stream)
left items end = Ok (Some (record { items = items; end = end }))

abbrev pub behind_rows : List BehindRow
behind_rows =
    -- past the empty lines and comments before a command, which may be one that can't be read
    record { lines = [] ∷ codes "# c" ∷ [] ∷ codes "checkpoint" ∷ []; commands = 0; left = left (Line (codes "checkpoint") ∷ []) Finished }
    ∷ record { lines = codes "blob" ∷ codes "data 0" ∷ [] ∷ [] ∷ codes "# c" ∷ [] ∷ codes "what" ∷ []; commands = 1; left = left (Line (codes "what") ∷ []) Finished }
    ∷ record { lines = codes "reset refs/heads/a" ∷ [] ∷ [] ∷ codes "data 0" ∷ []; commands = 1; left = left (Data [] ∷ []) Finished }
    -- behind the last command the end, and then none
    ∷ record { lines = codes "checkpoint" ∷ [] ∷ []; commands = 1; left = left [] Finished }
    ∷ record { lines = codes "checkpoint" ∷ [] ∷ []; commands = 2; left = Ok None }
    -- behind `done` what isn't read, and then none
    ∷ record { lines = codes "done" ∷ codes "what" ∷ []; commands = 1; left = left (Line (codes "what") ∷ []) Finished }
    ∷ record { lines = codes "done" ∷ codes "what" ∷ []; commands = 2; left = Ok None }
    -- the end may be a fault, which the command meets that needs more
    ∷ record { lines = codes "checkpoint" ∷ codes "blob" ∷ codes "data 5" ∷ codes "abc" ∷ []; commands = 1; left = left (Line (codes "blob") ∷ []) (Failed faults.TruncatedData) }
    ∷ record { lines = codes "checkpoint" ∷ codes "blob" ∷ codes "data 5" ∷ codes "abc" ∷ []; commands = 2; left = Err faults.TruncatedData }
    -- a fault of a command
    ∷ record { lines = codes "checkpoint" ∷ codes "what" ∷ codes "checkpoint" ∷ []; commands = 2; left = Err faults.UnknownCommand }
    ∷ record { lines = codes "checkpoint" ∷ codes "feature done" ∷ []; commands = 2; left = Err faults.LateOption }
    ∷ record { lines = codes "feature done" ∷ []; commands = 1; left = left [] Finished }
    ∷ record { lines = codes "feature done" ∷ []; commands = 2; left = Err faults.MissingDone }
    ∷ []

behind_told : map (λ row. left_behind row.commands [] (items_of (text_of_lines row.lines) false)) behind_rows ≡ map (λ row. row.left) behind_rows
unfolding cut_at counted_block lines_before delimited first_line first_of read_upto items_of rest_line_in block_in item_after_in mark_of commit_ish_of blob_at reset_at command_at first_in left_behind
behind_told = refl
