-- What holds of every adapted stream.
use Rattle.std.specs.Prelude.{◌≡◌, Bool, true, false, if◌then◌else◌, List, [], ◌∷◌, ◌++◌, Ok}
use Rattle.gx_model.specs.Texts.{Bytes, is_line, lacks}
use Rattle.gx_model.specs.Faults.{◌>>=◌}
use Rattle.gx_model.specs.Streams.Items.{Item, Line, Data, Finished, items_of}
use Rattle.gx_model.specs.Texts.Paths.{path_of}
use Rattle.gx_model.specs.Streams.Lines.{last_path, source_path}
use Rattle.gx_text.specs.Devices.{Coming}
use Rattle.gx_stream.specs.Heard.{items_from}
use Rattle.gx_adapt.specs.Paths.{quoted}
use Rattle.gx_adapt.specs.Lines.{is_signature}
use Rattle.gx_adapt.specs.Streams.{adapted, behind_of}
use Rattle.gx_model.specs.Export.{items_text}
use Rattle.gx_adapt.specs.declared.lot.Behind.{Behind}
use Rattle.gx_adapt.specs.declared.lot.Behind.TheVariants.{Other}

-- a text is read as the items that stand in the place of what a source gives
abbrev pub IsReadAdapted : Bool → Coming → Type 0
IsReadAdapted drops c =
    items_of (items_text (adapted drops (items_from c).items)) false ≡ record { items = adapted drops (items_from c).items; end = Finished }

-- the blocks of a stream, in order
abbrev pub blocks_of : List Item → List Bytes
blocks_of [] = []
blocks_of (Line l ∷ is) = blocks_of is
blocks_of (Data x ∷ is) = x ∷ blocks_of is

-- no block is changed, left out or put in, unless signatures are dropped
abbrev pub BlocksAreKept : Type 0
BlocksAreKept = (is : List Item) → blocks_of (adapted false is) ≡ blocks_of is

-- the blocks that no signature has, in order: those that don't stand directly behind its line
abbrev pub other_blocks : Behind → List Item → List Bytes
other_blocks behind [] = []
other_blocks behind (Line l ∷ is) = other_blocks (behind_of (Line l)) is
other_blocks behind (Data x ∷ is) = if is_signature behind then other_blocks Other is else x ∷ other_blocks Other is

-- where signatures are dropped, no other block is changed, left out or put in, and none of theirs stays
abbrev pub OtherBlocksAreKept : Type 0
OtherBlocksAreKept = (is : List Item) → blocks_of (adapted true is) ≡ other_blocks Other is

-- a path in quotes is read as the path of the text between them. Only a NUL can't stand there, nor in any path
abbrev pub QuotedPathsAreKept : Type 0
QuotedPathsAreKept = (path : Bytes) → is_line path ≡ true → lacks 0 path ≡ true → last_path (quoted path) ≡ path_of path

-- and so is the source of a copy or a rename
abbrev pub QuotedSourcesAreKept : Type 0
QuotedSourcesAreKept = (path rest : Bytes) → is_line path ≡ true → lacks 0 path ≡ true → source_path (quoted path ++ 32 ∷ rest) ≡ (path_of path >>= λ p. Ok (p, rest))
