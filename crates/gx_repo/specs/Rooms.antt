-- How much room the paths below trees take. Source: this project's own limit of 4,095 bytes for a path.
use Rattle.std.specs.Prelude.{◌≡◌, ◌≢◌, ℕ, ◌+◌, take, List, [], ◌∷◌, ◌++◌, length, map, max}
use Rattle.gx_model.specs.declared.objects.Kind.{Kind}
use Rattle.gx_model.specs.Texts.{Bytes}
use Rattle.gx_model.specs.Texts.Paths.{path_text}
use Rattle.gx_model.specs.Histories.Files.{FileMap}
use Rattle.gx_model.specs.Histories.Values.{Value, tree_value}
use Rattle.gx_model.specs.Objects.{Entry}
use Rattle.gx_model.specs.Histories.{Record}
use Rattle.gx_model.specs.Records.HistoryOf.{files_at, named_values, placed}
use Rattle.gx_repo.specs.Additions.{value_among}

-- the length of the longest of these paths, with a slash before it; 0 where there is none
abbrev pub room : FileMap Bytes → ℕ
room [] = 0
room (e ∷ es) = max (1 + length (path_text e.0)) (room es)

-- the room of what is below a tree
abbrev pub room_of : Value → ℕ
room_of (tree_value files) = room files
room_of _ = 0

-- the room of what is below an object of this kind and body, whose links are among the records
abbrev pub room_below : List Record → Kind → Bytes → ℕ
room_below records of_kind body = room_of (value_among records of_kind body)

-- the room of what is at or below an entry, whose link is among the records
abbrev pub room_at : List Record → Entry → ℕ
room_at records e = room (placed e.component (files_at (named_values records) e.mode e.name))

-- the rooms of records, each by its place
abbrev pub rooms_of : List Record → List ℕ
rooms_of records = map (λ named. room_of named.1) (named_values records)

-- the rooms of the first of these records
abbrev pub IsFront : List ℕ → List Record → Type 0
IsFront rooms records = rooms ≡ take (length rooms) (rooms_of records)

-- the record that stands behind the first ones, where one does, is the last, and has this room
abbrev pub IsRoomBehind : List Record → ℕ → ℕ → Type 0
IsRoomBehind records count last = length records ≢ count → rooms_of records ≡ rooms_of (take count records) ++ last ∷ []

-- the first records, which have these rooms
abbrev pub entered : List ℕ → List Record → List Record
entered rooms records = take (length rooms) records
