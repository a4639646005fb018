-- The changes of a patch, behind its head. Source: git-diff(1), "GENERATING PATCH TEXT WITH -P"; of labels and binary files, what git 2.39 writes.
use Rattle.std.specs.Prelude.{◌≡◌, Bool, true, false, ◌==◌, ◌||◌, if◌then◌else◌, [], ◌∷◌, ◌++◌, codes}
use Rattle.std.specs.List.{list_any}
use Rattle.gx_model.specs.Texts.{Bytes, same_bytes}
use Rattle.gx_hunks.specs.Lines.{is_binary, text_lines}
use Rattle.gx_hunks.specs.Telling.{Tells}

-- whether a space stands in a text
abbrev pub has_space : Bytes → Bool
has_space text = list_any (λ b. b == 32) text

-- the line of a side: behind a label with a space in it stands a TAB
abbrev pub label_line : Bytes → Bytes → Bytes
label_line words label = words ++ label ++ (if has_space label then 9 ∷ [] else []) ++ 10 ∷ []

-- that two binary files differ
abbrev pub binary_line : Bytes → Bytes → Bytes
binary_line from to = codes "Binary files " ++ from ++ codes " and " ++ to ++ codes " differ\n"

abbrev pub are_binary : Bytes → Bytes → Bool
are_binary old new = is_binary old || is_binary new

-- Hunks make the new text of the old one, behind the labels of both.
abbrev pub TellsHunks : Bytes → Bytes → Bytes → Bytes → Bytes → Type 0
TellsHunks from to old new body =
    (hunks : Bytes) × Tells (text_lines old) (text_lines new) hunks
    × (body ≡ label_line (codes "--- ") from ++ label_line (codes "+++ ") to ++ hunks)

-- nothing of equal texts; of binary ones that they differ; of others the hunks
abbrev pub TellsBy : Bool → Bool → Bytes → Bytes → Bytes → Bytes → Bytes → Type 0
TellsBy true binary from to old new body = body ≡ []
TellsBy false true from to old new body = body ≡ binary_line from to
TellsBy false false from to old new body = TellsHunks from to old new body

abbrev pub TellsBody : Bytes → Bytes → Bytes → Bytes → Bytes → Type 0
TellsBody from to old new body = TellsBy (same_bytes old new) (are_binary old new) from to old new body
