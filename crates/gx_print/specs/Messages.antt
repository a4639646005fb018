-- The lines of a message, and its subject. Source: git-log(1), "PRETTY FORMATS", and what git 2.39 takes for white space.
use Rattle.std.specs.Prelude.{◌≡◌, ℕ, Bool, ◌==◌, ◌||◌, if◌then◌else◌, List, [], ◌∷◌, ◌++◌, map, codes, Option, Some, None}
use Rattle.std.specs.List.{flat_map, join_by, list_all, slice_split}
use Rattle.std.specs.Borrow.{Bor}
use Rattle.gx_model.specs.Texts.{Bytes}

-- a space, a TAB, a CR or an LF
abbrev pub is_space : ℕ → Bool
is_space b = b == 32 || (b == 9 || (b == 13 || b == 10))

-- a text without the white space at its end
unfoldable pub trimmed : Bytes → Bytes
trimmed [] = []
trimmed (b ∷ bs) = if list_all is_space (b ∷ bs) then [] else b ∷ trimmed bs

-- the lines of a message, each without the white space at its end
abbrev pub message_lines : Bytes → List Bytes
message_lines message = map trimmed (slice_split (λ b. b == 10) message)

-- the lines from the first on that isn't empty
abbrev pub behind_blank : List Bytes → List Bytes
behind_blank [] = []
behind_blank ([] ∷ lines) = behind_blank lines
behind_blank ((b ∷ line) ∷ lines) = (b ∷ line) ∷ lines

-- the lines before the first that is empty
abbrev pub paragraph : List Bytes → List Bytes
paragraph [] = []
paragraph ([] ∷ lines) = []
paragraph ((b ∷ line) ∷ lines) = (b ∷ line) ∷ paragraph lines

-- the lines of the first paragraph, with a space between each two
abbrev pub subject : Bytes → Bytes
subject message = join_by (λ line. line) (32 ∷ []) (paragraph (behind_blank (message_lines message)))

-- a line behind four spaces
abbrev pub indented_line : Bytes → Bytes
indented_line line = codes "    " ++ line ++ 10 ∷ []

-- the lines from the first on that isn't empty, each behind four spaces
abbrev pub indented : Bytes → Bytes
indented message = flat_map indented_line (behind_blank (message_lines message))

-- ---- lines as they are read

-- a line without where it lies in memory
abbrev pub shown_line : Bor Bytes → Bytes
shown_line line = line.now

-- the lines of what is left of a message, where something is
abbrev pub lines_left : Option (Bor Bytes) → List Bytes
lines_left None = []
lines_left (Some text) = message_lines text.now

-- The first line that isn't empty is answered, and those behind it are left.
abbrev pub PassesBlank : List Bytes → List Bytes → Option (Bor Bytes) → Type 0
PassesBlank old new (Some line) = behind_blank old ≡ line.now ∷ new
PassesBlank old new None = behind_blank old ≡ []
