-- The body of a tree, read from the left.
use Rattle.std.specs.Prelude.{◌≡◌, Bool, true, not, ◌&&◌, ◌||◌, ◌==◌, ℕ, zero, suc, ◌<◌, nat_lt, IsTrue, List, [], ◌∷◌, length, get_or, take, drop, codes, Option, Some, None, if◌then◌else◌}
use Rattle.std.specs.Option.{is_some, unwrap_or}
use Rattle.gx_model.specs.declared.objects.Mode.{Mode}
use Rattle.gx_model.specs.declared.objects.Mode.TheVariants.{File, Exec, Link, Gitlink, Dir}
use Rattle.gx_model.specs.Texts.{Bytes, cut_at, lacks, same_bytes}
use Rattle.gx_model.specs.Objects.{Entry, entry_text, is_canonical, mode_text}
use Rattle.gx_object.specs.Lines.{◌>>=◌}
use Rattle.gx_object.specs.Order.{are_ordered, meets_any}

abbrev pub mode_of : Bytes → Option Mode
mode_of ds =
    if same_bytes ds (mode_text File) then Some File
    else (if same_bytes ds (mode_text Exec) then Some Exec
    else (if same_bytes ds (mode_text Link) then Some Link
    else (if same_bytes ds (mode_text Gitlink) then Some Gitlink
    else (if same_bytes ds (mode_text Dir) then Some Dir
    else None))))

-- the mode at the front, and what follows it and a space
unfoldable pub mode_at : Bytes → Option (Mode × Bytes)
mode_at bytes = do
  a ← cut_at 32 bytes
  mode ← mode_of a.0
  Some (mode, a.1)

-- the entry at the front, and what follows it
unfoldable pub entry_at : Bytes → Option (Entry × Bytes)
entry_at bytes = do
  a ← mode_at bytes
  b ← cut_at 0 a.1
  if nat_lt (length b.1) 20 then None else Some (record { mode = a.0; component = b.0; name = take 20 b.1 }, drop 20 b.1)

-- a text is this entry's
abbrev pub IsEntryText : Entry → Bytes → Type 0
IsEntryText e text = (text ≡ entry_text e) × (lacks 0 e.component ≡ true) × (length e.name ≡ 20)

-- a component of this length stands at the front, with a NUL behind it and no slash in it
pub record IsPlainFront (bytes : Bytes) (len : ℕ) : Type 0 where
  pub within : len < length bytes
  pub ended : get_or bytes len 0 ≡ 0
  pub no_nul : lacks 0 (take len bytes) ≡ true
  pub no_slash : lacks 47 (take len bytes) ≡ true

-- nothing, or what stands for a folder itself or the one above it
abbrev pub is_dots : Bytes → Bool
is_dots bytes = length bytes == 0 || same_bytes bytes (codes ".") || same_bytes bytes (codes "..")

-- at most n entries, to the end
unfoldable pub entries_within : ℕ → Bytes → Option (List Entry)
entries_within n [] = Some []
entries_within zero (b ∷ bytes) = None
entries_within (suc n) (b ∷ bytes) = do
  first ← entry_at (b ∷ bytes)
  others ← entries_within n first.1
  Some (first.0 ∷ others)

-- an entry has more than 20 bytes, so there are no more entries than bytes
abbrev pub entries_of : Bytes → Option (List Entry)
entries_of bytes = entries_within (length bytes) bytes

-- the bytes are entries, to the end
abbrev pub AreEntries : Bytes → Type 0
AreEntries bytes = IsTrue (is_some (entries_of bytes))

abbrev pub entries_left : Bytes → List Entry
entries_left bytes = unwrap_or (entries_of bytes) []

abbrev pub tree_of : Bytes → Option (List Entry)
tree_of body = do
  es ← entries_of body
  if is_canonical es then Some es else None

-- a body is a tree's
abbrev pub is_tree : Bytes → Bool
is_tree body = is_some (tree_of body)

-- these may stand behind the entry that was read last, where one was, and none has the component of a file that stood
-- before that
abbrev pub may_follow : ℕ → List Bool → Option Entry → List Entry → Bool
may_follow above is_file None es = is_canonical es
may_follow above is_file (Some e) es = are_ordered (e ∷ es) && not (meets_any above is_file e.component es)

-- the entries that the bytes are, where they may stand there
abbrev pub followers : ℕ → List Bool → Option Entry → Bytes → Option (List Entry)
followers above is_file before bytes = do
  es ← entries_of bytes
  if may_follow above is_file before es then Some es else None
