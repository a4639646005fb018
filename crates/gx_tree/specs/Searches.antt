-- What a search among a directory's entries answers.
use Rattle.std.specs.Prelude.{◌≡◌, ◌≢◌, ◌<◌, ℕ, true, false, List, get_or, length, Option, None, Some}
use Rattle.std.specs.List.Sorted.{IsPartitionPoint}
use Rattle.gx_model.specs.Texts.{Bytes}
use Rattle.gx_tree.specs.Components.{bytes_of}
use Rattle.gx_tree.specs.Nodes.{Kept, Level, is_folder, kept_at, mark, precedes}
use Rattle.gx_tree.specs.Views.{shown_entry, shown_item}
use Rattle.gx_tree.specs.declared.directory.Entry.{Entry}

-- what is kept at c, if it has this mark
abbrev pub Finds : Bytes → Bytes → Level → Option Kept → Type 0
Finds c m es (Some k) = kept_at c es ≡ Some k
Finds c m es None = (k : Kept) → kept_at c es ≡ Some k → mark k ≢ m

-- the entry at i is that of c
abbrev pub IsEntryAt : {A : Type 0} → Bytes → List (Entry A) → ℕ → Type 0
IsEntryAt {A} c es i = (i < length es) × ((d : Entry A) → bytes_of (get_or es i d).component ≡ c)

-- the entry at i is that of a directory at c
abbrev pub IsFolderAt : {A : Type 0} → Bytes → List (Entry A) → ℕ → Type 0
IsFolderAt {A} c es i = IsEntryAt c es i × ((d : Entry A) → is_folder (shown_item (get_or es i d).item) ≡ true)

-- n entries don't come after the text, and those behind them do
abbrev pub IsPlaceOf : {A : Type 0} → Bytes → List (Entry A) → ℕ → Type 0
IsPlaceOf text es n = IsPartitionPoint (λ e. precedes text (shown_entry e) ≡ false) (λ e. precedes text (shown_entry e) ≡ true) es n
