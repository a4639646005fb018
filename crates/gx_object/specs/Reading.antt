-- A tree's body of which nothing is known, while it is read.
use Rattle.std.specs.Prelude.{◌≡◌, ℕ, Bool, true, ◌&&◌, ◌≤◌, length, List, ◌∷◌, Option, None, Some}
use Rattle.std.specs.Option.{option_map}
use Rattle.gx_model.specs.Objects.{Entry as TreeEntry}
use Rattle.gx_model.specs.Texts.{Bytes}
use Rattle.gx_model.specs.Texts.Paths.{is_component}
use Rattle.gx_object.specs.declared.earlier_files.EarlierFiles.{EarlierFiles}
use Rattle.gx_object.specs.declared.entry.Entry.{Entry}
use Rattle.gx_object.specs.Entries.{shown}
use Rattle.gx_object.specs.Trees.{AreEntries, entries_left, may_follow}

-- what is left of a body: the entries, where the whole body is a tree's, and a number that each entry lowers
pub record TreeLeft : Type 0 where
  pub entries : Option (List TreeEntry)
  pub most : ℕ

-- the entry that was read last is proper, and the files before it are remembered by fronts of its component; none are where
-- none was read
abbrev pub IsReadWith : EarlierFiles → Option Entry → Type 0
IsReadWith files None = files.above ≡ 0
IsReadWith files (Some e) = (files.above ≤ length e.component.now) × (is_component e.component.now ≡ true)

-- the next entry and the others may stand behind the one before: so it is where the answer is true, and the others may
-- stand behind the next
abbrev pub FollowsFrom : EarlierFiles → EarlierFiles → Option Entry → Entry → Bytes → Bool → Type 0
FollowsFrom old new before next after answer =
    AreEntries after
    → may_follow old.above old.is_file (option_map shown before) (shown next ∷ entries_left after)
    ≡ (answer && may_follow new.above new.is_file (Some (shown next)) (entries_left after))
