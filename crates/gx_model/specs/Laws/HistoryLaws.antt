-- The laws of histories. Source: gitrevisions(7), on reachable commits, and gitglossary(7), "reachable".
use Rattle.std.specs.Prelude.{◌≡◌, ◌⊎◌, Bool, IsTrue, List, [], ◌∷◌, ◌++◌, map}
use Rattle.std.specs.List.{AllByRecursion}
use Rattle.gx_model.specs.Histories.Values.{Commit, Commits, Value, blob_value, blobs_of, commit_value, files_of, is_proper, list_of, more, none, parents_of, tag_value, tree_value}
use Rattle.gx_model.specs.Histories.{IsIn, IsWhole, Reaches, with_value}
use Rattle.gx_model.specs.Revisions.Ranges.{reaches}

-- a commit is one of these parents
abbrev pub IsParent : Commit → Commits → Type 0
IsParent parent none = ⊥
IsParent parent (more c cs) = (c ≡ parent) ⊎ IsParent parent cs

-- what a commit reaches is the least set with it and with the parents of its members
pub record ReachedIsLeast : Type 0 where
  pub itself : (start : Commit) → IsTrue (reaches start start)
  pub closed : (start member parent : Commit) → IsTrue (reaches start member) → IsParent parent (parents_of member) → IsTrue (reaches start parent)
  pub least : (set : Commit → Bool) (start : Commit) → IsTrue (set start) → ((member parent : Commit) → IsTrue (set member) → IsParent parent (parents_of member) → IsTrue (set parent))
      → (member : Commit) → IsTrue (reaches start member) → IsTrue (set member)

-- these are the values with one more: the old ones stand in front, and each new one is that one or something that it is made of
pub record IsAdded (values : List Value) (value : Value) (now : List Value) : Type 0 where
  pub whole : IsWhole now
  pub has : IsIn now value
  pub new : List Value
  pub front : now ≡ values ++ new
  pub only : (other : Value) → IsIn new other → Reaches value other

-- what has to stand in a history before a value is added; the rest of its parts is added with it
abbrev pub needs : Value → List Value
needs (blob_value bytes) = []
needs (tree_value files) = blobs_of files
needs (commit_value revision) = blobs_of (files_of revision) ++ map commit_value (list_of (parents_of revision))
needs (tag_value tag) = commit_value tag.target ∷ []

-- to add a value keeps the values those of a history
abbrev pub AddsValue : Type 0
AddsValue = (values : List Value) (value : Value) → IsWhole values → IsTrue (is_proper value) → AllByRecursion (IsIn values) (needs value) → IsAdded values value (with_value values value)
