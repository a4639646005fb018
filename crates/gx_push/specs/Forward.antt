-- Which refs lose no commit where they move. Source: gitglossary(7), "fast-forward".
use Rattle.std.specs.Prelude.{ℕ, ◌+◌, Bool, true, false, if◌then◌else◌, List, [], ◌∷◌, Option, None, Some}
use Rattle.std.specs.Option.{option_map}
use Rattle.gx_model.specs.Texts.{Bytes}
use Rattle.gx_model.specs.Histories.{Records}
use Rattle.gx_model.specs.Histories.Values.{Commit}
use Rattle.gx_model.specs.Records.HistoryOf.{commit_of_value, value_of_name}
use Rattle.gx_model.specs.Records.Lookups.{commit_named}
use Rattle.gx_model.specs.Revisions.Ranges.{reaches}
use Rattle.gx_repo.specs.Refs.{object_named}
use Rattle.gx_push.specs.declared.want.Fate.{Fate}
use Rattle.gx_push.specs.declared.want.Fate.TheVariants.{Advance, Lose, Vanish}
use Rattle.gx_push.specs.Wants.{Wanted}

-- the commit of an object of this name, or of the tag that it is
abbrev pub commit_below : Records → Bytes → Option Commit
commit_below r object = option_map (λ called. commit_of_value (value_of_name r.records called)) (commit_named r.records object)

-- the second has the first as an ancestor, or is that; both are there
abbrev pub has_commit : Option Commit → Option Commit → Bool
has_commit (Some old) (Some new) = reaches new old
has_commit (Some old) None = false
has_commit None new = false

-- the second object has all commits of the first
abbrev pub is_forward : Records → Bytes → Bytes → Bool
is_forward r old new = has_commit (commit_below r old) (commit_below r new)

-- a ref may be this object now, by what it was and what may become of it
abbrev pub may_be : Records → Fate → Option Bytes → Option Bytes → Bool
may_be r Advance None new = true
may_be r Advance (Some old) None = false
may_be r Advance (Some old) (Some new) = is_forward r old new
may_be r Lose old new = true
may_be r Vanish old new = true

-- a ref is what may become of it
abbrev pub is_kept : Records → Wanted → Bool
is_kept r want = may_be r want.fate want.old (object_named r.refs want.ref)

-- the number of the first of these that lost commits and may not, where the first has this number
abbrev pub first_lost : Records → ℕ → List Wanted → Option ℕ
first_lost r number [] = None
first_lost r number (w ∷ ws) = if is_kept r w then first_lost r (number + 1) ws else Some number
