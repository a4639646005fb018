-- The refs that range words name, as git bundle has it. Source: git-bundle(1), "SPECIFYING REFERENCES", and gitrevisions(7).
use Rattle.std.specs.Prelude.{ℕ, Bool, true, false, ◌&&◌, ◌||◌, not, nat_eq, codes, if◌then◌else◌, is_some, length, List, [], ◌∷◌, ◌++◌, Option, Some, None}
use Rattle.std.specs.List.{filter, flat_map, list_all, list_any}
use Rattle.std.specs.Option.{option_and_then}
use Rattle.gx_model.specs.Records.Publishing.{Ref}
use Rattle.gx_model.specs.Revisions.{RangeWord, Revision, Suffix, WithAncestors, WithoutAncestors, Between, Apart, AllParents, Alone, WithoutOne}
use Rattle.gx_model.specs.Revisions.Denotation.{ref_names}
use Rattle.gx_model.specs.Texts.{Bytes, same_bytes}
use Rattle.gx_model.specs.Texts.Digits.{is_any_digit}
use Rattle.gx_model.specs.Texts.Paths.{Path}

-- an element, or none, as a list
abbrev pub list_of : {X : Type 0} → Option X → List X
list_of None = []
list_of (Some x) = x ∷ []

-- ---- revisions

-- what a revision begins with, where nothing follows
abbrev pub bare : Bytes → List Suffix → Option Path → Option Bytes
bare base [] None = Some base
bare base _ _ = None

-- an object's name in full names no ref
abbrev pub unless_full_name : Bytes → Option Bytes
unless_full_name base = if list_all is_any_digit base && nat_eq (length base) 40 then None else Some base

-- what a revision begins with, where it is written as refs are
abbrev pub base_of_ref : Revision → Option Bytes
base_of_ref r = option_and_then unless_full_name (bare r.base r.suffixes r.path)

-- the first of some names that a ref has
abbrev pub first_held : List Ref → List Bytes → Option Bytes
first_held refs [] = None
first_held refs (n ∷ ns) = if list_any (λ ref. same_bytes n ref.0) refs then Some n else first_held refs ns

-- the name of the ref as which a revision is written
abbrev pub ref_of : List Ref → Revision → Option Bytes
ref_of refs r = option_and_then (λ base. first_held refs (ref_names base)) (base_of_ref r)

-- ---- range words

-- the revisions whose commits a word includes with all that they reach
abbrev pub included_by : RangeWord → List Revision
included_by (WithAncestors r) = r ∷ []
included_by (WithoutAncestors r) = []
included_by (Between a b) = b ∷ []
included_by (Apart a b) = a ∷ b ∷ []
included_by (AllParents r) = []
included_by (Alone r) = r ∷ []
included_by (WithoutOne r n) = r ∷ []

-- the names of the refs that a word names
abbrev pub names_of_word : List Ref → RangeWord → List Bytes
names_of_word refs word = flat_map (λ r. list_of (ref_of refs r)) (included_by word)

-- and those that words name
abbrev pub names_of : List Ref → List RangeWord → List Bytes
names_of refs words = flat_map (names_of_word refs) words

-- ---- refs

-- whether the ref of a name is told, where these are named, or all are; no ref is HEAD where that is told otherwise
abbrev pub is_told : Bool → Bool → List Bytes → Bytes → Bool
is_told all with_head named name = if with_head && same_bytes name (codes "HEAD") then false else (all || list_any (same_bytes name) named)

-- the refs that are told, in their order
abbrev pub told_refs : Bool → Bool → List RangeWord → List Ref → List Ref
told_refs all with_head words refs = filter (λ ref. is_told all with_head (names_of refs words) ref.0) refs
