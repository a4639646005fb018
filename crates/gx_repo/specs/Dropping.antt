-- Which refs are left when some are dropped, all of them or none. Source: git-update-ref(1), "delete", and gitglossary(7), "ref".
use Rattle.std.specs.Prelude.{◌≡◌, ℕ, ◌+◌, Bool, not, ◌&&◌, if◌then◌else◌, List, [], ◌∷◌, ◌++◌, length, Option, None, Some, Result, Ok, Err, IsOk, ⊤}
use Rattle.std.specs.Borrow.{Bor}
use Rattle.std.specs.BTreeSet.{BTreeSet, contains_by}
use Rattle.std.specs.List.{filter, list_any}
use Rattle.gx_model.specs.declared.faults.Fault.{Fault}
use Rattle.gx_model.specs.declared.faults.Fault.TheVariants as model
use Rattle.gx_model.specs.Records.Publishing.{Ref}
use Rattle.gx_model.specs.Texts.{Bytes, byte_cmp, same_bytes}
use Rattle.gx_repo.specs.Refs.{is_ref_held}
use Rattle.gx_repo.specs.declared.fault.DropFault.{DropFault}
use Rattle.gx_repo.specs.declared.fault.DropFault.TheVariants.{OutOfMemory, UnknownRef}
use Rattle.gx_text.specs.Lent.{lent_texts}

-- whether a name is one of these
abbrev pub is_among : List Bytes → Bytes → Bool
is_among names name = list_any (λ n. same_bytes n name) names

-- the refs that have none of these names
abbrev pub without : List Bytes → List Ref → List Ref
without names refs = filter (λ ref. not (is_among names ref.0)) refs

-- of the names behind these, the number, from 1, of the first that no ref has or that is one of those before it
abbrev pub unknown_behind : List Ref → List Bytes → List Bytes → Option ℕ
unknown_behind refs before [] = None
unknown_behind refs before (n ∷ ns) = if is_ref_held refs n && not (is_among before n) then unknown_behind refs (before ++ n ∷ []) ns else Some (length before + 1)

-- the refs, unless a name is unknown
abbrev pub unless_unknown : Option ℕ → List Ref → Result (List Ref) ℕ
unless_unknown None refs = Ok refs
unless_unknown (Some number) refs = Err number

-- the refs without those of these names, or the number, from 1, of the first name that is unknown: no ref has it, or it is given
-- before
unfoldable pub dropped : List Bytes → List Ref → Result (List Ref) ℕ
dropped names refs = unless_unknown (unknown_behind refs [] names) (without names refs)

-- ---- calls

-- a refusal to drop refs, as a fault of the model
abbrev pub drop_fault : DropFault → Fault
drop_fault OutOfMemory = model.OutOfMemory
drop_fault (UnknownRef number) = model.UnknownRef

-- the refs are those that are left, or this is the first name that is unknown
abbrev pub Drops : List Ref → List Ref → List Bytes → Result (Unit {0}) DropFault → Type 0
Drops old new names (Ok done) = dropped names old ≡ Ok new
Drops old new names (Err OutOfMemory) = ⊤
Drops old new names (Err (UnknownRef number)) = dropped names old ≡ Err number

-- want of memory hides no name that is unknown
abbrev pub HidesNoUnknown : List Ref → List Bytes → Result (Unit {0}) DropFault → Type 0
HidesNoUnknown refs names (Err OutOfMemory) = IsOk (dropped names refs)
HidesNoUnknown refs names answer = ⊤

-- this is the first of these names that is unknown; or memory is wanting, and none is
abbrev pub IsAgainstNames : List Ref → List Bytes → DropFault → Type 0
IsAgainstNames refs names OutOfMemory = unknown_behind refs [] names ≡ None
IsAgainstNames refs names (UnknownRef number) = unknown_behind refs [] names ≡ Some number

-- whether a name is held in a set
abbrev pub is_entered : BTreeSet (Bor Bytes) → Bytes → Bool
is_entered held name = contains_by (λ n. byte_cmp name n.now) held

-- these names are held in a set, and no others
abbrev pub AreIn : BTreeSet (Bor Bytes) → List Bytes → Type 0
AreIn held names = (name : Bytes) → is_entered held name ≡ is_among names name

-- each name is another ref's, and these alone are held in a set; or this is the first name that is unknown
abbrev pub EntersNames : List Ref → BTreeSet (Bor Bytes) → List (Bor Bytes) → Result (Unit {0}) DropFault → Type 0
EntersNames refs held names (Ok done) = (unknown_behind refs [] (lent_texts names) ≡ None) × AreIn held (lent_texts names)
EntersNames refs held names (Err fault) = IsAgainstNames refs (lent_texts names) fault
