-- What lines make of refs, and what is against them. Source: git-update-ref(1), "--stdin", and git-check-ref-format(1).
use Rattle.std.specs.Prelude.{Bool, true, false, not, if◌then◌else◌, codes, List, map, Option, None, Some, Result, Ok, Err}
use Rattle.std.specs.List.{filter, filter_map}
use Rattle.std.specs.Option.{option_eq, option_map}
use Rattle.gx_model.specs.declared.faults.Fault.{Fault}
use Rattle.gx_model.specs.declared.faults.Fault.TheVariants as model
use Rattle.gx_model.specs.Texts.{Bytes, cut_at, same_bytes}
use Rattle.gx_model.specs.Texts.RefNames.{is_ref_name}
use Rattle.gx_model.specs.Histories.{Records}
use Rattle.gx_model.specs.Records.Publishing.{Change, Ref, change_fault, with_changes}
use Rattle.gx_object.specs.Parts.{bytes_if}
use Rattle.gx_object.specs.declared.name.Name.{Name}
use Rattle.gx_repo.specs.Dropping.{is_among, without}
use Rattle.gx_repo.specs.Refs.{is_ref_held, object_named}
use Rattle.gx_push.specs.declared.fault.RefFault.{RefFault}
use Rattle.gx_push.specs.declared.fault.RefFault.TheVariants.{BadLine, BadRefName, RefMoved, UnknownObject, WrongKind, NotFastForward}
use Rattle.gx_push.specs.declared.setting.After.{After as AfterMade}
use Rattle.gx_push.specs.declared.setting.After.TheVariants as code
use Rattle.gx_push.specs.declared.setting.Setting.{Setting}
use Rattle.gx_push.specs.Forward.{is_forward}
use Rattle.gx_push.specs.Lines.{Refusal, read_lines}
use Rattle.gx_push.specs.Wants.{value_in}

-- what becomes of a ref
pub data After : Type 0 where
  same : After
  gone : After
  becomes : Bytes → After

-- what a ref has to hold before, where that is told, and what becomes of it
abbrev pub Moves : Type 0
Moves = Option (Option Bytes) × After

-- a ref and its moves
pub record Set : Type 0 where
  pub ref : Bytes
  pub moves : Moves

-- ---- the lines

-- what becomes of a ref that is set to an object, or to none
abbrev pub after_of : Option Bytes → After
after_of None = gone
after_of (Some object) = becomes object

-- the moves of an old value that was read, where it was
abbrev pub moves_from : Option (Option Bytes) → After → Option Moves
moves_from None after = None
moves_from (Some old) after = Some (Some old, after)

-- zeros as the new object remove the ref; without an old one it may be anything before
abbrev pub updated_to : Option (Option Bytes) → Option Bytes → Option Moves
updated_to None old = None
updated_to (Some new) None = Some (None, after_of new)
updated_to (Some new) (Some digits) = moves_from (value_in digits) (after_of new)

abbrev pub updated : Bytes → Option Bytes → Option Moves
updated new old = updated_to (value_in new) old

-- there is no such ref before
abbrev pub created_as : Option (Option Bytes) → Option Bytes → Option Moves
created_as (Some (Some object)) None = Some (Some None, becomes object)
created_as value more = None

abbrev pub created : Bytes → Option Bytes → Option Moves
created new more = created_as (value_in new) more

-- zeros are no old object
abbrev pub deleted_from : Option (Option Bytes) → Option Moves
deleted_from (Some (Some object)) = Some (Some (Some object), gone)
deleted_from value = None

-- without an old object the ref may be anything before, or not be there
abbrev pub deleted : Option Bytes → Option Bytes → Option Moves
deleted None None = Some (None, gone)
deleted (Some digits) None = deleted_from (value_in digits)
deleted old (Some more) = None

-- without an old object there is no such ref
abbrev pub verified : Option Bytes → Option Bytes → Option Moves
verified None None = Some (Some None, same)
verified (Some digits) None = moves_from (value_in digits) same
verified old (Some more) = None

-- what a verb wants of the digits behind the name; the first two have to have some
abbrev pub with_first : Option Bytes → (Bytes → Option Moves) → Option Moves
with_first None f = None
with_first (Some digits) f = f digits

abbrev pub moves_of : Bytes → Option Bytes → Option Bytes → Option Moves
moves_of verb first second =
    if same_bytes verb (codes "update") then with_first first (λ new. updated new second)
    else (if same_bytes verb (codes "create") then with_first first (λ new. created new second)
    else (if same_bytes verb (codes "delete") then deleted first second
    else (if same_bytes verb (codes "verify") then verified first second else None)))

abbrev pub setting_of : Bytes → Bytes → Option Bytes → Option Bytes → Option Set
setting_of verb ref first second = option_map (λ moves. record { ref = ref; moves = moves }) (moves_of verb first second)

-- what a verb makes of a ref, with one text behind its name, or two that a space divides
abbrev pub set_to : Bytes → Bytes → Bytes → Option (Bytes × Bytes) → Option Set
set_to verb ref digits None = setting_of verb ref (Some digits) None
set_to verb ref digits (Some two) = setting_of verb ref (Some two.0) (Some two.1)

-- what it makes of the ref whose name ends at a space, or where the text does
abbrev pub set_named : Bytes → Bytes → Option (Bytes × Bytes) → Option Set
set_named verb text None = setting_of verb text None None
set_named verb text (Some two) = set_to verb two.0 two.1 (cut_at 32 two.1)

-- a verb stands before the first space
abbrev pub set_by : Option (Bytes × Bytes) → Option Set
set_by None = None
set_by (Some two) = set_named two.0 two.1 (cut_at 32 two.1)

-- what a line makes of a ref
abbrev pub setting_in : Bytes → Option Set
setting_in line = set_by (cut_at 32 line)

-- ---- all lines

-- a ref is what it has to be, where that is told
abbrev pub is_before : Option (Option Bytes) → Option Bytes → Bool
is_before None held = true
is_before (Some old) held = option_eq same_bytes old held

-- a fault of the model that is against an object in a ref
abbrev pub ref_fault : Fault → RefFault
ref_fault model.BadRefName = BadRefName
ref_fault model.UnknownObject = UnknownObject
ref_fault fault = WrongKind

-- a ref that is set to an object moves forward, unless it may lose commits
abbrev pub move_fault : Bool → Records → Option Bytes → Bytes → Option RefFault
move_fault true r held object = None
move_fault false r None object = None
move_fault false r (Some old) object = if is_forward r old object then None else Some NotFastForward

-- what is against an object in a ref, and then against the move
abbrev pub or_move : Option Fault → Option RefFault → Option RefFault
or_move None moved = moved
or_move (Some fault) moved = Some (ref_fault fault)

abbrev pub after_fault : Bool → Records → Bytes → After → Option RefFault
after_fault forced r ref same = None
after_fault forced r ref gone = None
after_fault forced r ref (becomes object) = or_move (change_fault r.records (ref, object)) (move_fault forced r (object_named r.refs ref) object)

-- a set is made, unless something is against it
abbrev pub unless_fault : Option RefFault → Set → Result Set RefFault
unless_fault None set = Ok set
unless_fault (Some fault) set = Err fault

-- what a line makes of a ref that is none of these, or what is against it
abbrev pub allowed : Bool → Records → List Bytes → Option Set → Result Set RefFault
allowed forced r names None = Err BadLine
allowed forced r names (Some set) =
    if not (is_ref_name set.ref) then Err BadRefName
    else if is_among names set.ref then Err BadLine
    else (if is_before set.moves.0 (object_named r.refs set.ref) then unless_fault (after_fault forced r set.ref set.moves.1) set else Err RefMoved)

-- the ref that is told of
abbrev pub ref_of : Set → Bytes
ref_of set = set.ref

-- what a line makes of a ref that is none of these, where nothing is against it
abbrev pub set_of : Bool → Records → List Bytes → Bytes → Result Set RefFault
set_of forced r names line = allowed forced r names (setting_in line)

-- what lines make of refs, or the first that is refused
abbrev pub sets_in : Bool → Records → List Bytes → Result (List Set) Refusal
sets_in forced r lines = read_lines ref_of (set_of forced r) lines

-- ---- the refs that are left

-- the object that a ref becomes, if it does
abbrev pub change_in : Set → Option Change
change_in set = elim set.moves.1 [ same ↦ None | gone ↦ None | becomes object ↦ Some (set.ref, object) ]

-- a ref is removed, and is there
abbrev pub is_removed : List Ref → Set → Bool
is_removed refs set = elim set.moves.1 [ same ↦ false | gone ↦ is_ref_held refs set.ref | becomes object ↦ false ]

-- the names of the refs that are removed and are there
abbrev pub removed : List Ref → List Set → List Bytes
removed refs sets = map ref_of (filter (is_removed refs) sets)

-- the refs without those that are removed, and with the others set
abbrev pub with_sets : List Ref → List Set → List Ref
with_sets refs sets = with_changes (without (removed refs sets) refs) (filter_map change_in sets)

abbrev pub made : List Ref → Result (List Set) Refusal → Result (List Ref) Refusal
made refs (Ok sets) = Ok (with_sets refs sets)
made refs (Err refusal) = Err refusal

-- what lines make of the refs of a repository, all of them, or the first line that is refused
abbrev pub set_refs : Bool → Records → List Bytes → Result (List Ref) Refusal
set_refs forced r lines = made r.refs (sets_in forced r lines)

-- ---- as the code has them

abbrev pub shown_after : AfterMade → After
shown_after code.Same = same
shown_after code.Gone = gone
shown_after (code.Object object) = becomes object.bytes

abbrev pub shown_moves : Option (Option Name) × AfterMade → Moves
shown_moves moves = (option_map bytes_if moves.0, shown_after moves.1)

abbrev pub shown_setting : Setting → Set
shown_setting setting = record { ref = setting.name.now; moves = (option_map bytes_if setting.old, shown_after setting.after) }

abbrev pub shown_settings : List Setting → List Set
shown_settings = map shown_setting
