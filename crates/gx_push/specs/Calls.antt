-- What the calls of a push answer.
use Rattle.std.specs.Prelude.{Bool, Err, List, None, Ok, Option, Result, Some, [], map, ℕ, ⊤, ◌+◌, ◌∷◌, ◌≡◌}
use Rattle.std.specs.Borrow.{Bor}
use Rattle.std.specs.BTreeSet.{BTreeSet}
use Rattle.std.specs.Result.{result_map_both}
use Rattle.std.specs.declared.vec.Vec.{Vec}
use Rattle.gx_model.specs.Texts.{Bytes}
use Rattle.gx_model.specs.Histories.{Records}
use Rattle.gx_model.specs.Laws.RepositoryLaws.{with_refs}
use Rattle.gx_model.specs.Records.Publishing.{Ref}
use Rattle.gx_object.specs.declared.name.Name.{Name}
use Rattle.gx_repo.specs.Dropping.{AreIn, without}
use Rattle.gx_repo.specs.Refs.{shown_lent_ref}
use Rattle.gx_push.specs.declared.fault.PushFault.{PushFault}
use Rattle.gx_push.specs.declared.fault.PushFault.TheVariants.{Line, Import, OutOfMemory}
use Rattle.gx_push.specs.declared.fault.RefFault.{RefFault}
use Rattle.gx_push.specs.declared.fault.RefFault.TheVariants.{NotFastForward}
use Rattle.gx_push.specs.declared.fault.SetFault.{SetFault}
use Rattle.gx_push.specs.declared.fault.SetFault.TheVariants as set
use Rattle.gx_push.specs.declared.setting.Setting.{Setting}
use Rattle.gx_push.specs.declared.settings.Against.{Against}
use Rattle.gx_push.specs.declared.settings.Against.TheVariants as against
use Rattle.gx_push.specs.declared.want.Want.{Want}
use Rattle.gx_push.specs.declared.wants.Wants.{Wants}
use Rattle.gx_push.specs.declared.pushing.Pushed.{Pushed}
use Rattle.gx_push.specs.Pushes.{Answer}
use Rattle.gx_push.specs.Settings.{Set, set_of, set_refs, sets_in, shown_setting, shown_settings}
use Rattle.gx_push.specs.Lines.{Refusal}
use Rattle.gx_push.specs.Wants.{held_want, refs_of, shown_want, shown_wants, want_in, wants_in}

-- the texts of lines
abbrev pub texts : {A : Type 0} → List (Vec ℕ A) → List Bytes
texts = map (λ line. line.items)

-- what a line wants, or what is against it
abbrev pub HoldsLine : List Ref → BTreeSet (Bor Bytes) → Bytes → Result Want RefFault → Type 0
HoldsLine refs entered line answer =
    (names : List Bytes) → AreIn entered names → held_want refs names (want_in line) ≡ result_map_both shown_want (λ fault. fault) answer

-- these are the wants of all lines, and their refs' names alone are held in the set
pub record AreWants {A : Type 0} (refs : List Ref) (lines : List Bytes) (wants : Wants A) : Type 0 where
  pub list : wants_in refs lines ≡ Ok (shown_wants wants.list.items)
  pub names : AreIn wants.names (refs_of (shown_wants wants.list.items))

-- the wants of all lines, or the first that is refused
abbrev pub ReadsWants : {A : Type 0} → List Ref → List Bytes → Result (Wants A) PushFault → Type 0
ReadsWants refs lines (Ok wants) = AreWants refs lines wants
ReadsWants refs lines (Err (Line number kind)) = wants_in refs lines ≡ Err (number, kind)
ReadsWants refs lines (Err OutOfMemory) = ⊤
ReadsWants refs lines (Err (Import fault)) = ⊥

-- no ref lost commits that may not, or this one did first
abbrev pub TellsLost : Option ℕ → Result (Unit {0}) PushFault → Type 0
TellsLost lost (Ok done) = lost ≡ None
TellsLost lost (Err (Line number kind)) = (lost ≡ Some number) × (kind ≡ NotFastForward)
TellsLost lost (Err OutOfMemory) = ⊤
TellsLost lost (Err (Import fault)) = ⊥

-- the refs are left that a push leaves, or the line is refused
abbrev pub SettlesRefs : Records → Records → Result (List Ref) Refusal → Result (Unit {0}) PushFault → Type 0
SettlesRefs old new given (Ok done) = (given ≡ Ok new.refs) × (new ≡ with_refs old new.refs)
SettlesRefs old new given (Err (Line number kind)) = given ≡ Err (number, kind)
SettlesRefs old new given (Err OutOfMemory) = ⊤
SettlesRefs old new given (Err (Import fault)) = ⊥

-- an answer without the namer and the report of the refs
abbrev pub answer_of : {N A : Type 0} → Result (Pushed N A) PushFault → Answer
answer_of = result_map_both (λ pushed. (pushed.repo.1, pushed.report)) (λ fault. fault)

-- the first ref that has none of these names, and those behind it
abbrev pub TakesOther : List Bytes → List Ref → List Ref → Option (Bor Bytes × Name) → Type 0
TakesOther names old new None = without names old ≡ []
TakesOther names old new (Some ref) = without names old ≡ shown_lent_ref ref ∷ without names new

-- ---- refs that are set

-- the refusal of the line at this place
abbrev pub set_refused : ℕ → Against → SetFault
set_refused place (against.Fault kind) = set.Line (place + 1) kind
set_refused place against.OutOfMemory = set.OutOfMemory

-- what is answered to what a line makes of a ref
abbrev pub IsAllowed : Result Set RefFault → Result Setting Against → Type 0
IsAllowed given (Ok setting) = given ≡ Ok (shown_setting setting)
IsAllowed given (Err (against.Fault fault)) = given ≡ Err fault
IsAllowed given (Err against.OutOfMemory) = ⊤

-- what a line makes of a ref that has none of the names in the set
abbrev pub AllowsLine : Bool → Records → BTreeSet (Bor Bytes) → Bytes → Result Setting Against → Type 0
AllowsLine forced r entered line answer = (names : List Bytes) → AreIn entered names → IsAllowed (set_of forced r names line) answer

-- what all lines make of refs, or the first that is refused
abbrev pub ReadsSets : {A : Type 0} → Bool → Records → List Bytes → Result (Vec Setting A) SetFault → Type 0
ReadsSets forced r lines (Ok list) = sets_in forced r lines ≡ Ok (shown_settings list.items)
ReadsSets forced r lines (Err (set.Line number kind)) = sets_in forced r lines ≡ Err (number, kind)
ReadsSets forced r lines (Err set.OutOfMemory) = ⊤

-- the repository that is left has the refs that lines make of them, and no other change; or the line is refused
abbrev pub SetsRefs : {N : Type 0} → Bool → Records → List Bytes → Result (N × Records) SetFault → Type 0
SetsRefs forced old lines (Ok left) = (set_refs forced old lines ≡ Ok left.1.refs) × (left.1 ≡ with_refs old left.1.refs)
SetsRefs forced old lines (Err (set.Line number kind)) = set_refs forced old lines ≡ Err (number, kind)
SetsRefs forced old lines (Err set.OutOfMemory) = ⊤
