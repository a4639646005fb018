-- What a push leaves of the refs that an import makes, and of the repository. Source: git-push(1), "--force-with-lease",
-- "--delete" and "--atomic", and git-fast-import(1).
use Rattle.std.specs.Prelude.{◌≡◌, ◌⊎◌, ℕ, ◌+◌, Bool, true, false, ◌&&◌, if◌then◌else◌, List, length, Option, None, Some, Result, Ok, Err}
use Rattle.std.specs.Cmp.Lexicographic.{pointwise}
use Rattle.std.specs.List.{filter}
use Rattle.gx_model.specs.declared.objects.Kind.{Kind}
use Rattle.gx_model.specs.declared.features.Features.{Features}
use Rattle.gx_model.specs.Texts.{Bytes, same_bytes}
use Rattle.gx_model.specs.Texts.Sinks.{Taken}
use Rattle.gx_model.specs.Histories.{Records}
use Rattle.gx_model.specs.Laws.RepositoryLaws.{with_refs}
use Rattle.gx_model.specs.Records.Publishing.{Ref}
use Rattle.gx_model.specs.Records.Sound.{IsSound}
use Rattle.gx_text.specs.Devices.{Coming}
use Rattle.gx_repo.specs.Dropping.{without}
use Rattle.gx_repo.specs.Refs.{is_ref_held}
use Rattle.gx_import.specs.Explaining.{ExplainsFault, TellsNothing}
use Rattle.gx_import.specs.Imports.{Imports}
use Rattle.gx_import.specs.Retelling.{IsOfOneReplay}
use Rattle.gx_import.specs.declared.explanation.Explanation.{Explanation}
use Rattle.gx_import.specs.declared.fault.ImportFault.{ImportFault}
use Rattle.gx_import.specs.declared.report.Report.{Report}
use Rattle.gx_push.specs.declared.fault.PushFault.{PushFault}
use Rattle.gx_push.specs.declared.fault.PushFault.TheVariants.{Line, Import, OutOfMemory}
use Rattle.gx_push.specs.declared.fault.RefFault.TheVariants.{NotFastForward, RefMoved}
use Rattle.gx_push.specs.declared.want.Fate.{Fate}
use Rattle.gx_push.specs.declared.want.Fate.TheVariants.{Advance, Lose, Vanish}
use Rattle.gx_push.specs.Forward.{first_lost}
use Rattle.gx_push.specs.Lines.{Refusal}
use Rattle.gx_push.specs.Wants.{Wanted, refs_of, wants_in}

-- two refs are one
abbrev pub same_ref : Ref → Ref → Bool
same_ref r s = same_bytes r.0 s.0 && same_bytes r.1 s.1

-- the refs that have none of these names are the same at two times
abbrev pub are_kept : List Bytes → List Ref → List Ref → Bool
are_kept names before after = pointwise same_ref (without names before) (without names after)

-- a ref is to be removed
abbrev pub vanishes : Fate → Bool
vanishes Advance = false
vanishes Lose = false
vanishes Vanish = true

-- a ref is to be removed, and is there
abbrev pub is_vanishing : List Ref → Wanted → Bool
is_vanishing refs want = vanishes want.fate && is_ref_held refs want.ref

-- the names of the refs that are to be removed and are there
abbrev pub vanishing : List Ref → List Wanted → List Bytes
vanishing refs wants = refs_of (filter (is_vanishing refs) wants)

-- the refs that are left, where no line is refused, and no other ref changed
abbrev pub unless_refused : List Ref → Records → List Wanted → Option ℕ → Result (List Ref) Refusal
unless_refused before r wants (Some number) = Err (number, NotFastForward)
unless_refused before r wants None =
    if are_kept (refs_of wants) before r.refs then Ok (without (vanishing r.refs wants) r.refs) else Err (length wants + 1, RefMoved)

-- what a push leaves of the refs that an import makes of these, or the line that is refused: that of the first ref that would lose
-- commits, or the one behind the last where a ref changed that no line has
abbrev pub pushed : List Ref → Records → List Wanted → Result (List Ref) Refusal
pushed before r wants = unless_refused before r wants (first_lost r 1 wants)

-- ---- a push as a whole

-- the repository that is left, and what was imported; or why nothing is
abbrev pub Answer : Type 0
Answer = Result (Records × Report) PushFault

-- a line is refused so
abbrev pub refused : Refusal → Answer
refused refusal = Err (Line refusal.0 refusal.1)

-- with these refs the repository is left, or a line is refused
abbrev pub settled : Records → Report → Result (List Ref) Refusal → Answer
settled new report (Ok refs) = Ok (with_refs new refs, report)
settled new report (Err refusal) = refused refusal

-- a refused import leaves nothing, whatever it published; and of what an accepted one makes the push leaves its refs, unless memory
-- ran out for that
abbrev pub Settles : List Ref → Records → List Wanted → Result Report ImportFault → Answer → Type 0
Settles before new wants (Ok report) answer = (answer ≡ Err OutOfMemory) ⊎ (answer ≡ settled new report (pushed before new wants))
Settles before new wants (Err fault) answer = answer ≡ Err (Import fault)

-- the features that a push asks for: what a ref may lose is told by its line
abbrev pub push_features : Bool → Features
push_features done = record { done = done; force = true }

-- The stream is read where no line is refused, and its import is settled so. Memory may run out before.
abbrev pub PushesWanted : (Kind → Bytes → Bytes) → Features → Records → Result (List Wanted) Refusal → Option Coming → Option Taken → Option Taken → Answer → Type 0
PushesWanted name asks old (Err refusal) coming was now answer = ((answer ≡ Err OutOfMemory) ⊎ (answer ≡ refused refusal)) × (now ≡ was)
PushesWanted name asks old (Ok wants) coming was now answer =
    ((answer ≡ Err OutOfMemory) × (now ≡ was))
    ⊎ ((new : Records) × (given : Result Report ImportFault) × Imports asks name old new coming was now given × IsSound name new × Settles old.refs new wants given answer)

-- the push of a stream into a repository by these lines
abbrev pub Pushes : (Kind → Bytes → Bytes) → Bool → Records → List Bytes → Option Coming → Option Taken → Option Taken → Answer → Type 0
Pushes name done old lines coming was now answer = PushesWanted name (push_features done) old (wants_in old.refs lines) coming was now answer

-- ---- what is told of a refused stream

-- of a refused stream it is told what that is about, and of all else nothing
abbrev pub Explains : (Kind → Bytes → Bytes) → Bool → Records → Option Coming → {A : Type 0} → Answer → Explanation A → Type 0
Explains name done old coming (Err (Import fault)) told = ExplainsFault name (push_features done) old coming fault told
Explains name done old coming answer told = TellsNothing told

-- the import of the commands of some items is refused so, and of these commands it is told what that is about; of all else nothing
abbrev pub Retells : (Kind → Bytes → Bytes) → Bool → Records → Option Taken → Option Taken → {A : Type 0} → Answer → Explanation A → Type 0
Retells name done old was now (Err (Import fault)) told =
    (left : Records) × IsOfOneReplay (push_features done) name old left was now (Err fault) told
Retells name done old was now answer told = TellsNothing told
