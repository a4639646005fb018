-- What a push leaves, or the line that is refused.
use Rattle.std.proofs.Common.{◌≡◌, ◌⊎◌, inl, inr, Bool, true, false, List, length, Option, None, Result, Ok, Err, refl, subst, sym, ap, ◌∙◌}
use Rattle.std.specs.Prelude.{if◌then◌else◌, ◌+◌}
use Rattle.gx_model.specs.declared.objects.Kind.{Kind}
use Rattle.gx_model.specs.declared.features.Features.{Features}
use Rattle.gx_model.specs.Texts.{Bytes}
use Rattle.gx_model.specs.Texts.Sinks.{Taken}
use Rattle.gx_text.specs.Devices.{Coming}
use Rattle.gx_model.specs.Histories.{Records}
use Rattle.gx_model.specs.Laws.RepositoryLaws.{with_refs}
use Rattle.gx_model.specs.Records.Publishing.{Ref}
use Rattle.gx_repo.specs.Dropping.{dropped, without}
use Rattle.gx_repo.proofs.DroppedRefs.{are_left}
use Rattle.gx_import.specs.Explaining.{TellsNothing}
use Rattle.gx_import.specs.declared.explanation.Explanation.{Explanation}
use Rattle.gx_import.specs.declared.report.Report.{Report}
use Rattle.gx_push.specs.declared.fault.PushFault.{PushFault}
use Rattle.gx_push.specs.declared.fault.PushFault.TheVariants.{Line, Import, OutOfMemory}
use Rattle.gx_push.specs.declared.fault.RefFault.TheVariants.{RefMoved}
use Rattle.gx_push.specs.Calls.{SettlesRefs}
use Rattle.gx_push.specs.Forward.{first_lost}
use Rattle.gx_push.specs.Pushes.{Answer, PushesWanted, Retells, are_kept, pushed, settled, unless_refused, vanishing}
use Rattle.gx_push.specs.Lines.{Refusal}
use Rattle.gx_push.specs.Wants.{Wanted, refs_of}

module _ (before : List Ref) (old : Records) (wants : List Wanted) (forward : first_lost old 1 wants ≡ None) where
  pub refs_settled : (new : Records) (names : List Bytes) → are_kept (refs_of wants) before old.refs ≡ true → names ≡ vanishing old.refs wants → new.records ≡ old.records → dropped names old.refs ≡ Ok new.refs
      → (pushed before old wants ≡ Ok new.refs) × (new ≡ with_refs old new.refs)
  refs_settled new names kept e records left = (
    ap (unless_refused before old wants) forward
        ∙ ap (λ b. if b then Ok (without (vanishing old.refs wants) old.refs) else Err (length wants + 1, RefMoved)) kept
        ∙ ap (λ ns. Ok (without ns old.refs)) (sym e) ∙ ap Ok (sym (are_left names old.refs new.refs left)),
    rw (sym records) refl,
  )

  pub others_moved : are_kept (refs_of wants) before old.refs ≡ false → pushed before old wants ≡ Err (length wants + 1, RefMoved)
  others_moved e = ap (unless_refused before old wants) forward ∙ ap (λ b. if b then Ok (without (vanishing old.refs wants) old.refs) else Err (length wants + 1, RefMoved)) e

-- a push is refused as its refs are
abbrev refused_for : PushFault → Answer
refused_for fault = Err fault

pub refused_so : (old new : Records) (report : Report) (given : Result (List Ref) Refusal) (fault : PushFault) → SettlesRefs old new given (Err fault)
    → (refused_for fault ≡ Err OutOfMemory) ⊎ (refused_for fault ≡ settled old report given)
refused_so old new report given (Line number kind) h = inr (sym (ap (settled old report) h))
refused_so old new report given OutOfMemory h = inl refl
refused_so old new report given (Import fault) h = absurd h

-- and leaves what its refs do
abbrev left_with : Records × Report → Answer
left_with left = Ok left

pub settled_so : (old new : Records) (report : Report) (given : Result (List Ref) Refusal) → SettlesRefs old new given (Ok tt) → left_with (new, report) ≡ settled old report given
settled_so old new report given h = sym (ap (settled old report) h.0 ∙ ap (λ r. left_with (r, report)) (sym h.1))

-- memory runs out before the stream is read
pub unread : (name : Kind → Bytes → Bytes) (asks : Features) (old : Records) (given : Result (List Wanted) Refusal) (coming : Option Coming) (was : Option Taken) → PushesWanted name asks old given coming was was (Err OutOfMemory)
unread name asks old (Ok wants) coming was = inl (refl, refl)
unread name asks old (Err refusal) coming was = (inl refl, refl)

-- nothing is told of a push whose stream is accepted
pub nothing_retold : (name : Kind → Bytes → Bytes) (done : Bool) (old new : Records) (was now : Option Taken) {A : Type 0} (told : Explanation A) (report : Report) (given : Result (List Ref) Refusal) (answer : Answer)
    → (answer ≡ Err OutOfMemory) ⊎ (answer ≡ settled new report given) → TellsNothing told → Retells name done old was now answer told
nothing_retold name done old new was now told report given answer (inl e) h = subst (λ a. Retells name done old was now a told) (sym e) h
nothing_retold name done old new was now told report (Ok refs) answer (inr e) h = subst (λ a. Retells name done old was now a told) (sym e) h
nothing_retold name done old new was now told report (Err refusal) answer (inr e) h = subst (λ a. Retells name done old was now a told) (sym e) h
