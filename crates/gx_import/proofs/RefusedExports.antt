-- The text of an export that names a gitlink of forty zeros, imported into nothing: refused.
use Rattle.std.proofs.Common.{◌≡◌, ℕ, ◌+◌, ◌-◌, ◌^◌, length, Option, Some, None, Result, Ok, Err, [], sym, ap, subst, ◌∙◌, inl, inr, arith}
use Rattle.gx_model.specs.declared.faults.Fault.TheVariants as model
use Rattle.gx_model.specs.declared.objects.Kind.{Kind}
use Rattle.gx_model.specs.Texts.{Bytes}
use Rattle.gx_model.specs.Histories.{Records, empty_repository}
use Rattle.gx_model.specs.Streams.Commands.{no_features}
use Rattle.gx_model.specs.Streams.Grammar.{commands_of}
use Rattle.gx_model.specs.Streams.Items.{items_of}
use Rattle.gx_model.specs.Records.HistoryOf.{history_of}
use Rattle.gx_model.specs.Records.Sound.{IsSound}
use Rattle.gx_model.specs.Replay.{Kept, refused, imported, replayed_commands, replayed_text, start}
use Rattle.gx_model.specs.Export.{export_text}
use Rattle.gx_model.specs.Streams.Gitlinks.{CommandsBeforeNullAreReplayed, NullGitlinksAreRefused, NullGitlinksEndCommands, commands_before_null}
use Rattle.gx_model.specs.declared.features.Features.{Features}
use Rattle.gx_model.specs.Laws.FeatureLaws.{ExportsAskOnce}
use Rattle.gx_model.specs.Laws.RepositoryLaws.{HistoriesOf, NamesTell}
use Rattle.gx_model.specs.Texts.Sinks.{Taken}
use Rattle.gx_text.specs.Devices.{Coming}
use Rattle.gx_stream.specs.Heard.{heard}
use Rattle.gx_command.specs.Reading.{commands_from}
use Rattle.gx_import.specs.Additions.{ClashesAt}
use Rattle.gx_import.specs.Exported.{LeaveExports, RefusesItsExport, UnsupportedOr}
use Rattle.gx_import.specs.Imports.{Imports}
use Rattle.gx_import.specs.declared.fault.ImportFault.{ImportFault}
use Rattle.gx_import.specs.declared.report.Report.{Report}
use Rattle.gx_import.proofs.ExportedAgain.{heard_short, unasked}
use Rattle.gx_import.proofs.NoClashes.{none_clashes}
use Rattle.gx_import.proofs.ReachedStates.{imported_is}

-- the number of the command that is refused
abbrev refused_number : Records → ℕ
refused_number exported = length (commands_before_null (history_of exported)) + 1

module _ (name : Kind → Bytes → Bytes) where
  -- an outcome that is a refusal, where no value clashes
  answered : (exported old new : Records) (coming : Coming) (was now : Option Taken) (kept : Kept) (result : Result Report ImportFault)
      → imported name (history_of old) (heard coming).bytes (heard coming).fails ≡ refused (refused_number exported) model.Unsupported [] kept
      → ((number : ℕ) → ClashesAt name 0 (start (history_of old)) (commands_from coming).list number → ⊥)
      → Imports no_features name old new (Some coming) was now result → UnsupportedOr exported result
  answered exported old new coming was now kept (Ok report) e none h = absurd (cc (sym h.1 ∙ e))
  answered exported old new coming was now kept (Err fault) e none (inl r) =
      let same : refused fault.command fault.kind r.0 r.1 ≡ refused (refused_number exported) model.Unsupported [] kept = sym r.2 ∙ e in
      inl (cc same, cc same)
  answered exported old new coming was now kept (Err fault) e none (inr k) = elim k.2 as (λ _. UnsupportedOr exported (Err fault)) [
    | inl m ↦ inr (inl m.0)
    | inr l ↦ elim l as (λ _. UnsupportedOr exported (Err fault)) [
      | inl m ↦ absurd (none fault.command m.1)
      | inr m ↦ inr (inr m.0)
    ]
  ]

  module _ (histories : HistoriesOf name) (tells : NamesTell name) (ends : NullGitlinksEndCommands) (nulls : NullGitlinksAreRefused) (before : CommandsBeforeNullAreReplayed) where
    -- the commands before the refused one make no value with the name of another one
    none_clash : (exported : Records) → IsSound name exported → (number : ℕ) → ClashesAt name 0 (start (history_of empty_repository)) (commands_before_null (history_of exported)) number → ⊥
    none_clash exported sound number h =
        let q = before name (history_of exported) (histories.stands exported sound).history in
        none_clashes name 0 (start (history_of empty_repository)) (commands_before_null (history_of exported)) None q.0 [] q.1 q.3
        (λ v w i j e. (tells.same exported sound v w (q.2 v i) (q.2 w j)).0 e) number h

    null_refused_alone : (old new : Records) (coming : Option Coming) (was now : Option Taken) (result : Result Report ImportFault)
        → Imports no_features name old new coming was now result → RefusesItsExport name old coming result
    null_refused_alone old new None was now result h = tt
    null_refused_alone old new (Some coming) was now result h = λ exported sound links alone gives empty.
        let text = export_text (history_of exported) in
        let room = heard_short (2 ^ 63 - 1) coming text gives in
        let is = (histories.stands exported sound).history in
        let same : imported name (history_of old) (heard coming).bytes (heard coming).fails ≡ replayed_commands name (history_of empty_repository) (commands_from coming) =
        imported_is no_features name (history_of old) coming ∙ ap (λ r. replayed_commands name (history_of r) (commands_from coming)) empty in
        let known : replayed_commands name (history_of empty_repository) (commands_from coming) ≡ refused (refused_number exported) model.Unsupported [] (start (history_of empty_repository)).kept =
        (λ i. replayed_text name (history_of empty_repository) (gives i).bytes (gives i).fails) ∙ nulls name (history_of exported) is links alone (omega (arith, room)) in
        let listed : (commands_from coming).list ≡ commands_before_null (history_of exported) =
        ap (λ cs. cs.list) ((λ i. commands_of (items_of (gives i).bytes (gives i).fails)) ∙ ends (history_of exported) is links alone (omega (arith, room))) in
        let none : (number : ℕ) → ClashesAt name 0 (start (history_of old)) (commands_from coming).list number → ⊥ = λ number clash.
        none_clash exported sound number (subst (λ r. ClashesAt name 0 (start (history_of r)) (commands_before_null (history_of exported)) number) empty
        (subst (λ cs. ClashesAt name 0 (start (history_of old)) cs number) listed clash)) in
        answered exported old new coming was now (start (history_of empty_repository)).kept result (same ∙ known) none h

    -- the same, where features are asked for that leave it so
    pub null_refused : ExportsAskOnce → (asks : Features) → LeaveExports asks → (old new : Records) (coming : Option Coming) (was now : Option Taken) (result : Result Report ImportFault)
        → Imports asks name old new coming was now result → RefusesItsExport name old coming result
    null_refused once asks leaves old new None was now result h = tt
    null_refused once asks leaves old new (Some coming) was now result h = λ exported sound links alone gives empty.
        let plain = unasked name once asks.done asks.force leaves old new exported coming gives was now result h in
        null_refused_alone old new (Some coming) was now result plain exported sound links alone gives empty
