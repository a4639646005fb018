-- The commands of an export's text ask for no checkpoint, so that what is kept is the start.
use Rattle.std.proofs.Common.{◌≡◌, ℕ, ◌+◌, false, List, [], ◌∷◌, ◌++◌, Some, Result, Ok, Err, sym, ap, subst, ◌∙◌}
use Rattle.std.specs.Prelude.{IfOk}
use Rattle.std.specs.List.{AllByRecursion}
use Rattle.gx_model.specs.declared.objects.Kind.{Kind}
use Rattle.gx_model.specs.declared.faults.Fault.{Fault}
use Rattle.gx_model.specs.Texts.{Bytes}
use Rattle.gx_model.specs.Streams.Commands as command
use Rattle.gx_model.specs.Streams.Commands.{Asks, Blob, Checkpoint, Command, Done, OptionLine, Progress, Reset}
use Rattle.gx_model.specs.Streams.Grammar.{commands_of}
use Rattle.gx_model.specs.Histories.{History, IsHistory}
use Rattle.gx_model.specs.Streams.Items.{items_of}
use Rattle.gx_model.specs.Replay.{Kept, Outcome, State, refused, replayed, step}
use Rattle.gx_model.specs.Export.{export_items, export_text, inner_commands, reached_commits}
use Rattle.gx_model.specs.Laws.ExportLaws.{IsReadable, IsSpelled}
use Rattle.gx_model.proofs.Streams.CommandItems.{commands_read}
use Rattle.gx_model.proofs.Streams.ItemTexts.{items_read}
use Rattle.gx_model.proofs.Export.SpelledExports.{export_spelled}
use Rattle.gx_model.proofs.Streams.SpelledItems.{between_spelled}
use Rattle.gx_import.proofs.ProgressTexts.{IsOther, kept_still}

abbrev pub AreOther : List Command → Type 0
AreOther commands = AllByRecursion IsOther commands

other : (c : Command) → IsSpelled c → IsOther c
other (Blob b) h = tt
other (command.Commit c) h = tt
other (command.Tag t) h = tt
other (Reset r) h = tt
other (Progress x) h = tt
other (Asks f) h = tt
other Checkpoint h = absurd h
other (OptionLine x) h = tt
other Done h = tt

all_other : (cs : List Command) → AllByRecursion IsSpelled cs → AreOther cs
all_other [] h = tt
all_other (c ∷ cs) h = (other c h.0, all_other cs h.1)

with_done : (cs : List Command) → AreOther cs → AreOther (cs ++ Done ∷ [])
with_done [] h = (tt, tt)
with_done (c ∷ cs) h = (h.0, with_done cs h.1)

-- the commands of an export's text
pub exports_are_other : (h : History) → IsHistory h → IsReadable h → AreOther (commands_of (items_of (export_text h) false)).list
exports_are_other h is readable =
    let inner = inner_commands (reached_commits h) h.refs in
    let s = export_spelled h is readable in
    let commands = ap commands_of (items_read (export_items h) (between_spelled inner s)) ∙ commands_read inner s in
    subst (λ cs. AreOther cs.list) (sym commands) (tt, with_done inner (all_other inner s))

-- what is kept where such commands are cut off
pub kept_through : (name : Kind → Bytes → Bytes) (n : ℕ) (s : State) (cs : List Command) (f : Fault) (number : ℕ) (g : Fault) (text : Bytes) (kept : Kept) → AreOther cs
    → replayed name n s cs (Some f) ≡ refused number g text kept → kept ≡ s.kept
kept_through name n s [] f number g text kept h e = let same : s.kept ≡ kept = cc e in sym same
kept_through name n s (c ∷ cs) f number g text kept h e = by (step name s c) (kept_still name s c h.0) (λ t. kept_through name (n + 1) t cs f number g text kept h.1) e
  where
    by : (r : Result State Fault) → IfOk r (λ t. t.kept ≡ s.kept) → ((t : State) → replayed name (n + 1) t cs (Some f) ≡ refused number g text kept → kept ≡ t.kept)
        → elim r as (λ _. Outcome) [ Ok t ↦ replayed name (n + 1) t cs (Some f) | Err d ↦ refused (n + 1) d s.progress s.kept ] ≡ refused number g text kept → kept ≡ s.kept
    by (Ok t) k rest e = rest t e ∙ k
    by (Err d) k rest e = let same : s.kept ≡ kept = cc e in sym same
