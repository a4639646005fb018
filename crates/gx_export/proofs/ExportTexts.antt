-- The items of an export in their parts.
use Rattle.std.proofs.Common.{◌≡◌, ◌≢◌, ◌≤◌, List, [], ◌∷◌, ◌++◌, map, length, Result, Ok, Err, refl, sym, ap, subst, ◌∙◌, append_assoc, arith, codes}
use Rattle.std.proofs.lemmas.Grind.{flat_map-append}
use Rattle.gx_model.specs.Streams.Commands as command
use Rattle.gx_model.specs.Export.{all_written, command_items, commit_commands, export_items, items_text, last_reset, reached_commits, ref_command}
use Rattle.gx_model.specs.Histories.{History, Records}
use Rattle.gx_model.specs.Records.HistoryOf.{history_of}
use Rattle.gx_model.specs.Streams.Items.{Item, Line}
use Rattle.gx_model.specs.Histories.Values.{Value}
use Rattle.gx_model.specs.Texts.Sinks.{Took}
use Rattle.gx_export.specs.Exports.{SendsExport, front_items, rest_items}
use Rattle.gx_model.specs.Faults.{NeedsNoMemory}
use Rattle.gx_export.specs.Marks.{Adds}
use Rattle.gx_export.specs.Outputs.{Sent, StopsAt, Writes, most}
use Rattle.gx_export.specs.Texts.{items_of}
use Rattle.gx_export.specs.declared.fault.ExportFault.{ExportFault}
use Rattle.gx_export.specs.declared.fault.ExportFault.TheVariants.{OutOfMemory, Unsupported, WriteFailed}
use Rattle.gx_export.specs.declared.written.Written.{Written}
use Rattle.gx_export.proofs.CommitLists.{commits_items}
use Rattle.gx_export.proofs.CommitTexts.{last_is}
use Rattle.gx_export.proofs.Writing.{items_sooner}

-- before the commits
abbrev pub first_items : List Item
first_items = Line (codes "feature done") ∷ []

-- behind them
abbrev pub refs_items : History → List Value → List Item
refs_items h ws = items_of (map (ref_command ws) h.refs)

abbrev pub end_items : List Item
end_items = Line (codes "done") ∷ []

-- all parts
abbrev pub all_items : History → List Item
all_items h = front_items h ++ rest_items h (all_written (reached_commits h))

parts_of : (h : History) → export_items h ≡ all_items h
parts_of h =
    let cs = reached_commits h in
    let refs = map (ref_command (all_written cs)) h.refs in
    let inner = flat_map-append command_items (commit_commands [] cs) (last_reset cs ++ refs) ∙ ap (λ (is : List Item). commits_items [] cs ++ is) (flat_map-append command_items (last_reset cs) refs) in
    let parted = append_assoc (commits_items [] cs) (items_of (last_reset cs) ++ items_of refs) end_items ∙ ap (λ (is : List Item). commits_items [] cs ++ is) (append_assoc (items_of (last_reset cs)) (items_of refs) end_items) in
    ap (λ (is : List Item). first_items ++ is)
    (flat_map-append command_items (commit_commands [] cs ++ (last_reset cs ++ refs)) (command.Done ∷ [])
    ∙ ap (λ (is : List Item). is ++ end_items) inner ∙ parted ∙ ap (λ (is : List Item). commits_items [] cs ++ (is ++ (items_of refs ++ end_items))) (sym (last_is cs)))

-- an export that stops, and not for want of memory
stopped : (r : Records) (old new : Sent) (e : ExportFault) → e ≢ OutOfMemory → old.bytes ≡ 0 → Writes old new (items_text (all_items (history_of r))) (Err e) → SendsExport r old.taken new.taken (Err e)
stopped r old new OutOfMemory memory z h = absurd (memory refl)
stopped r old new Unsupported memory z h = absurd h.1
stopped r old new (WriteFailed count) memory z h =
    subst (λ is. StopsAt 0 count old.taken new.taken (items_text is)) (sym (parts_of (history_of r))) (subst (λ n. StopsAt n count old.taken new.taken (items_text (all_items (history_of r)))) z h.1)

-- an export that stops among the commits
pub stopped_at_commits : (r : Records) (old new : Sent) (e : ExportFault) → old.bytes ≡ 0 → Writes old new (items_text (front_items (history_of r))) (Err e) → SendsExport r old.taken new.taken (Err e)
stopped_at_commits r old new OutOfMemory z h = h.1
stopped_at_commits r old new Unsupported z h = absurd h.1
stopped_at_commits r old new (WriteFailed count) z h =
    let front = front_items (history_of r) in
    let rest = rest_items (history_of r) (all_written (reached_commits (history_of r))) in
    stopped r old new (WriteFailed count) (λ e. absurd cc) z (items_sooner old new front rest (WriteFailed count) h)

-- what goes out from the start is an export
pub exports : {W A : Type 0} (r : Records) (ws : List Value) (old new : Written W A) (result : Result (Unit {0}) ExportFault) → old.output.bytes ≡ 0 → NeedsNoMemory OutOfMemory result → Adds r ws (all_items (history_of r)) old new result
    → SendsExport r old.output.taken new.output.taken result
exports r ws old new (Ok x) z memory k =
    let text = items_text (all_items (history_of r)) in
    let long : length text ≤ most = (let most = k.0.most in let count = k.1.1.0 in omega (arith, z)) in
    subst (λ is. Took old.output.taken new.output.taken (items_text is) × (length (items_text is) ≤ most)) (sym (parts_of (history_of r))) (k.1.1.2, long)
exports r ws old new (Err e) z memory k = stopped r old.output new.output e memory z k
