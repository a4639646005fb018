-- The items of an export of changes in their parts.
use Rattle.std.proofs.Common.{◌≡◌, ◌≢◌, ◌≤◌, Bool, true, false, List, [], ◌∷◌, ◌++◌, map, length, Option, Result, Ok, Err, refl, sym, ap, subst, ◌∙◌, append_assoc, append-nil, arith, not, ◌&&◌, ◌||◌}
use Rattle.std.specs.List.{filter}
use Rattle.std.proofs.lemmas.Grind.{flat_map-append}
use Rattle.gx_model.specs.declared.objects.Kind.{Kind}
use Rattle.gx_model.specs.Changes.{all_changes, carrier_reset, closed_by, commits_with_changes, named_in, sending_commands, set_refs}
use Rattle.gx_model.specs.Export.{command_items, is_reached, items_text, reached_commits, ref_by}
use Rattle.gx_model.specs.Histories.Values.{Commit, Value}
use Rattle.gx_model.specs.Histories.{History, Records, Target}
use Rattle.gx_model.specs.Laws.RangeLaws.{is_excluded}
use Rattle.gx_model.specs.Records.HistoryOf.{history_of}
use Rattle.gx_model.specs.Replay.{peeled_at}
use Rattle.gx_model.specs.Revisions.Ranges.{Word}
use Rattle.gx_model.specs.Streams.Commands.{Command, Done}
use Rattle.gx_model.specs.Streams.Items.{Item}
use Rattle.gx_model.specs.Texts.{Bytes}
use Rattle.gx_model.specs.Texts.Sinks.{Taken, Took}
use Rattle.gx_model.proofs.Ranges.SentCommits.{sent_are}
use Rattle.gx_rev.specs.Walking.{is_included}
use Rattle.gx_export.specs.Branches.{picked}
use Rattle.gx_export.specs.ChangedParts.{DeliversText, DeliversRange, ExportsChanges, SendsText, closing, opening, sending_front, sending_rest}
use Rattle.gx_model.specs.Faults.{NeedsNoMemory}
use Rattle.gx_export.specs.Marks.{Adds}
use Rattle.gx_export.specs.Outputs.{Sent, StopsAt, Writes, most}
use Rattle.gx_export.specs.Texts.{items_of}
use Rattle.gx_export.specs.declared.fault.ExportFault.{ExportFault}
use Rattle.gx_export.specs.declared.fault.ExportFault.TheVariants.{OutOfMemory, Unsupported, WriteFailed}
use Rattle.gx_export.specs.declared.written.Written.{Written}
use Rattle.gx_export.proofs.SentMarks.{all_set, in_range_is}
use Rattle.gx_export.proofs.Writing.{items_sooner}

closed_parts : (closed : Bool) (cs : List Command) → items_of (closed_by closed cs) ≡ opening closed ++ (items_of cs ++ closing closed)
closed_parts true cs = ap (λ (is : List Item). opening true ++ is) (flat_map-append command_items cs (Done ∷ []) ∙ ap (λ (is : List Item). items_of cs ++ is) (append-nil (command_items Done)))
closed_parts false cs = sym (append-nil (items_of cs))

module _ (name : Kind → Bytes → Bytes) (closed : Bool) where
  module _ (sent : List Commit) (refs : List (Bytes × Target)) where
    -- all parts
    abbrev pub all_items : List Item
    all_items = sending_front name closed sent refs ++ sending_rest name closed sent refs (all_changes sent)

    parts_of : items_of (closed_by closed (sending_commands name sent refs)) ≡ all_items
    parts_of =
        let commits = commits_with_changes name refs [] sent in
        let reset = carrier_reset refs sent in
        let last = map (ref_by (named_in name (all_changes sent))) refs in
        let inner : items_of (sending_commands name sent refs) ≡ items_of commits ++ (items_of reset ++ items_of last) =
        flat_map-append command_items commits (reset ++ last) ∙ ap (λ (is : List Item). items_of commits ++ is) (flat_map-append command_items reset last) in
        closed_parts closed (sending_commands name sent refs) ∙ ap (λ (is : List Item). opening closed ++ (is ++ closing closed)) inner
        ∙ ap (λ (is : List Item). opening closed ++ is) (append_assoc (items_of commits) (items_of reset ++ items_of last) (closing closed) ∙ ap (λ (is : List Item). items_of commits ++ is) (append_assoc (items_of reset) (items_of last) (closing closed)))
        ∙ sym (append_assoc (opening closed) (items_of commits) (items_of reset ++ (items_of last ++ closing closed)))

    -- an export that stops, and not for want of memory
    stopped : (old new : Sent) (e : ExportFault) → e ≢ OutOfMemory → old.bytes ≡ 0 → Writes old new (items_text all_items) (Err e) → DeliversText name closed sent refs old.taken new.taken (Err e)
    stopped old new OutOfMemory memory z h = absurd (memory refl)
    stopped old new Unsupported memory z h = absurd h.1
    stopped old new (WriteFailed count) memory z h =
        subst (λ is. StopsAt 0 count old.taken new.taken (items_text is)) (sym parts_of) (subst (λ n. StopsAt n count old.taken new.taken (items_text all_items)) z h.1)

    -- an export that stops among the commits
    pub stopped_at_commits : (old new : Sent) (e : ExportFault) → old.bytes ≡ 0 → Writes old new (items_text (sending_front name closed sent refs)) (Err e) → DeliversText name closed sent refs old.taken new.taken (Err e)
    stopped_at_commits old new OutOfMemory z h = h.1
    stopped_at_commits old new Unsupported z h = absurd h.1
    stopped_at_commits old new (WriteFailed count) z h =
        let front = sending_front name closed sent refs in
        let rest = sending_rest name closed sent refs (all_changes sent) in
        stopped old new (WriteFailed count) (λ e. absurd cc) z (items_sooner old new front rest (WriteFailed count) h)

    -- what goes out from the start is an export
    pub exports : {W A : Type 0} (r : Records) (ws : List Value) (old new : Written W A) (result : Result (Unit {0}) ExportFault) → old.output.bytes ≡ 0 → NeedsNoMemory OutOfMemory result → Adds r ws all_items old new result
        → DeliversText name closed sent refs old.output.taken new.output.taken result
    exports r ws old new (Ok x) z memory k =
        let text = items_text all_items in
        let long : length text ≤ most = (let most = k.0.most in let count = k.1.1.0 in omega (arith, z)) in
        subst (λ is. Took old.output.taken new.output.taken (items_text is) × (length (items_text is) ≤ most)) (sym parts_of) (k.1.1.2, long)
    exports r ws old new (Err e) z memory k = stopped old.output new.output e memory z k

  -- the export of all commits that refs reach
  pub whole_sent : (r : Records) (was now : Option Taken) (result : Result (Unit {0}) ExportFault)
      → SendsText name closed (reached_commits (history_of r)) (filter (λ ref. is_reached (history_of r).refs (peeled_at ref.1)) (history_of r).refs) was now result → ExportsChanges name closed r was now result
  whole_sent r was now result h = subst (λ refs. SendsText name closed (reached_commits (history_of r)) refs was now result) (all_set (history_of r).refs) h

  -- the export of what words include and don't exclude
  pub range_sent : (h : History) (words : List Word) (was now : Option Taken) (result : Result (Unit {0}) ExportFault)
      → SendsText name closed (picked (λ c. is_included words c && not (is_excluded words c)) h.values) (filter (λ ref. is_included words (peeled_at ref.1) || is_excluded words (peeled_at ref.1)) h.refs) was now result
      → DeliversRange name closed h words was now result
  range_sent h words was now result k =
      let sent = picked (λ c. is_included words c && not (is_excluded words c)) h.values in
      let set : filter (λ ref. is_included words (peeled_at ref.1) || is_excluded words (peeled_at ref.1)) h.refs ≡ set_refs h words = λ j. filter (λ ref. in_range_is words (peeled_at ref.1) j) h.refs in
      subst (λ cs. SendsText name closed cs (set_refs h words) was now result) (sym (sent_are h words)) (subst (λ refs. SendsText name closed sent refs was now result) set k)
