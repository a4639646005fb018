-- The commands of a range's export can be spelled, and its text is imported where it can be received.
use Rattle.std.proofs.Common.{◌≡◌, suc, ◌<◌, ◌≤◌, ◌^◌, Bool, true, false, cond, List, [], ◌∷◌, length, map, refl, ap, subst, ◌∙◌, arith, inl, inr}
use Rattle.std.specs.Bool.{passes}
use Rattle.std.specs.List.{filter_map, flat_map, fold, list_all, AllByRecursion}
use Rattle.std.specs.Prelude.{reverse, T}
use Rattle.gx_model.specs.declared.objects.Kind.{Kind}
use Rattle.gx_model.specs.Texts.{Bytes}
use Rattle.gx_model.specs.Texts.RefNames.{is_ref_name, is_tag_name}
use Rattle.gx_model.specs.Streams.Commands.{Named}
use Rattle.gx_model.specs.Streams.Grammar.{commands_of}
use Rattle.gx_model.specs.Histories.Values.{Commit, Value, commit_of, commit_value, files_of, is_content, is_proper, is_proper_text, list_of, parents_of, text_of}
use Rattle.gx_model.specs.Histories.{History, IsHistory, IsIn, IsWhole, Records, Target, at_commit, at_tag, is_in, value_at}
use Rattle.gx_model.specs.Objects.{IsNamer, hex}
use Rattle.gx_model.specs.Records.{name_of}
use Rattle.gx_model.specs.Records.HistoryOf.{history_of}
use Rattle.gx_model.specs.Records.Sound.{IsSound}
use Rattle.gx_model.specs.Revisions.Ranges.{Word, listing}
use Rattle.gx_model.specs.Replay.{finished, peeled_at, replayed, replayed_text, start}
use Rattle.gx_model.specs.Export.{blob_commands, carrier, command_items, contents, is_reached, marked_in, ref_by, reset_before, to_nothing, with_blobs}
use Rattle.gx_model.specs.Changes.{all_changes, base_files, carrier_reset, commit_changes, commit_ref, commit_revision, commit_with_changes, commits_with_changes, is_in_range, named_in, own_files, range_commands, range_text, sending_commands, set_refs, with_changes}
use Rattle.gx_model.specs.Laws.ExportLaws.{IsNamedCommit, IsOne, IsReadableTarget}
use Rattle.gx_model.specs.Laws.RangeLaws.{CanReceive, HoldsRest, IsReadableChange, IsReadableRange, IsReceived, SoundRepositoriesReceive, range_report}
use Rattle.gx_model.proofs.Histories.AddedValues.{is_in_is}
use Rattle.gx_model.proofs.Streams.CommandEnds.{closed_read, closed_spelled}
use Rattle.gx_model.proofs.Export.CommitSteps.{blobs_have}
use Rattle.gx_model.proofs.Export.ExportSteps.{proper_refs}
use Rattle.gx_model.proofs.Histories.FileMapEdits.{Parts}
use Rattle.gx_model.proofs.Records.GrownRecords.{distinct_of}
use Rattle.gx_model.proofs.Records.HistoriesExist.{stands}
use Rattle.gx_model.proofs.Streams.ItemTexts.{items_read}
use Rattle.gx_model.proofs.Records.LinkedValues.{parts_in, proper_in}
use Rattle.gx_model.proofs.Revisions.NamedByDigits.{name_is_text}
use Rattle.gx_model.proofs.Records.OneHistory.{told_by_name}
use Rattle.gx_model.proofs.Texts.PathTests.{first, is_true, second}
use Rattle.gx_model.proofs.Export.PublishedRefs.{Refs}
use Rattle.gx_model.proofs.Ranges.RangeReplays.{range_replayed}
use Rattle.gx_model.proofs.Ranges.RangeSteps.{have_names, ref_passes}
use Rattle.gx_model.proofs.Export.ReachedValues.{filter_one, one_in}
use Rattle.gx_model.proofs.Ranges.ReceivedValues.{held_parts}
use Rattle.gx_model.proofs.Ranges.SentCommits.{is_sent, refs_left, sent_are}
use Rattle.gx_model.proofs.Changes.SpelledChanges.{own_spelled}
use Rattle.gx_model.proofs.Export.SpelledExports.{AreSpelled, blobs_spelled, carrier_is_ref, commit_spelled, contents_fit, is_mark, more_blobs, reset_spelled, spelled_append}

more_changes : (ws : List Value) (cs : List Commit) → length ws ≤ length (fold with_changes ws cs)
more_changes ws [] = omega arith
more_changes ws (c ∷ cs) = omega (arith, more_blobs ws (contents (own_files c)), more_changes (with_changes ws c) cs)

module _ (name : Kind → Bytes → Bytes) (namer : IsNamer name) where
  -- a commit is named by its mark or its digits
  is_named : (ws : List Value) (c : Commit) → length ws < 2 ^ 64 → IsNamedCommit (named_in name ws c)
  is_named ws c lt =
      elim (is_in ws (commit_value c)) as (λ t. is_in ws (commit_value c) ≡ t → IsNamedCommit (cond t (marked_in ws (commit_value c)) (Named (commit_revision name c)))) [
        | true ↦ λ e. is_mark ws (commit_value c) (is_in_is ws (commit_value c) (passes _ e)) lt
        | false ↦ λ e. (hex (name_of name (commit_value c)), name_is_text name namer (commit_value c), refl)
      ] refl

  all_named : (ws : List Value) (ps : List Commit) → length ws < 2 ^ 64 → AllByRecursion (λ p. IsNamedCommit (named_in name ws p)) ps
  all_named ws [] lt = tt
  all_named ws (p ∷ ps) lt = (is_named ws p lt, all_named ws ps lt)

  -- what the parents of a commit are, and that it is proper
  record IsSendable (c : Commit) : Type 0 where
    pub proper : T (is_proper (commit_value c))
    pub base : Parts (base_files (list_of (parents_of c)))

  commits_spelled : (refs : Refs) → AllByRecursion (λ r. is_ref_name r.0 ≡ true) refs → (ws : List Value) (cs : List Commit) → AllByRecursion IsSendable cs → AllByRecursion IsReadableChange cs → length (fold with_changes ws cs) < 2 ^ 64
      → AreSpelled (commits_with_changes name refs ws cs)
  commits_spelled refs n ws [] s r lt = tt
  commits_spelled refs n ws (c ∷ cs) s r lt =
      let xs = contents (own_files c) in
      let us = with_blobs ws xs in
      let ps = list_of (parents_of c) in
      let content = first (is_content (files_of c)) (is_proper_text (text_of c)) s.0.proper in
      let text = second (is_content (files_of c)) (is_proper_text (text_of c)) s.0.proper in
      let fits : suc (length us) < 2 ^ 64 = omega (arith, more_changes (with_changes ws c) cs) in
      let on = commit_ref refs c in
      let ref = ref_passes is_ref_name true refs c carrier_is_ref n in
      spelled_append (commit_with_changes name refs ws c) (commits_with_changes name refs (with_changes ws c) cs)
      (spelled_append (blob_commands ws xs) _ (blobs_spelled ws xs (contents_fit (own_files c) r.0.files) (omega arith))
      (spelled_append (reset_before on ps) _ (reset_spelled on ps ref) (
        commit_spelled on (named_in name us) (commit_changes us c) us c ref fits r.0.message text r.0.headers (all_named us ps (omega arith))
            (own_spelled us c (omega arith) s.0.base content r.0.files (blobs_have ws xs)),
        tt,
      )))
      (commits_spelled refs n (with_changes ws c) cs s.1 r.1 lt)

  refs_spelled : (ws : List Value) (rs : Refs) → length ws < 2 ^ 64 → AllByRecursion (λ r. is_ref_name r.0 ≡ true) rs → AllByRecursion (λ r. T (is_proper (value_at r.1))) rs → AllByRecursion (λ r. IsReadableTarget r.1) rs
      → AreSpelled (map (ref_by (named_in name ws)) rs)
  refs_spelled ws [] lt n p r = tt
  refs_spelled ws ((q, at_commit c) ∷ rs) lt n p r = ((n.0, is_named ws c lt), refs_spelled ws rs lt n.1 p.1 r.1)
  refs_spelled ws ((q, at_tag t) ∷ rs) lt n p r = (
    record { name = is_true _ (first (is_tag_name t.name) _ p.0); mark = refl; target = is_named ws t.target lt; tagger = is_true _ (second (is_tag_name t.name) _ p.0); message = r.0 },
    refs_spelled ws rs lt n.1 p.1 r.1,
  )

-- ---- what a range sends stands in the history

pub each_one_of : (P : Commit → Type 0) (cs : List Commit) → ((c : Commit) → IsOne cs c → P c) → AllByRecursion P cs
each_one_of P [] f = tt
each_one_of P (c ∷ cs) f = (f c (inl refl), each_one_of P cs (λ d i. f d (inr i)))

unmapped : (P : Value → Type 0) (ps : List Commit) → AllByRecursion P (map commit_value ps) → AllByRecursion (λ p. P (commit_value p)) ps
unmapped P [] h = tt
unmapped P (p ∷ ps) h = (h.0, unmapped P ps h.1)

pub carrier_spelled : (refs : Refs) (cs : List Commit) → AreSpelled (carrier_reset refs cs)
carrier_spelled refs cs = elim (list_all (is_reached refs) cs) as (λ t. AreSpelled (cond t [] (to_nothing carrier ∷ []))) [ true ↦ tt | false ↦ ((carrier_is_ref, tt), tt) ]

module _ (h : History) (x : IsHistory h) (words : List Word) where
  whole : IsWhole h.values
  whole = record { closed = x.closed; proper = x.proper }

  -- a commit that is sent stands in the history
  pub sent_stands : (c : Commit) → IsOne (reverse (listing h words)) c → IsIn h.values (commit_value c)
  sent_stands c i = one_in h.values c (filter_one (is_sent words) (filter_map commit_of h.values) c (subst (λ cs. IsOne cs c) (sent_are h words) i))

  -- and so do its parents
  pub parents_stand : (c : Commit) → IsIn h.values (commit_value c) → AllByRecursion (λ p. IsIn h.values (commit_value p)) (list_of (parents_of c))
  parents_stand c i = unmapped (IsIn h.values) (list_of (parents_of c)) (parts_in h.values (commit_value c) whole i).1

  module _ (name : Kind → Bytes → Bytes) (namer : IsNamer name) where
    sendable : AllByRecursion (IsSendable name namer) (reverse (listing h words))
    sendable = each_one_of (IsSendable name namer) (reverse (listing h words)) (λ c i.
        let there = sent_stands c i in
        record {
          proper = proper_in h.values (commit_value c) (passes _ x.proper) there;
          base = held_parts h.values (list_of (parents_of c)) whole (parents_stand c there);
        })

    pub range_spelled : IsReadableRange h words → AreSpelled (sending_commands name (reverse (listing h words)) (set_refs h words))
    range_spelled r =
        let cs = reverse (listing h words) in
        let refs = set_refs h words in
        let t = λ (r : Bytes × Target). is_in_range words (peeled_at r.1) in
        let names = refs_left (λ r. is_ref_name r.0 ≡ true) (λ r. is_ref_name r.0 ≡ true) t (λ r e _. e) h.refs (have_names h.refs (passes _ x.ref_names)) in
        let proper = refs_left (λ r. T (is_proper (value_at r.1))) (λ r. T (is_proper (value_at r.1))) t (λ r p _. p) h.refs (proper_refs h x) in
        spelled_append (commits_with_changes name refs [] cs) _ (commits_spelled name namer refs names [] cs sendable r.commits r.marks)
        (spelled_append (carrier_reset refs cs) _ (carrier_spelled refs cs) (refs_spelled name namer (all_changes cs) refs r.marks names proper r.refs))

    -- ---- the import

    pub range_imported : (closed : Bool) (target : History) → CanReceive name h words target → IsReadableRange h words
        → (k : History) × IsReceived h words target k × (replayed_text name target (range_text name closed h words) false ≡ finished k [] (range_report name closed h words target k))
    range_imported closed target receive r =
        let inner = sending_commands name (reverse (listing h words)) (set_refs h words) in
        let s = range_spelled r in
        let items = items_read (flat_map command_items (range_commands name closed h words)) (closed_spelled closed inner s) in
        let commands = ap commands_of items ∙ closed_read closed inner s in
        let brought = range_replayed name namer closed h x words target receive in
        (brought.0, brought.1, ap (λ cs. replayed name 0 (start target) cs.list cs.fault) commands ∙ brought.2)

-- a sound repository's history can receive what it holds the rest of
sound_receives : (name : Kind → Bytes → Bytes) → IsNamer name → (h : History) (words : List Word) (target : Records) → IsSound name target → HoldsRest h words (history_of target) → CanReceive name h words (history_of target)
sound_receives name namer h words target sound rest =
    let s = stands name namer target sound in
    record {
      history = s.history;
      told = told_by_name name namer (history_of target).values (distinct_of name namer target (history_of target) s);
      rest = rest;
    }

pub sound_imported : SoundRepositoriesReceive
sound_imported name namer closed h x words target sound rest r = range_imported h x words name namer closed (history_of target) (sound_receives name namer h words target sound rest) r
