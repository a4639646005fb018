-- The lines of a commit's parents, one after another.
use Rattle.std.proofs.Common.{◌≡◌, ◌≢◌, ◌≤◌, ℕ, ◌+◌, List, [], ◌∷◌, ◌++◌, map, length, take, Some, Ok, Err, sym, subst, codes, arith}
use Rattle.std.specs.List.{slice_get}
use Rattle.std.proofs.lemmas.List.{length-map, take_all}
use Rattle.gx_model.specs.declared.objects.Kind.{Kind}
use Rattle.gx_model.specs.declared.objects.Kind.TheVariants as kinds
use Rattle.gx_model.specs.Changes.{named_in}
use Rattle.gx_model.specs.Export.{commit_ish_text, items_text, word_line}
use Rattle.gx_model.specs.Histories.Values.{Commit, Value}
use Rattle.gx_model.specs.Histories.{Records}
use Rattle.gx_model.specs.Objects.{CommitParts, IsNamer}
use Rattle.gx_model.specs.Records.HistoryOf.{commit_of_value, value_of_name}
use Rattle.gx_model.specs.Records.Sound.{Holds, IsSound}
use Rattle.gx_model.specs.Streams.Items.{Item}
use Rattle.gx_model.specs.Texts.{Bytes}
use Rattle.gx_model.proofs.Records.HeldValues.{holds_held}
use Rattle.gx_object.specs.declared.name.Name.{Name}
use Rattle.gx_rev.specs.Objects.{IsHeldAs, commit_at}
use Rattle.gx_export.specs.Naming.{shown_commit}
use Rattle.gx_export.specs.Outputs.{Sent, Writes}
use Rattle.gx_export.specs.Parts.{commits_called}
use Rattle.gx_export.specs.Texts.{parents_by}
use Rattle.gx_export.specs.declared.fault.ExportFault.{ExportFault}
use Rattle.gx_export.specs.declared.naming.CommitIsh.{CommitIsh}
use Rattle.gx_export.proofs.CommitLines.{image_at, line_is, parent_line, parents_next, parents_parts, passes_at}
use Rattle.gx_sending.specs.Faults.{of_export}
use Rattle.gx_sending.specs.Marks.{Adds, HasWritten, NamesCommit}
use Rattle.gx_sending.specs.declared.written.Written.{Written}
use Rattle.gx_sending.proofs.Sending.{adds_bytes, adds_later, sink_fails, stops_sooner}
use Rattle.gx_changes.specs.Commits.{HoldsParents}

-- the lines of the first parents went out
abbrev pub FirstParents : {W A : Type 0} → CommitParts → Written W A → ℕ → Written W A → Type 0
FirstParents view first i now =
    (name : Kind → Bytes → Bytes) (r : Records) (ws : List Value) → IsNamer name → IsSound name r → HasWritten r ws first → HoldsParents r view
    → Adds ws (parents_by (named_in name ws) (take i (commits_called r view.parents))) first now (Ok tt) r

module _ {W A : Type 0} (view : CommitParts) (first : Written W A) (i : ℕ) (now : Written W A) (done : FirstParents view first i now) where
  pub all_parents : length view.parents ≤ i → (name : Kind → Bytes → Bytes) (r : Records) (ws : List Value) → IsNamer name → IsSound name r → HasWritten r ws first → HoldsParents r view
      → Adds ws (parents_by (named_in name ws) (commits_called r view.parents)) first now (Ok tt) r
  all_parents l name r ws n s h p =
      let called = λ (m : Bytes). commit_of_value (value_of_name r.records m) in
      let all : length (map called view.parents) ≤ i = omega (arith, l, length-map view.parents called) in
      subst (λ ps. Adds ws (parents_by (named_in name ws) ps) first now (Ok tt) r) (take_all i (map called view.parents) all) (done name r ws n s h p)

  module _ (parent : Name) (at : Some parent.bytes ≡ slice_get view.parents i) (named : CommitIsh) (names : NamesCommit now parent named) (word : Bytes) (one : i ≡ 0 → word ≡ codes "from") (other : i ≢ 0 → word ≡ codes "merge") (after : Sent) where
    module _ (name : Kind → Bytes → Bytes) (r : Records) (ws : List Value) (namer : IsNamer name) (sound : IsSound name r) (h : HasWritten r ws first) (hold : HoldsParents r view) where
      abbrev parents : List Commit
      parents = commits_called r view.parents

      abbrev made : Commit
      made = commit_at r parent

      abbrev line : Item
      line = parent_line (named_in name ws) i made

      before : Adds ws (parents_by (named_in name ws) (take i parents)) first now (Ok tt) r
      before = done name r ws namer sound h hold

      held : IsHeldAs kinds.Commit r parent
      held = holds_held name namer r sound kinds.Commit parent.bytes (passes_at (Holds r.records kinds.Commit) view.parents i parent.bytes hold at)

      same : word_line word (commit_ish_text (shown_commit named)) ≡ line
      same = line_is (named_in name ws) i made word (shown_commit named) one other (names name r ws namer sound held before.written)

      there : slice_get parents i ≡ Some made
      there = image_at (λ m. commit_of_value (value_of_name r.records m)) view.parents i parent.bytes at

      next_line : Writes now.output after (items_text (word_line word (commit_ish_text (shown_commit named)) ∷ [])) (Ok tt) → Adds ws (parents_by (named_in name ws) (take (i + 1) parents)) first (record now { output = after }) (Ok tt) r
      next_line k =
          subst (λ items. Adds ws items first (record now { output = after }) (Ok tt) r) (sym (parents_next (named_in name ws) parents i made there))
          (adds_later r ws ws (parents_by (named_in name ws) (take i parents)) (line ∷ []) first now (record now { output = after }) (Ok tt) before
          (adds_bytes r ws (line ∷ []) now after before.written (subst (λ l. Writes now.output after (items_text (l ∷ [])) (Ok tt)) same k)))

      line_fails : (fault : ExportFault) → Writes now.output after (items_text (word_line word (commit_ish_text (shown_commit named)) ∷ [])) (Err fault) → Adds ws (parents_by (named_in name ws) parents) first (record now { output = after }) (Err (of_export fault)) r
      line_fails fault k =
          let parts = parents_parts (named_in name ws) parents i made there in
          let e = of_export fault in
          let new = record now { output = after } in
          subst (λ items. Adds ws items first new (Err e) r) (sym parts.1)
          (adds_later r ws ws (parents_by (named_in name ws) (take i parents)) (line ∷ parts.0) first now new (Err e) before
          (stops_sooner r ws ws (line ∷ []) parts.0 now new e (sink_fails r ws (line ∷ []) now after fault (subst (λ l. Writes now.output after (items_text (l ∷ [])) (Err fault)) same k))))

    pub next_parent : Writes now.output after (items_text (word_line word (commit_ish_text (shown_commit named)) ∷ [])) (Ok tt) → FirstParents view first (i + 1) (record now { output = after })
    next_parent k = λ name r ws n s h p. next_line name r ws n s h p k

    pub parent_fails : (fault : ExportFault) → Writes now.output after (items_text (word_line word (commit_ish_text (shown_commit named)) ∷ [])) (Err fault)
        → (name : Kind → Bytes → Bytes) (r : Records) (ws : List Value) → IsNamer name → IsSound name r → HasWritten r ws first → HoldsParents r view → Adds ws (parents_by (named_in name ws) (commits_called r view.parents)) first (record now { output = after }) (Err (of_export fault)) r
    parent_fails fault k = λ name r ws n s h p. line_fails name r ws n s h p fault k
