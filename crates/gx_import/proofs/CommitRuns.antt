-- A commit command run over what an import holds: what its calls answer goes together with the model's step.
use Rattle.std.proofs.Common.{◌≡◌, List, Option, None, Result, Ok, Err, refl, sym, ap, subst, ◌∙◌}
use Rattle.std.specs.Prelude.{IfErr, IfOk, OnOk}
use Rattle.std.specs.List.{AllByRecursion}
use Rattle.gx_model.specs.declared.objects.Kind.{Kind}
use Rattle.gx_model.specs.declared.objects.Kind.TheVariants as kinds
use Rattle.gx_model.specs.Texts.{Bytes}
use Rattle.gx_model.specs.Histories.Files.{FileMap}
use Rattle.gx_model.specs.Histories.Values.{Commit, commit, commit_value, commits_of}
use Rattle.gx_model.specs.Objects.{IsNamer}
use Rattle.gx_model.specs.Records.{name_of}
use Rattle.gx_model.specs.Histories.{Records, with_tree}
use Rattle.gx_model.specs.Laws.RepositoryLaws.{values_of}
use Rattle.gx_model.specs.Records.Sound.{Holds, IsNamedMap, IsSound}
use Rattle.gx_model.specs.Streams.Commands as command
use Rattle.gx_model.specs.Streams.Commands.{Change, CommitParts}
use Rattle.gx_model.specs.Replay.{State, added, all_changed, all_committed, committed_to, first_parent, starting_files, step_commit, text_made, with_first_parent}
use Rattle.gx_object.specs.declared.name.Name.{Name}
use Rattle.gx_tree.specs.Named.{NamedTree}
use Rattle.gx_import.specs.declared.tables.Tables.{Tables}
use Rattle.gx_model.specs.declared.faults.Fault.{Fault}
use Rattle.gx_model.specs.declared.faults.Fault.TheVariants.{OutOfMemory}
use Rattle.gx_import.specs.Additions.{Clash, added_by_commit, blobs_added, commit_added, commit_made}
use Rattle.gx_import.specs.Answers.{AddsAs}
use Rattle.gx_import.specs.Asking.{Reference, TellsVain}
use Rattle.gx_import.specs.Calls.{SetsCommit}
use Rattle.gx_import.specs.Explaining.{Tells, TellsNoChange}
use Rattle.gx_import.specs.declared.explanation.Asked.{Asked}
use Rattle.gx_import.specs.declared.explanation.Explanation.{Explanation}
use Rattle.gx_import.specs.Objects.{IsCommitOf}
use Rattle.gx_import.specs.Rows.{AreAll, AreBoth}
use Rattle.gx_import.specs.Standing.{Follows, Stands}
use Rattle.gx_model.specs.Objects.NameMaps.{AreFiles}
use Rattle.gx_model.proofs.Records.FilesByName.{files_named}
use Rattle.gx_import.proofs.AskedReferences.{adds_free, none_vain}
use Rattle.gx_import.proofs.HeldParts.{commits_hold}
use Rattle.gx_import.proofs.MadeCommits.{changes_refused, made_refused, parents_after, parents_known, step_made, stepped}
use Rattle.gx_import.proofs.Standings.{one_has}
use Rattle.gx_import.proofs.ToldCommits.{adding_told}

-- a call that is refused for want of memory alone
pub set_or_full : {X Y : Type 0} (clash : Type 0) (Be : Y → X → Type 0) (given : Result Y Fault) (answer : Result X Fault) {P : Type 0} → OnOk answer P → IfErr answer (λ fault. fault ≡ OutOfMemory)
    → (P → (y : Y) × (given ≡ Ok y) × ((x : X) → Be y x)) → AddsAs clash Be answer given
set_or_full clash Be given (Ok x) p f k = let a = k p in (a.0, a.1, a.2 x)
set_or_full clash Be given (Err e) p f k = subst (λ e. AddsAs clash Be (Err e) given) (sym f) tt

-- what follows where a call is accepted
pub on_ok : {X E : Type 0} (answer : Result X E) {P Q : Type 0} → OnOk answer P → (P → Q) → IfOk answer (λ x. Q)
on_ok (Ok x) p k = k p
on_ok (Err e) p k = tt

module _ (name : Kind → Bytes → Bytes) where
  -- the parents that were found
  abbrev pub ParentsFound : State → CommitParts → Option Name → List Name → Type 0
  ParentsFound s t first parents =
      (made : Option Commit) × (others : List Commit) × (first_parent name s t ≡ Ok made) × (all_committed name t.ref s t.merges ≡ Ok others)
      × AreBoth (IsCommitOf name s.history.values) made first × AreAll (IsCommitOf name s.history.values) (with_first_parent made others) parents

  -- what is said of the commit that is added
  abbrev pub AddGives : (A : Type 0) → Records → Records → FileMap Bytes → List Name → CommitParts → Result Name Fault → Type 0
  AddGives A old new files parents t answer =
      (tables : Tables A) (s : State) (f : FileMap Bytes) (ps : List Commit) → Stands name old tables s → AreFiles name s.history.values f files → AreAll (IsCommitOf name s.history.values) ps parents
      → AddsAs (Clash name (values_of old) (commit_added f (commit f (commits_of ps) (text_made t))))
      (λ u called. Follows name new tables s u × (called.bytes ≡ name_of name (commit_value (commit f (commits_of ps) (text_made t))))) answer
      (Ok (added (commit_value (commit f (commits_of ps) (text_made t))) s))

module _ (name : Kind → Bytes → Bytes) {A : Type 0} (mid : Records) (tables : Tables A) (start stop : FileMap Bytes) (s : State) where
  -- the state and the files after the changes
  abbrev pub FilesGiven : List Change → Type 0
  FilesGiven cs = (q : State × FileMap Bytes) × (all_changed name s start cs ≡ Ok q) × (Follows name mid tables s q.0 × AreFiles name q.0.history.values q.1 stop)

  module _ (t : CommitParts) (made : FilesGiven t.changes) (parents : List Name) (ps : List Commit) (all : AreAll (IsCommitOf name s.history.values) ps parents) where
    stay : AreAll (IsCommitOf name made.0.0.history.values) ps parents
    stay = parents_after name s start t.changes made.0 made.1 ps parents all

    -- the names of the files and of the parents, where the records are sound
    module _ (namer : IsNamer name) (now : IsSound name mid) where
      pub named_after : IsNamedMap mid.records stop
      named_after = files_named name namer mid now made.0.1 stop (subst (λ z. AreFiles name z.values made.0.1 stop) (sym made.2.0.stands.history) made.2.1)

      pub parents_held : AllByRecursion (λ n. Holds mid.records kinds.Commit n.bytes) parents
      parents_held = commits_hold name namer mid now ps parents (subst (λ z. AreAll (IsCommitOf name z.values) ps parents) (sym made.2.0.stands.history) stay)

module _ (name : Kind → Bytes → Bytes) {A : Type 0} (r mid new : Records) (before tables : Tables A) (stop : FileMap Bytes) (s : State) (h : Stands name r before s) (t : CommitParts) (first : Option Name) (parents : List Name)
    (p : ParentsFound name s t first parents) where
  -- the files aren't changed
  pub changes_fail : {X : Type 0} (Is : State × FileMap Bytes → X → Type 0) (e : Fault) → AddsAs (Clash name (values_of r) (blobs_added name s (starting_files p.0) t.changes)) Is (Err e) (all_changed name s (starting_files p.0) t.changes)
      → {Z : Type 0} (Be : State → Z → Type 0) → AddsAs (Clash name (values_of r) (added_by_commit name s t)) Be (Err e) (step_commit name s t)
  changes_fail Is e adds Be = parents_known name s t p.0 p.2 p.1 p.3 (values_of r) Be (Err e) (changes_refused name s t p.0 p.1 (values_of r) Is Be e adds)

  module _ (m : FilesGiven name mid tables (starting_files p.0) stop s t.changes) where
    abbrev v : Commit
    v = commit_made t p.0 p.1 m.0.1

    abbrev added_as : (answer : Result Name Fault) → AddGives name A mid new stop parents t answer
        → AddsAs (Clash name (values_of mid) (commit_added m.0.1 v)) (λ u called. Follows name new tables m.0.0 u × (called.bytes ≡ name_of name (commit_value v))) answer (Ok (added (commit_value v) m.0.0))
    added_as answer adds = adds tables m.0.0 m.0.1 (with_first_parent p.0 p.1) m.2.0.stands m.2.1 (stay name mid tables (starting_files p.0) stop s t m parents (with_first_parent p.0 p.1) p.5)

    -- the commit isn't added
    pub add_fails : (e : Fault) → AddGives name A mid new stop parents t (Err e) → {Z : Type 0} (Be : State → Z → Type 0) → AddsAs (Clash name (values_of r) (added_by_commit name s t)) Be (Err e) (step_commit name s t)
    add_fails e adds Be =
        parents_known name s t p.0 p.2 p.1 p.3 (values_of r) Be (Err e)
        (made_refused name s t p.0 p.1 m.0 m.1 (values_of r) (values_of mid) (ap (λ z. z.values) h.history) (ap (λ z. z.values) m.2.0.stands.history)
        (λ (u : State) (called : Name). Follows name new tables m.0.0 u × (called.bytes ≡ name_of name (commit_value v))) Be e (added_as (Err e) adds))

    -- and no change is told
    pub add_told : {B : Type 0} (e : Fault) → AddGives name A mid new stop parents t (Err e) → (told : Explanation B) → TellsNoChange told → Tells name {X = Unit {0}} s (command.Commit t) (Err e) told
    add_told e adds told blank = adding_told name {X = Name} {Y = State} s (command.Commit t) told blank (Clash name (values_of mid) (commit_added m.0.1 v))
        (λ u called. Follows name new tables m.0.0 u × (called.bytes ≡ name_of name (commit_value v))) e (added (commit_value v) m.0.0) (added_as (Err e) adds)

    -- nor anything that it asks for
    pub add_vain : {B : Type 0} (Asks : Reference → Type 0) (e : Fault) → AddGives name A mid new stop parents t (Err e) → (told : Option (Asked B)) → told ≡ None → TellsVain Asks e told
    add_vain Asks e adds told blank = none_vain Asks e told blank (adds_free {X = Name} {Y = State} (Clash name (values_of mid) (commit_added m.0.1 v))
        (λ u called. Follows name new tables m.0.0 u × (called.bytes ≡ name_of name (commit_value v))) e (Ok (added (commit_value v) m.0.0)) (added_as (Err e) adds) (added (commit_value v) m.0.0) refl)

    -- it is, and then its mark and its branch are set
    pub commit_done : (called : Name) → AddGives name A mid new stop parents t (Ok called) → (after : NamedTree) → after.files ≡ stop → (now : Tables A) → SetsCommit tables now t.mark t.ref called after
        → (u : State) × (step_commit name s t ≡ Ok u) × Follows name new now s u
    commit_done called adds after same now set =
        let a = added_as (Ok called) adds in
        let one : added (commit_value v) m.0.0 ≡ a.0 = cc a.1 in
        let f = subst (Follows name new tables m.0.0) (sym one) a.2.0 in
        let is : IsCommitOf name (added (commit_value v) m.0.0).history.values v called = record { stands = one_has (with_tree m.0.0.history.values m.0.1) (commit_value v); named = a.2.1 } in
        let on = set name new (added (commit_value v) m.0.0) v f.stands is (same ∙ m.2.1.named) in (
          committed_to t v m.0.0,
          stepped name s t p.0 p.2 p.1 p.3 ∙ step_made name s t p.0 p.1 m.0 m.1,
          record { stands = on.stands; progress = on.progress ∙ f.progress ∙ m.2.0.progress; held = on.held ∙ f.held ∙ m.2.0.held },
        )
