-- The commits that a branch and a first parent give, by their names.
use Rattle.std.proofs.Common.{◌≡◌, List, Option, Some, None, refl, sym, ap, subst, ◌∙◌, inl, inr, ◌⊎◌}
use Rattle.std.specs.Prelude.{IsTrue}
use Rattle.std.specs.Map.{lookup}
use Rattle.gx_model.specs.declared.objects.Kind.{Kind}
use Rattle.gx_model.specs.declared.objects.Kind.TheVariants as kinds
use Rattle.gx_model.specs.Texts.{Bytes, same_bytes}
use Rattle.gx_model.specs.Histories.Values.{Commit, Value, commit_value, files_of}
use Rattle.gx_model.specs.Objects.{IsNamer}
use Rattle.gx_model.specs.Records.{named_map}
use Rattle.gx_model.specs.Histories.{Records}
use Rattle.gx_model.specs.Records.HistoryOf.{commit_of_value, history_of, value_of_name}
use Rattle.gx_model.specs.Records.Sound.{IsSound}
use Rattle.gx_model.specs.Records.RecordFaults.{is_held}
use Rattle.gx_model.specs.Replay.{State, own_commit, starting_files}
use Rattle.gx_object.specs.declared.name.Name.{Name}
use Rattle.gx_model.proofs.Records.HeldValues.{value_held}
use Rattle.gx_import.specs.declared.branches.Tip.{Tip}
use Rattle.gx_import.specs.declared.tables.Tables.{Tables}
use Rattle.gx_import.specs.Objects.{IsCommitOf}
use Rattle.gx_import.specs.Rows.{AreBoth, AreRows}
use Rattle.gx_tree.specs.Named.{NamedTree}
use Rattle.gx_import.specs.Standing.{AreTipFiles, IsTaken, IsTip, Stands, WereFiles}
use Rattle.gx_import.proofs.PublishedNames.{published_same, tips_same}
use Rattle.gx_import.proofs.RelatedRows.{related_found, related_through}

module _ (name : Kind → Bytes → Bytes) where
  -- the same name, the same commit
  pub record IsHeldCommit (r : Records) (c : Commit) (n : Bytes) : Type 0 where
    pub held : IsTrue (is_held r.records kinds.Commit n)
    pub same : commit_of_value (value_of_name r.records n) ≡ c

  pub commit_by_name : IsNamer name → (r : Records) → IsSound name r → (c : Commit) (n : Name) → IsCommitOf name (history_of r).values c n → IsHeldCommit r c n.bytes
  commit_by_name namer r sound c n h =
      let v = value_held name namer r sound kinds.Commit (commit_value c) n.bytes h.stands refl h.named in
      record { held = v.0; same = ap commit_of_value v.1 }

  first_held : IsNamer name → (r : Records) → IsSound name r → (made : Option Commit) (n : Name) → AreBoth (IsCommitOf name (history_of r).values) made (Some n) → (c : Commit) × (made ≡ Some c) × IsHeldCommit r c n.bytes
  first_held namer r sound None n h = absurd h
  first_held namer r sound (Some c) n h = (c, refl, commit_by_name namer r sound c n h)

  -- a first parent is held, and its files are those of its name's commit
  pub parent_held : IsNamer name → (r : Records) → IsSound name r → (s : State) → history_of r ≡ s.history → (made : Option Commit) (n : Name) → AreBoth (IsCommitOf name s.history.values) made (Some n) → IsTrue (is_held r.records kinds.Commit n.bytes)
  parent_held namer r sound s e made n h = (first_held namer r sound made n (subst (λ z. AreBoth (IsCommitOf name z.values) made (Some n)) (sym e) h)).2.held

  pub parent_files : IsNamer name → (r : Records) → IsSound name r → (s : State) → history_of r ≡ s.history → (made : Option Commit) (n : Name) → AreBoth (IsCommitOf name s.history.values) made (Some n)
      → files_of (commit_of_value (value_of_name r.records n.bytes)) ≡ starting_files made
  parent_files namer r sound s e made n h =
      let f = first_held namer r sound made n (subst (λ z. AreBoth (IsCommitOf name z.values) made (Some n)) (sym e) h) in
      ap files_of f.2.same ∙ sym (ap (starting_files) f.1)

module _ (name : Kind → Bytes → Bytes) {A : Type 0} where
  pub own_found : (values : List Value) (o : Option (Option Commit)) (tip : Tip A) → AreBoth (IsTip name values) o (Some tip) → AreBoth (IsCommitOf name values) (own_commit o) tip.commit
  own_found values None tip h = absurd h
  own_found values (Some made) tip h = h.commit

  tip_taken : (values : List Value) (c : Option Commit) (old new : Tip A) → IsTip name values c old → IsTaken old new → IsTip name values c new
  tip_taken values c old new h k =
      record { commit = subst (AreBoth (IsCommitOf name values) c) (sym k.0) h.commit; files = left k.2 }
    where
      left : (new.files ≡ old.files) ⊎ (new.files ≡ None) → AreTipFiles name c new.files
      left (inl e) = subst (AreTipFiles name c) (sym e) h.files
      left (inr e) = subst (AreTipFiles name c) (sym e) tt

  -- where files were taken, the tables stand for the same state
  pub taken_stands : (r : Records) (tables now : Tables A) (s : State) → Stands name r tables s → now ≡ record tables { branches = now.branches; at_hand = now.at_hand }
      → AreRows IsTaken tables.branches now.branches → Stands name r now s
  taken_stands r tables now s h others taken = subst (λ t. Stands name r t s) (sym others) (record {
    history = h.history;
    marks = h.marks;
    branches = related_through (IsTip name s.history.values) IsTaken (IsTip name s.history.values) (tip_taken s.history.values) s.branches tables.branches now.branches h.branches taken;
    tags = h.tags;
    ref_names = h.ref_names;
    own = h.own;
    forced = h.forced;
    published = published_same s.published s.tags tables.branches now.branches (tips_same tables.branches now.branches taken) h.published;
  })

  at_tip : (values : List Value) (o : Option (Option Commit)) (tip : Tip A) → AreBoth (IsTip name values) o (Some tip) → (n : Name) (files : NamedTree) → tip.commit ≡ Some n → tip.files ≡ Some files
      → (c : Commit) × IsCommitOf name values c n × (files.files ≡ named_map name (files_of c))
  at_tip values None tip h n files e f = absurd h
  at_tip values (Some made) tip h n files e f = of made (subst (AreBoth (IsCommitOf name values) made) e h.commit) (subst (AreTipFiles name made) f h.files)
    where
      of : (m : Option Commit) → AreBoth (IsCommitOf name values) m (Some n) → AreTipFiles name m (Some files) → (c : Commit) × IsCommitOf name values c n × (files.files ≡ named_map name (files_of c))
      of None i j = absurd i
      of (Some c) i j = (c, i, j)

  -- files that were at hand are those of the first parent
  pub taken_files : IsNamer name → (r : Records) → IsSound name r → (tables : Tables A) (s : State) → Stands name r tables s → (branch : Bytes) (n : Name) (files : NamedTree) → WereFiles tables.branches branch n files
      → (made : Option Commit) → AreBoth (IsCommitOf name s.history.values) made (Some n) → files.files ≡ named_map name (starting_files made)
  taken_files namer r sound tables s h branch n files (tip, found, (at, of)) made first =
      let both = subst (AreBoth (IsTip name s.history.values) (lookup (same_bytes branch) s.branches)) found (related_found (IsTip name s.history.values) (same_bytes branch) s.branches tables.branches h.branches) in
      let t = at_tip s.history.values (lookup (same_bytes branch) s.branches) tip both n files at of in
      let own = commit_by_name name namer r sound t.0 n (subst (λ z. IsCommitOf name z.values t.0 n) (sym h.history) t.1) in
      t.2 ∙ ap (λ c. named_map name (files_of c)) (sym own.same) ∙ ap (named_map name) (parent_files name namer r sound s h.history made n first)
