-- What both replays add, mark and put on branches.
use Rattle.std.proofs.Common.{◌≡◌, ℕ, List, [], ◌∷◌, Option, None, Some, sym, ap, subst, ◌∙◌}
use Rattle.std.specs.Prelude.{IfSome}
use Rattle.std.specs.List.{AllByRecursion}
use Rattle.std.specs.Option.{option_map}
use Rattle.std.specs.FinMap.Entries.{by_order, put}
use Rattle.std.specs.declared.cmp.Ordering.{Ordering}
use Rattle.std.specs.declared.cmp.Ordering.TheVariants.{Less, Equal, Greater}
use Rattle.gx_model.specs.declared.objects.Kind.{Kind}
use Rattle.gx_model.specs.Objects.{IsNamer}
use Rattle.gx_model.specs.Texts.{Bytes, byte_cmp}
use Rattle.gx_model.specs.Histories.Files.{FileMap}
use Rattle.gx_model.specs.Histories.Values.{Commit, Commits, Tag, Value, blob_value, commit, commit_value, tag_value}
use Rattle.gx_model.specs.Histories.{History, with_value}
use Rattle.gx_model.specs.Streams.Commands.{CommitParts}
use Rattle.gx_model.specs.Replay.{State, added, committed_to, marked, on_branch, text_made}
use Rattle.gx_stand_ins.specs.Asked.{IsAlikeRef}
use Rattle.gx_stand_ins.specs.StandIns.{AreNamers, AreOwnBytes, AreOwnTexts, CommitKeepsName, CommitsKeepNames, FilesKeepNames, StandIns, ValueKeepsName, whole_commit, whole_commits, whole_files, whole_tag, whole_value}
use Rattle.gx_stand_ins.specs.StandInLaws.{IsSmall}
use Rattle.gx_stand_ins.proofs.EachValue.{each, each_put}
use Rattle.gx_stand_ins.proofs.GrownTogether.{AreGrown, blob_grown, commit_grown, made, tag_grown}
use Rattle.gx_stand_ins.proofs.LedStates.{GoAlike}

-- ---- entries put

module _ {K X : Type 0} (order : K → K → Ordering) where
  put_keys : (P : K → Type 0) (k : K) (x : X) (es : List (K × X)) → P k → AllByRecursion (λ e. P e.0) es → AllByRecursion (λ e. P e.0) (put order k x es)
  put_keys P k x [] h all = (h, tt)
  put_keys P k x (e ∷ es) h all =
      elim (order k e.0) as (λ o. AllByRecursion (λ e. P e.0) (by_order o ((k, x) ∷ e ∷ es) ((e.0, x) ∷ es) (e ∷ put order k x es))) [
        | Less ↦ (h, all)
        | Equal ↦ all
        | Greater ↦ (all.0, put_keys P k x es h all.1)
      ]

  put_values : (P : X → Type 0) (k : K) (x : X) (es : List (K × X)) → P x → AllByRecursion (λ e. P e.1) es → AllByRecursion (λ e. P e.1) (put order k x es)
  put_values P k x [] h all = (h, tt)
  put_values P k x (e ∷ es) h all =
      elim (order k e.0) as (λ o. AllByRecursion (λ e. P e.1) (by_order o ((k, x) ∷ e ∷ es) ((e.0, x) ∷ es) (e ∷ put order k x es))) [
        | Less ↦ (h, all)
        | Equal ↦ (h, all.1)
        | Greater ↦ (all.0, put_values P k x es h all.1)
      ]

module _ (stand name : Kind → Bytes → Bytes) (ins : StandIns) (small whole : History) where
  abbrev Alike : State → State → Type 0
  Alike = GoAlike stand name ins small whole

  -- other values, and all else as it was
  with_values : (s w : State) (vs us : List Value) → Alike s w → AreGrown stand name ins small.values whole.values vs us
      → Alike (record s { history = record { values = vs; refs = s.history.refs } }) (record w { history = record { values = us; refs = w.history.refs } })
  with_values s w vs us h grown = record {
    grown = grown;
    refs = record { sets = h.refs.sets; front = h.refs.front; grown = h.refs.grown; kept = h.refs.kept };
    tables = record {
      marks = h.tables.marks;
      marks_kept = h.tables.marks_kept;
      branches = h.tables.branches;
      branches_kept = h.tables.branches_kept;
      branches_alike = h.tables.branches_alike;
      tags = h.tables.tags;
      tags_kept = h.tables.tags_kept;
      published = h.tables.published;
    };
    forced = h.forced;
    progress = h.progress;
    small_held = h.small_held;
    whole_held = h.whole_held;
  }

  -- other tables, and all else as it was
  with_marks : (s w : State) (ms ns : List (ℕ × Value)) → Alike s w → ns ≡ each (whole_value ins) ms → AllByRecursion (λ mark. ValueKeepsName stand name ins mark.1) ms
      → Alike (record s { marks = ms }) (record w { marks = ns })
  with_marks s w ms ns h e kept = record {
    grown = h.grown;
    refs = record { sets = h.refs.sets; front = h.refs.front; grown = h.refs.grown; kept = h.refs.kept };
    tables = record {
      marks = e;
      marks_kept = kept;
      branches = h.tables.branches;
      branches_kept = h.tables.branches_kept;
      branches_alike = h.tables.branches_alike;
      tags = h.tables.tags;
      tags_kept = h.tables.tags_kept;
      published = h.tables.published;
    };
    forced = h.forced;
    progress = h.progress;
    small_held = h.small_held;
    whole_held = h.whole_held;
  }

  pub marked_alike : (m : Option ℕ) (v : Value) (s w : State) → Alike s w → ValueKeepsName stand name ins v → Alike (marked m v s) (marked m (whole_value ins v) w)
  marked_alike None v s w h k = h
  marked_alike (Some n) v s w h k = with_marks s w ((n, v) ∷ s.marks) ((n, whole_value ins v) ∷ w.marks) h (ap (λ ms. (n, whole_value ins v) ∷ ms) h.tables.marks) (k, h.tables.marks_kept)

  pub branch_alike : (n : Bytes) (o : Option Commit) (s w : State) → Alike s w → IsAlikeRef stand name ins small whole n → IfSome o (CommitKeepsName stand name ins) → Alike (on_branch n o s) (on_branch n (option_map (whole_commit ins) o) w)
  branch_alike n o s w h alike k = record {
    grown = h.grown;
    refs = record { sets = h.refs.sets; front = h.refs.front; grown = h.refs.grown; kept = h.refs.kept };
    tables = record {
      marks = h.tables.marks;
      marks_kept = h.tables.marks_kept;
      branches = ap (put byte_cmp n (option_map (whole_commit ins) o)) h.tables.branches ∙ each_put (option_map (whole_commit ins)) byte_cmp n o s.branches;
      branches_kept = put_values byte_cmp (λ c. IfSome c (CommitKeepsName stand name ins)) n o s.branches k h.tables.branches_kept;
      branches_alike = put_keys byte_cmp (IsAlikeRef stand name ins small whole) n o s.branches alike h.tables.branches_alike;
      tags = h.tables.tags;
      tags_kept = h.tables.tags_kept;
      published = h.tables.published;
    };
    forced = h.forced;
    progress = h.progress;
    small_held = h.small_held;
    whole_held = h.whole_held;
  }

  with_tag : (n : Bytes) (t : Tag) (s w : State) → Alike s w → CommitKeepsName stand name ins t.target → Alike (record s { tags = put byte_cmp n t s.tags }) (record w { tags = put byte_cmp n (whole_tag ins t) w.tags })
  with_tag n t s w h k = record {
    grown = h.grown;
    refs = record { sets = h.refs.sets; front = h.refs.front; grown = h.refs.grown; kept = h.refs.kept };
    tables = record {
      marks = h.tables.marks;
      marks_kept = h.tables.marks_kept;
      branches = h.tables.branches;
      branches_kept = h.tables.branches_kept;
      branches_alike = h.tables.branches_alike;
      tags = ap (put byte_cmp n (whole_tag ins t)) h.tables.tags ∙ each_put (whole_tag ins) byte_cmp n t s.tags;
      tags_kept = put_values byte_cmp (λ made. CommitKeepsName stand name ins made.target) n t s.tags k h.tables.tags_kept;
      published = h.tables.published;
    };
    forced = h.forced;
    progress = h.progress;
    small_held = h.small_held;
    whole_held = h.whole_held;
  }

  module _ (namers : AreNamers stand name) (start : IsSmall stand name ins small whole) where
    -- bytes of their own
    pub blob_alike : (x : Bytes) (s w : State) → Alike s w → AreOwnBytes stand name ins x → Alike (added (blob_value x) s) (added (blob_value x) w)
    blob_alike x s w h own =
        with_values s w (with_value s.history.values (blob_value x)) (with_value w.history.values (blob_value x)) h
        (blob_grown stand name ins namers small.values whole.values start.held s.history.values w.history.values h.grown x own)

    -- a commit that is made, marked and on its branch
    pub commit_alike : (namer : IsNamer name) (c : CommitParts) (f g : FileMap Bytes) (ps qs : Commits) (s w : State) → Alike s w → g ≡ whole_files ins f → FilesKeepNames stand name ins f
        → qs ≡ whole_commits ins ps → CommitsKeepNames stand name ins ps → AreOwnTexts stand name ins (text_made c) → IsAlikeRef stand name ins small whole c.ref
        → Alike (committed_to c (commit f ps (text_made c)) s) (committed_to c (commit g qs (text_made c)) w)
    commit_alike namer c f g ps qs s w h files f_kept parents p_kept own alike =
        let new = made stand name ins namers namer f ps (text_made c) f_kept p_kept own in
        let v : Commit = commit f ps (text_made c) in
        let same : whole_commit ins v ≡ commit g qs (text_made c) = new.whole ∙ sym (λ i. commit (files i) (parents i) (text_made c)) in
        let values = with_values s w (with_value s.history.values (commit_value v)) (with_value w.history.values (commit_value (whole_commit ins v))) h
        (commit_grown stand name ins namers small.values whole.values start.held s.history.values w.history.values h.grown f ps (text_made c) new.may f_kept new.whole) in
        subst (λ u. Alike (committed_to c v s) (committed_to c u w)) same
        (branch_alike c.ref (Some v) (marked c.mark (commit_value v) (added (commit_value v) s)) (marked c.mark (commit_value (whole_commit ins v)) (added (commit_value (whole_commit ins v)) w))
        (marked_alike c.mark (commit_value v) (added (commit_value v) s) (added (commit_value (whole_commit ins v)) w) values new.may.0) alike new.may.0)

    -- a tag that is made, marked and at its ref
    pub tag_alike : (n : Bytes) (m : Option ℕ) (t : Tag) (s w : State) → Alike s w → CommitKeepsName stand name ins t.target
        → Alike (record (marked m (tag_value t) (added (tag_value t) s)) { tags = put byte_cmp n t (marked m (tag_value t) (added (tag_value t) s)).tags })
        (record (marked m (tag_value (whole_tag ins t)) (added (tag_value (whole_tag ins t)) w)) { tags = put byte_cmp n (whole_tag ins t) (marked m (tag_value (whole_tag ins t)) (added (tag_value (whole_tag ins t)) w)).tags })
    tag_alike n m t s w h k =
        let values = with_values s w (with_value s.history.values (tag_value t)) (with_value w.history.values (tag_value (whole_tag ins t))) h
        (tag_grown stand name ins namers small.values whole.values start.held s.history.values w.history.values h.grown t k) in
        with_tag n t (marked m (tag_value t) (added (tag_value t) s)) (marked m (tag_value (whole_tag ins t)) (added (tag_value (whole_tag ins t)) w))
        (marked_alike m (tag_value t) (added (tag_value t) s) (added (tag_value (whole_tag ins t)) w) values k) k
