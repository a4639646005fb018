-- Checkpoints of two replays that go on alike.
use Rattle.std.proofs.Common.{◌≡◌, true, false, cond, List, [], ◌∷◌, ◌++◌, map, Option, None, Some, Ok, Err, refl, sym, ap, subst, ◌∙◌}
use Rattle.std.specs.Prelude.{IfSome, T}
use Rattle.std.specs.Bool.{passes}
use Rattle.std.specs.List.{AllByRecursion, fold, list_all}
use Rattle.std.specs.Option.{option_map}
use Rattle.std.specs.FinMap.Entries.{put}
use Rattle.std.proofs.lemmas.List.{map-append}
use Rattle.std.proofs.lemmas.List.Sums.{fold-append}
use Rattle.gx_model.specs.declared.faults.Fault.TheVariants as fault
use Rattle.gx_model.specs.declared.objects.Kind.{Kind}
use Rattle.gx_model.specs.Texts.{Bytes, byte_cmp}
use Rattle.gx_model.specs.Histories.Values.{Commit, CommitText, Commits, Tag, commit, more, none, same_commit}
use Rattle.gx_model.specs.Histories.Files.{FileMap}
use Rattle.gx_model.specs.Histories.{History, Target, at_commit, at_tag, value_at}
use Rattle.gx_model.specs.Revisions.Denotation.{ref_at}
use Rattle.gx_model.specs.Revisions.Ranges.{reaches, some_reaches}
use Rattle.gx_model.specs.Replay.{State, checkpointed, final, is_fast_forward, is_forward, overwritten, peeled_at, step_checkpoint, with_branch}
use Rattle.gx_model.proofs.Histories.ReachedCommits.{itself}
use Rattle.gx_model.proofs.Histories.SameValues.{commit_is}
use Rattle.gx_model.proofs.Replay.NullGitlinks.{all_join}
use Rattle.gx_model.proofs.Texts.PathTests.{both, first, is_true, left_or, one_of, right_or, second}
use Rattle.gx_stand_ins.specs.Asked.{IsAlikeRef}
use Rattle.gx_stand_ins.specs.StandIns.{CommitKeepsName, StandIns, ValueKeepsName, whole_commit, whole_commits, whole_tag, whole_target}
use Rattle.gx_stand_ins.specs.StandInLaws.{whole_refs, with_refs_set}
use Rattle.gx_stand_ins.proofs.EachValue.{each, each_put}
use Rattle.gx_stand_ins.proofs.Leading.{Leads}
use Rattle.gx_stand_ins.proofs.LedNames.{AreSet, ref_alike}
use Rattle.gx_stand_ins.proofs.LedStates.{GoAlike}

abbrev Refs : Type 0
Refs = List (Bytes × Target)

-- ---- the refs that a state sets, one after the other

abbrev target_then : Bytes → Option Commit → Refs → Refs
target_then n None refs = refs
target_then n (Some c) refs = (n, at_commit c) ∷ refs

abbrev branch_refs : List (Bytes × Option Commit) → Refs
branch_refs [] = []
branch_refs (b ∷ bs) = target_then b.0 b.1 (branch_refs bs)

abbrev tag_refs : List (Bytes × Tag) → Refs
tag_refs tags = map (λ t. (t.0, at_tag t.1)) tags

abbrev refs_of : State → Refs
refs_of s = branch_refs s.branches ++ tag_refs s.tags

branches_put : (refs : Refs) (bs : List (Bytes × Option Commit)) → fold with_branch refs bs ≡ with_refs_set refs (branch_refs bs)
branches_put refs [] = refl
branches_put refs ((n, None) ∷ bs) = branches_put refs bs
branches_put refs ((n, Some c) ∷ bs) = branches_put (put byte_cmp n (at_commit c) refs) bs

tags_put : (refs : Refs) (ts : List (Bytes × Tag)) → fold (λ rs t. put byte_cmp t.0 (at_tag t.1) rs) refs ts ≡ with_refs_set refs (tag_refs ts)
tags_put refs [] = refl
tags_put refs (t ∷ ts) = tags_put (put byte_cmp t.0 (at_tag t.1) refs) ts

set_both : (refs xs ys : Refs) → with_refs_set refs (xs ++ ys) ≡ with_refs_set (with_refs_set refs xs) ys
set_both refs xs ys = fold-append (λ rs set. put byte_cmp set.0 set.1 rs) refs xs ys

overwritten_is : (s : State) (refs : Refs) → overwritten s refs ≡ with_refs_set refs (refs_of s)
overwritten_is s refs =
    tags_put (fold with_branch refs s.branches) s.tags ∙ ap (λ rs. with_refs_set rs (tag_refs s.tags)) (branches_put refs s.branches) ∙ sym (set_both refs (branch_refs s.branches) (tag_refs s.tags))

module _ (ins : StandIns) where
  -- ---- ancestors

  same_reached : (c d : Commit) → T (same_commit c d) → T (reaches (whole_commit ins c) (whole_commit ins d))
  same_reached c d h = subst (λ e. T (reaches (whole_commit ins c) (whole_commit ins e))) (commit_is c d h) (itself (whole_commit ins c))

  elders_reached : (f : FileMap Bytes) (cs : Commits) (t : CommitText) (d : Commit) → T (some_reaches (whole_commits ins cs) d) → T (reaches (whole_commit ins (commit f cs t)) d)
  elders_reached f none t d h = absurd h
  elders_reached f (more c cs) t d h = right_or (same_commit (whole_commit ins (commit f (more c cs) t)) d) (some_reaches (whole_commits ins (more c cs)) d) h

  mutual
    reached : (c d : Commit) → T (reaches c d) → T (reaches (whole_commit ins c) (whole_commit ins d))
    reached (commit f cs t) d h =
        one_of (same_commit (commit f cs t) d) (some_reaches cs d) h (λ s. same_reached (commit f cs t) d s) (λ s. elders_reached f cs t (whole_commit ins d) (some_reached cs d s))

    some_reached : (cs : Commits) (d : Commit) → T (some_reaches cs d) → T (some_reaches (whole_commits ins cs) (whole_commit ins d))
    some_reached none d h = absurd h
    some_reached (more c cs) d h =
        one_of (reaches c d) (some_reaches cs d) h
        (λ s. left_or (reaches (whole_commit ins c) (whole_commit ins d)) (some_reaches (whole_commits ins cs) (whole_commit ins d)) (reached c d s))
        (λ s. right_or (reaches (whole_commit ins c) (whole_commit ins d)) (some_reaches (whole_commits ins cs) (whole_commit ins d)) (some_reached cs d s))

  peeled : (t : Target) → peeled_at (whole_target ins t) ≡ whole_commit ins (peeled_at t)
  peeled (at_commit c) = refl
  peeled (at_tag t) = refl

  forward : (o : Option Target) (p : Option Commit) → T (is_forward o p) → T (is_forward (option_map (whole_target ins) o) (option_map (whole_commit ins) p))
  forward None p h = tt
  forward (Some old) None h = tt
  forward (Some old) (Some new) h = subst (λ c. T (reaches (whole_commit ins new) c)) (sym (peeled old)) (reached new (peeled_at old) h)

  -- ---- refs

  whole_branches : (bs : List (Bytes × Option Commit)) → branch_refs (each (option_map (whole_commit ins)) bs) ≡ whole_refs ins (branch_refs bs)
  whole_branches [] = refl
  whole_branches (b ∷ bs) = by b.1 (whole_branches bs)
    where
      by : (o : Option Commit) → branch_refs (each (option_map (whole_commit ins)) bs) ≡ whole_refs ins (branch_refs bs)
          → target_then b.0 (option_map (whole_commit ins) o) (branch_refs (each (option_map (whole_commit ins)) bs)) ≡ whole_refs ins (target_then b.0 o (branch_refs bs))
      by None e = e
      by (Some c) e = ap (λ z. (b.0, at_commit (whole_commit ins c)) ∷ z) e

  whole_tags : (ts : List (Bytes × Tag)) → tag_refs (each (whole_tag ins) ts) ≡ whole_refs ins (tag_refs ts)
  whole_tags [] = refl
  whole_tags (t ∷ ts) = ap (λ z. (t.0, at_tag (whole_tag ins t.1)) ∷ z) (whole_tags ts)

  whole_both : (xs ys : Refs) → whole_refs ins (xs ++ ys) ≡ whole_refs ins xs ++ whole_refs ins ys
  whole_both xs ys = map-append (λ (r : Bytes × Target). let q : Bytes × Target = (r.0, whole_target ins r.1) in q) xs ys

  whole_set : (sets refs : Refs) → with_refs_set (whole_refs ins refs) (whole_refs ins sets) ≡ whole_refs ins (with_refs_set refs sets)
  whole_set [] refs = refl
  whole_set (r ∷ sets) refs = ap (λ rs. with_refs_set rs (whole_refs ins sets)) (each_put (whole_target ins) byte_cmp r.0 r.1 refs) ∙ whole_set sets (put byte_cmp r.0 r.1 refs)

module _ (stand name : Kind → Bytes → Bytes) (ins : StandIns) (small whole : History) where
  abbrev Alike : State → State → Type 0
  Alike = GoAlike stand name ins small whole

  abbrev RefsKept : Refs → Type 0
  RefsKept rs = AllByRecursion (λ r. ValueKeepsName stand name ins (value_at r.1)) rs

  branches_kept : (bs : List (Bytes × Option Commit)) → AllByRecursion (λ b. IfSome b.1 (CommitKeepsName stand name ins)) bs → RefsKept (branch_refs bs)
  branches_kept [] h = tt
  branches_kept (b ∷ bs) h = by b.1 h.0 (branches_kept bs h.1)
    where
      by : (o : Option Commit) → IfSome o (CommitKeepsName stand name ins) → RefsKept (branch_refs bs) → RefsKept (target_then b.0 o (branch_refs bs))
      by None k l = l
      by (Some c) k l = (k, l)

  tags_kept : (ts : List (Bytes × Tag)) → AllByRecursion (λ t. CommitKeepsName stand name ins t.1.target) ts → RefsKept (tag_refs ts)
  tags_kept [] h = tt
  tags_kept (t ∷ ts) h = (h.0, tags_kept ts h.1)

  module _ (s w : State) (h : Alike s w) where
    set_alike : refs_of w ≡ whole_refs ins (refs_of s)
    set_alike =
        (λ i. branch_refs (h.tables.branches i) ++ tag_refs (h.tables.tags i)) ∙ (λ i. whole_branches ins s.branches i ++ whole_tags ins s.tags i)
        ∙ sym (whole_both ins (branch_refs s.branches) (tag_refs s.tags))

    -- the refs at a checkpoint or at the end
    pub final_alike : AreSet stand name ins small whole (final s) (final w)
    final_alike = record {
      sets = h.refs.sets ++ refs_of s;
      front = overwritten_is s s.history.refs ∙ ap (λ rs. with_refs_set rs (refs_of s)) h.refs.front ∙ sym (set_both small.refs h.refs.sets (refs_of s));
      grown = overwritten_is w w.history.refs ∙ (λ i. with_refs_set (h.refs.grown i) (set_alike i)) ∙ sym (set_both whole.refs (whole_refs ins h.refs.sets) (whole_refs ins (refs_of s)))
          ∙ ap (with_refs_set whole.refs) (sym (whole_both ins h.refs.sets (refs_of s)));
      kept = all_join (λ r. ValueKeepsName stand name ins (value_at r.1)) h.refs.sets (refs_of s) h.refs.kept
          (all_join (λ r. ValueKeepsName stand name ins (value_at r.1)) (branch_refs s.branches) (tag_refs s.tags) (branches_kept s.branches h.tables.branches_kept) (tags_kept s.tags h.tables.tags_kept));
    }

    -- the refs published so far
    pub published_alike : overwritten w w.published ≡ whole_refs ins (overwritten s s.published)
    published_alike =
        overwritten_is w w.published ∙ (λ i. with_refs_set (h.tables.published i) (set_alike i)) ∙ whole_set ins (refs_of s) s.published ∙ ap (whole_refs ins) (sym (overwritten_is s s.published))

    branches_forward : (bs : List (Bytes × Option Commit)) → AllByRecursion (λ b. IsAlikeRef stand name ins small whole b.0) bs → T (list_all (λ b. is_forward (ref_at s.history b.0) b.1) bs)
        → T (list_all (λ b. is_forward (ref_at w.history b.0) b.1) (each (option_map (whole_commit ins)) bs))
    branches_forward [] k l = tt
    branches_forward (b ∷ bs) k l =
        both (is_forward (ref_at w.history b.0) (option_map (whole_commit ins) b.1)) _
        (subst (λ o. T (is_forward o (option_map (whole_commit ins) b.1))) (sym (ref_alike stand name ins small whole s.history w.history h.refs b.0 k.0)) (forward ins (ref_at s.history b.0) b.1 (first _ _ l)))
        (branches_forward bs k.1 (second (is_forward (ref_at s.history b.0) b.1) _ l))

    -- a branch that is forward in the small history is in the whole one
    pub forward_alike : is_fast_forward s ≡ true → is_fast_forward w ≡ true
    forward_alike e =
        is_true _ (one_of s.is_forced (list_all (λ b. is_forward (ref_at s.history b.0) b.1) s.branches) (passes _ e)
        (λ k. left_or w.is_forced _ (subst T (sym h.forced) k))
        (λ k. right_or w.is_forced _ (subst (λ bs. T (list_all (λ b. is_forward (ref_at w.history b.0) b.1) bs)) (sym h.tables.branches) (branches_forward s.branches h.tables.branches_alike k))))

    checkpoint_alike : Alike (checkpointed s) (checkpointed w)
    checkpoint_alike = record {
      grown = h.grown;
      refs = record { sets = final_alike.sets; front = final_alike.front; grown = final_alike.grown; kept = final_alike.kept };
      tables = record {
        marks = h.tables.marks;
        marks_kept = h.tables.marks_kept;
        branches = h.tables.branches;
        branches_kept = h.tables.branches_kept;
        branches_alike = h.tables.branches_alike;
        tags = h.tables.tags;
        tags_kept = h.tables.tags_kept;
        published = published_alike;
      };
      forced = h.forced;
      progress = h.progress;
      small_held = h.small_held;
      whole_held = h.whole_held;
    }

    -- a checkpoint
    pub checkpoint_led : Leads Alike (step_checkpoint s) (step_checkpoint w)
    checkpoint_led =
        elim (is_fast_forward s) as (λ b. is_fast_forward s ≡ b → Leads Alike (cond b (Ok (checkpointed s)) (Err fault.NotFastForward)) (step_checkpoint w)) [
          | true ↦ λ e. subst (λ b. Leads Alike (Ok (checkpointed s)) (cond b (Ok (checkpointed w)) (Err fault.NotFastForward))) (sym (forward_alike e)) checkpoint_alike
          | false ↦ λ e. tt
        ] refl
