-- The parents of a commit, one after the other: the first, and those that are merged.
use Rattle.std.proofs.Common.{◌≡◌, List, [], ◌∷◌, ◌++◌, append_assoc, append-nil, Option, Some, None, Result, Ok, Err, refl, sym, ap, subst, ◌∙◌}
use Rattle.std.specs.List.{cons_option}
use Rattle.gx_model.specs.declared.faults.Fault.{Fault}
use Rattle.gx_model.specs.declared.objects.Kind.{Kind}
use Rattle.gx_model.specs.Texts.{Bytes}
use Rattle.gx_model.specs.Faults.{IsFaultOf, ◌>>=◌}
use Rattle.gx_model.specs.Histories.Values.{Commit}
use Rattle.gx_model.specs.Streams.Commands.{CommitIsh}
use Rattle.gx_model.specs.Replay.{State, all_committed, committed_for, with_first_parent}
use Rattle.gx_object.specs.declared.name.Name.{Name}
use Rattle.gx_import.specs.Objects.{IsCommitOf}
use Rattle.gx_import.specs.Rows.{AreAll, AreBoth}
use Rattle.gx_import.specs.Asking.{AsksByMerge, Reference, of_commit_ish}
use Rattle.gx_import.proofs.AddedAnswers.{both_given, fault_so}
use Rattle.gx_import.proofs.FaultSteps.{fault_then}

module _ (name : Kind → Bytes → Bytes) (b : Bytes) (s : State) where
  -- of what is merged, some gave commits, and the rest is left
  pub record ArePassed (whole rest : List CommitIsh) : Type 0 where
    pub before : List CommitIsh
    pub commits : List Commit
    pub parts : whole ≡ before ++ rest
    pub given : all_committed name b s before ≡ Ok commits

  pub none_passed : (xs : List CommitIsh) → ArePassed xs xs
  none_passed xs = record { before = []; commits = []; parts = refl; given = refl }

  abbrev behind_first : Commit → List Commit → Result (List Commit) Fault
  behind_first c cs = Ok (c ∷ cs)

  -- one that is merged behind others
  merged_behind : (before : List CommitIsh) (x : CommitIsh) (done : List Commit) (c : Commit) → all_committed name b s before ≡ Ok done → committed_for name b s x ≡ Ok c
      → all_committed name b s (before ++ x ∷ []) ≡ Ok (done ++ c ∷ [])
  merged_behind [] x done c h k =
      let e : [] ≡ done = cc h in
      subst (λ cs. all_committed name b s (x ∷ []) ≡ Ok (cs ++ c ∷ [])) e (ap (λ r. r >>= λ d. Ok (d ∷ [])) k)
  merged_behind (y ∷ ys) x done c h k =
      let p = both_given (committed_for name b s y) (λ d. all_committed name b s ys >>= behind_first d) done h in
      let q = both_given (all_committed name b s ys) (behind_first p.0) done p.2 in
      let e : p.0 ∷ q.0 ≡ done = cc q.2 in
      subst (λ cs. all_committed name b s (y ∷ ys ++ x ∷ []) ≡ Ok (cs ++ c ∷ [])) e
      (ap (λ r. r >>= λ d. all_committed name b s (ys ++ x ∷ []) >>= behind_first d) p.1
      ∙ ap (λ r. r >>= behind_first p.0) (merged_behind ys x q.0 c q.1 k))

  -- one more
  pub next_passed : (whole rest : List CommitIsh) (x : CommitIsh) → ArePassed whole (x ∷ rest) → (c : Commit) → committed_for name b s x ≡ Ok c → ArePassed whole rest
  next_passed whole rest x h c e = record {
    before = h.before ++ x ∷ [];
    commits = h.commits ++ c ∷ [];
    parts = h.parts ∙ sym (append_assoc h.before (x ∷ []) rest);
    given = merged_behind h.before x h.commits c h.given e;
  }

  -- one is refused, and is what is asked for
  pub passed_vain : (whole rest : List CommitIsh) (x : CommitIsh) → ArePassed whole (x ∷ rest) → (e : Fault) → IsFaultOf e (committed_for name b s x) → (r : Reference) → r ≡ of_commit_ish x → AsksByMerge name b s whole e r
  passed_vain whole rest x h e k r same = record {
    before = h.before;
    merged = x;
    after = rest;
    all = h.parts;
    commits = h.commits;
    given = h.given;
    asks = same;
    refused = fault_so e (committed_for name b s x) k;
  }

module _ (name : Kind → Bytes → Bytes) (b : Bytes) (s : State) (made : Option Commit) where
  -- these names are those of the parents so far, and the rest of what is merged is left
  pub record ArePartOf (whole rest : List CommitIsh) (names : List Name) : Type 0 where
    pub done : List Commit
    pub are : AreAll (IsCommitOf name s.history.values) (with_first_parent made done) names
    pub left : all_committed name b s whole ≡ (all_committed name b s rest >>= λ cs. Ok (done ++ cs))

  none_done : (given : Result (List Commit) Fault) → given ≡ (given >>= λ cs. Ok ([] ++ cs))
  none_done (Ok cs) = refl
  none_done (Err e) = refl

  first_alone : (m : Option Commit) (first : Option Name) → AreBoth (IsCommitOf name s.history.values) m first → (names : List Name) → names ≡ cons_option first []
      → AreAll (IsCommitOf name s.history.values) (with_first_parent m []) names
  first_alone None None h names e = subst (AreAll (IsCommitOf name s.history.values) []) (sym e) tt
  first_alone None (Some n) h names e = absurd h
  first_alone (Some c) None h names e = absurd h
  first_alone (Some c) (Some n) h names e = subst (AreAll (IsCommitOf name s.history.values) (c ∷ [])) (sym e) (h, tt)

  -- at first
  pub part_none : (xs : List CommitIsh) (first : Option Name) → AreBoth (IsCommitOf name s.history.values) made first → (names : List Name) → names ≡ cons_option first [] → ArePartOf xs xs names
  part_none xs first h names e = record { done = []; are = first_alone made first h names e; left = none_done (all_committed name b s xs) }

  all_last : (cs : List Commit) (ns : List Name) (c : Commit) (n : Name) → AreAll (IsCommitOf name s.history.values) cs ns → IsCommitOf name s.history.values c n → AreAll (IsCommitOf name s.history.values) (cs ++ c ∷ []) (ns ++ n ∷ [])
  all_last [] [] c n h k = (k, tt)
  all_last [] (m ∷ ns) c n h k = absurd h
  all_last (d ∷ cs) [] c n h k = absurd h
  all_last (d ∷ cs) (m ∷ ns) c n h k = (h.0, all_last cs ns c n h.1 k)

  first_and : (m : Option Commit) (cs : List Commit) (c : Commit) → with_first_parent m cs ++ c ∷ [] ≡ with_first_parent m (cs ++ c ∷ [])
  first_and None cs c = refl
  first_and (Some d) cs c = refl

  abbrev put_first : Commit → List Commit → Result (List Commit) Fault
  put_first c cs = Ok (c ∷ cs)

  moved_on : (done : List Commit) (c : Commit) (given : Result (List Commit) Fault) → ((given >>= put_first c) >>= λ cs. Ok (done ++ cs)) ≡ (given >>= λ cs. Ok ((done ++ c ∷ []) ++ cs))
  moved_on done c (Err e) = refl
  moved_on done c (Ok cs) = ap Ok (sym (append_assoc done (c ∷ []) cs))

  -- one more
  pub part_more : (whole rest : List CommitIsh) (x : CommitIsh) (names : List Name) → ArePartOf whole (x ∷ rest) names → (c : Commit) (n : Name) → committed_for name b s x ≡ Ok c → IsCommitOf name s.history.values c n
      → ArePartOf whole rest (names ++ n ∷ [])
  part_more whole rest x names h c n e is =
      record {
        done = h.done ++ c ∷ [];
        are = subst (λ cs. AreAll (IsCommitOf name s.history.values) cs (names ++ n ∷ [])) (first_and made h.done c) (all_last (with_first_parent made h.done) names c n h.are is);
        left = h.left ∙ ap (λ o. (o >>= λ d. all_committed name b s rest >>= λ cs. Ok (d ∷ cs)) >>= λ cs. Ok (h.done ++ cs)) e ∙ moved_on h.done c (all_committed name b s rest);
      }

  -- one is refused
  pub part_refused : (whole rest : List CommitIsh) (x : CommitIsh) (names : List Name) → ArePartOf whole (x ∷ rest) names → (e : Fault) → IsFaultOf e (committed_for name b s x)
      → IsFaultOf e (all_committed name b s whole)
  part_refused whole rest x names h e k =
      subst (IsFaultOf e) (sym h.left)
      (fault_then e (all_committed name b s (x ∷ rest)) (λ cs. Ok (h.done ++ cs)) (fault_then e (committed_for name b s x) (λ c. all_committed name b s rest >>= λ cs. Ok (c ∷ cs)) k))

  -- all of them
  pub part_all : (whole : List CommitIsh) (names : List Name) → ArePartOf whole [] names
      → (others : List Commit) × (all_committed name b s whole ≡ Ok others) × AreAll (IsCommitOf name s.history.values) (with_first_parent made others) names
  part_all whole names h = (h.done, h.left ∙ ap Ok (append-nil h.done), h.are)
