-- States of two replays that go on alike, and the commits that names in a stream give in both.
use Rattle.std.proofs.Common.{◌≡◌, ℕ, true, false, cond, List, [], ◌∷◌, map, length, Option, None, Some, Result, Ok, Err, refl, sym, ap, subst, ◌∙◌}
use Rattle.std.specs.Prelude.{IfOk, IfSome, nat_eq}
use Rattle.std.specs.List.{AllByRecursion}
use Rattle.std.specs.Map.{lookup}
use Rattle.std.specs.Option.{ok_or, option_map}
use Rattle.gx_model.specs.declared.faults.Fault.{Fault}
use Rattle.gx_model.specs.declared.faults.Fault.TheVariants as fault
use Rattle.gx_model.specs.declared.objects.Kind.{Kind}
use Rattle.gx_model.specs.Texts.{Bytes, same_bytes}
use Rattle.gx_model.specs.Faults.{◌>>=◌}
use Rattle.gx_model.specs.Histories.Values.{Commit, Value, commits_of, more}
use Rattle.gx_model.specs.Histories.{History}
use Rattle.gx_model.specs.Revisions.{Revision, revision_of}
use Rattle.gx_model.specs.Revisions.Denotation.{all_suffixed, base_value, commit_in, denoted, shown_at, shown_value, value_denoted}
use Rattle.gx_model.specs.Streams.Commands.{Change, CommitIsh, CommitParts, Marked, Named}
use Rattle.gx_model.specs.Replay.{State, all_committed, at, committed, committed_for, first_parent, names_itself, or_branch, own_commit, revision_value, with_first_parent}
use Rattle.gx_model.proofs.Replay.NullGitlinks.{found}
use Rattle.gx_stand_ins.specs.Asked.{IsAlikeBase, IsAlikeRef, OfChange, OfCommit, OfCommitIsh, OfRevision}
use Rattle.gx_stand_ins.specs.StandIns.{AreNamers, AreOwnBytes, AreOwnTexts, CommitKeepsName, CommitsKeepNames, StandIns, ValueKeepsName, whole_commit, whole_commits, whole_tag, whole_value}
use Rattle.gx_stand_ins.specs.StandInLaws.{IsSmall, whole_refs}
use Rattle.gx_stand_ins.proofs.EachValue.{each, each_lookup}
use Rattle.gx_stand_ins.proofs.GrownTogether.{AreGrown}
use Rattle.gx_stand_ins.proofs.Leading.{Leads, leads_then}
use Rattle.gx_stand_ins.proofs.LedNames.{AreSet, base_leads}
use Rattle.gx_stand_ins.proofs.LedRevisions.{IsWholeCommit, IsWholeShown, IsWholeValue, all_suffixed_leads, commit_leads, shown_leads, value_shown_leads}

module _ (stand name : Kind → Bytes → Bytes) (ins : StandIns) (small whole : History) where
  -- what the tables of the small replay have stands for what those of the whole one have
  pub record AreTables (s w : State) : Type 0 where
    pub marks : w.marks ≡ each (whole_value ins) s.marks
    pub marks_kept : AllByRecursion (λ mark. ValueKeepsName stand name ins mark.1) s.marks
    pub branches : w.branches ≡ each (option_map (whole_commit ins)) s.branches
    pub branches_kept : AllByRecursion (λ branch. IfSome branch.1 (CommitKeepsName stand name ins)) s.branches
    pub branches_alike : AllByRecursion (λ branch. IsAlikeRef stand name ins small whole branch.0) s.branches
    pub tags : w.tags ≡ each (whole_tag ins) s.tags
    pub tags_kept : AllByRecursion (λ tag. CommitKeepsName stand name ins tag.1.target) s.tags
    pub published : w.published ≡ whole_refs ins s.published

  -- both replays go on alike
  pub record GoAlike (s w : State) : Type 0 where
    pub grown : AreGrown stand name ins small.values whole.values s.history.values w.history.values
    pub refs : AreSet stand name ins small whole s.history w.history
    pub tables : AreTables s w
    pub forced : w.is_forced ≡ s.is_forced
    pub progress : w.progress ≡ s.progress
    pub small_held : s.held ≡ length small.values
    pub whole_held : w.held ≡ length whole.values

  abbrev pub LedCommit : Result Commit Fault → Result Commit Fault → Type 0
  LedCommit = Leads (IsWholeCommit stand name ins)

  -- no commit, or one
  abbrev pub IsWholeIf : Option Commit → Option Commit → Type 0
  IsWholeIf o p = (p ≡ option_map (whole_commit ins) o) × IfSome o (CommitKeepsName stand name ins)

  -- some commits
  abbrev pub AreWholeCommits : List Commit → List Commit → Type 0
  AreWholeCommits cs ds = (ds ≡ map (whole_commit ins) cs) × AllByRecursion (CommitKeepsName stand name ins) cs

  -- what names a commit, a change and a commit command are alike
  abbrev AlikeText : Bytes → Type 0
  AlikeText = OfRevision (IsAlikeRef stand name ins small whole) (IsAlikeBase stand name ins small whole) (AreOwnBytes stand name ins) (AreOwnTexts stand name ins)

  abbrev pub AlikeCommitIsh : CommitIsh → Type 0
  AlikeCommitIsh = OfCommitIsh (IsAlikeRef stand name ins small whole) (IsAlikeBase stand name ins small whole) (AreOwnBytes stand name ins) (AreOwnTexts stand name ins)

  abbrev pub AlikeChange : Change → Type 0
  AlikeChange = OfChange (IsAlikeRef stand name ins small whole) (IsAlikeBase stand name ins small whole) (AreOwnBytes stand name ins) (AreOwnTexts stand name ins)

  abbrev pub AlikeCommit : CommitParts → Type 0
  AlikeCommit = OfCommit (IsAlikeRef stand name ins small whole) (IsAlikeBase stand name ins small whole) (AreOwnBytes stand name ins) (AreOwnTexts stand name ins)

  module _ (namers : AreNamers stand name) (start : IsSmall stand name ins small whole) where
    abbrev Led : Result Value Fault → Result Value Fault → Type 0
    Led = Leads (IsWholeValue stand name ins)

    value_leads : (s w : State) → GoAlike s w → (r : Revision) → IsAlikeBase stand name ins small whole r.base → Led (value_denoted stand s.history r) (value_denoted name w.history r)
    unfolding denoted
    value_leads s w h r k =
        leads_then (IsWholeShown stand name ins) (IsWholeValue stand name ins) (denoted stand s.history r) (denoted name w.history r) shown_value shown_value
        (leads_then (IsWholeValue stand name ins) (IsWholeShown stand name ins) (base_value stand s.history r.base) (base_value name w.history r.base)
        (λ v. all_suffixed v r.suffixes >>= λ u. shown_at u r.path) (λ v. all_suffixed v r.suffixes >>= λ u. shown_at u r.path)
        (base_leads stand name ins small whole s.history w.history h.refs namers h.grown start.refs r.base k)
        (λ v y l. leads_then (IsWholeValue stand name ins) (IsWholeShown stand name ins) (all_suffixed v r.suffixes) (all_suffixed y r.suffixes) (λ u. shown_at u r.path) (λ u. shown_at u r.path)
        (all_suffixed_leads stand name ins v y r.suffixes l) (λ u z m. shown_leads stand name ins u z r.path m)))
        (λ a b l. value_shown_leads stand name ins a b l)

    revision_leads : (s w : State) → GoAlike s w → (x : Bytes) → AlikeText x → Led (revision_value stand s x) (revision_value name w x)
    revision_leads s w h x k = by (revision_of x) k
      where
        by : (r : Result Revision Fault) → IfOk r (λ a. IsAlikeBase stand name ins small whole a.base) → Led (r >>= λ a. value_denoted stand s.history a) (r >>= λ a. value_denoted name w.history a)
        by (Ok r) l = value_leads s w h r l
        by (Err e) l = tt

    -- the value of a mark
    pub at_leads : (s w : State) → GoAlike s w → (n : ℕ) → Led (at s n) (at w n)
    at_leads s w h n =
        subst (λ o. Led (at s n) (ok_or o fault.UnknownMark)) (sym (ap (lookup (nat_eq n)) h.tables.marks ∙ each_lookup (whole_value ins) (nat_eq n) s.marks))
        (by (lookup (nat_eq n) s.marks) (found (ValueKeepsName stand name ins) (nat_eq n) s.marks h.tables.marks_kept))
      where
        by : (o : Option Value) → IfSome o (ValueKeepsName stand name ins) → Led (ok_or o fault.UnknownMark) (ok_or (option_map (whole_value ins) o) fault.UnknownMark)
        by None k = tt
        by (Some v) k = (refl, k)

    branch_at : (s w : State) → GoAlike s w → (x : Bytes) → lookup (same_bytes x) w.branches ≡ option_map (option_map (whole_commit ins)) (lookup (same_bytes x) s.branches)
    branch_at s w h x = ap (lookup (same_bytes x)) h.tables.branches ∙ each_lookup (option_map (whole_commit ins)) (same_bytes x) s.branches

    branch_kept : (s w : State) → GoAlike s w → (x : Bytes) → IfSome (lookup (same_bytes x) s.branches) (λ o. IfSome o (CommitKeepsName stand name ins))
    branch_kept s w h x = found (λ o. IfSome o (CommitKeepsName stand name ins)) (same_bytes x) s.branches h.tables.branches_kept

    -- a commit that is named
    pub committed_leads : (kind : Value → Result Commit Fault) → ((v y : Value) → IsWholeValue stand name ins v y → LedCommit (kind v) (kind y)) → (s w : State) → GoAlike s w → (x : CommitIsh) → AlikeCommitIsh x
        → LedCommit (committed stand kind s x) (committed name kind w x)
    committed_leads kind leads s w h (Marked n) k = leads_then (IsWholeValue stand name ins) (IsWholeCommit stand name ins) (at s n) (at w n) kind kind (at_leads s w h n) leads
    committed_leads kind leads s w h (Named x) k =
        subst (λ o. LedCommit (committed stand kind s (Named x)) (or_branch o (revision_value name w x >>= kind))) (sym (branch_at s w h x))
        (by (lookup (same_bytes x) s.branches) (branch_kept s w h x))
      where
        by : (o : Option (Option Commit)) → IfSome o (λ c. IfSome c (CommitKeepsName stand name ins))
            → LedCommit (or_branch o (revision_value stand s x >>= kind)) (or_branch (option_map (option_map (whole_commit ins)) o) (revision_value name w x >>= kind))
        by None l = leads_then (IsWholeValue stand name ins) (IsWholeCommit stand name ins) (revision_value stand s x) (revision_value name w x) kind kind (revision_leads s w h x k) leads
        by (Some None) l = tt
        by (Some (Some c)) l = (refl, l)

    -- one for a command of a branch
    pub for_branch : (b : Bytes) (s w : State) → GoAlike s w → (x : CommitIsh) → AlikeCommitIsh x → LedCommit (committed_for stand b s x) (committed_for name b w x)
    for_branch b s w h x k =
        elim (names_itself b x) as (λ t. LedCommit (cond t (Err fault.FromItself) (committed stand commit_in s x)) (cond t (Err fault.FromItself) (committed name commit_in w x))) [
          | true ↦ tt
          | false ↦ committed_leads commit_in (commit_leads stand name ins) s w h x k
        ]

    pub all_lead : (b : Bytes) (s w : State) → GoAlike s w → (xs : List CommitIsh) → AllByRecursion (AlikeCommitIsh) xs → Leads AreWholeCommits (all_committed stand b s xs) (all_committed name b w xs)
    all_lead b s w h [] k = (refl, tt)
    all_lead b s w h (x ∷ xs) k =
        leads_then (IsWholeCommit stand name ins) AreWholeCommits (committed_for stand b s x) (committed_for name b w x)
        (λ c. all_committed stand b s xs >>= λ cs. Ok (c ∷ cs)) (λ c. all_committed name b w xs >>= λ cs. Ok (c ∷ cs)) (for_branch b s w h x k.0)
        (λ c d l. leads_then AreWholeCommits AreWholeCommits (all_committed stand b s xs) (all_committed name b w xs) (λ cs. Ok (c ∷ cs)) (λ cs. Ok (d ∷ cs)) (all_lead b s w h xs k.1)
        (λ cs ds m. ((λ i. l.0 i ∷ m.0 i), (l.1, m.1))))

    -- the first parent of a commit
    pub first_leads : (s w : State) → GoAlike s w → (c : CommitParts) → IfSome c.parent (AlikeCommitIsh) → Leads IsWholeIf (first_parent stand s c) (first_parent name w c)
    first_leads s w h c k = by c.parent k
      where
        own : (o : Option (Option Commit)) → IfSome o (λ p. IfSome p (CommitKeepsName stand name ins)) → IsWholeIf (own_commit o) (own_commit (option_map (option_map (whole_commit ins)) o))
        own None l = (refl, tt)
        own (Some None) l = (refl, tt)
        own (Some (Some d)) l = (refl, l)

        by : (o : Option CommitIsh) → IfSome o (AlikeCommitIsh)
            → Leads IsWholeIf (elim o as (λ _. Result (Option Commit) Fault) [ None ↦ Ok (own_commit (lookup (same_bytes c.ref) s.branches)) | Some x ↦ committed_for stand c.ref s x >>= λ p. Ok (Some p) ])
            (elim o as (λ _. Result (Option Commit) Fault) [ None ↦ Ok (own_commit (lookup (same_bytes c.ref) w.branches)) | Some x ↦ committed_for name c.ref w x >>= λ p. Ok (Some p) ])
        by None l =
            subst (λ o. IsWholeIf (own_commit (lookup (same_bytes c.ref) s.branches)) (own_commit o)) (sym (branch_at s w h c.ref))
            (own (lookup (same_bytes c.ref) s.branches) (branch_kept s w h c.ref))
        by (Some x) l =
            leads_then (IsWholeCommit stand name ins) IsWholeIf (committed_for stand c.ref s x) (committed_for name c.ref w x) (λ p. Ok (Some p)) (λ p. Ok (Some p)) (for_branch c.ref s w h x l)
            (λ p q m. (ap Some m.0, m.1))

  -- the parents of a commit that is made
  pub parents_lead : (o p : Option Commit) (cs ds : List Commit) → IsWholeIf o p → AreWholeCommits cs ds → AreWholeCommits (with_first_parent o cs) (with_first_parent p ds)
  parents_lead o p cs ds h k = subst (λ q. AreWholeCommits (with_first_parent o cs) (with_first_parent q ds)) (sym h.0) (by o h.1)
    where
      by : (o : Option Commit) → IfSome o (CommitKeepsName stand name ins) → AreWholeCommits (with_first_parent o cs) (with_first_parent (option_map (whole_commit ins) o) ds)
      by None l = k
      by (Some c) l = ((λ i. whole_commit ins c ∷ k.0 i), (l, k.1))

  whole_list : (cs : List Commit) → commits_of (map (whole_commit ins) cs) ≡ whole_commits ins (commits_of cs)
  whole_list [] = refl
  whole_list (c ∷ cs) = ap (more (whole_commit ins c)) (whole_list cs)

  list_kept : (cs : List Commit) → AllByRecursion (CommitKeepsName stand name ins) cs → CommitsKeepNames stand name ins (commits_of cs)
  list_kept [] h = tt
  list_kept (c ∷ cs) h = (h.0, list_kept cs h.1)

  pub commits_lead : (cs ds : List Commit) → AreWholeCommits cs ds → (commits_of ds ≡ whole_commits ins (commits_of cs)) × CommitsKeepNames stand name ins (commits_of cs)
  commits_lead cs ds h = (ap commits_of h.0 ∙ whole_list cs, list_kept cs h.1)
