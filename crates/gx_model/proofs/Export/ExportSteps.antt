-- The commands of an export are replayed without a fault, and what they give.
use Rattle.std.proofs.Common.{◌≡◌, ℕ, suc, ◌+◌, true, false, cond, Option, Some, None, Result, Ok, Err, List, [], ◌∷◌, ◌++◌, length, map, refl, sym, ap, subst, ◌∙◌, arith, append-nil, append_assoc, inl, inr, ◌-◌}
use Rattle.std.specs.Bool.{passes}
use Rattle.std.specs.FinMap.Entries.{find, is_sorted}
use Rattle.std.specs.List.{list_all, filter_map, fold, AllByRecursion}
use Rattle.std.specs.Ordering.{eq_by_cmp}
use Rattle.std.specs.Prelude.{T}
use Rattle.gx_model.specs.Streams.Commands.{Command}
use Rattle.gx_model.specs.Revisions.Denotation.{ref_at}
use Rattle.gx_model.specs.Export.{all_written, carrier, commit_commands, export_commands, inner_commands, is_reached, last_reset, one_commit, reached_commits, ref_command, with_commit}
use Rattle.gx_model.specs.Laws.ExportLaws.{AnyReaches, HoldsWhat, IsAgain, IsOne, IsReached, carried, exported_report, state_at, steps, values_with_commit}
use Rattle.gx_model.specs.Faults.{◌>>=◌}
use Rattle.gx_model.specs.Histories.{History, IsHistory, IsIn, IsWhole, Target, no_history, value_at}
use Rattle.gx_model.specs.Replay.{Outcome, State, ended, final, final_refs, finished, is_fast_forward, is_forward, peeled_at, refused, replayed, report, start, step}
use Rattle.gx_model.specs.Texts.{Bytes, byte_cmp}
use Rattle.gx_model.specs.Histories.Values.{Commit, Value, commit_of, commit_value, files_of, is_content, is_proper, is_proper_text, list_of, parents_of, text_of}
use Rattle.gx_model.specs.declared.faults.Fault.{Fault}
use Rattle.gx_model.specs.declared.objects.Kind.{Kind}
use Rattle.gx_model.proofs.Export.CommitSteps.{Branches, one_commit_replayed, state_with, steps-append, steps_after}
use Rattle.gx_model.proofs.Export.KeptCommits.{FollowsAll, all_in, among, any_from, commit_keeps, each_one, one_of_all, reached_held}
use Rattle.gx_model.proofs.Records.LinkedValues.{proper_in}
use Rattle.gx_model.proofs.Texts.PathTests.{first, is_true}
use Rattle.gx_model.proofs.Export.PublishedRefs.{ArePeeled, HasNoOther, Refs, all_peeled, at_branch, ref_branches, ref_tags, ref_values, refs_held, refs_replayed, same_refs}
use Rattle.gx_model.proofs.Export.ReachedValues.{all_pass, all_reached, commits_reached, follows, one_filter, target_held}
use Rattle.gx_model.specs.Streams.Commands as command
use Rattle.gx_model.specs.declared.faults.Fault.TheVariants as faults

-- ---- the commits

abbrev pub values_after : List Value → List Value → List Commit → List Value
values_after ws vs [] = vs
values_after ws vs (c ∷ cs) = values_after (with_commit ws c) (values_with_commit ws vs c) cs

abbrev pub last_carried : Option (Option Commit) → List Commit → Option (Option Commit)
last_carried b [] = b
last_carried b (c ∷ cs) = last_carried (Some (Some c)) cs

pub commits_keep : (ws vs : List Value) (before cs : List Commit) → HoldsWhat ws vs before → FollowsAll before cs → HoldsWhat (fold with_commit ws cs) (values_after ws vs cs) (before ++ cs)
commits_keep ws vs before [] h f = subst (HoldsWhat ws vs) (sym (append-nil before)) h
commits_keep ws vs before (c ∷ cs) h f =
    let k = commit_keeps ws vs before c h f.0 f.1 f.2 in
    subst (HoldsWhat (fold with_commit (with_commit ws c) cs) (values_after (with_commit ws c) (values_with_commit ws vs c) cs)) (append_assoc before (c ∷ []) cs) (commits_keep (with_commit ws c) (values_with_commit ws vs c) (before ++ c ∷ []) cs k f.3)

abbrev okay : State → Result State Fault
okay s = Ok s

same_ok : (s t : State) → okay s ≡ okay t → s ≡ t
same_ok s t e = cc

module _ (name : Kind → Bytes → Bytes) where
  pub commits_replayed : (ws vs : List Value) (b : Option (Option Commit)) (before cs : List Commit) → HoldsWhat ws vs before → FollowsAll before cs
      → steps name (state_at ws vs b) (commit_commands ws cs) ≡ Ok (state_at (fold with_commit ws cs) (values_after ws vs cs) (last_carried b cs))
  commits_replayed ws vs b before [] h f = refl
  commits_replayed ws vs b before (c ∷ cs) h f =
      let one = one_commit_replayed name ws vs b c (is_true _ (first (is_content (files_of c)) (is_proper_text (text_of c)) (passes _ f.0))) (each_one (IsOne before) (λ p. IsIn ws (commit_value p)) (λ p i. one_of_all (λ d. IsIn ws (commit_value d)) before p h.commits i) (list_of (parents_of c)) f.1) in
      let rest = commits_replayed (with_commit ws c) (values_with_commit ws vs c) (Some (Some c)) (before ++ c ∷ []) cs (commit_keeps ws vs before c h f.0 f.1 f.2) f.3 in
      steps-append name (state_at ws vs b) (one_commit ws c) (commit_commands (with_commit ws c) cs) ∙ ap (λ r. r >>= λ t. steps name t (commit_commands (with_commit ws c) cs)) one ∙ rest

  -- ---- the end, from the steps

  pub all_replayed : (n : ℕ) (s t : State) (cs : List Command) → steps name s cs ≡ Ok t → replayed name n s cs None ≡ replayed name (n + length cs) t [] None
  all_replayed n s t [] e = let k : n + 0 ≡ n = omega arith in ap (λ u. ended n u None) (same_ok s t e) ∙ ap (λ m. ended m t None) (sym k)
  all_replayed n s t (c ∷ cs) e = by (step name s c) (λ u. all_replayed (n + 1) u t cs) e where
    by : (r : Result State Fault) → ((u : State) → steps name u cs ≡ Ok t → replayed name (n + 1) u cs None ≡ replayed name (n + 1 + length cs) t [] None) → (r >>= λ u. steps name u cs) ≡ Ok t
        → elim r as (λ x. Outcome) [ Ok u ↦ replayed name (n + 1) u cs None | Err f ↦ refused (n + 1) f s.progress s.kept ] ≡ replayed name (n + suc (length cs)) t [] None
    by (Ok u) again e = let k : n + 1 + length cs ≡ n + suc (length cs) = omega arith in again u e ∙ ap (λ m. ended m t None) k
    by (Err f) again e = absurd cc

-- ---- the whole

all_two : (P Q R : Bytes × Target → Type 0) → ((r : Bytes × Target) → P r → Q r → R r) → (rs : Refs) → AllByRecursion P rs → AllByRecursion Q rs → AllByRecursion R rs
all_two P Q R f [] h g = tt
all_two P Q R f (r ∷ rs) h g = (f r h.0 g.0, all_two P Q R f rs h.1 g.1)

abbrev after_reset : List Commit → Option (Option Commit)
after_reset [] = None
after_reset (c ∷ cs) = Some None

no_branch : (q : Bytes) (cs : List Commit) → at_branch (find byte_cmp q (carried (after_reset cs))) ≡ None
no_branch q [] = refl
no_branch q (c ∷ cs) = elim (eq_by_cmp byte_cmp q carrier) as (λ t. at_branch (cond t (Some None) None) ≡ None) [ true ↦ refl | false ↦ refl ]

carried_sorted : (cs : List Commit) → T (is_sorted byte_cmp (carried (after_reset cs)))
carried_sorted [] = tt
carried_sorted (c ∷ cs) = tt

pub all_forward : (us : List Value) (bs : Branches) → list_all (λ b. is_forward (ref_at (record { values = us; refs = [] }) b.0) b.1) bs ≡ true
all_forward us [] = refl
all_forward us (b ∷ bs) = all_forward us bs

abbrev pub none_held : HoldsWhat [] [] []
none_held = record { whole = record { closed = tt; proper = refl }; written = λ v j. j; order = refl; commits = tt; only = λ u j. absurd j }

pub all_follow : (h : History) → IsHistory h → FollowsAll [] (reached_commits h)
all_follow h x = follows h.refs [] h.values x.closed (passes _ x.proper)

pub peeled_ones : (h : History) → IsHistory h → ArePeeled (all_written (reached_commits h)) h.refs
peeled_ones h x =
    let whole : IsWhole h.values = record { closed = x.closed; proper = x.proper } in
    let cs = reached_commits h in
    let held = commits_keep [] [] [] cs none_held (all_follow h x) in
    all_two (λ r. IsIn h.values (value_at r.1)) (λ r. T (is_reached h.refs (peeled_at r.1))) (λ r. IsIn (all_written cs) (commit_value (peeled_at r.1)))
    (λ r a b. one_of_all (λ c. IsIn (all_written cs) (commit_value c)) cs (peeled_at r.1) held.commits (one_filter (is_reached h.refs) (filter_map commit_of h.values) (peeled_at r.1) (among h.values (peeled_at r.1) (target_held h.values whole r.1 a)) b)) h.refs x.held (all_reached h.refs)

-- what the commits that refs reach are made of is held
pub reach_held : (h : History) → IsHistory h → (u : Value) → AnyReaches (map commit_value (reached_commits h)) u → IsIn h.values u
reach_held h x u r =
    let a = any_from (map (λ s. value_at s.1) h.refs) u (commits_reached h.refs (reached_commits h) u (all_pass (is_reached h.refs) (filter_map commit_of h.values)) r) in
    reached_held h.values (record { closed = x.closed; proper = x.proper }) a.0 u a.2 (all_in (IsIn h.values) (map (λ s. value_at s.1) h.refs) a.0 (targets h.refs x.held) a.1)
  where
    targets : (rs : Refs) → AllByRecursion (λ s. IsIn h.values (value_at s.1)) rs → AllByRecursion (IsIn h.values) (map (λ s. value_at s.1) rs)
    targets [] g = tt
    targets (s ∷ rs) g = (g.0, targets rs g.1)

pub proper_refs : (h : History) → IsHistory h → AllByRecursion (λ r. T (is_proper (value_at r.1))) h.refs
proper_refs h x = proper_all h.refs x.held where
  proper_all : (rs : Refs) → AllByRecursion (λ r. IsIn h.values (value_at r.1)) rs → AllByRecursion (λ r. T (is_proper (value_at r.1))) rs
  proper_all [] g = tt
  proper_all (r ∷ rs) g = (proper_in h.values (value_at r.1) (passes _ x.proper) g.0, proper_all rs g.1)

module _ (name : Kind → Bytes → Bytes) where
  any_reset : (ws vs : List Value) (b : Option (Option Commit)) (rest : List Command) → steps name (state_at ws vs b) (command.Reset (record { ref = carrier; parent = None }) ∷ rest) ≡ steps name (state_at ws vs (Some None)) rest
  any_reset ws vs None rest = refl
  any_reset ws vs (Some x) rest = refl

  last_reset_replayed : (ws vs : List Value) (cs : List Commit) (rest : List Command) → steps name (state_at ws vs (last_carried None cs)) (last_reset cs ++ rest) ≡ steps name (state_at ws vs (after_reset cs)) rest
  last_reset_replayed ws vs [] rest = refl
  last_reset_replayed ws vs (c ∷ cs) rest = any_reset ws vs (last_carried (Some (Some c)) cs) rest

  -- what stands after the commits and the refs of an export, where these were the branches after the commits
  abbrev pub after_refs : History → Branches → State
  after_refs h bs = let cs = reached_commits h in state_with no_history (all_written cs) (ref_values (values_after [] [] cs) h.refs) (ref_branches bs h.refs) (ref_tags [] h.refs)

  -- Commands that lead to that state end with the refs of the history and all that they reach.
  pub ends_again : (h : History) → IsHistory h → (bs : Branches) → T (is_sorted byte_cmp bs) → HasNoOther bs h.refs → (commands : List Command) → steps name (start no_history) commands ≡ Ok (after_refs h bs)
      → (k : History) × IsAgain h k × (replayed name 0 (start no_history) commands None ≡ finished k [] (record { commands = length commands; objects = length k.values; refs = length h.refs }))
  ends_again h x bs sorted others commands all =
      let cs = reached_commits h in
      let ws = all_written cs in
      let vs = values_after [] [] cs in
      let held = commits_keep [] [] [] cs none_held (all_follow h x) in
      let after = refs_held vs h.refs held.whole (all_peeled ws vs held.written h.refs (peeled_ones h x)) (proper_refs h x) in
      let us = ref_values vs h.refs in
      let t = after_refs h bs in
      let forward : is_fast_forward t ≡ true = all_forward us (ref_branches bs h.refs) in
      let whole : IsWhole h.values = record { closed = x.closed; proper = x.proper } in
      let only : (u : Value) → IsIn us u → IsReached h u = λ u j. elim (after.only u j) [ inl k ↦ commits_reached h.refs cs u (all_pass (is_reached h.refs) (filter_map commit_of h.values)) (held.only u k) | inr r ↦ r ] in
      let same : final_refs t ≡ h.refs = same_refs h.refs bs (passes _ x.sorted) sorted others in
      let n : 0 + length commands ≡ length commands = omega arith in
      let made : length us - 0 ≡ length us = omega arith in
      let told : report (0 + length commands) t ≡ record { commands = length commands; objects = length us; refs = length h.refs } = λ i. record { commands = n i; objects = made i; refs = length (same i) } in (
        final t,
        record {
          refs = same;
          order = after.order ∙ held.order;
          only = only;
          held = λ u j. let a = any_from (map (λ r. value_at r.1) h.refs) u (only u j) in reached_held h.values whole a.0 u a.2 (all_in (IsIn h.values) (map (λ r. value_at r.1) h.refs) a.0 (targets (IsIn h.values) h.refs x.held) a.1);
          all = λ u r. let a = any_from (map (λ r. value_at r.1) h.refs) u r in reached_held us after.whole a.0 u a.2 (all_in (IsIn us) (map (λ r. value_at r.1) h.refs) a.0 (targets (IsIn us) h.refs after.has) a.1);
          whole = after.whole;
        },
        all_replayed name 0 (start no_history) t commands all ∙ ap (λ b. cond b (finished (final t) [] (report (0 + length commands) t)) (refused (0 + length commands + 1) faults.NotFastForward [] t.kept)) forward ∙ ap (finished (final t) []) told,
      )
    where
      targets : (P : Value → Type 0) (rs : Refs) → AllByRecursion (λ r. P (value_at r.1)) rs → AllByRecursion P (map (λ r. value_at r.1) rs)
      targets P rs g = by rs g where
        by : (rs : Refs) → AllByRecursion (λ r. P (value_at r.1)) rs → AllByRecursion P (map (λ r. value_at r.1) rs)
        by [] g = tt
        by (r ∷ rs) g = (g.0, by rs g.1)

  pub export_replayed : (h : History) → IsHistory h → (k : History) × IsAgain h k × (replayed name 0 (start no_history) (export_commands h) None ≡ finished k [] (exported_report h k))
  export_replayed h x =
      let cs = reached_commits h in
      let ws = all_written cs in
      let vs = values_after [] [] cs in
      let bs = carried (after_reset cs) in
      let ref_part = map (ref_command ws) h.refs in
      let inner : steps name (state_at [] [] None) (inner_commands cs h.refs) ≡ Ok (after_refs h bs) =
      steps_after name (state_at [] [] None) (state_at ws vs (last_carried None cs)) (commit_commands [] cs) (last_reset cs ++ ref_part) (commits_replayed name [] [] None [] cs none_held (all_follow h x))
      ∙ last_reset_replayed ws vs cs ref_part ∙ refs_replayed name no_history ws vs bs [] h.refs x.own (peeled_ones h x) in
      ends_again h x bs (carried_sorted cs) (λ q _. no_branch q cs) (export_commands h) (steps_after name (state_at [] [] None) (after_refs h bs) (inner_commands cs h.refs) (command.Done ∷ []) inner)
