-- The commands of an export of changes are replayed without a fault, and give what an export gives.
use Rattle.std.proofs.Common.{◌≡◌, Bool, true, false, cond, ◌||◌, Option, Some, None, Ok, List, [], ◌∷◌, ◌++◌, map, refl, sym, ap, subst, ◌∙◌}
use Rattle.std.specs.Bool.{passes}
use Rattle.std.specs.FinMap.Entries.{find, find-put, find_tied, is_sorted, is_sorted-put, put}
use Rattle.std.specs.List.{filter, filter_map, fold, list_all, AllByRecursion}
use Rattle.std.specs.Ordering.{eq_by_cmp}
use Rattle.std.specs.Prelude.{T, is_some}
use Rattle.gx_model.specs.declared.objects.Kind.{Kind}
use Rattle.gx_model.specs.Texts.{Bytes, byte_cmp}
use Rattle.gx_model.specs.Streams.Commands.{Command}
use Rattle.gx_model.specs.Streams.Commands as command
use Rattle.gx_model.specs.Histories.Files.{Leaf}
use Rattle.gx_model.specs.Histories.Values.{Commit, Value, commit_of, commit_value, files_of, is_content, is_proper_text, list_of, parents_of, text_of}
use Rattle.gx_model.specs.Histories.{History, IsHistory, IsIn, Target, at_commit, at_tag, no_history}
use Rattle.gx_model.specs.Revisions.Ranges.{reaches}
use Rattle.gx_model.specs.Replay.{State, finished, peeled_at, replayed, start}
use Rattle.gx_model.specs.Export.{all_written, carrier, is_reached, reached_commits, ref_by, ref_command, to_nothing, with_commit}
use Rattle.gx_model.specs.Changes.{all_changes, base_files, changes_commands, closed_by, commit_ref, commit_with_changes, commits_with_changes, first_or_carrier, is_branch, named_in, reaching, sending_commands, with_changes}
use Rattle.gx_model.specs.Laws.ExportLaws.{HoldsWhat, IsAgain, IsOne, steps, values_with_commit}
use Rattle.gx_model.specs.Laws.ChangesLaws.{changes_report}
use Rattle.gx_model.proofs.Changes.ChangeSteps.{HaveBlobs, commit_changes_replayed, have_blobs, named_by_mark, same_written}
use Rattle.gx_model.proofs.Export.CommitSteps.{Branches, committed_on, begun_on, map_of, state_with, steps_after}
use Rattle.gx_model.proofs.Export.ExportSteps.{after_refs, all_follow, ends_again, none_held, peeled_ones, values_after}
use Rattle.gx_model.proofs.Histories.FileMapEdits.{Parts, parts_of}
use Rattle.gx_model.proofs.Export.KeptCommits.{FollowsAll, commit_keeps, each_one, one_of_all}
use Rattle.gx_model.proofs.Records.LinkedValues.{proper_in}
use Rattle.gx_model.proofs.Texts.PathTests.{first, is_true, second}
use Rattle.gx_model.proofs.Export.PublishedRefs.{ArePeeled, Refs, at_branch, refs_replayed}
use Rattle.gx_model.proofs.Export.ReachedValues.{all_pass}
use Rattle.gx_model.proofs.Texts.TextMaps.{order, tied, tied_with_itself}

-- ---- all commits

-- the branches after these commits
abbrev pub branches_after : Refs → Branches → List Commit → Branches
branches_after refs bs cs = fold (λ bs c. committed_on (commit_ref refs c) c bs) bs cs

no_files : Parts {X = Leaf Bytes} []
no_files = parts_of [] refl

module _ (ws vs : List Value) (before : List Commit) (c : Commit) (h : HoldsWhat ws vs before) (parents : AllByRecursion (IsOne before) (list_of (parents_of c))) where
  pub parents_written : AllByRecursion (λ p. IsIn ws (commit_value p)) (list_of (parents_of c))
  parents_written = each_one (IsOne before) (λ p. IsIn ws (commit_value p)) (λ p i. one_of_all (λ d. IsIn ws (commit_value d)) before p h.commits i) (list_of (parents_of c)) parents

  pub base_parts : Parts (base_files (list_of (parents_of c)))
  base_parts = by (list_of (parents_of c)) parents_written where
    by : (ps : List Commit) → AllByRecursion (λ p. IsIn ws (commit_value p)) ps → Parts (base_files ps)
    by [] k = no_files
    by (p ∷ ps) k =
        let proper = proper_in vs (commit_value p) (passes _ h.whole.proper) (h.written (commit_value p) k.0) in
        parts_of (files_of p) (map_of (files_of p) (first (is_content (files_of p)) (is_proper_text (text_of p)) proper))

module _ (name : Kind → Bytes → Bytes) (refs : Refs) where
  -- the commands of all commits, and what was written with them
  record AreReplayed (ws vs : List Value) (bs : Branches) (cs : List Commit) : Type 0 where
    pub steps : steps name (state_with no_history ws vs bs []) (commits_with_changes name refs ws cs) ≡ Ok (state_with no_history (fold with_commit ws cs) (values_after ws vs cs) (branches_after refs bs cs) [])
    pub written : fold with_changes ws cs ≡ fold with_commit ws cs

  all_replayed : (ws vs : List Value) (bs : Branches) (before cs : List Commit) → HoldsWhat ws vs before → FollowsAll before cs → HaveBlobs ws → AreReplayed ws vs bs cs
  all_replayed ws vs bs before [] h f b = record { steps = refl; written = refl }
  all_replayed ws vs bs before (c ∷ cs) h f b =
      let k = parents_written ws vs before c h f.1 in
      let content = first (is_content (files_of c)) (is_proper_text (text_of c)) (passes _ f.0) in
      let one = commit_changes_replayed name refs ws vs bs c b k (base_parts ws vs before c h f.1) content in
      let us = with_commit ws c in
      let same = same_written name ws c b k in
      let rest = all_replayed us (values_with_commit ws vs c) (committed_on (commit_ref refs c) c bs) (before ++ c ∷ []) cs (commit_keeps ws vs before c h f.0 f.1 f.2) f.3 (have_blobs ws c b) in
      record {
        steps = steps_after name (state_with no_history ws vs bs []) (state_with no_history us (values_with_commit ws vs c) (committed_on (commit_ref refs c) c bs) []) (commit_with_changes name refs ws c) (commits_with_changes name refs (with_changes ws c) cs) one
            ∙ ap (λ now. steps name (state_with no_history us (values_with_commit ws vs c) (committed_on (commit_ref refs c) c bs) []) (commits_with_changes name refs now cs)) same ∙ rest.steps;
        written = ap (λ ws. fold with_changes ws cs) same ∙ rest.written;
      }

-- ---- the branches

-- a ref's name finds it
abbrev pub IsFound : Refs → Bytes → Type 0
IsFound refs n = T (is_some (find byte_cmp n refs))

found_more : (x : Bytes × Target) (refs : Refs) (n : Bytes) → IsFound refs n → IsFound (x ∷ refs) n
found_more x refs n h = elim (eq_by_cmp byte_cmp n x.0) as (λ t. T (is_some (cond t (Some x.1) (find byte_cmp n refs)))) [ true ↦ tt | false ↦ h ]

found_first : (x : Bytes × Target) (refs : Refs) → IsFound (x ∷ refs) x.0
found_first x refs = subst (λ t. T (is_some (cond t (Some x.1) (find byte_cmp x.0 refs)))) (sym (tied_with_itself x.0)) tt

module _ (P : Bytes → Type 0) where
  pub first_holds : (x : Bytes) (xs : List Bytes) → AllByRecursion P (x ∷ xs) → P (first_or_carrier (filter is_branch (x ∷ xs) ++ x ∷ xs))
  first_holds x xs h = by (filter is_branch (x ∷ xs)) (filtered (x ∷ xs) h) where
    filtered : (ys : List Bytes) → AllByRecursion P ys → AllByRecursion P (filter is_branch ys)
    filtered [] g = tt
    filtered (y ∷ ys) g = elim (is_branch y) as (λ t. AllByRecursion P (cond t (y ∷ filter is_branch ys) (filter is_branch ys))) [ true ↦ (g.0, filtered ys g.1) | false ↦ filtered ys g.1 ]

    by : (ys : List Bytes) → AllByRecursion P ys → P (first_or_carrier (ys ++ x ∷ xs))
    by [] g = h.0
    by (y ∷ ys) g = g.0

all_found : (refs : Refs) (c : Commit) → AllByRecursion (IsFound refs) (reaching refs c)
all_found [] c = tt
all_found (x ∷ refs) c =
    let rest = more (reaching refs c) (all_found refs c) in
    elim (reaches (peeled_at x.1) c) as (λ t. AllByRecursion (IsFound (x ∷ refs)) (map (λ r. r.0) (cond t (x ∷ filter (λ r. reaches (peeled_at r.1) c) refs) (filter (λ r. reaches (peeled_at r.1) c) refs)))) [
      | true ↦ (found_first x refs, rest)
      | false ↦ rest
    ]
  where
    more : (ns : List Bytes) → AllByRecursion (IsFound refs) ns → AllByRecursion (IsFound (x ∷ refs)) ns
    more [] h = tt
    more (n ∷ ns) h = (found_more x refs n h.0, more ns h.1)

pub some_reach : (refs : Refs) (c : Commit) → T (is_reached refs c) → reaching refs c ≡ [] → ⊥
some_reach [] c h e = absurd h
some_reach (x ∷ refs) c h e = by (reaches (peeled_at x.1) c) h e (some_reach refs c) where
  by : (t : Bool) → T (t || is_reached refs c) → map (λ r. r.0) (cond t (x ∷ filter (λ r. reaches (peeled_at r.1) c) refs) (filter (λ r. reaches (peeled_at r.1) c) refs)) ≡ []
      → (T (is_reached refs c) → reaching refs c ≡ [] → ⊥) → ⊥
  by true h e again = absurd cc
  by false h e again = again h e

-- a commit that refs reach goes out on one of them
pub goes_on_ref : (refs : Refs) (c : Commit) → T (is_reached refs c) → IsFound refs (commit_ref refs c)
goes_on_ref refs c h = by (reaching refs c) (all_found refs c) (some_reach refs c h) where
  by : (ns : List Bytes) → AllByRecursion (IsFound refs) ns → (ns ≡ [] → ⊥) → IsFound refs (first_or_carrier (filter is_branch ns ++ ns))
  by [] g n = absurd (n refl)
  by (x ∷ ns) g n = first_holds (IsFound refs) x ns g

module _ (refs : Refs) where
  -- the branches are refs of these
  record AreRefs (bs : Branches) : Type 0 where
    pub sorted : T (is_sorted byte_cmp bs)
    pub others : (q : Bytes) → find byte_cmp q refs ≡ None → find byte_cmp q bs ≡ None

  one_ref : (r : Bytes) (x : Option Commit) (bs : Branches) → IsFound refs r → AreRefs bs → AreRefs (put byte_cmp r x bs)
  one_ref r x bs f h = record {
    sorted = is_sorted-put byte_cmp order r x bs h.sorted;
    others = λ q n. find-put byte_cmp order q r x bs ∙ elim (eq_by_cmp byte_cmp q r) as (λ t. eq_by_cmp byte_cmp q r ≡ t → cond t (Some x) (find byte_cmp q bs) ≡ None) [
      | true ↦ λ t. absurd (subst (λ (o : Option Target). T (is_some o)) (find_tied byte_cmp order q r (tied q r t) refs ∙ n) f)
      | false ↦ λ t. h.others q n
    ] refl;
  }

  all_refs : (bs : Branches) (cs : List Commit) → T (list_all (is_reached refs) cs) → AreRefs bs → AreRefs (branches_after refs bs cs)
  all_refs bs [] h a = a
  all_refs bs (c ∷ cs) h a =
      let r = commit_ref refs c in
      let f = goes_on_ref refs c (first (is_reached refs c) _ h) in
      all_refs (committed_on r c bs) cs (second (is_reached refs c) _ h) (one_ref r (Some c) (begun_on r (list_of (parents_of c)) bs) f (begun f (list_of (parents_of c))))
    where
      begun : IsFound refs (commit_ref refs c) → (ps : List Commit) → AreRefs (begun_on (commit_ref refs c) ps bs)
      begun f [] = one_ref (commit_ref refs c) None bs f a
      begun f (p ∷ ps) = a

-- ---- the whole

-- `feature done` and `done` change nothing
pub closed_steps : (name : Kind → Bytes → Bytes) (closed : Bool) (commands : List Command) (s t : State) → steps name s commands ≡ Ok t → steps name s (closed_by closed commands) ≡ Ok t
closed_steps name true commands s t e = steps_after name s t commands (command.Done ∷ []) e
closed_steps name false commands s t e = e

module _ (name : Kind → Bytes → Bytes) where
  refs_by_mark : (ws : List Value) (rs : Refs) → ArePeeled ws rs → map (ref_by (named_in name ws)) rs ≡ map (ref_command ws) rs
  refs_by_mark ws [] k = refl
  refs_by_mark ws ((n, at_commit c) ∷ rs) k =
      let named = named_by_mark name ws c k.0 in
      let rest = refs_by_mark ws rs k.1 in
      λ i. command.Reset (record { ref = n; parent = Some (named i) }) ∷ rest i
  refs_by_mark ws ((n, at_tag t) ∷ rs) k =
      let named = named_by_mark name ws t.target k.0 in
      let rest = refs_by_mark ws rs k.1 in
      λ i. command.Tag (record { name = t.name; mark = None; target = named i; tagger = t.tagger; message = t.message }) ∷ rest i

  -- in a whole export all is named by marks, and no commit goes out on the carrier
  pub all_by_mark : (h : History) → IsHistory h → sending_commands name (reached_commits h) h.refs ≡ commits_with_changes name h.refs [] (reached_commits h) ++ map (ref_command (all_written (reached_commits h))) h.refs
  all_by_mark h x =
      let cs = reached_commits h in
      let reached = is_true _ (all_pass (is_reached h.refs) (filter_map commit_of h.values)) in
      let done = all_replayed name h.refs [] [] [] [] cs none_held (all_follow h x) (λ p i. absurd i) in
      ap (λ b. commits_with_changes name h.refs [] cs ++ (cond b [] (to_nothing carrier ∷ []) ++ map (ref_by (named_in name (all_changes cs))) h.refs)) reached
      ∙ ap (λ ws. commits_with_changes name h.refs [] cs ++ map (ref_by (named_in name ws)) h.refs) done.written
      ∙ ap (λ rs. commits_with_changes name h.refs [] cs ++ rs) (refs_by_mark (all_written cs) h.refs (peeled_ones h x))

  pub all_changes_replayed : (closed : Bool) (h : History) → IsHistory h → (k : History) × IsAgain h k × (replayed name 0 (start no_history) (changes_commands name closed h) None ≡ finished k [] (changes_report name closed h k))
  all_changes_replayed closed h x =
      let cs = reached_commits h in
      let ws = all_written cs in
      let vs = values_after [] [] cs in
      let bs = branches_after h.refs [] cs in
      let done = all_replayed name h.refs [] [] [] [] cs none_held (all_follow h x) (λ p i. absurd i) in
      let are = all_refs h.refs [] cs (all_pass (is_reached h.refs) (filter_map commit_of h.values)) (record { sorted = tt; others = λ q n. refl }) in
      let ref_part = map (ref_command ws) h.refs in
      let inner : steps name (start no_history) (sending_commands name cs h.refs) ≡ Ok (after_refs name h bs) =
      ap (steps name (start no_history)) (all_by_mark h x)
      ∙ steps_after name (start no_history) (state_with no_history ws vs bs []) (commits_with_changes name h.refs [] cs) ref_part done.steps
      ∙ refs_replayed name no_history ws vs bs [] h.refs x.own (peeled_ones h x) in
      ends_again name h x bs are.sorted (λ q n. ap at_branch (are.others q n)) (changes_commands name closed h) (closed_steps name closed (sending_commands name cs h.refs) (start no_history) (after_refs name h bs) inner)
