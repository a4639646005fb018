-- The commands of a range's export are replayed without a fault where it can be received, and what they give.
use Rattle.std.proofs.Common.{◌≡◌, ◌+◌, ◌-◌, Bool, true, false, cond, Option, Some, None, Ok, List, [], ◌∷◌, ◌++◌, length, map, refl, sym, ap, subst, ◌∙◌, arith, append-nil, inl, inr}
use Rattle.std.specs.Bool.{passes}
use Rattle.std.specs.FinMap.Entries.{find, is_sorted, put}
use Rattle.std.specs.List.{filter, fold, list_all, AllByRecursion}
use Rattle.std.specs.Map.{lookup}
use Rattle.std.specs.Prelude.{reverse, T, ◌⊎◌}
use Rattle.gx_model.specs.declared.faults.Fault.TheVariants as faults
use Rattle.gx_model.specs.declared.objects.Kind.{Kind}
use Rattle.gx_model.specs.Texts.{Bytes, byte_cmp, same_bytes}
use Rattle.gx_model.specs.Texts.RefNames.{is_ref_name}
use Rattle.gx_model.specs.Streams.Commands.{Command}
use Rattle.gx_model.specs.Histories.Values.{Commit, Value, commit_value, is_proper, tag_value}
use Rattle.gx_model.specs.Histories.{History, IsHistory, IsIn, IsRefOf, IsWhole, Target, at_commit, at_tag, value_at, with_one}
use Rattle.gx_model.specs.Objects.{IsNamer}
use Rattle.gx_model.specs.Revisions.Denotation.{ref_at}
use Rattle.gx_model.specs.Revisions.Ranges.{Word, listing}
use Rattle.gx_model.specs.Replay.{final, final_refs, finished, is_fast_forward, is_forward, overwritten, peeled_at, refused, replayed, report, start}
use Rattle.gx_model.specs.Export.{carrier, is_reached, ref_by, to_nothing}
use Rattle.gx_model.specs.Changes.{all_changes, carrier_reset, commits_with_changes, is_in_range, named_in, range_commands, sending_commands, set_refs}
use Rattle.gx_model.specs.Laws.ExportLaws.{AnyReaches, IsOne, steps}
use Rattle.gx_model.specs.Laws.RangeLaws.{CanReceive, IsForwardRef, IsReceived, is_excluded, range_report}
use Rattle.gx_model.proofs.Changes.ChangeReplays.{branches_after, closed_steps}
use Rattle.gx_model.proofs.Ranges.CommitRefs.{own_ref}
use Rattle.gx_model.proofs.Export.CommitSteps.{Branches, state_with, steps_after}
use Rattle.gx_model.proofs.Export.ExportSteps.{all_replayed, proper_refs}
use Rattle.gx_model.proofs.Export.KeptCommits.{all_in, any_from, one_of_all, reached_held}
use Rattle.gx_model.proofs.Texts.PathTests.{is_true, same_is}
use Rattle.gx_model.proofs.Export.PublishedRefs.{Refs, at_branch, branch_set, ref_branches, ref_branches_sorted, ref_tags, ref_values, refs_held, same_refs, set_branch}
use Rattle.gx_model.proofs.Ranges.RangeSteps.{ArePlain, HaveNames, IsWrittenOrHeld, commits_replayed, have_names, plain_put, refs_replayed, values_sent}
use Rattle.gx_model.proofs.Export.ReachedValues.{target_held}
use Rattle.gx_model.proofs.Ranges.ReceivedValues.{FollowsSent, HoldsSent, IsFront, front_one, held_there}
use Rattle.gx_model.proofs.Ranges.SentCommits.{excluded_below, follows_sent, is_sent, not_excluded, refs_left, sent_are, sent_or_excluded}
use Rattle.gx_model.proofs.Ranges.SetBranches.{GoOnRefs, all_entries, all_go, go_on_refs, no_other, ref_reaches, refs_after, sorted_filter, without_carrier}
use Rattle.gx_model.proofs.Texts.TextMaps.{lookup_is}

front_refs : (held vs : List Value) (rs : Refs) → IsFront held vs → IsFront held (ref_values vs rs)
front_refs held vs [] f = f
front_refs held vs ((n, at_commit c) ∷ rs) f = front_refs held vs rs f
front_refs held vs ((n, at_tag t) ∷ rs) f = front_refs held (with_one vs (tag_value t)) rs (front_one held vs (tag_value t) f)

any_left : (xs ys : List Value) (u : Value) → AnyReaches xs u → AnyReaches (xs ++ ys) u
any_left [] ys u h = absurd h
any_left (x ∷ xs) ys u h = elim h [ inl r ↦ inl r | inr k ↦ inr (any_left xs ys u k) ]

any_right : (xs ys : List Value) (u : Value) → AnyReaches ys u → AnyReaches (xs ++ ys) u
any_right [] ys u h = h
any_right (x ∷ xs) ys u h = inr (any_right xs ys u h)

all_together : (P : Value → Type 0) (xs ys : List Value) → AllByRecursion P xs → AllByRecursion P ys → AllByRecursion P (xs ++ ys)
all_together P [] ys h k = k
all_together P (x ∷ xs) ys h k = (h.0, all_together P xs ys h.1 k)

-- a test that commits pass is passed by one of them
one_passes : (R : Commit → Bool) (cs : List Commit) (c : Commit) → IsOne (filter R cs) c → T (R c)
one_passes R [] c i = absurd i
one_passes R (d ∷ cs) c i = by (R d) refl i (one_passes R cs c) where
  by : (t : Bool) → R d ≡ t → IsOne (cond t (d ∷ filter R cs) (filter R cs)) c → (IsOne (filter R cs) c → T (R c)) → T (R c)
  by true e i again = elim i [ inl s ↦ subst (λ x. T (R x)) s (subst T (sym e) tt) | inr k ↦ again k ]
  by false e i again = again i

-- ---- the refs are forward

module _ (h target : History) (words : List Word) (sorted : T (is_sorted byte_cmp (set_refs h words))) (cs : List Commit) (apart : (d : Commit) → IsOne cs d → T (is_excluded words d) → ⊥)
    (forward : AllByRecursion (λ r. IsForwardRef h target words r.0 r.1) (set_refs h words)) (bs : Branches) (g : GoOnRefs (set_refs h words) bs cs) where
  found_forward : (rs : Refs) → AllByRecursion (λ r. IsForwardRef h target words r.0 r.1) rs → (q : Bytes) (x : Target) → lookup (same_bytes q) rs ≡ Some x → IsForwardRef h target words q x
  found_forward [] f q x e = absurd cc
  found_forward (r ∷ rs) f q x e = by (same_bytes q r.0) refl e (found_forward rs f.1 q x) where
    by : (t : Bool) → same_bytes q r.0 ≡ t → cond t (Some r.1) (lookup (same_bytes q) rs) ≡ Some x → (lookup (same_bytes q) rs ≡ Some x → IsForwardRef h target words q x) → IsForwardRef h target words q x
    by true t k again =
        let same : q ≡ r.0 = same_is q r.0 (passes _ t) in
        let is : r.1 ≡ x = cc in
        subst (λ y. IsForwardRef h target words q y) is (subst (λ n. IsForwardRef h target words n r.1) (sym same) f.0)
    by false t k again = again k

  no_old : (o : Option Target) (x : Option Commit) → o ≡ None → T (is_forward o x)
  no_old o None e = subst (λ o. T (is_forward o None)) (sym e) tt
  no_old o (Some d) e = subst (λ o. T (is_forward o (Some d))) (sym e) tt

  no_new : (o : Option Target) → T (is_forward o None)
  no_new None = tt
  no_new (Some x) = tt

  one_forward : (q : Bytes) (x : Option Commit) → find byte_cmp q (ref_branches bs (set_refs h words)) ≡ Some x → T (is_forward (ref_at target q) x)
  one_forward q None e = no_new (ref_at target q)
  one_forward q (Some d) e = by (find byte_cmp q (set_refs h words)) refl (sym (branch_set bs (set_refs h words) q sorted) ∙ e) where
    by : (o : Option Target) → find byte_cmp q (set_refs h words) ≡ o → set_branch o (find byte_cmp q bs) ≡ Some (Some d) → T (is_forward (ref_at target q) (Some d))
    by None n k = let none = no_other (set_refs h words) bs cs g q n in let never = sym (ap at_branch k) ∙ none in absurd cc
    by (Some (at_commit c)) n k =
        let same : c ≡ d = cc in
        subst (λ y. T (is_forward (ref_at target q) (Some y))) same (passes _ (found_forward (set_refs h words) forward q (at_commit c) (lookup_is q (set_refs h words) ∙ n)))
    by (Some (at_tag t)) n k =
        let out = g.on q d k in
        let found = ap (λ r. find byte_cmp r (set_refs h words)) out.1 ∙ n in
        let reach = ref_reaches (set_refs h words) d (at_tag t) sorted found out.2 in
        elim (found_forward (set_refs h words) forward q (at_tag t) (lookup_is q (set_refs h words) ∙ n)) [
          | inl none ↦ no_old (ref_at target q) (Some d) none
          | inr rest ↦ elim rest [
            | inl gone ↦ absurd (apart d out.0 (excluded_below words t.target d (passes _ gone) reach))
            | inr other ↦ absurd (other (own_ref (set_refs h words) d (at_tag t) reach out.2 found ∙ out.1))
          ]
        ]

  pub all_forward : T (list_all (λ b. is_forward (ref_at target b.0) b.1) (ref_branches bs (set_refs h words)))
  all_forward = all_entries (λ b. is_forward (ref_at target b.0) b.1) (ref_branches bs (set_refs h words)) (ref_branches_sorted bs (set_refs h words) g.sorted) one_forward

-- ---- the whole

module _ (name : Kind → Bytes → Bytes) (namer : IsNamer name) (closed : Bool) (h : History) (x : IsHistory h) (words : List Word) (target : History) (receive : CanReceive name h words target) where
  abbrev sent : List Commit
  sent = reverse (listing h words)

  abbrev set : Refs
  set = set_refs h words

  whole_target : IsWhole target.values
  whole_target = record { closed = receive.history.closed; proper = receive.history.proper }

  follows : FollowsSent target.values [] sent
  follows = subst (FollowsSent target.values []) (sym (sent_are h words)) (follows_sent words target.values [] h.values x.closed (passes _ x.proper) receive.rest.holds)

  -- the commit of each ref that is set is sent, or is held
  known_refs : AllByRecursion (λ r. IsOne sent (peeled_at r.1) ⊎ IsIn target.values (commit_value (peeled_at r.1))) set
  known_refs =
      let whole : IsWhole h.values = record { closed = x.closed; proper = x.proper } in
      refs_left (λ r. IsIn h.values (value_at r.1)) (λ r. IsOne sent (peeled_at r.1) ⊎ IsIn target.values (commit_value (peeled_at r.1))) (λ r. is_in_range words (peeled_at r.1)) (λ r i t.
      let there = target_held h.values whole r.1 i in
      elim (sent_or_excluded h.values words (peeled_at r.1) there t) [
        | inl one ↦ inl (subst (λ cs. IsOne cs (peeled_at r.1)) (sym (sent_are h words)) one)
        | inr gone ↦ inr (receive.rest.holds (peeled_at r.1) there gone)
      ]) h.refs x.held

  set_names : HaveNames set
  set_names = refs_left (λ r. is_ref_name r.0 ≡ true) (λ r. is_ref_name r.0 ≡ true) (λ r. is_in_range words (peeled_at r.1)) (λ r n _. n) h.refs (have_names h.refs (passes _ x.ref_names))

  sorted_set : T (is_sorted byte_cmp set)
  sorted_set = sorted_filter (λ r. is_in_range words (peeled_at r.1)) h.refs (passes _ x.sorted)

  apart_sent : (d : Commit) → IsOne sent d → T (is_excluded words d) → ⊥
  apart_sent d i k = not_excluded words d (one_passes (is_sent words) _ d (subst (λ cs. IsOne cs d) (sent_are h words) i)) k

  begun_held : HoldsSent target.values [] target.values []
  begun_held = record { whole = whole_target; front = ([], sym (append-nil target.values)); written = λ v i. absurd i; commits = tt; only = λ u i. inl i }

  carrier_replayed : (ws vs : List Value) (bs : Branches) (rest : List Command) → steps name (state_with target ws vs bs []) (carrier_reset set sent ++ rest) ≡ steps name (state_with target ws vs (without_carrier set sent bs) []) rest
  carrier_replayed ws vs bs rest = elim (list_all (is_reached set) sent) as (λ t. steps name (state_with target ws vs bs []) (cond t [] (to_nothing carrier ∷ []) ++ rest) ≡ steps name (state_with target ws vs (cond t bs (put byte_cmp carrier None bs)) []) rest) [ true ↦ refl | false ↦ refl ]

  carrier_plain : (bs : Branches) → ArePlain bs → ArePlain (without_carrier set sent bs)
  carrier_plain bs k = elim (list_all (is_reached set) sent) as (λ t. ArePlain (cond t bs (put byte_cmp carrier None bs))) [ true ↦ k | false ↦ plain_put carrier None bs refl k ]

  each_two : (P Q : Bytes × Target → Type 0) → ((r : Bytes × Target) → P r → Q r) → (rs : Refs) → AllByRecursion P rs → AllByRecursion Q rs
  each_two P Q f [] k = tt
  each_two P Q f (r ∷ rs) k = (f r k.0, each_two P Q f rs k.1)

  commits_in : (P : Value → Type 0) (cs : List Commit) → AllByRecursion (λ c. P (commit_value c)) cs → AllByRecursion P (map commit_value cs)
  commits_in P [] k = tt
  commits_in P (c ∷ cs) k = (k.0, commits_in P cs k.1)

  each_commit : (P Q : Value → Type 0) → ((v : Value) → P v → Q v) → (cs : List Commit) → AllByRecursion (λ c. P (commit_value c)) cs → AllByRecursion (λ c. Q (commit_value c)) cs
  each_commit P Q f [] k = tt
  each_commit P Q f (c ∷ cs) k = (f (commit_value c) k.0, each_commit P Q f cs k.1)

  targets_in : (P : Value → Type 0) (rs : Refs) → AllByRecursion (λ r. P (value_at r.1)) rs → AllByRecursion P (map (λ r. value_at r.1) rs)
  targets_in P [] k = tt
  targets_in P (r ∷ rs) k = (k.0, targets_in P rs k.1)

  -- where the range can be received, its commands bring exactly what is sent
  pub range_replayed : (k : History) × IsReceived h words target k × (replayed name 0 (start target) (range_commands name closed h words) None ≡ finished k [] (range_report name closed h words target k))
  range_replayed =
      let commands = range_commands name closed h words in
      let ws = all_changes sent in
      let vs = values_sent [] target.values sent in
      let done = commits_replayed name namer target receive.told set set_names [] target.values [] [] sent begun_held follows (λ t e. refl) in
      let held = done.held in
      let bs = without_carrier set sent (branches_after set [] sent) in
      let g = go_on_refs set (branches_after set [] sent) sent (all_go set [] [] sent (record { sorted = tt; on = λ q d e. absurd cc })) in
      let others = no_other set bs sent g in
      let known = each_two (λ r. IsOne sent (peeled_at r.1) ⊎ IsIn target.values (commit_value (peeled_at r.1))) (λ r. IsWrittenOrHeld name namer target receive.told ws (peeled_at r.1)) (λ r i. elim i [
        | inl one ↦ inl (one_of_all (λ d. IsIn ws (commit_value d)) sent (peeled_at r.1) held.commits one)
        | inr j ↦ inr j
      ]) set known_refs in
      let peeled = each_two (λ r. IsWrittenOrHeld name namer target receive.told ws (peeled_at r.1)) (λ r. IsIn vs (commit_value (peeled_at r.1))) (λ r i. elim i [
        | inl j ↦ held.written (commit_value (peeled_at r.1)) j
        | inr j ↦ held_there target.values vs (commit_value (peeled_at r.1)) held.front j
      ]) set known in
      let proper = refs_left (λ r. T (is_proper (value_at r.1))) (λ r. T (is_proper (value_at r.1))) (λ r. is_in_range words (peeled_at r.1)) (λ r p _. p) h.refs (proper_refs h x) in
      let own = refs_left (λ r. IsRefOf r.0 r.1) (λ r. IsRefOf r.0 r.1) (λ r. is_in_range words (peeled_at r.1)) (λ r p _. p) h.refs x.own in
      let after = refs_held vs set held.whole peeled proper in
      let us = ref_values vs set in
      let t = state_with target ws us (ref_branches bs set) (ref_tags [] set) in
      let ref_part = map (ref_by (named_in name ws)) set in
      let inner : steps name (start target) (sending_commands name sent set) ≡ Ok t =
      steps_after name (start target) (state_with target ws vs (branches_after set [] sent) []) (commits_with_changes name set [] sent) (carrier_reset set sent ++ ref_part) done.steps
      ∙ carrier_replayed ws vs (branches_after set [] sent) ref_part
      ∙ refs_replayed name namer target receive.told ws vs bs [] set own known set_names held.front (carrier_plain (branches_after set [] sent) done.plain) in
      let all = closed_steps name closed (sending_commands name sent set) (start target) t inner in
      let forward : is_fast_forward t ≡ true = is_true _ (all_forward h target words sorted_set sent apart_sent receive.rest.forward bs g) in
      let same : final_refs t ≡ fold (λ rs r. put byte_cmp r.0 r.1 rs) target.refs set = refs_after target.refs set bs (passes _ receive.history.sorted) sorted_set g.sorted others in
      let published : overwritten t [] ≡ set = same_refs set bs sorted_set g.sorted others in
      let n : 0 + length commands ≡ length commands = omega arith in
      let told : report (0 + length commands) t ≡ range_report name closed h words target (final t) = λ i. record { commands = n i; objects = length us - length target.values; refs = length (published i) } in
      let list = map commit_value sent ++ map (λ r. value_at r.1) set in
      let there : AllByRecursion (IsIn us) list = all_together (IsIn us) (map commit_value sent) (map (λ r. value_at r.1) set)
      (commits_in (IsIn us) sent (each_commit (IsIn ws) (IsIn us) (λ v i. after.keeps v (held.written v i)) sent held.commits)) (targets_in (IsIn us) set after.has) in (
        final t,
        record {
          refs = same;
          front = front_refs target.values vs set held.front;
          only = λ u i. elim (after.only u i) [
            | inl j ↦ elim (held.only u j) [ inl m ↦ inl m | inr m ↦ inr (any_left (map commit_value sent) (map (λ r. value_at r.1) set) u m) ]
            | inr r ↦ inr (any_right (map commit_value sent) (map (λ r. value_at r.1) set) u r)
          ];
          all = λ u r. let a = any_from list u r in reached_held us after.whole a.0 u a.2 (all_in (IsIn us) list a.0 there a.1);
          whole = after.whole;
        },
        all_replayed name 0 (start target) t commands all ∙ ap (λ b. cond b (finished (final t) [] (report (0 + length commands) t)) (refused (0 + length commands + 1) faults.NotFastForward [] t.kept)) forward ∙ ap (finished (final t) []) told,
      )
