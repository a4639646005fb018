-- The commands of an export's refs are replayed, and the refs are what they were.
use Rattle.std.proofs.Common.{◌≡◌, true, false, cond, Option, Some, None, Ok, List, [], ◌∷◌, map, refl, sym, ap, subst, ◌∙◌, inl, inr}
use Rattle.std.specs.FinMap.Entries.{put, find, is_sorted, below_all, is_sorted-put, find-put, find_tied, same_entries}
use Rattle.std.specs.List.{filter_map, fold, AllByRecursion}
use Rattle.std.specs.Ordering.{eq_by_cmp}
use Rattle.std.specs.Prelude.{T, ◌⊎◌}
use Rattle.gx_model.specs.Export.{ref_command}
use Rattle.gx_model.specs.Laws.ExportLaws.{AnyReaches, steps}
use Rattle.gx_model.specs.Histories.{History, IsIn, IsRefOf, IsWhole, Reaches, Target, at_commit, at_tag, itself, value_at, with_one}
use Rattle.gx_model.specs.Laws.HistoryLaws.{IsAdded}
use Rattle.gx_model.specs.Replay.{peeled_at, with_branch}
use Rattle.gx_model.specs.Texts.{Bytes, byte_cmp}
use Rattle.gx_model.specs.Histories.Values.{Commit, Tag, Value, commit_of, commit_value, is_proper, tag_value}
use Rattle.gx_model.specs.declared.objects.Kind.{Kind}
use Rattle.gx_model.proofs.Histories.AddedValues.{keeps, one_added}
use Rattle.gx_model.proofs.Export.CommitSteps.{Branches, Tags, number_found, state_with}
use Rattle.gx_model.proofs.Export.KeptCommits.{one_only, order_one}
use Rattle.gx_model.proofs.Texts.PathTests.{first, second}
use Rattle.gx_model.proofs.Texts.TextMaps.{none_below, order, same_text, tied}

abbrev pub at_branch : Option (Option Commit) → Option Target
at_branch None = None
at_branch (Some None) = None
at_branch (Some (Some c)) = Some (at_commit c)

abbrev pub at_either : Option Tag → Option Target → Option Target
at_either None o = o
at_either (Some t) o = Some (at_tag t)

abbrev pub Refs : Type 0
Refs = List (Bytes × Target)

-- what ref q gets from these branches and tags
abbrev pub looked : Bytes → Branches → Tags → Option Target
looked q bs ts = at_either (find byte_cmp q ts) (at_branch (find byte_cmp q bs))

pub tags_found : (q : Bytes) (rs : Refs) (ts : Tags) → T (is_sorted byte_cmp ts) → find byte_cmp q (fold (λ rs t. put byte_cmp t.0 (at_tag t.1) rs) rs ts) ≡ at_either (find byte_cmp q ts) (find byte_cmp q rs)
tags_found q rs [] h = refl
tags_found q rs (e ∷ es) h =
    tags_found q (put byte_cmp e.0 (at_tag e.1) rs) es (second _ _ h) ∙ ap (at_either (find byte_cmp q es)) (find-put byte_cmp order q e.0 (at_tag e.1) rs)
    ∙ elim (eq_by_cmp byte_cmp q e.0) as (λ t. eq_by_cmp byte_cmp q e.0 ≡ t → at_either (find byte_cmp q es) (cond t (Some (at_tag e.1)) (find byte_cmp q rs)) ≡ at_either (cond t (Some e.1) (find byte_cmp q es)) (find byte_cmp q rs)) [
      | true ↦ λ t. ap (λ o. at_either o (Some (at_tag e.1))) (sym (find_tied byte_cmp order q e.0 (tied q e.0 t) es) ∙ none_below e.0 es (first _ _ h))
      | false ↦ λ t. refl
    ] refl

abbrev pub or_before : Option Target → Option Target → Option Target
or_before None o = o
or_before (Some t) o = Some t

pub branches_found : (q : Bytes) (rs : Refs) (bs : Branches) → T (is_sorted byte_cmp bs) → find byte_cmp q (fold with_branch rs bs) ≡ or_before (at_branch (find byte_cmp q bs)) (find byte_cmp q rs)
branches_found q rs [] h = refl
branches_found q rs ((n, None) ∷ bs) h =
    branches_found q rs bs (second _ _ h)
    ∙ elim (eq_by_cmp byte_cmp q n) as (λ t. eq_by_cmp byte_cmp q n ≡ t → or_before (at_branch (find byte_cmp q bs)) (find byte_cmp q rs) ≡ or_before (at_branch (cond t (Some None) (find byte_cmp q bs))) (find byte_cmp q rs)) [
      | true ↦ λ t. ap (λ o. or_before (at_branch o) (find byte_cmp q rs)) (sym (find_tied byte_cmp order q n (tied q n t) bs) ∙ none_below n bs (first _ _ h))
      | false ↦ λ t. refl
    ] refl
branches_found q rs ((n, Some c) ∷ bs) h =
    branches_found q (put byte_cmp n (at_commit c) rs) bs (second _ _ h) ∙ ap (or_before (at_branch (find byte_cmp q bs))) (find-put byte_cmp order q n (at_commit c) rs)
    ∙ elim (eq_by_cmp byte_cmp q n) as (λ t. eq_by_cmp byte_cmp q n ≡ t → or_before (at_branch (find byte_cmp q bs)) (cond t (Some (at_commit c)) (find byte_cmp q rs)) ≡ or_before (at_branch (cond t (Some (Some c)) (find byte_cmp q bs))) (find byte_cmp q rs)) [
      | true ↦ λ t. ap (λ o. or_before (at_branch o) (Some (at_commit c))) (sym (find_tied byte_cmp order q n (tied q n t) bs) ∙ none_below n bs (first _ _ h))
      | false ↦ λ t. refl
    ] refl

pub branches_sorted : (rs : Refs) (bs : Branches) → T (is_sorted byte_cmp rs) → T (is_sorted byte_cmp (fold with_branch rs bs))
branches_sorted rs [] h = h
branches_sorted rs ((n, None) ∷ bs) h = branches_sorted rs bs h
branches_sorted rs ((n, Some c) ∷ bs) h = branches_sorted (put byte_cmp n (at_commit c) rs) bs (is_sorted-put byte_cmp order n (at_commit c) rs h)

pub tags_sorted : (rs : Refs) (ts : Tags) → T (is_sorted byte_cmp rs) → T (is_sorted byte_cmp (fold (λ rs t. put byte_cmp t.0 (at_tag t.1) rs) rs ts))
tags_sorted rs [] h = h
tags_sorted rs (t ∷ ts) h = tags_sorted (put byte_cmp t.0 (at_tag t.1) rs) ts (is_sorted-put byte_cmp order t.0 (at_tag t.1) rs h)

-- ---- the refs' commands

abbrev pub ref_values : List Value → Refs → List Value
ref_values vs [] = vs
ref_values vs ((n, at_commit c) ∷ rs) = ref_values vs rs
ref_values vs ((n, at_tag t) ∷ rs) = ref_values (with_one vs (tag_value t)) rs

abbrev pub ref_branches : Branches → Refs → Branches
ref_branches bs [] = bs
ref_branches bs ((n, at_commit c) ∷ rs) = ref_branches (put byte_cmp n (Some c) bs) rs
ref_branches bs ((n, at_tag t) ∷ rs) = ref_branches bs rs

abbrev pub ref_tags : Tags → Refs → Tags
ref_tags ts [] = ts
ref_tags ts ((n, at_commit c) ∷ rs) = ref_tags ts rs
ref_tags ts ((n, at_tag t) ∷ rs) = ref_tags (put byte_cmp n t ts) rs

abbrev pub ArePeeled : List Value → Refs → Type 0
ArePeeled ws rs = AllByRecursion (λ r. IsIn ws (commit_value (peeled_at r.1))) rs

module _ (name : Kind → Bytes → Bytes) (h : History) where
  pub refs_replayed : (ws vs : List Value) (bs : Branches) (ts : Tags) (rs : Refs) → AllByRecursion (λ r. IsRefOf r.0 r.1) rs → ArePeeled ws rs → steps name (state_with h ws vs bs ts) (map (ref_command ws) rs) ≡ Ok (state_with h ws (ref_values vs rs) (ref_branches bs rs) (ref_tags ts rs))
  refs_replayed ws vs bs ts [] o k = refl
  refs_replayed ws vs bs ts ((n, at_commit c) ∷ rs) o k =
      let again = refs_replayed ws vs (put byte_cmp n (Some c) bs) ts rs o.1 k.1 in
      rw (number_found ws (commit_value c) k.0) again
  refs_replayed ws vs bs ts ((n, at_tag t) ∷ rs) o k =
      let again = refs_replayed ws (with_one vs (tag_value t)) bs (put byte_cmp n t ts) rs o.1 k.1 in
      rw (number_found ws (commit_value t.target) k.0) (rw (← o.0) again)

-- ---- what the refs' commands set

-- a branch by the ref that is set, or else as it was
abbrev pub set_branch : Option Target → Option (Option Commit) → Option (Option Commit)
set_branch (Some (at_commit c)) o = Some (Some c)
set_branch (Some (at_tag t)) o = o
set_branch None o = o

-- a tag by the ref that is set, or else as it was
abbrev pub set_tag : Option Target → Option Tag → Option Tag
set_tag (Some (at_tag t)) o = Some t
set_tag (Some (at_commit c)) o = o
set_tag None o = o

-- a ref stands once
pub only_once : (q n : Bytes) (rs : Refs) → T (below_all byte_cmp n rs) → eq_by_cmp byte_cmp q n ≡ true → find byte_cmp q rs ≡ None
only_once q n rs h e = sym (find_tied byte_cmp order q n (tied q n e) rs) ∙ none_below n rs h

pub branch_set : (bs : Branches) (rs : Refs) (q : Bytes) → T (is_sorted byte_cmp rs) → find byte_cmp q (ref_branches bs rs) ≡ set_branch (find byte_cmp q rs) (find byte_cmp q bs)
branch_set bs [] q h = refl
branch_set bs ((n, at_commit c) ∷ rs) q h =
    branch_set (put byte_cmp n (Some c) bs) rs q (second _ _ h) ∙ ap (set_branch (find byte_cmp q rs)) (find-put byte_cmp order q n (Some c) bs)
    ∙ elim (eq_by_cmp byte_cmp q n) as (λ t. eq_by_cmp byte_cmp q n ≡ t → set_branch (find byte_cmp q rs) (cond t (Some (Some c)) (find byte_cmp q bs)) ≡ set_branch (cond t (Some (at_commit c)) (find byte_cmp q rs)) (find byte_cmp q bs)) [
      | true ↦ λ t. ap (λ o. set_branch o (Some (Some c))) (only_once q n rs (first _ _ h) t)
      | false ↦ λ t. refl
    ] refl
branch_set bs ((n, at_tag u) ∷ rs) q h =
    branch_set bs rs q (second _ _ h)
    ∙ elim (eq_by_cmp byte_cmp q n) as (λ t. eq_by_cmp byte_cmp q n ≡ t → set_branch (find byte_cmp q rs) (find byte_cmp q bs) ≡ set_branch (cond t (Some (at_tag u)) (find byte_cmp q rs)) (find byte_cmp q bs)) [
      | true ↦ λ t. ap (λ o. set_branch o (find byte_cmp q bs)) (only_once q n rs (first _ _ h) t)
      | false ↦ λ t. refl
    ] refl

pub tag_set : (ts : Tags) (rs : Refs) (q : Bytes) → T (is_sorted byte_cmp rs) → find byte_cmp q (ref_tags ts rs) ≡ set_tag (find byte_cmp q rs) (find byte_cmp q ts)
tag_set ts [] q h = refl
tag_set ts ((n, at_tag u) ∷ rs) q h =
    tag_set (put byte_cmp n u ts) rs q (second _ _ h) ∙ ap (set_tag (find byte_cmp q rs)) (find-put byte_cmp order q n u ts)
    ∙ elim (eq_by_cmp byte_cmp q n) as (λ t. eq_by_cmp byte_cmp q n ≡ t → set_tag (find byte_cmp q rs) (cond t (Some u) (find byte_cmp q ts)) ≡ set_tag (cond t (Some (at_tag u)) (find byte_cmp q rs)) (find byte_cmp q ts)) [
      | true ↦ λ t. ap (λ o. set_tag o (Some u)) (only_once q n rs (first _ _ h) t)
      | false ↦ λ t. refl
    ] refl
tag_set ts ((n, at_commit c) ∷ rs) q h =
    tag_set ts rs q (second _ _ h)
    ∙ elim (eq_by_cmp byte_cmp q n) as (λ t. eq_by_cmp byte_cmp q n ≡ t → set_tag (find byte_cmp q rs) (find byte_cmp q ts) ≡ set_tag (cond t (Some (at_commit c)) (find byte_cmp q rs)) (find byte_cmp q ts)) [
      | true ↦ λ t. ap (λ o. set_tag o (find byte_cmp q ts)) (only_once q n rs (first _ _ h) t)
      | false ↦ λ t. refl
    ] refl

-- a branch that is no ref of these has no commit
abbrev pub HasNoOther : Branches → Refs → Type 0
HasNoOther bs rs = (q : Bytes) → find byte_cmp q rs ≡ None → at_branch (find byte_cmp q bs) ≡ None

-- the branches and the tags give the refs that are set, and no other
all_set : (bs : Branches) (rs : Refs) → T (is_sorted byte_cmp rs) → HasNoOther bs rs → (q : Bytes) → looked q (ref_branches bs rs) (ref_tags [] rs) ≡ find byte_cmp q rs
all_set bs rs h n q =
    (λ i. at_either (tag_set [] rs q h i) (at_branch (branch_set bs rs q h i)))
    ∙ by (find byte_cmp q rs) refl
  where
    by : (o : Option Target) → find byte_cmp q rs ≡ o → at_either (set_tag o None) (at_branch (set_branch o (find byte_cmp q bs))) ≡ o
    by None e = n q e
    by (Some (at_commit c)) e = refl
    by (Some (at_tag t)) e = refl

pub ref_branches_sorted : (bs : Branches) (rs : Refs) → T (is_sorted byte_cmp bs) → T (is_sorted byte_cmp (ref_branches bs rs))
ref_branches_sorted bs [] h = h
ref_branches_sorted bs ((n, at_commit c) ∷ rs) h = ref_branches_sorted (put byte_cmp n (Some c) bs) rs (is_sorted-put byte_cmp order n (Some c) bs h)
ref_branches_sorted bs ((n, at_tag t) ∷ rs) h = ref_branches_sorted bs rs h

pub ref_tags_sorted : (ts : Tags) (rs : Refs) → T (is_sorted byte_cmp ts) → T (is_sorted byte_cmp (ref_tags ts rs))
ref_tags_sorted ts [] h = h
ref_tags_sorted ts ((n, at_commit c) ∷ rs) h = ref_tags_sorted ts rs h
ref_tags_sorted ts ((n, at_tag t) ∷ rs) h = ref_tags_sorted (put byte_cmp n t ts) rs (is_sorted-put byte_cmp order n t ts h)

or_nothing : (o : Option Target) → or_before o None ≡ o
or_nothing None = refl
or_nothing (Some t) = refl

-- the refs after the end
pub same_refs : (rs : Refs) (bs : Branches) → T (is_sorted byte_cmp rs) → T (is_sorted byte_cmp bs) → HasNoOther bs rs
    → fold (λ rs t. put byte_cmp t.0 (at_tag t.1) rs) (fold with_branch [] (ref_branches bs rs)) (ref_tags [] rs) ≡ rs
same_refs rs bs h g others =
    let sb = ref_branches_sorted bs rs g in
    let st = ref_tags_sorted [] rs tt in
    let after = fold with_branch [] (ref_branches bs rs) in
    same_entries byte_cmp order same_text (fold (λ rs t. put byte_cmp t.0 (at_tag t.1) rs) after (ref_tags [] rs)) rs
    (tags_sorted after (ref_tags [] rs) (branches_sorted [] (ref_branches bs rs) tt)) h
    (λ q. tags_found q after (ref_tags [] rs) st ∙ ap (at_either (find byte_cmp q (ref_tags [] rs))) (branches_found q [] (ref_branches bs rs) sb ∙ or_nothing (at_branch (find byte_cmp q (ref_branches bs rs)))) ∙ all_set bs rs h others q)

-- ---- the values of the refs

pub record RefsHeld (vs us : List Value) (rs : Refs) : Type 0 where
  pub whole : IsWhole us
  pub keeps : (v : Value) → IsIn vs v → IsIn us v
  pub has : AllByRecursion (λ r. IsIn us (value_at r.1)) rs
  pub order : filter_map commit_of us ≡ filter_map commit_of vs
  pub only : (u : Value) → IsIn us u → IsIn vs u ⊎ AnyReaches (map (λ r. value_at r.1) rs) u

pub all_peeled : (vs us : List Value) → ((v : Value) → IsIn vs v → IsIn us v) → (rs : Refs) → ArePeeled vs rs → ArePeeled us rs
all_peeled vs us f [] h = tt
all_peeled vs us f (r ∷ rs) h = (f (commit_value (peeled_at r.1)) h.0, all_peeled vs us f rs h.1)

pub refs_held : (vs : List Value) (rs : Refs) → IsWhole vs → ArePeeled vs rs → AllByRecursion (λ r. T (is_proper (value_at r.1))) rs → RefsHeld vs (ref_values vs rs) rs
refs_held vs [] h k p = record { whole = h; keeps = λ v i. i; has = tt; order = refl; only = λ u i. inl i }
refs_held vs ((n, at_commit c) ∷ rs) h k p =
    let rest = refs_held vs rs h k.1 p.1 in
    record {
      whole = rest.whole;
      keeps = rest.keeps;
      has = (rest.keeps (commit_value c) k.0, rest.has);
      order = rest.order;
      only = λ u i. elim (rest.only u i) [ inl j ↦ inl j | inr r ↦ inr (inr r) ];
    }
refs_held vs ((n, at_tag t) ∷ rs) h k p =
    let us = with_one vs (tag_value t) in
    let a : IsAdded vs (tag_value t) us = one_added vs (tag_value t) h p.0 (k.0, tt) in
    let rest = refs_held us rs a.whole (all_peeled vs us (keeps vs (tag_value t) us a) rs k.1) p.1 in
    record {
      whole = rest.whole;
      keeps = λ v i. rest.keeps v (keeps vs (tag_value t) us a v i);
      has = (rest.keeps (tag_value t) a.has, rest.has);
      order = rest.order ∙ order_one vs (tag_value t) refl;
      only = λ u i. elim (rest.only u i) [
        | inl j ↦ elim (one_only vs (tag_value t) u j) [ inl q ↦ inl q | inr e ↦ inr (inl (subst (Reaches (tag_value t)) e (itself (tag_value t)))) ]
        | inr r ↦ inr (inr r)
      ];
    }
