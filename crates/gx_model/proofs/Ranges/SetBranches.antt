-- The branches and the refs after the commits and the refs that are sent.
use Rattle.std.proofs.Common.{◌≡◌, Bool, true, false, cond, ◌||◌, Option, Some, None, List, [], ◌∷◌, ◌++◌, map, refl, sym, ap, subst, ◌∙◌, append_assoc, inl, inr}
use Rattle.std.specs.Bool.{passes}
use Rattle.std.specs.FinMap.Entries.{below_all, find, find-put, find_tied, is_sorted, is_sorted-put, put, same_entries}
use Rattle.std.specs.List.{filter, fold, list_all, AllByRecursion}
use Rattle.std.specs.Ordering.{eq_by_cmp, is_lt}
use Rattle.std.specs.Prelude.{T, is_some}
use Rattle.std.proofs.lemmas.Bool.{false≢true}
use Rattle.gx_model.specs.Texts.{Bytes, byte_cmp}
use Rattle.gx_model.specs.Histories.Values.{Commit, list_of, parents_of}
use Rattle.gx_model.specs.Histories.{Target, at_commit, at_tag}
use Rattle.gx_model.specs.Revisions.Ranges.{reaches}
use Rattle.gx_model.specs.Replay.{peeled_at, with_branch}
use Rattle.gx_model.specs.Export.{carrier, is_reached}
use Rattle.gx_model.specs.Changes.{commit_ref, first_or_carrier, is_branch, reaching}
use Rattle.gx_model.specs.Laws.ExportLaws.{IsOne}
use Rattle.gx_model.proofs.Changes.ChangeReplays.{IsFound, branches_after, first_holds, goes_on_ref}
use Rattle.gx_model.proofs.Export.CommitSteps.{Branches, begun_on, committed_on}
use Rattle.gx_model.proofs.Texts.PathTests.{both, first, is_true, second}
use Rattle.gx_model.proofs.Export.PublishedRefs.{HasNoOther, Refs, at_branch, at_either, branch_set, branches_found, branches_sorted, only_once, or_before, ref_branches, ref_branches_sorted, ref_tags, ref_tags_sorted, set_branch, set_tag, tag_set, tags_found, tags_sorted}
use Rattle.gx_model.proofs.Texts.TextMaps.{none_below, order, same_text, tied, tied_with_itself}

-- ---- sorted lists

module _ {X : Type 0} where
  below_filter : (n : Bytes) (t : Bytes × X → Bool) (es : List (Bytes × X)) → T (below_all byte_cmp n es) → T (below_all byte_cmp n (filter t es))
  below_filter n t [] h = tt
  below_filter n t (e ∷ es) h =
      let rest = below_filter n t es (second (is_lt (byte_cmp n e.0)) _ h) in
      elim (t e) as (λ b. T (below_all byte_cmp n (cond b (e ∷ filter t es) (filter t es)))) [ true ↦ both _ _ (first (is_lt (byte_cmp n e.0)) _ h) rest | false ↦ rest ]

  pub sorted_filter : (t : Bytes × X → Bool) (es : List (Bytes × X)) → T (is_sorted byte_cmp es) → T (is_sorted byte_cmp (filter t es))
  sorted_filter t [] h = tt
  sorted_filter t (e ∷ es) h =
      let rest = sorted_filter t es (second (below_all byte_cmp e.0 es) _ h) in
      elim (t e) as (λ b. T (is_sorted byte_cmp (cond b (e ∷ filter t es) (filter t es)))) [ true ↦ both _ _ (below_filter e.0 t es (first (below_all byte_cmp e.0 es) _ h)) rest | false ↦ rest ]

  later_found : (e : Bytes × X) (es : List (Bytes × X)) (q : Bytes) (x : X) → T (below_all byte_cmp e.0 es) → find byte_cmp q es ≡ Some x → find byte_cmp q (e ∷ es) ≡ Some x
  later_found e es q x h k =
      elim (eq_by_cmp byte_cmp q e.0) as (λ b. eq_by_cmp byte_cmp q e.0 ≡ b → cond b (Some e.1) (find byte_cmp q es) ≡ Some x) [
        | true ↦ λ t. let never = sym (sym (find_tied byte_cmp order q e.0 (tied q e.0 t) es) ∙ none_below e.0 es h) ∙ k in absurd cc
        | false ↦ λ t. k
      ] refl

  first_found : (e : Bytes × X) (es : List (Bytes × X)) → find byte_cmp e.0 (e ∷ es) ≡ Some e.1
  first_found e es = ap (λ b. cond b (Some e.1) (find byte_cmp e.0 es)) (tied_with_itself e.0)

  -- what passes wherever it is found passes in all entries
  pub all_entries : (t : Bytes × X → Bool) (es : List (Bytes × X)) → T (is_sorted byte_cmp es) → ((q : Bytes) (x : X) → find byte_cmp q es ≡ Some x → T (t (q, x))) → T (list_all t es)
  all_entries t [] h f = tt
  all_entries t (e ∷ es) h f =
      let below = first (below_all byte_cmp e.0 es) (is_sorted byte_cmp es) h in
      both (t e) (list_all t es) (f e.0 e.1 (first_found e es)) (all_entries t es (second (below_all byte_cmp e.0 es) _ h) (λ q x k. f q x (later_found e es q x below k)))

-- ---- the ref that a commit goes out on

-- the ref of this name reaches a commit
record FoundReaching (refs : Refs) (c : Commit) (n : Bytes) : Type 0 where
  pub target : Target
  pub found : find byte_cmp n refs ≡ Some target
  pub reach : T (reaches (peeled_at target) c)

all_reaching : (refs : Refs) (c : Commit) → T (is_sorted byte_cmp refs) → AllByRecursion (FoundReaching refs c) (reaching refs c)
all_reaching [] c h = tt
all_reaching (x ∷ refs) c h =
    let below = first (below_all byte_cmp x.0 refs) (is_sorted byte_cmp refs) h in
    let left = filter (λ r. reaches (peeled_at r.1) c) refs in
    let rest = more below (reaching refs c) (all_reaching refs c (second (below_all byte_cmp x.0 refs) _ h)) in
    elim (reaches (peeled_at x.1) c) as (λ t. reaches (peeled_at x.1) c ≡ t → AllByRecursion (FoundReaching (x ∷ refs) c) (map (λ r. r.0) (cond t (x ∷ left) left))) [
      | true ↦ λ t. (record { target = x.1; found = first_found x refs; reach = subst T (sym t) tt }, rest)
      | false ↦ λ t. rest
    ] refl
  where
    more : T (below_all byte_cmp x.0 refs) → (ns : List Bytes) → AllByRecursion (FoundReaching refs c) ns → AllByRecursion (FoundReaching (x ∷ refs) c) ns
    more below [] k = tt
    more below (n ∷ ns) k = (record { target = k.0.target; found = later_found x refs n k.0.target below k.0.found; reach = k.0.reach }, more below ns k.1)

no_reaching : (refs : Refs) (c : Commit) → is_reached refs c ≡ false → reaching refs c ≡ []
no_reaching [] c h = refl
no_reaching (x ∷ refs) c h = by (reaches (peeled_at x.1) c) h (no_reaching refs c) where
  by : (t : Bool) → (t || is_reached refs c) ≡ false → (is_reached refs c ≡ false → reaching refs c ≡ [])
      → map (λ r. r.0) (cond t (x ∷ filter (λ r. reaches (peeled_at r.1) c) refs) (filter (λ r. reaches (peeled_at r.1) c) refs)) ≡ []
  by true k again = absurd cc
  by false k again = again k

-- a commit that no ref reaches goes out on the carrier
pub goes_on_carrier : (refs : Refs) (c : Commit) → is_reached refs c ≡ false → commit_ref refs c ≡ carrier
goes_on_carrier refs c h = ap (λ ns. first_or_carrier (filter is_branch ns ++ ns)) (no_reaching refs c h)

-- any other goes out on a ref that reaches it
pub ref_reaches : (refs : Refs) (c : Commit) (x : Target) → T (is_sorted byte_cmp refs) → find byte_cmp (commit_ref refs c) refs ≡ Some x → is_reached refs c ≡ true → T (reaches (peeled_at x) c)
ref_reaches refs c x h f k = by (reaching refs c) (all_reaching refs c h) (some refs k) f where
  some : (rs : Refs) → is_reached rs c ≡ true → reaching rs c ≡ [] → ⊥
  some [] k e = absurd cc
  some (y ∷ rs) k e = one (reaches (peeled_at y.1) c) k e (some rs) where
    one : (t : Bool) → (t || is_reached rs c) ≡ true → map (λ r. r.0) (cond t (y ∷ filter (λ r. reaches (peeled_at r.1) c) rs) (filter (λ r. reaches (peeled_at r.1) c) rs)) ≡ [] → (is_reached rs c ≡ true → reaching rs c ≡ [] → ⊥) → ⊥
    one true k e again = absurd cc
    one false k e again = again k e

  by : (ns : List Bytes) → AllByRecursion (FoundReaching refs c) ns → (ns ≡ [] → ⊥) → find byte_cmp (first_or_carrier (filter is_branch ns ++ ns)) refs ≡ Some x → T (reaches (peeled_at x) c)
  by [] g n e = absurd (n refl)
  by (y ∷ ns) g n e =
      let r = first_holds (FoundReaching refs c) y ns g in
      let same : r.target ≡ x = let k = sym r.found ∙ e in cc in
      subst (λ t. T (reaches (peeled_at t) c)) same r.reach

-- ---- the branches

-- each branch with a commit has one of these, which goes out on it
pub record GoOut (refs : Refs) (bs : Branches) (cs : List Commit) : Type 0 where
  pub sorted : T (is_sorted byte_cmp bs)
  pub on : (q : Bytes) (d : Commit) → find byte_cmp q bs ≡ Some (Some d) → IsOne cs d × (commit_ref refs d ≡ q)

one_left : (cs ds : List Commit) (c : Commit) → IsOne cs c → IsOne (cs ++ ds) c
one_left [] ds c i = absurd i
one_left (d ∷ cs) ds c i = elim i [ inl e ↦ inl e | inr k ↦ inr (one_left cs ds c k) ]

one_last : (cs : List Commit) (c : Commit) → IsOne (cs ++ c ∷ []) c
one_last [] c = inl refl
one_last (d ∷ cs) c = inr (one_last cs c)

module _ (refs : Refs) where
  one_goes : (bs : Branches) (before : List Commit) (c : Commit) → GoOut refs bs before → GoOut refs (committed_on (commit_ref refs c) c bs) (before ++ c ∷ [])
  one_goes bs before c g =
      let r = commit_ref refs c in
      let ps = list_of (parents_of c) in
      record {
        sorted = is_sorted-put byte_cmp order r (Some c) (begun_on r ps bs) (begun_sorted ps);
        on = λ q d e. by q d (eq_by_cmp byte_cmp q r) refl (sym (find-put byte_cmp order q r (Some c) (begun_on r ps bs)) ∙ e);
      }
    where
      begun_sorted : (ps : List Commit) → T (is_sorted byte_cmp (begun_on (commit_ref refs c) ps bs))
      begun_sorted [] = is_sorted-put byte_cmp order (commit_ref refs c) None bs g.sorted
      begun_sorted (p ∷ ps) = g.sorted

      begun_other : (q : Bytes) (ps : List Commit) → eq_by_cmp byte_cmp q (commit_ref refs c) ≡ false → find byte_cmp q (begun_on (commit_ref refs c) ps bs) ≡ find byte_cmp q bs
      begun_other q [] n = find-put byte_cmp order q (commit_ref refs c) None bs ∙ ap (λ b. cond b (Some None) (find byte_cmp q bs)) n
      begun_other q (p ∷ ps) n = refl

      by : (q : Bytes) (d : Commit) (b : Bool) → eq_by_cmp byte_cmp q (commit_ref refs c) ≡ b → cond b (Some (Some c)) (find byte_cmp q (begun_on (commit_ref refs c) (list_of (parents_of c)) bs)) ≡ Some (Some d) → IsOne (before ++ c ∷ []) d × (commit_ref refs d ≡ q)
      by q d true t e =
          let same : c ≡ d = cc in
          subst (λ x. IsOne (before ++ c ∷ []) x × (commit_ref refs x ≡ q)) same (one_last before c, sym (same_text q (commit_ref refs c) (tied q (commit_ref refs c) t)))
      by q d false t e = let k = g.on q d (sym (begun_other q (list_of (parents_of c)) t) ∙ e) in (one_left before (c ∷ []) d k.0, k.1)

  pub all_go : (bs : Branches) (before cs : List Commit) → GoOut refs bs before → GoOut refs (branches_after refs bs cs) (before ++ cs)
  all_go bs before [] g = record { sorted = g.sorted; on = λ q d e. let k = g.on q d e in (one_left before [] d k.0, k.1) }
  all_go bs before (c ∷ cs) g = subst (GoOut refs (branches_after refs (committed_on (commit_ref refs c) c bs) cs)) (append_assoc before (c ∷ []) cs) (all_go (committed_on (commit_ref refs c) c bs) (before ++ c ∷ []) cs (one_goes bs before c g))

  -- the branches behind the reset of the carrier
  abbrev pub without_carrier : List Commit → Branches → Branches
  without_carrier cs bs = cond (list_all (is_reached refs) cs) bs (put byte_cmp carrier None bs)

  one_reached : (cs : List Commit) (d : Commit) → IsOne cs d → list_all (is_reached refs) cs ≡ true → is_reached refs d ≡ true
  one_reached [] d i h = absurd i
  one_reached (c ∷ cs) d i h =
      let t = passes _ h in
      elim i [ inl e ↦ subst (λ x. is_reached refs x ≡ true) e (is_true _ (first (is_reached refs c) _ t)) | inr k ↦ one_reached cs d k (is_true _ (second (is_reached refs c) _ t)) ]

  -- then each branch with a commit has one that its ref reaches
  pub record GoOnRefs (bs : Branches) (cs : List Commit) : Type 0 where
    pub sorted : T (is_sorted byte_cmp bs)
    pub on : (q : Bytes) (d : Commit) → find byte_cmp q bs ≡ Some (Some d) → IsOne cs d × (commit_ref refs d ≡ q) × (is_reached refs d ≡ true)

  pub go_on_refs : (bs : Branches) (cs : List Commit) → GoOut refs bs cs → GoOnRefs (without_carrier cs bs) cs
  go_on_refs bs cs g =
      elim (list_all (is_reached refs) cs) as (λ t. list_all (is_reached refs) cs ≡ t → GoOnRefs (cond t bs (put byte_cmp carrier None bs)) cs) [
        | true ↦ λ t. record { sorted = g.sorted; on = λ q d e. let k = g.on q d e in (k.0, k.1, one_reached cs d k.0 t) }
        | false ↦ λ t. record {
          sorted = is_sorted-put byte_cmp order carrier None bs g.sorted;
          on = λ q d e. by q d (eq_by_cmp byte_cmp q carrier) refl (sym (find-put byte_cmp order q carrier None bs) ∙ e);
        }
      ] refl
    where
      reached : (q : Bytes) (d : Commit) → eq_by_cmp byte_cmp q carrier ≡ false → commit_ref refs d ≡ q → is_reached refs d ≡ true
      reached q d n e = one (is_reached refs d) refl where
        one : (b : Bool) → is_reached refs d ≡ b → is_reached refs d ≡ true
        one true k = k
        one false k = absurd (false≢true (sym n ∙ subst (λ r. eq_by_cmp byte_cmp r carrier ≡ true) (sym (goes_on_carrier refs d k) ∙ e) (tied_with_itself carrier)))

      by : (q : Bytes) (d : Commit) (b : Bool) → eq_by_cmp byte_cmp q carrier ≡ b → cond b (Some None) (find byte_cmp q bs) ≡ Some (Some d) → IsOne cs d × (commit_ref refs d ≡ q) × (is_reached refs d ≡ true)
      by q d true t e = absurd cc
      by q d false t e = let k = g.on q d e in (k.0, k.1, reached q d t k.1)

  pub no_other : (bs : Branches) (cs : List Commit) → GoOnRefs bs cs → HasNoOther bs refs
  no_other bs cs g q n = by (find byte_cmp q bs) refl where
    by : (o : Option (Option Commit)) → find byte_cmp q bs ≡ o → at_branch o ≡ None
    by None e = refl
    by (Some None) e = refl
    by (Some (Some d)) e =
        let k = g.on q d e in
        absurd (subst (λ (o : Option Target). T (is_some o)) n (subst (IsFound refs) k.1 (goes_on_ref refs d (passes _ k.2))))

-- ---- the refs

put_refs : (base rs : Refs) (q : Bytes) → T (is_sorted byte_cmp rs) → find byte_cmp q (fold (λ rs r. put byte_cmp r.0 r.1 rs) base rs) ≡ or_before (find byte_cmp q rs) (find byte_cmp q base)
put_refs base [] q h = refl
put_refs base ((n, x) ∷ rs) q h =
    put_refs (put byte_cmp n x base) rs q (second _ _ h) ∙ ap (or_before (find byte_cmp q rs)) (find-put byte_cmp order q n x base)
    ∙ elim (eq_by_cmp byte_cmp q n) as (λ t. eq_by_cmp byte_cmp q n ≡ t → or_before (find byte_cmp q rs) (cond t (Some x) (find byte_cmp q base)) ≡ or_before (cond t (Some x) (find byte_cmp q rs)) (find byte_cmp q base)) [
      | true ↦ λ t. ap (λ o. or_before o (Some x)) (only_once q n rs (first _ _ h) t)
      | false ↦ λ t. refl
    ] refl

put_refs_sorted : (base rs : Refs) → T (is_sorted byte_cmp base) → T (is_sorted byte_cmp (fold (λ rs r. put byte_cmp r.0 r.1 rs) base rs))
put_refs_sorted base [] h = h
put_refs_sorted base ((n, x) ∷ rs) h = put_refs_sorted (put byte_cmp n x base) rs (is_sorted-put byte_cmp order n x base h)

-- the refs after the end are those that were there, with those that are set
pub refs_after : (base rs : Refs) (bs : Branches) → T (is_sorted byte_cmp base) → T (is_sorted byte_cmp rs) → T (is_sorted byte_cmp bs) → HasNoOther bs rs
    → fold (λ rs t. put byte_cmp t.0 (at_tag t.1) rs) (fold with_branch base (ref_branches bs rs)) (ref_tags [] rs) ≡ fold (λ rs r. put byte_cmp r.0 r.1 rs) base rs
refs_after base rs bs b h g others =
    let sb = ref_branches_sorted bs rs g in
    let st = ref_tags_sorted [] rs tt in
    let after = fold with_branch base (ref_branches bs rs) in
    same_entries byte_cmp order same_text (fold (λ rs t. put byte_cmp t.0 (at_tag t.1) rs) after (ref_tags [] rs)) (fold (λ rs r. put byte_cmp r.0 r.1 rs) base rs)
    (tags_sorted after (ref_tags [] rs) (branches_sorted base (ref_branches bs rs) b)) (put_refs_sorted base rs b)
    (λ q. tags_found q after (ref_tags [] rs) st
    ∙ ap (at_either (find byte_cmp q (ref_tags [] rs))) (branches_found q base (ref_branches bs rs) sb)
    ∙ (λ i. at_either (tag_set [] rs q h i) (or_before (at_branch (branch_set bs rs q h i)) (find byte_cmp q base)))
    ∙ by q (find byte_cmp q rs) refl
    ∙ sym (put_refs base rs q h))
  where
    by : (q : Bytes) (o : Option Target) → find byte_cmp q rs ≡ o → at_either (set_tag o None) (or_before (at_branch (set_branch o (find byte_cmp q bs))) (find byte_cmp q base)) ≡ or_before o (find byte_cmp q base)
    by q None e = ap (λ o. or_before o (find byte_cmp q base)) (others q e)
    by q (Some (at_commit c)) e = refl
    by q (Some (at_tag t)) e = refl
