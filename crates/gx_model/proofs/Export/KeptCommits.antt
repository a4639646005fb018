-- What the commands of one commit add to the values of a history.
use Rattle.std.proofs.Common.{◌≡◌, ℕ, zero, suc, true, false, cond, Option, Some, None, List, [], ◌∷◌, ◌++◌, map, refl, sym, ap, subst, ◌∙◌, append-nil, inl, inr}
use Rattle.std.proofs.lemmas.List.Elements.{filter_map-append}
use Rattle.std.specs.Bool.{passes}
use Rattle.std.specs.List.{filter_map, fold, AllByRecursion, cons_option}
use Rattle.std.specs.Prelude.{IsTrue, T, ◌⊎◌}
use Rattle.gx_model.specs.Export.{contents, with_blobs, with_commit}
use Rattle.gx_model.specs.Laws.ExportLaws.{AnyReaches, HoldsWhat, IsOne, values_with_blobs, values_with_commit}
use Rattle.gx_model.specs.Histories.Files.{FileMap, depth}
use Rattle.gx_model.specs.Histories.{IsIn, IsWhole, Reaches, is_in, itself, through, with_one, with_tree, with_tree_to, with_value}
use Rattle.gx_model.specs.Laws.HistoryLaws.{IsAdded}
use Rattle.gx_model.specs.Texts.{Bytes}
use Rattle.gx_model.specs.Histories.Values.{Commit, Value, blob_of, blob_value, blobs_of, commit_of, commit_value, files_of, is_proper, list_of, parents_of, parts, sub_maps, tree_value, unless_gitlink}
use Rattle.gx_model.specs.declared.objects.Mode.{Mode}
use Rattle.gx_model.specs.declared.objects.Mode.TheVariants.{Dir, Exec, File, Gitlink, Link}
use Rattle.gx_model.proofs.Histories.AddedValues.{all_join, in_left, in_some, is_in_is, keeps, one_added, value_added}
use Rattle.gx_model.proofs.Export.CommitSteps.{blobs_have, blobs_keep}
use Rattle.gx_model.proofs.Records.LinkedValues.{parts_after}

-- ---- lists

pub all_in : (P : Value → Type 0) (us : List Value) (u : Value) → AllByRecursion P us → IsIn us u → P u
all_in P [] u h k = absurd k
all_in P (v ∷ us) u h k = elim k [ inl e ↦ subst P e h.0 | inr i ↦ all_in P us u h.1 i ]

pub each_in : (P : Value → Type 0) (us : List Value) → ((u : Value) → IsIn us u → P u) → AllByRecursion P us
each_in P [] f = tt
each_in P (u ∷ us) f = (f u (inl refl), each_in P us (λ v i. f v (inr i)))

pub any_in : (us : List Value) (w u : Value) → IsIn us w → Reaches w u → AnyReaches us u
any_in [] w u h r = absurd h
any_in (v ∷ us) w u h r = elim h [ inl e ↦ inl (subst (λ x. Reaches x u) (sym e) r) | inr i ↦ inr (any_in us w u i r) ]

pub any_from : (us : List Value) (u : Value) → AnyReaches us u → (w : Value) × IsIn us w × Reaches w u
any_from [] u h = absurd h
any_from (v ∷ us) u h = elim h [ inl r ↦ (v, inl refl, r) | inr k ↦ let t = any_from us u k in (t.0, inr t.1, t.2) ]

-- ---- what is reached is held

pub reached_held : (vs : List Value) → IsWhole vs → (v u : Value) → Reaches v u → IsIn vs v → IsIn vs u
reached_held vs h v u (itself _) k = k
reached_held vs h v u (through _ w i r) k = reached_held vs h w u r (all_in (IsIn vs) (parts v) w (parts_after [] vs v h.closed k) i)

pub reaches_trans : (a b c : Value) → Reaches a b → Reaches b c → Reaches a c
reaches_trans a b c (itself _) r = r
reaches_trans a b c (through _ w i q) r = through a w i (reaches_trans w b c q r)

-- ---- what is added is reached

pub one_only : (vs : List Value) (w u : Value) → IsIn (with_one vs w) u → IsIn vs u ⊎ (w ≡ u)
one_only vs w u = elim (is_in vs w) as (λ t. IsIn (cond t vs (vs ++ w ∷ [])) u → IsIn vs u ⊎ (w ≡ u)) [ true ↦ λ i. inl i | false ↦ λ i. last vs i ] where
  last : (xs : List Value) → IsIn (xs ++ w ∷ []) u → IsIn xs u ⊎ (w ≡ u)
  last [] i = elim i [ inl e ↦ inr e | inr k ↦ absurd k ]
  last (x ∷ xs) i = elim i [ inl e ↦ inl (inl e) | inr k ↦ elim (last xs k) [ inl j ↦ inl (inr j) | inr e ↦ inr e ] ]

pub blobs_only : (ws vs : List Value) (xs : List Bytes) (u : Value) → IsIn (values_with_blobs ws vs xs) u → IsIn vs u ⊎ IsIn (map blob_value xs) u
blobs_only ws vs [] u i = inl i
blobs_only ws vs (x ∷ xs) u i =
    let held = λ (k : IsIn (values_with_blobs ws vs xs) u). blobs_only ws vs xs u k in
    let new = λ (k : IsIn (values_with_blobs (blob_value x ∷ ws) (with_one vs (blob_value x)) xs) u). blobs_only (blob_value x ∷ ws) (with_one vs (blob_value x)) xs u k in
    elim (is_in ws (blob_value x)) as (λ t. IsIn (cond t (values_with_blobs ws vs xs) (values_with_blobs (blob_value x ∷ ws) (with_one vs (blob_value x)) xs)) u → IsIn vs u ⊎ IsIn (map blob_value (x ∷ xs)) u) [
      | true ↦ λ k. elim (held k) [ inl j ↦ inl j | inr j ↦ inr (inr j) ]
      | false ↦ λ k. elim (new k) [
        | inl j ↦ elim (one_only vs (blob_value x) u j) [ inl q ↦ inl q | inr e ↦ inr (inl e) ]
        | inr j ↦ inr (inr j)
      ]
    ] i

pub contents_are : (f : FileMap Bytes) → blobs_of f ≡ map blob_value (contents f)
contents_are [] = refl
contents_are ((p, (m, x)) ∷ f) = by m (contents_are f) where
  by : (m : Mode) → blobs_of f ≡ map blob_value (contents f) → cons_option (blob_of m x) (blobs_of f) ≡ map blob_value (cons_option (unless_gitlink m x) (contents f))
  by File e = ap (λ t. blob_value x ∷ t) e
  by Exec e = ap (λ t. blob_value x ∷ t) e
  by Link e = ap (λ t. blob_value x ∷ t) e
  by Dir e = ap (λ t. blob_value x ∷ t) e
  by Gitlink e = e

pub blob_reached : (c : Commit) (u : Value) → IsIn (map blob_value (contents (files_of c))) u → Reaches (commit_value c) u
blob_reached c u i =
    let f = files_of c in
    let part = in_left (blobs_of f) (map tree_value (sub_maps f)) u (subst (λ (zs : List Value). IsIn zs u) (sym (contents_are f)) i) in
    through (commit_value c) (tree_value f) (inl refl) (through (tree_value f) u part (itself u))

-- ---- blobs keep a history

pub record WithBlobs (ws vs us : List Value) : Type 0 where
  pub whole : IsWhole us
  pub written : (v : Value) → IsIn ws v → IsIn us v
  pub keeps : (v : Value) → IsIn vs v → IsIn us v

with_new : (ws vs us : List Value) (x : Bytes) → ((v : Value) → IsIn ws v → IsIn us v) → IsIn us (blob_value x) → (v : Value) → IsIn (blob_value x ∷ ws) v → IsIn us v
with_new ws vs us x f h v i = elim i [ inl e ↦ subst (IsIn us) e h | inr k ↦ f v k ]

pub blobs_whole : (ws vs : List Value) (xs : List Bytes) → IsWhole vs → ((v : Value) → IsIn ws v → IsIn vs v) → WithBlobs (with_blobs ws xs) vs (values_with_blobs ws vs xs)
blobs_whole ws vs [] h f = record { whole = h; written = f; keeps = λ v i. i }
blobs_whole ws vs (x ∷ xs) h f =
    let held = blobs_whole ws vs xs h f in
    let us = with_one vs (blob_value x) in
    let a : IsAdded vs (blob_value x) us = one_added vs (blob_value x) h tt tt in
    let new = blobs_whole (blob_value x ∷ ws) us xs a.whole (with_new ws vs us x (λ v i. keeps vs (blob_value x) us a v (f v i)) a.has) in
    elim (is_in ws (blob_value x)) as (λ t. WithBlobs (with_blobs (cond t ws (blob_value x ∷ ws)) xs) vs (cond t (values_with_blobs ws vs xs) (values_with_blobs (blob_value x ∷ ws) (with_one vs (blob_value x)) xs))) [
      | true ↦ record { whole = held.whole; written = held.written; keeps = held.keeps }
      | false ↦ record { whole = new.whole; written = new.written; keeps = λ v i. new.keeps v (keeps vs (blob_value x) us a v i) }
    ]

-- ---- the order of the commits

pub order_one : (vs : List Value) (w : Value) → commit_of w ≡ None → filter_map commit_of (with_one vs w) ≡ filter_map commit_of vs
order_one vs w e =
    elim (is_in vs w) as (λ t. filter_map commit_of (cond t vs (vs ++ w ∷ [])) ≡ filter_map commit_of vs) [
      | true ↦ refl
      | false ↦ filter_map-append commit_of vs (w ∷ []) ∙ ap (λ (o : Option Commit). filter_map commit_of vs ++ cons_option o []) e ∙ append-nil (filter_map commit_of vs)
    ]

order_blobs : (ws vs : List Value) (xs : List Bytes) → filter_map commit_of (values_with_blobs ws vs xs) ≡ filter_map commit_of vs
order_blobs ws vs [] = refl
order_blobs ws vs (x ∷ xs) =
    let held = order_blobs ws vs xs in
    let new = order_blobs (blob_value x ∷ ws) (with_one vs (blob_value x)) xs ∙ order_one vs (blob_value x) refl in
    elim (is_in ws (blob_value x)) as (λ t. filter_map commit_of (cond t (values_with_blobs ws vs xs) (values_with_blobs (blob_value x ∷ ws) (with_one vs (blob_value x)) xs)) ≡ filter_map commit_of vs) [ true ↦ held | false ↦ new ]

order_trees : (n : ℕ) → ((vs : List Value) (f : FileMap Bytes) → filter_map commit_of (with_tree_to n vs f) ≡ filter_map commit_of vs) → (gs : List (FileMap Bytes)) (vs : List Value) → filter_map commit_of (fold (with_tree_to n) vs gs) ≡ filter_map commit_of vs
order_trees n one [] vs = refl
order_trees n one (g ∷ gs) vs = order_trees n one gs (with_tree_to n vs g) ∙ one vs g

order_tree : (n : ℕ) (vs : List Value) (f : FileMap Bytes) → filter_map commit_of (with_tree_to n vs f) ≡ filter_map commit_of vs
order_tree zero vs f = order_one vs (tree_value f) refl
order_tree (suc n) vs f = order_one (fold (with_tree_to n) vs (sub_maps f)) (tree_value f) refl ∙ order_trees n (order_tree n) (sub_maps f) vs

pub among : (vs : List Value) (c : Commit) → IsIn vs (commit_value c) → IsOne (filter_map commit_of vs) c
among [] c h = absurd h
among (v ∷ vs) c h =
    elim h [
      | inl e ↦ subst (λ v. IsOne (filter_map commit_of (v ∷ vs)) c) (sym e) (inl refl)
      | inr k ↦ later (commit_of v) (among vs c k)
    ]
  where
    later : (o : Option Commit) → IsOne (filter_map commit_of vs) c → IsOne (cons_option o (filter_map commit_of vs)) c
    later None i = i
    later (Some d) i = inr i

order_commit : (vs : List Value) (c : Commit) → (IsOne (filter_map commit_of vs) c → ⊥) → filter_map commit_of (with_one vs (commit_value c)) ≡ filter_map commit_of vs ++ c ∷ []
order_commit vs c h =
    elim (is_in vs (commit_value c)) as (λ t. is_in vs (commit_value c) ≡ t → filter_map commit_of (cond t vs (vs ++ commit_value c ∷ [])) ≡ filter_map commit_of vs ++ c ∷ []) [
      | true ↦ λ e. absurd (h (among vs c (is_in_is vs (commit_value c) (subst T (sym e) tt))))
      | false ↦ λ e. filter_map-append commit_of vs (commit_value c ∷ [])
    ] refl

-- ---- the commands of one commit

pub one_of_all : (P : Commit → Type 0) (cs : List Commit) (c : Commit) → AllByRecursion P cs → IsOne cs c → P c
one_of_all P [] c h k = absurd k
one_of_all P (d ∷ cs) c h k = elim k [ inl e ↦ subst P e h.0 | inr i ↦ one_of_all P cs c h.1 i ]

pub each_one : (P Q : Commit → Type 0) → ((c : Commit) → P c → Q c) → (cs : List Commit) → AllByRecursion P cs → AllByRecursion Q cs
each_one P Q f [] h = tt
each_one P Q f (c ∷ cs) h = (f c h.0, each_one P Q f cs h.1)

pub all_map_commits : (P : Value → Type 0) (cs : List Commit) → AllByRecursion (λ c. P (commit_value c)) cs → AllByRecursion P (map commit_value cs)
all_map_commits P [] h = tt
all_map_commits P (c ∷ cs) h = (h.0, all_map_commits P cs h.1)

pub all_map_blobs : (P : Value → Type 0) (xs : List Bytes) → AllByRecursion (λ x. P (blob_value x)) xs → AllByRecursion P (map blob_value xs)
all_map_blobs P [] h = tt
all_map_blobs P (x ∷ xs) h = (h.0, all_map_blobs P xs h.1)

pub snoc_all : (P : Commit → Type 0) (cs : List Commit) (c : Commit) → AllByRecursion P cs → P c → AllByRecursion P (cs ++ c ∷ [])
snoc_all P [] c h p = (p, tt)
snoc_all P (d ∷ cs) c h p = (h.0, snoc_all P cs c h.1 p)

pub any_left : (cs ds : List Commit) (u : Value) → AnyReaches (map commit_value cs) u → AnyReaches (map commit_value (cs ++ ds)) u
any_left [] ds u h = absurd h
any_left (c ∷ cs) ds u h = elim h [ inl r ↦ inl r | inr k ↦ inr (any_left cs ds u k) ]

pub any_last : (cs : List Commit) (c : Commit) (u : Value) → Reaches (commit_value c) u → AnyReaches (map commit_value (cs ++ c ∷ [])) u
any_last [] c u r = inl r
any_last (d ∷ cs) c u r = inr (any_last cs c u r)

pub commit_keeps : (ws vs : List Value) (cs : List Commit) (c : Commit) → HoldsWhat ws vs cs → IsTrue (is_proper (commit_value c)) → AllByRecursion (IsOne cs) (list_of (parents_of c)) → (IsOne cs c → ⊥)
    → HoldsWhat (with_commit ws c) (values_with_commit ws vs c) (cs ++ c ∷ [])
commit_keeps ws vs cs c h p k new =
    let f = files_of c in
    let xs = contents f in
    let us = values_with_blobs ws vs xs in
    let b = blobs_whole ws vs xs h.whole h.written in
    let parents : AllByRecursion (λ d. IsIn us (commit_value d)) (list_of (parents_of c)) = each_one (IsOne cs) (λ d. IsIn us (commit_value d)) (λ d i. b.keeps (commit_value d) (h.written (commit_value d) (one_of_all (λ e. IsIn ws (commit_value e)) cs d h.commits i))) (list_of (parents_of c)) k in
    let blobs : AllByRecursion (IsIn us) (blobs_of f) = subst (AllByRecursion (IsIn us)) (sym (contents_are f)) (all_map_blobs (IsIn us) xs (blobs_there xs (blobs_have ws xs) b.written)) in
    let a = value_added us (commit_value c) b.whole (passes _ p) (all_join (IsIn us) (blobs_of f) (map commit_value (list_of (parents_of c))) blobs (all_map_commits (IsIn us) (list_of (parents_of c)) parents)) in
    let same : filter_map commit_of (with_tree us f) ≡ cs = order_tree (depth f) us f ∙ order_blobs ws vs xs ∙ h.order in
    record {
      whole = a.whole;
      written = λ v i. elim i [ inl e ↦ subst (IsIn (values_with_commit ws vs c)) e a.has | inr j ↦ keeps us (commit_value c) (with_value us (commit_value c)) a v (b.written v j) ];
      order = order_commit (with_tree us f) c (λ i. new (subst (λ x. IsOne x c) same i)) ∙ ap (λ x. x ++ c ∷ []) same;
      commits = snoc_all (λ d. IsIn (with_commit ws c) (commit_value d)) cs c (each_one (λ d. IsIn ws (commit_value d)) (λ d. IsIn (with_commit ws c) (commit_value d)) (λ d i. inr (blobs_keep ws xs (commit_value d) i)) cs h.commits) (inl refl);
      only = λ u i. elim (in_some us a.new u (subst (λ (zs : List Value). IsIn zs u) a.front i)) [
        | inl k ↦ elim (blobs_only ws vs xs u k) [ inl m ↦ any_left cs (c ∷ []) u (h.only u m) | inr m ↦ any_last cs c u (blob_reached c u m) ]
        | inr k ↦ any_last cs c u (a.only u k)
      ];
    }
  where
    blobs_there : (ys : List Bytes) → AllByRecursion (λ x. IsIn (with_blobs ws (contents (files_of c))) (blob_value x)) ys → ((v : Value) → IsIn (with_blobs ws (contents (files_of c))) v → IsIn (values_with_blobs ws vs (contents (files_of c))) v)
        → AllByRecursion (λ x. IsIn (values_with_blobs ws vs (contents (files_of c))) (blob_value x)) ys
    blobs_there ys g f = by ys g where
      by : (ys : List Bytes) → AllByRecursion (λ x. IsIn (with_blobs ws (contents (files_of c))) (blob_value x)) ys → AllByRecursion (λ x. IsIn (values_with_blobs ws vs (contents (files_of c))) (blob_value x)) ys
      by [] g = tt
      by (y ∷ ys) g = (f (blob_value y) g.0, by ys g.1)

-- ---- all commits

-- each is proper and new, after its parents
abbrev pub FollowsAll : List Commit → List Commit → Type 0
FollowsAll before [] = Unit {0}
FollowsAll before (c ∷ cs) =
    IsTrue (is_proper (commit_value c)) × AllByRecursion (IsOne before) (list_of (parents_of c)) × (IsOne before c → ⊥) × FollowsAll (before ++ c ∷ []) cs
