-- Adding a value to a history keeps it one, and what stood there.
use Rattle.std.proofs.Common.{◌∙◌, ap, ◌≡◌, ℕ, zero, suc, ◌≤◌, true, false, cond, refl, sym, subst, arith, List, [], ◌∷◌, ◌++◌, length, drop, map, Option, None, Some, append_assoc, append-nil, inl, inr}
use Rattle.std.specs.Prelude.{T, ◌||◌, is_none, ◌⊎◌}
use Rattle.std.specs.List.{filter, cons_option, fold, AllByRecursion}
use Rattle.std.specs.Bool.{passes}
use Rattle.gx_model.specs.Texts.{Bytes}
use Rattle.gx_model.specs.Texts.Paths.{Path, begins, is_file_path}
use Rattle.gx_model.specs.Histories.Files.{FileMap, Leaf, file_at, sub_map, first_components, depth, is_file_map, are_file_paths}
use Rattle.gx_model.specs.Histories.Values.{Value, blob_value, tree_value, commit_value, tag_value, files_of, parents_of, list_of, parts, blobs_of, blob_of, sub_maps, is_content, is_proper, same_value}
use Rattle.gx_model.specs.Histories.{IsClosedAfter, IsIn, IsWhole, Reaches, is_in, itself, through, with_one, with_tree, with_tree_to, with_value}
use Rattle.gx_model.specs.Laws.HistoryLaws.{IsAdded, needs}
use Rattle.gx_model.proofs.Texts.PathTests.{both, first, is_true, all_append}
use Rattle.gx_model.proofs.Histories.SameValues.{value_is}
use Rattle.gx_model.proofs.ObjectTexts.TreeBodies.{depth_sub}
use Rattle.gx_model.proofs.ObjectTexts.OneTree.{all_left as all_split_left, all_right as all_split_right}
use Rattle.gx_model.proofs.Histories.SubMaps.{sub_content}

-- what stands in a list stands in one that it begins
pub in_left : (vs ws : List Value) (u : Value) → IsIn vs u → IsIn (vs ++ ws) u
in_left [] ws u h = absurd h
in_left (v ∷ vs) ws u h = elim h [ inl e ↦ inl e | inr k ↦ inr (in_left vs ws u k) ]

-- what stands in a list stands in one that it ends
pub in_right : (vs ws : List Value) (u : Value) → IsIn ws u → IsIn (vs ++ ws) u
in_right [] ws u h = h
in_right (v ∷ vs) ws u h = inr (in_right vs ws u h)

-- a value that the test finds stands in the list
pub is_in_is : (vs : List Value) (u : Value) → T (is_in vs u) → IsIn vs u
is_in_is [] u h = absurd h
is_in_is (v ∷ vs) u h =
    elim (same_value u v) as (λ b. same_value u v ≡ b → T (b || is_in vs u) → (v ≡ u) ⊎ IsIn vs u) [ true ↦ λ k i. inl (sym (value_is u v (passes _ k))) | false ↦ λ k i. inr (is_in_is vs u i) ] refl h

-- what stands in a list stands in one that has all of it
pub all_keep : (vs ws : List Value) → ((u : Value) → IsIn vs u → IsIn ws u) → (us : List Value) → AllByRecursion (IsIn vs) us → AllByRecursion (IsIn ws) us
all_keep vs ws f [] h = tt
all_keep vs ws f (u ∷ us) h = (f u h.0, all_keep vs ws f us h.1)

-- what holds of the elements of two lists holds of those of both in a row
pub all_join : (P : Value → Type 0) (us ws : List Value) → AllByRecursion P us → AllByRecursion P ws → AllByRecursion P (us ++ ws)
all_join P [] ws h g = g
all_join P (u ∷ us) ws h g = (h.0, all_join P us ws h.1 g)

-- a value that is new, after its parts, may come last
pub snoc_closed : (before vs : List Value) (w : Value) → IsClosedAfter before vs → is_in (before ++ vs) w ≡ false → AllByRecursion (IsIn (before ++ vs)) (parts w) → IsClosedAfter before (vs ++ w ∷ [])
snoc_closed before [] w h n p =
    (subst (λ xs. is_in xs w ≡ false) (append-nil before) n, subst (λ xs. AllByRecursion (IsIn xs) (parts w)) (append-nil before) p, tt)
snoc_closed before (v ∷ vs) w h n p =
    let e = append_assoc before (v ∷ []) vs in
    (h.0, h.1, snoc_closed (before ++ v ∷ []) vs w h.2 (subst (λ xs. is_in xs w ≡ false) (sym e) n) (subst (λ xs. AllByRecursion (IsIn xs) (parts w)) (sym e) p))

-- what stood stands among the values with one more
pub keeps : (vs : List Value) (w : Value) (ws : List Value) → IsAdded vs w ws → (u : Value) → IsIn vs u → IsIn ws u
keeps vs w ws a u i = subst (λ (us : List Value). IsIn us u) (sym a.front) (in_left vs a.new u i)

-- of one value alone, it is made of itself
only_itself : (w u : Value) → IsIn (w ∷ []) u → Reaches w u
only_itself w u (inl e) = subst (Reaches w) e (itself w)
only_itself w u (inr i) = absurd i

-- a value whose parts stand is added alone
pub one_added : (vs : List Value) (w : Value) → IsWhole vs → T (is_proper w) → AllByRecursion (IsIn vs) (parts w) → IsAdded vs w (with_one vs w)
one_added vs w h p q =
    elim (is_in vs w) as (λ b. is_in vs w ≡ b → IsAdded vs w (cond b vs (vs ++ w ∷ []))) [
      | true ↦ λ k. record { whole = h; has = is_in_is vs w (passes _ k); new = []; front = sym (append-nil vs); only = λ u i. absurd i }
      | false ↦ λ k. record {
        whole = record { closed = snoc_closed [] vs w h.closed k q; proper = is_true _ (all_append is_proper vs (w ∷ []) (passes _ h.proper) (both (is_proper w) true p tt)) };
        has = in_right vs (w ∷ []) w (inl refl);
        new = w ∷ [];
        front = refl;
        only = only_itself w;
      }
    ] refl

-- ---- what a sub-map needs

blobs_sub : (P : Value → Type 0) (c : Bytes) (f : FileMap Bytes) → AllByRecursion P (blobs_of f) → AllByRecursion P (blobs_of (sub_map f (c ∷ [])))
blobs_sub P c [] h = tt
blobs_sub P c (e ∷ es) h =
    let rest = blobs_sub P c es (tail_of (blob_of e.1.0 e.1.1) (blobs_of es) h) in
    elim (begins (c ∷ []) e.0) as (λ b. AllByRecursion P (blobs_of (map (λ (q : Path × Leaf Bytes). let r : Path × Leaf Bytes = (drop 1 q.0, q.1) in r) (cond b (e ∷ filter (λ q. begins (c ∷ []) q.0) es) (filter (λ q. begins (c ∷ []) q.0) es))))) [
      | true ↦ again (blob_of e.1.0 e.1.1) (blobs_of es) (blobs_of (sub_map es (c ∷ []))) h rest
      | false ↦ rest
    ]
  where
    tail_of : (o : Option Value) (vs : List Value) → AllByRecursion P (cons_option o vs) → AllByRecursion P vs
    tail_of None vs k = k
    tail_of (Some v) vs k = k.1

    again : (o : Option Value) (vs ws : List Value) → AllByRecursion P (cons_option o vs) → AllByRecursion P ws → AllByRecursion P (cons_option o ws)
    again None vs ws k r = r
    again (Some v) vs ws k r = (k.0, r)

-- a file map of this depth whose bytes stand
pub record CanAdd (n : ℕ) (vs : List Value) (g : FileMap Bytes) : Type 0 where
  pub deep : depth g ≤ n
  pub content : T (is_content g)
  pub blobs : AllByRecursion (IsIn vs) (blobs_of g)

-- the sub-maps of a map that can be added can be
pub subs_can : (n : ℕ) (vs : List Value) (f : FileMap Bytes) → depth f ≤ suc n → T (is_content f) → AllByRecursion (IsIn vs) (blobs_of f) → (cs : List Bytes)
    → AllByRecursion (CanAdd n vs) (map (λ c. sub_map f (c ∷ [])) (filter (λ c. is_none (file_at f (c ∷ []))) cs))
subs_can n vs f d h b [] = tt
subs_can n vs f d h b (c ∷ cs) =
    let rest = subs_can n vs f d h b cs in
    elim (is_none (file_at f (c ∷ []))) as (λ t. is_none (file_at f (c ∷ [])) ≡ t → AllByRecursion (CanAdd n vs) (map (λ c. sub_map f (c ∷ [])) (cond t (c ∷ filter (λ c. is_none (file_at f (c ∷ []))) cs) (filter (λ c. is_none (file_at f (c ∷ []))) cs)))) [
      | true ↦ λ k. (record { deep = depth_sub c n f d; content = sub_content c f h (nothing (file_at f (c ∷ [])) k); blobs = blobs_sub (IsIn vs) c f b }, rest)
      | false ↦ λ k. rest
    ] refl
  where
    nothing : (o : Option (Leaf Bytes)) → is_none o ≡ true → o ≡ None
    nothing None e = refl
    nothing (Some x) e = absurd (cc)

-- a file map with no component is empty
pub empty_of : (f : FileMap Bytes) → depth f ≤ 0 → T (are_file_paths f) → f ≡ []
empty_of [] d h = refl
empty_of (e ∷ es) d h = absurd (by e.0 (first (is_file_path e.0) (are_file_paths es) h) (omega arith))
  where
    by : (p : Path) → T (is_file_path p) → length p ≤ 0 → ⊥
    by [] k l = k
    by (c ∷ p) k l = omega arith

-- the paths of contents are those of files
pub paths_of : (f : FileMap Bytes) → T (is_content f) → T (are_file_paths f)
paths_of f h = first _ _ (first _ _ (first (is_file_map f) _ h))

-- what can be added to a list can be to one that has all of it
pub can_later : (n : ℕ) (vs ws : List Value) → ((u : Value) → IsIn vs u → IsIn ws u) → (gs : List (FileMap Bytes)) → AllByRecursion (CanAdd n vs) gs → AllByRecursion (CanAdd n ws) gs
can_later n vs ws f [] h = tt
can_later n vs ws f (g ∷ gs) h = (record { deep = h.0.deep; content = h.0.content; blobs = all_keep vs ws f (blobs_of g) h.0.blobs }, can_later n vs ws f gs h.1)

-- each of these file maps is added: what is new is made of them
pub record AllAdded (vs : List Value) (gs : List (FileMap Bytes)) (ws : List Value) : Type 0 where
  pub whole : IsWhole ws
  pub have : AllByRecursion (IsIn ws) (map tree_value gs)
  pub new : List Value
  pub front : ws ≡ vs ++ new
  pub only : (u : Value) → IsIn new u → (w : Value) × IsIn (map tree_value gs) w × Reaches w u

-- what stood stands among the values with these file maps
pub keeps_all : (vs : List Value) (gs : List (FileMap Bytes)) (ws : List Value) → AllAdded vs gs ws → (u : Value) → IsIn vs u → IsIn ws u
keeps_all vs gs ws a u i = subst (λ (us : List Value). IsIn us u) (sym a.front) (in_left vs a.new u i)

pub in_some : (vs ws : List Value) (u : Value) → IsIn (vs ++ ws) u → IsIn vs u ⊎ IsIn ws u
in_some [] ws u h = inr h
in_some (v ∷ vs) ws u h = elim h [ inl e ↦ inl (inl e) | inr k ↦ elim (in_some vs ws u k) [ inl m ↦ inl (inr m) | inr m ↦ inr m ] ]

-- file maps are added one after the other
pub all_added : (n : ℕ) → ((vs : List Value) (g : FileMap Bytes) → IsWhole vs → CanAdd n vs g → IsAdded vs (tree_value g) (with_tree_to n vs g)) → (gs : List (FileMap Bytes)) (vs : List Value) → IsWhole vs → AllByRecursion (CanAdd n vs) gs
    → AllAdded vs gs (fold (with_tree_to n) vs gs)
all_added n one [] vs h k = record { whole = h; have = tt; new = []; front = sym (append-nil vs); only = λ u i. absurd i }
all_added n one (g ∷ gs) vs h k =
    let a = one vs g h k.0 in
    let us = with_tree_to n vs g in
    let rest = all_added n one gs us a.whole (can_later n vs us (keeps vs (tree_value g) us a) gs k.1) in
    record {
      whole = rest.whole;
      have = (keeps_all us gs _ rest (tree_value g) a.has, rest.have);
      new = a.new ++ rest.new;
      front = rest.front ∙ ap (λ (ws : List Value). ws ++ rest.new) a.front ∙ append_assoc vs a.new rest.new;
      only = λ u i. elim (in_some a.new rest.new u i) [ inl j ↦ (tree_value g, inl refl, a.only u j) | inr j ↦ (let m = rest.only u j in (m.0, inr m.1, m.2)) ];
    }

-- a value after others that it is made of: what was new before it, and it, are what it is made of
then_one : (vs : List Value) (us : List Value) (new : List Value) (w : Value) (ws : List Value) → us ≡ vs ++ new → ((u : Value) → IsIn new u → Reaches w u) → IsAdded us w ws → IsAdded vs w ws
then_one vs us new w ws e f a = record {
  whole = a.whole;
  has = a.has;
  new = new ++ a.new;
  front = a.front ∙ ap (λ (zs : List Value). zs ++ a.new) e ∙ append_assoc vs new a.new;
  only = λ u i. elim (in_some new a.new u i) [ inl j ↦ f u j | inr j ↦ a.only u j ];
}

-- a file map is added after its sub-maps
pub tree_added_to : (n : ℕ) (vs : List Value) (f : FileMap Bytes) → IsWhole vs → CanAdd n vs f → IsAdded vs (tree_value f) (with_tree_to n vs f)
tree_added_to zero vs f h k =
    one_added vs (tree_value f) h k.content
    (all_join (IsIn vs) (blobs_of f) (map tree_value (sub_maps f)) k.blobs
    (subst (λ g. AllByRecursion (IsIn vs) (map tree_value (sub_maps g))) (sym (empty_of f k.deep (paths_of f k.content))) tt))
tree_added_to (suc n) vs f h k =
    let below = all_added n (tree_added_to n) (sub_maps f) vs h (subs_can n vs f k.deep k.content k.blobs (first_components f)) in
    let us = fold (with_tree_to n) vs (sub_maps f) in
    then_one vs us below.new (tree_value f) (with_one us (tree_value f)) below.front
    (λ u i. let m = below.only u i in through (tree_value f) m.0 (in_right (blobs_of f) (map tree_value (sub_maps f)) m.0 m.1) m.2)
    (one_added us (tree_value f) below.whole k.content (all_join (IsIn us) (blobs_of f) (map tree_value (sub_maps f)) (all_keep vs us (keeps_all vs (sub_maps f) us below) (blobs_of f) k.blobs) below.have))

-- a file map whose bytes stand is added
pub tree_added : (vs : List Value) (f : FileMap Bytes) → IsWhole vs → T (is_content f) → AllByRecursion (IsIn vs) (blobs_of f) → IsAdded vs (tree_value f) (with_tree vs f)
tree_added vs f h k b = tree_added_to (depth f) vs f h (record { deep = omega arith; content = k; blobs = b })

tree_first : (vs : List Value) (f : FileMap Bytes) (ps : List Value) (w : Value) → parts w ≡ tree_value f ∷ ps → T (is_proper w) → IsWhole vs → T (is_content f) → AllByRecursion (IsIn vs) (blobs_of f) → AllByRecursion (IsIn vs) ps
    → IsAdded vs w (with_one (with_tree vs f) w)
tree_first vs f ps w e p h k b q =
    let us = with_tree vs f in
    let a = tree_added vs f h k b in
    then_one vs us a.new w (with_one us w) a.front
    (λ u i. through w (tree_value f) (subst (λ (zs : List Value). IsIn zs (tree_value f)) (sym e) (inl refl)) (a.only u i))
    (one_added us w a.whole p (subst (AllByRecursion (IsIn us)) (sym e) (a.has, all_keep vs us (keeps vs (tree_value f) us a) ps q)))

-- a value is added after what it lacks
pub value_added : (vs : List Value) (v : Value) → IsWhole vs → T (is_proper v) → AllByRecursion (IsIn vs) (needs v) → IsAdded vs v (with_value vs v)
value_added vs (blob_value x) h p n = one_added vs (blob_value x) h tt tt
value_added vs (tree_value f) h p n = tree_added vs f h p n
value_added vs (commit_value c) h p n =
    tree_first vs (files_of c) (map commit_value (list_of (parents_of c))) (commit_value c) refl p h (first (is_content (files_of c)) _ p)
    (all_split_left (IsIn vs) (blobs_of (files_of c)) (map commit_value (list_of (parents_of c))) n) (all_split_right (IsIn vs) (blobs_of (files_of c)) (map commit_value (list_of (parents_of c))) n)
value_added vs (tag_value t) h p n = one_added vs (tag_value t) h p n
