-- File maps in order: what look-ups determine, and what a filter and a put leave.
use Rattle.std.proofs.Common.{◌≡◌, Bool, true, false, cond, List, [], ◌∷◌, ◌++◌, Option, Some, None, inl, inr, refl, sym, ap, ◌∙◌}
use Rattle.std.specs.Bool.{passes}
use Rattle.std.specs.List.{filter, list_all}
use Rattle.std.specs.declared.cmp.Ordering.{Ordering}
use Rattle.std.specs.declared.cmp.Ordering.TheVariants.{Less, Equal, Greater}
use Rattle.std.specs.Ordering.{is_lt}
use Rattle.std.specs.Cmp.{tied_itself}
use Rattle.std.specs.FinMap.Entries.{by_order, below_all, is_sorted, is_sorted-put, is_sorted-where_key, put}
use Rattle.std.proofs.lemmas.Bool.{and_parts, and_from, cases_Bool, false≢true, true≢false}
use Rattle.gx_model.specs.Texts.Paths.{Path, path_cmp, same_path}
use Rattle.gx_model.specs.Histories.Files.{file_at}
use Rattle.gx_tree.specs.Nodes.{is_inner_path}
use Rattle.gx_tree.proofs.Order.{path_order, paths_equal}
use Rattle.gx_tree.proofs.Texts.{cases_paths, holds, path_is, same_path_itself}

pub less_is : (o : Ordering) → is_lt o ≡ true → o ≡ Less
less_is Less h = refl
less_is Equal h = absurd (false≢true h)
less_is Greater h = absurd (false≢true h)

pub less_trans : (p q r : Path) → is_lt (path_cmp p q) ≡ true → is_lt (path_cmp q r) ≡ true → is_lt (path_cmp p r) ≡ true
less_trans p q r h k = ap is_lt (path_order.trans p q r (less_is _ h) (less_is _ k))

not_less_itself : (p : Path) → is_lt (path_cmp p p) ≡ true → ⊥
not_less_itself p h = true≢false (sym h ∙ ap is_lt (tied_itself path_order p))

shadowed : {A : Type 0} (b : Bool) (x y z : A) → cond b x z ≡ cond b x (cond b y z)
shadowed true x y z = refl
shadowed false x y z = refl

swapped : {A : Type 0} (a b : Bool) (x y z : A) → (a ≡ true → b ≡ true → ⊥) → cond a x (cond b y z) ≡ cond b y (cond a x z)
swapped true true x y z apart = absurd (apart refl refl)
swapped true false x y z apart = refl
swapped false b x y z apart = refl

module _ {X : Type 0} where
  abbrev pub IsSorted : List (Path × X) → Type 0
  IsSorted es = is_sorted path_cmp es ≡ true

  abbrev pub AreInner : List (Path × X) → Type 0
  AreInner es = list_all (λ e. is_inner_path e.0) es ≡ true

  found_first : (e : Path × X) (es : List (Path × X)) → file_at (e ∷ es) e.0 ≡ Some e.1
  found_first e es = rw (same_path_itself e.0) refl

  -- ---- look-ups determine a map in order

  pub none_after : (p : Path) (es : List (Path × X)) → below_all path_cmp p es ≡ true → file_at es p ≡ None
  none_after p [] h = refl
  none_after p (e ∷ es) h = elim (cases_paths p e.0) [
    | inl s ↦ absurd (not_less_itself e.0 (ap (λ q. is_lt (path_cmp q e.0)) (sym s) ∙ (and_parts _ _ h).0))
    | inr n ↦ rw n.0 (none_after p es (and_parts _ _ h).1)
  ]

  after_if_there : (p q : Path) (x : X) (es : List (Path × X)) → below_all path_cmp p es ≡ true → file_at es q ≡ Some x → is_lt (path_cmp p q) ≡ true
  after_if_there p q x [] h e = cc
  after_if_there p q x (f ∷ es) h e = elim (cases_paths q f.0) [
    | inl s ↦ ap (λ z. is_lt (path_cmp p z)) s ∙ (and_parts _ _ h).0
    | inr n ↦ after_if_there p q x es (and_parts _ _ h).1 (rw n.0 at e)
  ]

  tails_alike : (e f : Path × X) (es fs : List (Path × X)) → e.0 ≡ f.0 → below_all path_cmp e.0 es ≡ true → below_all path_cmp f.0 fs ≡ true → ((q : Path) → file_at (e ∷ es) q ≡ file_at (f ∷ fs) q) → (q : Path) → file_at es q ≡ file_at fs q
  tails_alike e f es fs s he hf same q = elim (cases_paths q e.0) [
    | inl t ↦
        let a : file_at es q ≡ None = rw t (none_after e.0 es he) in
        let b : file_at fs q ≡ None = rw (t, s) (none_after f.0 fs hf) in
        cc
    | inr n ↦
        let m : same_path q f.0 ≡ false = rw s at n.0 in
        let t : cond (same_path q e.0) (Some e.1) (file_at es q) ≡ cond (same_path q f.0) (Some f.1) (file_at fs q) = same q in
        rw (n.0, m) at t
  ]

  -- maps in order that answer alike are equal
  pub same_maps : (es fs : List (Path × X)) → IsSorted es → IsSorted fs → ((q : Path) → file_at es q ≡ file_at fs q) → es ≡ fs
  same_maps [] [] he hf same = refl
  same_maps [] (f ∷ fs) he hf same = let k : ◌≡◌ {A = Option X} None (Some f.1) = same f.0 ∙ found_first f fs in cc
  same_maps (e ∷ es) [] he hf same = let k : ◌≡◌ {A = Option X} (Some e.1) None = sym (found_first e es) ∙ same e.0 in cc
  same_maps (e ∷ es) (f ∷ fs) he hf same =
      let a : (below_all path_cmp e.0 es ≡ true) × IsSorted es = and_parts _ _ he in
      let b : (below_all path_cmp f.0 fs ≡ true) × IsSorted fs = and_parts _ _ hf in
      elim (cases_paths e.0 f.0) [
        | inl s ↦
            let at : file_at (f ∷ fs) e.0 ≡ Some f.1 = ap (λ r. file_at (f ∷ fs) r) s ∙ found_first f fs in
            let x : Some e.1 ≡ Some f.1 = sym (found_first e es) ∙ same e.0 ∙ at in
            let y : e.1 ≡ f.1 = cc in
            let r = same_maps es fs a.1 b.1 (tails_alike e f es fs s a.0 b.0 same) in
            λ i. (s i, y i) ∷ r i
        | inr n ↦
            let x : file_at (f ∷ fs) e.0 ≡ Some e.1 = sym (same e.0) ∙ found_first e es in
            let le = after_if_there f.0 e.0 e.1 fs b.0 (rw n.0 at x) in
            let y : file_at (e ∷ es) f.0 ≡ Some f.1 = same f.0 ∙ found_first f fs in
            let m : same_path f.0 e.0 ≡ false = elim (cases_paths f.0 e.0) [ inl t ↦ absurd (n.1 (sym t)) | inr k ↦ k.0 ] in
            let lf = after_if_there e.0 f.0 f.1 es a.0 (rw m at y) in
            absurd (not_less_itself e.0 (less_trans e.0 f.0 e.0 lf le))
      ]

  -- ---- a filter by paths

  filter_head : (t : Path → Bool) (q : Path) (e : Path × X) (es fs : List (Path × X)) → q ≡ e.0 → file_at fs q ≡ cond (t q) (file_at es q) None → file_at (cond (t e.0) (e ∷ fs) fs) q ≡ cond (t q) (cond (same_path q e.0) (Some e.1) (file_at es q)) None
  filter_head t q e es fs s ih = elim (cases_Bool (t e.0)) [
    | inl a ↦ rw (a, s, a, same_path_itself e.0) refl
    | inr a ↦ let b : t q ≡ false = rw s a in let c : file_at fs q ≡ None = rw b at ih in rw (a, b) c
  ]

  filter_other : (t : Path → Bool) (q : Path) (e : Path × X) (es fs : List (Path × X)) → same_path q e.0 ≡ false → file_at fs q ≡ cond (t q) (file_at es q) None → file_at (cond (t e.0) (e ∷ fs) fs) q ≡ cond (t q) (file_at es q) None
  filter_other t q e es fs n ih = elim (cases_Bool (t e.0)) [
    | inl a ↦ rw (a, n) ih
    | inr a ↦ rw a ih
  ]

  pub file_at-filter : (t : Path → Bool) (q : Path) (es : List (Path × X)) → file_at (filter (λ e. t e.0) es) q ≡ cond (t q) (file_at es q) None
  file_at-filter t q [] = elim (t q) as (λ b. ◌≡◌ {A = Option X} None (cond b None None)) [ true ↦ refl | false ↦ refl ]
  file_at-filter t q (e ∷ es) = elim (cases_paths q e.0) [
    | inl s ↦ filter_head t q e es _ s (file_at-filter t q es)
    | inr n ↦ rw n.0 (filter_other t q e es _ n.0 (file_at-filter t q es))
  ]

  pub sorted-filter : (t : Path → Bool) (es : List (Path × X)) → IsSorted es → IsSorted (filter (λ e. t e.0) es)
  sorted-filter t es h = holds _ (is_sorted-where_key path_cmp t es (passes _ h))

  pub all-filter : (u : Path × X → Bool) (t : Path × X → Bool) (es : List (Path × X)) → list_all u es ≡ true → list_all u (filter t es) ≡ true
  all-filter u t [] h = refl
  all-filter u t (e ∷ es) h =
      let r = all-filter u t es (and_parts _ _ h).1 in
      elim (t e) as (λ b. list_all u (cond b (e ∷ filter t es) (filter t es)) ≡ true) [ true ↦ and_from _ _ (and_parts _ _ h).0 r | false ↦ r ]

  -- ---- a put

  pub sorted-put : (k : Path) (x : X) (es : List (Path × X)) → IsSorted es → IsSorted (put path_cmp k x es)
  sorted-put k x es h = holds _ (is_sorted-put path_cmp path_order k x es (passes _ h))

  pub all-put : (t : Path → Bool) (k : Path) (x : X) (es : List (Path × X)) → t k ≡ true → list_all (λ e. t e.0) es ≡ true → list_all (λ e. t e.0) (put path_cmp k x es) ≡ true
  all-put t k x [] h g = and_from _ _ h refl
  all-put t k x (e ∷ es) h g =
      elim (path_cmp k e.0) as (λ o. list_all (λ e. t e.0) (by_order o ((k, x) ∷ e ∷ es) ((e.0, x) ∷ es) (e ∷ put path_cmp k x es)) ≡ true) [
        | Less ↦ and_from _ _ h g
        | Equal ↦ g
        | Greater ↦ and_from _ _ (and_parts _ _ g).0 (all-put t k x es h (and_parts _ _ g).1)
      ]

  put_here : (k q : Path) (x : X) (e : Path × X) (es : List (Path × X)) → k ≡ e.0 → file_at ((e.0, x) ∷ es) q ≡ cond (same_path q k) (Some x) (file_at (e ∷ es) q)
  put_here k q x e es s = rw s (shadowed (same_path q e.0) (Some x) (Some e.1) (file_at es q))

  put_later : (k q : Path) (x : X) (e : Path × X) (es fs : List (Path × X)) → path_cmp k e.0 ≡ Greater → file_at fs q ≡ cond (same_path q k) (Some x) (file_at es q) → file_at (e ∷ fs) q ≡ cond (same_path q k) (Some x) (file_at (e ∷ es) q)
  put_later k q x e es fs g ih =
      ap (cond (same_path q e.0) (Some e.1)) ih
      ∙ swapped (same_path q e.0) (same_path q k) (Some e.1) (Some x) (file_at es q)
      (λ a b. let s : k ≡ e.0 = sym (path_is q k b) ∙ path_is q e.0 a in let t = sym g ∙ ap (λ z. path_cmp z e.0) s ∙ tied_itself path_order e.0 in cc)

  pub file_at-put : (k q : Path) (x : X) (es : List (Path × X)) → is_inner_path k ≡ true → AreInner es → file_at (put path_cmp k x es) q ≡ cond (same_path q k) (Some x) (file_at es q)
  file_at-put k q x [] h g = refl
  file_at-put k q x (e ∷ es) h g =
      elim (path_cmp k e.0) as (λ o. path_cmp k e.0 ≡ o → file_at (by_order o ((k, x) ∷ e ∷ es) ((e.0, x) ∷ es) (e ∷ put path_cmp k x es)) q ≡ cond (same_path q k) (Some x) (file_at (e ∷ es) q)) [
        | Less ↦ λ o. refl
        | Equal ↦ λ o. put_here k q x e es (paths_equal k e.0 h (and_parts _ _ g).0 o)
        | Greater ↦ λ o. put_later k q x e es _ o (file_at-put k q x es h (and_parts _ _ g).1)
      ] refl

  -- ---- joined maps

  abbrev pub either : Option X → Option X → Option X
  either None o = o
  either (Some x) o = Some x

  pub either_none : (o : Option X) → either o None ≡ o
  either_none None = refl
  either_none (Some x) = refl

  pub either_cond : (b : Bool) (x : X) (o r : Option X) → either (cond b (Some x) o) r ≡ cond b (Some x) (either o r)
  either_cond true x o r = refl
  either_cond false x o r = refl

  pub file_at-append : (p : Path) (es fs : List (Path × X)) → file_at (es ++ fs) p ≡ either (file_at es p) (file_at fs p)
  file_at-append p [] fs = refl
  file_at-append p (e ∷ es) fs = ap (cond (same_path p e.0) (Some e.1)) (file_at-append p es fs) ∙ sym (either_cond (same_path p e.0) e.1 (file_at es p) (file_at fs p))

  pub no_root : (es : List (Path × X)) → AreInner es → file_at es [] ≡ None
  no_root [] h = refl
  no_root (e ∷ es) h = elim e.0 as (λ p. is_inner_path p ≡ true → cond (same_path [] p) (Some e.1) (file_at es []) ≡ None) [
    | [] ↦ λ n. absurd (false≢true n)
    | c ∷ p ↦ λ n. no_root es (and_parts _ _ h).1
  ] (and_parts _ _ h).0
