-- A file map in runs: the entries below each first component.
use Rattle.std.proofs.Common.{◌≡◌, Bool, true, false, cond, refl, sym, ap, subst, ◌∙◌, List, [], ◌∷◌, ◌++◌, drop, map}
use Rattle.std.specs.Prelude.{T, not, ◌&&◌, ◌||◌, ◌≢◌, ⊤}
use Rattle.std.specs.List.{list_all, filter, flat_map, AllByRecursion}
use Rattle.std.specs.declared.cmp.Ordering.{Ordering}
use Rattle.std.specs.declared.cmp.Ordering.TheVariants.{Less, Equal, Greater}
use Rattle.std.specs.Ordering.{is_lt, ordering_reverse}
use Rattle.std.specs.Cmp.Lexicographic.{nat_list_cmp_total}
use Rattle.std.specs.FinMap.Entries.{below_all}
use Rattle.std.specs.Bool.{passes}
use Rattle.gx_model.specs.Texts.{Bytes, byte_cmp, same_bytes}
use Rattle.gx_model.specs.Texts.Paths.{Path, path_cmp, is_component, is_file_path, begins, are_in_line}
use Rattle.gx_model.specs.Histories.Files.{first_component, first_components, with_first, sub_map, are_apart, are_file_paths}
use Rattle.gx_model.proofs.Texts.PathTests.{both, first, second, is_true, not_by, not_both, same_is, is_same, left_or}
use Rattle.gx_model.proofs.Histories.PathOrder.{by_node, node_key}
use Rattle.gx_model.proofs.Histories.FileMapEdits.{Parts}

-- a path without its first component
abbrev pub off : Path → Path
off [] = []
off (c ∷ p) = p

-- what is below is less
pub less_is : (o : Ordering) → T (is_lt o) → o ≡ Less
less_is Less h = refl
less_is Equal h = absurd h
less_is Greater h = absurd h

not_between : (a b : Bytes) → byte_cmp a b ≡ Less → byte_cmp b a ≡ Less → ⊥
not_between a b h g = let k = sym h ∙ nat_list_cmp_total.antisymm a b ∙ ap ordering_reverse g in cc

-- components that the test tells apart are two
pub other : (c d : Bytes) → same_bytes c d ≡ false → c ≢ d
other c d h e = let k = is_true _ (is_same c d e) in cc

-- the test of two components can be turned
pub flip : (c d : Bytes) → T (not (same_bytes c d)) → T (not (same_bytes d c))
flip c d h = not_by _ (λ k. not_both (same_bytes c d) h (is_same c d (sym (same_is d c k))))

-- a test that fails is false
pub as_false : (b : Bool) → T (not b) → b ≡ false
as_false true h = absurd h
as_false false h = refl

-- a component is itself
pub same_itself : (c : Bytes) → same_bytes c c ≡ true
same_itself c = is_true _ (is_same c c refl)

module _ {X : Type 0} where
  -- an entry before the first run, or in it
  abbrev pub join_run : Bytes → Path × X → List (Bytes × List (Path × X)) → List (Bytes × List (Path × X))
  join_run c e [] = (c, e ∷ []) ∷ []
  join_run c e (r ∷ rs) = cond (same_bytes c r.0) ((r.0, e ∷ r.1) ∷ rs) ((c, e ∷ []) ∷ r ∷ rs)

  -- the runs of a file map
  abbrev pub runs : List (Path × X) → List (Bytes × List (Path × X))
  runs [] = []
  runs (e ∷ es) = join_run (first_component e.0) (off e.0, e.1) (runs es)

  -- the entries of a run, with its component
  abbrev pub in_run : Bytes × List (Path × X) → List (Path × X)
  in_run r = map (λ e. (r.0 ∷ e.0, e.1)) r.1

  -- ---- the runs in a row are the map
  unjoin : (c : Bytes) (p : Path) (x : X) (rs : List (Bytes × List (Path × X))) → flat_map in_run (join_run c (p, x) rs) ≡ (c ∷ p, x) ∷ flat_map in_run rs
  unjoin c p x [] = refl
  unjoin c p x (r ∷ rs) =
      elim (same_bytes c r.0) as (λ b. same_bytes c r.0 ≡ b → flat_map in_run (cond b ((r.0, (p, x) ∷ r.1) ∷ rs) ((c, (p, x) ∷ []) ∷ r ∷ rs)) ≡ (c ∷ p, x) ∷ (in_run r ++ flat_map in_run rs)) [
        | true ↦ λ h. λ i. (sym (same_is c r.0 (passes _ h)) i ∷ p, x) ∷ (in_run r ++ flat_map in_run rs)
        | false ↦ λ h. refl
      ] refl

  -- the runs in a row are the map
  pub runs_are : (f : List (Path × X)) → T (are_file_paths f) → flat_map in_run (runs f) ≡ f
  runs_are [] h = refl
  runs_are (e ∷ es) h = by e.0 (first _ _ h) ∙ ap (λ fs. e ∷ fs) (runs_are es (second _ _ h))
    where
      by : (p : Path) → T (is_file_path p) → flat_map in_run (join_run (first_component p) (off p, e.1) (runs es)) ≡ (p, e.1) ∷ flat_map in_run (runs es)
      by [] k = absurd k
      by (c ∷ p) k = unjoin c p e.1 (runs es)

  -- ---- their heads are the first components
  heads_join : (c : Bytes) (e : Path × X) (rs : List (Bytes × List (Path × X))) → map (λ r. r.0) (join_run c e rs) ≡ with_first c (map (λ r. r.0) rs)
  heads_join c e [] = refl
  heads_join c e (r ∷ rs) =
      elim (same_bytes c r.0) as (λ b. map (λ r. r.0) (cond b ((r.0, e ∷ r.1) ∷ rs) ((c, e ∷ []) ∷ r ∷ rs)) ≡ cond b (r.0 ∷ map (λ r. r.0) rs) (c ∷ r.0 ∷ map (λ r. r.0) rs)) [ true ↦ refl | false ↦ refl ]

  -- the heads of the runs are the first components
  pub heads : (f : List (Path × X)) → map (λ r. r.0) (runs f) ≡ first_components f
  heads [] = refl
  heads (e ∷ es) = heads_join (first_component e.0) (off e.0, e.1) (runs es) ∙ ap (with_first (first_component e.0)) (heads es)

  -- ---- each run is the sub-map at its head
  -- no path has this first component
  abbrev pub avoids : Bytes → List (Path × X) → Bool
  avoids c es = list_all (λ e. not (same_bytes c (first_component e.0))) es

  -- no run has this head
  abbrev pub runs_avoid : Bytes → List (Bytes × List (Path × X)) → Bool
  runs_avoid c rs = list_all (λ r. not (same_bytes c r.0)) rs

  skip : (c d : Bytes) (q : Path) (x : X) (es : List (Path × X)) → same_bytes c d ≡ false → sub_map ((d ∷ q, x) ∷ es) (c ∷ []) ≡ sub_map es (c ∷ [])
  skip c d q x es h = ap (λ b. map (λ e. (drop 1 e.0, e.1)) (cond (b && true) ((d ∷ q, x) ∷ filter (λ e. begins (c ∷ []) e.0) es) (filter (λ e. begins (c ∷ []) e.0) es))) h

  take_it : (c d : Bytes) (q : Path) (x : X) (es : List (Path × X)) → same_bytes c d ≡ true → sub_map ((d ∷ q, x) ∷ es) (c ∷ []) ≡ (q, x) ∷ sub_map es (c ∷ [])
  take_it c d q x es h = ap (λ b. map (λ e. (drop 1 e.0, e.1)) (cond (b && true) ((d ∷ q, x) ∷ filter (λ e. begins (c ∷ []) e.0) es) (filter (λ e. begins (c ∷ []) e.0) es))) h

  nothing : (c : Bytes) (es : List (Path × X)) → T (are_file_paths es) → T (avoids c es) → sub_map es (c ∷ []) ≡ []
  nothing c [] f h = refl
  nothing c (e ∷ es) f h = by e.0 (first _ _ f) (first _ _ h) ∙ nothing c es (second _ _ f) (second _ _ h)
    where
      by : (p : Path) → T (is_file_path p) → T (not (same_bytes c (first_component p))) → sub_map ((p, e.1) ∷ es) (c ∷ []) ≡ sub_map es (c ∷ [])
      by [] k n = absurd k
      by (d ∷ q) k n = skip c d q e.1 es (as_false _ n)

  avoid_join : (c d : Bytes) (e : Path × X) (rs : List (Bytes × List (Path × X))) → T (not (same_bytes c d)) → T (runs_avoid c rs) → T (runs_avoid c (join_run d e rs))
  avoid_join c d e [] n h = both (not (same_bytes c d)) true n tt
  avoid_join c d e (r ∷ rs) n h =
      elim (same_bytes d r.0) as (λ b. T (runs_avoid c (cond b ((r.0, e ∷ r.1) ∷ rs) ((d, e ∷ []) ∷ r ∷ rs)))) [ true ↦ h | false ↦ both _ _ n h ]

  avoid_runs : (c : Bytes) (es : List (Path × X)) → T (avoids c es) → T (runs_avoid c (runs es))
  avoid_runs c [] h = tt
  avoid_runs c (e ∷ es) h = avoid_join c (first_component e.0) (off e.0, e.1) (runs es) (first _ _ h) (avoid_runs c es (second _ _ h))

  -- each run has a head of its own
  abbrev pub AreDistinct : List (Bytes × List (Path × X)) → Type 0
  AreDistinct [] = ⊤
  AreDistinct (r ∷ rs) = T (runs_avoid r.0 rs) × AreDistinct rs

  -- the runs of a file map are its sub-maps, under distinct heads
  pub record Good (f : List (Path × X)) (rs : List (Bytes × List (Path × X))) : Type 0 where
    pub subs : AllByRecursion (λ r. r.1 ≡ sub_map f (r.0 ∷ [])) rs
    pub distinct : AreDistinct rs

  later : (c : Bytes) (p : Path) (x : X) (es : List (Path × X)) (rs : List (Bytes × List (Path × X))) → T (runs_avoid c rs)
      → AllByRecursion (λ r. r.1 ≡ sub_map es (r.0 ∷ [])) rs → AllByRecursion (λ r. r.1 ≡ sub_map ((c ∷ p, x) ∷ es) (r.0 ∷ [])) rs
  later c p x es [] n h = tt
  later c p x es (r ∷ rs) n h = (h.0 ∙ sym (skip r.0 c p x es (as_false _ (flip c r.0 (first _ _ n)))), later c p x es rs (second _ _ n) h.1)

  step : (c : Bytes) (p : Path) (x : X) (es : List (Path × X)) (rs : List (Bytes × List (Path × X))) → T (are_file_paths es) → Good es rs → (rs ≡ [] → T (avoids c es))
      → ((r : Bytes × List (Path × X)) (more : List (Bytes × List (Path × X))) → rs ≡ r ∷ more → same_bytes c r.0 ≡ false → T (avoids c es) × T (runs_avoid c rs))
      → Good ((c ∷ p, x) ∷ es) (join_run c (p, x) rs)
  step c p x es [] f g empty new = record {
    subs = (sym (take_it c c p x es (same_itself c) ∙ ap (λ fs. (p, x) ∷ fs) (nothing c es f (empty refl))), tt);
    distinct = (tt, tt);
  }
  step c p x es (r ∷ rs) f g empty new =
      elim (same_bytes c r.0) as (λ b. same_bytes c r.0 ≡ b → Good ((c ∷ p, x) ∷ es) (cond b ((r.0, (p, x) ∷ r.1) ∷ rs) ((c, (p, x) ∷ []) ∷ r ∷ rs))) [
        | true ↦ λ h. let e : c ≡ r.0 = same_is c r.0 (passes _ h) in record {
          subs = (ap (λ fs. (p, x) ∷ fs) g.subs.0 ∙ sym (take_it r.0 c p x es (ap (same_bytes r.0) e ∙ same_itself r.0)), later c p x es rs (subst (λ d. T (runs_avoid d rs)) (sym e) g.distinct.0) g.subs.1);
          distinct = (g.distinct.0, g.distinct.1);
        }
        | false ↦ λ h. let a = new r rs refl h in record {
          subs = (sym (take_it c c p x es (same_itself c) ∙ ap (λ fs. (p, x) ∷ fs) (nothing c es f a.0)), later c p x es (r ∷ rs) a.1 g.subs);
          distinct = (a.1, g.distinct);
        }
      ] refl

  join_head : (c : Bytes) (e : Path × X) (rs : List (Bytes × List (Path × X))) (r : Bytes × List (Path × X)) (more : List (Bytes × List (Path × X))) → join_run c e rs ≡ r ∷ more → c ≡ r.0
  join_head c e [] r more h = let k : ◌≡◌ {A = Bytes × List (Path × X)} (c, e ∷ []) r = cc in ap (λ q. q.0) k
  join_head c e (s ∷ rs) r more h =
      elim (same_bytes c s.0) as (λ b. same_bytes c s.0 ≡ b → cond b ((s.0, e ∷ s.1) ∷ rs) ((c, e ∷ []) ∷ s ∷ rs) ≡ r ∷ more → c ≡ r.0) [
        | true ↦ λ k i. same_is c s.0 (passes _ k) ∙ ap (λ (q : Bytes × List (Path × X)). q.0) (heads_same (s.0, e ∷ s.1) r rs more i)
        | false ↦ λ k i. ap (λ (q : Bytes × List (Path × X)). q.0) (heads_same (c, e ∷ []) r (s ∷ rs) more i)
      ] refl h
    where
      heads_same : (a b : Bytes × List (Path × X)) (xs ys : List (Bytes × List (Path × X))) → a ∷ xs ≡ b ∷ ys → a ≡ b
      heads_same a b xs ys i = cc i

  join_some : (c : Bytes) (e : Path × X) (rs : List (Bytes × List (Path × X))) → join_run c e rs ≡ [] → ⊥
  join_some c e [] h = cc
  join_some c e (s ∷ rs) h =
      elim (same_bytes c s.0) as (λ b. cond b ((s.0, e ∷ s.1) ∷ rs) ((c, e ∷ []) ∷ s ∷ rs) ≡ [] → ⊥) [ true ↦ λ i. (cc) | false ↦ λ i. (cc) ] h

-- the first component of a file's path is a component
pub component_of : (c : Bytes) (p : Path) → T (is_file_path (c ∷ p)) → T (is_component c)
component_of c p h = first (is_component c) (list_all is_component p) (first _ _ h)

key_same : (c : Bytes) (p r : Path) → T (not (are_in_line (c ∷ p) (c ∷ r))) → node_key (c ∷ p) ≡ node_key (c ∷ r)
key_same c [] r n = absurd (not_both _ n (left_or (same_bytes c c && true) (same_bytes c c && begins r []) (both _ _ (is_same c c refl) tt)))
key_same c (d ∷ p) [] n = absurd (not_both _ n (subst T (sym (or_false (same_bytes c c && false) (same_bytes c c && true))) (both _ _ (is_same c c refl) tt)))
  where
    or_false : (a b : Bool) → ((same_bytes c c && begins (d ∷ p) []) || b) ≡ b
    or_false a b = ap (λ k. (k && false) || b) (same_itself c)
key_same c (d ∷ p) (e ∷ r) n = refl

module _ {X : Type 0} where
  -- a file map without its first entry is one
  pub tail_parts : (e : Path × X) (es : List (Path × X)) → Parts (e ∷ es) → Parts es
  tail_parts e es p = record { paths = second _ _ p.paths; apart = second _ _ p.apart; sorted = second _ _ p.sorted }

  -- after another first component, the first one doesn't come again
  not_again : (c d : Bytes) (p q : Path) (es : List (Path × X)) → T (is_component c) → T (is_component d) → c ≢ d → path_cmp (c ∷ p) (d ∷ q) ≡ Less → T (below_all path_cmp (d ∷ q) es)
      → T (list_all (λ f. not (are_in_line (c ∷ p) f.0)) es) → T (are_file_paths es) → T (avoids c es)
  not_again c d p q [] kc kd n l b a f = tt
  not_again c d p q (e ∷ es) kc kd n l b a f =
      both _ _ (by e.0 (less_is _ (first _ _ b)) (first _ _ a) (first _ _ f)) (not_again c d p q es kc kd n l (second _ _ b) (second _ _ a) (second _ _ f))
    where
      by : (r : Path) → path_cmp (d ∷ q) r ≡ Less → T (not (are_in_line (c ∷ p) r)) → T (is_file_path r) → T (not (same_bytes c (first_component r)))
      by [] m w k = absurd k
      by (c' ∷ r) m w k = not_by _ (λ s. again (same_is c c' s))
        where
          again : c ≡ c' → ⊥
          again i =
              let m' : path_cmp (d ∷ q) (c ∷ r) ≡ Less = ap (λ z. path_cmp (d ∷ q) (z ∷ r)) i ∙ m in
              let w' : T (not (are_in_line (c ∷ p) (c ∷ r))) = subst (λ z. T (not (are_in_line (c ∷ p) (z ∷ r)))) (sym i) w in
              not_between (node_key (c ∷ p)) (node_key (d ∷ q))
              (sym (by_node c d p q kc kd n) ∙ l)
              (ap (byte_cmp (node_key (d ∷ q))) (key_same c p r w') ∙ sym (by_node d c q r kd kc (λ j. n (sym j))) ∙ m')

  -- a first component that another follows doesn't come again
  pub avoids_rest : (c : Bytes) (p : Path) (x : X) (e : Path × X) (es : List (Path × X)) → Parts ((c ∷ p, x) ∷ e ∷ es) → same_bytes c (first_component e.0) ≡ false → T (avoids c (e ∷ es))
  avoids_rest c p x e es h n =
      by e.0 n (first _ _ (second _ _ h.paths)) (less_is _ (first _ _ (first (below_all path_cmp (c ∷ p) (e ∷ es)) _ h.sorted))) (first _ _ (second _ _ h.sorted))
    where
      by : (r : Path) → same_bytes c (first_component r) ≡ false → T (is_file_path r) → path_cmp (c ∷ p) r ≡ Less → T (below_all path_cmp r es) → T (not (same_bytes c (first_component r)) && avoids c es)
      by [] m k l b = absurd k
      by (d ∷ q) m k l b =
          both _ _ (subst (λ v. T (not v)) (sym m) tt)
          (not_again c d p q es (component_of c p (first (is_file_path (c ∷ p)) (are_file_paths (e ∷ es)) h.paths)) (component_of d q k) (other c d m) l b (second (not (are_in_line (c ∷ p) e.0)) (list_all (λ f. not (are_in_line (c ∷ p) f.0)) es) (first (list_all (λ f. not (are_in_line (c ∷ p) f.0)) (e ∷ es)) (are_apart (e ∷ es)) h.apart))
          (second (is_file_path e.0) (are_file_paths es) (second (is_file_path (c ∷ p)) (are_file_paths (e ∷ es)) h.paths)))

  step_good : (c : Bytes) (p : Path) (x : X) (es : List (Path × X)) → Parts ((c ∷ p, x) ∷ es) → Good es (runs es) → Good ((c ∷ p, x) ∷ es) (join_run c (p, x) (runs es))
  step_good c p x es k g = step c p x es (runs es) (second _ _ k.paths) g (empty es k) (new es k)
    where
      empty : (fs : List (Path × X)) → Parts ((c ∷ p, x) ∷ fs) → runs fs ≡ [] → T (avoids c fs)
      empty [] m i = tt
      empty (d ∷ fs) m i = absurd (join_some (first_component d.0) (off d.0, d.1) (runs fs) i)

      new : (fs : List (Path × X)) → Parts ((c ∷ p, x) ∷ fs) → (r : Bytes × List (Path × X)) (more : List (Bytes × List (Path × X))) → runs fs ≡ r ∷ more → same_bytes c r.0 ≡ false → T (avoids c fs) × T (runs_avoid c (runs fs))
      new [] m r more i n = absurd (cc)
      new (d ∷ fs) m r more i n =
          let a = avoids_rest c p x d fs m (ap (same_bytes c) (join_head (first_component d.0) (off d.0, d.1) (runs fs) r more i) ∙ n) in
          (a, avoid_runs c (d ∷ fs) a)

  good_step : (p : Path) (x : X) (es : List (Path × X)) → Parts ((p, x) ∷ es) → Good es (runs es) → Good ((p, x) ∷ es) (join_run (first_component p) (off p, x) (runs es))
  good_step [] x es h g = absurd h.paths
  good_step (c ∷ p) x es h g = step_good c p x es h g

  -- each run is the sub-map at its head, and the heads are distinct
  pub good_runs : (f : List (Path × X)) → Parts f → Good f (runs f)
  good_runs [] h = record { subs = tt; distinct = tt }
  good_runs (e ∷ es) h = good_step e.0 e.1 es h (good_runs es (tail_parts e es h))
