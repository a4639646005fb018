-- The entries of a file map's tree are canonical: in the byte order of whole paths, each component once.
use Rattle.std.proofs.Common.{◌≡◌, Bool, true, false, cond, refl, sym, ap, subst, ◌∙◌, List, [], ◌∷◌, ◌++◌, map, Option, None, Some}
use Rattle.std.specs.Prelude.{T, not, ◌&&◌}
use Rattle.std.specs.List.{list_all, AllByRecursion}
use Rattle.std.specs.declared.cmp.Ordering.TheVariants.{Less}
use Rattle.std.specs.Ordering.{is_lt}
use Rattle.std.specs.FinMap.Entries.{is_sorted, below_all}
use Rattle.std.specs.Bool.{passes}
use Rattle.gx_model.specs.Texts.{Bytes, byte_cmp, same_bytes}
use Rattle.gx_model.specs.Texts.Paths.{Path, same_path, path_cmp, is_component, is_file_path, are_in_line, begins}
use Rattle.gx_model.specs.Histories.Files.{first_component, first_components, with_first, file_at, are_file_paths, are_apart}
use Rattle.gx_model.proofs.Texts.PathTests.{both, first, second, is_true, not_by, not_both, same_is, is_same, left_or, right_or, path_is, path_same}
use Rattle.gx_model.proofs.Histories.PathOrder.{by_node, node_key}
use Rattle.gx_model.proofs.Histories.FileMapEdits.{Parts}
use Rattle.gx_model.proofs.Histories.PathRuns.{tail_parts, avoids_rest, component_of, less_is, other, as_false, avoids}

-- a first component's key: with a slash, unless a file stands there
abbrev pub key_at : {X : Type 0} → Option X → Bytes → Bytes
key_at (Some x) c = c
key_at None c = c ++ 47 ∷ []

-- a path that is in line with nothing else isn't the whole of another's first component
not_whole : (p q : Path) → T (is_file_path q) → T (not (are_in_line p q)) → same_path (first_component q ∷ []) p ≡ false
not_whole p [] k h = absurd k
not_whole p (c ∷ q) k h = as_false _ (not_by _ (λ s. not_both (are_in_line p (c ∷ q)) h (subst (λ r. T (are_in_line r (c ∷ q))) (path_is (c ∷ []) p s) (left_or (begins (c ∷ []) (c ∷ q)) (begins (c ∷ q) (c ∷ [])) (both _ _ (is_same c c refl) tt)))))

head_is : (c : Bytes) (ds : List Bytes) (d : Bytes) (more : List Bytes) → with_first c ds ≡ d ∷ more → c ≡ d
head_is c [] d more h = cc
head_is c (e ∷ ds) d more h =
    elim (same_bytes c e) as (λ b. same_bytes c e ≡ b → cond b (e ∷ ds) (c ∷ e ∷ ds) ≡ d ∷ more → c ≡ d) [
      | true ↦ λ k i. let l : e ≡ d = cc i in same_is c e (passes _ k) ∙ l
      | false ↦ λ k i. let l : c ≡ d = cc i in l
    ] refl h

module _ {X : Type 0} where
  -- the key of a first component
  abbrev pub key_of : List (Path × X) → Bytes → Bytes
  key_of f c = key_at (file_at f (c ∷ [])) c

  -- no file stands at c where no path is in line with one below c
  none_there : (c : Bytes) (p : Path) (es : List (Path × X)) → T (list_all (λ f. not (are_in_line (c ∷ p) f.0)) es) → file_at es (c ∷ []) ≡ None
  none_there c p [] h = refl
  none_there c p (e ∷ es) h =
      elim (same_path (c ∷ []) e.0) as (λ b. same_path (c ∷ []) e.0 ≡ b → cond b (Some e.1) (file_at es (c ∷ [])) ≡ None) [
        | true ↦ λ k. absurd (not_both (are_in_line (c ∷ p) e.0) (first _ _ h) (subst (λ q. T (are_in_line (c ∷ p) q)) (path_is (c ∷ []) e.0 (passes _ k)) (right_or (begins (c ∷ p) (c ∷ [])) (begins (c ∷ []) (c ∷ p)) (both _ _ (is_same c c refl) tt))))
        | false ↦ λ k. none_there c p es (second (not (are_in_line (c ∷ p) e.0)) (list_all (λ f. not (are_in_line (c ∷ p) f.0)) es) h)
      ] refl

  -- an entry with another path has no say
  skipped : (p : Path) (x : X) (es : List (Path × X)) (c : Bytes) → same_path (c ∷ []) p ≡ false → file_at ((p, x) ∷ es) (c ∷ []) ≡ file_at es (c ∷ [])
  skipped p x es c h = ap (λ b. cond b (Some x) (file_at es (c ∷ []))) h

  own_key : (c : Bytes) (p : Path) (x : X) (es : List (Path × X)) → T (list_all (λ f. not (are_in_line (c ∷ p) f.0)) es) → key_of ((c ∷ p, x) ∷ es) c ≡ node_key (c ∷ p)
  own_key c [] x es h = ap (λ b. key_at (cond b (Some x) (file_at es (c ∷ []))) c) (is_true _ (path_same (c ∷ [])))
  own_key c (d ∷ p) x es h =
      ap (λ b. key_at (cond b (Some x) (file_at es (c ∷ []))) c) (longer (same_bytes c c))
      ∙ ap (λ o. key_at o c) (none_there c (d ∷ p) es h)
    where
      longer : (b : Bool) → (b && false) ≡ false
      longer true = refl
      longer false = refl

  keys_later : (p : Path) (x : X) (all es : List (Path × X)) → T (are_file_paths es) → T (list_all (λ f. not (are_in_line p f.0)) es)
      → AllByRecursion (λ e. key_of all (first_component e.0) ≡ node_key e.0) es → AllByRecursion (λ e. key_of ((p, x) ∷ all) (first_component e.0) ≡ node_key e.0) es
  keys_later p x all [] f a h = tt
  keys_later p x all (e ∷ es) f a h = (
    ap (λ o. key_at o (first_component e.0)) (skipped p x all (first_component e.0) (not_whole p e.0 (first _ _ f) (first _ _ a))) ∙ h.0,
    keys_later p x all es (second (is_file_path e.0) (are_file_paths es) f) (second (not (are_in_line p e.0)) (list_all (λ f. not (are_in_line p f.0)) es) a) h.1,
  )

  -- the key of each path's first component is the path's own
  pub keyed : (f : List (Path × X)) → Parts f → AllByRecursion (λ e. key_of f (first_component e.0) ≡ node_key e.0) f
  keyed [] h = tt
  keyed (e ∷ es) h = (
    by e.0 (first _ _ h.paths) (first _ _ h.apart),
    keys_later e.0 e.1 es es (second (is_file_path e.0) (are_file_paths es) h.paths) (first (list_all (λ f. not (are_in_line e.0 f.0)) es) (are_apart es) h.apart) (keyed es (tail_parts e es h)),
  )
    where
      by : (p : Path) → T (is_file_path p) → T (list_all (λ f. not (are_in_line p f.0)) es) → key_of ((p, e.1) ∷ es) (first_component p) ≡ node_key p
      by [] k a = absurd k
      by (c ∷ p) k a = own_key c p e.1 es a

  -- what holds of each path's first component holds of the first components
  of_firsts : (P : Bytes → Type 0) (es : List (Path × X)) → AllByRecursion (λ e. P (first_component e.0)) es → AllByRecursion P (first_components es)
  of_firsts P [] h = tt
  of_firsts P (e ∷ es) h = put_first (first_component e.0) (first_components es) h.0 (of_firsts P es h.1)
    where
      put_first : (c : Bytes) (ds : List Bytes) → P c → AllByRecursion P ds → AllByRecursion P (with_first c ds)
      put_first c [] k r = (k, tt)
      put_first c (d ∷ ds) k r = elim (same_bytes c d) as (λ b. AllByRecursion P (cond b (d ∷ ds) (c ∷ d ∷ ds))) [ true ↦ r | false ↦ (k, r) ]

  -- the keys of first components, with these
  abbrev pub keys : List (Path × X) → List Bytes → List (Bytes × Bytes)
  keys f cs = map (λ c. (key_of f c, c)) cs

  -- c's key is below that of each later first component
  below_later : (c : Bytes) (p : Path) (es all : List (Path × X)) → T (is_component c) → T (are_file_paths es) → T (avoids c es) → T (below_all path_cmp (c ∷ p) es)
      → AllByRecursion (λ e. key_of all (first_component e.0) ≡ node_key e.0) es
      → AllByRecursion (λ e. byte_cmp (node_key (c ∷ p)) (key_of all (first_component e.0)) ≡ Less) es
  below_later c p [] all k f a b h = tt
  below_later c p (e ∷ es) all k f a b h = (
    by e.0 (first _ _ f) (first _ _ a) (less_is _ (first _ _ b)) h.0,
    below_later c p es all k (second (is_file_path e.0) (are_file_paths es) f) (second (not (same_bytes c (first_component e.0))) (avoids c es) a) (second (is_lt (path_cmp (c ∷ p) e.0)) (below_all path_cmp (c ∷ p) es) b) h.1,
  )
    where
      by : (q : Path) → T (is_file_path q) → T (not (same_bytes c (first_component q))) → path_cmp (c ∷ p) q ≡ Less → key_of all (first_component q) ≡ node_key q → byte_cmp (node_key (c ∷ p)) (key_of all (first_component q)) ≡ Less
      by [] m n l i = absurd m
      by (d ∷ q) m n l i = ap (byte_cmp (node_key (c ∷ p))) i ∙ sym (by_node c d p q k (component_of d q m) (other c d (as_false _ n))) ∙ l

  below_keys : (k : Bytes) (f : List (Path × X)) (cs : List Bytes) → AllByRecursion (λ c. byte_cmp k (key_of f c) ≡ Less) cs → T (below_all byte_cmp k (keys f cs))
  below_keys k f [] h = tt
  below_keys k f (c ∷ cs) h = both _ _ (subst (λ o. T (is_lt o)) (sym h.0) tt) (below_keys k f cs h.1)

  same_keys : (f g : List (Path × X)) (cs : List Bytes) → AllByRecursion (λ c. file_at f (c ∷ []) ≡ file_at g (c ∷ [])) cs → keys f cs ≡ keys g cs
  same_keys f g [] h = refl
  same_keys f g (c ∷ cs) h = λ i. (key_at (h.0 i) c, c) ∷ same_keys f g cs h.1 i

  others_skip : (p : Path) (x : X) (all es : List (Path × X)) → T (are_file_paths es) → T (list_all (λ f. not (are_in_line p f.0)) es) → AllByRecursion (λ e. file_at ((p, x) ∷ all) (first_component e.0 ∷ []) ≡ file_at all (first_component e.0 ∷ [])) es
  others_skip p x all [] f a = tt
  others_skip p x all (e ∷ es) f a =
      (skipped p x all (first_component e.0) (not_whole p e.0 (first _ _ f) (first _ _ a)), others_skip p x all es (second (is_file_path e.0) (are_file_paths es) f) (second (not (are_in_line p e.0)) (list_all (λ f. not (are_in_line p f.0)) es) a))

  rises : (c : Bytes) (p : Path) (x : X) (es : List (Path × X)) (ds : List Bytes) → first_components es ≡ ds → Parts ((c ∷ p, x) ∷ es) → T (is_sorted byte_cmp (keys es ds)) → ((d : Bytes) (more : List Bytes) → ds ≡ d ∷ more → same_bytes c d ≡ false → T (avoids c es))
      → T (is_sorted byte_cmp (keys ((c ∷ p, x) ∷ es) (with_first c ds)))
  rises c p x es [] i h s v = tt
  rises c p x es (d ∷ ds) i h s v =
      let rest : T (is_sorted byte_cmp (keys ((c ∷ p, x) ∷ es) (d ∷ ds))) =
      subst (λ es. T (is_sorted byte_cmp es)) (sym (same_keys ((c ∷ p, x) ∷ es) es (d ∷ ds) (subst (AllByRecursion (λ c'. file_at ((c ∷ p, x) ∷ es) (c' ∷ []) ≡ file_at es (c' ∷ []))) i (of_firsts (λ c'. file_at ((c ∷ p, x) ∷ es) (c' ∷ []) ≡ file_at es (c' ∷ [])) es (others_skip (c ∷ p) x es es fs ap_rest))))) s in
      elim (same_bytes c d) as (λ b. same_bytes c d ≡ b → T (is_sorted byte_cmp (keys ((c ∷ p, x) ∷ es) (cond b (d ∷ ds) (c ∷ d ∷ ds))))) [
        | true ↦ λ k. rest
        | false ↦ λ k. both _ _ (subst (λ z. T (below_all byte_cmp z (keys ((c ∷ p, x) ∷ es) (d ∷ ds)))) (sym (own_key c p x es ap_rest))
            (below_keys (node_key (c ∷ p)) ((c ∷ p, x) ∷ es) (d ∷ ds) (subst (AllByRecursion (λ c'. byte_cmp (node_key (c ∷ p)) (key_of ((c ∷ p, x) ∷ es) c') ≡ Less)) i
            (of_firsts (λ c'. byte_cmp (node_key (c ∷ p)) (key_of ((c ∷ p, x) ∷ es) c') ≡ Less) es
            (below_later c p es ((c ∷ p, x) ∷ es) (component_of c p (first (is_file_path (c ∷ p)) (are_file_paths es) h.paths)) fs (v d ds refl k) (first (below_all path_cmp (c ∷ p) es) (is_sorted path_cmp es) h.sorted)
            (keyed ((c ∷ p, x) ∷ es) h).1))))) rest
      ] refl
    where
      fs : T (are_file_paths es)
      fs = second (is_file_path (c ∷ p)) (are_file_paths es) h.paths

      ap_rest : T (list_all (λ f. not (are_in_line (c ∷ p) f.0)) es)
      ap_rest = first (list_all (λ f. not (are_in_line (c ∷ p) f.0)) es) (are_apart es) h.apart

  one_step : (p : Path) (x : X) (es : List (Path × X)) → Parts ((p, x) ∷ es) → T (is_sorted byte_cmp (keys es (first_components es))) → T (is_sorted byte_cmp (keys ((p, x) ∷ es) (with_first (first_component p) (first_components es))))
  one_step [] x es h s = absurd h.paths
  one_step (c ∷ p) x es h s = rises c p x es (first_components es) refl h s (next es h)
    where
      next : (fs : List (Path × X)) → Parts ((c ∷ p, x) ∷ fs) → (d : Bytes) (more : List Bytes) → first_components fs ≡ d ∷ more → same_bytes c d ≡ false → T (avoids c fs)
      next [] m d more i n = tt
      next (e ∷ fs) m d more i n = avoids_rest c p x e fs m (ap (same_bytes c) (head_is (first_component e.0) (first_components fs) d more i) ∙ n)

  -- the keys of the first components strictly rise
  pub sorted_keys : (f : List (Path × X)) → Parts f → T (is_sorted byte_cmp (keys f (first_components f)))
  sorted_keys [] h = tt
  sorted_keys (e ∷ es) h = one_step e.0 e.1 es h (sorted_keys es (tail_parts e es h))
