-- A tree's body tells its file map, where the names of what is below it tell that.
use Rattle.std.proofs.Common.{◌≡◌, ℕ, zero, suc, ◌%◌, Bool, true, false, cond, refl, sym, ap, subst, ◌∙◌, arith, List, [], ◌∷◌, ◌++◌, length, drop, map, Option, None, Some, eqb→eq, ◌*◌}
use Rattle.std.specs.Prelude.{T, not, ◌&&◌, nat_eq, IfSome, is_none}
use Rattle.std.specs.List.{list_all, filter, flat_map, cons_option, AllByRecursion}
use Rattle.std.specs.Option.{option_map}
use Rattle.std.specs.Map.{lookup}
use Rattle.gx_model.specs.declared.objects.Kind.{Kind}
use Rattle.gx_model.specs.declared.objects.Kind.TheVariants as kind
use Rattle.gx_model.specs.declared.objects.Mode.{Mode}
use Rattle.gx_model.specs.declared.objects.Mode.TheVariants.{File, Exec, Link, Gitlink, Dir}
use Rattle.std.specs.Bool.{passes}
use Rattle.gx_model.specs.Texts.{Bytes, same_bytes}
use Rattle.gx_model.specs.Texts.Paths.{Path, same_path, begins, is_component, is_file_path, are_in_line}
use Rattle.gx_model.specs.Histories.Files.{FileMap, Leaf, first_component, first_components, with_first, sub_map, file_at, is_file_map, are_file_paths, are_apart}
use Rattle.gx_model.specs.Histories.Values.{Value, blob_value, tree_value, blob_of, blobs_of, sub_maps, parts, is_leaf, is_content}
use Rattle.gx_model.specs.Texts.Digits.{is_lower_digit, is_name_text}
use Rattle.gx_model.specs.Objects.{IsNamer, Entry, tree_text, unhex}
use Rattle.gx_model.specs.Records.{node, entry, entries, tree_body, tree_name, content_name, named_map, name_of}
use Rattle.gx_model.proofs.Texts.PathTests.{both, first, second, is_true, not_both, is_same, path_is, left_or, right_or}
use Rattle.gx_model.proofs.ObjectTexts.TreeBodies.{unrolled}
use Rattle.gx_model.proofs.ObjectTexts.EntryTexts.{AreNamed, one_tree_text}
use Rattle.gx_model.proofs.Histories.FileMapEdits.{Parts, parts_of}
use Rattle.gx_model.proofs.Histories.PathRuns.{runs, in_run, runs_are, heads, good_runs}
use Rattle.gx_model.proofs.Texts.HexDigits.{one_unhex}

-- ---- what holds of each element

-- what holds of all elements of two lists in a row holds of the first's
pub all_left : {X : Type 0} (P : X → Type 0) (xs ys : List X) → AllByRecursion P (xs ++ ys) → AllByRecursion P xs
all_left P [] ys h = tt
all_left P (x ∷ xs) ys h = (h.0, all_left P xs ys h.1)

-- what holds of all elements of two lists in a row holds of the second's
pub all_right : {X : Type 0} (P : X → Type 0) (xs ys : List X) → AllByRecursion P (xs ++ ys) → AllByRecursion P ys
all_right P [] ys h = h
all_right P (x ∷ xs) ys h = all_right P xs ys h.1

-- what holds of the images holds of the elements' images
pub all_unmap : {X Y : Type 0} (P : Y → Type 0) (f : X → Y) (xs : List X) → AllByRecursion P (map f xs) → AllByRecursion (λ x. P (f x)) xs
all_unmap P f [] h = tt
all_unmap P f (x ∷ xs) h = (h.0, all_unmap P f xs h.1)

-- what holds of what passes a test holds of each element that does
pub all_unfilter : {X : Type 0} (P : X → Type 0) (t : X → Bool) (xs : List X) → AllByRecursion P (filter t xs) → AllByRecursion (λ x. t x ≡ true → P x) xs
all_unfilter P t [] h = tt
all_unfilter P t (x ∷ xs) h =
    elim (t x) as (λ b. t x ≡ b → AllByRecursion P (cond b (x ∷ filter t xs) (filter t xs)) → (t x ≡ true → P x) × AllByRecursion (λ y. t y ≡ true → P y) xs) [
      | true ↦ λ e k. (λ _. k.0, all_unfilter P t xs k.1)
      | false ↦ λ e k. (λ i. let j = sym i ∙ e in absurd (cc), all_unfilter P t xs k)
    ] refl h

found : {X : Type 0} (t : Path → Bool) (u : X → Bool) (es : List (Path × X)) → T (list_all (λ e. u e.1) es) → IfSome (lookup t es) (λ x. T (u x))
found t u [] h = tt
found t u (e ∷ es) h = elim (t e.0) as (λ b. IfSome (cond b (Some e.1) (lookup t es)) (λ x. T (u x))) [ true ↦ first _ _ h | false ↦ found t u es (second _ _ h) ]

-- ---- a map of names

-- the sub-map of a map of names is the names of the sub-map
pub sub_named : (name : Kind → Bytes → Bytes) (f : FileMap Bytes) (c : Bytes) → sub_map (named_map name f) (c ∷ []) ≡ named_map name (sub_map f (c ∷ []))
sub_named name [] c = refl
sub_named name (e ∷ es) c =
    elim (begins (c ∷ []) e.0) as (λ b. map (λ (q : Path × Leaf Bytes). let r : Path × Leaf Bytes = (drop 1 q.0, q.1) in r) (cond b ((e.0, (e.1.0, content_name name e.1.0 e.1.1)) ∷ filter (λ q. begins (c ∷ []) q.0) (named_map name es)) (filter (λ q. begins (c ∷ []) q.0) (named_map name es))) ≡ named_map name (map (λ (q : Path × Leaf Bytes). let r : Path × Leaf Bytes = (drop 1 q.0, q.1) in r) (cond b (e ∷ filter (λ q. begins (c ∷ []) q.0) es) (filter (λ q. begins (c ∷ []) q.0) es)))) [
      | true ↦ ap (λ fs. (drop 1 e.0, (e.1.0, content_name name e.1.0 e.1.1)) ∷ fs) (sub_named name es c)
      | false ↦ sub_named name es c
    ]

-- what is found in a map of names is the name of what is found in the file map
pub at_named : (name : Kind → Bytes → Bytes) (f : FileMap Bytes) (p : Path) → file_at (named_map name f) p ≡ option_map (λ x. (x.0, content_name name x.0 x.1)) (file_at f p)
at_named name [] p = refl
at_named name (e ∷ es) p =
    elim (same_path p e.0) as (λ b. cond b (Some (e.1.0, content_name name e.1.0 e.1.1)) (file_at (named_map name es) p) ≡ option_map (λ x. (x.0, content_name name x.0 x.1)) (cond b (Some e.1) (file_at es p))) [ true ↦ refl | false ↦ at_named name es p ]

-- a map of names has the first components of its file map
pub firsts_named : (name : Kind → Bytes → Bytes) (f : FileMap Bytes) → first_components (named_map name f) ≡ first_components f
firsts_named name [] = refl
firsts_named name (e ∷ es) = ap (with_first (first_component e.0)) (firsts_named name es)

-- ---- a file alone in its sub-map

module _ {X : Type 0} where
  none_below : (c : Bytes) (es : List (Path × X)) → T (list_all (λ f. not (are_in_line (c ∷ []) f.0)) es) → sub_map es (c ∷ []) ≡ []
  none_below c [] h = refl
  none_below c (e ∷ es) h =
      let rest = none_below c es (second (not (are_in_line (c ∷ []) e.0)) (list_all (λ f. not (are_in_line (c ∷ []) f.0)) es) h) in
      elim (begins (c ∷ []) e.0) as (λ b. begins (c ∷ []) e.0 ≡ b → map (λ (q : Path × X). let r : Path × X = (drop 1 q.0, q.1) in r) (cond b (e ∷ filter (λ f. begins (c ∷ []) f.0) es) (filter (λ f. begins (c ∷ []) f.0) es)) ≡ []) [
        | true ↦ λ k. absurd (not_both (are_in_line (c ∷ []) e.0) (first _ _ h) (left_or _ _ (passes _ k)))
        | false ↦ λ k. rest
      ] refl

  apart_from : (c : Bytes) (x : X) (p : Path) (zs : List (Path × X)) → T (list_all (λ f. not (are_in_line p f.0)) zs) → T (begins (c ∷ []) p) → file_at zs (c ∷ []) ≡ Some x → ⊥
  apart_from c x p [] w m j = cc
  apart_from c x p (z ∷ zs) w m j =
      elim (same_path (c ∷ []) z.0) as (λ b. same_path (c ∷ []) z.0 ≡ b → cond b (Some z.1) (file_at zs (c ∷ [])) ≡ Some x → ⊥) [
        | true ↦ λ u l. not_both (are_in_line p z.0) (first _ _ w) (right_or (begins p z.0) (begins z.0 p) (subst (λ q. T (begins q p)) (path_is (c ∷ []) z.0 (passes _ u)) m))
        | false ↦ λ u l. apart_from c x p zs (second (not (are_in_line p z.0)) (list_all (λ f. not (are_in_line p f.0)) zs) w) m l
      ] refl j

  outside : (c : Bytes) (x : X) (p : Path) (v : X) (ys : List (Path × X)) (b : Bool) → begins (c ∷ []) p ≡ b → T (list_all (λ f. not (are_in_line p f.0)) ys) → file_at ys (c ∷ []) ≡ Some x
      → map (λ (q : Path × X). let r : Path × X = (drop 1 q.0, q.1) in r) (cond b ((p, v) ∷ filter (λ f. begins (c ∷ []) f.0) ys) (filter (λ f. begins (c ∷ []) f.0) ys)) ≡ sub_map ys (c ∷ [])
  outside c x p v ys true m w i = absurd (apart_from c x p ys w (passes _ m) i)
  outside c x p v ys false m w i = refl

  this_one : (c : Bytes) (p : Path) (v x : X) (ys : List (Path × X)) → (c ∷ []) ≡ p → v ≡ x → T (list_all (λ f. not (are_in_line p f.0)) ys) → sub_map ((p, v) ∷ ys) (c ∷ []) ≡ ([], x) ∷ []
  this_one c p v x ys s i a =
      let start : sub_map ((c ∷ [], v) ∷ ys) (c ∷ []) ≡ ([], x) ∷ [] =
      ap (λ b. map (λ (q : Path × X). let r : Path × X = (drop 1 q.0, q.1) in r) (cond (b && true) ((c ∷ [], v) ∷ filter (λ f. begins (c ∷ []) f.0) ys) (filter (λ f. begins (c ∷ []) f.0) ys))) (is_true _ (is_same c c refl))
      ∙ ap (λ fs. ([], v) ∷ fs) (none_below c ys (subst (λ q. T (list_all (λ f. not (are_in_line q f.0)) ys)) (sym s) a))
      ∙ ap (λ z. ([], z) ∷ []) i in
      subst (λ q. sub_map ((q, v) ∷ ys) (c ∷ []) ≡ ([], x) ∷ []) s start

  -- below a file's component is that file alone
  pub only_file : (c : Bytes) (f : List (Path × X)) (x : X) → T (are_apart f) → file_at f (c ∷ []) ≡ Some x → sub_map f (c ∷ []) ≡ ([], x) ∷ []
  only_file c [] x h e = absurd (cc)
  only_file c (y ∷ ys) x h e =
      let rest = only_file c ys x (second _ _ h) in
      elim (same_path (c ∷ []) y.0) as (λ b. same_path (c ∷ []) y.0 ≡ b → cond b (Some y.1) (file_at ys (c ∷ [])) ≡ Some x → sub_map (y ∷ ys) (c ∷ []) ≡ ([], x) ∷ []) [
        | true ↦ λ k i. let v : y.1 ≡ x = cc i in this_one c y.0 y.1 x ys (path_is (c ∷ []) y.0 (passes _ k)) v (first _ _ h)
        | false ↦ λ k i. outside c x y.0 y.1 ys (begins (c ∷ []) y.0) refl (first _ _ h) i ∙ rest i
      ] refl e

-- ---- a file map is its sub-maps in a row

abbrev below : {X : Type 0} → Bytes → List (Path × X) → List (Path × X)
below c es = map (λ e. (c ∷ e.0, e.1)) es

by_subs : {X : Type 0} (f : List (Path × X)) (rs : List (Bytes × List (Path × X))) → AllByRecursion (λ r. r.1 ≡ sub_map f (r.0 ∷ [])) rs → flat_map in_run rs ≡ flat_map (λ c. below c (sub_map f (c ∷ []))) (map (λ r. r.0) rs)
by_subs f [] h = refl
by_subs f (r ∷ rs) h = λ i. below r.0 (h.0 i) ++ by_subs f rs h.1 i

-- a file map is its sub-maps at first components in a row
pub rebuilt : {X : Type 0} (f : List (Path × X)) → Parts f → f ≡ flat_map (λ c. below c (sub_map f (c ∷ []))) (first_components f)
rebuilt f h = sym (runs_are f h.paths) ∙ by_subs f (runs f) (good_runs f h).subs ∙ ap (flat_map (λ c. below c (sub_map f (c ∷ [])))) (heads f)

same_subs : {X : Type 0} (f g : List (Path × X)) (cs : List Bytes) → AllByRecursion (λ c. sub_map f (c ∷ []) ≡ sub_map g (c ∷ [])) cs → flat_map (λ c. below c (sub_map f (c ∷ []))) cs ≡ flat_map (λ c. below c (sub_map g (c ∷ []))) cs
same_subs f g [] h = refl
same_subs f g (c ∷ cs) h = λ i. below c (h.0 i) ++ same_subs f g cs h.1 i

-- file maps with one row of sub-maps are one
pub from_subs : {X : Type 0} (f g : List (Path × X)) → Parts f → Parts g → first_components f ≡ first_components g → AllByRecursion (λ c. sub_map f (c ∷ []) ≡ sub_map g (c ∷ [])) (first_components f) → f ≡ g
from_subs f g h k e a =
    rebuilt f h ∙ same_subs f g (first_components f) a ∙ ap (flat_map (λ c. below c (sub_map g (c ∷ [])))) e ∙ sym (rebuilt g k)

-- the first components are components
pub firsts_proper : {X : Type 0} (f : List (Path × X)) → T (are_file_paths f) → T (list_all is_component (first_components f))
firsts_proper [] h = tt
firsts_proper (e ∷ es) h = put_first (first_component e.0) (first_components es) (of_path e.0 (first _ _ h)) (firsts_proper es (second _ _ h))
  where
    of_path : (p : Path) → T (is_file_path p) → T (is_component (first_component p))
    of_path [] k = absurd k
    of_path (c ∷ p) k = first (is_component c) (list_all is_component p) (first _ _ k)

    put_first : (c : Bytes) (ds : List Bytes) → T (is_component c) → T (list_all is_component ds) → T (list_all is_component (with_first c ds))
    put_first c [] k r = both (is_component c) true k tt
    put_first c (d ∷ ds) k r = elim (same_bytes c d) as (λ b. T (list_all is_component (cond b (d ∷ ds) (c ∷ d ∷ ds)))) [ true ↦ r | false ↦ both _ _ k r ]

-- there is one byte for two digits
pub unhex_long : (x : Bytes) (n : ℕ) → length x ≡ 2 * n → length (unhex x) ≡ n
unhex_long [] n e = omega arith
unhex_long (a ∷ []) n e = absurd (omega arith)
unhex_long (a ∷ b ∷ x) zero e = absurd (omega arith)
unhex_long (a ∷ b ∷ x) (suc n) e = let r = unhex_long x n (omega arith) in omega arith

all_three : {A : Type 0} (P Q R S : A → Type 0) → ((a : A) → P a → Q a → R a → S a) → (xs : List A) → AllByRecursion P xs → AllByRecursion Q xs → AllByRecursion R xs → AllByRecursion S xs
all_three P Q R S f [] p q r = tt
all_three P Q R S f (x ∷ xs) p q r = (f x p.0 q.0 r.0, all_three P Q R S f xs p.1 q.1 r.1)

-- a name's digits are 40
pub forty : (x : Bytes) → T (is_name_text x) → length x ≡ 40
forty x h = eqb→eq (length x) 40 (first (nat_eq (length x) 40) (list_all is_lower_digit x) h)

-- a name's digits are lower-case digits
pub digits_of : (x : Bytes) → T (is_name_text x) → T (list_all is_lower_digit x)
digits_of x h = second (nat_eq (length x) 40) (list_all is_lower_digit x) h

bytes_of : Value → Bytes
bytes_of (blob_value x) = x
bytes_of _ = []

files_in : Value → FileMap Bytes
files_in (tree_value f) = f
files_in _ = []

module _ (name : Kind → Bytes → Bytes) (namer : IsNamer name) where
  content_long : (m : Mode) (x : Bytes) → T (is_leaf m x) → length (content_name name m x) ≡ 20
  content_long File x h = namer.long kind.Blob x
  content_long Exec x h = namer.long kind.Blob x
  content_long Link x h = namer.long kind.Blob x
  content_long Gitlink x h = unhex_long x 20 (forty x h)
  content_long Dir x h = absurd h

  -- a name in place of a content
  abbrev pub leaf_named : Leaf Bytes → Leaf Bytes
  leaf_named x = (x.0, content_name name x.0 x.1)

  -- a leaf that may stand in a file map
  abbrev pub IsLeaf : Leaf Bytes → Type 0
  IsLeaf x = T (is_leaf x.0 x.1)

  -- what stands at a first component, by its name
  abbrev pub node_of : FileMap Bytes → Bytes → Leaf Bytes
  node_of f c = node name (option_map leaf_named (file_at f (c ∷ []))) (tree_name name (sub_map f (c ∷ [])))

  -- the entry at a first component
  abbrev pub node_entry : FileMap Bytes → Bytes → Entry
  node_entry f c = entry name c (node_of f c)

  -- the entries of a file map are those at its first components
  pub spelling : (f : FileMap Bytes) → entries name (named_map name f) ≡ map (node_entry f) (first_components f)
  spelling f =
      unrolled name (named_map name f)
      ∙ (λ i. map (λ c. entry name c (node name (at_named name f (c ∷ []) i) (name kind.Tree (tree_body name (sub_named name f c i))))) (firsts_named name f i))

  node_long : (o : Option (Leaf Bytes)) (n : Bytes) → IfSome o IsLeaf → length n ≡ 20 → length (node name (option_map leaf_named o) n).1 ≡ 20
  node_long None n h e = e
  node_long (Some x) n h e = content_long x.0 x.1 h

  -- what is found in a file map may stand there
  pub leaves : (f : FileMap Bytes) (p : Path) → T (is_content f) → IfSome (file_at f p) IsLeaf
  leaves f p h = found (same_path p) (λ x. is_leaf x.0 x.1) f (second (is_file_map f) _ h)

  -- the entries of a file map have components and names of 20 bytes
  pub nodes_named : (f : FileMap Bytes) (cs : List Bytes) → T (is_content f) → T (list_all is_component cs) → AreNamed 20 (map (node_entry f) cs)
  nodes_named f [] h k = tt
  nodes_named f (c ∷ cs) h k = ((first _ _ k, node_long (file_at f (c ∷ [])) _ (leaves f (c ∷ []) h) (namer.long kind.Tree _)), nodes_named f cs h (second _ _ k))

  one_row : (f g : FileMap Bytes) (cs ds : List Bytes) → map (node_entry f) cs ≡ map (node_entry g) ds → (cs ≡ ds) × AllByRecursion (λ c. node_of f c ≡ node_of g c) cs
  one_row f g [] [] e = (refl, tt)
  one_row f g [] (d ∷ ds) e = absurd (cc)
  one_row f g (c ∷ cs) [] e = absurd (cc)
  one_row f g (c ∷ cs) (d ∷ ds) e =
      let one : node_entry f c ≡ node_entry g d = cc in
      let more : map (node_entry f) cs ≡ map (node_entry g) ds = cc in
      let rest = one_row f g cs ds more in
      let s : c ≡ d = ap (λ x. x.component) one in
      let t : node_of f c ≡ node_of g d = λ i. ((one i).mode, (one i).name) in
      (λ i. s i ∷ rest.0 i, (t ∙ ap (node_of g) (sym s), rest.1))

  module _ (Known : Value → Type 0) (uniq : (x y : Value) → Known x → Known y → name_of name x ≡ name_of name y → x ≡ y) where
    abbrev IsKnown : Leaf Bytes → Type 0
    IsKnown x = IfSome (blob_of x.0 x.1) Known

    -- the file at a path has known bytes
    pub found_known : (f : FileMap Bytes) (p : Path) → AllByRecursion Known (blobs_of f) → IfSome (file_at f p) IsKnown
    found_known [] p h = tt
    found_known (e ∷ es) p h =
        let both_parts = by (blob_of e.1.0 e.1.1) (blobs_of es) h in
        elim (same_path p e.0) as (λ b. IfSome (cond b (Some e.1) (file_at es p)) IsKnown) [ true ↦ both_parts.0 | false ↦ found_known es p both_parts.1 ]
      where
        by : (o : Option Value) (vs : List Value) → AllByRecursion Known (cons_option o vs) → IfSome o Known × AllByRecursion Known vs
        by None vs k = (tt, k)
        by (Some v) vs k = (k.0, k.1)

    one_content : (m : Mode) (a b : Bytes) → T (is_leaf m a) → T (is_leaf m b) → IsKnown (m, a) → IsKnown (m, b) → content_name name m a ≡ content_name name m b → a ≡ b
    unfolding bytes_of
    one_content File a b h g k l e = ap bytes_of (uniq (blob_value a) (blob_value b) k l e)
    one_content Exec a b h g k l e = ap bytes_of (uniq (blob_value a) (blob_value b) k l e)
    one_content Link a b h g k l e = ap bytes_of (uniq (blob_value a) (blob_value b) k l e)
    one_content Gitlink a b h g k l e = one_unhex a b (digits_of a h) (digits_of b g) (forty a h ∙ sym (forty b g)) (ap (λ n. n % 2) (forty a h)) e
    one_content Dir a b h g k l e = absurd h

    one_leaf : (x y : Leaf Bytes) → IsLeaf x → IsLeaf y → IsKnown x → IsKnown y → leaf_named x ≡ leaf_named y → x ≡ y
    one_leaf x y h g k l e =
        along y.0 y.1 (ap (λ q. q.0) e) g l (ap (λ q. q.1) e)
      where
        along : (n : Mode) (b : Bytes) → x.0 ≡ n → T (is_leaf n b) → IsKnown (n, b) → content_name name x.0 x.1 ≡ content_name name n b → x ≡ (n, b)
        along n b s =
            subst (λ (z : Mode). T (is_leaf z b) → IsKnown (z, b) → content_name name x.0 x.1 ≡ content_name name z b → x ≡ (z, b)) s
            (λ u v w. ap (λ q. (x.0, q)) (one_content x.0 x.1 b h u k v w))

    one_sub : (f g : FileMap Bytes) (c : Bytes) (o p : Option (Leaf Bytes)) → T (are_apart f) → T (are_apart g) → file_at f (c ∷ []) ≡ o → file_at g (c ∷ []) ≡ p
        → IfSome o IsLeaf → IfSome p IsLeaf → IfSome o IsKnown → IfSome p IsKnown
        → (is_none o ≡ true → Known (tree_value (sub_map f (c ∷ [])))) → (is_none p ≡ true → Known (tree_value (sub_map g (c ∷ []))))
        → node name (option_map leaf_named o) (tree_name name (sub_map f (c ∷ []))) ≡ node name (option_map leaf_named p) (tree_name name (sub_map g (c ∷ [])))
        → sub_map f (c ∷ []) ≡ sub_map g (c ∷ [])
    unfolding files_in
    one_sub f g c None None af ag i j h k u v s t e = ap files_in (uniq (tree_value (sub_map f (c ∷ []))) (tree_value (sub_map g (c ∷ []))) (s refl) (t refl) (ap (λ q. q.1) e))
    one_sub f g c None (Some y) af ag i j h k u v s t e = absurd (subst (λ m. T (is_leaf m y.1)) (sym (ap (λ q. q.0) e)) k)
    one_sub f g c (Some x) None af ag i j h k u v s t e = absurd (subst (λ m. T (is_leaf m x.1)) (ap (λ q. q.0) e) h)
    one_sub f g c (Some x) (Some y) af ag i j h k u v s t e =
        only_file c f x af i ∙ ap (λ z. ([], z) ∷ []) (one_leaf x y h k u v e) ∙ sym (only_file c g y ag j)

    -- the sub-maps at directories are known
    pub dirs_known : (f : FileMap Bytes) → AllByRecursion Known (parts (tree_value f)) → AllByRecursion (λ c. is_none (file_at f (c ∷ [])) ≡ true → Known (tree_value (sub_map f (c ∷ [])))) (first_components f)
    dirs_known f h =
        all_unfilter (λ c. Known (tree_value (sub_map f (c ∷ [])))) (λ c. is_none (file_at f (c ∷ []))) (first_components f)
        (all_unmap (λ g. Known (tree_value g)) (λ c. sub_map f (c ∷ [])) (filter (λ c. is_none (file_at f (c ∷ []))) (first_components f))
        (all_unmap Known tree_value (sub_maps f) (all_right Known (blobs_of f) (map tree_value (sub_maps f)) h)))

    -- the body of a tree tells its file map
    pub one_tree : (f g : FileMap Bytes) → T (is_content f) → T (is_content g) → AllByRecursion Known (parts (tree_value f)) → AllByRecursion Known (parts (tree_value g)) → tree_body name (named_map name f) ≡ tree_body name (named_map name g) → f ≡ g
    one_tree f g h k u v e =
        let pf : Parts f = parts_of f (is_true _ (first (is_file_map f) _ h)) in
        let pg : Parts g = parts_of g (is_true _ (first (is_file_map g) _ k)) in
        let rows = one_tree_text 20 (map (node_entry f) (first_components f)) (map (node_entry g) (first_components g))
        (nodes_named f (first_components f) h (firsts_proper f pf.paths)) (nodes_named g (first_components g) k (firsts_proper g pg.paths))
        (sym (ap tree_text (spelling f)) ∙ e ∙ ap tree_text (spelling g)) in
        let told = one_row f g (first_components f) (first_components g) rows in
        from_subs f g pf pg told.0
        (all_three (λ c. node_of f c ≡ node_of g c) (λ c. is_none (file_at f (c ∷ [])) ≡ true → Known (tree_value (sub_map f (c ∷ [])))) (λ c. is_none (file_at g (c ∷ [])) ≡ true → Known (tree_value (sub_map g (c ∷ [])))) (λ c. sub_map f (c ∷ []) ≡ sub_map g (c ∷ []))
        (λ c n s t. one_sub f g c (file_at f (c ∷ [])) (file_at g (c ∷ [])) pf.apart pg.apart refl refl (leaves f (c ∷ []) h) (leaves g (c ∷ []) k)
        (found_known f (c ∷ []) (all_left Known (blobs_of f) _ u)) (found_known g (c ∷ []) (all_left Known (blobs_of g) _ v)) s t n)
        (first_components f) told.1 (dirs_known f u)
        (subst (AllByRecursion (λ c. is_none (file_at g (c ∷ [])) ≡ true → Known (tree_value (sub_map g (c ∷ []))))) (sym told.0) (dirs_known g v)))
