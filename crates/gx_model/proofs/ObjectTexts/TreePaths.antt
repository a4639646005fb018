-- The paths below a tree's entries are those of its file map.
use Rattle.std.proofs.Common.{◌≡◌, ℕ, ◌<◌, ◌+◌, ◌*◌, arith, length, eq-eqb, Bool, true, false, cond, refl, sym, ap, subst, ◌∙◌, List, [], ◌∷◌, drop, map, Option, None, Some, inl, inr}
use Rattle.std.specs.Prelude.{T, ◌&&◌, is_none, is_some, IfSome, nat_lt}
use Rattle.std.specs.List.{list_all, AllByRecursion}
use Rattle.std.specs.Option.{option_map}
use Rattle.std.specs.Bool.{passes}
use Rattle.gx_model.specs.declared.objects.Kind.{Kind}
use Rattle.gx_model.specs.declared.objects.Kind.TheVariants as kind
use Rattle.gx_model.specs.declared.objects.Mode.{Mode}
use Rattle.gx_model.specs.declared.objects.Mode.TheVariants.{File, Exec, Link, Gitlink, Dir}
use Rattle.gx_model.specs.Texts.{Bytes, same_bytes}
use Rattle.gx_model.specs.Texts.Paths.{Path, same_path, is_file_path}
use Rattle.gx_model.specs.Histories.Files.{FileMap, Leaf, first_component, first_components, with_first, file_at, sub_map, under, are_file_paths, are_apart, is_file_map}
use Rattle.gx_model.specs.Histories.Values.{Value, tree_value, is_content, is_leaf}
use Rattle.gx_model.specs.Texts.Digits.{is_lower_digit}
use Rattle.gx_model.specs.Objects.{IsNamer, unhex, digit_value, Entry, is_name, IsTreeText}
use Rattle.gx_model.specs.Records.{content_name, node, entries, named_map, tree_name, tree_body, name_of, body_of}
use Rattle.gx_model.specs.Histories.{Record, AreDistinct, IsIn, record_of}
use Rattle.gx_model.specs.Histories.{IsWhole}
use Rattle.gx_model.specs.Records.Sound.{AnyByRecursion, HasPath, here, below}
use Rattle.gx_model.specs.Records.HistoryOf.{entries_in}
use Rattle.gx_model.proofs.Texts.PathTests.{both, first, second, is_true, is_same, same_is, path_same}
use Rattle.gx_model.proofs.Histories.FileMapEdits.{Parts, parts_of}
use Rattle.gx_model.proofs.ObjectTexts.OneTree.{spelling, node_entry, node_of, leaf_named, leaves, only_file, dirs_known, forty, digits_of, unhex_long}
use Rattle.gx_model.proofs.Records.OneHistory.{told_by_name}
use Rattle.gx_model.proofs.ObjectTexts.CanonicalTrees.{canonical_entries}
use Rattle.std.proofs.lemmas.Bool.Decides.{nat_tests}
use Rattle.gx_model.proofs.Texts.HexDigits.{value_is}
use Rattle.gx_model.proofs.ObjectTexts.BodiesReadBack.{entries_read}
use Rattle.gx_model.proofs.Records.LinkedValues.{proper_in, parts_in}

-- ---- some element

-- an element's image is among the images
pub some_map : {A B : Type 0} (h : A → B) (a : A) (xs : List A) → AnyByRecursion (λ x. x ≡ a) xs → AnyByRecursion (λ y. y ≡ h a) (map h xs)
some_map h a [] s = absurd s
some_map h a (x ∷ xs) s = elim s [ inl e ↦ inl (ap h e) | inr k ↦ inr (some_map h a xs k) ]

-- an image is that of an element
pub some_unmap : {A B : Type 0} (h : A → B) (b : B) (xs : List A) → AnyByRecursion (λ y. y ≡ b) (map h xs) → (a : A) × AnyByRecursion (λ x. x ≡ a) xs × (h a ≡ b)
some_unmap h b [] s = absurd s
some_unmap h b (x ∷ xs) s = elim s [ inl e ↦ (x, inl refl, e) | inr k ↦ let r = some_unmap h b xs k in (r.0, inr r.1, r.2) ]

-- what holds of all elements holds of one of them
pub pick : {A : Type 0} (P : A → Type 0) (a : A) (xs : List A) → AllByRecursion P xs → AnyByRecursion (λ x. x ≡ a) xs → P a
pick P a [] h s = absurd s
pick P a (x ∷ xs) h s = elim s [ inl e ↦ subst P e h.0 | inr k ↦ pick P a xs h.1 k ]

-- what holds of some record of values holds of the record of one that stands
pub some_unrecord : (name : Kind → Bytes → Bytes) (P : Record → Type 0) (vs : List Value) → AnyByRecursion P (map (record_of name) vs) → (v : Value) × IsIn vs v × P (record_of name v)
some_unrecord name P [] s = absurd s
some_unrecord name P (v ∷ vs) s = elim s [ inl p ↦ (v, inl refl, p) | inr k ↦ let r = some_unrecord name P vs k in (r.0, inr r.1, r.2) ]

-- ---- one component down

abbrev off_first : FileMap Bytes → FileMap Bytes
off_first es = map (λ e. (drop 1 e.0, e.1)) es

-- what is found in the sub-map at a component is found below that component
pub file_sub : (c : Bytes) (p : Path) (f : FileMap Bytes) → file_at (sub_map f (c ∷ [])) p ≡ file_at f (c ∷ p)
file_sub c p [] = refl
file_sub c p (e ∷ es) = by e.0 (file_sub c p es)
  where
    by : (q : Path) → file_at (sub_map es (c ∷ [])) p ≡ file_at es (c ∷ p) → file_at (sub_map ((q, e.1) ∷ es) (c ∷ [])) p ≡ file_at ((q, e.1) ∷ es) (c ∷ p)
    by [] rest = rest
    by (d ∷ q) rest =
        elim (same_bytes c d) as (λ b. file_at (off_first (cond (b && true) ((d ∷ q, e.1) ∷ under (c ∷ []) es) (under (c ∷ []) es))) p ≡ cond (b && same_path p q) (Some e.1) (file_at es (c ∷ p))) [
          | true ↦ ap (λ o. cond (same_path p q) (Some e.1) o) rest
          | false ↦ rest
        ]

put_in : (c d : Bytes) (ds : List Bytes) → T (same_bytes d c) → AnyByRecursion (λ x. x ≡ c) (with_first d ds)
put_in c d [] h = inl (same_is d c h)
put_in c d (e ∷ ds) h = elim (same_bytes d e) as (λ b. same_bytes d e ≡ b → AnyByRecursion (λ x. x ≡ c) (cond b (e ∷ ds) (d ∷ e ∷ ds))) [ true ↦ λ k. inl (sym (same_is d e (passes _ k)) ∙ same_is d c h) | false ↦ λ k. inl (same_is d c h) ] refl

keep_in : (c d : Bytes) (ds : List Bytes) → AnyByRecursion (λ x. x ≡ c) ds → AnyByRecursion (λ x. x ≡ c) (with_first d ds)
keep_in c d [] h = absurd h
keep_in c d (e ∷ ds) h = elim (same_bytes d e) as (λ b. AnyByRecursion (λ x. x ≡ c) (cond b (e ∷ ds) (d ∷ e ∷ ds))) [ true ↦ h | false ↦ inr h ]

-- a path's first component is among the first components
pub first_in : (c : Bytes) (p : Path) (f : FileMap Bytes) → is_some (file_at f (c ∷ p)) ≡ true → AnyByRecursion (λ x. x ≡ c) (first_components f)
first_in c p [] h = absurd (cc)
first_in c p (e ∷ es) h = by e.0 (first_in c p es) h
  where
    by : (q : Path) → (is_some (file_at es (c ∷ p)) ≡ true → AnyByRecursion (λ x. x ≡ c) (first_components es)) → is_some (cond (same_path (c ∷ p) q) (Some e.1) (file_at es (c ∷ p))) ≡ true → AnyByRecursion (λ x. x ≡ c) (with_first (first_component q) (first_components es))
    by [] rest k = keep_in c [] (first_components es) (rest k)
    by (d ∷ q) rest k =
        elim (same_bytes c d) as (λ b. same_bytes c d ≡ b → is_some (cond (b && same_path p q) (Some e.1) (file_at es (c ∷ p))) ≡ true → AnyByRecursion (λ x. x ≡ c) (with_first d (first_components es))) [
          | true ↦ λ i j. put_in c d (first_components es) (is_same d c (sym (same_is c d (passes _ i))))
          | false ↦ λ i j. keep_in c d (first_components es) (rest j)
        ] refl k

-- no file is at the root
pub none_at_root : (f : FileMap Bytes) → T (are_file_paths f) → file_at f [] ≡ None
none_at_root [] h = refl
none_at_root (e ∷ es) h = by e.0 (first _ _ h) (none_at_root es (second (is_file_path e.0) (are_file_paths es) h))
  where
    by : (q : Path) → T (is_file_path q) → file_at es [] ≡ None → cond (same_path [] q) (Some e.1) (file_at es []) ≡ None
    by [] k rest = absurd k
    by (d ∷ q) k rest = rest

-- where a file is below c, c is no file
pub no_file_above : (c d : Bytes) (p : Path) (f : FileMap Bytes) → T (are_apart f) → is_some (file_at f (c ∷ d ∷ p)) ≡ true → file_at f (c ∷ []) ≡ None
no_file_above c d p f a h = by (file_at f (c ∷ [])) refl
  where
    by : (o : Option (Leaf Bytes)) → file_at f (c ∷ []) ≡ o → o ≡ None
    by None e = refl
    by (Some x) e =
        let k : None ≡ file_at f (c ∷ d ∷ p) = ap (λ g. file_at g (d ∷ p)) (sym (only_file c f x a e)) ∙ file_sub c (d ∷ p) f in
        absurd (let l = ap is_some k ∙ h in (cc))

-- a path that holds a test is held by each path of the map
pub each_path : (t : Path → Bool) (f : FileMap Bytes) → ((p : Path) → is_some (file_at f p) ≡ true → T (t p)) → T (list_all (λ e. t e.0) f)
each_path t f h = go [] f (λ p i. h p i)
  where
    go : (before es : FileMap Bytes) → ((p : Path) → is_some (file_at es p) ≡ true → T (t p)) → T (list_all (λ e. t e.0) es)
    go before [] k = tt
    go before (e ∷ es) k =
        both _ _ (k e.0 (ap (λ b. is_some (cond b (Some e.1) (file_at es e.0))) (is_true _ (path_same e.0))))
        (go before es (λ p i. k p (elim (same_path p e.0) as (λ b. is_some (cond b (Some e.1) (file_at es p)) ≡ true) [ true ↦ refl | false ↦ i ])))

-- contents are a file map
pub content_parts : (f : FileMap Bytes) → T (is_content f) → Parts f
content_parts f h = parts_of f (is_true _ (first (is_file_map f) _ h))

no_dir_leaf : (x : Leaf Bytes) → T (is_leaf x.0 x.1) → x.0 ≡ Dir → ⊥
no_dir_leaf x h e = subst (λ m. T (is_leaf m x.1)) e h

-- the bytes of lower-case digits are below 256
pub unhex_bytes : (x : Bytes) → T (list_all is_lower_digit x) → T (list_all (λ b. nat_lt b 256) (unhex x))
unhex_bytes [] h = tt
unhex_bytes (a ∷ []) h = tt
unhex_bytes (a ∷ b ∷ x) h =
    let u = value_is a (first (is_lower_digit a) (list_all is_lower_digit (b ∷ x)) h) in
    let k = second (is_lower_digit a) (list_all is_lower_digit (b ∷ x)) h in
    let v = value_is b (first (is_lower_digit b) (list_all is_lower_digit x) k) in
    let l : 16 * digit_value a + digit_value b < 256 = pair (digit_value a) (digit_value b) u.0 v.0 in
    both _ _ (passes _ (lt_test _ _ l)) (unhex_bytes x (second (is_lower_digit b) (list_all is_lower_digit x) k))
  where
    pair : (m n : ℕ) → m < 16 → n < 16 → 16 * m + n < 256
    pair m n h k = omega arith

    lt_test : (m n : ℕ) → m < n → nat_lt m n ≡ true
    lt_test m n h = grind (arith, nat_tests)

-- what a namer gives is a name
pub name_is_name : (name : Kind → Bytes → Bytes) → IsNamer name → (k : Kind) (body : Bytes) → T (is_name (name k body))
name_is_name name namer k body = both _ _ (passes _ (eq-eqb (length (name k body)) 20 (namer.long k body))) (passes _ (namer.bytes k body))

module _ (name : Kind → Bytes → Bytes) (namer : IsNamer name) where
  -- the entries of a file map
  abbrev pub entries_of : FileMap Bytes → List Entry
  entries_of f = entries name (named_map name f)

  named_entries : (es : List Entry) → AllByRecursion (λ e. T (is_name e.name)) es → T (list_all (λ e. is_name e.name) es)
  named_entries [] h = tt
  named_entries (e ∷ es) h = both _ _ h.0 (named_entries es h.1)

  -- the entry at a first component
  pub entry_in_tree : (f : FileMap Bytes) (c : Bytes) → AnyByRecursion (λ x. x ≡ c) (first_components f) → AnyByRecursion (λ x. x ≡ node_entry name namer f c) (entries_of f)
  entry_in_tree f c s = subst (AnyByRecursion (λ x. x ≡ node_entry name namer f c)) (sym (spelling name namer f)) (some_map (node_entry name namer f) c (first_components f) s)

  -- each entry is that at a first component
  pub entry_of_tree : (f : FileMap Bytes) (e : Entry) → AnyByRecursion (λ x. x ≡ e) (entries_of f) → (c : Bytes) × AnyByRecursion (λ x. x ≡ c) (first_components f) × (node_entry name namer f c ≡ e)
  entry_of_tree f e s = some_unmap (node_entry name namer f) e (first_components f) (subst (AnyByRecursion (λ x. x ≡ e)) (spelling name namer f) s)

  node_dir : (f : FileMap Bytes) (c : Bytes) → file_at f (c ∷ []) ≡ None → ◌≡◌ {A = Leaf Bytes} (node_of name namer f c) (Dir, tree_name name (sub_map f (c ∷ [])))
  node_dir f c h = ap (λ o. node name (option_map (leaf_named name namer) o) (tree_name name (sub_map f (c ∷ [])))) h

  node_leaf : (f : FileMap Bytes) (c : Bytes) (x : Leaf Bytes) → file_at f (c ∷ []) ≡ Some x → node_of name namer f c ≡ leaf_named name namer x
  node_leaf f c x h = ap (λ o. node name (option_map (leaf_named name namer) o) (tree_name name (sub_map f (c ∷ [])))) h

  -- what is found in contents may stand there
  pub leaf_at : (f : FileMap Bytes) (p : Path) (x : Leaf Bytes) → T (is_content f) → file_at f p ≡ Some x → T (is_leaf x.0 x.1)
  leaf_at f p x h e = subst (λ o. IfSome o (λ y. T (is_leaf y.0 y.1))) e (leaves name namer f p h)

  node_is_name : (o : Option (Leaf Bytes)) (n : Bytes) → IfSome o (λ x. T (is_leaf x.0 x.1)) → T (is_name n) → T (is_name (node name (option_map (leaf_named name namer) o) n).1)
  node_is_name None n h k = k
  node_is_name (Some x) n h k = leaf_is_name x.0 x.1 h
    where
      leaf_is_name : (m : Mode) (b : Bytes) → T (is_leaf m b) → T (is_name (content_name name m b))
      leaf_is_name File b h = name_is_name name namer kind.Blob b
      leaf_is_name Exec b h = name_is_name name namer kind.Blob b
      leaf_is_name Link b h = name_is_name name namer kind.Blob b
      leaf_is_name Gitlink b h = both _ _ (passes _ (eq-eqb (length (unhex b)) 20 (unhex_long b 20 (forty b h)))) (unhex_bytes b (digits_of b h))
      leaf_is_name Dir b h = absurd h

  nodes_are_named : (f : FileMap Bytes) (cs : List Bytes) → T (is_content f) → T (list_all (λ e. is_name e.name) (map (node_entry name namer f) cs))
  nodes_are_named f [] h = tt
  nodes_are_named f (c ∷ cs) h = both _ _ (node_is_name (file_at f (c ∷ [])) (tree_name name (sub_map f (c ∷ []))) (leaves name namer f (c ∷ []) h) (name_is_name name namer kind.Tree _)) (nodes_are_named f cs h)

  -- the body of a tree is that of its entries
  pub text_of_tree : (f : FileMap Bytes) → T (is_content f) → IsTreeText (entries_of f) (tree_body name (named_map name f))
  text_of_tree f h = (refl, is_true _ (canonical_entries name namer f h), is_true _ (subst (λ es. T (list_all (λ e. is_name e.name) es)) (sym (spelling name namer f)) (nodes_are_named f (first_components f) h)))

  module _ (vs : List Value) (whole : IsWhole vs) (distinct : AreDistinct (map (name_of name) vs)) where
    -- a file map that stands is one of contents
    pub content_in : (f : FileMap Bytes) → IsIn vs (tree_value f) → T (is_content f)
    content_in f i = proper_in vs (tree_value f) (passes _ whole.proper) i

    -- the sub-map at a directory of a file map that stands does, too
    pub sub_in : (f : FileMap Bytes) (c : Bytes) → IsIn vs (tree_value f) → AnyByRecursion (λ x. x ≡ c) (first_components f) → file_at f (c ∷ []) ≡ None → IsIn vs (tree_value (sub_map f (c ∷ [])))
    sub_in f c i s n =
        pick (λ d. is_none (file_at f (d ∷ [])) ≡ true → IsIn vs (tree_value (sub_map f (d ∷ [])))) c (first_components f)
        (dirs_known name namer (IsIn vs) (told_by_name name namer vs distinct) f (parts_in vs (tree_value f) whole i)) s (ap is_none n)

    -- each path of the map is one below its entries
    pub has_path : (all : List Record) → ((P : Record → Type 0) (v : Value) → IsIn vs v → P (record_of name v) → AnyByRecursion P all) → (p : Path) (f : FileMap Bytes) → IsIn vs (tree_value f) → is_some (file_at f p) ≡ true → HasPath all (entries_of f) p
    has_path all held [] f i h = absurd (let k = ap is_some (none_at_root f (content_parts f (content_in f i)).paths) in let l = sym k ∙ h in (cc))
    has_path all held (c ∷ []) f i h = by (file_at f (c ∷ [])) refl
      where
        by : (o : Option (Leaf Bytes)) → file_at f (c ∷ []) ≡ o → HasPath all (entries_of f) (c ∷ [])
        by None e = absurd (let l = sym (ap is_some e) ∙ h in (cc))
        by (Some x) e =
            here (node_entry name namer f c) (entry_in_tree f c (first_in c [] f h))
            (λ d. no_dir_leaf x (leaf_at f (c ∷ []) x (content_in f i) e) (sym (ap (λ (y : Leaf Bytes). y.0) (node_leaf f c x e)) ∙ d))
    has_path all held (c ∷ d ∷ p) f i h =
        let n = no_file_above c d p f (content_parts f (content_in f i)).apart h in
        let s = first_in c (d ∷ p) f h in
        let g = sub_map f (c ∷ []) in
        let j = sub_in f c i s n in
        below (node_entry name namer f c) (entries_of g) (entry_in_tree f c s) (ap (λ (y : Leaf Bytes). y.0) (node_dir f c n))
        (held (λ r. (r.kind ≡ kind.Tree) × (r.name ≡ (node_entry name namer f c).name) × IsTreeText (entries_of g) r.body) (tree_value g) j
        (refl, sym (ap (λ (y : Leaf Bytes). y.1) (node_dir f c n)), text_of_tree g (content_in g j)))
        (has_path all held (d ∷ p) g j (ap is_some (file_sub c (d ∷ p) f) ∙ h))

    -- and each path below its entries is one of the map
    pub path_held : (es : List Entry) (p : Path) → HasPath (map (record_of name) vs) es p → (f : FileMap Bytes) → IsIn vs (tree_value f) → es ≡ entries_of f → is_some (file_at f p) ≡ true
    path_held es p (here e s m) f i q =
        let t = entry_of_tree f e (subst (AnyByRecursion (λ x. x ≡ e)) q s) in
        let c = t.0 in
        by c (ap (λ x. x.component) t.2) (λ k. m (sym (ap (λ x. x.mode) t.2) ∙ k)) (file_at f (c ∷ [])) refl
      where
        by : (c : Bytes) → c ≡ e.component → ((node_entry name namer f c).mode ≡ Dir → ⊥) → (o : Option (Leaf Bytes)) → file_at f (c ∷ []) ≡ o → is_some (file_at f (e.component ∷ [])) ≡ true
        by c k n None j = absurd (n (ap (λ (y : Leaf Bytes). y.0) (node_dir f c j)))
        by c k n (Some x) j = ap (λ d. is_some (file_at f (d ∷ []))) (sym k) ∙ ap is_some j
    path_held es p (below {p = q} e fs s m r rest) f i eq =
        let t = entry_of_tree f e (subst (AnyByRecursion (λ x. x ≡ e)) eq s) in
        let c = t.0 in
        let n : file_at f (c ∷ []) ≡ None = dir_none c (ap (λ x. x.mode) t.2 ∙ m) (file_at f (c ∷ [])) refl in
        let j = sub_in f c i t.1 n in
        let u = some_unrecord name _ vs r in
        let same : u.0 ≡ tree_value (sub_map f (c ∷ [])) = told_by_name name namer vs distinct u.0 (tree_value (sub_map f (c ∷ []))) u.1 j (u.2.1 ∙ sym (ap (λ x. x.name) t.2) ∙ ap (λ (y : Leaf Bytes). y.1) (node_dir f c n)) in
        let fs_is : fs ≡ entries_of (sub_map f (c ∷ [])) =
        sym (entries_read fs _ u.2.2) ∙ ap (λ v. entries_in (body_of name v)) same ∙ entries_read (entries_of (sub_map f (c ∷ []))) _ (text_of_tree (sub_map f (c ∷ [])) (content_in (sub_map f (c ∷ [])) j)) in
        ap (λ d. is_some (file_at f (d ∷ q))) (sym (ap (λ x. x.component) t.2)) ∙ ap is_some (sym (file_sub c q f)) ∙ path_held fs q rest (sub_map f (c ∷ [])) j fs_is
      where
        dir_none : (c : Bytes) → (node_entry name namer f c).mode ≡ Dir → (o : Option (Leaf Bytes)) → file_at f (c ∷ []) ≡ o → o ≡ None
        dir_none c k None j = refl
        dir_none c k (Some x) j = absurd (no_dir_leaf x (leaf_at f (c ∷ []) x (content_in f i) j) (sym (ap (λ (y : Leaf Bytes). y.0) (node_leaf f c x j)) ∙ k))
