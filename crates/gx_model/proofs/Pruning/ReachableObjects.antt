-- Which objects refs reach: the least set by names, and the values that refs reach.
use Rattle.std.proofs.Common.{◌≡◌, ℕ, zero, suc, ◌≤◌, Bool, true, cond, refl, sym, ap, subst, ◌∙◌, arith, List, [], ◌∷◌, ◌++◌, map, Option, None, Some, inl, inr, append_assoc}
use Rattle.std.specs.Prelude.{T, ◌&&◌, is_none, IfSome, IsTrue}
use Rattle.std.specs.List.{AllByRecursion, cons_option, filter, filter_map, flat_map, list_all, list_any}
use Rattle.std.specs.Option.{option_map}
use Rattle.std.specs.Bool.{passes}
use Rattle.gx_model.specs.declared.objects.Kind.{Kind}
use Rattle.gx_model.specs.declared.objects.Kind.TheVariants as kind
use Rattle.gx_model.specs.declared.objects.Mode.{Mode}
use Rattle.gx_model.specs.declared.objects.Mode.TheVariants.{Dir, Exec, File, Gitlink, Link}
use Rattle.gx_model.specs.Texts.{Bytes, same_bytes}
use Rattle.gx_model.specs.Histories.Files.{FileMap, Leaf, depth, file_at, first_components, sub_map}
use Rattle.gx_model.specs.Histories.Values.{Commit, Commits, Tag, Value, blob_of, blob_value, blobs_of, commit_value, files_of, is_content, is_leaf, is_proper, list_of, more, none, parents_of, parts, sub_maps, tag_value, tree_value, unless_gitlink}
use Rattle.gx_model.specs.Histories.{AreDistinct, IsClosedAfter, IsIn, IsWhole, Reaches, Record, Target, itself, record_of, through, value_at}
use Rattle.gx_model.specs.Laws.ExportLaws.{AnyReaches}
use Rattle.gx_model.specs.Laws.PruningLaws.{LinksHave}
use Rattle.gx_model.specs.Objects.{IsNamer}
use Rattle.gx_model.specs.Pruning.{is_reachable, is_tip, link_of, links_of, links_to}
use Rattle.gx_model.specs.Records.HistoryOf.{placed}
use Rattle.gx_model.specs.Records.{body_of, commit_body, content_name, entry, kind_of, name_of, named_map, names_of, node, parts_of_commit, tag_body, tree_body, tree_name}
use Rattle.gx_model.proofs.Histories.AddedValues.{all_join, empty_of, in_right, paths_of}
use Rattle.gx_model.proofs.ObjectTexts.BodiesReadBack.{commit_read, entries_read, tag_read}
use Rattle.gx_model.proofs.Histories.FileMapEdits.{Parts}
use Rattle.gx_model.proofs.Records.HeldValues.{text_is}
use Rattle.gx_model.proofs.Records.HistoriesAreSound.{IsKnown, file_known, subs_known}
use Rattle.gx_model.proofs.Records.HistoriesExist.{tag_text_is}
use Rattle.gx_model.proofs.Export.KeptCommits.{all_in, any_from, any_in, each_in, reaches_trans}
use Rattle.gx_model.proofs.Records.LinkedValues.{parts_in, proper_in}
use Rattle.gx_model.proofs.Records.OneHistory.{no_other, told_by_name}
use Rattle.gx_model.proofs.ObjectTexts.OneTree.{all_left, all_unmap, leaf_named, leaves, node_entry, only_file, rebuilt, spelling}
use Rattle.gx_model.proofs.Texts.PathTests.{both, first, is_same, is_true, left_or, one_of, right_or, same_is, second}
use Rattle.gx_model.proofs.ObjectTexts.RebuiltValues.{blobs_append, blobs_placed}
use Rattle.gx_model.proofs.ObjectTexts.TreeBodies.{depth_sub}
use Rattle.gx_model.proofs.ObjectTexts.TreePaths.{content_parts, entries_of, leaf_at, text_of_tree}

abbrev pub Refs : Type 0
Refs = List (Bytes × Bytes)

-- ---- the least set

-- what a ref holds is reached, whatever the records
pub tip_reached : (refs : Refs) (rs : List Record) (n : Bytes) → T (is_tip refs n) → T (is_reachable refs rs n)
tip_reached refs [] n h = h
tip_reached refs (r ∷ rs) n h = left_or (is_reachable refs rs n) _ (tip_reached refs rs n h)

-- each ref holds what is reached
pub tips_reached : (refs : Refs) (rs : List Record) → AllByRecursion (λ ref. IsTrue (is_reachable refs rs ref.1)) refs
tips_reached refs rs = by refs (λ n h. h) where
  by : (qs : Refs) → ((n : Bytes) → T (is_tip qs n) → T (is_tip refs n)) → AllByRecursion (λ ref. IsTrue (is_reachable refs rs ref.1)) qs
  by [] f = tt
  by (q ∷ qs) f = (is_true _ (tip_reached refs rs q.1 (f q.1 (left_or (same_bytes q.1 q.1) (is_tip qs q.1) (is_same q.1 q.1 refl)))), by qs (λ n h. f n (right_or (same_bytes n q.1) (is_tip qs n) h)))

module _ (refs : Refs) (set : Bytes → Bool) where
  tip_in : (qs : Refs) → AllByRecursion (λ ref. IsTrue (set ref.1)) qs → (n : Bytes) → T (is_tip qs n) → T (set n)
  tip_in [] h n k = absurd k
  tip_in (q ∷ qs) h n k = one_of (same_bytes n q.1) (is_tip qs n) k (λ s. subst (λ m. T (set m)) (sym (same_is n q.1 s)) (passes _ h.0)) (λ s. tip_in qs h.1 n s)

  link_in : (ls : List Bytes) → AllByRecursion (λ l. IsTrue (set l)) ls → (n : Bytes) → T (list_any (same_bytes n) ls) → T (set n)
  link_in [] h n k = absurd k
  link_in (l ∷ ls) h n k = one_of (same_bytes n l) (list_any (same_bytes n) ls) k (λ s. subst (λ m. T (set m)) (sym (same_is n l s)) (passes _ h.0)) (λ s. link_in ls h.1 n s)

  -- what is reached is in each set that has what refs hold and what its members name
  pub least : (rs : List Record) → AllByRecursion (λ ref. IsTrue (set ref.1)) refs → AllByRecursion (λ held. IsTrue (set held.name) → LinksHave set held) rs → (n : Bytes) → T (is_reachable refs rs n) → T (set n)
  least [] h k n r = tip_in refs h n r
  least (q ∷ rs) h k n r =
      one_of (is_reachable refs rs n) (is_reachable refs rs q.name && links_to q n) r (λ s. least rs h k.1 n s)
      (λ s. link_in (links_of q.kind q.body) (k.0 (is_true _ (least rs h k.1 q.name (first _ _ s)))) n (second (is_reachable refs rs q.name) (links_to q n) s))

-- ---- lists

some_all : {A B : Type 0} (P : B → Type 0) (h : A → Option B) (xs : List A) → AllByRecursion (λ x. IfSome (h x) P) xs → AllByRecursion P (filter_map h xs)
some_all P h [] k = tt
some_all {A} {B} P h (x ∷ xs) k = by (h x) k.0 (some_all P h xs k.1) where
  by : (o : Option B) → IfSome o P → AllByRecursion P (filter_map h xs) → AllByRecursion P (cons_option o (filter_map h xs))
  by None p r = r
  by (Some y) p r = (p, r)

all_some : {A B : Type 0} (P : B → Type 0) (h : A → Option B) (xs : List A) → AllByRecursion P (filter_map h xs) → AllByRecursion (λ x. IfSome (h x) P) xs
all_some P h [] k = tt
all_some {A} {B} P h (x ∷ xs) k = by (h x) k (all_some P h xs) where
  by : (o : Option B) → AllByRecursion P (cons_option o (filter_map h xs)) → (AllByRecursion P (filter_map h xs) → AllByRecursion (λ x. IfSome (h x) P) xs) → IfSome o P × AllByRecursion (λ x. IfSome (h x) P) xs
  by None r again = (tt, again r)
  by (Some y) r again = (r.0, again r.1)

all_mapped : {A B : Type 0} (P : B → Type 0) (f : A → B) (xs : List A) → AllByRecursion (λ x. P (f x)) xs → AllByRecursion P (map f xs)
all_mapped P f [] h = tt
all_mapped P f (x ∷ xs) h = (h.0, all_mapped P f xs h.1)

all_weaker : {A : Type 0} (P Q : A → Type 0) → ((x : A) → P x → Q x) → (xs : List A) → AllByRecursion P xs → AllByRecursion Q xs
all_weaker P Q f [] h = tt
all_weaker P Q f (x ∷ xs) h = (f x h.0, all_weaker P Q f xs h.1)

each_named : (P : Bytes → Type 0) (ls : List Bytes) → ((n : Bytes) → T (list_any (same_bytes n) ls) → P n) → AllByRecursion P ls
each_named P [] f = tt
each_named P (l ∷ ls) f = (f l (left_or (same_bytes l l) _ (is_same l l refl)), each_named P ls (λ n k. f n (right_or (same_bytes n l) _ k)))

-- ---- what a value's record names

module _ (name : Kind → Bytes → Bytes) (namer : IsNamer name) where
  abbrev links : Value → List Bytes
  links v = links_of (kind_of name v) (body_of name v)

  tree_links : (f : FileMap Bytes) → T (is_content f) → links (tree_value f) ≡ filter_map link_of (map (node_entry name namer f) (first_components f))
  tree_links f h = ap (filter_map link_of) (entries_read (entries_of name namer f) (tree_body name (named_map name f)) (text_of_tree name namer f h) ∙ spelling name namer f)

  commit_links : (c : Commit) → T (is_proper (commit_value c)) → links (commit_value c) ≡ tree_name name (files_of c) ∷ names_of name (parents_of c)
  commit_links c h = ap (λ p. p.tree ∷ p.parents) (commit_read (parts_of_commit name c) (commit_body name c) (text_is name namer c (second (is_content (files_of c)) _ h)))

  tag_links : (t : Tag) → T (is_proper (tag_value t)) → links (tag_value t) ≡ name kind.Commit (commit_body name t.target) ∷ []
  tag_links t h = ap (λ p. p.object ∷ []) (tag_read (record { object = name kind.Commit (commit_body name t.target); name = t.name; tagger = t.tagger; message = t.message }) (tag_body name t) (tag_text_is name namer t h))

  -- a name is that of one of these values
  abbrev Names : List Value → Bytes → Type 0
  Names ws n = (w : Value) × IsIn ws w × (name_of name w ≡ n)

  leaf_named_by : (ws : List Value) (m : Mode) (b : Bytes) → T (is_leaf m b) → IsKnown (IsIn ws) (m, b) → IfSome (unless_gitlink m (content_name name m b)) (Names ws)
  leaf_named_by ws File b l k = (blob_value b, k, refl)
  leaf_named_by ws Exec b l k = (blob_value b, k, refl)
  leaf_named_by ws Link b l k = (blob_value b, k, refl)
  leaf_named_by ws Gitlink b l k = tt
  leaf_named_by ws Dir b l k = absurd l

  node_named_by : (ws : List Value) (c : Bytes) (o : Option (Leaf Bytes)) (g : FileMap Bytes) → IfSome o (λ x. T (is_leaf x.0 x.1)) → IfSome o (IsKnown (IsIn ws)) → (is_none o ≡ true → IsIn ws (tree_value g))
      → IfSome (link_of (entry name c (node name (option_map (leaf_named name namer) o) (tree_name name g)))) (Names ws)
  node_named_by ws c None g l k d = (tree_value g, d refl, refl)
  node_named_by ws c (Some x) g l k d = leaf_named_by ws x.0 x.1 l k

  nodes_named_by : (ws : List Value) (f : FileMap Bytes) → T (is_content f) → AllByRecursion (IsIn ws) (blobs_of f) → (cs : List Bytes)
      → AllByRecursion (λ c. is_none (file_at f (c ∷ [])) ≡ true → IsIn ws (tree_value (sub_map f (c ∷ [])))) cs → AllByRecursion (λ c. IfSome (link_of (node_entry name namer f c)) (Names ws)) cs
  nodes_named_by ws f t b [] h = tt
  nodes_named_by ws f t b (c ∷ cs) h =
      (node_named_by ws c (file_at f (c ∷ [])) (sub_map f (c ∷ [])) (leaves name namer f (c ∷ []) t) (file_known (IsIn ws) f (c ∷ []) b) h.0, nodes_named_by ws f t b cs h.1)

  parents_named_by : (ws : List Value) (ps : Commits) → AllByRecursion (IsIn ws) (map commit_value (list_of ps)) → AllByRecursion (Names ws) (names_of name ps)
  parents_named_by ws none h = tt
  parents_named_by ws (more c cs) h = ((commit_value c, h.0, refl), parents_named_by ws cs h.1)

  -- what a value's record names are parts of it
  links_are_parts : (v : Value) → T (is_proper v) → AllByRecursion (Names (parts v)) (links v)
  links_are_parts (blob_value x) h = tt
  links_are_parts (tree_value f) h =
      let ws = parts (tree_value f) in
      let own = each_in (IsIn ws) ws (λ u i. i) in
      subst (AllByRecursion (Names ws)) (sym (tree_links f h))
      (some_all (Names ws) link_of (map (node_entry name namer f) (first_components f))
      (all_mapped (λ e. IfSome (link_of e) (Names ws)) (node_entry name namer f) (first_components f)
      (nodes_named_by ws f h (all_left (IsIn ws) (blobs_of f) (map tree_value (sub_maps f)) own) (first_components f) (subs_known (IsIn ws) f own))))
  links_are_parts (commit_value c) h =
      let ws = parts (commit_value c) in
      let own = each_in (IsIn ws) ws (λ u i. i) in
      subst (AllByRecursion (Names ws)) (sym (commit_links c h)) ((tree_value (files_of c), inl refl, refl), parents_named_by ws (parents_of c) own.1)
  links_are_parts (tag_value t) h = subst (AllByRecursion (Names (parts (tag_value t)))) (sym (tag_links t h)) ((commit_value t.target, inl refl, refl), tt)

  one_named : (ws : List Value) (ls : List Bytes) → AllByRecursion (Names ws) ls → (n : Bytes) → T (list_any (same_bytes n) ls) → Names ws n
  one_named ws [] h n k = absurd k
  one_named ws (l ∷ ls) h n k = one_of (same_bytes n l) (list_any (same_bytes n) ls) k (λ s. subst (Names ws) (sym (same_is n l s)) h.0) (λ s. one_named ws ls h.1 n s)

  -- ---- names that are reached

  apart : (before ws : List Value) → AreDistinct (map (name_of name) (before ++ ws)) → (p w : Value) → IsIn before p → IsIn ws w → name_of name p ≡ name_of name w → ⊥
  apart [] ws d p w i j e = absurd i
  apart (b ∷ before) ws d p w i j e =
      elim i [
        | inl s ↦ no_other name namer (name_of name b) (before ++ ws) w d.0 (in_right before ws w j) (ap (name_of name) s ∙ e)
        | inr k ↦ apart before ws d.1 p w k j e
      ]

  module _ (refs : Refs) where
    abbrev Reach : List Value → Bytes → Type 0
    Reach vs n = T (is_reachable refs (map (record_of name) vs) n)

    abbrev ReachValue : List Value → Value → Type 0
    ReachValue vs v = Reach vs (name_of name v)

    links_reach : (before vs : List Value) → IsClosedAfter before vs → AreDistinct (map (name_of name) (before ++ vs)) → T (list_all is_proper vs) → (w : Value) → IsIn vs w → ReachValue vs w → AllByRecursion (Reach vs) (links w)
    links_reach before [] c d p w i h = absurd i
    links_reach before (v ∷ vs) c d p w i h =
        elim i [
          | inl e ↦ subst (λ u. ReachValue (v ∷ vs) u → AllByRecursion (Reach (v ∷ vs)) (links u)) e own h
          | inr k ↦
              one_of (is_reachable refs (map (record_of name) vs) (name_of name w)) (is_reachable refs (map (record_of name) vs) (name_of name v) && links_to (record_of name v) (name_of name w)) h
              (λ s. all_weaker (Reach vs) (Reach (v ∷ vs)) (λ n q. left_or (is_reachable refs (map (record_of name) vs) n) _ q) (links w)
              (links_reach (before ++ v ∷ []) vs c.2 (subst (λ us. AreDistinct (map (name_of name) us)) (sym (append_assoc before (v ∷ []) vs)) d) (second (is_proper v) _ p) w k s))
              (λ s. absurd (clash k (second (is_reachable refs (map (record_of name) vs) (name_of name v)) _ s)))
        ]
      where
        own : ReachValue (v ∷ vs) v → AllByRecursion (Reach (v ∷ vs)) (links v)
        own g =
            let it = one_of (is_reachable refs (map (record_of name) vs) (name_of name v)) _ g (λ s. s) (λ s. first (is_reachable refs (map (record_of name) vs) (name_of name v)) _ s) in
            each_named (Reach (v ∷ vs)) (links v) (λ n l. right_or (is_reachable refs (map (record_of name) vs) n) _ (both _ _ it l))

        clash : IsIn vs w → T (list_any (same_bytes (name_of name w)) (links v)) → ⊥
        clash k l =
            let q = one_named (parts v) (links v) (links_are_parts v (first _ _ p)) (name_of name w) l in
            apart before (v ∷ vs) d q.0 w (all_in (IsIn before) (parts v) q.0 c.1 q.1) (inr k) q.2

    module _ (vs : List Value) (whole : IsWhole vs) (distinct : AreDistinct (map (name_of name) vs)) where
      -- what a reached value's record names is reached
      pub links_reached : (v : Value) → IsIn vs v → ReachValue vs v → AllByRecursion (Reach vs) (links v)
      links_reached v i h = links_reach [] vs whole.closed distinct (passes _ whole.proper) v i h

      file_reached : (m : Mode) (x : Bytes) → T (is_leaf m x) → IfSome (unless_gitlink m (content_name name m x)) (Reach vs) → AllByRecursion (ReachValue vs) (cons_option (blob_of m x) [])
      file_reached File x l h = (h, tt)
      file_reached Exec x l h = (h, tt)
      file_reached Link x l h = (h, tt)
      file_reached Gitlink x l h = tt
      file_reached Dir x l h = absurd l

      nodes_reached : (f : FileMap Bytes) → IsIn vs (tree_value f) → ReachValue vs (tree_value f) → AllByRecursion (λ c. IfSome (link_of (node_entry name namer f c)) (Reach vs)) (first_components f)
      nodes_reached f i h =
          all_unmap (λ e. IfSome (link_of e) (Reach vs)) (node_entry name namer f) (first_components f)
          (all_some (Reach vs) link_of (map (node_entry name namer f) (first_components f))
          (subst (AllByRecursion (Reach vs)) (tree_links f (proper_in vs (tree_value f) (passes _ whole.proper) i)) (links_reached (tree_value f) i h)))

      blobs_below : (n : ℕ) (f : FileMap Bytes) → depth f ≤ suc n → T (is_content f) → Parts f → ((g : FileMap Bytes) → depth g ≤ n → IsIn vs (tree_value g) → ReachValue vs (tree_value g) → AllByRecursion (ReachValue vs) (blobs_of g)) → (cs : List Bytes)
          → AllByRecursion (λ c. IfSome (link_of (node_entry name namer f c)) (Reach vs)) cs → AllByRecursion (λ c. is_none (file_at f (c ∷ [])) ≡ true → IsIn vs (tree_value (sub_map f (c ∷ [])))) cs
          → AllByRecursion (ReachValue vs) (blobs_of (flat_map (λ c. placed c (sub_map f (c ∷ []))) cs))
      blobs_below n f k t p again [] l s = tt
      blobs_below n f k t p again (c ∷ cs) l s =
          subst (AllByRecursion (ReachValue vs))
          (sym (blobs_append (placed c (sub_map f (c ∷ []))) (flat_map (λ c. placed c (sub_map f (c ∷ []))) cs) ∙ ap (λ us. us ++ blobs_of (flat_map (λ c. placed c (sub_map f (c ∷ []))) cs)) (blobs_placed c (sub_map f (c ∷ [])))))
          (all_join (ReachValue vs) (blobs_of (sub_map f (c ∷ []))) (blobs_of (flat_map (λ c. placed c (sub_map f (c ∷ []))) cs)) (by (file_at f (c ∷ [])) refl l.0 s.0) (blobs_below n f k t p again cs l.1 s.1))
        where
          by : (o : Option (Leaf Bytes)) → file_at f (c ∷ []) ≡ o → IfSome (link_of (entry name c (node name (option_map (leaf_named name namer) o) (tree_name name (sub_map f (c ∷ [])))))) (Reach vs) → (is_none o ≡ true → IsIn vs (tree_value (sub_map f (c ∷ []))))
              → AllByRecursion (ReachValue vs) (blobs_of (sub_map f (c ∷ [])))
          by None e q d = again (sub_map f (c ∷ [])) (depth_sub c n f k) (d refl) q
          by (Some x) e q d = subst (λ g. AllByRecursion (ReachValue vs) (blobs_of g)) (sym (only_file c f x p.apart e)) (file_reached x.0 x.1 (leaf_at name namer f (c ∷ []) x t e) q)

      -- the bytes of a reached tree's files are reached
      blobs_reached : (n : ℕ) (f : FileMap Bytes) → depth f ≤ n → IsIn vs (tree_value f) → ReachValue vs (tree_value f) → AllByRecursion (ReachValue vs) (blobs_of f)
      blobs_reached zero f k i h = subst (λ g. AllByRecursion (ReachValue vs) (blobs_of g)) (sym (empty_of f k (paths_of f (proper_in vs (tree_value f) (passes _ whole.proper) i)))) tt
      blobs_reached (suc n) f k i h =
          let t = proper_in vs (tree_value f) (passes _ whole.proper) i in
          let p = content_parts f t in
          subst (λ g. AllByRecursion (ReachValue vs) (blobs_of g)) (sym (rebuilt f p))
          (blobs_below n f k t p (blobs_reached n) (first_components f) (nodes_reached f i h) (subs_known (IsIn vs) f (parts_in vs (tree_value f) whole i)))

      dirs_reached : (f : FileMap Bytes) (cs : List Bytes) → AllByRecursion (λ c. IfSome (link_of (node_entry name namer f c)) (Reach vs)) cs
          → AllByRecursion (ReachValue vs) (map tree_value (map (λ c. sub_map f (c ∷ [])) (filter (λ c. is_none (file_at f (c ∷ []))) cs)))
      dirs_reached f [] l = tt
      dirs_reached f (c ∷ cs) l = by (file_at f (c ∷ [])) l.0 (dirs_reached f cs l.1) where
        by : (o : Option (Leaf Bytes)) → IfSome (link_of (entry name c (node name (option_map (leaf_named name namer) o) (tree_name name (sub_map f (c ∷ [])))))) (Reach vs)
            → AllByRecursion (ReachValue vs) (map tree_value (map (λ c. sub_map f (c ∷ [])) (filter (λ c. is_none (file_at f (c ∷ []))) cs)))
            → AllByRecursion (ReachValue vs) (map tree_value (map (λ c. sub_map f (c ∷ [])) (cond (is_none o) (c ∷ filter (λ c. is_none (file_at f (c ∷ []))) cs) (filter (λ c. is_none (file_at f (c ∷ []))) cs))))
        by None q r = (q, r)
        by (Some x) q r = r

      parents_reached : (ps : Commits) → AllByRecursion (Reach vs) (names_of name ps) → AllByRecursion (ReachValue vs) (map commit_value (list_of ps))
      parents_reached none h = tt
      parents_reached (more c cs) h = (h.0, parents_reached cs h.1)

      -- the parts of a reached value are reached
      pub parts_reached : (v : Value) → IsIn vs v → ReachValue vs v → AllByRecursion (ReachValue vs) (parts v)
      parts_reached (blob_value x) i h = tt
      parts_reached (tree_value f) i h = all_join (ReachValue vs) (blobs_of f) (map tree_value (sub_maps f)) (blobs_reached (depth f) f (omega arith) i h) (dirs_reached f (first_components f) (nodes_reached f i h))
      parts_reached (commit_value c) i h =
          let l = subst (AllByRecursion (Reach vs)) (commit_links c (proper_in vs (commit_value c) (passes _ whole.proper) i)) (links_reached (commit_value c) i h) in
          (l.0, parents_reached (parents_of c) l.1)
      parts_reached (tag_value t) i h =
          let l = subst (AllByRecursion (Reach vs)) (tag_links t (proper_in vs (tag_value t) (passes _ whole.proper) i)) (links_reached (tag_value t) i h) in
          (l.0, tt)

      along : (u v : Value) → Reaches u v → IsIn vs u → ReachValue vs u → ReachValue vs v
      along u v (itself _) i h = h
      along u v (through _ w j r) i h = along w v r (all_in (IsIn vs) (parts u) w (parts_in vs u whole i) j) (all_in (ReachValue vs) (parts u) w (parts_reached u i h) j)

  -- ---- values that are reached

  abbrev pub named_refs : List (Bytes × Target) → Refs
  named_refs = map (λ ref. (ref.0, name_of name (value_at ref.1)))

  abbrev pub tips : List (Bytes × Target) → List Value
  tips = map (λ ref. value_at ref.1)

  pub tip_named : (refs : List (Bytes × Target)) (w : Value) → IsIn (tips refs) w → T (is_tip (named_refs refs) (name_of name w))
  tip_named [] w i = absurd i
  tip_named (r ∷ refs) w i =
      elim i [
        | inl e ↦ left_or (same_bytes (name_of name w) (name_of name (value_at r.1))) _ (is_same (name_of name w) (name_of name (value_at r.1)) (ap (name_of name) (sym e)))
        | inr k ↦ right_or (same_bytes (name_of name w) (name_of name (value_at r.1))) _ (tip_named refs w k)
      ]

  pub tip_value : (refs : List (Bytes × Target)) (n : Bytes) → T (is_tip (named_refs refs) n) → Names (tips refs) n
  tip_value [] n h = absurd h
  tip_value (r ∷ refs) n h =
      one_of (same_bytes n (name_of name (value_at r.1))) (is_tip (named_refs refs) n) h
      (λ s. (value_at r.1, inl refl, sym (same_is n (name_of name (value_at r.1)) s)))
      (λ s. let t = tip_value refs n s in (t.0, inr t.1, t.2))

  pub tip_held : (vs : List Value) (refs : List (Bytes × Target)) → AllByRecursion (λ ref. IsIn vs (value_at ref.1)) refs → (w : Value) → IsIn (tips refs) w → IsIn vs w
  tip_held vs [] h w i = absurd i
  tip_held vs (r ∷ refs) h w i = elim i [ inl e ↦ subst (IsIn vs) e h.0 | inr k ↦ tip_held vs refs h.1 w k ]

  module _ (vs : List Value) (whole : IsWhole vs) (distinct : AreDistinct (map (name_of name) vs)) (refs : List (Bytes × Target)) (held : AllByRecursion (λ ref. IsIn vs (value_at ref.1)) refs) where
    -- a value is reached whose name is
    pub value_reached : (us : List Value) → ((u : Value) → IsIn us u → IsIn vs u) → (n : Bytes) → Reach (named_refs refs) us n → (v : Value) → IsIn vs v → name_of name v ≡ n → AnyReaches (tips refs) v
    value_reached [] sub n h v i e =
        let t = tip_value refs n h in
        let same = told_by_name name namer vs distinct t.0 v (tip_held vs refs held t.0 t.1) i (t.2 ∙ sym e) in
        any_in (tips refs) v v (subst (IsIn (tips refs)) same t.1) (itself v)
    value_reached (u ∷ us) sub n h v i e =
        one_of (is_reachable (named_refs refs) (map (record_of name) us) n) (is_reachable (named_refs refs) (map (record_of name) us) (name_of name u) && links_to (record_of name u) n) h
        (λ s. value_reached us (λ w j. sub w (inr j)) n s v i e)
        (λ s.
        let at_u = sub u (inl refl) in
        let a = value_reached us (λ w j. sub w (inr j)) (name_of name u) (first _ _ s) u at_u refl in
        let p = one_named (parts u) (links u) (links_are_parts u (proper_in vs u (passes _ whole.proper) at_u)) n (second (is_reachable (named_refs refs) (map (record_of name) us) (name_of name u)) _ s) in
        let same = told_by_name name namer vs distinct p.0 v (all_in (IsIn vs) (parts u) p.0 (parts_in vs u whole at_u) p.1) i (p.2 ∙ sym e) in
        let t = any_from (tips refs) u a in
        any_in (tips refs) t.0 v t.1 (reaches_trans t.0 u v t.2 (through u v (subst (IsIn (parts u)) same p.1) (itself v))))

    -- the name of a reached value is reached
    pub name_reached : (v : Value) → AnyReaches (tips refs) v → Reach (named_refs refs) vs (name_of name v)
    name_reached v a =
        let t = any_from (tips refs) v a in
        along (named_refs refs) vs whole distinct t.0 v t.2 (tip_held vs refs held t.0 t.1) (tip_reached (named_refs refs) (map (record_of name) vs) (name_of name t.0) (tip_named refs t.0 t.1))
