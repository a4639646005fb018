-- Values that both histories add: where the small one adds a value, the whole one has, or adds, what it stands for.
use Rattle.std.proofs.Common.{◌≡◌, ℕ, zero, suc, true, false, cond, List, [], ◌∷◌, ◌++◌, map, append_assoc, None, Some, refl, sym, ap, subst, ◌∙◌, inl, inr}
use Rattle.std.specs.Prelude.{IsTrue, T, is_none}
use Rattle.std.specs.Bool.{passes}
use Rattle.std.specs.List.{AllByRecursion, filter, flat_map, fold, list_all}
use Rattle.std.proofs.lemmas.List.{map-append}
use Rattle.std.proofs.lemmas.List.Sums.{fold-append}
use Rattle.gx_model.specs.declared.objects.Kind.{Kind}
use Rattle.gx_model.specs.declared.objects.Kind.TheVariants as kind
use Rattle.gx_model.specs.Texts.{Bytes}
use Rattle.gx_model.specs.Objects.{IsNamer, commit_text, is_name, tag_text}
use Rattle.gx_model.specs.Histories.Files.{FileMap, depth, file_at, first_components, sub_map}
use Rattle.gx_model.specs.Histories.Values.{Commit, CommitText, Commits, Tag, Value, blob_value, commit, commit_value, files_of, more, none, sub_maps, tag_value, tree_value}
use Rattle.gx_model.specs.Histories.{IsIn, is_in, record_of, with_one, with_tree, with_value}
use Rattle.gx_model.specs.Records.{commit_body, names_of, tree_name}
use Rattle.gx_model.specs.Records.Growth.{all_trees, all_trees_to}
use Rattle.gx_model.proofs.Texts.PathTests.{both, is_true}
use Rattle.gx_model.proofs.Histories.AddedValues.{all_join, in_left, in_right, in_some, is_in_is}
use Rattle.gx_model.proofs.Records.GrownRecords.{is_is_in}
use Rattle.gx_model.proofs.Records.GrownTrees.{trees_fold}
use Rattle.gx_model.proofs.ObjectTexts.TreePaths.{name_is_name}
use Rattle.gx_model.proofs.Export.KeptCommits.{all_in}
use Rattle.gx_model.proofs.Replay.NullGitlinks.{all_join as join_all}
use Rattle.gx_stand_ins.specs.StandIns.{AreNamers, AreOwnBytes, AreOwnTexts, CommitKeepsName, CommitsKeepNames, FilesKeepNames, StandIns, ValueKeepsName, whole_commit, whole_commits, whole_files, whole_leaf, whole_tag, whole_value}
use Rattle.gx_stand_ins.proofs.EachTree.{each_trees}
use Rattle.gx_stand_ins.proofs.LedRevisions.{sub_map_keeps}
use Rattle.gx_stand_ins.proofs.WholeNames.{parents_alike, tree_alike, tree_named_alike, value_alike}

-- ---- lists

in_one_left : (vs : List Value) (w u : Value) → IsIn vs u → IsIn (with_one vs w) u
in_one_left vs w u h = elim (is_in vs w) as (λ b. IsIn (cond b vs (vs ++ w ∷ [])) u) [ true ↦ h | false ↦ in_left vs (w ∷ []) u h ]

in_one : (vs : List Value) (w : Value) → IsIn (with_one vs w) w
in_one vs w =
    elim (is_in vs w) as (λ b. is_in vs w ≡ b → IsIn (cond b vs (vs ++ w ∷ [])) w) [
      | true ↦ λ e. is_in_is vs w (passes _ e)
      | false ↦ λ e. in_right vs (w ∷ []) w (inl refl)
    ] refl

in_fold : (ws vs : List Value) (u : Value) → IsIn vs u → IsIn (fold with_one vs ws) u
in_fold [] vs u h = h
in_fold (w ∷ ws) vs u h = in_fold ws (with_one vs w) u (in_one_left vs w u h)

in_fold_new : (ws vs : List Value) (u : Value) → IsIn ws u → IsIn (fold with_one vs ws) u
in_fold_new [] vs u h = absurd h
in_fold_new (w ∷ ws) vs u h = elim h [ inl e ↦ in_fold ws (with_one vs w) u (subst (IsIn (with_one vs w)) e (in_one vs w)) | inr k ↦ in_fold_new ws (with_one vs w) u k ]

in_map : (g : Value → Value) (vs : List Value) (u : Value) → IsIn vs u → IsIn (map g vs) (g u)
in_map g [] u h = absurd h
in_map g (v ∷ vs) u h = elim h [ inl e ↦ inl (ap g e) | inr k ↦ inr (in_map g vs u k) ]

held_one : (vs : List Value) (v : Value) → is_in vs v ≡ true → with_one vs v ≡ vs
held_one vs v e = ap (λ b. cond b vs (vs ++ v ∷ [])) e

-- ---- what both have added

module _ (stand name : Kind → Bytes → Bytes) (ins : StandIns) where
  -- one record in both repositories
  abbrev pub IsSame : Value → Type 0
  IsSame v = record_of stand v ≡ record_of name (whole_value ins v)

  -- a value that both may add
  abbrev pub MayAdd : Value → Type 0
  MayAdd v = ValueKeepsName stand name ins v × IsSame v

  -- the small history has these values now, and the whole one those
  pub record AreGrown (small whole now after : List Value) : Type 0 where
    pub new : List Value
    pub front : now ≡ small ++ new
    pub grown : after ≡ fold with_one whole (map (whole_value ins) new)
    pub same : AllByRecursion IsSame new
    pub kept : AllByRecursion (ValueKeepsName stand name ins) now

  module _ (small whole : List Value) (held : AllByRecursion (λ v. IsIn whole (whole_value ins v)) small) where
    -- what the small one has, the whole one has
    pub has_each : (now after : List Value) → AreGrown small whole now after → (v : Value) → IsIn now v → IsIn after (whole_value ins v)
    has_each now after h v i =
        subst (λ vs. IsIn vs (whole_value ins v)) (sym h.grown)
        (elim (in_some small h.new v (subst (λ vs. IsIn vs v) h.front i)) [
          | inl k ↦ in_fold (map (whole_value ins) h.new) whole (whole_value ins v) (all_in (λ u. IsIn whole (whole_value ins u)) small v held k)
          | inr k ↦ in_fold_new (map (whole_value ins) h.new) whole (whole_value ins v) (in_map (whole_value ins) h.new v k)
        ])

    -- one value more
    pub one_grown : (now after : List Value) → AreGrown small whole now after → (v : Value) → MayAdd v → AreGrown small whole (with_one now v) (with_one after (whole_value ins v))
    one_grown now after h v k =
        elim (is_in now v) as (λ b. is_in now v ≡ b → AreGrown small whole (cond b now (now ++ v ∷ [])) (with_one after (whole_value ins v))) [
          | true ↦ λ e. let there = held_one after (whole_value ins v) (is_is_in after (whole_value ins v) (has_each now after h v (is_in_is now v (passes _ e)))) in
              record { new = h.new; front = h.front; grown = there ∙ h.grown; same = h.same; kept = h.kept }
          | false ↦ λ e. record {
            new = h.new ++ v ∷ [];
            front = ap (λ vs. vs ++ v ∷ []) h.front ∙ append_assoc small h.new (v ∷ []);
            grown = ap (λ vs. with_one vs (whole_value ins v)) h.grown
                ∙ sym (ap (fold with_one whole) (map-append (whole_value ins) h.new (v ∷ [])) ∙ fold-append with_one whole (map (whole_value ins) h.new) (whole_value ins v ∷ []));
            same = join_all IsSame h.new (v ∷ []) h.same (k.1, tt);
            kept = all_join (ValueKeepsName stand name ins) now (v ∷ []) h.kept (k.0, tt);
          }
        ] refl

    pub all_grown : (vs : List Value) (now after : List Value) → AreGrown small whole now after → AllByRecursion MayAdd vs → AreGrown small whole (fold with_one now vs) (fold with_one after (map (whole_value ins) vs))
    all_grown [] now after h k = h
    all_grown (v ∷ vs) now after h k = all_grown vs (with_one now v) (with_one after (whole_value ins v)) (one_grown now after h v k.0) k.1

  -- ---- trees

  subs_keep : (f : FileMap Bytes) → FilesKeepNames stand name ins f → (cs : List Bytes) → AllByRecursion (FilesKeepNames stand name ins) (map (λ c. sub_map f (c ∷ [])) cs)
  subs_keep f h [] = tt
  subs_keep f h (c ∷ cs) = (sub_map_keeps stand name ins f (c ∷ []) h, subs_keep f h cs)

  below_keep : (n : ℕ) → ((f : FileMap Bytes) → FilesKeepNames stand name ins f → AllByRecursion (FilesKeepNames stand name ins) (all_trees_to n f)) → (fs : List (FileMap Bytes))
      → AllByRecursion (FilesKeepNames stand name ins) fs → AllByRecursion (FilesKeepNames stand name ins) (flat_map (all_trees_to n) fs)
  below_keep n one [] h = tt
  below_keep n one (f ∷ fs) h = join_all (FilesKeepNames stand name ins) (all_trees_to n f) (flat_map (all_trees_to n) fs) (one f h.0) (below_keep n one fs h.1)

  trees_keep : (n : ℕ) (f : FileMap Bytes) → FilesKeepNames stand name ins f → AllByRecursion (FilesKeepNames stand name ins) (all_trees_to n f)
  trees_keep zero f h = (h, tt)
  trees_keep (suc n) f h =
      join_all (FilesKeepNames stand name ins) (flat_map (all_trees_to n) (sub_maps f)) (f ∷ [])
      (below_keep n (trees_keep n) (sub_maps f) (subs_keep f h (filter (λ c. is_none (file_at f (c ∷ []))) (first_components f)))) (h, tt)

  whole_trees : (fs : List (FileMap Bytes)) → map tree_value (map (whole_files ins) fs) ≡ map (whole_value ins) (map tree_value fs)
  whole_trees [] = refl
  whole_trees (f ∷ fs) = ap (λ vs. tree_value (whole_files ins f) ∷ vs) (whole_trees fs)

  module _ (namers : AreNamers stand name) where
    -- a tree that keeps its names
    pub tree_may : (f : FileMap Bytes) → FilesKeepNames stand name ins f → MayAdd (tree_value f)
    tree_may f h = (h, λ i. record { name = tree_named_alike stand name namers ins f h i; kind = kind.Tree; body = tree_alike stand name namers ins f h i })

    trees_may : (fs : List (FileMap Bytes)) → AllByRecursion (FilesKeepNames stand name ins) fs → AllByRecursion MayAdd (map tree_value fs)
    trees_may [] h = tt
    trees_may (f ∷ fs) h = (tree_may f h.0, trees_may fs h.1)

    -- a tag on such a commit
    pub tag_may : (t : Tag) → CommitKeepsName stand name ins t.target → MayAdd (tag_value t)
    tag_may t h =
        let target = value_alike stand name namers ins (commit_value t.target) h in
        (h, λ i. record { name = value_alike stand name namers ins (tag_value t) h i; kind = kind.Tag; body = tag_text (record { object = target i; name = t.name; tagger = t.tagger; message = t.message }) })

    module _ (small whole : List Value) (held : AllByRecursion (λ v. IsIn whole (whole_value ins v)) small) where
      -- a file map and its sub-maps more
      tree_grown : (now after : List Value) → AreGrown small whole now after → (f : FileMap Bytes) → FilesKeepNames stand name ins f → AreGrown small whole (with_tree now f) (with_tree after (whole_files ins f))
      tree_grown now after h f k =
          let same : fold with_one after (map (whole_value ins) (map tree_value (all_trees f))) ≡ with_tree after (whole_files ins f) =
          ap (fold with_one after) (sym (whole_trees (all_trees f)) ∙ ap (map tree_value) (sym (each_trees (whole_leaf ins) f))) ∙ sym (trees_fold after (whole_files ins f)) in
          subst (λ vs. AreGrown small whole vs (with_tree after (whole_files ins f))) (sym (trees_fold now f))
          (subst (AreGrown small whole (fold with_one now (map tree_value (all_trees f)))) same (all_grown small whole held (map tree_value (all_trees f)) now after h (trees_may (all_trees f) (trees_keep (depth f) f k))))

      -- bytes of their own more
      pub blob_grown : (now after : List Value) → AreGrown small whole now after → (x : Bytes) → AreOwnBytes stand name ins x → AreGrown small whole (with_value now (blob_value x)) (with_value after (blob_value x))
      blob_grown now after h x own =
          let bytes : x ≡ ins.bytes x = sym own.same in
          let named : stand kind.Blob x ≡ name kind.Blob (ins.bytes x) = own.named ∙ ap (name kind.Blob) bytes in
          subst (λ y. AreGrown small whole (with_one now (blob_value x)) (with_one after (blob_value y))) own.same
          (one_grown small whole held now after h (blob_value x) (named, λ i. record { name = named i; kind = kind.Blob; body = bytes i }))

      -- a commit more
      pub commit_grown : (now after : List Value) → AreGrown small whole now after → (f : FileMap Bytes) (ps : Commits) (t : CommitText) → MayAdd (commit_value (commit f ps t)) → FilesKeepNames stand name ins f
          → whole_commit ins (commit f ps t) ≡ commit (whole_files ins f) (whole_commits ins ps) t
          → AreGrown small whole (with_value now (commit_value (commit f ps t))) (with_value after (commit_value (whole_commit ins (commit f ps t))))
      commit_grown now after h f ps t k files made =
          subst (λ g. AreGrown small whole (with_value now (commit_value (commit f ps t))) (with_one (with_tree after g) (commit_value (whole_commit ins (commit f ps t))))) (sym (ap files_of made))
          (one_grown small whole held (with_tree now f) (with_tree after (whole_files ins f)) (tree_grown now after h f files) (commit_value (commit f ps t)) k)

      -- a tag more
      pub tag_grown : (now after : List Value) → AreGrown small whole now after → (t : Tag) → CommitKeepsName stand name ins t.target → AreGrown small whole (with_value now (tag_value t)) (with_value after (tag_value (whole_tag ins t)))
      tag_grown now after h t k = one_grown small whole held now after h (tag_value t) (tag_may t k)

    -- ---- commits that are made

    module _ (namer : IsNamer name) where
      -- what a commit with texts of its own stands for
      pub made_of : (f : FileMap Bytes) (ps : Commits) (t : CommitText) → ins.elders t ≡ None → whole_commit ins (commit f ps t) ≡ commit (whole_files ins f) (whole_commits ins ps) t
      made_of f none t e = ap (λ o. elim o as (λ _. Commit) [ None ↦ commit (whole_files ins f) none t | Some elders ↦ commit (whole_files ins f) elders.0 elders.1 ]) e
      made_of f (more c cs) t e = refl

      names_proper : (cs : Commits) → T (list_all is_name (names_of name cs))
      names_proper none = tt
      names_proper (more c cs) = both _ _ (name_is_name name namer kind.Commit (commit_body name c)) (names_proper cs)

      -- a commit with texts of its own
      pub record IsMade (f : FileMap Bytes) (ps : Commits) (t : CommitText) : Type 0 where
        pub whole : whole_commit ins (commit f ps t) ≡ commit (whole_files ins f) (whole_commits ins ps) t
        pub may : MayAdd (commit_value (commit f ps t))

      pub made : (f : FileMap Bytes) (ps : Commits) (t : CommitText) → FilesKeepNames stand name ins f → CommitsKeepNames stand name ins ps → AreOwnTexts stand name ins t → IsMade f ps t
      made f ps t files parents own =
          let whole = made_of f ps t own.same in
          let tree = tree_named_alike stand name namers ins f files in
          let elders = parents_alike stand name namers ins ps parents in
          let body : commit_body stand (commit f ps t) ≡ commit_body name (whole_commit ins (commit f ps t)) =
          (λ i. commit_text (record { tree = tree i; parents = elders i; text = t })) ∙ ap (commit_body name) (sym whole) in
          let tree_is : IsTrue (is_name (tree_name stand f)) = subst (λ n. IsTrue (is_name n)) (sym tree) (is_true _ (name_is_name name namer kind.Tree _)) in
          let elders_are : IsTrue (list_all is_name (names_of stand ps)) = subst (λ ns. IsTrue (list_all is_name ns)) (sym elders) (is_true _ (names_proper (whole_commits ins ps))) in
          let named : stand kind.Commit (commit_body stand (commit f ps t)) ≡ name kind.Commit (commit_body name (whole_commit ins (commit f ps t))) =
          own.named (record { tree = tree_name stand f; parents = names_of stand ps; text = t }) refl tree_is elders_are ∙ ap (name kind.Commit) body in
          record { whole = whole; may = ((named, files, parents), λ i. record { name = named i; kind = kind.Commit; body = body i }) }
