-- Each value of a small history stands for one of the whole history.
use Rattle.std.proofs.Common.{◌≡◌, List, [], ◌∷◌, ◌++◌, map, Option, None, Some, refl, sym, ap, subst, ◌∙◌}
use Rattle.std.specs.Prelude.{IfSome, MatchOption, T, is_some, not, ◌&&◌}
use Rattle.std.specs.Bool.{passes}
use Rattle.std.specs.List.{AllByRecursion, cons_option, list_all}
use Rattle.std.specs.Option.{option_map}
use Rattle.std.specs.Ordering.{is_lt}
use Rattle.std.specs.FinMap.Entries.{below_all, is_sorted}
use Rattle.gx_model.specs.declared.objects.Kind.{Kind}
use Rattle.gx_model.specs.declared.objects.Kind.TheVariants as kind
use Rattle.gx_model.specs.declared.objects.Mode.{Mode}
use Rattle.gx_model.specs.declared.objects.Mode.TheVariants.{File, Exec, Link, Gitlink, Dir}
use Rattle.gx_model.specs.Texts.{Bytes}
use Rattle.gx_model.specs.Texts.Paths.{Path, are_in_line, is_file_path, path_cmp}
use Rattle.gx_model.specs.Objects.{IsNamer, commit_text, text_lines}
use Rattle.gx_model.specs.Histories.Files.{FileMap, are_apart, is_file_map}
use Rattle.gx_model.specs.Histories.Values.{Commit, CommitText, Commits, Tag, Value, blob_of, blob_value, blobs_of, commit, commit_value, files_of, is_content, is_leaf, is_proper, is_proper_text, list_of, more, none, parents_of, parts, sub_maps, tag_value, text_of, tree_value}
use Rattle.gx_model.specs.Histories.{IsClosedAfter, IsIn, IsWhole, Records, record_of}
use Rattle.gx_model.specs.Records.{body_of, commit_body, name_of, names_of, parts_of_commit, tree_name}
use Rattle.gx_model.specs.Records.Growth.{record_named}
use Rattle.gx_model.specs.Records.HistoryOf.{bytes_of_blob, commit_of_value, commit_parts_in, history_of, value_of_name}
use Rattle.gx_model.specs.Records.Sound.{IsSound}
use Rattle.gx_model.proofs.Export.KeptCommits.{all_in}
use Rattle.gx_model.proofs.Histories.AddedValues.{all_join as join_values}
use Rattle.gx_model.proofs.ObjectTexts.BodiesReadBack.{commit_read}
use Rattle.gx_model.proofs.ObjectTexts.OneTree.{all_left, all_right}
use Rattle.gx_model.proofs.ObjectTexts.TreePaths.{name_is_name}
use Rattle.gx_model.proofs.Records.GrownRecords.{distinct_of, whole_of}
use Rattle.gx_model.proofs.Records.HeldNames.{finds}
use Rattle.gx_model.proofs.Records.HeldValues.{kind_held, holds_held, held_is, text_is}
use Rattle.gx_model.proofs.Records.HistoriesExist.{stands}
use Rattle.gx_model.proofs.Records.LinkedValues.{is_blob, is_commit, parts_in, proper_in}
use Rattle.gx_model.proofs.Records.OneHistory.{one_value, told_by_name}
use Rattle.gx_model.proofs.Texts.PathTests.{both, first, is_true, second}
use Rattle.gx_stand_ins.specs.SmallRepositories.{HasTreeOf, IsOfWhole, IsSmallOf, StandsForHeld, commit_front, elders_held, name_behind, stand_ins, stand_name, stood_for}
use Rattle.gx_stand_ins.specs.StandIns.{CommitsKeepNames, FilesKeepNames, LeafKeepsName, StandIns, ValueKeepsName, whole_commit, whole_commits, whole_content, whole_files, whole_leaf, whole_tag, whole_value}
use Rattle.gx_stand_ins.proofs.EachTree.{each_subs}
use Rattle.gx_stand_ins.proofs.EachValue.{each, each_all}
use Rattle.gx_stand_ins.proofs.GrownTogether.{made_of, tag_may, tree_may}
use Rattle.gx_stand_ins.proofs.StoodFor.{commit_stood_for, named_by, named_own, stand_trees, stood_by}
use Rattle.gx_stand_ins.specs.StandInNames.{stand_is_namer}
use Rattle.gx_stand_ins.proofs.WholeNames.{parents_alike, tree_named_alike}

-- ---- forms of files whose contents are changed

module _ {X Y : Type 0} (g : X → Y) where
  each_apart : (f : List (Path × X)) → are_apart (each g f) ≡ are_apart f
  each_apart [] = refl
  each_apart (e ∷ es) = λ i. each_all g (λ q. not (are_in_line e.0 q)) es i && each_apart es i

  each_sorted : (f : List (Path × X)) → is_sorted path_cmp (each g f) ≡ is_sorted path_cmp f
  each_sorted [] = refl
  each_sorted (e ∷ es) = λ i. each_below e.0 es i && each_sorted es i
    where
      each_below : (p : Path) (es : List (Path × X)) → below_all path_cmp p (each g es) ≡ below_all path_cmp p es
      each_below p [] = refl
      each_below p (e ∷ es) = ap (λ b. is_lt (path_cmp p e.0) && b) (each_below p es)

  each_file_map : (f : List (Path × X)) → is_file_map (each g f) ≡ is_file_map f
  each_file_map f = λ i. each_all g is_file_path f i && each_apart f i && each_sorted f i

module _ (ins : StandIns) where
  leaf_same : (m : Mode) (x : Bytes) → is_leaf m (whole_content ins m x) ≡ is_leaf m x
  leaf_same File x = refl
  leaf_same Exec x = refl
  leaf_same Link x = refl
  leaf_same Gitlink x = refl
  leaf_same Dir x = refl

  leaves_same : (f : FileMap Bytes) → list_all (λ e. is_leaf e.1.0 e.1.1) (whole_files ins f) ≡ list_all (λ e. is_leaf e.1.0 e.1.1) f
  leaves_same [] = refl
  leaves_same (e ∷ es) = λ i. leaf_same e.1.0 e.1.1 i && leaves_same es i

  content_same : (f : FileMap Bytes) → is_content (whole_files ins f) ≡ is_content f
  content_same f = λ i. each_file_map (whole_leaf ins) f i && leaves_same f i

  -- ---- what values are made of

  blob_whole : (m : Mode) (x : Bytes) → blob_of m (whole_content ins m x) ≡ option_map (whole_value ins) (blob_of m x)
  blob_whole File x = refl
  blob_whole Exec x = refl
  blob_whole Link x = refl
  blob_whole Gitlink x = refl
  blob_whole Dir x = refl

  blobs_whole : (f : FileMap Bytes) → blobs_of (whole_files ins f) ≡ map (whole_value ins) (blobs_of f)
  blobs_whole [] = refl
  blobs_whole (e ∷ es) = (λ i. cons_option (blob_whole e.1.0 e.1.1 i) (blobs_whole es i)) ∙ by (blob_of e.1.0 e.1.1)
    where
      by : (o : Option Value) → cons_option (option_map (whole_value ins) o) (map (whole_value ins) (blobs_of es)) ≡ map (whole_value ins) (cons_option o (blobs_of es))
      by None = refl
      by (Some v) = refl

module _ (P : Value → Type 0) (g : Value → Value) where
  all_mapped : (vs : List Value) → AllByRecursion (λ v. P (g v)) vs → AllByRecursion P (map g vs)
  all_mapped [] h = tt
  all_mapped (v ∷ vs) h = (h.0, all_mapped vs h.1)

-- a commit of its parts
commit_again : (c : Commit) → commit (files_of c) (parents_of c) (text_of c) ≡ c
commit_again (commit f ps t) = refl

module _ (name : Kind → Bytes → Bytes) (namer : IsNamer name) (nonce : Bytes) (whole : Records) (sound : IsSound name whole) where
  abbrev stand : Kind → Bytes → Bytes
  stand = stand_name nonce name

  abbrev ins : StandIns
  ins = stand_ins nonce whole.records

  abbrev Stands : Value → Type 0
  Stands = IsIn (history_of whole).values

  abbrev Named : Bytes → Value
  Named n = value_of_name whole.records n

  -- a value stands for one of the whole history, under one name
  abbrev pub IsGood : Value → Type 0
  IsGood v = Stands (whole_value ins v) × ValueKeepsName stand name ins v

  is_whole : IsWhole (history_of whole).values
  is_whole = whole_of name namer (history_of whole) (stands name namer whole sound).history

  -- values of the whole history are told by their names
  pub told : (v w : Value) → Stands v → Stands w → name_of name v ≡ name_of name w → v ≡ w
  told v w i j e = told_by_name name namer (history_of whole).values (distinct_of name namer whole (history_of whole) (stands name namer whole sound)) v w i j e

  -- a value whose record is held stands in the history
  held_stands : (n : Bytes) (w : Value) → T (is_proper w) → AllByRecursion Stands (parts w) → record_named whole.records n ≡ Some (record_of name w) → Stands w
  held_stands n w p known e =
      let f = finds name namer whole sound n (record_of name w) e in
      let same = one_value name namer Stands told (Named n) w (proper_in (history_of whole).values (Named n) (passes _ is_whole.proper) f.0) p (parts_in (history_of whole).values (Named n) is_whole f.0) known (ap (λ z. z.kind) f.1) (ap (λ z. z.body) f.1) in
      subst Stands same f.0

  -- ---- blobs

  blob_good : (x : Bytes) → IsOfWhole nonce whole (record_of stand (blob_value x)) → IsGood (blob_value x)
  blob_good x h = by (name_behind nonce x) refl h
    where
      by : (o : Option Bytes) → name_behind nonce x ≡ o
          → MatchOption o (record_named whole.records (name_of stand (blob_value x)) ≡ Some (record_of stand (blob_value x))) (λ called. StandsForHeld nonce whole kind.Blob called x) → IsGood (blob_value x)
      by None e k =
          let bytes : ins.bytes x ≡ x = ap (λ o. elim o as (λ _. Bytes) [ None ↦ x | Some called ↦ bytes_of_blob (Named called) ]) e in
          let named = named_own nonce name kind.Blob x e in
          let record_is : record_of stand (blob_value x) ≡ record_of name (blob_value (ins.bytes x)) = λ i. record { name = (named ∙ ap (name kind.Blob) (sym bytes)) i; kind = kind.Blob; body = sym bytes i } in
          (held_stands (name_of stand (blob_value x)) (blob_value (ins.bytes x)) tt tt (k ∙ ap Some record_is), named ∙ ap (name kind.Blob) (sym bytes))
      by (Some n) e k =
          let bytes : ins.bytes x ≡ bytes_of_blob (Named n) = ap (λ o. elim o as (λ _. Bytes) [ None ↦ x | Some called ↦ bytes_of_blob (Named called) ]) e in
          let held = kind_held name namer whole sound kind.Blob n (holds_held name namer whole sound kind.Blob n k) in
          let value = held_is name namer whole sound n held.0 in
          let blob : Named n ≡ blob_value (ins.bytes x) = is_blob name (Named n) held.1 ∙ ap blob_value (sym bytes) in
          (subst Stands blob value.stands, named_by nonce name kind.Blob x n e ∙ sym value.named ∙ ap (name_of name) blob)

  -- ---- trees

  leaf_kept : (m : Mode) (x : Bytes) → IfSome (blob_of m x) IsGood → LeafKeepsName stand name ins (m, x)
  leaf_kept File x h = h.1
  leaf_kept Exec x h = h.1
  leaf_kept Link x h = h.1
  leaf_kept Gitlink x h = refl
  leaf_kept Dir x h = h.1

  files_kept : (f : FileMap Bytes) → AllByRecursion IsGood (blobs_of f) → FilesKeepNames stand name ins f
  files_kept [] h = tt
  files_kept (e ∷ es) h = by (blob_of e.1.0 e.1.1) (leaf_kept e.1.0 e.1.1) (files_kept es) h
    where
      by : (o : Option Value) → (IfSome o IsGood → LeafKeepsName stand name ins e.1) → (AllByRecursion IsGood (blobs_of es) → FilesKeepNames stand name ins es)
          → AllByRecursion IsGood (cons_option o (blobs_of es)) → FilesKeepNames stand name ins (e ∷ es)
      by None one rest k = (one tt, rest k)
      by (Some v) one rest k = (one k.0, rest k.1)

  stand_parts : (vs : List Value) → AllByRecursion IsGood vs → AllByRecursion Stands (map (whole_value ins) vs)
  stand_parts [] h = tt
  stand_parts (v ∷ vs) h = (h.0.0, stand_parts vs h.1)

  subs_whole : (f : FileMap Bytes) → map tree_value (sub_maps (whole_files ins f)) ≡ map (whole_value ins) (map tree_value (sub_maps f))
  subs_whole f = ap (map tree_value) (each_subs (whole_leaf ins) f) ∙ values (sub_maps f)
    where
      values : (fs : List (FileMap Bytes)) → map tree_value (map (whole_files ins) fs) ≡ map (whole_value ins) (map tree_value fs)
      values [] = refl
      values (f ∷ fs) = ap (λ vs. tree_value (whole_files ins f) ∷ vs) (values fs)

  tree_good : (f : FileMap Bytes) → T (is_content f) → AllByRecursion IsGood (parts (tree_value f)) → IsOfWhole nonce whole (record_of stand (tree_value f)) → IsGood (tree_value f)
  tree_good f p good h =
      let kept = files_kept f (all_left IsGood (blobs_of f) (map tree_value (sub_maps f)) good) in
      let blobs = subst (AllByRecursion Stands) (sym (blobs_whole ins f)) (stand_parts (blobs_of f) (all_left IsGood (blobs_of f) (map tree_value (sub_maps f)) good)) in
      let subs = subst (AllByRecursion Stands) (sym (subs_whole f)) (stand_parts (map tree_value (sub_maps f)) (all_right IsGood (blobs_of f) (map tree_value (sub_maps f)) good)) in
      let may = tree_may stand name ins (stand_trees nonce name) f kept in
      (held_stands (name_of stand (tree_value f)) (tree_value (whole_files ins f)) (subst T (sym (content_same ins f)) p) (join_values Stands (blobs_of (whole_files ins f)) (map tree_value (sub_maps (whole_files ins f))) blobs subs) (h ∙ ap Some may.1), kept)

  -- ---- commits

  parents_kept : (cs : Commits) → AllByRecursion IsGood (map commit_value (list_of cs)) → CommitsKeepNames stand name ins cs
  parents_kept none h = tt
  parents_kept (more c cs) h = (h.0.1, parents_kept cs h.1)

  parents_stand : (cs : Commits) → AllByRecursion IsGood (map commit_value (list_of cs)) → AllByRecursion Stands (map commit_value (list_of (whole_commits ins cs)))
  parents_stand none h = tt
  parents_stand (more c cs) h = (h.0.0, parents_stand cs h.1)

  -- one with texts of its own
  own_commit : (f : FileMap Bytes) (ps : Commits) (t : CommitText) → T (is_proper (commit_value (commit f ps t))) → AllByRecursion IsGood (parts (commit_value (commit f ps t)))
      → whole_commit ins (commit f ps t) ≡ commit (whole_files ins f) (whole_commits ins ps) t → stood_for nonce kind.Commit (commit_body stand (commit f ps t)) ≡ None
      → record_named whole.records (name_of stand (commit_value (commit f ps t))) ≡ Some (record_of stand (commit_value (commit f ps t))) → IsGood (commit_value (commit f ps t))
  own_commit f ps t p good made e held =
      let files = good.0.1 in
      let elders = parents_kept ps good.1 in
      let tree = tree_named_alike stand name (stand_trees nonce name) ins f files in
      let names = parents_alike stand name (stand_trees nonce name) ins ps elders in
      let body : commit_body stand (commit f ps t) ≡ commit_body name (whole_commit ins (commit f ps t)) = (λ i. commit_text (record { tree = tree i; parents = names i; text = t })) ∙ ap (commit_body name) (sym made) in
      let named = named_own nonce name kind.Commit (commit_body stand (commit f ps t)) e ∙ ap (name kind.Commit) body in
      let record_is : record_of stand (commit_value (commit f ps t)) ≡ record_of name (commit_value (whole_commit ins (commit f ps t))) = λ i. record { name = named i; kind = kind.Commit; body = body i } in
      let proper : T (is_proper (commit_value (commit (whole_files ins f) (whole_commits ins ps) t))) = both (is_content (whole_files ins f)) (is_proper_text t) (subst T (sym (content_same ins f)) (first (is_content f) _ p)) (second (is_content f) _ p) in (
        held_stands (name_of stand (commit_value (commit f ps t))) (commit_value (whole_commit ins (commit f ps t))) (subst (λ c. T (is_proper (commit_value c))) (sym made) proper)
            (subst (λ c. AllByRecursion Stands (parts (commit_value c))) (sym made) (good.0.0, parents_stand ps good.1)) (held ∙ ap Some record_is),
        (named, files, elders),
      )

  -- one that stands for another
  other_commit : (f : FileMap Bytes) (t : CommitText) (n : Bytes) → T (is_proper (commit_value (commit f none t))) → IsGood (tree_value f) → whole_commit ins (commit f none t) ≡ commit (whole_files ins f) (elders_held whole.records n).0 (elders_held whole.records n).1
      → stood_for nonce kind.Commit (commit_body stand (commit f none t)) ≡ Some n → HasTreeOf nonce whole n (commit_body stand (commit f none t)) → IsGood (commit_value (commit f none t))
  other_commit f t n p good made e held =
      let w : Commit = commit_of_value (Named n) in
      let found = finds name namer whole sound n held.held held.found in
      let value = held_is name namer whole sound n (ap is_some held.found) in
      let commit_is : Named n ≡ commit_value w = is_commit name (Named n) (ap (λ z. z.kind) found.1 ∙ held.commit) in
      let w_stands : Stands (commit_value w) = subst Stands commit_is found.0 in
      let w_proper : T (is_proper (commit_value w)) = proper_in (history_of whole).values (commit_value w) (passes _ is_whole.proper) w_stands in
      let w_body : held.held.body ≡ commit_body name w = sym (ap (λ z. z.body) found.1) ∙ ap (body_of name) commit_is in
      let w_tree : (commit_parts_in held.held.body).tree ≡ tree_name name (files_of w) =
      ap (λ b. (commit_parts_in b).tree) w_body ∙ ap (λ z. z.tree) (commit_read (parts_of_commit name w) (commit_body name w) (text_is name namer w (second (is_content (files_of w)) _ w_proper))) in
      let own_tree : (commit_parts_in (commit_body stand (commit f none t))).tree ≡ tree_name stand f =
      ap (λ z. z.tree) (commit_read (parts_of_commit stand (commit f none t)) (commit_body stand (commit f none t)) (text_is stand (stand_is_namer nonce name namer) (commit f none t) (second (is_content f) _ p))) in
      let named : name_of name (tree_value (whole_files ins f)) ≡ name_of name (tree_value (files_of w)) = sym (tree_named_alike stand name (stand_trees nonce name) ins f good.1) ∙ sym own_tree ∙ sym held.tree ∙ w_tree in
      let trees = told (tree_value (whole_files ins f)) (tree_value (files_of w)) good.0 (parts_in (history_of whole).values (commit_value w) is_whole w_stands).0 named in
      let files : whole_files ins f ≡ files_of w = cc trees in
      let same : whole_commit ins (commit f none t) ≡ w = made ∙ ap (λ g. commit g (parents_of w) (text_of w)) files ∙ commit_again w in (
        subst (λ c. Stands (commit_value c)) (sym same) w_stands,
        (named_by nonce name kind.Commit (commit_body stand (commit f none t)) n e ∙ sym value.named ∙ ap (name_of name) (commit_is ∙ ap commit_value (sym same)), good.1, tt),
      )

  commit_good : (f : FileMap Bytes) (ps : Commits) (t : CommitText) → T (is_proper (commit_value (commit f ps t))) → AllByRecursion IsGood (parts (commit_value (commit f ps t)))
      → IsOfWhole nonce whole (record_of stand (commit_value (commit f ps t))) → IsGood (commit_value (commit f ps t))
  commit_good f ps t p good h = by ps p good (commit_stood_for nonce (parts_of_commit stand (commit f ps t)) (is_true _ (name_is_name stand (stand_is_namer nonce name namer) kind.Tree _))) h
    where
      Told : Commits → Option Bytes → Type 0
      Told qs o = MatchOption o (record_named whole.records (name_of stand (commit_value (commit f qs t))) ≡ Some (record_of stand (commit_value (commit f qs t)))) (λ called. StandsForHeld nonce whole kind.Commit called (commit_body stand (commit f qs t)))

      alone : (o : Option Bytes) → name_behind (commit_front nonce) (text_lines t) ≡ o → T (is_proper (commit_value (commit f none t))) → AllByRecursion IsGood (parts (commit_value (commit f none t)))
          → stood_for nonce kind.Commit (commit_body stand (commit f none t)) ≡ o → Told none o → IsGood (commit_value (commit f none t))
      alone None e q all s k = own_commit f none t q all (made_of stand name ins (stand_trees nonce name) namer f none t (ap (option_map (elders_held whole.records)) e)) s k
      alone (Some n) e q all s k =
          other_commit f t n q all.0 (ap (λ o. elim (option_map (elders_held whole.records) o) as (λ _. Commit) [ None ↦ commit (whole_files ins f) none t | Some elders ↦ commit (whole_files ins f) elders.0 elders.1 ]) e) s k

      by : (qs : Commits) → T (is_proper (commit_value (commit f qs t))) → AllByRecursion IsGood (parts (commit_value (commit f qs t))) → stood_for nonce kind.Commit (commit_body stand (commit f qs t)) ≡ stood_by nonce (names_of stand qs) t
          → Told qs (stood_for nonce kind.Commit (commit_body stand (commit f qs t))) → IsGood (commit_value (commit f qs t))
      by none q all s k = alone (name_behind (commit_front nonce) (text_lines t)) refl q all s (subst (Told none) s k)
      by (more c cs) q all s k = own_commit f (more c cs) t q all refl s (subst (Told (more c cs)) s k)

  -- ---- tags

  tag_good : (t : Tag) → T (is_proper (tag_value t)) → AllByRecursion IsGood (parts (tag_value t)) → IsOfWhole nonce whole (record_of stand (tag_value t)) → IsGood (tag_value t)
  tag_good t p good h =
      let may = tag_may stand name ins (stand_trees nonce name) t good.0.1 in
      (held_stands (name_of stand (tag_value t)) (tag_value (whole_tag ins t)) p (good.0.0, tt) (h ∙ ap Some may.1), good.0.1)

  value_good : (v : Value) → T (is_proper v) → AllByRecursion IsGood (parts v) → IsOfWhole nonce whole (record_of stand v) → IsGood v
  value_good (blob_value x) p good h = blob_good x h
  value_good (tree_value f) p good h = tree_good f p good h
  value_good (commit_value (commit f ps t)) p good h = commit_good f ps t p good h
  value_good (tag_value t) p good h = tag_good t p good h

  values_good : (before vs : List Value) → AllByRecursion IsGood before → IsClosedAfter before vs → T (list_all is_proper vs) → AllByRecursion (IsOfWhole nonce whole) (map (record_of stand) vs) → AllByRecursion IsGood vs
  values_good before [] h c p k = tt
  values_good before (v ∷ vs) h c p k =
      let one = value_good v (first _ _ p) (parts_good (parts v) c.1) k.0 in
      (one, values_good (before ++ v ∷ []) vs (join_values IsGood before (v ∷ []) h (one, tt)) c.2 (second (is_proper v) _ p) k.1)
    where
      parts_good : (us : List Value) → AllByRecursion (IsIn before) us → AllByRecursion IsGood us
      parts_good [] i = tt
      parts_good (u ∷ us) i = (all_in IsGood before u h i.0, parts_good us i.1)

  -- each value of the small history
  pub small_good : (small : Records) → IsSound stand small → IsSmallOf nonce whole small → AllByRecursion IsGood (history_of small).values
  small_good small small_sound h =
      let s = stands stand (stand_is_namer nonce name namer) small small_sound in
      values_good [] (history_of small).values tt s.history.closed (passes _ s.history.proper) (subst (AllByRecursion (IsOfWhole nonce whole)) s.records h.records)
