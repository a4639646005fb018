-- What a text gives from nothing is shown by the repositories that have its records, and comes back from its export.
use Rattle.std.proofs.Common.{◌≡◌, Bool, true, false, cond, refl, sym, ap, subst, ◌∙◌, List, [], ◌∷◌, ◌++◌, map, Option, None, Some, Ok, Err, inl, inr}
use Rattle.std.specs.Prelude.{◌||◌, IsTrue}
use Rattle.std.specs.Bool.{passes}
use Rattle.std.specs.List.{AllByRecursion, list_all, list_any}
use Rattle.std.specs.Map.{lookup}
use Rattle.std.specs.Option.{option_map, option_or}
use Rattle.std.specs.Ordering.{nat_cmp}
use Rattle.std.specs.Cmp.Lexicographic.{slice_cmp}
use Rattle.std.specs.FinMap.Entries.{is_sorted}
use Rattle.gx_model.specs.declared.faults.Fault.TheVariants.{UnknownObject}
use Rattle.gx_model.specs.declared.objects.Kind.{Kind}
use Rattle.gx_model.specs.declared.objects.Mode.{Mode}
use Rattle.gx_model.specs.declared.objects.Mode.TheVariants.{File, Exec, Link, Gitlink, Dir}
use Rattle.gx_model.specs.Texts.{Bytes, same_bytes}
use Rattle.gx_model.specs.Texts.RefNames.{is_ref_name}
use Rattle.gx_model.specs.Faults.{Given, ◌>>=◌}
use Rattle.gx_model.specs.Texts.Paths.{Path}
use Rattle.gx_model.specs.Histories.Files.{FileMap, Leaf, file_at, sub_map}
use Rattle.gx_model.specs.Histories.Values.{Commit, Tag, Value, blob_value, commit_value, tag_value, tree_value}
use Rattle.gx_model.specs.Objects.{IsNamer, TagParts}
use Rattle.gx_model.specs.Records.{body_of, commit_body, content_name, kind_of, name_of, parts_of_commit, tag_body, tree_name}
use Rattle.gx_model.specs.Histories.{AreDistinct, History, IsClosedAfter, IsHistory, IsIn, IsRefOf, IsWhole, Record, Records, StandsFor, Target, itself, no_history, record_of, value_at}
use Rattle.gx_model.specs.Records.HistoryOf.{commit_parts_in, history_of, tag_parts_in}
use Rattle.gx_model.specs.Records.Sound.{AnyByRecursion, IsSound}
use Rattle.gx_model.specs.Records.Growth.{record_named}
use Rattle.gx_model.specs.Records.Walks.{place_in, place_of, walked}
use Rattle.gx_model.specs.Records.Lookups.{first_named}
use Rattle.gx_model.specs.Revisions.{Revision}
use Rattle.gx_model.specs.Revisions.Denotation.{Shown, denoted, file_shown, files_in, first_ref, looked_up, object, of_file, ref_names, shown_value, submodule}
use Rattle.gx_model.specs.Revisions.Ranges.{listed}
use Rattle.gx_model.specs.Streams.Gitlinks.{HoldsSayable}
use Rattle.gx_model.specs.Streams.Grammar.{commands_of}
use Rattle.gx_model.specs.Streams.Items.{items_of}
use Rattle.gx_model.specs.Replay.{imported_asked}
use Rattle.gx_model.specs.Laws.ChangesLaws.{RepositoriesComeBackByChanges}
use Rattle.gx_model.specs.Laws.ExportLaws.{AnyReaches, IsAgain}
use Rattle.gx_model.specs.Laws.Headline.{ComesBack, HasRecordsOf, Headline, RefusedHeadline, Shows, ShowsAndComesBack, object_denoted}
use Rattle.gx_model.specs.Laws.ShownRecords.{body_named, commit_held, file_held, leaf_held, listed_held, tree_in, tree_named}
use Rattle.gx_model.proofs.Texts.PathTests.{same_is}
use Rattle.gx_model.proofs.Histories.AddedValues.{in_left, in_right}
use Rattle.gx_model.proofs.Records.LinkedValues.{parts_in, proper_in}
use Rattle.gx_model.proofs.ObjectTexts.BodiesReadBack.{commit_read, tag_read}
use Rattle.gx_model.proofs.Records.OneHistory.{names_of_records, one_history, told_by_name}
use Rattle.gx_model.proofs.Records.HistoriesExist.{stands, tag_text_is}
use Rattle.gx_model.proofs.Records.HistoriesAreSound as sound
use Rattle.gx_model.proofs.Records.GrownRecords.{distinct_of, is_is_in, whole_of}
use Rattle.gx_model.proofs.ObjectTexts.TreePaths.{content_in, leaf_at}
use Rattle.gx_model.proofs.Records.TreeWalks.{walk_sound}
use Rattle.gx_model.proofs.Records.HeldNames.{value_found}
use Rattle.gx_model.proofs.Records.HeldValues.{proper_text, text_is}
use Rattle.gx_model.proofs.Revisions.ShownValues.{file_stands, files_stand, held_value}
use Rattle.gx_model.proofs.Stores.RecordLines.{hex_unhex}
use Rattle.gx_model.proofs.Streams.ReadCommands.{all_proper}
use Rattle.gx_model.proofs.Streams.ReadGitlinks.{none_brought}
use Rattle.gx_model.proofs.Replay.GitlinkSteps.{none_from_text, none_reached, refusals_keep_none}
use Rattle.gx_model.proofs.Replay.HistorySteps.{nothing_is, refusals_keep, texts_give}
use Rattle.gx_model.proofs.Export.ReadableExports.{formed_readable}
use Rattle.gx_model.proofs.Export.SpelledExports.{export_imported}
use Rattle.gx_model.proofs.Headlines.ComingBack.{changes_back}
use Rattle.gx_model.proofs.Headlines.KeptCheckpoints.{checkpoints_kept}
use Rattle.gx_model.proofs.Headlines.ListedRanges.{ranges_shown}

-- ---- refs

module _ (f : Target → Bytes) where
  abbrev with_names : List (Bytes × Target) → List (Bytes × Bytes)
  with_names refs = map (λ (ref : Bytes × Target). let q : Bytes × Bytes = (ref.0, f ref.1) in q) refs

  looked : (n : Bytes) (refs : List (Bytes × Target)) → lookup (same_bytes n) (with_names refs) ≡ option_map f (lookup (same_bytes n) refs)
  looked n [] = refl
  looked n (r ∷ rs) = elim (same_bytes n r.0) as (λ b. cond b (Some (f r.1)) (lookup (same_bytes n) (with_names rs)) ≡ option_map f (cond b (Some r.1) (lookup (same_bytes n) rs))) [ true ↦ refl | false ↦ looked n rs ]

  or_named : (o p : Option Target) → option_or (option_map f o) (option_map f p) ≡ option_map f (option_or o p)
  or_named None p = refl
  or_named (Some t) p = refl

  first_of : (h : History) (ns : List Bytes) → first_named (with_names h.refs) ns ≡ option_map f (first_ref h ns)
  first_of h [] = refl
  first_of h (n ∷ ns) =
      (λ i. option_or (looked n h.refs i) (first_of h ns i)) ∙ or_named (lookup (same_bytes n) h.refs) (first_ref h ns)

-- ---- what is shown

module _ (name : Kind → Bytes → Bytes) (namer : IsNamer name) (r : Records) (is : IsSound name r) where
  abbrev h : History
  h = history_of r

  abbrev Stands : Value → Type 0
  Stands = IsIn h.values

  whole : IsWhole h.values
  whole = whole_of name namer h (stands name namer r is).history

  apart : AreDistinct (map (name_of name) h.values)
  apart = distinct_of name namer r h (stands name namer r is)

  record_is : (v : Value) → Stands v → record_named r.records (name_of name v) ≡ Some (record_of name v)
  record_is v i = (value_found name namer r is v i).0

  body_is : (v : Value) → Stands v → body_named r.records (name_of name v) ≡ body_of name v
  body_is v i = ap (λ (o : Option Record). elim o [ None ↦ [] | Some held ↦ held.body ]) (record_is v i)

  -- a file's name is that of its bytes, and a gitlink's is its digits
  leaf_shown : (m : Mode) (x : Bytes) (f : FileMap Bytes) (p : Path) → Stands (tree_value f) → file_at f p ≡ Some (m, x) → leaf_held r.records (Some (m, content_name name m x)) ≡ Ok (m, x)
  leaf_shown File x f p i e = ap (λ y. Ok (File, y)) (body_is (blob_value x) (file_stands name namer h (stands name namer r is).history apart f p File x (blob_value x) i e refl))
  leaf_shown Exec x f p i e = ap (λ y. Ok (Exec, y)) (body_is (blob_value x) (file_stands name namer h (stands name namer r is).history apart f p Exec x (blob_value x) i e refl))
  leaf_shown Link x f p i e = ap (λ y. Ok (Link, y)) (body_is (blob_value x) (file_stands name namer h (stands name namer r is).history apart f p Link x (blob_value x) i e refl))
  leaf_shown Gitlink x f p i e = ap (λ y. Ok (Gitlink, y)) (hex_unhex x (leaf_at name namer f p (Gitlink, x) (content_in name namer h.values whole apart f i) e))
  leaf_shown Dir x f p i e = absurd (leaf_at name namer f p (Dir, x) (content_in name namer h.values whole apart f i) e)

  -- tree records show what the whole map has
  path_shown : (f : FileMap Bytes) (p : Path) → Stands (tree_value f) → leaf_held r.records (walked r.records (tree_name name f) p) ≡ file_shown f p
  path_shown f p i = ap (leaf_held r.records) (walk_sound name namer r is f i p) ∙ by p
    where
      some : (c : Bytes) (p : Path) (o : Option (Leaf Bytes)) (g : FileMap Bytes) → file_at f (c ∷ p) ≡ o → leaf_held r.records (place_of name o g) ≡ of_file o g
      some c p (Some x) g e = leaf_shown x.0 x.1 f (c ∷ p) i e
      some c p None [] e = refl
      some c p None (x ∷ xs) e = refl

      by : (p : Path) → leaf_held r.records (place_in name f p) ≡ file_shown f p
      by [] = refl
      by (c ∷ p) = some c p (file_at f (c ∷ p)) (sub_map f (c ∷ p)) refl

  commit_shown : (c : Commit) → Stands (commit_value c) → commit_parts_in (commit_body name c) ≡ parts_of_commit name c
  commit_shown c i = commit_read (parts_of_commit name c) (commit_body name c) (text_is name namer c (proper_text name namer r is c i))

  commit_told : (c : Commit) → Stands (commit_value c) → commit_parts_in (body_named r.records (name_of name (commit_value c))) ≡ parts_of_commit name c
  commit_told c i = ap commit_parts_in (body_is (commit_value c) i) ∙ commit_shown c i

  tag_told : (t : Tag) → Stands (tag_value t) → (tag_parts_in (tag_body name t)).object ≡ name_of name (commit_value t.target)
  tag_told t i = ap (λ (q : TagParts). q.object) (tag_read _ (tag_body name t) (tag_text_is name namer t (proper_in h.values (tag_value t) (passes _ whole.proper) i)))

  -- the tree that an object names is that of its value's file map
  tree_is : (v : Value) → Stands v → tree_named r.records (name_of name v) ≡ (files_in v >>= λ f. Ok (tree_name name f))
  tree_is v i = ap (λ (o : Option Record). elim o [ None ↦ Err UnknownObject | Some held ↦ tree_in r.records held.kind (name_of name v) held.body ]) (record_is v i) ∙ by v i
    where
      by : (v : Value) → Stands v → tree_in r.records (kind_of name v) (name_of name v) (body_of name v) ≡ (files_in v >>= λ f. Ok (tree_name name f))
      by (blob_value x) j = refl
      by (tree_value f) j = refl
      by (commit_value c) j = ap (λ q. Ok q.tree) (commit_shown c j)
      by (tag_value t) j =
          ap (λ n. Ok (commit_parts_in (body_named r.records n)).tree) (tag_told t j)
          ∙ ap (λ q. Ok q.tree) (commit_told t.target (parts_in h.values (tag_value t) whole j).0)

  value_shown : (v : Value) (p : Path) → Stands v → file_held r.records (name_of name v) p ≡ (files_in v >>= λ f. file_shown f p)
  value_shown v p i = ap (λ o. o >>= λ tree. leaf_held r.records (walked r.records tree p)) (tree_is v i) ∙ by (files_in v) refl
    where
      by : (o : Given (FileMap Bytes)) → files_in v ≡ o → ((o >>= λ f. Ok (tree_name name f)) >>= λ tree. leaf_held r.records (walked r.records tree p)) ≡ (o >>= λ f. file_shown f p)
      by (Ok f) e = path_shown f p (files_stand name namer h (stands name namer r is).history apart v f i e)
      by (Err g) e = refl

  abbrev is_shown : Path → Given Value → Type 0
  is_shown p o = ((o >>= λ v. Ok (name_of name v)) >>= λ called. file_held r.records called p) ≡ (o >>= λ v. files_in v >>= λ f. file_shown f p)

  files_shown : (revision : Revision) (p : Path) → (object_denoted name h revision >>= λ called. file_held r.records called p) ≡ looked_up name h revision p
  unfolding looked_up
  files_shown revision p = by (denoted name h revision) refl
    where
      by : (o : Given Shown) → denoted name h revision ≡ o → is_shown p (o >>= shown_value)
      by (Ok (object v)) e = value_shown v p (held_value name namer r is revision v e)
      by (Ok (submodule x)) e = refl
      by (Err g) e = refl

module _ (name : Kind → Bytes → Bytes) (namer : IsNamer name) (r : Records) (h : History) (s : StandsFor name r h) where
  is_sound : IsSound name r
  is_sound = sound.sound name namer r h s

  shown : Shows name r h
  shown =
      let same : history_of r ≡ h = one_history name namer r (history_of r) h (stands name namer r is_sound) s in
      record {
        refs = λ word. ap (λ refs. first_named refs (ref_names word)) s.refs ∙ first_of (λ target. name_of name (value_at target)) h (ref_names word);
        files = λ revision path. subst (λ k. (object_denoted name k revision >>= λ called. file_held r.records called path) ≡ looked_up name k revision path) same (files_shown name namer r is_sound revision path);
        commits = λ made i. commit_told name namer r is_sound made (subst (λ k. IsIn k.values (commit_value made)) (sym same) i);
        ranges = λ words.
            subst (λ k. listed_held r.records (λ revision. object_denoted name k revision >>= commit_held r.records) words ≡ listed name k words) same
            (ranges_shown name namer r is_sound (λ made i. ap (λ q. q.parents) (commit_told name namer r is_sound made i)) words);
      }

-- ---- what comes back

-- what a later value's place tells: it is no earlier one
no_later : (before vs : List Value) (w : Value) → IsClosedAfter before vs → IsIn before w → IsIn vs w → ⊥
no_later before [] w c i j = j
no_later before (v ∷ vs) w c i (inl e) = let k = is_is_in before v (subst (IsIn before) (sym e) i) in let o : true ≡ false = sym k ∙ c.0 in cc o
no_later before (v ∷ vs) w c i (inr j) = no_later (before ++ v ∷ []) vs w c.2 (in_left before (v ∷ []) w i) j

module _ (name : Kind → Bytes → Bytes) (namer : IsNamer name) where
  none_named : (v : Value) (vs : List Value) → ((w : Value) → IsIn vs w → name_of name v ≡ name_of name w → ⊥) → list_any (same_bytes (name_of name v)) (map (name_of name) vs) ≡ false
  none_named v [] f = refl
  none_named v (w ∷ vs) f = by (same_bytes (name_of name v) (name_of name w)) refl (none_named v vs (λ u i. f u (inr i)))
    where
      by : (b : Bool) → same_bytes (name_of name v) (name_of name w) ≡ b → list_any (same_bytes (name_of name v)) (map (name_of name) vs) ≡ false → list_any (same_bytes (name_of name v)) (name_of name w ∷ map (name_of name) vs) ≡ false
      by true e k = absurd (f w (inl refl) (same_is _ _ (passes _ e)))
      by false e k = (λ i. e i || list_any (same_bytes (name_of name v)) (map (name_of name) vs)) ∙ k

  names_apart : (before vs : List Value) → IsClosedAfter before vs → ((v w : Value) → IsIn vs v → IsIn vs w → name_of name v ≡ name_of name w → v ≡ w) → AreDistinct (map (name_of name) vs)
  names_apart before [] c f = tt
  names_apart before (v ∷ vs) c f = (
    none_named v vs (λ w i e. no_later (before ++ v ∷ []) vs w c.2 (subst (IsIn (before ++ v ∷ [])) (f v w (inl refl) (inr i) e) (in_right before (v ∷ []) v (inl refl))) i),
    names_apart (before ++ v ∷ []) vs c.2 (λ u w i j e. f u w (inr i) (inr j) e),
  )

  record_in : (vs : List Value) (v : Value) → IsIn vs v → AnyByRecursion (λ other. other ≡ record_of name v) (map (record_of name) vs)
  record_in [] v h = h
  record_in (w ∷ vs) v h = elim h [ inl e ↦ inl (ap (record_of name) e) | inr k ↦ inr (record_in vs v k) ]

  records_in : (vs ws : List Value) → ((u : Value) → IsIn ws u → IsIn vs u) → AllByRecursion (λ held. AnyByRecursion (λ other. other ≡ held) (map (record_of name) vs)) (map (record_of name) ws)
  records_in vs [] f = tt
  records_in vs (w ∷ ws) f = (record_in vs w (f w (inl refl)), records_in vs ws (λ u i. f u (inr i)))

  refs_in : (vs : List Value) (refs : List (Bytes × Target)) → ((u : Value) → AnyReaches (map (λ ref. value_at ref.1) refs) u → IsIn vs u) → AllByRecursion (λ ref. IsIn vs (value_at ref.1)) refs
  refs_in vs [] f = tt
  refs_in vs (ref ∷ refs) f = (f (value_at ref.1) (inl (itself (value_at ref.1))), refs_in vs refs (λ u a. f u (inr a)))

  again_history : (h k : History) → IsHistory h → IsAgain h k → IsHistory k
  again_history h k is again =
      let same = sym again.refs in
      record {
        proper = again.whole.proper;
        closed = again.whole.closed;
        sorted = subst (λ refs. IsTrue (is_sorted (slice_cmp nat_cmp) refs)) same is.sorted;
        ref_names = subst (λ refs. IsTrue (list_all (λ ref. is_ref_name ref.0) refs)) same is.ref_names;
        held = subst (λ refs. AllByRecursion (λ ref. IsIn k.values (value_at ref.1)) refs) same (refs_in k.values h.refs again.all);
        own = subst (λ refs. AllByRecursion (λ ref. IsRefOf ref.0 ref.1) refs) same is.own;
      }

  -- the repository of a history
  abbrev of_history : History → Records
  of_history k = record { records = map (record_of name) k.values; refs = map (λ (ref : Bytes × Target). let q : Bytes × Bytes = (ref.0, name_of name (value_at ref.1)) in q) k.refs }

  comes_back : (r : Records) (h k : History) → StandsFor name r h → IsAgain h k → ComesBack name r h (of_history k) k
  comes_back r h k s again =
      let d : AreDistinct (map (name_of name) h.values) = distinct_of name namer r h s in
      let apart = names_apart [] k.values again.whole.closed (λ v w i j e. told_by_name name namer h.values d v w (again.held v i) (again.held w j) e) in
      record {
        stands = record { history = again_history h k s.history again; records = refl; distinct = subst AreDistinct (sym (names_of_records name namer k.values)) apart; refs = refl };
        refs = ap (map (λ (ref : Bytes × Target). let q : Bytes × Bytes = (ref.0, name_of name (value_at ref.1)) in q)) again.refs ∙ sym s.refs;
        objects = subst (λ rs. AllByRecursion (λ held. AnyByRecursion (λ other. other ≡ held) rs) (map (record_of name) k.values)) (sym s.records) (records_in h.values k.values again.held);
        reached = again;
      }

  -- a history that a stream can say is shown by each repository that has its records, and comes back
  pub shows : (h : History) → IsHistory h → HoldsSayable h → (r : Records) → HasRecordsOf name r h → ShowsAndComesBack name r h
  unfolding imported_asked
  shows h is none r has =
      let s : StandsFor name r h = record { history = is; records = has.records; distinct = has.distinct; refs = has.refs } in (
        s,
        shown name namer r h s,
        λ short.
            let q = export_imported name h is (formed_readable h is (none_reached h none) short) in
            (q.0, of_history q.0, q.2, comes_back r h q.0 s q.1),
      )

  pub headline : Headline name
  unfolding imported_asked
  headline given fails h progress report r e has =
      let is = texts_give name no_history h given fails progress report nothing_is e in
      shows h is (none_from_text name no_history h given fails progress report nothing_is tt e) r has

  pub refused_headline : RefusedHeadline name
  unfolding imported_asked
  refused_headline given fails number fault progress kept e =
      let commands = commands_of (items_of given fails) in
      let proper = all_proper (items_of given fails) in
      let brings = none_brought (items_of given fails) in
      let is = refusals_keep name no_history commands.list commands.fault 0 number fault progress kept nothing_is proper e in
      let none = refusals_keep_none name no_history commands.list commands.fault 0 number fault progress kept nothing_is tt brings e in
      (checkpoints_kept name no_history commands.list commands.fault number fault progress kept e, λ r has. shows kept.history is none r has)

  pub changes_come_back : RepositoriesComeBackByChanges name
  unfolding imported_asked
  changes_come_back closed given fails h progress report r e has short =
      let is = texts_give name no_history h given fails progress report nothing_is e in
      let s : StandsFor name r h = record { history = is; records = has.records; distinct = has.distinct; refs = has.refs } in
      let q = changes_back name closed h given fails progress report e short in
      (q.0, of_history q.0, q.2, comes_back r h q.0 s q.1)
