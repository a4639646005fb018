-- How a commit's values are added to the history of a replay: the blobs of its changes, its trees, itself.
use Rattle.std.proofs.Common.{◌≡◌, ℕ, zero, suc, true, false, cond, List, [], ◌∷◌, ◌++◌, map, Option, Some, None, Result, Ok, Err, refl, sym, ap, subst, ◌∙◌}
use Rattle.std.specs.List.{fold}
use Rattle.std.specs.Option.{option_map}
use Rattle.gx_model.specs.declared.faults.Fault.{Fault}
use Rattle.gx_model.specs.declared.objects.Kind.{Kind}
use Rattle.gx_model.specs.declared.objects.Mode.{Mode}
use Rattle.gx_model.specs.declared.objects.Mode.TheVariants.{File, Exec, Link, Gitlink, Dir}
use Rattle.gx_model.specs.Texts.{Bytes}
use Rattle.gx_model.specs.Faults.{◌>>=◌}
use Rattle.gx_model.specs.Histories.Files.{FileMap, depth}
use Rattle.gx_model.specs.Histories.Edits.{copied, modified, renamed}
use Rattle.gx_model.specs.Histories.Values.{Commit, Value, blob_value, sub_maps, tree_value}
use Rattle.gx_model.specs.Histories.{IsIn, Records, record_of, with_one, with_tree, with_tree_to}
use Rattle.gx_model.specs.Records.HistoryOf.{contents_of, named_values}
use Rattle.gx_model.specs.Records.Growth.{all_trees, clashes, put_all, tree_records, with_values}
use Rattle.gx_model.specs.Laws.RepositoryLaws.{NamesTree, PutsGrow, TreesGrow, values_of}
use Rattle.gx_model.specs.Records.Sound.{IsNamedMap, IsSound}
use Rattle.gx_model.specs.Revisions.Denotation.{base_value}
use Rattle.gx_model.specs.Texts.Digits.{lower}
use Rattle.gx_model.specs.Streams.Commands.{Change, Clear, Copy, DataRef, Inline, Mark, Modify, Object, Remove, Rename}
use Rattle.gx_model.specs.Replay.{State, all_changed, at, blob_bytes, changed, content}
use Rattle.gx_model.proofs.Records.GrownTrees.{trees_fold}
use Rattle.gx_object.specs.declared.name.Name.{Name}
use Rattle.gx_repo.specs.Additions.{HasValues}
use Rattle.gx_import.specs.declared.tables.Tables.{Tables}
use Rattle.gx_import.specs.Additions.{added_alone, blob_added, blobs_added, content_added, unless_refused}
use Rattle.gx_import.specs.Objects.{IsCommitOf}
use Rattle.gx_import.specs.Rows.{AreAll}
use Rattle.gx_import.specs.Standing.{Stands}
use Rattle.gx_import.proofs.Standings.{grown, one_has, one_keeps}

fold_append : {A B : Type 0} (f : A → B → A) (a : A) (xs ys : List B) → fold f a (xs ++ ys) ≡ fold f (fold f a xs) ys
fold_append f a [] ys = refl
fold_append f a (x ∷ xs) ys = fold_append f (f a x) xs ys

-- ---- clashes

module _ (name : Kind → Bytes → Bytes) where
  -- values of which the first clash
  pub clash_first : (xs ys vs : List Value) → with_values name vs xs ≡ None → with_values name vs (xs ++ ys) ≡ None
  clash_first [] ys vs e = absurd (cc e)
  clash_first (x ∷ xs) ys vs e = elim (clashes name vs x) as (λ b. cond b None (with_values name (with_one vs x) xs) ≡ None → cond b None (with_values name (with_one vs x) (xs ++ ys)) ≡ None) [
    | true ↦ λ k. refl
    | false ↦ λ k. clash_first xs ys (with_one vs x) k
  ] e

  -- and of which the last do, after the others
  pub clash_after : (xs ys vs : List Value) → with_values name (fold with_one vs xs) ys ≡ None → with_values name vs (xs ++ ys) ≡ None
  clash_after [] ys vs e = e
  clash_after (x ∷ xs) ys vs e = elim (clashes name vs x) as (λ b. cond b None (with_values name (with_one vs x) (xs ++ ys)) ≡ None) [ true ↦ refl | false ↦ clash_after xs ys (with_one vs x) e ]

-- ---- what stood stays

pub all_keep : (xs vs : List Value) (u : Value) → IsIn vs u → IsIn (fold with_one vs xs) u
all_keep [] vs u h = h
all_keep (x ∷ xs) vs u h = all_keep xs (with_one vs x) u (one_keeps vs x u h)

pub tree_keeps : (vs : List Value) (f : FileMap Bytes) (u : Value) → IsIn vs u → IsIn (with_tree vs f) u
tree_keeps vs f u h = subst (λ ws. IsIn ws u) (sym (trees_fold vs f)) (all_keep (map tree_value (all_trees f)) vs u h)

tree_has_to : (n : ℕ) (vs : List Value) (f : FileMap Bytes) → IsIn (with_tree_to n vs f) (tree_value f)
tree_has_to zero vs f = one_has vs (tree_value f)
tree_has_to (suc n) vs f = one_has (fold (with_tree_to n) vs (sub_maps f)) (tree_value f)

pub tree_has : (vs : List Value) (f : FileMap Bytes) → IsIn (with_tree vs f) (tree_value f)
tree_has vs f = tree_has_to (depth f) vs f

pub commits_keep : (name : Kind → Bytes → Bytes) (vs ws : List Value) → ((u : Value) → IsIn vs u → IsIn ws u) → (cs : List Commit) (ns : List Name) → AreAll (IsCommitOf name vs) cs ns → AreAll (IsCommitOf name ws) cs ns
commits_keep name vs ws k [] [] h = tt
commits_keep name vs ws k [] (n ∷ ns) h = absurd h
commits_keep name vs ws k (c ∷ cs) [] h = absurd h
commits_keep name vs ws k (c ∷ cs) (n ∷ ns) h = (record { stands = k _ h.0.stands; named = h.0.named }, commits_keep name vs ws k cs ns h.1)

-- ---- trees

-- the trees of these files in the history
abbrev pub with_files : FileMap Bytes → State → State
with_files f s = record s { history = record { values = with_tree s.history.values f; refs = s.history.refs } }

module _ (name : Kind → Bytes → Bytes) {A : Type 0} (r now : Records) (tables : Tables A) (s : State) (h : Stands name r tables s) where
  pub tree_stands : (f : FileMap Bytes) → HasValues r now (with_tree (values_of r) f) → Stands name now tables (with_files f s)
  tree_stands f has =
      grown name r now tables s h (with_tree s.history.values f) (tree_keeps s.history.values f) (subst (HasValues r now) (ap (λ z. with_tree z.values f) h.history) has)

  pub alone_stands : (v : Value) → HasValues r now (with_one (values_of r) v) → Stands name now tables (added_alone v s)
  alone_stands v has =
      grown name r now tables s h (with_one s.history.values v) (one_keeps s.history.values v) (subst (HasValues r now) (ap (λ z. with_one z.values v) h.history) has)

nothing_mapped : {X Y : Type 0} (f : X → Y) (o : Option X) → option_map f o ≡ None → o ≡ None
nothing_mapped f None e = refl
nothing_mapped f (Some x) e = absurd (cc)

module _ (name : Kind → Bytes → Bytes) (r : Records) (sound : IsSound name r) (puts : PutsGrow name) (trees : TreesGrow name) where
  -- trees that can't be put clash
  pub trees_clash : (names f : FileMap Bytes) → IsNamedMap r.records names → contents_of (named_values r.records) names ≡ f → put_all r.records (tree_records name names) ≡ None
      → with_values name (values_of r) (map tree_value (all_trees f)) ≡ None
  trees_clash names f named same e =
      let t = subst (NamesTree name r names) same (trees r sound names named) in
      nothing_mapped (map (record_of name)) (with_values name (values_of r) (map tree_value (all_trees f)))
      (sym (puts.adds r sound (map tree_value (all_trees f)) t.ready) ∙ ap (put_all r.records) (sym t.records) ∙ e)

-- ---- changes

module _ (name : Kind → Bytes → Bytes) where
  abbrev Bytes_given : State → Bytes → Result (State × Bytes) Fault
  Bytes_given s x = Ok (s, x)

  held_after : (s : State) (given : Result Value Fault) (r : State × Bytes) → (given >>= λ v. blob_bytes v >>= λ x. Bytes_given s x) ≡ Ok r → r.0 ≡ s
  held_after s (Err e) r k = absurd (cc k)
  held_after s (Ok v) r k = of (blob_bytes v) k
    where
      of : (o : Result Bytes Fault) → (o >>= λ x. Bytes_given s x) ≡ Ok r → r.0 ≡ s
      of (Err e) k = absurd (cc k)
      of (Ok x) k = let same : (let p : State × Bytes = (s, x) in p) ≡ r = cc k in sym (ap (λ (p : State × Bytes). p.0) same)

  abbrev Adds_so : State → DataRef → State × Bytes → Type 0
  Adds_so s d r = r.0.history.values ≡ fold with_one s.history.values (content_added d)

  abbrev blob_given : State → Bytes → Result (State × Bytes) Fault
  blob_given s x = Ok (record s { history = record { values = with_one s.history.values (blob_value x); refs = s.history.refs } }, x)

  abbrev with_blob : State → Bytes → State × Bytes
  with_blob s x = (record s { history = record { values = with_one s.history.values (blob_value x); refs = s.history.refs } }, x)

  inline_after : (s : State) (x : Bytes) (r : State × Bytes) → blob_given s x ≡ Ok r → Adds_so s (Inline x) r
  inline_after s x r e = let same : with_blob s x ≡ r = cc e in sym (ap (λ (p : State × Bytes). p.0.history.values) same)

  values_same : (s : State) (r : State × Bytes) → r.0 ≡ s → r.0.history.values ≡ s.history.values
  values_same s r e = ap (λ t. t.history.values) e

  own : {s : State} {r : State × Bytes} (x : Bytes) → Bytes_given s x ≡ Ok r → r.0 ≡ s
  own {s} {r} x k = let same : (let p : State × Bytes = (s, x) in p) ≡ r = cc k in sym (ap (λ (p : State × Bytes). p.0) same)

  content_after : (s : State) (m : Mode) (d : DataRef) (r : State × Bytes) → content name s m d ≡ Ok r → Adds_so s d r
  content_after s File (Object x) r e = values_same s r (held_after s (base_value name s.history x) r e)
  content_after s File (Mark n) r e = values_same s r (held_after s (at s n) r e)
  content_after s File (Inline x) r e = inline_after s x r e
  content_after s Exec (Object x) r e = values_same s r (held_after s (base_value name s.history x) r e)
  content_after s Exec (Mark n) r e = values_same s r (held_after s (at s n) r e)
  content_after s Exec (Inline x) r e = inline_after s x r e
  content_after s Link (Object x) r e = values_same s r (held_after s (base_value name s.history x) r e)
  content_after s Link (Mark n) r e = values_same s r (held_after s (at s n) r e)
  content_after s Link (Inline x) r e = inline_after s x r e
  content_after s Gitlink (Object x) r e = values_same s r (own (map lower x) e)
  content_after s Gitlink (Mark n) r e = values_same s r (held_after s (at s n) r e)
  content_after s Gitlink (Inline x) r e = inline_after s x r e
  content_after s Dir (Object x) r e = values_same s r (held_after s (base_value name s.history x) r e)
  content_after s Dir (Mark n) r e = values_same s r (held_after s (at s n) r e)
  content_after s Dir (Inline x) r e = inline_after s x r e

  abbrev Adds_by : State → Change → State × FileMap Bytes → Type 0
  Adds_by s c r = r.0.history.values ≡ fold with_one s.history.values (blob_added c)

  abbrev Files_given : State → FileMap Bytes → Result (State × FileMap Bytes) Fault
  Files_given s g = Ok (s, g)

  edit_after : (s : State) (given : Result (FileMap Bytes) Fault) (r : State × FileMap Bytes) → (given >>= λ g. Files_given s g) ≡ Ok r → r.0 ≡ s
  edit_after s (Err e) r k = absurd (cc k)
  edit_after s (Ok g) r k = let same : (let p : State × FileMap Bytes = (s, g) in p) ≡ r = cc k in sym (ap (λ (p : State × FileMap Bytes). p.0) same)

  modify_after : (s : State) (d : DataRef) (given : Result (State × Bytes) Fault) (next : State × Bytes → Result (FileMap Bytes) Fault) (r : State × FileMap Bytes) → ((t : State × Bytes) → given ≡ Ok t → Adds_so s d t)
      → (given >>= λ t. next t >>= λ g. Files_given t.0 g) ≡ Ok r → r.0.history.values ≡ fold with_one s.history.values (content_added d)
  modify_after s d (Err e) next r one k = absurd (cc k)
  modify_after s d (Ok t) next r one k = ap (λ u. u.history.values) (edit_after t.0 (next t) r k) ∙ one t refl

  changed_after : (s : State) (f : FileMap Bytes) (c : Change) (r : State × FileMap Bytes) → changed name s f c ≡ Ok r → Adds_by s c r
  changed_after s f (Modify m d p) r e = modify_after s d (content name s m d) (λ t. modified f p (m, t.1)) r (λ t. content_after s m d t) e
  changed_after s f (Remove p) r e = let same = edit_after s (Ok _) r e in ap (λ t. t.history.values) same
  changed_after s f (Copy p q) r e = ap (λ t. t.history.values) (edit_after s (copied f p q) r e)
  changed_after s f (Rename p q) r e = ap (λ t. t.history.values) (edit_after s (renamed f p q) r e)
  changed_after s f Clear r e = ap (λ t. t.history.values) (edit_after s (Ok []) r e)

  more_after : (s : State) (c : Change) (cs : List Change) (given : Result (State × FileMap Bytes) Fault) (r : State × FileMap Bytes) → ((t : State × FileMap Bytes) → given ≡ Ok t → Adds_by s c t)
      → ((t : State × FileMap Bytes) → all_changed name t.0 t.1 cs ≡ Ok r → r.0.history.values ≡ fold with_one t.0.history.values (blobs_added name t.0 t.1 cs))
      → (given >>= λ t. all_changed name t.0 t.1 cs) ≡ Ok r → r.0.history.values ≡ fold with_one s.history.values (blob_added c ++ unless_refused (λ t. blobs_added name t.0 t.1 cs) given)
  more_after s c cs (Err e) r one rest k = absurd (cc k)
  more_after s c cs (Ok t) r one rest k =
      rest t k ∙ ap (λ vs. fold with_one vs (blobs_added name t.0 t.1 cs)) (one t refl) ∙ sym (fold_append with_one s.history.values (blob_added c) (blobs_added name t.0 t.1 cs))

  -- changes that were made added their blobs
  pub changes_after : (s : State) (f : FileMap Bytes) (cs : List Change) (r : State × FileMap Bytes) → all_changed name s f cs ≡ Ok r → r.0.history.values ≡ fold with_one s.history.values (blobs_added name s f cs)
  changes_after s f [] r e = ap (λ t. t.history.values) (edit_after s (Ok f) r e)
  changes_after s f (c ∷ cs) r e = more_after s c cs (changed name s f c) r (λ t. changed_after s f c t) (λ t. changes_after t.0 t.1 cs r) e
