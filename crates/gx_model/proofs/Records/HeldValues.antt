-- What the names of held objects give: values of the history, their commits, parents and file maps.
use Rattle.std.proofs.Common.{◌≡◌, ℕ, zero, suc, ◌-◌, ◌<◌, Bool, true, false, refl, sym, ap, subst, ◌∙◌, arith, List, [], ◌∷◌, map, length, Option, None, Some, Ok, Err}
use Rattle.std.specs.Prelude.{T, is_some, IsTrue}
use Rattle.std.specs.Bool.{passes}
use Rattle.std.specs.List.{AllByRecursion, list_all, slice_get}
use Rattle.std.specs.Option.{ok_or, option_map}
use Rattle.gx_model.specs.declared.faults.Fault.TheVariants as fault
use Rattle.gx_model.specs.declared.objects.Kind.{Kind}
use Rattle.gx_model.specs.declared.objects.Kind.TheVariants as kind
use Rattle.gx_model.specs.Texts.{Bytes}
use Rattle.gx_model.specs.Faults.{◌>>=◌}
use Rattle.gx_model.specs.Histories.Values.{Commit, Commits, Value, blob_value, commit, commit_value, files_of, is_content, is_proper_text, list_of, more, none, parents_of, tag_value, text_of, tree_value}
use Rattle.gx_model.specs.Objects.{IsCommitText, IsNamer, is_name}
use Rattle.gx_model.specs.Records.{body_of, commit_body, kind_of, name_of, named_map, names_of, parts_of_commit, tree_body}
use Rattle.gx_model.specs.Histories.{IsIn, IsWhole, Record, Records, object_of, record_of}
use Rattle.gx_model.specs.Records.HistoryOf.{bytes_of_blob, commit_of_value, files_of_tree, history_of, value_named, value_of_name}
use Rattle.gx_model.specs.Records.Growth.{record_named, same_kind}
use Rattle.gx_model.specs.Records.RecordFaults.{is_held, is_of_kind}
use Rattle.gx_model.specs.Records.Sound.{AnyByRecursion, Holds, IsSound}
use Rattle.gx_model.specs.Records.Lookups.{commit_name_of, commit_named}
use Rattle.gx_model.specs.Revisions.Denotation.{commit_in, files_in, nth_ancestor, nth_parent, peel}
use Rattle.gx_model.proofs.Texts.PathTests.{both, is_true, second}
use Rattle.gx_model.proofs.Records.LinkedValues.{found, holds, is_commit, is_tree, named, parts_in, proper_in}
use Rattle.gx_model.proofs.ObjectTexts.TreePaths.{name_is_name}
use Rattle.gx_model.proofs.Records.GrownRecords.{distinct_of, whole_of}
use Rattle.gx_model.proofs.Records.HistoriesExist.{stands}
use Rattle.gx_model.proofs.Records.HeldNames.{finds, value_found}
use Rattle.gx_model.proofs.Records.HeldObjects.{named_so}
use Rattle.gx_model.proofs.Records.FoundRecords.{commits_found}

kind_same : (k l : Kind) → T (same_kind k l) → k ≡ l
kind_same kind.Blob kind.Blob h = refl
kind_same kind.Tree kind.Tree h = refl
kind_same kind.Commit kind.Commit h = refl
kind_same kind.Tag kind.Tag h = refl
kind_same kind.Blob kind.Tree h = absurd h
kind_same kind.Blob kind.Commit h = absurd h
kind_same kind.Blob kind.Tag h = absurd h
kind_same kind.Tree kind.Blob h = absurd h
kind_same kind.Tree kind.Commit h = absurd h
kind_same kind.Tree kind.Tag h = absurd h
kind_same kind.Commit kind.Blob h = absurd h
kind_same kind.Commit kind.Tree h = absurd h
kind_same kind.Commit kind.Tag h = absurd h
kind_same kind.Tag kind.Blob h = absurd h
kind_same kind.Tag kind.Tree h = absurd h
kind_same kind.Tag kind.Commit h = absurd h

same_as : (k : Kind) → T (same_kind k k)
same_as kind.Blob = tt
same_as kind.Tree = tt
same_as kind.Commit = tt
same_as kind.Tag = tt

-- the file map of a commit or a tag is its commit's
files_by_commit : (v : Value) (c : Commit) → commit_in v ≡ Ok c → files_in v ≡ Ok (files_of c)
files_by_commit (blob_value x) c e = absurd cc
files_by_commit (tree_value f) c e = absurd cc
files_by_commit (commit_value d) c e = let same : d ≡ c = cc in ap (λ u. Ok (files_of u)) same
files_by_commit (tag_value t) c e = let same : t.target ≡ c = cc in ap (λ u. Ok (files_of u)) same

-- one first parent up, and then the rest
pub next_ancestor : (n : ℕ) (c : Commit) → 0 < n → nth_ancestor n c ≡ (nth_parent 1 c >>= nth_ancestor (n - 1))
next_ancestor zero c h = absurd (omega arith)
next_ancestor (suc n) c h = let e : suc n - 1 ≡ n = omega arith in rw e refl

module _ (name : Kind → Bytes → Bytes) (namer : IsNamer name) where
  names_proper : (cs : Commits) → T (list_all is_name (names_of name cs))
  names_proper none = tt
  names_proper (more c cs) = both _ _ (name_is_name name namer kind.Commit (commit_body name c)) (names_proper cs)

  pub text_is : (c : Commit) → T (is_proper_text (text_of c)) → IsCommitText (parts_of_commit name c) (commit_body name c)
  text_is (commit f ps t) h = (refl, is_true _ (name_is_name name namer kind.Tree (tree_body name (named_map name f))), is_true _ (names_proper ps), is_true _ h)

  names_at : (cs : Commits) (n : ℕ) → slice_get (names_of name cs) n ≡ option_map (λ d. name_of name (commit_value d)) (slice_get (list_of cs) n)
  names_at none n = refl
  names_at (more c cs) zero = refl
  names_at (more c cs) (suc n) = names_at cs n

-- as many names as parents
pub names_long : (name : Kind → Bytes → Bytes) (cs : Commits) → length (names_of name cs) ≡ length (list_of cs)
names_long name none = refl
names_long name (more c cs) = let e = names_long name cs in omega arith

module _ (name : Kind → Bytes → Bytes) (namer : IsNamer name) (r : Records) (sound : IsSound name r) where
  abbrev Named : Bytes → Value
  Named n = value_of_name r.records n

  abbrev Stands : Value → Type 0
  Stands = IsIn (history_of r).values

  pub all_whole : IsWhole (history_of r).values
  all_whole = whole_of name namer (history_of r) (stands name namer r sound).history

  -- the value of a name stands in the history, has that name, and the record is its own
  pub record IsValueOf (n : Bytes) (v : Value) : Type 0 where
    pub stands : Stands v
    pub named : name_of name v ≡ n
    pub found : record_named r.records n ≡ Some (record_of name v)

  pub held_is : (n : Bytes) → IsTrue (is_some (record_named r.records n)) → IsValueOf n (Named n)
  held_is n h = by (record_named r.records n) refl h
    where
      by : (o : Option Record) → record_named r.records n ≡ o → IsTrue (is_some o) → IsValueOf n (Named n)
      by None e k = absurd cc
      by (Some s) e k =
          let f = finds name namer r sound n s e in
          record { stands = f.0; named = ap (λ z. z.name) f.1 ∙ named_so r.records n s e; found = e ∙ ap Some (sym f.1) }

  -- what is held as of a kind is held, and its value is of that kind
  pub kind_held : (k : Kind) (n : Bytes) → IsTrue (is_held r.records k n) → IsTrue (is_some (record_named r.records n)) × (kind_of name (Named n) ≡ k)
  kind_held k n h = by (record_named r.records n) refl h
    where
      by : (o : Option Record) → record_named r.records n ≡ o → IsTrue (is_of_kind k o) → IsTrue (is_some (record_named r.records n)) × (kind_of name (Named n) ≡ k)
      by None e l = absurd cc
      by (Some s) e l = (subst (λ p. IsTrue (is_some p)) (sym e) refl, ap (λ z. z.kind) (finds name namer r sound n s e).1 ∙ kind_same s.kind k (passes _ l))

  pub held_kind : (k : Kind) (n : Bytes) → IsTrue (is_some (record_named r.records n)) → kind_of name (Named n) ≡ k → IsTrue (is_held r.records k n)
  held_kind k n h e = subst (λ o. IsTrue (is_of_kind k o)) (sym (held_is n h).found) (subst (λ l. IsTrue (same_kind l k)) (sym e) (is_true _ (same_as k)))

  -- a value of the history is held under its name
  pub value_held : (k : Kind) (v : Value) (n : Bytes) → Stands v → kind_of name v ≡ k → n ≡ name_of name v → IsTrue (is_held r.records k n) × (Named n ≡ v)
  value_held k v n i e s =
      let f = value_found name namer r sound v i in
      let g : record_named r.records n ≡ Some (record_of name v) = ap (record_named r.records) s ∙ f.0 in
      (subst (λ o. IsTrue (is_of_kind k o)) (sym g) (subst (λ l. IsTrue (same_kind l k)) (sym e) (is_true _ (same_as k))), ap Named s ∙ f.1)

  -- it is among the records
  pub value_holds : (v : Value) → Stands v → Holds r.records (kind_of name v) (name_of name v)
  value_holds v i =
      subst (λ rs. Holds rs (kind_of name v) (name_of name v)) (sym (stands name namer r sound).records)
      (holds name (λ held. (held.kind ≡ kind_of name v) × (held.name ≡ name_of name v)) (history_of r).values v i (refl, refl))

  -- what is held by its kind and name
  pub holds_held : (k : Kind) (n : Bytes) → Holds r.records k n → IsTrue (is_held r.records k n)
  holds_held k n h =
      let vs = (history_of r).values in
      let t = stands name namer r sound in
      let f = found name namer (λ s. (s.kind ≡ k) × (s.name ≡ n)) n (λ s p. p.1) vs (distinct_of name namer r (history_of r) t) (subst (AnyByRecursion (λ s. (s.kind ≡ k) × (s.name ≡ n))) t.records h) in
      (value_held k (value_named (named name vs) n) n f.0 f.1.0 (sym f.1.1)).0

  -- what the store gives for a held name
  pub got : (n : Bytes) (o : Kind × Bytes) → IsTrue (is_some (record_named r.records n)) → Some o ≡ option_map object_of (record_named r.records n) → o ≡ (kind_of name (Named n), body_of name (Named n))
  got n o h e = let f = e ∙ ap (option_map object_of) (held_is n h).found in cc f

  -- ---- commits

  pub commit_stands : (n : Bytes) → IsTrue (is_held r.records kind.Commit n) → (Named n ≡ commit_value (commit_of_value (Named n))) × Stands (commit_value (commit_of_value (Named n)))
  commit_stands n h =
      let k = kind_held kind.Commit n h in
      let e = is_commit name (Named n) k.1 in
      (e, subst Stands e (held_is n k.0).stands)

  -- the commit of a value's name
  by_value : (v : Value) (c : Bytes) → Stands v → Some c ≡ commit_name_of name v → (commit_in v ≡ Ok (commit_of_value (Named c))) × IsTrue (is_held r.records kind.Commit c)
  by_value (blob_value x) c i e = absurd cc
  by_value (tree_value f) c i e = absurd cc
  by_value (commit_value d) c i e =
      let s : c ≡ name_of name (commit_value d) = cc in
      let h = value_held kind.Commit (commit_value d) c i refl s in
      (ap (λ u. Ok (commit_of_value u)) (sym h.1), h.0)
  by_value (tag_value t) c i e =
      let s : c ≡ name_of name (commit_value t.target) = cc in
      let h = value_held kind.Commit (commit_value t.target) c (parts_in (history_of r).values (tag_value t) all_whole i).0 refl s in
      (ap (λ u. Ok (commit_of_value u)) (sym h.1), h.0)

  no_commit : (v : Value) → None ≡ commit_name_of name v → commit_in v ≡ Err fault.WrongKind
  no_commit (blob_value x) e = refl
  no_commit (tree_value f) e = refl
  no_commit (commit_value d) e = absurd cc
  no_commit (tag_value t) e = absurd cc

  commit_name : (n : Bytes) → IsTrue (is_some (record_named r.records n)) → commit_named r.records n ≡ commit_name_of name (Named n)
  commit_name n h = let v = held_is n h in ap (commit_named r.records) (sym v.named) ∙ commits_found name namer r sound (Named n) v.stands

  pub peeled_to : (n c : Bytes) → IsTrue (is_some (record_named r.records n)) → Some c ≡ commit_named r.records n → (commit_in (Named n) ≡ Ok (commit_of_value (Named c))) × IsTrue (is_held r.records kind.Commit c)
  peeled_to n c h e = by_value (Named n) c (held_is n h).stands (e ∙ commit_name n h)

  pub peeled_none : (n : Bytes) → IsTrue (is_some (record_named r.records n)) → None ≡ commit_named r.records n → commit_in (Named n) ≡ Err fault.WrongKind
  peeled_none n h e = no_commit (Named n) (e ∙ commit_name n h)

  pub proper_text : (c : Commit) → Stands (commit_value c) → T (is_proper_text (text_of c))
  proper_text c i = second (is_content (files_of c)) (is_proper_text (text_of c)) (proper_in (history_of r).values (commit_value c) (passes _ all_whole.proper) i)

  -- a held commit's body is the text of its parts
  pub commit_text_held : (n body : Bytes) → IsTrue (is_held r.records kind.Commit n) → body ≡ body_of name (Named n) → IsCommitText (parts_of_commit name (commit_of_value (Named n))) body
  commit_text_held n body h e =
      let s = commit_stands n h in
      let same : body ≡ commit_body name (commit_of_value (Named n)) = e ∙ ap (body_of name) s.0 in
      subst (IsCommitText (parts_of_commit name (commit_of_value (Named n)))) (sym same) (text_is name namer (commit_of_value (Named n)) (proper_text (commit_of_value (Named n)) s.1))

  nth_in : (cs : List Commit) (n : ℕ) (d : Commit) → AllByRecursion Stands (map commit_value cs) → slice_get cs n ≡ Some d → Stands (commit_value d)
  nth_in [] n d k e = absurd cc
  nth_in (c ∷ cs) zero d k e = let same : c ≡ d = cc in subst (λ u. Stands (commit_value u)) same k.0
  nth_in (c ∷ cs) (suc n) d k e = nth_in cs n d k.1 e

  pub parent_found : (n p : Bytes) (k : ℕ) → IsTrue (is_held r.records kind.Commit n) → 0 < k → Some p ≡ slice_get (names_of name (parents_of (commit_of_value (Named n)))) (k - 1)
      → (nth_parent k (commit_of_value (Named n)) ≡ Ok (commit_of_value (Named p))) × IsTrue (is_held r.records kind.Commit p)
  parent_found n p zero h l e = absurd (omega arith)
  parent_found n p (suc k) h l e = by (slice_get (list_of (parents_of c)) k) refl (e ∙ ap (slice_get (names_of name (parents_of c))) less ∙ names_at name namer (parents_of c) k)
    where
      c : Commit
      c = commit_of_value (Named n)

      less : suc k - 1 ≡ k
      less = omega arith

      by : (o : Option Commit) → slice_get (list_of (parents_of c)) k ≡ o → Some p ≡ option_map (λ d. name_of name (commit_value d)) (slice_get (list_of (parents_of c)) k)
          → (ok_or (slice_get (list_of (parents_of c)) k) fault.NoParent ≡ Ok (commit_of_value (Named p))) × IsTrue (is_held r.records kind.Commit p)
      by None f g = absurd (let i = g ∙ ap (option_map (λ d. name_of name (commit_value d))) f in cc i)
      by (Some d) f g =
          let i = g ∙ ap (option_map (λ d. name_of name (commit_value d))) f in
          let s : p ≡ name_of name (commit_value d) = cc i in
          let j = nth_in (list_of (parents_of c)) k d (parts_in (history_of r).values (commit_value c) all_whole (commit_stands n h).1).1 f in
          let v = value_held kind.Commit (commit_value d) p j refl s in
          (ap (λ o. ok_or o fault.NoParent) f ∙ ap (λ u. Ok (commit_of_value u)) (sym v.1), v.0)

  -- the parent at a place
  pub parent_there : (n p : Bytes) (k : ℕ) → IsTrue (is_held r.records kind.Commit n) → Some p ≡ slice_get (names_of name (parents_of (commit_of_value (Named n)))) k
      → (slice_get (list_of (parents_of (commit_of_value (Named n)))) k ≡ Some (commit_of_value (Named p))) × IsTrue (is_held r.records kind.Commit p)
  parent_there n p k h e = by (slice_get (list_of (parents_of c)) k) refl (e ∙ names_at name namer (parents_of c) k)
    where
      c : Commit
      c = commit_of_value (Named n)

      by : (o : Option Commit) → slice_get (list_of (parents_of c)) k ≡ o → Some p ≡ option_map (λ d. name_of name (commit_value d)) (slice_get (list_of (parents_of c)) k)
          → (slice_get (list_of (parents_of c)) k ≡ Some (commit_of_value (Named p))) × IsTrue (is_held r.records kind.Commit p)
      by None f g = absurd (let i = g ∙ ap (option_map (λ d. name_of name (commit_value d))) f in cc i)
      by (Some d) f g =
          let i = g ∙ ap (option_map (λ d. name_of name (commit_value d))) f in
          let s : p ≡ name_of name (commit_value d) = cc i in
          let j = nth_in (list_of (parents_of c)) k d (parts_in (history_of r).values (commit_value c) all_whole (commit_stands n h).1).1 f in
          let v = value_held kind.Commit (commit_value d) p j refl s in
          (f ∙ ap (λ u. Some (commit_of_value u)) (sym v.1), v.0)

  pub no_parent_there : (n : Bytes) (k : ℕ) → None ≡ slice_get (names_of name (parents_of (commit_of_value (Named n)))) k → slice_get (list_of (parents_of (commit_of_value (Named n)))) k ≡ None
  no_parent_there n k e = by (slice_get (list_of (parents_of c)) k) refl (e ∙ names_at name namer (parents_of c) k)
    where
      c : Commit
      c = commit_of_value (Named n)

      by : (o : Option Commit) → slice_get (list_of (parents_of c)) k ≡ o → None ≡ option_map (λ d. name_of name (commit_value d)) (slice_get (list_of (parents_of c)) k) → slice_get (list_of (parents_of c)) k ≡ None
      by None f g = f
      by (Some d) f g = absurd (let i = g ∙ ap (option_map (λ d. name_of name (commit_value d))) f in cc i)

  pub parent_none : (n : Bytes) (k : ℕ) → 0 < k → None ≡ slice_get (names_of name (parents_of (commit_of_value (Named n)))) (k - 1) → nth_parent k (commit_of_value (Named n)) ≡ Err fault.NoParent
  parent_none n zero l e = absurd (omega arith)
  parent_none n (suc k) l e = by (slice_get (list_of (parents_of c)) k) refl (e ∙ ap (slice_get (names_of name (parents_of c))) less ∙ names_at name namer (parents_of c) k)
    where
      c : Commit
      c = commit_of_value (Named n)

      less : suc k - 1 ≡ k
      less = omega arith

      by : (o : Option Commit) → slice_get (list_of (parents_of c)) k ≡ o → None ≡ option_map (λ d. name_of name (commit_value d)) (slice_get (list_of (parents_of c)) k)
          → ok_or (slice_get (list_of (parents_of c)) k) fault.NoParent ≡ Err fault.NoParent
      by None f g = ap (λ o. ok_or o fault.NoParent) f
      by (Some d) f g = absurd (let i = g ∙ ap (option_map (λ d. name_of name (commit_value d))) f in cc i)

  -- ---- trees

  pub tree_stands : (n : Bytes) → IsTrue (is_held r.records kind.Tree n) → (Named n ≡ tree_value (files_of_tree (Named n))) × Stands (tree_value (files_of_tree (Named n)))
  tree_stands n h =
      let k = kind_held kind.Tree n h in
      let e = is_tree name (Named n) k.1 in
      (e, subst Stands e (held_is n k.0).stands)

  -- the tree of a held commit
  pub tree_found : (n c t : Bytes) → IsTrue (is_some (record_named r.records n)) → commit_in (Named n) ≡ Ok (commit_of_value (Named c)) → IsTrue (is_held r.records kind.Commit c) → t ≡ (parts_of_commit name (commit_of_value (Named c))).tree
      → (files_in (Named n) ≡ Ok (files_of_tree (Named t))) × IsTrue (is_held r.records kind.Tree t)
  tree_found n c t h e k s =
      let i = (parts_in (history_of r).values (commit_value (commit_of_value (Named c))) all_whole (commit_stands c k).1).0 in
      let v = value_held kind.Tree (tree_value (files_of (commit_of_value (Named c)))) t i refl s in
      (files_by_commit (Named n) (commit_of_value (Named c)) e ∙ ap (λ u. Ok (files_of_tree u)) (sym v.1), v.0)

  pub commit_held : (n : Bytes) → IsTrue (is_held r.records kind.Commit n) → IsTrue (is_some (record_named r.records n))
  commit_held n h = (kind_held kind.Commit n h).0

  pub tree_held : (n : Bytes) → IsTrue (is_held r.records kind.Tree n) → IsTrue (is_some (record_named r.records n))
  tree_held n h = (kind_held kind.Tree n h).0

  -- ---- peeling

  peel_by : (v : Value) (c : Commit) → commit_in v ≡ Ok c → peel v ≡ commit_value c
  peel_by (blob_value x) c e = absurd cc
  peel_by (tree_value f) c e = absurd cc
  peel_by (commit_value d) c e = let same : d ≡ c = cc in ap commit_value same
  peel_by (tag_value t) c e = let same : t.target ≡ c = cc in ap commit_value same

  no_peel : (v : Value) → None ≡ commit_name_of name v → v ≡ peel v
  no_peel (blob_value x) e = refl
  no_peel (tree_value f) e = refl
  no_peel (commit_value d) e = absurd cc
  no_peel (tag_value t) e = absurd cc

  pub peeled_value : (n c : Bytes) → IsTrue (is_some (record_named r.records n)) → Some c ≡ commit_named r.records n → Named c ≡ peel (Named n)
  peeled_value n c h e =
      let p = peeled_to n c h e in
      (commit_stands c p.1).0 ∙ sym (peel_by (Named n) (commit_of_value (Named c)) p.0)

  pub unpeeled_value : (n : Bytes) → IsTrue (is_some (record_named r.records n)) → None ≡ commit_named r.records n → Named n ≡ peel (Named n)
  unpeeled_value n h e = no_peel (Named n) (e ∙ commit_name n h)

-- two kinds are equal or not
pub kinds_same : (k l : Kind) → k ≡ l → same_kind k l ≡ true
kinds_same k l e = subst (λ m. same_kind k m ≡ true) e (is_true _ (same_as k))

pub kinds_other : (k l : Kind) → (k ≡ l → ⊥) → same_kind k l ≡ false
kinds_other k l h = by (same_kind k l) refl
  where
    by : (b : Bool) → same_kind k l ≡ b → b ≡ false
    by true e = absurd (h (kind_same k l (passes _ e)))
    by false e = refl

-- the body of a blob is its bytes
pub blob_body : (name : Kind → Bytes → Bytes) (v : Value) → kind.Blob ≡ kind_of name v → body_of name v ≡ bytes_of_blob v
blob_body name (blob_value x) e = refl
blob_body name (tree_value f) e = absurd cc
blob_body name (commit_value d) e = absurd cc
blob_body name (tag_value t) e = absurd cc
