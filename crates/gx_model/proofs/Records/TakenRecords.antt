-- Nothing is against a record exactly where a sound repository stays sound with it.
use Rattle.std.proofs.Common.{◌≡◌, Bool, true, false, cond, refl, sym, ap, subst, ◌∙◌, List, [], ◌∷◌, ◌++◌, length, map, Option, None, Some, inl, inr, arith, append_assoc, append-nil}
use Rattle.std.specs.Prelude.{T, not, ◌&&◌, ◌||◌, ◌⊎◌, ◌≢◌, is_some, nat_eq}
use Rattle.std.specs.List.{AllByRecursion, list_all, list_any}
use Rattle.std.specs.Bool.{passes}
use Rattle.std.proofs.lemmas.Bool.{false≢true, or_parts}
use Rattle.std.proofs.lemmas.Bool.Decides.{nat_tests}
use Rattle.std.proofs.lemmas.List.{map-append}
use Rattle.gx_model.specs.declared.objects.Kind.{Kind}
use Rattle.gx_model.specs.declared.objects.Kind.TheVariants as kind
use Rattle.gx_model.specs.declared.objects.Mode.{Mode}
use Rattle.gx_model.specs.declared.objects.Mode.TheVariants.{File, Exec, Link, Gitlink, Dir}
use Rattle.gx_model.specs.declared.store_faults.FileFault.{FileFault}
use Rattle.gx_model.specs.declared.store_faults.FileFault.TheVariants as fault
use Rattle.gx_model.specs.Texts.{Bytes, same_bytes}
use Rattle.gx_model.specs.Texts.Paths.{is_short}
use Rattle.gx_model.specs.Objects.{Entry, IsNamer, is_dir}
use Rattle.gx_model.specs.Histories.{AreDistinct, Record, Records, record_for}
use Rattle.gx_model.specs.Records.HistoryOf.{commit_parts_in, entries_in, files_of_entries, named_values, tag_parts_in, value_in}
use Rattle.gx_model.specs.Records.Sound.{AnyByRecursion, HasShortPaths, Holds, IsCommit, IsHeldAs, IsLinked, IsLinkedAfter, IsSound, IsTag, IsTree}
use Rattle.gx_model.specs.Records.Growth.{put, put_under, record_named, same_kind}
use Rattle.gx_model.specs.Laws.RepositoryLaws.{with_records}
use Rattle.gx_model.specs.Records.RecordFaults.{are_links_held, content_fault, has_empty_directory, has_long_path, is_bad_below, is_body, is_entry_held, is_held, is_of_kind, is_without_entries, or_duplicate, record_fault}
use Rattle.gx_model.proofs.Texts.PathTests.{both, first, is_same, is_true, same_is, second}
use Rattle.gx_model.proofs.ObjectTexts.OneTree.{all_right}
use Rattle.gx_model.proofs.ObjectTexts.BodiesReadBack.{commit_read, entries_read, tag_read}
use Rattle.gx_model.proofs.Records.GrownRecords.{kind_is, kind_same, put_grows}
use Rattle.gx_model.proofs.Records.HeldNames.{linked_value}
use Rattle.gx_model.proofs.Records.FirstRecords.{has_path_more, kept}
use Rattle.gx_model.proofs.Records.ShortPaths.{short_paths}
use Rattle.gx_model.proofs.ObjectTexts.BodyTests.{commit_test, commit_text_in, tag_test, tag_text_in, tree_test, tree_text_in}

-- ---- nothing against a body, and against a record

-- where nothing is against a body, it is one of its kind, its links are held, and what is below it is fine
pub nothing_against : (rs : List Record) (k : Kind) (body : Bytes) → content_fault rs k body ≡ None → (is_body k body ≡ true) × (are_links_held rs k body ≡ true) × (is_bad_below rs k body ≡ false)
unfolding content_fault
nothing_against rs k body e = by (is_body k body) (are_links_held rs k body) (is_bad_below rs k body) e
  where
    by : (a b c : Bool) → cond (not a) (Some fault.BadObject) (cond (not b) (Some fault.Dangling) (cond c (Some fault.BadObject) None)) ≡ None → (a ≡ true) × (b ≡ true) × (c ≡ false)
    by false b c i = absurd (cc)
    by true false c i = absurd (cc)
    by true true true i = absurd (cc)
    by true true false i = (refl, refl, refl)

-- nothing is against a body of its kind whose links are held and below which all is fine
pub fine_body : (rs : List Record) (k : Kind) (body : Bytes) → is_body k body ≡ true → are_links_held rs k body ≡ true → is_bad_below rs k body ≡ false → content_fault rs k body ≡ None
unfolding content_fault
fine_body rs k body a b c = λ i. cond (not (a i)) (Some fault.BadObject) (cond (not (b i)) (Some fault.Dangling) (cond (c i) (Some fault.BadObject) None))

-- where there is not something, there is nothing
none_is : {X : Type 0} (o : Option X) → is_some o ≡ false → o ≡ None
none_is None e = refl
none_is (Some x) e = absurd (cc)

-- where nothing is against a record, nothing is against its body, and its name is new
pub no_fault : (rs : List Record) (r : Record) → record_fault rs r ≡ None → (content_fault rs r.kind r.body ≡ None) × (record_named rs r.name ≡ None)
unfolding record_fault
no_fault rs r e = let p = by (content_fault rs r.kind r.body) (is_some (record_named rs r.name)) e in (p.0, none_is (record_named rs r.name) p.1)
  where
    by : (o : Option FileFault) (b : Bool) → or_duplicate o b ≡ None → (o ≡ None) × (b ≡ false)
    by (Some f) b i = absurd (cc)
    by None true i = absurd (cc)
    by None false i = (refl, refl)

-- nothing is against a record under a new name, where nothing is against its body
pub fine_record : (rs : List Record) (r : Record) → content_fault rs r.kind r.body ≡ None → record_named rs r.name ≡ None → record_fault rs r ≡ None
unfolding record_fault
fine_record rs r c n = λ i. or_duplicate (c i) (is_some (n i))

-- ---- what a name finds

-- what holds of the record that a name finds holds of some record
pub some_named : (P : Record → Type 0) (rs : List Record) (n : Bytes) (r : Record) → record_named rs n ≡ Some r → (r.name ≡ n → P r) → AnyByRecursion P rs
some_named P [] n r e f = absurd (cc)
some_named P (x ∷ xs) n r e f =
    elim (same_bytes n x.name) as (λ b. same_bytes n x.name ≡ b → cond b (Some x) (record_named xs n) ≡ Some r → P x ⊎ AnyByRecursion P xs) [
      | true ↦ λ k i. let s : x ≡ r = cc i in inl (subst P (sym s) (f (ap (λ (z : Record). z.name) (sym s) ∙ sym (same_is n x.name (passes _ k)))))
      | false ↦ λ k i. inr (some_named P xs n r i f)
    ] refl e

-- the record that a name finds is one of those for which something holds
pub all_named : (P : Record → Type 0) (rs : List Record) (n : Bytes) (r : Record) → AllByRecursion P rs → record_named rs n ≡ Some r → P r
all_named P [] n r h e = absurd (cc)
all_named P (x ∷ xs) n r h e =
    elim (same_bytes n x.name) as (λ b. cond b (Some x) (record_named xs n) ≡ Some r → P r) [
      | true ↦ λ i. let s : x ≡ r = cc i in subst P s h.0
      | false ↦ λ i. all_named P xs n r h.1 i
    ] e

-- a name that no record has is that of no record for which something holds
none_again : (P : Record → Type 0) (n : Bytes) → ((r : Record) → P r → r.name ≡ n) → (rs : List Record) (m : Bytes) → m ≡ n → list_any (same_bytes m) (map (λ r. r.name) rs) ≡ false → AnyByRecursion P rs → ⊥
none_again P n f [] m e d h = h
none_again P n f (x ∷ xs) m e d h =
    let p = or_parts (same_bytes m x.name) (list_any (same_bytes m) (map (λ r. r.name) xs)) d in
    elim h [ inl q ↦ false≢true (sym p.0 ∙ is_true _ (is_same m x.name (e ∙ sym (f x q)))) | inr q ↦ none_again P n f xs m e p.1 q ]

-- a name finds the record of this name for which something holds
pub named_some : (P : Record → Type 0) (n : Bytes) → ((r : Record) → P r → r.name ≡ n) → (rs : List Record) → AreDistinct (map (λ r. r.name) rs) → AnyByRecursion P rs → (r : Record) × (record_named rs n ≡ Some r) × P r
named_some P n f [] d h = absurd h
named_some P n f (x ∷ xs) d h =
    elim (same_bytes n x.name) as (λ b. same_bytes n x.name ≡ b → (r : Record) × (cond b (Some x) (record_named xs n) ≡ Some r) × P r) [
      | true ↦ λ k. (x, refl, elim h [ inl p ↦ p | inr q ↦ absurd (none_again P n f xs x.name (sym (same_is n x.name (passes _ k))) d.0 q) ])
      | false ↦ λ k. elim h [
        | inl p ↦ absurd (false≢true (sym k ∙ is_true _ (is_same n x.name (sym (f x p)))))
        | inr q ↦ named_some P n f xs d.1 q
      ]
    ] refl

-- ---- links

-- a name that passes the test of links is that of a record of the kind
holds_by : (rs : List Record) (k : Kind) (n : Bytes) → T (is_held rs k n) → Holds rs k n
holds_by rs k n h = by (record_named rs n) refl h
  where
    by : (o : Option Record) → record_named rs n ≡ o → T (is_of_kind k o) → Holds rs k n
    by None e t = absurd t
    by (Some r) e t = some_named (λ x. (x.kind ≡ k) × (x.name ≡ n)) rs n r e (λ s. (kind_is r.kind k t, s))

-- names that pass the test of links are those of records of the kind
all_hold : (rs : List Record) (k : Kind) (ns : List Bytes) → T (list_all (is_held rs k) ns) → AllByRecursion (Holds rs k) ns
all_hold rs k [] h = tt
all_hold rs k (n ∷ ns) h = (holds_by rs k n (first (is_held rs k n) (list_all (is_held rs k) ns) h), all_hold rs k ns (second (is_held rs k n) (list_all (is_held rs k) ns) h))

-- a body with a length is not empty
some_body : (body : Bytes) → nat_eq (length body) 0 ≡ false → body ≢ []
some_body [] d e = absurd (cc)
some_body (b ∷ bs) d e = (cc)

-- a directory's tree is held and has entries, where both tests say so
directory_held : (rs : List Record) (n : Bytes) → T (is_held rs kind.Tree n) → is_without_entries (record_named rs n) ≡ false → IsHeldAs rs Dir n
directory_held rs n h d = by (record_named rs n) refl h d
  where
    by : (o : Option Record) → record_named rs n ≡ o → T (is_of_kind kind.Tree o) → is_without_entries o ≡ false → IsHeldAs rs Dir n
    by None e t i = absurd t
    by (Some r) e t i = some_named (λ x. (x.kind ≡ kind.Tree) × (x.name ≡ n) × (x.body ≢ [])) rs n r e (λ s. (kind_is r.kind kind.Tree t, s, some_body r.body i))

-- an entry is held where its link passes the test and it names no empty directory
entry_held : (rs : List Record) (m : Mode) (n : Bytes) → T (is_entry_held rs m n) → (is_dir m && is_without_entries (record_named rs n)) ≡ false → IsHeldAs rs m n
entry_held rs File n h d = holds_by rs kind.Blob n h
entry_held rs Exec n h d = holds_by rs kind.Blob n h
entry_held rs Link n h d = holds_by rs kind.Blob n h
entry_held rs Gitlink n h d = tt
entry_held rs Dir n h d = directory_held rs n h d

-- whether an entry's link is held
abbrev entry_test : List Record → Entry → Bool
entry_test rs e = is_entry_held rs e.mode e.name

-- whether an entry names a tree without entries
abbrev empty_test : List Record → Entry → Bool
empty_test rs e = is_dir e.mode && is_without_entries (record_named rs e.name)

-- entries are held where their links pass the test and none names an empty directory
entries_held : (rs : List Record) (es : List Entry) → T (list_all (entry_test rs) es) → list_any (empty_test rs) es ≡ false → AllByRecursion (λ e. IsHeldAs rs e.mode e.name) es
entries_held rs [] h d = tt
entries_held rs (e ∷ es) h d =
    let p = or_parts (empty_test rs e) (list_any (empty_test rs) es) d in
    (entry_held rs e.mode e.name (first (entry_test rs e) (list_all (entry_test rs) es) h) p.0, entries_held rs es (second (entry_test rs e) (list_all (entry_test rs) es) h) p.1)

-- ---- links among records of distinct names

module _ (rs : List Record) (distinct : AreDistinct (map (λ r. r.name) rs)) where
  -- the name of a record of the kind passes the test of links
  held_test : (k : Kind) (n : Bytes) → Holds rs k n → T (is_held rs k n)
  held_test k n h =
      let q = named_some (λ r. (r.kind ≡ k) × (r.name ≡ n)) n (λ r p. p.1) rs distinct h in
      subst (λ o. T (is_of_kind k o)) (sym q.1) (subst (λ j. T (same_kind j k)) (sym q.2.0) (kind_same k))

  -- the names of records of the kind pass the test of links
  all_held : (k : Kind) (ns : List Bytes) → AllByRecursion (Holds rs k) ns → T (list_all (is_held rs k) ns)
  all_held k [] h = tt
  all_held k (n ∷ ns) h = both (is_held rs k n) (list_all (is_held rs k) ns) (held_test k n h.0) (all_held k ns h.1)

  -- a body that is not empty has a length
  not_empty : (body : Bytes) → body ≢ [] → nat_eq (length body) 0 ≡ false
  not_empty [] h = absurd (h refl)
  not_empty (b ∷ bs) h = grind (arith, nat_tests)

  -- an entry that is held passes the test of links, and names no empty directory
  entry_passes : (m : Mode) (n : Bytes) → IsHeldAs rs m n → T (is_entry_held rs m n) × ((is_dir m && is_without_entries (record_named rs n)) ≡ false)
  entry_passes File n h = (held_test kind.Blob n h, refl)
  entry_passes Exec n h = (held_test kind.Blob n h, refl)
  entry_passes Link n h = (held_test kind.Blob n h, refl)
  entry_passes Gitlink n h = (tt, refl)
  entry_passes Dir n h =
      let q = named_some (λ r. (r.kind ≡ kind.Tree) × (r.name ≡ n) × (r.body ≢ [])) n (λ r p. p.1) rs distinct h in
      (subst (λ o. T (is_of_kind kind.Tree o)) (sym q.1) (subst (λ j. T (same_kind j kind.Tree)) (sym q.2.0) tt), ap is_without_entries q.1 ∙ not_empty q.0.body q.2.2)

  -- entries that are held pass the test of links, and none names an empty directory
  entries_pass : (es : List Entry) → AllByRecursion (λ e. IsHeldAs rs e.mode e.name) es → T (list_all (entry_test rs) es) × (list_any (empty_test rs) es ≡ false)
  entries_pass [] h = (tt, refl)
  entries_pass (e ∷ es) h =
      let one = entry_passes e.mode e.name h.0 in
      let rest = entries_pass es h.1 in
      (both (entry_test rs e) (list_all (entry_test rs) es) one.0 rest.0, λ i. (one.1 i || rest.1 i))

-- ---- a repository that takes a record

-- a test whose negation fails is true
not_false : (b : Bool) → not b ≡ false → b ≡ true
not_false true e = refl
not_false false e = absurd (cc)

module _ (name : Kind → Bytes → Bytes) (namer : IsNamer name) where
  -- where nothing is against a tree's body, its entries are held, and no path below it is too long
  tree_linked : (r : Records) → IsSound name r → (body : Bytes) → is_body kind.Tree body ≡ true → are_links_held r.records kind.Tree body ≡ true → is_bad_below r.records kind.Tree body ≡ false
      → IsTree r.records body × HasShortPaths r.records (record_for name kind.Tree body)
  tree_linked r sound body a b c =
      let p = or_parts (has_empty_directory r.records body) (has_long_path r.records body) c in
      let t = tree_text_in body (passes _ a) in
      let h = entries_held r.records (entries_in body) (passes _ b) p.0 in
      ((entries_in body, t, h), (short_paths name namer r sound (entries_in body) body t h).0 (not_false _ p.1))

  -- where nothing is against a body, its links are held, and no path below it is too long
  pub linked : (r : Records) → IsSound name r → (k : Kind) (body : Bytes) → content_fault r.records k body ≡ None → IsLinked r.records k body × HasShortPaths r.records (record_for name k body)
  linked r sound kind.Blob body e = (tt, λ es p i t h. absurd (cc))
  linked r sound kind.Tree body e = let n = nothing_against r.records kind.Tree body e in tree_linked r sound body n.0 n.1 n.2
  linked r sound kind.Commit body e =
      let n = nothing_against r.records kind.Commit body e in
      let q = commit_parts_in body in
      let held : T (is_held r.records kind.Tree q.tree && list_all (is_held r.records kind.Commit) q.parents) = passes _ n.1 in
      ((q, commit_text_in body (passes _ n.0), holds_by r.records kind.Tree q.tree (first _ _ held), all_hold r.records kind.Commit q.parents (second (is_held r.records kind.Tree q.tree) _ held)), λ es p i t h. absurd (cc))
  linked r sound kind.Tag body e =
      let n = nothing_against r.records kind.Tag body e in
      ((tag_parts_in body, tag_text_in body (passes _ n.0), holds_by r.records kind.Commit (tag_parts_in body).object (passes _ n.1)), λ es p i t h. absurd (cc))

  -- a repository stays sound with a record that nothing is against
  pub sound_with : (r : Records) → IsSound name r → (k : Kind) (body : Bytes) → record_fault r.records (record_for name k body) ≡ None → IsSound name (with_records r (r.records ++ record_for name k body ∷ []))
  sound_with r sound k body e =
      let f = no_fault r.records (record_for name k body) e in
      let l = linked r sound k body f.0 in
      let v = linked_value name namer r sound k body l.0 l.1 in
      let rs = r.records ++ record_for name k body ∷ [] in
      (put_grows name namer r sound (value_in (named_values r.records) k body) v.proper v.known rs
      (ap (put r.records) v.recorded ∙ ap (λ o. put_under o r.records (record_for name k body)) f.1)).0

-- ---- a record that is taken

-- the last record's links are earlier records
pub linked_last : (before xs : List Record) (x : Record) → IsLinkedAfter before (xs ++ x ∷ []) → IsLinked (before ++ xs) x.kind x.body
linked_last before [] x h = subst (λ z. IsLinked z x.kind x.body) (sym (append-nil before)) h.0
linked_last before (y ∷ ys) x h = subst (λ z. IsLinked z x.kind x.body) (append_assoc before (y ∷ []) ys) (linked_last (before ++ y ∷ []) ys x h.1)

-- a name that differs from those before it is new
pub new_name : (rs : List Record) (n : Bytes) → AreDistinct (map (λ r. r.name) rs ++ n ∷ []) → record_named rs n ≡ None
new_name [] n d = refl
new_name (x ∷ xs) n d =
    elim (same_bytes n x.name) as (λ b. same_bytes n x.name ≡ b → cond b (Some x) (record_named xs n) ≡ None) [
      | true ↦ λ k. absurd (apart x.name (map (λ r. r.name) xs) d.0 (sym (same_is n x.name (passes _ k))))
      | false ↦ λ k. new_name xs n d.1
    ] refl
  where
    apart : (m : Bytes) (ns : List Bytes) → list_any (same_bytes m) (ns ++ n ∷ []) ≡ false → m ≡ n → ⊥
    apart m [] h e = false≢true (sym (or_parts (same_bytes m n) false h).0 ∙ is_true _ (is_same m n e))
    apart m (z ∷ zs) h e = apart m zs (or_parts (same_bytes m z) (list_any (same_bytes m) (zs ++ n ∷ [])) h).1 e

module _ (name : Kind → Bytes → Bytes) (namer : IsNamer name) where
  -- nothing is against the body of entries that are held, where no path below is too long
  tree_fine : (rs : List Record) → IsSound name (record { records = rs; refs = [] }) → (body : Bytes) → IsTree rs body → HasShortPaths rs (record_for name kind.Tree body) → content_fault rs kind.Tree body ≡ None
  tree_fine rs sound body (es, t, h) s =
      let e = sym (entries_read es body t) in
      let p = entries_pass rs sound.distinct es h in
      let short : list_all (λ x. is_short x.0) (files_of_entries (named_values rs) es) ≡ true = (short_paths name namer (record { records = rs; refs = [] }) sound es body t h).1 s in
      let full : has_empty_directory rs body ≡ false = subst (λ z. list_any (empty_test rs) z ≡ false) e p.1 in
      let fits : has_long_path rs body ≡ false = subst (λ z. not (list_all (λ x. is_short x.0) (files_of_entries (named_values rs) z)) ≡ false) e (ap not short) in
      fine_body rs kind.Tree body (is_true _ (tree_test es body t)) (is_true _ (subst (λ z. T (list_all (entry_test rs) z)) e p.0)) (λ i. (full i || fits i))

  -- nothing is against the body of a commit whose tree and parents are held
  commit_fine : (rs : List Record) → AreDistinct (map (λ r. r.name) rs) → (body : Bytes) → IsCommit rs body → content_fault rs kind.Commit body ≡ None
  commit_fine rs d body (p, t, h, hs) =
      fine_body rs kind.Commit body (is_true _ (commit_test p body t))
      (is_true _ (subst (λ q. T (is_held rs kind.Tree q.tree && list_all (is_held rs kind.Commit) q.parents)) (sym (commit_read p body t))
      (both (is_held rs kind.Tree p.tree) (list_all (is_held rs kind.Commit) p.parents) (held_test rs d kind.Tree p.tree h) (all_held rs d kind.Commit p.parents hs))))
      refl

  -- nothing is against the body of a tag whose commit is held
  tag_fine : (rs : List Record) → AreDistinct (map (λ r. r.name) rs) → (body : Bytes) → IsTag rs body → content_fault rs kind.Tag body ≡ None
  tag_fine rs d body (p, t, h) =
      fine_body rs kind.Tag body (is_true _ (tag_test p body t)) (is_true _ (subst (λ q. T (is_held rs kind.Commit q.object)) (sym (tag_read p body t)) (held_test rs d kind.Commit p.object h))) refl

  -- nothing is against a body whose links are held and below which no path is too long
  linked_fine : (rs : List Record) → IsSound name (record { records = rs; refs = [] }) → (k : Kind) (body : Bytes) → IsLinked rs k body → HasShortPaths rs (record_for name k body) → content_fault rs k body ≡ None
  linked_fine rs sound kind.Blob body h s = fine_body rs kind.Blob body refl refl refl
  linked_fine rs sound kind.Tree body h s = tree_fine rs sound body h s
  linked_fine rs sound kind.Commit body h s = commit_fine rs sound.distinct body h
  linked_fine rs sound kind.Tag body h s = tag_fine rs sound.distinct body h

  -- nothing is against the last record of a sound repository
  pub fine : (rs : List Record) (k : Kind) (body : Bytes) → IsSound name (record { records = rs ++ record_for name k body ∷ []; refs = [] }) → record_fault rs (record_for name k body) ≡ None
  fine rs k body sound =
      let r = record_for name k body in
      let front = kept name rs (r ∷ []) [] sound tt in
      let short = (all_right (HasShortPaths (rs ++ r ∷ [])) rs (r ∷ []) sound.paths).0 in
      fine_record rs r
      (linked_fine rs front k body (linked_last [] rs r sound.linked) (λ es p i t q. short es p i t (has_path_more rs (r ∷ []) es p q)))
      (new_name rs r.name (subst AreDistinct (map-append (λ x. x.name) rs (r ∷ [])) sound.distinct))
