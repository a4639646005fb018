-- The names that were published: those of branches that were with a commit, and of tags. They are as many as are counted.
use Rattle.std.proofs.Common.{◌≡◌, ◌+◌, Bool, true, false, cond, List, [], ◌∷◌, ◌++◌, length, map, Option, Some, None, refl, sym, ap, subst, ◌∙◌}
use Rattle.std.specs.Prelude.{IsTrue, T, is_some, not, ◌&&◌, ◌||◌}
use Rattle.std.specs.Bool.{passes}
use Rattle.std.specs.Cmp.Lexicographic.{nat_list_eq_equiv}
use Rattle.std.specs.List.{AllByRecursion, IsDistinct, filter, fold, list_any}
use Rattle.std.specs.Map.{keys_of, lookup}
use Rattle.std.specs.Option.{option_map, option_map_or}
use Rattle.std.specs.Ordering.{eq_by_cmp, is_eq, is_lt}
use Rattle.std.specs.declared.cmp.Ordering.{Ordering}
use Rattle.std.specs.declared.cmp.Ordering.TheVariants.{Less, Equal, Greater}
use Rattle.std.specs.FinMap.Entries.{below_all, find, find-put, find_tied, is_sorted, is_sorted-put, put, same_entries}
use Rattle.std.proofs.lemmas.Bool.{false≢true, true≢false}
use Rattle.std.proofs.lemmas.List.{length-append}
use Rattle.std.proofs.lemmas.List.Folds.{list_any-append}
use Rattle.std.proofs.lemmas.Map.Entries.{length-keys_of, option_filter, lookup-filter-keys, lookup-filter-values}
use Rattle.std.proofs.lemmas.Map.Keys.{IsDistinct-cons, IsDistinct-head, IsDistinct-tail}
use Rattle.std.proofs.lemmas.Map.Made.{IsDistinct-keys_filter, is_some-lookup, length-from_same_keys, lookup-map_values}
use Rattle.std.proofs.lemmas.Map.Text.{is_eq-slice_cmp}
use Rattle.gx_model.specs.declared.objects.Kind.{Kind}
use Rattle.gx_model.specs.Texts.{Bytes, byte_cmp, same_bytes}
use Rattle.gx_model.specs.Histories.{Records, at_commit, at_tag}
use Rattle.gx_model.specs.Histories.Values.{Commit, Tag, Value}
use Rattle.gx_model.specs.Records.HistoryOf.{history_of}
use Rattle.gx_model.specs.Replay.{State, checkpointed, final, overwritten}
use Rattle.gx_model.proofs.Texts.PathTests.{first, is_same, is_true, same_is, second}
use Rattle.gx_object.specs.declared.name.Name.{Name}
use Rattle.gx_import.specs.Objects.{IsTagOf}
use Rattle.gx_import.specs.Publishing.{published_count}
use Rattle.gx_import.specs.Rows.{AreBoth, AreRows, has_row}
use Rattle.gx_import.specs.Standing.{ArePublished, IsTaken, IsTip, Stands, is_published, published_tip}
use Rattle.gx_import.specs.declared.branches.Tip.{Tip}
use Rattle.gx_import.specs.declared.tables.Tables.{Tables}
use Rattle.gx_import.proofs.RelatedRows.{changed_sorted, related_found, sorted_same}
use Rattle.gx_import.proofs.SetRefs.{Targets, branch_targets, overwritten_is, put_target, sorted_put, tag_targets, target_then, targets_of}
use Rattle.gx_model.proofs.Records.SortedRefs.{order, same_text}

tied : (q n : Bytes) → eq_by_cmp byte_cmp q n ≡ true → byte_cmp q n ≡ Equal
tied q n e = by (byte_cmp q n) e
  where
    by : (o : Ordering) → is_eq o ≡ true → o ≡ Equal
    by Equal e = refl
    by Less e = absurd (cc e)
    by Greater e = absurd (cc e)

or_regroup : (a b c : Bool) → ((a || b) || c) ≡ (a || (b || c))
or_regroup true b c = refl
or_regroup false b c = refl

or_more : (f t e : Bool) → (f || t) ≡ true → (f || (t || e)) ≡ true
or_more true t e h = refl
or_more false true e h = refl
or_more false false e h = absurd (false≢true h)

module _ {Y : Type 0} where
  -- the two look-ups of a name
  pub found : (n : Bytes) (ys : List (Bytes × Y)) → find byte_cmp n ys ≡ lookup (same_bytes n) ys
  found n [] = refl
  found n (y ∷ ys) = λ i. cond (is_eq-slice_cmp n y.0 i) (Some y.1) (found n ys i)

  -- what stands at a name is put there
  pub put_there : (n : Bytes) (y : Y) (ys : List (Bytes × Y)) → T (is_sorted byte_cmp ys) → lookup (same_bytes n) ys ≡ Some y → put byte_cmp n y ys ≡ ys
  put_there n y ys s e =
      same_entries byte_cmp order same_text (put byte_cmp n y ys) ys (is_sorted-put byte_cmp order n y ys s) s
      (λ q. find-put byte_cmp order q n y ys ∙ by q (eq_by_cmp byte_cmp q n) refl)
    where
      by : (q : Bytes) (b : Bool) → eq_by_cmp byte_cmp q n ≡ b → cond b (Some y) (find byte_cmp q ys) ≡ find byte_cmp q ys
      by q true t = sym e ∙ sym (found n ys) ∙ find_tied byte_cmp order q n (tied q n t) ys
      by q false t = refl

  -- what is found at a name where another is put
  pub found_put : (n : Bytes) (y : Y) (ys : List (Bytes × Y)) (q : Bytes) → lookup (same_bytes q) (put byte_cmp n y ys) ≡ cond (same_bytes q n) (Some y) (lookup (same_bytes q) ys)
  found_put n y ys q =
      sym (found q (put byte_cmp n y ys)) ∙ find-put byte_cmp order q n y ys ∙ (λ i. cond (is_eq-slice_cmp q n i) (Some y) (found q ys i))

  some_cond : (b : Bool) (y : Y) (o : Option Y) → is_some (cond b (Some y) o) ≡ (is_some o || b)
  some_cond true y None = refl
  some_cond true y (Some x) = refl
  some_cond false y None = refl
  some_cond false y (Some x) = refl

  -- a name more
  pub has_put : (n : Bytes) (y : Y) (ys : List (Bytes × Y)) (q : Bytes) → has_row (put byte_cmp n y ys) q ≡ (has_row ys q || same_bytes q n)
  has_put n y ys q = ap is_some (found_put n y ys q) ∙ some_cond (same_bytes q n) y (lookup (same_bytes q) ys)

  first_has : (b : Bool) (y : Y) (o : Option Y) → is_some (cond b (Some y) o) ≡ (b || is_some o)
  first_has true y o = refl
  first_has false y o = refl

  -- the names of more rows
  pub has_both : (xs ys : List (Bytes × Y)) (q : Bytes) → has_row (xs ++ ys) q ≡ (has_row xs q || has_row ys q)
  has_both [] ys q = refl
  has_both (x ∷ xs) ys q =
      first_has (same_bytes q x.0) x.1 (lookup (same_bytes q) (xs ++ ys)) ∙ ap (λ b. same_bytes q x.0 || b) (has_both xs ys q)
      ∙ sym (or_regroup (same_bytes q x.0) (has_row xs q) (has_row ys q))
      ∙ ap (λ b. b || has_row ys q) (sym (first_has (same_bytes q x.0) x.1 (lookup (same_bytes q) xs)))

  -- rows in order differ in their names
  apart : (n : Bytes) (ys : List (Bytes × Y)) → T (below_all byte_cmp n ys) → AllByRecursion (λ m. same_bytes n m ≡ false) (keys_of ys)
  apart n [] h = tt
  apart n (y ∷ ys) h = (sym (is_eq-slice_cmp n y.0) ∙ by (byte_cmp n y.0) (first (is_lt (byte_cmp n y.0)) _ h), apart n ys (second (is_lt (byte_cmp n y.0)) _ h))
    where
      by : (o : Ordering) → T (is_lt o) → is_eq o ≡ false
      by Less t = refl
      by Equal t = absurd t
      by Greater t = absurd t

  pub distinct : (ys : List (Bytes × Y)) → T (is_sorted byte_cmp ys) → IsDistinct same_bytes (keys_of ys)
  unfolding IsDistinct
  distinct [] h = tt
  distinct (y ∷ ys) h = (apart y.0 ys (first (below_all byte_cmp y.0 ys) _ h), distinct ys (second (below_all byte_cmp y.0 ys) _ h))

  filtered_has : (p : Y → Bool) (o : Option Y) → is_some (option_filter p o) ≡ option_map_or p o false
  filtered_has p None = refl
  filtered_has p (Some y) = elim (p y) as (λ b. is_some (cond b (Some y) None) ≡ b) [ true ↦ refl | false ↦ refl ]

  -- the names whose values pass a test
  pub has_passing : (p : Y → Bool) (ys : List (Bytes × Y)) → T (is_sorted byte_cmp ys) → (q : Bytes) → has_row (filter (λ y. p y.1) ys) q ≡ option_map_or p (lookup (same_bytes q) ys) false
  has_passing p ys s q = ap is_some (lookup-filter-values nat_list_eq_equiv p q ys (distinct ys s)) ∙ filtered_has p (lookup (same_bytes q) ys)

has_all_put : (refs ts : Targets) (q : Bytes) → has_row (fold put_target refs ts) q ≡ (has_row refs q || has_row ts q)
has_all_put refs [] q = or_none (has_row refs q)
  where
    or_none : (b : Bool) → b ≡ (b || false)
    or_none true = refl
    or_none false = refl
has_all_put refs (t ∷ ts) q =
    has_all_put (put_target refs t) ts q ∙ ap (λ b. b || has_row ts q) (has_put t.0 t.1 refs q)
    ∙ or_regroup (has_row refs q) (same_bytes q t.0) (has_row ts q)
    ∙ ap (λ b. has_row refs q || b) (sym (first_has (same_bytes q t.0) t.1 (lookup (same_bytes q) ts)))

-- ---- branches with a commit, and tags

then_has : (n q : Bytes) (c : Option Commit) (ts : Targets) (bs : List (Bytes × Option Commit)) → has_row ts q ≡ has_row (filter (λ b. is_some b.1) bs) q
    → has_row (target_then n c ts) q ≡ has_row (filter (λ b. is_some b.1) ((n, c) ∷ bs)) q
then_has n q None ts bs e = e
then_has n q (Some c) ts bs e =
    first_has (same_bytes q n) (at_commit c) (lookup (same_bytes q) ts) ∙ ap (λ b. same_bytes q n || b) e
    ∙ sym (first_has (same_bytes q n) (Some c) (lookup (same_bytes q) (filter (λ b. is_some b.1) bs)))

targets_pass : (bs : List (Bytes × Option Commit)) (q : Bytes) → has_row (branch_targets bs) q ≡ has_row (filter (λ b. is_some b.1) bs) q
targets_pass [] q = refl
targets_pass (b ∷ bs) q = then_has b.0 q b.1 (branch_targets bs) bs (targets_pass bs q)

tags_has : (ts : List (Bytes × Tag)) (q : Bytes) → has_row (tag_targets ts) q ≡ has_row ts q
tags_has [] q = refl
tags_has (t ∷ ts) q = elim (same_bytes q t.0) as (λ b. is_some (cond b (Some (at_tag t.1)) (lookup (same_bytes q) (tag_targets ts))) ≡ is_some (cond b (Some t.1) (lookup (same_bytes q) ts))) [ true ↦ refl | false ↦ tags_has ts q ]

both_some : {X Z : Type 0} (Is : X → Z → Type 0) (o : Option X) (p : Option Z) → AreBoth Is o p → is_some o ≡ is_some p
both_some Is None None h = refl
both_some Is None (Some z) h = absurd h
both_some Is (Some x) None h = absurd h
both_some Is (Some x) (Some z) h = refl

-- ---- what was published

module _ {A : Type 0} where
  -- where the branches say the same, so they do
  pub published_same : (refs : Targets) (tags : List (Bytes × Tag)) (old new : List (Bytes × Tip A)) → ((n : Bytes) → is_published new n ≡ is_published old n) → ArePublished refs tags old → ArePublished refs tags new
  published_same refs tags old new same h = record {
    sorted = h.sorted;
    branch = λ n t. h.branch n (sym (same n) ∙ t);
    either = λ n t. ap (λ b. b || has_row tags n) (same n) ∙ h.either n t;
  }

  -- a branch that moves stays published
  pub tip_put : (n : Bytes) (tip : Tip A) (rows : List (Bytes × Tip A)) → tip.was_published ≡ is_published rows n → (q : Bytes) → is_published (put byte_cmp n tip rows) q ≡ is_published rows q
  tip_put n tip rows e q = ap (λ o. option_map_or (λ t. t.was_published) o false) (found_put n tip rows q) ∙ by (same_bytes q n) refl
    where
      by : (b : Bool) → same_bytes q n ≡ b → option_map_or (λ t. t.was_published) (cond b (Some tip) (lookup (same_bytes q) rows)) false ≡ is_published rows q
      by true k = e ∙ ap (is_published rows) (sym (same_is q n (passes _ k)))
      by false k = refl

  -- and one whose files were taken
  pub tips_same : (old new : List (Bytes × Tip A)) → AreRows IsTaken old new → (q : Bytes) → is_published new q ≡ is_published old q
  tips_same old new h q = by (lookup (same_bytes q) old) (lookup (same_bytes q) new) (related_found IsTaken (same_bytes q) old new h)
    where
      by : (o p : Option (Tip A)) → AreBoth IsTaken o p → option_map_or (λ t. t.was_published) p false ≡ option_map_or (λ t. t.was_published) o false
      by None None k = refl
      by None (Some y) k = absurd k
      by (Some x) None k = absurd k
      by (Some x) (Some y) k = k.1

  -- with a tag more
  pub published_tags : (refs : Targets) (tags : List (Bytes × Tag)) (rows : List (Bytes × Tip A)) (n : Bytes) (tag : Tag) → ArePublished refs tags rows → ArePublished refs (put byte_cmp n tag tags) rows
  published_tags refs tags rows n tag h = record {
    sorted = h.sorted;
    branch = h.branch;
    either = λ q t. ap (λ b. is_published rows q || b) (has_put n tag tags q) ∙ or_more (is_published rows q) (has_row tags q) (same_bytes q n) (h.either q t);
  }

  -- nothing was, of no branches
  pub none_published : (tags : List (Bytes × Tag)) (rows : List (Bytes × Tip A)) → rows ≡ [] → ArePublished [] tags rows
  none_published tags rows e = record {
    sorted = refl;
    branch = λ n t. absurd (false≢true (ap (λ rs. is_published rs n) (sym e) ∙ t));
    either = λ n t. absurd (false≢true t);
  }

  -- ---- a checkpoint

  tip_flagged : (o : Option (Tip A)) → option_map_or (λ t. t.was_published) (option_map published_tip o) false ≡ (option_map_or (λ t. t.was_published) o false || option_map_or (λ t. is_some t.commit) o false)
  tip_flagged None = refl
  tip_flagged (Some tip) = refl

  flagged : (rows : List (Bytes × Tip A)) (q : Bytes) → is_published (map (λ row. (row.0, published_tip row.1)) rows) q ≡ (is_published rows q || option_map_or (λ t. is_some t.commit) (lookup (same_bytes q) rows) false)
  flagged rows q = ap (λ o. option_map_or (λ t. t.was_published) o false) (lookup-map_values published_tip (same_bytes q) rows) ∙ tip_flagged (lookup (same_bytes q) rows)

branch_so : (p f c t : Bool) → (f ≡ true → p ≡ true) → (f || c) ≡ true → (p || (c || t)) ≡ true
branch_so true f c t h e = refl
branch_so false true c t h e = absurd (false≢true (h refl))
branch_so false false true t h e = refl
branch_so false false false t h e = absurd (false≢true e)

either_so : (p f c t : Bool) → (p ≡ true → (f || t) ≡ true) → (p || (c || t)) ≡ true → ((f || c) || t) ≡ true
either_so p true c t h e = refl
either_so p false true t h e = refl
either_so true false false t h e = h refl
either_so false false false t h e = e

tag_so : (p c t : Bool) → t ≡ true → (p || (c || t)) ≡ true
tag_so true c t h = refl
tag_so false true t h = refl
tag_so false false t h = h

module _ (name : Kind → Bytes → Bytes) {A : Type 0} (r : Records) (tables : Tables A) (s : State) (h : Stands name r tables s) where
  commit_some : (o : Option (Option Commit)) (p : Option (Tip A)) → AreBoth (IsTip name s.history.values) o p → option_map_or is_some o false ≡ option_map_or (λ t. is_some t.commit) p false
  commit_some None None k = refl
  commit_some None (Some tip) k = absurd k
  commit_some (Some made) None k = absurd k
  commit_some (Some made) (Some tip) k = both_some _ made tip.commit k.commit

  tag_rows : (q : Bytes) → has_row s.tags q ≡ has_row tables.tags q
  tag_rows q = both_some _ (lookup (same_bytes q) s.tags) (lookup (same_bytes q) tables.tags) (related_found (IsTagOf name s.history.values) (same_bytes q) s.tags tables.tags h.tags)

  module _ (in_order : IsTrue (is_sorted byte_cmp tables.branches)) where
    branch_has : (q : Bytes) → has_row (branch_targets s.branches) q ≡ option_map_or (λ t. is_some t.commit) (lookup (same_bytes q) tables.branches) false
    branch_has q =
        let rising = passes _ (sorted_same (IsTip name s.history.values) s.branches tables.branches h.branches ∙ in_order) in
        targets_pass s.branches q ∙ has_passing is_some s.branches rising q
        ∙ commit_some (lookup (same_bytes q) s.branches) (lookup (same_bytes q) tables.branches) (related_found (IsTip name s.history.values) (same_bytes q) s.branches tables.branches h.branches)

    -- what is published then: the names from before, those of the branches with a commit, and of the tags
    all_has : (q : Bytes) → has_row (overwritten s s.published) q
        ≡ (has_row s.published q || (option_map_or (λ t. is_some t.commit) (lookup (same_bytes q) tables.branches) false || has_row s.tags q))
    all_has q =
        ap (λ refs. has_row refs q) (overwritten_is s s.published) ∙ has_all_put s.published (targets_of s) q
        ∙ ap (λ b. has_row s.published q || b) (has_both (branch_targets s.branches) (tag_targets s.tags) q ∙ (λ i. branch_has q i || tags_has s.tags q i))

    -- so the branches with a commit say it from then on
    pub published_next : ArePublished (overwritten s s.published) s.tags (map (λ row. (row.0, published_tip row.1)) tables.branches)
    published_next = record {
      sorted = subst (λ refs. IsTrue (is_sorted byte_cmp refs)) (sym (overwritten_is s s.published)) (is_true _ (sorted_put s.published (targets_of s) (passes _ h.published.sorted)));
      branch = λ q t. all_has q ∙ branch_so (has_row s.published q) (is_published tables.branches q) _ (has_row s.tags q) (h.published.branch q) (sym (flagged tables.branches q) ∙ t);
      either = λ q t. ap (λ b. b || has_row s.tags q) (flagged tables.branches q) ∙ either_so (has_row s.published q) (is_published tables.branches q) _ (has_row s.tags q) (h.published.either q) (sym (all_has q) ∙ t);
    }

    -- and all tags are published
    pub tags_published : (q : Bytes) → IsTrue (has_row s.tags q) → IsTrue (has_row (overwritten s s.published) q)
    tags_published q t = all_has q ∙ tag_so (has_row s.published q) _ (has_row s.tags q) t

-- ---- how many they are

neither : (a b : Bool) → (a || b) ≡ false → (a ≡ false) × (b ≡ false)
neither true b e = absurd (true≢false e)
neither false b e = (refl, e)

none_among : (n : Bytes) (ms : List Bytes) → list_any (same_bytes n) ms ≡ false → AllByRecursion (λ m. same_bytes n m ≡ false) ms
none_among n [] e = tt
none_among n (m ∷ ms) e =
    let both = neither (same_bytes n m) (list_any (same_bytes n) ms) e in
    (both.0, none_among n ms both.1)

all_both : {X : Type 0} (P : X → Type 0) (xs ys : List X) → AllByRecursion P xs → AllByRecursion P ys → AllByRecursion P (xs ++ ys)
all_both P [] ys h k = k
all_both P (x ∷ xs) ys h k = (h.0, all_both P xs ys h.1 k)

or_right : (a b : Bool) → b ≡ true → (a || b) ≡ true
or_right true b e = refl
or_right false b e = e

distinct_both : (ns ms : List Bytes) → IsDistinct same_bytes ns → IsDistinct same_bytes ms → ((q : Bytes) → list_any (same_bytes q) ns ≡ true → list_any (same_bytes q) ms ≡ false) → IsDistinct same_bytes (ns ++ ms)
distinct_both [] ms h k out = k
distinct_both (n ∷ ns) ms h k out =
    IsDistinct-cons same_bytes n (ns ++ ms)
    (all_both (λ m. same_bytes n m ≡ false) ns ms (IsDistinct-head same_bytes n ns h) (none_among n ms (out n (ap (λ b. b || list_any (same_bytes n) ns) (is_true _ (is_same n n refl))))))
    (distinct_both ns ms (IsDistinct-tail same_bytes n ns h) k (λ q e. out q (or_right (same_bytes q n) (list_any (same_bytes q) ns) e)))

same_truth : (p f t : Bool) → (p ≡ true → (f || t) ≡ true) → (f ≡ true → p ≡ true) → (t ≡ true → p ≡ true) → p ≡ (f || t)
same_truth true f t h k l = sym (h refl)
same_truth false true t h k l = absurd (false≢true (k refl))
same_truth false false true h k l = absurd (false≢true (l refl))
same_truth false false false h k l = refl

-- of the others, those with the name
left_has : (f : Bool) {X : Type 0} (o : Option X) → is_some (cond (not f) o None) ≡ (not f && is_some o)
left_has true o = refl
left_has false o = refl

or_left_out : (f t : Bool) → (f || (not f && t)) ≡ (f || t)
or_left_out true t = refl
or_left_out false t = refl

none_left : (f t : Bool) → f ≡ true → (not f && t) ≡ false
none_left true t e = refl
none_left false t e = absurd (false≢true e)

module _ {A : Type 0} (refs : Targets) (tags : List (Bytes × Tag)) (tables : Tables A) (h : ArePublished refs tags tables.branches)
    (in_order : IsTrue (is_sorted byte_cmp tables.branches)) (tags_in_order : IsTrue (is_sorted byte_cmp tables.tags))
    (same : (q : Bytes) → has_row tags q ≡ has_row tables.tags q) (all : (q : Bytes) → IsTrue (has_row tags q) → IsTrue (has_row refs q)) where
  abbrev by_branch : List (Bytes × Tip A)
  by_branch = filter (λ row. row.1.was_published) tables.branches

  abbrev by_tag : List (Bytes × Name)
  by_tag = filter (λ row. not (is_published tables.branches row.0)) tables.tags

  branch_names : (q : Bytes) → list_any (same_bytes q) (keys_of by_branch) ≡ is_published tables.branches q
  branch_names q = sym (is_some-lookup (same_bytes q) by_branch) ∙ has_passing (λ tip. tip.was_published) tables.branches (passes _ in_order) q

  tag_names : (q : Bytes) → list_any (same_bytes q) (keys_of by_tag) ≡ (not (is_published tables.branches q) && has_row tables.tags q)
  tag_names q =
      sym (is_some-lookup (same_bytes q) by_tag)
      ∙ ap is_some (lookup-filter-keys (same_bytes q) (λ n. not (is_published tables.branches n)) (not (is_published tables.branches q)) (λ n e. ap (λ m. not (is_published tables.branches m)) (sym (same_is q n (passes _ e)))) tables.tags)
      ∙ left_has (is_published tables.branches q) (lookup (same_bytes q) tables.tags)

  -- each of the refs is counted once
  pub counted : length refs ≡ published_count tables
  counted =
      let ns = keys_of by_branch in
      let ms = keys_of by_tag in
      let apart = distinct_both ns ms (IsDistinct-keys_filter same_bytes _ tables.branches (distinct tables.branches (passes _ in_order))) (IsDistinct-keys_filter same_bytes _ tables.tags (distinct tables.tags (passes _ tags_in_order)))
      (λ q e. tag_names q ∙ none_left (is_published tables.branches q) (has_row tables.tags q) (sym (branch_names q) ∙ e)) in
      let members = λ (q : Bytes).
      sym (is_some-lookup (same_bytes q) refs)
      ∙ same_truth (has_row refs q) (is_published tables.branches q) (has_row tags q) (h.either q) (h.branch q) (all q)
      ∙ ap (λ b. is_published tables.branches q || b) (same q)
      ∙ sym (or_left_out (is_published tables.branches q) (has_row tables.tags q))
      ∙ sym (λ i. branch_names q i || tag_names q i)
      ∙ sym (list_any-append (same_bytes q) ns ms) in
      sym (length-keys_of refs) ∙ length-from_same_keys nat_list_eq_equiv (keys_of refs) (ns ++ ms) (distinct refs (passes _ h.sorted)) apart members
      ∙ length-append ns ms ∙ (λ i. length-keys_of by_branch i + length-keys_of by_tag i)

-- ---- the state after a checkpoint

tips_published : (name : Kind → Bytes → Bytes) (values : List Value) {A : Type 0} (bs : List (Bytes × Option Commit)) (rows : List (Bytes × Tip A)) → AreRows (IsTip name values) bs rows
    → AreRows (IsTip name values) bs (map (λ row. (row.0, published_tip row.1)) rows)
tips_published name values [] [] h = tt
tips_published name values [] (w ∷ ws) h = absurd h
tips_published name values (b ∷ bs) [] h = absurd h
tips_published name values (b ∷ bs) (w ∷ ws) h = (h.0, record { commit = h.1.commit; files = h.1.files }, tips_published name values bs ws h.2)

module _ (name : Kind → Bytes → Bytes) {A : Type 0} (r : Records) (tables : Tables A) (s : State) (h : Stands name r tables s) (in_order : IsTrue (is_sorted byte_cmp tables.branches)) where
  abbrev pub after : Tables A
  after = record tables { branches = map (λ row. (row.0, published_tip row.1)) tables.branches }

  pub published_stands : (new : Records) → history_of new ≡ final s → Stands name new after (checkpointed s)
  published_stands new e = record {
    history = e;
    marks = h.marks;
    branches = tips_published name s.history.values s.branches tables.branches h.branches;
    tags = h.tags;
    ref_names = h.ref_names;
    own = h.own;
    forced = h.forced;
    published = published_next name r tables s h in_order;
  }

  -- as many refs were published as are counted
  pub published_counted : IsTrue (is_sorted byte_cmp tables.tags) → published_count after ≡ length (overwritten s s.published)
  published_counted tags_in_order =
      sym (counted (overwritten s s.published) s.tags after (published_next name r tables s h in_order) (sym (changed_sorted published_tip tables.branches) ∙ in_order) tags_in_order
      (tag_rows name r tables s h) (tags_published name r tables s h in_order))
