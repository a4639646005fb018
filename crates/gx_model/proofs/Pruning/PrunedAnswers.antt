-- What bases, revisions and ranges give of a history where what its refs reach alone is kept.
use Rattle.std.proofs.Common.{◌≡◌, ℕ, ◌+◌, Bool, true, false, cond, refl, sym, ap, subst, ◌∙◌, List, [], ◌∷◌, ◌++◌, append-nil, map, Option, Some, None, Ok, Err, inl, inr, Result}
use Rattle.std.specs.Prelude.{reverse, T, not, ◌&&◌, ◌⊎◌, nat_eq, nat_le, nat_lt, length}
use Rattle.std.specs.List.{AllByRecursion, cons_option, filter, filter_map, list_any}
use Rattle.std.specs.Map.{lookup}
use Rattle.std.specs.Bool.{passes}
use Rattle.std.proofs.lemmas.List.{reverse-append}
use Rattle.std.proofs.lemmas.List.Elements.{filter-append}
use Rattle.gx_model.specs.declared.objects.Kind.{Kind}
use Rattle.gx_model.specs.declared.faults.Fault.{Fault}
use Rattle.gx_model.specs.declared.faults.Fault.TheVariants as fault
use Rattle.gx_model.specs.Texts.{Bytes, same_bytes}
use Rattle.gx_model.specs.Faults.{Given, ◌>>=◌}
use Rattle.gx_model.specs.Histories.Values.{Commit, Value, blob_value, commit_of, commit_value, parents_of, tag_value, tree_value}
use Rattle.gx_model.specs.Histories.{History, IsIn, IsWhole, Records, Target, is_in, itself, value_at}
use Rattle.gx_model.specs.Laws.ExportLaws.{IsReached}
use Rattle.gx_model.specs.Laws.HistoryLaws.{IsParent}
use Rattle.gx_model.specs.Laws.PruningLaws.{GivesReached, HasReached}
use Rattle.gx_model.specs.Objects.{IsNamer}
use Rattle.gx_model.specs.Pruning.{pruned}
use Rattle.gx_model.specs.Records.{name_of}
use Rattle.gx_model.specs.Records.HistoryOf.{history_of}
use Rattle.gx_model.specs.Records.Sound.{IsSound}
use Rattle.gx_model.specs.Revisions.{AllParents, Alone, Apart, Between, RangeWord, Revision, WithAncestors, WithoutAncestors, WithoutOne}
use Rattle.gx_model.specs.Revisions.Denotation.{Shown, all_suffixed, are_digits, base_value, begins_with_digits, begun_by, commit_denoted, commit_in, denoted, find_ref, first_ref, full_name, nth_parent, object, ref_at, ref_names, shown_at, shown_value, submodule, the_one}
use Rattle.std.specs.Option.{option_or}
use Rattle.gx_model.specs.Revisions.Ranges.{Word, WordFault, all_parents, alone, apart, at_word, between, each_from, listed, listing, reaches, some_reaches, span, with_ancestors, without_ancestors, without_one, word_denoted}
use Rattle.gx_model.proofs.Histories.AddedValues.{is_in_is}
use Rattle.gx_model.proofs.Records.GrownRecords.{is_is_in, whole_of}
use Rattle.gx_model.proofs.Records.HistoriesExist.{stands}
use Rattle.gx_model.proofs.Export.KeptCommits.{any_in}
use Rattle.gx_model.proofs.Records.LinkedValues.{parts_in}
use Rattle.gx_model.proofs.Texts.PathTests.{first, is_true, one_of}
use Rattle.gx_model.proofs.Pruning.PrunedHistories.{keeps, left_is, pruned_sound, reached_in, reached_names}
use Rattle.gx_model.proofs.Histories.ReachedCommits.{least, least_some}
use Rattle.gx_model.proofs.Export.ReachedValues.{parents_of_commit}
use Rattle.gx_model.proofs.Revisions.ShownValues.{held_value}

abbrev Tips : List (Bytes × Target) → List Value
Tips refs = map (λ ref. value_at ref.1) refs

-- ---- lists

passes_in : (test : Value → Bool) (vs : List Value) (v : Value) → IsIn (filter test vs) v → T (test v)
passes_in test [] v i = absurd i
passes_in test (w ∷ vs) v i = by (test w) refl i (passes_in test vs v) where
  by : (b : Bool) → test w ≡ b → IsIn (cond b (w ∷ filter test vs) (filter test vs)) v → (IsIn (filter test vs) v → T (test v)) → T (test v)
  by true e j again = elim j [ inl s ↦ subst T (sym e ∙ ap test s) tt | inr m ↦ again m ]
  by false e j again = again j

filter_reverse : {X : Type 0} (p : X → Bool) (xs : List X) → filter p (reverse xs) ≡ reverse (filter p xs)
filter_reverse p [] = refl
filter_reverse {X} p (x ∷ xs) = ap (filter p) (reverse-append (x ∷ []) xs) ∙ filter-append p (reverse xs) (x ∷ []) ∙ ap (λ us. us ++ filter p (x ∷ [])) (filter_reverse p xs) ∙ by (p x) where
  by : (b : Bool) → reverse (filter p xs) ++ cond b (x ∷ []) [] ≡ reverse (cond b (x ∷ filter p xs) (filter p xs))
  by true = sym (reverse-append (x ∷ []) (filter p xs))
  by false = append-nil (reverse (filter p xs))

-- commits that are listed stand among the values that pass
kept_lists : (p : Commit → Bool) (test : Value → Bool) (vs : List Value) → ((c : Commit) → T (p c) → T (test (commit_value c))) → filter p (filter_map commit_of (filter test vs)) ≡ filter p (filter_map commit_of vs)
kept_lists p test [] f = refl
kept_lists p test (v ∷ vs) f = by v (test v) refl (kept_lists p test vs f) where
  first_of_all : (c : Commit) (b : Bool) → p c ≡ b → filter p (filter_map commit_of (filter test vs)) ≡ filter p (filter_map commit_of vs) → cond b (c ∷ filter p (filter_map commit_of (filter test vs))) (filter p (filter_map commit_of (filter test vs))) ≡ cond b (c ∷ filter p (filter_map commit_of vs)) (filter p (filter_map commit_of vs))
  first_of_all c true q e = ap (λ cs. c ∷ cs) e
  first_of_all c false q e = e

  passed_over : (c : Commit) → test (commit_value c) ≡ false → (b : Bool) → p c ≡ b → filter p (filter_map commit_of (filter test vs)) ≡ filter p (filter_map commit_of vs) → filter p (filter_map commit_of (filter test vs)) ≡ cond b (c ∷ filter p (filter_map commit_of vs)) (filter p (filter_map commit_of vs))
  passed_over c t true q e = absurd (subst T t (f c (subst T (sym q) tt)))
  passed_over c t false q e = e

  by : (u : Value) (b : Bool) → test u ≡ b → filter p (filter_map commit_of (filter test vs)) ≡ filter p (filter_map commit_of vs) → filter p (filter_map commit_of (cond b (u ∷ filter test vs) (filter test vs))) ≡ filter p (cons_option (commit_of u) (filter_map commit_of vs))
  by (blob_value x) true t e = e
  by (blob_value x) false t e = e
  by (tree_value x) true t e = e
  by (tree_value x) false t e = e
  by (tag_value x) true t e = e
  by (tag_value x) false t e = e
  by (commit_value c) true t e = first_of_all c (p c) refl e
  by (commit_value c) false t e = passed_over c t (p c) refl e

-- ---- refs

look_in : (n : Bytes) (refs : List (Bytes × Target)) (t : Target) → lookup (same_bytes n) refs ≡ Some t → IsIn (Tips refs) (value_at t)
look_in n [] t e = absurd (cc)
look_in n (q ∷ refs) t e = by (same_bytes n q.0) e (look_in n refs t) where
  by : (b : Bool) → cond b (Some q.1) (lookup (same_bytes n) refs) ≡ Some t → (lookup (same_bytes n) refs ≡ Some t → IsIn (Tips refs) (value_at t)) → (value_at q.1 ≡ value_at t) ⊎ IsIn (Tips refs) (value_at t)
  by true k again = let s : q.1 ≡ t = cc k in inl (ap value_at s)
  by false k again = inr (again k)

first_in : (h : History) (ns : List Bytes) (t : Target) → first_ref h ns ≡ Some t → IsIn (Tips h.refs) (value_at t)
first_in h [] t e = absurd (cc)
first_in h (n ∷ ns) t e = by (ref_at h n) refl e (first_in h ns t) where
  by : (o : Option Target) → ref_at h n ≡ o → option_or o (first_ref h ns) ≡ Some t → (first_ref h ns ≡ Some t → IsIn (Tips h.refs) (value_at t)) → IsIn (Tips h.refs) (value_at t)
  by (Some u) k m again = look_in n h.refs t (k ∙ m)
  by None k m again = again m

-- ---- bases

swapped : (p q : Value → Bool) (vs : List Value) → filter p (filter q vs) ≡ filter q (filter p vs)
swapped p q [] = refl
swapped p q (v ∷ vs) = by (p v) refl (q v) refl (swapped p q vs) where
  by : (a : Bool) → p v ≡ a → (b : Bool) → q v ≡ b → filter p (filter q vs) ≡ filter q (filter p vs) → filter p (cond b (v ∷ filter q vs) (filter q vs)) ≡ filter q (cond a (v ∷ filter p vs) (filter p vs))
  by true i true j e = ap (λ t. cond t (v ∷ filter p (filter q vs)) (filter p (filter q vs))) i ∙ ap (λ us. v ∷ us) e ∙ sym (ap (λ t. cond t (v ∷ filter q (filter p vs)) (filter q (filter p vs))) j)
  by true i false j e = e ∙ sym (ap (λ t. cond t (v ∷ filter q (filter p vs)) (filter q (filter p vs))) j)
  by false i true j e = ap (λ t. cond t (v ∷ filter p (filter q vs)) (filter p (filter q vs))) i ∙ e
  by false i false j e = e

module _ (name : Kind → Bytes → Bytes) where
  -- what a base gives by what it is, by the ref and by the values that it finds
  abbrev given : Bool → Bool → Option Target → List Value → Result Value Fault
  given whole short found vs = cond whole (full_name name vs) (elim found [ Some t ↦ Ok (value_at t) | None ↦ cond short (the_one name vs) (Err fault.UnknownRef) ])

  abbrev whole_digits : Bytes → Bool
  whole_digits x = are_digits name x && nat_eq (length x) 40

  abbrev short_digits : Bytes → Bool
  short_digits x = are_digits name x && nat_le 4 (length x) && nat_lt (length x) 40

  module _ (test : Value → Bool) (v : Value) (passes_test : test v ≡ true) where
    first_kept : (vs : List Value) → full_name name vs ≡ Ok v → full_name name (filter test vs) ≡ Ok v
    first_kept [] e = absurd (cc)
    first_kept (w ∷ ws) e =
        let s : w ≡ v = cc e in
        ap (λ t. full_name name (cond t (w ∷ filter test ws) (filter test ws))) (ap test s ∙ passes_test) ∙ e

    one_kept : (vs : List Value) → the_one name vs ≡ Ok v → the_one name (filter test vs) ≡ Ok v
    one_kept [] e = absurd (cc)
    one_kept (w ∷ []) e =
        let s : w ≡ v = cc e in
        ap (λ t. the_one name (cond t (w ∷ []) [])) (ap test s ∙ passes_test) ∙ e
    one_kept (w ∷ u ∷ ws) e = absurd (cc)

    given_kept : (whole short : Bool) (found : Option Target) (vs : List Value) → given whole short found vs ≡ Ok v → given whole short found (filter test vs) ≡ Ok v
    given_kept true short found vs e = first_kept vs e
    given_kept false short (Some t) vs e = e
    given_kept false true None vs e = one_kept vs e
    given_kept false false None vs e = e

module _ (name : Kind → Bytes → Bytes) (namer : IsNamer name) (r : Records) (s : IsSound name r) where
  abbrev h : History
  h = history_of r

  abbrev k : History
  k = history_of (pruned r)

  -- the values whose names begin with these digits, of those that are kept
  begun_left : (x : Bytes) → begun_by name k x ≡ filter (keeps name namer r s) (begun_by name h x)
  begun_left x = ap (λ z. begun_by name z x) (sym (left_is name namer r s)) ∙ swapped (λ v. begins_with_digits x (name_of name v)) (keeps name namer r s) h.values

  -- the refs are the same
  pub same_ref : (x : Bytes) → find_ref k x ≡ find_ref h x
  same_ref x = ap (λ z. find_ref z x) (sym (left_is name namer r s))

  -- a ref that is found gives what it reaches
  pub by_ref : (x : Bytes) (t : Target) → find_ref h x ≡ Some t → (are_digits name x && nat_eq (length x) 40) ≡ false → GivesReached name h x
  by_ref x t e f = (
    value_at t,
    (λ i. given name (f i) (short_digits name x) (e i) (begun_by name h x)),
    any_in (Tips h.refs) (value_at t) (value_at t) (first_in h (ref_names x) t e) (itself (value_at t)),
  )

  -- what a base gives that refs reach it gives afterwards
  pub same_base : (x : Bytes) (v : Value) → base_value name h x ≡ Ok v → IsReached h v → base_value name k x ≡ Ok v
  same_base x v e q =
      (λ i. given name (whole_digits name x) (short_digits name x) (same_ref x i) (begun_left x i))
      ∙ given_kept name (keeps name namer r s) v (is_true _ ((reached_names name namer r s v (reached_in name namer r s v q)).1 q)) (whole_digits name x) (short_digits name x) (find_ref h x) (begun_by name h x) e

  -- a revision whose base gives what refs reach gives what it gave
  pub same_revision : (a : Revision) → GivesReached name h a.base → denoted name k a ≡ denoted name h a
  unfolding denoted
  same_revision a g =
      ap (λ b. b >>= λ v. all_suffixed v a.suffixes >>= λ w. shown_at w a.path) (same_base a.base g.0 g.1 g.2 ∙ sym g.1)

  -- ---- ranges

  abbrev Stands : Commit → Type 0
  Stands c = IsIn k.values (commit_value c)

  whole : IsWhole k.values
  whole = whole_of name namer k (stands name namer (pruned r) (pruned_sound name namer r s)).history

  commit_of_value : (v : Value) (c : Commit) → IsIn k.values v → commit_in v ≡ Ok c → Stands c
  commit_of_value (blob_value x) c i e = absurd (cc)
  commit_of_value (tree_value f) c i e = absurd (cc)
  commit_of_value (commit_value d) c i e = let same : d ≡ c = cc e in subst Stands same i
  commit_of_value (tag_value t) c i e = let same : t.target ≡ c = cc e in subst Stands same (parts_in k.values (tag_value t) whole i).0

  commit_stands : (a : Revision) (c : Commit) → commit_denoted name k a ≡ Ok c → Stands c
  commit_stands a c e = by (denoted name k a) refl e where
    by : (o : Result Shown Fault) → denoted name k a ≡ o → ((o >>= shown_value) >>= commit_in) ≡ Ok c → Stands c
    by (Ok (object v)) q f = commit_of_value v c (held_value name namer (pruned r) (pruned_sound name namer r s) a v q) f
    by (Ok (submodule x)) q f = absurd (cc)
    by (Err g) q f = absurd (cc)

  abbrev in_kept : Commit → Bool
  in_kept c = is_in k.values (commit_value c)

  parent_stands : (d p : Commit) → T (in_kept d) → IsParent p (parents_of d) → T (in_kept p)
  parent_stands d p h i = passes _ (is_is_in k.values (commit_value p) (parents_of_commit k.values d (parts_in k.values (commit_value d) whole (is_in_is k.values (commit_value d) h)) p i))

  reach_stands : (c d : Commit) → Stands c → T (reaches c d) → Stands d
  reach_stands c d i h = is_in_is k.values (commit_value d) (least in_kept parent_stands c d (passes _ (is_is_in k.values (commit_value c) i)) h)

  parents_stand : (c d : Commit) → Stands c → T (some_reaches (parents_of c) d) → Stands d
  parents_stand c d i h =
      is_in_is k.values (commit_value d)
      (least_some in_kept parent_stands (parents_of c) d (λ p j. parent_stands c p (passes _ (is_is_in k.values (commit_value c) i)) j) h)

  -- what a word includes stands
  abbrev IncludesStanding : Word → Type 0
  IncludesStanding w = (d : Commit) → T ((span w).included d) → Stands d

  after_one : (a : Revision) (f : Commit → Word) (w : Word) → ((c : Commit) → Stands c → IncludesStanding (f c)) → (commit_denoted name k a >>= λ c. Ok (f c)) ≡ Ok w → IncludesStanding w
  after_one a f w fine e = by (commit_denoted name k a) refl e where
    by : (o : Given Commit) → commit_denoted name k a ≡ o → (o >>= λ c. Ok (f c)) ≡ Ok w → IncludesStanding w
    by (Err g) q m = absurd (cc)
    by (Ok c) q m = let same : f c ≡ w = cc m in subst IncludesStanding same (fine c (commit_stands a c q))

  after_two : (a b : Revision) (f : Commit → Commit → Word) (w : Word) → ((c d : Commit) → Stands c → Stands d → IncludesStanding (f c d))
      → (commit_denoted name k a >>= λ c. commit_denoted name k b >>= λ d. Ok (f c d)) ≡ Ok w → IncludesStanding w
  after_two a b f w fine e = by (commit_denoted name k a) refl e where
    by : (o : Given Commit) → commit_denoted name k a ≡ o → (o >>= λ c. commit_denoted name k b >>= λ d. Ok (f c d)) ≡ Ok w → IncludesStanding w
    by (Err g) q m = absurd (cc)
    by (Ok c) q m = after_one b (f c) w (λ d i. fine c d (commit_stands a c q) i) m

  after_parent : (a : Revision) (n : ℕ) (w : Word) → (commit_denoted name k a >>= λ c. nth_parent n c >>= λ p. Ok (without_one c p)) ≡ Ok w → IncludesStanding w
  after_parent a n w e = by (commit_denoted name k a) refl e where
    then_one : (c : Commit) → Stands c → (o : Given Commit) → (o >>= λ p. Ok (without_one c p)) ≡ Ok w → IncludesStanding w
    then_one c i (Err g) m = absurd (cc)
    then_one c i (Ok p) m = let same : without_one c p ≡ w = cc m in subst IncludesStanding same (λ d h. reach_stands c d i h)

    by : (o : Given Commit) → commit_denoted name k a ≡ o → (o >>= λ c. nth_parent n c >>= λ p. Ok (without_one c p)) ≡ Ok w → IncludesStanding w
    by (Err g) q m = absurd (cc)
    by (Ok c) q m = then_one c (commit_stands a c q) (nth_parent n c) m

  word_stands : (x : RangeWord) (w : Word) → word_denoted name k x ≡ Ok w → IncludesStanding w
  word_stands (WithAncestors a) w e = after_one a with_ancestors w (λ c i d h. reach_stands c d i h) e
  word_stands (WithoutAncestors a) w e = after_one a without_ancestors w (λ c i d h. absurd h) e
  word_stands (Between a b) w e = after_two a b between w (λ c d i j m h. reach_stands d m j h) e
  word_stands (Apart a b) w e = after_two a b apart w (λ c d i j m h. one_of (reaches c m) (reaches d m) h (reach_stands c m i) (reach_stands d m j)) e
  word_stands (AllParents a) w e = after_one a all_parents w (λ c i d h. parents_stand c d i h) e
  word_stands (Alone a) w e = after_one a alone w (λ c i d h. reach_stands c d i h) e
  word_stands (WithoutOne a n) w e = after_parent a n w e

  words_stand : (xs : List RangeWord) (n : ℕ) (ws : List Word) → each_from n (word_denoted name k) xs ≡ Ok ws → AllByRecursion IncludesStanding ws
  words_stand [] n ws e = let none : [] ≡ ws = cc e in subst (AllByRecursion IncludesStanding) none tt
  words_stand (x ∷ xs) n ws e = by (word_denoted name k x) refl e (words_stand xs (n + 1)) where
    then_rest : (w : Word) → IncludesStanding w → (o : Result (List Word) WordFault) → each_from (n + 1) (word_denoted name k) xs ≡ o → (o >>= λ us. Ok (w ∷ us)) ≡ Ok ws
        → ((us : List Word) → each_from (n + 1) (word_denoted name k) xs ≡ Ok us → AllByRecursion IncludesStanding us) → AllByRecursion IncludesStanding ws
    then_rest w i (Err g) q m again = absurd (cc)
    then_rest w i (Ok us) q m again = let same : w ∷ us ≡ ws = cc m in subst (AllByRecursion IncludesStanding) same (i, again us q)

    by : (o : Given Word) → word_denoted name k x ≡ o → (at_word n o >>= λ w. each_from (n + 1) (word_denoted name k) xs >>= λ us. Ok (w ∷ us)) ≡ Ok ws
        → ((us : List Word) → each_from (n + 1) (word_denoted name k) xs ≡ Ok us → AllByRecursion IncludesStanding us) → AllByRecursion IncludesStanding ws
    by (Err g) q m again = absurd (cc)
    by (Ok w) q m again = then_rest w (word_stands x w q) (each_from (n + 1) (word_denoted name k) xs) refl m again

  included_stands : (ws : List Word) → AllByRecursion IncludesStanding ws → (d : Commit) → T (list_any (λ w. (span w).included d) ws) → Stands d
  included_stands [] h d i = absurd i
  included_stands (w ∷ ws) h d i = one_of ((span w).included d) (list_any (λ w. (span w).included d) ws) i (h.0 d) (included_stands ws h.1 d)

  abbrev listed_by : List Word → Commit → Bool
  listed_by ws c = list_any (λ w. (span w).included c) ws && not (list_any (λ w. (span w).excluded c) ws)

  same_listing : (ws : List Word) → AllByRecursion IncludesStanding ws → listing k ws ≡ listing h ws
  same_listing ws f =
      filter_reverse (listed_by ws) (filter_map commit_of k.values)
      ∙ ap (λ vs. reverse (filter (listed_by ws) (filter_map commit_of vs))) (ap (λ z. z.values) (sym (left_is name namer r s)))
      ∙ ap reverse (kept_lists (listed_by ws) (keeps name namer r s) h.values
      (λ c i. passes_in (keeps name namer r s) h.values (commit_value c) (subst (λ z. IsIn z.values (commit_value c)) (sym (left_is name namer r s)) (included_stands ws f c (first _ _ i)))))
      ∙ sym (filter_reverse (listed_by ws) (filter_map commit_of h.values))

  same_commit_of : (a : Revision) → GivesReached name h a.base → commit_denoted name k a ≡ commit_denoted name h a
  same_commit_of a g = ap (λ d. (d >>= shown_value) >>= commit_in) (same_revision a g)

  same_word : (x : RangeWord) → HasReached name h x → word_denoted name k x ≡ word_denoted name h x
  same_word (WithAncestors a) g = ap (λ o. o >>= λ c. Ok (with_ancestors c)) (same_commit_of a g)
  same_word (WithoutAncestors a) g = ap (λ o. o >>= λ c. Ok (without_ancestors c)) (same_commit_of a g)
  same_word (Between a b) g = λ i. same_commit_of a g.0 i >>= λ c. same_commit_of b g.1 i >>= λ d. Ok (between c d)
  same_word (Apart a b) g = λ i. same_commit_of a g.0 i >>= λ c. same_commit_of b g.1 i >>= λ d. Ok (apart c d)
  same_word (AllParents a) g = ap (λ o. o >>= λ c. Ok (all_parents c)) (same_commit_of a g)
  same_word (Alone a) g = ap (λ o. o >>= λ c. Ok (alone c)) (same_commit_of a g)
  same_word (WithoutOne a n) g = ap (λ o. o >>= λ c. nth_parent n c >>= λ p. Ok (without_one c p)) (same_commit_of a g)

  same_words : (xs : List RangeWord) (n : ℕ) → AllByRecursion (HasReached name h) xs → each_from n (word_denoted name k) xs ≡ each_from n (word_denoted name h) xs
  same_words [] n g = refl
  same_words (x ∷ xs) n g = λ i. at_word n (same_word x g.0 i) >>= λ w. same_words xs (n + 1) g.1 i >>= λ us. Ok (w ∷ us)

  -- ranges of words whose bases give what refs reach list what they listed
  pub same_range : (xs : List RangeWord) → AllByRecursion (HasReached name h) xs → listed name k xs ≡ listed name h xs
  unfolding listed
  same_range xs g = by (each_from 1 (word_denoted name k) xs) refl ∙ ap (λ o. o >>= λ ws. Ok (map (λ c. name_of name (commit_value c)) (listing h ws))) (same_words xs 1 g)
    where
      by : (o : Result (List Word) WordFault) → each_from 1 (word_denoted name k) xs ≡ o
          → (o >>= λ ws. Ok (map (λ c. name_of name (commit_value c)) (listing k ws))) ≡ (o >>= λ ws. Ok (map (λ c. name_of name (commit_value c)) (listing h ws)))
      by (Err e) q = refl
      by (Ok ws) q = ap (λ cs. Ok (map (λ c. name_of name (commit_value c)) cs)) (same_listing ws (words_stand xs 1 ws q))
