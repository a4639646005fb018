-- Range words list among records, by the parents that bodies tell, what they list in the history.
use Rattle.std.proofs.Common.{◌≡◌, ℕ, zero, suc, ◌+◌, Bool, true, false, cond, refl, sym, ap, subst, ◌∙◌, arith, List, [], ◌∷◌, ◌++◌, map, length, append-nil, Result, Ok, Err}
use Rattle.std.proofs.lemmas.List.{length-map, reverse-append}
use Rattle.std.proofs.lemmas.List.Elements.{filter-append}
use Rattle.std.specs.Prelude.{◌&&◌, ◌||◌, T, ⊤, not, reverse}
use Rattle.std.specs.Bool.{passes}
use Rattle.std.specs.List.{AllByRecursion, filter, filter_map, list_any, slice_get}
use Rattle.std.specs.Option.{ok_or}
use Rattle.gx_model.specs.declared.faults.Fault.TheVariants.{NoParent, WrongKind}
use Rattle.gx_model.specs.declared.objects.Kind.{Kind}
use Rattle.gx_model.specs.Texts.{Bytes, same_bytes}
use Rattle.gx_model.specs.Faults.{Given, ◌>>=◌}
use Rattle.gx_model.specs.Histories.Values.{Commit, Commits, Value, blob_value, commit, commit_of, commit_value, list_of, more, none, parents_of, parts, same_commit, tag_value, tree_value}
use Rattle.gx_model.specs.Objects.{IsNamer}
use Rattle.gx_model.specs.Records.{name_of, names_of}
use Rattle.gx_model.specs.Histories.{AreDistinct, History, IsClosedAfter, IsIn, IsWhole, Records, record_of}
use Rattle.gx_model.specs.Records.HistoryOf.{history_of}
use Rattle.gx_model.specs.Records.Sound.{IsSound}
use Rattle.gx_model.specs.Records.Lookups.{commit_name_of}
use Rattle.gx_model.specs.Revisions.{RangeWord, Revision, AllParents, Alone, Apart, Between, WithAncestors, WithoutAncestors, WithoutOne}
use Rattle.gx_model.specs.Revisions.Denotation.{Shown, commit_denoted, commit_in, denoted, nth_parent, object, shown_value, submodule}
use Rattle.gx_model.specs.Revisions.Ranges.{Word, WordFault, at_word, each_from, listed, listing, reaches, some_reaches, span, word_denoted, words_denoted}
use Rattle.gx_model.specs.Laws.Headline.{object_denoted}
use Rattle.gx_model.specs.Laws.ShownRecords.{NameSpan, commit_held, commits_held, is_listed, leads_to, leads_within, listed_held, parent_held, parent_leads_to, parents_named, span_held}
use Rattle.gx_model.proofs.Texts.PathTests.{is_same, is_true, same_is}
use Rattle.gx_model.proofs.Histories.SameValues.{commit_is, commit_same}
use Rattle.gx_model.proofs.Export.KeptCommits.{all_in, each_in}
use Rattle.gx_model.proofs.Records.FoundRecords.{commits_found}
use Rattle.gx_model.proofs.Records.GrownRecords.{distinct_of, whole_of}
use Rattle.gx_model.proofs.Records.HistoriesExist.{stands}
use Rattle.gx_model.proofs.Records.LinkedValues.{parts_in}
use Rattle.gx_model.proofs.Records.OneHistory.{told_by_name}
use Rattle.gx_model.proofs.Replay.GivenCommits.{all_each}
use Rattle.gx_model.proofs.Replay.NullGitlinks.{all_join}
use Rattle.gx_model.proofs.Revisions.ShownValues.{held_value}

-- ---- lists

module _ {X : Type 0} where
  filter_reversed : (p : X → Bool) (xs : List X) → filter p (reverse xs) ≡ reverse (filter p xs)
  filter_reversed p [] = refl
  filter_reversed p (x ∷ xs) =
      ap (filter p) (reverse-append (x ∷ []) xs) ∙ filter-append p (reverse xs) (x ∷ []) ∙ ap (λ ys. ys ++ filter p (x ∷ [])) (filter_reversed p xs)
      ∙ elim (p x) as (λ t. reverse (filter p xs) ++ cond t (x ∷ []) [] ≡ reverse (cond t (x ∷ filter p xs) (filter p xs))) [
        | true ↦ sym (reverse-append (x ∷ []) (filter p xs))
        | false ↦ append-nil (reverse (filter p xs))
      ]

module _ {X Y : Type 0} (f : X → Y) where
  joined_mapped : (xs ys : List X) → map f (xs ++ ys) ≡ map f xs ++ map f ys
  joined_mapped [] ys = refl
  joined_mapped (x ∷ xs) ys = ap (λ zs. f x ∷ zs) (joined_mapped xs ys)

  reverse_mapped : (xs : List X) → reverse (map f xs) ≡ map f (reverse xs)
  reverse_mapped [] = refl
  reverse_mapped (x ∷ xs) =
      reverse-append (f x ∷ []) (map f xs) ∙ ap (λ ys. ys ++ f x ∷ []) (reverse_mapped xs)
      ∙ sym (joined_mapped (reverse xs) (x ∷ [])) ∙ ap (map f) (sym (reverse-append (x ∷ []) xs))

  -- tests that agree on all elements leave the same ones
  filter_mapped : (P : X → Type 0) (p : Y → Bool) (q : X → Bool) → ((x : X) → P x → p (f x) ≡ q x) → (xs : List X) → AllByRecursion P xs
      → filter p (map f xs) ≡ map f (filter q xs)
  filter_mapped P p q k [] h = refl
  filter_mapped P p q k (x ∷ xs) h =
      (λ i. cond (k x h.0 i) (f x ∷ filter_mapped P p q k xs h.1 i) (filter_mapped P p q k xs h.1 i))
      ∙ elim (q x) as (λ b. cond b (f x ∷ map f (filter q xs)) (map f (filter q xs)) ≡ map f (cond b (x ∷ filter q xs) (filter q xs))) [
        | true ↦ refl
        | false ↦ refl
      ]

-- ---- how many times a commit's ancestors can be gone up

abbrev mutual
  -- fewer than n times, from the commit on
  Within : ℕ → Commit → Type 0
  Within zero c = ⊥
  Within (suc n) (commit f ps t) = AreWithin n ps

  AreWithin : ℕ → Commits → Type 0
  AreWithin n none = ⊤
  AreWithin n (more c cs) = Within n c × AreWithin n cs

mutual
  wider : (n : ℕ) (c : Commit) → Within n c → Within (suc n) c
  wider zero c h = absurd h
  wider (suc n) (commit f ps t) h = all_wider n ps h

  all_wider : (n : ℕ) (cs : Commits) → AreWithin n cs → AreWithin (suc n) cs
  all_wider n none h = tt
  all_wider n (more c cs) h = (wider n c h.0, all_wider n cs h.1)

-- a number, and one more for each value
abbrev counted : ℕ → List Value → ℕ
counted n [] = n
counted n (v ∷ vs) = counted (suc n) vs

counted_is : (n : ℕ) (vs : List Value) → counted n vs ≡ n + length vs
counted_is n [] = omega arith
counted_is n (v ∷ vs) = let e = counted_is (suc n) vs in omega (arith, e)

widest : (n : ℕ) (vs : List Value) (c : Commit) → Within n c → Within (counted n vs) c
widest n [] c h = h
widest n (v ∷ vs) c h = widest (suc n) vs c (wider n c h)

-- a value that, where it is a commit, is within
abbrev IsWithin : ℕ → Value → Type 0
IsWithin n (blob_value x) = ⊤
IsWithin n (tree_value f) = ⊤
IsWithin n (commit_value c) = Within n c
IsWithin n (tag_value t) = ⊤

value_wider : (n : ℕ) (v : Value) → IsWithin n v → IsWithin (suc n) v
value_wider n (blob_value x) h = tt
value_wider n (tree_value f) h = tt
value_wider n (commit_value c) h = wider n c h
value_wider n (tag_value t) h = tt

value_widest : (n : ℕ) (vs : List Value) (v : Value) → IsWithin n v → IsWithin (counted n vs) v
value_widest n vs (blob_value x) h = tt
value_widest n vs (tree_value f) h = tt
value_widest n vs (commit_value c) h = widest n vs c h
value_widest n vs (tag_value t) h = tt

parents_within : (n : ℕ) (vs : List Value) → AllByRecursion (IsWithin n) vs → (cs : Commits) → AllByRecursion (IsIn vs) (map commit_value (list_of cs))
    → AreWithin n cs
parents_within n vs h none k = tt
parents_within n vs h (more c cs) k = (all_in (IsWithin n) vs (commit_value c) h k.0, parents_within n vs h cs k.1)

one_within : (n : ℕ) (vs : List Value) → AllByRecursion (IsWithin n) vs → (v : Value) → AllByRecursion (IsIn vs) (parts v) → IsWithin (suc n) v
one_within n vs h (blob_value x) k = tt
one_within n vs h (tree_value f) k = tt
one_within n vs h (commit_value (commit f ps t)) k = parents_within n vs h ps k.1
one_within n vs h (tag_value t) k = tt

-- each value is as far from roots as values stand before it, at most
within : (n : ℕ) (before vs : List Value) → IsClosedAfter before vs → AllByRecursion (IsWithin n) before → AllByRecursion (IsWithin (counted n vs)) vs
within n before [] closed h = tt
within n before (v ∷ vs) closed h =
    let one = one_within n before h v closed.1 in
    let more = all_join (IsWithin (suc n)) before (v ∷ []) (all_each (IsWithin n) (IsWithin (suc n)) (value_wider n) before h) (one, tt) in
    (value_widest (suc n) vs v one, within (suc n) (before ++ v ∷ []) vs closed.2 more)

-- ---- commits by their names

-- the bodies of a history's commits tell their parents
abbrev TellParents : (Kind → Bytes → Bytes) → Records → Type 0
TellParents name r =
    (c : Commit) → IsIn (history_of r).values (commit_value c)
    → parents_named r.records (name_of name (commit_value c)) ≡ names_of name (parents_of c)

module _ (name : Kind → Bytes → Bytes) (namer : IsNamer name) (r : Records) (is : IsSound name r) (told : TellParents name r) where
  abbrev h : History
  h = history_of r

  abbrev Stands : Value → Type 0
  Stands = IsIn h.values

  abbrev called : Commit → Bytes
  called c = name_of name (commit_value c)

  whole : IsWhole h.values
  whole = whole_of name namer h (stands name namer r is).history

  apart : AreDistinct (map (name_of name) h.values)
  apart = distinct_of name namer r h (stands name namer r is)

  elders : (c : Commit) → Stands (commit_value c) → AllByRecursion Stands (map commit_value (list_of (parents_of c)))
  elders c i = (parts_in h.values (commit_value c) whole i).1

  -- names tell commits apart
  same_called : (c d : Commit) → Stands (commit_value c) → Stands (commit_value d) → same_bytes (called c) (called d) ≡ same_commit c d
  same_called c d i j = by (same_bytes (called c) (called d)) (same_commit c d) refl refl
    where
      by : (a b : Bool) → same_bytes (called c) (called d) ≡ a → same_commit c d ≡ b → a ≡ b
      by true true e k = refl
      by false false e k = refl
      by true false e k =
          let called_one = same_is (called c) (called d) (passes _ e) in
          let one : commit_value c ≡ commit_value d = told_by_name name namer h.values apart (commit_value c) (commit_value d) i j called_one in
          let same : c ≡ d = cc one in
          sym (is_true (same_commit c d) (subst (λ x. T (same_commit c x)) same (commit_same c))) ∙ k
      by false true e k = sym e ∙ is_true (same_bytes (called c) (called d)) (is_same (called c) (called d) (ap called (commit_is c d (passes _ k))))

  -- ---- ancestors

  mutual
    leads : (n : ℕ) (c d : Commit) → Stands (commit_value c) → Stands (commit_value d) → Within n c
        → leads_within n r.records (called c) (called d) ≡ reaches c d
    leads zero c d i j w = absurd w
    leads (suc n) (commit f ps t) d i j w =
        (λ k. same_called (commit f ps t) d i j k || list_any (λ parent. leads_within n r.records parent (called d)) (told (commit f ps t) i k))
        ∙ ap (λ b. same_commit (commit f ps t) d || b) (some_lead n ps d (elders (commit f ps t) i) j w)

    some_lead : (n : ℕ) (cs : Commits) (d : Commit) → AllByRecursion Stands (map commit_value (list_of cs)) → Stands (commit_value d) → AreWithin n cs
        → list_any (λ parent. leads_within n r.records parent (called d)) (names_of name cs) ≡ some_reaches cs d
    some_lead n none d i j w = refl
    some_lead n (more c cs) d i j w = λ k. leads n c d i.0 j w.0 k || some_lead n cs d i.1 j w.1 k

  all_within : AllByRecursion (IsWithin (length r.records)) h.values
  all_within =
      let many = ap length (stands name namer r is).records ∙ length-map h.values (record_of name) in
      let e : counted 0 h.values ≡ length r.records = omega (arith, counted_is 0 h.values, many) in
      subst (λ n. AllByRecursion (IsWithin n) h.values) e (within 0 [] h.values whole.closed tt)

  leads_same : (c d : Commit) → Stands (commit_value c) → Stands (commit_value d) → leads_to r.records (called c) (called d) ≡ reaches c d
  leads_same c d i j = leads (length r.records) c d i j (all_in (IsWithin (length r.records)) h.values (commit_value c) all_within i)

  parent_leads_same : (c d : Commit) → Stands (commit_value c) → Stands (commit_value d)
      → parent_leads_to r.records (called c) (called d) ≡ some_reaches (parents_of c) d
  parent_leads_same c d i j =
      ap (list_any (λ parent. leads_to r.records parent (called d))) (told c i)
      ∙ some_lead (length r.records) (parents_of c) d (elders c i) j (parents_within (length r.records) h.values all_within (parents_of c) (elders c i))

  -- ---- revisions and parents by number

  -- a word's part is alike where both give something alike, or both the same fault
  abbrev AreAlike : {A B : Type 0} → (A → B → Type 0) → Given A → Given B → Type 0
  AreAlike P (Ok x) (Ok y) = P x y
  AreAlike P (Ok x) (Err f) = ⊥
  AreAlike P (Err e) (Ok y) = ⊥
  AreAlike P (Err e) (Err f) = e ≡ f

  abbrev given : Revision → Given Bytes
  given revision = object_denoted name h revision >>= commit_held r.records

  module _ {A B : Type 0} (P : A → B → Type 0) where
    of_value : (f : Bytes → Given A) (g : Commit → Given B) → ((c : Commit) → Stands (commit_value c) → AreAlike P (f (called c)) (g c)) → (v : Value)
        → Stands v
        → AreAlike P (commit_held r.records (name_of name v) >>= f) (commit_in v >>= g)
    of_value f g k v i = subst (λ o. AreAlike P (ok_or o WrongKind >>= f) (commit_in v >>= g)) (sym (commits_found name namer r is v i)) (by v i)
      where
        by : (v : Value) → Stands v → AreAlike P (ok_or (commit_name_of name v) WrongKind >>= f) (commit_in v >>= g)
        by (blob_value x) j = refl
        by (tree_value x) j = refl
        by (commit_value c) j = k c j
        by (tag_value t) j = k t.target (parts_in h.values (tag_value t) whole j).0

    -- what a revision gives, and what comes next
    of_revision : (a : Revision) (f : Bytes → Given A) (g : Commit → Given B) → ((c : Commit) → Stands (commit_value c) → AreAlike P (f (called c)) (g c))
        → AreAlike P (given a >>= f) (commit_denoted name h a >>= g)
    of_revision a f g k = by (denoted name h a) refl
      where
        by : (o : Given Shown) → denoted name h a ≡ o
            → AreAlike P ((((o >>= shown_value) >>= λ v. Ok (name_of name v)) >>= commit_held r.records) >>= f) (((o >>= shown_value) >>= commit_in) >>= g)
        by (Ok (object v)) e = of_value f g k v (held_value name namer r is a v e)
        by (Ok (submodule x)) e = refl
        by (Err x) e = refl

    -- a parent by its number, and what comes next
    of_parent : (n : ℕ) (c : Commit) → Stands (commit_value c) → (f : Bytes → Given A) (g : Commit → Given B)
        → ((d : Commit) → Stands (commit_value d) → AreAlike P (f (called d)) (g d))
        → AreAlike P (parent_held r.records n (called c) >>= f) (nth_parent n c >>= g)
    of_parent zero c i f g k = k c i
    of_parent (suc n) c i f g k =
        subst (λ ns. AreAlike P (ok_or (slice_get ns n) NoParent >>= f) (nth_parent (suc n) c >>= g)) (sym (told c i))
        (by (parents_of c) n (elders c i))
      where
        by : (cs : Commits) (n : ℕ) → AllByRecursion Stands (map commit_value (list_of cs))
            → AreAlike P (ok_or (slice_get (names_of name cs) n) NoParent >>= f) (ok_or (slice_get (list_of cs) n) NoParent >>= g)
        by none n j = refl
        by (more c cs) zero j = k c j.0
        by (more c cs) (suc n) j = by cs n j.1

  -- ---- words

  -- these tests of names are those of the commits
  record IsSpan (s : NameSpan) (w : Word) : Type 0 where
    pub included : (d : Commit) → Stands (commit_value d) → s.included (called d) ≡ (span w).included d
    pub excluded : (d : Commit) → Stands (commit_value d) → s.excluded (called d) ≡ (span w).excluded d

  word_alike : (word : RangeWord) → AreAlike IsSpan (span_held r.records given word) (word_denoted name h word)
  word_alike (WithAncestors a) = of_revision IsSpan a _ _ (λ c i. record { included = λ d j. leads_same c d i j; excluded = λ d j. refl })
  word_alike (WithoutAncestors a) = of_revision IsSpan a _ _ (λ c i. record { included = λ d j. refl; excluded = λ d j. leads_same c d i j })
  word_alike (Between a b) =
      of_revision IsSpan a _ _ (λ c i. of_revision IsSpan b _ _ (λ e k. record { included = λ d j. leads_same e d k j; excluded = λ d j. leads_same c d i j }))
  word_alike (Apart a b) =
      of_revision IsSpan a _ _ (λ c i. of_revision IsSpan b _ _ (λ e k. record {
        included = λ d j. λ l. leads_same c d i j l || leads_same e d k j l;
        excluded = λ d j. λ l. leads_same c d i j l && leads_same e d k j l;
      }))
  word_alike (AllParents a) = of_revision IsSpan a _ _ (λ c i. record { included = λ d j. parent_leads_same c d i j; excluded = λ d j. refl })
  word_alike (Alone a) = of_revision IsSpan a _ _ (λ c i. record { included = λ d j. leads_same c d i j; excluded = λ d j. parent_leads_same c d i j })
  word_alike (WithoutOne a n) =
      of_revision IsSpan a _ _ (λ c i. of_parent IsSpan n c i _ _ (λ e k. record {
        included = λ d j. leads_same c d i j;
        excluded = λ d j. leads_same e d k j;
      }))

  abbrev AreSpans : List NameSpan → List Word → Type 0
  AreSpans [] [] = ⊤
  AreSpans [] (w ∷ ws) = ⊥
  AreSpans (s ∷ ss) [] = ⊥
  AreSpans (s ∷ ss) (w ∷ ws) = IsSpan s w × AreSpans ss ws

  abbrev AllAlike : Result (List NameSpan) WordFault → Result (List Word) WordFault → Type 0
  AllAlike (Ok ss) (Ok ws) = AreSpans ss ws
  AllAlike (Ok ss) (Err f) = ⊥
  AllAlike (Err e) (Ok ws) = ⊥
  AllAlike (Err e) (Err f) = e ≡ f

  all_alike : (n : ℕ) (words : List RangeWord) → AllAlike (each_from n (span_held r.records given) words) (each_from n (word_denoted name h) words)
  all_alike n [] = tt
  all_alike n (word ∷ words) =
      by (span_held r.records given word) (word_denoted name h word) (word_alike word)
      (each_from (n + 1) (span_held r.records given) words) (each_from (n + 1) (word_denoted name h) words) (all_alike (n + 1) words)
    where
      by : (s : Given NameSpan) (w : Given Word) → AreAlike IsSpan s w → (ss : Result (List NameSpan) WordFault) (ws : Result (List Word) WordFault)
          → AllAlike ss ws
          → AllAlike (at_word n s >>= λ y. ss >>= λ ys. Ok (y ∷ ys)) (at_word n w >>= λ y. ws >>= λ ys. Ok (y ∷ ys))
      by (Ok s) (Ok w) k (Ok ss) (Ok ws) l = (k, l)
      by (Ok s) (Ok w) k (Ok ss) (Err f) l = absurd l
      by (Ok s) (Ok w) k (Err e) (Ok ws) l = absurd l
      by (Ok s) (Ok w) k (Err e) (Err f) l = l
      by (Ok s) (Err f) k ss ws l = absurd k
      by (Err e) (Ok w) k ss ws l = absurd k
      by (Err e) (Err f) k ss ws l = λ i. record { word = n; fault = k i }

  -- ---- what is listed

  some_include : (ss : List NameSpan) (ws : List Word) → AreSpans ss ws → (d : Commit) → Stands (commit_value d)
      → list_any (λ s. s.included (called d)) ss ≡ list_any (λ w. (span w).included d) ws
  some_include [] [] k d j = refl
  some_include [] (w ∷ ws) k d j = absurd k
  some_include (s ∷ ss) [] k d j = absurd k
  some_include (s ∷ ss) (w ∷ ws) k d j = λ i. k.0.included d j i || some_include ss ws k.1 d j i

  some_exclude : (ss : List NameSpan) (ws : List Word) → AreSpans ss ws → (d : Commit) → Stands (commit_value d)
      → list_any (λ s. s.excluded (called d)) ss ≡ list_any (λ w. (span w).excluded d) ws
  some_exclude [] [] k d j = refl
  some_exclude [] (w ∷ ws) k d j = absurd k
  some_exclude (s ∷ ss) [] k d j = absurd k
  some_exclude (s ∷ ss) (w ∷ ws) k d j = λ i. k.0.excluded d j i || some_exclude ss ws k.1 d j i

  commits_are : (vs : List Value) → commits_held (map (record_of name) vs) ≡ map called (filter_map commit_of vs)
  commits_are [] = refl
  commits_are (blob_value x ∷ vs) = commits_are vs
  commits_are (tree_value f ∷ vs) = commits_are vs
  commits_are (commit_value c ∷ vs) = ap (λ ns. called c ∷ ns) (commits_are vs)
  commits_are (tag_value t ∷ vs) = commits_are vs

  commits_stand : (vs : List Value) → AllByRecursion Stands vs → AllByRecursion (λ c. Stands (commit_value c)) (filter_map commit_of vs)
  commits_stand [] k = tt
  commits_stand (blob_value x ∷ vs) k = commits_stand vs k.1
  commits_stand (tree_value f ∷ vs) k = commits_stand vs k.1
  commits_stand (commit_value c ∷ vs) k = (k.0, commits_stand vs k.1)
  commits_stand (tag_value t ∷ vs) k = commits_stand vs k.1

  listed_alike : (ss : List NameSpan) (ws : List Word) → AreSpans ss ws → filter (is_listed ss) (reverse (commits_held r.records)) ≡ map called (listing h ws)
  listed_alike ss ws k =
      let made : List Commit = filter_map commit_of h.values in
      let test : Commit → Bool = λ c. list_any (λ w. (span w).included c) ws && not (list_any (λ w. (span w).excluded c) ws) in
      let agree : (d : Commit) → Stands (commit_value d) → is_listed ss (called d) ≡ test d
      = λ d j. λ i. some_include ss ws k d j i && not (some_exclude ss ws k d j i) in
      let stand : AllByRecursion (λ c. Stands (commit_value c)) made = commits_stand h.values (each_in Stands h.values (λ u i. i)) in
      ap (λ rs. filter (is_listed ss) (reverse (commits_held rs))) (stands name namer r is).records
      ∙ ap (λ ns. filter (is_listed ss) (reverse ns)) (commits_are h.values)
      ∙ filter_reversed (is_listed ss) (map called made)
      ∙ ap reverse (filter_mapped called (λ c. Stands (commit_value c)) (is_listed ss) test agree made stand)
      ∙ reverse_mapped called (filter test made)
      ∙ ap (map called) (sym (filter_reversed test made))

  pub ranges_shown : (words : List RangeWord) → listed_held r.records given words ≡ listed name h words
  unfolding listed
  ranges_shown words = by (each_from 1 (span_held r.records given) words) (words_denoted name h words) (all_alike 1 words)
    where
      by : (ss : Result (List NameSpan) WordFault) (ws : Result (List Word) WordFault) → AllAlike ss ws
          → ◌≡◌ {A = Result (List Bytes) WordFault}
          (ss >>= λ spans. Ok (filter (is_listed spans) (reverse (commits_held r.records))))
          (ws >>= λ xs. Ok (map called (listing h xs)))
      by (Ok ss) (Ok ws) k = ap Ok (listed_alike ss ws k)
      by (Ok ss) (Err f) k = absurd k
      by (Err e) (Ok ws) k = absurd k
      by (Err e) (Err f) k = ap Err k
