-- The commits that range words list, by their names: what is listed stands in the history, and is held.
use Rattle.std.proofs.Common.{◌≡◌, ℕ, zero, suc, Bool, true, false, cond, refl, sym, ap, subst, ◌∙◌, List, [], ◌∷◌, ◌++◌, map, take, drop, reverse, Option, None, Some, Result, Ok, Err, inl, inr}
use Rattle.std.specs.Prelude.{IsTrue, ◌&&◌, ◌||◌, not}
use Rattle.std.specs.List.{AllByRecursion, filter, filter_map, list_any}
use Rattle.std.proofs.lemmas.List.Folds.{list_any-append}
use Rattle.std.proofs.lemmas.List.{drop-map, map-append, reverse-append, take-map}
use Rattle.gx_model.specs.declared.objects.Kind.{Kind}
use Rattle.gx_model.specs.declared.objects.Kind.TheVariants as kind
use Rattle.gx_model.specs.Texts.{Bytes}
use Rattle.gx_model.specs.Faults.{◌>>=◌}
use Rattle.gx_model.specs.Histories.Values.{Commit, Value, blob_value, commit_of, commit_value, tag_value, tree_value}
use Rattle.gx_model.specs.Objects.{IsNamer}
use Rattle.gx_model.specs.Records.{name_of}
use Rattle.gx_model.specs.Export.{is_reached}
use Rattle.gx_model.specs.Histories.{History, IsIn, Records, Target}
use Rattle.gx_model.specs.Laws.RangeLaws.{is_excluded}
use Rattle.gx_model.specs.Replay.{peeled_at}
use Rattle.gx_model.specs.Records.HistoryOf.{commit_of_value, history_of, value_of_name}
use Rattle.gx_model.specs.Revisions.Ranges.{Word, WordFault, listed, listing, reaches, span, with_ancestors, words_denoted}
use Rattle.gx_model.specs.Records.RecordFaults.{is_held}
use Rattle.gx_model.specs.Revisions.{RangeWord}
use Rattle.gx_model.specs.Records.Sound.{IsSound}
use Rattle.gx_object.specs.declared.name.Name.{Name}
use Rattle.gx_rev.specs.Objects.{IsHeldAs, commit_at}
use Rattle.gx_rev.specs.Walking.{is_included}
use Rattle.gx_model.proofs.Records.HeldValues.{commit_stands, held_is, kind_held, value_held}
use Rattle.gx_print.specs.Logs.{commits_logged, limited, skipped, turned, with_refs, words_of_refs}
use Rattle.gx_print.specs.Stored.{commits_listed}

-- ---- what holds of all elements of a list

module _ {X : Type 0} (P : X → Type 0) where
  all_put : (b : Bool) (x : X) (xs : List X) → P x → AllByRecursion P xs → AllByRecursion P (cond b (x ∷ xs) xs)
  all_put true x xs h k = (h, k)
  all_put false x xs h k = k

  all_filtered : (test : X → Bool) (xs : List X) → AllByRecursion P xs → AllByRecursion P (filter test xs)
  all_filtered test [] h = tt
  all_filtered test (x ∷ xs) h = all_put (test x) x (filter test xs) h.0 (all_filtered test xs h.1)

  all_joined : (xs ys : List X) → AllByRecursion P xs → AllByRecursion P ys → AllByRecursion P (xs ++ ys)
  all_joined [] ys h k = k
  all_joined (x ∷ xs) ys h k = (h.0, all_joined xs ys h.1 k)

  all_reversed : (xs : List X) → AllByRecursion P xs → AllByRecursion P (reverse xs)
  all_reversed [] h = tt
  all_reversed (x ∷ xs) h = subst (AllByRecursion P) (sym (reverse-append (x ∷ []) xs)) (all_joined (reverse xs) (x ∷ []) (all_reversed xs h.1) (h.0, tt))

  all_taken : (n : ℕ) (xs : List X) → AllByRecursion P xs → AllByRecursion P (take n xs)
  all_taken zero [] h = tt
  all_taken zero (x ∷ xs) h = tt
  all_taken (suc n) [] h = tt
  all_taken (suc n) (x ∷ xs) h = (h.0, all_taken n xs h.1)

  all_dropped : (n : ℕ) (xs : List X) → AllByRecursion P xs → AllByRecursion P (drop n xs)
  all_dropped zero xs h = h
  all_dropped (suc n) [] h = tt
  all_dropped (suc n) (x ∷ xs) h = all_dropped n xs h.1

  -- what holds of all holds of those that aren't passed over
  pub all_skipped : (skip : Option ℕ) (xs : List X) → AllByRecursion P xs → AllByRecursion P (skipped skip xs)
  all_skipped None xs h = h
  all_skipped (Some n) xs h = all_dropped n xs h

  -- what holds of all holds of those that are kept, in either order
  pub all_arranged : (backwards : Bool) (most : Option ℕ) (xs : List X) → AllByRecursion P xs → AllByRecursion P (turned backwards (limited most xs))
  all_arranged true None xs h = all_reversed xs h
  all_arranged false None xs h = h
  all_arranged true (Some n) xs h = all_reversed (take n xs) (all_taken n xs h)
  all_arranged false (Some n) xs h = all_taken n xs h

module _ {X Y : Type 0} (f : X → Y) where
  map-reverse : (xs : List X) → map f (reverse xs) ≡ reverse (map f xs)
  map-reverse [] = refl
  map-reverse (x ∷ xs) =
      ap (map f) (reverse-append (x ∷ []) xs) ∙ map-append f (reverse xs) (x ∷ []) ∙ ap (λ ys. ys ++ f x ∷ []) (map-reverse xs) ∙ sym (reverse-append (f x ∷ []) (map f xs))

  -- those that are kept of what each gives
  pub map_arranged : (backwards : Bool) (most : Option ℕ) (xs : List X) → map f (turned backwards (limited most xs)) ≡ turned backwards (limited most (map f xs))
  map_arranged true None xs = map-reverse xs
  map_arranged false None xs = refl
  map_arranged true (Some n) xs = map-reverse (take n xs) ∙ ap reverse (sym (take-map f n xs))
  map_arranged false (Some n) xs = sym (take-map f n xs)

  -- those that aren't passed over
  pub map_skipped : (skip : Option ℕ) (xs : List X) → map f (skipped skip xs) ≡ skipped skip (map f xs)
  map_skipped None xs = refl
  map_skipped (Some n) xs = sym (drop-map f n xs)

-- ---- listed commits stand in the history

all_in : (us vs : List Value) → ((v : Value) → IsIn us v → IsIn vs v) → AllByRecursion (IsIn vs) us
all_in [] vs k = tt
all_in (u ∷ us) vs k = (k u (inl refl), all_in us vs (λ v i. k v (inr i)))

commits_in : (Known : Value → Type 0) (vs : List Value) → AllByRecursion Known vs → AllByRecursion (λ c. Known (commit_value c)) (filter_map commit_of vs)
commits_in Known [] h = tt
commits_in Known (blob_value x ∷ vs) h = commits_in Known vs h.1
commits_in Known (tree_value f ∷ vs) h = commits_in Known vs h.1
commits_in Known (commit_value c ∷ vs) h = (h.0, commits_in Known vs h.1)
commits_in Known (tag_value t ∷ vs) h = commits_in Known vs h.1

listed_stand : (h : History) (ws : List Word) → AllByRecursion (λ c. IsIn h.values (commit_value c)) (listing h ws)
listed_stand h ws =
    let Stands = λ (c : Commit). IsIn h.values (commit_value c) in
    all_filtered Stands _ (reverse (filter_map commit_of h.values)) (all_reversed Stands (filter_map commit_of h.values) (commits_in (IsIn h.values) h.values (all_in h.values h.values (λ v i. i))))

module _ (name : Kind → Bytes → Bytes) (namer : IsNamer name) (r : Records) (sound : IsSound name r) where
  -- names of commits of the history are held, and give the commits
  names_tell : (ns : List Name) (cs : List Commit) → AllByRecursion (λ c. IsIn (history_of r).values (commit_value c)) cs → map (λ c. name_of name (commit_value c)) cs ≡ map (λ n. n.bytes) ns
      → AllByRecursion (IsHeldAs kind.Commit r) ns × (map (commit_at r) ns ≡ cs)
  names_tell [] [] h e = (tt, refl)
  names_tell [] (c ∷ cs) h e = absurd (cc e)
  names_tell (n ∷ ns) [] h e = absurd (cc e)
  names_tell (n ∷ ns) (c ∷ cs) h e =
      let first : n.bytes ≡ name_of name (commit_value c) = cc e in
      let others : map (λ d. name_of name (commit_value d)) cs ≡ map (λ m. m.bytes) ns = cc e in
      let held = value_held name namer r sound kind.Commit (commit_value c) n.bytes h.0 refl first in
      let rest = names_tell ns cs h.1 others in
      let same : commit_at r n ≡ c = (let v = held.1 in commit_same r n c v) in
      ((held.0, rest.0), λ i. same i ∷ rest.1 i)
    where
      commit_same : (r : Records) (n : Name) (c : Commit) → value_of_name r.records n.bytes ≡ commit_value c → commit_at r n ≡ c
      commit_same r n c v = ap commit_of_value v

  -- the names that marks list are those of held commits
  pub logged_held : (refs : Bool) (ws : List RangeWord) (xs : List Word) (ns : List Name) → words_denoted name (history_of r) ws ≡ Ok xs
      → map (λ n. n.bytes) ns ≡ map (λ c. name_of name (commit_value c)) (listing (history_of r) (with_refs refs (history_of r) xs))
      → AllByRecursion (IsHeldAs kind.Commit r) ns × (commits_logged name (history_of r) refs ws ≡ Ok (map (commit_at r) ns))
  logged_held refs ws xs ns k e =
      let all = with_refs refs (history_of r) xs in
      let told = names_tell ns (listing (history_of r) all) (listed_stand (history_of r) all) (sym e) in
      (told.0, ap (λ d. d >>= λ ys. Ok (listing (history_of r) (with_refs refs (history_of r) ys))) k ∙ ap Ok (sym told.1))

  -- a held commit's own name
  pub commit_called : (n : Bytes) → IsTrue (is_held r.records kind.Commit n) → n ≡ name_of name (commit_value (commit_of_value (value_of_name r.records n)))
  commit_called n h =
      sym (held_is name namer r sound n (kind_held name namer r sound kind.Commit n h).0).named ∙ ap (name_of name) (commit_stands name namer r sound n h).0

module _ (name : Kind → Bytes → Bytes) (h : History) where
  -- what is refused by its names is refused
  pub listed_fails : (ws : List RangeWord) (f : WordFault) → listed name h ws ≡ Err f → commits_listed name h ws ≡ Err f
  unfolding listed
  listed_fails ws f e = by (words_denoted name h ws) refl e
    where
      by : (d : Result (List Word) WordFault) → words_denoted name h ws ≡ d → (d >>= λ xs. Ok (map (λ c. name_of name (commit_value c)) (listing h xs))) ≡ Err f → commits_listed name h ws ≡ Err f
      by (Ok xs) k l = absurd (cc l)
      by (Err g) k l = let same : g ≡ f = cc l in ap (λ d. d >>= λ ys. Ok (listing h ys)) k ∙ ap Err same

  -- what is refused by its names is refused where refs are listed, too
  pub logged_fails : (refs : Bool) (ws : List RangeWord) (f : WordFault) → listed name h ws ≡ Err f → commits_logged name h refs ws ≡ Err f
  unfolding listed
  logged_fails refs ws f e = by (words_denoted name h ws) refl e
    where
      by : (d : Result (List Word) WordFault) → words_denoted name h ws ≡ d → (d >>= λ xs. Ok (map (λ c. name_of name (commit_value c)) (listing h xs))) ≡ Err f → commits_logged name h refs ws ≡ Err f
      by (Ok xs) k l = absurd (cc l)
      by (Err g) k l = let same : g ≡ f = cc l in ap (λ d. d >>= λ ys. Ok (listing h (with_refs refs h ys))) k ∙ ap Err same

-- ---- the words of all refs, by what they include and exclude

or_false : (b b' : Bool) → (b || (false && b')) ≡ b
or_false true b' = refl
or_false false b' = refl

or_nothing : (b : Bool) → (b || false) ≡ b
or_nothing true = refl
or_nothing false = refl

refs_included : (c : Commit) (refs : List (Bytes × Target)) → list_any (λ w. (span w).included c) (map (λ ref. with_ancestors (peeled_at ref.1)) refs) ≡ is_reached refs c
refs_included c [] = refl
refs_included c (x ∷ refs) = ap (λ b. reaches (peeled_at x.1) c || b) (refs_included c refs)

refs_excluded : (c : Commit) (refs : List (Bytes × Target)) → list_any (λ w. (span w).excluded c) (map (λ ref. with_ancestors (peeled_at ref.1)) refs) ≡ false
refs_excluded c [] = refl
refs_excluded c (x ∷ refs) = refs_excluded c refs

-- what words include, and the refs where they are listed, too
included_with : (h : History) (c : Commit) (refs : Bool) (xs : List Word) → (is_included xs c || (refs && is_reached h.refs c)) ≡ is_included (with_refs refs h xs) c
included_with h c true xs = sym (list_any-append (λ w. (span w).included c) xs (words_of_refs h) ∙ ap (λ b. is_included xs c || b) (refs_included c h.refs))
included_with h c false xs = or_false (is_included xs c) (is_reached h.refs c)

excluded_with : (h : History) (c : Commit) (refs : Bool) (xs : List Word) → is_excluded xs c ≡ is_excluded (with_refs refs h xs) c
excluded_with h c true xs = sym (list_any-append (λ w. (span w).excluded c) xs (words_of_refs h) ∙ ap (λ b. is_excluded xs c || b) (refs_excluded c h.refs) ∙ or_nothing (is_excluded xs c))
excluded_with h c false xs = refl

-- the commits that are included and not excluded, by their marks
pub listing_with : (h : History) (refs : Bool) (xs : List Word) → filter (λ c. (is_included xs c || (refs && is_reached h.refs c)) && not (is_excluded xs c)) (reverse (filter_map commit_of h.values)) ≡ listing h (with_refs refs h xs)
listing_with h refs xs = λ i. filter (λ c. included_with h c refs xs i && not (excluded_with h c refs xs i)) (reverse (filter_map commit_of h.values))
