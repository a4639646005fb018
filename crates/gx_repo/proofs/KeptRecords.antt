-- The history of a repository with the records alone that its refs or the objects of some names reach.
use Rattle.std.proofs.Common.{◌≡◌, Bool, true, false, cond, refl, sym, ap, subst, ◌∙◌, List, [], ◌∷◌, ◌++◌, append-nil, map, inl, inr}
use Rattle.std.specs.Prelude.{T, ◌||◌, ◌&&◌, IsTrue}
use Rattle.std.specs.List.{AllByRecursion, filter, list_any}
use Rattle.std.specs.Bool.{passes}
use Rattle.std.proofs.lemmas.Bool.{false≢true}
use Rattle.std.proofs.lemmas.List.Elements.{filter-append}
use Rattle.gx_model.specs.declared.objects.Kind.{Kind}
use Rattle.gx_model.specs.Texts.{Bytes, same_bytes}
use Rattle.gx_model.specs.Histories.Values.{Value, is_proper, parts}
use Rattle.gx_model.specs.Histories.{AreDistinct, History, IsClosedAfter, IsIn, Reaches, Record, Records, StandsFor, Target, is_in, itself, record_of, through, value_at}
use Rattle.gx_model.specs.Laws.ExportLaws.{IsReached}
use Rattle.gx_model.specs.Objects.{IsNamer}
use Rattle.gx_model.specs.Pruning.{is_reachable, is_tip, links_to, pruned}
use Rattle.gx_model.specs.Records.{name_of}
use Rattle.gx_model.specs.Records.HistoryOf.{history_of}
use Rattle.gx_model.specs.Records.Publishing.{Ref}
use Rattle.gx_model.specs.Records.Sound.{IsSound}
use Rattle.gx_model.proofs.Export.KeptCommits.{all_in}
use Rattle.gx_model.proofs.Histories.AddedValues.{is_in_is}
use Rattle.gx_model.proofs.Pruning.PrunedHistories.{passing, reached_in, reached_names, was_there}
use Rattle.gx_model.proofs.Pruning.ReachableObjects.{parts_reached, tip_held, tip_named, tip_reached}
use Rattle.gx_model.proofs.Records.GrownRecords.{distinct_of, is_is_in, whole_of}
use Rattle.gx_model.proofs.Records.HistoriesAreSound.{sound}
use Rattle.gx_model.proofs.Records.HistoriesExist.{stands}
use Rattle.gx_model.proofs.Records.LinkedValues.{parts_in}
use Rattle.gx_model.proofs.Records.OneHistory.{one_history}
use Rattle.gx_model.proofs.Texts.PathTests.{all_filter, both, first, is_true, left_or, one_of, right_or, second}
use Rattle.gx_repo.specs.Pruning.{is_kept_beside, pruned_beside, tips_of}

-- ---- what passes a test

not_there : (test : Value → Bool) (vs : List Value) (v : Value) → is_in vs v ≡ false → is_in (filter test vs) v ≡ false
not_there test vs v e = by (is_in (filter test vs) v) refl where
  by : (b : Bool) → is_in (filter test vs) v ≡ b → b ≡ false
  by true k = absurd (false≢true (sym e ∙ is_is_in vs v (was_there test vs v (is_in_is (filter test vs) v (passes _ k)))))
  by false k = refl

-- values with their parts, where the parts of those that pass do
closed_left : (test : Value → Bool) (before vs : List Value) → IsClosedAfter before vs → ((v : Value) → IsIn vs v → T (test v) → AllByRecursion (λ p. T (test p)) (parts v)) → IsClosedAfter (filter test before) (filter test vs)
closed_left test before [] c f = tt
closed_left test before (v ∷ vs) c f = by (test v) refl (subst (λ b. IsClosedAfter b (filter test vs)) (filter-append test before (v ∷ [])) (closed_left test (before ++ v ∷ []) vs c.2 (λ w i. f w (inr i)))) where
  parts_left : (ps : List Value) → AllByRecursion (IsIn before) ps → AllByRecursion (λ p. T (test p)) ps → AllByRecursion (IsIn (filter test before)) ps
  parts_left [] h k = tt
  parts_left (p ∷ ps) h k = (passing test before p h.0 k.0, parts_left ps h.1 k.1)

  by : (b : Bool) → test v ≡ b → IsClosedAfter (filter test before ++ cond b (v ∷ []) []) (filter test vs) → IsClosedAfter (filter test before) (cond b (v ∷ filter test vs) (filter test vs))
  by true e r = (not_there test before v c.0, parts_left (parts v) c.1 (f v (inl refl) (subst T (sym e) tt)), r)
  by false e r = subst (λ b. IsClosedAfter b (filter test vs)) (append-nil (filter test before)) r

fewer_names : (test : Record → Bool) (n : Bytes) (rs : List Record) → list_any (same_bytes n) (map (λ r. r.name) rs) ≡ false → list_any (same_bytes n) (map (λ r. r.name) (filter test rs)) ≡ false
fewer_names test n [] e = refl
fewer_names test n (r ∷ rs) e = by (same_bytes n r.name) refl (test r) e (fewer_names test n rs) where
  by : (b : Bool) → same_bytes n r.name ≡ b → (t : Bool) → (b || list_any (same_bytes n) (map (λ r. r.name) rs)) ≡ false
      → (list_any (same_bytes n) (map (λ r. r.name) rs) ≡ false → list_any (same_bytes n) (map (λ r. r.name) (filter test rs)) ≡ false)
      → list_any (same_bytes n) (map (λ r. r.name) (cond t (r ∷ filter test rs) (filter test rs))) ≡ false
  by true k t m again = absurd (false≢true (sym m))
  by false k true m again = ap (λ b. b || list_any (same_bytes n) (map (λ r. r.name) (filter test rs))) k ∙ again m
  by false k false m again = again m

distinct_left : (test : Record → Bool) (rs : List Record) → AreDistinct (map (λ r. r.name) rs) → AreDistinct (map (λ r. r.name) (filter test rs))
distinct_left test [] d = tt
distinct_left test (r ∷ rs) d = by (test r) (distinct_left test rs d.1) where
  by : (b : Bool) → AreDistinct (map (λ r. r.name) (filter test rs)) → AreDistinct (map (λ r. r.name) (cond b (r ∷ filter test rs) (filter test rs)))
  by true k = (fewer_names test r.name rs d.0, k)
  by false k = k

-- ---- more tips

-- refs and more refs hold what either hold
pub tip_more : (refs more : List Ref) (n : Bytes) → is_tip (refs ++ more) n ≡ (is_tip refs n || is_tip more n)
tip_more [] more n = refl
tip_more (q ∷ refs) more n = ap (λ b. same_bytes n q.1 || b) (tip_more refs more n) ∙ by (same_bytes n q.1) where
  by : (b : Bool) → (b || (is_tip refs n || is_tip more n)) ≡ ((b || is_tip refs n) || is_tip more n)
  by true = refl
  by false = refl

-- what refs reach more refs reach, too
reach_more : (refs more : List Ref) (rs : List Record) (n : Bytes) → T (is_reachable refs rs n) → T (is_reachable (refs ++ more) rs n)
reach_more refs more [] n h = subst T (sym (tip_more refs more n)) (left_or (is_tip refs n) _ h)
reach_more refs more (r ∷ rs) n h =
    one_of (is_reachable refs rs n) (is_reachable refs rs r.name && links_to r n) h
    (λ k. left_or (is_reachable (refs ++ more) rs n) _ (reach_more refs more rs n k))
    (λ k. right_or (is_reachable (refs ++ more) rs n) _
    (both _ _ (reach_more refs more rs r.name (first (is_reachable refs rs r.name) _ k)) (second (is_reachable refs rs r.name) (links_to r n) k)))

tip_among : (names : List Bytes) (n : Bytes) → T (list_any (same_bytes n) names) → T (is_tip (tips_of names) n)
tip_among [] n h = h
tip_among (m ∷ names) n h = one_of (same_bytes n m) (list_any (same_bytes n) names) h (left_or (same_bytes n m) _) (λ k. right_or (same_bytes n m) _ (tip_among names n k))

-- besides no names it is what refs reach
pub beside_none : (r : Records) → pruned_beside [] r ≡ pruned r
unfolding pruned_beside pruned
beside_none r = ap (λ refs. record { records = filter (λ held. is_reachable refs r.records held.name) r.records; refs = r.refs }) (append-nil r.refs)

module _ (name : Kind → Bytes → Bytes) (namer : IsNamer name) where
  records_left : (test : Record → Bool) (vs : List Value) → filter test (map (record_of name) vs) ≡ map (record_of name) (filter (λ v. test (record_of name v)) vs)
  records_left test [] = refl
  records_left test (v ∷ vs) = by (test (record_of name v)) (records_left test vs) where
    by : (b : Bool) → filter test (map (record_of name) vs) ≡ map (record_of name) (filter (λ v. test (record_of name v)) vs)
        → cond b (record_of name v ∷ filter test (map (record_of name) vs)) (filter test (map (record_of name) vs)) ≡ map (record_of name) (cond b (v ∷ filter (λ v. test (record_of name v)) vs) (filter (λ v. test (record_of name v)) vs))
    by true e = ap (λ rs. record_of name v ∷ rs) e
    by false e = e

  module _ (names : List Bytes) (r : Records) (s : IsSound name r) where
    abbrev h : History
    h = history_of r

    abbrev tips : List Ref
    tips = r.refs ++ tips_of names

    -- whether refs or the objects of these names reach the record of a value
    abbrev pub keeps : Value → Bool
    keeps v = is_kept_beside names r (name_of name v)

    at_values : (n : Bytes) → is_reachable tips r.records n ≡ is_reachable tips (map (record_of name) h.values) n
    at_values n = ap (λ rs. is_reachable tips rs n) (stands name namer r s).records

    -- what a kept value has is kept
    pub parts_kept : (v : Value) → IsIn h.values v → T (keeps v) → AllByRecursion (λ p. T (keeps p)) (parts v)
    parts_kept v i k =
        let t = stands name namer r s in
        back (parts v) (parts_reached name namer tips h.values (whole_of name namer h t.history) (distinct_of name namer r h t) v i (subst T (at_values (name_of name v)) k))
      where
        back : (ps : List Value) → AllByRecursion (λ p. T (is_reachable tips (map (record_of name) h.values) (name_of name p))) ps → AllByRecursion (λ p. T (keeps p)) ps
        back [] q = tt
        back (p ∷ ps) q = (subst T (sym (at_values (name_of name p))) q.0, back ps q.1)

    -- and so is what it reaches
    reach_kept : (u v : Value) → Reaches u v → IsIn h.values u → T (keeps u) → IsIn h.values v × T (keeps v)
    reach_kept u v (itself _) i k = (i, k)
    reach_kept u v (through _ w j q) i k =
        let t = stands name namer r s in
        reach_kept w v q (all_in (IsIn h.values) (parts u) w (parts_in h.values u (whole_of name namer h t.history) i) j) (all_in (λ p. T (keeps p)) (parts u) w (parts_kept u i k) j)

    -- the history with what is kept alone
    abbrev pub left : History
    left = record { values = filter keeps h.values; refs = h.refs }

    tips_kept : AllByRecursion (λ ref. IsIn (filter keeps h.values) (value_at ref.1)) h.refs
    tips_kept = by h.refs (λ w i. i)
      where
        t : StandsFor name r h
        t = stands name namer r s

        at : (w : Value) → IsIn (map (λ ref. value_at ref.1) h.refs) w → IsIn (filter keeps h.values) w
        at w i =
            passing keeps h.values w (tip_held name namer h.values h.refs t.history.held w i)
            (reach_more r.refs (tips_of names) r.records (name_of name w) (tip_reached r.refs r.records (name_of name w) (subst (λ refs. T (is_tip refs (name_of name w))) (sym t.refs) (tip_named name namer h.refs w i))))

        by : (qs : List (Bytes × Target)) → ((w : Value) → IsIn (map (λ ref. value_at ref.1) qs) w → IsIn (map (λ ref. value_at ref.1) h.refs) w) → AllByRecursion (λ ref. IsIn (filter keeps h.values) (value_at ref.1)) qs
        by [] f = tt
        by (q ∷ qs) f = (at (value_at q.1) (f (value_at q.1) (inl refl)), by qs (λ w i. f w (inr i)))

    kept_stands : StandsFor name (pruned_beside names r) left
    unfolding pruned_beside
    kept_stands =
        let t = stands name namer r s in
        record {
          history = record {
            proper = is_true _ (all_filter is_proper keeps h.values (passes _ t.history.proper));
            closed = closed_left keeps [] h.values t.history.closed parts_kept;
            sorted = t.history.sorted;
            ref_names = t.history.ref_names;
            held = tips_kept;
            own = t.history.own;
          };
          records = ap (filter (λ held. is_kept_beside names r held.name)) t.records ∙ records_left (λ held. is_kept_beside names r held.name) h.values;
          distinct = distinct_left (λ held. is_kept_beside names r held.name) r.records t.distinct;
          refs = t.refs;
        }

    -- what is left is sound
    pub kept_sound : IsSound name (pruned_beside names r)
    kept_sound = sound name namer (pruned_beside names r) left kept_stands

    -- and has the kept values alone, in their order, under the same refs
    pub kept_history : left ≡ history_of (pruned_beside names r)
    kept_history = one_history name namer (pruned_beside names r) left (history_of (pruned_beside names r)) kept_stands (stands name namer (pruned_beside names r) kept_sound)

    in_left : (v : Value) → IsIn h.values v × T (keeps v) → IsIn (history_of (pruned_beside names r)).values v
    in_left v k = subst (λ x. IsIn x.values v) kept_history (passing keeps h.values v k.0 k.1)

    -- nothing is lost that refs reach
    pub reached_kept : (v : Value) → IsReached h v → IsIn (history_of (pruned_beside names r)).values v
    reached_kept v q =
        let i = reached_in name namer r s v q in
        in_left v (i, reach_more r.refs (tips_of names) r.records (name_of name v) ((reached_names name namer r s v i).1 q))

    -- nor what one of these names is that of, with all that it reaches
    pub named_kept : (u v : Value) → IsIn h.values u → IsTrue (list_any (same_bytes (name_of name u)) names) → Reaches u v → IsIn (history_of (pruned_beside names r)).values v
    named_kept u v i k q =
        let n = name_of name u in
        in_left v (reach_kept u v q i (tip_reached tips r.records n (subst T (sym (tip_more r.refs (tips_of names) n)) (right_or (is_tip r.refs n) _ (tip_among names n (passes _ k))))))
