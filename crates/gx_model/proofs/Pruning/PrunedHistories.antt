-- The history of a repository with the records alone that its refs reach.
use Rattle.std.proofs.Common.{◌≡◌, Bool, true, false, cond, refl, sym, ap, subst, ◌∙◌, List, [], ◌∷◌, ◌++◌, map, inl, inr}
use Rattle.std.specs.Prelude.{T, ◌||◌, ◌↔◌, ◌⊎◌, IsTrue}
use Rattle.std.specs.List.{AllByRecursion, filter, list_any}
use Rattle.std.specs.Bool.{passes}
use Rattle.std.proofs.lemmas.Bool.{false≢true}
use Rattle.std.proofs.lemmas.List.Elements.{filter-append}
use Rattle.gx_model.specs.declared.objects.Kind.{Kind}
use Rattle.gx_model.specs.Texts.{Bytes, same_bytes}
use Rattle.gx_model.specs.Histories.Values.{Value, is_proper, parts}
use Rattle.gx_model.specs.Histories.{AreDistinct, History, IsClosedAfter, IsIn, Record, Records, StandsFor, Target, is_in, record_of, value_at}
use Rattle.gx_model.specs.Laws.ExportLaws.{IsReached}
use Rattle.gx_model.specs.Laws.PruningLaws.{AreThose, IsPruned, LinksHave}
use Rattle.gx_model.specs.Objects.{IsNamer}
use Rattle.gx_model.specs.Pruning.{is_kept, is_reachable, pruned}
use Rattle.gx_model.specs.Records.{name_of}
use Rattle.gx_model.specs.Records.HistoryOf.{history_of}
use Rattle.gx_model.specs.Records.Sound.{AnyByRecursion, IsSound}
use Rattle.gx_model.proofs.Histories.AddedValues.{is_in_is}
use Rattle.gx_model.proofs.Records.GrownRecords.{distinct_of, is_is_in, whole_of}
use Rattle.gx_model.proofs.Records.HistoriesAreSound.{sound}
use Rattle.gx_model.proofs.Records.HistoriesExist.{stands}
use Rattle.gx_model.proofs.Export.KeptCommits.{reached_held as reached_stands, any_from}
use Rattle.gx_model.proofs.Records.OneHistory.{one_history}
use Rattle.gx_model.proofs.Texts.PathTests.{all_filter, is_true}
use Rattle.gx_model.proofs.Pruning.ReachableObjects.{links_reached, name_reached, named_refs, parts_reached, tip_held, tip_named, tip_reached, value_reached}
use Rattle.gx_model.proofs.ObjectTexts.TreePaths.{some_unrecord}

-- ---- what passes a test

pub passing : (test : Value → Bool) (vs : List Value) (v : Value) → IsIn vs v → T (test v) → IsIn (filter test vs) v
passing test [] v i h = absurd i
passing test (w ∷ vs) v i h = by (test w) refl i (λ k. passing test vs v k h) where
  by : (b : Bool) → test w ≡ b → (w ≡ v) ⊎ IsIn vs v → (IsIn vs v → IsIn (filter test vs) v) → IsIn (cond b (w ∷ filter test vs) (filter test vs)) v
  by true e k again = elim k [ inl s ↦ inl s | inr j ↦ inr (again j) ]
  by false e k again = elim k [ inl s ↦ absurd (subst T (sym (ap test s) ∙ e) h) | inr j ↦ again j ]

pub was_there : (test : Value → Bool) (vs : List Value) (v : Value) → IsIn (filter test vs) v → IsIn vs v
was_there test [] v i = absurd i
was_there test (w ∷ vs) v i = by (test w) i (was_there test vs v) where
  by : (b : Bool) → IsIn (cond b (w ∷ filter test vs) (filter test vs)) v → (IsIn (filter test vs) v → IsIn vs v) → (w ≡ v) ⊎ IsIn vs v
  by true k again = elim k [ inl s ↦ inl s | inr j ↦ inr (again j) ]
  by false k again = inr (again k)

-- those that pass are those that have the property
are_those : (P : Value → Type 0) (test : Value → Bool) (vs : List Value) → ((v : Value) → IsIn vs v → T (test v) ↔ P v) → AreThose P vs (filter test vs)
are_those P test [] f = refl
are_those P test (v ∷ vs) f = by (test v) refl (are_those P test vs (λ w i. f w (inr i))) where
  by : (b : Bool) → test v ≡ b → AreThose P vs (filter test vs) → AreThose P (v ∷ vs) (cond b (v ∷ filter test vs) (filter test vs))
  by true e r = inl ((f v (inl refl)).0 (subst T (sym e) tt), (filter test vs, refl, r))
  by false e r = inr (λ p. subst T e ((f v (inl refl)).1 p), r)

not_there : (test : Value → Bool) (vs : List Value) (v : Value) → is_in vs v ≡ false → is_in (filter test vs) v ≡ false
not_there test vs v e = by (is_in (filter test vs) v) refl where
  by : (b : Bool) → is_in (filter test vs) v ≡ b → b ≡ false
  by true k = absurd (false≢true (sym e ∙ is_is_in vs v (was_there test vs v (is_in_is (filter test vs) v (passes _ k)))))
  by false k = refl

-- values with their parts, where the parts of those that pass do
closed_left : (test : Value → Bool) (before vs : List Value) → IsClosedAfter before vs → ((v : Value) → IsIn vs v → T (test v) → AllByRecursion (λ p. T (test p)) (parts v)) → IsClosedAfter (filter test before) (filter test vs)
closed_left test before [] c f = tt
closed_left test before (v ∷ vs) c f = by (test v) refl (subst (λ b. IsClosedAfter b (filter test vs)) (filter-append test before (v ∷ [])) (closed_left test (before ++ v ∷ []) vs c.2 (λ w i. f w (inr i)))) where
  parts_left : (ps : List Value) → AllByRecursion (IsIn before) ps → AllByRecursion (λ p. T (test p)) ps → AllByRecursion (IsIn (filter test before)) ps
  parts_left [] h k = tt
  parts_left (p ∷ ps) h k = (passing test before p h.0 k.0, parts_left ps h.1 k.1)

  by : (b : Bool) → test v ≡ b → IsClosedAfter (filter test before ++ cond b (v ∷ []) []) (filter test vs) → IsClosedAfter (filter test before) (cond b (v ∷ filter test vs) (filter test vs))
  by true e r = (not_there test before v c.0, parts_left (parts v) c.1 (f v (inl refl) (subst T (sym e) tt)), r)
  by false e r = subst (λ b. IsClosedAfter b (filter test vs)) (nil_right (filter test before)) r
    where
      nil_right : (us : List Value) → us ++ [] ≡ us
      nil_right [] = refl
      nil_right (u ∷ us) = ap (λ ws. u ∷ ws) (nil_right us)

fewer_names : (test : Record → Bool) (n : Bytes) (qs : List Record) → list_any (same_bytes n) (map (λ q. q.name) qs) ≡ false → list_any (same_bytes n) (map (λ q. q.name) (filter test qs)) ≡ false
fewer_names test n [] e = refl
fewer_names test n (q ∷ qs) e = split (same_bytes n q.name) refl e (fewer_names test n qs) where
  kept : (b : Bool) → same_bytes n q.name ≡ false → list_any (same_bytes n) (map (λ q. q.name) (filter test qs)) ≡ false → list_any (same_bytes n) (map (λ q. q.name) (cond b (q ∷ filter test qs) (filter test qs))) ≡ false
  kept true k m = ap (λ b. b || list_any (same_bytes n) (map (λ q. q.name) (filter test qs))) k ∙ m
  kept false k m = m

  split : (b : Bool) → same_bytes n q.name ≡ b → (b || list_any (same_bytes n) (map (λ q. q.name) qs)) ≡ false → (list_any (same_bytes n) (map (λ q. q.name) qs) ≡ false → list_any (same_bytes n) (map (λ q. q.name) (filter test qs)) ≡ false)
      → list_any (same_bytes n) (map (λ q. q.name) (cond (test q) (q ∷ filter test qs) (filter test qs))) ≡ false
  split true k m again = absurd (false≢true (sym m))
  split false k m again = kept (test q) k (again m)

distinct_left : (test : Record → Bool) (rs : List Record) → AreDistinct (map (λ r. r.name) rs) → AreDistinct (map (λ r. r.name) (filter test rs))
distinct_left test [] d = tt
distinct_left test (r ∷ rs) d = by (test r) (distinct_left test rs d.1) where
  by : (b : Bool) → AreDistinct (map (λ q. q.name) (filter test rs)) → AreDistinct (map (λ q. q.name) (cond b (r ∷ filter test rs) (filter test rs)))
  by true k = (fewer_names test r.name rs d.0, k)
  by false k = k

module _ (name : Kind → Bytes → Bytes) (namer : IsNamer name) where
  records_left : (test : Record → Bool) (vs : List Value) → filter test (map (record_of name) vs) ≡ map (record_of name) (filter (λ v. test (record_of name v)) vs)
  records_left test [] = refl
  records_left test (v ∷ vs) = by (test (record_of name v)) (records_left test vs) where
    by : (b : Bool) → filter test (map (record_of name) vs) ≡ map (record_of name) (filter (λ v. test (record_of name v)) vs)
        → cond b (record_of name v ∷ filter test (map (record_of name) vs)) (filter test (map (record_of name) vs)) ≡ map (record_of name) (cond b (v ∷ filter (λ v. test (record_of name v)) vs) (filter (λ v. test (record_of name v)) vs))
    by true e = ap (λ rs. record_of name v ∷ rs) e
    by false e = e

  module _ (r : Records) (s : IsSound name r) where
    abbrev h : History
    h = history_of r

    -- whether refs reach the record of a value
    abbrev pub keeps : Value → Bool
    keeps v = is_reachable r.refs r.records (name_of name v)

    at_values : (n : Bytes) → is_reachable r.refs r.records n ≡ is_reachable (named_refs name namer h.refs) (map (record_of name) h.values) n
    at_values n = let t = stands name namer r s in λ i. is_reachable (t.refs i) (t.records i) n

    pub reached_names : (v : Value) → IsIn h.values v → T (keeps v) ↔ IsReached h v
    reached_names v i =
        let t = stands name namer r s in
        let w = whole_of name namer h t.history in
        let d = distinct_of name namer r h t in (
          λ k. value_reached name namer h.values w d h.refs t.history.held h.values (λ u j. j) (name_of name v) (subst T (at_values (name_of name v)) k) v i refl,
          λ k. subst T (sym (at_values (name_of name v))) (name_reached name namer h.values w d h.refs t.history.held v k),
        )

    parts_kept : (v : Value) → IsIn h.values v → T (keeps v) → AllByRecursion (λ p. T (keeps p)) (parts v)
    parts_kept v i k =
        let t = stands name namer r s in
        back (parts v) (parts_reached name namer (named_refs name namer h.refs) h.values (whole_of name namer h t.history) (distinct_of name namer r h t) v i (subst T (at_values (name_of name v)) k))
      where
        back : (ps : List Value) → AllByRecursion (λ p. T (is_reachable (named_refs name namer h.refs) (map (record_of name) h.values) (name_of name p))) ps → AllByRecursion (λ p. T (keeps p)) ps
        back [] q = tt
        back (p ∷ ps) q = (subst T (sym (at_values (name_of name p))) q.0, back ps q.1)

    -- the history with what refs reach alone
    abbrev pub left : History
    left = record { values = filter keeps h.values; refs = h.refs }

    tips_kept : AllByRecursion (λ ref. IsIn (filter keeps h.values) (value_at ref.1)) h.refs
    tips_kept = by h.refs (λ w i. i)
      where
        t : StandsFor name r h
        t = stands name namer r s

        at : (w : Value) → IsIn (map (λ ref. value_at ref.1) h.refs) w → IsIn (filter keeps h.values) w
        at w i =
            passing keeps h.values w (tip_held name namer h.values h.refs t.history.held w i)
            (subst T (sym (at_values (name_of name w))) (tip_reached (named_refs name namer h.refs) (map (record_of name) h.values) (name_of name w) (tip_named name namer h.refs w i)))

        by : (qs : List (Bytes × Target)) → ((w : Value) → IsIn (map (λ ref. value_at ref.1) qs) w → IsIn (map (λ ref. value_at ref.1) h.refs) w) → AllByRecursion (λ ref. IsIn (filter keeps h.values) (value_at ref.1)) qs
        by [] f = tt
        by (q ∷ qs) f = (at (value_at q.1) (f (value_at q.1) (inl refl)), by qs (λ w i. f w (inr i)))

    pub pruned_stands : StandsFor name (pruned r) left
    unfolding pruned
    pruned_stands =
        let t = stands name namer r s in
        record {
          history = record {
            proper = is_true _ (all_filter is_proper keeps h.values (passes _ t.history.proper));
            closed = closed_left keeps [] h.values t.history.closed parts_kept;
            sorted = t.history.sorted;
            ref_names = t.history.ref_names;
            held = tips_kept;
            own = t.history.own;
          };
          records = ap (filter (is_kept r)) t.records ∙ records_left (is_kept r) h.values;
          distinct = distinct_left (is_kept r) r.records t.distinct;
          refs = t.refs;
        }

    -- it is that of the repository with the records alone that refs reach
    pub left_is : left ≡ history_of (pruned r)
    left_is = let t = pruned_stands in one_history name namer (pruned r) left (history_of (pruned r)) t (stands name namer (pruned r) (sound name namer (pruned r) left t))

  pub pruned_sound : (r : Records) → IsSound name r → IsSound name (pruned r)
  pruned_sound r s = sound name namer (pruned r) (left r s) (pruned_stands r s)

  pub pruned_history : (r : Records) → IsSound name r → IsPruned (history_of r) (history_of (pruned r))
  pruned_history r s = subst (IsPruned (history_of r)) (left_is r s) (record { values = are_those (IsReached (history_of r)) (keeps r s) (history_of r).values (reached_names r s); refs = refl })

  pub reached_is : (r : Records) → IsSound name r → (v : Value) → IsIn (history_of r).values v → IsTrue (is_reachable r.refs r.records (name_of name v)) ↔ IsReached (history_of r) v
  reached_is r s v i = let k = reached_names r s v i in (λ t. k.0 (passes _ t), λ q. is_true _ (k.1 q))

  -- what refs reach stands
  pub reached_in : (r : Records) → IsSound name r → (v : Value) → IsReached (history_of r) v → IsIn (history_of r).values v
  reached_in r s v q =
      let t = stands name namer r s in
      let from = any_from (map (λ ref. value_at ref.1) (history_of r).refs) v q in
      reached_stands (history_of r).values (whole_of name namer (history_of r) t.history) from.0 v from.2 (tip_held name namer (history_of r).values (history_of r).refs t.history.held from.0 from.1)

  -- nothing that refs reach is lost
  pub reached_held : (r : Records) → IsSound name r → (v : Value) → IsReached (history_of r) v → IsIn (history_of (pruned r)).values v
  reached_held r s v q =
      let i = reached_in r s v q in
      subst (λ k. IsIn k.values v) (left_is r s) (passing (keeps r s) (history_of r).values v i ((reached_names r s v i).1 q))

  -- what a kept record names is kept
  pub links_are_reached : (r : Records) → IsSound name r → (held : Record) → AnyByRecursion (λ other. other ≡ held) r.records → IsTrue (is_kept r held) → LinksHave (is_reachable r.refs r.records) held
  links_are_reached r s held i k =
      let t = stands name namer r s in
      let v = some_unrecord name (λ other. other ≡ held) (history_of r).values (subst (AnyByRecursion (λ other. other ≡ held)) t.records i) in
      subst (LinksHave (is_reachable r.refs r.records)) v.2
      (back _ (links_reached name namer (named_refs name namer (history_of r).refs) (history_of r).values (whole_of name namer (history_of r) t.history) (distinct_of name namer r (history_of r) t) v.0 v.1
      (subst T (ap (λ x. is_reachable r.refs r.records x.name) (sym v.2) ∙ at_values r s (name_of name v.0)) (passes _ k))))
    where
      back : (ls : List Bytes) → AllByRecursion (λ n. T (is_reachable (named_refs name namer (history_of r).refs) (map (record_of name) (history_of r).values) n)) ls → AllByRecursion (λ n. IsTrue (is_reachable r.refs r.records n)) ls
      back [] q = tt
      back (l ∷ ls) q = (is_true _ (subst T (sym (at_values r s l)) q.0), back ls q.1)
