-- Putting the record of a value is adding the value.
use Rattle.std.proofs.Common.{◌≡◌, Bool, true, false, cond, refl, sym, ap, subst, ◌∙◌, List, [], ◌∷◌, ◌++◌, map, Option, None, Some, inl, inr}
use Rattle.std.specs.Prelude.{T, not, ◌&&◌, ◌||◌, ◌⊎◌, IsTrue}
use Rattle.std.specs.List.{list_any, fold, AllByRecursion}
use Rattle.std.specs.Option.{option_and_then, option_map}
use Rattle.std.specs.Bool.{passes}
use Rattle.std.proofs.lemmas.List.{map-append}
use Rattle.gx_model.specs.declared.objects.Kind.{Kind}
use Rattle.gx_model.specs.declared.objects.Kind.TheVariants as kind
use Rattle.gx_model.specs.Texts.{Bytes, same_bytes}
use Rattle.gx_model.specs.Histories.Values.{Value, parts, is_proper, same_value}
use Rattle.gx_model.specs.Objects.{IsNamer}
use Rattle.gx_model.specs.Records.{kind_of, body_of, name_of}
use Rattle.gx_model.specs.Histories.{IsHistory, Record, Records, AreDistinct, IsIn, is_in, with_one, History, Target, value_at, record_of, StandsFor}
use Rattle.gx_model.specs.Histories.{IsWhole}
use Rattle.gx_model.specs.Records.Sound.{IsSound}
use Rattle.gx_model.specs.Records.HistoryOf.{history_of}
use Rattle.gx_model.specs.Records.Growth.{same_kind, same_object, record_named, put_under, put, put_all, AreReady, clashes, with_values}
use Rattle.gx_model.proofs.Texts.PathTests.{both, first, second, is_true, is_same, same_is}
use Rattle.gx_model.proofs.Histories.SameValues.{value_same}
use Rattle.gx_model.proofs.Histories.AddedValues.{is_in_is, keeps, one_added}
use Rattle.gx_model.proofs.Records.OneHistory.{one_value, told_by_name, no_other, one_history, names_of_records}
use Rattle.gx_model.proofs.Records.LinkedValues.{proper_in, parts_in}
use Rattle.gx_model.proofs.Records.HistoriesExist.{stands}
use Rattle.gx_model.proofs.Records.HistoriesAreSound.{sound}

-- kinds that the test finds equal are one
pub kind_is : (k l : Kind) → T (same_kind k l) → k ≡ l
kind_is kind.Blob kind.Blob h = refl
kind_is kind.Tree kind.Tree h = refl
kind_is kind.Commit kind.Commit h = refl
kind_is kind.Tag kind.Tag h = refl
kind_is _ _ h = absurd h

-- a kind passes the test with itself
pub kind_same : (k : Kind) → T (same_kind k k)
kind_same kind.Blob = tt
kind_same kind.Tree = tt
kind_same kind.Commit = tt
kind_same kind.Tag = tt

-- a value that stands in a list is found there
pub is_is_in : (vs : List Value) (v : Value) → IsIn vs v → is_in vs v ≡ true
is_is_in [] v i = absurd i
is_is_in (w ∷ vs) v i =
    elim i [
      | inl e ↦ ap (λ b. b || is_in vs v) (is_true _ (subst (λ u. T (same_value v u)) (sym e) (value_same v)))
      | inr k ↦ or_true (same_value v w) (is_is_in vs v k)
    ]
  where
    or_true : (b : Bool) → is_in vs v ≡ true → (b || is_in vs v) ≡ true
    or_true true h = refl
    or_true false h = h

-- a name that is new may come last
pub distinct_snoc : (ns : List Bytes) (n : Bytes) → AreDistinct ns → list_any (same_bytes n) ns ≡ false → AreDistinct (ns ++ n ∷ [])
distinct_snoc [] n d h = (refl, tt)
distinct_snoc (m ∷ ns) n d h = (last m ns d.0 (parts_of_or (same_bytes n m) h).0, distinct_snoc ns n d.1 (parts_of_or (same_bytes n m) h).1)
  where
    parts_of_or : (b : Bool) → (b || list_any (same_bytes n) ns) ≡ false → (b ≡ false) × (list_any (same_bytes n) ns ≡ false)
    parts_of_or true k = absurd (cc)
    parts_of_or false k = (refl, k)

    last : (m : Bytes) (xs : List Bytes) → list_any (same_bytes m) xs ≡ false → same_bytes n m ≡ false → list_any (same_bytes m) (xs ++ n ∷ []) ≡ false
    last m [] a k = by (same_bytes m n) refl
      where
        by : (b : Bool) → same_bytes m n ≡ b → (b || false) ≡ false
        by true e = absurd (let l = is_true _ (is_same n m (sym (same_is m n (passes _ e)))) in let j = sym l ∙ k in (cc))
        by false e = refl
    last m (x ∷ xs) a k = elim (same_bytes m x) as (λ b. (b || list_any (same_bytes m) xs) ≡ false → (b || list_any (same_bytes m) (xs ++ n ∷ [])) ≡ false) [ true ↦ λ j. j | false ↦ λ j. last m xs j k ] a

module _ (name : Kind → Bytes → Bytes) (namer : IsNamer name) where
  abbrev names : List Value → List Bytes
  names vs = map (name_of name) vs

  -- what a name finds
  abbrev pub Lookup : List Value → Bytes → Type 0
  Lookup vs n =
      ((list_any (same_bytes n) (names vs) ≡ false) × (record_named (map (record_of name) vs) n ≡ None))
      ⊎ ((w : Value) × IsIn vs w × (name_of name w ≡ n) × (list_any (same_bytes n) (names vs) ≡ true) × (record_named (map (record_of name) vs) n ≡ Some (record_of name w)))

  -- a name is found among the records of values, or it isn't
  pub looked_up : (vs : List Value) (n : Bytes) → Lookup vs n
  looked_up [] n = inl (refl, refl)
  looked_up (v ∷ vs) n =
      elim (same_bytes n (name_of name v)) as (λ b. same_bytes n (name_of name v) ≡ b → (((b || list_any (same_bytes n) (names vs)) ≡ false) × (cond b (Some (record_of name v)) (record_named (map (record_of name) vs) n) ≡ None)) ⊎ ((w : Value) × IsIn (v ∷ vs) w × (name_of name w ≡ n) × ((b || list_any (same_bytes n) (names vs)) ≡ true) × (cond b (Some (record_of name v)) (record_named (map (record_of name) vs) n) ≡ Some (record_of name w)))) [
        | true ↦ λ k. inr (v, inl refl, sym (same_is n (name_of name v) (passes _ k)), refl, refl)
        | false ↦ λ k. elim (looked_up vs n) [ inl r ↦ inl r | inr r ↦ inr (r.0, inr r.1, r.2, r.3, r.4) ]
      ] refl

  -- putting the record of a value adds the value, unless it clashes
  pub one_put : (vs : List Value) → IsWhole vs → AreDistinct (names vs) → (v : Value) → T (is_proper v) → AllByRecursion (IsIn vs) (parts v)
      → put (map (record_of name) vs) (record_of name v) ≡ cond (clashes name vs v) None (Some (map (record_of name) (with_one vs v)))
  one_put vs w d v p q =
      elim (is_in vs v) as (λ b. is_in vs v ≡ b → put (map (record_of name) vs) (record_of name v) ≡ cond (not b && list_any (same_bytes (name_of name v)) (names vs)) None (Some (map (record_of name) (cond b vs (vs ++ v ∷ []))))) [
        | true ↦ λ k. there (is_in_is vs v (passes _ k)) (looked_up vs (name_of name v))
        | false ↦ λ k. new k (looked_up vs (name_of name v))
      ] refl
    where
      there : IsIn vs v → Lookup vs (name_of name v) → put (map (record_of name) vs) (record_of name v) ≡ Some (map (record_of name) vs)
      there i (inl r) = absurd (no_other name namer (name_of name v) vs v r.0 i refl)
      there i (inr r) =
          ap (λ o. put_under o (map (record_of name) vs) (record_of name v)) r.4
          ∙ ap (λ u. put_under (Some (record_of name u)) (map (record_of name) vs) (record_of name v)) (told_by_name name namer vs d r.0 v r.1 i r.2)
          ∙ ap (λ b. cond b (Some (map (record_of name) vs)) None) (is_true _ (both _ _ (kind_same (kind_of name v)) (is_same (body_of name v) (body_of name v) refl)))

      other : is_in vs v ≡ false → (u : Value) → IsIn vs u → (b : Bool) → same_object (record_of name u) (record_of name v) ≡ b → b ≡ false
      other k u i true e =
          let t = passes _ e in
          let s = one_value name namer (IsIn vs) (told_by_name name namer vs d) u v (proper_in vs u (passes _ w.proper) i) p (parts_in vs u w i) q (kind_is _ _ (first _ _ t)) (same_is _ _ (second (same_kind (kind_of name u) (kind_of name v)) _ t)) in
          absurd (let l = sym (is_is_in vs v (subst (IsIn vs) s i)) ∙ k in (cc))
      other k u i false e = refl

      new : is_in vs v ≡ false → Lookup vs (name_of name v) → put (map (record_of name) vs) (record_of name v) ≡ cond (list_any (same_bytes (name_of name v)) (names vs)) None (Some (map (record_of name) (vs ++ v ∷ [])))
      new k (inl r) =
          ap (λ o. put_under o (map (record_of name) vs) (record_of name v)) r.1
          ∙ ap Some (sym (map-append (record_of name) vs (v ∷ [])))
          ∙ ap (λ b. cond b None (Some (map (record_of name) (vs ++ v ∷ [])))) (sym r.0)
      new k (inr r) =
          ap (λ o. put_under o (map (record_of name) vs) (record_of name v)) r.4
          ∙ ap (λ b. cond b (Some (map (record_of name) vs)) None) (other k r.0 r.1 (same_object (record_of name r.0) (record_of name v)) refl)
          ∙ ap (λ b. cond b None (Some (map (record_of name) (vs ++ v ∷ [])))) (sym r.3)

  -- and keeps the names distinct
  pub distinct_one : (vs : List Value) → AreDistinct (names vs) → (v : Value) → clashes name vs v ≡ false → AreDistinct (names (with_one vs v))
  distinct_one vs d v h =
      elim (is_in vs v) as (λ b. (not b && list_any (same_bytes (name_of name v)) (names vs)) ≡ false → AreDistinct (names (cond b vs (vs ++ v ∷ [])))) [
        | true ↦ λ k. d
        | false ↦ λ k. subst AreDistinct (sym (map-append (name_of name) vs (v ∷ []))) (distinct_snoc (names vs) (name_of name v) d k)
      ] h

  -- the records of values that are put are those of the values that are added
  pub all_put : (ws vs : List Value) → IsWhole vs → AreDistinct (names vs) → AreReady vs ws → put_all (map (record_of name) vs) (map (record_of name) ws) ≡ option_map (map (record_of name)) (with_values name vs ws)
  all_put [] vs h d r = refl
  all_put (w ∷ ws) vs h d r =
      ap (λ o. option_and_then (λ s. put_all s (map (record_of name) ws)) o) (one_put vs h d w (passes _ r.0) r.1) ∙ by (clashes name vs w) refl (λ n. all_put ws (with_one vs w) (one_added vs w h (passes _ r.0) r.1).whole (distinct_one vs d w n) r.2)
    where
      by : (b : Bool) → clashes name vs w ≡ b → (clashes name vs w ≡ false → put_all (map (record_of name) (with_one vs w)) (map (record_of name) ws) ≡ option_map (map (record_of name)) (with_values name (with_one vs w) ws))
          → option_and_then (λ s. put_all s (map (record_of name) ws)) (cond b None (Some (map (record_of name) (with_one vs w)))) ≡ option_map (map (record_of name)) (cond b None (with_values name (with_one vs w) ws))
      by true e rest = refl
      by false e rest = rest e

  -- ---- a repository that grows
  abbrev pub grown_records : Records → Value → Records
  grown_records r v = record { records = r.records ++ record_of name v ∷ []; refs = r.refs }

  -- a history with one value more
  abbrev pub grown_history : History → Value → History
  grown_history h v = record { values = h.values ++ v ∷ []; refs = h.refs }

  -- refs stand at values that are kept
  pub refs_kept : (vs us : List Value) → ((u : Value) → IsIn vs u → IsIn us u) → (rs : List (Bytes × Target)) → AllByRecursion (λ x. IsIn vs (value_at x.1)) rs → AllByRecursion (λ x. IsIn us (value_at x.1)) rs
  refs_kept vs us f [] h = tt
  refs_kept vs us f (r ∷ rs) h = (f (value_at r.1) h.0, refs_kept vs us f rs h.1)

  -- a repository whose records are those of more values
  pub stands_with : (r : Records) (h : History) → StandsFor name r h → (us : List Value) → IsWhole us → AreDistinct (names us) → ((u : Value) → IsIn h.values u → IsIn us u)
      → StandsFor name (record { records = map (record_of name) us; refs = r.refs }) (record { values = us; refs = h.refs })
  stands_with r h s us w d k = record {
    history = record { proper = w.proper; closed = w.closed; sorted = s.history.sorted; ref_names = s.history.ref_names; held = refs_kept h.values us k h.refs s.history.held; own = s.history.own };
    records = refl;
    distinct = subst AreDistinct (sym (names_of_records name namer us)) d;
    refs = s.refs;
  }

  -- these are the values with some more
  pub record AreAdded (vs ws us : List Value) : Type 0 where
    pub whole : IsWhole us
    pub distinct : AreDistinct (names us)
    pub keeps : (u : Value) → IsIn vs u → IsIn us u
    pub added : us ≡ fold with_one vs ws

  -- values that can be added are added
  pub are_added : (ws vs us : List Value) → IsWhole vs → AreDistinct (names vs) → AreReady vs ws → with_values name vs ws ≡ Some us → AreAdded vs ws us
  are_added [] vs us h d r e = let k : vs ≡ us = cc in subst (AreAdded vs []) k (record { whole = h; distinct = d; keeps = λ u i. i; added = refl })
  are_added (w ∷ ws) vs us h d r e =
      let a = one_added vs w h (passes _ r.0) r.1 in
      by (clashes name vs w) refl e (λ n k. let rest = are_added ws (with_one vs w) us a.whole (distinct_one vs d w n) r.2 k in record { whole = rest.whole; distinct = rest.distinct; keeps = λ u i. rest.keeps u (keeps vs w (with_one vs w) a u i); added = rest.added })
    where
      by : (b : Bool) → clashes name vs w ≡ b → cond b None (with_values name (with_one vs w) ws) ≡ Some us → (clashes name vs w ≡ false → with_values name (with_one vs w) ws ≡ Some us → AreAdded vs (w ∷ ws) us) → AreAdded vs (w ∷ ws) us
      by true k j f = absurd (cc)
      by false k j f = f k j

  -- ---- a repository that grows
  -- the values of a history are whole
  pub whole_of : (h : History) → IsHistory h → IsWhole h.values
  whole_of h i = record { closed = i.closed; proper = i.proper }

  -- the values of a history that a repository stands for have distinct names
  pub distinct_of : (r : Records) (h : History) → StandsFor name r h → AreDistinct (names h.values)
  distinct_of r h s = subst AreDistinct (ap (map (λ x. x.name)) s.records ∙ names_of_records name namer h.values) s.distinct

  -- puts add the values, unless one clashes
  pub puts_add : (r : Records) → IsSound name r → (ws : List Value) → AreReady (history_of r).values ws
      → put_all r.records (map (record_of name) ws) ≡ option_map (map (record_of name)) (with_values name (history_of r).values ws)
  puts_add r i ws a =
      let s = stands name namer r i in
      let vs = (history_of r).values in
      ap (λ z. put_all z (map (record_of name) ws)) s.records ∙ all_put ws vs (whole_of (history_of r) s.history) (distinct_of r (history_of r) s) a

  -- with these records the repository is sound, and its history has these values, too
  pub record Grew (r : Records) (ws : List Value) (rs : List Record) : Type 0 where
    pub sound : IsSound name (record { records = rs; refs = r.refs })
    pub history : history_of (record { records = rs; refs = r.refs }) ≡ record { values = fold with_one (history_of r).values ws; refs = (history_of r).refs }

  -- records that are put make the history grow
  pub puts_grow : (r : Records) → IsSound name r → (ws : List Value) → AreReady (history_of r).values ws → (rs : List Record) → put_all r.records (map (record_of name) ws) ≡ Some rs → Grew r ws rs
  puts_grow r i ws a rs e = by (with_values name vs ws) refl (sym (puts_add r i ws a) ∙ e)
    where
      vs : List Value
      vs = (history_of r).values

      by : (o : Option (List Value)) → with_values name (history_of r).values ws ≡ o → option_map (map (record_of name)) o ≡ Some rs → Grew r ws rs
      by None k j = absurd (cc)
      by (Some us) k j =
          let s = stands name namer r i in
          let m = are_added ws (history_of r).values us (whole_of (history_of r) s.history) (distinct_of r (history_of r) s) a k in
          let q : map (record_of name) us ≡ rs = cc j in
          let t = stands_with r (history_of r) s us m.whole m.distinct m.keeps in
          let u = sound name namer (record { records = map (record_of name) us; refs = r.refs }) (record { values = us; refs = (history_of r).refs }) t in
          let one = one_history name namer (record { records = map (record_of name) us; refs = r.refs }) (history_of (record { records = map (record_of name) us; refs = r.refs })) (record { values = us; refs = (history_of r).refs }) (stands name namer (record { records = map (record_of name) us; refs = r.refs }) u) t in
          subst (Grew r ws) q (record { sound = u; history = one ∙ (λ z. record { values = m.added z; refs = (history_of r).refs }) })

  -- one record that is put makes the history grow
  pub put_grows : (r : Records) → IsSound name r → (v : Value) → IsTrue (is_proper v) → AllByRecursion (IsIn (history_of r).values) (parts v) → (rs : List Record) → put r.records (record_of name v) ≡ Some rs
      → IsSound name (record { records = rs; refs = r.refs }) × (history_of (record { records = rs; refs = r.refs }) ≡ record { values = with_one (history_of r).values v; refs = (history_of r).refs })
  put_grows r i v p q rs e =
      let g = puts_grow r i (v ∷ []) (p, q, tt) rs (ap (λ o. option_and_then (λ s. Some s) o) e) in
      (g.sound, g.history)

-- to put what is held changes nothing
pub put_held : (rs : List Record) (r s : Record) → record_named rs r.name ≡ Some s → s.kind ≡ r.kind → s.body ≡ r.body → put rs r ≡ Some rs
put_held rs r s e k b =
    ap (λ o. put_under o rs r) e
    ∙ ap (λ t. cond t (Some rs) None) (is_true _ (both (same_kind s.kind r.kind) (same_bytes s.body r.body) (subst (λ j. T (same_kind j r.kind)) (sym k) (kind_same r.kind)) (is_same s.body r.body b)))

-- where values aren't all added, one clashes with those that stand then
pub no_values : (name : Kind → Bytes → Bytes) (ws vs : List Value) → with_values name vs ws ≡ None → (before : List Value) × (w : Value) × (after : List Value) × (ws ≡ before ++ w ∷ after) × (clashes name (fold with_one vs before) w ≡ true)
no_values name [] vs e = absurd (cc)
no_values name (w ∷ ws) vs e =
    elim (clashes name vs w) as (λ b. clashes name vs w ≡ b → cond b None (with_values name (with_one vs w) ws) ≡ None → (before : List Value) × (x : Value) × (after : List Value) × (w ∷ ws ≡ before ++ x ∷ after) × (clashes name (fold with_one vs before) x ≡ true)) [
      | true ↦ λ k i. ([], w, ws, refl, k)
      | false ↦ λ k i. let r = no_values name ws (with_one vs w) i in (w ∷ r.0, r.1, r.2, ap (λ z. w ∷ z) r.3, r.4)
    ] refl e
