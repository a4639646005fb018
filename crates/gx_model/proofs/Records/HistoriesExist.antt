-- A sound repository stands for the history that is read from it.
use Rattle.std.proofs.Common.{◌≡◌, Bool, true, false, refl, sym, ap, subst, ◌∙◌, List, [], ◌∷◌, ◌++◌, map, inl, inr, append_assoc, append-nil}
use Rattle.std.specs.Prelude.{T, ◌||◌, ◌⊎◌}
use Rattle.std.specs.List.{list_all, list_any, AllByRecursion}
use Rattle.std.specs.Bool.{passes}
use Rattle.std.specs.Ordering.{is_lt, nat_cmp}
use Rattle.std.specs.Cmp.Lexicographic.{slice_cmp}
use Rattle.std.specs.FinMap.Entries.{is_sorted, below_all}
use Rattle.std.proofs.lemmas.List.{map-append}
use Rattle.gx_model.specs.declared.objects.Kind.{Kind}
use Rattle.gx_model.specs.declared.objects.Kind.TheVariants as kind
use Rattle.gx_model.specs.Texts.{Bytes, same_bytes}
use Rattle.gx_model.specs.Histories.Values.{Tag, Value, blob_value, tree_value, commit_value, tag_value, is_proper, is_optional_ident}
use Rattle.gx_model.specs.Texts.RefNames.{is_tag_name, is_ref_name, tag_ref}
use Rattle.gx_model.specs.Objects.{IsNamer, IsTagText, TagParts}
use Rattle.gx_model.specs.Records.{kind_of, body_of, name_of, commit_body, tag_body}
use Rattle.gx_model.specs.Histories.{Record, Records, AreDistinct, IsIn, is_in, History, Target, value_at, IsRefOf, record_of, StandsFor}
use Rattle.gx_model.specs.Histories.{IsWhole}
use Rattle.gx_model.specs.Records.Sound.{AnyByRecursion, IsLinkedAfter, HasShortPaths, IsTarget, IsSound}
use Rattle.gx_model.specs.Records.HistoryOf.{value_named, value_in, named_from, named_values, target_in, history_of}
use Rattle.gx_model.proofs.Texts.PathTests.{both, first, second, is_true, is_same, all_append}
use Rattle.gx_model.proofs.Histories.AddedValues.{snoc_closed, is_in_is}
use Rattle.gx_model.proofs.Records.OneHistory.{names_of_records}
use Rattle.gx_model.proofs.ObjectTexts.BodiesReadBack.{tag_read}
use Rattle.gx_model.proofs.Records.LinkedValues.{proper_in, named, found, holds}
use Rattle.gx_model.proofs.ObjectTexts.TreePaths.{name_is_name}
use Rattle.gx_model.proofs.Records.ReadRecords.{is_read}

-- ---- keys with other values

module _ {X Y : Type 0} (f : Bytes × X → Y) where
  abbrev with_values : List (Bytes × X) → List (Bytes × Y)
  with_values rs = map (λ x. (x.0, f x)) rs

  below_keys : (k : Bytes) (es : List (Bytes × X)) → T (below_all (slice_cmp nat_cmp) k es) → T (below_all (slice_cmp nat_cmp) k (with_values es))
  below_keys k [] b = tt
  below_keys k (e ∷ es) b = both _ _ (first _ _ b) (below_keys k es (second (is_lt (slice_cmp nat_cmp k e.0)) (below_all (slice_cmp nat_cmp) k es) b))

  -- refs keep their order with other targets
  pub keys_sorted : (rs : List (Bytes × X)) → T (is_sorted (slice_cmp nat_cmp) rs) → T (is_sorted (slice_cmp nat_cmp) (with_values rs))
  keys_sorted [] h = tt
  keys_sorted (r ∷ rs) h = both _ _ (below_keys r.0 rs (first _ _ h)) (keys_sorted rs (second (below_all (slice_cmp nat_cmp) r.0 rs) _ h))

  -- refs keep their names with other targets
  pub keys_named : (t : Bytes → Bool) (rs : List (Bytes × X)) → T (list_all (λ x. t x.0) rs) → T (list_all (λ x. t x.0) (with_values rs))
  keys_named t [] h = tt
  keys_named t (r ∷ rs) h = both _ _ (first _ _ h) (keys_named t rs (second (t r.0) _ h))

-- ---- all records, from front to back

module _ (name : Kind → Bytes → Bytes) (namer : IsNamer name) where
  record_names : List Record → List Bytes
  record_names rs = map (λ r. r.name) rs

  names_left : (xs ys : List Bytes) → AreDistinct (xs ++ ys) → AreDistinct xs
  names_left [] ys h = tt
  names_left (x ∷ xs) ys h = (left xs h.0, names_left xs ys h.1)
    where
      left : (zs : List Bytes) → list_any (same_bytes x) (zs ++ ys) ≡ false → list_any (same_bytes x) zs ≡ false
      left [] k = refl
      left (z ∷ zs) k = elim (same_bytes x z) as (λ b. (b || list_any (same_bytes x) (zs ++ ys)) ≡ false → (b || list_any (same_bytes x) zs) ≡ false) [ true ↦ λ j. j | false ↦ λ j. left zs j ] k

  -- a name is not among earlier ones
  not_earlier : (xs : List Bytes) (n : Bytes) (ys : List Bytes) → AreDistinct (xs ++ n ∷ ys) → (vs : List Value) → map (name_of name) vs ≡ xs → (v : Value) → IsIn vs v → name_of name v ≡ n → ⊥
  not_earlier [] n ys d [] e v i q = i
  not_earlier [] n ys d (w ∷ vs) e v i q = (cc)
  not_earlier (x ∷ xs) n ys d [] e v i q = i
  not_earlier (x ∷ xs) n ys d (w ∷ vs) e v i q =
      let h : name_of name w ≡ x = cc in
      let t : map (name_of name) vs ≡ xs = cc in
      elim i [
        | inl k ↦ here_not xs d.0 (sym h ∙ ap (name_of name) k ∙ q)
        | inr k ↦ not_earlier xs n ys d.1 vs t v k q
      ]
    where
      here_not : (zs : List Bytes) → list_any (same_bytes x) (zs ++ n ∷ ys) ≡ false → x ≡ n → ⊥
      here_not [] k m = let s = is_true _ (is_same x n m) in let l : (true || list_any (same_bytes x) ys) ≡ false = subst (λ b. (b || list_any (same_bytes x) ys) ≡ false) s k in (cc)
      here_not (z ∷ zs) k m = elim (same_bytes x z) as (λ b. (b || list_any (same_bytes x) (zs ++ n ∷ ys)) ≡ false → ⊥) [ true ↦ λ j. (cc) | false ↦ λ j. here_not zs j m ] k

  not_in : (vs : List Value) (v : Value) → (IsIn vs v → ⊥) → is_in vs v ≡ false
  not_in vs v h = by (is_in vs v) refl
    where
      by : (b : Bool) → is_in vs v ≡ b → b ≡ false
      by true e = absurd (h (is_in_is vs v (passes _ e)))
      by false e = refl

  -- the values are whole, have distinct names, and these are their records
  pub record IsReadTo (vs : List Value) (rs : List Record) : Type 0 where
    pub values : List Value
    pub read : named_from (named name vs) rs ≡ named name values
    pub recorded : map (record_of name) values ≡ map (record_of name) vs ++ rs
    pub whole : IsWhole values

  kept_by : (vs : List Value) (rs all : List Record) → map (record_of name) vs ++ rs ≡ all → (P : Record → Type 0) (v : Value) → IsIn vs v → P (record_of name v) → AnyByRecursion P all
  kept_by vs rs all e P v i p = subst (AnyByRecursion P) e (some_left (map (record_of name) vs) rs (holds name P vs v i p))
    where
      some_left : (xs ys : List Record) → AnyByRecursion P xs → AnyByRecursion P (xs ++ ys)
      some_left [] ys h = absurd h
      some_left (x ∷ xs) ys h = elim h [ inl q ↦ inl q | inr q ↦ inr (some_left xs ys q) ]

  -- records that link to earlier ones are read as values
  pub read_all : (all rs : List Record) (vs : List Value) → IsWhole vs → map (record_of name) vs ++ rs ≡ all → AreDistinct (map (λ r. r.name) all) → AllByRecursion (λ r. r.name ≡ name r.kind r.body) rs
      → IsLinkedAfter (map (record_of name) vs) rs → AllByRecursion (HasShortPaths all) rs → IsReadTo vs rs
  read_all all [] vs w e d n l s = record { values = vs; read = refl; recorded = sym (append-nil (map (record_of name) vs)); whole = w }
  read_all all (r ∷ rs) vs w e d n l s =
      let split : map (λ r. r.name) all ≡ map (name_of name) vs ++ map (λ r. r.name) (r ∷ rs) =
      ap (map (λ r. r.name)) (sym e) ∙ map-append (λ r. r.name) (map (record_of name) vs) (r ∷ rs) ∙ ap (λ ns. ns ++ map (λ r. r.name) (r ∷ rs)) (names_of_records name namer vs) in
      let d2 : AreDistinct (map (name_of name) vs ++ map (λ r. r.name) (r ∷ rs)) = subst AreDistinct split d in
      let dv = names_left (map (name_of name) vs) (map (λ r. r.name) (r ∷ rs)) d2 in
      let v = value_in (named name vs) r.kind r.body in
      let q = is_read name namer vs w dv all (kept_by vs (r ∷ rs) all e) r.kind r.body l.0 (λ es p k t h. passes _ (s.0 es p k t h)) in
      let same_name : name_of name v ≡ r.name = (λ i. name (q.same_kind i) (q.same_body i)) ∙ sym n.0 in
      let same_record : record_of name v ≡ r = λ i. record { name = same_name i; kind = q.same_kind i; body = q.same_body i } in
      let new : is_in vs v ≡ false = not_in vs v (λ i. not_earlier (map (name_of name) vs) r.name (map (λ r. r.name) rs) d2 vs refl v i same_name) in
      let w2 : IsWhole (vs ++ v ∷ []) = record { closed = snoc_closed [] vs v w.closed new q.known; proper = is_true _ (all_append is_proper vs (v ∷ []) (passes _ w.proper) (both (is_proper v) true q.proper tt)) } in
      let m : map (record_of name) (vs ++ v ∷ []) ≡ map (record_of name) vs ++ r ∷ [] = map-append (record_of name) vs (v ∷ []) ∙ ap (λ z. map (record_of name) vs ++ z ∷ []) same_record in
      let rest = read_all all rs (vs ++ v ∷ []) w2 (ap (λ z. z ++ rs) m ∙ append_assoc (map (record_of name) vs) (r ∷ []) rs ∙ e) d n.1 (subst (λ z. IsLinkedAfter z rs) (sym m) l.1) s.1 in
      record {
        values = rest.values;
        read = ap (λ z. named_from z rs) (sym (map-append (λ v. (name_of name v, v)) vs (v ∷ []) ∙ ap (λ k. named name vs ++ (k, v) ∷ []) same_name)) ∙ rest.read;
        recorded = rest.recorded ∙ ap (λ z. z ++ rs) m ∙ append_assoc (map (record_of name) vs) (r ∷ []) rs;
        whole = rest.whole;
      }

  -- ---- refs

  value_in_target : (v : Value) → kind_of name v ≡ kind.Commit ⊎ kind_of name v ≡ kind.Tag → value_at (target_in v) ≡ v
  value_in_target (blob_value x) h = absurd (elim h [ inl e ↦ (cc) | inr e ↦ (cc) ])
  value_in_target (tree_value f) h = absurd (elim h [ inl e ↦ (cc) | inr e ↦ (cc) ])
  value_in_target (commit_value c) h = refl
  value_in_target (tag_value t) h = refl

  own_ref : (v : Value) (n : Bytes) → kind_of name v ≡ kind.Commit → IsRefOf n (target_in v)
  own_ref (blob_value x) n h = absurd (cc)
  own_ref (tree_value f) n h = absurd (cc)
  own_ref (commit_value c) n h = tt
  own_ref (tag_value t) n h = absurd (cc)

  -- the parts of a proper tag are those of its body
  pub tag_parts_of : Tag → TagParts
  tag_parts_of t = record { object = name kind.Commit (commit_body name t.target); name = t.name; tagger = t.tagger; message = t.message }

  -- a proper tag's body is that of proper parts
  pub tag_text_is : (t : Tag) → T (is_proper (tag_value t)) → IsTagText (record { object = name kind.Commit (commit_body name t.target); name = t.name; tagger = t.tagger; message = t.message }) (tag_body name t)
  tag_text_is t h = (refl, is_true _ (name_is_name name namer kind.Commit (commit_body name t.target)), is_true _ (first (is_tag_name t.name) (is_optional_ident t.tagger) h), is_true _ (second (is_tag_name t.name) (is_optional_ident t.tagger) h))

  own_tag : (v : Value) (n : Bytes) (p : TagParts) → T (is_proper v) → kind_of name v ≡ kind.Tag → IsTagText p (body_of name v) → n ≡ tag_ref p.name → IsRefOf n (target_in v)
  own_tag (blob_value x) n p h k t e = absurd (cc)
  own_tag (tree_value f) n p h k t e = absurd (cc)
  own_tag (commit_value c) n p h k t e = absurd (cc)
  own_tag (tag_value u) n p h k t e =
      e ∙ ap tag_ref (ap (λ z. z.name) (sym (tag_read p (tag_body name u) t) ∙ tag_read (record { object = name kind.Commit (commit_body name u.target); name = u.name; tagger = u.tagger; message = u.message }) (tag_body name u) (tag_text_is u h)))

  -- a target is found in the history, and is the tag's own where it is a tag's
  pub record IsGoodRef (vs : List Value) (n m : Bytes) : Type 0 where
    pub same : name_of name (value_at (target_in (value_named (named name vs) m))) ≡ m
    pub held : IsIn vs (value_at (target_in (value_named (named name vs) m)))
    pub own : IsRefOf n (target_in (value_named (named name vs) m))

  good_ref : (vs : List Value) → IsWhole vs → AreDistinct (map (name_of name) vs) → (n m : Bytes) → IsTarget (map (record_of name) vs) n m → IsGoodRef vs n m
  good_ref vs w d n m h =
      let v = value_named (named name vs) m in
      elim h [
        | inl c ↦
            let r = found name namer (λ r. (r.kind ≡ kind.Commit) × (r.name ≡ m)) m (λ r q. q.1) vs d c in
            let e = value_in_target v (inl r.1.0) in
            record { same = ap (name_of name) e ∙ r.1.1; held = subst (IsIn vs) (sym e) r.0; own = own_ref v n r.1.0 }
        | inr t ↦
            let r = found name namer (λ r. (r.kind ≡ kind.Tag) × (r.name ≡ m) × ((p : TagParts) × IsTagText p r.body × (n ≡ tag_ref p.name))) m (λ r q. q.1) vs d t in
            let e = value_in_target v (inr r.1.0) in
            record { same = ap (name_of name) e ∙ r.1.1; held = subst (IsIn vs) (sym e) r.0; own = own_tag v n r.1.2.0 (proper_in vs v (passes _ w.proper) r.0) r.1.0 r.1.2.1 r.1.2.2 }
      ]

  abbrev refs_in : List Value → List (Bytes × Bytes) → List (Bytes × Target)
  refs_in vs rs = map (λ x. (x.0, target_in (value_named (named name vs) x.1))) rs

  good_refs : (vs : List Value) → IsWhole vs → AreDistinct (map (name_of name) vs) → (rs : List (Bytes × Bytes)) → AllByRecursion (λ x. IsTarget (map (record_of name) vs) x.0 x.1) rs → AllByRecursion (λ x. IsGoodRef vs x.0 x.1) rs
  good_refs vs w d [] h = tt
  good_refs vs w d (r ∷ rs) h = (good_ref vs w d r.0 r.1 h.0, good_refs vs w d rs h.1)

  same_refs : (vs : List Value) (rs : List (Bytes × Bytes)) → AllByRecursion (λ x. IsGoodRef vs x.0 x.1) rs → rs ≡ map (λ (x : Bytes × Target). let q : Bytes × Bytes = (x.0, name_of name (value_at x.1)) in q) (refs_in vs rs)
  same_refs vs [] h = refl
  same_refs vs (r ∷ rs) h = λ i. (r.0, sym h.0.same i) ∷ same_refs vs rs h.1 i

  held_refs : (vs : List Value) (rs : List (Bytes × Bytes)) → AllByRecursion (λ x. IsGoodRef vs x.0 x.1) rs → AllByRecursion (λ r. IsIn vs (value_at r.1)) (refs_in vs rs)
  held_refs vs [] h = tt
  held_refs vs (r ∷ rs) h = (h.0.held, held_refs vs rs h.1)

  own_refs : (vs : List Value) (rs : List (Bytes × Bytes)) → AllByRecursion (λ x. IsGoodRef vs x.0 x.1) rs → AllByRecursion (λ r. IsRefOf r.0 r.1) (refs_in vs rs)
  own_refs vs [] h = tt
  own_refs vs (r ∷ rs) h = (h.0.own, own_refs vs rs h.1)

  values_named : (vs : List Value) → map (λ k. k.1) (named name vs) ≡ vs
  values_named [] = refl
  values_named (v ∷ vs) = ap (λ us. v ∷ us) (values_named vs)

  -- a sound repository stands for the history that is read from it
  pub stands : (r : Records) → IsSound name r → StandsFor name r (history_of r)
  stands r s =
      let w0 : IsWhole [] = record { closed = tt; proper = refl } in
      let t = read_all r.records r.records [] w0 refl s.distinct s.named s.linked s.paths in
      let vs = t.values in
      let d : AreDistinct (map (name_of name) vs) = subst AreDistinct (ap (map (λ r. r.name)) (sym t.recorded) ∙ names_of_records name namer vs) s.distinct in
      let good = good_refs vs t.whole d r.refs (subst (λ rs. AllByRecursion (λ x. IsTarget rs x.0 x.1) r.refs) (sym t.recorded) s.held) in
      let h : History = record { values = vs; refs = refs_in vs r.refs } in
      let e : history_of r ≡ h = λ i. record { values = (ap (map (λ k. k.1)) t.read ∙ values_named vs) i; refs = map (λ x. (x.0, target_in (value_named (t.read i) x.1))) r.refs } in
      subst (StandsFor name r) (sym e) (record {
        history = record {
          proper = t.whole.proper;
          closed = t.whole.closed;
          sorted = is_true _ (keys_sorted (λ (x : Bytes × Bytes). target_in (value_named (named name vs) x.1)) r.refs (passes _ s.sorted));
          ref_names = is_true _ (keys_named (λ (x : Bytes × Bytes). target_in (value_named (named name vs) x.1)) is_ref_name r.refs (passes _ s.ref_names));
          held = held_refs vs r.refs good;
          own = own_refs vs r.refs good;
        };
        records = sym t.recorded;
        distinct = s.distinct;
        refs = same_refs vs r.refs good;
      })

  -- the values by their names
  pub named_is : (r : Records) → IsSound name r → named_values r.records ≡ named name (history_of r).values
  named_is r s =
      let w0 : IsWhole [] = record { closed = tt; proper = refl } in
      let t = read_all r.records r.records [] w0 refl s.distinct s.named s.linked s.paths in
      t.read ∙ ap (named name) (sym (ap (map (λ k. k.1)) t.read ∙ values_named t.values))
