-- A record of a sound repository is taken by one that has some of its records, where it has those that the record names.
use Rattle.std.proofs.Common.{◌≡◌, Bool, true, false, cond, refl, sym, subst, ◌∙◌, List, [], ◌∷◌, ◌++◌, append_assoc, append-nil, map, Option, Some, None, inl, inr}
use Rattle.std.specs.Prelude.{◌||◌, ◌≢◌, is_some, IfSome, IsTrue}
use Rattle.std.specs.List.{AllByRecursion, cons_option, filter_map, list_any}
use Rattle.std.specs.Bool.{passes}
use Rattle.std.proofs.lemmas.List.{map-append}
use Rattle.gx_model.specs.declared.objects.Kind.{Kind}
use Rattle.gx_model.specs.declared.objects.Kind.TheVariants as kind
use Rattle.gx_model.specs.declared.objects.Mode.{Mode}
use Rattle.gx_model.specs.declared.objects.Mode.TheVariants.{File, Exec, Link, Gitlink, Dir}
use Rattle.gx_model.specs.Texts.{Bytes, same_bytes}
use Rattle.gx_model.specs.Texts.Paths.{Path}
use Rattle.gx_model.specs.Histories.{AreDistinct, Record, Records, record_for}
use Rattle.gx_model.specs.Objects.{CommitParts, Entry, IsNamer, TagParts}
use Rattle.gx_model.specs.Pruning.{link_of, links_of}
use Rattle.gx_model.specs.Records.Growth.{record_named}
use Rattle.gx_model.specs.Records.RecordFaults.{record_fault}
use Rattle.gx_model.specs.Records.Sound.{AnyByRecursion, HasPath, HasShortPaths, Holds, IsHeldAs, IsLinked, IsLinkedAfter, IsSound, below, here}
use Rattle.gx_model.proofs.ObjectTexts.BodiesReadBack.{commit_read, entries_read, tag_read}
use Rattle.gx_model.proofs.Records.GrownRecords.{distinct_snoc}
use Rattle.gx_model.proofs.Records.HeldObjects.{named_so}
use Rattle.gx_model.proofs.Records.TakenRecords.{all_named, fine, named_some, some_named}
use Rattle.gx_salvage_refs.specs.Saved.{AreOf, IsSaved}
use Rattle.gx_reached.proofs.Closing.{all_with}
use Rattle.gx_reached.proofs.LinkedRecords.{linked_at, split_at}

linked_with : (before xs : List Record) (x : Record) → IsLinkedAfter before xs → IsLinked (before ++ xs) x.kind x.body → IsLinkedAfter before (xs ++ x ∷ [])
linked_with before [] x h l = (subst (λ z. IsLinked z x.kind x.body) (append-nil before) l, tt)
linked_with before (y ∷ ys) x h l = (h.0, linked_with (before ++ y ∷ []) ys x h.1 (subst (λ z. IsLinked z x.kind x.body) (sym (append_assoc before (y ∷ []) ys)) l))

none_has : (rs : List Record) (n : Bytes) → record_named rs n ≡ None → list_any (same_bytes n) (map (λ r. r.name) rs) ≡ false
none_has [] n e = refl
none_has (r ∷ rs) n e = by (same_bytes n r.name) e (none_has rs n)
  where
    by : (b : Bool) → cond b (Some r) (record_named rs n) ≡ None → (record_named rs n ≡ None → list_any (same_bytes n) (map (λ r. r.name) rs) ≡ false) → (b || list_any (same_bytes n) (map (λ r. r.name) rs)) ≡ false
    by true i again = absurd cc
    by false i again = again i

module _ (r : Records) (distinct : AreDistinct (map (λ x. x.name) r.records)) (rs : List Record) (of : AreOf r rs) where
  -- a record that is held under a name here is the one there
  pub same_held : (n : Bytes) (h : Record) → record_named r.records n ≡ Some h → IsSaved rs n → record_named rs n ≡ Some h
  same_held n h e s = by (record_named rs n) refl s
    where
      by : (o : Option Record) → record_named rs n ≡ o → IsTrue (is_some o) → o ≡ Some h
      by None f t = absurd (passes _ t)
      by (Some k) f t =
          let there : record_named r.records k.name ≡ Some k = all_named (λ x. record_named r.records x.name ≡ Some x) rs n k of f in
          sym (subst (λ m. record_named r.records m ≡ Some k) (named_so rs n k f) there) ∙ e

  any_of : (P : Record → Type 0) (xs : List Record) → AreOf r xs → AnyByRecursion P xs → AnyByRecursion P r.records
  any_of P [] a h = absurd h
  any_of P (x ∷ xs) a h = elim h [ inl p ↦ some_named P r.records x.name x a.0 (λ _. p) | inr q ↦ any_of P xs a.1 q ]

  -- what holds of a record of a name there holds of one here, where one is held
  moved : (P : Record → Type 0) (n : Bytes) → ((x : Record) → P x → x.name ≡ n) → AnyByRecursion P r.records → IsSaved rs n → AnyByRecursion P rs
  moved P n f a s = let q = named_some P n f r.records distinct a in some_named P rs n q.0 (same_held n q.0 q.1 s) (λ _. q.2)

  holds_moved : (k : Kind) (n : Bytes) → Holds r.records k n → IsSaved rs n → Holds rs k n
  holds_moved k n a s = moved (λ x. (x.kind ≡ k) × (x.name ≡ n)) n (λ x p. p.1) a s

  entry_moved : (m : Mode) (component n : Bytes) → IsHeldAs r.records m n → IfSome (link_of (record { mode = m; component = component; name = n })) (IsSaved rs) → IsHeldAs rs m n
  entry_moved File component n a s = holds_moved kind.Blob n a s
  entry_moved Exec component n a s = holds_moved kind.Blob n a s
  entry_moved Link component n a s = holds_moved kind.Blob n a s
  entry_moved Gitlink component n a s = tt
  entry_moved Dir component n a s = moved (λ x. (x.kind ≡ kind.Tree) × (x.name ≡ n) × (x.body ≢ [])) n (λ x p. p.1) a s

  entries_moved : (es : List Entry) → AllByRecursion (λ e. IsHeldAs r.records e.mode e.name) es → AllByRecursion (IsSaved rs) (filter_map link_of es) → AllByRecursion (λ e. IsHeldAs rs e.mode e.name) es
  entries_moved [] a s = tt
  entries_moved (e ∷ es) a s = by (link_of e) (entry_moved e.mode e.component e.name a.0) s (entries_moved es a.1)
    where
      by : (o : Option Bytes) → (IfSome o (IsSaved rs) → IsHeldAs rs e.mode e.name) → AllByRecursion (IsSaved rs) (cons_option o (filter_map link_of es))
          → (AllByRecursion (IsSaved rs) (filter_map link_of es) → AllByRecursion (λ x. IsHeldAs rs x.mode x.name) es) → IsHeldAs rs e.mode e.name × AllByRecursion (λ x. IsHeldAs rs x.mode x.name) es
      by None f t again = (f tt, again t)
      by (Some n) f t again = (f t.0, again t.1)

  parents_moved : (ns : List Bytes) → AllByRecursion (Holds r.records kind.Commit) ns → AllByRecursion (IsSaved rs) ns → AllByRecursion (Holds rs kind.Commit) ns
  parents_moved [] a s = tt
  parents_moved (n ∷ ns) a s = (holds_moved kind.Commit n a.0 s.0, parents_moved ns a.1 s.1)

  linked_moved : (k : Kind) (body : Bytes) → IsLinked r.records k body → AllByRecursion (IsSaved rs) (links_of k body) → IsLinked rs k body
  linked_moved kind.Blob body l s = tt
  linked_moved kind.Tree body (es, t, h) s = (es, t, entries_moved es h (subst (λ xs. AllByRecursion (IsSaved rs) (filter_map link_of xs)) (entries_read es body t) s))
  linked_moved kind.Commit body (p, t, h, hs) s =
      let q = subst (λ (x : CommitParts). AllByRecursion (IsSaved rs) (x.tree ∷ x.parents)) (commit_read p body t) s in
      (p, t, holds_moved kind.Tree p.tree h q.0, parents_moved p.parents hs q.1)
  linked_moved kind.Tag body (p, t, h) s =
      let q = subst (λ (x : TagParts). AllByRecursion (IsSaved rs) (x.object ∷ [])) (tag_read p body t) s in
      (p, t, holds_moved kind.Commit p.object h q.0)

  path_moved : (xs : List Record) → AreOf r xs → (es : List Entry) (p : Path) → HasPath xs es p → HasPath r.records es p
  path_moved xs a es p (here e s m) = here e s m
  path_moved xs a es p (below {p = q} e fs s m h g) = below e fs s m (any_of _ xs a h) (path_moved xs a fs q g)

  short_moved : (all xs : List Record) → AreOf r all → AreOf r xs → AllByRecursion (HasShortPaths r.records) r.records → AllByRecursion (HasShortPaths all) xs
  short_moved all [] a b h = tt
  short_moved all (x ∷ xs) a b h = (
    λ es p k t q. all_named (HasShortPaths r.records) r.records x.name x h b.0 es p k t (path_moved all a es p q),
    short_moved all xs a b.1 h,
  )

module _ (name : Kind → Bytes → Bytes) (namer : IsNamer name) (r : Records) (sound : IsSound name r) (rs : List Record) (good : IsSound name (record { records = rs; refs = [] })) (of : AreOf r rs) where
  -- nothing is against a record that is there, where all that it names is here
  pub taken_over : (n : Bytes) (t : Record) → record_named r.records n ≡ Some t → record_named rs (name t.kind t.body) ≡ None → AllByRecursion (IsSaved rs) (links_of t.kind t.body)
      → record_fault rs (record_for name t.kind t.body) ≡ None
  taken_over n t e u s =
      let named = all_named (λ x. x.name ≡ name x.kind x.body) r.records n t sound.named e in
      let is : t ≡ record_for name t.kind t.body = (λ i. record { name = named i; kind = t.kind; body = t.body }) in
      let at = split_at r.records n t e in
      let linked = linked_at [] at.before t at.behind (subst (IsLinkedAfter []) at.whole sound.linked) in
      let held = linked_moved r sound.distinct rs of t.kind t.body (linked_left at.before (t ∷ at.behind) r.records at.whole t.kind t.body linked) s in
      let all = all_with (λ x. record_named r.records x.name ≡ Some x) rs (record_for name t.kind t.body) of (subst (λ x. record_named r.records x.name ≡ Some x) is (subst (λ m. record_named r.records m ≡ Some t) (sym (named_so r.records n t e)) e)) in
      fine name namer rs t.kind t.body (record {
        named = all_with (λ x. x.name ≡ name x.kind x.body) rs (record_for name t.kind t.body) good.named refl;
        distinct = subst AreDistinct (sym (map-append (λ x. x.name) rs (record_for name t.kind t.body ∷ []))) (distinct_snoc (map (λ x. x.name) rs) (name t.kind t.body) good.distinct (none_has rs (name t.kind t.body) u));
        linked = linked_with [] rs (record_for name t.kind t.body) good.linked held;
        paths = short_moved r sound.distinct rs of (rs ++ record_for name t.kind t.body ∷ []) (rs ++ record_for name t.kind t.body ∷ []) all all sound.paths;
        sorted = refl;
        ref_names = refl;
        held = tt;
      })
    where
      some_left : {X : Type 0} (P : X → Type 0) (xs ys : List X) → AnyByRecursion P xs → AnyByRecursion P (xs ++ ys)
      some_left P [] ys h = absurd h
      some_left P (x ∷ xs) ys h = elim h [ inl p ↦ inl p | inr q ↦ inr (some_left P xs ys q) ]

      entry_left : (xs ys : List Record) (m : Mode) (n : Bytes) → IsHeldAs xs m n → IsHeldAs (xs ++ ys) m n
      entry_left xs ys File n h = some_left _ xs ys h
      entry_left xs ys Exec n h = some_left _ xs ys h
      entry_left xs ys Link n h = some_left _ xs ys h
      entry_left xs ys Gitlink n h = tt
      entry_left xs ys Dir n h = some_left _ xs ys h

      entries_left : (xs ys : List Record) (es : List Entry) → AllByRecursion (λ e. IsHeldAs xs e.mode e.name) es → AllByRecursion (λ e. IsHeldAs (xs ++ ys) e.mode e.name) es
      entries_left xs ys [] h = tt
      entries_left xs ys (e ∷ es) h = (entry_left xs ys e.mode e.name h.0, entries_left xs ys es h.1)

      parents_left : (xs ys : List Record) (ns : List Bytes) → AllByRecursion (Holds xs kind.Commit) ns → AllByRecursion (Holds (xs ++ ys) kind.Commit) ns
      parents_left xs ys [] h = tt
      parents_left xs ys (n ∷ ns) h = (some_left _ xs ys h.0, parents_left xs ys ns h.1)

      more : (xs ys : List Record) (k : Kind) (body : Bytes) → IsLinked xs k body → IsLinked (xs ++ ys) k body
      more xs ys kind.Blob body l = tt
      more xs ys kind.Tree body (es, t, h) = (es, t, entries_left xs ys es h)
      more xs ys kind.Commit body (p, t, h, hs) = (p, t, some_left _ xs ys h, parents_left xs ys p.parents hs)
      more xs ys kind.Tag body (p, t, h) = (p, t, some_left _ xs ys h)

      linked_left : (xs ys all : List Record) → all ≡ xs ++ ys → (k : Kind) (body : Bytes) → IsLinked xs k body → IsLinked all k body
      linked_left xs ys all e k body l = subst (λ z. IsLinked z k body) (sym e) (more xs ys k body l)
