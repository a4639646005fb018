-- The entries of objects that are marked, as they go out one after the other.
use Rattle.std.proofs.Common.{◌≡◌, ℕ, ◌+◌, ◌≤◌, Bool, true, false, List, [], ◌∷◌, ◌++◌, append_assoc, append-nil, drop, get_or, length, map, Option, Some, None, Ok, refl, sym, ap, ◌∙◌, subst}
use Rattle.std.specs.Prelude.{IfSome}
use Rattle.std.specs.List.{slice_get}
use Rattle.std.proofs.lemmas.List.{drop_all, map-append}
use Rattle.gx_model.specs.declared.objects.Kind.{Kind}
use Rattle.gx_model.specs.Histories.{Record, Records, object_of}
use Rattle.gx_model.specs.Records.Growth.{record_named}
use Rattle.gx_model.specs.Records.Sound.{IsSound}
use Rattle.gx_model.specs.Texts.{Bytes}
use Rattle.gx_model.specs.Texts.Sinks.{FailedWithin, Taken}
use Rattle.gx_object.specs.declared.name.Name.{Name}
use Rattle.gx_objects.specs.Answers.{IsHeldThere}
use Rattle.gx_objects.specs.declared.objects.Object.{Object as Lent}
use Rattle.gx_store.specs.Marked.{marked}
use Rattle.gx_listed.specs.Listings.{Listed, ListsIfTold}
use Rattle.gx_pack.specs.Packs.{Object, entry_text}
use Rattle.gx_pack.specs.Writing.{Sent, Writes}
use Rattle.gx_pack.proofs.Pieces.{writes_both, writes_none}
use Rattle.gx_kept.specs.Faults.{Stops}
use Rattle.gx_kept.specs.declared.fault.KeptFault.{KeptFault}
use Rattle.gx_kept.specs.declared.fault.KeptFault.TheVariants.{WriteFailed}
use Rattle.gx_kept.proofs.SentObjects.{IsOwn, is_told, its_record, own_told}
use Rattle.gx_kept.proofs.SentRecords.{left_stops}
use Rattle.gx_kept.proofs.Spreading.{both_told}
use Rattle.gx_kept.proofs.Stopping.{then_told}
use Rattle.gx_kept.proofs.Weights.{marked_on, marked_past}
use Rattle.gx_kept.specs.Bundling.{HaveNames, entries, kept_of, name_for}

entries_more : (objects more : List Object) → entries (objects ++ more) ≡ entries objects ++ entries more
entries_more [] more = refl
entries_more (o ∷ os) more = ap (λ t. entry_text o ++ t) (entries_more os more) ∙ sym (append_assoc (entry_text o) (entries os) (entries more))

module _ (name : Kind → Bytes → Bytes) (told : Option Records) (listed : List Listed) (marks : List Bool) (was : Sent) where
  -- the names under which objects are listed
  abbrev names : List Listed → List Bytes
  names = map (λ one. one.0.bytes)

  -- these went out, each with its name; with those that are marked from a number on they are all
  pub record AreWritten (i : ℕ) (now : Sent) : Type 0 where
    pub sent : List Object
    pub named : map (name_for name) sent ++ names (marked (drop i marks) (drop i listed)) ≡ names (marked marks listed)
    pub wrote : Writes was now (entries sent) (Ok tt)
    pub told_so : IfSome told (λ r. sent ++ kept_of (drop i marks) (drop i r.records) ≡ kept_of marks r.records)

  none_told : IfSome told (λ r. [] ++ kept_of (drop 0 marks) (drop 0 r.records) ≡ kept_of marks r.records)
  none_told = by told
    where
      by : (o : Option Records) → IfSome o (λ r. [] ++ kept_of (drop 0 marks) (drop 0 r.records) ≡ kept_of marks r.records)
      by None = tt
      by (Some r) = refl

  -- before the first, none did
  pub none_written : AreWritten 0 was
  none_written = record { sent = []; named = refl; wrote = writes_none was; told_so = none_told }

  module _ (i : ℕ) (now : Sent) (h : AreWritten i now) (one : Listed) (at : slice_get listed i ≡ Some one) where
    -- one that isn't marked is passed
    pub past_written : get_or marks i false ≡ false → IfSome told (λ r. (held : Record) × (slice_get r.records i ≡ Some held)) → AreWritten (i + 1) now
    past_written mark there = record {
      sent = h.sent;
      named = ap (λ xs. map (name_for name) h.sent ++ names xs) (sym (marked_past marks listed i one at mark)) ∙ h.named;
      wrote = h.wrote;
      told_so = by told h.told_so there;
    }
      where
        by : (o : Option Records) → IfSome o (λ r. h.sent ++ kept_of (drop i marks) (drop i r.records) ≡ kept_of marks r.records) → IfSome o (λ r. (held : Record) × (slice_get r.records i ≡ Some held))
            → IfSome o (λ r. h.sent ++ kept_of (drop (i + 1) marks) (drop (i + 1) r.records) ≡ kept_of marks r.records)
        by None k t = tt
        by (Some r) k t = ap (λ xs. h.sent ++ map object_of xs) (sym (marked_past marks r.records i t.0 t.1 mark)) ∙ k

    -- one that is marked goes out
    pub one_written : (object : Object) (new : Sent) → get_or marks i false ≡ true → name_for name object ≡ one.0.bytes → Writes now new (entry_text object) (Ok tt)
        → IfSome told (λ r. (held : Record) × (slice_get r.records i ≡ Some held) × (object_of held ≡ object)) → AreWritten (i + 1) new
    one_written object new mark called wrote there =
        let left = names (marked (drop (i + 1) marks) (drop (i + 1) listed)) in
        let before = map (name_for name) h.sent in
        record {
          sent = h.sent ++ object ∷ [];
          named = ap (λ xs. xs ++ left) (map-append (name_for name) h.sent (object ∷ []))
              ∙ append_assoc before (name_for name object ∷ []) left
              ∙ ap (λ x. before ++ x ∷ left) called
              ∙ ap (λ xs. before ++ names xs) (sym (marked_on marks listed i one at mark)) ∙ h.named;
          wrote = subst (λ t. Writes was new t (Ok tt)) (ap (λ t. entries h.sent ++ t) (sym (append-nil (entry_text object))) ∙ sym (entries_more h.sent (object ∷ [])))
              (writes_both (entries h.sent) (entry_text object) was now new (Ok tt) h.wrote wrote);
          told_so = by told h.told_so there;
        }
      where
        by : (o : Option Records) → IfSome o (λ r. h.sent ++ kept_of (drop i marks) (drop i r.records) ≡ kept_of marks r.records)
            → IfSome o (λ r. (held : Record) × (slice_get r.records i ≡ Some held) × (object_of held ≡ object))
            → IfSome o (λ r. (h.sent ++ object ∷ []) ++ kept_of (drop (i + 1) marks) (drop (i + 1) r.records) ≡ kept_of marks r.records)
        by None k t = tt
        by (Some r) k t =
            let rest = kept_of (drop (i + 1) marks) (drop (i + 1) r.records) in
            append_assoc h.sent (object ∷ []) rest ∙ ap (λ x. h.sent ++ x ∷ rest) (sym t.2) ∙ ap (λ xs. h.sent ++ map object_of xs) (sym (marked_on marks r.records i t.0 t.1 mark)) ∙ k

    -- where one stops, so does the whole
    pub one_stops : (new : Sent) (fault : KeptFault) → get_or marks i false ≡ true
        → IfSome told (λ r. (held : Record) × (slice_get r.records i ≡ Some held) × Stops (entry_text (object_of held)) now.taken new.taken fault)
        → IfSome told (λ r. Stops (entries (kept_of marks r.records)) was.taken new.taken fault)
    one_stops new fault mark there = by told h.told_so there
      where
        by : (o : Option Records) → IfSome o (λ r. h.sent ++ kept_of (drop i marks) (drop i r.records) ≡ kept_of marks r.records)
            → IfSome o (λ r. (held : Record) × (slice_get r.records i ≡ Some held) × Stops (entry_text (object_of held)) now.taken new.taken fault)
            → IfSome o (λ r. Stops (entries (kept_of marks r.records)) was.taken new.taken fault)
        by None k t = tt
        by (Some r) k t =
            let rest = kept_of (drop (i + 1) marks) (drop (i + 1) r.records) in
            let whole : entries (kept_of marks r.records) ≡ entries h.sent ++ (entry_text (object_of t.0) ++ entries rest) =
            ap entries (sym k) ∙ entries_more h.sent (kept_of (drop i marks) (drop i r.records)) ∙ ap (λ xs. entries h.sent ++ entries (map object_of xs)) (marked_on marks r.records i t.0 t.1 mark) in
            left_stops (entries (kept_of marks r.records)) was.taken now.taken new.taken (entry_text (object_of t.0)) (entries rest) fault
            (record { front = entries h.sent; parts = whole; took = h.wrote.1.0 }) t.2

  -- behind the last, all did
  pub all_written : (i : ℕ) (now : Sent) → AreWritten i now → length listed ≤ i → IfSome told (λ r. length listed ≡ length r.records)
      → (sent : List Object) × HaveNames name (marked marks listed) sent × Writes was now (entries sent) (Ok tt) × IfSome told (λ r. sent ≡ kept_of marks r.records)
  all_written i now h last same = (
    h.sent,
    sym (append-nil (map (name_for name) h.sent)) ∙ ap (λ xs. map (name_for name) h.sent ++ names (marked (drop i marks) xs)) (sym (drop_all i listed last)) ∙ h.named,
    h.wrote,
    by told h.told_so same,
  )
    where
      by : (o : Option Records) → IfSome o (λ r. h.sent ++ kept_of (drop i marks) (drop i r.records) ≡ kept_of marks r.records) → IfSome o (λ r. length listed ≡ length r.records) → IfSome o (λ r. h.sent ≡ kept_of marks r.records)
      by None k l = tt
      by (Some r) k l = sym (append-nil h.sent) ∙ ap (λ xs. h.sent ++ kept_of (drop i marks) xs) (sym (drop_all i r.records (subst (λ n. n ≤ i) l last))) ∙ k

-- ---- one object

module _ (called : Name) (object : Lent) (told : Option Records) (there : IfSome told (λ r. IsHeldThere called.bytes r object)) where
  -- where the sink fails within its entry, it fails within that of the repository's
  pub object_fails : (was now : Option Taken) → FailedWithin was now (entry_text (object.kind, object.body.now))
      → IfSome told (λ r. (held : Record) → record_named r.records called.bytes ≡ Some held → Stops (entry_text (object_of held)) was now WriteFailed)
  object_fails was now failed = then_told told (λ r. record_named r.records called.bytes ≡ Some (its_record called object))
      (λ r. (held : Record) → record_named r.records called.bytes ≡ Some held → Stops (entry_text (object_of held)) was now WriteFailed)
      (λ r is held e. let same : its_record called object ≡ held = cc in subst (λ (x : Record). FailedWithin was now (entry_text (object_of x))) same failed)
      (is_told called object told there)

module _ (name : Kind → Bytes → Bytes) (stands : ℕ → ℕ) (told : Option Records) (listed : List Listed) (sound : IfSome told (IsSound name)) (lists : ListsIfTold told stands listed)
    (number : ℕ) (one : Listed) (at : Some one ≡ slice_get listed number) where
  abbrev Own : Records → Type 0
  Own = IsOwn name stands told listed sound lists number one at

  -- what its name leads to stands there
  pub object_there : (object : Object) → IfSome told (λ r. record_named r.records one.0.bytes ≡ Some (record { name = one.0.bytes; kind = object.0; body = object.1 }))
      → IfSome told (λ r. (held : Record) × (slice_get r.records number ≡ Some held) × (object_of held ≡ object))
  object_there object leads = both_told told Own (λ r. record_named r.records one.0.bytes ≡ Some (record { name = one.0.bytes; kind = object.0; body = object.1 }))
      (λ r. (held : Record) × (slice_get r.records number ≡ Some held) × (object_of held ≡ object))
      (λ r h e. let same : ◌≡◌ {A = Record} h.held (record { name = one.0.bytes; kind = object.0; body = object.1 }) = let own = h.own in cc in (h.held, h.here, ap object_of same))
      (own_told name stands told listed sound lists number one at) leads

  -- where its entry stops, that of the repository's does
  pub entry_stops : (was now : Option Taken) (fault : KeptFault) → IfSome told (λ r. (held : Record) → record_named r.records one.0.bytes ≡ Some held → Stops (entry_text (object_of held)) was now fault)
      → IfSome told (λ r. (held : Record) × (slice_get r.records number ≡ Some held) × Stops (entry_text (object_of held)) was now fault)
  entry_stops was now fault stops = both_told told Own (λ r. (held : Record) → record_named r.records one.0.bytes ≡ Some held → Stops (entry_text (object_of held)) was now fault)
      (λ r. (held : Record) × (slice_get r.records number ≡ Some held) × Stops (entry_text (object_of held)) was now fault) (λ r h s. (h.held, h.here, s h.held h.own))
      (own_told name stands told listed sound lists number one at) stops
