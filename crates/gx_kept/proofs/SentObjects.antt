-- An object that goes out: it is the record of the repository that is told.
use Rattle.std.proofs.Common.{◌≡◌, ℕ, Bool, true, false, length, Option, Some, None, refl, sym, ap, ◌∙◌, subst}
use Rattle.std.specs.Prelude.{IfSome, IsTrue, ◌↔◌, List}
use Rattle.std.specs.List.{slice_get}
use Rattle.std.specs.Option.{option_map}
use Rattle.std.proofs.lemmas.Bool.{false≢true}
use Rattle.gx_model.specs.declared.objects.Kind.{Kind}
use Rattle.gx_model.specs.declared.store_versions.Version.TheVariants.{Two}
use Rattle.gx_model.specs.Histories.{Record, Records, object_of}
use Rattle.gx_model.specs.Records.Growth.{record_named}
use Rattle.gx_model.specs.Records.Sound.{IsSound}
use Rattle.gx_model.specs.Stores.StoreText.{stored_record}
use Rattle.gx_model.specs.Texts.{Bytes}
use Rattle.gx_model.specs.Texts.Sinks.{FailedWithin, Taken}
use Rattle.gx_model.proofs.Records.HeldObjects.{named_so}
use Rattle.gx_object.specs.declared.name.Name.{Name}
use Rattle.gx_objects.specs.Answers.{IsHeldThere, shown_object}
use Rattle.gx_objects.specs.declared.objects.Object.{Object}
use Rattle.gx_listed.specs.Listings.{Head, Listed, ListsIfTold, head_of, shown_head}
use Rattle.gx_listed.specs.declared.listing.Standing.{Standing}
use Rattle.gx_kept.specs.Faults.{Stops}
use Rattle.gx_kept.specs.Sending.{IsKnown}
use Rattle.gx_kept.specs.declared.fault.KeptFault.{KeptFault}
use Rattle.gx_kept.specs.declared.fault.KeptFault.TheVariants.{WriteFailed}
use Rattle.gx_kept.proofs.ListedRecords.{own_record}
use Rattle.gx_kept.proofs.Spreading.{IsRecordOf, both_told, record_told, untold}
use Rattle.gx_kept.proofs.Stopping.{then_told}

-- ---- one object

module _ (called : Name) (object : Object) where
  -- its record, under the name that was asked for
  abbrev pub its_record : Record
  its_record = record { name = called.bytes; kind = object.kind; body = object.body.now }

  -- that is the one that is told
  pub record_is : (r : Records) → IsHeldThere called.bytes r object → record_named r.records called.bytes ≡ Some its_record
  record_is r there = by (record_named r.records called.bytes) (named_so r.records called.bytes) there
    where
      by : (o : Option Record) → ((held : Record) → o ≡ Some held → held.name ≡ called.bytes) → option_map shown_object (Some object) ≡ option_map object_of o → o ≡ Some its_record
      by None named h = absurd (cc)
      by (Some held) named h =
          let name : held.name ≡ called.bytes = named held refl in
          let is : object_of held ≡ (object.kind, object.body.now) = cc in
          λ i. Some (record { name = name i; kind = (is i).0; body = (is i).1 })

  module _ (told : Option Records) (there : IfSome told (λ r. IsHeldThere called.bytes r object)) where
    pub is_told : IfSome told (λ r. record_named r.records called.bytes ≡ Some its_record)
    is_told = then_told told (λ r. IsHeldThere called.bytes r object) (λ r. record_named r.records called.bytes ≡ Some its_record) record_is there

    -- where the sink fails within its record, it fails within that of the repository
    pub object_fails : (was now : Option Taken) → FailedWithin was now (stored_record Two its_record)
        → IfSome told (λ r. (held : Record) → record_named r.records called.bytes ≡ Some held → Stops (stored_record Two held) was now WriteFailed)
    object_fails was now failed = then_told told (λ r. record_named r.records called.bytes ≡ Some its_record)
        (λ r. (held : Record) → record_named r.records called.bytes ≡ Some held → Stops (stored_record Two held) was now WriteFailed)
        (λ r is held e. let same : its_record ≡ held = cc in subst (λ (x : Record). FailedWithin was now (stored_record Two x)) same failed) is_told

    -- it is of the kind and the length that are known of it
    pub known_so : (standing : Standing) → IfSome told (IsKnown called standing) → (answer : Bool) → (IsTrue answer ↔ (object.kind ≡ standing.kind) × (length object.body.now ≡ standing.length)) → answer ≡ false → told ≡ None
    known_so standing known answer means other = untold told (both_told told (λ r. record_named r.records called.bytes ≡ Some its_record) (IsKnown called standing) (λ r. ⊥)
        (λ r is k.
        let head : head_of its_record ≡ shown_head (called, standing) = k its_record is in
        false≢true (sym other ∙ means.1 (ap (λ (x : Head). x.kind) head, ap (λ (x : Head). x.size) head))) is_told known)
    -- and so it is listed

  pub listed_so : (standing : Standing) (answer : Bool) → (IsTrue answer ↔ (object.kind ≡ standing.kind) × (length object.body.now ≡ standing.length)) → answer ≡ true → head_of its_record ≡ shown_head (called, standing)
  listed_so standing answer means same = let p = means.0 same in λ i. record { name = called.bytes; kind = p.0 i; size = p.1 i }

-- ---- the object of a number

module _ (name : Kind → Bytes → Bytes) (stands : ℕ → ℕ) (told : Option Records) (listed : List Listed) (sound : IfSome told (IsSound name)) (lists : ListsIfTold told stands listed)
    (number : ℕ) (one : Listed) (at : Some one ≡ slice_get listed number) where
  -- its record, which its name leads to
  pub record IsOwn (r : Records) : Type 0 where
    pub held : Record
    pub here : slice_get r.records number ≡ Some held
    pub head : head_of held ≡ shown_head one
    pub own : record_named r.records one.0.bytes ≡ Some held

  pub own_told : IfSome told IsOwn
  own_told = then_told told (IsRecordOf name stands told listed sound lists number one at) IsOwn (λ r h. record {
    held = h.held;
    here = h.here;
    head = sym h.head;
    own = subst (λ n. record_named r.records n ≡ Some h.held) (ap (λ (x : Head). x.name) (sym h.head)) (own_record r.records number h.held h.sound_is.distinct h.here);
  }) (record_told name stands told listed sound lists number one at)

  -- this is known of it
  pub known_told : IfSome told (IsKnown one.0 one.1)
  known_told = then_told told IsOwn (IsKnown one.0 one.1) (λ r h held e. let same : h.held ≡ held = let own = h.own in cc in ap head_of (sym same) ∙ h.head) own_told

  pub stands_told : IfSome told (λ r. (held : Record) × (slice_get r.records number ≡ Some held))
  stands_told = then_told told IsOwn (λ r. (held : Record) × (slice_get r.records number ≡ Some held)) (λ r h. (h.held, h.here)) own_told

  -- what its name leads to stands there
  pub there_told : (held : Record) → IfSome told (λ r. record_named r.records one.0.bytes ≡ Some held) → IfSome told (λ r. slice_get r.records number ≡ Some held)
  there_told held leads = both_told told IsOwn (λ r. record_named r.records one.0.bytes ≡ Some held) (λ r. slice_get r.records number ≡ Some held)
      (λ r h e. let same : h.held ≡ held = let own = h.own in cc in h.here ∙ ap Some same) own_told leads

  -- where its record stops, that of the repository does
  pub stops_told : (was now : Option Taken) (fault : KeptFault) → IfSome told (λ r. (held : Record) → record_named r.records one.0.bytes ≡ Some held → Stops (stored_record Two held) was now fault)
      → IfSome told (λ r. (held : Record) × (slice_get r.records number ≡ Some held) × Stops (stored_record Two held) was now fault)
  stops_told was now fault stops = both_told told IsOwn (λ r. (held : Record) → record_named r.records one.0.bytes ≡ Some held → Stops (stored_record Two held) was now fault)
      (λ r. (held : Record) × (slice_get r.records number ≡ Some held) × Stops (stored_record Two held) was now fault) (λ r h s. (h.held, h.here, s h.held h.own)) own_told stops
