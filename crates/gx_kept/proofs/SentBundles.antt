-- A bundle that goes out part by part: what stands before its pack, and the pack.
use Rattle.std.proofs.Common.{◌≡◌, ℕ, ◌<◌, ◌≤◌, ◌^◌, List, [], ◌∷◌, ◌++◌, length, append-nil, codes, map, Option, Some, None, Result, Ok, Err, refl, sym, ap, ◌∙◌, subst}
use Rattle.std.specs.Prelude.{IfSome, Bool, IsTrue, T, ◌&&◌, true}
use Rattle.std.specs.Bool.{passes}
use Rattle.std.specs.List.{AllByRecursion, filter, flat_map, list_all}
use Rattle.std.proofs.lemmas.List.{length-map}
use Rattle.sha1.specs.Sha1.{sha1}
use Rattle.gx_model.specs.declared.objects.Kind.{Kind}
use Rattle.gx_model.specs.Histories.{Records, object_of}
use Rattle.gx_model.specs.Objects.{is_name}
use Rattle.gx_model.specs.Records.Publishing.{Ref}
use Rattle.gx_model.specs.Stores.StoreText.{stored_ref}
use Rattle.gx_model.specs.Texts.{Bytes}
use Rattle.gx_model.specs.Texts.RefNames.{is_ref_name}
use Rattle.gx_model.specs.Texts.Sinks.{FailedWithin, Taken, Took}
use Rattle.gx_model.proofs.Texts.PathTests.{both, is_true}
use Rattle.gx_model.proofs.Texts.SentTexts.{failed_longer, took_both}
use Rattle.gx_object.specs.Commits.{bytes_of_names}
use Rattle.gx_object.specs.Parts.{bytes_if}
use Rattle.gx_object.specs.declared.name.Name.{Name}
use Rattle.gx_store.specs.Marked.{marked}
use Rattle.gx_repo.specs.Pruning.{marks_by}
use Rattle.gx_repo.proofs.PrunedRecords.{marked_left}
use Rattle.gx_listed.specs.Listings.{Listed, ListsIfTold}
use Rattle.gx_text.specs.declared.device.Failed.{Failed}
use Rattle.gx_objects.specs.Answers.{AreRefs, SpellsRefs}
use Rattle.gx_pack.specs.BundleReading.{bundle_of}
use Rattle.gx_pack.specs.Bundles.{bundle_head, bundle_text}
use Rattle.gx_pack.specs.PackReading.{pack_of}
use Rattle.gx_pack.specs.Packs.{pack_text}
use Rattle.gx_pack.specs.Writing.{Sent}
use Rattle.gx_pack.proofs.BundlesRead.{bundles_are_read}
use Rattle.gx_pack.proofs.PacksRead.{packs_are_read}
use Rattle.gx_kept.specs.Bundling.{NamesPack, SendsObjects, SendsPackOf, WritesPack, kept_of}
use Rattle.gx_kept.specs.Faults.{Sends, Stops}
use Rattle.gx_kept.specs.Telling.{AreNames, IsReadAs, IsReadAsPack, OfRefs, SendsHead, SendsMarked, TellsNames, bundle_with, head_refs, is_sent, marked_with, reached_beyond, refs_with, sent_with, with_refs}
use Rattle.gx_kept.specs.declared.bundled.Bundled.{Bundled}
use Rattle.gx_kept.specs.declared.fault.KeptFault.{KeptFault}
use Rattle.gx_kept.specs.declared.fault.KeptFault.TheVariants.{WriteFailed}
use Rattle.gx_kept.proofs.SentRecords.{left_stops}
use Rattle.gx_kept.proofs.Spreading.{all_listed, both_told}
use Rattle.gx_kept.proofs.Stopping.{of_told, then_told}
use Rattle.gx_kept.proofs.Weights.{marked_long}

-- ---- a bundle of the objects that are marked

module _ (bundled : Bundled) (marks : List Bool) (was first : Option Taken) where
  abbrev head_of_bundle : List Ref → Bytes
  head_of_bundle refs = bundle_head (bytes_of_names bundled.had.now) (refs_with bundled refs)

  -- the sink fails before the pack
  pub head_stops : (told : Option Records) (failed : Failed) → SendsHead bundled was first (Err failed) → IfSome told (SendsMarked bundled marks was first (Err WriteFailed))
  head_stops told failed h = of_told told (SendsMarked bundled marks was first (Err WriteFailed)) (λ r refs are e.
      failed_longer was first (head_of_bundle refs) (pack_text sha1 (kept_of marks r.records)) (h refs are e))

  module _ (went : SendsHead bundled was first (Ok tt)) (name : Kind → Bytes → Bytes) (told : Option Records) (listed : List Listed) (now : Option Taken) where
    -- what comes of the pack comes of the bundle
    pub bundle_sent : (result : Result (Unit {0}) KeptFault) → SendsPackOf name told listed marks first now result → IfSome told (SendsMarked bundled marks was now result)
    bundle_sent (Ok done) h = then_told told (λ r. h.0 ≡ kept_of marks r.records) (SendsMarked bundled marks was now (Ok done)) (λ r k refs are e.
        took_both was first now (head_of_bundle refs) (pack_text sha1 (kept_of marks r.records)) (went refs are e) (subst (λ os. Took first now (pack_text sha1 os)) k h.2)) h.3
    bundle_sent (Err fault) h = then_told told (λ r. Stops (pack_text sha1 (kept_of marks r.records)) first now fault) (SendsMarked bundled marks was now (Err fault)) (λ r stops refs are e.
        let front = head_of_bundle refs in
        let pack = pack_text sha1 (kept_of marks r.records) in
        left_stops (front ++ pack) was first now pack [] fault (record { front = front; parts = ap (λ t. front ++ t) (sym (append-nil pack)); took = went refs are e }) stops) h

    -- and its objects have their names
    pub bundle_named : SpellsRefs bundled.refs.now → (result : Result (Unit {0}) KeptFault) → SendsPackOf name told listed marks first now result → SendsObjects name (marked marks listed) was now result
    bundle_named spelled (Ok done) h = (
      with_refs (bytes_of_names bundled.had.now) (bytes_if bundled.head) spelled.0 h.0,
      h.1,
      took_both was first now (head_of_bundle spelled.0) (pack_text sha1 h.0) (went spelled.0 spelled.2 spelled.1) h.2,
    )
    bundle_named spelled (Err fault) h = tt

-- ---- what refs reach, and what is had doesn't

-- these are the marks of what goes out
abbrev pub AreMarks : Bundled → List Bool → Records → Type 0
AreMarks bundled marks r = OfRefs bundled.refs.now (λ refs. marks ≡ marks_by (is_sent bundled refs r) r.records)

-- so what is kept goes out
kept_is : (bundled : Bundled) (refs : List Ref) (marks : List Bool) (r : Records) → marks ≡ marks_by (is_sent bundled refs r) r.records → kept_of marks r.records ≡ sent_with bundled refs r
unfolding reached_beyond
kept_is bundled refs marks r e = ap (map object_of) (ap (λ ms. marked ms r.records) e ∙ marked_left (is_sent bundled refs r) r.records)

module _ (told : Option Records) (bundled : Bundled) (marks : List Bool) (are : IfSome told (AreMarks bundled marks)) where
  -- what holds of the objects that are kept holds of those that go out
  pub of_sent : (P : Records → Type 0) (Q : List Ref → Records → Type 0) → ((r : Records) → P r → (refs : List Ref) → AreRefs refs → bundled.refs.now ≡ flat_map stored_ref refs → kept_of marks r.records ≡ sent_with bundled refs r → Q refs r)
      → IfSome told P → IfSome told (λ r. OfRefs bundled.refs.now (λ refs. Q refs r))
  of_sent P Q f = both_told told (AreMarks bundled marks) P (λ r. OfRefs bundled.refs.now (λ refs. Q refs r)) (λ r m p refs a e. f r p refs a e (kept_is bundled refs marks r (m refs a e))) are

  module _ (was now : Option Taken) where
    pub bundle_stops : (fault : KeptFault) → IfSome told (SendsMarked bundled marks was now (Err fault)) → IfSome told (λ r. OfRefs bundled.refs.now (λ refs. Stops (bundle_text sha1 (bundle_with bundled refs r)) was now fault))
    bundle_stops fault = of_sent (SendsMarked bundled marks was now (Err fault)) (λ refs r. Stops (bundle_text sha1 (bundle_with bundled refs r)) was now fault) (λ r h refs a e k.
        subst (λ os. Stops (bundle_text sha1 (with_refs (bytes_of_names bundled.had.now) (bytes_if bundled.head) refs os)) was now fault) k (h refs a e))

    pub bundle_went : IfSome told (SendsMarked bundled marks was now (Ok tt)) → IfSome told (λ r. OfRefs bundled.refs.now (λ refs. Took was now (bundle_text sha1 (bundle_with bundled refs r))))
    bundle_went = of_sent (SendsMarked bundled marks was now (Ok tt)) (λ refs r. Took was now (bundle_text sha1 (bundle_with bundled refs r))) (λ r h refs a e k.
        subst (λ os. Took was now (bundle_text sha1 (with_refs (bytes_of_names bundled.had.now) (bytes_if bundled.head) refs os))) k (h refs a e))

    module _ (name : Kind → Bytes → Bytes) (listed : List Listed) where
      pub pack_stops : (fault : KeptFault) → SendsPackOf name told listed marks was now (Err fault) → IfSome told (λ r. OfRefs bundled.refs.now (λ refs. Stops (pack_text sha1 (sent_with bundled refs r)) was now fault))
      pack_stops fault = of_sent (λ r. Stops (pack_text sha1 (kept_of marks r.records)) was now fault) (λ refs r. Stops (pack_text sha1 (sent_with bundled refs r)) was now fault) (λ r h refs a e k.
          subst (λ os. Stops (pack_text sha1 os) was now fault) k h)

      pub pack_went : SendsPackOf name told listed marks was now (Ok tt) → IfSome told (λ r. OfRefs bundled.refs.now (λ refs. Took was now (pack_text sha1 (sent_with bundled refs r))))
      pack_went h = of_sent (λ r. h.0 ≡ kept_of marks r.records) (λ refs r. Took was now (pack_text sha1 (sent_with bundled refs r))) (λ r s refs a e k.
          subst (λ os. Took was now (pack_text sha1 os)) (s ∙ k) h.2) h.3

  module _ (stands : ℕ → ℕ) (listed : List Listed) (lists : ListsIfTold told stands listed) (long : length marks ≡ length listed) where
    -- as many go out as are marked
    count_is : (r : Records) (refs : List Ref) → length listed ≡ length r.records → kept_of marks r.records ≡ sent_with bundled refs r → length (filter (λ mark. mark) marks) ≡ length (sent_with bundled refs r)
    count_is r refs same k = sym (length-map (marked marks r.records) object_of ∙ marked_long marks r.records (long ∙ same)) ∙ ap length k

    -- where too many are marked, too many would go out
    pub too_many : 2 ^ 32 ≤ length (filter (λ mark. mark) marks) → IfSome told (λ r. OfRefs bundled.refs.now (λ refs. 2 ^ 32 ≤ length (sent_with bundled refs r)))
    too_many large = of_sent (λ r. length listed ≡ length r.records) (λ refs r. 2 ^ 32 ≤ length (sent_with bundled refs r)) (λ r same refs a e k.
        subst (λ n. 2 ^ 32 ≤ n) (count_is r refs same k) large) (all_listed stands told listed lists)

    module _ (few : length (filter (λ mark. mark) marks) < 2 ^ 32) where
      few_sent : IfSome told (λ r. OfRefs bundled.refs.now (λ refs. length (sent_with bundled refs r) < 2 ^ 32))
      few_sent = of_sent (λ r. length listed ≡ length r.records) (λ refs r. length (sent_with bundled refs r) < 2 ^ 32) (λ r same refs a e k.
          subst (λ n. n < 2 ^ 32) (count_is r refs same k) few) (all_listed stands told listed lists)

      -- a pack is read as its objects
      pub pack_read : IfSome told (IsReadAsPack bundled (Ok tt))
      pack_read = then_told told (λ r. OfRefs bundled.refs.now (λ refs. length (sent_with bundled refs r) < 2 ^ 32)) (IsReadAsPack bundled (Ok tt)) (λ r short refs a e.
          packs_are_read.packs sha1 (sent_with bundled refs r) (short refs a e)) few_sent

      -- a bundle as what it tells
      pub bundle_read : TellsNames bundled → IfSome told (IsReadAs bundled (Ok tt))
      bundle_read names = then_told told (λ r. OfRefs bundled.refs.now (λ refs. length (sent_with bundled refs r) < 2 ^ 32)) (IsReadAs bundled (Ok tt)) (λ r short refs a e.
          bundles_are_read sha1 (bundle_with bundled refs r) (all_names bundled.had.now names.had) (objects_named bundled.head names.head refs a.objects) (refs_named (bytes_if bundled.head) refs a.names) (short refs a e)) few_sent
        where
          all_names : (called : List Name) → AreNames called → IsTrue (list_all is_name (bytes_of_names called))
          all_names [] h = refl
          all_names (x ∷ xs) h = is_true _ (both (is_name x.bytes) _ (passes _ h.0) (passes _ (all_names xs h.1)))

          refs_objects : (refs : List Ref) → AllByRecursion (λ ref. IsTrue (is_name ref.1)) refs → IsTrue (list_all (λ (ref : Ref). is_name ref.1) refs)
          refs_objects [] h = refl
          refs_objects (x ∷ xs) h = is_true _ (both (is_name x.1) _ (passes _ h.0) (passes _ (refs_objects xs h.1)))

          objects_named : (head : Option Name) → IfSome head (λ called. IsTrue (is_name called.bytes)) → (refs : List Ref) → AllByRecursion (λ ref. IsTrue (is_name ref.1)) refs → IsTrue (list_all (λ (ref : Ref). is_name ref.1) (head_refs (bytes_if head) ++ refs))
          objects_named None h refs k = refs_objects refs k
          objects_named (Some called) h refs k = is_true _ (both (is_name called.bytes) _ (passes _ h) (passes _ (refs_objects refs k)))

          refs_named : (head : Option Bytes) (refs : List Ref) → IsTrue (list_all (λ ref. is_ref_name ref.0) refs) → IsTrue (list_all (λ (ref : Ref). is_ref_name ref.0) (head_refs head ++ refs))
          refs_named None refs h = h
          refs_named (Some called) refs h = is_true _ (both (is_ref_name (codes "HEAD")) _ head_name (passes _ h))
            where
              head_name : T (is_ref_name (codes "HEAD"))
              head_name = tt

-- whatever is told, a pack's objects have their names
pub pack_names : (name : Kind → Bytes → Bytes) (told : Option Records) (listed : List Listed) (marks : List Bool) (was now : Option Taken) → SendsPackOf name told listed marks was now (Ok tt) → NamesPack name listed was now (Ok tt)
pack_names name told listed marks was now h = (marks, h.0, h.1, h.2)

-- ---- the sink that is given back

pub pack_begun : (name : Kind → Bytes → Bytes) (told : Option Records) (listed : List Listed) (marks : List Bool) (was now : Sent) (before : Option Taken) (result : Result (Unit {0}) KeptFault) → was.taken ≡ before → WritesPack name told listed marks was now result
    → SendsPackOf name told listed marks before now.taken result
pack_begun name told listed marks was now before result begins h = subst (λ (t : Option Taken). SendsPackOf name told listed marks t now.taken result) begins h.1

-- ---- what holds of each repository that is told

pub each_told : (told : Option Records) (P : Records → Type 0) → ((r : Records) → told ≡ Some r → P r) → IfSome told P
each_told None P f = tt
each_told (Some r) P f = f r refl

pub at_told : (told : Option Records) (P : Records → Type 0) (r : Records) → told ≡ Some r → IfSome told P → P r
at_told None P r e h = absurd cc
at_told (Some q) P r e h = let same : q ≡ r = cc in subst P same h
