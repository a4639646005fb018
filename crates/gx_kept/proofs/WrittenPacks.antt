-- A pack of objects that are marked: its head, the entries, and the digest of all that.
use Rattle.std.proofs.Common.{◌≡◌, ℕ, List, [], ◌++◌, append_assoc, length, Option, Some, None, Ok, Err, sym, ap, ◌∙◌, subst}
use Rattle.std.specs.Prelude.{IfSome, Bool}
use Rattle.std.proofs.lemmas.List.{length-map}
use Rattle.sha1.specs.Sha1.{Holds, sha1}
use Rattle.gx_model.specs.declared.objects.Kind.{Kind}
use Rattle.gx_model.specs.Histories.{Records, object_of}
use Rattle.gx_model.specs.Texts.{Bytes}
use Rattle.gx_model.specs.Texts.Sinks.{FailedWithin, Took}
use Rattle.gx_model.proofs.Texts.SentTexts.{failed_after, failed_longer, took_both}
use Rattle.gx_store.specs.Marked.{marked}
use Rattle.gx_listed.specs.Listings.{Listed, ListsIfTold}
use Rattle.gx_text.specs.declared.device.Failed.{Failed}
use Rattle.gx_pack.specs.Packs.{Object, pack_front, pack_head, pack_text}
use Rattle.gx_pack.specs.Writing.{Sent, Writes, WritesDigest}
use Rattle.gx_pack.proofs.Pieces.{writes_both}
use Rattle.gx_kept.specs.Faults.{Stops}
use Rattle.gx_kept.specs.declared.fault.KeptFault.{KeptFault}
use Rattle.gx_kept.specs.declared.fault.KeptFault.TheVariants.{WriteFailed}
use Rattle.gx_kept.proofs.SentRecords.{left_stops}
use Rattle.gx_kept.proofs.Spreading.{all_listed}
use Rattle.gx_kept.proofs.Stopping.{then_told}
use Rattle.gx_kept.proofs.Weights.{marked_long}
use Rattle.gx_kept.specs.Bundling.{HaveNames, WritesObjects, WritesPack, entries, kept_of, name_for}

-- as many objects go out as are listed and marked
sent_long : (name : Kind → Bytes → Bytes) (listed : List Listed) (sent : List Object) → HaveNames name listed sent → length sent ≡ length listed
sent_long name listed sent named = sym (length-map sent (name_for name)) ∙ ap length named ∙ length-map listed (λ one. one.0.bytes)

-- and as many are kept of what is told
kept_long : (marks : List Bool) (listed : List Listed) (r : Records) → length marks ≡ length listed → length listed ≡ length r.records → length (marked marks listed) ≡ length (kept_of marks r.records)
kept_long marks listed r long same =
    marked_long marks listed long ∙ sym (marked_long marks r.records (long ∙ same)) ∙ sym (length-map (marked marks r.records) object_of)

module _ (name : Kind → Bytes → Bytes) (stands : ℕ → ℕ) (told : Option Records) (listed : List Listed) (marks : List Bool) (lists : ListsIfTold told stands listed)
    (long : length marks ≡ length listed) (count : ℕ) (counted : count ≡ length (marked marks listed)) (was : Sent) where
  -- so many objects are kept of what is told
  count_told : IfSome told (λ r. count ≡ length (kept_of marks r.records))
  count_told = then_told told (λ r. length listed ≡ length r.records) (λ r. count ≡ length (kept_of marks r.records)) (λ r same. counted ∙ kept_long marks listed r long same) (all_listed stands told listed lists)

  -- the sink fails within the head
  pub head_fails : (first : Sent) (e : Failed) → Writes was first (pack_head count) (Err e) → WritesPack name told listed marks was first (Err WriteFailed)
  head_fails first e h = (
    h.0,
    then_told told (λ r. count ≡ length (kept_of marks r.records)) (λ r. FailedWithin was.taken first.taken (pack_text sha1 (kept_of marks r.records)))
        (λ r is. failed_longer was.taken first.taken (pack_front (kept_of marks r.records)) (sha1 (pack_front (kept_of marks r.records)))
        (failed_longer was.taken first.taken (pack_head (length (kept_of marks r.records))) (entries (kept_of marks r.records)) (subst (λ n. FailedWithin was.taken first.taken (pack_head n)) is h.1))) count_told,
  )

  module _ (first : Sent) (head : Writes was first (pack_head count) (Ok tt)) where
    -- the entries stop
    pub entries_stop : (second : Sent) (fault : KeptFault) → WritesObjects name told listed marks first second (Err fault) → WritesPack name told listed marks was second (Err fault)
    entries_stop second fault h = (h.0 ∙ head.0, by told count_told h.1)
      where
        by : (o : Option Records) → IfSome o (λ r. count ≡ length (kept_of marks r.records)) → IfSome o (λ r. Stops (entries (kept_of marks r.records)) first.taken second.taken fault)
            → IfSome o (λ r. Stops (pack_text sha1 (kept_of marks r.records)) was.taken second.taken fault)
        by None is stop = tt
        by (Some r) is stop =
            let kept = kept_of marks r.records in
            let begin = pack_head (length kept) in
            let end = sha1 (pack_front kept) in
            left_stops (pack_text sha1 kept) was.taken first.taken second.taken (entries kept) end fault
            (record { front = begin; parts = append_assoc begin (entries kept) end; took = subst (λ n. Took was.taken first.taken (pack_head n)) is head.1.0 }) stop

    module _ (second : Sent) (wrote : WritesObjects name told listed marks first second (Ok tt)) (digested : Holds was.hasher []) where
      abbrev sent : List Object
      sent = wrote.0

      is_many : count ≡ length sent
      is_many = counted ∙ sym (sent_long name (marked marks listed) sent wrote.1)

      both : Writes was second (pack_head count ++ entries sent) (Ok tt)
      both = writes_both (pack_head count) (entries sent) was first second (Ok tt) head wrote.2

      front_took : Took was.taken second.taken (pack_front sent)
      front_took = subst (λ n. Took was.taken second.taken (pack_head n ++ entries sent)) is_many both.1.0

      front_held : Holds second.hasher (pack_front sent)
      front_held = subst (λ n. Holds second.hasher (pack_head n ++ entries sent)) is_many (both.1.1 [] digested)

      -- the sink fails within the digest
      pub end_fails : (third : Sent) (e : Failed) → WritesDigest second third (Err e) → WritesPack name told listed marks was third (Err WriteFailed)
      end_fails third e h = (
        h.0 ∙ both.0,
        then_told told (λ r. sent ≡ kept_of marks r.records) (λ r. FailedWithin was.taken third.taken (pack_text sha1 (kept_of marks r.records)))
            (λ r is. subst (λ os. FailedWithin was.taken third.taken (pack_text sha1 os)) is
            (failed_after was.taken second.taken third.taken (pack_front sent) (sha1 (pack_front sent)) front_took (h.1 (pack_front sent) front_held))) wrote.3,
      )

      -- the pack went out
      pub pack_went : (third : Sent) → WritesDigest second third (Ok tt) → WritesPack name told listed marks was third (Ok tt)
      pack_went third h = (
        h.0 ∙ both.0,
        (sent, wrote.1, took_both was.taken second.taken third.taken (pack_front sent) (sha1 (pack_front sent)) front_took (h.1 (pack_front sent) front_held), wrote.3),
      )
