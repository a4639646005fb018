-- The growing text of the objects that are marked, as far as it went out.
use Rattle.std.proofs.Common.{◌≡◌, ℕ, ◌<◌, ◌^◌, Bool, List, codes, length, Option, Some, None, Ok, Err, subst}
use Rattle.std.specs.Prelude.{IfSome}
use Rattle.std.specs.List.{filter, flat_map}
use Rattle.sha2.specs.Sha256.{sha256}
use Rattle.gx_model.specs.declared.objects.Kind.{Kind}
use Rattle.gx_model.specs.declared.store_versions.Version.TheVariants.{Two}
use Rattle.gx_model.specs.Histories.{Records}
use Rattle.gx_model.specs.Objects.{IsNamer, line}
use Rattle.gx_model.specs.Records.Sound.{IsSound}
use Rattle.gx_model.specs.Stores.StoreText.{stored_record, stored_ref}
use Rattle.gx_model.specs.Texts.{Bytes}
use Rattle.gx_model.specs.Texts.Numbers.{number_text}
use Rattle.gx_model.specs.Texts.Sinks.{FailedWithin, Taken, Took}
use Rattle.gx_model.proofs.Texts.SentTexts.{less_left}
use Rattle.gx_kept.proofs.MarkedTips.{refs_are}
use Rattle.gx_objects.specs.Answers.{SpellsRefs}
use Rattle.gx_store.specs.Marked.{marked}
use Rattle.gx_growing.specs.GrowingText.{growing_text}
use Rattle.gx_growing_parts.specs.Shown.{shown_slot}
use Rattle.gx_growing_file.proofs.SentGrowing.{table}
use Rattle.gx_growing_file.specs.Sending.{LaysOut}
use Rattle.gx_growing_file.specs.declared.sending.Layout.{Layout}
use Rattle.gx_listed.specs.Listings.{HaveHeads, Listed, ListsIfTold}
use Rattle.gx_kept.specs.Faults.{Stops}
use Rattle.gx_kept.specs.Layouts.{LaysOutMarked}
use Rattle.gx_kept.specs.Sending.{AreNamed, SendsRecords, left_of}
use Rattle.gx_kept.specs.declared.fault.KeptFault.{KeptFault}
use Rattle.gx_kept.specs.declared.fault.KeptFault.TheVariants.{WriteFailed}
use Rattle.gx_kept.proofs.SentMarked.{as_many, count_fails, count_went, head_fails, laid_head, laid_short, laid_table, records_part, table_fails, table_went}
use Rattle.gx_kept.proofs.SentRecords.{left_stops}
use Rattle.gx_kept.proofs.Spreading.{both_told}
use Rattle.gx_kept.proofs.Stopping.{then_told}
use Rattle.gx_kept.proofs.Weights.{marked_heads}

module _ {A : Type 0} (name : Kind → Bytes → Bytes) (namer : IsNamer name) (stands : ℕ → ℕ) (told : Option Records) (listed : List Listed) (marks : List Bool) (lines : Bytes) (layout : Layout A)
    (laid : LaysOutMarked listed marks lines layout) (sound : IfSome told (IsSound name)) (lists : ListsIfTold told stands listed) (spelled : IfSome told (λ r. lines ≡ flat_map stored_ref r.refs)) (was : Option Taken) where
  -- the text that is wanted
  abbrev text : Records → Bytes
  text r = growing_text sha256 (left_of marks r)

  abbrev IsLaid : Records → Type 0
  IsLaid r = LaysOut (left_of marks r) layout × HaveHeads (marked marks listed) (marked marks r.records)

  laid_told : IfSome told IsLaid
  laid_told = by told sound lists spelled
    where
      by : (o : Option Records) → IfSome o (IsSound name) → ListsIfTold o stands listed → IfSome o (λ r. lines ≡ flat_map stored_ref r.refs)
          → IfSome o (λ r. LaysOut (left_of marks r) layout × HaveHeads (marked marks listed) (marked marks r.records))
      by None s l e = tt
      by (Some r) s l e =
          let heads = marked_heads marks listed r.records l.heads in
          (laid (marked marks r.records) heads r.refs (refs_are name namer r s) e, heads)

  pub short_told : IfSome told (λ r. length (text r) < 2 ^ 63)
  short_told = then_told told IsLaid (λ r. length (text r) < 2 ^ 63) (λ r l. laid_short (left_of marks r) layout l.0 was) laid_told

  pub head_stops : (first : Option Taken) → FailedWithin was first (laid_head (shown_slot layout.slot)) → IfSome told (λ r. Stops (text r) was first WriteFailed)
  head_stops first failed = then_told told IsLaid (λ r. Stops (text r) was first WriteFailed) (λ r l. head_fails (left_of marks r) layout l.0 was first failed) laid_told

  module _ (count : ℕ) (long : length marks ≡ length listed) (counted : count ≡ length (filter (λ mark. mark) marks)) (first second : Option Taken) (head : Took was first (laid_head (shown_slot layout.slot))) where
    pub count_stops : FailedWithin first second (line (codes "objects") (number_text count)) → IfSome told (λ r. Stops (text r) was second WriteFailed)
    count_stops failed = then_told told IsLaid (λ r. Stops (text r) was second WriteFailed)
        (λ r l. count_fails (left_of marks r) layout l.0 was first second count (as_many listed marks (marked marks r.records) count long l.1 counted) head failed) laid_told

    module _ (line_went : Took first second (line (codes "objects") (number_text count))) (third : Option Taken) where
      pub records_stop : (fault : KeptFault) → SendsRecords name told listed marks second third (Err fault) → IfSome told (λ r. Stops (text r) was third fault)
      records_stop fault stops = both_told told IsLaid (λ r. Stops (records_part (left_of marks r)) second third fault) (λ r. Stops (text r) was third fault)
          (λ r l s. left_stops (text r) was second third (records_part (left_of marks r)) (table (left_of marks r)) fault
          (count_went (left_of marks r) layout l.0 was first second count (as_many listed marks (marked marks r.records) count long l.1 counted) head line_went) s) laid_told stops

      module _ (sent : SendsRecords name told listed marks second third (Ok tt)) (tail : Bytes) (tail_is : tail ≡ layout.tail.items) (fourth : Option Taken) where
        -- the records that went out are those that are left
        went_told : IfSome told (λ r. Took second third (records_part (left_of marks r)))
        went_told = then_told told (λ r. sent.0 ≡ marked marks r.records) (λ r. Took second third (records_part (left_of marks r))) (λ r e. subst (λ kept. Took second third (flat_map (stored_record Two) kept)) e sent.3) sent.4

        pub table_stops : FailedWithin third fourth (laid_table layout count tail) → IfSome told (λ r. Stops (text r) was fourth WriteFailed)
        table_stops failed = both_told told IsLaid (λ r. Took second third (records_part (left_of marks r))) (λ r. Stops (text r) was fourth WriteFailed)
            (λ r l t.
            let many = as_many listed marks (marked marks r.records) count long l.1 counted in
            let left = less_left (text r) was second third (records_part (left_of marks r)) (table (left_of marks r)) (count_went (left_of marks r) layout l.0 was first second count many head line_went) t in
            table_fails (left_of marks r) layout l.0 was third fourth count tail many tail_is left failed) laid_told went_told

        pub all_went : Took third fourth (laid_table layout count tail) → IfSome told (λ r. Took was fourth (text r))
        all_went last = both_told told IsLaid (λ r. Took second third (records_part (left_of marks r))) (λ r. Took was fourth (text r))
            (λ r l t.
            let many = as_many listed marks (marked marks r.records) count long l.1 counted in
            let left = less_left (text r) was second third (records_part (left_of marks r)) (table (left_of marks r)) (count_went (left_of marks r) layout l.0 was first second count many head line_went) t in
            table_went (left_of marks r) layout l.0 was third fourth count tail many tail_is left last) laid_told went_told

        -- whatever is told, it is the text of records that have their names
        pub named_went : SpellsRefs lines → Took third fourth (laid_table layout count tail) → (kept : Records) × AreNamed name kept.records × Took was fourth (growing_text sha256 kept)
        named_went (refs, is, are) last =
            let kept : Records = record { records = sent.0; refs = refs } in
            let lays = laid sent.0 sent.1 refs are is in
            let many = as_many listed marks sent.0 count long sent.1 counted in
            let left = less_left (growing_text sha256 kept) was second third (records_part kept) (table kept) (count_went kept layout lays was first second count many head line_went) sent.3 in
            (kept, sent.2, table_went kept layout lays was third fourth count tail many tail_is left last)
