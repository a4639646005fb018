-- A growing text that goes out part by part, of which what stands around the records was laid out before.
use Rattle.std.proofs.Common.{◌≡◌, ℕ, ◌<◌, ◌^◌, List, [], ◌++◌, codes, length, append_assoc, append-nil, Option, sym, ◌∙◌, subst}
use Rattle.std.specs.Prelude.{Bool}
use Rattle.std.specs.List.{filter, flat_map}
use Rattle.sha2.specs.Sha256.{sha256}
use Rattle.gx_model.specs.declared.store_versions.Version.TheVariants.{Two}
use Rattle.gx_model.specs.Histories.{Record, Records}
use Rattle.gx_model.specs.Objects.{line}
use Rattle.gx_model.specs.Stores.StoreText.{stored_record}
use Rattle.gx_model.specs.Texts.{Bytes}
use Rattle.gx_model.specs.Texts.Numbers.{number_text}
use Rattle.gx_model.specs.Texts.Sinks.{FailedWithin, Taken, Took}
use Rattle.gx_model.proofs.Texts.SentTexts.{IsLeft, left_fails, less_left, took_both}
use Rattle.gx_store.specs.Marked.{marked}
use Rattle.gx_growing.specs.GrowingText.{Slot, growing_text, head_text, no_slot, rows_text, slot_text}
use Rattle.gx_growing_parts.specs.Shown.{shown_slot}
use Rattle.gx_growing_file.proofs.SentGrowing.{growing_left, growing_short, head, table}
use Rattle.gx_growing_file.specs.Sending.{LaysOut}
use Rattle.gx_growing_file.specs.declared.sending.Layout.{Layout}
use Rattle.gx_listed.specs.Listings.{HaveHeads, Listed}
use Rattle.gx_kept.proofs.ListedRecords.{same_length}
use Rattle.gx_kept.proofs.Weights.{marked_long}

-- as many records go out as marks stand
pub as_many : (listed : List Listed) (marks : List Bool) (records : List Record) (count : ℕ) → length marks ≡ length listed → HaveHeads (marked marks listed) records → count ≡ length (filter (λ mark. mark) marks) → count ≡ length records
as_many listed marks records count long heads is = is ∙ sym (marked_long marks listed long) ∙ same_length (marked marks listed) records heads

-- a head with a slot, which is picked
abbrev pub laid_head : Slot → Bytes
laid_head slot = head_text (codes "a") (slot_text slot) (slot_text no_slot)

-- a table of so many rows that was laid out, with a tail
abbrev pub laid_table : {A : Type 0} → Layout A → ℕ → Bytes → Bytes
laid_table layout count tail = rows_text count (layout.table.rows.items ++ layout.table.digests.items) tail

module _ (r : Records) where
  abbrev pub count_line : Bytes
  count_line = line (codes "objects") (number_text (length r.records))

  abbrev pub records_part : Bytes
  records_part = flat_map (stored_record Two) r.records

  begun : (was : Option Taken) → IsLeft (growing_text sha256 r) was was (head r ++ (count_line ++ (records_part ++ table r)))
  begun was = subst (λ t. IsLeft (growing_text sha256 r) was was (head r ++ t)) (append_assoc count_line records_part (table r)) (growing_left r was)

  module _ {A : Type 0} (layout : Layout A) (laid : LaysOut r layout) (was : Option Taken) where
    -- the head
    pub head_fails : (first : Option Taken) → FailedWithin was first (laid_head (shown_slot layout.slot)) → FailedWithin was first (growing_text sha256 r)
    head_fails first failed =
        left_fails (growing_text sha256 r) was was first (head r) (count_line ++ (records_part ++ table r)) (begun was)
        (subst (λ (s : Slot). FailedWithin was first (laid_head s)) laid.slot failed)

    pub head_went : (first : Option Taken) → Took was first (laid_head (shown_slot layout.slot)) → IsLeft (growing_text sha256 r) was first (count_line ++ (records_part ++ table r))
    head_went first took =
        less_left (growing_text sha256 r) was was first (head r) (count_line ++ (records_part ++ table r)) (begun was)
        (subst (λ (s : Slot). Took was first (laid_head s)) laid.slot took)

    -- the number of the records
    pub count_fails : (first second : Option Taken) (count : ℕ) → count ≡ length r.records → Took was first (laid_head (shown_slot layout.slot)) → FailedWithin first second (line (codes "objects") (number_text count))
        → FailedWithin was second (growing_text sha256 r)
    count_fails first second count is took failed =
        left_fails (growing_text sha256 r) was first second count_line (records_part ++ table r) (head_went first took)
        (subst (λ n. FailedWithin first second (line (codes "objects") (number_text n))) is failed)

    pub count_went : (first second : Option Taken) (count : ℕ) → count ≡ length r.records → Took was first (laid_head (shown_slot layout.slot)) → Took first second (line (codes "objects") (number_text count))
        → IsLeft (growing_text sha256 r) was second (records_part ++ table r)
    count_went first second count is took sent =
        less_left (growing_text sha256 r) was first second count_line (records_part ++ table r) (head_went first took)
        (subst (λ n. Took first second (line (codes "objects") (number_text n))) is sent)

    -- the table
    table_is : (count : ℕ) (tail : Bytes) → count ≡ length r.records → tail ≡ layout.tail.items → laid_table layout count tail ≡ table r
    table_is count tail is ends = λ i. rows_text (is i) (laid.rows i ++ laid.digests i) ((ends ∙ laid.tail) i)

    pub table_fails : (third fourth : Option Taken) (count : ℕ) (tail : Bytes) → count ≡ length r.records → tail ≡ layout.tail.items → IsLeft (growing_text sha256 r) was third (table r)
        → FailedWithin third fourth (laid_table layout count tail) → FailedWithin was fourth (growing_text sha256 r)
    table_fails third fourth count tail is ends left failed =
        left_fails (growing_text sha256 r) was third fourth (table r) [] (subst (IsLeft (growing_text sha256 r) was third) (sym (append-nil (table r))) left)
        (subst (FailedWithin third fourth) (table_is count tail is ends) failed)

    pub table_went : (third fourth : Option Taken) (count : ℕ) (tail : Bytes) → count ≡ length r.records → tail ≡ layout.tail.items → IsLeft (growing_text sha256 r) was third (table r)
        → Took third fourth (laid_table layout count tail) → Took was fourth (growing_text sha256 r)
    table_went third fourth count tail is ends left sent =
        subst (Took was fourth) (sym left.parts) (took_both was third fourth left.front (table r) left.took (subst (Took third fourth) (table_is count tail is ends) sent))

    -- all has fewer than 2^63 bytes
    pub laid_short : length (growing_text sha256 r) < 2 ^ 63
    laid_short = growing_short r (subst (λ (s : Slot). s.ends < 2 ^ 63) laid.slot laid.short)
