-- The parts in which a growing text goes out, and how long it is.
use Rattle.std.proofs.Common.{◌≡◌, ℕ, suc, ◌+◌, ◌-◌, ◌<◌, ◌^◌, false, cond, refl, sym, ap, subst, arith, codes, List, [], ◌∷◌, ◌++◌, length, append_assoc, length-append, Option}
use Rattle.std.specs.Prelude.{nat_eq}
use Rattle.std.specs.Bool.{passes}
use Rattle.std.proofs.lemmas.Bool.Decides.{nat_tests}
use Rattle.std.specs.List.{flat_map}
use Rattle.sha2.specs.Sha256.{sha256}
use Rattle.gx_model.specs.declared.store_versions.Version.TheVariants.{Two}
use Rattle.gx_model.specs.Histories.{Record, Records}
use Rattle.gx_model.specs.Objects.{line}
use Rattle.gx_model.specs.Stores.StoreText.{stored_record}
use Rattle.gx_model.specs.Texts.{Bytes}
use Rattle.gx_model.specs.Texts.Numbers.{number_text}
use Rattle.gx_model.specs.Texts.Sinks.{Taken}
use Rattle.gx_model.proofs.Texts.SentTexts.{IsLeft, all_left}
use Rattle.gx_growing.specs.GrowingText.{Slot, first_rows, first_runs, first_segment, first_slot, growing_text, head_text, no_slot, page_digests, rows_place, rows_text, segment_text, slot_text, tail_text}
use Rattle.gx_growing.proofs.Fields.{AreFields}
use Rattle.gx_growing.proofs.ReadFronts.{head_long}
use Rattle.gx_growing.proofs.WrittenTexts.{slot_long}
use Rattle.gx_growing_parts.proofs.Digesters.{digester}
use Rattle.gx_growing_file.specs.Sending.{runs_from}

-- The run of all records is the one that a writer makes.
pub first_runs_are : (rs : List Record) → runs_from (rows_place rs) (length rs) (page_digests sha256 (first_rows rs)) ≡ first_runs sha256 rs
first_runs_are [] = refl
first_runs_are (r ∷ rs) =
    let some : nat_eq (length (r ∷ rs)) 0 ≡ false = grind (arith, nat_tests) in
    ap (λ b. cond b [] (record { place = rows_place (r ∷ rs); count = length (r ∷ rs); digest = sha256 (page_digests sha256 (first_rows (r ∷ rs))) } ∷ [])) some

module _ (r : Records) where
  abbrev slot : Slot
  slot = first_slot sha256 (first_segment sha256 r)

  -- the head of a repository's growing text
  abbrev pub head : Bytes
  head = head_text (codes "a") (slot_text slot) (slot_text no_slot)

  -- the line of its objects, and the objects
  abbrev pub objects : Bytes
  objects = line (codes "objects") (number_text (length r.records)) ++ flat_map (stored_record Two) r.records

  -- what follows its objects
  abbrev pub table : Bytes
  table = rows_text (length r.records) (first_rows r.records ++ page_digests sha256 (first_rows r.records)) (tail_text (first_runs sha256 r.records) r.refs)

  growing_parts : growing_text sha256 r ≡ head ++ (objects ++ table)
  unfolding growing_text
  growing_parts = ap (λ t. head ++ t) (sym (append_assoc (line (codes "objects") (number_text (length r.records))) (flat_map (stored_record Two) r.records) table))

  -- Before anything goes out, these three parts are left.
  pub growing_left : (was : Option Taken) → IsLeft (growing_text sha256 r) was was (head ++ (objects ++ table))
  growing_left was = subst (IsLeft (growing_text sha256 r) was was) growing_parts (all_left (growing_text sha256 r) was)

  -- The text is as short as its slot says.
  pub growing_short : slot.ends < 2 ^ 63 → length (growing_text sha256 r) < 2 ^ 63
  unfolding growing_text
  growing_short h =
      let segment = segment_text (first_segment sha256 r) in
      let fields : AreFields slot.ends slot.tail slot.digest = record { one = below slot.ends h; other = less slot.ends (length (tail_text (first_runs sha256 r.records) r.refs)) h; is = passes _ (digester (tail_text (first_runs sha256 r.records) r.refs)) } in
      let none : AreFields no_slot.ends no_slot.tail no_slot.digest = record { one = omega arith; other = omega arith; is = tt } in
      let long = head_long (codes "a") (slot_text slot) (slot_text no_slot) (record { one_byte = refl; of_first = slot_long slot fields; of_second = slot_long no_slot none }) in
      whole (length segment) (length head) (length (head ++ segment)) long (length-append head segment) h
    where
      below : (e : ℕ) → e < 2 ^ 63 → e < 2 ^ 64
      below e h = omega arith

      less : (e t : ℕ) → e < 2 ^ 63 → e - t < 2 ^ 64
      less e t h = omega arith

      whole : (s d t : ℕ) → d ≡ 226 → t ≡ d + s → 226 + s < 2 ^ 63 → t < 2 ^ 63
      whole s d t x y z = omega arith

  -- It ends where its last part does.
  pub growing_ends : rows_place r.records + length (first_rows r.records) + length (page_digests sha256 (first_rows r.records)) + 1 + length (tail_text (first_runs sha256 r.records) r.refs) ≡ slot.ends
  growing_ends =
      let records = flat_map (stored_record Two) r.records in
      let objects_line = line (codes "objects") (number_text (length r.records)) in
      let rows_line = line (codes "rows") (number_text (length r.records)) in
      let rows = first_rows r.records in
      let digests = page_digests sha256 rows in
      let tail = tail_text (first_runs sha256 r.records) r.refs in
      sums (length objects_line) (length records) (length rows_line) (length rows) (length digests) (length tail) (length (rows ++ digests)) (length ((rows ++ digests) ++ (10 ∷ tail)))
      (length (rows_line ++ ((rows ++ digests) ++ (10 ∷ tail)))) (length (records ++ (rows_line ++ ((rows ++ digests) ++ (10 ∷ tail))))) (length (segment_text (first_segment sha256 r)))
      (length-append rows digests) (length-append (rows ++ digests) (10 ∷ tail)) (length-append rows_line ((rows ++ digests) ++ (10 ∷ tail)))
      (length-append records (rows_line ++ ((rows ++ digests) ++ (10 ∷ tail)))) (length-append objects_line (records ++ (rows_line ++ ((rows ++ digests) ++ (10 ∷ tail)))))
    where
      sums : (o b w r d t x y z u s : ℕ) → x ≡ r + d → y ≡ x + suc t → z ≡ w + y → u ≡ b + z → s ≡ o + u
          → ((226 + o) + b) + w + r + d + 1 + t ≡ 226 + s
      sums o b w r d t x y z u s e f g h i = omega arith
