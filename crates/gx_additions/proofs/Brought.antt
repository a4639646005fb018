-- The segment that is put brings the objects.
use Rattle.std.proofs.Common.{◌≡◌, ℕ, ◌+◌, ◌*◌, ◌<◌, ◌^◌, sym, ap, subst, ◌∙◌, List, [], ◌∷◌, ◌++◌, length, map, codes, Option, None, Some, arith, length-append}
use Rattle.std.specs.Prelude.{◌/◌}
use Rattle.std.specs.List.{flat_map}
use Rattle.std.proofs.lemmas.List.{map-append}
use Rattle.sha2.specs.Sha256.{sha256}
use Rattle.gx_model.specs.Texts.{Bytes}
use Rattle.gx_model.specs.Histories.{Record}
use Rattle.gx_growing.specs.GrowingText.{Row, Run, first_place, live_rows, page_digests, placed, row_text, rows_in, slot_text}
use Rattle.gx_growing.proofs.SortedRows.{placed_long, sorted_long}
use Rattle.gx_growing_parts.specs.Shown.{shown_run}
use Rattle.gx_growing_parts.specs.declared.ending.Ending.{Ending}
use Rattle.gx_growing_parts.specs.declared.runs.Run.{Run as GivenRun}
use Rattle.gx_growing_rows.specs.declared.laying.Table.{Table}
use Rattle.gx_growing_rows.specs.NextTable.{next_place, next_rows}
use Rattle.gx_growing_rows.proofs.RisingRows.{rows_long}
use Rattle.gx_additions.specs.Merging.{ReadsRows, rows_shown}
use Rattle.gx_additions.specs.NewObjects.{Begins, BringsObjects, IsFront, laid_out, new_objects, new_run}
use Rattle.gx_additions.specs.Parts.{before_tail, refs_front, slot_of}
use Rattle.gx_additions.proofs.Spelled.{front_told, next_told, refs_put}

-- so many rows are those of the new records and those that are taken in
pub many_rows : (ends : ℕ) (taken : List Row) (new : List Record) → length (next_rows ends new taken) ≡ length taken + length new
many_rows ends taken new =
    sorted_long (taken ++ placed (first_place ends new) new) ∙ length-append taken (placed (first_place ends new) new) ∙ ap (λ n. length taken + n) (placed_long (first_place ends new) new)

module _ {A : Type 0} (ends : ℕ) (records : List Record) (kept : List Run) (count : ℕ) (table : Table A) where
  -- The table is that of the new records and of rows that are taken in.
  pub rows_laid_out : (n : ℕ) (taken : List Row) → length taken ≡ n → count ≡ n + length records → table.place ≡ next_place ends records n → table.rows.items ≡ flat_map row_text (next_rows ends records taken)
      → table.digests.items ≡ page_digests sha256 table.rows.items → laid_out records kept count table ≡ new_objects sha256 ends kept taken records []
  rows_laid_out n taken long counted p r d =
      let many = counted ∙ ap (λ k. k + length records) (sym long) ∙ sym (many_rows ends taken records) in
      let place = p ∙ ap (next_place ends records) (sym long) in
      let digests = d ∙ ap (page_digests sha256) r in
      λ i. record { records = records; count = many i; table = r i ++ digests i; runs = kept ++ new_run sha256 (place i) (many i) (digests i); refs = [] }

module _ {A : Type 0} (ending : Ending) (records : List Record) (kept taken : List GivenRun) (rows : Bytes) (count : ℕ) (table : Table A) (bytes : Bytes) (front : ℕ) where
  -- what stands in front of the refs
  pub begun : (told : Option Bytes) → kept ++ taken ≡ ending.runs.now → ReadsRows told (map shown_run taken) rows → ((n : ℕ) → length rows ≡ 28 * n → table.place ≡ next_place ending.ends records n)
      → ((n : ℕ) → length rows ≡ 28 * n → table.rows.items ≡ flat_map row_text (next_rows ending.ends records (rows_in n rows))) → table.digests.items ≡ page_digests sha256 table.rows.items
      → count ≡ length rows / 28 + length records → IsFront (laid_out records (map shown_run kept) count table) bytes front → Begins told ending records bytes front
  begun None runs read place rows_are digests counted is = tt
  begun (Some file) runs read place rows_are digests counted is =
      let n = rows_shown (map shown_run taken) in
      let live = live_rows file (map shown_run taken) in
      let long : length live ≡ n = ap length (sym read.1) ∙ rows_long n rows in
      let same = rows_laid_out ending.ends records (map shown_run kept) count table n live long (sums count (length rows) n (length records) read.0 counted) (place n read.0)
      (rows_are n read.0 ∙ ap (λ z. flat_map row_text (next_rows ending.ends records z)) read.1) digests in
      record { kept = map shown_run kept; taken = map shown_run taken; runs = sym (map-append shown_run kept taken) ∙ ap (map shown_run) runs; front_is = subst (λ s. IsFront s bytes front) same is }
    where
      sums : (count long n few : ℕ) → long ≡ 28 * n → count ≡ long / 28 + few → count ≡ n + few
      sums count long n few a b = omega arith

-- the refs behind it, and the slot
pub brought : (ending : Ending) (records : List Record) (refs : List (Bytes × Bytes)) (bytes put last segment slot : Bytes) (front : ℕ) (told : Option Bytes) → Begins told ending records bytes front → put ≡ bytes ++ refs_front refs
    → last ≡ put ++ (codes "end" ++ 10 ∷ []) → segment ≡ last → slot ≡ slot_text (slot_of ending.ends last front) → ending.ends + length segment < 2 ^ 63 → BringsObjects told ending records refs segment slot
brought ending records refs bytes put last segment slot front None b p l s t short = tt
brought ending records refs bytes put last segment slot front (Some file) b p l s t short =
    let whole = new_objects sha256 ending.ends b.kept (live_rows file b.taken) records refs in
    let parts = refs_put whole bytes put last front b.front_is p l in
    let is = parts ∙ front_told whole in
    record { kept = b.kept; taken = b.taken; runs = b.runs; segment_is = s ∙ is; slot_is = t ∙ ap slot_text (next_told whole ending.ends front (before_tail whole) last parts is b.front_is.1); short = short }
