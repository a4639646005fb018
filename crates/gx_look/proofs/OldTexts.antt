-- The growing text that is read: which slot it picks, where it ends, and its live runs.
use Rattle.std.proofs.Common.{◌≡◌, ℕ, ◌+◌, ◌-◌, Bool, [], ◌∷◌, ◌++◌, List, length, map, take, Ok, Option, Some, refl, sym, ap, ◌∙◌, subst, arith, length-append}
use Rattle.std.specs.Prelude.{T}
use Rattle.std.specs.Borrow.{Bor}
use Rattle.std.specs.List.{AllByRecursion, flat_map, list_all}
use Rattle.sha2.specs.Sha256.{sha256}
use Rattle.gx_model.specs.declared.objects.Kind.{Kind}
use Rattle.gx_model.specs.Texts.{Bytes, same_bytes}
use Rattle.gx_model.specs.Objects.{IsNamer}
use Rattle.gx_model.specs.Histories.{Records}
use Rattle.gx_model.proofs.Texts.PathTests.{same_is}
use Rattle.gx_growing.specs.GrowingText.{IsGrowingText, Slot, StandsIn, live_rows, part, picked, picks_first, segment_text, sorted_rows}
use Rattle.gx_growing.specs.GrowingReading.{Front, front_of, grown_of, has_rows, is_standing, same_rows}
use Rattle.gx_growing.proofs.Fields.{slot_of}
use Rattle.gx_growing.proofs.ReadFronts.{IsFront, front_is}
use Rattle.gx_growing.proofs.RowTests.{rows_are, standing_are}
use Rattle.gx_growing.proofs.RowsTell.{grown_parts, held_in, three}
use Rattle.gx_growing_parts.specs.Endings.{IsEnding}
use Rattle.gx_growing_parts.specs.Shown.{shown_run}
use Rattle.gx_growing_parts.specs.declared.runs.Run.{Run as GivenRun}
use Rattle.gx_look.specs.Opened.{IsOpened}
use Rattle.gx_look.specs.declared.tail.Tail.{Tail}
use Rattle.gx_look.proofs.HeadPlaces.{pick_before}

module _ (name : Kind → Bytes → Bytes) (namer : IsNamer name) (text : Bytes) where
  -- a growing text with the slot and the runs that were read
  abbrev IsOld : Slot × Front → Records → Type 0
  IsOld x r = (old : IsGrowingText name sha256 text r) × (picks_first (part text 10 1) ≡ picks_first old.pick) × (x.0 ≡ old.slot) × (x.1.runs ≡ old.last.runs)

  -- a front whose rows are right is that of one
  front_old : (x : Slot × Front) → IsFront name text x → T (has_rows sha256 (take x.0.ends text) x.0 x.1) → IsOld x (held_in x.1)
  front_old x f h =
      let up_to = take x.0.ends text in
      let slot = x.0 in
      let parts = three (same_bytes slot.digest (sha256 x.1.tail)) (list_all (is_standing sha256 up_to) x.1.runs) (same_rows (sorted_rows (live_rows up_to x.1.runs)) (sorted_rows x.1.rows)) h in
      let rows = rows_are (sorted_rows (live_rows up_to x.1.runs)) (sorted_rows x.1.rows) parts.2 in
      let segments = flat_map segment_text (f.before ++ f.last ∷ []) in
      let split = ap length f.ended.1 ∙ length-append f.ended.0 x.1.tail in (
        record {
          pick = f.read.pick;
          first = f.read.first;
          second = f.read.second;
          slot = slot;
          before = f.before;
          last = f.last;
          behind = f.behind;
          spelled = f.spelled;
          head = f.read.head;
          slot_is = (slot_of (picked f.read.pick f.read.first f.read.second) slot f.read.slot).0;
          ends = f.ends;
          tail = ap (λ z. slot.tail + length z) (sym f.tail) ∙ whole slot.ends slot.tail (length x.1.tail) (length segments) (length f.ended.0) f.begun f.ends split;
          tail_digest = same_is slot.digest (sha256 x.1.tail) parts.0 ∙ ap sha256 f.tail;
          segments = f.segments;
          records = sym f.records;
          refs = sym f.refs;
          live = subst (AllByRecursion (StandsIn sha256 up_to)) f.runs (standing_are sha256 up_to x.1.runs parts.1);
          told = ap (λ z. sorted_rows (live_rows up_to z)) (sym f.runs) ∙ rows ∙ ap sorted_rows f.rows;
        },
        ap (λ z. picks_first (part z 10 1)) f.read.spelled ∙ ap picks_first (pick_before f.read.pick f.read.first f.read.second f.read.head f.rest),
        refl,
        f.runs,
      )
    where
      whole : (e t n s f : ℕ) → e - n ≡ t → e ≡ 226 + s → s ≡ f + n → t + n ≡ e
      whole e t n s f a b c = omega arith

  -- the text that is read is one
  old_read : (r : Records) → grown_of name sha256 text ≡ Ok r → (x : Slot × Front) × (front_of name text ≡ Ok x) × IsOld x r
  old_read r e =
      let g = grown_parts name sha256 text r e in
      (g.0, g.1, subst (IsOld g.0) g.3 (front_old g.0 (front_is name namer text g.0 g.1) g.2))

  -- what is held of it is how it ends
  pub ending_held : {A : Type 0} {is_first : Bool} {ends : ℕ} {tail : Tail A} → IsOpened name (Some text) is_first ends tail → (runs : Bor (List GivenRun)) → runs.now ≡ tail.runs.items
      → (r : Records) → grown_of name sha256 text ≡ Ok r → (old : IsGrowingText name sha256 text r) × IsEnding old (record { is_first = is_first; ends = ends; runs = runs })
  ending_held opened runs lent r e =
      let x = old_read r e in
      let old = x.2.0 in
      let held = opened.last r e x.0 x.1 in (
        old,
        record {
          picks = sym x.2.1 ∙ opened.picks r e;
          ends = held.0 ∙ ap (λ (z : Slot). z.ends) x.2.2;
          runs = ap (map shown_run) lent ∙ held.1.0 ∙ x.2.3;
        },
      )

pub ending_told : (name : Kind → Bytes → Bytes) → IsNamer name → {A : Type 0} {is_first : Bool} {ends : ℕ} {tail : Tail A} (told : Option Bytes) → IsOpened name told is_first ends tail
    → (runs : Bor (List GivenRun)) → runs.now ≡ tail.runs.items → (text : Bytes) (r : Records) → told ≡ Some text → grown_of name sha256 text ≡ Ok r
    → (old : IsGrowingText name sha256 text r) × IsEnding old (record { is_first = is_first; ends = ends; runs = runs })
ending_told name namer {is_first = is_first} {ends} {tail} told opened runs lent text r is e =
    ending_held name namer text (subst (λ z. IsOpened name z is_first ends tail) is opened) runs lent r e
