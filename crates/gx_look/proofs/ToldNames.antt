-- What an opened growing text tells of the repository that it is of.
use Rattle.std.proofs.Common.{◌≡◌, Bool, ℕ, zero, suc, ◌+◌, ◌*◌, ◌-◌, ◌<◌, ◌≤◌, ◌^◌, List, [], ◌∷◌, ◌++◌, length, map, take, drop, Option, Some, None, Ok, Err, refl, sym, ap, ◌∙◌, subst, arith, append-nil}
use Rattle.std.specs.Prelude.{T, IsTrue, IfSome}
use Rattle.std.specs.Option.{option_map}
use Rattle.std.specs.Result.{result_ok}
use Rattle.std.specs.Int.{w64, from_be_bytes}
use Rattle.std.specs.List.{AllByRecursion, Contains}
use Rattle.std.specs.FinMap.Entries.{is_sorted}
use Rattle.std.proofs.lemmas.List.{drop-append-le, length-drop, length-take, take-append-drop, take-append-le}
use Rattle.sha2.specs.Sha256.{sha256}
use Rattle.gx_model.specs.declared.objects.Kind.{Kind}
use Rattle.gx_model.specs.declared.store_versions.Version.TheVariants.{Two}
use Rattle.gx_model.specs.Texts.{Bytes, byte_cmp}
use Rattle.gx_model.specs.Objects.{IsNamer, is_name}
use Rattle.gx_model.specs.Histories.{Record, Records, object_of}
use Rattle.gx_model.specs.Records.Growth.{record_named}
use Rattle.gx_model.specs.Records.Sound.{IsSound}
use Rattle.gx_model.specs.Stores.StoreText.{stored_record}
use Rattle.gx_model.proofs.Texts.Cuts.{some_is}
use Rattle.gx_model.proofs.Texts.PathTests.{is_true}
use Rattle.gx_model.proofs.ObjectTexts.TreePaths.{name_is_name}
use Rattle.gx_model.proofs.Records.TakenRecords.{all_named}
use Rattle.gx_growing.specs.GrowingText.{Row, Run, Slot, StandsIn, digests_length, live_rows, part, rows_in, run_rows}
use Rattle.gx_growing.specs.GrowingReading.{Front, Grown, grown_of}
use Rattle.gx_growing.specs.GrowingLaws.{StandsAt}
use Rattle.gx_growing.proofs.TextLengths.{bodies_short}
use Rattle.gx_growing_parts.specs.Shown.{shown_run}
use Rattle.gx_objects.specs.declared.fault.LookFault.{LookFault}
use Rattle.gx_objects.specs.declared.fault.LookFault.TheVariants.{Damaged}
use Rattle.gx_look.specs.declared.records.Standing.{Standing}
use Rattle.gx_look.specs.declared.tail.Tail.{Tail}
use Rattle.gx_look.specs.Looking.{told_by}
use Rattle.gx_look.specs.Opened.{IsOpened, IsOpenedAs}
use Rattle.gx_look.specs.Records.{IsRecordAt, TellsRecord, body_in}
use Rattle.gx_look.specs.Refs.{AreLines}
use Rattle.gx_look.specs.Rows.{AreSorted, PlacesIn}
use Rattle.gx_look.specs.Tails.{HoldsTail}
use Rattle.gx_look.proofs.CheckedRefs.{lines_of}
use Rattle.gx_look.proofs.OpenedTexts.{IsTold, is_told}
use Rattle.gx_look.proofs.TellingRows.{none_there, stands_there}

-- ---- rows in front of an end

-- rows are read in front of what stands behind them
pub rows_front : (n : ℕ) (x y : Bytes) → 28 * n ≤ length x → rows_in n (x ++ y) ≡ rows_in n x
rows_front zero x y l = refl
rows_front (suc n) x y l =
    let m = length-drop 20 x in
    let k = length-drop 28 x in
    let name = take-append-le 20 x y (omega arith) in
    let place : part (x ++ y) 20 8 ≡ part x 20 8 = ap (take 8) (drop-append-le 20 x y (omega arith)) ∙ take-append-le 8 (drop 20 x) y (omega arith) in
    let rest = ap (rows_in n) (drop-append-le 28 x y (omega arith)) ∙ rows_front n (drop 28 x) y (omega arith) in
    λ i. (name i, from_be_bytes w64 (place i)) ∷ rest i

module _ (text : Bytes) (ends : ℕ) where
  abbrev front : Bytes
  front = take ends text

  -- the rows of a run that stands up to an end are those of the whole text
  same_rows : (run : Run) → StandsIn sha256 front run → run_rows text run ≡ run_rows front run
  same_rows run h =
      let fits = h.within in
      let l = length-drop run.place front in
      let near : run.place ≤ length front = within run.place (28 * run.count) (digests_length run.count) (length front) fits in
      let long : 28 * run.count ≤ length (drop run.place front) = behind run.place (28 * run.count) (digests_length run.count) (length front) (length (drop run.place front)) fits l in
      ap (λ z. rows_in run.count (drop run.place z)) (sym (take-append-drop ends text))
      ∙ ap (rows_in run.count) (drop-append-le run.place front (drop ends text) near)
      ∙ rows_front run.count (drop run.place front) (drop ends text) long
    where
      within : (place rows digests long : ℕ) → place + (rows + digests) ≤ long → place ≤ long
      within place rows digests long f = omega arith

      behind : (place rows digests long left : ℕ) → place + (rows + digests) ≤ long → left ≡ long - place → rows ≤ left
      behind place rows digests long left f e = omega arith

  pub same_live : (runs : List Run) → AllByRecursion (StandsIn sha256 front) runs → live_rows text runs ≡ live_rows front runs
  same_live [] h = refl
  same_live (run ∷ runs) h = let one = same_rows run h.0 in let more = same_live runs h.1 in λ i. one i ++ more i

  pub in_order : (runs : List Run) → AllByRecursion (StandsIn sha256 front) runs → AreSorted text runs
  in_order [] h = tt
  in_order (run ∷ runs) h = (subst (λ z. IsTrue (is_sorted byte_cmp z)) (sym (same_rows run h.0)) h.0.sorted, in_order runs h.1)

-- ---- records

-- a record that stands in a text is shorter than it
stands_short : (text : Bytes) (place : ℕ) (held : Record) → StandsAt text place held → length (stored_record Two held) ≤ length text
stands_short text place held h =
    let a = length-take (length (stored_record Two held)) (drop place text) in
    let b = length-drop place text in
    let e : length (part text place (length (stored_record Two held))) ≡ length (stored_record Two held) = ap length h in
    omega arith

body_short : (limit : ℕ) (held : Record) → length (stored_record Two held) < limit → length held.body < limit
body_short limit held l = (bodies_short limit (held ∷ []) (subst (λ z. length z < limit) (sym (append-nil (stored_record Two held))) l)).0

-- a record of a name among those of a repository, and where it stands
pub record IsRecordOf (name : Kind → Bytes → Bytes) (told : Option Bytes) (ends place : ℕ) (called : Bytes) (r : Records) : Type 0 where
  pub held : Record
  pub named : record_named r.records called ≡ Some held
  pub stands : (text : Bytes) → told ≡ Some text → IsRecordAt name text ends place called held

module _ (name : Kind → Bytes → Bytes) (namer : IsNamer name) where
  -- what holds of each repository that is told
  pub each_told : (told : Option Bytes) (Fact : Records → Type 0) → ((text : Bytes) → told ≡ Some text → (r : Records) → grown_of name sha256 text ≡ Ok r → Fact r) → IfSome (told_by name told) Fact
  each_told None Fact h = tt
  each_told (Some text) Fact h = by (grown_of name sha256 text) refl
    where
      by : (g : Grown Records) → grown_of name sha256 text ≡ g → IfSome (result_ok g) Fact
      by (Ok r) e = h text refl r e
      by (Err f) e = tt

  -- a repository that is told is sound
  pub told_sound : (told : Option Bytes) → IfSome (told_by name told) (IsSound name)
  told_sound told = each_told told (IsSound name) (λ text e r g. (is_told name namer text r g).1.sound)

  -- a record of a name stands at a place before an end
  pub record_at : (text : Bytes) (ends place : ℕ) (called : Bytes) (held : Record) → ends < 2 ^ 64 → ends ≤ length text → StandsAt (take ends text) place held → held.name ≡ called → held.name ≡ name held.kind held.body
      → IsRecordAt name text ends place called held
  record_at text ends place called held small whole stands is named =
      let l = length-take ends text in
      let size = stands_short (take ends text) place held stands in
      let long : length (stored_record Two held) < 2 ^ 64 = omega arith in
      record {
        whole = whole;
        stands = stands;
        written = record { length = body_short (2 ^ 64) held long; name = is_true _ (subst (λ z. T (is_name z)) (sym named) (name_is_name name namer held.kind held.body)) };
        name_is = is;
        named = named;
      }

  module _ {A : Type 0} {is_first : Bool} (told : Option Bytes) (ends : ℕ) (tail : Tail A) (opened : IsOpened name told is_first ends tail) where
    -- the runs and refs that are held, of a text that tells a repository
    pub record IsSeen (text : Bytes) (r : Records) : Type 0 where
      pub x : Slot × Front
      pub told_is : IsTold name text r x
      pub ends_is : ends ≡ x.0.ends
      pub tail_is : HoldsTail x.1.runs x.1.refs tail

    pub seen : (text : Bytes) → told ≡ Some text → (r : Records) → grown_of name sha256 text ≡ Ok r → IsSeen text r
    seen text e r g =
        let t = is_told name namer text r g in
        let last = subst (λ z. IsOpenedAs name z ends tail) e opened.last in
        let held = last r g t.0 t.1.front_is in
        record { x = t.0; told_is = t.1; ends_is = held.0; tail_is = held.1 }

    -- a record that stands at a place of a text that tells a repository
    pub record_stands : (called : Bytes) (place : ℕ) (text : Bytes) (e : told ≡ Some text) (r : Records) (g : grown_of name sha256 text ≡ Ok r)
        → (held : Record) × (record_named r.records called ≡ Some held) × (held.name ≡ called) × StandsAt (take (seen text e r g).x.0.ends text) place held → IsRecordOf name told ends place called r
    record_stands called place text e r g found =
        let s = seen text e r g in
        let t = s.told_is in
        let held = found.0 in
        let named : held.name ≡ name held.kind held.body = all_named (λ z. z.name ≡ name z.kind z.body) r.records called held t.sound.named found.1 in
        record {
          held = held;
          named = found.1;
          stands = λ other i.
              let one : text ≡ other = some_is text other (sym e ∙ i) in
              subst (λ z. IsRecordAt name z ends place called held) one
              (record_at text ends place called held opened.small (subst (λ n. n ≤ length text) (sym s.ends_is) t.ends) (subst (λ n. StandsAt (take n text) place held) (sym s.ends_is) found.3) found.2 named);
        }

    -- a place that is found is that of the record with the name
    pub place_tells : (called : Bytes) (place : ℕ) → PlacesIn told tail.runs.items called (Some place) → IfSome (told_by name told) (IsRecordOf name told ends place called)
    place_tells called place there = each_told told (IsRecordOf name told ends place called) (λ text e r g.
        let s = seen text e r g in
        let t = s.told_is in
        let front = take s.x.0.ends text in
        let row : Row = (called, place) in
        let among : Contains (live_rows text (map shown_run tail.runs.items)) row = subst (λ z. PlacesIn z tail.runs.items called (Some place)) e there in
        let live : Contains (live_rows front s.x.1.runs) row = subst (λ z. Contains z row) (ap (live_rows text) s.tail_is.0 ∙ same_live text s.x.0.ends s.x.1.runs t.runs) among in
        record_stands called place text e r g (stands_there front (live_rows front s.x.1.runs) s.x.1.rows r.records t.rows t.stand t.sound.distinct called place live))

    -- where no run has a name, no record does
    pub absence_tells : (called : Bytes) → PlacesIn told tail.runs.items called None → IfSome (told_by name told) (λ r. record_named r.records called ≡ None)
    absence_tells called none = each_told told (λ r. record_named r.records called ≡ None) (λ text e r g.
        let s = seen text e r g in
        let t = s.told_is in
        let front = take s.x.0.ends text in
        let rows = live_rows front s.x.1.runs in
        let nowhere : PlacesIn (Some text) tail.runs.items called None = subst (λ z. PlacesIn z tail.runs.items called None) e none in
        let sorted : AreSorted text (map shown_run tail.runs.items) = subst (AreSorted text) (sym s.tail_is.0) (in_order text s.x.0.ends s.x.1.runs t.runs) in
        let live : live_rows front s.x.1.runs ≡ live_rows text (map shown_run tail.runs.items) = sym (ap (live_rows text) s.tail_is.0 ∙ same_live text s.x.0.ends s.x.1.runs t.runs) in
        none_there front rows s.x.1.rows r.records t.rows t.stand called (λ place h. let row : Row = (called, place) in nowhere sorted place (subst (λ z. Contains z row) live h)))

    -- the lines of the tail are those of the refs
    pub lines_tell : IfSome (told_by name told) (λ r. AreLines (drop tail.refs tail.text.items) r.refs)
    lines_tell = each_told told (λ r. AreLines (drop tail.refs tail.text.items) r.refs) (λ text e r g.
        let s = seen text e r g in
        let t = s.told_is in
        subst (AreLines (drop tail.refs tail.text.items)) t.refs (lines_of (drop tail.refs tail.text.items) s.x.1.refs s.tail_is.1 t.leads.named))

-- ---- answers

module _ (name : Kind → Bytes → Bytes) (told : Option Bytes) (ends place : ℕ) (called room : Bytes) where
  -- a record that is told is no damage
  pub record_untold : (fault : LookFault) → IfSome (told_by name told) (IsRecordOf name told ends place called) → TellsRecord name told ends place called room (Err fault) → fault ≡ Damaged → told_by name told ≡ None
  record_untold fault h t same = by (told_by name told) refl h
    where
      of_text : (told : Option Bytes) (r : Records) → told_by name told ≡ Some r → (text : Bytes) × (told ≡ Some text)
      of_text None r e = absurd (cc)
      of_text (Some text) r e = (text, refl)

      at_text : (other : Option Bytes) (text : Bytes) → other ≡ Some text → TellsRecord name other ends place called room (Err fault) → (held : Record) → IsRecordAt name text ends place called held → ⊥
      at_text None text e k held here = cc
      at_text (Some z) text e k held here = k held (subst (λ y. IsRecordAt name y ends place called held) (sym (some_is z text e)) here) same

      by : (o : Option Records) → told_by name told ≡ o → IfSome o (IsRecordOf name told ends place called) → o ≡ None
      by None e k = refl
      by (Some r) e k = let z = of_text told r e in absurd (at_text told z.0 z.1 t k.held (k.stands z.0 z.1))

  -- the record that is told is the one of the name
  pub record_tells : (standing : Standing) → IfSome (told_by name told) (IsRecordOf name told ends place called) → TellsRecord name told ends place called room (Ok standing)
      → IfSome (told_by name told) (λ r. Some (standing.kind, body_in room standing) ≡ option_map object_of (record_named r.records called))
  record_tells standing h t = by (told_by name told) refl h
    where
      of_text : (told : Option Bytes) (r : Records) → told_by name told ≡ Some r → (text : Bytes) × (told ≡ Some text)
      of_text None r e = absurd (cc)
      of_text (Some text) r e = (text, refl)

      at_text : (other : Option Bytes) (text : Bytes) → other ≡ Some text → TellsRecord name other ends place called room (Ok standing) → (held : Record) → IsRecordAt name text ends place called held
          → (standing.kind ≡ held.kind) × (body_in room standing ≡ held.body)
      at_text None text e k held here = absurd (cc)
      at_text (Some z) text e k held here = k held (subst (λ y. IsRecordAt name y ends place called held) (sym (some_is z text e)) here)

      by : (o : Option Records) → told_by name told ≡ o → IfSome o (IsRecordOf name told ends place called) → IfSome o (λ r. Some (standing.kind, body_in room standing) ≡ option_map object_of (record_named r.records called))
      by None e k = tt
      by (Some r) e k =
          let z = of_text told r e in
          let same = at_text told z.0 z.1 t k.held (k.stands z.0 z.1) in
          (λ i. Some (same.0 i, same.1 i)) ∙ ap (option_map object_of) (sym k.named)
