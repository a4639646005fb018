-- Records that stand one behind the other, as those of a growing text do, and objects that are listed of them.
use Rattle.std.proofs.Common.{◌≡◌, ℕ, zero, suc, ◌+◌, ◌<◌, ◌≤◌, List, [], ◌∷◌, ◌++◌, length, take, drop, get_or, Option, Some, None, Ok, refl, subst, ap, arith, codes, length-append}
use Rattle.std.specs.Prelude.{⊤, slice_get}
use Rattle.std.specs.List.{AllZip, flat_map}
use Rattle.gx_model.specs.declared.objects.Kind.{Kind}
use Rattle.gx_model.specs.declared.store_versions.Version.TheVariants.{Two}
use Rattle.gx_model.specs.Texts.{Bytes}
use Rattle.gx_model.specs.Texts.Numbers.{number_text}
use Rattle.gx_model.specs.Objects.{line}
use Rattle.gx_model.specs.Histories.{Record}
use Rattle.gx_model.specs.Stores.StoreText.{stored_record}
use Rattle.gx_model.proofs.Texts.Cuts.{some_is}
use Rattle.gx_growing.specs.GrowingText.{Row, Segment, first_place, placed, placed_rows, records_of, segment_text, tail_text}
use Rattle.gx_listed.specs.Listings.{Listed}
use Rattle.gx_listed.specs.declared.listing.Standing.{Standing}
use Rattle.gx_object.specs.declared.name.Name.{Name}
use Rattle.gx_objects.specs.declared.fault.LookFault.{LookFault}
use Rattle.gx_look.specs.Listing.{AreRecordsAt, Follow, RefusesRows, StandApart, TellsStanding}
use Rattle.gx_look.specs.Records.{IsRecordAt}

-- ---- those of a text

-- records that follow one another behind a place do so behind one before it
pub follow_later : (low least : ℕ) (rows : List Row) (rs : List Record) → low ≤ least → Follow least rows rs → Follow low rows rs
follow_later low least [] rs l h = tt
follow_later low least (x ∷ xs) [] l h = tt
follow_later low least (x ∷ xs) (r ∷ rs) l h = let g = h.0 in (omega arith, h.1)

-- records that stand one behind the other from a place on follow one another, and more behind them do
placed_follow : (place : ℕ) (rs : List Record) (more : List Row) (others : List Record) → Follow (place + length (flat_map (stored_record Two) rs)) more others → Follow place (placed place rs ++ more) (rs ++ others)
placed_follow place [] more others h = follow_later place (place + 0) more others (omega arith) h
placed_follow place (r ∷ rs) more others h =
    let t = stored_record Two r in
    let ts = flat_map (stored_record Two) rs in
    let joined : place + length (t ++ ts) ≡ (place + length t) + length ts = let a = length-append t ts in omega arith in
    (omega arith, placed_follow (place + length t) rs more others (subst (λ n. Follow n more others) joined h))

-- so do the records of segments
pub segments_follow : (place : ℕ) (ss : List Segment) → Follow place (placed_rows place ss) (records_of ss)
segments_follow place [] = tt
segments_follow place (s ∷ ss) =
    let objects = line (codes "objects") (number_text (length s.records)) in
    let held = flat_map (stored_record Two) s.records in
    let behind = line (codes "rows") (number_text s.count) ++ (s.table ++ (10 ∷ tail_text s.runs s.refs)) in
    let from = first_place place s.records in
    let later = place + length (segment_text s) in
    let more = placed_rows later ss in
    let fits : from + length held ≤ later = within place (length objects) (length held) (length behind) (length (held ++ behind)) (length (segment_text s)) (length-append objects (held ++ behind)) (length-append held behind) in
    let rest = follow_later (from + length held) later more (records_of ss) fits (segments_follow later ss) in
    follow_later place from (placed from s.records ++ more) (s.records ++ records_of ss) (after place (length objects)) (placed_follow from s.records more (records_of ss) rest)
  where
    within : (place objects held behind both whole : ℕ) → whole ≡ objects + both → both ≡ held + behind → (place + objects) + held ≤ place + whole
    within place objects held behind both whole e f = omega arith

    after : (place objects : ℕ) → place ≤ place + objects
    after place objects = omega arith

-- ---- those that are left

-- in lists that are paired there is one beside that of a number
pub zip_at : {A B : Type 0} (R : A → B → Type 0) (xs : List A) (ys : List B) (i : ℕ) (d : A) → i < length xs → AllZip R xs ys → (y : B) × R (get_or xs i d) y × (slice_get ys i ≡ Some y) × (take (suc i) ys ≡ take i ys ++ y ∷ [])
zip_at R [] ys i d l h = absurd (omega (arith, l))
zip_at R (x ∷ xs) [] i d l h = absurd h
zip_at R (x ∷ xs) (y ∷ ys) zero d l h = (y, h.0, refl, refl)
zip_at R (x ∷ xs) (y ∷ ys) (suc i) d l h = let m = zip_at R xs ys i d (omega (arith, l)) h.1 in (m.0, m.1, m.2, ap (λ z. y ∷ z) m.3)

-- the first of those that are left, and the others behind it
follow_at : (least : ℕ) (xs : List Row) (rs : List Record) (i : ℕ) (d : Row) (r : Record) → i < length xs → slice_get rs i ≡ Some r → Follow least (drop i xs) (drop i rs)
    → (least ≤ (get_or xs i d).1) × Follow ((get_or xs i d).1 + length (stored_record Two r)) (drop (suc i) xs) (drop (suc i) rs)
follow_at least [] rs i d r l e h = absurd (omega (arith, l))
follow_at least (x ∷ xs) [] i d r l e h = absurd (cc)
follow_at least (x ∷ xs) (y ∷ ys) zero d r l e h = (h.0, subst (λ (z : Record). Follow (x.1 + length (stored_record Two z)) xs ys) (some_is y r e) h.1)
follow_at least (x ∷ xs) (y ∷ ys) (suc i) d r l e h = follow_at least xs ys i d r (omega (arith, l)) e h

-- behind a number and an end there are left records that follow one another
abbrev pub LeavesBehind : Option Bytes → ℕ → List Row → ℕ → ℕ → Type 0
LeavesBehind None ends rows n end = ⊤
LeavesBehind (Some text) ends rows n end =
    (name : Kind → Bytes → Bytes) (records : List Record) → AreRecordsAt text ends name rows records → Follow 0 rows records → Follow end (drop n rows) (drop n records)

pub all_left : (told : Option Bytes) (ends : ℕ) (rows : List Row) → LeavesBehind told ends rows 0 0
all_left None ends rows = tt
all_left (Some text) ends rows = λ name records all follow. follow

module _ (told : Option Bytes) (ends : ℕ) (rows : List Row) (i : ℕ) (d : Row) (end : ℕ) (within : i < length rows) (left : LeavesBehind told ends rows i end) where
  -- the name in the row of this number
  abbrev called : Name
  called = record { bytes = (get_or rows i d).0 }

  -- one less
  pub one_passed : (standing : Standing) (behind : ℕ) → TellsStanding told ends (get_or rows i d).1 called (Ok (standing, behind)) → LeavesBehind told ends rows (i + 1) behind
  one_passed standing behind = by told left
    where
      by : (told : Option Bytes) → LeavesBehind told ends rows i end → TellsStanding told ends (get_or rows i d).1 called (Ok (standing, behind)) → LeavesBehind told ends rows (i + 1) behind
      by None f t = tt
      by (Some text) f t = λ name records all follow.
          let at = zip_at (λ (row : Row) (held : Record). IsRecordAt name text ends row.1 row.0 held) rows records i d within all in
          let size = (t name at.0 at.1).2 in
          let next = follow_at end rows records i d at.0 within at.2 (f name records all follow) in
          let step : suc i ≡ i + 1 = omega arith in
          subst (λ n. Follow behind (drop n rows) (drop n records)) step
          (follow_later behind ((get_or rows i d).1 + length (stored_record Two at.0)) (drop (suc i) rows) (drop (suc i) records) (omega (arith, size)) next.1)

  -- one before the end of the one before it is damaged
  pub one_inside : (get_or rows i d).1 < end → (fault : LookFault) → RefusesRows told ends rows fault
  one_inside inside fault = by told left
    where
      by : (told : Option Bytes) → LeavesBehind told ends rows i end → RefusesRows told ends rows fault
      by None f = tt
      by (Some text) f = λ same name records all distinct follow.
          let at = zip_at (λ (row : Row) (held : Record). IsRecordAt name text ends row.1 row.0 held) rows records i d within all in
          let next = follow_at end rows records i d at.0 within at.2 (f name records all follow) in
          let a = next.0 in
          absurd (omega (arith, a, inside))

-- ---- bodies that stand apart

-- so far bodies stand apart, up to an end
abbrev pub StandUpTo : ℕ → ℕ → List Listed → Type 0
StandUpTo end least [] = least ≤ end
StandUpTo end least (one ∷ listed) = least ≤ one.1.place × StandUpTo end (one.1.place + one.1.length) listed

-- one more behind them
pub one_apart : (end behind : ℕ) (one : Listed) (least : ℕ) (listed : List Listed) → end ≤ one.1.place → one.1.place + one.1.length ≤ behind → StandUpTo end least listed → StandUpTo behind least (listed ++ one ∷ [])
one_apart end behind one least [] l m h = (omega (arith, l, h), m)
one_apart end behind one least (x ∷ xs) l m h = (h.0, one_apart end behind one (x.1.place + x.1.length) xs l m h.1)

pub all_apart : (end least : ℕ) (listed : List Listed) → StandUpTo end least listed → StandApart least listed
all_apart end least [] h = tt
all_apart end least (x ∷ xs) h = (h.0, all_apart end (x.1.place + x.1.length) xs h.1)
