-- All objects of a growing text, as its rows and its records tell them.
use Rattle.std.proofs.Common.{◌≡◌, ◌≢◌, inl, inr, Bool, ℕ, zero, suc, ◌+◌, ◌<◌, ◌≤◌, ◌^◌, List, [], ◌∷◌, ◌++◌, length, map, take, get_or, Option, Some, None, Result, Ok, Err, refl, sym, ap, ◌∙◌, subst, arith, cond, false}
use Rattle.std.specs.Prelude.{⊤, IfErr, IfOk, IfSome, slice_get, slice_index}
use Rattle.std.specs.Bool.{passes}
use Rattle.std.specs.List.{AllByRecursion, AllZip}
use Rattle.std.specs.List.Sorted.{IsPermutation}
use Rattle.std.specs.Option.{option_map}
use Rattle.std.proofs.lemmas.Bool.{false_from_ne_true}
use Rattle.std.proofs.lemmas.Grind.{take_at_read}
use Rattle.std.proofs.lemmas.List.{map_push, take_all}
use Rattle.std.proofs.lemmas.Slice.Zip.{AllZip-long}
use Rattle.sha2.specs.Sha256.{sha256}
use Rattle.gx_model.specs.declared.objects.Kind.{Kind}
use Rattle.gx_model.specs.Texts.{Bytes, same_bytes}
use Rattle.gx_model.specs.Objects.{IsNamer}
use Rattle.gx_model.specs.declared.store_versions.Version.TheVariants.{Two}
use Rattle.gx_model.specs.Histories.{AreDistinct, Record, Records}
use Rattle.gx_model.specs.Records.Sound.{AnyByRecursion}
use Rattle.gx_model.specs.Stores.StoreText.{stored_record}
use Rattle.gx_model.proofs.Texts.Cuts.{some_is}
use Rattle.gx_model.proofs.Texts.PathTests.{same_is}
use Rattle.gx_growing.specs.GrowingReading.{grown_of}
use Rattle.gx_growing.specs.GrowingText.{Row, head_length, live_rows, placed_rows}
use Rattle.gx_growing.proofs.RowsTellPlaces.{Rise, Tells, segments_rise}
use Rattle.gx_growing_parts.specs.declared.runs.Run.{Run as GivenRun}
use Rattle.gx_listed.specs.Listings.{HaveHeads, Head, Listed, ListsAll, head_of, number_named, shown_head}
use Rattle.gx_listed.specs.declared.listing.Standing.{Standing}
use Rattle.gx_listed.proofs.Numbers.{position_step}
use Rattle.gx_object.specs.declared.name.Name.{Name}
use Rattle.gx_objects.specs.Answers.{OnlyUntold, Tells as AreTold}
use Rattle.gx_objects.specs.declared.fault.LookFault.{LookFault}
use Rattle.gx_objects.specs.declared.fault.LookFault.TheVariants.{Damaged}
use Rattle.gx_look.specs.declared.tail.Tail.{Tail}
use Rattle.gx_look.specs.Listing.{AreRecordsAt, AreRowsOf, EndsBeforeRuns, Follow, ListsRows, RefusesRows, TellsStanding}
use Rattle.gx_look.specs.Looking.{place_at, rows_of, told_by, told_rows}
use Rattle.gx_look.specs.Opened.{IsOpened}
use Rattle.gx_look.specs.Reading.{Gives}
use Rattle.gx_look.specs.Records.{IsRecordAt}
use Rattle.gx_look.specs.Tails.{AreWithin}
use Rattle.gx_look.proofs.FollowingRecords.{follow_later, segments_follow, zip_at}
use Rattle.gx_look.proofs.ListedRows.{one_by_place}
use Rattle.gx_look.proofs.ToldNames.{each_told, record_at, same_live, seen}
use Rattle.gx_look.proofs.ToldPlaces.{not_among}

-- ---- one record

-- what is told of a record is told of one that stands in a text
pub standing_of : (told : Option Bytes) (ends place : ℕ) (called : Name) (result : Result (Standing × ℕ) LookFault)
    → ((name : Kind → Bytes → Bytes) (text : Bytes) → told ≡ Some text → (held : Record) → IsRecordAt name text ends place called.bytes held
    → Gives (λ read. (read.0.place ≡ place) × (shown_head (called, read.0) ≡ head_of held) × (read.1 + 1 ≡ place + length (stored_record Two held))) result)
    → TellsStanding told ends place called result
standing_of None ends place called result f = tt
standing_of (Some text) ends place called result f = λ name held here. f name text refl held here

pub head_is : (called : Name) (standing : Standing) (held : Record) → called.bytes ≡ held.name → standing.kind ≡ held.kind → standing.length ≡ length held.body → shown_head (called, standing) ≡ head_of held
head_is called standing held n k l = λ i. record { name = n i; kind = k i; size = l i }

-- ---- the records of rows, one behind the other

-- of those in front of a number it is listed what they are, and where they stand
abbrev pub ListsFront : Option Bytes → ℕ → List Row → ℕ → List Listed → Type 0
ListsFront None ends rows n listed = ⊤
ListsFront (Some text) ends rows n listed =
    (name : Kind → Bytes → Bytes) (records : List Record) → AreRecordsAt text ends name rows records → HaveHeads listed (take n records) × (map (λ one. one.1.place) listed ≡ map (λ row. row.1) (take n rows))

pub none_listed : (told : Option Bytes) (ends : ℕ) (rows : List Row) → ListsFront told ends rows 0 []
none_listed None ends rows = tt
none_listed (Some text) ends rows = λ name records all. (refl, refl)

module _ (told : Option Bytes) (ends : ℕ) (rows : List Row) (i : ℕ) (d : Row) (listed : List Listed) (within : i < length rows) (front : ListsFront told ends rows i listed) where
  -- the name in the row of this number
  abbrev called : Name
  called = record { bytes = (get_or rows i d).0 }

  -- one more
  pub one_listed : (standing : Standing) (behind : ℕ) (new : List Listed) → TellsStanding told ends (get_or rows i d).1 called (Ok (standing, behind)) → new ≡ listed ++ (called, standing) ∷ [] → ListsFront told ends rows (i + 1) new
  one_listed standing behind new tells pushed = by told front tells
    where
      one : Listed
      one = (called, standing)

      by : (told : Option Bytes) → ListsFront told ends rows i listed → TellsStanding told ends (get_or rows i d).1 called (Ok (standing, behind)) → ListsFront told ends rows (i + 1) new
      by None f t = tt
      by (Some text) f t = λ name records all.
          let at = zip_at (λ row held. IsRecordAt name text ends row.1 row.0 held) rows records i d within all in
          let here = t name at.0 at.1 in
          let old = f name records all in
          let next : suc i ≡ i + 1 = omega arith in (
            ap (map shown_head) pushed ∙ map_push shown_head listed one ∙ (λ k. old.0 k ++ here.1 k ∷ []) ∙ sym (map_push head_of (take i records) at.0) ∙ ap (map head_of) (sym at.3 ∙ ap (λ n. take n records) next),
            ap (map (λ (z : Listed). z.1.place)) pushed ∙ map_push (λ (z : Listed). z.1.place) listed one ∙ (λ k. old.1 k ++ here.0 k ∷ []) ∙ sym (map_push (λ (z : Row). z.1) (take i rows) (get_or rows i d))
                ∙ ap (map (λ (z : Row). z.1)) (sym (take_at_read rows i d within).1),
          )

  -- one that isn't told is damaged only where no record stands so
  pub one_refused : (fault : LookFault) → TellsStanding told ends (get_or rows i d).1 called (Err fault) → RefusesRows told ends rows fault
  one_refused fault tells = by told tells
    where
      by : (told : Option Bytes) → TellsStanding told ends (get_or rows i d).1 called (Err fault) → RefusesRows told ends rows fault
      by None t = tt
      by (Some text) t = λ same name records all distinct follow.
          let at = zip_at (λ row held. IsRecordAt name text ends row.1 row.0 held) rows records i d within all in
          t name at.0 at.1 same

  -- one whose name is listed already is damaged, since names differ
  pub one_twice : number_named listed (get_or rows i d).0 ≢ None → (fault : LookFault) → RefusesRows told ends rows fault
  one_twice twice fault = by told front
    where
      some_at : (P : Record → Type 0) (rs : List Record) (k : ℕ) (r : Record) → slice_get rs k ≡ Some r → P r → AnyByRecursion P rs
      some_at P [] k r e p = absurd (cc)
      some_at P (x ∷ xs) zero r e p = inl (subst P (sym (some_is x r e)) p)
      some_at P (x ∷ xs) (suc k) r e p = inr (some_at P xs k r e p)

      not_listed : (os : List Listed) (rs : List Record) (k : ℕ) (r : Record) → AreDistinct (map (λ held. held.name) rs) → slice_get rs k ≡ Some r → HaveHeads os (take k rs) → number_named os r.name ≡ None
      not_listed [] rs k r distinct e h = refl
      not_listed (o ∷ os) [] k r distinct e h = absurd (cc)
      not_listed (o ∷ os) (x ∷ xs) zero r distinct e h = absurd (cc)
      not_listed (o ∷ os) (x ∷ xs) (suc k) r distinct e h =
          let head : shown_head o ≡ head_of x = cc in
          let more : map shown_head os ≡ map head_of (take k xs) = cc in
          let other : same_bytes r.name x.name ≡ false = false_from_ne_true _ (λ t. not_among x.name xs distinct.0 (some_at (λ held. held.name ≡ x.name) xs k r e (same_is r.name x.name (passes _ t)))) in
          position_step (λ (one : Listed). same_bytes r.name one.0.bytes) o os
          ∙ ap (λ b. cond b (Some 0) (option_map suc (number_named os r.name))) (ap (λ (z : Head). same_bytes r.name z.name) head ∙ other)
          ∙ ap (option_map suc) (not_listed os xs k r distinct.1 e more)

      by : (told : Option Bytes) → ListsFront told ends rows i listed → RefusesRows told ends rows fault
      by None f = tt
      by (Some text) f = λ same name records all distinct follow.
          let at = zip_at (λ row held. IsRecordAt name text ends row.1 row.0 held) rows records i d within all in
          let none = not_listed listed records i at.0 distinct at.2 (f name records all).0 in
          twice (subst (λ n. number_named listed n ≡ None) at.1.name_is none)

-- all of them
pub all_listed : (told : Option Bytes) (ends : ℕ) (rows : List Row) (i : ℕ) (listed : List Listed) → length rows ≤ i → ListsFront told ends rows i listed → ListsRows told ends rows listed
all_listed None ends rows i listed l f = tt
all_listed (Some text) ends rows i listed l f = λ name records all.
    let got = f name records all in
    let long = AllZip-long (λ row held. IsRecordAt name text ends row.1 row.0 held) rows records all in (
      got.0 ∙ ap (map head_of) (take_all i records (omega (arith, l, long))),
      got.1 ∙ ap (map (λ (z : Row). z.1)) (take_all i rows l),
    )

-- ---- what is told

-- the place of the object of a number
place_there : (listed : List Listed) (k : ℕ) (one : Listed) → slice_get listed k ≡ Some one → one.1.place ≡ slice_index (map (λ one. one.1.place) listed) k
place_there [] k one e = absurd (cc)
place_there (o ∷ os) zero one e = ap (λ (z : Listed). z.1.place) (sym (some_is o one e))
place_there (o ∷ os) (suc k) one e = place_there os k one e

-- runs that stand before an end stand before a later one
within_later : (ends later : ℕ) (runs : List GivenRun) → ends ≤ later → AreWithin ends runs → AreWithin later runs
within_later ends later [] l h = tt
within_later ends later (r ∷ rs) l h = let first = h.0 in (omega arith, within_later ends later rs l h.1)

untold : (o : Option Records) → IfSome o (λ r. ⊥) → o ≡ None
untold None h = refl
untold (Some r) h = absurd h

module _ (name : Kind → Bytes → Bytes) (namer : IsNamer name) where
  -- the records that rows tell stand before the end
  records_stand : (text : Bytes) (ends : ℕ) → ends < 2 ^ 64 → ends ≤ length text → (rows : List Row) (rs : List Record) → AllZip (Tells (take ends text)) rows rs → AllByRecursion (λ held. held.name ≡ name held.kind held.body) rs
      → AreRecordsAt text ends name rows rs
  records_stand text ends small whole [] [] all named = tt
  records_stand text ends small whole [] (r ∷ rs) all named = absurd all
  records_stand text ends small whole (x ∷ xs) [] all named = absurd all
  records_stand text ends small whole (x ∷ xs) (r ∷ rs) all named = (record_at name namer text ends x.1 x.0 r small whole all.0.1 (sym all.0.0) named.0, records_stand text ends small whole xs rs all.1 named.1)

  module _ {A : Type 0} {is_first : Bool} (told : Option Bytes) (ends : ℕ) (tail : Tail A) (opened : IsOpened name told is_first ends tail) where
    -- rows in the order of places are those of the records of a text that tells a repository, which stand at their places
    record AreAll (text : Bytes) (r : Records) (rows : List Row) : Type 0 where
      rows_are : told_rows name told ≡ rows
      stand : AreRecordsAt text ends name rows r.records
      distinct : AreDistinct (map (λ held. held.name) r.records)
      follow : Follow 0 rows r.records

    all_rows : (rows : List Row) → AreRowsOf told tail.runs.items rows → (text : Bytes) → told ≡ Some text → (r : Records) → grown_of name sha256 text ≡ Ok r → AreAll text r rows
    all_rows rows found text e r g =
        let s = seen name namer told ends tail opened text e r g in
        let t = s.told_is in
        let x = s.x in
        let f = t.front in
        let here = subst (λ z. AreRowsOf z tail.runs.items rows) e found in
        let live = ap (live_rows text) s.tail_is.0 ∙ same_live text x.0.ends x.1.runs t.runs in
        let all = f.before ++ f.last ∷ [] in
        let rise : Rise head_length x.1.rows = subst (Rise head_length) (sym f.rows) (segments_rise head_length all) in
        let same : rows ≡ x.1.rows = one_by_place (live_rows (take x.0.ends text) x.1.runs) rows x.1.rows head_length (subst (λ z. IsPermutation z rows) live here.all) here.up t.rows rise in
        let whole : ends ≤ length text = subst (λ n. n ≤ length text) (sym s.ends_is) t.ends in
        let follow : Follow head_length x.1.rows r.records = subst (λ z. Follow head_length z r.records) (sym f.rows) (subst (Follow head_length (placed_rows head_length all)) (sym f.records ∙ t.records) (segments_follow head_length all)) in
        let stand : AllZip (Tells (take ends text)) x.1.rows r.records = subst (λ n. AllZip (Tells (take n text)) x.1.rows r.records) (sym s.ends_is) t.stand in
        record {
          rows_are = ap (told_rows name) e ∙ ap rows_of t.front_is ∙ sym same;
          stand = subst (λ z. AreRecordsAt text ends name z r.records) (sym same) (records_stand text ends opened.small whole x.1.rows r.records stand t.sound.named);
          distinct = t.sound.distinct;
          follow = subst (λ z. Follow 0 z r.records) (sym same) (follow_later 0 head_length x.1.rows r.records (omega arith) follow);
        }

    -- what is listed of them is all that the repository has
    pub listing_tells : (rows : List Row) → AreRowsOf told tail.runs.items rows → (result : Result (List Listed) LookFault) → IfOk result (ListsRows told ends rows)
        → AreTold (told_by name told) (ListsAll (place_at (told_rows name told))) result
    listing_tells rows found (Err fault) lists = each_told name namer told (λ r. ⊤) (λ text e r g. tt)
    listing_tells rows found (Ok listed) lists = each_told name namer told (λ r. ListsAll (place_at (told_rows name told)) r listed) (λ text e r g.
        let a = all_rows rows found text e r g in
        let l = subst (λ z. ListsRows z ends rows listed) e lists name r.records a.stand in
        record {
          heads = l.0;
          places = λ number one there. place_there listed number one there ∙ ap (λ ps. slice_index ps number) (l.1 ∙ ap (map (λ (row : Row). row.1)) (sym a.rows_are));
        })

    -- its runs stand in the text
    pub runs_untold : (fault : LookFault) → EndsBeforeRuns told tail.runs.items fault → fault ≡ Damaged → told_by name told ≡ None
    runs_untold fault refused same = untold (told_by name told) (each_told name namer told (λ r. ⊥) (λ text e r g.
        let s = seen name namer told ends tail opened text e r g in
        let whole : ends ≤ length text = subst (λ n. n ≤ length text) (sym s.ends_is) s.told_is.ends in
        subst (λ z. EndsBeforeRuns z tail.runs.items fault) e refused same (within_later ends (length text) tail.runs.items whole opened.within.runs)))

    -- and its records at their places, under other names
    pub rows_untold : (rows : List Row) → AreRowsOf told tail.runs.items rows → (result : Result (List Listed) LookFault) → IfErr result (RefusesRows told ends rows) → OnlyUntold (told_by name told) result
    rows_untold rows found (Ok listed) refused = tt
    rows_untold rows found (Err fault) refused = λ same. untold (told_by name told) (each_told name namer told (λ r. ⊥) (λ text e r g.
        let a = all_rows rows found text e r g in
        subst (λ z. RefusesRows z ends rows fault) e refused same name r.records a.stand a.distinct a.follow))
