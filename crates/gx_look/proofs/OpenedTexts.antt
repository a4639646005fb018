-- A growing text that was opened: its slot, its tail, its runs and its records.
use Rattle.std.proofs.Common.{◌≡◌, ℕ, ◌+◌, ◌*◌, ◌-◌, ◌≤◌, List, [], ◌∷◌, ◌++◌, length, take, Ok, sym, ap, ◌∙◌, subst, arith, append-nil}
use Rattle.std.specs.Prelude.{T, IsTrue}
use Rattle.std.specs.List.{AllByRecursion, AllZip, flat_map, list_all}
use Rattle.std.specs.List.Sorted.{IsPermutation}
use Rattle.std.proofs.lemmas.List.{length-take}
use Rattle.sha2.specs.Sha256.{sha256}
use Rattle.gx_model.specs.declared.objects.Kind.{Kind}
use Rattle.gx_model.specs.Texts.{Bytes, same_bytes}
use Rattle.gx_model.specs.Objects.{IsNamer, is_name}
use Rattle.gx_model.specs.Histories.{Record, Records}
use Rattle.gx_model.specs.Records.Sound.{IsSound}
use Rattle.gx_model.specs.Stores.StoreReading.{Stored}
use Rattle.gx_model.proofs.Texts.PathTests.{is_true, same_is}
use Rattle.gx_model.proofs.Stores.StoredRefs.{targets_name}
use Rattle.gx_growing.specs.GrowingText.{AreSegments, IsRun, IsSegment, Run, Segment, Slot, StandsIn, digests_length, head_text, live_rows, placed_rows, segment_text, sorted_rows, tail_text}
use Rattle.gx_growing.specs.GrowingReading.{Front, front_of, grown_of, is_standing, same_rows}
use Rattle.gx_growing.proofs.ReadFronts.{IsFront, front_is, head_long}
use Rattle.gx_growing.proofs.RowTests.{rows_are, standing_are}
use Rattle.gx_growing.proofs.RowsTell.{grown_parts, last_tail, same_sorted, three, up_to_end}
use Rattle.gx_growing.proofs.RowsTellPlaces.{Tells, segments_stand}
use Rattle.gx_objects.specs.Answers.{AreRefs}
use Rattle.gx_look.specs.Tails.{IsLive, LeadsTo}

-- the last of segments is one
last_segment : (name : Kind → Bytes → Bytes) (rs : List Record) (before : List Segment) (last : Segment) → AreSegments name rs (before ++ last ∷ []) → IsSegment last
last_segment name rs [] last h = h.0
last_segment name rs (s ∷ ss) last h = last_segment name (rs ++ s.records) ss last h.2

-- runs that stand in a text end by its end
all_live : (text : Bytes) (ends : ℕ) (runs : List Run) → length text ≤ ends → AllByRecursion IsRun runs → AllByRecursion (StandsIn sha256 text) runs → AllByRecursion (IsLive ends) runs
all_live text ends [] l told stand = tt
all_live text ends (run ∷ runs) l told stand =
    let fits = stand.0.within in
    (record { told = told.0; within = within run.place (28 * run.count) (digests_length run.count) (length text) fits l }, all_live text ends runs l told.1 stand.1)
  where
    within : (place rows digests long : ℕ) → place + (rows + digests) ≤ long → long ≤ ends → place + rows ≤ ends
    within place rows digests long f k = omega arith

-- one front is read of a text
pub one_front : (x y : Slot × Front) → ◌≡◌ {A = Stored (Slot × Front)} (Ok x) (Ok y) → x ≡ y
one_front x y e = cc

-- the refs of a sound repository
sound_refs : (name : Kind → Bytes → Bytes) → IsNamer name → (r : Records) → IsSound name r → AreRefs r.refs
sound_refs name namer r sound = record {
  sorted = sound.sorted;
  names = sound.ref_names;
  objects = named r.refs (targets_name name namer r.records sound.distinct sound.named r.refs sound.held);
}
  where
    named : (refs : List (Bytes × Bytes)) → AllByRecursion (λ ref. T (is_name ref.1)) refs → AllByRecursion (λ ref. IsTrue (is_name ref.1)) refs
    named [] h = tt
    named (x ∷ xs) h = (is_true _ h.0, named xs h.1)

-- a growing text that was opened: its slot leads to its last tail, and the rows of its runs are those of its records
pub record IsTold (name : Kind → Bytes → Bytes) (text : Bytes) (r : Records) (x : Slot × Front) : Type 0 where
  pub front : IsFront name text x
  pub front_is : front_of name text ≡ Ok x
  pub sound : IsSound name r
  pub records : x.1.records ≡ r.records
  pub refs : x.1.refs ≡ r.refs
  pub ends : x.0.ends ≤ length text
  pub leads : LeadsTo text x.0 x.1.runs x.1.refs
  pub stand : AllZip (Tells (take x.0.ends text)) x.1.rows r.records
  pub rows : IsPermutation (live_rows (take x.0.ends text) x.1.runs) x.1.rows
  pub runs : AllByRecursion (StandsIn sha256 (take x.0.ends text)) x.1.runs

pub is_told : (name : Kind → Bytes → Bytes) → IsNamer name → (text : Bytes) (r : Records) → grown_of name sha256 text ≡ Ok r → (x : Slot × Front) × IsTold name text r x
is_told name namer text r e =
    let g = grown_parts name sha256 text r e in
    let x = g.0 in
    let f = front_is name namer text x g.1 in
    let head = head_text f.read.pick f.read.first f.read.second in
    let all = f.before ++ f.last ∷ [] in
    let front = take x.0.ends text in
    let parts = three (same_bytes x.0.digest (sha256 x.1.tail)) (list_all (is_standing sha256 front) x.1.runs) (same_rows (sorted_rows (live_rows front x.1.runs)) (sorted_rows x.1.rows)) g.2 in
    let long = head_long f.read.pick f.read.first f.read.second f.read.head in
    let up = up_to_end name sha256 text x f in
    let spelled : front ≡ head ++ (flat_map segment_text all ++ []) = up ∙ ap (λ z. head ++ z) (sym (append-nil (flat_map segment_text all))) in
    let stand : AllZip (Tells front) x.1.rows x.1.records =
    subst (λ n. AllZip (Tells front) n x.1.records) (ap (λ n. placed_rows n all) long ∙ sym f.rows)
    (subst (AllZip (Tells front) (placed_rows (length head) all)) (sym f.records) (segments_stand front head all [] spelled)) in
    let runs = standing_are sha256 front x.1.runs parts.1 in
    let tail : x.1.tail ≡ tail_text x.1.runs x.1.refs = f.tail ∙ (λ i. tail_text (sym f.runs i) (sym f.refs i)) in
    let size : length front ≤ x.0.ends = let l = length-take x.0.ends text in omega arith in
    let segment : IsSegment f.last = last_segment name [] f.before f.last f.segments in (
      x,
      record {
        front = f;
        front_is = g.1;
        sound = subst (IsSound name) g.3 f.sound;
        records = ap (λ (z : Records). z.records) g.3;
        refs = ap (λ (z : Records). z.refs) g.3;
        ends = f.read.ends;
        leads = record {
          ends = f.read.ends;
          begins = before x.0.ends (length x.1.tail) x.0.tail f.begun;
          spelled = last_tail name sha256 text x f ∙ tail;
          digest = same_is x.0.digest (sha256 x.1.tail) parts.0 ∙ ap sha256 tail;
          named = subst AreRefs (sym (ap (λ (z : Records). z.refs) g.3)) (sound_refs name namer r (subst (IsSound name) g.3 f.sound));
          live = all_live front x.0.ends x.1.runs size (subst (AllByRecursion IsRun) (sym f.runs) segment.runs) runs;
        };
        stand = subst (λ (z : Records). AllZip (Tells front) x.1.rows z.records) g.3 stand;
        rows = same_sorted (live_rows front x.1.runs) x.1.rows (rows_are (sorted_rows (live_rows front x.1.runs)) (sorted_rows x.1.rows) parts.2);
        runs = runs;
      },
    )
  where
    before : (ends tail begun : ℕ) → ends - tail ≡ begun → begun ≤ ends
    before ends tail begun e = omega arith
