-- How segments and slots are spelled.
use Rattle.std.proofs.Common.{◌≡◌, ℕ, ◌+◌, ◌-◌, ◌<◌, ◌^◌, refl, sym, ap, ◌∙◌, List, [], ◌∷◌, ◌++◌, length, drop, codes, arith, append_assoc, append-nil, length-append}
use Rattle.std.specs.Prelude.{replicate}
use Rattle.std.specs.Fmt.{decimal}
use Rattle.std.specs.List.{flat_map}
use Rattle.std.proofs.lemmas.List.{drop_at}
use Rattle.sha2.specs.Sha256.{sha256}
use Rattle.gx_model.specs.declared.store_versions.Version.TheVariants.{Two}
use Rattle.gx_model.specs.Texts.{Bytes}
use Rattle.gx_model.specs.Texts.Numbers.{number_text}
use Rattle.gx_model.specs.Objects.{line}
use Rattle.gx_model.proofs.Texts.Decimals.{text_is_decimal}
use Rattle.gx_model.specs.Stores.StoreText.{stored_record, stored_ref}
use Rattle.gx_growing.specs.GrowingLaws.{next_slot}
use Rattle.gx_growing.specs.GrowingText.{Run, Segment, long_number, records_text, rows_text, run_text, segment_text, tail_text}
use Rattle.gx_additions.specs.Additions.{AreLines, refs_alone, tail_with}
use Rattle.gx_additions.specs.NewObjects.{IsFront}
use Rattle.gx_additions.specs.Parts.{before_tail, records_front, refs_front, runs_front, slot_of, table_front}

-- ---- slots

-- a number of twenty digits, behind some bytes
pub long_put : (n : ℕ) (old zeros digits mid new : Bytes) → n < 2 ^ 64 → mid ≡ old ++ zeros → new ≡ mid ++ digits → zeros ≡ replicate (20 - length digits) 48 → digits ≡ decimal n
    → new ≡ old ++ long_number n
long_put n old zeros digits mid new small first second z d =
    let text = d ∙ sym (text_is_decimal n small) in
    second ∙ ap (λ b. b ++ digits) first ∙ append_assoc old zeros digits ∙ ap (λ b. old ++ (b ++ digits)) z ∙ (λ i. old ++ (replicate (20 - length (text i)) 48 ++ text i))

-- the slot of a segment with its tail behind so many bytes
pub next_told : (s : Segment) (ends front : ℕ) (before segment : Bytes) → segment ≡ before ++ tail_text s.runs s.refs → segment ≡ segment_text s → front ≡ length before → slot_of ends segment front ≡ next_slot sha256 ends s
next_told s ends front before segment e f g =
    let tail = tail_text s.runs s.refs in
    let is : drop front segment ≡ tail = ap (drop front) e ∙ drop_at before tail front (sym g) in
    let long : length segment ≡ length before + length tail = ap length e ∙ length-append before tail in
    let same = ap length f in
    (λ i. record { ends = (ends + front) + length (is i); tail = ends + front; digest = sha256 (is i) })
    ∙ (λ i. record {
      ends = there ends front (length before) (length tail) (length segment) (length (segment_text s)) long same g i;
      tail = begins ends front (length before) (length tail) (length segment) (length (segment_text s)) long same g i;
      digest = sha256 tail;
    })
  where
    there : (e f b t s k : ℕ) → s ≡ b + t → s ≡ k → f ≡ b → (e + f) + t ≡ e + k
    there e f b t s k x y z = omega arith

    begins : (e f b t s k : ℕ) → s ≡ b + t → s ≡ k → f ≡ b → e + f ≡ e + k - t
    begins e f b t s k x y z = omega arith

-- ---- segments without objects

-- what stands before the tail
abbrev pub before : Bytes
before = codes "objects 0" ++ (10 ∷ (codes "rows 0" ++ (10 ∷ 10 ∷ [])))

pub spelled_before : (tail : Bytes) → records_text [] (rows_text 0 [] tail) ≡ before ++ tail
unfolding number_text
spelled_before tail = refl

-- the tail of lines is that of what they tell
pub tail_told : (live : List Run) (named : List (Bytes × Bytes)) (count : ℕ) (refs : Bytes) → AreLines named count refs → tail_with live count refs ≡ tail_text live named
tail_told live named count refs lines = λ i.
    line (codes "runs") (number_text (length live)) ++ (flat_map run_text live ++ (line (codes "refs") (number_text (lines.counted i)) ++ (lines.of_refs i ++ (codes "end" ++ 10 ∷ []))))

-- a segment of such lines
pub segment_told : (live : List Run) (named : List (Bytes × Bytes)) (count : ℕ) (refs segment : Bytes) → AreLines named count refs
    → segment ≡ records_text [] (rows_text 0 [] (tail_with live count refs)) → segment ≡ segment_text (refs_alone live named)
segment_told live named count refs segment lines e = e ∙ ap (λ z. records_text [] (rows_text 0 [] z)) (tail_told live named count refs lines)

-- its slot
pub slot_told : (live : List Run) (named : List (Bytes × Bytes)) (ends : ℕ) (segment : Bytes) → segment ≡ segment_text (refs_alone live named) → slot_of ends segment 18 ≡ next_slot sha256 ends (refs_alone live named)
slot_told live named ends segment e = next_told (refs_alone live named) ends 18 before segment (e ∙ spelled_before (tail_text live named)) e refl

-- the bytes of a segment, put one behind the other
pub segment_put : (n : ℕ) (live : List Run) (refs a b c d : Bytes) → a ≡ before → b ≡ a ++ (line (codes "runs") (number_text (length live)) ++ flat_map run_text live) → c ≡ b ++ line (codes "refs") (number_text n)
    → d ≡ c ++ (refs ++ (codes "end" ++ 10 ∷ [])) → d ≡ records_text [] (rows_text 0 [] (tail_with live n refs))
segment_put n live refs a b c d a_is b_is c_is d_is =
    let counted = line (codes "runs") (number_text (length live)) in
    let runs = flat_map run_text live in
    let more = line (codes "refs") (number_text n) in
    let last : Bytes = codes "end" ++ 10 ∷ [] in
    d_is ∙ ap (λ z. z ++ (refs ++ last)) (c_is ∙ ap (λ z. z ++ more) (b_is ∙ ap (λ z. z ++ (counted ++ runs)) a_is))
    ∙ regroup before counted runs more (refs ++ last) ∙ sym (spelled_before (tail_with live n refs))
  where
    regroup : (b k r m l : Bytes) → ((b ++ (k ++ r)) ++ m) ++ l ≡ b ++ (k ++ (r ++ (m ++ l)))
    regroup b k r m l = simp append_assoc

-- ---- segments with objects

-- a segment with its tail behind the rest
pub front_told : (s : Segment) → before_tail s ++ tail_text s.runs s.refs ≡ segment_text s
front_told s =
    let counted = line (codes "objects") (number_text (length s.records)) in
    let held = flat_map (stored_record Two) s.records in
    let more = line (codes "rows") (number_text s.count) in
    ap (λ z. ((counted ++ z) ++ (more ++ (s.table ++ (10 ∷ [])))) ++ tail_text s.runs s.refs) (append-nil held) ∙ regroup counted held more s.table (tail_text s.runs s.refs)
  where
    regroup : (k h m t l : Bytes) → ((k ++ h) ++ (m ++ (t ++ (10 ∷ [])))) ++ l ≡ k ++ (h ++ (m ++ (t ++ (10 ∷ l))))
    regroup k h m t l = simp append_assoc

-- what stands in front of a segment's refs, put one behind the other
pub front_put : (s : Segment) (runs : List Run) (a b c d : Bytes) (front : ℕ) → a ≡ [] → b ≡ a ++ records_front s.records → c ≡ b ++ table_front s.count s.table → front ≡ length c → runs ≡ s.runs → d ≡ c ++ runs_front runs
    → IsFront s d front
front_put s runs a b c d front a_is b_is c_is f r d_is =
    let before = c_is ∙ ap (λ z. z ++ table_front s.count s.table) (b_is ∙ ap (λ z. z ++ records_front s.records) a_is) in
    (d_is ∙ (λ i. before i ++ runs_front (r i)), f ∙ ap length before)

-- the refs behind it
pub refs_put : (s : Segment) (bytes put last : Bytes) (front : ℕ) → IsFront s bytes front → put ≡ bytes ++ refs_front s.refs → last ≡ put ++ (codes "end" ++ 10 ∷ []) → last ≡ before_tail s ++ tail_text s.runs s.refs
refs_put s bytes put last front is p l =
    let counted = line (codes "runs") (number_text (length s.runs)) in
    let more = line (codes "refs") (number_text (length s.refs)) in
    l ∙ ap (λ z. z ++ (codes "end" ++ 10 ∷ [])) (p ∙ ap (λ z. z ++ refs_front s.refs) is.0) ∙ regroup (before_tail s) counted (flat_map run_text s.runs) more (flat_map stored_ref s.refs) (codes "end" ++ 10 ∷ [])
  where
    regroup : (x k r m n l : Bytes) → ((x ++ (k ++ r)) ++ (m ++ n)) ++ l ≡ x ++ (k ++ (r ++ (m ++ (n ++ l))))
    regroup x k r m n l = simp append_assoc

-- a number and lines are those of refs
pub lines_put : (named : List (Bytes × Bytes)) (count : ℕ) (refs bytes put last : Bytes) → AreLines named count refs → put ≡ bytes ++ line (codes "refs") (number_text count) → last ≡ put ++ (refs ++ (codes "end" ++ 10 ∷ []))
    → last ≡ (bytes ++ refs_front named) ++ (codes "end" ++ 10 ∷ [])
lines_put named count refs bytes put last lines p l =
    let counted = p ∙ ap (λ n. bytes ++ line (codes "refs") (number_text n)) lines.counted in
    l ∙ (λ i. counted i ++ (lines.of_refs i ++ (codes "end" ++ 10 ∷ []))) ∙ regroup bytes (line (codes "refs") (number_text (length named))) (flat_map stored_ref named) (codes "end" ++ 10 ∷ [])
  where
    regroup : (b c r e : Bytes) → (b ++ c) ++ (r ++ e) ≡ (b ++ (c ++ r)) ++ e
    regroup b c r e = simp append_assoc
