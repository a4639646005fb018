-- What is read behind the head of a growing text, step by step.
use Rattle.std.proofs.Common.{◌≡◌, ℕ, ◌-◌, ◌≤◌, zero, suc, ◌<◌, Bool, true, false, cond, refl, sym, ap, ◌∙◌, [], ◌∷◌, length, take, drop, Ok, Err, None, List, subst, eqb→eq, arith, ◌≢◌, ◌^◌}
use Rattle.std.specs.Prelude.{nat_eq}
use Rattle.gx_model.specs.declared.objects.Kind.{Kind}
use Rattle.gx_model.specs.declared.store_faults.FileFault.{FileFault}
use Rattle.gx_model.specs.declared.store_faults.FileFault.TheVariants as fault
use Rattle.gx_model.specs.Faults.{◌>>=◌}
use Rattle.gx_model.specs.Histories.{Records}
use Rattle.gx_model.specs.Stores.StoreReading.{Stored, only_if}
use Rattle.gx_model.specs.Texts.{Bytes, cut_at}
use Rattle.std.proofs.lemmas.List.{drop_all, drop_at, length-take-le}
use Rattle.std.proofs.lemmas.Bool.{eq-eqb, false_from_ne_true}
use Rattle.std.specs.Bool.{passes}
use Rattle.gx_model.specs.Stores.StoreReading.{next_refs}
use Rattle.gx_model.specs.Histories.{Record}
use Rattle.gx_growing_segments.specs.declared.segments.Tail.{Tail}
use Rattle.gx_growing_segments.specs.Seen.{HasRefs, refs_at, refs_told}
use Rattle.gx_lines.specs.Reads.{IsFaultOf}
use Rattle.gx_growing.specs.declared.fault.GrowingFault.{GrowingFault}
use Rattle.gx_growing.specs.declared.fault.GrowingFault.TheVariants.{Text, BadRows}
use Rattle.gx_growing.specs.GrowingReading.{Front, Grown, grown_of, has_rows, head_of, lifted, next_segments, no_front, place_of, with_rows}
use Rattle.gx_growing.specs.GrowingText.{IsGrowingText, Slot, head_length, head_text}
use Rattle.sha2.specs.Sha256.{sha256}
use Rattle.gx_growing.proofs.ReadFronts.{head_long, head_of_text}
use Rattle.gx_growing.specs.GrowingLaws.{GrowingIsRead}
use Rattle.gx_growing_parts.proofs.Digesters.{digester}
use Rattle.gx_growing_file.specs.Grown.{IsGrownFault, begun_at, grown_behind, rows_told}

module _ (name : Kind → Bytes → Bytes) (digest : Bytes → Bytes) (slot : Slot) (text : Bytes) where
  -- what comes of the segments
  abbrev then_rows : Stored Front → Grown Records
  then_rows read = lifted (read >>= begun_at slot) >>= rows_told digest text

  -- what comes of the last tail, which begins where the slot says or doesn't
  abbrev begun_if : Front → Bool → Stored (Slot × Front)
  begun_if front b = only_if b fault.BadRecord >>= λ begun. Ok (slot, front)

  -- A fault of the segments is that of the text.
  pub segments_refused : (f : FileFault) → IsFaultOf f (next_segments name slot.ends slot.ends no_front (drop 226 text)) → IsGrownFault (Text f) (grown_behind name digest slot text)
  segments_refused fault.OutOfMemory h = tt
  segments_refused _ h = ap then_rows h

  module _ (front : Front) (read : next_segments name slot.ends slot.ends no_front (drop 226 text) ≡ Ok front) where
    -- Where the last tail begins elsewhere, a line isn't as written.
    pub begins_elsewhere : nat_eq (place_of slot.ends front.tail) slot.tail ≡ false → grown_behind name digest slot text ≡ Err (Text fault.BadRecord)
    begins_elsewhere e = ap then_rows read ∙ ap (λ b. lifted (begun_if front b) >>= rows_told digest text) e

    -- Otherwise the rows decide.
    pub rows_decide : nat_eq (place_of slot.ends front.tail) slot.tail ≡ true → (b : Bool) → has_rows digest text slot front ≡ b
        → grown_behind name digest slot text ≡ cond b (Ok (record { records = front.records; refs = front.refs })) (Err BadRows)
    rows_decide e b h =
        ap then_rows read ∙ ap (λ b. lifted (begun_if front b) >>= rows_told digest text) e
        ∙ ap (λ b. cond b (Ok (record { records = front.records; refs = front.refs })) (Err BadRows)) h

-- ---- the head

-- what is cut from behind a front is cut from behind it
cut_behind : (n m : ℕ) (x : Bytes) → take (m - n) (drop n x) ≡ drop n (take m x)
cut_behind zero m x = let all : m - 0 ≡ m = omega arith in ap (λ k. take k x) all
cut_behind (suc n) zero x = let none : 0 - suc n ≡ 0 = omega arith in ap (λ k. take k (drop (suc n) x)) none
cut_behind (suc n) (suc m) [] = take_none (suc m - suc n)
  where
    take_none : (k : ℕ) → take {A = ℕ} k [] ≡ []
    take_none zero = refl
    take_none (suc k) = refl
cut_behind (suc n) (suc m) (b ∷ x) = let less : suc m - suc n ≡ m - n = omega arith in ap (λ k. take k (drop n x)) less ∙ cut_behind n m x

module _ (name : Kind → Bytes → Bytes) (digest : Bytes → Bytes) (text : Bytes) where
  -- what comes of the head
  abbrev then_segments : Slot × Bytes → Stored (Slot × Front)
  then_segments head = next_segments name head.0.ends head.0.ends no_front (take (head.0.ends - head_length) head.1) >>= begun_at head.0

  -- what comes of all in front of the rows
  abbrev then_all : Stored (Slot × Front) → Grown Records
  then_all read = lifted read >>= λ read. with_rows digest (take read.0.ends text) read.0 read.1

  -- A fault of the head is that of the text.
  pub head_refused : (f : FileFault) → IsFaultOf f (head_of text) → IsGrownFault (Text f) (grown_of name digest text)
  unfolding grown_of
  head_refused fault.OutOfMemory h = tt
  head_refused _ h = ap (λ head. then_all (head >>= then_segments)) h

  module _ (slot : Slot) (rest : Bytes) (read : head_of text ≡ Ok (slot, rest)) where
    -- The text ends within what there is.
    pub ends_within : slot.ends ≤ length text
    ends_within = (head_of_text text (slot, rest) read).ends

    -- what follows the head stands behind it
    rest_is : rest ≡ drop 226 text
    rest_is =
        let h = head_of_text text (slot, rest) read in
        let long = head_long h.pick h.first h.second h.head in
        sym (ap (drop 226) h.spelled ∙ drop_at (head_text h.pick h.first h.second) rest 226 long)

    rows_then : (r : Stored Front) → then_all (r >>= begun_at slot) ≡ (lifted (r >>= begun_at slot) >>= rows_told digest (take slot.ends text))
    rows_then (Err f) = refl
    rows_then (Ok front) = by (nat_eq (place_of slot.ends front.tail) slot.tail)
      where
        by : (b : Bool) → then_all (begun_if name digest slot text front b) ≡ (lifted (begun_if name digest slot text front b) >>= rows_told digest (take slot.ends text))
        by true = refl
        by false = refl

    -- What is read of the text is read of it up to its end.
    pub read_behind : grown_of name digest text ≡ grown_behind name digest slot (take slot.ends text)
    unfolding grown_of
    read_behind =
        ap (λ head. then_all (head >>= then_segments)) read
        ∙ ap (λ t. then_all (next_segments name slot.ends slot.ends no_front t >>= begun_at slot)) (ap (take (slot.ends - 226)) rest_is ∙ cut_behind 226 slot.ends text)
        ∙ rows_then (next_segments name slot.ends slot.ends no_front (drop 226 (take slot.ends text)))

    module _ (front : Bytes) (is : front ≡ take slot.ends text) where
      -- The text up to its end has so many bytes.
      pub front_ends : slot.ends ≡ length front
      front_ends = sym (ap length is ∙ length-take-le slot.ends text ends_within)

      -- What is read of the text is read of this front.
      pub front_read : grown_of name digest text ≡ grown_behind name digest slot front
      front_read = read_behind ∙ ap (grown_behind name digest slot) (sym is)

-- ---- what is refused

-- a fault is no answer
none_read : {Y : Type 0} (why : GrowingFault) (given : Grown Y) (y : Y) → given ≡ Err why → given ≡ Ok y → ⊥
none_read why given y h e = cc

not_read : {Y : Type 0} (why : GrowingFault) (given : Grown Y) (y : Y) → IsGrownFault why given → why ≢ Text fault.OutOfMemory → given ≡ Ok y → ⊥
not_read (Text fault.OutOfMemory) given y h other e = other refl
not_read (Text f) given y h other e = none_read (Text f) given y h e
not_read BadRows given y h other e = none_read BadRows given y h e

-- A fault but want of memory is answered for the growing text of no repository.
pub refuses : (name : Kind → Bytes → Bytes) → GrowingIsRead name → (text : Bytes) (why : GrowingFault) → length text < 2 ^ 63 → IsGrownFault why (grown_of name sha256 text)
    → why ≢ Text fault.OutOfMemory → (repository : Records) → IsGrowingText name sha256 text repository → ⊥
refuses name law text why short h other repository is = not_read why (grown_of name sha256 text) repository h other (law.read sha256 digester text repository is short)

-- What is read is the text of the repository.
pub is_text : (name : Kind → Bytes → Bytes) → GrowingIsRead name → (text : Bytes) (repository : Records) → grown_of name sha256 text ≡ Ok repository → IsGrowingText name sha256 text repository
is_text name law text repository e = (law.only sha256 digester text repository e).1

-- ---- what stands behind the head

-- where nothing stands, no segment is read
none_there : (name : Kind → Bytes → Bytes) (ends fuel : ℕ) → next_segments name ends fuel no_front [] ≡ Err fault.Truncated
unfolding cut_at
none_there name ends zero = refl
none_there name ends (suc fuel) = refl

module _ (name : Kind → Bytes → Bytes) (digest : Bytes → Bytes) (slot : Slot) (text rest : Bytes) (ends : slot.ends ≡ length text) where
  -- what is left behind the head is read as what the slot tells
  left_read : rest ≡ drop 226 text → next_segments name (length text) (length text) no_front rest ≡ next_segments name slot.ends slot.ends no_front (drop 226 text)
  left_read is = λ i. next_segments name (sym ends i) (sym ends i) no_front (is i)

  -- Where the text has no bytes behind a head, it is cut off.
  pub no_head : length text < 226 → grown_behind name digest slot text ≡ Err (Text fault.Truncated)
  no_head short = ap (then_rows name digest slot text) (ap (next_segments name slot.ends slot.ends no_front) (drop_all 226 text (omega (arith, short))) ∙ none_there name slot.ends slot.ends)

  -- A fault of what is left is that of the text.
  pub left_refused : rest ≡ drop 226 text → (f : FileFault) → IsFaultOf f (next_segments name (length text) (length text) no_front rest) → IsGrownFault (Text f) (grown_behind name digest slot text)
  left_refused is f h = segments_refused name digest slot text f (subst (IsFaultOf f) (left_read is) h)

  module _ (is : rest ≡ drop 226 text) (front : Front) (read : next_segments name (length text) (length text) no_front rest ≡ Ok front) where
    seen : next_segments name slot.ends slot.ends no_front (drop 226 text) ≡ Ok front
    seen = sym (left_read is) ∙ read

    -- Where the last tail begins elsewhere, a line isn't as written.
    pub tail_elsewhere : (length text - length front.tail ≡ slot.tail → ⊥) → grown_behind name digest slot text ≡ Err (Text fault.BadRecord)
    tail_elsewhere other =
        begins_elsewhere name digest slot text front seen (false_from_ne_true _ (λ same. other (ap (λ n. n - length front.tail) (sym ends) ∙ eqb→eq (slot.ends - length front.tail) slot.tail (passes _ same))))

    module _ (there : length text - length front.tail ≡ slot.tail) (told : Bool) (rows : told ≡ has_rows digest text slot front) where
      decided : grown_behind name digest slot text ≡ cond told (Ok (record { records = front.records; refs = front.refs })) (Err BadRows)
      decided = rows_decide name digest slot text front seen (eq-eqb (slot.ends - length front.tail) slot.tail (ap (λ n. n - length front.tail) ends ∙ there)) told (sym rows)

      -- Rows that aren't right refuse the text.
      pub rows_wrong : told ≡ false → grown_behind name digest slot text ≡ Err BadRows
      rows_wrong h = decided ∙ ap (λ b. cond b (Ok (record { records = front.records; refs = front.refs })) (Err BadRows)) h

      -- Where they are right, this is what is read.
      pub rows_right : told ≡ true → (r : Records) → r.records ≡ front.records → r.refs ≡ front.refs → grown_behind name digest slot text ≡ Ok r
      rows_right h r same refs =
          decided ∙ ap (λ b. cond b (Ok (record { records = front.records; refs = front.refs })) (Err BadRows)) h
          ∙ ap Ok (λ i. record { records = sym same i; refs = sym refs i })

-- ---- refs

-- The refs that are set are those that were looked at.
pub refs_set : {A : Type 0} (records : List Record) (tail : Tail A) → HasRefs records tail → (refs : List (Bytes × Bytes)) (rest : Bytes) → next_refs tail.count records None tail.refs.now ≡ Ok (refs, rest)
    → refs ≡ refs_at records tail.count tail.refs.now
refs_set records tail h refs rest e = ap refs_told (sym e)
