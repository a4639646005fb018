-- A record that stands in a text, and what is read of it into a room.
use Rattle.std.proofs.Common.{◌≡◌, ◌≢◌, ℕ, ◌+◌, ◌-◌, ◌<◌, ◌≤◌, ◌^◌, ◌++◌, [], ◌∷◌, length, replicate, take, drop, Option, Some, None, Ok, Err, refl, sym, ap, ◌∙◌, subst, arith, append_assoc}
use Rattle.std.specs.Prelude.{Bool, true, false, not, Result, slice_range}
use Rattle.std.specs.Bool.{passes}
use Rattle.std.proofs.Math.Seq.{drop-append_seam, take-append-add, take-append_seam}
use Rattle.std.proofs.lemmas.List.{drop-take, length-append, length-drop, length-take, length-take-le, take-append-drop, take-take}
use Rattle.std.proofs.lemmas.List.{length-replicate}
use Rattle.gx_model.specs.declared.objects.Kind.{Kind}
use Rattle.gx_model.specs.declared.objects.Kind.TheVariants as kind
use Rattle.gx_model.specs.declared.store_versions.Version.TheVariants.{Two}
use Rattle.gx_model.specs.Texts.{Bytes, same_bytes}
use Rattle.gx_model.specs.Texts.Numbers.{number_text}
use Rattle.gx_model.specs.Objects.{hex}
use Rattle.gx_model.specs.Objects.Naming.{kind_word}
use Rattle.gx_model.specs.Histories.{Record}
use Rattle.gx_model.specs.Stores.StoreText.{stored_record}
use Rattle.gx_model.specs.Stores.StoreReading.{Length}
use Rattle.gx_model.proofs.Texts.Cuts.{some_is}
use Rattle.gx_model.proofs.Texts.PathTests.{is_same, is_true}
use Rattle.gx_model.proofs.ObjectTexts.OneTree.{forty}
use Rattle.gx_model.proofs.Records.ReadRecords.{hex_text}
use Rattle.gx_at.specs.Reads.{StandsAt}
use Rattle.gx_growing.specs.GrowingText.{long_number}
use Rattle.gx_growing.proofs.Fields.{long_length}
use Rattle.gx_growing.proofs.TextLengths.{record_some}
use Rattle.gx_objects.specs.declared.fault.LookFault.{LookFault}
use Rattle.gx_objects.specs.declared.fault.LookFault.TheVariants.{Damaged}
use Rattle.gx_look.specs.declared.records.Heading.{Heading}
use Rattle.gx_look.specs.declared.records.Standing.{Standing}
use Rattle.gx_look.specs.Reading.{EndsBefore, Gives}
use Rattle.gx_look.specs.Records.{IsRecordAt, IsWritten, ReadsHeading, TellsRecord, body_in, heading_text}

-- ---- how long a record's line is

pub number_short : (n : ℕ) → n < 2 ^ 64 → length (number_text n) ≤ 20
number_short n l =
    let k = length (number_text n) in
    let a = length-append (replicate (20 - k) 48) (number_text n) in
    let zero : ℕ = 48 in let b : length (replicate (20 - k) zero) ≡ 20 - k = length-replicate (20 - k) zero in
    let c : length (long_number n) ≡ 20 = long_length n l in
    omega arith

pub word_short : (k : Kind) → length (kind_word k) ≤ 6
word_short kind.Blob = omega arith
word_short kind.Tree = omega arith
word_short kind.Commit = omega arith
word_short kind.Tag = omega arith

heading_short : (held : Record) → IsWritten held → length (heading_text held) ≤ 80
heading_short held h =
    let w = kind_word held.kind in
    let n = number_text (length held.body) in
    let d = hex held.name in
    let digits : length d ≡ 40 = forty d (hex_text held.name (passes _ h.name)) in
    let short = word_short held.kind in
    let few = number_short (length held.body) h.length in
    let a : length (heading_text held) ≡ length (w ++ 32 ∷ (n ++ 32 ∷ d)) + 1 = length-append (w ++ 32 ∷ (n ++ 32 ∷ d)) (10 ∷ []) in
    let b : length (w ++ 32 ∷ (n ++ 32 ∷ d)) ≡ length w + (length (n ++ 32 ∷ d) + 1) = length-append w (32 ∷ (n ++ 32 ∷ d)) ∙ one_more (length w) (n ++ 32 ∷ d) in
    let c : length (n ++ 32 ∷ d) ≡ length n + (length d + 1) = length-append n (32 ∷ d) ∙ one_more (length n) d in
    sum (length w) (length n) (length d) (length (n ++ 32 ∷ d)) (length (w ++ 32 ∷ (n ++ 32 ∷ d))) (length (heading_text held)) short few digits c b a
  where
    one_more : (k : ℕ) (x : Bytes) → k + length (32 ∷ x) ≡ k + (length x + 1)
    one_more k x = omega arith

    sum : (w n d field inside long : ℕ) → w ≤ 6 → n ≤ 20 → d ≡ 40 → field ≡ n + (d + 1) → inside ≡ w + (field + 1) → long ≡ inside + 1 → long ≤ 80
    sum w n d field inside long a b c e f g = omega arith

-- ---- a record in a text

-- what is told of a record is told of each text that is
pub told_of : (name : Kind → Bytes → Bytes) (told : Option Bytes) (ends place : ℕ) (called room : Bytes) (result : Result Standing LookFault)
    → ((text : Bytes) → told ≡ Some text → (held : Record) → IsRecordAt name text ends place called held → Gives (λ standing. (standing.kind ≡ held.kind) × (body_in room standing ≡ held.body)) result)
    → TellsRecord name told ends place called room result
told_of name None ends place called room result h = tt
told_of name (Some text) ends place called room result h = h text refl

module _ (name : Kind → Bytes → Bytes) (text : Bytes) (ends place : ℕ) (called : Bytes) (held : Record) (here : IsRecordAt name text ends place called held) where
  -- the text from the place up to the end
  abbrev behind : Bytes
  behind = drop place (take ends text)

  abbrev record_text : Bytes
  record_text = stored_record Two held

  long_is : length (take ends text) ≡ ends
  long_is = length-take-le ends text here.whole

  fits : length record_text ≤ length behind
  fits =
      let a = ap length here.stands in
      let b = length-take (length record_text) behind in
      omega arith

  -- it stands before the end
  pub near : place ≤ ends
  near =
      let a = length-drop place (take ends text) in
      let b = fits in
      let c = record_some held in
      let d = long_is in
      reached (length (take ends text)) (length behind) (length record_text) a b c d
    where
      reached : (front left long : ℕ) → left ≡ front - place → long ≤ left → 1 ≤ long → front ≡ ends → place ≤ ends
      reached front left long a b c d = omega arith

  behind_long : length behind ≡ ends - place
  behind_long = length-drop place (take ends text) ∙ ap (λ n. n - place) long_is

  -- a text that has it doesn't end before
  pub no_end : (count : ℕ) (fault : LookFault) → count ≤ ends - place → EndsBefore (Some text) (place + count) fault → fault ≢ Damaged
  no_end count fault l h = λ same. let ends_there = h same in let w = here.whole in let n = near in absurd (omega arith)

  -- its line, its body and an LF
  spelled : behind ≡ heading_text held ++ (held.body ++ (10 ∷ drop (length record_text) behind))
  spelled =
      sym (take-append-drop (length record_text) behind)
      ∙ ap (λ z. z ++ drop (length record_text) behind) here.stands
      ∙ append_assoc (heading_text held ++ held.body) (10 ∷ []) (drop (length record_text) behind)
      ∙ append_assoc (heading_text held) held.body (10 ∷ drop (length record_text) behind)

  pub parts_long : length record_text ≡ (length (heading_text held) + length held.body) + 1
  parts_long = length-append (heading_text held ++ held.body) (10 ∷ []) ∙ ap (λ n. n + 1) (length-append (heading_text held) held.body)

  -- its body ends before the end
  pub body_fits : length held.body ≤ (ends - place) - length (heading_text held)
  body_fits = let a = fits in let b = parts_long in let c = behind_long in omega arith

  -- what was read from the place on is a front of it
  room_is : (room : Bytes) → StandsAt (Some text) place room → length room ≤ ends - place → room ≡ take (length room) behind
  room_is room there l =
      let k = ends - place in
      let n = near in
      let whole : ends ≡ place + k = omega arith in
      let all : behind ≡ take k (drop place text) = ap (λ z. drop place (take z text)) whole ∙ drop-take place k text in
      there ∙ sym (ap (take (length room)) all ∙ take-take (length room) k (drop place text) l)

  -- the line is in the first block
  pub block_is : (room : Bytes) → StandsAt (Some text) place room → length room ≤ ends - place → ((n : ℕ) → n ≤ 128 → n ≤ ends - place → n ≤ length room)
      → room ≡ heading_text held ++ take (length room - length (heading_text held)) (held.body ++ (10 ∷ drop (length record_text) behind))
  block_is room there within wide =
      let short = heading_short held here.written in
      let a = fits in
      let b = parts_long in
      let c = behind_long in
      let enough : length (heading_text held) ≤ length room = wide (length (heading_text held)) (omega arith) (omega arith) in
      let rest = held.body ++ (10 ∷ drop (length record_text) behind) in
      let split : length room ≡ length (heading_text held) + (length room - length (heading_text held)) = omega arith in
      room_is room there within
      ∙ ap (take (length room)) spelled
      ∙ ap (λ n. take n (heading_text held ++ rest)) split
      ∙ take-append-add (heading_text held) rest (length room - length (heading_text held))

  -- the body is in a room that has it
  pub body_is : (room : Bytes) (start end : ℕ) → StandsAt (Some text) place room → length room ≤ ends - place → start ≡ length (heading_text held) → end ≡ start + length held.body → end ≤ length room
      → slice_range room start end ≡ held.body
  body_is room start end there l s e within =
      let rest = 10 ∷ drop (length record_text) behind in
      let n = length held.body in
      let count : end - start ≡ n = omega arith in
      let m = length room - start in
      let split : length room ≡ length (heading_text held) + m = omega arith in
      let more : n ≤ m = omega arith in
      let front : room ≡ heading_text held ++ take m (held.body ++ rest) =
      room_is room there l ∙ ap (take (length room)) spelled ∙ ap (λ k. take k (heading_text held ++ (held.body ++ rest))) split ∙ take-append-add (heading_text held) (held.body ++ rest) m in
      (λ i. take (count i) (drop (s i) (front i)))
      ∙ ap (take n) (drop-append_seam (heading_text held) (take m (held.body ++ rest)))
      ∙ take-take n m (held.body ++ rest) more
      ∙ take-append_seam held.body rest

-- ---- what was read of it

-- a room has what stands at a place, as far as an end within the text's
pub record HasBody (told : Option Bytes) (ends place end : ℕ) (room : Bytes) : Type 0 where
  pub there : StandsAt told place room
  pub short : length room ≤ ends - place
  pub enough : end ≤ length room

-- the line of a record was read
pub record IsHeadingOf (called : Bytes) (read : Heading × ℕ) (held : Record) : Type 0 where
  pub kind_is : read.0.kind ≡ held.kind
  pub length_is : read.0.length ≡ length held.body
  pub name_is : read.0.name.bytes ≡ called
  pub start_is : read.1 ≡ length (heading_text held)

module _ (name : Kind → Bytes → Bytes) (told : Option Bytes) (ends place : ℕ) (called room shown : Bytes) (same : shown ≡ room) (there : StandsAt told place room) (within : length room ≤ ends - place)
    (wide : (n : ℕ) → n ≤ 128 → n ≤ ends - place → n ≤ length room) (text : Bytes) (is : told ≡ Some text) (held : Record) (here : IsRecordAt name text ends place called held) where
  line_there : (rest : Bytes) × (shown ≡ heading_text held ++ rest)
  line_there = let e = block_is name text ends place called held here room (subst (λ z. StandsAt z place room) is there) within wide in (_, same ∙ e)

  -- a record's line that isn't read is no damage
  pub heading_fault : (fault : LookFault) → ReadsHeading shown (Err fault) → fault ≢ Damaged
  heading_fault fault h = let l = line_there in h held l.0 here.written l.1

  -- one that is read is the record's
  pub heading_is : (read : Heading × ℕ) → ReadsHeading shown (Ok read) → IsHeadingOf called read held
  heading_is read h =
      let l = line_there in
      let r = h held l.0 here.written l.1 in
      record {
        kind_is = ap (λ (p : Kind × Length). p.0) r.0;
        length_is = ap (λ (p : Kind × Length). p.1.0) r.0;
        name_is = some_is read.0.name.bytes held.name (ap (λ (p : Kind × Length). p.1.1) r.0) ∙ here.name_is;
        start_is = r.1;
      }

  -- its body fits
  pub length_fits : (read : Heading × ℕ) → ReadsHeading shown (Ok read) → read.0.length ≤ (ends - place) - read.1
  length_fits read h =
      let r = heading_is read h in
      let f = body_fits name text ends place called held here in
      let a = r.length_is in
      let b = r.start_is in
      omega arith

  -- and stands behind the line
  pub body_read : (read : Heading × ℕ) → ReadsHeading shown (Ok read) → (whole : Bytes) → HasBody told ends place (read.1 + read.0.length) whole → slice_range whole read.1 (read.1 + read.0.length) ≡ held.body
  body_read read h whole has =
      let r = heading_is read h in
      body_is name text ends place called held here whole read.1 (read.1 + read.0.length) (subst (λ z. StandsAt z place whole) is has.there) has.short r.start_is (ap (λ n. read.1 + n) r.length_is) has.enough

  -- so it has the name
  pub body_named : (read : Heading × ℕ) → ReadsHeading shown (Ok read) → (whole : Bytes) → HasBody told ends place (read.1 + read.0.length) whole
      → name read.0.kind (slice_range whole read.1 (read.1 + read.0.length)) ≡ called
  body_named read h whole has =
      let r = heading_is read h in
      let b = body_read read h whole has in
      (λ i. name (r.kind_is i) (b i)) ∙ sym here.named ∙ here.name_is

-- bytes that are equal aren't told apart
pub told_apart : (x y : Bytes) (b : Bool) → b ≡ not (same_bytes x y) → b ≡ true → x ≢ y
told_apart x y b e t = λ same.
    let one = is_true _ (is_same x y same) in
    let l : not (same_bytes x y) ≡ false = ap not one in
    let m = sym t ∙ e ∙ l in
    cc
