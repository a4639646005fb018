-- Packs are read as the objects that were written.
use Rattle.std.proofs.Common.{◌≡◌, ℕ, suc, ◌-◌, ◌^◌, ◌<◌, true, List, [], ◌∷◌, ◌++◌, length, take, Some, refl, sym, ap, ◌∙◌, arith, append_assoc, length-append}
use Rattle.std.specs.Prelude.{nat_eq}
use Rattle.std.specs.List.{flat_map}
use Rattle.std.specs.Option.{option_and_then}
use Rattle.std.specs.Cmp.Lexicographic.{bytes_decides}
use Rattle.std.proofs.lemmas.Bool.{eq-eqb}
use Rattle.std.proofs.lemmas.List.{take_at}
use Rattle.std.proofs.lemmas.List.Concat.{flat_map-cons}
use Rattle.std.proofs.lemmas.Nat.{from_be_bytes-to_be_bytes_4}
use Rattle.gx_model.specs.Texts.{Bytes, same_bytes}
use Rattle.gx_pack.specs.Zlib.{stored_text}
use Rattle.gx_pack.specs.Packs.{Object, entry_head, entry_text, pack_front, pack_head, pack_text}
use Rattle.gx_pack.specs.PackReading.{count_at, counted, digested, entries_at, entry_at, pack_of}
use Rattle.gx_pack.specs.PackLaws.{PacksAreRead}
use Rattle.gx_pack.proofs.DataRead.{data_read, front_read}
use Rattle.gx_pack.proofs.Numbers.{head_read}

-- an entry is read as its object
pub entry_read : (object : Object) (rest : Bytes) → entry_at (entry_text object ++ rest) ≡ Some (object, rest)
unfolding entry_at entry_text
entry_read object rest =
    let head = entry_head object.0 (length object.1) in
    let stored = stored_text object.1 in
    let fits : nat_eq (length object.1) (length object.1) ≡ true = eq-eqb _ _ refl in
    ap entry_at (append_assoc head stored rest)
    ∙ rw (head_read object.0 (length object.1) (stored ++ rest), data_read object.1 rest, fits) refl

-- entries one behind the other
entries_read : (objects : List Object) (rest : Bytes) → entries_at (length objects) (flat_map entry_text objects ++ rest) ≡ Some (objects, rest)
unfolding entries_at
entries_read [] rest = refl
entries_read (o ∷ os) rest =
    let text : flat_map entry_text (o ∷ os) ++ rest ≡ entry_text o ++ (flat_map entry_text os ++ rest) =
    ap (λ t. t ++ rest) (flat_map-cons entry_text o os) ∙ append_assoc (entry_text o) (flat_map entry_text os) rest in
    ap (entries_at (suc (length os))) text ∙ rw (entry_read o (flat_map entry_text os ++ rest), entries_read os rest) refl

-- the head of a pack tells how many entries follow
count_read : (n : ℕ) (rest : Bytes) → n < 2 ^ 32 → count_at (pack_head n ++ rest) ≡ Some (n, rest)
unfolding count_at pack_head
count_read n rest h = ap (option_and_then counted) (front_read (pack_head n) rest 12 refl) ∙ ap (λ (count : ℕ). Some (count, rest)) (from_be_bytes-to_be_bytes_4 n h)

-- the digest is that of what stands before it
digest_read : (digest : Bytes → Bytes) (front : Bytes) (objects : List Object) → digested digest (front ++ digest front) (objects, digest front) ≡ Some objects
digest_read digest front objects =
    let end = digest front in
    let long = length-append front end in
    let place : length (front ++ end) - length end ≡ length front = omega (arith, long) in
    let before : take (length (front ++ end) - length end) (front ++ end) ≡ front = ap (λ n. take n (front ++ end)) place ∙ take_at front end (length front) refl in
    let same : same_bytes end (digest (take (length (front ++ end) - length end) (front ++ end))) ≡ true = (bytes_decides _ _).1 (ap digest (sym before)) in
    rw same refl

pack_read : (digest : Bytes → Bytes) (objects : List Object) → length objects < 2 ^ 32 → pack_of digest (pack_text digest objects) ≡ Some objects
unfolding pack_of
pack_read digest objects h =
    let head = pack_head (length objects) in
    let entries = flat_map entry_text objects in
    let end = digest (pack_front objects) in
    let text : pack_text digest objects ≡ head ++ (entries ++ end) = append_assoc head entries end in
    rw (ap count_at text ∙ count_read (length objects) (entries ++ end) h, entries_read objects end) (digest_read digest (pack_front objects) objects)

pub packs_are_read : PacksAreRead
packs_are_read = record { stored = data_read; entries = entry_read; packs = pack_read }
