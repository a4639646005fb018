-- How much room the paths below records take, each by its place.
use Rattle.std.proofs.Common.{◌≡◌, ◌≢◌, ℕ, zero, suc, ◌<◌, ◌≤◌, true, false, cond, T, List, [], ◌∷◌, ◌++◌, length, get_or, map, take, drop, slice_get, Some, None, inl, inr, refl, sym, ap, subst, ◌∙◌, arith, append_assoc, append-nil, length-append, length-take, length-take-le, take-append-drop, take_all}
use Rattle.std.specs.List.{list_all}
use Rattle.std.specs.Bool.{passes}
use Rattle.std.proofs.lemmas.Bool.{cases_lt}
use Rattle.std.proofs.Math.Seq.{get_or-append_seam}
use Rattle.std.proofs.lemmas.Option.{slice_get-get_or, slice_get_within}
use Rattle.std.proofs.lemmas.List.{get_or-map, get_or-take, length-map, map-append, map_push, take-append-le}
use Rattle.gx_model.specs.declared.objects.Kind.{Kind}
use Rattle.gx_model.specs.declared.objects.Kind.TheVariants as kinds
use Rattle.gx_model.specs.declared.objects.Mode.TheVariants.{Dir}
use Rattle.gx_model.specs.Texts.{Bytes, same_bytes}
use Rattle.gx_model.specs.Histories.Files.{are_file_paths}
use Rattle.gx_model.specs.Histories.Values.{Value, blob_value, commit_value, is_proper, tag_value, tree_value}
use Rattle.gx_model.specs.Objects.{IsNamer}
use Rattle.gx_model.specs.Records.{body_of, kind_of}
use Rattle.gx_model.specs.Histories.{Record, Records}
use Rattle.gx_model.specs.Records.HistoryOf.{Named, files_of_tree, history_of, named_from, named_values, value_in, value_named, with_record}
use Rattle.gx_model.specs.Records.Sound.{AnyByRecursion, IsHeldAs, IsLinked, IsLinkedAfter, IsSound}
use Rattle.gx_model.proofs.Records.FirstRecords.{kept}
use Rattle.gx_model.proofs.Records.GrownRecords.{distinct_of}
use Rattle.gx_model.proofs.Records.HistoriesExist.{named_is, stands}
use Rattle.gx_model.proofs.Records.LinkedValues.{found, named, proper_in}
use Rattle.gx_model.proofs.Texts.PathTests.{first, second}
use Rattle.gx_model.proofs.ObjectTexts.TreePaths.{content_parts}
use Rattle.gx_repo.specs.Places.{IsPlace}
use Rattle.gx_repo.specs.Rooms.{IsFront, room_of, rooms_of}
use Rattle.gx_repo.proofs.PathRooms.{room_within}
use Rattle.gx_repo.proofs.Places.{no_record}

-- ---- values by names, record by record

-- the name of a value at hand
abbrev name_in : Bytes × Value → Bytes
name_in k = k.0

-- the room of a value at hand
abbrev room_in : Bytes × Value → ℕ
room_in k = room_of k.1

-- the name of a record
abbrev record_name : Record → Bytes
record_name r = r.name

-- the values of records are those of the first, and then of the others
named_both : (ks : Named) (xs ys : List Record) → named_from ks (xs ++ ys) ≡ named_from (named_from ks xs) ys
named_both ks [] ys = refl
named_both ks (x ∷ xs) ys = named_both (with_record ks x) xs ys

-- more values stand behind those at hand
named_more : (ks : Named) (ys : List Record) → (more : Named) × (named_from ks ys ≡ ks ++ more)
named_more ks [] = ([], sym (append-nil ks))
named_more ks (y ∷ ys) =
    let r = named_more (with_record ks y) ys in
    ((y.name, value_in ks y.kind y.body) ∷ r.0, r.1 ∙ append_assoc ks ((y.name, value_in ks y.kind y.body) ∷ []) r.0)

-- the names of values are those of the records
names_from : (ks : Named) (rs : List Record) → map name_in (named_from ks rs) ≡ map name_in ks ++ map record_name rs
names_from ks [] = sym (append-nil (map name_in ks))
names_from ks (r ∷ rs) =
    names_from (with_record ks r) rs
    ∙ ap (λ ns. ns ++ map record_name rs) (map_push name_in ks (r.name, value_in ks r.kind r.body))
    ∙ append_assoc (map name_in ks) (r.name ∷ []) (map record_name rs)

-- there are as many values as records
named_count : (rs : List Record) → length (named_values rs) ≡ length rs
named_count rs = sym (length-map (named_values rs) name_in) ∙ ap length (names_from [] rs) ∙ length-map rs record_name

-- there are as many rooms as records
pub rooms_count : (rs : List Record) → length (rooms_of rs) ≡ length rs
rooms_count rs = length-map (named_values rs) room_in ∙ named_count rs

-- ---- more records, and fewer

-- one record more has its room last
pub rooms_more : (rs : List Record) (r : Record) → rooms_of (rs ++ r ∷ []) ≡ rooms_of rs ++ room_of (value_in (named_values rs) r.kind r.body) ∷ []
rooms_more rs r = ap (map room_in) (named_both [] rs (r ∷ [])) ∙ map_push room_in (named_values rs) (r.name, value_in (named_values rs) r.kind r.body)

-- more records leave the rooms of the first
pub rooms_first : (xs ys : List Record) → take (length xs) (rooms_of (xs ++ ys)) ≡ rooms_of xs
rooms_first xs ys =
    let more = named_more (named_values xs) ys in
    let both : rooms_of (xs ++ ys) ≡ rooms_of xs ++ map room_in more.0 = ap (map room_in) (named_both [] xs ys ∙ more.1) ∙ map-append room_in (named_values xs) more.0 in
    let many = rooms_count xs in
    ap (take (length xs)) both ∙ take-append-le (length xs) (rooms_of xs) (map room_in more.0) (omega (arith, many)) ∙ take_all (length xs) (rooms_of xs) (omega (arith, many))

-- the rooms of the first records are the first rooms
pub rooms_taken : (k : ℕ) (rs : List Record) → rooms_of (take k rs) ≡ take k (rooms_of rs)
rooms_taken k rs = elim (cases_lt k (length rs)) [
  | inl l ↦
      let n : length (take k rs) ≡ k = length-take-le k rs (omega (arith, l)) in
      sym (rooms_first (take k rs) (drop k rs)) ∙ ap (λ j. take j (rooms_of (take k rs ++ drop k rs))) n ∙ ap (λ z. take k (rooms_of z)) (take-append-drop k rs)
  | inr l ↦ ap rooms_of (take_all k rs l) ∙ sym (take_all k (rooms_of rs) (omega (arith, rooms_count rs, l)))
]

-- where records still begin as they did, so do their rooms
pub rooms_front : (old new : List Record) → take (length old) new ≡ old → rooms_of old ≡ take (length old) (rooms_of new)
rooms_front old new e = ap rooms_of (sym e) ∙ rooms_taken (length old) new

-- ---- the record at a place

-- the first records with the next
next_taken : (k : ℕ) (rs : List Record) (r : Record) → slice_get rs k ≡ Some r → take (suc k) rs ≡ take k rs ++ r ∷ []
next_taken k [] r e = absurd (cc)
next_taken zero (s ∷ rs) r e = let is : s ≡ r = cc in ap (λ z. z ∷ []) is
next_taken (suc k) (s ∷ rs) r e = ap (λ z. s ∷ z) (next_taken k rs r e)

-- the next record's room
pub rooms_next : (k : ℕ) (rs : List Record) (r : Record) → slice_get rs k ≡ Some r → rooms_of (take k rs) ++ room_of (value_in (named_values (take k rs)) r.kind r.body) ∷ [] ≡ take (suc k) (rooms_of rs)
rooms_next k rs r e = sym (rooms_more (take k rs) r) ∙ ap rooms_of (sym (next_taken k rs r e)) ∙ rooms_taken (suc k) rs

-- the room of the record at a place
pub room_here : (rs : List Record) (i : ℕ) (r : Record) → slice_get rs i ≡ Some r → get_or (rooms_of rs) i 0 ≡ room_of (value_in (named_values (take i rs)) r.kind r.body)
room_here rs i r e =
    let xs = rooms_of (take i rs) in
    let x = room_of (value_in (named_values (take i rs)) r.kind r.body) in
    let many : i ≡ length xs = omega (arith, rooms_count (take i rs), length-take-le i rs (omega (arith, slice_get_within rs i r e))) in
    sym (get_or-take (suc i) (rooms_of rs) i 0 (omega arith)) ∙ ap (λ ys. get_or ys i 0) (sym (rooms_next i rs r e)) ∙ ap (λ j. get_or (xs ++ x ∷ []) j 0) many ∙ get_or-append_seam xs x [] 0

-- with the next room entered, these are still the first
pub rooms_entered : (rs : List Record) (xs new : List ℕ) (r : Record) (x : ℕ) → xs ≡ take (length xs) (rooms_of rs) → slice_get rs (length xs) ≡ Some r
    → x ≡ room_of (value_in (named_values (take (length xs) rs)) r.kind r.body) → new ≡ xs ++ x ∷ [] → new ≡ take (length new) (rooms_of rs)
rooms_entered rs xs new r x front next its more =
    let many : suc (length xs) ≡ length new = omega (arith, ap length more, length-append xs (x ∷ [])) in
    more ∙ ap (λ y. xs ++ y ∷ []) its
    ∙ ap (λ ys. ys ++ room_of (value_in (named_values (take (length xs) rs)) r.kind r.body) ∷ []) (front ∙ sym (rooms_taken (length xs) rs))
    ∙ rooms_next (length xs) rs r next ∙ ap (λ k. take k (rooms_of rs)) many

-- a room more leaves those that were there
pub front_entered : (old xs new : List ℕ) (x : ℕ) → take (length old) xs ≡ old → new ≡ xs ++ x ∷ [] → take (length old) new ≡ old
front_entered old xs new x front more =
    let few : length old ≤ length xs = omega (arith, ap length front, length-take (length old) xs) in
    ap (take (length old)) more ∙ take-append-le (length old) xs (x ∷ []) few ∙ front

-- behind the last record all rooms are entered
pub rooms_all : (rs : List Record) (xs : List ℕ) → xs ≡ take (length xs) (rooms_of rs) → slice_get rs (length xs) ≡ None → xs ≡ rooms_of rs
rooms_all rs xs front past = elim (cases_lt (length xs) (length rs)) [
  | inl l ↦ absurd (let clash : None ≡ Some (get_or rs (length xs) no_record) = sym past ∙ slice_get-get_or rs (length xs) no_record l in cc)
  | inr l ↦ front ∙ take_all (length xs) (rooms_of rs) (omega (arith, l, rooms_count rs))
]

-- a record's links are among those before it
linked_from : (before rs : List Record) (k : ℕ) (r : Record) → IsLinkedAfter before rs → slice_get rs k ≡ Some r → IsLinked (before ++ take k rs) r.kind r.body
linked_from before [] k r h e = absurd (cc)
linked_from before (s ∷ rs) zero r h e =
    let is : s ≡ r = cc in
    subst (λ z. IsLinked z r.kind r.body) (sym (append-nil before)) (subst (λ (z : Record). IsLinked before z.kind z.body) is h.0)
linked_from before (s ∷ rs) (suc k) r h e = subst (λ z. IsLinked z r.kind r.body) (append_assoc before (s ∷ []) (take k rs)) (linked_from (before ++ s ∷ []) rs k r h.1 e)

-- a record of a sound repository has its links among those before it
pub linked_at : (name : Kind → Bytes → Bytes) (rs : List Record) (k : ℕ) (r : Record) → IsSound name (record { records = rs; refs = [] }) → slice_get rs k ≡ Some r → IsLinked (take k rs) r.kind r.body
linked_at name rs k r i e = linked_from [] rs k r i.linked e

-- ---- the value of a name

-- the value of a name is the first one under it
value_at : (ks : Named) (n : Bytes) (i : ℕ) (d : Bytes × Value) → i < length ks → same_bytes n (get_or ks i d).0 ≡ true → ((j : ℕ) → j < i → same_bytes n (get_or ks j d).0 ≡ false) → value_named ks n ≡ (get_or ks i d).1
value_at [] n i d l t f = absurd (omega (arith, l))
value_at (k ∷ ks) n zero d l t f = ap (λ b. cond b k.1 (value_named ks n)) t
value_at (k ∷ ks) n (suc i) d l t f = ap (λ b. cond b k.1 (value_named ks n)) (f zero (omega arith)) ∙ value_at ks n i d (omega (arith, l)) t (λ j m. f (suc j) (omega (arith, m)))

-- the room of what a name names stands at its place
pub room_at_place : (rs : List Record) (n : Bytes) (i : ℕ) → IsPlace rs n i → room_of (value_named (named_values rs) n) ≡ get_or (rooms_of rs) i 0
room_at_place rs n i p =
    let d : Bytes × Value = ([], blob_value []) in
    let ks = named_values rs in
    let many = named_count rs in
    let same : (j : ℕ) → j < length rs → (get_or ks j d).0 ≡ (get_or rs j no_record).name = λ j l.
    sym (get_or-map name_in ks j d [] (omega (arith, many, l))) ∙ ap (λ ns. get_or ns j []) (names_from [] rs) ∙ get_or-map record_name rs j no_record [] l in
    let its = value_at ks n i d (omega (arith, many, p.within)) (ap (same_bytes n) (same i p.within) ∙ p.named no_record)
    (λ j l. ap (same_bytes n) (same j (omega (arith, p.within, l))) ∙ p.earlier j no_record l) in
    ap room_of its ∙ sym (get_or-map room_in ks i d 0 (omega (arith, many, p.within)))

-- ---- sound repositories

-- the first records of a sound repository are sound
pub sound_first : (name : Kind → Bytes → Bytes) (k : ℕ) (rs : List Record) → IsSound name (record { records = rs; refs = [] }) → IsSound name (record { records = take k rs; refs = [] })
sound_first name k rs i = kept name (take k rs) (drop k rs) [] (subst (λ z. IsSound name (record { records = z; refs = [] })) (sym (take-append-drop k rs)) i) tt

-- a tree with files, at the paths of files
pub record IsFull (v : Value) : Type 0 where
  pub tree : v ≡ tree_value (files_of_tree v)
  pub some : files_of_tree v ≢ []
  pub paths : T (are_file_paths (files_of_tree v))

-- a proper tree whose body isn't empty has files
full_value : (name : Kind → Bytes → Bytes) (v : Value) → T (is_proper v) → kind_of name v ≡ kinds.Tree → body_of name v ≢ [] → IsFull v
full_value name (blob_value x) p k b = absurd (cc)
full_value name (tree_value f) p k b = record { tree = refl; some = λ e. b (ap (λ g. body_of name (tree_value g)) e); paths = (content_parts f p).paths }
full_value name (commit_value c) p k b = absurd (cc)
full_value name (tag_value t) p k b = absurd (cc)

-- what is below a proper value has a small room
proper_room : (v : Value) → T (is_proper v) → room_of v ≤ 4096
proper_room (blob_value x) p = omega arith
proper_room (tree_value f) p = room_within f (content_parts f p).paths
proper_room (commit_value c) p = omega arith
proper_room (tag_value t) p = omega arith

module _ (name : Kind → Bytes → Bytes) (namer : IsNamer name) where
  -- the rooms of proper values are small
  rooms_proper : (vs : List Value) → T (list_all is_proper vs) → (i : ℕ) → get_or (map room_in (named name vs)) i 0 ≤ 4096
  rooms_proper [] p i = omega arith
  rooms_proper (v ∷ vs) p zero = proper_room v (first _ _ p)
  rooms_proper (v ∷ vs) p (suc i) = rooms_proper vs (second (is_proper v) (list_all is_proper vs) p) i

  module _ (rs : List Record) (sound : IsSound name (record { records = rs; refs = [] })) where
    abbrev alone : Records
    alone = record { records = rs; refs = [] }

    -- the rooms of a sound repository are small
    pub rooms_small : (i : ℕ) → get_or (rooms_of rs) i 0 ≤ 4096
    rooms_small i =
        let vs = (history_of alone).values in
        subst (λ ks. get_or (map room_in ks) i 0 ≤ 4096) (sym (named_is name namer alone sound)) (rooms_proper vs (passes _ (stands name namer alone sound).history.proper) i)

    -- a held directory is a tree with files
    pub directory_full : (n : Bytes) → IsHeldAs rs Dir n → IsFull (value_named (named_values rs) n)
    directory_full n h =
        let t = stands name namer alone sound in
        let vs = (history_of alone).values in
        let f = found name namer (λ z. (z.kind ≡ kinds.Tree) × (z.name ≡ n) × (z.body ≢ [])) n (λ z q. q.1) vs (distinct_of name namer alone (history_of alone) t)
        (subst (AnyByRecursion (λ z. (z.kind ≡ kinds.Tree) × (z.name ≡ n) × (z.body ≢ []))) t.records h) in
        subst (λ ks. IsFull (value_named ks n)) (sym (named_is name namer alone sound))
        (full_value name (value_named (named name vs) n) (proper_in vs (value_named (named name vs) n) (passes _ t.history.proper) f.0) f.1.0 f.1.2)

-- ---- the rooms that are entered

take_within : {X : Type 0} (n m : ℕ) (xs : List X) → n ≤ m → take n (take m xs) ≡ take n xs
take_within zero m xs l = refl
take_within (suc n) zero xs l = absurd (omega arith)
take_within (suc n) (suc m) [] l = refl
take_within (suc n) (suc m) (x ∷ xs) l = ap (λ ys. x ∷ ys) (take_within n m xs (omega arith))

-- they are those of the first of more records too
pub front_kept : (old new : List Record) (xs : List ℕ) → IsFront xs old → take (length old) new ≡ old → IsFront xs new
front_kept old new xs its front =
    let few : length xs ≤ length old = omega (arith, ap length its, length-take (length xs) (rooms_of old), rooms_count old) in
    its ∙ ap (take (length xs)) (rooms_front old new front) ∙ take_within (length xs) (length old) (rooms_of new) few

-- all rooms are the first ones
pub front_whole : (rs : List Record) (xs : List ℕ) → xs ≡ rooms_of rs → IsFront xs rs
front_whole rs xs e = sym (take_all (length xs) xs (omega arith)) ∙ ap (take (length xs)) e

-- as many as there are records are all
pub front_all : (rs : List Record) (xs : List ℕ) → IsFront xs rs → length rs ≤ length xs → xs ≡ rooms_of rs
front_all rs xs its l = its ∙ take_all (length xs) (rooms_of rs) (omega (arith, rooms_count rs, l))

taken_front : {X : Type 0} (k : ℕ) (xs rest : List X) → take k xs ≡ take (length (take k xs)) (take k (xs ++ rest))
taken_front zero xs rest = refl
taken_front (suc k) [] rest = refl
taken_front (suc k) (x ∷ xs) rest = ap (λ ys. x ∷ ys) (taken_front k xs rest)

-- fewer records, and fewer rooms
pub front_taken : (k : ℕ) (rs : List Record) (xs : List ℕ) → IsFront xs rs → IsFront (take k xs) (take k rs)
front_taken k rs xs its =
    let all : xs ++ drop (length xs) (rooms_of rs) ≡ rooms_of rs = ap (λ z. z ++ drop (length xs) (rooms_of rs)) its ∙ take-append-drop (length xs) (rooms_of rs) in
    taken_front k xs (drop (length xs) (rooms_of rs)) ∙ ap (λ z. take (length (take k xs)) (take k z)) all ∙ ap (take (length (take k xs))) (sym (rooms_taken k rs))

-- the rooms of the first records are those of all, where there are no others
pub front_of_all : (rs : List Record) (k : ℕ) (xs : List ℕ) → length rs ≡ k → IsFront xs (take k rs) → IsFront xs rs
front_of_all rs k xs e its = subst (IsFront xs) (take_all k rs (omega (arith, e))) its

-- so they are among all
pub front_longer : (rs : List Record) (k : ℕ) (xs : List ℕ) → IsFront xs (take k rs) → length xs ≤ k → IsFront xs rs
front_longer rs k xs its l = its ∙ ap (take (length xs)) (rooms_taken k rs) ∙ take_within (length xs) k (rooms_of rs) l
