-- What is held of a plain text that was opened tells the repository that it is read as.
use Rattle.std.proofs.Common.{◌≡◌, ◌≢◌, ℕ, zero, suc, ◌+◌, ◌-◌, ◌<◌, ◌≤◌, List, [], ◌∷◌, ◌++◌, length, map, drop, get_or, Option, Some, None, Ok, Err, refl, sym, ap, ◌∙◌, subst, arith}
use Rattle.std.specs.Prelude.{IfSome, slice_get, slice_index}
use Rattle.std.specs.Bool.{passes}
use Rattle.std.specs.List.{AllZip}
use Rattle.std.specs.Option.{option_map}
use Rattle.std.specs.Result.{result_ok}
use Rattle.std.proofs.lemmas.List.{length-append}
use Rattle.std.proofs.lemmas.Option.{slice_get-get_or}
use Rattle.gx_model.specs.declared.objects.Kind.{Kind}
use Rattle.gx_model.specs.declared.store_versions.Version.{Version}
use Rattle.gx_model.specs.Texts.{Bytes}
use Rattle.gx_model.specs.Histories.{Record, Records, object_of}
use Rattle.gx_model.specs.Objects.{IsNamer, line}
use Rattle.gx_model.specs.Objects.Naming.{kind_word}
use Rattle.gx_model.specs.Laws.StoreLaws.{StoresAreRead}
use Rattle.gx_model.specs.Records.Growth.{record_named}
use Rattle.gx_model.specs.Records.Sound.{IsSound}
use Rattle.gx_model.specs.Stores.StoreReading.{Stored, store_of}
use Rattle.gx_model.specs.Stores.StoreText.{length_text, stored_record}
use Rattle.gx_model.proofs.Stores.StoreTexts.{ok_is}
use Rattle.gx_model.proofs.Texts.PathTests.{same_is}
use Rattle.gx_objects.specs.Answers.{FindsBegun, GoesUp, StandsThere}
use Rattle.gx_plain.proofs.SoundRefs.{refs_are}
use Rattle.gx_look.specs.Refs.{AreLines}
use Rattle.gx_look.specs.Tails.{refs_text}
use Rattle.gx_plain.proofs.SoundRefs.{lines_of}
use Rattle.gx_object.specs.declared.name.Name.{Name}
use Rattle.gx_store.specs.Prefixes.{AreEnds, BeginNone, found_between}
use Rattle.gx_store.specs.declared.prefix.Prefix.{Prefix}
use Rattle.gx_store.specs.declared.prefix.Prefix.TheVariants.{Absent}
use Rattle.gx_store.specs.Stores.{place_named}
use Rattle.gx_repo.proofs.Places.{is_place, no_place, no_record, no_record_named, record_at_place}
use Rattle.gx_listed.specs.Listings.{HaveHeads, Listed, ListsAll, ListsIfTold, number_named}
use Rattle.gx_plain.proofs.ListedObjects.{number_is, one_listed, same_length}
use Rattle.gx_plain.proofs.BegunNames.{all_names, begun_listed, none_begun}
use Rattle.gx_plain.specs.Listing.{places_from, places_listed}
use Rattle.gx_plain.specs.Plain.{IsOpened, IsReadAs, IsReadIfTold, places_in, places_of, told_by}
use Rattle.gx_plain.specs.Records.{AreStored, IsStoredAt, TellsRecord, body_in}
use Rattle.gx_objects.specs.declared.fault.LookFault.{LookFault}
use Rattle.gx_objects.specs.declared.fault.LookFault.TheVariants.{Damaged}
use Rattle.gx_plain.specs.declared.records.Found.{Found}
use Rattle.gx_plain.specs.declared.refs.Tail.{Tail}

-- ---- places go up

record_some : (v : Version) (r : Record) → 1 ≤ length (stored_record v r)
record_some v r = let e = length-append (line (kind_word r.kind) (length_text v (length r.body) r.name) ++ r.body) (10 ∷ []) in omega arith

module _ (v : Version) where
  behind_first : (place : ℕ) (rs : List Record) (j : ℕ) → j < length rs → place ≤ slice_index (places_from v place rs) j
  behind_first place [] j l = absurd (omega (arith, l))
  behind_first place (r ∷ rs) zero l = omega arith
  behind_first place (r ∷ rs) (suc j) l =
      let more = behind_first (place + length (stored_record v r)) rs j (omega (arith, l)) in
      omega arith

  pub places_up : (place : ℕ) (rs : List Record) → GoesUp (slice_index (places_from v place rs)) (length rs)
  places_up place [] i j l m = absurd (omega (arith, m))
  places_up place (r ∷ rs) i zero l m = absurd (omega (arith, l))
  places_up place (r ∷ rs) zero (suc j) l m =
      let more = behind_first (place + length (stored_record v r)) rs j (omega (arith, m)) in
      let some = record_some v r in
      omega arith
  places_up place (r ∷ rs) (suc i) (suc j) l m = places_up (place + length (stored_record v r)) rs i j (omega (arith, l)) (omega (arith, m))

-- where one that is listed stands
pub place_listed : (listed : List Listed) (i : ℕ) (one : Listed) → slice_get listed i ≡ Some one → slice_index (places_listed listed) i ≡ one.1.place
place_listed [] i one e = absurd (cc)
place_listed (o ∷ os) zero one e = let same : o ≡ one = cc in ap (λ (x : Listed). x.1.place) same
place_listed (o ∷ os) (suc i) one e = place_listed os i one e

pub zip_at : {X Y : Type 0} (R : X → Y → Type 0) (xs : List X) (ys : List Y) (i : ℕ) (x : X) (y : Y) → AllZip R xs ys → slice_get xs i ≡ Some x → slice_get ys i ≡ Some y → R x y
zip_at R [] ys i x y h e f = absurd (cc)
zip_at R (a ∷ xs) [] i x y h e f = absurd h
zip_at R (a ∷ xs) (b ∷ ys) zero x y h e f = let p : a ≡ x = cc in let q : b ≡ y = cc in subst (R x) q (subst (λ z. R z b) p h.0)
zip_at R (a ∷ xs) (b ∷ ys) (suc i) x y h e f = zip_at R xs ys i x y h.1 e f

-- what stands nowhere is none of the records
pub unplaced : (told : Option Records) (stands : ℕ → ℕ) (n : Bytes) → IfSome told (λ r. StandsThere stands n r None) → IfSome told (λ r. None ≡ option_map object_of (record_named r.records n))
unplaced None stands n h = tt
unplaced (Some r) stands n h = by (place_named r.records n) refl h
  where
    by : (o : Option ℕ) → place_named r.records n ≡ o → None ≡ option_map stands o → None ≡ option_map object_of (record_named r.records n)
    by None e f = sym (ap (option_map object_of) (no_record_named r.records n (no_place r.records n e)))
    by (Some i) e f = absurd (cc)

-- ---- what is told

module _ (name : Kind → Bytes → Bytes) where
  pub each_told : (told : Option Bytes) (P : Records → Type 0) → ((text : Bytes) → told ≡ Some text → (r : Records) → store_of name text ≡ Ok r → P r) → IfSome (told_by name told) P
  each_told None P f = tt
  each_told (Some text) P f = by (store_of name text) refl
    where
      by : (s : Stored Records) → store_of name text ≡ s → IfSome (result_ok s) P
      by (Ok r) e = f text refl r e
      by (Err why) e = tt

  module _ (law : StoresAreRead name) where
    pub told_sound : (told : Option Bytes) → IfSome (told_by name told) (IsSound name)
    told_sound told = each_told told (IsSound name) (λ text e r g. (law.only text r g).0)

  module _ {A : Type 0} (told : Option Bytes) (v : Version) (listed : List Listed) (tail : Tail A) (opened : IsOpened name told v listed tail) where
    -- the text is read as the repository that is told
    pub record IsSeen (r : Records) : Type 0 where
      pub first : ℕ
      pub heads : HaveHeads listed r.records
      pub places : places_listed listed ≡ places_from v first r.records
      pub stands : (number : ℕ) → places_in name told number ≡ slice_index (places_from v first r.records) number

    seen : (text : Bytes) → told ≡ Some text → (r : Records) → store_of name text ≡ Ok r → IsSeen r
    seen text e r g =
        let w : IsReadAs name text v listed tail = subst (λ t. IsReadIfTold name t v listed tail) e opened.whole in
        let same : w.repository ≡ r = ok_is w.repository r (sym w.read ∙ g) in
        let first = length text - length w.behind in
        record {
          first = first;
          heads = subst (λ (x : Records). HaveHeads listed x.records) same w.heads;
          places = subst (λ (x : Records). places_listed listed ≡ places_from v first x.records) same w.places;
          stands = λ number. ap (λ t. places_in name t number) e ∙ (λ i. slice_index (places_of (length text) (w.starts i) (g i)) number);
        }

    pub order_tells : IfSome (told_by name told) (λ r. GoesUp (places_in name told) (length r.records))
    order_tells = each_told told (λ r. GoesUp (places_in name told) (length r.records)) (λ text e r g i j l m.
        let s = seen text e r g in
        let up = places_up v s.first r.records i j l m in
        let a = s.stands i in
        let b = s.stands j in
        subst (λ x. x < places_in name told j) (sym a) (subst (λ x. slice_index (places_from v s.first r.records) i < x) (sym b) up))

    -- all objects are listed
    pub listing_tells : ListsIfTold (told_by name told) (places_in name told) listed
    listing_tells = each_told told (λ r. ListsAll (places_in name told) r listed) (λ text e r g.
        let s = seen text e r g in
        record {
          heads = s.heads;
          places = λ number one at. sym (place_listed listed number one at) ∙ ap (λ ps. slice_index ps number) s.places ∙ sym (s.stands number);
        })

    -- ---- places

    pub none_tells : (n : Bytes) → None ≡ number_named listed n → IfSome (told_by name told) (λ r. StandsThere (places_in name told) n r None)
    none_tells n none = each_told told (λ r. StandsThere (places_in name told) n r None) (λ text e r g.
        ap (option_map (places_in name told)) (none ∙ number_is n listed r.records (seen text e r g).heads))

    pub place_tells : (n : Bytes) (i : ℕ) (one : Listed) → Some i ≡ number_named listed n → slice_get listed i ≡ Some one → IfSome (told_by name told) (λ r. StandsThere (places_in name told) n r (Some one.1.place))
    place_tells n i one named at = each_told told (λ r. StandsThere (places_in name told) n r (Some one.1.place)) (λ text e r g.
        let s = seen text e r g in
        ap Some (sym (place_listed listed i one at) ∙ ap (λ ps. slice_index ps i) s.places ∙ sym (s.stands i))
        ∙ ap (option_map (places_in name told)) (named ∙ number_is n listed r.records s.heads))

    -- ---- records

    -- the record of a name stands at this place
    pub record IsTold (text : Bytes) (r : Records) (n : Bytes) (place : ℕ) : Type 0 where
      pub held : Record
      pub found : record_named r.records n ≡ Some held
      pub stored : IsStoredAt name v text place n held

    pub record_tells : (n : Bytes) (place : ℕ) (text : Bytes) → told ≡ Some text → (r : Records) → store_of name text ≡ Ok r → StandsThere (places_in name told) n r (Some place) → IsTold text r n place
    record_tells n place text e r g there = by (place_named r.records n) refl there
      where
        w : IsReadAs name text v listed tail
        w = subst (λ t. IsReadIfTold name t v listed tail) e opened.whole

        stand : AreStored name v text listed r.records
        stand = subst (λ (x : Records). AreStored name v text listed x.records) (ok_is w.repository r (sym w.read ∙ g)) w.stand

        by : (o : Option ℕ) → place_named r.records n ≡ o → Some place ≡ option_map (places_in name told) o → IsTold text r n place
        by None f h = absurd (cc)
        by (Some i) f h =
            let s = seen text e r g in
            let p = is_place r.records n i f in
            let held = get_or r.records i no_record in
            let one = one_listed listed i (subst (λ k. i < k) (sym (same_length listed r.records s.heads)) p.within) in
            let at = place_listed listed i one.0 (sym one.1) in
            let here : place ≡ one.0.1.place = (let q : place ≡ places_in name told i = cc in q) ∙ s.stands i ∙ ap (λ ps. slice_index ps i) (sym s.places) ∙ at in
            let named : held.name ≡ n = sym (same_is n held.name (passes _ (p.named no_record))) in
            let there = zip_at (λ one held. IsStoredAt name v text one.1.place held.name held) listed r.records i one.0 held stand (sym one.1) (slice_get-get_or r.records i no_record p.within) in
            record {
              held = held;
              found = record_at_place r.records n i p;
              stored = subst (λ k. IsStoredAt name v text k n held) (sym here) (subst (λ m. IsStoredAt name v text one.0.1.place m held) named there);
            }

    pub none_named : (n : Bytes) → None ≡ number_named listed n → IfSome (told_by name told) (λ r. None ≡ option_map object_of (record_named r.records n))
    none_named n none = each_told told (λ r. None ≡ option_map object_of (record_named r.records n)) (λ text e r g.
        let h = (seen text e r g).heads in
        sym (ap (option_map object_of) (no_record_named r.records n (no_place r.records n (sym (none ∙ number_is n listed r.records h))))))

    -- ---- digits

    pub digits_tell : IsNamer name → StoresAreRead name → (digits : Bytes) (ends : Name × Name) (found : Prefix) → AreEnds digits ends.0 ends.1 → found ≡ found_between ends (map (λ one. one.0) listed)
        → IfSome (told_by name told) (λ r. FindsBegun digits r found)
    digits_tell namer law digits ends found are e = each_told told (λ r. FindsBegun digits r found) (λ text is r g.
        e ∙ begun_listed digits ends are listed r.records (seen text is r g).heads (all_names name namer r.records (law.only text r g).0.named))

    pub no_digits_tell : IsNamer name → StoresAreRead name → (digits : Bytes) → BeginNone digits → IfSome (told_by name told) (λ r. FindsBegun digits r Absent)
    no_digits_tell namer law digits none = each_told told (λ r. FindsBegun digits r Absent) (λ text is r g. none_begun digits none r.records (all_names name namer r.records (law.only text r g).0.named))

    -- ---- refs

    pub lines_tell : IsNamer name → StoresAreRead name → IfSome (told_by name told) (λ r. AreLines (drop tail.refs tail.text.items) r.refs)
    lines_tell namer law = each_told told (λ r. AreLines (drop tail.refs tail.text.items) r.refs) (λ text e r g.
        let w : IsReadAs name text v listed tail = subst (λ t. IsReadIfTold name t v listed tail) e opened.whole in
        let same : w.repository ≡ r = ok_is w.repository r (sym w.read ∙ g) in
        lines_of (drop tail.refs tail.text.items) r.refs (subst (λ (x : Records). drop tail.refs tail.text.items ≡ refs_text x.refs) same w.refs) (refs_are name namer r (law.only text r g).0))

    -- ---- what is read of a record

    -- what holds of a repository that is told holds of the one of the text
    at_told : (P : Records → Type 0) → IfSome (told_by name told) P → (text : Bytes) → told ≡ Some text → (r : Records) → store_of name text ≡ Ok r → P r
    at_told P h text e r g = subst (λ o. IfSome o P) (ap (told_by name) e ∙ ap result_ok g) h

    module _ (n : Bytes) (place : ℕ) (there : IfSome (told_by name told) (λ r. StandsThere (places_in name told) n r (Some place))) (room : Bytes) where
      stored_there : (text : Bytes) → told ≡ Some text → (r : Records) → store_of name text ≡ Ok r → IsTold text r n place
      stored_there text e r g = record_tells n place text e r g (at_told (λ r. StandsThere (places_in name told) n r (Some place)) there text e r g)

      pub body_tells : (found : Found) → TellsRecord name v told place n room (Ok found) → IfSome (told_by name told) (λ r. Some (found.kind, body_in room found) ≡ option_map object_of (record_named r.records n))
      body_tells found read = each_told told (λ r. Some (found.kind, body_in room found) ≡ option_map object_of (record_named r.records n)) (λ text e r g.
          let t = stored_there text e r g in
          let k = (subst (λ o. TellsRecord name v o place n room (Ok found)) e read) t.held t.stored in
          (λ i. Some (k.0 i, k.1 i)) ∙ sym (ap (option_map object_of) t.found))

      pub fault_tells : (why : LookFault) → TellsRecord name v told place n room (Err why) → why ≡ Damaged → told_by name told ≡ None
      fault_tells why read same = by (told_by name told) (each_told told (λ r. why ≢ Damaged) (λ text e r g.
          let t = stored_there text e r g in
          (subst (λ o. TellsRecord name v o place n room (Err why)) e read) t.held t.stored))
        where
          by : (o : Option Records) → IfSome o (λ r. why ≢ Damaged) → o ≡ None
          by None h = refl
          by (Some r) h = absurd (h same)
