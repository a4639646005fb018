-- The records of a plain text that are listed so far.
use Rattle.std.proofs.Common.{◌≡◌, ℕ, suc, ◌+◌, ◌-◌, ◌<◌, ◌≤◌, List, [], ◌∷◌, ◌++◌, length, drop, Option, Some, None, Ok, Err, refl, sym, ap, ◌∙◌, subst, arith}
use Rattle.std.specs.Prelude.{IfSome}
use Rattle.std.specs.List.{AllZip}
use Rattle.std.proofs.lemmas.List.{map_push}
use Rattle.gx_model.specs.declared.objects.Kind.{Kind}
use Rattle.gx_model.specs.declared.store_versions.Version.{Version}
use Rattle.gx_model.specs.Faults.{◌>>=◌}
use Rattle.gx_model.specs.Texts.{Bytes}
use Rattle.gx_model.specs.Histories.{Record}
use Rattle.gx_model.specs.Objects.{IsNamer}
use Rattle.gx_model.specs.Stores.StoreReading.{Stored, next_record, next_records}
use Rattle.gx_model.specs.Stores.StoreText.{stored_record}
use Rattle.gx_file.proofs.CountedRecords.{all_read, one_read}
use Rattle.gx_listed.specs.Listings.{Listed}
use Rattle.gx_objects.specs.declared.fault.LookFault.{LookFault}
use Rattle.gx_plain.specs.Listing.{AreListed, IsNext, IsOneMore, ListsAllNext, places_from, places_listed}
use Rattle.gx_plain.specs.Reading.{RefusesWith}
use Rattle.gx_plain.specs.Records.{AreStored, IsStoredAt}
use Rattle.gx_plain.specs.Held.{IsHeld}
use Rattle.gx_plain.specs.declared.start.Start.{Start}
use Rattle.gx_plain.proofs.AddedRecords.{of_told}

-- ---- places

-- where records end that stand one behind the other
abbrev pub ends_from : Version → ℕ → List Record → ℕ
ends_from v place [] = place
ends_from v place (r ∷ rs) = ends_from v (place + length (stored_record v r)) rs

ends_push : (v : Version) (place : ℕ) (rs : List Record) (r : Record) → ends_from v place (rs ++ r ∷ []) ≡ ends_from v place rs + length (stored_record v r)
ends_push v place [] r = refl
ends_push v place (x ∷ xs) r = ends_push v (place + length (stored_record v x)) xs r

places_push : (v : Version) (place : ℕ) (rs : List Record) (r : Record) → places_from v place (rs ++ r ∷ []) ≡ places_from v place rs ++ ends_from v place rs ∷ []
places_push v place [] r = refl
places_push v place (x ∷ xs) r = ap (λ z. place ∷ z) (places_push v (place + length (stored_record v x)) xs r)

zip_push : {X Y : Type 0} (R : X → Y → Type 0) (xs : List X) (ys : List Y) (x : X) (y : Y) → AllZip R xs ys → R x y → AllZip R (xs ++ x ∷ []) (ys ++ y ∷ [])
zip_push R [] [] x y h r = (r, tt)
zip_push R [] (b ∷ ys) x y h r = absurd h
zip_push R (a ∷ xs) [] x y h r = absurd h
zip_push R (a ∷ xs) (b ∷ ys) x y h r = (h.0, zip_push R xs ys x y h.1 r)

module _ (name : Kind → Bytes → Bytes) (text : Bytes) (start : Start) where
  abbrev all_given : Stored (List Record × Bytes)
  all_given = next_records name start.version start.count [] (drop start.place text)

  -- so many records were read, which are listed, and the next one stands here
  pub record AreRead (i place : ℕ) (listed : List Listed) (rs : List Record) : Type 0 where
    pub so : all_given ≡ next_records name start.version (start.count - i) rs (drop place text)
    pub ends : place ≡ ends_from start.version start.place rs
    pub places : places_listed listed ≡ places_from start.version start.place rs
    pub stand : AreStored name start.version text listed rs

  pub none_read : AreRead 0 start.place [] []
  none_read = record { so = (let e : start.count ≡ start.count - 0 = omega arith in ap (λ n. next_records name start.version n [] (drop start.place text)) e); ends = refl; places = refl; stand = tt }

  module _ (i place : ℕ) (listed : List Listed) (rs : List Record) (far : AreRead i place listed rs) where
    pub one_more : (held : Record) (behind : ℕ) (one : Listed) (new : List Listed) → i < start.count → new ≡ listed ++ one ∷ [] → one.1.place ≡ place → IsNext name start.version text rs place held behind
        → AreRead (i + 1) behind new (rs ++ held ∷ [])
    one_more held behind one new l last stands next = record {
      so = one_read name start.version all_given start.count i rs (drop place text) far.so (rs ++ held ∷ []) (drop behind text) l next.read;
      ends = next.ends ∙ ap (λ n. n + length (stored_record start.version held)) far.ends ∙ sym (ends_push start.version start.place rs held);
      places =
          ap places_listed last ∙ map_push (λ one. one.1.place) listed one ∙ (λ j. far.places j ++ (stands ∙ far.ends) j ∷ [])
          ∙ sym (places_push start.version start.place rs held);
      stand = subst (λ z. AreStored name start.version text z (rs ++ held ∷ [])) (sym last) (zip_push (λ one held. IsStoredAt name start.version text one.1.place held.name held) listed rs one held far.stand
          (subst (λ k. IsStoredAt name start.version text k held.name held) (sym stands) next.stored));
    }

    pub refused_more : (why : LookFault) → i < start.count → RefusesWith why (next_record name start.version rs (drop place text)) → RefusesWith why all_given
    refused_more why l h same =
        let r = h same in
        let e : start.count - i ≡ suc (start.count - (i + 1)) = omega arith in
        (r.0, far.so ∙ ap (λ n. next_records name start.version n rs (drop place text)) e ∙ ap (λ s. s >>= λ x. next_records name start.version (start.count - (i + 1)) x.0 x.1) r.1)

    pub all_listed : (rooms : List ℕ) → IsHeld name listed rooms rs → start.count ≤ i → AreListed name text start listed place rs
    all_listed rooms held l = record {
      heads = held.heads;
      sound = held.sound;
      read = all_read name start.version all_given start.count i rs (drop place text) far.so l;
      places = far.places;
      stand = far.stand;
    }

-- ---- of what tells a text

-- before the first record nothing is held
pub none_held : (name : Kind → Bytes → Bytes) → IsNamer name → IsHeld name [] [] []
none_held name namer = record { namer = namer; heads = refl; rooms_are = refl; sound = record { named = tt; distinct = tt; linked = tt; paths = tt; sorted = refl; ref_names = refl; held = tt } }

module _ (name : Kind → Bytes → Bytes) (told : Option Bytes) (start : Start) where
  pub far_begun : IfSome told (λ text. AreRead name text start 0 start.place [] [])
  far_begun = of_told told (λ text. AreRead name text start 0 start.place [] []) (λ text e. none_read name text start)

  module _ (i place : ℕ) (listed : List Listed) (rs : List Record) (far : IfSome told (λ text. AreRead name text start i place listed rs)) where
    pub far_refused : (why : LookFault) → i < start.count → IfSome told (λ text. RefusesWith why (next_record name start.version rs (drop place text))) → ListsAllNext name told start (Err why)
    far_refused why l h = by told far h
      where
        by : (o : Option Bytes) → IfSome o (λ text. AreRead name text start i place listed rs) → IfSome o (λ text. RefusesWith why (next_record name start.version rs (drop place text))) → ListsAllNext name o start (Err why)
        by None f k = tt
        by (Some text) f k = refused_more name text start i place listed rs f why l k

    pub far_next : (new : List Listed) (rooms : List ℕ) (behind : ℕ) → i < start.count → (m : IsOneMore name start.version told place listed new rooms rs behind) → IfSome told (λ text. AreRead name text start (i + 1) behind new (rs ++ m.held ∷ []))
    far_next new rooms behind l m = by told far m.next
      where
        by : (o : Option Bytes) → IfSome o (λ text. AreRead name text start i place listed rs) → IfSome o (λ text. IsNext name start.version text rs place m.held behind) → IfSome o (λ text. AreRead name text start (i + 1) behind new (rs ++ m.held ∷ []))
        by None f k = tt
        by (Some text) f k = one_more name text start i place listed rs f m.held behind m.one new l m.last m.stands k

    pub far_all : (rooms : List ℕ) → IsHeld name listed rooms rs → start.count ≤ i → ListsAllNext name told start (Ok (listed, place))
    far_all rooms held l = by told far
      where
        by : (o : Option Bytes) → IfSome o (λ text. AreRead name text start i place listed rs) → ListsAllNext name o start (Ok (listed, place))
        by None f = tt
        by (Some text) f = (rs, all_listed name text start i place listed rs f rooms held l)
