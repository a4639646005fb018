-- The next record of a plain text is listed, or why it isn't.
use Rattle.std.proofs.Common.{◌≡◌, ◌≢◌, ℕ, ◌-◌, true, false, List, [], ◌∷◌, ◌++◌, length, drop, Option, Some, None, Ok, Err, refl, sym, ap, ◌∙◌, subst, arith}
use Rattle.std.specs.Prelude.{IfSome}
use Rattle.std.proofs.lemmas.List.{length-append, length-drop, length-take-le, same_from_push}
use Rattle.gx_model.specs.declared.objects.Kind.{Kind}
use Rattle.gx_model.specs.declared.store_faults.FileFault.{FileFault}
use Rattle.gx_model.specs.declared.store_faults.FileFault.TheVariants as fault
use Rattle.gx_model.specs.declared.store_versions.Version.{Version}
use Rattle.gx_model.specs.Texts.{Bytes}
use Rattle.gx_model.specs.Histories.{Record, record_for}
use Rattle.gx_model.specs.Records.RecordFaults.{record_fault}
use Rattle.gx_model.specs.Stores.StoreReading.{is_stated, next_record}
use Rattle.gx_model.specs.Stores.StoreText.{stored_record}
use Rattle.gx_model.proofs.Stores.StoredRecords.{record_of_text}
use Rattle.gx_object.specs.Parts.{bytes_if}
use Rattle.gx_listed.specs.Listings.{Listed, head_of, number_named, shown_head}
use Rattle.gx_objects.specs.declared.fault.LookFault.{LookFault}
use Rattle.gx_objects.specs.declared.fault.LookFault.TheVariants.{Damaged}
use Rattle.gx_plain.specs.Held.{ChecksBody, IsHeld}
use Rattle.gx_plain.specs.Listing.{IsNext, IsOneMore}
use Rattle.gx_plain.specs.Reading.{RefusesWith}
use Rattle.gx_plain.specs.Records.{IsParts, IsRoomOf, ReadsParts, body_in, end_of, shown_parts}
use Rattle.gx_plain.specs.declared.records.Found.{Found}
use Rattle.gx_plain.proofs.NextRecords.{fault_held, fault_none, fault_of, misnamed, more_held, no_parts, none_named, opposed, some_named, taken}

-- what holds of each text that is told
pub of_told : (told : Option Bytes) (P : Bytes → Type 0) → ((text : Bytes) → told ≡ Some text → P text) → IfSome told P
of_told None P f = tt
of_told (Some text) P f = f text refl

module _ (name : Kind → Bytes → Bytes) (v : Version) (told : Option Bytes) (place : ℕ) (rs : List Record) where
  -- where there is no record
  pub unread : (room : Bytes) (why : LookFault) → ReadsParts v told place room (Err why) → IfSome told (λ text. RefusesWith why (next_record name v rs (drop place text)))
  unread room why h = of_told told (λ text. RefusesWith why (next_record name v rs (drop place text))) (λ text e. no_parts name v rs (drop place text) why (subst (λ t. ReadsParts v t place room (Err why)) e h))

  -- other faults tell nothing of the text
  pub untold : (why : LookFault) → why ≢ Damaged → IfSome told (λ text. RefusesWith why (next_record name v rs (drop place text)))
  untold why other = of_told told (λ text. RefusesWith why (next_record name v rs (drop place text))) (λ text e same. absurd (other same))

  module _ (old : List Listed) (rooms : List ℕ) (h : IsHeld name old rooms rs) (room : Bytes) (found : Found) (within : IsRoomOf place room found) (read : ReadsParts v told place room (Ok found)) where
    abbrev pub given : Record
    given = record_for name found.kind (body_in room found)

    parts_in : (text : Bytes) → told ≡ Some text → IsParts v text place room found
    parts_in text e = subst (λ t. ReadsParts v t place room (Ok found)) e read

    pub misnamed_told : is_stated (bytes_if found.stated) given.name ≡ false → IfSome told (λ text. RefusesWith Damaged (next_record name v rs (drop place text)))
    misnamed_told e = of_told told (λ text. RefusesWith Damaged (next_record name v rs (drop place text))) (λ text is same.
        misnamed name v rs (drop place text) (shown_parts text place room found) (parts_in text is).parts e)

    module _ (stated : is_stated (bytes_if found.stated) given.name ≡ true) where
      opposed_told : (why : FileFault) → record_fault rs given ≡ Some why → IfSome told (λ text. RefusesWith Damaged (next_record name v rs (drop place text)))
      opposed_told why e = of_told told (λ text. RefusesWith Damaged (next_record name v rs (drop place text))) (λ text is same.
          opposed name v rs (drop place text) (shown_parts text place room found) (parts_in text is).parts why stated e)

      pub refused_told : ChecksBody old rooms found.kind (body_in room found) None → IfSome told (λ text. RefusesWith Damaged (next_record name v rs (drop place text)))
      refused_told c = let w = c name rs h in opposed_told w.0 (fault_of rs given w.0 w.1)

      module _ (below : ℕ) (fine : ChecksBody old rooms found.kind (body_in room found) (Some below)) where
        pub held_told : number_named old given.name ≢ None → IfSome told (λ text. RefusesWith Damaged (next_record name v rs (drop place text)))
        held_told other = opposed_told fault.DuplicateObject (fault_held rs given (fine name rs h).0 (some_named old rs h.heads given.name other))

        module _ (new : number_named old given.name ≡ None) where
          nothing : record_fault rs given ≡ None
          nothing = fault_none rs given (fine name rs h).0 (none_named old rs h.heads given.name new)

          next_in : (text : Bytes) → told ≡ Some text → IsNext name v text rs place given (end_of place found)
          next_in text e =
              let p = parts_in text e in
              let one = taken name v rs (drop place text) (shown_parts text place room found) p.parts stated nothing in
              let o = record_of_text name v rs (drop place text) (rs ++ given ∷ [], drop (end_of place found) text) one in
              let same : given ≡ record_for name o.kind o.body = (same_from_push rs rs given (record_for name o.kind o.body) o.last).1 in
              let spelled : drop place text ≡ stored_record v given ++ drop (end_of place found) text = o.spelled ∙ ap (λ r. stored_record v r ++ drop (end_of place found) text) (sym same) in
              let long = ap length spelled ∙ length-append (stored_record v given) (drop (end_of place found) text) in
              let a = length-drop place text in
              let b = length-drop (end_of place found) text in
              let w = p.within in
              let size : length (body_in room found) ≡ found.end - found.start =
              (let ends = within.ends in let d = length-drop found.start room in length-take-le (found.end - found.start) (drop found.start room) (omega arith)) in
              record {
                read = one;
                ends = omega arith;
                within = w;
                stored = record {
                  stated = bytes_if found.stated;
                  rest = drop (end_of place found) text;
                  parts = p.parts ∙ ap (λ n. Ok ((found.kind, (n, bytes_if found.stated)), (body_in room found, drop (end_of place found) text))) (sym size);
                  name_is = refl;
                  named = refl;
                };
              }

          pub added_told : (one : Listed) (more : List Listed) → more ≡ old ++ one ∷ [] → shown_head one ≡ head_of given → one.1.place ≡ place
              → IsOneMore name v told place old more (rooms ++ below ∷ []) rs (end_of place found)
          added_told one more last head stands = record {
            held = given;
            more = subst (λ z. IsHeld name z (rooms ++ below ∷ []) (rs ++ given ∷ [])) (sym last) (more_held name old rooms rs h one found.kind (body_in room found) below head nothing (fine name rs h).1);
            one = one;
            last = last;
            stands = stands;
            next = of_told told (λ text. IsNext name v text rs place given (end_of place found)) next_in;
          }
