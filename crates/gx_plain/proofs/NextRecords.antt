-- The next record of a plain text, by its parts: what is against it, and what is listed with it.
use Rattle.std.proofs.Common.{◌≡◌, ◌≢◌, ℕ, true, false, List, [], ◌∷◌, ◌++◌, Option, Some, None, Ok, Err, refl, sym, ap, ◌∙◌, is_some}
use Rattle.std.specs.Option.{ok_or}
use Rattle.std.proofs.lemmas.List.{map_push}
use Rattle.gx_model.specs.declared.objects.Kind.{Kind}
use Rattle.gx_model.specs.declared.store_faults.FileFault.{FileFault}
use Rattle.gx_model.specs.declared.store_faults.FileFault.TheVariants as fault
use Rattle.gx_model.specs.declared.store_versions.Version.{Version}
use Rattle.gx_model.specs.Faults.{◌>>=◌}
use Rattle.gx_model.specs.Texts.{Bytes}
use Rattle.gx_model.specs.Histories.{Record, record_for}
use Rattle.gx_model.specs.Records.Growth.{record_named}
use Rattle.gx_model.specs.Records.RecordFaults.{content_fault, or_duplicate, record_fault}
use Rattle.gx_model.specs.Stores.StoreReading.{Length, Stored, admitted, is_stated, next_record, only_if, record_line, stored_body, stored_line, with_stored}
use Rattle.gx_model.proofs.Records.TakenRecords.{sound_with}
use Rattle.gx_store.specs.Stores.{place_named}
use Rattle.gx_repo.specs.Repositories.{held_in}
use Rattle.gx_repo.specs.Rooms.{room_below}
use Rattle.gx_repo.proofs.Places.{is_place, no_place, no_record_named, record_at_place}
use Rattle.gx_repo.proofs.RecordRooms.{rooms_more}
use Rattle.gx_listed.specs.Listings.{HaveHeads, Listed, head_of, number_named, shown_head}
use Rattle.gx_plain.proofs.ListedObjects.{number_is}
use Rattle.gx_objects.specs.declared.fault.LookFault.{LookFault}
use Rattle.gx_plain.specs.Held.{IsHeld}
use Rattle.gx_plain.specs.Reading.{IsRefused, RefusesWith}
use Rattle.gx_plain.specs.Records.{Parts, next_parts}
use Rattle.gx_plain.proofs.PartsOfRecords.{with_body, with_line}

-- ---- against a record

-- what is against a body is against its record
pub fault_of : (rs : List Record) (r : Record) (why : FileFault) → content_fault rs r.kind r.body ≡ Some why → record_fault rs r ≡ Some why
unfolding record_fault
fault_of rs r why e = ap (λ f. or_duplicate f (is_some (record_named rs r.name))) e

-- and so it is that its name is held
pub fault_held : (rs : List Record) (r : Record) → content_fault rs r.kind r.body ≡ None → is_some (record_named rs r.name) ≡ true → record_fault rs r ≡ Some fault.DuplicateObject
unfolding record_fault
fault_held rs r e h = (λ i. or_duplicate (e i) (h i))

-- else nothing is
pub fault_none : (rs : List Record) (r : Record) → content_fault rs r.kind r.body ≡ None → is_some (record_named rs r.name) ≡ false → record_fault rs r ≡ None
unfolding record_fault
fault_none rs r e h = (λ i. or_duplicate (e i) (h i))

-- a name is held where one of it is listed
module _ (listed : List Listed) (rs : List Record) (heads : HaveHeads listed rs) (n : Bytes) where
  pub none_named : number_named listed n ≡ None → is_some (record_named rs n) ≡ false
  none_named e = ap is_some (no_record_named rs n (no_place rs n (sym (number_is n listed rs heads) ∙ e)))

  pub some_named : number_named listed n ≢ None → is_some (record_named rs n) ≡ true
  some_named h = by (place_named rs n) refl
    where
      by : (o : Option ℕ) → place_named rs n ≡ o → is_some (record_named rs n) ≡ true
      by None e = absurd (h (number_is n listed rs heads ∙ e))
      by (Some i) e = ap is_some (record_at_place rs n i (is_place rs n i e))

-- ---- in the text

module _ (name : Kind → Bytes → Bytes) (v : Version) (rs : List Record) (text : Bytes) where
  -- the record of parts is added
  abbrev pub with_parts : Parts → Stored (List Record × Bytes)
  with_parts p = with_stored name rs p.0.1.1 p.0.0 p.1.0 >>= λ more. Ok (more, p.1.1)

  -- a record is read once its parts are
  pub parts_first : next_record name v rs text ≡ (next_parts v text >>= with_parts)
  parts_first = line (stored_line text)
    where
      body : (k : Kind × Length) (b : Stored (Bytes × Bytes)) → (b >>= λ x. with_stored name rs k.1.1 k.0 x.0 >>= λ more. Ok (more, x.1)) ≡ ((b >>= λ x. Ok (k, x)) >>= with_parts)
      body k (Ok x) = refl
      body k (Err why) = refl

      heading : (rest : Bytes) (h : Stored (Kind × Length)) → (h >>= λ k. stored_body k.1.0 rest >>= λ x. with_stored name rs k.1.1 k.0 x.0 >>= λ more. Ok (more, x.1)) ≡ ((h >>= λ k. with_body k rest) >>= with_parts)
      heading rest (Ok k) = body k (stored_body k.1.0 rest)
      heading rest (Err why) = refl

      line : (l : Stored (Bytes × Bytes))
          → (l >>= λ x. ok_or (record_line v x.0) fault.BadRecord >>= λ k. stored_body k.1.0 x.1 >>= λ b. with_stored name rs k.1.1 k.0 b.0 >>= λ more. Ok (more, b.1)) ≡ ((l >>= with_line v) >>= with_parts)
      line (Ok x) = heading x.1 (ok_or (record_line v x.0) fault.BadRecord)
      line (Err why) = refl

  -- where there are no parts, there is no record
  pub no_parts : (why : LookFault) → RefusesWith why (next_parts v text) → RefusesWith why (next_record name v rs text)
  no_parts why h same = let r = h same in (r.0, parts_first ∙ ap (λ s. s >>= with_parts) r.1)

  module _ (p : Parts) (read : next_parts v text ≡ Ok p) where
    abbrev pub given : Record
    given = record_for name p.0.0 p.1.0

    here : next_record name v rs text ≡ with_parts p
    here = parts_first ∙ ap (λ s. s >>= with_parts) read

    -- a name that isn't the stated one
    pub misnamed : is_stated p.0.1.1 given.name ≡ false → IsRefused (next_record name v rs text)
    misnamed e =
        (fault.NameMismatch, here ∙ ap (λ b. (only_if b fault.NameMismatch >>= λ u. admitted rs given (record_fault rs given)) >>= λ more. Ok (more, p.1.1)) e)

    named : is_stated p.0.1.1 given.name ≡ true → next_record name v rs text ≡ (admitted rs given (record_fault rs given) >>= λ more. Ok (more, p.1.1))
    named e = here ∙ ap (λ b. (only_if b fault.NameMismatch >>= λ u. admitted rs given (record_fault rs given)) >>= λ more. Ok (more, p.1.1)) e

    -- something is against the record
    pub opposed : (why : FileFault) → is_stated p.0.1.1 given.name ≡ true → record_fault rs given ≡ Some why → IsRefused (next_record name v rs text)
    opposed why e f = (why, named e ∙ ap (λ o. admitted rs given o >>= λ more. Ok (more, p.1.1)) f)

    -- nothing is
    pub taken : is_stated p.0.1.1 given.name ≡ true → record_fault rs given ≡ None → next_record name v rs text ≡ Ok (rs ++ given ∷ [], p.1.1)
    taken e f = named e ∙ ap (λ o. admitted rs given o >>= λ more. Ok (more, p.1.1)) f

-- ---- what is listed then

pub more_held : (name : Kind → Bytes → Bytes) (old : List Listed) (rooms : List ℕ) (rs : List Record) → IsHeld name old rooms rs → (one : Listed) (k : Kind) (body : Bytes) (below : ℕ)
    → shown_head one ≡ head_of (record_for name k body) → record_fault rs (record_for name k body) ≡ None → below ≡ room_below rs k body
    → IsHeld name (old ++ one ∷ []) (rooms ++ below ∷ []) (rs ++ record_for name k body ∷ [])
more_held name old rooms rs h one k body below head fine room =
    let r = record_for name k body in
    record {
      namer = h.namer;
      heads = map_push shown_head old one ∙ (λ i. h.heads i ++ head i ∷ []) ∙ sym (map_push head_of rs r);
      rooms_are = (λ i. h.rooms_are i ++ room i ∷ []) ∙ sym (rooms_more rs r);
      sound = sound_with name h.namer (held_in rs []) h.sound k body fine;
    }
