use Rattle.std.proofs.Common.{◌≡◌, List, ℕ, None, Some, length, refl, sym, ap, ◌∙◌, subst, arith}
use Rattle.std.proofs.lemmas.Result.{err_from_is_err_and}
use Rattle.gx_model.specs.Histories.{record_for}
use Rattle.gx_model.specs.Texts.{Bytes}
use Rattle.gx_model.specs.Stores.StoreReading.{is_stated}
use Rattle.gx_object.specs.Parts.{bytes_if}
use Rattle.gx_listed.specs.Listings.{Listed, head_of, number_named, shown_head}
use Rattle.gx_plain.specs.Held.{AreHeld, ChecksBody}
use Rattle.gx_plain.specs.Listing.{IsOneMore}
use Rattle.gx_plain.specs.Records.{body_in, end_of}
use Rattle.gx_plain.proofs.AddedRecords.{added_told, held_told, misnamed_told, refused_told, unread, untold}
use Rattle.gx_plain.proofs.listing.add_record.Goals as goal

pub returns-in_err-found : goal.returns-in_err-found
returns-in_err-found g c =
    let p = err_from_is_err_and c.from_residual.result c.from_residual.ensures.1 in
    rw (p.1, p.2) (λ rs h. unread (g.N.Namer.name_of c.args.namer.now) c.args.version (g.S.ReadAt.text c.args.source.now) c.args.place rs c.read_parts.new.room.items c.in_err-found.field-0.0 c.in_err-found.ensures.parts)

pub returns-then-not-is_stated : goal.returns-then-not-is_stated
returns-then-not-is_stated g c = λ rs h.
    let name = g.N.Namer.name_of c.args.namer.now in
    let found = c.in_ok-found.found in
    let room = c.read_parts.new.room.items in
    let named = c.name-name.ensures ∙ ap (λ z. name found.kind (body_in z found)) c.as_slice.ensures.value in
    let other = ap (is_stated (bytes_if found.stated)) (sym named) ∙ sym c.is_stated.ensures ∙ c.if-not-is_stated.true in
    misnamed_told name c.args.version (g.S.ReadAt.text c.args.source.now) c.args.place rs c.args.listing.now c.args.rooms.now.items h room found c.in_ok-found.ensures.within c.in_ok-found.ensures.parts other

pub checked_room-requires : goal.checked_room-requires
checked_room-requires g c = record { held = subst (λ (rooms : List ℕ). AreHeld c.args.listing.now rooms) (sym c.as_slice-2.ensures.value) c.requires.held }

pub returns-in_default : goal.returns-in_default
returns-in_default g c = λ rs h.
    let name = g.N.Namer.name_of c.args.namer.now in
    let found = c.in_ok-found.found in
    let room = c.read_parts.new.room.items in
    let old = c.args.listing.now in
    let named = c.name-name.ensures ∙ ap (λ z. name found.kind (body_in z found)) c.as_slice.ensures.value in
    let stated = ap (is_stated (bytes_if found.stated)) (sym named) ∙ sym c.is_stated.ensures ∙ c.if-not-is_stated.false in
    let checked = subst (λ (rooms : List ℕ). ChecksBody old rooms found.kind (body_in c.as_slice.result.now found) None) c.as_slice-2.ensures.value c.in_default.ensures in
    refused_told name c.args.version (g.S.ReadAt.text c.args.source.now) c.args.place rs old c.args.rooms.now.items h room found c.in_ok-found.ensures.within c.in_ok-found.ensures.parts stated
    (subst (λ (z : Bytes). ChecksBody old c.args.rooms.now.items found.kind (body_in z found) None) c.as_slice.ensures.value checked)

pub returns-in_err-push : goal.returns-in_err-push
returns-in_err-push g c =
    let p = err_from_is_err_and c.from_residual-in_err-push.result c.from_residual-in_err-push.ensures.1 in
    rw (p.1, p.2) (λ rs h. untold (g.N.Namer.name_of c.args.namer.now) c.args.version (g.S.ReadAt.text c.args.source.now) c.args.place rs _ (λ e. cc))

pub returns-then-not-branch : goal.returns-then-not-branch
returns-then-not-branch g c = λ rs h.
    let name = g.N.Namer.name_of c.args.namer.now in
    let found = c.in_ok-found.found in
    let room = c.read_parts.new.room.items in
    let old = c.args.listing.now in
    let below = c.in-Some.below in
    let named = c.name-name.ensures ∙ ap (λ z. name found.kind (body_in z found)) c.as_slice.ensures.value in
    let stated = ap (is_stated (bytes_if found.stated)) (sym named) ∙ sym c.is_stated.ensures ∙ c.if-not-is_stated.false in
    let checked = subst (λ (rooms : List ℕ). ChecksBody old rooms found.kind (body_in c.as_slice.result.now found) (Some below)) c.as_slice-2.ensures.value c.in-Some.ensures in
    let fine = subst (λ (z : Bytes). ChecksBody old c.args.rooms.now.items found.kind (body_in z found) (Some below)) c.as_slice.ensures.value checked in
    let pushed = rw c.if-not-branch.true at c.in_ok-push.ensures.pushes in
    held_told name c.args.version (g.S.ReadAt.text c.args.source.now) c.args.place rs old c.args.rooms.now.items h room found c.in_ok-found.ensures.within c.in_ok-found.ensures.parts stated below fine
    (λ none. pushed.1 (ap (number_named old) named ∙ none))

pub returns-in_err-push-2 : goal.returns-in_err-push-2
returns-in_err-push-2 g c =
    let p = err_from_is_err_and c.from_residual-in_err-push-2.result c.from_residual-in_err-push-2.ensures.1 in
    rw (p.1, p.2) (λ rs h. untold (g.N.Namer.name_of c.args.namer.now) c.args.version (g.S.ReadAt.text c.args.source.now) c.args.place rs _ (λ e. cc))

pub overflow_add-result : goal.overflow_add-result
overflow_add-result g c = let near = c.in_ok-found.ensures.within.near in omega (arith, near)

pub returns : goal.returns
returns g c = λ rs h.
    let name = g.N.Namer.name_of c.args.namer.now in
    let told = g.S.ReadAt.text c.args.source.now in
    let found = c.in_ok-found.found in
    let room = c.read_parts.new.room.items in
    let old = c.args.listing.now in
    let rooms = c.args.rooms.now.items in
    let below = c.in-Some.below in
    let named = c.name-name.ensures ∙ ap (λ z. name found.kind (body_in z found)) c.as_slice.ensures.value in
    let size = ap (λ z. length (body_in z found)) c.as_slice.ensures.value in
    let stated = ap (is_stated (bytes_if found.stated)) (sym named) ∙ sym c.is_stated.ensures ∙ c.if-not-is_stated.false in
    let checked = subst (λ (rs : List ℕ). ChecksBody old rs found.kind (body_in c.as_slice.result.now found) (Some below)) c.as_slice-2.ensures.value c.in-Some.ensures in
    let fine = subst (λ (z : Bytes). ChecksBody old rooms found.kind (body_in z found) (Some below)) c.as_slice.ensures.value checked in
    let pushed = rw c.if-not-branch.false at c.in_ok-push.ensures.pushes in
    let one : Listed = (c.name-name.result, record { place = c.args.place; kind = found.kind; length = length (body_in c.as_slice.result.now found) }) in
    let new = ap (number_named old) (sym named) ∙ pushed.1 in
    let head : shown_head one ≡ head_of (record_for name found.kind (body_in room found)) = λ i. record { name = named i; kind = found.kind; size = size i } in
    subst (λ (more : List ℕ). IsOneMore name c.args.version told c.args.place old c.push.new.self more rs (end_of c.args.place found)) (sym c.in_ok-push-2.ensures.items)
    (added_told name c.args.version told c.args.place rs old rooms h room found c.in_ok-found.ensures.within c.in_ok-found.ensures.parts stated below fine new one c.push.new.self pushed.0 head refl)
