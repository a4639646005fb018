-- A record that stands at a place of a text under its name, and what is read of it.
use Rattle.std.proofs.Common.{◌≡◌, Bool, ◌≢◌, ℕ, length, Option, Some, None, Result, Ok, Err, refl, sym, ap, subst, ◌∙◌}
use Rattle.gx_model.specs.declared.objects.Kind.{Kind}
use Rattle.gx_model.specs.declared.store_versions.Version.{Version}
use Rattle.gx_model.specs.declared.objects.Kind.TheVariants as kinds
use Rattle.gx_model.specs.Texts.{Bytes}
use Rattle.gx_model.specs.Histories.{Record}
use Rattle.gx_model.specs.Objects.{IsTagText}
use Rattle.gx_model.specs.Stores.StoreReading.{is_target_of_kind}
use Rattle.gx_model.proofs.Stores.StoreTexts.{ok_is}
use Rattle.gx_repo.specs.Refs.{HasTagParts}
use Rattle.gx_look.specs.Reading.{Gives}
use Rattle.gx_objects.specs.declared.fault.LookFault.{LookFault}
use Rattle.gx_objects.specs.declared.fault.LookFault.TheVariants.{Damaged}
use Rattle.gx_plain.specs.Records.{IsStoredAt, Parts, ReadsParts, TellsRecord, body_in, shown_parts}
use Rattle.gx_plain.specs.Refs.{TellsTag}
use Rattle.gx_plain.specs.declared.records.Found.{Found}

-- what is told of a record is told of each text that is
pub told_of : (name : Kind → Bytes → Bytes) (v : Version) (told : Option Bytes) (at : ℕ) (called room : Bytes) (result : Result Found LookFault)
    → ((text : Bytes) → told ≡ Some text → (held : Record) → IsStoredAt name v text at called held → Gives (λ found. (found.kind ≡ held.kind) × (body_in room found ≡ held.body)) result)
    → TellsRecord name v told at called room result
told_of name v None at called room result h = tt
told_of name v (Some text) at called room result h = h text refl

module _ (name : Kind → Bytes → Bytes) (v : Version) (told : Option Bytes) (text : Bytes) (is : told ≡ Some text) (at : ℕ) (called : Bytes) (held : Record) (here : IsStoredAt name v text at called held) (room : Bytes) where
  pub unrefused : (why : LookFault) → ReadsParts v told at room (Err why) → why ≢ Damaged
  unrefused why h = λ same. let r = subst (λ t. ReadsParts v t at room (Err why)) is h same in let clash = sym here.parts ∙ r.1 in cc clash

  module _ (found : Found) (read : ReadsParts v told at room (Ok found)) where
    abbrev given : Parts
    given = ((held.kind, (length held.body, here.stated)), (held.body, here.rest))

    same : shown_parts text at room found ≡ given
    same = let p = subst (λ t. ReadsParts v t at room (Ok found)) is read in ok_is (shown_parts text at room found) given (sym p.parts ∙ here.parts)

    pub found_is : (found.kind ≡ held.kind) × (body_in room found ≡ held.body)
    found_is = (ap (λ (z : Parts). z.0.0) same, ap (λ (z : Parts). z.1.0) same)

    pub named_so : name found.kind (body_in room found) ≡ called
    named_so = let f = found_is in (λ i. name (f.0 i) (f.1 i)) ∙ sym here.named ∙ here.name_is

-- ---- tags

-- what isn't read of a record isn't told of a tag
pub tag_unread : (name : Kind → Bytes → Bytes) (v : Version) (told : Option Bytes) (at : ℕ) (called ref room : Bytes) (why : LookFault) → TellsRecord name v told at called room (Err why) → TellsTag name v told at called ref (Err why)
tag_unread name v None at called ref room why h = tt
tag_unread name v (Some text) at called ref room why h = λ held here parts t. h held here

-- the tag that is read tells whether its own name makes a ref's
pub tag_told : (name : Kind → Bytes → Bytes) (v : Version) (told : Option Bytes) (at : ℕ) (called ref room : Bytes) (found : Found) (answer : Bool) → TellsRecord name v told at called room (Ok found)
    → (HasTagParts kinds.Tag (body_in room found) → answer ≡ is_target_of_kind ref kinds.Tag (body_in room found)) → TellsTag name v told at called ref (Ok answer)
tag_told name v None at called ref room found answer h o = tt
tag_told name v (Some text) at called ref room found answer h o = λ held here parts t.
    let same = (h held here).1 in
    o (λ k. (parts, subst (IsTagText parts) (sym same) t)) ∙ ap (is_target_of_kind ref kinds.Tag) same
