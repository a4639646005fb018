-- What is against an object in a ref.
use Rattle.std.proofs.Common.{◌≡◌, Bool, true, false, Option, Some, None, Ok, Err, List, refl, subst, sym, ap, ◌∙◌}
use Rattle.std.specs.Prelude.{if◌then◌else◌, not, is_some, IsTrue}
use Rattle.std.specs.Option.{option_map}
use Rattle.gx_model.specs.declared.faults.Fault.{Fault}
use Rattle.gx_model.specs.declared.faults.Fault.TheVariants as model
use Rattle.gx_model.specs.declared.objects.Kind.{Kind}
use Rattle.gx_model.specs.Texts.{Bytes}
use Rattle.gx_model.specs.Texts.RefNames.{is_ref_name}
use Rattle.gx_model.specs.Objects.{IsNamer}
use Rattle.gx_model.specs.Histories.{Record, Records, object_of}
use Rattle.gx_model.specs.Records.Growth.{record_named}
use Rattle.gx_model.specs.Records.Publishing.{Change, change_fault}
use Rattle.gx_model.specs.Records.Sound.{IsSound}
use Rattle.gx_model.specs.Stores.StoreReading.{is_target, is_target_of_kind}
use Rattle.gx_model.proofs.Records.HeldValues.{got}
use Rattle.gx_repo.specs.Dropping.{is_among}
use Rattle.gx_repo.specs.Refs.{HasTagParts, object_named}
use Rattle.gx_rev.proofs.Bodies.{tag_text_held}
use Rattle.gx_push.specs.declared.fault.RefFault.{RefFault}
use Rattle.gx_push.specs.declared.fault.RefFault.TheVariants.{BadLine, BadRefName, RefMoved, UnknownObject, WrongKind}
use Rattle.gx_push.specs.Settings.{Set, After, allowed, after_fault, is_before, move_fault, or_move, ref_fault, same, gone, becomes, unless_fault}

-- the body of a tag that is held is a tag's text
pub tag_text : (name : Kind → Bytes → Bytes) → IsNamer name → (r : Records) → IsSound name r → (n : Bytes) (kind : Kind) (body : Bytes) → Some (kind, body) ≡ option_map object_of (record_named r.records n) → HasTagParts kind body
tag_text name namer r sound n kind body e = λ is.
    let held = there (record_named r.records n) e in
    let o = got name namer r sound n (kind, body) held e in
    let t = tag_text_held name namer r sound n body held (sym (ap (λ p. p.0) o) ∙ is) (ap (λ p. p.1) o) in
    (t.0, t.2)
  where
    there : (o : Option Record) → Some (kind, body) ≡ option_map object_of o → IsTrue (is_some o)
    there None e = absurd (cc e)
    there (Some held) e = refl

-- whether a ref may hold what is held
pub may_hold : (ref : Bytes) (o : Option Record) (kind : Kind) (body : Bytes) → Some (kind, body) ≡ option_map object_of o → Some (is_target_of_kind ref kind body) ≡ option_map (λ held. is_target_of_kind ref held.kind held.body) o
may_hold ref None kind body e = absurd (cc e)
may_hold ref (Some held) kind body e = let is : (kind, body) ≡ object_of held = cc e in ap (λ (o : Kind × Bytes). Some (is_target_of_kind ref o.0 o.1)) is

-- by whether a name is a ref's, and whether that may hold the object, if there is one
abbrev pub fault_by : Bool → Option Bool → Option RefFault
fault_by false may = Some BadRefName
fault_by true None = Some UnknownObject
fault_by true (Some true) = None
fault_by true (Some false) = Some WrongKind

pub fault_is : (records : List Record) (name object : Bytes) (b : Bool) (may : Option Bool) → is_ref_name name ≡ b → may ≡ option_map (λ held. is_target_of_kind name held.kind held.body) (record_named records object)
    → fault_by b may ≡ option_map ref_fault (change_fault records (name, object))
fault_is records name object b may e f = by (record_named records object) b e may f where
  held_by : (t : Bool) → fault_by true (Some t) ≡ option_map ref_fault (if not t then Some model.WrongKind else None)
  held_by true = refl
  held_by false = refl

  by : (o : Option Record) (b : Bool) → is_ref_name name ≡ b → (may : Option Bool) → may ≡ option_map (λ held. is_target_of_kind name held.kind held.body) o
      → fault_by b may ≡ option_map ref_fault (if not (is_ref_name name) then Some model.BadRefName else (if not (is_some o) then Some model.UnknownObject else (if not (is_target name o) then Some model.WrongKind else None)))
  by o false e may f = ap (λ t. option_map ref_fault (if not t then Some model.BadRefName else (if not (is_some o) then Some model.UnknownObject else (if not (is_target name o) then Some model.WrongKind else None)))) (sym e)
  by None true e may f =
      ap (fault_by true) f ∙ ap (λ t. option_map ref_fault (if not t then Some model.BadRefName else Some model.UnknownObject)) (sym e)
  by (Some held) true e may f =
      ap (fault_by true) f ∙ held_by (is_target_of_kind name held.kind held.body)
      ∙ ap (λ t. option_map ref_fault (if not t then Some model.BadRefName else (if not (is_target_of_kind name held.kind held.body) then Some model.WrongKind else None))) (sym e)

-- what is against an object comes before what is against the move
pub or_some : (o : Option Fault) (moved : Option RefFault) (fault : RefFault) → Some fault ≡ option_map ref_fault o → Some fault ≡ or_move o moved
or_some None moved fault e = absurd (cc e)
or_some (Some f) moved fault e = e

pub or_none : (o : Option Fault) (moved : Option RefFault) → None ≡ option_map ref_fault o → moved ≡ or_move o moved
or_none None moved e = refl
or_none (Some f) moved e = absurd (cc e)

-- a set that is allowed is of a ref that none of these is, and nothing is against its object
pub allowed_new : (forced : Bool) (r : Records) (names : List Bytes) (o : Option Set) (s : Set) → allowed forced r names o ≡ Ok s
    → (is_among names s.ref ≡ false) × (after_fault forced r s.ref s.moves.1 ≡ None)
allowed_new forced r names None s e = absurd (cc e)
allowed_new forced r names (Some t) s e = by (is_ref_name t.ref) (is_among names t.ref) refl (is_before t.moves.0 (object_named r.refs t.ref)) (after_fault forced r t.ref t.moves.1) refl e where
  by : (m b : Bool) → is_among names t.ref ≡ b → (c : Bool) (f : Option RefFault) → after_fault forced r t.ref t.moves.1 ≡ f → (if not m then Err BadRefName else if b then Err BadLine else (if c then unless_fault f t else Err RefMoved)) ≡ Ok s
      → (is_among names s.ref ≡ false) × (after_fault forced r s.ref s.moves.1 ≡ None)
  by false b n c f k e = absurd (cc e)
  by true true n c f k e = absurd (cc e)
  by true false n false f k e = absurd (cc e)
  by true false n true (Some fault) k e = absurd (cc e)
  by true false n true None k e =
      let is : t ≡ s = cc e in
      subst (λ (u : Set). (is_among names u.ref ≡ false) × (after_fault forced r u.ref u.moves.1 ≡ None)) is (n, k)

-- so nothing is against its change
pub after_free : (forced : Bool) (r : Records) (ref : Bytes) (after : After) → after_fault forced r ref after ≡ None → (c : Change) → elim after [ same ↦ None | gone ↦ None | becomes object ↦ Some (ref, object) ] ≡ Some c → change_fault r.records c ≡ None
after_free forced r ref same e c h = absurd (cc h)
after_free forced r ref gone e c h = absurd (cc h)
after_free forced r ref (becomes object) e c h = let is : (ref, object) ≡ c = cc h in subst (λ d. change_fault r.records d ≡ None) is (none_of (change_fault r.records (ref, object)) e) where
  none_of : (o : Option Fault) → or_move o (move_fault forced r (object_named r.refs ref) object) ≡ None → o ≡ None
  none_of None e = refl
  none_of (Some f) e = absurd (cc e)
