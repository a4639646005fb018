-- Objects that are held: the bodies of tags, and the commits that commits and tags name.
use Rattle.std.proofs.Common.{◌≡◌, Option, Some, None, refl, sym, ap, ◌∙◌}
use Rattle.std.specs.Prelude.{IsTrue, is_some}
use Rattle.std.specs.Option.{option_map}
use Rattle.gx_model.specs.declared.objects.Kind.{Kind}
use Rattle.gx_model.specs.declared.objects.Kind.TheVariants as kinds
use Rattle.gx_model.specs.Texts.{Bytes}
use Rattle.gx_model.specs.Objects.{IsNamer}
use Rattle.gx_model.specs.Histories.{Record, Records, object_of}
use Rattle.gx_model.specs.Records.Growth.{record_named}
use Rattle.gx_model.specs.Records.Lookups.{commit_named, commit_of_record}
use Rattle.gx_model.specs.Records.Sound.{Holds, IsSound}
use Rattle.gx_model.specs.Stores.StoreReading.{is_target_of_kind}
use Rattle.gx_model.proofs.Records.HeldValues.{got, peeled_to}
use Rattle.gx_model.proofs.Records.PeeledRefs.{held_holds}
use Rattle.gx_repo.specs.Refs.{HasTagParts}
use Rattle.gx_rev.proofs.Bodies.{tag_text_held}

-- the body of a tag that is held is a tag's text
pub tag_text : (name : Kind → Bytes → Bytes) → IsNamer name → (r : Records) → IsSound name r → (n : Bytes) (kind : Kind) (body : Bytes) → Some (kind, body) ≡ option_map object_of (record_named r.records n) → HasTagParts kind body
tag_text name namer r sound n kind body e = λ is.
    let held = there (record_named r.records n) e in
    let o = got name namer r sound n (kind, body) held e in
    let t = tag_text_held name namer r sound n body held (sym (ap (λ p. p.0) o) ∙ is) (ap (λ p. p.1) o) in
    (t.0, t.2)
  where
    there : (o : Option Record) → Some (kind, body) ≡ option_map object_of o → IsTrue (is_some o)
    there None e = absurd (cc e)
    there (Some held) e = refl

-- whether a ref may hold what is held
pub may_hold : (ref : Bytes) (o : Option Record) (kind : Kind) (body : Bytes) → Some (kind, body) ≡ option_map object_of o → Some (is_target_of_kind ref kind body) ≡ option_map (λ held. is_target_of_kind ref held.kind held.body) o
may_hold ref None kind body e = absurd (cc e)
may_hold ref (Some held) kind body e = let is : (kind, body) ≡ object_of held = cc e in ap (λ (o : Kind × Bytes). Some (is_target_of_kind ref o.0 o.1)) is

is_there : (r : Records) (n c : Bytes) → Some c ≡ commit_named r.records n → IsTrue (is_some (record_named r.records n))
is_there r n c e = by (record_named r.records n) e where
  by : (o : Option Record) → Some c ≡ elim o [ None ↦ None | Some held ↦ commit_of_record held.kind held.name held.body ] → IsTrue (is_some o)
  by None e = absurd (cc e)
  by (Some held) e = refl

-- the commit of an object is held as one
pub commit_holds : (name : Kind → Bytes → Bytes) → IsNamer name → (r : Records) → IsSound name r → (n c : Bytes) → Some c ≡ commit_named r.records n → Holds r.records kinds.Commit c
commit_holds name namer r sound n c e = held_holds name namer r sound c (peeled_to name namer r sound n c (is_there r n c e) e).1
