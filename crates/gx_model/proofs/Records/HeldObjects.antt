-- What a held name gives: its record, the commit that it peels to, and whether a ref may hold it.
use Rattle.std.proofs.Common.{◌≡◌, true, false, cond, List, [], ◌∷◌, Option, Some, None, refl, sym, ap, subst, ◌∙◌, inl, inr}
use Rattle.std.specs.Option.{option_map, unwrap_or}
use Rattle.std.specs.Bool.{passes}
use Rattle.std.proofs.lemmas.Bool.{false≢true}
use Rattle.gx_model.specs.declared.objects.Kind.{Kind}
use Rattle.gx_model.specs.declared.objects.Kind.TheVariants as kinds
use Rattle.gx_model.specs.Texts.{Bytes, same_bytes}
use Rattle.gx_model.specs.Texts.RefNames.{tag_ref}
use Rattle.gx_model.specs.Objects.{IsNamer, IsTagText, TagParts}
use Rattle.gx_model.specs.Histories.{Record, Records, object_of}
use Rattle.gx_model.specs.Records.HistoryOf.{tag_parts_in}
use Rattle.gx_model.specs.Records.Sound.{AnyByRecursion, Holds, IsSound, IsTarget}
use Rattle.gx_model.specs.Records.Growth.{record_named}
use Rattle.gx_model.specs.Records.Lookups.{commit_named, commit_of_record}
use Rattle.gx_model.specs.Stores.StoreReading.{is_target, is_target_of_kind}
use Rattle.gx_model.proofs.ObjectTexts.BodiesReadBack.{tag_read}
use Rattle.gx_model.proofs.Records.HeldNames.{held_tag}
use Rattle.gx_model.proofs.Texts.PathTests.{same_is}

-- the record of a name is among the records, under that name
pub any_named : (P : Record → Type 0) (rs : List Record) (n : Bytes) (s : Record) → record_named rs n ≡ Some s → (s.name ≡ n → P s) → AnyByRecursion P rs
any_named P [] n s e p = absurd (cc)
any_named P (r ∷ rs) n s e p =
    elim (same_bytes n r.name) as (λ b. same_bytes n r.name ≡ b → cond b (Some r) (record_named rs n) ≡ Some s → AnyByRecursion P (r ∷ rs)) [
      | true ↦ λ k i. let l : r ≡ s = cc i in inl (subst P (sym l) (p (ap (λ z. z.name) (sym l) ∙ sym (same_is n r.name (passes _ k)))))
      | false ↦ λ k i. inr (any_named P rs n s i p)
    ] refl e

pub named_so : (rs : List Record) (n : Bytes) (s : Record) → record_named rs n ≡ Some s → s.name ≡ n
named_so [] n s e = absurd (cc)
named_so (r ∷ rs) n s e =
    elim (same_bytes n r.name) as (λ b. same_bytes n r.name ≡ b → cond b (Some r) (record_named rs n) ≡ Some s → s.name ≡ n) [
      | true ↦ λ k i. let l : r ≡ s = cc i in ap (λ z. z.name) (sym l) ∙ sym (same_is n r.name (passes _ k))
      | false ↦ λ k i. named_so rs n s i
    ] refl e

-- the record of which a look-up shows the kind and the body
pub record IsShown (rs : List Record) (n : Bytes) (kind : Kind) (body : Bytes) : Type 0 where
  pub held : Record
  pub found : record_named rs n ≡ Some held
  pub named : held.name ≡ n
  pub of_kind : held.kind ≡ kind
  pub of_body : held.body ≡ body

pub is_shown : (rs : List Record) (n : Bytes) (kind : Kind) (body : Bytes) → Some (kind, body) ≡ option_map object_of (record_named rs n) → IsShown rs n kind body
is_shown rs n kind body e = by (record_named rs n) refl e
  where
    by : (o : Option Record) → record_named rs n ≡ o → Some (kind, body) ≡ option_map object_of o → IsShown rs n kind body
    by None f e = absurd (cc)
    by (Some s) f e =
        let seen = ap (λ (o : Option (Kind × Bytes)). unwrap_or o (kind, body)) (sym e) in
        record { held = s; found = f; named = named_so rs n s f; of_kind = ap (λ o. o.0) seen; of_body = ap (λ o. o.1) seen }

commit_shown : (rs : List Record) (n : Bytes) (s : Record) → record_named rs n ≡ Some s → commit_named rs n ≡ commit_of_record s.kind s.name s.body
commit_shown rs n s f = ap (λ (o : Option Record). elim o [ None ↦ None | Some r ↦ commit_of_record r.kind r.name r.body ]) f

pub commit_peeled : (rs : List Record) (n body : Bytes) → IsShown rs n kinds.Commit body → Some n ≡ commit_named rs n
commit_peeled rs n body h =
    sym (commit_shown rs n h.held h.found ∙ ap (λ k. commit_of_record k h.held.name h.held.body) h.of_kind ∙ ap Some h.named)

module _ (name : Kind → Bytes → Bytes) (namer : IsNamer name) (r : Records) (sound : IsSound name r) where
  -- a held tag has parts
  pub tag_shown : (n body : Bytes) → IsShown r.records n kinds.Tag body → (parts : TagParts) × IsTagText parts body
  tag_shown n body h =
      let p = held_tag name namer r sound n h.held h.found h.of_kind in
      (p.0, subst (IsTagText p.0) h.of_body p.1)

  pub tag_peeled : (n body : Bytes) → IsShown r.records n kinds.Tag body → (answer : Option Bytes) → ((parts : TagParts) → IsTagText parts body → answer ≡ Some parts.object) → answer ≡ commit_named r.records n
  tag_peeled n body h answer told =
      let p = tag_shown n body h in
      told p.0 p.1 ∙ ap (λ (q : TagParts). Some q.object) (sym (tag_read p.0 body p.1))
      ∙ sym (commit_shown r.records n h.held h.found ∙ ap (λ k. commit_of_record k h.held.name h.held.body) h.of_kind ∙ ap (λ b. Some (tag_parts_in b).object) h.of_body)

  -- what a ref may hold is its target
  pub is_target_of : (ref n : Bytes) → is_target ref (record_named r.records n) ≡ true → IsTarget r.records ref n
  is_target_of ref n e = by (record_named r.records n) refl e
    where
      tag_target : (s : Record) → record_named r.records n ≡ Some s → s.kind ≡ kinds.Tag → same_bytes ref (tag_ref (tag_parts_in s.body).name) ≡ true → IsTarget r.records ref n
      tag_target s f k e =
          let p = held_tag name namer r sound n s f k in
          inr (any_named _ r.records n s f (λ m. (k, m, (p.0, p.1, same_is ref _ (passes _ e) ∙ ap (λ (q : TagParts). tag_ref q.name) (tag_read p.0 s.body p.1)))))

      of_kind : (s : Record) → record_named r.records n ≡ Some s → (k : Kind) → s.kind ≡ k → is_target_of_kind ref k s.body ≡ true → IsTarget r.records ref n
      of_kind s f kinds.Commit k e = inl (any_named _ r.records n s f (λ m. (k, m)))
      of_kind s f kinds.Tag k e = tag_target s f k e
      of_kind s f kinds.Blob k e = absurd (false≢true e)
      of_kind s f kinds.Tree k e = absurd (false≢true e)

      by : (o : Option Record) → record_named r.records n ≡ o → is_target ref o ≡ true → IsTarget r.records ref n
      by None f e = absurd (false≢true e)
      by (Some s) f e = of_kind s f s.kind refl e

-- what a look-up shows is held
pub held_shown : (rs : List Record) (n : Bytes) (kind : Kind) (body : Bytes) → IsShown rs n kind body → Holds rs kind n
held_shown rs n kind body h = any_named (λ held. (held.kind ≡ kind) × (held.name ≡ n)) rs n h.held h.found (λ m. (h.of_kind, m))
