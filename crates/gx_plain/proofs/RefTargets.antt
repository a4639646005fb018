-- Whether refs may hold objects that are listed of a plain text.
use Rattle.std.proofs.Common.{◌≡◌, ◌⊎◌, inl, inr, ℕ, true, false, Bool, List, slice_get, take, get_or, Option, Some, None, Result, Ok, Err, refl, sym, ap, ◌∙◌, subst}
use Rattle.std.specs.Bool.{passes}
use Rattle.std.proofs.lemmas.Option.{slice_get-get_or}
use Rattle.gx_model.specs.declared.objects.Kind.{Kind}
use Rattle.gx_model.specs.declared.objects.Kind.TheVariants as kinds
use Rattle.gx_model.specs.declared.store_versions.Version.{Version}
use Rattle.gx_model.specs.Texts.{Bytes, same_bytes}
use Rattle.gx_model.specs.Texts.RefNames.{tag_ref}
use Rattle.gx_model.specs.Histories.{Record}
use Rattle.gx_model.specs.Objects.{IsTagText, TagParts}
use Rattle.gx_model.specs.Records.Growth.{record_named}
use Rattle.gx_model.specs.Records.HistoryOf.{tag_parts_in}
use Rattle.gx_model.specs.Records.Sound.{IsLinked}
use Rattle.gx_model.specs.Stores.StoreReading.{is_target, is_target_of_kind}
use Rattle.gx_model.proofs.Texts.PathTests.{same_is}
use Rattle.gx_repo.specs.declared.publishing.RefChange.{RefChange}
use Rattle.gx_repo.proofs.Places.{is_place, no_place, no_record, no_record_named, record_at_place}
use Rattle.gx_repo.proofs.RecordRooms.{linked_at}
use Rattle.gx_listed.specs.Listings.{Head, Listed, number_named}
use Rattle.gx_plain.proofs.ListedObjects.{number_is, record_listed}
use Rattle.gx_look.specs.Reading.{Gives}
use Rattle.gx_objects.specs.declared.fault.LookFault.{LookFault}
use Rattle.gx_plain.specs.Records.{IsStoredAt}
use Rattle.gx_plain.specs.Refs.{AreTold, TellsTag, TellsTarget}
use Rattle.gx_plain.proofs.PlainTexts.{zip_at}

module _ (name : Kind → Bytes → Bytes) (v : Version) (text : Bytes) (listed : List Listed) (rs : List Record) (h : AreTold name v text listed rs) (ref n : Bytes) where
  pub no_target : None ≡ number_named listed n → false ≡ is_target ref (record_named rs n)
  no_target e = sym (ap (is_target ref) (no_record_named rs n (no_place rs n (sym (e ∙ number_is n listed rs h.heads)))))

  -- the record of an object that is listed
  pub record IsTargetOf (one : Listed) : Type 0 where
    pub held : Record
    pub number : ℕ
    pub at : slice_get rs number ≡ Some held
    pub found : record_named rs n ≡ Some held
    pub kind : one.1.kind ≡ held.kind
    pub stored : IsStoredAt name v text one.1.place n held

  pub target_of : (i : ℕ) (one : Listed) → Some i ≡ number_named listed n → slice_get listed i ≡ Some one → IsTargetOf one
  target_of i one e at =
      let p = is_place rs n i (sym (e ∙ number_is n listed rs h.heads)) in
      let there = slice_get-get_or rs i no_record p.within in
      let held = get_or rs i no_record in
      let r = record_listed listed rs i one h.heads at in
      let same : r.0 ≡ held = (let q : Some r.0 ≡ Some held = sym r.1 ∙ there in cc q) in
      let named : held.name ≡ n = sym (same_is n held.name (passes _ (p.named no_record))) in
      record {
        held = held;
        number = i;
        at = there;
        found = record_at_place rs n i p;
        kind = ap (λ (x : Head). x.kind) r.2 ∙ ap (λ (x : Record). x.kind) same;
        stored = subst (λ m. IsStoredAt name v text one.1.place m held) named (zip_at (λ one held. IsStoredAt name v text one.1.place held.name held) listed rs i one held h.stand at there);
      }

  module _ (one : Listed) (t : IsTargetOf one) where
    target_is : (k : Kind) → one.1.kind ≡ k → is_target ref (record_named rs n) ≡ is_target_of_kind ref k t.held.body
    target_is k e = ap (is_target ref) t.found ∙ ap (λ x. is_target_of_kind ref x t.held.body) (sym t.kind ∙ e)

    pub commit_target : one.1.kind ≡ kinds.Commit → true ≡ is_target ref (record_named rs n)
    commit_target e = sym (target_is kinds.Commit e)

    blob_target : one.1.kind ≡ kinds.Blob → false ≡ is_target ref (record_named rs n)
    blob_target e = sym (target_is kinds.Blob e)

    tree_target : one.1.kind ≡ kinds.Tree → false ≡ is_target ref (record_named rs n)
    tree_target e = sym (target_is kinds.Tree e)

    pub other_target : (one.1.kind ≡ kinds.Blob) ⊎ (one.1.kind ≡ kinds.Tree) → false ≡ is_target ref (record_named rs n)
    other_target (inl e) = blob_target e
    other_target (inr e) = tree_target e

    -- a tag's body is one of its kind
    pub tag_text : one.1.kind ≡ kinds.Tag → (p : TagParts) × IsTagText p t.held.body
    tag_text e =
        let linked = subst (λ k. IsLinked (take t.number rs) k t.held.body) (sym t.kind ∙ e) (linked_at name rs t.number t.held h.sound t.at) in
        (linked.0, linked.1)

    pub tag_target : one.1.kind ≡ kinds.Tag → (answer : Bool) → answer ≡ same_bytes ref (tag_ref (tag_parts_in t.held.body).name) → answer ≡ is_target ref (record_named rs n)
    tag_target e answer a = a ∙ sym (target_is kinds.Tag e)

-- ---- of what tells a text

-- what is told of each text is told
pub each_target : (name : Kind → Bytes → Bytes) (v : Version) (told : Option Bytes) (listed : List Listed) (change : RefChange) (result : Result Bool LookFault)
    → ((text : Bytes) → told ≡ Some text → (rs : List Record) → AreTold name v text listed rs → Gives (λ may. may ≡ is_target change.name.now (record_named rs change.target.bytes)) result)
    → TellsTarget name v told listed change result
each_target name v None listed change result h = tt
each_target name v (Some text) listed change result h = h text refl

gives_more : {X : Type 0} (P Q : X → Type 0) (result : Result X LookFault) → ((x : X) → P x → Q x) → Gives P result → Gives Q result
gives_more P Q (Ok x) f h = f x h
gives_more P Q (Err why) f h = h

-- a tag that is read tells whether a ref may hold it
pub tag_tells : (name : Kind → Bytes → Bytes) (v : Version) (told : Option Bytes) (listed : List Listed) (change : RefChange) (i : ℕ) (one : Listed)
    → Some i ≡ number_named listed change.target.bytes → slice_get listed i ≡ Some one → one.1.kind ≡ kinds.Tag
    → (result : Result Bool LookFault) → TellsTag name v told one.1.place change.target.bytes change.name.now result → TellsTarget name v told listed change result
tag_tells name v None listed change i one e at k result h = tt
tag_tells name v (Some text) listed change i one e at k result h = λ rs told.
    let t = target_of name v text listed rs told change.name.now change.target.bytes i one e at in
    let p = tag_text name v text listed rs told change.name.now change.target.bytes one t k in
    gives_more (λ own. own ≡ same_bytes change.name.now (tag_ref (tag_parts_in t.held.body).name)) (λ may. may ≡ is_target change.name.now (record_named rs change.target.bytes)) result
    (tag_target name v text listed rs told change.name.now change.target.bytes one t k)
    (h t.held t.stored p.0 p.1)
