-- What is told of the object of a number: where it stands, what it names, and that nothing is refused.
use Rattle.std.proofs.Common.{◌≡◌, ℕ, ◌+◌, ◌<◌, Bool, true, false, List, [], drop, get_or, length, Option, Some, None, Result, Ok, Err, refl, sym, ap, ◌∙◌, subst, arith}
use Rattle.std.specs.Prelude.{IfSome, OnOk, ⊤}
use Rattle.std.specs.List.{AllByRecursion, slice_get}
use Rattle.std.specs.Option.{option_map}
use Rattle.std.proofs.lemmas.Option.{slice_get-get_or}
use Rattle.gx_model.specs.declared.objects.Kind.{Kind}
use Rattle.gx_model.specs.declared.objects.Kind.TheVariants as kinds
use Rattle.gx_model.specs.Histories.{Record, Records, object_of}
use Rattle.gx_model.specs.Laws.StoreLaws.{IsBody}
use Rattle.gx_model.specs.Pruning.{is_reachable, is_tip, links_of}
use Rattle.gx_model.specs.Records.Growth.{record_named}
use Rattle.gx_model.specs.Records.Publishing.{Ref}
use Rattle.gx_model.specs.Records.Sound.{IsSound}
use Rattle.gx_model.specs.Texts.{Bytes}
use Rattle.gx_store.specs.Stores.{place_named}
use Rattle.gx_objects.specs.Answers.{IsHeldThere, OnlyUntold, StandsIfTold}
use Rattle.gx_objects.specs.declared.fault.LookFault.{LookFault}
use Rattle.gx_objects.specs.declared.objects.Object.{Object}
use Rattle.gx_repo.specs.Pruning.{MarksNames, Spreads, marks_by}
use Rattle.gx_repo.proofs.Places.{no_record}
use Rattle.gx_repo.proofs.PrunedRecords.{body_at, marks_none, spread_none, spread_on, spread_past}
use Rattle.gx_listed.specs.Listings.{Head, Listed, ListsAll, ListsIfTold, head_of, shown_head}
use Rattle.gx_kept.specs.Marking.{IsBelow, MarksHeld, MarksListed, RefusesOthers, SpreadsAt}
use Rattle.gx_kept.proofs.ListedRecords.{links_below, own_place, own_record, record_listed, same_length}

-- ---- what is told, or isn't

pub both_told : (told : Option Records) (P Q R : Records → Type 0) → ((r : Records) → P r → Q r → R r) → IfSome told P → IfSome told Q → IfSome told R
both_told None P Q R f h k = tt
both_told (Some r) P Q R f h k = f r h k

-- what tells a repository isn't told to be none
pub untold : (told : Option Records) → IfSome told (λ r. ⊥) → told ≡ None
untold None h = refl
untold (Some r) h = absurd h

module _ (name : Kind → Bytes → Bytes) (stands : ℕ → ℕ) (told : Option Records) (listed : List Listed) (sound : IfSome told (IsSound name)) (lists : ListsIfTold told stands listed)
    (number : ℕ) (one : Listed) (at : Some one ≡ slice_get listed number) where
  -- the record of the number, of which this is known
  pub record IsRecordOf (r : Records) : Type 0 where
    pub held : Record
    pub here : slice_get r.records number ≡ Some held
    pub head : shown_head one ≡ head_of held
    pub sound_is : IsSound name r
    pub place : one.1.place ≡ stands number

  pub record_told : IfSome told IsRecordOf
  record_told = both_told told (IsSound name) (λ r. ListsAll stands r listed) IsRecordOf (λ r s l.
      let x = record_listed listed r.records number one l.heads (sym at) in
      record { held = x.0; here = x.1; head = x.2; sound_is = s; place = l.places number one (sym at) }) sound lists

  named_so : (held : Record) → shown_head one ≡ head_of held → held.name ≡ one.0.bytes
  named_so held h = sym (ap (λ (x : Head). x.name) h)

  -- it stands where it is listed
  pub stands_listed : StandsIfTold told stands one.0.bytes one.1.place
  stands_listed = by told record_told
    where
      by : (o : Option Records) → IfSome o IsRecordOf → StandsIfTold o stands one.0.bytes one.1.place
      by None h = tt
      by (Some r) h =
          let own : place_named r.records one.0.bytes ≡ Some number = subst (λ n. place_named r.records n ≡ Some number) (named_so h.held h.head) (own_place r.records number h.held h.sound_is.distinct h.here) in
          ap Some h.place ∙ ap (option_map stands) (sym own)

  -- the object that is lent is its
  object_is : (r : Records) (h : IsRecordOf r) (object : Object) → IsHeldThere one.0.bytes r object → (object.kind ≡ h.held.kind) × (object.body.now ≡ h.held.body)
  object_is r h object there =
      let own : record_named r.records one.0.bytes ≡ Some h.held = subst (λ n. record_named r.records n ≡ Some h.held) (named_so h.held h.head) (own_record r.records number h.held h.sound_is.distinct h.here) in
      let same : Some (object.kind, object.body.now) ≡ Some (object_of h.held) = there ∙ ap (option_map object_of) own in
      let e : (object.kind, object.body.now) ≡ object_of h.held = cc in
      (ap (λ (x : Kind × Bytes). x.0) e, ap (λ (x : Kind × Bytes). x.1) e)

  module _ (object : Object) (there : IfSome told (λ r. IsHeldThere one.0.bytes r object)) where
    -- what it names is marked
    pub names_marked_of : (old new : List Bool) → MarksHeld listed (links_of object.kind object.body.now) old new → IfSome told (λ r. SpreadsAt r.records number old new)
    names_marked_of old new m =
        both_told told (λ r. IsRecordOf r × IsHeldThere one.0.bytes r object) (λ r. ListsAll stands r listed) (λ r. SpreadsAt r.records number old new) (λ r p l held here.
        let h = p.0 in
        let same : held ≡ h.held = let e = sym here ∙ h.here in cc in
        let o = object_is r h object p.1 in
        let links : links_of object.kind object.body.now ≡ links_of held.kind held.body = (λ i. links_of (o.0 i) (o.1 i)) ∙ ap (λ (x : Record). links_of x.kind x.body) (sym same) in
        subst (λ ns. MarksNames r.records ns old new) links (m r.records l.heads h.sound_is.distinct))
        (both_told told IsRecordOf (λ r. IsHeldThere one.0.bytes r object) (λ r. IsRecordOf r × IsHeldThere one.0.bytes r object) (λ r a b. (a, b)) record_told there) lists

    -- and nothing of it is refused
    pub refuses_none : {E : Type 0} (fault : E) → RefusesOthers {X = Unit {0}} listed number object.kind object.body.now (Err fault) → told ≡ None
    refuses_none fault refused = untold told (both_told told IsRecordOf (λ r. IsHeldThere one.0.bytes r object × ListsAll stands r listed) (λ r. ⊥) clash record_told
        (both_told told (λ r. IsHeldThere one.0.bytes r object) (λ r. ListsAll stands r listed) (λ r. IsHeldThere one.0.bytes r object × ListsAll stands r listed) (λ r a b. (a, b)) there lists))
      where
        clash : (r : Records) → IsRecordOf r → IsHeldThere one.0.bytes r object × ListsAll stands r listed → ⊥
        clash r h p =
            let o = object_is r h object p.0 in
            let body : IsBody object.kind object.body.now = subst (λ k. IsBody k object.body.now) (sym o.0) (subst (IsBody h.held.kind) (sym o.1) (body_at [] r.records h.sound_is.linked number h.held h.here)) in
            let links : links_of h.held.kind h.held.body ≡ links_of object.kind object.body.now = λ i. links_of (sym o.0 i) (sym o.1 i) in
            refused body (subst (AllByRecursion (IsBelow listed number)) links (links_below name r h.sound_is listed p.1.heads number h.held h.here))

    -- so it is whatever comes of its links
    pub links_spread : {E : Type 0} (old new : List Bool) (result : Result (Unit {0}) E) → MarksListed listed (links_of object.kind object.body.now) old new result → IfSome told (λ r. OnOk result (SpreadsAt r.records number old new))
    links_spread old new (Ok done) m = names_marked_of old new m
    links_spread old new (Err fault) m = by told
      where
        by : (o : Option Records) → IfSome o (λ r. ⊤)
        by None = tt
        by (Some r) = tt

    pub links_untold : (result : Result (Unit {0}) LookFault) → RefusesOthers listed number object.kind object.body.now result → OnlyUntold told result
    links_untold (Ok done) h = tt
    links_untold (Err fault) h = λ damaged. refuses_none fault h

  -- a blob names nothing
  pub blob_spreads : one.1.kind ≡ kinds.Blob → (marks : List Bool) → IfSome told (λ r. SpreadsAt r.records number marks marks)
  blob_spreads blob marks = by told record_told
    where
      by : (o : Option Records) → IfSome o IsRecordOf → IfSome o (λ r. SpreadsAt r.records number marks marks)
      by None h = tt
      by (Some r) h = λ held here.
          let same : held ≡ h.held = let e = sym here ∙ h.here in cc in
          let kind : held.kind ≡ kinds.Blob = ap (λ (x : Record). x.kind) same ∙ sym (ap (λ (x : Head). x.kind) h.head) ∙ blob in
          let none : links_of held.kind held.body ≡ [] = ap (λ k. links_of k held.body) kind in
          subst (λ ns. MarksNames r.records ns marks marks) (sym none) (marks_none r.records marks)

-- ---- from the newest object on

-- where what refs hold was marked at first, what they reach by the records from a number on is marked
abbrev pub SpreadFrom : List Bool → ℕ → List Bool → Records → Type 0
SpreadFrom first n marks r = (refs : List Ref) → first ≡ marks_by (is_tip refs) r.records → marks ≡ marks_by (is_reachable refs (drop n r.records)) r.records

module _ (told : Option Records) (first : List Bool) (k : ℕ) (old : List Bool) (so_far : IfSome told (SpreadFrom first (k + 1) old)) (within : IfSome told (λ r. k < length r.records)) where
  pub spread_more : (new : List Bool) → get_or old k false ≡ true → IfSome told (λ r. SpreadsAt r.records k old new) → IfSome told (SpreadFrom first k new)
  spread_more new mark more = by told so_far within more
    where
      by : (o : Option Records) → IfSome o (SpreadFrom first (k + 1) old) → IfSome o (λ r. k < length r.records) → IfSome o (λ r. SpreadsAt r.records k old new) → IfSome o (SpreadFrom first k new)
      by None h l m = tt
      by (Some r) h l m = λ refs e.
          let at = slice_get-get_or r.records k no_record l in
          spread_on refs r.records k old (h refs e) (get_or r.records k no_record) new at mark (m (get_or r.records k no_record) at)

  pub spread_same : get_or old k false ≡ false → IfSome told (SpreadFrom first k old)
  spread_same mark = by told so_far within
    where
      by : (o : Option Records) → IfSome o (SpreadFrom first (k + 1) old) → IfSome o (λ r. k < length r.records) → IfSome o (SpreadFrom first k old)
      by None h l = tt
      by (Some r) h l = λ refs e. spread_past refs r.records k old (h refs e) l mark

-- before the first nothing has been, and behind the last one all
pub spread_begun : (told : Option Records) (k : ℕ) (marks : List Bool) → IfSome told (λ r. k ≡ length r.records) → IfSome told (SpreadFrom marks k marks)
spread_begun None k marks l = tt
spread_begun (Some r) k marks l = λ refs e. spread_none refs r.records k marks (omega (arith, l)) e

pub spread_done : (told : Option Records) (first marks : List Bool) → IfSome told (SpreadFrom first 0 marks) → IfSome told (λ r. Spreads r.records first marks)
spread_done None first marks h = tt
spread_done (Some r) first marks h = λ refs e. h refs e

-- as many are listed as the repository has
pub all_listed : (stands : ℕ → ℕ) (told : Option Records) (listed : List Listed) → ListsIfTold told stands listed → IfSome told (λ r. length listed ≡ length r.records)
all_listed stands None listed h = tt
all_listed stands (Some r) listed h = same_length listed r.records h.heads

-- so the number of one that is listed is that of a record
pub within_told : (told : Option Records) (n k : ℕ) → IfSome told (λ r. n ≡ length r.records) → k < n → IfSome told (λ r. k < length r.records)
within_told None n k h l = tt
within_told (Some r) n k h l = subst (λ m. k < m) h l
