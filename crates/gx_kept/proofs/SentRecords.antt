-- The records of objects that are marked, as they go out one after the other.
use Rattle.std.proofs.Common.{◌≡◌, ℕ, ◌+◌, ◌≤◌, Bool, true, false, List, [], ◌∷◌, ◌++◌, append_assoc, append-nil, drop, get_or, length, map, Option, Some, None, refl, sym, ap, ◌∙◌, subst}
use Rattle.std.specs.Prelude.{IfSome}
use Rattle.std.specs.List.{flat_map, slice_get}
use Rattle.std.proofs.lemmas.List.{drop_all, map-append}
use Rattle.gx_model.specs.declared.objects.Kind.{Kind}
use Rattle.gx_model.specs.declared.store_versions.Version.TheVariants.{Two}
use Rattle.gx_model.specs.Histories.{Record, Records}
use Rattle.gx_model.specs.Stores.StoreText.{stored_record}
use Rattle.gx_model.specs.Texts.{Bytes}
use Rattle.gx_model.specs.Texts.Sinks.{Taken, Took, TookFront}
use Rattle.gx_model.proofs.Texts.SentTexts.{IsLeft, left_fails, took_both, took_nothing}
use Rattle.gx_store.specs.Marked.{marked}
use Rattle.gx_listed.specs.Listings.{HaveHeads, Listed, head_of, shown_head}
use Rattle.gx_kept.specs.Faults.{Stops}
use Rattle.gx_kept.specs.Sending.{AreNamed}
use Rattle.gx_kept.specs.declared.fault.KeptFault.{KeptFault}
use Rattle.gx_kept.specs.declared.fault.KeptFault.TheVariants.{OutOfMemory, ReadFailed, Damaged, WriteFailed}
use Rattle.gx_kept.proofs.Weights.{marked_on, marked_past}

abbrev texts : List Record → Bytes
texts = flat_map (stored_record Two)

texts_more : (rs more : List Record) → texts (rs ++ more) ≡ texts rs ++ texts more
texts_more [] more = refl
texts_more (r ∷ rs) more = ap (λ t. stored_record Two r ++ t) (texts_more rs more) ∙ sym (append_assoc (stored_record Two r) (texts rs) (texts more))

named_more : (name : Kind → Bytes → Bytes) (rs : List Record) (r : Record) → AreNamed name rs → r.name ≡ name r.kind r.body → AreNamed name (rs ++ r ∷ [])
named_more name [] r h e = (e, tt)
named_more name (q ∷ rs) r h e = (h.0, named_more name rs r h.1 e)

front_left : (whole : Bytes) (was mid now : Option Taken) (text left : Bytes) → IsLeft whole was mid (text ++ left) → TookFront mid now text → TookFront was now whole
front_left whole was mid now text left h k = (
  h.front ++ k.0,
  k.1 ++ left,
  h.parts ∙ ap (λ t. h.front ++ (t ++ left)) k.2 ∙ ap (λ t. h.front ++ t) (append_assoc k.0 k.1 left) ∙ sym (append_assoc h.front k.0 (k.1 ++ left)),
  took_both was mid now h.front k.0 h.took k.3,
)

-- a front of a text went out where a front of what is left of it did
pub left_stops : (whole : Bytes) (was mid now : Option Taken) (text left : Bytes) (fault : KeptFault) → IsLeft whole was mid (text ++ left) → Stops text mid now fault → Stops whole was now fault
left_stops whole was mid now text left WriteFailed h k = left_fails whole was mid now text left h k
left_stops whole was mid now text left OutOfMemory h k = front_left whole was mid now text left h k
left_stops whole was mid now text left ReadFailed h k = front_left whole was mid now text left h k
left_stops whole was mid now text left Damaged h k = front_left whole was mid now text left h k

module _ (name : Kind → Bytes → Bytes) (told : Option Records) (listed : List Listed) (marks : List Bool) (was : Option Taken) where
  -- these went out, each with its name; with those that are marked from a number on they are all
  pub record AreSent (i : ℕ) (now : Option Taken) : Type 0 where
    pub kept : List Record
    pub heads : map head_of kept ++ map shown_head (marked (drop i marks) (drop i listed)) ≡ map shown_head (marked marks listed)
    pub named : AreNamed name kept
    pub took : Took was now (texts kept)
    pub told_so : IfSome told (λ r. kept ++ marked (drop i marks) (drop i r.records) ≡ marked marks r.records)

  none_told : IfSome told (λ r. [] ++ marked (drop 0 marks) (drop 0 r.records) ≡ marked marks r.records)
  none_told = by told
    where
      by : (o : Option Records) → IfSome o (λ r. [] ++ marked (drop 0 marks) (drop 0 r.records) ≡ marked marks r.records)
      by None = tt
      by (Some r) = refl

  -- before the first, none did
  pub none_sent : AreSent 0 was
  none_sent = record { kept = []; heads = refl; named = tt; took = took_nothing was; told_so = none_told }

  module _ (i : ℕ) (now : Option Taken) (h : AreSent i now) (one : Listed) (at : slice_get listed i ≡ Some one) where
    -- one that isn't marked is passed
    pub past_sent : get_or marks i false ≡ false → IfSome told (λ r. (held : Record) × (slice_get r.records i ≡ Some held)) → AreSent (i + 1) now
    past_sent mark there = record {
      kept = h.kept;
      heads = ap (λ xs. map head_of h.kept ++ map shown_head xs) (sym (marked_past marks listed i one at mark)) ∙ h.heads;
      named = h.named;
      took = h.took;
      told_so = by told h.told_so there;
    }
      where
        by : (o : Option Records) → IfSome o (λ r. h.kept ++ marked (drop i marks) (drop i r.records) ≡ marked marks r.records) → IfSome o (λ r. (held : Record) × (slice_get r.records i ≡ Some held))
            → IfSome o (λ r. h.kept ++ marked (drop (i + 1) marks) (drop (i + 1) r.records) ≡ marked marks r.records)
        by None k t = tt
        by (Some r) k t = ap (λ xs. h.kept ++ xs) (sym (marked_past marks r.records i t.0 t.1 mark)) ∙ k

    -- one that is marked goes out
    pub one_sent : (held : Record) (new : Option Taken) → get_or marks i false ≡ true → head_of held ≡ shown_head one → held.name ≡ name held.kind held.body → Took now new (stored_record Two held)
        → IfSome told (λ r. slice_get r.records i ≡ Some held) → AreSent (i + 1) new
    one_sent held new mark head named took there = record {
      kept = h.kept ++ held ∷ [];
      heads = ap (λ xs. xs ++ map shown_head (marked (drop (i + 1) marks) (drop (i + 1) listed))) (map-append head_of h.kept (held ∷ []))
          ∙ append_assoc (map head_of h.kept) (head_of held ∷ []) (map shown_head (marked (drop (i + 1) marks) (drop (i + 1) listed)))
          ∙ ap (λ x. map head_of h.kept ++ x ∷ map shown_head (marked (drop (i + 1) marks) (drop (i + 1) listed))) head
          ∙ ap (λ xs. map head_of h.kept ++ map shown_head xs) (sym (marked_on marks listed i one at mark)) ∙ h.heads;
      named = named_more name h.kept held h.named named;
      took = subst (Took was new) (ap (λ t. texts h.kept ++ t) (sym (append-nil (stored_record Two held))) ∙ sym (texts_more h.kept (held ∷ []))) (took_both was now new (texts h.kept) (stored_record Two held) h.took took);
      told_so = by told h.told_so there;
    }
      where
        by : (o : Option Records) → IfSome o (λ r. h.kept ++ marked (drop i marks) (drop i r.records) ≡ marked marks r.records) → IfSome o (λ r. slice_get r.records i ≡ Some held)
            → IfSome o (λ r. (h.kept ++ held ∷ []) ++ marked (drop (i + 1) marks) (drop (i + 1) r.records) ≡ marked marks r.records)
        by None k t = tt
        by (Some r) k t =
            append_assoc h.kept (held ∷ []) (marked (drop (i + 1) marks) (drop (i + 1) r.records)) ∙ ap (λ xs. h.kept ++ xs) (sym (marked_on marks r.records i held t mark)) ∙ k

    -- where one stops, so does the whole
    pub one_stops : (new : Option Taken) (fault : KeptFault) → get_or marks i false ≡ true → IfSome told (λ r. (held : Record) × (slice_get r.records i ≡ Some held) × Stops (stored_record Two held) now new fault)
        → IfSome told (λ r. Stops (texts (marked marks r.records)) was new fault)
    one_stops new fault mark there = by told h.told_so there
      where
        by : (o : Option Records) → IfSome o (λ r. h.kept ++ marked (drop i marks) (drop i r.records) ≡ marked marks r.records)
            → IfSome o (λ r. (held : Record) × (slice_get r.records i ≡ Some held) × Stops (stored_record Two held) now new fault) → IfSome o (λ r. Stops (texts (marked marks r.records)) was new fault)
        by None k t = tt
        by (Some r) k t =
            let rest = marked (drop (i + 1) marks) (drop (i + 1) r.records) in
            let whole : texts (marked marks r.records) ≡ texts h.kept ++ (stored_record Two t.0 ++ texts rest) =
            ap texts (sym k) ∙ texts_more h.kept (marked (drop i marks) (drop i r.records)) ∙ ap (λ xs. texts h.kept ++ texts xs) (marked_on marks r.records i t.0 t.1 mark) in
            left_stops (texts (marked marks r.records)) was now new (stored_record Two t.0) (texts rest) fault (record { front = texts h.kept; parts = whole; took = h.took }) t.2

  -- behind the last, all did
  pub all_sent : (i : ℕ) (now : Option Taken) → AreSent i now → length listed ≤ i → IfSome told (λ r. length listed ≡ length r.records)
      → (kept : List Record) × HaveHeads (marked marks listed) kept × AreNamed name kept × Took was now (texts kept) × IfSome told (λ r. kept ≡ marked marks r.records)
  all_sent i now h last same = (
    h.kept,
    sym (sym (append-nil (map head_of h.kept)) ∙ ap (λ xs. map head_of h.kept ++ map shown_head (marked (drop i marks) xs)) (sym (drop_all i listed last)) ∙ h.heads),
    h.named,
    h.took,
    by told h.told_so same,
  )
    where
      by : (o : Option Records) → IfSome o (λ r. h.kept ++ marked (drop i marks) (drop i r.records) ≡ marked marks r.records) → IfSome o (λ r. length listed ≡ length r.records) → IfSome o (λ r. h.kept ≡ marked marks r.records)
      by None k l = tt
      by (Some r) k l = sym (append-nil h.kept) ∙ ap (λ xs. h.kept ++ marked (drop i marks) xs) (sym (drop_all i r.records (subst (λ n. n ≤ i) l last))) ∙ k
