-- Who has what a bundle tells to be had has, with its objects, all that its refs reach.
use Rattle.std.proofs.Common.{◌≡◌, ℕ, Bool, zero, suc, true, false, cond, get_or, List, [], ◌∷◌, map, inl, inr, Option, Some, None, refl, sym, ap, ◌∙◌, subst}
use Rattle.std.specs.Prelude.{◌&&◌, ◌||◌, IsTrue, T, not, length}
use Rattle.std.specs.Bool.{passes}
use Rattle.std.specs.List.{AllByRecursion, filter, list_any, slice_get}
use Rattle.std.proofs.lemmas.Option.{slice_get-get_or}
use Rattle.gx_model.specs.declared.objects.Kind.{Kind}
use Rattle.gx_model.specs.Histories.{Record, Records, record_of}
use Rattle.gx_model.specs.Laws.PruningLaws.{LinksHave}
use Rattle.gx_model.specs.Objects.{IsNamer}
use Rattle.gx_model.specs.Pruning.{is_reachable, links_of}
use Rattle.gx_model.specs.Records.{name_of}
use Rattle.gx_model.specs.Records.HistoryOf.{history_of}
use Rattle.gx_model.specs.Records.Publishing.{Ref}
use Rattle.gx_model.specs.Records.Sound.{AnyByRecursion, IsSound}
use Rattle.gx_model.specs.Texts.{Bytes, same_bytes}
use Rattle.gx_model.proofs.Records.GrownRecords.{distinct_of, whole_of}
use Rattle.gx_model.proofs.Records.HistoriesExist.{stands}
use Rattle.gx_model.proofs.Pruning.ReachableObjects.{least, links_reached}
use Rattle.gx_model.proofs.ObjectTexts.TreePaths.{some_unrecord}
use Rattle.gx_model.proofs.Texts.PathTests.{is_same, is_true, left_or, right_or, same_is}
use Rattle.gx_repo.specs.Pruning.{tips_of}
use Rattle.gx_repo.proofs.Places.{is_place, no_record}
use Rattle.gx_repo.proofs.PrunedRecords.{store_sound}
use Rattle.gx_repo.proofs.RecordRooms.{linked_at}
use Rattle.gx_kept.specs.BundleLaws.{IsReader, PacksAreWhole, has_with}
use Rattle.gx_kept.specs.Telling.{is_beyond, reached_beyond}
use Rattle.gx_kept.proofs.ListedRecords.{StandsBefore, linked_before}

-- ---- lists

-- a record that passes is among those that pass, by its name
among_passed : (test : Record → Bool) (rs : List Record) (held : Record) → AnyByRecursion (λ other. other ≡ held) rs → test held ≡ true → T (list_any (λ other. same_bytes held.name other.name) (filter test rs))
among_passed test [] held i e = absurd i
among_passed test (r ∷ rs) held i e = by (test r) refl (λ a. among_passed test rs held a e) i
  where
    own : r ≡ held → T (same_bytes held.name r.name)
    own s = is_same held.name r.name (ap (λ (x : Record). x.name) (sym s))

    by : (b : Bool) → test r ≡ b → (AnyByRecursion (λ other. other ≡ held) rs → T (list_any (λ other. same_bytes held.name other.name) (filter test rs))) → AnyByRecursion (λ other. other ≡ held) (r ∷ rs) → T (list_any (λ other. same_bytes held.name other.name) (cond b (r ∷ filter test rs) (filter test rs)))
    by true k again (inl s) = left_or (same_bytes held.name r.name) _ (own s)
    by true k again (inr a) = right_or (same_bytes held.name r.name) _ (again a)
    by false k again (inl s) = absurd (let clash : true ≡ false = sym e ∙ ap test (sym s) ∙ k in cc clash)
    by false k again (inr a) = again a

-- the record at a place is one of them
at_place : (rs : List Record) (i : ℕ) (held : Record) → slice_get rs i ≡ Some held → AnyByRecursion (λ other. other ≡ held) rs
at_place [] i held e = absurd cc
at_place (r ∷ rs) zero held e = inl cc
at_place (r ∷ rs) (suc i) held e = inr (at_place rs i held e)

-- and each of them stands somewhere
some_place : (rs : List Record) (held : Record) → AnyByRecursion (λ other. other ≡ held) rs → (i : ℕ) × (slice_get rs i ≡ Some held)
some_place [] held a = absurd a
some_place (r ∷ rs) held (inl e) = (0, ap Some e)
some_place (r ∷ rs) held (inr a) = let p = some_place rs held a in (suc p.0, p.1)

-- names hold what they are
tips_had : (has : Bytes → Bool) (had : List Bytes) → AllByRecursion (λ called. IsTrue (has called)) had → AllByRecursion (λ ref. IsTrue (has ref.1)) (tips_of had)
tips_had has [] h = tt
tips_had has (x ∷ xs) h = (h.0, tips_had has xs h.1)

module _ (name : Kind → Bytes → Bytes) (namer : IsNamer name) (r : Records) (s : IsSound name r) (refs : List Ref) where
  -- what a reached record names is reached
  links_are_reached : (held : Record) → AnyByRecursion (λ other. other ≡ held) r.records → IsTrue (is_reachable refs r.records held.name) → LinksHave (is_reachable refs r.records) held
  links_are_reached held i k =
      let t = stands name namer r s in
      let v = some_unrecord name (λ other. other ≡ held) (history_of r).values (subst (AnyByRecursion (λ other. other ≡ held)) t.records i) in
      subst (LinksHave (is_reachable refs r.records)) v.2
      (back _ (links_reached name namer refs (history_of r).values (whole_of name namer (history_of r) t.history) (distinct_of name namer r (history_of r) t) v.0 v.1
      (subst T (ap (λ (x : Record). is_reachable refs r.records x.name) (sym v.2) ∙ ap (λ rs. is_reachable refs rs (name_of name v.0)) t.records) (passes _ k))))
    where
      back : (ls : List Bytes) → AllByRecursion (λ n. T (is_reachable refs (map (record_of name) (history_of r).values) n)) ls → AllByRecursion (λ n. IsTrue (is_reachable refs r.records n)) ls
      back [] q = tt
      back (l ∷ ls) q = (is_true _ (subst T (ap (λ rs. is_reachable refs rs l) (sym (stands name namer r s).records)) q.0), back ls q.1)

  module _ (had : List Bytes) (has : Bytes → Bool) (reader : IsReader had r.records has) where
    abbrev after : Bytes → Bool
    after = has_with has (reached_beyond refs had r.records)

    -- what had reaches was there, and what it doesn't goes out
    held_after : (held : Record) → AnyByRecursion (λ other. other ≡ held) r.records → IsTrue (is_reachable refs r.records held.name) → IsTrue (after held.name)
    unfolding reached_beyond
    held_after held i k = is_true _ (by (is_reachable (tips_of had) r.records held.name) refl)
      where
        by : (b : Bool) → is_reachable (tips_of had) r.records held.name ≡ b → T (after held.name)
        by true e = left_or (has held.name) _ (least (tips_of had) has r.records (tips_had has had reader.told) reader.closed held.name (subst T (sym e) tt))
        by false e =
            let beyond : is_beyond refs had r.records held.name ≡ true = (λ j. not (e j) && is_reachable refs r.records held.name) ∙ is_one (is_reachable refs r.records held.name) (passes _ k) in
            right_or (has held.name) _ (among_passed (λ other. is_beyond refs had r.records other.name) r.records held i beyond)
          where
            is_one : (b : Bool) → T b → b ≡ true
            is_one true h = refl
            is_one false h = absurd h

    -- so is each that it names
    links_after : (held : Record) → AnyByRecursion (λ other. other ≡ held) r.records → IsTrue (is_reachable refs r.records held.name) → LinksHave after held
    links_after held i k =
        let p = some_place r.records held i in
        each p.0 (links_of held.kind held.body) (linked_before r.records p.0 held.kind held.body (linked_at name r.records p.0 held (store_sound name r s) p.1)) (links_are_reached held i k)
      where
        one : (n : Bytes) → (p : ℕ) → StandsBefore r.records p n → IsTrue (is_reachable refs r.records n) → IsTrue (after n)
        one n p b q =
            let there = is_place r.records n b.0 b.1 in
            let x = get_or r.records b.0 no_record in
            let at = slice_get-get_or r.records b.0 no_record there.within in
            let named : x.name ≡ n = sym (same_is n x.name (subst T (sym (there.named no_record)) tt)) in
            subst (λ m. IsTrue (after m)) named (held_after x (at_place r.records b.0 x at) (subst (λ m. IsTrue (is_reachable refs r.records m)) (sym named) q))

        each : (p : ℕ) (ls : List Bytes) → AllByRecursion (StandsBefore r.records p) ls → AllByRecursion (λ n. IsTrue (is_reachable refs r.records n)) ls → AllByRecursion (λ n. IsTrue (after n)) ls
        each p [] a q = tt
        each p (l ∷ ls) a q = (one l p a.0 q.0, each p ls a.1 q.1)

pub packs_are_whole : (name : Kind → Bytes → Bytes) → IsNamer name → PacksAreWhole name
packs_are_whole name namer = record {
  held = λ r s refs had has reader. held_after name namer r s refs had has reader;
  linked = λ r s refs had has reader. links_after name namer r s refs had has reader;
}
