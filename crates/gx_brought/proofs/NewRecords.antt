-- Records of a small repository, put behind those of the whole one.
use Rattle.std.proofs.Common.{◌≡◌, ℕ, zero, suc, ◌+◌, ◌≤◌, Bool, true, false, cond, refl, sym, ap, subst, ◌∙◌, arith, List, [], ◌∷◌, ◌++◌, length, length-append, map, take, drop, Option, Some, None, Ok, Err, append_assoc, append-nil}
use Rattle.std.specs.Prelude.{IfSome, Result, not, ◌||◌, slice_get, ⊤}
use Rattle.std.specs.Bool.{passes}
use Rattle.std.specs.List.{list_any}
use Rattle.std.specs.Option.{option_map, option_and_then}
use Rattle.std.proofs.lemmas.Bool.{or_parts}
use Rattle.std.proofs.lemmas.List.{drop_more, map-append, take-append-drop}
use Rattle.std.proofs.lemmas.List.Folds.{list_any-append}
use Rattle.std.proofs.Math.Numerals.{suc-eq-add-one}
use Rattle.std.proofs.Math.Seq.{take-suc}
use Rattle.std.proofs.lemmas.Option.{get_or_from_slice_get, slice_get_within}
use Rattle.gx_model.specs.declared.objects.Kind.{Kind}
use Rattle.gx_model.specs.Histories.{AreDistinct, Record, Records}
use Rattle.gx_model.specs.Records.Growth.{put, put_all, put_under, record_named, same_object}
use Rattle.gx_model.specs.Texts.{Bytes, same_bytes}
use Rattle.gx_model.proofs.Records.TakenRecords.{new_name}
use Rattle.gx_model.proofs.Texts.PathTests.{same_is}
use Rattle.gx_brought.specs.Brought.{IsLookedFor, has_stand_in}
use Rattle.gx_brought.specs.declared.fault.BroughtFault.{BroughtFault}
use Rattle.gx_brought.specs.declared.fault.BroughtFault.TheVariants as faults

-- ---- what is put behind records

named_first : (xs ys : List Record) (n : Bytes) (q : Record) → record_named xs n ≡ Some q → record_named (xs ++ ys) n ≡ Some q
named_first [] ys n q e = absurd cc
named_first (x ∷ xs) ys n q e = by (same_bytes n x.name) (λ k. named_first xs ys n q k) e
  where
    by : (b : Bool) → (record_named xs n ≡ Some q → record_named (xs ++ ys) n ≡ Some q) → cond b (Some x) (record_named xs n) ≡ Some q → cond b (Some x) (record_named (xs ++ ys) n) ≡ Some q
    by true later e = e
    by false later e = later e

named_behind : (xs ys : List Record) (n : Bytes) → record_named xs n ≡ None → record_named (xs ++ ys) n ≡ record_named ys n
named_behind [] ys n e = refl
named_behind (x ∷ xs) ys n e = by (same_bytes n x.name) (λ k. named_behind xs ys n k) e
  where
    by : (b : Bool) → (record_named xs n ≡ None → record_named (xs ++ ys) n ≡ record_named ys n) → cond b (Some x) (record_named xs n) ≡ None → cond b (Some x) (record_named (xs ++ ys) n) ≡ record_named ys n
    by true later e = absurd cc
    by false later e = later e

module _ (whole new : List Record) (r : Record) where
  none_put : put whole r ≡ None → put (whole ++ new) r ≡ None
  none_put e = by (record_named whole r.name) refl e
    where
      other : (b : Bool) → cond b (Some whole) None ≡ None → cond b (Some (whole ++ new)) None ≡ None
      other true e = absurd cc
      other false e = refl

      by : (o : Option Record) → record_named whole r.name ≡ o → put_under o whole r ≡ None → put (whole ++ new) r ≡ None
      by None k e = absurd cc
      by (Some s) k e = ap (λ o. put_under o (whole ++ new) r) (named_first whole new r.name s k) ∙ other (same_object s r) e

  held_put : put whole r ≡ Some whole → put (whole ++ new) r ≡ Some (whole ++ new)
  held_put e = by (record_named whole r.name) refl e
    where
      same : (b : Bool) → cond b (Some whole) None ≡ Some whole → cond b (Some (whole ++ new)) None ≡ Some (whole ++ new)
      same true e = refl
      same false e = absurd cc

      by : (o : Option Record) → record_named whole r.name ≡ o → put_under o whole r ≡ Some whole → put (whole ++ new) r ≡ Some (whole ++ new)
      by None k e =
          let longer : whole ++ r ∷ [] ≡ whole = cc e in
          absurd (let l = ap length longer in let k = length-append whole (r ∷ []) in omega arith)
      by (Some s) k e = ap (λ o. put_under o (whole ++ new) r) (named_first whole new r.name s k) ∙ same (same_object s r) e

  new_put : (now : List Record) → record_named whole r.name ≡ None → put new r ≡ Some now → put (whole ++ new) r ≡ Some (whole ++ now)
  new_put now free e = ap (λ o. put_under o (whole ++ new) r) (named_behind whole new r.name free) ∙ by (record_named new r.name) e
    where
      same : (b : Bool) → cond b (Some new) None ≡ Some now → cond b (Some (whole ++ new)) None ≡ Some (whole ++ now)
      same true e = ap (λ o. option_map (λ rs. whole ++ rs) o) e
      same false e = absurd cc

      by : (o : Option Record) → put_under o new r ≡ Some now → put_under o (whole ++ new) r ≡ Some (whole ++ now)
      by None e = ap Some (append_assoc whole new (r ∷ [])) ∙ ap (λ o. option_map (λ rs. whole ++ rs) o) e
      by (Some s) e = same (same_object s r) e

-- what isn't named among records with one put wasn't before, and it isn't the name of that one
fresh_put : (new now : List Record) (r : Record) (n : Bytes) → put new r ≡ Some now → record_named new n ≡ None → same_bytes n r.name ≡ false → record_named now n ≡ None
fresh_put new now r n e none other = by (record_named new r.name) e
  where
    same : (b : Bool) → cond b (Some new) None ≡ Some now → record_named now n ≡ None
    same true e = let is : new ≡ now = cc e in subst (λ rs. record_named rs n ≡ None) is none
    same false e = absurd cc

    by : (o : Option Record) → put_under o new r ≡ Some now → record_named now n ≡ None
    by None e =
        let is : new ++ r ∷ [] ≡ now = cc e in
        subst (λ rs. record_named rs n ≡ None) is (named_behind new (r ∷ []) n none ∙ ap (λ b. cond b (Some r) None) other)
    by (Some s) e = same (same_object s r) e

-- a name that isn't among records is none of the first ones', and not the last one's
none_but_last : (xs : List Record) (r : Record) (n : Bytes) → record_named (xs ++ r ∷ []) n ≡ None → (record_named xs n ≡ None) × (same_bytes n r.name ≡ false)
none_but_last [] r n e = (refl, by (same_bytes n r.name) e)
  where
    by : (b : Bool) → cond b (Some r) None ≡ None → b ≡ false
    by true e = absurd cc
    by false e = refl
none_but_last (x ∷ xs) r n e = by (same_bytes n x.name) (λ k. none_but_last xs r n k) e
  where
    by : (b : Bool) → (record_named (xs ++ r ∷ []) n ≡ None → (record_named xs n ≡ None) × (same_bytes n r.name ≡ false)) → cond b (Some x) (record_named (xs ++ r ∷ []) n) ≡ None → (cond b (Some x) (record_named xs n) ≡ None) × (same_bytes n r.name ≡ false)
    by true later e = absurd cc
    by false later e = later e

-- ---- lists up to a place

drop_all : {X : Type 0} (xs : List X) (n : ℕ) → length xs ≤ n → drop n xs ≡ []
drop_all [] zero h = refl
drop_all [] (suc n) h = refl
drop_all (x ∷ xs) zero h = absurd (omega arith)
drop_all (x ∷ xs) (suc n) h = drop_all xs n (omega arith)

taken : (rs : List Record) (place : ℕ) (r : Record) → slice_get rs place ≡ Some r → take (place + 1) rs ≡ take place rs ++ r ∷ []
taken rs place r at = ap (λ k. take k rs) (sym (suc-eq-add-one place)) ∙ take-suc rs place r (slice_get_within rs place r at) ∙ ap (λ q. take place rs ++ q ∷ []) (get_or_from_slice_get rs place r r at)

abbrev names : List Record → List Bytes
names rs = map (λ r. r.name) rs

distinct_front : (xs ys : List Record) → AreDistinct (names (xs ++ ys)) → AreDistinct (names xs)
distinct_front [] ys d = tt
distinct_front (x ∷ xs) ys d =
    let any = same_bytes x.name in
    let split = sym (list_any-append any (names xs) (names ys)) ∙ ap (list_any any) (sym (map-append (λ (r : Record). r.name) xs ys)) ∙ d.0 in
    ((or_parts (list_any any (names xs)) (list_any any (names ys)) split).0, distinct_front xs ys d.1)

first_distinct : (rs : List Record) (place : ℕ) (r : Record) → slice_get rs place ≡ Some r → AreDistinct (names rs) → AreDistinct (names (take place rs) ++ r.name ∷ [])
first_distinct rs place r at d =
    subst AreDistinct (ap names (taken rs place r at) ∙ map-append (λ (r : Record). r.name) (take place rs) (r ∷ []))
    (distinct_front (take (place + 1) rs) (drop (place + 1) rs) (subst (λ xs. AreDistinct (names xs)) (sym (take-append-drop (place + 1) rs)) d))

-- ---- the records from a place on

-- The records before the place are put where they aren't held: those that are left make all of the rest. A name that none of them
-- has is no new one's, and where one of those that are left is a stand-in, one of all is.
pub record AreLeft (name : Kind → Bytes → Bytes) (told : Option Records) (rs : List Record) (held place : ℕ) (new : List Record) : Type 0 where
  pub puts : IfSome told (λ whole. put_all (whole.records ++ new) (drop place rs) ≡ put_all whole.records (drop held rs))
  pub fresh : (n : Bytes) → record_named (take place rs) n ≡ None → record_named new n ≡ None
  pub others : has_stand_in name (drop place rs) ≡ true → has_stand_in name (drop held rs) ≡ true

module _ (name : Kind → Bytes → Bytes) (told : Option Records) (rs : List Record) (held : ℕ) where
  pub all_left : (new : List Record) → new ≡ [] → AreLeft name told rs held held new
  all_left new e = subst (AreLeft name told rs held held) (sym e) (record {
    puts = by told;
    fresh = λ n none. refl;
    others = λ s. s;
  })
    where
      by : (told : Option Records) → IfSome told (λ whole. put_all (whole.records ++ []) (drop held rs) ≡ put_all whole.records (drop held rs))
      by None = tt
      by (Some whole) = ap (λ z. put_all z (drop held rs)) (append-nil whole.records)

  pub none_left : (place : ℕ) (new : List Record) → length rs ≤ place → AreLeft name told rs held place new → IfSome told (λ whole. put_all whole.records (drop held rs) ≡ Some (whole.records ++ new))
  none_left place new past a = by told a.puts
    where
      by : (told : Option Records) → IfSome told (λ whole. put_all (whole.records ++ new) (drop place rs) ≡ put_all whole.records (drop held rs)) → IfSome told (λ whole. put_all whole.records (drop held rs) ≡ Some (whole.records ++ new))
      by None p = tt
      by (Some whole) p = sym p ∙ ap (put_all (whole.records ++ new)) (drop_all rs place past)

  module _ (place : ℕ) (r : Record) (new : List Record) (at : slice_get rs place ≡ Some r) (a : AreLeft name told rs held place new) where
    next : drop place rs ≡ r ∷ drop (place + 1) rs
    next = drop_more rs place r (slice_get_within rs place r at) ∙ ap (λ q. q ∷ drop (place + 1) rs) (get_or_from_slice_get rs place r r at)

    others_next : has_stand_in name (drop (place + 1) rs) ≡ true → has_stand_in name (drop held rs) ≡ true
    others_next s = a.others (ap (has_stand_in name) next ∙ or_right (not (same_bytes r.name (name r.kind r.body))) (has_stand_in name (drop (place + 1) rs)) s)
      where
        or_right : (b c : Bool) → c ≡ true → (b || c) ≡ true
        or_right true c e = refl
        or_right false c e = e

    names_next : (n : Bytes) → record_named (take (place + 1) rs) n ≡ None → (record_named (take place rs) n ≡ None) × (same_bytes n r.name ≡ false)
    names_next n none = none_but_last (take place rs) r n (ap (λ xs. record_named xs n) (sym (taken rs place r at)) ∙ none)

    step : (told : Option Records) (now : List Record) → IfSome told (λ whole. put (whole.records ++ new) r ≡ Some (whole.records ++ now)) → IfSome told (λ whole. put_all (whole.records ++ new) (drop place rs) ≡ put_all whole.records (drop held rs))
        → IfSome told (λ whole. put_all (whole.records ++ now) (drop (place + 1) rs) ≡ put_all whole.records (drop held rs))
    step None now e p = tt
    step (Some whole) now e p =
        sym (ap (put_all (whole.records ++ new)) next ∙ ap (λ o. option_and_then (λ more. put_all more (drop (place + 1) rs)) o) e) ∙ p

    -- one that is held
    pub held_next : IfSome told (λ whole. IsLookedFor r whole (Ok true)) → AreLeft name told rs held (place + 1) new
    held_next found = record {
      puts = step told new (by told found) a.puts;
      fresh = λ n none. a.fresh n (names_next n none).0;
      others = others_next;
    }
      where
        by : (told : Option Records) → IfSome told (λ whole. IsLookedFor r whole (Ok true)) → IfSome told (λ whole. put (whole.records ++ new) r ≡ Some (whole.records ++ new))
        by None f = tt
        by (Some whole) f = held_put whole.records new r f

    -- one that isn't
    pub put_next : (now : List Record) → IfSome told (λ whole. IsLookedFor r whole (Ok false)) → put new r ≡ Some now → AreLeft name told rs held (place + 1) now
    put_next now found e = record {
      puts = step told now (by told found) a.puts;
      fresh = λ n none. let k = names_next n none in fresh_put new now r n e (a.fresh n k.0) k.1;
      others = others_next;
    }
      where
        by : (told : Option Records) → IfSome told (λ whole. IsLookedFor r whole (Ok false)) → IfSome told (λ whole. put (whole.records ++ new) r ≡ Some (whole.records ++ now))
        by None f = tt
        by (Some whole) f = new_put whole.records new r now f e

    -- one whose name is another's
    pub none_next : IfSome told (λ whole. IsLookedFor r whole (Err faults.NameHeld)) → IfSome told (λ whole. put_all whole.records (drop held rs) ≡ None)
    none_next found = by told found a.puts
      where
        by : (told : Option Records) → IfSome told (λ whole. IsLookedFor r whole (Err faults.NameHeld)) → IfSome told (λ whole. put_all (whole.records ++ new) (drop place rs) ≡ put_all whole.records (drop held rs)) → IfSome told (λ whole. put_all whole.records (drop held rs) ≡ None)
        by None f p = tt
        by (Some whole) f p =
            sym p ∙ ap (put_all (whole.records ++ new)) next ∙ ap (λ o. option_and_then (λ more. put_all more (drop (place + 1) rs)) o) (none_put whole.records new r f)

    -- one that has another name than its object gets
    pub stand_in_next : AreDistinct (map (λ q. q.name) rs) → (r.name ≡ name r.kind r.body → put new r ≡ None) → has_stand_in name (drop held rs) ≡ true
    stand_in_next distinct none = a.others (ap (has_stand_in name) next ∙ by (same_bytes r.name (name r.kind r.body)) refl)
      where
        free : record_named new r.name ≡ None
        free = a.fresh r.name (new_name (take place rs) r.name (first_distinct rs place r at distinct))

        by : (b : Bool) → same_bytes r.name (name r.kind r.body) ≡ b → (not b || has_stand_in name (drop (place + 1) rs)) ≡ true
        by false k = refl
        by true k =
            let is = sym (ap (λ o. put_under o new r) free) ∙ none (same_is r.name (name r.kind r.body) (passes _ k)) in
            absurd (cc is)

-- ---- refusals

pub nothing : (told : Option Records) → IfSome told (λ whole. ⊤)
nothing None = tt
nothing (Some whole) = tt

pub never : (P : Type 0) (told : Option Records) (rs : List Record) (held : ℕ) → (P → ⊥) → IfSome told (λ whole. P → put_all whole.records (drop held rs) ≡ None)
never P None rs held none = tt
never P (Some whole) rs held none = λ p. absurd (none p)

module _ (X : Type 0) (fault : BroughtFault) where
  pub none_at : (name : Kind → Bytes → Bytes) (told : Option Records) (rs : List Record) (held place : ℕ) (r : Record) (new : List Record) → slice_get rs place ≡ Some r → AreLeft name told rs held place new
      → IfSome told (λ whole. IsLookedFor r whole (Err fault)) → IfSome told (λ whole. ◌≡◌ {A = Result X BroughtFault} (Err fault) (Err faults.NameHeld) → put_all whole.records (drop held rs) ≡ None)
  none_at name None rs held place r new at a found = tt
  none_at name (Some whole) rs held place r new at a found = λ e.
      let is : fault ≡ faults.NameHeld = cc e in
      none_next name (Some whole) rs held place r new at a (subst (λ f. IsLookedFor r whole (Err f)) is found)

  pub told_none : (told : Option Records) (r : Record) → IfSome told (λ whole. IsLookedFor r whole (Err fault)) → ◌≡◌ {A = Result X BroughtFault} (Err fault) (Err faults.Damaged) → told ≡ None
  told_none None r found e = refl
  told_none (Some whole) r found e =
      let is : fault ≡ faults.Damaged = cc e in
      absurd (subst (λ f. IsLookedFor r whole (Err f)) is found)

pub same_fault : {X : Type 0} {a b : BroughtFault} → ◌≡◌ {A = Result X BroughtFault} (Err a) (Err b) → a ≡ b
same_fault e = cc e

pub not_refused : {X : Type 0} {x : X} {fault : BroughtFault} → ◌≡◌ {A = Result X BroughtFault} (Ok x) (Err fault) → ⊥
not_refused e = cc e
