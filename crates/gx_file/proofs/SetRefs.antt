-- What comes of refs that were gathered: they are set, or the first fault is answered.
use Rattle.std.proofs.Common.{◌≡◌, ℕ, zero, suc, Bool, true, false, cond, List, [], ◌∷◌, ◌++◌, Option, Some, None, Ok, Err, refl, sym, ap, subst, ◌∙◌, append_assoc, append-nil}
use Rattle.std.specs.Prelude.{Result, ◌&&◌, not, is_some}
use Rattle.std.specs.Borrow.{Bor}
use Rattle.std.specs.List.{AllByRecursion}
use Rattle.std.specs.Ordering.{is_lt, is_some_and, nat_cmp, ordering_reverse, partial_lt}
use Rattle.std.specs.Cmp.Lexicographic.{lists_agrees, slice_partial_cmp}
use Rattle.std.specs.declared.cmp.Ordering.{Ordering}
use Rattle.std.specs.declared.cmp.Ordering.TheVariants.{Less, Equal, Greater}
use Rattle.std.specs.FinMap.Entries.{by_order, put}
use Rattle.std.proofs.lemmas.Bool.{and_parts, false≢true}
use Rattle.std.proofs.lemmas.Option.{cond_some, option_and_then_some}
use Rattle.gx_model.specs.declared.faults.Fault.{Fault}
use Rattle.gx_model.specs.declared.faults.Fault.TheVariants.{BadRefName, UnknownObject, WrongKind}
use Rattle.gx_model.specs.declared.store_faults.FileFault.TheVariants as model
use Rattle.gx_model.specs.Texts.{Bytes, byte_cmp, cut_at}
use Rattle.gx_model.specs.Faults.{◌>>=◌}
use Rattle.gx_model.specs.Faults.{IsFaultOf as RepoFaultOf, unless}
use Rattle.gx_model.specs.Texts.RefNames.{is_ref_name}
use Rattle.gx_model.specs.Texts.Digits.{is_name_text}
use Rattle.gx_model.specs.Objects.Naming.{lower_name_in}
use Rattle.gx_model.specs.Objects.{unhex}
use Rattle.std.specs.Option.{ok_or, option_and_then, option_or}
use Rattle.gx_model.specs.Histories.{Record, Records}
use Rattle.gx_model.specs.Records.Growth.{record_named}
use Rattle.gx_model.specs.Stores.StoreReading.{Stored, if_ref, is_after, is_less, is_target, next_ref, next_refs, only_if, ref_line, stored_line}
use Rattle.gx_repo.specs.declared.fault.PublishFault.{PublishFault}
use Rattle.gx_repo.specs.declared.fault.PublishFault.TheVariants as publish
use Rattle.gx_model.specs.Records.Publishing.{Ref, change_fault, changes_fault, published, with_changes}
use Rattle.gx_repo.specs.Publishing.{fault_of as published_fault}
use Rattle.gx_model.proofs.Records.SortedRefs.{order}
use Rattle.gx_model.specs.declared.store_faults.FileFault.{FileFault}
use Rattle.gx_model.specs.declared.store_faults.FileFault.TheVariants.{OutOfMemory}
use Rattle.gx_lines.specs.Reads.{IsFaultOf, Reads}
use Rattle.gx_file.specs.Faults.{refs_fault}
use Rattle.gx_file.specs.Gathering.{Gathered, Gathers, before, first_ref, gathered, gathered_from, ref_of_line, with_rest}
use Rattle.gx_file.proofs.GatheredRefs.{first_gathered, no_more}

-- ---- one ref

-- A ref's line has a ref name.
line_named : (l : Bytes) (ref : Ref) → ref_line l ≡ Some ref → is_ref_name ref.0 ≡ true
line_named l ref e = option_and_then_some if_ref (cut_at 32 l) ref e (λ p _ h.
    let q = cond_some (is_name_text p.0 && is_ref_name p.1) _ ref h in
    subst (λ (r : Ref). is_ref_name r.0 ≡ true) q.1 (and_parts (is_name_text p.0) _ q.0).1)

-- A ref's line is digits in lower case and a ref name.
pub line_read : (l digits name object : Bytes) (b : Bool) → Some (digits, name) ≡ cut_at 32 l → Some object ≡ lower_name_in digits → is_ref_name name ≡ b → ref_line l ≡ cond b (Some (name, object)) None
unfolding lower_name_in
line_read l digits name object b cut read named =
    let q = cond_some (is_name_text digits) (unhex digits) object (sym read) in
    ap (option_and_then if_ref) (sym cut) ∙ (λ i. cond (q.0 i && named i) (Some (name, q.1 i)) None)

-- A ref that is read has a ref name.
first_named : (text : Bytes) (first : Ref × Bytes) → first_ref text ≡ Ok first → is_ref_name first.0.0 ≡ true
unfolding first_ref
first_named text first e = by (stored_line text) e
  where
    line : (l : Bytes × Bytes) (o : Option Ref) → ref_line l.0 ≡ o → with_rest l.1 o ≡ Ok first → is_ref_name first.0.0 ≡ true
    line l None f h = absurd (cc)
    line l (Some ref) f h = let is : ref ≡ first.0 = cc in subst (λ (r : Ref). is_ref_name r.0 ≡ true) is (line_named l.0 ref f)

    by : (r : Stored (Bytes × Bytes)) → ref_of_line r ≡ Ok first → is_ref_name first.0.0 ≡ true
    by (Ok l) h = line l (ref_line l.0) refl h
    by (Err f) h = absurd (cc)

module _ (rs : List Record) where
  -- the checks of a ref after those of its line
  abbrev checked : Option Bytes → Ref × Bytes → Stored (Ref × Bytes)
  checked last first = only_if (is_target first.0.0 (record_named rs first.0.1)) model.BadRef >>= λ _. only_if (is_after last first.0.0) model.RefOrder >>= λ _. Ok first

  -- A ref is read and then checked.
  next_is_checked : (last : Option Bytes) (text : Bytes) → next_ref rs last text ≡ (first_ref text >>= checked last)
  unfolding first_ref
  next_is_checked last text = by (stored_line text)
    where
      line : (l : Bytes × Bytes) (o : Option Ref)
          → (ok_or o model.BadRef >>= λ x. only_if (is_target x.0 (record_named rs x.1)) model.BadRef >>= λ _. only_if (is_after last x.0) model.RefOrder >>= λ _. Ok (x, l.1))
          ≡ (with_rest l.1 o >>= checked last)
      line l None = refl
      line l (Some ref) = refl

      by : (r : Stored (Bytes × Bytes))
          → (r >>= λ l. ok_or (ref_line l.0) model.BadRef >>= λ x. only_if (is_target x.0 (record_named rs x.1)) model.BadRef >>= λ _. only_if (is_after last x.0) model.RefOrder >>= λ _. Ok (x, l.1))
          ≡ (ref_of_line r >>= checked last)
      by (Ok l) = line l (ref_line l.0)
      by (Err f) = refl

  -- why a ref with a ref name isn't set
  abbrev object_fault : Bytes → Option Record → Option Fault
  object_fault name held = cond (not (is_some held)) (Some UnknownObject) (cond (not (is_target name held)) (Some WrongKind) None)

  -- Nothing is against the name of a ref with a ref name.
  of_name : (ref : Ref) → is_ref_name ref.0 ≡ true → change_fault rs ref ≡ object_fault ref.0 (record_named rs ref.1)
  of_name ref e = ap (λ b. cond (not b) (Some BadRefName) (object_fault ref.0 (record_named rs ref.1))) e

  -- A ref that may hold its object is set.
  fine : (ref : Ref) → is_ref_name ref.0 ≡ true → is_target ref.0 (record_named rs ref.1) ≡ true → change_fault rs ref ≡ None
  fine ref e t = of_name ref e ∙ by (record_named rs ref.1) t
    where
      by : (o : Option Record) → is_target ref.0 o ≡ true → object_fault ref.0 o ≡ None
      by None h = absurd (false≢true h)
      by (Some r) h = ap (λ b. cond (not b) (Some WrongKind) None) h

  -- Any other isn't.
  not_fine : (ref : Ref) → is_ref_name ref.0 ≡ true → is_target ref.0 (record_named rs ref.1) ≡ false → (fault : Fault) × (change_fault rs ref ≡ Some fault)
  not_fine ref e t = let f = by (record_named rs ref.1) t in (f.0, of_name ref e ∙ f.1)
    where
      by : (o : Option Record) → is_target ref.0 o ≡ false → (fault : Fault) × (object_fault ref.0 o ≡ Some fault)
      by None h = (UnknownObject, refl)
      by (Some r) h = (WrongKind, ap (λ b. cond (not b) (Some WrongKind) None) h)

  -- ---- all refs

  -- the refs and what follows them, unless one isn't set
  abbrev pub settled : Option Fault → Gathered → Stored (List Ref × Bytes)
  settled None given = given.1 >>= λ rest. Ok (given.0, rest)
  settled (Some fault) given = Err model.BadRef

  -- A ref that is set stands in front of those behind it.
  in_front : (ref : Ref) (o : Option Fault) (refs : List Ref) (end : Stored Bytes) → (settled o (refs, end) >>= λ xs. Ok (ref ∷ xs.0, xs.1)) ≡ settled o (ref ∷ refs, end)
  in_front ref None refs (Ok rest) = refl
  in_front ref None refs (Err f) = refl
  in_front ref (Some f) refs end = refl

  -- the refs that come next are those gathered, unless one isn't set
  abbrev AreNext : ℕ → Option Bytes → Bytes → Type 0
  AreNext n last text = next_refs n rs last text ≡ settled (changes_fault rs (gathered n last text).0) (gathered n last text)

  -- A ref that is read comes next where it passes its checks, and otherwise ends the refs.
  one_next : (n : ℕ) (last : Option Bytes) (first : Ref × Bytes) (t a : Bool) → is_ref_name first.0.0 ≡ true → is_target first.0.0 (record_named rs first.0.1) ≡ t → AreNext n (Some first.0.0) first.1
      → ((only_if t model.BadRef >>= λ _. only_if a model.RefOrder >>= λ _. Ok first) >>= λ x. next_refs n rs (Some x.0.0) x.1 >>= λ xs. Ok (x.0 ∷ xs.0, xs.1))
      ≡ settled (changes_fault rs (cond a (before first.0 (gathered n (Some first.0.0) first.1)) (first.0 ∷ [], Err model.RefOrder)).0) (cond a (before first.0 (gathered n (Some first.0.0) first.1)) (first.0 ∷ [], Err model.RefOrder))
  one_next n last first false true named e again =
      let f = not_fine first.0 named e in
      let g = gathered n (Some first.0.0) first.1 in
      sym (ap (λ o. settled (option_or o (changes_fault rs g.0)) (before first.0 g)) f.1)
  one_next n last first false false named e again =
      let f = not_fine first.0 named e in
      sym (ap (λ o. settled (option_or o None) (first.0 ∷ [], Err model.RefOrder)) f.1)
  one_next n last first true false named e again = sym (ap (λ o. settled (option_or o None) (first.0 ∷ [], Err model.RefOrder)) (fine first.0 named e))
  one_next n last first true true named e again =
      let g = gathered n (Some first.0.0) first.1 in
      ap (λ r. r >>= λ xs. Ok (first.0 ∷ xs.0, xs.1)) again
      ∙ in_front first.0 (changes_fault rs g.0) g.0 g.1
      ∙ sym (ap (λ o. settled (option_or o (changes_fault rs g.0)) (before first.0 g)) (fine first.0 named e))

  -- So does whatever the first line has.
  next_from : (n : ℕ) (last : Option Bytes) (text : Bytes) (r : Stored (Ref × Bytes)) → first_ref text ≡ r → ((last : Option Bytes) (text : Bytes) → AreNext n last text)
      → ((r >>= checked last) >>= λ x. next_refs n rs (Some x.0.0) x.1 >>= λ xs. Ok (x.0 ∷ xs.0, xs.1))
      ≡ settled (changes_fault rs (gathered_from last r (λ ref rest. gathered n ref rest)).0) (gathered_from last r (λ ref rest. gathered n ref rest))
  next_from n last text (Err f) e again = refl
  next_from n last text (Ok first) e again =
      one_next n last first (is_target first.0.0 (record_named rs first.0.1)) (is_after last first.0.0) (first_named text first e) refl (again (Some first.0.0) first.1)

  -- The refs that come next are those gathered, unless one isn't set.
  pub are_next : (n : ℕ) (last : Option Bytes) (text : Bytes) → AreNext n last text
  are_next zero last text = sym (ap (λ g. settled (changes_fault rs g.0) g) (no_more last text))
  are_next (suc n) last text =
      ap (λ r. r >>= λ x. next_refs n rs (Some x.0.0) x.1 >>= λ xs. Ok (x.0 ∷ xs.0, xs.1)) (next_is_checked last text)
      ∙ next_from n last text (first_ref text) refl (λ l t. are_next n l t)
      ∙ sym (ap (λ g. settled (changes_fault rs g.0) g) (first_gathered n last text (first_ref text) refl))

  -- A front that isn't set refuses all.
  front_refuses : (refs others : List Ref) (fault : Fault) → changes_fault rs refs ≡ Some fault → changes_fault rs (refs ++ others) ≡ Some fault
  front_refuses [] others fault e = absurd (cc)
  front_refuses (r ∷ refs) others fault e = by (change_fault rs r) (λ h. front_refuses refs others fault h) e
    where
      by : (o : Option Fault) → (changes_fault rs refs ≡ Some fault → changes_fault rs (refs ++ others) ≡ Some fault) → option_or o (changes_fault rs refs) ≡ Some fault → option_or o (changes_fault rs (refs ++ others)) ≡ Some fault
      by None again h = again h
      by (Some f) again h = h

-- ---- rising names

-- The order of two names tells that of the other way round.
flipped : (x y : Bytes) (o : Ordering) → byte_cmp x y ≡ o → byte_cmp y x ≡ ordering_reverse o
flipped x y o e = order.antisymm y x ∙ ap ordering_reverse e

-- The test holds of one order alone.
less : (o : Ordering) → is_less o ≡ true → o ≡ Less
less Less h = refl
less Equal h = absurd (false≢true h)
less Greater h = absurd (false≢true h)

-- A name is less than another where it stands before it in byte order.
pub less_so : (x y : Bytes) → partial_lt (slice_partial_cmp (λ a b. Some (nat_cmp a b))) x y ≡ is_less (byte_cmp x y)
less_so x y = ap (is_some_and is_lt) (lists_agrees (λ a b. refl) x y) ∙ by (byte_cmp x y)
  where
    by : (o : Ordering) → is_lt o ≡ is_less o
    by Less = refl
    by Equal = refl
    by Greater = refl

-- A ref whose name is greater than all is set last.
put_last : (ref : Ref) (refs : List Ref) → AllByRecursion (λ r. byte_cmp ref.0 r.0 ≡ Greater) refs → put byte_cmp ref.0 ref.1 refs ≡ refs ++ ref ∷ []
put_last ref [] h = refl
put_last ref (r ∷ refs) h = ap (λ o. by_order o (ref ∷ r ∷ refs) ((r.0, ref.1) ∷ refs) (r ∷ put byte_cmp ref.0 ref.1 refs)) h.0 ∙ ap (λ rs. r ∷ rs) (put_last ref refs h.1)

-- A name greater than the last is greater than those before.
greater_than_all : (name : Bytes) (ref : Ref) (refs : List Ref) → byte_cmp ref.0 name ≡ Less → AllByRecursion (λ r. byte_cmp ref.0 r.0 ≡ Greater) refs → AllByRecursion (λ r. byte_cmp name r.0 ≡ Greater) (refs ++ ref ∷ [])
greater_than_all name ref [] e h = (flipped ref.0 name Less e, tt)
greater_than_all name ref (r ∷ refs) e h =
    (flipped r.0 name Less (order.trans r.0 ref.0 name (flipped ref.0 r.0 Greater h.0) e), greater_than_all name ref refs e h.1)

-- what comes after the last ref is greater than all of these
abbrev pub IsLast : Option Bytes → List Ref → Type 0
IsLast last refs = (name : Bytes) → is_after last name ≡ true → AllByRecursion (λ r. byte_cmp name r.0 ≡ Greater) refs

-- A ref in order is set behind the others, and then those that follow it are.
rising_from : (n : ℕ) (set : List Ref) (last : Option Bytes) (text rest : Bytes) (first : Stored (Ref × Bytes)) → IsLast last set
    → ((set : List Ref) (last : Option Bytes) (text : Bytes) → IsLast last set → (gathered n last text).1 ≡ Ok rest → with_changes set (gathered n last text).0 ≡ set ++ (gathered n last text).0)
    → (gathered_from last first (λ ref text. gathered n ref text)).1 ≡ Ok rest
    → with_changes set (gathered_from last first (λ ref text. gathered n ref text)).0 ≡ set ++ (gathered_from last first (λ ref text. gathered n ref text)).0
rising_from n set last text rest (Err f) h again e = absurd (cc)
rising_from n set last text rest (Ok first) h again e = by (is_after last first.0.0) refl e
  where
    by : (a : Bool) → is_after last first.0.0 ≡ a → (cond a (before first.0 (gathered n (Some first.0.0) first.1)) (first.0 ∷ [], Err model.RefOrder)).1 ≡ Ok rest
        → with_changes set (cond a (before first.0 (gathered n (Some first.0.0) first.1)) (first.0 ∷ [], Err model.RefOrder)).0
        ≡ set ++ (cond a (before first.0 (gathered n (Some first.0.0) first.1)) (first.0 ∷ [], Err model.RefOrder)).0
    by false f g = absurd (cc)
    by true f g =
        let above = h first.0.0 f in
        ap (λ s. with_changes s (gathered n (Some first.0.0) first.1).0) (put_last first.0 set above)
        ∙ again (set ++ first.0 ∷ []) (Some first.0.0) first.1 (λ name after. greater_than_all name first.0 set (less _ after) above) g
        ∙ append_assoc set (first.0 ∷ []) (gathered n (Some first.0.0) first.1).0

-- Refs whose names rise are set as they are listed.
pub rising : (n : ℕ) (rest : Bytes) (set : List Ref) (last : Option Bytes) (text : Bytes) → IsLast last set → (gathered n last text).1 ≡ Ok rest → with_changes set (gathered n last text).0 ≡ set ++ (gathered n last text).0
rising zero rest set last text h e = ap (λ g. with_changes set g.0) (no_more last text) ∙ sym (append-nil set) ∙ ap (λ g. set ++ g.0) (sym (no_more last text))
rising (suc n) rest set last text h e =
    let now = first_gathered n last text (first_ref text) refl in
    ap (λ g. with_changes set g.0) now
    ∙ rising_from n set last text rest (first_ref text) h (λ s l t. rising n rest s l t) (sym (ap (λ g. g.1) now) ∙ e)
    ∙ ap (λ g. set ++ g.0) (sym now)

-- ---- the answer

module _ (r : Records) (none : r.refs ≡ []) (n : ℕ) (text : Bytes) (refs : List Ref) where
  -- What was gathered is a front of all, also where memory ran out.
  is_front : (answer : Result (Bor Bytes) FileFault) → Gathers (gathered n None text) refs answer → (others : List Ref) × ((gathered n None text).0 ≡ refs ++ others)
  is_front (Ok rest) h = ([], h.0 ∙ sym (append-nil refs))
  is_front (Err OutOfMemory) h = h
  is_front (Err _) h = ([], h.0 ∙ sym (append-nil refs))

  -- Where a ref isn't set, that is the first fault.
  bad_ref : (answer : Result (Bor Bytes) FileFault) (fault : Fault) → Gathers (gathered n None text) refs answer
      → published r refs ≡ Err fault → next_refs n r.records None text ≡ Err model.BadRef
  unfolding published
  bad_ref answer fault h e = by (changes_fault r.records refs) refl e
    where
      by : (o : Option Fault) → changes_fault r.records refs ≡ o → unless o (with_changes r.refs refs) ≡ Err fault → next_refs n r.records None text ≡ Err model.BadRef
      by None f g = absurd (cc)
      by (Some w) f g =
          let all = is_front answer h in
          are_next r.records n None text ∙ ap (λ o. settled r.records o (gathered n None text)) (ap (changes_fault r.records) all.1 ∙ front_refuses r.records refs all.0 w f)

  -- Where the refs aren't set, the first fault is answered.
  pub not_set : (answer : Result (Bor Bytes) FileFault) (fault : PublishFault) → Gathers (gathered n None text) refs answer
      → RepoFaultOf (published_fault fault) (published r refs) → IsFaultOf (refs_fault fault) (next_refs n r.records None text)
  not_set answer publish.OutOfMemory h e = tt
  not_set answer publish.BadRefName h e = bad_ref answer _ h e
  not_set answer publish.UnknownObject h e = bad_ref answer _ h e
  not_set answer publish.WrongKind h e = bad_ref answer _ h e

  -- Where they are set, what was gathered is what comes next.
  pub are_set : (answer : Result (Bor Bytes) FileFault) (now : List Ref) → Gathers (gathered n None text) refs answer
      → published r refs ≡ Ok now → Reads (λ rest. (now, rest.now)) answer (next_refs n r.records None text)
  unfolding published
  are_set answer now h e = by (changes_fault r.records refs) refl e
    where
      free : changes_fault r.records refs ≡ None → (end : Stored Bytes) → (gathered n None text).0 ≡ refs → (gathered n None text).1 ≡ end → next_refs n r.records None text ≡ (end >>= λ rest. Ok (refs, rest))
      free f end p q = are_next r.records n None text ∙ (λ i. settled r.records (changes_fault r.records (p i)) (p i, q i)) ∙ ap (λ o. settled r.records o (refs, end)) f

      read : (answer : Result (Bor Bytes) FileFault) → changes_fault r.records refs ≡ None → with_changes [] refs ≡ now → Gathers (gathered n None text) refs answer → Reads (λ rest. (now, rest.now)) answer (next_refs n r.records None text)
      read (Ok rest) f w h =
          let listed = ap (with_changes []) (sym h.0) ∙ rising n rest.now [] None text (λ name after. tt) h.1 ∙ h.0 in
          free f (Ok rest.now) h.0 h.1 ∙ ap (λ rs. Ok (rs, rest.now)) (sym listed ∙ w)
      read (Err OutOfMemory) f w h = tt
      read (Err _) f w h = free f _ h.0 h.1

      by : (o : Option Fault) → changes_fault r.records refs ≡ o → unless o (with_changes r.refs refs) ≡ Ok now → Reads (λ rest. (now, rest.now)) answer (next_refs n r.records None text)
      by None f g = let set : with_changes r.refs refs ≡ now = cc in read answer f (ap (λ start. with_changes start refs) (sym none) ∙ set) h
      by (Some w) f g = absurd (cc)
