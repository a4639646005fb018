-- Refs that are dropped: which names are unknown, and what is left.
use Rattle.std.proofs.Common.{◌≡◌, ℕ, ◌+◌, ◌<◌, ◌≤◌, Bool, true, false, cond, List, [], ◌∷◌, ◌++◌, length, map, take, drop, get_or, Option, Some, None, Ok, Err, refl, sym, ap, subst, ◌∙◌, arith, drop_of_length-le, Result}
use Rattle.std.specs.Prelude.{not, ◌&&◌, ◌||◌, IsOk, IsTrue, T}
use Rattle.std.specs.Bool.{passes}
use Rattle.std.specs.Borrow.{Bor}
use Rattle.std.specs.BTreeMap.{is_at}
use Rattle.std.specs.BTreeSet.{BTreeSet}
use Rattle.std.specs.FinMap.Entries.{is_sorted, is_sorted-where_key}
use Rattle.std.specs.List.{AllByRecursion, filter, list_all, list_any}
use Rattle.std.proofs.lemmas.List.{drop_more, length-map, length-take-le, map-append, take_all, take_more}
use Rattle.std.proofs.lemmas.Map.Text.{is_eq-slice_cmp}
use Rattle.gx_model.specs.declared.objects.Kind.{Kind}
use Rattle.gx_model.specs.Texts.{Bytes, byte_cmp, same_bytes}
use Rattle.gx_model.specs.Texts.RefNames.{is_ref_name}
use Rattle.gx_model.specs.Histories.{Record, Records}
use Rattle.gx_model.specs.Laws.RepositoryLaws.{PartsChange, values_of, with_refs}
use Rattle.gx_model.specs.Records.Publishing.{Ref}
use Rattle.gx_model.specs.Records.Sound.{IsSound, IsTarget}
use Rattle.gx_model.proofs.Texts.PathTests.{both, first, second, is_true}
use Rattle.gx_repo.specs.Dropping.{AreIn, Drops, EntersNames, HidesNoUnknown, dropped, is_among, is_entered, unknown_behind, unless_unknown, without}
use Rattle.gx_text.specs.Lent.{lent_texts}
use Rattle.gx_repo.specs.Refs.{AreInOrder, is_ref_held, shown_ref}
use Rattle.gx_repo.specs.declared.fault.DropFault.{DropFault}
use Rattle.gx_repo.specs.declared.fault.DropFault.TheVariants.{OutOfMemory, UnknownRef}
use Rattle.gx_repo.specs.declared.refs.Ref.{Ref as HeldRef}

-- one name more
among-push : (names : List Bytes) (n name : Bytes) → is_among (names ++ n ∷ []) name ≡ cond (same_bytes n name) true (is_among names name)
among-push [] n name = by (same_bytes n name) where
  by : (b : Bool) → (b || false) ≡ cond b true false
  by true = refl
  by false = refl
among-push (x ∷ xs) n name = by (same_bytes x name) (same_bytes n name) (among-push xs n name) where
  by : (a b : Bool) → is_among (xs ++ n ∷ []) name ≡ cond b true (is_among xs name) → (a || is_among (xs ++ n ∷ []) name) ≡ cond b true (a || is_among xs name)
  by true true e = refl
  by true false e = refl
  by false b e = e

-- what was kept of the refs as they are held
pub kept : {A : Type 0} (held : BTreeSet (Bor Bytes)) (names : List Bytes) (refs : List (HeldRef A)) → AreIn held names
    → map shown_ref (filter (λ ref. not (is_entered held ref.name.items)) refs) ≡ without names (map shown_ref refs)
kept held names [] h = refl
kept {A} held names (r ∷ rs) h = by (is_entered held r.name.items) (is_among names r.name.items) (h r.name.items) (kept held names rs h) where
  by : (a b : Bool) → a ≡ b → map shown_ref (filter (λ (ref : HeldRef A). not (is_entered held ref.name.items)) rs) ≡ without names (map shown_ref rs)
      → map shown_ref (cond (not a) (r ∷ filter (λ (ref : HeldRef A). not (is_entered held ref.name.items)) rs) (filter (λ (ref : HeldRef A). not (is_entered held ref.name.items)) rs))
      ≡ cond (not b) (shown_ref r ∷ without names (map shown_ref rs)) (without names (map shown_ref rs))
  by true true e k = k
  by false false e k = ap (λ rs. shown_ref r ∷ rs) k
  by true false e k = absurd cc
  by false true e k = absurd cc

-- whether a name is among the next ones
pub among_next : (names : List (Bor Bytes)) (i : ℕ) (d : Bor Bytes) (name : Bytes) (b : Bool) → i < length names → same_bytes (get_or names i d).now name ≡ b
    → is_among (lent_texts (drop i names)) name ≡ (b || is_among (lent_texts (drop (i + 1) names)) name)
among_next names i d name b lt e =
    ap (λ ns. is_among (lent_texts ns) name) (drop_more names i d lt) ∙ ap (λ t. t || is_among (lent_texts (drop (i + 1) names)) name) e

-- ---- the names, one after the other

-- none of the first names is unknown, and the others are left
abbrev pub AreKnown : List Ref → List (Bor Bytes) → ℕ → Type 0
AreKnown refs names i = unknown_behind refs (lent_texts (take i names)) (lent_texts (drop i names)) ≡ unknown_behind refs [] (lent_texts names)

-- the first names are held in a set
pub record Entered (refs : List Ref) (held : BTreeSet (Bor Bytes)) (names : List (Bor Bytes)) (i : ℕ) : Type 0 where
  pub are : AreIn held (lent_texts (take i names))
  pub rest : AreKnown refs names i

pub Entered-none : (refs : List Ref) (held : BTreeSet (Bor Bytes)) (names : List (Bor Bytes)) → held.keys ≡ [] → Entered refs held names 0
Entered-none refs held names e = record { are = λ name. ap (list_any (is_at (λ (n : Bor Bytes). byte_cmp name n.now))) e; rest = refl }

-- behind the last name none is unknown
pub known_all : (refs : List Ref) (names : List (Bor Bytes)) (i : ℕ) → length names ≤ i → AreKnown refs names i → unknown_behind refs [] (lent_texts names) ≡ None
known_all refs names i le h = sym h ∙ ap (λ ns. unknown_behind refs (lent_texts (take i names)) (lent_texts ns)) (drop_of_length-le names le)

pub Entered-all : (refs : List Ref) (held : BTreeSet (Bor Bytes)) (names : List (Bor Bytes)) (i : ℕ) → length names ≤ i → Entered refs held names i → (unknown_behind refs [] (lent_texts names) ≡ None) × AreIn held (lent_texts names)
Entered-all refs held names i le h = (known_all refs names i le h.rest, subst (λ ns. AreIn held (lent_texts ns)) (take_all i names le) h.are)

abbrev lent : Bytes → Bor Bytes
lent name = record { ref_ptr = (0, 0); now = name }

module _ (refs : List Ref) (names : List (Bor Bytes)) (i : ℕ) (d : Bor Bytes) (lt : i < length names) where
  abbrev next : Bor Bytes
  next = get_or names i d

  abbrev done : List Bytes
  done = lent_texts (take i names)

  done_more : lent_texts (take (i + 1) names) ≡ done ++ next.now ∷ []
  done_more = ap lent_texts (take_more names i d lt) ∙ map-append (λ n. n.now) (take i names) (next ∷ [])

  at_next : (b : Bool) → (is_ref_held refs next.now && not (is_among done next.now)) ≡ b
      → unknown_behind refs done (lent_texts (drop i names)) ≡ cond b (unknown_behind refs (done ++ next.now ∷ []) (lent_texts (drop (i + 1) names))) (Some (i + 1))
  at_next b e =
      ap (λ ns. unknown_behind refs done (lent_texts ns)) (drop_more names i d lt)
      ∙ ap (λ t. cond t (unknown_behind refs (done ++ next.now ∷ []) (lent_texts (drop (i + 1) names))) (Some (length done + 1))) e
      ∙ ap (λ n. cond b (unknown_behind refs (done ++ next.now ∷ []) (lent_texts (drop (i + 1) names))) (Some (n + 1))) (length-map (take i names) (λ n. n.now) ∙ length-take-le i names (omega (arith, lt)))

  refused : AreKnown refs names i → (is_ref_held refs next.now && not (is_among done next.now)) ≡ false → unknown_behind refs [] (lent_texts names) ≡ Some (i + 1)
  refused h e = sym h ∙ at_next false e

  -- no ref has the next name
  pub refused_new : AreKnown refs names i → is_ref_held refs next.now ≡ false → unknown_behind refs [] (lent_texts names) ≡ Some (i + 1)
  refused_new h e = refused h (ap (λ b. b && not (is_among done next.now)) e)

  -- the next name was given before
  pub refused_again : AreKnown refs names i → is_ref_held refs next.now ≡ true → is_among done next.now ≡ true → unknown_behind refs [] (lent_texts names) ≡ Some (i + 1)
  refused_again h e f = refused h (λ j. e j && not (f j))

  known_by : AreKnown refs names i → (is_ref_held refs next.now && not (is_among done next.now)) ≡ true → AreKnown refs names (i + 1)
  known_by h e = ap (λ ns. unknown_behind refs ns (lent_texts (drop (i + 1) names))) done_more ∙ sym (at_next true e) ∙ h

  -- the next name is another ref's
  pub known_next : AreKnown refs names i → is_ref_held refs next.now ≡ true → is_among done next.now ≡ false → AreKnown refs names (i + 1)
  known_next h e f = known_by h (λ j. e j && not (f j))

  -- the next name is in the set
  pub refused_entered : (held : BTreeSet (Bor Bytes)) → Entered refs held names i → is_ref_held refs next.now ≡ true → is_entered held next.now ≡ true → unknown_behind refs [] (lent_texts names) ≡ Some (i + 1)
  refused_entered held h e f = refused_again h.rest e (sym (h.are next.now) ∙ f)

  -- the next name is entered
  pub Entered-next : (held now : BTreeSet (Bor Bytes)) → Entered refs held names i → is_ref_held refs next.now ≡ true → not (is_entered held next.now) ≡ true
      → ((name : Bor Bytes) → is_entered now name.now ≡ cond (is_at (λ (n : Bor Bytes). byte_cmp next.now n.now) name) true (is_entered held name.now)) → Entered refs now names (i + 1)
  Entered-next held now h e f g = record {
    are = λ name.
        g (lent name) ∙ ap (λ b. cond b true (is_entered held name)) (is_eq-slice_cmp next.now name) ∙ ap (λ b. cond (same_bytes next.now name) true b) (h.are name)
        ∙ sym (among-push done next.now name) ∙ ap (λ ns. is_among ns name) (sym done_more);
    rest = known_by h.rest (ap (λ b. b && not (is_among done next.now)) e ∙ sym (ap not (h.are next.now)) ∙ f);
  }

-- ---- what is left

-- where no name is unknown the refs are those that have none of them
pub none_unknown : (names : List Bytes) (refs : List Ref) → unknown_behind refs [] names ≡ None → dropped names refs ≡ Ok (without names refs)
unfolding dropped
none_unknown names refs e = ap (λ o. unless_unknown o (without names refs)) e

pub one_unknown : (names : List Bytes) (refs : List Ref) (number : ℕ) → unknown_behind refs [] names ≡ Some number → dropped names refs ≡ Err number
unfolding dropped
one_unknown names refs number e = ap (λ o. unless_unknown o (without names refs)) e

names_left : (test : Ref → Bool) (refs : List Ref) → T (list_all (λ ref. is_ref_name ref.0) refs) → T (list_all (λ ref. is_ref_name ref.0) (filter test refs))
names_left test [] h = tt
names_left test (r ∷ rs) h = by (test r) (names_left test rs (second (is_ref_name r.0) _ h)) where
  by : (b : Bool) → T (list_all (λ ref. is_ref_name ref.0) (filter test rs)) → T (list_all (λ ref. is_ref_name ref.0) (cond b (r ∷ filter test rs) (filter test rs)))
  by true k = both _ _ (first _ _ h) k
  by false k = k

targets_left : (records : List Record) (test : Ref → Bool) (refs : List Ref) → AllByRecursion (λ ref. IsTarget records ref.0 ref.1) refs → AllByRecursion (λ ref. IsTarget records ref.0 ref.1) (filter test refs)
targets_left records test [] h = tt
targets_left records test (r ∷ rs) h = by (test r) (targets_left records test rs h.1) where
  by : (b : Bool) → AllByRecursion (λ ref. IsTarget records ref.0 ref.1) (filter test rs) → AllByRecursion (λ ref. IsTarget records ref.0 ref.1) (cond b (r ∷ filter test rs) (filter test rs))
  by true k = (h.0, k)
  by false k = k

refs_of : Result (List Ref) ℕ → List Ref
refs_of (Ok refs) = refs
refs_of (Err number) = []

pub are_left : (names : List Bytes) (refs left : List Ref) → dropped names refs ≡ Ok left → left ≡ without names refs
unfolding dropped refs_of
are_left names refs left e = by (unknown_behind refs [] names) e where
  by : (o : Option ℕ) → unless_unknown o (without names refs) ≡ Ok left → left ≡ without names refs
  by None e = sym (ap refs_of e)
  by (Some number) e = absurd cc

-- ---- a call

-- a name is unknown
pub none_dropped : (old now : List Ref) (held : BTreeSet (Bor Bytes)) (names : List (Bor Bytes)) (fault : DropFault) → EntersNames old held names (Err fault) → Drops old now (lent_texts names) (Err fault)
none_dropped old now held names OutOfMemory h = tt
none_dropped old now held names (UnknownRef number) h = one_unknown (lent_texts names) old number h

-- want of memory comes where none is
pub none_hidden : (refs : List Ref) (held : BTreeSet (Bor Bytes)) (names : List (Bor Bytes)) (answer : Result (Unit {0}) DropFault) → EntersNames refs held names answer → HidesNoUnknown refs (lent_texts names) answer
none_hidden refs held names (Ok _) h = tt
none_hidden refs held names (Err OutOfMemory) h = subst IsOk (sym (none_unknown (lent_texts names) refs h)) refl
none_hidden refs held names (Err (UnknownRef number)) h = tt

-- and otherwise those of all names are dropped
module _ {A : Type 0} (refs now : List (HeldRef A)) (old : List Ref) (held : BTreeSet (Bor Bytes)) (names : List (Bor Bytes)) (seen : map shown_ref refs ≡ old)
    (entered : EntersNames old held names (Ok tt)) (kept_are : now ≡ filter (λ ref. not (is_entered held ref.name.items)) refs) where
  left : map shown_ref now ≡ without (lent_texts names) old
  left = ap (map shown_ref) kept_are ∙ kept held (lent_texts names) refs entered.1 ∙ ap (without (lent_texts names)) seen

  pub all_dropped : dropped (lent_texts names) old ≡ Ok (map shown_ref now)
  all_dropped = none_unknown (lent_texts names) old entered.0 ∙ ap Ok (sym left)

  pub left_in_order : AreInOrder refs → AreInOrder now
  left_in_order sorted = subst (λ rs. IsTrue (is_sorted byte_cmp rs)) (sym (left ∙ ap (without (lent_texts names)) (sym seen)))
      (is_true _ (is_sorted-where_key byte_cmp (λ n. not (is_among (lent_texts names) n)) (map shown_ref refs) (passes _ sorted)))

-- ---- the repository

-- with the refs that are left a repository is sound, and has the same values
pub left_is_sound : (name : Kind → Bytes → Bytes) → PartsChange name → (r : Records) → IsSound name r → (names : List Bytes)
    → IsSound name (with_refs r (without names r.refs)) × (values_of (with_refs r (without names r.refs)) ≡ values_of r)
left_is_sound name law r sound names =
    law.refs r sound (without names r.refs) (is_true _ (is_sorted-where_key byte_cmp (λ n. not (is_among names n)) r.refs (passes _ sound.sorted))) (is_true _ (names_left (λ ref. not (is_among names ref.0)) r.refs (passes _ sound.ref_names)))
    (targets_left r.records (λ ref. not (is_among names ref.0)) r.refs sound.held)
