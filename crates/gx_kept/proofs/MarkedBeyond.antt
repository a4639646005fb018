-- What refs reach and other objects don't is marked.
use Rattle.std.proofs.Common.{◌≡◌, ℕ, suc, ◌+◌, ◌<◌, ◌≤◌, Bool, true, false, List, [], ◌∷◌, ◌++◌, drop, append-nil, append_assoc, get_or, length, length-append, set, replicate, Option, Some, None, Ok, Err, Result, refl, sym, ap, ◌∙◌, subst, arith}
use Rattle.std.specs.Prelude.{IfSome, OnOk, not, ◌&&◌, ◌||◌, ⊤}
use Rattle.std.specs.declared.vec.Vec.{Vec}
use Rattle.std.specs.List.{AllByRecursion, flat_map}
use Rattle.std.proofs.lemmas.List.{drop_more, drop_all}
use Rattle.std.proofs.Math.Seq.{set-append_seam}
use Rattle.gx_model.specs.declared.objects.Kind.{Kind}
use Rattle.gx_model.specs.Histories.{Record, Records}
use Rattle.gx_model.specs.Pruning.{is_reachable, is_tip, links_to}
use Rattle.gx_model.specs.Records.Publishing.{Ref}
use Rattle.gx_model.specs.Records.Sound.{AnyByRecursion, IsSound}
use Rattle.gx_model.specs.Stores.StoreText.{stored_ref}
use Rattle.gx_model.specs.Texts.{Bytes, same_bytes}
use Rattle.std.proofs.Common.{inl, inr}
use Rattle.gx_objects.specs.Answers.{AreRefs, Tells}
use Rattle.gx_objects.specs.declared.fault.LookFault.{LookFault}
use Rattle.gx_repo.specs.Pruning.{Spreads, marks_by, objects_held, tips_of}
use Rattle.gx_repo.proofs.PrunedRecords.{names_marked, none_marked, tips_marked}
use Rattle.gx_store.specs.Marked.{first_mark}
use Rattle.gx_listed.specs.Listings.{Listed, ListsIfTold}
use Rattle.gx_kept.specs.Marking.{IsBelow, MarksHeld, without_marks}
use Rattle.gx_kept.specs.Telling.{OfRefs, SpellsRefsOf, head_refs, is_beyond}
use Rattle.gx_kept.proofs.ListedRecords.{same_length, tips_below}
use Rattle.gx_kept.proofs.Spreading.{both_told}
use Rattle.gx_kept.proofs.Stopping.{then_told}

-- ---- what refs and names reach

-- what the refs of these lines and these names reach
abbrev pub Reaches : Bytes → List Bytes → List Bool → Records → Type 0
Reaches lines names marks r = OfRefs lines (λ refs. marks ≡ marks_by (is_reachable (refs ++ tips_of names) r.records) r.records)

module _ (name : Kind → Bytes → Bytes) (stands : ℕ → ℕ) (listed : List Listed) (lines : Bytes) (told : Option Records)
    (sound : IfSome told (IsSound name)) (lists : ListsIfTold told stands listed) where
  -- that is marked
  pub reached_are : {E : Type 0} (names : List Bytes) (none tips kept marks : List Bool) → none ≡ replicate (length listed) false
      → ((refs : List Ref) → AreRefs refs → lines ≡ flat_map stored_ref refs → MarksHeld listed (objects_held refs) none tips)
      → MarksHeld listed names tips kept → (result : Result (Unit {0}) E) → IfSome told (λ r. OnOk result (Spreads r.records kept marks)) → IfSome told (λ r. OnOk result (Reaches lines names marks r))
  reached_are names none tips kept marks fresh held beside (Err fault) spreads = nothing told
    where
      nothing : (o : Option Records) → IfSome o (λ r. ⊤)
      nothing None = tt
      nothing (Some r) = tt
  reached_are names none tips kept marks fresh held beside (Ok done) spreads = by told sound lists spreads
    where
      by : (o : Option Records) → IfSome o (IsSound name) → ListsIfTold o stands listed → IfSome o (λ r. Spreads r.records kept marks) → IfSome o (Reaches lines names marks)
      by None s l m = tt
      by (Some r) s l m = λ refs are e.
          let at_first : none ≡ marks_by (λ n. false) r.records = fresh ∙ ap (λ n. replicate n false) (same_length listed r.records l.heads) ∙ none_marked r.records in
          let by_refs = tips_marked refs r.records none tips at_first (held refs are e r.records l.heads s.distinct) in
          m (refs ++ tips_of names) (names_marked refs names r.records tips kept by_refs (beside r.records l.heads s.distinct))

  -- what holds of all holds of each
  one_of_all : (P : Bytes → Type 0) (all : List Ref) (ref : Ref) → AllByRecursion P (objects_held all) → AnyByRecursion (λ other. other ≡ ref) all → P ref.1
  one_of_all P [] ref h a = absurd a
  one_of_all P (x ∷ xs) ref h (inl e) = subst (λ (y : Ref). P y.1) e h.0
  one_of_all P (x ∷ xs) ref h (inr a) = one_of_all P xs ref h.1 a

  each_of_all : (P : Bytes → Type 0) (all refs : List Ref) → AllByRecursion P (objects_held all) → AllByRecursion (λ ref. AnyByRecursion (λ other. other ≡ ref) all) refs → AllByRecursion P (objects_held refs)
  each_of_all P all [] h a = tt
  each_of_all P all (x ∷ xs) h a = (one_of_all P all x h a.0, each_of_all P all xs h a.1)

  -- a ref of a repository holds an object that is listed
  pub beyond_untold : IfSome told (SpellsRefsOf lines) → ((refs : List Ref) → AreRefs refs → lines ≡ flat_map stored_ref refs → AllByRecursion (IsBelow listed (length listed)) (objects_held refs) → ⊥) → told ≡ None
  beyond_untold of refused = by told sound lists of
    where
      by : (o : Option Records) → IfSome o (IsSound name) → ListsIfTold o stands listed → IfSome o (SpellsRefsOf lines) → o ≡ None
      by None s l h = refl
      by (Some r) s l h = absurd (refused h.0 h.1 h.2 (each_of_all (IsBelow listed (length listed)) r.refs h.0 (tips_below name r s listed l.heads) h.3))

-- ---- no refs

-- no lines spell no refs
pub no_refs : AreRefs []
no_refs = record { sorted = refl; names = refl; objects = tt }

pub none_spelled : (told : Option Records) → IfSome told (SpellsRefsOf [])
none_spelled None = tt
none_spelled (Some r) = ([], no_refs, refl, tt)

-- ---- what is left

without_by : (p q : Bytes → Bool) (rs : List Record) → without_marks (marks_by p rs) (marks_by q rs) ≡ marks_by (λ n. not (q n) && p n) rs
without_by p q [] = refl
without_by p q (r ∷ rs) = ap (λ marks. (not (q r.name) && p r.name) ∷ marks) (without_by p q rs)

-- what refs and HEAD reach without what names reach
pub beyond_are : (told : Option Records) (lines : Bytes) (head : Option Bytes) (had : List Bytes) (wanted other marks : List Bool) → marks ≡ without_marks wanted other
    → IfSome told (λ r. OfRefs lines (λ refs. wanted ≡ marks_by (is_reachable (head_refs head ++ refs) r.records) r.records))
    → IfSome told (λ r. OfRefs [] (λ refs. other ≡ marks_by (is_reachable (refs ++ tips_of had) r.records) r.records))
    → IfSome told (λ r. OfRefs lines (λ refs. marks ≡ marks_by (is_beyond (head_refs head ++ refs) had r.records) r.records))
beyond_are told lines head had wanted other marks left = both_told told _ _ _ (λ r w o refs are e.
    let first = w refs are e in
    let second : other ≡ marks_by (is_reachable (tips_of had) r.records) r.records = o [] no_refs refl in
    left ∙ (λ i. without_marks (first i) (second i)) ∙ without_by (is_reachable (head_refs head ++ refs) r.records) (is_reachable (tips_of had) r.records) r.records)

-- ---- HEAD

-- which of two comes first is all the same
either_first : (a b c : Bool) → (a || (b || c)) ≡ (b || (a || c))
either_first true true c = refl
either_first true false c = refl
either_first false b c = refl

-- HEAD holds what it holds, in front of the refs or behind them
head_holds : (called : Bytes) (refs : List Ref) (n : Bytes) → is_tip (refs ++ tips_of (called ∷ [])) n ≡ is_tip (head_refs (Some called) ++ refs) n
head_holds called [] n = refl
head_holds called (ref ∷ refs) n = ap (λ b. same_bytes n ref.1 || b) (head_holds called refs n) ∙ either_first (same_bytes n ref.1) (same_bytes n called) (is_tip refs n)

-- and reaches what it reaches
head_reaches : (called : Bytes) (refs : List Ref) (rs : List Record) (n : Bytes) → is_reachable (refs ++ tips_of (called ∷ [])) rs n ≡ is_reachable (head_refs (Some called) ++ refs) rs n
head_reaches called refs [] n = head_holds called refs n
head_reaches called refs (r ∷ rs) n = λ i. head_reaches called refs rs n i || (head_reaches called refs rs r.name i && links_to r n)

-- what refs reach beside other names is marked
abbrev pub MarksBeside : {A : Type 0} → Bytes → List Bytes → Records → Vec Bool A → Type 0
MarksBeside lines names r marks = OfRefs lines (λ refs. marks.items ≡ marks_by (is_reachable (refs ++ tips_of names) r.records) r.records)

-- what refs and HEAD reach is
abbrev pub MarksWanted : {A : Type 0} → Bytes → Option Bytes → Records → Vec Bool A → Type 0
MarksWanted lines head r marks = OfRefs lines (λ refs. marks.items ≡ marks_by (is_reachable (head_refs head ++ refs) r.records) r.records)

module _ {A : Type 0} (told : Option Records) (lines : Bytes) where
  -- where HEAD isn't told, it reaches nothing
  pub none_wanted : (result : Result (Vec Bool A) LookFault) → Tells told (MarksBeside lines []) result → Tells told (MarksWanted lines None) result
  none_wanted (Err fault) h = h
  none_wanted (Ok marks) h = then_told told (λ r. MarksBeside lines [] r marks) (λ r. MarksWanted lines None r marks) (λ r beside refs are e.
      beside refs are e ∙ ap (λ (rs : List Ref). marks_by (is_reachable rs r.records) r.records) (append-nil refs)) h

  -- where it is, what it holds
  pub head_wanted : (called : Bytes) (result : Result (Vec Bool A) LookFault) → Tells told (MarksBeside lines (called ∷ [])) result → Tells told (MarksWanted lines (Some called)) result
  head_wanted called (Err fault) h = h
  head_wanted called (Ok marks) h = then_told told (λ r. MarksBeside lines (called ∷ []) r marks) (λ r. MarksWanted lines (Some called) r marks) (λ r beside refs are e.
      beside refs are e ∙ (λ i. marks_by (λ n. head_reaches called refs r.records n i) r.records)) h

-- ---- one after the other

-- those before a number are done, and the others are as they were
pub record DoneBefore (old others : List Bool) (i : ℕ) (now : List Bool) : Type 0 where
  pub done : List Bool
  pub count : length done ≡ i
  pub parts : now ≡ done ++ drop i old
  pub all : done ++ without_marks (drop i old) (drop i others) ≡ without_marks old others

pub none_done : (old others : List Bool) → DoneBefore old others 0 old
none_done old others = record { done = []; count = refl; parts = refl; all = refl }

module _ (old others : List Bool) (i : ℕ) (now : List Bool) (h : DoneBefore old others i now) (inside : i < length old) (other_inside : i < length others) where
  abbrev mark : Bool
  mark = get_or old i false

  old_next : drop i old ≡ mark ∷ drop (i + 1) old
  old_next = drop_more old i false inside

  others_next : drop i others ≡ get_or others i false ∷ drop (i + 1) others
  others_next = drop_more others i false other_inside

  -- the next mark comes behind those that are done
  next_done : (b : Bool) → b ≡ (not (get_or others i false) && mark) → (new : List Bool) → new ≡ h.done ++ b ∷ drop (i + 1) old → DoneBefore old others (i + 1) new
  next_done b is new e = record {
    done = h.done ++ b ∷ [];
    count = length-append h.done (b ∷ []) ∙ ap (λ n. n + 1) h.count;
    parts = e ∙ sym (append_assoc h.done (b ∷ []) (drop (i + 1) old));
    all = append_assoc h.done (b ∷ []) _ ∙ ap (λ (x : Bool). h.done ++ x ∷ without_marks (drop (i + 1) old) (drop (i + 1) others)) is
        ∙ ap (λ ms. h.done ++ ms) (sym ((λ k. without_marks (old_next k) (others_next k)))) ∙ h.all;
  }

  -- it is taken away
  pub mark_goes : get_or others i false ≡ true → DoneBefore old others (i + 1) (set now i false)
  mark_goes other = next_done false (ap (λ b. not b && mark) (sym other)) (set now i false)
      (ap (λ ms. set ms i false) (h.parts ∙ ap (λ ms. h.done ++ ms) old_next) ∙ ap (λ n. set (h.done ++ mark ∷ drop (i + 1) old) n false) (sym h.count) ∙ set-append_seam h.done mark (drop (i + 1) old) false)

  -- or it stays
  pub mark_stays : get_or others i false ≡ false → DoneBefore old others (i + 1) now
  mark_stays other = next_done mark (ap (λ b. not b && mark) (sym other)) now (h.parts ∙ ap (λ ms. h.done ++ ms) old_next)

-- behind the last one all are done
pub all_done : (old others : List Bool) (i : ℕ) (now : List Bool) → length old ≤ i → DoneBefore old others i now → now ≡ without_marks old others
all_done old others i now le h =
    let none = drop_all i old le in
    h.parts ∙ ap (λ ms. h.done ++ ms) none ∙ sym (ap (λ ms. h.done ++ without_marks ms (drop i others)) none) ∙ h.all
