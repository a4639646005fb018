-- Marks of the records that refs reach.
use Rattle.std.proofs.Common.{◌≡◌, ℕ, zero, suc, ◌+◌, ◌<◌, ◌≤◌, Bool, true, false, cond, List, [], ◌∷◌, ◌++◌, append_assoc, append-nil, drop, drop_of_length-le, get_or, length, map, replicate, set, take, Some, None, refl, sym, ap, subst, ◌∙◌, arith}
use Rattle.std.specs.Prelude.{◌||◌, ◌&&◌}
use Rattle.std.specs.List.{filter, filter_map, list_any, slice_get}
use Rattle.std.specs.Bool.{passes}
use Rattle.std.proofs.lemmas.Bool.{false≢true, false_from_ne_true}
use Rattle.std.proofs.lemmas.List.{drop_more}
use Rattle.std.proofs.lemmas.Option.{get_or_from_slice_get, slice_get-get_or, slice_get_within}
use Rattle.gx_model.specs.declared.objects.Kind.{Kind}
use Rattle.gx_model.specs.declared.objects.Kind.TheVariants as kinds
use Rattle.gx_model.specs.declared.objects.Mode.{Mode}
use Rattle.gx_model.specs.declared.objects.Mode.TheVariants.{Dir, Exec, File, Gitlink, Link}
use Rattle.gx_model.specs.Texts.{Bytes, same_bytes}
use Rattle.gx_model.specs.Histories.{AreDistinct, Record, Records}
use Rattle.gx_model.specs.Laws.RepositoryLaws.{with_records}
use Rattle.gx_model.specs.Laws.StoreLaws.{IsBody}
use Rattle.gx_model.specs.Objects.{Entry, IsNamer}
use Rattle.gx_model.specs.Pruning.{is_reachable, is_tip, link_of, links_of, links_to}
use Rattle.gx_model.specs.Records.Publishing.{Ref}
use Rattle.gx_model.specs.Records.Sound.{IsLinked, IsLinkedAfter, IsSound}
use Rattle.gx_model.proofs.Texts.PathTests.{is_same, is_true, same_is}
use Rattle.gx_object.specs.Commits.{bytes_of_names}
use Rattle.gx_object.specs.declared.name.Name.{Name}
use Rattle.gx_store.specs.Marked.{first_mark, marked}
use Rattle.gx_store.specs.Stores.{place_named}
use Rattle.gx_repo.specs.Places.{IsPlace}
use Rattle.gx_repo.specs.Pruning.{MarksNames, is_kept_beside, marks_by, objects_held, pruned_beside, tips_of, weight}
use Rattle.gx_repo.specs.Refs.{shown_ref}
use Rattle.gx_repo.specs.declared.refs.Ref.{Ref as HeldRef}
use Rattle.gx_repo.proofs.KeptRecords.{kept_sound, tip_more}
use Rattle.gx_repo.proofs.Places.{is_place, no_place, no_record}

abbrev among : List Bytes → Bytes → Bool
among names name = list_any (same_bytes name) names

-- ---- tests

same_marks : (f g : Bytes → Bool) → ((n : Bytes) → f n ≡ g n) → (rs : List Record) → marks_by f rs ≡ marks_by g rs
same_marks f g e [] = refl
same_marks f g e (r ∷ rs) = λ i. e r.name i ∷ same_marks f g e rs i

or_nothing : (b : Bool) → (b || false) ≡ b
or_nothing true = refl
or_nothing false = refl

or_both : (a b c : Bool) → ((a || b) || c) ≡ (a || (b || c))
or_both true b c = refl
or_both false b c = refl

among-append : (n : Bytes) (xs ys : List Bytes) → among (xs ++ ys) n ≡ (among xs n || among ys n)
among-append n [] ys = refl
among-append n (x ∷ xs) ys = ap (λ b. same_bytes n x || b) (among-append n xs ys) ∙ sym (or_both (same_bytes n x) (among xs n) (among ys n))

-- ---- names that are marked

pub marks_none : (rs : List Record) (marks : List Bool) → MarksNames rs [] marks marks
marks_none rs marks test e = e ∙ sym (same_marks (λ n. test n || false) test (λ n. or_nothing (test n)) rs)

pub marks_both : (rs : List Record) (xs ys : List Bytes) (a b c : List Bool) → MarksNames rs xs a b → MarksNames rs ys b c → MarksNames rs (xs ++ ys) a c
marks_both rs xs ys a b c h k test e =
    k (λ n. test n || among xs n) (h test e)
    ∙ same_marks (λ n. (test n || among xs n) || among ys n) (λ n. test n || among (xs ++ ys) n) (λ n. or_both (test n) (among xs n) (among ys n) ∙ ap (λ b. test n || b) (sym (among-append n xs ys))) rs

names_apart : (n : Bytes) (rs : List Record) → list_any (same_bytes n) (map (λ r. r.name) rs) ≡ false → (test : Bytes → Bool) → marks_by test rs ≡ marks_by (λ m. test m || (same_bytes m n || false)) rs
names_apart n [] h test = refl
names_apart n (r ∷ rs) h test = λ i. head i ∷ names_apart n rs (rest (same_bytes n r.name) h) test i where
  rest : (b : Bool) → (b || list_any (same_bytes n) (map (λ r. r.name) rs)) ≡ false → list_any (same_bytes n) (map (λ r. r.name) rs) ≡ false
  rest true e = absurd (false≢true (sym e))
  rest false e = e

  own : (b : Bool) → (b || list_any (same_bytes n) (map (λ r. r.name) rs)) ≡ false → b ≡ false
  own true e = absurd (false≢true (sym e))
  own false e = refl

  turned : same_bytes r.name n ≡ false
  turned = false_from_ne_true _ (λ e. false≢true (sym (own (same_bytes n r.name) h) ∙ is_true _ (is_same n r.name (sym (same_is r.name n (passes _ e))))))

  head : test r.name ≡ (test r.name || (same_bytes r.name n || false))
  head = sym (or_nothing (test r.name)) ∙ ap (λ b. test r.name || (b || false)) (sym turned)

mark_place : (n : Bytes) (rs : List Record) (i : ℕ) → AreDistinct (map (λ r. r.name) rs) → IsPlace rs n i → (test : Bytes → Bool) → set (marks_by test rs) i true ≡ marks_by (λ m. test m || (same_bytes m n || false)) rs
mark_place n [] i d p test = absurd (let l = p.within in omega (arith, l))
mark_place n (r ∷ rs) zero d p test = λ i. head i ∷ names_apart n rs (subst (λ m. list_any (same_bytes m) (map (λ r. r.name) rs) ≡ false) (sym here) d.0) test i where
  here : n ≡ r.name
  here = same_is n r.name (passes _ (p.named no_record))

  or_true : (b : Bool) → true ≡ (b || true)
  or_true true = refl
  or_true false = refl

  head : true ≡ (test r.name || (same_bytes r.name n || false))
  head = or_true (test r.name) ∙ ap (λ b. test r.name || (b || false)) (sym (is_true _ (is_same r.name n (sym here))))
mark_place n (r ∷ rs) (suc i) d p test = λ j. head j ∷ mark_place n rs i d.1 (record { within = (let l = p.within in omega (arith, l)); named = p.named; earlier = λ k past l. p.earlier (suc k) past (omega (arith, l)) }) test j where
  turned : same_bytes r.name n ≡ false
  turned = false_from_ne_true _ (λ e. false≢true (sym (p.earlier zero no_record (omega arith)) ∙ is_true _ (is_same n r.name (sym (same_is r.name n (passes _ e))))))

  head : test r.name ≡ (test r.name || (same_bytes r.name n || false))
  head = sym (or_nothing (test r.name)) ∙ ap (λ b. test r.name || (b || false)) (sym turned)

-- the record of a name is marked
pub mark_there : (n : Bytes) (rs : List Record) (i : ℕ) (marks : List Bool) → AreDistinct (map (λ r. r.name) rs) → Some i ≡ place_named rs n → MarksNames rs (n ∷ []) marks (set marks i true)
mark_there n rs i marks d e test old = ap (λ ms. set ms i true) old ∙ mark_place n rs i d (is_place rs n i (sym e)) test

none_named : (n : Bytes) (rs : List Record) → ((j : ℕ) → j < length rs → same_bytes n (get_or rs j no_record).name ≡ false) → list_any (same_bytes n) (map (λ r. r.name) rs) ≡ false
none_named n [] f = refl
none_named n (r ∷ rs) f = (λ i. f zero (omega arith) i || none_named n rs (λ j l. f (suc j) (omega (arith, l))) i)

-- where no record has the name, none is marked
pub mark_nowhere : (n : Bytes) (rs : List Record) (marks : List Bool) → None ≡ place_named rs n → MarksNames rs (n ∷ []) marks marks
mark_nowhere n rs marks e test old = old ∙ names_apart n rs (none_named n rs (no_place rs n (sym e))) test

-- the place of a name is one of the records
pub within_records : (n : Bytes) (rs : List Record) (i : ℕ) → Some i ≡ place_named rs n → i < length rs
within_records n rs i e = (is_place rs n i (sym e)).within

-- ---- names one after the other

-- these were marked, and those are left
pub record MarksSoFar (rs : List Record) (names left : List Bytes) (old new : List Bool) : Type 0 where
  pub done : List Bytes
  pub all : done ++ left ≡ names
  pub marks : MarksNames rs done old new

pub so_far_none : (rs : List Record) (names : List Bytes) (marks : List Bool) → MarksSoFar rs names names marks marks
so_far_none rs names marks = record { done = []; all = refl; marks = marks_none rs marks }

pub so_far_next : (rs : List Record) (names left : List Bytes) (n : Bytes) (old marks new : List Bool) → MarksSoFar rs names (n ∷ left) old marks → MarksNames rs (n ∷ []) marks new → MarksSoFar rs names left old new
so_far_next rs names left n old marks new h k = record { done = h.done ++ n ∷ []; all = append_assoc h.done (n ∷ []) left ∙ h.all; marks = marks_both rs h.done (n ∷ []) old marks new h.marks k }

pub so_far_all : (rs : List Record) (names : List Bytes) (old new : List Bool) → MarksSoFar rs names [] old new → MarksNames rs names old new
so_far_all rs names old new h = subst (λ ns. MarksNames rs ns old new) (sym (append-nil h.done) ∙ h.all) h.marks

-- an entry that is no gitlink names one
pub entry_links : (e : Entry) (es : List Entry) → (e.mode ≡ Gitlink → ⊥) → filter_map link_of (e ∷ es) ≡ e.name ∷ filter_map link_of es
entry_links e es f = by e.mode f where
  by : (m : Mode) → (m ≡ Gitlink → ⊥) → filter_map link_of (record { mode = m; component = e.component; name = e.name } ∷ es) ≡ e.name ∷ filter_map link_of es
  by File g = refl
  by Exec g = refl
  by Link g = refl
  by Dir g = refl
  by Gitlink g = absurd (g refl)

-- a gitlink names none
pub gitlink_links : (e : Entry) (es : List Entry) → e.mode ≡ Gitlink → filter_map link_of (e ∷ es) ≡ filter_map link_of es
gitlink_links e es f = ap (λ m. filter_map link_of (record { mode = m; component = e.component; name = e.name } ∷ es)) f

-- ---- from the newest record on

pub reach_next : (refs : List Ref) (rs : List Record) (k : ℕ) (r : Record) → k < length rs → get_or rs k r ≡ r → drop k rs ≡ r ∷ drop (k + 1) rs
reach_next refs rs k r l e = drop_more rs k r l ∙ ap (λ x. x ∷ drop (k + 1) rs) e

pub reached_on : (refs : List Ref) (all rs : List Record) (r : Record) (old new : List Bool) → is_reachable refs rs r.name ≡ true → old ≡ marks_by (is_reachable refs rs) all → MarksNames all (links_of r.kind r.body) old new
    → new ≡ marks_by (is_reachable refs (r ∷ rs)) all
reached_on refs all rs r old new e o h =
    h (is_reachable refs rs) o
    ∙ same_marks (λ n. is_reachable refs rs n || among (links_of r.kind r.body) n) (is_reachable refs (r ∷ rs)) (λ n. ap (λ b. is_reachable refs rs n || (b && links_to r n)) (sym e)) all

pub reached_past : (refs : List Ref) (all rs : List Record) (r : Record) (marks : List Bool) → is_reachable refs rs r.name ≡ false → marks ≡ marks_by (is_reachable refs rs) all → marks ≡ marks_by (is_reachable refs (r ∷ rs)) all
reached_past refs all rs r marks e o =
    o ∙ same_marks (is_reachable refs rs) (is_reachable refs (r ∷ rs)) (λ n. sym (or_nothing (is_reachable refs rs n)) ∙ ap (λ b. is_reachable refs rs n || (b && links_to r n)) (sym e)) all

-- a mark is what the name's test gives
pub mark_is : (test : Bytes → Bool) (rs : List Record) (k : ℕ) (r : Record) → slice_get rs k ≡ Some r → get_or (marks_by test rs) k false ≡ test r.name
mark_is test [] k r e = absurd (cc)
mark_is test (q ∷ rs) zero r e = let same : q ≡ r = cc in ap (λ (x : Record). test x.name) same
mark_is test (q ∷ rs) (suc k) r e = mark_is test rs k r e

-- ---- tips

tips_are : (refs : List Ref) (n : Bytes) → among (objects_held refs) n ≡ is_tip refs n
tips_are [] n = refl
tips_are (r ∷ refs) n = ap (λ b. same_bytes n r.1 || b) (tips_are refs n)

-- besides none, what refs hold is marked
pub tips_marked : (refs : List Ref) (rs : List Record) (old new : List Bool) → old ≡ marks_by (λ n. false) rs → MarksNames rs (objects_held refs) old new → new ≡ marks_by (is_tip refs) rs
tips_marked refs rs old new e h = h (λ n. false) e ∙ same_marks (λ n. false || among (objects_held refs) n) (is_tip refs) (λ n. tips_are refs n) rs

-- besides these, what has one of these names is marked
pub names_marked : (refs : List Ref) (names : List Bytes) (rs : List Record) (old new : List Bool) → old ≡ marks_by (is_tip refs) rs → MarksNames rs names old new → new ≡ marks_by (is_tip (refs ++ tips_of names)) rs
names_marked refs names rs old new e h =
    h (is_tip refs) e ∙ same_marks (λ n. is_tip refs n || among names n) (is_tip (refs ++ tips_of names)) (λ n. ap (λ b. is_tip refs n || b) (named_tips names n) ∙ sym (tip_more refs (tips_of names) n)) rs where
      named_tips : (names : List Bytes) (n : Bytes) → among names n ≡ is_tip (tips_of names) n
      named_tips [] n = refl
      named_tips (m ∷ names) n = ap (λ b. same_bytes n m || b) (named_tips names n)

-- the next of the names that are asked for
pub next_name : (names : List Name) (i : ℕ) (d : Name) → i < length names → bytes_of_names (drop i names) ≡ (get_or names i d).bytes ∷ bytes_of_names (drop (i + 1) names)
next_name names i d l = ap bytes_of_names (drop_more names i d l)

-- ---- bodies

body_linked : (rs : List Record) (k : Kind) (body : Bytes) → IsLinked rs k body → IsBody k body
body_linked rs kinds.Blob body h = tt
body_linked rs kinds.Tree body h = (h.0, h.1)
body_linked rs kinds.Commit body h = (h.0, h.1)
body_linked rs kinds.Tag body h = (h.0, h.1)

-- each record has a canonical body
pub body_at : (before rs : List Record) → IsLinkedAfter before rs → (k : ℕ) (r : Record) → slice_get rs k ≡ Some r → IsBody r.kind r.body
body_at before [] h k r e = absurd (cc)
body_at before (q ∷ rs) h zero r e = let same : q ≡ r = cc in subst (λ (x : Record). IsBody x.kind x.body) same (body_linked before q.kind q.body h.0)
body_at before (q ∷ rs) h (suc k) r e = body_at (before ++ q ∷ []) rs h.1 k r e

-- ---- what is left

pub marked_left : (test : Bytes → Bool) (rs : List Record) → marked (marks_by test rs) rs ≡ filter (λ r. test r.name) rs
marked_left test [] = refl
marked_left test (r ∷ rs) = ap (λ left. cond (test r.name) (r ∷ left) left) (marked_left test rs)

-- the records that are left where those are marked that refs or the objects of these names reach
pub pruned_left : (names : List Bytes) (r : Records) (marks : List Bool) → marks ≡ marks_by (is_kept_beside names r) r.records → marked marks r.records ≡ (pruned_beside names r).records
unfolding pruned_beside
pruned_left names r marks e = ap (λ ms. marked ms r.records) e ∙ marked_left (is_kept_beside names r) r.records

-- what a repository holds is sound without its refs
pub store_sound : (name : Kind → Bytes → Bytes) (r : Records) → IsSound name r → IsSound name (record { records = r.records; refs = [] })
store_sound name r s = record { named = s.named; distinct = s.distinct; linked = s.linked; paths = s.paths; sorted = refl; ref_names = refl; held = tt }

-- with those that are left it is the repository that is wanted
pub pruned_is : (names : List Bytes) (r : Records) (marks : List Bool) → marks ≡ marks_by (is_kept_beside names r) r.records → with_records r (marked marks r.records) ≡ pruned_beside names r
unfolding pruned_beside
pruned_is names r marks e = ap (with_records r) (pruned_left names r marks e)

-- which is sound
pub pruned_sound : (name : Kind → Bytes → Bytes) → IsNamer name → (names : List Bytes) (r : Records) (marks : List Bool) → IsSound name r → marks ≡ marks_by (is_kept_beside names r) r.records → IsSound name (with_records r (marked marks r.records))
pruned_sound name namer names r marks s e = subst (IsSound name) (sym (pruned_is names r marks e)) (kept_sound name namer names r s)

-- no more are left than there were
pub marked_less : {X : Type 0} (marks : List Bool) (xs : List X) → length (marked marks xs) ≤ length xs
marked_less marks [] = omega arith
marked_less {X} marks (x ∷ xs) = by (first_mark marks) (marked_less (drop 1 marks) xs) where
  by : (b : Bool) → length (marked (drop 1 marks) xs) ≤ length xs → length (cond b (x ∷ marked (drop 1 marks) xs) (marked (drop 1 marks) xs)) ≤ length (x ∷ xs)
  by true l = omega (arith, l)
  by false l = omega (arith, l)

-- ---- bodies' bytes

pub weight_less : (marks : List Bool) (rs : List Record) → weight (marked marks rs) ≤ weight rs
weight_less marks [] = omega arith
weight_less marks (r ∷ rs) = by (first_mark marks) (weight_less (drop 1 marks) rs) where
  by : (b : Bool) → weight (marked (drop 1 marks) rs) ≤ weight rs → weight (cond b (r ∷ marked (drop 1 marks) rs) (marked (drop 1 marks) rs)) ≤ length r.body + weight rs
  by true l = omega (arith, l)
  by false l = omega (arith, l)

pub weight_next : (rs : List Record) (k : ℕ) (r : Record) → slice_get rs k ≡ Some r → weight (take (k + 1) rs) ≡ weight (take k rs) + length r.body
weight_next [] k r e = absurd (cc)
weight_next (q ∷ rs) zero r e = let same : q ≡ r = cc in ap (λ (x : Record). length x.body + 0) same ∙ omega arith
weight_next (q ∷ rs) (suc k) r e = let more = weight_next rs k r e in
    let next : suc k + 1 ≡ suc (k + 1) = omega arith in
    ap (λ n. weight (take n (q ∷ rs))) next ∙ omega (arith, more)

-- the first of the refs that are left
pub next_held : {A : Type 0} (refs : List (HeldRef A)) (i : ℕ) (held : HeldRef A) → i < length refs → held ≡ get_or refs i held → objects_held (map shown_ref (drop i refs)) ≡ held.object.bytes ∷ objects_held (map shown_ref (drop (i + 1) refs))
next_held {A} refs i held l e = ap (λ rs. objects_held (map shown_ref rs)) (drop_more refs i held l) ∙ ap (λ (r : HeldRef A). r.object.bytes ∷ objects_held (map shown_ref (drop (i + 1) refs))) (sym e)

-- ---- one place after the other, from the last on

drop_at : (rs : List Record) (k : ℕ) (r : Record) → slice_get rs k ≡ Some r → drop k rs ≡ r ∷ drop (k + 1) rs
drop_at rs k r e = drop_more rs k r (slice_get_within rs k r e) ∙ ap (λ x. x ∷ drop (k + 1) rs) (get_or_from_slice_get rs k r r e)

module _ (refs : List Ref) (all : List Record) (k : ℕ) (old : List Bool) (was : old ≡ marks_by (is_reachable refs (drop (k + 1) all)) all) where
  mark_at : (r : Record) (b : Bool) → slice_get all k ≡ Some r → get_or old k false ≡ b → is_reachable refs (drop (k + 1) all) r.name ≡ b
  mark_at r b at e = sym (mark_is (is_reachable refs (drop (k + 1) all)) all k r at) ∙ ap (λ ms. get_or ms k false) (sym was) ∙ e

  -- what a marked record names is marked
  pub spread_on : (r : Record) (new : List Bool) → slice_get all k ≡ Some r → get_or old k false ≡ true → MarksNames all (links_of r.kind r.body) old new → new ≡ marks_by (is_reachable refs (drop k all)) all
  spread_on r new at e h = reached_on refs all (drop (k + 1) all) r old new (mark_at r true at e) was h ∙ ap (λ rs. marks_by (is_reachable refs rs) all) (sym (drop_at all k r at))

  -- a record that isn't marked marks none
  pub spread_past : k < length all → get_or old k false ≡ false → old ≡ marks_by (is_reachable refs (drop k all)) all
  spread_past l e =
      let r = get_or all k no_record in
      let at = slice_get-get_or all k no_record l in
      reached_past refs all (drop (k + 1) all) r old (mark_at r false at e) was ∙ ap (λ rs. marks_by (is_reachable refs rs) all) (sym (drop_at all k r at))

-- before any record is gone through, what refs hold is marked
pub spread_none : (refs : List Ref) (all : List Record) (k : ℕ) (marks : List Bool) → length all ≤ k → marks ≡ marks_by (is_tip refs) all → marks ≡ marks_by (is_reachable refs (drop k all)) all
spread_none refs all k marks l e = e ∙ ap (λ rs. marks_by (is_reachable refs rs) all) (sym (drop_of_length-le all l))

-- the next of a commit's parents
pub next_parent : (ns : List Bytes) (i : ℕ) (n : Bytes) → Some n ≡ slice_get ns i → drop i ns ≡ n ∷ drop (i + 1) ns
next_parent ns i n e = drop_more ns i n (slice_get_within ns i n (sym e)) ∙ ap (λ x. x ∷ drop (i + 1) ns) (get_or_from_slice_get ns i n n (sym e))

-- no record is marked
pub none_marked : (rs : List Record) → replicate (length rs) false ≡ marks_by (λ n. false) rs
none_marked [] = refl
none_marked (r ∷ rs) = ap (λ ms. false ∷ ms) (none_marked rs)
