-- What the steps of the code come to.
use Rattle.std.proofs.Common.{◌≡◌, ℕ, zero, suc, ◌+◌, ◌<◌, true, false, cond, sym, ap, ◌∙◌, refl, subst, List, [], ◌∷◌, ◌++◌, drop, length, map, set, take, Some, None, inl, inr, arith, append_assoc, append-nil}
use Rattle.std.specs.Prelude.{Ok, Err, Result, OnOk, ⊤, ◌&&◌}
use Rattle.std.specs.List.{AllByRecursion, slice_get}
use Rattle.std.specs.Option.{option_and_then, option_map}
use Rattle.std.proofs.lemmas.List.{map-append}
use Rattle.gx_model.specs.declared.objects.Kind.{Kind}
use Rattle.gx_model.specs.Texts.{Bytes}
use Rattle.gx_model.specs.Faults.{◌>>=◌}
use Rattle.gx_model.specs.Histories.{Record, object_of}
use Rattle.gx_model.specs.Records.Growth.{record_named, same_kind, same_object}
use Rattle.gx_model.specs.Records.RecordFaults.{is_body, is_held}
use Rattle.gx_model.proofs.Records.HeldObjects.{is_shown}
use Rattle.gx_model.proofs.Revisions.Bases.{none_got}
use Rattle.gx_model.proofs.Histories.PathRuns.{same_itself}
use Rattle.gx_model.proofs.Records.HeldValues.{kinds_same}
use Rattle.std.proofs.lemmas.Bool.{false_from_ne_true}
use Rattle.gx_object.specs.declared.name.Name.{Name}
use Rattle.gx_wide.specs.Placing.{Dangling, NameHeld, Placed}
use Rattle.gx_placed.specs.Faults.{take_fault}
use Rattle.gx_placed.specs.Placed.{placed_all, placed_in_order, placed_within}
use Rattle.gx_placed.specs.Machine.{Begun, IsLacking, IsMachine, begun_at, looked_at, object_at, place_in, resumed, slot_at, work_left}
use Rattle.gx_placed.specs.Places.{Answers, AreNamed, Extends, Places}
use Rattle.gx_placed.specs.Steps.{Begins, GoesOn, IsIndexed, IsReady, PlacesAt, PutsLast, Stands, StandsOn, Steps, begun, place_of, slots, waiting_as}
use Rattle.gx_placed.specs.declared.fault.ObjectFault.{ObjectFault}
use Rattle.gx_placed.specs.declared.fault.PlaceFault.{PlaceFault}
use Rattle.gx_placed.specs.declared.fault.PlaceFault.TheVariants as place
use Rattle.gx_placed.specs.declared.frame.Frame.{Frame}
use Rattle.gx_placed.specs.declared.waiting.Waiting.{Waiting}
use Rattle.gx_placed.proofs.Grown.{one_grows, one_record}
use Rattle.gx_placed.proofs.HeldLinks.{are_held}
use Rattle.gx_placed.proofs.Lookups.{found_still}
use Rattle.gx_placed.proofs.Machines.{all_snoc, all_then, at_first, begins, ended, into, left_out, links_held, over, slot_covered, slot_is, top_begun}
use Rattle.gx_placed.proofs.Onward.{found_at, into_bad, into_ok, lacks, last_bad, last_ok, less_into, less_last, less_over, over_ok}
use Rattle.gx_placed.proofs.Resumes.{begins_badly, begins_well, name_taken}
use Rattle.gx_placed.proofs.Slots.{parted}

-- more stand behind what stood behind
pub still_more : (a b c : List Record) → Extends a b → Extends b c → Extends a c
still_more a b c h k = (h.0 ++ k.0, k.1 ∙ ap (λ rs. rs ++ k.0) h.1 ∙ append_assoc a h.0 k.0)

pub no_more : (a : List Record) → Extends a a
no_more a = ([], sym (append-nil a))

pub pushed : {A : Type 0} (fs gs : List (Frame A)) (f : Frame A) → gs ≡ fs ++ f ∷ [] → map begun gs ≡ map begun fs ++ begun f ∷ []
pushed fs gs f e = ap (map begun) e ∙ map-append begun fs (f ∷ [])

-- a table that stays
still_first : {A : Type 0} (all : List Record) (was waiting : Waiting A) → waiting.places ≡ was.places → IsIndexed all was → IsIndexed all waiting
still_first all was waiting e i = λ called. ap (λ p. place_of p called) e ∙ i called

module _ {A : Type 0} (X : Type 0) (names : Kind → Bytes → Bytes) (all : List Record) (was waiting : Waiting A) (held : List Record) (below : List Begun) (one : Begun) where
  -- the last one has no link left
  pub last_step : (next : Begun) (now : List Record) (result : Result X PlaceFault) → (one.left ≡ []) × (next ≡ one) → (IsReady names held next.new → PutsLast held now next.place next.new result) → Stands names all was held (below ++ one ∷ [])
      → StandsOn names all was now below result × GoesOn names all (below ++ one ∷ []) below held now result
  last_step next now result n puts s =
      let m = s.1 in
      let top = top_begun names all all held below one m.stack in
      let ready : IsReady names held one.new = record {
        free = top.free;
        is_one = top.is_one;
        links = are_held held one.new.kind one.new.body top.is_one (links_held names all (slots was) held below one m n.0);
        named = top.named;
      } in
      by result m top.stands (subst (λ (x : Begun). IsReady names held x.new → PutsLast held now x.place x.new result) n.1 puts ready)
    where
      by : (r : Result X PlaceFault) → IsMachine names all (slots was) held (below ++ one ∷ []) → slice_get all one.place ≡ Some one.new → PutsLast held now one.place one.new r
          → StandsOn names all was now below r × GoesOn names all (below ++ one ∷ []) below held now r
      by (Ok x) m t h = (
        (s.0, subst (λ rs. IsMachine names all (slots was) rs below) (sym h.1) (ended names all (slots was) held below one m n.0)),
        last_ok names all (slots was) held below one m n.0 h.0 ∙ ap (resumed (suc (length all)) all below) (sym h.1),
      )
      by (Err place.OutOfMemory) m t h = (tt, tt)
      by (Err (place.Object at fault)) m t h = (
        tt,
        (one.new, ap (slice_get all) h.1 ∙ t, last_bad names all (slots was) held below one m n.0 h.0 ∙ ap (λ (f : ObjectFault). Err (take_fault f one.new.name)) (sym h.2)),
      )

  module _ (link : Kind × Bytes) (left : List (Kind × Bytes)) (l : one.left ≡ link ∷ left) where
    -- a link that is held
    pub held_step : (more : List Begun) → more ≡ below ++ looked_at one link left ∷ [] → is_held held link.0 link.1 ≡ true → slots waiting ≡ slots was → waiting.places ≡ was.places → Stands names all was held (below ++ one ∷ [])
        → Stands names all waiting held more × (resumed (suc (length all)) all (below ++ one ∷ []) held ≡ resumed (suc (length all)) all more held)
    held_step more e h t p s =
        subst (λ bs. Stands names all waiting held bs × (resumed (suc (length all)) all (below ++ one ∷ []) held ≡ resumed (suc (length all)) all bs held)) (sym e) (
          (still_first all was waiting p s.0, subst (λ ss. IsMachine names all ss held (below ++ looked_at one link left ∷ [])) (sym t) (over names all (slots was) held below one link left s.1 l h)),
          over_ok names all (slots was) held below one link left s.1 l h,
        )

    -- a link that is given
    pub given_step : (called : Name) (at : ℕ) (r : Record) (more : List Begun) → called.bytes ≡ link.1 → more ≡ below ++ looked_at one link left ∷ begun_at at r ∷ [] → record_named held link.1 ≡ None
        → waiting_as was called ≡ Some (at, r) → same_kind r.kind link.0 ≡ true → is_body r.kind r.body ≡ true → slots waiting ≡ set (slots was) at None → waiting.places ≡ was.places → Stands names all was held (below ++ one ∷ [])
        → Stands names all waiting held more × (resumed (suc (length all)) all (below ++ one ∷ []) held ≡ resumed (suc (length all)) all more held)
    given_step called at r more c e free w k b t p s =
        let found = found_at (slots was) (place_in all called.bytes) at r (ap (option_and_then (object_at (slots was))) (sym (s.0 called)) ∙ w) in
        let first : place_in all link.1 ≡ Some at = ap (place_in all) (sym c) ∙ found.0 in
        subst (λ bs. Stands names all waiting held bs × (resumed (suc (length all)) all (below ++ one ∷ []) held ≡ resumed (suc (length all)) all bs held)) (sym e) (
          (
            still_first all was waiting p s.0,
            subst (λ ss. IsMachine names all ss held (below ++ looked_at one link left ∷ begun_at at r ∷ [])) (sym t) (into names all (slots was) held below one link left (begun_at at r) s.1 l free first found.1 k b refl refl),
          ),
          into_ok names all (slots was) held below one link left at r s.1 l free first found.1 k b,
        )

    -- what is given isn't well
    pub bad_step : (called : Name) (at : ℕ) (r : Record) (more : List Begun) (fault : PlaceFault) (result : Result X PlaceFault) → result ≡ Err fault → called.bytes ≡ link.1 → record_named held link.1 ≡ None
        → waiting_as was called ≡ Some (at, r) → same_kind r.kind link.0 ≡ true → Begins {A = A} at r (Err fault) → Stands names all was held (below ++ one ∷ [])
        → StandsOn names all waiting held more result × GoesOn names all (below ++ one ∷ []) more held held result
    bad_step called at r more fault result e c free w k b s =
        subst (λ x. StandsOn names all waiting held more x × GoesOn names all (below ++ one ∷ []) more held held x) (sym e) (by fault b)
      where
        by : (f : PlaceFault) → Begins {A = A} at r (Err f) → StandsOn names all {X = X} waiting held more (Err f) × GoesOn names all {X = X} (below ++ one ∷ []) more held held (Err f)
        by place.OutOfMemory b = (tt, tt)
        by (place.Object p f) b =
            let found = found_at (slots was) (place_in all called.bytes) at r (ap (option_and_then (object_at (slots was))) (sym (s.0 called)) ∙ w) in
            let first : place_in all link.1 ≡ Some at = ap (place_in all) (sym c) ∙ found.0 in (
              tt,
              (
                r,
                ap (slice_get all) b.1 ∙ slot_is held (below ++ one ∷ []) all (slots was) at r s.1.covered found.1,
                into_bad names all (slots was) held below one link left at r s.1 l free first found.1 k b.0 ∙ ap (λ (x : ObjectFault). Err (take_fault x r.name)) (sym b.2),
              ),
            )

    -- a link that dangles
    pub lacking_step : (called : Name) (next : Begun) → called.bytes ≡ link.1 → next ≡ looked_at one link left → IsLacking (record_named held link.1) (waiting_as was called) link.0 → Stands names all was held (below ++ one ∷ [])
        → (r : Record) × (slice_get all next.place ≡ Some r) × (resumed (suc (length all)) all (below ++ one ∷ []) held ≡ Err (Dangling r.name called.bytes))
    lacking_step called next c n h s =
        let top = top_begun names all all held below one s.1.stack in
        let known = subst (λ w. IsLacking (record_named held link.1) w link.0) (ap (option_and_then (object_at (slots was))) (s.0 called ∙ ap (place_in all) c)) h in (
          one.new,
          ap (λ (x : Begun). slice_get all x.place) n ∙ top.stands,
          lacks names all (slots was) held below one link left s.1 l known ∙ ap (λ b. Err (Dangling one.new.name b)) (sym c),
        )

-- ---- how much is left

module _ {A : Type 0} (X : Type 0) (was waiting : Waiting A) (below : List Begun) (one : Begun) where
  pub fewer_last : (result : Result X PlaceFault) → OnOk result (work_left (slots was) below < work_left (slots was) (below ++ one ∷ []))
  fewer_last (Ok x) = less_last (slots was) below one
  fewer_last (Err f) = tt

  module _ (link : Kind × Bytes) (left : List (Kind × Bytes)) (l : one.left ≡ link ∷ left) where
    pub fewer_held : (more : List Begun) → more ≡ below ++ looked_at one link left ∷ [] → slots waiting ≡ slots was → work_left (slots waiting) more < work_left (slots was) (below ++ one ∷ [])
    fewer_held more e t =
        let a : work_left (slots waiting) more ≡ work_left (slots was) (below ++ looked_at one link left ∷ []) = ap (work_left (slots waiting)) e ∙ ap (λ ss. work_left ss (below ++ looked_at one link left ∷ [])) t in
        subst (λ n. n < work_left (slots was) (below ++ one ∷ [])) (sym a) (less_over (slots was) below one link left l)

    pub fewer_given : (called : Name) (at : ℕ) (r : Record) (more : List Begun) → more ≡ below ++ looked_at one link left ∷ begun_at at r ∷ [] → waiting_as was called ≡ Some (at, r) → slots waiting ≡ set (slots was) at None
        → work_left (slots waiting) more < work_left (slots was) (below ++ one ∷ [])
    fewer_given called at r more e w t =
        let found = found_at (slots was) (place_of was.places called) at r w in
        let a : work_left (slots waiting) more ≡ work_left (set (slots was) at None) (below ++ looked_at one link left ∷ begun_at at r ∷ []) =
        ap (work_left (slots waiting)) e ∙ ap (λ ss. work_left ss (below ++ looked_at one link left ∷ begun_at at r ∷ [])) t in
        subst (λ n. n < work_left (slots was) (below ++ one ∷ [])) (sym a) (less_into (slots was) below one link left at r l found.1)

-- ---- all steps of one object

module _ {A : Type 0} (X : Type 0) (names again : Kind → Bytes → Bytes) (all : List Record) (was waiting later : Waiting A) (held now next : List Record) (first so_far old new : List Begun) (same : again ≡ names) (are : so_far ≡ old)
    (known : Stands names all was held first → Stands names all waiting now so_far × (resumed (suc (length all)) all first held ≡ resumed (suc (length all)) all so_far now)) where
  pub next_step : (result : Result X PlaceFault) → Steps again all waiting later now next old new result → Steps names all was later held next first new result
  next_step result h s =
      let k = known s in
      let stands : Stands again all waiting now old = subst (λ (n : Kind → Bytes → Bytes). Stands n all waiting now old) (sym same) (subst (Stands names all waiting now) are k.0) in
      by result (h stands) (k.1 ∙ ap (λ bs. resumed (suc (length all)) all bs now) are)
    where
      by : (r : Result X PlaceFault) → StandsOn again all later next new r × GoesOn again all old new now next r → resumed (suc (length all)) all first held ≡ resumed (suc (length all)) all old now
          → StandsOn names all later next new r × GoesOn names all first new held next r
      by (Ok x) g e = (subst (λ (n : Kind → Bytes → Bytes). Stands n all later next new) same g.0, e ∙ g.1)
      by (Err place.OutOfMemory) g e = (tt, tt)
      by (Err (place.Object p f)) g e = (tt, (g.1.0, g.1.1, e ∙ g.1.2))

-- ---- the object at a place

module _ {A : Type 0} (X : Type 0) (names : Kind → Bytes → Bytes) (all : List Record) (was waiting : Waiting A) (held : List Record) (at : ℕ) (one : Record) (there : slice_get all at ≡ Some one) (places : waiting.places ≡ was.places)
    (emptied : slots waiting ≡ set (slots was) at None) (s : Stands names all was held []) where
  left_alone : record_named held one.name ≡ Some one → Stands names all waiting held [] × (placed_within (suc (length all)) all held one ≡ Ok held)
  left_alone f = (
    (still_first all was waiting places s.0, subst (λ ss. IsMachine names all ss held []) (sym emptied) (left_out names all (slots was) held at one s.1 there f)),
    name_taken (length all) all held one one f ∙ ap (λ b. cond b (Ok held) (Err (NameHeld one.name))) (λ i. kinds_same one.kind one.kind refl i && same_itself one.body i),
  )

  -- it was taken before
  pub taken_before : slot_at (slots was) at ≡ None → Stands names all waiting held [] × (placed_within (suc (length all)) all held one ≡ Ok held)
  taken_before e = left_alone (elim (slot_covered held [] all (slots was) at one s.1.covered e there) [ inl f ↦ f | inr x ↦ absurd x ])

  -- what is taken now is it
  taken_now : (r : Record) → slot_at (slots was) at ≡ Some r → r ≡ one
  taken_now r e = let k = sym (slot_is held [] all (slots was) at r s.1.covered e) ∙ there in cc k

  module _ (r : Record) (taken : slot_at (slots was) at ≡ Some r) where
    -- it is held
    pub held_already : (k : Kind) (body : Bytes) → Some (k, body) ≡ option_map object_of (record_named held r.name) → (k ≡ r.kind) × (body ≡ r.body) → Stands names all waiting held [] × (placed_within (suc (length all)) all held one ≡ Ok held)
    held_already k body e same =
        let h = is_shown held r.name k body e in
        let is : h.held ≡ r = λ i. record { name = h.named i; kind = (h.of_kind ∙ same.0) i; body = (h.of_body ∙ same.1) i } in
        left_alone (subst (λ (x : Record). record_named held x.name ≡ Some x) (taken_now r taken) (h.found ∙ ap Some is))

    -- another object is held under its name
    pub other_held : (k : Kind) (body : Bytes) → Some (k, body) ≡ option_map object_of (record_named held r.name) → ((k ≡ r.kind) × (body ≡ r.body) → ⊥)
        → ⊤ × ((x : Record) × (slice_get all at ≡ Some x) × (placed_within (suc (length all)) all held one ≡ Err (NameHeld x.name)))
    other_held k body e differ =
        let h = is_shown held r.name k body e in
        let z = taken_now r taken in
        let no : same_object h.held r ≡ false = false_from_ne_true (same_object h.held r) (λ t.
        let same = one_record h.held r h.named t in
        differ (sym h.of_kind ∙ ap (λ (x : Record). x.kind) same, sym h.of_body ∙ ap (λ (x : Record). x.body) same)) in (
          tt,
          (
            one,
            there,
            subst (λ (x : Record). placed_within (suc (length all)) all held x ≡ Err (NameHeld x.name)) z
                (name_taken (length all) all held r h.held h.found ∙ ap (λ b. cond b (Ok held) (Err (NameHeld r.name))) no),
          ),
        )

    -- it isn't well
    pub new_bad : (fault : PlaceFault) (result : Result X PlaceFault) → result ≡ Err fault → None ≡ option_map object_of (record_named held r.name) → Begins {A = A} at r (Err fault)
        → StandsOn names all waiting held [] result × Answers all (placed_within (suc (length all)) all held one) held result
    new_bad fault result e free b = subst (λ x. StandsOn names all waiting held [] x × Answers all (placed_within (suc (length all)) all held one) held x) (sym e) (by fault b)
      where
        by : (f : PlaceFault) → Begins {A = A} at r (Err f) → StandsOn names all {X = X} waiting held [] (Err f) × Answers {X = X} all (placed_within (suc (length all)) all held one) held (Err f)
        by place.OutOfMemory b = (tt, tt)
        by (place.Object p f) b = (
          tt,
          (
            one,
            ap (slice_get all) b.1 ∙ there,
            subst (λ (x : Record). placed_within (suc (length all)) all held x ≡ Err (take_fault f x.name)) (taken_now r taken)
                (begins_badly (length all) all held r (none_got held r.name free) b.0 ∙ ap (λ (x : ObjectFault). Err (take_fault x r.name)) (sym b.2)),
          ),
        )

    -- it is new
    pub new_step : {Y : Type 0} (later : Waiting A) (now : List Record) (new : Begun) (result : Result Y PlaceFault) → None ≡ option_map object_of (record_named held r.name) → (is_body r.kind r.body ≡ true) × (new ≡ begun_at at r)
        → AllByRecursion (λ (before : Record). record_named held before.name ≡ Some before) (take at all) → Steps names all waiting later held now (new ∷ []) [] result
        → StandsOn names all later now [] result × Answers all (placed_within (suc (length all)) all held one) now result
    new_step {Y = Y} later now new result free b front steps =
        let unheld = none_got held r.name free in
        let begun_so = begins names all (slots was) held (begun_at at r) s.1 taken unheld front b.0 refl refl in
        let stands : Stands names all waiting held (begun_at at r ∷ []) = (still_first all was waiting places s.0, subst (λ ss. IsMachine names all ss held (begun_at at r ∷ [])) (sym emptied) begun_so) in
        let go = subst (λ (x : Begun). Steps names all waiting later held now (x ∷ []) [] result) b.1 steps stands in
        by result go (ap (λ (x : Record). placed_within (suc (length all)) all held x) (sym (taken_now r taken)) ∙ begins_well (length all) all held r unheld b.0)
      where
        by : (q : Result Y PlaceFault) → StandsOn names all later now [] q × GoesOn names all (begun_at at r ∷ []) [] held now q → placed_within (suc (length all)) all held one ≡ resumed (suc (length all)) all (begun_at at r ∷ []) held
            → StandsOn names all later now [] q × Answers all (placed_within (suc (length all)) all held one) now q
        by (Ok x) g e = (g.0, e ∙ g.1)
        by (Err place.OutOfMemory) g e = (tt, tt)
        by (Err (place.Object p f)) g e = (tt, (g.1.0, g.1.1, e ∙ g.1.2))

-- ---- all objects

-- what is known before the object at a place
pub record AreSoFar {A : Type 0} (names : Kind → Bytes → Bytes) (all held : List Record) (waiting : Waiting A) (now : List Record) (at : ℕ) : Type 0 where
  pub stands : Stands names all waiting now []
  pub front : AllByRecursion (λ (before : Record). record_named now before.name ≡ Some before) (take at all)
  pub goes : placed_in_order all (drop at all) now ≡ placed_all all held

is_given : (all : List Record) (at : ℕ) → at < length all → (one : Record) × (slice_get all at ≡ Some one)
is_given [] at e = absurd (omega (arith, e))
is_given (r ∷ all) zero e = (r, refl)
is_given (r ∷ all) (suc at) e = is_given all at (omega (arith, e))

any_record : (rs : List Record) → AllByRecursion (λ (r : Record). ⊤) rs
any_record [] = tt
any_record (r ∷ rs) = (tt, any_record rs)

module _ {A : Type 0} (X : Type 0) (names again : Kind → Bytes → Bytes) (all held : List Record) (was waiting : Waiting A) (now next : List Record) (at : ℕ) (same : again ≡ names) (within : at < length all) where
  pub placed_step : (result : Result X PlaceFault) → (x : X) → result ≡ Ok x → AreSoFar names all held was now at → Extends now next → PlacesAt again all was waiting now next at result → AreSoFar names all held waiting next (at + 1)
  placed_step result x e known more h =
      let one = is_given all at within in
      let done = subst (λ q. PlacesAt again all was waiting now next at q) e h one.0 one.1 known.front (subst (λ (n : Kind → Bytes → Bytes). Stands n all was now []) (sym same) known.stands) in
      let cut = parted all at (at + 1) one.0 refl one.1 in
      let there = (one_grows (suc (length all)) all (λ (r : Record). ⊤) (any_record all) now one.0 next tt done.1).1 in
      record {
        stands = subst (λ (n : Kind → Bytes → Bytes). Stands n all waiting next []) same done.0;
        front = subst (AllByRecursion (λ (before : Record). record_named next before.name ≡ Some before)) (sym cut.1)
            (all_snoc (λ (before : Record). record_named next before.name ≡ Some before) (take at all) one.0
            (all_then (λ b k. ap (λ rs. record_named rs b.name) more.1 ∙ found_still now more.0 b.name b k) (take at all) known.front) there);
        goes = ap (λ (r : Placed). r >>= placed_in_order all (drop (at + 1) all)) (sym done.1) ∙ ap (λ rs. placed_in_order all rs now) (sym cut.0) ∙ known.goes;
      }

  pub placed_fault : (result : Result X PlaceFault) (f : PlaceFault) → result ≡ Err f → AreSoFar names all held was now at → PlacesAt again all was waiting now next at result → Places {X = X} all held next (Err f)
  placed_fault result f e known h =
      let one = is_given all at within in
      let done = subst (λ q. PlacesAt again all was waiting now next at q) e h one.0 one.1 known.front (subst (λ (n : Kind → Bytes → Bytes). Stands n all was now []) (sym same) known.stands) in
      let cut = parted all at (at + 1) one.0 refl one.1 in
      by one.0 f done.1 (sym known.goes ∙ ap (λ rs. placed_in_order all rs now) cut.0)
    where
      by : (one : Record) (f : PlaceFault) → Answers {X = X} all (placed_within (suc (length all)) all now one) next (Err f) → placed_all all held ≡ (placed_within (suc (length all)) all now one >>= placed_in_order all (drop (at + 1) all))
          → Places {X = X} all held next (Err f)
      by one place.OutOfMemory g k = tt
      by one (place.Object p q) g k = (g.0, g.1, k ∙ ap (λ (r : Placed). r >>= placed_in_order all (drop (at + 1) all)) g.2)

pub none_so_far : {A : Type 0} (names : Kind → Bytes → Bytes) (all held : List Record) (waiting : Waiting A) → AreNamed names all → slots waiting ≡ map Some all → IsIndexed all waiting → AreSoFar names all held waiting held 0
none_so_far names all held waiting n t i = record {
  stands = (i, subst (λ ss. IsMachine names all ss held []) (sym t) (at_first names all held n));
  front = tt;
  goes = refl;
}

pub all_so_far : {A : Type 0} (names : Kind → Bytes → Bytes) (all held : List Record) (waiting : Waiting A) (now : List Record) (at : ℕ) → at ≡ length all → AreSoFar names all held waiting now at → placed_all all held ≡ Ok now
all_so_far names all held waiting now at e known = sym known.goes ∙ ap (λ rs. placed_in_order all rs now) (ap (λ n. drop n all) e ∙ none all)
  where
    none : (rs : List Record) → drop (length rs) rs ≡ []
    none [] = refl
    none (r ∷ rs) = none rs

-- ---- what stays

pub empty_list : {X : Type 0} (xs : List X) → length xs ≡ 0 → xs ≡ []
empty_list [] e = refl
empty_list (x ∷ xs) e = absurd (omega (arith, e))

-- as many as stood before stand in front
pub front_kept : (old new : List Record) (n : ℕ) → n ≡ length old → Extends old new → take n new ≡ old
front_kept old new n e h = ap (λ k. take k new) e ∙ ap (take (length old)) h.1 ∙ front old h.0
  where
    front : (xs ys : List Record) → take (length xs) (xs ++ ys) ≡ xs
    front [] ys = refl
    front (x ∷ xs) ys = ap (λ v. x ∷ v) (front xs ys)
