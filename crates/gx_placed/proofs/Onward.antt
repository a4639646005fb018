-- How all go on from one step to the next, and how they end with a fault.
use Rattle.std.proofs.Common.{◌≡◌, ℕ, suc, ◌+◌, ◌-◌, ◌<◌, true, false, cond, sym, ap, ◌∙◌, refl, subst, List, [], ◌∷◌, ◌++◌, length, set, Option, Some, None, arith, append-nil, length-append}
use Rattle.std.specs.Prelude.{Err}
use Rattle.std.specs.Option.{option_and_then, option_map}
use Rattle.gx_model.specs.declared.objects.Kind.{Kind}
use Rattle.gx_model.specs.Texts.{Bytes}
use Rattle.gx_model.specs.Histories.{Record}
use Rattle.gx_model.specs.Records.Growth.{record_named, same_kind}
use Rattle.gx_model.specs.Records.RecordFaults.{is_bad_below, is_body, is_held}
use Rattle.gx_wide.specs.Placing.{BadObject, Dangling, Placed, TakeFault, link_placed}
use Rattle.gx_placed.specs.Placed.{others, placed_within}
use Rattle.gx_placed.specs.Machine.{Begun, IsLacking, IsMachine, begun_at, beside, looked_at, object_at, place_in, resumed, slot_at, waits, work, work_begun, work_left}
use Rattle.gx_placed.proofs.Lookups.{waits_at}
use Rattle.gx_placed.proofs.Machines.{needed, unneeded, weight_emptied}
use Rattle.gx_placed.proofs.Resumes.{bad_end, bad_link, begins_badly, dangling_end, given_link, into_link, left_is, no_link, over_link, resumed_alike, resumed_ends, to_end}

-- an object with its place
abbrev with_place : ℕ → Option Record → Option (ℕ × Record)
with_place p o = option_map (λ one. (p, one)) o

-- what is found at a place
pub found_at : (slots : List (Option Record)) (place : Option ℕ) (p : ℕ) (r : Record) → option_and_then (object_at slots) place ≡ Some (p, r) → (place ≡ Some p) × (slot_at slots p ≡ Some r)
found_at slots None p r e = absurd (cc)
found_at slots (Some q) p r e = by (slot_at slots q) refl e
  where
    by : (o : Option Record) → slot_at slots q ≡ o → with_place q o ≡ Some (p, r) → ◌≡◌ {A = Option ℕ} (Some q) (Some p) × (slot_at slots p ≡ Some r)
    by None f g = absurd (cc)
    by (Some s) f g =
        let z : ◌≡◌ {A = ℕ × Record} (q, s) (p, r) = cc g in
        (ap (λ (x : ℕ × Record). Some x.0) z, ap (slot_at slots) (ap (λ (x : ℕ × Record). x.0) (sym z)) ∙ f ∙ ap (λ (x : ℕ × Record). Some x.1) z)

pub found_none : (given : List Record) (slots : List (Option Record)) (n : Bytes) → option_and_then (object_at slots) (place_in given n) ≡ None → waits given slots n ≡ None
found_none given slots n e = sym (waits_at given slots n) ∙ by (place_in given n) e
  where
    none : (q : ℕ) (o : Option Record) → with_place q o ≡ None → o ≡ None
    none q None f = refl
    none q (Some s) f = absurd (cc)

    by : (o : Option ℕ) → option_and_then (object_at slots) o ≡ None → option_and_then (slot_at slots) o ≡ None
    by None f = refl
    by (Some q) f = none q (slot_at slots q) f

module _ (names : Kind → Bytes → Bytes) (all : List Record) (slots : List (Option Record)) (held : List Record) (below : List Begun) (one : Begun) where
  steps_left : IsMachine names all slots held (below ++ one ∷ []) → suc (length all) ≡ length below + suc (length all - length below)
  steps_left m = let r = m.room in let a = length-append below (one ∷ []) in omega (arith, r, a)

  more_left : (p : ℕ) (r : Record) → slot_at slots p ≡ Some r → IsMachine names all slots held (below ++ one ∷ []) → suc (length all) ≡ length below + suc (suc (length all - length below - 1))
  more_left p r e m = let r = m.room in let a = length-append below (one ∷ []) in omega (arith, r, a)

  goes : (k : ℕ) (more : List Begun) (now : List Record) → suc (length all) ≡ length below + k → resumed k (beside all below) (one ∷ []) held ≡ resumed k (beside all below) more now
      → resumed (suc (length all)) all (below ++ one ∷ []) held ≡ resumed (suc (length all)) all (below ++ more) now
  goes k more now s e = resumed_alike (suc (length all)) all below (one ∷ []) more held now
      (subst (λ j. resumed j (beside all below) (one ∷ []) held ≡ resumed j (beside all below) more now) (sym (left_is (suc (length all)) k below s)) e)

  -- the last one stands at the end
  pub last_ok : IsMachine names all slots held (below ++ one ∷ []) → one.left ≡ [] → is_bad_below held one.new.kind one.new.body ≡ false
      → resumed (suc (length all)) all (below ++ one ∷ []) held ≡ resumed (suc (length all)) all below (held ++ one.new ∷ [])
  last_ok m l b =
      goes (suc (length all - length below)) [] (held ++ one.new ∷ []) (steps_left m) (to_end (length all - length below) (beside all below) held one l b)
      ∙ ap (λ bs. resumed (suc (length all)) all bs (held ++ one.new ∷ [])) (append-nil below)

  pub last_bad : IsMachine names all slots held (below ++ one ∷ []) → one.left ≡ [] → is_bad_below held one.new.kind one.new.body ≡ true → resumed (suc (length all)) all (below ++ one ∷ []) held ≡ Err (BadObject one.new.name)
  last_bad m l b = resumed_ends (suc (length all)) (suc (length all - length below)) all below (one ∷ []) held (BadObject one.new.name) (steps_left m) (bad_end (length all - length below) (beside all below) held one l b)

  -- a link is held
  pub over_ok : (link : Kind × Bytes) (left : List (Kind × Bytes)) → IsMachine names all slots held (below ++ one ∷ []) → one.left ≡ link ∷ left → is_held held link.0 link.1 ≡ true
      → resumed (suc (length all)) all (below ++ one ∷ []) held ≡ resumed (suc (length all)) all (below ++ looked_at one link left ∷ []) held
  over_ok link left m l e =
      goes (suc (length all - length below)) (looked_at one link left ∷ []) held (steps_left m) (over_link (suc (length all - length below)) (beside all below) held one link left l e)

  -- a link is begun
  pub into_ok : (link : Kind × Bytes) (left : List (Kind × Bytes)) (p : ℕ) (r : Record) → IsMachine names all slots held (below ++ one ∷ []) → one.left ≡ link ∷ left → record_named held link.1 ≡ None
      → place_in all link.1 ≡ Some p → slot_at slots p ≡ Some r → same_kind r.kind link.0 ≡ true → is_body r.kind r.body ≡ true
      → resumed (suc (length all)) all (below ++ one ∷ []) held ≡ resumed (suc (length all)) all (below ++ looked_at one link left ∷ begun_at p r ∷ []) held
  into_ok link left p r m l e f g k b =
      let need = needed names all slots held below one link p r m e f g in
      goes (suc (suc (length all - length below - 1))) (looked_at one link left ∷ begun_at p r ∷ []) held (more_left p r g m)
      (into_link (length all - length below - 1) (beside all below) held one link left (begun_at p r) l e need.2 k b refl)

  ends : (k : ℕ) (link : Kind × Bytes) (left : List (Kind × Bytes)) (f : TakeFault) → suc (length all) ≡ length below + suc k → one.left ≡ link ∷ left
      → link_placed (placed_within k (others one.new.name (beside all below))) (others one.new.name (beside all below)) one.new.name link held ≡ Err f → resumed (suc (length all)) all (below ++ one ∷ []) held ≡ Err f
  ends k link left f s l e = resumed_ends (suc (length all)) (suc k) all below (one ∷ []) held f s (dangling_end k (beside all below) held one link left f l e)

  pub into_bad : (link : Kind × Bytes) (left : List (Kind × Bytes)) (p : ℕ) (r : Record) → IsMachine names all slots held (below ++ one ∷ []) → one.left ≡ link ∷ left → record_named held link.1 ≡ None
      → place_in all link.1 ≡ Some p → slot_at slots p ≡ Some r → same_kind r.kind link.0 ≡ true → is_body r.kind r.body ≡ false → resumed (suc (length all)) all (below ++ one ∷ []) held ≡ Err (BadObject r.name)
  into_bad link left p r m l e f g k b =
      let need = needed names all slots held below one link p r m e f g in
      let j = length all - length below - 1 in
      let rest = others one.new.name (beside all below) in
      ends (suc j) link left (BadObject r.name) (more_left p r g m) l
      (given_link (placed_within (suc j) rest) rest one.new.name link held r e need.2
      ∙ ap (λ t. cond t (placed_within (suc j) rest held r) (Err (Dangling one.new.name link.1))) k
      ∙ begins_badly j rest held r (ap (record_named held) need.1 ∙ e) b)

  -- a link dangles
  pub lacks : (link : Kind × Bytes) (left : List (Kind × Bytes)) → IsMachine names all slots held (below ++ one ∷ []) → one.left ≡ link ∷ left
      → IsLacking (record_named held link.1) (option_and_then (object_at slots) (place_in all link.1)) link.0 → resumed (suc (length all)) all (below ++ one ∷ []) held ≡ Err (Dangling one.new.name link.1)
  lacks link left m l h =
      ends (length all - length below) link left (Dangling one.new.name link.1) (steps_left m) l
      (by (record_named held link.1) (option_and_then (object_at slots) (place_in all link.1)) refl refl h)
    where
      step : List Record → Record → Placed
      step = placed_within (length all - length below) (others one.new.name (beside all below))

      rest : List Record
      rest = others one.new.name (beside all below)

      by : (o : Option Record) (w : Option (ℕ × Record)) → record_named held link.1 ≡ o → option_and_then (object_at slots) (place_in all link.1) ≡ w → IsLacking o w link.0 → link_placed step rest one.new.name link held ≡ Err (Dangling one.new.name link.1)
      by (Some known) w e f g = bad_link step rest one.new.name link held known e g
      by None (Some w) e f g =
          let at = found_at slots (place_in all link.1) w.0 w.1 f in
          let need = needed names all slots held below one link w.0 w.1 m e at.0 at.1 in
          given_link step rest one.new.name link held w.1 e need.2 ∙ ap (λ t. cond t (step held w.1) (Err (Dangling one.new.name link.1))) g
      by None None e f g = no_link step rest one.new.name link held e (unneeded names all slots held below one link m e (found_none all slots link.1 f))

-- ---- how much is left to be done

work_more : (below more : List Begun) → work_begun (below ++ more) ≡ work_begun below + work_begun more
work_more [] more = omega arith
work_more (b ∷ below) more = let k = work_more below more in omega (arith, k)

module _ (slots : List (Option Record)) (below : List Begun) (one : Begun) where
  pub less_last : work_left slots below < work_left slots (below ++ one ∷ [])
  less_last = let k = work_more below (one ∷ []) in omega (arith, k)

  pub less_over : (link : Kind × Bytes) (left : List (Kind × Bytes)) → one.left ≡ link ∷ left → work_left slots (below ++ looked_at one link left ∷ []) < work_left slots (below ++ one ∷ [])
  less_over link left l =
      let k = work_more below (one ∷ []) in
      let j = work_more below (looked_at one link left ∷ []) in
      let n : length one.left ≡ suc (length left) = ap length l in
      omega (arith, k, j, n)

  pub less_into : (link : Kind × Bytes) (left : List (Kind × Bytes)) (p : ℕ) (r : Record) → one.left ≡ link ∷ left → slot_at slots p ≡ Some r
      → work_left (set slots p None) (below ++ looked_at one link left ∷ begun_at p r ∷ []) < work_left slots (below ++ one ∷ [])
  less_into link left p r l e =
      let k = work_more below (one ∷ []) in
      let j = work_more below (looked_at one link left ∷ begun_at p r ∷ []) in
      let n : length one.left ≡ suc (length left) = ap length l in
      let w = weight_emptied work slots p r e in
      omega (arith, k, j, n, w)
