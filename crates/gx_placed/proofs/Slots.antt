-- Slots, links and places as the code reads them.
use Rattle.std.proofs.Common.{◌≡◌, ℕ, zero, suc, ◌+◌, true, false, cond, sym, ap, ◌∙◌, refl, subst, List, [], ◌∷◌, ◌++◌, drop, length, map, set, take, Option, Some, None, inl, inr, arith}
use Rattle.std.specs.List.{slice_get}
use Rattle.std.specs.Option.{option_map}
use Rattle.std.specs.Ordering.{is_eq, ordering_reverse}
use Rattle.std.specs.declared.cmp.Ordering.{Ordering}
use Rattle.std.specs.declared.cmp.Ordering.TheVariants.{Less, Equal, Greater}
use Rattle.std.specs.Cmp.Lexicographic.{nat_list_cmp_total}
use Rattle.std.proofs.lemmas.Map.Lookups.{exact_bytes}
use Rattle.gx_model.specs.Texts.{Bytes, byte_cmp, same_bytes}
use Rattle.gx_model.specs.Histories.{Record}
use Rattle.gx_model.proofs.Histories.PathRuns.{other, same_itself}
use Rattle.gx_placed.specs.Machine.{place_in, slot_at}
use Rattle.gx_placed.proofs.Lookups.{one_or_two}

-- what stands at a place of a list, and what before and behind it
pub parted : {X : Type 0} (xs : List X) (i n : ℕ) (x : X) → n ≡ i + 1 → slice_get xs i ≡ Some x → (drop i xs ≡ x ∷ drop n xs) × (take n xs ≡ take i xs ++ x ∷ [])
parted [] i n x e h = absurd (cc)
parted (y ∷ xs) zero n x e h =
    let k : suc zero ≡ n = omega (arith, e) in
    let z : y ≡ x = cc h in
    subst (λ m. (y ∷ xs ≡ x ∷ drop m (y ∷ xs)) × (take m (y ∷ xs) ≡ x ∷ [])) k (ap (λ v. v ∷ xs) z, ap (λ v. v ∷ []) z)
parted (y ∷ xs) (suc i) n x e h =
    let k : suc (i + 1) ≡ n = omega (arith, e) in
    let it = parted xs i (i + 1) x refl h in
    subst (λ m. (drop i xs ≡ x ∷ drop m (y ∷ xs)) × (take m (y ∷ xs) ≡ (y ∷ take i xs) ++ x ∷ [])) k (it.0, ap (λ v. y ∷ v) it.1)

-- a slot by the list of which it is a view
pub slot_of : {X : Type 0} (view : Option X → Option Record) (xs : List (Option X)) (i : ℕ) (x : Option X) → slice_get xs i ≡ Some x → slot_at (map view xs) i ≡ view x
slot_of view [] i x e = absurd (cc)
slot_of view (y ∷ xs) zero x e = let z : y ≡ x = cc e in ap view z
slot_of view (y ∷ xs) (suc i) x e = slot_of view xs i x e

pub no_slot : {X : Type 0} (view : Option X → Option Record) (xs : List (Option X)) (i : ℕ) → slice_get xs i ≡ None → slot_at (map view xs) i ≡ None
no_slot view [] i e = refl
no_slot view (y ∷ xs) zero e = absurd (cc)
no_slot view (y ∷ xs) (suc i) e = no_slot view xs i e

pub map_set : {X Y : Type 0} (f : X → Y) (xs : List X) (i : ℕ) (x : X) → map f (set xs i x) ≡ set (map f xs) i (f x)
map_set f [] i x = refl
map_set f (y ∷ xs) zero x = refl
map_set f (y ∷ xs) (suc i) x = ap (λ v. f y ∷ v) (map_set f xs i x)

-- an empty slot stays as it is
pub set_none : (slots : List (Option Record)) (i : ℕ) → slot_at slots i ≡ None → set slots i None ≡ slots
set_none [] i e = refl
set_none (s ∷ slots) zero e = ap (λ v. v ∷ slots) (sym e)
set_none (s ∷ slots) (suc i) e = ap (λ v. s ∷ v) (set_none slots i e)

-- ---- tables of places

itself : (x : Bytes) → byte_cmp x x ≡ Equal
itself x = by (byte_cmp x x) (nat_list_cmp_total.antisymm x x)
  where
    by : (o : Ordering) → o ≡ ordering_reverse o → o ≡ Equal
    by Less e = absurd (cc)
    by Equal e = refl
    by Greater e = absurd (cc)

differs : (x y : Bytes) → same_bytes y x ≡ false → is_eq (byte_cmp x y) ≡ false
differs x y e = by (byte_cmp x y) refl
  where
    by : (o : Ordering) → byte_cmp x y ≡ o → is_eq o ≡ false
    by Less k = refl
    by Greater k = refl
    by Equal k = absurd (other y x e (sym (exact_bytes x y k)))

-- a table of the names from a place on, with one more name in front
pub put_first : (given : List Record) (i n : ℕ) (r : Record) (x : Bytes) (now was : Option ℕ) → n ≡ i + 1 → slice_get given i ≡ Some r → now ≡ cond (is_eq (byte_cmp r.name x)) (Some i) was
    → was ≡ option_map (λ k. k + n) (place_in (drop n given) x) → now ≡ option_map (λ k. k + i) (place_in (drop i given) x)
put_first given i n r x now was s e u w =
    elim (one_or_two x r.name) [
      | inl same ↦
          (let here : is_eq (byte_cmp r.name x) ≡ true = ap (λ y. is_eq (byte_cmp r.name y)) same ∙ ap is_eq (itself r.name) in
          let first : place_in (r ∷ drop n given) x ≡ Some zero = ap (λ b. cond b (Some zero) (option_map suc (place_in (drop n given) x))) (ap (λ y. same_bytes y r.name) same ∙ same_itself r.name) in
          let z : i ≡ 0 + i = omega arith in
          u ∙ ap (λ b. cond b (Some i) was) here ∙ ap Some z ∙ ap (option_map (λ k. k + i)) (sym first) ∙ ap (λ ds. option_map (λ k. k + i) (place_in ds x)) (sym (parted given i n r s e).0))
      | inr apart ↦
          (let later : place_in (r ∷ drop n given) x ≡ option_map suc (place_in (drop n given) x) = ap (λ b. cond b (Some zero) (option_map suc (place_in (drop n given) x))) apart in
          u ∙ ap (λ b. cond b (Some i) was) (differs r.name x apart) ∙ w ∙ by (place_in (drop n given) x) ∙ ap (option_map (λ k. k + i)) (sym later) ∙ ap (λ ds. option_map (λ k. k + i) (place_in ds x)) (sym (parted given i n r s e).0))
    ]
  where
    by : (o : Option ℕ) → option_map (λ k. k + n) o ≡ option_map (λ k. k + i) (option_map suc o)
    by None = refl
    by (Some k) = let z : k + n ≡ suc k + i = omega (arith, s) in ap Some z

pub from_start : (given : List Record) (x : Bytes) → option_map (λ k. k + 0) (place_in (drop 0 given) x) ≡ place_in given x
from_start given x = by (place_in given x)
  where
    by : (o : Option ℕ) → option_map (λ k. k + 0) o ≡ o
    by None = refl
    by (Some k) = let z : k + 0 ≡ k = omega arith in ap Some z

-- ---- at first

-- each object in a slot of its own
pub all_slots : {X : Type 0} (f : X → Record) (slots : List (Option X)) (xs ys : List X) → slots ≡ map Some xs → map (λ y. y) xs ≡ ys → map (option_map f) slots ≡ map Some (map f ys)
all_slots {X = X} f slots xs ys e h = ap (map (option_map f)) e ∙ view xs ∙ ap (λ zs. map Some (map f zs)) (sym (itself_all xs) ∙ h)
  where
    view : (zs : List X) → map (option_map f) (map Some zs) ≡ map Some (map f zs)
    view [] = refl
    view (z ∷ zs) = ap (λ v. Some (f z) ∷ v) (view zs)

    itself_all : (zs : List X) → map (λ y. y) zs ≡ zs
    itself_all [] = refl
    itself_all (z ∷ zs) = ap (λ v. z ∷ v) (itself_all zs)

pub as_many : (given : List Record) → length (map Some given) ≡ length given
as_many [] = refl
as_many (r ∷ given) = ap suc (as_many given)
