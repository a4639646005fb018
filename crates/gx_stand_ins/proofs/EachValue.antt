-- A map whose values are each changed by a function: what is put, found and left out goes along.
use Rattle.std.proofs.Common.{◌≡◌, Bool, true, false, cond, List, [], ◌∷◌, map, Some, refl, ap}
use Rattle.std.specs.Prelude.{◌&&◌}
use Rattle.std.specs.List.{filter, list_all}
use Rattle.std.specs.Option.{option_map}
use Rattle.std.specs.Map.{lookup}
use Rattle.std.specs.FinMap.Entries.{by_order, put}
use Rattle.std.specs.declared.cmp.Ordering.{Ordering}
use Rattle.std.specs.declared.cmp.Ordering.TheVariants.{Less, Equal, Greater}

module _ {K X Y : Type 0} (g : X → Y) where
  -- the same keys
  abbrev pub each : List (K × X) → List (K × Y)
  each es = map (λ e. (e.0, g e.1)) es

  pub each_put : (order : K → K → Ordering) (k : K) (x : X) (es : List (K × X)) → put order k (g x) (each es) ≡ each (put order k x es)
  each_put order k x [] = refl
  each_put order k x (e ∷ es) =
      elim (order k e.0) as (λ o. by_order o ((k, g x) ∷ each (e ∷ es)) ((e.0, g x) ∷ each es) ((e.0, g e.1) ∷ put order k (g x) (each es)) ≡ each (by_order o ((k, x) ∷ e ∷ es) ((e.0, x) ∷ es) (e ∷ put order k x es))) [
        | Less ↦ refl
        | Equal ↦ refl
        | Greater ↦ ap (λ z. (e.0, g e.1) ∷ z) (each_put order k x es)
      ]

  pub each_lookup : (t : K → Bool) (es : List (K × X)) → lookup t (each es) ≡ option_map g (lookup t es)
  each_lookup t [] = refl
  each_lookup t (e ∷ es) = elim (t e.0) as (λ b. cond b (Some (g e.1)) (lookup t (each es)) ≡ option_map g (cond b (Some e.1) (lookup t es))) [ true ↦ refl | false ↦ each_lookup t es ]

  pub each_filter : (t : K → Bool) (es : List (K × X)) → filter (λ e. t e.0) (each es) ≡ each (filter (λ e. t e.0) es)
  each_filter t [] = refl
  each_filter t (e ∷ es) = elim (t e.0) as (λ b. cond b ((e.0, g e.1) ∷ filter (λ e. t e.0) (each es)) (filter (λ e. t e.0) (each es)) ≡ each (cond b (e ∷ filter (λ e. t e.0) es) (filter (λ e. t e.0) es))) [
    | true ↦ ap (λ z. (e.0, g e.1) ∷ z) (each_filter t es)
    | false ↦ each_filter t es
  ]

  pub each_all : (t : K → Bool) (es : List (K × X)) → list_all (λ e. t e.0) (each es) ≡ list_all (λ e. t e.0) es
  each_all t [] = refl
  each_all t (e ∷ es) = ap (λ b. t e.0 && b) (each_all t es)
