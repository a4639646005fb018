-- How objects that were begun go on: by one link, by an object that is needed, or with the last one done.
use Rattle.std.proofs.Common.{◌≡◌, ℕ, zero, suc, ◌+◌, true, false, cond, sym, ap, ◌∙◌, refl, subst, List, [], ◌∷◌, ◌++◌, length, Option, Some, None, arith}
use Rattle.std.specs.Prelude.{if◌then◌else◌, Ok, Err, Result}
use Rattle.gx_model.specs.declared.objects.Kind.{Kind}
use Rattle.gx_model.specs.Texts.{Bytes}
use Rattle.gx_model.specs.Faults.{◌>>=◌}
use Rattle.gx_model.specs.Histories.{Record}
use Rattle.gx_model.specs.Records.Growth.{record_named, same_kind, same_object}
use Rattle.gx_model.specs.Records.RecordFaults.{is_bad_below, is_body, is_held, is_of_kind}
use Rattle.gx_model.proofs.Records.HeldObjects.{named_so}
use Rattle.gx_wide.specs.Placing.{BadObject, Dangling, NameHeld, Placed, TakeFault, link_placed, links_placed, put_last, wide_links}
use Rattle.gx_placed.specs.Placed.{others, placed_within}
use Rattle.gx_placed.specs.Machine.{Begun, beside, finished, looked_at, resumed}

-- ---- steps

pub in_turn : {A B C E : Type 0} (r : Result A E) (f : A → Result B E) (g : B → Result C E) → (r >>= f >>= g) ≡ (r >>= λ x. f x >>= g)
in_turn (Ok x) f g = refl
in_turn (Err e) f g = refl

-- as many steps are left above those that were begun
abbrev pub left_of : ℕ → List Begun → ℕ
left_of n [] = n
left_of zero (one ∷ below) = zero
left_of (suc n) (one ∷ below) = left_of n below

pub left_is : (n k : ℕ) (below : List Begun) → n ≡ length below + k → left_of n below ≡ k
left_is n k [] e = omega (arith, e)
left_is zero k (one ∷ below) e = absurd (omega (arith, e))
left_is (suc n) k (one ∷ below) e = left_is n k below (omega (arith, e))

-- where those above go on alike, all do
pub resumed_alike : (n : ℕ) (given : List Record) (below fs gs : List Begun) (held now : List Record) → resumed (left_of n below) (beside given below) fs held ≡ resumed (left_of n below) (beside given below) gs now
    → resumed n given (below ++ fs) held ≡ resumed n given (below ++ gs) now
resumed_alike n given [] fs gs held now e = e
resumed_alike zero given (one ∷ below) fs gs held now e = refl
resumed_alike (suc n) given (one ∷ below) fs gs held now e = ap (λ (r : Placed). r >>= finished n (others one.new.name given) one) (resumed_alike n (others one.new.name given) below fs gs held now e)

-- where those above end with a fault, all do
pub resumed_ends : (n k : ℕ) (given : List Record) (below fs : List Begun) (held : List Record) (f : TakeFault) → n ≡ length below + k → resumed k (beside given below) fs held ≡ Err f
    → resumed n given (below ++ fs) held ≡ Err f
resumed_ends n k given [] fs held f s e = subst (λ j. resumed j given fs held ≡ Err f) (let z : k ≡ n = omega (arith, s) in z) e
resumed_ends zero k given (one ∷ below) fs held f s e = absurd (omega (arith, s))
resumed_ends (suc n) k given (one ∷ below) fs held f s e =
    ap (λ (r : Placed). r >>= finished n (others one.new.name given) one) (resumed_ends n k (others one.new.name given) below fs held f (omega (arith, s)) e)

-- the others beside one more
pub beside_last : (given : List Record) (below : List Begun) (one : Begun) → beside given (below ++ one ∷ []) ≡ others one.new.name (beside given below)
beside_last given [] one = refl
beside_last given (b ∷ below) one = beside_last (others b.new.name given) below one

-- ---- a link

module _ (step : List Record → Record → Placed) (given : List Record) (from : Bytes) (link : Kind × Bytes) (held : List Record) where
  -- by what is given, and by what is held
  abbrev pub through_given : Option Record → Placed
  through_given found = elim found [ None ↦ Err (Dangling from link.1) | Some new ↦ if same_kind new.kind link.0 then step held new else Err (Dangling from link.1) ]

  abbrev pub through : Option Record → Placed
  through found = elim found [ None ↦ through_given (record_named given link.1) | Some known ↦ if same_kind known.kind link.0 then Ok held else Err (Dangling from link.1) ]

  -- a link that is held
  pub held_link : is_held held link.0 link.1 ≡ true → link_placed step given from link held ≡ Ok held
  held_link e = by (record_named held link.1) e
    where
      by : (o : Option Record) → is_of_kind link.0 o ≡ true → through o ≡ Ok held
      by None f = absurd (cc)
      by (Some r) f = ap (λ b. cond b (Ok held) (Err (Dangling from link.1))) f

  -- a link that is held as another kind
  pub bad_link : (r : Record) → record_named held link.1 ≡ Some r → same_kind r.kind link.0 ≡ false → link_placed step given from link held ≡ Err (Dangling from link.1)
  bad_link r e k = ap through e ∙ ap (λ b. cond b (Ok held) (Err (Dangling from link.1))) k

  -- a link that is neither held nor given
  pub no_link : record_named held link.1 ≡ None → record_named given link.1 ≡ None → link_placed step given from link held ≡ Err (Dangling from link.1)
  no_link e g = ap through e ∙ ap through_given g

  -- a link that isn't held, and is given
  pub given_link : (r : Record) → record_named held link.1 ≡ None → record_named given link.1 ≡ Some r → link_placed step given from link held ≡ (if same_kind r.kind link.0 then step held r else Err (Dangling from link.1))
  given_link r e g = ap through e ∙ ap through_given g

-- ---- an object

module _ (n : ℕ) (given held : List Record) (new : Record) where
  -- by what is held under its name
  abbrev pub after_links : Placed
  after_links = links_placed (placed_within n (others new.name given)) (others new.name given) new.name (wide_links new.kind new.body) held >>= put_last new

  abbrev pub by_name : Option Record → Placed
  by_name found = elim found [
    | None ↦ if is_body new.kind new.body then after_links else Err (BadObject new.name)
    | Some known ↦ if same_object known new then Ok held else Err (NameHeld new.name)
  ]

  pub unfolded : placed_within (suc n) given held new ≡ by_name (record_named held new.name)
  unfolding placed_within
  unfolded = refl

  -- an object that isn't held, and whose body is one of its kind
  pub begins_well : record_named held new.name ≡ None → is_body new.kind new.body ≡ true → placed_within (suc n) given held new ≡ after_links
  begins_well e b = unfolded ∙ ap by_name e ∙ ap (λ t. cond t after_links (Err (BadObject new.name))) b

  -- ... or isn't
  pub begins_badly : record_named held new.name ≡ None → is_body new.kind new.body ≡ false → placed_within (suc n) given held new ≡ Err (BadObject new.name)
  begins_badly e b = unfolded ∙ ap by_name e ∙ ap (λ t. cond t after_links (Err (BadObject new.name))) b

  -- an object whose name is held
  pub name_taken : (known : Record) → record_named held new.name ≡ Some known → placed_within (suc n) given held new ≡ (if same_object known new then Ok held else Err (NameHeld new.name))
  name_taken known e = unfolded ∙ ap by_name e

-- ---- the last object goes on

module _ (n : ℕ) (given held : List Record) where
  -- by a link that is held
  pub over_link : (one : Begun) (link : Kind × Bytes) (left : List (Kind × Bytes)) → one.left ≡ link ∷ left → is_held held link.0 link.1 ≡ true
      → resumed n given (one ∷ []) held ≡ resumed n given (looked_at one link left ∷ []) held
  over_link one link left l e = by n
    where
      by : (m : ℕ) → resumed m given (one ∷ []) held ≡ resumed m given (looked_at one link left ∷ []) held
      by zero = refl
      by (suc m) =
          ap (λ ls. links_placed (placed_within m (others one.new.name given)) (others one.new.name given) one.new.name ls held >>= put_last one.new) l
          ∙ ap (λ (r : Placed). r >>= (λ now. links_placed (placed_within m (others one.new.name given)) (others one.new.name given) one.new.name left now) >>= put_last one.new)
          (held_link (placed_within m (others one.new.name given)) (others one.new.name given) one.new.name link held e)

  -- by an object that it needs
  pub into_link : (one : Begun) (link : Kind × Bytes) (left : List (Kind × Bytes)) (new : Begun) → one.left ≡ link ∷ left → record_named held link.1 ≡ None → record_named (others one.new.name given) link.1 ≡ Some new.new
      → same_kind new.new.kind link.0 ≡ true → is_body new.new.kind new.new.body ≡ true → new.left ≡ wide_links new.new.kind new.new.body
      → resumed (suc (suc n)) given (one ∷ []) held ≡ resumed (suc (suc n)) given (looked_at one link left ∷ new ∷ []) held
  into_link one link left new l e g k b w =
      let rest : List Record = others one.new.name given in
      let called : new.new.name ≡ link.1 = named_so rest link.1 new.new g in
      let free : record_named held new.new.name ≡ None = ap (record_named held) called ∙ e in
      ap (λ ls. links_placed (placed_within (suc n) rest) rest one.new.name ls held >>= put_last one.new) l
      ∙ ap (λ (r : Placed). r >>= (λ now. links_placed (placed_within (suc n) rest) rest one.new.name left now) >>= put_last one.new)
      (given_link (placed_within (suc n) rest) rest one.new.name link held new.new e g
      ∙ ap (λ t. cond t (placed_within (suc n) rest held new.new) (Err (Dangling one.new.name link.1))) k
      ∙ begins_well n rest held new.new free b
      ∙ ap (λ ls. links_placed (placed_within n (others new.new.name rest)) (others new.new.name rest) new.new.name ls held >>= put_last new.new) (sym w))
      ∙ in_turn (links_placed (placed_within n (others new.new.name rest)) (others new.new.name rest) new.new.name new.left held >>= put_last new.new)
      (λ now. links_placed (placed_within (suc n) rest) rest one.new.name left now) (put_last one.new)

  -- to its end
  pub to_end : (one : Begun) → one.left ≡ [] → is_bad_below held one.new.kind one.new.body ≡ false → resumed (suc n) given (one ∷ []) held ≡ Ok (held ++ one.new ∷ [])
  to_end one l b =
      ap (λ ls. links_placed (placed_within n (others one.new.name given)) (others one.new.name given) one.new.name ls held >>= put_last one.new) l
      ∙ ap (λ t. cond t (Err (BadObject one.new.name)) (Ok (held ++ one.new ∷ []))) b

  -- or to a fault: below it all isn't well,
  pub bad_end : (one : Begun) → one.left ≡ [] → is_bad_below held one.new.kind one.new.body ≡ true → resumed (suc n) given (one ∷ []) held ≡ Err (BadObject one.new.name)
  bad_end one l b =
      ap (λ ls. links_placed (placed_within n (others one.new.name given)) (others one.new.name given) one.new.name ls held >>= put_last one.new) l
      ∙ ap (λ t. cond t (Err (BadObject one.new.name)) (Ok (held ++ one.new ∷ []))) b

  -- a link dangles,
  pub dangling_end : (one : Begun) (link : Kind × Bytes) (left : List (Kind × Bytes)) (f : TakeFault) → one.left ≡ link ∷ left
      → link_placed (placed_within n (others one.new.name given)) (others one.new.name given) one.new.name link held ≡ Err f → resumed (suc n) given (one ∷ []) held ≡ Err f
  dangling_end one link left f l e =
      ap (λ ls. links_placed (placed_within n (others one.new.name given)) (others one.new.name given) one.new.name ls held >>= put_last one.new) l
      ∙ ap (λ (r : Placed). r >>= (λ now. links_placed (placed_within n (others one.new.name given)) (others one.new.name given) one.new.name left now) >>= put_last one.new) e
