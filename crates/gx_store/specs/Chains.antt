-- Chains of names by their fronts.
use Rattle.std.specs.Prelude.{◌≡◌, ℕ, ◌+◌, ◌*◌, ◌/◌, ◌<◌, ◌≤◌, Bool, ◌&&◌, List, [], ◌∷◌, ◌++◌, length, take, Some, nat_eq, nat_lt, slice_get, slice_index, vec_capacity, cond, suc, refl}
use Rattle.gx_model.specs.Texts.{Bytes}
use Rattle.gx_object.specs.declared.name.Name.{Name}
use Rattle.gx_store.specs.NameOrder.{is_within}
use Rattle.gx_store.specs.Prefixes.{picked}
use Rattle.gx_store.specs.declared.fronts.Fronts.{Fronts}
use Rattle.gx_store.specs.declared.prefix.Prefix.{Prefix}

-- the first four bytes of a name, as a number below 2^32
unfoldable pub front : Bytes → ℕ
front bytes = 16777216 * slice_index bytes 0 + 65536 * slice_index bytes 1 + 256 * slice_index bytes 2 + slice_index bytes 3

-- the chain of a name, of so many: the fronts are cut into parts that are alike in length
unfoldable pub chain_of : ℕ → Name → ℕ
chain_of chains name = front name.bytes * chains / 4294967296

abbrev pub is_in_chain : ℕ → ℕ → Name → Bool
is_in_chain chains chain name = nat_eq (chain_of chains name) chain

-- how many names there are up to the last that passes a test; 0 where none does
unfoldable pub up_to_last : (Name → Bool) → List Name → ℕ
up_to_last test [] = 0
up_to_last test (name ∷ names) = cond (nat_lt 0 (up_to_last test names)) (suc (up_to_last test names)) (cond (test name) 1 0)

-- each chain tells where its last name is, and each name where the last one before it in its chain is
pub record AreFronts {A : Type 0} (fronts : Fronts A) (names : List Name) : Type 0 where
  pub chains : length names ≤ length fronts.heads.items
  pub heads : (chain : ℕ) → chain < length fronts.heads.items → slice_index fronts.heads.items chain ≡ up_to_last (is_in_chain (length fronts.heads.items) chain) names
  pub long : length fronts.next.items ≡ length names
  pub next : (place : ℕ) (name : Name) → slice_get names place ≡ Some name
      → slice_index fronts.next.items place ≡ up_to_last (is_in_chain (length fronts.heads.items) (chain_of (length fronts.heads.items) name)) (take place names)
  pub room : length fronts.heads.items ≤ vec_capacity fronts.next

-- these are the names, in so many chains
abbrev pub AreFrontsIn : {A : Type 0} → ℕ → Fronts A → List Name → Type 0
AreFrontsIn chains fronts names = AreFronts fronts names × (length fronts.heads.items ≡ chains)

-- a name is put behind those that are there
abbrev pub PutsLast : {A : Type 0} → Fronts A → Fronts A → Name → Type 0
PutsLast old new name = (names : List Name) → AreFronts old names → AreFronts new (names ++ name ∷ [])

-- the last name is dropped
abbrev pub DropsLast : {A : Type 0} → Fronts A → Fronts A → Name → Type 0
DropsLast old new name = (names : List Name) → AreFronts old (names ++ name ∷ []) → AreFronts new names

-- what is found in a chain between two names, both included
abbrev pub found_in : {A : Type 0} → Fronts A → ℕ → Name × Name → List Name → Prefix
found_in fronts chain ends names = picked (λ name. is_in_chain (length fronts.heads.items) chain name && is_within ends.0.bytes ends.1.bytes name.bytes) names

-- ---- rows

abbrev row : ℕ → Name
row byte = record { bytes = byte ∷ 0 ∷ 0 ∷ 1 ∷ [] }

of_front : front (row 1).bytes ≡ 16777217
unfolding front
of_front = refl

of_chains : chain_of 8 (row 64) ≡ 2
unfolding front chain_of
of_chains = refl

of_three : up_to_last (is_in_chain 8 2) (row 64 ∷ row 95 ∷ row 96 ∷ []) ≡ 2
unfolding front chain_of up_to_last
of_three = refl

of_none : up_to_last (is_in_chain 8 4) (row 64 ∷ row 95 ∷ row 96 ∷ []) ≡ 0
unfolding front chain_of up_to_last
of_none = refl
