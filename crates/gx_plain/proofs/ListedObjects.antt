-- Objects that are listed, as the records that they are: their numbers are the places of records.
use Rattle.std.proofs.Common.{◌≡◌, ℕ, zero, suc, ◌+◌, ◌<◌, true, cond, List, [], ◌∷◌, length, map, Some, None, refl, sym, ap, ◌∙◌, arith}
use Rattle.std.specs.Prelude.{nat_lt, not}
use Rattle.std.specs.List.{position_or_len, slice_get}
use Rattle.std.proofs.lemmas.Bool.Decides.{nat_tests}
use Rattle.std.proofs.lemmas.List.{length-map}
use Rattle.std.proofs.lemmas.Option.{cond_some}
use Rattle.gx_model.specs.Texts.{Bytes, same_bytes}
use Rattle.gx_model.specs.Histories.{Record}
use Rattle.gx_store.specs.Stores.{place_named}
use Rattle.gx_listed.specs.Listings.{HaveHeads, Listed, head_of, number_named, shown_head}

same_position : (n : Bytes) (listed : List Listed) (rs : List Record) → HaveHeads listed rs → position_or_len (λ one. same_bytes n one.0.bytes) listed ≡ position_or_len (λ held. same_bytes n held.name) rs
same_position n [] [] h = refl
same_position n [] (r ∷ rs) h = absurd (cc)
same_position n (o ∷ os) [] h = absurd (cc)
same_position n (o ∷ os) (r ∷ rs) h =
    let one : shown_head o ≡ head_of r = cc in
    let more : map shown_head os ≡ map head_of rs = cc in
    let rest = same_position n os rs more in
    λ i. cond (not (same_bytes n (one i).name)) (1 + rest i) 0

-- as many are listed as there are records
pub same_length : (listed : List Listed) (rs : List Record) → HaveHeads listed rs → length listed ≡ length rs
same_length listed rs h = sym (length-map listed shown_head) ∙ ap length h ∙ length-map rs head_of

-- the number of a name is the place of its record
pub number_is : (n : Bytes) (listed : List Listed) (rs : List Record) → HaveHeads listed rs → number_named listed n ≡ place_named rs n
number_is n listed rs h =
    let at = same_position n listed rs h in
    let long = same_length listed rs h in
    λ i. cond (nat_lt (at i) (long i)) (Some (at i)) None

-- the number of a name is one of those that are listed
pub within_listed : (listed : List Listed) (n : Bytes) (i : ℕ) → Some i ≡ number_named listed n → i < length listed
within_listed listed n i e =
    let k = position_or_len (λ one. same_bytes n one.0.bytes) listed in
    let q = cond_some (nat_lt k (length listed)) k i (sym e) in
    let l : nat_lt k (length listed) ≡ true = q.0 in
    let m : k ≡ i = q.1 in
    grind (arith, nat_tests)

-- what is listed under a number is the record of that place
pub record_listed : (listed : List Listed) (rs : List Record) (k : ℕ) (one : Listed) → HaveHeads listed rs → slice_get listed k ≡ Some one → (held : Record) × (slice_get rs k ≡ Some held) × (shown_head one ≡ head_of held)
record_listed [] rs k one h e = absurd (cc)
record_listed (o ∷ os) [] k one h e = absurd (cc)
record_listed (o ∷ os) (r ∷ rs) zero one h e =
    let head : shown_head o ≡ head_of r = cc in
    let same : o ≡ one = cc in
    (r, refl, ap shown_head (sym same) ∙ head)
record_listed (o ∷ os) (r ∷ rs) (suc k) one h e = let more : map shown_head os ≡ map head_of rs = cc in record_listed os rs k one more e

-- each number below their count is that of one
pub one_listed : (listed : List Listed) (k : ℕ) → k < length listed → (one : Listed) × (Some one ≡ slice_get listed k)
one_listed [] k l = absurd (omega (arith, l))
one_listed (o ∷ os) zero l = (o, refl)
one_listed (o ∷ os) (suc k) l = one_listed os k (omega (arith, l))

pub some_listed : (listed : List Listed) (k : ℕ) → k < length listed → None ≡ slice_get listed k → ⊥
some_listed listed k l none = let x = one_listed listed k l in let clash : None ≡ Some x.0 = none ∙ sym x.1 in cc clash
