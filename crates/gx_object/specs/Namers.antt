-- SHA-1 digests, the names that Git gives, have 20 bytes.
use Rattle.std.specs.Prelude.{◌≡◌, ℕ, zero, suc, ◌*◌, ◌/◌, ◌%◌, true, refl, List, length, nat_lt, slice_index, IsTrue}
use Rattle.std.specs.List.{list_all}
use Rattle.std.specs.Int.{to_be_bytes, w32}
use Rattle.std.proofs.Common.{arith, length-append, ◌∙◌}
use Rattle.std.proofs.lemmas.Bool.{and_from, lt-ltb}
use Rattle.std.proofs.lemmas.List.Folds.{list_all-append}
use Rattle.sha1.specs.Sha1.{sha1, digest_bytes}
use Rattle.gx_model.specs.Texts.{Bytes}
use Rattle.gx_model.specs.Objects.{IsNamer}
use Rattle.gx_model.specs.Objects.Naming.{record_text}

abbrev are_bytes : Bytes → Type 0
are_bytes x = IsTrue (list_all (λ b. nat_lt b 256) x)

is_byte : (n : ℕ) → nat_lt (n % 256) 256 ≡ true
is_byte n = lt-ltb (n % 256) 256 (omega arith)

word_bytes : (x : ℕ) → (length (to_be_bytes w32 x) ≡ 4) × are_bytes (to_be_bytes w32 x)
word_bytes x = (refl, and_from _ _ (is_byte (x / 16777216)) (and_from _ _ (is_byte (x / 65536)) (and_from _ _ (is_byte (x / 256)) (and_from _ _ (is_byte x) refl))))

digest_is : (h : List ℕ) (n : ℕ) → (length (digest_bytes h n) ≡ n * 4) × are_bytes (digest_bytes h n)
unfolding digest_bytes
digest_is h zero = (refl, refl)
digest_is h (suc n) =
    let before = digest_is h n in
    let last = word_bytes (slice_index h n) in
    let long = length-append (digest_bytes h n) (to_be_bytes w32 (slice_index h n)) in
    let few = before.0 in
    let four = last.0 in
    (omega arith, list_all-append (λ b. nat_lt b 256) (digest_bytes h n) (to_be_bytes w32 (slice_index h n)) ∙ and_from _ _ before.1 last.1)

digest_named : (m : Bytes) → (length (sha1 m) ≡ 20) × are_bytes (sha1 m)
unfolding sha1
digest_named m = digest_is _ 5

pub sha1_is_namer : IsNamer (λ kind body. sha1 (record_text kind body))
sha1_is_namer = record { long = λ kind body. (digest_named (record_text kind body)).0; bytes = λ kind body. (digest_named (record_text kind body)).1 }
