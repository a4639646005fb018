-- SHA-256 gives digests of 32 bytes.
use Rattle.std.proofs.Common.{◌≡◌, ℕ, zero, suc, ◌<◌, true, List, refl, ap, ◌∙◌, arith}
use Rattle.std.specs.Prelude.{◌%◌, nat_eq, nat_lt, slice_index}
use Rattle.std.specs.Int.{byte_at, bytes_high_first, to_be_bytes, w32}
use Rattle.std.specs.List.{list_all}
use Rattle.std.proofs.lemmas.Bool.{and_from}
use Rattle.std.proofs.lemmas.Bool.Decides.{nat_tests}
use Rattle.std.proofs.lemmas.List.Folds.{list_all-append}
use Rattle.sha2.specs.Sha256.{digest_bytes, sha256}
use Rattle.sha2.proofs.Facts256.{length-sha256}
use Rattle.gx_growing.specs.GrowingText.{IsDigester}

byte_small : (k n : ℕ) → nat_lt (byte_at k n) 256 ≡ true
byte_small zero n = let small : n % 256 < 256 = omega arith in grind (arith, nat_tests)
byte_small (suc k) n = let small : byte_at (suc k) n < 256 = omega arith in grind (arith, nat_tests)

word_bytes : (k n : ℕ) → list_all (λ byte. nat_lt byte 256) (bytes_high_first k n) ≡ true
word_bytes zero n = refl
word_bytes (suc k) n = and_from _ _ (byte_small k n) (word_bytes k n)

all_bytes : (h : List ℕ) (n : ℕ) → list_all (λ byte. nat_lt byte 256) (digest_bytes h n) ≡ true
unfolding digest_bytes
all_bytes h zero = refl
all_bytes h (suc n) =
    list_all-append (λ byte. nat_lt byte 256) (digest_bytes h n) (to_be_bytes w32 (slice_index h n))
    ∙ and_from _ _ (all_bytes h n) (word_bytes 4 (slice_index h n))

digest_small : (text : List ℕ) → list_all (λ byte. nat_lt byte 256) (sha256 text) ≡ true
unfolding sha256
digest_small text = all_bytes _ 8

-- Each text has a digest.
pub digester : IsDigester sha256
digester text = and_from _ _ (ap (λ n. nat_eq n 32) (length-sha256 text)) (digest_small text)
