-- The repository of a plain store text, as stores of each version are read.
use Rattle.std.proofs.Common.{◌≡◌, ◌<◌, ◌^◌, Bool, false, ap, refl, subst, ◌∙◌, [], ◌++◌, length, Option, None, Some, Result, Ok, Err}
use Rattle.std.specs.Prelude.{codes, if◌then◌else◌}
use Rattle.std.specs.Result.{is_err, result_map_both}
use Rattle.sha2.specs.Sha256.{sha256}
use Rattle.gx_model.specs.declared.objects.Kind.{Kind}
use Rattle.gx_model.specs.declared.store_versions.Version.TheVariants.{Two}
use Rattle.gx_model.specs.Histories.{Records}
use Rattle.gx_model.specs.Laws.StoreLaws.{StoresAreRead}
use Rattle.gx_model.specs.Records.Sound.{IsSound}
use Rattle.gx_model.specs.Stores.StoreReading.{store_of}
use Rattle.gx_model.specs.Stores.StoreText.{store_text}
use Rattle.gx_model.specs.Texts.{Bytes}
use Rattle.gx_model.specs.Texts.Sinks.{Taken}
use Rattle.gx_growing.specs.GrowingReading.{Grown, grown_of}
use Rattle.gx_growing.specs.declared.fault.GrowingFault.TheVariants.{Text}
use Rattle.gx_growing_file.specs.Sending.{SentGrown}
use Rattle.gx_growing_file.specs.declared.sending.WriteFault.{WriteFault}
use Rattle.gx_versions.specs.Versions.{opened_of, says}

is_plain : (r : Records) → says (codes "3") (store_text Two r) ≡ false
unfolding store_text
is_plain r = refl

module _ (name : Kind → Bytes → Bytes) (r : Records) where
  -- what is read of a text, by whether it is a growing one
  abbrev read_so : Bytes → Bool → Grown Records
  read_so text growing = if growing then grown_of name sha256 text else result_map_both (λ read. read) Text (store_of name text)

  pub read_again : StoresAreRead name → IsSound name r → (text : Bytes) → text ≡ store_text Two r → length text < 2 ^ 64 → opened_of name text ≡ Ok r
  read_again law sound text is short =
      ap (opened_of name) is
      ∙ ap (read_so (store_text Two r)) (is_plain r)
      ∙ ap (result_map_both (λ read. read) Text) (law.read Two r sound (subst (λ (t : Bytes). length t < 2 ^ 64) is short))

-- the bytes that a sink took, where one tells them
abbrev bytes_in : Option Taken → Bytes
bytes_in None = []
bytes_in (Some taken) = taken.bytes

-- a text that went out as a whole is what the sink holds that held nothing
pub sent : (text : Bytes) (was now : Taken) (result : Result (Unit {0}) WriteFault) → was ≡ record { bytes = []; failed = false }
    → SentGrown text (Some was) (Some now) result → false ≡ is_err result → now.bytes ≡ text
sent text was now (Ok done) new out fine = ap bytes_in out ∙ ap (λ (taken : Taken). taken.bytes ++ text) new
sent text was now (Err fault) new out fine = absurd cc
