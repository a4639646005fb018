-- Short names have 20 bytes.
use Rattle.std.specs.Prelude.{◌≡◌, ℕ, ◌%◌, true, refl, length, nat_lt}
use Rattle.std.proofs.Common.{arith}
use Rattle.std.proofs.lemmas.Bool.{and_from, lt-ltb}
use Rattle.gx_model.specs.Objects.{IsNamer}
use Rattle.gx_model.specs.Objects.Naming.{kind_number, short_name}
use Rattle.gx_model.specs.declared.objects.Kind.{Kind}
use Rattle.gx_model.specs.declared.objects.Kind.TheVariants.{Blob, Tree, Commit, Tag}

kind_byte : (kind : Kind) → nat_lt (kind_number kind) 256 ≡ true
kind_byte Blob = refl
kind_byte Tree = refl
kind_byte Commit = refl
kind_byte Tag = refl

is_byte : (n : ℕ) → nat_lt (n % 256) 256 ≡ true
is_byte n = lt-ltb (n % 256) 256 (omega arith)

pub short_is_namer : IsNamer short_name
unfolding short_name
short_is_namer = record { long = λ kind body. refl; bytes = λ kind body. and_from _ _ (kind_byte kind) (and_from _ _ (is_byte (length body)) refl) }
