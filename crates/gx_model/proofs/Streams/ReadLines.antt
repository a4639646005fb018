-- What holds of what the lines of a stream give.
use Rattle.std.proofs.Common.{◌≡◌, Bool, true, false, cond, Option, None, Some, Ok, Err, refl}
use Rattle.std.specs.Prelude.{IfOk, IfSome, IsTrue, ⊤}
use Rattle.gx_model.specs.declared.faults.Fault.{Fault}
use Rattle.gx_model.specs.declared.faults.Fault.TheVariants as faults
use Rattle.gx_model.specs.Texts.{Bytes}
use Rattle.gx_model.specs.Texts.Idents.{is_ident}
use Rattle.gx_model.specs.Faults.{Given, ◌>>=◌}
use Rattle.gx_model.specs.Streams.Items.{Stream}
use Rattle.gx_model.specs.Histories.Values.{is_optional_encoding, is_optional_ident}
use Rattle.gx_model.specs.Streams.Lines.{encoding_of, ident_of, needed, optional, read_needed, read_some, rest_line}
use Rattle.gx_model.proofs.Replay.NullGitlinks.{then_if}

any_ok : {A : Type 0} (r : Given A) → IfOk r (λ x. ⊤)
any_ok (Ok x) = tt
any_ok (Err e) = tt

-- what holds after a step of which nothing is asked
pub then_any : {A B : Type 0} (Q : B → Type 0) (r : Given A) (f : A → Given B) → ((x : A) → IfOk (f x) Q) → IfOk (r >>= f) Q
then_any Q r f k = then_if (λ x. ⊤) Q r f (any_ok r) (λ x h. k x)

pub if_either : {A : Type 0} (Q : A → Type 0) (b : Bool) (r s : Given A) → IfOk r Q → IfOk s Q → IfOk (cond b r s) Q
if_either Q true r s h k = h
if_either Q false r s h k = k

-- what a test lets through
pub if_passes : {A : Type 0} (Q : A → Type 0) (b : Bool) (r : Given A) (f : Fault) → (b ≡ true → IfOk r Q) → IfOk (cond b r (Err f)) Q
if_passes Q true r f h = h refl
if_passes Q false r f h = tt

module _ {A : Type 0} (Q : A → Type 0) (name : Bytes) (read : Bytes → Given A) (reads : (bs : Bytes) → IfOk (read bs) Q) where
  abbrev pub IfRead : Option A × Stream → Type 0
  IfRead x = IfSome x.0 Q

  abbrev pub IsRead : A × Stream → Type 0
  IsRead x = Q x.0

  pub optional_given : (s : Stream) → IfOk (optional name read s) IfRead
  optional_given s = then_any IfRead (rest_line name s) _ (λ r. then_if (λ o. IfSome o Q) IfRead (read_some read r.0) _ (by r.0) (λ x h. h))
    where
      by : (o : Option Bytes) → IfOk (read_some read o) (λ o. IfSome o Q)
      by None = tt
      by (Some bs) = then_if Q (λ o. IfSome o Q) (read bs) _ (reads bs) (λ x h. h)

  pub needed_given : (s : Stream) → IfOk (needed name read s) IsRead
  needed_given s = then_any IsRead (rest_line name s) _ (λ r. then_if Q IsRead (read_needed read r.0) _ (by r.0) (λ x h. h))
    where
      by : (o : Option Bytes) → IfOk (read_needed read o) Q
      by None = tt
      by (Some bs) = reads bs

abbrev pub IsIdentRead : Bytes → Type 0
IsIdentRead x = IsTrue (is_ident x)

abbrev pub IsEncodingRead : Bytes → Type 0
IsEncodingRead x = IsTrue (is_optional_encoding (Some x))

pub ident_given : (bs : Bytes) → IfOk (ident_of bs) IsIdentRead
ident_given bs = if_passes IsIdentRead (is_ident bs) (Ok bs) faults.BadIdent (λ h. h)

pub encoding_given : (bs : Bytes) → IfOk (encoding_of bs) IsEncodingRead
encoding_given bs = if_passes IsEncodingRead (is_optional_encoding (Some bs)) (Ok bs) faults.BadLine (λ h. h)

pub maybe_ident : (o : Option Bytes) → IfSome o IsIdentRead → IsTrue (is_optional_ident o)
maybe_ident None h = refl
maybe_ident (Some x) h = h

pub maybe_encoding : (o : Option Bytes) → IfSome o IsEncodingRead → IsTrue (is_optional_encoding o)
maybe_encoding None h = refl
maybe_encoding (Some x) h = h
