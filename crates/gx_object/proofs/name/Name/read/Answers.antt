use Rattle.std.proofs.Common.{◌≡◌, Some, None, Ok, Err, Result, List, ℕ, ◌∙◌, ap}
use Rattle.std.specs.Result.{result_ok, MatchResult}
use Rattle.hex.specs.declared.error.FromHexError.{FromHexError}
use Rattle.gx_object.proofs.Digits.{name_read}
use Rattle.gx_object.proofs.name.Name.read.Goals as goal

taken : (d : Result (List ℕ) FromHexError) (r : Result (Unit {0}) FromHexError) (out : List ℕ)
    → MatchResult d (λ bytes. (r ≡ Ok tt) × (out ≡ bytes)) (λ e. r ≡ Err e) → r ≡ Ok tt → Some out ≡ result_ok d
taken (Ok bytes) r out h e = ap Some h.1
taken (Err d) r out h e = cc

refused : (d : Result (List ℕ) FromHexError) (r : Result (Unit {0}) FromHexError) (out : List ℕ) (e : FromHexError)
    → MatchResult d (λ bytes. (r ≡ Ok tt) × (out ≡ bytes)) (λ e. r ≡ Err e) → r ≡ Err e → None ≡ result_ok d
refused (Ok bytes) r out e h k = cc
refused (Err d) r out e h k = cc

pub returns-in-Ok : goal.returns-in-Ok
returns-in-Ok c = taken _ _ _ c.decode_to_slice.ensures.value c.in-Ok.is ∙ name_read c.args.text.now

pub returns-in-Err : goal.returns-in-Err
returns-in-Err c = refused _ _ _ _ c.decode_to_slice.ensures.value c.in-Err.is ∙ name_read c.args.text.now
