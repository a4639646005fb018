-- One push after another.
use Rattle.std.proofs.Common.{◌≡◌, ℕ, zero, suc, ◌<◌, List, [], ◌++◌, length, take, Option, Some, None, Ok, Err, refl, sym, ap, ◌∙◌, append_assoc, append-nil, arith}
use Rattle.std.proofs.lemmas.Bool.{false≢true}
use Rattle.std.proofs.lemmas.List.{length-take}
use Rattle.gx_model.specs.Texts.Sinks.{Taken, Sends}
use Rattle.gx_text.specs.Devices.{Pushes}
use Rattle.gx_text.specs.declared.device.Failed.{Failed}

pub Sends-none : (a : Option Taken) → Sends a a [] (Ok tt)
Sends-none None = tt
Sends-none (Some old) =
    (ap (λ bs. Some (record old { bytes = bs })) (sym (append-nil old.bytes)), λ l. absurd (omega (arith, l)))

-- a push after some that took all of xs
pub Sends-more : (a b c : Option Taken) (xs ys : List ℕ) (n : ℕ) → Sends a b xs (Ok tt) → Pushes b c ys (Ok n) → Sends a c (xs ++ take n ys) (Ok tt)
Sends-more None b c xs ys n s p = tt
Sends-more (Some old) b c xs ys n s p =
    let q = rw s.0 at p in
    (q.1 ∙ (rw append_assoc (rw q.0 refl)), λ _. q.0)

none_taken : (n : ℕ) (bytes : List ℕ) → n < length bytes → ¬ (0 < length (take n bytes)) → n ≡ 0
none_taken zero bytes l without = refl
none_taken (suc n) bytes l without = absurd (without (omega (arith, length-take (suc n) bytes)))

-- one that fails
pub Sends-failed : (a b c : Option Taken) (bytes ys : List ℕ) (n : ℕ) (e : Failed) → n < length bytes → Sends a b (take n bytes) (Ok tt) → Pushes b c ys (Err e) → Sends a c bytes (Err n)
Sends-failed None b c bytes ys n e l s p = tt
Sends-failed (Some old) b c bytes ys n e l s p =
    let q = rw s.0 at p in
    (l, q, λ broken. none_taken n bytes l (λ some. false≢true (sym (s.1 some) ∙ broken)))
