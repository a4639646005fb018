-- The line of a mark goes out where its parts do.
use Rattle.std.proofs.Common.{◌≡◌, ℕ, ◌+◌, subst, List, [], ◌∷◌, ◌++◌, drop, append_assoc, Option, Result}
use Rattle.std.specs.Fmt.{decimal}
use Rattle.std.specs.List.{flat_map}
use Rattle.gx_model.specs.Export.{mark_text}
use Rattle.gx_model.specs.Objects.{hex, line}
use Rattle.gx_model.specs.Texts.{Bytes}
use Rattle.gx_model.specs.Texts.Sinks.{Taken}
use Rattle.gx_model.proofs.Texts.SentTexts.{IsLeft}
use Rattle.gx_text.specs.declared.device.Failed.{Failed}
use Rattle.gx_marks.specs.Sending.{Sent}

pub mark_sent : (was now : Option Taken) (answer : Result (Unit {0}) Failed) (colon number digits : Bytes) (n : ℕ) (name : Bytes) → colon ≡ 58 ∷ [] → number ≡ decimal n → digits ≡ hex name
    → Sent (colon ++ (number ++ (32 ∷ (digits ++ 10 ∷ [])))) was now answer → Sent (line (mark_text n) (hex name)) was now answer
mark_sent was now answer colon number digits n name c e f h = subst (λ t. Sent t was now answer) (rw (c, e, f) (parts (decimal n) (hex name))) h
  where
    parts : (x y : Bytes) → 58 ∷ (x ++ (32 ∷ (y ++ 10 ∷ []))) ≡ line (58 ∷ x) y
    parts x y = simp append_assoc

-- the text at a place comes next
pub next_left : {X : Type 0} (f : X → Bytes) (whole : Bytes) (was mid : Option Taken) (xs : List X) (i : ℕ) (x : X) → drop i xs ≡ x ∷ drop (i + 1) xs → IsLeft whole was mid (flat_map f (drop i xs)) → IsLeft whole was mid (f x ++ flat_map f (drop (i + 1) xs))
next_left f whole was mid xs i x e h = subst (λ left. IsLeft whole was mid (flat_map f left)) e h
