-- What a buffer holds behind several appends.
use Rattle.std.proofs.Common.{◌≡◌, [], ◌∷◌, ◌++◌, if◌then◌else◌, Result, Ok, Err, ap, ◌∙◌, append_assoc}
use Rattle.std.specs.Result.{OnOk, is_ok}
use Rattle.gx_model.specs.Texts.{Bytes}
use Rattle.gx_adapt.specs.Lines.{spaced_line}

-- a word, two spaces and an identity
pub spaced_put : {T E : Type 0} (r : Result T E) (old first second new other word ident : Bytes) → first ≡ old ++ word → second ≡ first ++ 32 ∷ 32 ∷ [] → new ≡ (if is_ok r then second ++ ident else other) → OnOk r (new ≡ old ++ spaced_line word ident)
spaced_put (Ok u) old first second new other word ident e f h =
    h ∙ ap (λ t. t ++ ident) (f ∙ ap (λ t. t ++ 32 ∷ 32 ∷ []) e) ∙ append_assoc (old ++ word) (32 ∷ 32 ∷ []) ident ∙ append_assoc old word (32 ∷ 32 ∷ ident)
spaced_put (Err f) old first second new other word ident e g h = tt
