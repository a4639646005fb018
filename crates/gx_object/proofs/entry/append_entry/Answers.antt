use Rattle.std.proofs.Common.{◌≡◌, [], ◌∷◌, ◌++◌, append_assoc}
use Rattle.gx_model.specs.Texts.{Bytes}
use Rattle.gx_object.proofs.entry.append_entry.Goals as goal

joined : (old mode component name one two three four five last : Bytes) → one ≡ old → two ≡ one ++ (mode ++ 32 ∷ []) → three ≡ two ++ component → four ≡ three ++ 0 ∷ [] → last ≡ name → five ≡ four ++ last
    → five ≡ old ++ (mode ++ (32 ∷ (component ++ 0 ∷ name)))
joined old mode component name one two three four five last a b d e f h = rw (h, f, e, d, b, a) (simp append_assoc)

pub returns-clause-text : goal.returns-clause-text
returns-clause-text g c = joined _ _ c.args.component.now c.args.name.now.bytes _ _ _ _ _ _ c.in_ok-reserve.ensures.items c.append_mode.ensures.text c.append_within.ensures.text c.push_reserved.ensures.items c.as_slice.ensures c.append_name.ensures.text
