-- What calls leave in a buffer.
use Rattle.std.specs.Prelude.{◌≡◌, ℕ, ◌++◌, Result, OnOk}
use Rattle.std.specs.declared.vec.Vec.{Vec}
use Rattle.gx_model.specs.Texts.{Bytes}

-- a buffer grows by this text, unless an error is answered
abbrev pub GrowsBy : {A T E : Type 0} → Vec ℕ A → Vec ℕ A → Bytes → Result T E → Type 0
GrowsBy old new text result = OnOk result (new.items ≡ old.items ++ text)
