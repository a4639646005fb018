-- All that a source gives.
use Rattle.std.specs.Prelude.{◌≡◌, ℕ, true, false, Option, None, Some, Result, Ok, Err, ⊤}
use Rattle.std.specs.declared.vec.Vec.{Vec}
use Rattle.gx_text.specs.Devices.{Coming}
use Rattle.gx_stream.specs.Heard.{heard}
use Rattle.gx_offered.specs.declared.fault.OfferFault.{OfferFault}
use Rattle.gx_offered.specs.declared.fault.OfferFault.TheVariants.{Item, OutOfMemory, ReadFailed}

-- All the bytes came, and the source ended; or it failed.
abbrev pub AreBytes : {A : Type 0} → Coming → Result (Vec ℕ A) OfferFault → Type 0
AreBytes coming (Ok bytes) = coming ≡ record { bytes = bytes.items; fails = false }
AreBytes coming (Err OutOfMemory) = ⊤
AreBytes coming (Err ReadFailed) = coming.fails ≡ true
AreBytes coming (Err (Item number fault)) = ⊥

-- The same of a source. Where it tells nothing, some bytes came.
abbrev pub GivesBytes : {A : Type 0} → Option Coming → Result (Vec ℕ A) OfferFault → Type 0
GivesBytes None result = (coming : Coming) × AreBytes coming result
GivesBytes (Some coming) result = AreBytes (heard coming) result
