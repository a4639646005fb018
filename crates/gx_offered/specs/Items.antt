-- Items without where they lie in memory, and how what is read of one goes with the definitions.
use Rattle.std.specs.Prelude.{◌≡◌, List, map, Result, Ok, Err}
use Rattle.std.specs.Borrow.{Bor}
use Rattle.std.specs.declared.vec.Vec.{Vec}
use Rattle.gx_model.specs.Texts.{Bytes}
use Rattle.gx_model.specs.Faults.{◌>>=◌}
use Rattle.gx_store.specs.Bodies.{bytes_of}
use Rattle.gx_wide.specs.ObjectsTexts as model
use Rattle.gx_offered.specs.ItemFaults.{shown_fault}
use Rattle.gx_offered.specs.declared.fault.ItemFault.{ItemFault}
use Rattle.gx_offered.specs.declared.item.Found.{Found}
use Rattle.gx_offered.specs.declared.item.Found.TheVariants as found
use Rattle.gx_offered.specs.declared.offered.Offered.{Offered}
use Rattle.gx_offered.specs.declared.offered.Offered.TheVariants as offered

-- an item that is offered
abbrev pub shown_offered : {A : Type 0} → Offered A → model.Item
shown_offered (offered.Ref it) = model.ref_item it.object.bytes (bytes_of it.name)
shown_offered (offered.Object it) = model.object_item it.kind it.name.bytes (bytes_of it.body)

abbrev pub shown_offer : {A : Type 0} → Vec (Offered A) A → List model.Item
shown_offer items = map shown_offered items.items

-- an item where it stands
abbrev pub shown_found : Found → model.Item
shown_found (found.Ref object name) = model.ref_item object.bytes name.now
shown_found (found.Object of_kind name body) = model.object_item of_kind name.bytes body.now

-- its last bytes but the LF behind them
abbrev pub text_found : Found → Bytes
text_found (found.Ref object name) = name.now
text_found (found.Object of_kind name body) = body.now

-- an item, and what follows it
abbrev pub shown_read : Found × Bor Bytes → model.Item × Bytes
shown_read read = (shown_found read.0, read.1.now)

-- an answer, seen so, is what the definition gives
abbrev pub Gives : {X Y : Type 0} → (X → Y) → Result X ItemFault → model.Read Y → Type 0
Gives view (Ok x) given = given ≡ Ok (view x)
Gives view (Err fault) given = given ≡ Err (shown_fault fault)

-- a ref that stands in its line before these bytes
abbrev pub ref_before : Bytes → Bytes → Bytes → model.Read (model.Item × Bytes)
ref_before digits ref rest = model.ref_in digits ref >>= λ item. Ok (item, rest)
