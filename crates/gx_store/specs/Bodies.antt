-- The bytes of a body, wherever they are kept.
use Rattle.gx_model.specs.Texts.{Bytes}
use Rattle.gx_store.specs.declared.body.Body.{Body}
use Rattle.gx_store.specs.declared.body.Body.TheVariants.{Own, Within}

abbrev pub bytes_of : {A : Type 0} → Body A → Bytes
bytes_of (Own bytes) = bytes.items
bytes_of (Within range) = range
