-- The bytes of a component, wherever they are kept.
use Rattle.gx_model.specs.Texts.{Bytes}
use Rattle.gx_tree.specs.declared.component.Component.{Component}
use Rattle.gx_tree.specs.declared.component.Component.TheVariants.{Short, Long}

abbrev pub bytes_of : {A : Type 0} → Component A → Bytes
bytes_of (Short bytes) = bytes.items
bytes_of (Long bytes) = bytes.value.items
