-- Records as a store's fields hold them.
use Rattle.std.specs.Prelude.{List, map}
use Rattle.gx_model.specs.declared.objects.Kind.{Kind}
use Rattle.gx_model.specs.Texts.{Bytes}
use Rattle.gx_model.specs.Histories.{Record}
use Rattle.gx_object.specs.declared.name.Name.{Name}
use Rattle.gx_store.specs.Bodies.{bytes_of}
use Rattle.gx_store.specs.Chains.{AreFronts}
use Rattle.gx_store.specs.Stores.{AreHeld}
use Rattle.gx_store.specs.declared.fronts.Fronts.{Fronts}
use Rattle.gx_store.specs.declared.store.Object.{Object}

abbrev pub shown_stored : {A : Type 0} → Name × Object A → Record
shown_stored entry = record { name = entry.0.bytes; kind = entry.1.kind; body = bytes_of entry.1.body }

-- objects under the namer's names, which differ, with the fronts of these names
abbrev pub IsStore : {A : Type 0} → (Kind → Bytes → Bytes) → List (Name × Object A) → Fronts A → List Name → Type 0
IsStore name entries fronts names = AreHeld name (map shown_stored entries) × AreFronts fronts names
