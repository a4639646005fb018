use Rattle.std.proofs.Common.{◌≡◌, length, take, map}
use Rattle.indexmap.specs.IndexMap.{keys}
use Rattle.gx_store.specs.Stores.{AreHeld}
use Rattle.gx_store.specs.Chains.{AreFronts}
use Rattle.gx_store.specs.Objects.{shown_stored}
use Rattle.gx_store.proofs.store.Store.truncate.Given as goal

abbrev pub invariant-loop-self : goal.invariant-loop-self
invariant-loop-self g l =
    (l.self-inside.namer ≡ l.initial.self-inside.namer) × AreHeld (g.N.Namer.name_of l.self-inside.namer) (map shown_stored l.self-inside.objects.entries)
    × AreFronts l.self-inside.fronts (keys l.self-inside.objects)
    × (take l.len (map shown_stored l.self-inside.objects.entries) ≡ take l.len (map shown_stored l.initial.self-inside.objects.entries))

abbrev pub decreases-loop-self : goal.decreases-loop-self
decreases-loop-self g l = length l.self-inside.objects.entries
