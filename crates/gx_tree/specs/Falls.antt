-- Each directory below has fewer components than the whole.
use Rattle.std.specs.Prelude.{◌≡◌, ◌≢◌, ◌+◌, ◌≤◌, max, List, [], ◌∷◌, ◌++◌, length, refl}
use Rattle.std.proofs.Common.{arith}
use Rattle.std.specs.declared.alloc.Allocator.{Ghosts}
use denote.Param.Weighed.{most}
use Rattle.gx_model.specs.Texts.{Bytes}
use Rattle.gx_model.specs.Histories.Files.{FileMap}
use Rattle.gx_model.specs.Records.HistoryOf.{placed}
use Rattle.gx_tree.specs.Components.{bytes_of}
use Rattle.gx_tree.specs.Nodes.{kept_map, files, components, IsKept, IsLevel}
use Rattle.gx_tree.specs.Views.{shown_item, shown_entries}
use Rattle.gx_tree.specs.declared.directory.Item.{Item}
use Rattle.gx_tree.specs.declared.directory.Item.TheVariants.{File, Folder}
use Rattle.gx_tree.specs.declared.directory.Entry.{Entry}
use Rattle.gx_tree.specs.declared.directory.Directory.TheDeep.{deep-Entry, deep-Item}

pub components-append : (f g : FileMap Bytes) → components (f ++ g) ≡ components f + components g
components-append [] g = omega arith
components-append (e ∷ f) g = omega (arith, components-append f g)

pub components-placed : (c : Bytes) (f : FileMap Bytes) → components (placed c f) ≡ components f + length f
components-placed c [] = refl
components-placed c (e ∷ f) = omega (arith, components-placed c f)

pub some_length : (f : FileMap Bytes) → f ≢ [] → 1 ≤ length f
some_length [] n = absurd (n refl)
some_length (e ∷ f) n = omega arith

item_falls : {A : Type 0} (G : Ghosts A) (c : Bytes) (i : Item A) → IsKept (shown_item i) → deep-Item A G i ≤ components (placed c (kept_map (shown_item i)))
item_falls G c (File m n) h = omega arith
item_falls G c (Folder d) h = omega (arith, components-placed c d.files, some_length d.files h.0)

pub falls : {A : Type 0} (G : Ghosts A) (es : List (Entry A)) → IsLevel (shown_entries es) → max (most (λ x. deep-Entry A G x) es) 0 ≤ components (files (shown_entries es))
falls G [] h = omega arith
falls G (e ∷ es) h = omega (arith, item_falls G (bytes_of e.component) e.item h.1, falls G es h.3, components-append (placed (bytes_of e.component) (kept_map (shown_item e.item))) (files (shown_entries es)))
