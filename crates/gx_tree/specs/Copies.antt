-- What a copy takes, and whether it may stand at a path.
use Rattle.std.specs.Prelude.{◌≡◌, Bool, ◌&&◌, true, false, if◌then◌else◌, Option, Some, None}
use Rattle.gx_model.specs.declared.faults.Fault.{Fault}
use Rattle.gx_model.specs.declared.faults.Fault.TheVariants as model
use Rattle.gx_model.specs.Histories.Edits.{copy_fault, is_root}
use Rattle.gx_model.specs.Histories.Files.{FileMap, sub_map}
use Rattle.gx_model.specs.Texts.{Bytes}
use Rattle.gx_model.specs.Texts.Paths.{Path}
use Rattle.gx_tree.specs.Faults.{fault_of}
use Rattle.gx_tree.specs.Lists.{are_short, below}
use Rattle.gx_tree.specs.Nodes.{IsKept, Kept, file, folder, kept_map}
use Rattle.gx_tree.specs.declared.copying.Held.{Held}
use Rattle.gx_tree.specs.declared.copying.Held.TheVariants.{File, Folder}
use Rattle.gx_tree.specs.declared.fault.TreeFault.{TreeFault}

abbrev pub shown_held : {A : Type 0} → Held A → Kept
shown_held (File m n) = file (m, n.bytes)
shown_held (Folder d) = folder d.now.files

-- k stands at or below the path
abbrev pub IsHeldAt : FileMap Bytes → Path → Kept → Type 0
IsHeldAt f p k = (sub_map f p ≡ kept_map k) × IsKept k

abbrev pub is_file : Kept → Bool
is_file (file x) = true
is_file (folder f) = false

abbrev pub shown_held_if : {A : Type 0} → Option (Held A) → Option Kept
shown_held_if None = None
shown_held_if (Some h) = Some (shown_held h)

-- the fault for which a copy or a rename is refused
abbrev pub IsCopyFault : FileMap Bytes → Path → Path → TreeFault → Type 0
IsCopyFault f s d fault = copy_fault f s d ≡ Some (fault_of fault)

-- why k may not stand at the path
abbrev pub graft_fault : Kept → Path → Option Fault
graft_fault k p =
    if is_file k && is_root p then Some model.RootNotTree
    else if are_short (below p (kept_map k)) then None
    else Some model.PathTooLong
