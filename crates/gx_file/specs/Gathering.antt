-- The refs of a store text as they are gathered, before what they hold is looked up, and what comes of them then.
-- Source: this project's own format, and git-check-ref-format(1).
use Rattle.std.specs.Borrow.{Bor}
use Rattle.std.specs.Prelude.{◌≡◌, ℕ, zero, suc, if◌then◌else◌, List, [], ◌∷◌, ◌++◌, Option, None, Some, Result, Ok, Err}
use Rattle.gx_model.specs.declared.store_faults.FileFault.TheVariants as model
use Rattle.gx_model.specs.Texts.{Bytes}
use Rattle.gx_model.specs.Stores.StoreReading.{Stored, is_after, ref_line, stored_line}
use Rattle.gx_model.specs.Records.Publishing.{Ref}
use Rattle.gx_repo.specs.Refs.{shown_update}
use Rattle.gx_repo.specs.declared.publishing.RefChange.{RefChange}
use Rattle.gx_model.specs.declared.store_faults.FileFault.{FileFault}
use Rattle.gx_model.specs.declared.store_faults.FileFault.TheVariants.{OutOfMemory}

-- a ref with what follows its line
abbrev pub with_rest : Bytes → Option Ref → Stored (Ref × Bytes)
with_rest rest None = Err model.BadRef
with_rest rest (Some ref) = Ok (ref, rest)

-- the ref in the first line
abbrev pub ref_of_line : Stored (Bytes × Bytes) → Stored (Ref × Bytes)
ref_of_line (Ok line) = with_rest line.1 (ref_line line.0)
ref_of_line (Err fault) = Err fault

-- the ref in the first line, and what follows the line
unfoldable pub first_ref : Bytes → Stored (Ref × Bytes)
first_ref text = ref_of_line (stored_line text)

-- refs, and what follows their lines or why they end
abbrev pub Gathered : Type 0
Gathered = List Ref × Stored Bytes

-- a ref in front of others
abbrev pub before : Ref → Gathered → Gathered
before ref others = (ref ∷ others.0, others.1)

-- a ref alone where it is out of order, and otherwise with those that follow it
abbrev pub gathered_from : Option Bytes → Stored (Ref × Bytes) → (Option Bytes → Bytes → Gathered) → Gathered
gathered_from last (Err fault) others = ([], Err fault)
gathered_from last (Ok first) others =
    if is_after last first.0.0 then before first.0 (others (Some first.0.0) first.1) else (first.0 ∷ [], Err model.RefOrder)

-- so many refs, up to the first whose line or order is bad, and that one with them where its line is good
unfoldable pub gathered : ℕ → Option Bytes → Bytes → Gathered
gathered zero last text = ([], Ok text)
gathered (suc n) last text = gathered_from last (first_ref text) (λ ref rest. gathered n ref rest)

-- these are the refs that are gathered, and this is what follows them or why they end; or memory ran out on the way
abbrev pub Gathers : Gathered → List Ref → Result (Bor Bytes) FileFault → Type 0
Gathers given refs (Ok rest) = (given.0 ≡ refs) × (given.1 ≡ Ok rest.now)
Gathers given refs (Err OutOfMemory) = (others : List Ref) × (given.0 ≡ refs ++ others)
Gathers given refs (Err fault) = (given.0 ≡ refs) × (given.1 ≡ Err fault)

-- a change and what follows its line, without where they lie in memory
abbrev pub shown_change : RefChange × Bor Bytes → Ref × Bytes
shown_change parts = (shown_update parts.0, parts.1.now)
