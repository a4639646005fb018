-- A blob that is refused because its name is held has the name of another value, and one that is refused for want of memory isn't held.
use Rattle.std.proofs.Common.{◌≡◌, List, [], ◌∷◌, Option, Some, None, Result, Err, map, refl, sym, ap, ◌∙◌}
use Rattle.std.specs.Prelude.{◌≢◌}
use Rattle.std.specs.Option.{option_and_then, option_map}
use Rattle.gx_model.specs.declared.objects.Kind.{Kind}
use Rattle.gx_model.specs.declared.objects.Kind.TheVariants as kinds
use Rattle.gx_model.specs.declared.faults.Fault.{Fault}
use Rattle.gx_model.specs.Texts.{Bytes}
use Rattle.gx_model.specs.Histories.Values.{Value, blob_value}
use Rattle.gx_model.specs.Histories.{Record, Records, record_for, record_of}
use Rattle.gx_model.specs.Records.Growth.{AreReady, put, put_all, put_under, with_values}
use Rattle.gx_model.specs.Laws.RepositoryLaws.{PutsGrow, values_of}
use Rattle.gx_model.specs.Records.Sound.{IsSound}
use Rattle.gx_store.specs.declared.fault.StoreFault.{StoreFault}
use Rattle.gx_store.specs.declared.fault.StoreFault.TheVariants.{OutOfMemory, NameHeld}
use Rattle.gx_command.specs.declared.commands.Blob.{Blob}
use Rattle.gx_repo.specs.Additions.{Adds}
use Rattle.gx_repo.specs.Calls.{HidesNoObject}
use Rattle.gx_repo.specs.Repositories.{Repository}
use Rattle.gx_import.specs.Answers.{AddsAs}
use Rattle.gx_import.specs.Calls.{HidesNoBlob}
use Rattle.gx_store.specs.StoreFaults.{fault_of as of_store}

nothing_mapped : {X Y : Type 0} (f : X → Y) (o : Option X) → option_map f o ≡ None → o ≡ None
nothing_mapped f None e = refl
nothing_mapped f (Some x) e = absurd (cc)

-- a value that can't be put has the name of another one
pub name_held : (name : Kind → Bytes → Bytes) → PutsGrow name → (r : Records) → IsSound name r → (v : Value) → AreReady (values_of r) (v ∷ []) → put r.records (record_of name v) ≡ None → with_values name (values_of r) (v ∷ []) ≡ None
name_held name law r sound v ready e =
    nothing_mapped (map (record_of name)) (with_values name (values_of r) (v ∷ [])) (sym (law.adds r sound (v ∷ []) ready) ∙ ap (λ o. option_and_then (λ now. put_all now []) o) e)

pub blob_refused : (name : Kind → Bytes → Bytes) → PutsGrow name → (r : Records) → IsSound name r → (new : List Record) (bytes : Bytes) {X Y : Type 0} (Is : Y → X → Type 0) (given : Result Y Fault) (f : StoreFault)
    → Adds r.records new (record_for name kinds.Blob bytes) (Err f) → AddsAs (with_values name (values_of r) (blob_value bytes ∷ []) ≡ None) Is (Err (of_store f)) given
blob_refused name law r sound new bytes Is given OutOfMemory h = tt
blob_refused name law r sound new bytes Is given NameHeld h = name_held name law r sound (blob_value bytes) (refl, tt, tt) h.0

-- nothing else has the name of an object that can be put
pub put_known : (rs now : List Record) (added : Record) → put rs added ≡ Some now → put rs added ≢ None
put_known rs now added e none = absurd (cc (sym e ∙ none))

-- a blob that is refused for want of memory isn't held
pub blob_hidden : {N A : Type 0} (X : Type 0) (names : N → Kind → Bytes → Bytes) (repository : Repository N) (blob : Blob A) (f : StoreFault)
    → HidesNoObject names repository kinds.Blob blob.bytes.items (Err f) → HidesNoBlob names {A = A} {X = X} repository blob (Err (of_store f))
blob_hidden X names repository blob OutOfMemory free =
    let added = record_for (names repository.0) kinds.Blob blob.bytes.items in
    (put_known repository.1.records _ added (ap (λ o. put_under o repository.1.records added) free), λ unmarked. free)
blob_hidden X names repository blob NameHeld h = tt
