-- What is answered for a revision, as what it shows in the history.
use Rattle.std.specs.Prelude.{◌≡◌, ◌↔◌, ℕ, IsTrue, Ok, Err}
use Rattle.std.specs.declared.vec.Vec.{Vec}
use Rattle.gx_model.specs.declared.objects.Kind.{Kind}
use Rattle.gx_model.specs.declared.objects.Mode.{Mode}
use Rattle.gx_model.specs.Texts.{Bytes}
use Rattle.gx_model.specs.Histories.Files.{Leaf}
use Rattle.gx_model.specs.Revisions.{Revision}
use Rattle.gx_model.specs.Objects.{hex, is_name}
use Rattle.gx_model.specs.Records.{kind_of, name_of}
use Rattle.gx_model.specs.Histories.{Records}
use Rattle.gx_model.specs.Records.HistoryOf.{history_of}
use Rattle.gx_model.specs.Revisions.Denotation as model
use Rattle.gx_model.specs.declared.faults.Fault.TheVariants.{WrongKind}
use Rattle.gx_model.specs.declared.objects.Kind.TheVariants as kind
use Rattle.gx_model.specs.declared.objects.Mode.TheVariants.{Gitlink, Dir}
use Rattle.gx_model.specs.Faults.{Given}
use Rattle.gx_model.specs.Records.HistoryOf.{bytes_of_blob}
use Rattle.gx_object.specs.declared.name.Name.{Name}
use Rattle.gx_rev.specs.declared.shown.Shown.{Shown}
use Rattle.gx_rev.specs.declared.shown.Shown.TheVariants.{Object, Submodule}
use Rattle.gx_rev.specs.Objects.{IsHeld, value_at}

-- the value of the object's name, or the submodule's digits
abbrev pub shown_by : Records → Shown → model.Shown
shown_by repository (Object kind called) = model.object (value_at repository called)
shown_by repository (Submodule called) = model.submodule (hex called.bytes)

-- an object is answered by its value's kind and name, and is held; a submodule by a name
abbrev pub IsNamed : (Kind → Bytes → Bytes) → Records → Shown → Type 0
IsNamed name repository (Object kind called) = (kind ≡ kind_of name (value_at repository called)) × (called.bytes ≡ name_of name (value_at repository called)) × IsHeld repository called
IsNamed name repository (Submodule called) = IsTrue (is_name called.bytes)

-- a file's mode and bytes
abbrev pub shown_file : {A : Type 0} → Mode × Vec ℕ A → Leaf Bytes
shown_file file = (file.0, file.1.items)

-- what an entry of this mode and name shows
abbrev pub shown_as : Mode → Name → Shown
shown_as Dir called = Object kind.Tree called
shown_as Gitlink called = Submodule called
shown_as _ called = Object kind.Blob called

-- the file of this mode and name; a directory is none
abbrev pub file_of : Records → Mode → Name → Given (Leaf Bytes)
file_of repository Dir called = Err WrongKind
file_of repository Gitlink called = Ok (Gitlink, hex called.bytes)
file_of repository mode called = Ok (mode, bytes_of_blob (value_at repository called))

-- this is what is answered for a revision
pub record IsAnswer (name : Kind → Bytes → Bytes) (repository : Records) (revision : Revision) (answer : Shown) : Type 0 where
  pub shown : model.denoted name (history_of repository) revision ≡ Ok (shown_by repository answer)
  pub named : IsNamed name repository answer

-- two revisions are answered alike exactly where they give one value, or one submodule
abbrev pub AnswersTell : (Kind → Bytes → Bytes) → Records → Type 0
AnswersTell name repository =
    (revision other : Revision) (answer another : Shown) → IsAnswer name repository revision answer → IsAnswer name repository other another
    → (answer ≡ another) ↔ (model.denoted name (history_of repository) revision ≡ model.denoted name (history_of repository) other)
