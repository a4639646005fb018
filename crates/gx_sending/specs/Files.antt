-- The files that are new or another, with the bytes that they hold, and their lines.
use Rattle.std.specs.Prelude.{◌≡◌, ◌++◌, ◌∷◌, [], List, Result, Ok, Err}
use Rattle.gx_model.specs.declared.objects.Kind.{Kind}
use Rattle.gx_model.specs.Export.{items_text}
use Rattle.gx_model.specs.Histories.Files.{FileMap}
use Rattle.gx_model.specs.Histories.Values.{Value}
use Rattle.gx_model.specs.Histories.{Records}
use Rattle.gx_model.specs.Objects.{IsNamer}
use Rattle.gx_model.specs.Records.HistoryOf.{contents_of, named_values}
use Rattle.gx_model.specs.Records.Sound.{IsSound}
use Rattle.gx_model.specs.Texts.{Bytes}
use Rattle.gx_differences.specs.Differences.{HaveFiles, shown_files}
use Rattle.gx_differences.specs.declared.differences.ChangedFile.{ChangedFile}
use Rattle.gx_export.specs.FileTexts.{AreWritten, bytes_in}
use Rattle.gx_export.specs.Texts.{file_items}
use Rattle.gx_sending.specs.declared.fault.SendFault.{SendFault}
use Rattle.gx_sending.specs.declared.fault.SendFault.TheVariants.{OutOfMemory}

-- the files with the bytes that they hold
abbrev pub contents_at : {A : Type 0} → Records → List (ChangedFile A) → FileMap Bytes
contents_at repository changed = contents_of (named_values repository.records) (shown_files changed)

-- the bytes of those that are no gitlinks
abbrev pub blobs_at : {A : Type 0} → Records → List (ChangedFile A) → List Bytes
blobs_at repository changed = bytes_in (named_values repository.records) (shown_files changed)

-- what the files name is held by a sound repository, and their blobs were written
pub record AreShown {A : Type 0} (name : Kind → Bytes → Bytes) (ws : List Value) (repository : Records) (changed : List (ChangedFile A)) : Type 0 where
  pub namer : IsNamer name
  pub sound : IsSound name repository
  pub held : HaveFiles changed repository
  pub written : AreWritten ws (blobs_at repository changed)

-- the line of a file is put behind others
abbrev pub PutsFile : {A : Type 0} → List Value → Records → ChangedFile A → Bytes → Bytes → Result (Unit {0}) SendFault → Type 0
PutsFile ws repository file old new (Ok x) = new ≡ old ++ items_text (file_items ws (contents_at repository (file ∷ [])))
PutsFile ws repository file old new (Err fault) = fault ≡ OutOfMemory
