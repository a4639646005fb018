-- What refusals of a store text say. Source: this project's own format.
use Rattle.std.specs.Prelude.{◌≢◌}
use Rattle.gx_model.specs.declared.objects.Kind.{Kind}
use Rattle.gx_model.specs.declared.store_versions.Version.{Version}
use Rattle.gx_model.specs.declared.store_faults.FileFault.{FileFault}
use Rattle.gx_model.specs.declared.store_faults.FileFault.TheVariants.{OutOfMemory, BadRef}
use Rattle.gx_model.specs.Texts.{Bytes}
use Rattle.gx_model.specs.Histories.{Records}
use Rattle.gx_model.specs.Records.Sound.{IsSound}
use Rattle.gx_model.specs.Stores.StoreText.{store_text}
use Rattle.gx_repo.specs.declared.fault.PublishFault.{PublishFault}
use Rattle.gx_repo.specs.declared.fault.PublishFault.TheVariants as publish

-- no sound repository has this text, in either version
abbrev pub IsNoStoreText : (Kind → Bytes → Bytes) → Bytes → Type 0
IsNoStoreText name text = (v : Version) (repository : Records) → IsSound name repository → text ≢ store_text v repository

-- a refusal to set refs, as a fault of the text that brings them
abbrev pub refs_fault : PublishFault → FileFault
refs_fault publish.OutOfMemory = OutOfMemory
refs_fault publish.BadRefName = BadRef
refs_fault publish.UnknownObject = BadRef
refs_fault publish.WrongKind = BadRef
