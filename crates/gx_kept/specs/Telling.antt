-- What a bundle tells of a repository, and which of its objects go out with it. Source: gitformat-bundle(5), and git-bundle(1).
use Rattle.std.specs.Prelude.{◌≡◌, Bool, ◌&&◌, not, List, ◌++◌, codes, map, length, IfOk, IfSome, IsTrue, [], ◌∷◌, Option, None, Some, Result}
use Rattle.std.specs.List.{AllByRecursion, filter, flat_map, list_all}
use Rattle.sha1.specs.Sha1.{sha1}
use Rattle.gx_model.specs.Histories.{Record, Records, object_of}
use Rattle.gx_model.specs.Objects.{is_name}
use Rattle.gx_model.specs.Pruning.{is_reachable}
use Rattle.gx_model.specs.Records.Publishing.{Ref}
use Rattle.gx_model.specs.Records.Sound.{AnyByRecursion}
use Rattle.gx_model.specs.Stores.StoreText.{stored_ref}
use Rattle.gx_model.specs.Texts.{Bytes}
use Rattle.gx_model.specs.Texts.Sinks.{Taken}
use Rattle.gx_object.specs.Commits.{bytes_of_names}
use Rattle.gx_object.specs.Parts.{bytes_if}
use Rattle.gx_object.specs.declared.name.Name.{Name}
use Rattle.gx_objects.specs.Answers.{AreRefs}
use Rattle.gx_repo.specs.Pruning.{tips_of}
use Rattle.gx_pack.specs.BundleReading.{bundle_of}
use Rattle.gx_pack.specs.Bundles.{Bundle, bundle_head, bundle_text, held_line}
use Rattle.gx_pack.specs.PackReading.{pack_of}
use Rattle.gx_pack.specs.Packs.{Object, pack_text}
use Rattle.gx_text.specs.declared.device.Failed.{Failed}
use Rattle.gx_file.specs.Sending.{Sent}
use Rattle.gx_kept.specs.BundleFaults.{IsTooMany, SendsBundle}
use Rattle.gx_kept.specs.Bundling.{kept_of}
use Rattle.gx_kept.specs.Faults.{Sends}
use Rattle.gx_kept.specs.declared.fault.KeptFault.{KeptFault}
use Rattle.gx_kept.specs.declared.bundle_fault.BundleFault.{BundleFault}
use Rattle.gx_kept.specs.declared.bundled.Bundled.{Bundled}

-- ---- refs

-- these lines spell refs of a repository
abbrev pub SpellsRefsOf : Bytes → Records → Type 0
SpellsRefsOf lines r = (refs : List Ref) × AreRefs refs × (lines ≡ flat_map stored_ref refs) × AllByRecursion (λ ref. AnyByRecursion (λ other. other ≡ ref) r.refs) refs

-- it holds of the refs that these lines spell
abbrev pub OfRefs : Bytes → (List Ref → Type 0) → Type 0
OfRefs lines Fact = (refs : List Ref) → AreRefs refs → lines ≡ flat_map stored_ref refs → Fact refs

-- HEAD, where it is told what it stands for
abbrev pub head_refs : Option Bytes → List Ref
head_refs None = []
head_refs (Some called) = (codes "HEAD", called) ∷ []

-- its line
abbrev pub head_line : Option Bytes → Bytes
head_line None = []
head_line (Some called) = held_line (codes "HEAD", called)

-- ---- objects

-- whether refs reach the object of a name, and the objects of other names don't
abbrev pub is_beyond : List Ref → List Bytes → List Record → Bytes → Bool
is_beyond refs had records called = not (is_reachable (tips_of had) records called) && is_reachable refs records called

-- the records that refs reach and the objects of these names don't, in their order
unfoldable pub reached_beyond : List Ref → List Bytes → List Record → List Record
reached_beyond refs had records = filter (λ held. is_beyond refs had records held.name) records

-- ---- what goes out

-- the bundle that tells this, with these objects
abbrev pub with_refs : List Bytes → Option Bytes → List Ref → List Object → Bundle
with_refs had head refs objects = record { had = had; refs = head_refs head ++ refs; objects = objects }

-- the same with the objects of a repository that are marked
abbrev pub marked_with : Bundled → List Ref → List Bool → Records → Bundle
marked_with bundled refs marks r = with_refs (bytes_of_names bundled.had.now) (bytes_if bundled.head) refs (kept_of marks r.records)

-- the refs of a bundle that tells these: HEAD is one of them, where it is told
abbrev pub refs_with : Bundled → List Ref → List Ref
refs_with bundled refs = head_refs (bytes_if bundled.head) ++ refs

-- whether the object of a name goes out with them
abbrev pub is_sent : Bundled → List Ref → Records → Bytes → Bool
is_sent bundled refs r = is_beyond (refs_with bundled refs) (bytes_of_names bundled.had.now) r.records

-- the objects of a repository that do
abbrev pub sent_with : Bundled → List Ref → Records → List Object
sent_with bundled refs r = map object_of (reached_beyond (refs_with bundled refs) (bytes_of_names bundled.had.now) r.records)

-- the bundle of a repository with these refs
abbrev pub bundle_with : Bundled → List Ref → Records → Bundle
bundle_with bundled refs r = with_refs (bytes_of_names bundled.had.now) (bytes_if bundled.head) refs (sent_with bundled refs r)

-- these are names of objects
abbrev pub AreNames : List Name → Type 0
AreNames = AllByRecursion (λ called. IsTrue (is_name called.bytes))

-- so is what is told beside the refs
pub record TellsNames (bundled : Bundled) : Type 0 where
  pub had : AreNames bundled.had.now
  pub head : IfSome bundled.head (λ called. IsTrue (is_name called.bytes))

-- what stands before the pack goes out, or the sink fails within it
abbrev pub SendsHead : Bundled → Option Taken → Option Taken → Result (Unit {0}) Failed → Type 0
SendsHead bundled was now result =
    OfRefs bundled.refs.now (λ refs. Sent (bundle_head (bytes_of_names bundled.had.now) (refs_with bundled refs)) was now result)

-- a bundle of the objects that are marked went out, or a front of it
abbrev pub SendsMarked : Bundled → List Bool → Option Taken → Option Taken → Result (Unit {0}) KeptFault → Records → Type 0
SendsMarked bundled marks was now result r = OfRefs bundled.refs.now (λ refs. Sends (bundle_text sha1 (marked_with bundled refs marks r)) was now result)

-- a bundle went out, or a front of it, or nothing
abbrev pub SendsBundled : Bundled → Option Taken → Option Taken → Result (Unit {0}) BundleFault → Records → Type 0
SendsBundled bundled was now result r = OfRefs bundled.refs.now (λ refs. SendsBundle (bundle_text sha1 (bundle_with bundled refs r)) was now result)

-- what went out is read as that bundle
abbrev pub IsReadAs : Bundled → Result (Unit {0}) BundleFault → Records → Type 0
IsReadAs bundled result r =
    OfRefs bundled.refs.now (λ refs. IfOk result (λ _. bundle_of sha1 (bundle_text sha1 (bundle_with bundled refs r)) ≡ Some (bundle_with bundled refs r)))

-- a pack went out, or a front of it, or nothing
abbrev pub SendsPacked : Bundled → Option Taken → Option Taken → Result (Unit {0}) BundleFault → Records → Type 0
SendsPacked bundled was now result r = OfRefs bundled.refs.now (λ refs. SendsBundle (pack_text sha1 (sent_with bundled refs r)) was now result)

-- what went out is read as its objects
abbrev pub IsReadAsPack : Bundled → Result (Unit {0}) BundleFault → Records → Type 0
IsReadAsPack bundled result r = OfRefs bundled.refs.now (λ refs. IfOk result (λ _. pack_of sha1 (pack_text sha1 (sent_with bundled refs r)) ≡ Some (sent_with bundled refs r)))

-- only so many objects are too many
abbrev pub HasTooMany : Bundled → Result (Unit {0}) BundleFault → Records → Type 0
HasTooMany bundled result r = OfRefs bundled.refs.now (λ refs. IsTooMany (length (sent_with bundled refs r)) result)
