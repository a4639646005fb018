-- The refs behind the records of a plain text. Source: this project's own format, and git-check-ref-format(1).
use Rattle.std.specs.Prelude.{◌≡◌, ℕ, ◌≤◌, Bool, List, [], ◌∷◌, ◌++◌, length, drop, codes, Option, Some, None, Result, Ok, Err, ⊤}
use Rattle.gx_model.specs.declared.objects.Kind.{Kind}
use Rattle.gx_model.specs.declared.store_versions.Version.{Version}
use Rattle.gx_model.specs.Faults.{◌>>=◌}
use Rattle.gx_model.specs.Texts.{Bytes, same_bytes}
use Rattle.gx_model.specs.Texts.RefNames.{tag_ref}
use Rattle.gx_model.specs.Histories.{Record}
use Rattle.gx_model.specs.Objects.{IsTagText, TagParts}
use Rattle.gx_model.specs.Records.Growth.{record_named}
use Rattle.gx_model.specs.Records.HistoryOf.{tag_parts_in}
use Rattle.gx_model.specs.Records.Publishing.{Ref}
use Rattle.gx_model.specs.Records.Sound.{IsSound}
use Rattle.gx_model.specs.Stores.StoreReading.{Stored, is_target, next_refs, stored_count, stored_end}
use Rattle.gx_listed.specs.Listings.{HaveHeads, Listed}
use Rattle.gx_look.specs.Reading.{Gives}
use Rattle.gx_look.specs.Tails.{SpellsLines, refs_text}
use Rattle.gx_objects.specs.declared.fault.LookFault.{LookFault}
use Rattle.gx_repo.specs.Repositories.{held_in}
use Rattle.gx_repo.specs.declared.publishing.RefChange.{RefChange}
use Rattle.gx_plain.specs.Reading.{RefusesWith}
use Rattle.gx_plain.specs.Records.{AreStored, IsStoredAt}
use Rattle.gx_plain.specs.declared.refs.Tail.{Tail}

-- the lines of refs, and the last line, stand at the end of what is held
pub record HoldsLines {A : Type 0} (tail : Tail A) : Type 0 where
  pub within : tail.refs ≤ length tail.text.items
  pub lines : SpellsLines (drop tail.refs tail.text.items)

-- the refs behind records
abbrev pub refs_behind : List Record → Bytes → Stored (List Ref)
refs_behind records text = do
  refs ← stored_count (codes "refs") text
  named ← next_refs refs.0 records None refs.1
  ended ← stored_end named.1
  Ok named.0

-- these are listed of sound records, which stand in a text
pub record AreTold (name : Kind → Bytes → Bytes) (v : Version) (text : Bytes) (listed : List Listed) (records : List Record) : Type 0 where
  pub heads : HaveHeads listed records
  pub stand : AreStored name v text listed records
  pub sound : IsSound name (held_in records [])

module _ (name : Kind → Bytes → Bytes) (v : Version) where
  -- whether a ref's name is made by the own name of the tag at a place
  abbrev pub TellsTag : Option Bytes → ℕ → Bytes → Bytes → Result Bool LookFault → Type 0
  TellsTag None place called ref result = ⊤
  TellsTag (Some text) place called ref result =
      (held : Record) → IsStoredAt name v text place called held → (parts : TagParts) → IsTagText parts held.body
      → Gives (λ is_own. is_own ≡ same_bytes ref (tag_ref (tag_parts_in held.body).name)) result

  -- whether a ref may hold its object
  abbrev pub TellsTarget : Option Bytes → List Listed → RefChange → Result Bool LookFault → Type 0
  TellsTarget None listed change result = ⊤
  TellsTarget (Some text) listed change result =
      (records : List Record) → AreTold name v text listed records → Gives (λ may. may ≡ is_target change.name.now (record_named records change.target.bytes)) result

  -- so many refs come next, in front of the last line, or there is a fault
  abbrev pub TestsRefs : Bytes → List Listed → ℕ → Bytes → Result (Unit {0}) LookFault → Type 0
  TestsRefs text listed count lines (Ok done) =
      (records : List Record) → AreTold name v text listed records → (refs : List Ref) × (next_refs count records None lines ≡ Ok (refs, codes "end" ++ 10 ∷ []))
  TestsRefs text listed count lines (Err fault) =
      (records : List Record) → AreTold name v text listed records → RefusesWith fault (next_refs count records None lines >>= λ named. stored_end named.1)

  abbrev pub TestsTargets : Option Bytes → List Listed → ℕ → Bytes → Result (Unit {0}) LookFault → Type 0
  TestsTargets None listed count lines result = ⊤
  TestsTargets (Some text) listed count lines result = TestsRefs text listed count lines result

  -- what stands behind the records was read, or there is a fault
  abbrev pub ReadsRefs : {A : Type 0} → Bytes → List Listed → ℕ → Result (Tail A) LookFault → Type 0
  ReadsRefs text listed place (Ok tail) =
      (records : List Record) → AreTold name v text listed records
      → (refs : List Ref) × (refs_behind records (drop place text) ≡ Ok refs) × (drop tail.refs tail.text.items ≡ refs_text refs)
  ReadsRefs text listed place (Err fault) = (records : List Record) → AreTold name v text listed records → RefusesWith fault (refs_behind records (drop place text))

  abbrev pub ReadsTail : {A : Type 0} → Option Bytes → List Listed → ℕ → Result (Tail A) LookFault → Type 0
  ReadsTail None listed place result = ⊤
  ReadsTail (Some text) listed place result = ReadsRefs text listed place result
