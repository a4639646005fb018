-- The laws of store texts: each text of a sound repository is read as that repository, and nothing else is read of any text;
-- and of the records that a repository takes. Source: this project's own format, and Pro Git, "Git Objects".
use Rattle.std.specs.Prelude.{◌≡◌, ◌↔◌, ◌^◌, ◌<◌, ◌∷◌, [], ◌++◌, length, List, None, Ok, IsTrue, ⊤}
use Rattle.gx_model.specs.declared.objects.Kind.{Kind}
use Rattle.gx_model.specs.declared.objects.Kind.TheVariants as kind
use Rattle.gx_model.specs.declared.store_versions.Version.{Version}
use Rattle.gx_model.specs.Texts.{Bytes}
use Rattle.gx_model.specs.Objects.{CommitParts, Entry, IsCommitText, IsTagText, IsTreeText, TagParts}
use Rattle.gx_model.specs.Histories.{Record, Records, record_for}
use Rattle.gx_model.specs.Records.HistoryOf.{commit_parts_in, entries_in, tag_parts_in}
use Rattle.gx_model.specs.Records.Sound.{HasShortPaths, IsLinked, IsSound}
use Rattle.gx_model.specs.Laws.RepositoryLaws.{with_records}
use Rattle.gx_model.specs.Records.RecordFaults.{content_fault, is_body, record_fault}
use Rattle.gx_model.specs.Stores.StoreText.{IsStoreText, store_text}
use Rattle.gx_model.specs.Stores.StoreReading.{store_of}

-- ---- bodies

-- the canonical body of some entries or parts; every text is a blob's
abbrev pub IsBody : Kind → Bytes → Type 0
IsBody kind.Blob body = ⊤
IsBody kind.Tree body = (entries : List Entry) × IsTreeText entries body
IsBody kind.Commit body = (parts : CommitParts) × IsCommitText parts body
IsBody kind.Tag body = (parts : TagParts) × IsTagText parts body

-- a canonical body is told from every other, and what is read in it are its entries or parts
pub record BodiesAreRead : Type 0 where
  pub told : (of_kind : Kind) (body : Bytes) → IsTrue (is_body of_kind body) ↔ IsBody of_kind body
  pub trees : (entries : List Entry) (body : Bytes) → IsTreeText entries body → entries_in body ≡ entries
  pub commits : (parts : CommitParts) (body : Bytes) → IsCommitText parts body → commit_parts_in body ≡ parts
  pub tags : (parts : TagParts) (body : Bytes) → IsTagText parts body → tag_parts_in body ≡ parts

-- ---- records

-- nothing is against a body exactly where its links are held and no path below it is too long, and nothing is against a
-- record exactly where the repository is sound with it
pub record RecordsAreTaken (name : Kind → Bytes → Bytes) : Type 0 where
  pub linked : (repository : Records) → IsSound name repository → (of_kind : Kind) (body : Bytes) → content_fault repository.records of_kind body ≡ None
      → IsLinked repository.records of_kind body × HasShortPaths repository.records (record_for name of_kind body)
  pub sound : (repository : Records) → IsSound name repository → (of_kind : Kind) (body : Bytes) → record_fault repository.records (record_for name of_kind body) ≡ None
      → IsSound name (with_records repository (repository.records ++ record_for name of_kind body ∷ []))
  pub fine : (records : List Record) (of_kind : Kind) (body : Bytes) → IsSound name (record { records = records ++ record_for name of_kind body ∷ []; refs = [] })
      → record_fault records (record_for name of_kind body) ≡ None

-- ---- texts

-- a sound repository's text, of either version, is read as that repository; what is read of a text is sound, and has that
-- text; and a text is of one version and of one repository
pub record StoresAreRead (name : Kind → Bytes → Bytes) : Type 0 where
  pub read : (version : Version) (repository : Records) → IsSound name repository → length (store_text version repository) < 2 ^ 64
      → store_of name (store_text version repository) ≡ Ok repository
  pub only : (text : Bytes) (repository : Records) → store_of name text ≡ Ok repository → IsSound name repository × IsStoreText text repository
  pub one : (version another : Version) (repository other : Records) → IsSound name repository → IsSound name other
      → store_text version repository ≡ store_text another other → (version ≡ another) × (repository ≡ other)
