-- Repositories of all commits and tags that Git has: what holds of their records and refs. Trees are as everywhere.
-- Source: Pro Git, "Git Objects", gitglossary(7), and git-check-ref-format(1).
use Rattle.std.specs.Prelude.{◌≡◌, ℕ, zero, suc, true, List, [], ◌∷◌, ◌++◌, map, length, codes, Option, None, Some, IsTrue, ⊤}
use Rattle.std.specs.List.{AllByRecursion, list_all, starts_with}
use Rattle.std.specs.Prelude.{nat_eq}
use Rattle.std.specs.FinMap.Entries.{is_sorted}
use Rattle.gx_model.specs.declared.objects.Kind.{Kind}
use Rattle.gx_model.specs.declared.objects.Kind.TheVariants as kind
use Rattle.gx_model.specs.Texts.{Bytes, byte_cmp}
use Rattle.gx_model.specs.Texts.RefNames.{is_ref_name}
use Rattle.gx_model.specs.Histories.{AreDistinct, Record, Records}
use Rattle.gx_model.specs.Records.Growth.{record_named}
use Rattle.gx_model.specs.Records.Sound.{AnyByRecursion, HasShortPaths, Holds, IsTree}
use Rattle.gx_wide.specs.WideTexts.{IsWideCommitText, IsWideTagText, WideCommitParts, WideTagParts, wide_tag_parts_in}

-- the body of a commit whose tree and parents are held
abbrev pub IsWideCommit : List Record → Bytes → Type 0
IsWideCommit records body =
    (parts : WideCommitParts) × IsWideCommitText parts body × Holds records kind.Tree parts.tree × AllByRecursion (Holds records kind.Commit) parts.parents

-- the body of a tag whose object is held, of the kind that it tells
abbrev pub IsWideTag : List Record → Bytes → Type 0
IsWideTag records body = (parts : WideTagParts) × IsWideTagText parts body × Holds records parts.of_kind parts.object

-- a canonical body whose links are among these records
abbrev pub IsWideLinked : List Record → Kind → Bytes → Type 0
IsWideLinked records kind.Blob body = ⊤
IsWideLinked records kind.Tree body = IsTree records body
IsWideLinked records kind.Commit body = IsWideCommit records body
IsWideLinked records kind.Tag body = IsWideTag records body

-- each record's links are earlier records
abbrev pub AreWideLinkedAfter : List Record → List Record → Type 0
AreWideLinkedAfter before [] = ⊤
AreWideLinkedAfter before (r ∷ rs) = IsWideLinked before r.kind r.body × AreWideLinkedAfter (before ++ r ∷ []) rs

-- an object of any kind; where the ref is a branch, a commit
pub record IsWideTarget (records : List Record) (ref called : Bytes) : Type 0 where
  pub held : AnyByRecursion (λ held. held.name ≡ called) records
  pub branch : starts_with nat_eq ref (codes "refs/heads/") ≡ true → Holds records kind.Commit called

-- names are the namer's and distinct, bodies are canonical and link to earlier records, no path is too long,
-- and the refs are in order, have ref names, and hold objects; branches hold commits
pub record IsWide (name : Kind → Bytes → Bytes) (repository : Records) : Type 0 where
  pub named : AllByRecursion (λ held. held.name ≡ name held.kind held.body) repository.records
  pub distinct : AreDistinct (map (λ held. held.name) repository.records)
  pub linked : AreWideLinkedAfter [] repository.records
  pub paths : AllByRecursion (HasShortPaths repository.records) repository.records
  pub sorted : IsTrue (is_sorted byte_cmp repository.refs)
  pub ref_names : IsTrue (list_all (λ ref. is_ref_name ref.0) repository.refs)
  pub held : AllByRecursion (λ ref. IsWideTarget repository.records ref.0 ref.1) repository.refs

-- ---- peeling

-- what a tag names; nothing else leads to another object
abbrev pub step_of : Kind → Bytes → Option Bytes
step_of kind.Tag body = Some (wide_tag_parts_in body).object
step_of _ body = None

-- the object behind at most n tags
abbrev pub peeled_within : ℕ → List Record → Bytes → Bytes
peeled_within zero records called = called
peeled_within (suc n) records called = elim (record_named records called) [
  | None ↦ called
  | Some held ↦ elim (step_of held.kind held.body) [ None ↦ called | Some next ↦ peeled_within n records next ]
]

-- the object that isn't a tag behind an object of this name: no more tags stand one behind the other than there are records
abbrev pub peeled : List Record → Bytes → Bytes
peeled records called = peeled_within (length records) records called
