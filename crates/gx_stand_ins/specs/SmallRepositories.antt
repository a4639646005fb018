-- A small repository that stands for a whole one: some of its blobs and commits have, behind a nonce, the name of what they stand for.
-- Source: Pro Git, "Git Objects", on names and on the texts of commits.
use Rattle.std.specs.Prelude.{[], ◌≡◌, ◌&&◌, if◌then◌else◌, MatchOption, false, List, length, take, drop, Option, None, Some, Ok, codes}
use Rattle.std.specs.List.{AllByRecursion}
use Rattle.std.specs.Map.{lookup}
use Rattle.std.specs.Option.{option_map, unwrap_or}
use Rattle.gx_model.specs.declared.objects.Kind.{Kind}
use Rattle.gx_model.specs.declared.objects.Kind.TheVariants as kind
use Rattle.gx_model.specs.Texts.{Bytes, same_bytes}
use Rattle.gx_model.specs.Faults.{Given, ◌>>=◌}
use Rattle.gx_model.specs.Objects.{is_name, text_lines}
use Rattle.gx_model.specs.Histories.Values.{Commit, CommitText, Commits, parents_of, text_of}
use Rattle.gx_model.specs.Histories.{Record, Records}
use Rattle.gx_model.specs.Records.{name_of}
use Rattle.gx_model.specs.Records.Growth.{record_named}
use Rattle.gx_model.specs.Records.HistoryOf.{bytes_of_blob, commit_of_value, commit_parts_in, history_of, value_of_name}
use Rattle.gx_model.specs.Records.Sound.{Holds}
use Rattle.gx_model.specs.Revisions.Denotation.{base_value, ref_names}
use Rattle.gx_model.specs.Streams.Commands.{Command}
use Rattle.gx_stand_ins.specs.Asked.{OfCommand}
use Rattle.gx_stand_ins.specs.StandIns.{StandIns}

-- ---- names

-- the name of 20 bytes of which a text consists behind these
abbrev pub name_behind : Bytes → Bytes → Option Bytes
name_behind front text = if same_bytes (take (length front) text) front && is_name (drop (length front) text) then Some (drop (length front) text) else None

-- who makes and commits a commit that stands for another
abbrev pub stand_in_maker : Bytes
stand_in_maker = codes "stand-in <stand-in> 0 +0000"

-- the texts of such a commit
abbrev pub stand_in_text : Bytes → CommitText
stand_in_text message = record { author = stand_in_maker; committer = stand_in_maker; headers = []; message = message }

-- what stands behind the line of the tree in a commit without parents that stands for another, before the name
unfoldable pub commit_front : Bytes → Bytes
commit_front nonce = text_lines (stand_in_text nonce)

-- The name of the object for which one of this kind and body stands, where it does: a blob of the nonce and a name, and a commit
-- with such a message. The line of a commit's tree has 46 bytes.
abbrev pub stood_for : Bytes → Kind → Bytes → Option Bytes
stood_for nonce kind.Blob body = name_behind nonce body
stood_for nonce kind.Commit body = name_behind (commit_front nonce) (drop 46 body)
stood_for nonce _ body = None

-- that name, and the namer's for each other object
abbrev pub stand_name : Bytes → (Kind → Bytes → Bytes) → Kind → Bytes → Bytes
stand_name nonce name of_kind body = unwrap_or (stood_for nonce of_kind body) (name of_kind body)

-- ---- what stands for what

-- the parents and the texts of the commit of this name
abbrev pub elders_held : List Record → Bytes → Commits × CommitText
elders_held records called = let revision : Commit = commit_of_value (value_of_name records called) in (parents_of revision, text_of revision)

-- the bytes of the blob of that name among these records, and the parents and texts of the commit
abbrev pub stand_ins : Bytes → List Record → StandIns
stand_ins nonce records = record {
  bytes = λ bytes. elim (name_behind nonce bytes) [ None ↦ bytes | Some called ↦ bytes_of_blob (value_of_name records called) ];
  elders = λ text. option_map (elders_held records) (name_behind (commit_front nonce) (text_lines text));
}

module _ (nonce : Bytes) (whole : Records) where
  -- a commit of this name is held, with the tree of this commit's body
  pub record HasTreeOf (called body : Bytes) : Type 0 where
    pub held : Record
    pub found : record_named whole.records called ≡ Some held
    pub commit : held.kind ≡ kind.Commit
    pub tree : (commit_parts_in held.body).tree ≡ (commit_parts_in body).tree

  -- a blob of this name is held, or a commit with the same tree
  abbrev pub StandsForHeld : Kind → Bytes → Bytes → Type 0
  StandsForHeld kind.Blob called body = Holds whole.records kind.Blob called
  StandsForHeld kind.Commit called body = HasTreeOf called body
  StandsForHeld _ called body = ⊥

  -- an object of the whole repository, or one that stands for one of it
  abbrev pub IsOfWhole : Record → Type 0
  IsOfWhole held = MatchOption (stood_for nonce held.kind held.body) (record_named whole.records held.name ≡ Some held) (λ called. StandsForHeld held.kind called held.body)

  -- each object of the small repository is one of the whole one or stands for one, and each of its refs is one of the whole one's
  pub record IsSmallOf (small : Records) : Type 0 where
    pub records : AllByRecursion IsOfWhole small.records
    pub refs : AllByRecursion (λ ref. lookup (same_bytes ref.0) whole.refs ≡ Some ref.1) small.refs

-- ---- what both tell alike, by the names of objects

-- the name of what the base of a revision gives
abbrev pub base_name : (Kind → Bytes → Bytes) → Records → Bytes → Given Bytes
base_name name repository base = base_value name (history_of repository) base >>= λ value. Ok (name_of name value)

-- both repositories have the same as this ref, or neither has it
abbrev pub IsSameRef : Records → Records → Bytes → Type 0
IsSameRef whole small ref = lookup (same_bytes ref) small.refs ≡ lookup (same_bytes ref) whole.refs

module _ (name : Kind → Bytes → Bytes) (nonce : Bytes) (whole small : Records) where
  -- the base of a revision gives an object of one name in both, or is refused alike, and each ref whose name it may be is the same
  pub record IsSameBase (base : Bytes) : Type 0 where
    pub refs : AllByRecursion (IsSameRef whole small) (ref_names base)
    pub value : base_name (stand_name nonce name) small base ≡ base_name name whole base

-- a text that doesn't begin with the nonce
abbrev pub BeginsOtherwise : Bytes → Bytes → Type 0
BeginsOtherwise nonce text = same_bytes (take (length nonce) text) nonce ≡ false

-- both repositories tell alike what a command asks for, and no blob and no message that it brings begins with the nonce
abbrev pub AsksAlike : (Kind → Bytes → Bytes) → Bytes → Records → Records → Command → Type 0
AsksAlike name nonce whole small =
    OfCommand (IsSameRef whole small) (IsSameBase name nonce whole small) (BeginsOtherwise nonce) (λ text. BeginsOtherwise nonce text.message)
