-- What the law of exports of ranges supposes and says: a repository that holds what a range excludes receives the rest.
-- Source: git-fast-export(1) and git-fast-import(1).
use Rattle.std.specs.Prelude.{◌≡◌, ◌≢◌, ◌⊎◌, ◌-◌, ◌<◌, ◌^◌, Bool, true, false, List, [], ◌++◌, length, map, reverse, None, Some}
use Rattle.std.specs.FinMap.Entries.{put}
use Rattle.std.specs.List.{AllByRecursion, fold, list_any}
use Rattle.gx_model.specs.declared.objects.Kind.{Kind}
use Rattle.gx_model.specs.Texts.{Bytes, byte_cmp}
use Rattle.gx_model.specs.Histories.Values.{Commit, IsEncodingAlone, Value, commit_value, text_of}
use Rattle.gx_model.specs.Histories.{History, IsHistory, IsIn, IsWhole, Records, Target, at_commit, at_tag, value_at}
use Rattle.gx_model.specs.Objects.{IsNamer}
use Rattle.gx_model.specs.Records.{name_of}
use Rattle.gx_model.specs.Records.HistoryOf.{history_of}
use Rattle.gx_model.specs.Records.Sound.{IsSound}
use Rattle.gx_model.specs.Revisions.Denotation.{ref_at}
use Rattle.gx_model.specs.Revisions.Ranges.{Word, listing, span}
use Rattle.gx_model.specs.Replay.{Report, finished, is_forward, replayed, replayed_text, start}
use Rattle.gx_model.specs.Changes.{all_changes, commit_ref, own_files, range_commands, range_text, sending_commands, set_refs}
use Rattle.gx_model.specs.Laws.ExportLaws.{AnyReaches, AreSayable, IsReadableFile, IsReadableTarget, IsSpelled}

-- whether a range word excludes a commit
abbrev pub is_excluded : List Word → Commit → Bool
is_excluded words c = list_any (λ w. (span w).excluded c) words

-- names tell these values apart
abbrev pub AreToldByName : (Kind → Bytes → Bytes) → List Value → Type 0
AreToldByName name values = (v w : Value) → IsIn values v → IsIn values w → name_of name v ≡ name_of name w → v ≡ w

-- The commit of a ref that is there already is an ancestor of the one that it is set to. A tag that is there already is on an
-- excluded commit, or on one that goes out on another ref.
abbrev pub IsForwardRef : History → History → List Word → Bytes → Target → Type 0
IsForwardRef h target words ref (at_commit c) = is_forward (ref_at target ref) (Some c) ≡ true
IsForwardRef h target words ref (at_tag t) =
    (ref_at target ref ≡ None) ⊎ (is_excluded words t.target ≡ true) ⊎ (commit_ref (set_refs h words) t.target ≢ ref)

-- What a history holds that receives what range words list of another: each commit that they exclude; and the refs that are set are
-- forward.
pub record HoldsRest (h : History) (words : List Word) (target : History) : Type 0 where
  pub holds : (c : Commit) → IsIn h.values (commit_value c) → is_excluded words c ≡ true → IsIn target.values (commit_value c)
  pub forward : AllByRecursion (λ r. IsForwardRef h target words r.0 r.1) (set_refs h words)

-- the same of a history whose values are told by their names
pub record CanReceive (name : Kind → Bytes → Bytes) (h : History) (words : List Word) (target : History) : Type 0 where
  pub history : IsHistory target
  pub told : AreToldByName name target.values
  pub rest : HoldsRest h words target

-- what the commits that are sent and the refs that are set reach
abbrev pub IsSent : History → List Word → Value → Type 0
IsSent h words u = AnyReaches (map commit_value (reverse (listing h words)) ++ map (λ r. value_at r.1) (set_refs h words)) u

-- Beside what was there, exactly what was sent; and the refs are set.
pub record IsReceived (h : History) (words : List Word) (target k : History) : Type 0 where
  pub refs : k.refs ≡ fold (λ rs r. put byte_cmp r.0 r.1 rs) target.refs (set_refs h words)
  pub front : (new : List Value) × (k.values ≡ target.values ++ new)
  pub only : (u : Value) → IsIn k.values u → IsIn target.values u ⊎ IsSent h words u
  pub all : (u : Value) → IsSent h words u → IsIn k.values u
  pub whole : IsWhole k.values

-- each command was read, and each ref was set
abbrev pub range_report : (Kind → Bytes → Bytes) → Bool → History → List Word → History → History → Report
range_report name closed h words target k = record { commands = length (range_commands name closed h words); objects = length k.values - length target.values; refs = length (set_refs h words) }

-- the commands of a range's export are replayed without a fault in a history that can receive them
abbrev pub RangesAreReplayed : Type 0
RangesAreReplayed =
    (name : Kind → Bytes → Bytes) → IsNamer name → (closed : Bool) (h : History) → IsHistory h → (words : List Word) (target : History) → CanReceive name h words target
    → (k : History) × IsReceived h words target k × (replayed name 0 (start target) (range_commands name closed h words) None ≡ finished k [] (range_report name closed h words target k))

-- ---- what a range's text can be read of

-- a commit whose text and own files can be read again
pub record IsReadableChange (c : Commit) : Type 0 where
  pub headers : IsEncodingAlone (text_of c).headers
  pub message : length (text_of c).message < 2 ^ 64
  pub files : AllByRecursion IsReadableFile (own_files c)

-- What a range sends can be read again: it has no gitlink of forty zeros and no headers but those of encodings, and lengths and
-- marks are below 2 ^ 64.
pub record IsReadableRange (h : History) (words : List Word) : Type 0 where
  pub commits : AllByRecursion IsReadableChange (reverse (listing h words))
  pub refs : AllByRecursion (λ r. IsReadableTarget r.1) (set_refs h words)
  pub marks : length (all_changes (reverse (listing h words))) < 2 ^ 64

-- lengths and marks fit where the text does
abbrev pub ShortRangesAreReadable : Type 0
ShortRangesAreReadable =
    (name : Kind → Bytes → Bytes) (closed : Bool) (h : History) (words : List Word) → IsHistory h → AreSayable (reverse (listing h words))
    → length (range_text name closed h words) < 2 ^ 64 → IsReadableRange h words

-- the commands of a range that can be read can be spelled
abbrev pub RangesAreSpelled : Type 0
RangesAreSpelled =
    (name : Kind → Bytes → Bytes) → IsNamer name → (h : History) (words : List Word) → IsHistory h → IsReadableRange h words
    → AllByRecursion IsSpelled (sending_commands name (reverse (listing h words)) (set_refs h words))

-- importing a range's text brings what is sent, and sets the refs
abbrev pub RangesAreImported : Type 0
RangesAreImported =
    (name : Kind → Bytes → Bytes) → IsNamer name → (closed : Bool) (h : History) → IsHistory h → (words : List Word) (target : History) → CanReceive name h words target → IsReadableRange h words
    → (k : History) × IsReceived h words target k × (replayed_text name target (range_text name closed h words) false ≡ finished k [] (range_report name closed h words target k))

-- so does a sound repository that holds what the range excludes
abbrev pub SoundRepositoriesReceive : Type 0
SoundRepositoriesReceive =
    (name : Kind → Bytes → Bytes) → IsNamer name → (closed : Bool) (h : History) → IsHistory h → (words : List Word) (target : Records) → IsSound name target
    → HoldsRest h words (history_of target) → IsReadableRange h words
    → (k : History) × IsReceived h words (history_of target) k
    × (replayed_text name (history_of target) (range_text name closed h words) false ≡ finished k [] (range_report name closed h words (history_of target) k))
