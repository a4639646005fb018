-- The law of stand-ins: what a small repository takes from a stream, the whole one takes.
-- Source: git-fast-import(1), "Commands", and gitglossary(7), "object database".
use Rattle.std.specs.Prelude.{◌≡◌, ◌-◌, Bool, List, ◌++◌, map, length, drop, Option, Some}
use Rattle.std.specs.FinMap.Entries.{put}
use Rattle.std.specs.List.{AllByRecursion, fold}
use Rattle.gx_model.specs.declared.faults.Fault.{Fault}
use Rattle.gx_model.specs.declared.features.Features.{Features}
use Rattle.gx_model.specs.declared.objects.Kind.{Kind}
use Rattle.gx_model.specs.Texts.{Bytes, byte_cmp}
use Rattle.gx_model.specs.Histories.Values.{Value}
use Rattle.gx_model.specs.Histories.{History, IsIn, Record, Records, StandsFor, Target, record_of, value_at, with_one}
use Rattle.gx_model.specs.Objects.{IsNamer}
use Rattle.gx_model.specs.Records.Growth.{put_all}
use Rattle.gx_model.specs.Records.HistoryOf.{history_of}
use Rattle.gx_model.specs.Records.Publishing.{with_changes}
use Rattle.gx_model.specs.Records.Sound.{IsSound}
use Rattle.gx_model.specs.Replay.{Report, begun, finished, imported_asked, replayed}
use Rattle.gx_model.specs.Streams.Commands.{Command}
use Rattle.gx_model.specs.Streams.Grammar.{commands_asked}
use Rattle.gx_model.specs.Streams.Items.{items_of}
use Rattle.gx_stand_ins.specs.Asked.{IsAlike}
use Rattle.gx_stand_ins.specs.SmallRepositories.{AsksAlike, IsSmallOf, stand_name}
use Rattle.gx_stand_ins.specs.StandIns.{AreNamers, StandIns, ValueKeepsName, whole_target, whole_value}

-- refs with each of these set, a later one after an earlier one
abbrev pub with_refs_set : List (Bytes × Target) → List (Bytes × Target) → List (Bytes × Target)
with_refs_set refs sets = fold (λ rs set. put byte_cmp set.0 set.1 rs) refs sets

-- the same refs, at what the small repository's stand for
abbrev pub whole_refs : StandIns → List (Bytes × Target) → List (Bytes × Target)
whole_refs ins refs = map (λ ref. (ref.0, whole_target ins ref.1)) refs

-- a report, but for the count of objects, which is that of the whole history
abbrev pub whole_report : History → History → Report → Report
whole_report whole whole_now report = record report { objects = length whole_now.values - length whole.values }

module _ (stand name : Kind → Bytes → Bytes) (ins : StandIns) where
  -- each value of the small history stands for one of the whole history, under one name, and so does what its refs hold
  pub record IsSmall (small whole : History) : Type 0 where
    pub held : AllByRecursion (λ value. IsIn whole.values (whole_value ins value)) small.values
    pub values : AllByRecursion (ValueKeepsName stand name ins) small.values
    pub refs : AllByRecursion (λ ref. ValueKeepsName stand name ins (value_at ref.1)) small.refs

  -- Both histories grew by the same objects, in their order, but for those that the whole one held, and by the same refs.
  pub record GrewAlike (small whole small_now whole_now : History) : Type 0 where
    pub new : List Value
    pub small_values : small_now.values ≡ small.values ++ new
    pub whole_values : whole_now.values ≡ fold with_one whole.values (map (whole_value ins) new)
    pub records : AllByRecursion (λ value. record_of stand value ≡ record_of name (whole_value ins value)) new
    pub sets : List (Bytes × Target)
    pub small_refs : small_now.refs ≡ with_refs_set small.refs sets
    pub whole_refs : whole_now.refs ≡ with_refs_set whole.refs (whole_refs ins sets)
    pub named : AllByRecursion (λ ref. ValueKeepsName stand name ins (value_at ref.1)) sets

-- Where each value of a small history stands for one of a whole history under one name, both tell alike what commands ask for, and
-- what these bring stands for itself: a replay that the small history accepts the whole one accepts, with the same progress and
-- report, and both grew alike.
abbrev pub StandInsTell : Type 0
StandInsTell =
    (stand name : Kind → Bytes → Bytes) → IsNamer name → AreNamers stand name
    → (ins : StandIns) (small whole small_now : History) → IsSmall stand name ins small whole
    → (features : Features) (commands : List Command) (end : Option Fault) → AllByRecursion (IsAlike stand name ins small whole) commands
    → (progress : Bytes) (report : Report) → replayed stand 0 (begun features small) commands end ≡ finished small_now progress report
    → (whole_now : History)
    × (replayed name 0 (begun features whole) commands end ≡ finished whole_now progress (whole_report whole whole_now report))
    × GrewAlike stand name ins small whole small_now whole_now

-- For each namer: a small repository of stand-ins, and a text that asks what both tell alike and brings what stands for no other.
-- Where the small one's import of the text is accepted, and gives these records and refs, the whole one's is accepted, with the same
-- progress and report. The whole one with the small one's new records put, where no name is another object's, and with the small
-- one's refs set, stands for what its import gives.
abbrev pub StandInsBring : (Kind → Bytes → Bytes) → Type 0
StandInsBring name =
    (nonce : Bytes) (whole small small_now : Records) → IsSound name whole → IsSound (stand_name nonce name) small → IsSmallOf nonce whole small
    → (features : Features) (text : Bytes) (fails : Bool) → AllByRecursion (AsksAlike name nonce whole small) (commands_asked features (items_of text fails)).list
    → (h : History) (progress : Bytes) (report : Report)
    → imported_asked features (stand_name nonce name) (history_of small) text fails ≡ finished h progress report → StandsFor (stand_name nonce name) small_now h
    → (k : History)
    × (imported_asked features name (history_of whole) text fails ≡ finished k progress (whole_report (history_of whole) k report))
    × ((records : List Record) → put_all whole.records (drop (length small.records) small_now.records) ≡ Some records
    → StandsFor name (record { records = records; refs = with_changes whole.refs small_now.refs }) k)
