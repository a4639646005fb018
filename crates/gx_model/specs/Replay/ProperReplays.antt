-- Replays give histories: the parts of a stream's commands have their forms, and commands whose parts have them leave a history
-- one. Source: git-fast-import(1), "Commands".
use Rattle.std.specs.Prelude.{◌≡◌, ℕ, Bool, ◌&&◌, IsTrue, List, Option, ⊤}
use Rattle.std.specs.List.{AllByRecursion, list_all}
use Rattle.gx_model.specs.declared.faults.Fault.{Fault}
use Rattle.gx_model.specs.declared.objects.Kind.{Kind}
use Rattle.gx_model.specs.declared.objects.Mode.{Mode}
use Rattle.gx_model.specs.declared.objects.Mode.TheVariants.{Dir, Gitlink}
use Rattle.gx_model.specs.Texts.{Bytes}
use Rattle.gx_model.specs.Texts.Headers.{is_headers}
use Rattle.gx_model.specs.Texts.RefNames.{is_ref_name, is_tag_name}
use Rattle.gx_model.specs.Texts.Idents.{is_ident}
use Rattle.gx_model.specs.Texts.Paths.{Path, is_component, is_short}
use Rattle.gx_model.specs.Streams.Items.{Stream}
use Rattle.gx_model.specs.Streams.Commands as command
use Rattle.gx_model.specs.Streams.Commands.{Change, Clear, Command, CommitParts, Copy, DataRef, Inline, Mark, Modify, Object, Remove, Rename, TagParts}
use Rattle.gx_model.specs.Streams.Grammar.{commands_of}
use Rattle.gx_model.specs.Texts.Digits.{is_any_name_text}
use Rattle.gx_model.specs.Histories.Values.{is_optional_ident}
use Rattle.gx_model.specs.Histories.{History, IsHistory}
use Rattle.gx_model.specs.Replay.{Kept, Report, finished, refused, replayed, replayed_text, start}

-- ---- commands

-- the path of a file, or the root
abbrev pub IsWholePath : Path → Type 0
IsWholePath path = IsTrue (list_all is_component path && is_short path)

-- a modify gives no directory, and a gitlink by forty digits alone
abbrev pub IsContent : Mode → DataRef → Type 0
IsContent Dir _ = ⊥
IsContent Gitlink (Object digits) = IsTrue (is_any_name_text digits)
IsContent Gitlink (Mark n) = ⊥
IsContent Gitlink (Inline bytes) = ⊥
IsContent _ _ = ⊤

-- a change whose content and whose new path have their forms
abbrev pub IsProperChange : Change → Type 0
IsProperChange (Modify mode content path) = IsContent mode content × IsWholePath path
IsProperChange (Remove path) = ⊤
IsProperChange (Copy source dest) = IsWholePath dest
IsProperChange (Rename source dest) = IsWholePath dest
IsProperChange Clear = ⊤

-- a commit command whose parts have their forms
pub record IsProperCommit (c : CommitParts) : Type 0 where
  pub ref : IsTrue (is_ref_name c.ref)
  pub author : IsTrue (is_optional_ident c.author)
  pub committer : IsTrue (is_ident c.committer)
  pub headers : IsTrue (is_headers c.headers)
  pub changes : AllByRecursion IsProperChange c.changes

-- a tag command whose parts have their forms
pub record IsProperTag (t : TagParts) : Type 0 where
  pub name : IsTrue (is_tag_name t.name)
  pub tagger : IsTrue (is_optional_ident t.tagger)

-- a command whose parts have their forms
abbrev pub IsProperCommand : Command → Type 0
IsProperCommand (command.Commit c) = IsProperCommit c
IsProperCommand (command.Tag t) = IsProperTag t
IsProperCommand (command.Reset r) = IsTrue (is_ref_name r.ref)
IsProperCommand _ = ⊤

-- ---- laws

-- the commands of a stream have such parts
abbrev pub StreamsAreProper : Type 0
StreamsAreProper = (s : Stream) → AllByRecursion IsProperCommand (commands_of s).list

-- commands with such parts leave a history one
abbrev pub ReplaysGiveHistories : Type 0
ReplaysGiveHistories =
    (name : Kind → Bytes → Bytes) (h k : History) (commands : List Command)
    (end : Option Fault) (n : ℕ) (text : Bytes) (report : Report)
    → IsHistory h → AllByRecursion IsProperCommand commands
    → replayed name n (start h) commands end ≡ finished k text report → IsHistory k

-- and where they are refused, what is kept is one
abbrev pub RefusalsKeepHistories : Type 0
RefusalsKeepHistories =
    (name : Kind → Bytes → Bytes) (h : History) (commands : List Command)
    (end : Option Fault) (n number : ℕ) (fault : Fault) (text : Bytes) (kept : Kept)
    → IsHistory h → AllByRecursion IsProperCommand commands
    → replayed name n (start h) commands end ≡ refused number fault text kept → IsHistory kept.history

-- so does any text
abbrev pub TextsGiveHistories : Type 0
TextsGiveHistories =
    (name : Kind → Bytes → Bytes) (h k : History) (given : Bytes) (fails : Bool)
    (text : Bytes) (report : Report)
    → IsHistory h → replayed_text name h given fails ≡ finished k text report → IsHistory k
