-- What the commands of a stream ask of the history that they begin with, and what they bring.
-- Source: git-fast-import(1), "Commands", and gitrevisions(7).
use Rattle.std.specs.Prelude.{◌≡◌, IfOk, IfSome, Ok, ⊤}
use Rattle.std.specs.List.{AllByRecursion}
use Rattle.std.specs.Option.{option_map}
use Rattle.gx_model.specs.declared.objects.Kind.{Kind}
use Rattle.gx_model.specs.declared.objects.Mode.TheVariants.{Gitlink}
use Rattle.gx_model.specs.Texts.{Bytes}
use Rattle.gx_model.specs.Faults.{◌>>=◌}
use Rattle.gx_model.specs.Histories.{History}
use Rattle.gx_model.specs.Histories.Values.{CommitText}
use Rattle.gx_model.specs.Replay.{text_made}
use Rattle.gx_model.specs.Revisions.{revision_of}
use Rattle.gx_model.specs.Revisions.Denotation.{base_value, ref_at, ref_names}
use Rattle.gx_model.specs.Streams.Commands as command
use Rattle.gx_model.specs.Streams.Commands.{Change, Command, CommitIsh, CommitParts, Inline, Mark, Marked, Modify, Named, Object, Reset}
use Rattle.gx_stand_ins.specs.StandIns.{AreOwnBytes, AreOwnTexts, StandIns, whole_target, whole_value}

-- what holds of each branch that commands set, of each base of a revision that they name, of the bytes of each blob and of the
-- texts of each commit that they bring
module _ (OfRef : Bytes → Type 0) (OfBase : Bytes → Type 0) (OfBytes : Bytes → Type 0) (OfText : CommitText → Type 0) where
  -- of the revision that a text is
  abbrev pub OfRevision : Bytes → Type 0
  OfRevision text = IfOk (revision_of text) (λ revision. OfBase revision.base)

  -- of a text that names a commit
  abbrev pub OfCommitIsh : CommitIsh → Type 0
  OfCommitIsh (Marked n) = ⊤
  OfCommitIsh (Named text) = OfRevision text

  -- of a change; no gitlink is given by a mark
  abbrev pub OfChange : Change → Type 0
  OfChange (Modify Gitlink (Object digits) path) = ⊤
  OfChange (Modify Gitlink (Mark n) path) = ⊥
  OfChange (Modify mode (Object base) path) = OfBase base
  OfChange (Modify mode (Inline bytes) path) = OfBytes bytes
  OfChange _ = ⊤

  -- of a commit command
  pub record OfCommit (c : CommitParts) : Type 0 where
    pub ref : OfRef c.ref
    pub text : OfText (text_made c)
    pub parent : IfSome c.parent OfCommitIsh
    pub merges : AllByRecursion OfCommitIsh c.merges
    pub changes : AllByRecursion OfChange c.changes

  -- of any command
  abbrev pub OfCommand : Command → Type 0
  OfCommand (command.Blob b) = OfBytes b.bytes
  OfCommand (command.Commit c) = OfCommit c
  OfCommand (command.Tag t) = OfCommitIsh t.target
  OfCommand (Reset r) = OfRef r.ref × IfSome r.parent OfCommitIsh
  OfCommand _ = ⊤

module _ (stand name : Kind → Bytes → Bytes) (ins : StandIns) (small whole : History) where
  -- what the small history has as this ref stands for what the whole one has, or neither has it
  abbrev pub IsAlikeRef : Bytes → Type 0
  IsAlikeRef ref = ref_at whole ref ≡ option_map (whole_target ins) (ref_at small ref)

  -- The base of a revision gives what stands for what it gives in the whole history, or is refused alike; and each ref whose name
  -- it may be is alike.
  pub record IsAlikeBase (base : Bytes) : Type 0 where
    pub refs : AllByRecursion IsAlikeRef (ref_names base)
    pub value : base_value name whole base ≡ (base_value stand small base >>= λ value. Ok (whole_value ins value))

  -- both histories tell alike what a command asks for, and what it brings stands for itself
  abbrev pub IsAlike : Command → Type 0
  IsAlike = OfCommand IsAlikeRef IsAlikeBase (AreOwnBytes stand name ins) (AreOwnTexts stand name ins)
