-- What holds of commands, where more holds of what they ask for and bring.
use Rattle.std.proofs.Common.{List, [], ◌∷◌, Option, None, Some, Result, Ok, Err}
use Rattle.std.specs.Prelude.{IfOk, IfSome}
use Rattle.std.specs.List.{AllByRecursion}
use Rattle.gx_model.specs.declared.faults.Fault.{Fault}
use Rattle.gx_model.specs.declared.objects.Mode.TheVariants.{File, Exec, Link, Gitlink, Dir}
use Rattle.gx_model.specs.Texts.{Bytes}
use Rattle.gx_model.specs.Histories.Values.{CommitText}
use Rattle.gx_model.specs.Revisions.{Revision, revision_of}
use Rattle.gx_model.specs.Streams.Commands as command
use Rattle.gx_model.specs.Streams.Commands.{Asks, Blob, Change, Checkpoint, Clear, Command, CommitIsh, Copy, Done, Inline, Mark, Marked, Modify, Named, Object, OptionLine, Progress, Remove, Rename, Reset}
use Rattle.gx_stand_ins.specs.Asked.{OfChange, OfCommand, OfCommitIsh, OfRevision}

module _ (R S : Bytes → Type 0) (B C : Bytes → Type 0) (X Y : Bytes → Type 0) (T U : CommitText → Type 0)
    (ref : (x : Bytes) → R x → S x) (base : (x : Bytes) → B x → C x) (bytes : (x : Bytes) → X x → Y x) (text : (t : CommitText) → T t → U t) where
  revision_more : (x : Bytes) → OfRevision R B X T x → OfRevision S C Y U x
  revision_more x h = by (revision_of x) h
    where
      by : (r : Result Revision Fault) → IfOk r (λ a. B a.base) → IfOk r (λ a. C a.base)
      by (Ok a) k = base a.base k
      by (Err e) k = tt

  pub named_more : (c : CommitIsh) → OfCommitIsh R B X T c → OfCommitIsh S C Y U c
  named_more (Marked n) h = tt
  named_more (Named x) h = revision_more x h

  pub some_more : (o : Option CommitIsh) → IfSome o (OfCommitIsh R B X T) → IfSome o (OfCommitIsh S C Y U)
  some_more None h = tt
  some_more (Some c) h = named_more c h

  pub all_more : (cs : List CommitIsh) → AllByRecursion (OfCommitIsh R B X T) cs → AllByRecursion (OfCommitIsh S C Y U) cs
  all_more [] h = tt
  all_more (c ∷ cs) h = (named_more c h.0, all_more cs h.1)

  pub change_more : (c : Change) → OfChange R B X T c → OfChange S C Y U c
  change_more (Modify Gitlink (Object d) p) h = tt
  change_more (Modify Gitlink (Mark n) p) h = absurd h
  change_more (Modify Gitlink (Inline x) p) h = bytes x h
  change_more (Modify File (Object x) p) h = base x h
  change_more (Modify File (Mark n) p) h = tt
  change_more (Modify File (Inline x) p) h = bytes x h
  change_more (Modify Exec (Object x) p) h = base x h
  change_more (Modify Exec (Mark n) p) h = tt
  change_more (Modify Exec (Inline x) p) h = bytes x h
  change_more (Modify Link (Object x) p) h = base x h
  change_more (Modify Link (Mark n) p) h = tt
  change_more (Modify Link (Inline x) p) h = bytes x h
  change_more (Modify Dir (Object x) p) h = base x h
  change_more (Modify Dir (Mark n) p) h = tt
  change_more (Modify Dir (Inline x) p) h = bytes x h
  change_more (Remove p) h = tt
  change_more (Copy p q) h = tt
  change_more (Rename p q) h = tt
  change_more Clear h = tt

  pub changes_more : (cs : List Change) → AllByRecursion (OfChange R B X T) cs → AllByRecursion (OfChange S C Y U) cs
  changes_more [] h = tt
  changes_more (c ∷ cs) h = (change_more c h.0, changes_more cs h.1)

  pub command_more : (c : Command) → OfCommand R B X T c → OfCommand S C Y U c
  command_more (Blob b) h = bytes b.bytes h
  command_more (command.Commit c) h = record { ref = ref c.ref h.ref; text = text _ h.text; parent = some_more c.parent h.parent; merges = all_more c.merges h.merges; changes = changes_more c.changes h.changes }
  command_more (command.Tag t) h = named_more t.target h
  command_more (Reset r) h = (ref r.ref h.0, some_more r.parent h.1)
  command_more Checkpoint h = tt
  command_more (Progress x) h = tt
  command_more (Asks f) h = tt
  command_more (OptionLine x) h = tt
  command_more Done h = tt

  -- of all commands
  pub commands_more : (cs : List Command) → AllByRecursion (OfCommand R B X T) cs → AllByRecursion (OfCommand S C Y U) cs
  commands_more [] h = tt
  commands_more (c ∷ cs) h = (command_more c h.0, commands_more cs h.1)
