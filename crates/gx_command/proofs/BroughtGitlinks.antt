-- A stream can say what a command brings, by its type: digits aren't all zeros, a gitlink is given by digits, and a commit has no
-- header but that of an encoding.
use Rattle.std.proofs.Common.{List, [], ◌∷◌, map, Option, None, Some, refl}
use Rattle.std.specs.Option.{option_map}
use Rattle.std.specs.Prelude.{IsTrue}
use Rattle.std.proofs.lemmas.Bool.{false≢true}
use Rattle.std.specs.List.{AllByRecursion}
use Rattle.gx_model.specs.declared.objects.Mode.{Mode}
use Rattle.gx_model.specs.declared.objects.Mode.TheVariants.{File, Exec, Link, Gitlink, Dir}
use Rattle.gx_model.specs.Histories.Values.{IsEncodingAlone}
use Rattle.gx_model.specs.Texts.Headers.{encoding_header}
use Rattle.gx_model.specs.Texts.Paths.{Path}
use Rattle.gx_model.specs.Streams.Commands as model
use Rattle.gx_model.specs.Streams.Gitlinks.{BringsSayable, GivesNoNullGitlink}
use Rattle.gx_command.specs.Views.{shown_change, shown_command, shown_data, shown_encoding, shown_modify}
use Rattle.gx_command.specs.DataRefs.{is_suited}
use Rattle.gx_command.specs.declared.commands.Change.{Change}
use Rattle.gx_command.specs.declared.commands.Change.TheVariants as change
use Rattle.gx_command.specs.declared.commands.Command.{Command}
use Rattle.gx_command.specs.declared.commands.Command.TheVariants as command
use Rattle.gx_command.specs.declared.commands.DataRef.{DataRef}
use Rattle.gx_command.specs.declared.commands.DataRef.TheVariants.{Inline, Mark, Name}
use Rattle.gx_command.specs.declared.commands.Modify.{Modify}
use Rattle.gx_command.specs.declared.texts.Encoding.{Encoding}

module _ {A : Type 0} where
  suited_given : (mode : Mode) (d : DataRef A) (path : Path) → IsTrue (is_suited mode d) → GivesNoNullGitlink (model.Modify mode (shown_data d) path)
  suited_given Gitlink (Name digits) path h = digits.some
  suited_given Gitlink (Mark n) path h = absurd (false≢true h)
  suited_given Gitlink (Inline bytes) path h = absurd (false≢true h)
  suited_given File d path h = tt
  suited_given Exec d path h = tt
  suited_given Link d path h = tt
  suited_given Dir d path h = tt

  modify_given : (m : Modify A) → GivesNoNullGitlink (shown_modify m)
  modify_given m = suited_given m.mode m.data_ref m.path m.suits

  changes_given : (cs : List (Change A)) → AllByRecursion GivesNoNullGitlink (map shown_change cs)
  changes_given [] = tt
  changes_given (change.Modify m ∷ cs) = (modify_given m, changes_given cs)
  changes_given (change.Remove path ∷ cs) = (tt, changes_given cs)
  changes_given (change.Copy source destination ∷ cs) = (tt, changes_given cs)
  changes_given (change.Rename source destination ∷ cs) = (tt, changes_given cs)
  changes_given (change.Clear ∷ cs) = (tt, changes_given cs)

  encoding_given : (encoding : Option (Encoding A)) → IsEncodingAlone (encoding_header (option_map shown_encoding encoding))
  encoding_given None = (None, refl, refl)
  encoding_given (Some e) = (Some e.name.items, e.proper, refl)

  pub none_brought : (c : Command A) → BringsSayable (shown_command c)
  none_brought (command.Blob b) = tt
  none_brought (command.Commit c) = (changes_given c.changes.items, encoding_given c.encoding)
  none_brought (command.Tag t) = tt
  none_brought (command.Reset r) = tt
  none_brought command.Checkpoint = tt
  none_brought (command.Progress t) = tt
  none_brought (command.Feature f) = tt
  none_brought (command.OptionLine t) = tt
  none_brought command.Done = tt
