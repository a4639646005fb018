-- Commands as the model has them, without where they lie in memory.
use Rattle.std.specs.Prelude.{map}
use Rattle.std.specs.Option.{option_map}
use Rattle.gx_model.specs.Streams.Commands as model
use Rattle.gx_model.specs.Texts.{Bytes}
use Rattle.gx_model.specs.Texts.Headers.{encoding_header}
use Rattle.gx_command.specs.declared.commands.Blob.{Blob}
use Rattle.gx_command.specs.declared.commands.Commit.{Commit}
use Rattle.gx_command.specs.declared.commands.Tag.{Tag}
use Rattle.gx_command.specs.declared.commands.Reset.{Reset}
use Rattle.gx_command.specs.declared.commands.CommitIsh.{CommitIsh}
use Rattle.gx_command.specs.declared.commands.CommitIsh.TheVariants as commit_ish
use Rattle.gx_command.specs.declared.commands.DataRef.{DataRef}
use Rattle.gx_command.specs.declared.commands.DataRef.TheVariants as data_ref
use Rattle.gx_command.specs.declared.commands.Modify.{Modify}
use Rattle.gx_command.specs.declared.commands.Change.{Change}
use Rattle.gx_command.specs.declared.commands.Change.TheVariants as change
use Rattle.gx_command.specs.declared.commands.Command.{Command}
use Rattle.gx_command.specs.declared.commands.Command.TheVariants as command
use Rattle.gx_command.specs.declared.texts.Encoding.{Encoding}
use Rattle.gx_command.specs.declared.texts.Identity.{Identity}

-- who made it, as it is written
abbrev pub shown_ident : {A : Type 0} → Identity A → Bytes
shown_ident = λ i. i.bytes.items

-- an encoding as its name
abbrev pub shown_encoding : {A : Type 0} → Encoding A → Bytes
shown_encoding = λ e. e.name.items

abbrev pub shown_commit_ish : {A : Type 0} → CommitIsh A → model.CommitIsh
shown_commit_ish (commit_ish.Mark n) = model.Marked n
shown_commit_ish (commit_ish.Text t) = model.Named t.items

abbrev pub shown_data : {A : Type 0} → DataRef A → model.DataRef
shown_data (data_ref.Mark n) = model.Mark n
shown_data (data_ref.Name d) = model.Object d.digits
shown_data (data_ref.Inline bytes) = model.Inline bytes.items

abbrev pub shown_modify : {A : Type 0} → Modify A → model.Change
shown_modify m = model.Modify m.mode (shown_data m.data_ref) m.path

abbrev pub shown_change : {A : Type 0} → Change A → model.Change
shown_change (change.Modify m) = shown_modify m
shown_change (change.Remove path) = model.Remove path
shown_change (change.Copy source destination) = model.Copy source destination
shown_change (change.Rename source destination) = model.Rename source destination
shown_change change.Clear = model.Clear

abbrev pub shown_blob : {A : Type 0} → Blob A → model.Command
shown_blob b = model.Blob (record { mark = b.mark; bytes = b.bytes.items })

abbrev pub commit_parts : {A : Type 0} → Commit A → model.CommitParts
commit_parts c = record {
  ref = c.branch.bytes.items;
  mark = c.mark;
  author = option_map shown_ident c.author;
  committer = c.committer.bytes.items;
  headers = encoding_header (option_map shown_encoding c.encoding);
  message = c.message.items;
  parent = option_map shown_commit_ish c.from;
  merges = map shown_commit_ish c.merges.items;
  changes = map shown_change c.changes.items;
}

abbrev pub shown_commit : {A : Type 0} → Commit A → model.Command
shown_commit c = model.Commit (commit_parts c)

abbrev pub tag_parts : {A : Type 0} → Tag A → model.TagParts
tag_parts t = record {
  name = t.name.bytes.items;
  mark = t.mark;
  target = shown_commit_ish t.from;
  tagger = option_map shown_ident t.tagger;
  message = t.message.items;
}

abbrev pub shown_tag : {A : Type 0} → Tag A → model.Command
shown_tag t = model.Tag (tag_parts t)

abbrev pub shown_reset : {A : Type 0} → Reset A → model.Command
shown_reset r = model.Reset (record { ref = r.branch.bytes.items; parent = option_map shown_commit_ish r.from })

abbrev pub shown_command : {A : Type 0} → Command A → model.Command
shown_command (command.Blob b) = shown_blob b
shown_command (command.Commit c) = shown_commit c
shown_command (command.Tag t) = shown_tag t
shown_command (command.Reset r) = shown_reset r
shown_command command.Checkpoint = model.Checkpoint
shown_command (command.Progress t) = model.Progress t.items
shown_command (command.Feature f) = model.Asks f
shown_command (command.OptionLine t) = model.OptionLine t.items
shown_command command.Done = model.Done
