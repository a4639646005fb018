use Rattle.std.proofs.lemmas.Result.{IfOk-weaker}
use Rattle.gx_line.specs.CommandLine.{top, with_store_commands, with_stream_commands, with_tree_commands}
use Rattle.gx_line.proofs.command_line.commands.command_line.Goals as goal

pub returns : goal.returns
returns c =
    let one = with_stream_commands top in
    let two = with_store_commands one in
    let first = c.with_stream_commands-gx.ensures top c.top.ensures in
    let second = c.with_store_commands-gx.ensures one first in
    let third = c.with_tree_commands-gx.ensures two second in
    record { app = IfOk-weaker c.with_commit_commands.result _ _ (λ m h. h.0) (c.with_commit_commands.ensures (with_tree_commands two) third) }
