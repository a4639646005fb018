use Rattle.gx_line.specs.CommandLine.{bundle_command, drop_command, export_command, gc_command, grow_command, import_command, init_command, put_command, refs_command, set_ref_command, under, verify_command}
use Rattle.gx_line.proofs.command_line.commands.with_store_commands.Goals as goal

pub returns : goal.returns
returns c = λ a h.
    let one = under a init_command in
    let two = under one grow_command in
    let three = under two verify_command in
    let four = under three import_command in
    let five = under four drop_command in
    let six = under five set_ref_command in
    let seven = under six put_command in
    let eight = under seven gc_command in
    let nine = under eight export_command in
    let ten = under nine bundle_command in
    let first = c.with_command-gx.ensures a init_command h c.init_command.ensures in
    let second = c.with_command-gx-2.ensures one grow_command first c.grow_command.ensures in
    let third = c.with_command-gx-3.ensures two verify_command second c.verify_command.ensures in
    let fourth = c.with_command-gx-4.ensures three import_command third c.import_command.ensures in
    let fifth = c.with_command-gx-5.ensures four drop_command fourth c.drop_command.ensures in
    let sixth = c.with_command-gx-6.ensures five set_ref_command fifth c.set_ref_command.ensures in
    let seventh = c.with_command-gx-7.ensures six put_command sixth c.put_command.ensures in
    let eighth = c.with_command-gx-8.ensures seven gc_command seventh c.gc_command.ensures in
    let ninth = c.with_command-gx-9.ensures eight export_command eighth c.export_command.ensures in
    let tenth = c.with_command-gx-10.ensures nine bundle_command ninth c.bundle_command.ensures in
    c.with_command.ensures ten refs_command tenth c.refs_command.ensures
