use Rattle.std.proofs.Common.{◌≡◌, ◌++◌}
use Rattle.std.specs.List.{flat_map}
use Rattle.gx_print.specs.Messages.{indented, indented_line}
use Rattle.gx_print.proofs.messages.put_indented.Given as goal

abbrev pub invariant-loop-line : goal.invariant-loop-line
invariant-loop-line g l = l.out.items ++ flat_map indented_line l.line-iterator ≡ l.fn.out.items ++ indented l.message
