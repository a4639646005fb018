use Rattle.std.proofs.Common.{◌≡◌, ◌++◌, take}
use Rattle.std.specs.List.{flat_map}
use Rattle.gx_differences.specs.Listed.{shown_differences}
use Rattle.gx_diff.specs.Lines.{line_of}
use Rattle.gx_diff.proofs.texts.put_lines.Given as goal

abbrev pub invariant-loop-difference : goal.invariant-loop-difference
invariant-loop-difference g l =
    l.text.items ≡ l.fn.text.items ++ flat_map (line_of l.options.form l.options.nul) (shown_differences (take l.difference-index l.found))
