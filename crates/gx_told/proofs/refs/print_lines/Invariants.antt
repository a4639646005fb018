use Rattle.std.proofs.Common.{◌≡◌, map, take}
use Rattle.gx_tips.specs.Tips.{shown_tip}
use Rattle.gx_told.specs.Filtering.{shown_text}
use Rattle.gx_told.proofs.refs.print_lines.Given as goal

abbrev pub invariant-loop-tip : goal.invariant-loop-tip
invariant-loop-tip g l = l.text.items ≡ shown_text (map shown_tip (take l.tip-index l.refs))
