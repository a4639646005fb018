use Rattle.std.proofs.Common.{◌∙◌, sym}
use Rattle.gx_differences.specs.Listed.{shown_differences}
use Rattle.gx_told.proofs.Tellings.{each_told}
use Rattle.gx_told.proofs.ToldDifferences.{found_lines}
use Rattle.gx_told.proofs.diff.tell_found.Goals as goal

pub returns-else-is_patch : goal.returns-else-is_patch
returns-else-is_patch g c =
    let was = g.W.Sink.taken c.args.sink.now in
    let now = g.W.Sink.taken c.print_found.new.sink in
    each_told (g.O.Objects.told c.args.objects.now) _
    (λ r. found_lines r c.args.options (shown_differences c.args.found.now) was now c.print_found.result (sym c.is_patch.ensures ∙ c.if-is_patch.false) c.print_found.ensures)
