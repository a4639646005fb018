use Rattle.std.proofs.Common.{Err, Ok}
use Rattle.gx_differences.specs.Listed.{shown_differences}
use Rattle.gx_told.specs.Differing.{PrintsPatches, TellsFound}
use Rattle.gx_told.proofs.Tellings.{map_told}
use Rattle.gx_told.proofs.ToldDifferences.{found_patches, found_stopped}
use Rattle.gx_told.proofs.diff.tell_patches.Goals as goal

pub returns-in-Ok : goal.returns-in-Ok
returns-in-Ok g c =
    let told = g.O.Objects.told c.args.objects.now in
    let ss = shown_differences c.args.found.now in
    let was = g.W.Sink.taken c.args.sink.now in
    let now = g.W.Sink.taken c.print_patches.new.sink in
    map_told told (λ r. PrintsPatches r ss was now (Ok c.in-Ok.field-0)) (λ r. TellsFound r c.args.options ss was now (Ok c.ends_well.result))
    (λ r h. found_patches r c.args.options ss was now c.ends_well.result c.requires.form c.ends_well.ensures h) c.in-Ok.ensures

pub returns-in-Err : goal.returns-in-Err
returns-in-Err g c =
    let told = g.O.Objects.told c.args.objects.now in
    let ss = shown_differences c.args.found.now in
    let was = g.W.Sink.taken c.args.sink.now in
    let now = g.W.Sink.taken c.print_patches.new.sink in
    map_told told (λ r. PrintsPatches r ss was now (Err c.in-Err.fault)) (λ r. TellsFound r c.args.options ss was now (Err c.in-Err.fault))
    (λ r h. found_stopped r c.args.options ss was now c.in-Err.fault c.requires.form h) c.in-Err.ensures
