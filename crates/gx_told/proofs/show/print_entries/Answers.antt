use Rattle.std.proofs.Common.{List, ap, subst, ◌∙◌}
use Rattle.std.specs.List.{flat_map}
use Rattle.std.proofs.lemmas.Result.{err_from_is_err_and}
use Rattle.gx_model.specs.Objects.{Entry}
use Rattle.gx_questions.specs.Objects.{AreEntriesAt}
use Rattle.gx_rev.specs.Objects.{files_at}
use Rattle.gx_print.specs.Listings.{entry_line, tree_lines}
use Rattle.gx_print.proofs.ListedEntries.{all_lines}
use Rattle.gx_told.specs.Printing.{PrintsText}
use Rattle.gx_told.proofs.Prints.{held_stops, none_sent, sent_prints}
use Rattle.gx_told.proofs.Tellings.{each_told, map_told}
use Rattle.gx_told.proofs.show.print_entries.Goals as goal

pub returns-in_err-lines-in-Ok : goal.returns-in_err-lines-in-Ok
returns-in_err-lines-in-Ok g c =
    let p = err_from_is_err_and c.from_residual.result c.from_residual.ensures.1 in
    let told = g.O.Objects.told c.args.objects.now in
    let name = g.O.Objects.name_of c.args.objects.now in
    let was = g.W.Sink.taken c.args.sink.now in
    rw (p.1, p.2) (each_told told _ (λ r. none_sent (tree_lines name (files_at r c.args.tree.now)) was))

pub returns-in_ok-lines-in-Ok : goal.returns-in_ok-lines-in-Ok
returns-in_ok-lines-in-Ok g c =
    let told = g.O.Objects.told c.args.objects.now in
    let name = g.O.Objects.name_of c.args.objects.now in
    let namer = c.sound_if_told.ensures.namer in
    let tree = c.args.tree.now in
    let was = g.W.Sink.taken c.args.sink.now in
    let now = g.W.Sink.taken c.put_text.new.sink in
    let answer = c.put_text.result in
    let made = c.as_slice.ensures.value ∙ c.in_ok-lines-in-Ok.ensures in
    map_told told (λ r. AreEntriesAt name tree r c.in-Ok.entries) (λ r. PrintsText (tree_lines name (files_at r tree)) was now answer)
    (λ r h. subst (λ text. PrintsText text was now answer) (made ∙ ap (flat_map entry_line) h.of_files ∙ all_lines name namer (files_at r tree)) (sent_prints c.as_slice.result.now was now answer c.put_text.ensures))
    c.in-Ok.ensures.entries

pub returns-in-Err : goal.returns-in-Err
returns-in-Err g c =
    let told = g.O.Objects.told c.args.objects.now in
    let name = g.O.Objects.name_of c.args.objects.now in
    let was = g.W.Sink.taken c.args.sink.now in
    rw c.refused.ensures (held_stops (List Entry) told (λ r. tree_lines name (files_at r c.args.tree.now)) was c.in-Err.fault c.in-Err.ensures.fault)
