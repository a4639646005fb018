use Rattle.std.proofs.Common.{ap, ◌∙◌, subst, [], Ok}
use Rattle.std.specs.List.{flat_map}
use Rattle.gx_model.specs.Records.HistoryOf.{files_of_tree, value_of_name}
use Rattle.gx_print.specs.Listings.{entry_line}
use Rattle.gx_cli.specs.Trying.{Shows}
use Rattle.gx_print.proofs.ListedEntries.{all_lines}
use Rattle.gx_cli.proofs.Pieces.{sent_shows}
use Rattle.gx_cli.proofs.show.print_entries.Goals as goal

pub returns-in-Ok : goal.returns-in-Ok
returns-in-Ok g c =
    let name = g.N.Namer.name_of c.args.repo.now.0 in
    let namer = g.met.N.Namer.is_namer c.args.repo.now.0 in
    let f = files_of_tree (value_of_name c.args.repo.now.1.records c.args.tree.now.bytes) in
    let was = g.W.Sink.taken c.args.sink.now in
    let now = g.W.Sink.taken c.put_text.new.sink in
    let lines = ap (flat_map entry_line) c.entries_of.ensures.files ∙ all_lines name namer f in
    subst (λ text. Shows [] (Ok text) was now c.put_text.result) (c.as_slice.ensures.value ∙ c.in-Ok.ensures ∙ lines) (sent_shows c.as_slice.result.now was now c.put_text.result c.put_text.ensures)
