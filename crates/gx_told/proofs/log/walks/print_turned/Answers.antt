use Rattle.std.proofs.Common.{◌∙◌, ap, map, subst, sym}
use Rattle.std.specs.Prelude.{IfSome}
use Rattle.std.proofs.lemmas.Result.{err_from_is_err_and}
use Rattle.gx_rev.specs.Objects.{commit_at}
use Rattle.gx_print.specs.Logs.{AreCommits, entries_text, turned}
use Rattle.gx_told.specs.Choosing.{AreTaken}
use Rattle.gx_told.specs.Printing.{PrintsText}
use Rattle.gx_told.proofs.WalkedCommits.{chosen_stops, turned_held, turned_printed}
use Rattle.gx_told.proofs.log.walks.print_turned.Goals as goal

pub returns-in_err-names : goal.returns-in_err-names
returns-in_err-names g c =
    let p = err_from_is_err_and c.from_residual.result c.from_residual.ensures.1 in
    let o = c.args.objects.now in
    rw (p.1, p.2) (chosen_stops (g.O.Objects.name_of o) c.args.options (g.O.Objects.stands o) c.args.walk.now (g.W.Sink.taken c.args.sink.now) (g.O.Objects.told o) c.in_err-names.field-0.0 c.in_err-names.ensures.fault)

pub print_commits-requires : goal.print_commits-requires
print_commits-requires g c =
    let o = c.args.objects.now in
    let told = g.O.Objects.told o in
    let options = c.args.options in
    let ns = c.in_ok-names.names.items in
    let taken = subst (λ choice. IfSome told (λ r. AreTaken (g.O.Objects.name_of o) (g.O.Objects.stands o) c.args.walk.now choice r ns)) c.of.ensures c.in_ok-names.ensures.names in
    let same = c.as_slice.ensures.value ∙ c.reverse.ensures.items ∙ ap (λ b. turned b ns) (sym c.requires.reverse) in
    subst (λ names. IfSome told (λ r. AreCommits r names)) (sym same) (turned_held (g.O.Objects.name_of o) options (g.O.Objects.stands o) c.args.walk.now (g.W.Sink.taken c.args.sink.now) told ns c.requires.tips taken)

pub returns : goal.returns
returns g c =
    let o = c.args.objects.now in
    let told = g.O.Objects.told o in
    let name = g.O.Objects.name_of o in
    let options = c.args.options in
    let was = g.W.Sink.taken c.args.sink.now in
    let now = g.W.Sink.taken c.print_commits.new.sink in
    let answer = c.print_commits.result in
    let ns = c.in_ok-names.names.items in
    let taken = subst (λ choice. IfSome told (λ r. AreTaken (g.O.Objects.name_of o) (g.O.Objects.stands o) c.args.walk.now choice r ns)) c.of.ensures c.in_ok-names.ensures.names in
    let same = c.as_slice.ensures.value ∙ c.reverse.ensures.items ∙ ap (λ b. turned b ns) (sym c.requires.reverse) in
    turned_printed name options (g.O.Objects.stands o) c.args.walk.now was c.requires.entries told ns now answer taken
    (subst (λ names. IfSome told (λ r. PrintsText (entries_text name options (map (commit_at r) names)) was now answer)) same c.print_commits.ensures)
