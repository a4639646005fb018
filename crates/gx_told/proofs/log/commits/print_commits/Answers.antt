use Rattle.std.proofs.Common.{map, subst, sym, ◌∙◌}
use Rattle.gx_model.specs.Records.Sound.{IsSound}
use Rattle.gx_rev.specs.Objects.{commit_at}
use Rattle.gx_print.specs.Logs.{AreCommits, entries_text}
use Rattle.gx_told.specs.Printing.{PrintsText}
use Rattle.gx_told.proofs.CommitLines.{names_alone}
use Rattle.gx_told.proofs.Tellings.{both_told}
use Rattle.gx_told.proofs.log.commits.print_commits.Goals as goal

pub returns-then-are_names : goal.returns-then-are_names
returns-then-are_names g c =
    let told = g.O.Objects.told c.args.objects.now in
    let name = g.O.Objects.name_of c.args.objects.now in
    let namer = c.sound_if_told.ensures.namer in
    let o = c.args.options in
    let ns = c.args.names.now in
    let was = g.W.Sink.taken c.args.sink.now in
    let now = g.W.Sink.taken c.print_lines.new.sink in
    let answer = c.print_lines.result in
    both_told told (IsSound name) (λ r. AreCommits r ns) (λ r. PrintsText (entries_text name o (map (commit_at r) ns)) was now answer)
    (λ r sound h. subst (λ text. PrintsText text was now answer) (names_alone name namer r sound o ns (sym c.are_names.ensures ∙ c.if-are_names.true) h) c.print_lines.ensures) c.sound_if_told.ensures.sound c.requires
