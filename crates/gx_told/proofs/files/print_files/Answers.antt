use Rattle.std.proofs.Common.{◌≡◌, ◌∙◌, [], subst, sym}
use Rattle.std.specs.List.{flat_map}
use Rattle.gx_model.specs.declared.objects.Kind.TheVariants as kinds
use Rattle.gx_model.specs.Records.Sound.{IsSound}
use Rattle.gx_questions.specs.Answers.{IfTold}
use Rattle.gx_questions.specs.Objects.{AreEntriesAt}
use Rattle.gx_rev.specs.Objects.{IsHeldAs, files_at}
use Rattle.gx_print.specs.Stored.{file_line}
use Rattle.gx_print.proofs.WalkedFiles.{root_lines}
use Rattle.gx_told.specs.Printing.{PrintsText}
use Rattle.gx_told.specs.Walking.{AreWithin, all_lines}
use Rattle.gx_told.proofs.WalkedLines.{lines_of_entries, root_within}
use Rattle.gx_told.proofs.Tellings.{all_told, both_told}
use Rattle.gx_told.proofs.files.print_files.Goals as goal

pub print_all-requires : goal.print_all-requires
print_all-requires g c =
    let told = g.O.Objects.told c.args.objects.now in
    let name = g.O.Objects.name_of c.args.objects.now in
    let namer = c.sound_if_told.ensures.namer in
    let tree = c.args.tree.now in
    let es = c.in-Ok.entries in
    subst (λ front. IfTold told (AreWithin name front) es) (sym c.new-path.ensures.items)
    (all_told told (IsSound name) (λ r. IsHeldAs kinds.Tree r tree) (λ r. AreEntriesAt name tree r es) (λ r. AreWithin name [] r es) (λ r sound held h. root_within name namer r sound tree.bytes held es h.of_files)
    c.sound_if_told.ensures.sound c.requires c.in-Ok.ensures.entries)

pub returns-in-Ok : goal.returns-in-Ok
returns-in-Ok g c =
    let told = g.O.Objects.told c.args.objects.now in
    let name = g.O.Objects.name_of c.args.objects.now in
    let namer = c.sound_if_told.ensures.namer in
    let tree = c.args.tree.now in
    let es = c.in-Ok.entries in
    let was = g.W.Sink.taken c.args.sink.now in
    let now = g.W.Sink.taken c.print_all.new.sink in
    let answer = c.print_all.result in
    let printed = subst (λ front. IfTold told (λ r. PrintsText (all_lines name front r es) was now) answer) c.new-path.ensures.items c.print_all.ensures.lines in
    let held = all_told told (IsSound name) (λ r. IsHeldAs kinds.Tree r tree) (λ r. AreEntriesAt name tree r es) (λ r. all_lines name [] r es ≡ flat_map (file_line name) (files_at r tree))
    (λ r sound held h. sym (lines_of_entries name namer r sound [] tree.bytes held es h.of_files) ∙ root_lines name (files_at r tree)) c.sound_if_told.ensures.sound c.requires c.in-Ok.ensures.entries in
    both_told told (λ r. all_lines name [] r es ≡ flat_map (file_line name) (files_at r tree)) (λ r. PrintsText (all_lines name [] r es) was now answer) (λ r. PrintsText (flat_map (file_line name) (files_at r tree)) was now answer)
    (λ r e h. subst (λ text. PrintsText text was now answer) e h) held printed
