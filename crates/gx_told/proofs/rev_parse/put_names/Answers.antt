use Rattle.std.proofs.Common.{◌≡◌, ◌+◌, [], ◌∷◌, ◌++◌, Ok, drop, refl, sym, subst, ap, ◌∙◌}
use Rattle.std.specs.Prelude.{IfSome}
use Rattle.std.proofs.lemmas.List.{drop_all}
use Rattle.std.proofs.lemmas.Result.{err_from_is_err_and}
use Rattle.gx_model.specs.Records.HistoryOf.{history_of}
use Rattle.gx_model.specs.Revisions.Denotation.{denoted}
use Rattle.gx_rev.specs.Answers.{IsNamed, shown_by}
use Rattle.gx_print.specs.Stored.{shown_line}
use Rattle.gx_told.proofs.NamedLines.{AreLines, last_line, line_refused, next_line, no_lines, rest_from}
use Rattle.gx_told.proofs.Tellings.{all_told, each_told, map_told}
use Rattle.gx_told.proofs.rev_parse.put_names.Goals as goal

pub loop-place-init : goal.loop-place-init
loop-place-init g c =
    let name = g.O.Objects.name_of c.args.objects.now in
    let all = c.args.revisions.now in
    subst (λ text. IfSome (g.O.Objects.told c.args.objects.now) (AreLines name all all 0 text)) (sym c.requires.empty) (each_told (g.O.Objects.told c.args.objects.now) _ (no_lines name all))

pub loop-place-preserved : goal.loop-place-preserved
loop-place-preserved g c =
    let told = g.O.Objects.told c.args.objects.now in
    let name = g.O.Objects.name_of c.args.objects.now in
    let all = c.args.revisions.now in
    let place = c.loop-place.place in
    let x = c.index-revisions-place.result in
    let left = drop (place + 1) all in
    let text = c.loop-place.lines.items in
    let shown = c.in-Ok.shown in
    let so_far = subst (λ ws. IfSome told (AreLines name all ws place text)) (rest_from all place x x c.loop-place-test.true c.index-revisions-place.is) c.loop-place.invariant in
    let more = c.in_ok-extend_from_slice-in-Ok.ensures.items ∙ ap (λ line. text ++ line) (c.as_slice.ensures ∙ c.shown_line.ensures) in
    subst (λ new. IfSome told (AreLines name all left (place + 1) new)) (sym more)
    (all_told told (AreLines name all (x ∷ left) place text) (λ r. denoted name (history_of r) x ≡ Ok (shown_by r shown)) (λ r. IsNamed name r shown) (AreLines name all left (place + 1) (text ++ shown_line shown))
    (λ r h e named. next_line name all left x place text shown r h e named) so_far c.in-Ok.ensures.shown c.in-Ok.ensures.named)

pub returns-in_err-extend_from_slice-in-Ok : goal.returns-in_err-extend_from_slice-in-Ok
returns-in_err-extend_from_slice-in-Ok g c =
    let p = err_from_is_err_and c.from_residual.result c.from_residual.ensures.1 in
    rw (p.1, p.2) (each_told (g.O.Objects.told c.args.objects.now) _ (λ r. tt))

pub returns-in-Err : goal.returns-in-Err
returns-in-Err g c =
    let told = g.O.Objects.told c.args.objects.now in
    let name = g.O.Objects.name_of c.args.objects.now in
    let all = c.args.revisions.now in
    let place = c.loop-place.place in
    let x = c.index-revisions-place.result in
    let left = drop (place + 1) all in
    let text = c.loop-place.lines.items in
    let so_far = subst (λ ws. IfSome told (AreLines name all ws place text)) (rest_from all place x x c.loop-place-test.true c.index-revisions-place.is) c.loop-place.invariant in
    rw c.refused.ensures (line_refused name all told left x place (place + 1) text c.in-Err.fault refl so_far c.in-Err.ensures.shown)

pub returns : goal.returns
returns g c =
    let told = g.O.Objects.told c.args.objects.now in
    let name = g.O.Objects.name_of c.args.objects.now in
    let all = c.args.revisions.now in
    let place = c.loop-place.place in
    let text = c.loop-place.lines.items in
    let so_far = subst (λ ws. IfSome told (AreLines name all ws place text)) (drop_all place all c.loop-place-test.false) c.loop-place.invariant in
    map_told told (AreLines name all [] place text) _ (λ r h. last_line name all place text r h) so_far
