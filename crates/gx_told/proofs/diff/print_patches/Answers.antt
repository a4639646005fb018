use Rattle.std.proofs.Common.{◌≡◌, ◌∙◌, ◌+◌, ◌∷◌, drop, sym, ap, subst, Err, Ok}
use Rattle.std.proofs.lemmas.List.{drop_all, drop_more}
use Rattle.std.proofs.lemmas.Result.{err_from_is_err_and}
use Rattle.gx_differences.specs.Listed.{HasLeaves, HaveLeaves, shown_difference, shown_differences}
use Rattle.gx_told.specs.Differing.{PrintsPatch, PrintsPatches}
use Rattle.gx_told.proofs.Tellings.{both_told, map_told}
use Rattle.gx_told.proofs.ToldPatches.{Goes, ends, goes_on, starts, stops}
use Rattle.gx_told.proofs.diff.print_patches.Goals as goal

pub loop-difference-init : goal.loop-difference-init
loop-difference-init g c =
    let found = c.args.found.now in
    let was = g.W.Sink.taken c.args.sink.now in
    map_told (g.O.Objects.told c.args.objects.now) (HaveLeaves found) (Goes found was was found) (λ r h. starts found was r h) c.requires

pub print_patch-requires : goal.print_patch-requires
print_patch-requires g c =
    let found = c.args.found.now in
    let was = g.W.Sink.taken c.args.sink.now in
    let mid = g.W.Sink.taken c.loop-difference.sink in
    let i = c.loop-difference.difference-index in
    let d = c.difference-item.result in
    let next : drop i found ≡ d ∷ drop (i + 1) found = drop_more found i d c.loop-difference-test.true ∙ ap (λ x. x ∷ drop (i + 1) found) (sym c.difference-item.is) in
    map_told (g.O.Objects.told c.args.objects.now) (Goes found was mid (drop i found)) (HasLeaves (shown_difference d))
    (λ r h. (subst (λ ds. Goes found was mid ds r) next h).held.0) c.loop-difference.invariant

pub returns-in_err-print_patch : goal.returns-in_err-print_patch
returns-in_err-print_patch g c =
    let p = err_from_is_err_and c.from_residual.result c.from_residual.ensures.1 in
    let told = g.O.Objects.told c.args.objects.now in
    let found = c.args.found.now in
    let was = g.W.Sink.taken c.args.sink.now in
    let mid = g.W.Sink.taken c.loop-difference.sink in
    let now = g.W.Sink.taken c.print_patch.new.sink in
    let i = c.loop-difference.difference-index in
    let d = c.difference-item.result in
    let fault = c.in_err-print_patch.field-0.0 in
    let next : drop i found ≡ d ∷ drop (i + 1) found = drop_more found i d c.loop-difference-test.true ∙ ap (λ x. x ∷ drop (i + 1) found) (sym c.difference-item.is) in
    rw (p.1, p.2) (both_told told (Goes found was mid (drop i found)) (λ r. PrintsPatch r (shown_difference d) mid now (Err fault)) (λ r. PrintsPatches r (shown_differences found) was now (Err fault))
    (λ r h k. stops found was mid now d (drop (i + 1) found) fault r (subst (λ ds. Goes found was mid ds r) next h) k) c.loop-difference.invariant c.in_err-print_patch.ensures)

pub loop-difference-preserved : goal.loop-difference-preserved
loop-difference-preserved g c =
    let told = g.O.Objects.told c.args.objects.now in
    let found = c.args.found.now in
    let was = g.W.Sink.taken c.args.sink.now in
    let mid = g.W.Sink.taken c.loop-difference.sink in
    let now = g.W.Sink.taken c.print_patch.new.sink in
    let i = c.loop-difference.difference-index in
    let d = c.difference-item.result in
    let next : drop i found ≡ d ∷ drop (i + 1) found = drop_more found i d c.loop-difference-test.true ∙ ap (λ x. x ∷ drop (i + 1) found) (sym c.difference-item.is) in
    both_told told (Goes found was mid (drop i found)) (λ r. PrintsPatch r (shown_difference d) mid now (Ok tt)) (Goes found was now (drop (i + 1) found))
    (λ r h k. goes_on found was mid now d (drop (i + 1) found) r (subst (λ ds. Goes found was mid ds r) next h) k) c.loop-difference.invariant c.in_ok-print_patch.ensures

pub returns : goal.returns
returns g c =
    let found = c.args.found.now in
    let was = g.W.Sink.taken c.args.sink.now in
    let now = g.W.Sink.taken c.loop-difference.sink in
    let i = c.loop-difference.difference-index in
    map_told (g.O.Objects.told c.args.objects.now) (Goes found was now (drop i found)) (λ r. PrintsPatches r (shown_differences found) was now (Ok tt))
    (λ r h. ends found was now r (subst (λ ds. Goes found was now ds r) (drop_all i found c.loop-difference-test.false) h)) c.loop-difference.invariant
