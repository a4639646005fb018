use Rattle.std.proofs.Common.{◌<◌, ◌≤◌, ◌+◌, length, drop, refl, sym, ap, ◌∙◌, arith}
use Rattle.gx_rev.proofs.PathSteps.{at_end, below_file, down, down_none, path_ends, path_from, walked_on}
use Rattle.gx_rev.proofs.places.walk_down.Goals as goal

pub loop-place-init : goal.loop-place-init
loop-place-init g c = record { held = λ d. c.requires; same = refl }

pub returns-then-not-is_dir-clause-place : goal.returns-then-not-is_dir-clause-place
returns-then-not-is_dir-clause-place g c =
    let rs = c.args.repo.now.1.records in
    let within : c.loop-place.place < length c.args.path.now = omega (arith, c.len-place-end.ensures.length) in
    let from = path_from c.args.path.now c.loop-place.place _ within refl in
    below_file rs (c.loop-place.mode, c.loop-place.name.bytes) _ _ c.if-not-is_dir.ensures ∙ sym (c.loop-place.invariant.same ∙ ap (walked_on rs (c.loop-place.mode, c.loop-place.name.bytes)) from)

pub returns-in_err-mode-clause-place : goal.returns-in_err-mode-clause-place
returns-in_err-mode-clause-place g c =
    let rs = c.args.repo.now.1.records in
    let within : c.loop-place.place < length c.args.path.now = omega (arith, c.len-place-end.ensures.length) in
    let from = path_from c.args.path.now c.loop-place.place c.component.result.now within c.component.ensures.component in
    let none = down_none rs c.loop-place.mode c.loop-place.name.bytes c.component.result.now (drop (c.loop-place.place + 1) c.args.path.now) c.if-not-is_dir.ensures c.in_err-mode.ensures.entry in
    rw c.from_residual.ensures (sym (c.loop-place.invariant.same ∙ ap (walked_on rs (c.loop-place.mode, c.loop-place.name.bytes)) from ∙ none))

pub loop-place-preserved : goal.loop-place-preserved
loop-place-preserved g c =
    let rs = c.args.repo.now.1.records in
    let within : c.loop-place.place < length c.args.path.now = omega (arith, c.len-place-end.ensures.length) in
    let from = path_from c.args.path.now c.loop-place.place c.component.result.now within c.component.ensures.component in
    let next = down rs c.loop-place.mode c.loop-place.name.bytes c.component.result.now (drop (c.loop-place.place + 1) c.args.path.now) (c.in_ok-mode.field-0-0, c.in_ok-mode.field-0-1.bytes) c.if-not-is_dir.ensures c.in_ok-mode.ensures.entry in
    record {
      held = c.in_ok-mode.ensures.held;
      same = c.loop-place.invariant.same ∙ ap (walked_on rs (c.loop-place.mode, c.loop-place.name.bytes)) from ∙ next;
    }

pub returns-clause-place : goal.returns-clause-place
returns-clause-place g c =
    let rs = c.args.repo.now.1.records in
    let done : length c.args.path.now ≤ c.loop-place.place = omega (arith, c.len-place-end.ensures.length) in
    at_end rs (c.loop-place.mode, c.loop-place.name.bytes) ∙ sym (c.loop-place.invariant.same ∙ ap (walked_on rs (c.loop-place.mode, c.loop-place.name.bytes)) (path_ends c.args.path.now c.loop-place.place done))
