use Rattle.std.proofs.Common.{ap, sym, subst, ◌∙◌, ◌+◌, ◌≡◌, [], ◌∷◌, length, arith}
use Rattle.std.proofs.lemmas.List.{length-map, map-append}
use Rattle.gx_marks.specs.Shown.{shown_mark, shown_marks}
use Rattle.gx_marks.proofs.ReadTexts.{IsLeft, all_left, all_told, led_first, none_more, one_more, shorter}
use Rattle.gx_marks.proofs.reading.read_marks.Goals as goal

pub loop-rest-init : goal.loop-rest-init
loop-rest-init g c = subst (λ marks. IsLeft c.args.text.now c.args.text.now (shown_marks marks)) (sym c.new-marks.ensures.items) (all_left c.args.text.now)

pub returns-in_default-clause-fault : goal.returns-in_default-clause-fault
returns-in_default-clause-fault g c line e =
    let items = c.loop-rest.marks.items in
    let number : c.len.result + 1 ≡ line = cc e in
    let is : line ≡ length (shown_marks items) + 1 = let same = length-map items shown_mark in omega (arith, number, c.len.ensures, same) in
    none_more c.args.text.now c.loop-rest.rest.now (shown_marks items) line c.is_empty.ensures c.loop-rest-test.true c.loop-rest.invariant c.in_default.ensures is

pub loop-rest-preserved : goal.loop-rest-preserved
loop-rest-preserved g c =
    let text = c.args.text.now in
    let rest = c.loop-rest.rest.now in
    let items = c.loop-rest.marks.items in
    let behind = c.in-Some.behind.now in
    subst (λ marks. IsLeft text behind marks) (sym (ap shown_marks c.in_ok-push.ensures.items ∙ map-append shown_mark items (c.in-Some.mark ∷ [])))
    (one_more text rest (shown_marks items) (shown_mark c.in-Some.mark) behind c.loop-rest.invariant c.in-Some.ensures)

pub returns-clause-marks : goal.returns-clause-marks
returns-clause-marks g c = all_told c.args.text.now c.loop-rest.rest.now (shown_marks c.loop-rest.marks.items) c.is_empty.ensures c.loop-rest-test.false c.loop-rest.invariant

pub loop-rest-smaller : goal.loop-rest-smaller
loop-rest-smaller g c = shorter c.loop-rest.rest.now (shown_mark c.in-Some.mark) c.in-Some.behind.now c.in-Some.ensures

pub returns-in_err-push-clause-memory : goal.returns-in_err-push-clause-memory
returns-in_err-push-clause-memory g c _ = led_first c.args.text.now c.loop-rest.rest.now (shown_marks c.loop-rest.marks.items) (shown_mark c.in-Some.mark) c.in-Some.behind.now c.loop-rest.invariant c.in-Some.ensures
