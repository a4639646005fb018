use Rattle.std.proofs.Common.{◌≡◌, List, [], ◌∷◌, length, map, refl, sym, ap, ◌∙◌, arith}
use Rattle.gx_object.specs.Entries.{shown}
use Rattle.gx_object.specs.Order.{are_ordered}
use Rattle.gx_object.proofs.Orders.{ordered_is}
use Rattle.gx_object.proofs.Steps.{past, past_first, past_more, past_not, past_end}
use Rattle.gx_object.proofs.order.is_canonical.Goals as goal

nothing_left : {X : Type 0} (xs : List X) → length xs ≡ 0 → xs ≡ []
nothing_left [] h = refl
nothing_left (x ∷ xs) h = absurd (omega (arith, h))

pub loop-next-init : goal.loop-next-init
loop-next-init c =
    let e = shown c.in-Some.before.now in
    let is_file = c.none-files.result.is_file in
    record {
      within = omega (arith, c.none-files.ensures);
      tells = ap (λ above. past above is_file e (map shown c.in-Some.rest.now)) c.none-files.ensures ∙ past_first is_file e (map shown c.in-Some.rest.now) ∙ ap (λ es. are_ordered (map shown es)) (sym c.in-Some.ensures.cases.0);
    }

pub returns-then-not-leads : goal.returns-then-not-leads
returns-then-not-leads c =
    let e = shown c.loop-next.before.now in
    let stops = past_not c.loop-next.files.above c.leads.new.files.above c.loop-next.files.is_file c.leads.new.files.is_file e (shown c.in-Some-split_first.next.now) (map shown c.in-Some-split_first.after.now) c.if-not-leads.ensures.leads in
    let step = ap (λ es. past c.loop-next.files.above c.loop-next.files.is_file e (map shown es)) c.in-Some-split_first.ensures.cases.0 in
    sym (sym (c.loop-next.invariant.tells ∙ ordered_is (map shown c.args.entries.now)) ∙ step ∙ stops)

pub loop-next-preserved : goal.loop-next-preserved
loop-next-preserved c =
    let e = shown c.loop-next.before.now in
    let more = past_more c.loop-next.files.above c.leads.new.files.above c.loop-next.files.is_file c.leads.new.files.is_file e (shown c.in-Some-split_first.next.now) (map shown c.in-Some-split_first.after.now) c.if-not-leads.ensures.leads in
    let step = ap (λ es. past c.loop-next.files.above c.loop-next.files.is_file e (map shown es)) (sym c.in-Some-split_first.ensures.cases.0) in
    record {
      within = c.if-not-leads.ensures.within refl;
      tells = more ∙ step ∙ c.loop-next.invariant.tells;
    }

pub returns : goal.returns
returns c =
    let e = shown c.loop-next.before.now in
    let none = nothing_left c.loop-next.rest.now c.in_default-split_first.ensures.cases in
    let step = ap (λ es. past c.loop-next.files.above c.loop-next.files.is_file e (map shown es)) (sym none) in
    c.is_component.ensures ∙ sym (past_end c.loop-next.files.above c.loop-next.files.is_file e) ∙ step ∙ c.loop-next.invariant.tells ∙ ordered_is (map shown c.args.entries.now)
