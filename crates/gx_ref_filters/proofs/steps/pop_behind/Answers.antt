use Rattle.std.proofs.Common.{refl}
use Rattle.std.proofs.lemmas.List.Elements.{recursion_from_All}
use Rattle.std.specs.Map.{keys_of}
use Rattle.std.specs.Ordering.{is_lt, nat_cmp}
use Rattle.std.specs.Prelude.{◌≡◌, false}
use Rattle.gx_ranges.proofs.Tips.{below_last, last_popped}
use Rattle.gx_ref_filters.proofs.steps.pop_behind.Goals as goal

pub returns-then-last-place : goal.returns-then-last-place
returns-then-last-place g c =
    let last = c.in_ok-last.last.now in
    let tips = c.args.front.now.entries in
    (refl, below_last c.args.place last tips c.if-last-place.true (recursion_from_All (λ q. is_lt (nat_cmp last q) ≡ false) (keys_of tips) c.in_ok-last.ensures.all_up_to))

pub returns : goal.returns
returns g c =
    let e = c.pop_last.ensures in
    last_popped c.args.place c.args.front.now.entries c.pop_last.new.self.entries (c.in_ok-last.last.now, c.in_ok-last.field-0-1.now) c.pop_last.result c.in_ok-last.ensures.last c.if-last-place.false e.variant e.removal e.all_below
