use Rattle.std.proofs.Common.{◌≡◌, ◌+◌, ◌-◌, cond, drop, map, sym, ap, ◌∙◌, arith}
use Rattle.gx_store.specs.Prefixes.{found_between, joined}
use Rattle.gx_store.specs.declared.prefix.Prefix.TheVariants.{Unique}
use Rattle.gx_plain.proofs.ListedObjects.{some_listed}
use Rattle.gx_plain.proofs.BegunNames.{found_none, found_step}
use Rattle.gx_plain.proofs.begun.found_between.Goals as goal

pub loop-number-init : goal.loop-number-init
loop-number-init g c = record {
  within = omega (arith, c.len-number.ensures);
  found = sym (found_none c.args.ends.now c.args.listing.now c.len-number.result (omega (arith, c.len-number.ensures)));
}

pub unreachable-requires : goal.unreachable-requires
unreachable-requires g c =
    some_listed c.args.listing.now (c.loop-number.number - 1) (omega (arith, c.loop-number.invariant.within, c.loop-number-test.true)) c.in_default.ensures

pub loop-number-preserved-then-is_between : goal.loop-number-preserved-then-is_between
loop-number-preserved-then-is_between g c =
    let ends = c.args.ends.now in
    let listed = c.args.listing.now in
    let i = c.loop-number.number - 1 in
    let name = c.in-Some.name in
    let next : i + 1 ≡ c.loop-number.number = omega (arith, c.loop-number-test.true) in
    let before = c.loop-number.invariant.found ∙ ap (λ n. found_between ends (map (λ one. one.0) (drop n listed))) (sym next) in
    let step = found_step ends listed i (name, c.in-Some._standing) (sym c.in-Some.ensures) in
    let behind = found_between ends (map (λ one. one.0) (drop (i + 1) listed)) in
    record {
      within = omega (arith, c.loop-number.invariant.within);
      found = c.with_name-found.ensures ∙ ap (joined (Unique name)) before ∙ sym (step ∙ ap (λ b. cond b (joined (Unique name) behind) behind) (sym c.is_between.ensures ∙ c.if-is_between.true));
    }

pub loop-number-preserved : goal.loop-number-preserved
loop-number-preserved g c =
    let ends = c.args.ends.now in
    let listed = c.args.listing.now in
    let i = c.loop-number.number - 1 in
    let name = c.in-Some.name in
    let next : i + 1 ≡ c.loop-number.number = omega (arith, c.loop-number-test.true) in
    let before = c.loop-number.invariant.found ∙ ap (λ n. found_between ends (map (λ one. one.0) (drop n listed))) (sym next) in
    let step = found_step ends listed i (name, c.in-Some._standing) (sym c.in-Some.ensures) in
    let behind = found_between ends (map (λ one. one.0) (drop (i + 1) listed)) in
    record {
      within = omega (arith, c.loop-number.invariant.within);
      found = before ∙ sym (step ∙ ap (λ b. cond b (joined (Unique name) behind) behind) (sym c.is_between.ensures ∙ c.if-is_between.false));
    }
