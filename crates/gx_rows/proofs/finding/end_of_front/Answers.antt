use Rattle.std.proofs.Common.{rules, ◌≡◌, ◌+◌, ℕ, true, false, sym, subst, arith}
use Rattle.std.specs.Ordering.{is_lt}
use Rattle.gx_model.specs.Texts.{byte_cmp}
use Rattle.gx_rows.specs.Rows.{Parts}
use Rattle.gx_rows.proofs.Parting.{parts_high, parts_low}
use Rattle.gx_rows.proofs.finding.end_of_front.Goals as goal

pub loop-span-preserved-then-is_before : goal.loop-span-preserved-then-is_before
loop-span-preserved-then-is_before g c =
    let told = g.S.ReadAt.text c.args.source.now in
    let span = c.loop-span.span in
    let name = c.args.name.now in
    let guess = c.guess-middle.ensures in
    let low = c.above-span.ensures.low in
    let high = c.above-span.ensures.high in
    let less : is_lt (byte_cmp c.in_ok-row.row.name c.args.name.now) ≡ true = search rules in
    let parted = parts_low c.args.table.at c.args.table.count name span.low span.high c.guess-middle.result c.in_ok-row.row guess.low guess.high c.loop-span.invariant.within told c.in_ok-row.ensures.row less c.loop-span.invariant.parted in
    record {
      ordered = omega (arith, low, high, guess.high);
      within = omega (arith, high, c.loop-span.invariant.within);
      rows = c.in_ok-row.ensures.rows;
      parted = subst (λ (k : ℕ). Parts told c.args.table.at c.args.table.count name k c.above-span.result.high) (sym low) (subst (λ (k : ℕ). Parts told c.args.table.at c.args.table.count name (c.guess-middle.result + 1) k) (sym high) parted);
    }

pub loop-span-preserved : goal.loop-span-preserved
loop-span-preserved g c =
    let told = g.S.ReadAt.text c.args.source.now in
    let span = c.loop-span.span in
    let name = c.args.name.now in
    let guess = c.guess-middle.ensures in
    let low = c.below-span.ensures.low in
    let high = c.below-span.ensures.high in
    let not_less : is_lt (byte_cmp c.in_ok-row.row.name c.args.name.now) ≡ false = search rules in
    let parted = parts_high c.args.table.at c.args.table.count name span.low span.high c.guess-middle.result c.in_ok-row.row guess.low guess.high c.loop-span.invariant.within told c.in_ok-row.ensures.row not_less c.loop-span.invariant.parted in
    record {
      ordered = omega (arith, low, high, guess.low);
      within = omega (arith, high, guess.high, c.loop-span.invariant.within);
      rows = c.in_ok-row.ensures.rows;
      parted = subst (λ (k : ℕ). Parts told c.args.table.at c.args.table.count name k c.below-span.result.high) (sym low) (subst (λ (k : ℕ). Parts told c.args.table.at c.args.table.count name span.low k) (sym high) parted);
    }
