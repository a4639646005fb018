use Rattle.std.proofs.Common.{◌≡◌, false, cond, eqb, map, sym, ap, ◌∙◌}
use lib.Count.{count_trailing_zeros}
use lib.Lanes.{mask_l}
use mir.Syntax.{w8}
use Rattle.std.proofs.lemmas.Bool.{ne_eqb}
use Rattle.std.proofs.lemmas.Simd.{bitmask_splat, first_set_mask_l}
use Rattle.gx_object.proofs.entry.run_before.Goals as goal

pub returns-then-ends-eq0 : goal.returns-then-ends-eq0
returns-then-ends-eq0 g c =
    let near = c.args.near.now in
    let end = c.args.end in
    let mask = bitmask_splat w8 eqb near g.row.LANES end c.told-near c.requires.1 in
    let none : mask_l (map (λ b. eqb b end) near) ≡ 0 = sym mask ∙ c.if-ends-eq0.true in
    ap (λ m. cond (eqb m 0) g.row.LANES (count_trailing_zeros 64 m)) (sym none) ∙ first_set_mask_l (λ b. eqb b end) near g.row.LANES c.told-near c.requires.1

pub returns-else-ends-eq0 : goal.returns-else-ends-eq0
returns-else-ends-eq0 g c =
    let near = c.args.near.now in
    let end = c.args.end in
    let ends = mask_l (map (λ b. eqb b end) near) in
    let mask = bitmask_splat w8 eqb near g.row.LANES end c.told-near c.requires.1 in
    let some : eqb ends 0 ≡ false = ne_eqb ends 0 (λ e. c.if-ends-eq0.false (mask ∙ e)) in
    ap (count_trailing_zeros 64) mask ∙ ap (λ b. cond b g.row.LANES (count_trailing_zeros 64 ends)) (sym some) ∙ first_set_mask_l (λ b. eqb b end) near g.row.LANES c.told-near c.requires.1
