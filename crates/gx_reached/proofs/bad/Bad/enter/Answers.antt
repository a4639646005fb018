use Rattle.std.proofs.Common.{cond, ap, Some, ◌∙◌}
use Rattle.std.proofs.lemmas.Map.Text.{is_eq-slice_cmp}
use Rattle.gx_reached.specs.Damages.{damage_in}
use Rattle.gx_reached.proofs.bad.Bad.enter.Goals as goal

pub returns : goal.returns
returns g c = λ other.
    c.in_ok-insert.ensures.updates.0 (record { bytes = other }) ∙ ap (λ b. cond b (Some c.args.damage) (damage_in c.args.self.now other)) (is_eq-slice_cmp c.args.name.now.bytes other)
