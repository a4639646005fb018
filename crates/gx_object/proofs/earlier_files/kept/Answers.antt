use Rattle.std.proofs.Common.{sym, subst, ◌∙◌, arith, take}
use Rattle.std.specs.Prelude.{◌&&◌, false, get_or, ◌-◌, ◌≡◌, nat_eq}
use Rattle.std.specs.List.{starts_with}
use Rattle.gx_object.proofs.MetFiles.{passed_by}
use Rattle.gx_object.proofs.earlier_files.kept.Goals as goal

pub loop-rest-preserved : goal.loop-rest-preserved
loop-rest-preserved c = record {
  within = omega (arith, c.loop-rest.invariant.within);
  met = λ f is others.
      let not_left = subst (λ d. (get_or c.args.is_file.now (c.loop-rest.rest - 1) false && starts_with nat_eq d (take (c.loop-rest.rest - 1) c.args.first.now)) ≡ false) (sym is) (sym c.if-is_left.ensures) in
      passed_by c.loop-rest.rest (c.loop-rest.rest - 1) c.args.is_file.now c.args.first.now f others (omega (arith, c.loop-rest-test.true)) not_left ∙ c.loop-rest.invariant.met f is others;
}
