use Rattle.std.proofs.Common.{sym, ◌∙◌}
use Rattle.std.specs.Bool.{passes}
use Rattle.std.specs.Ordering.{is_lt}
use Rattle.gx_model.proofs.Histories.PathRuns.{less_is}
use Rattle.gx_look.proofs.refs.begins_before.Goals as goal

pub returns-in-Some : goal.returns-in-Some
returns-in-Some c = λ less. record {
  digits = c.in-Some._digits.now;
  called = c.in-Some.name.now;
  stands = c.in-Some.ensures;
  less = sym c.compare.ensures ∙ less_is c.compare.result (passes _ (sym c.is_lt.ensures ∙ less));
}
