use Rattle.std.proofs.Common.{Result, Ok, Err, refl, rules, ◌∙◌}
use Rattle.std.specs.Prelude.{OnErr}
use Rattle.gx_object.proofs.tree.encode_tree_into.Goals as goal

pub loop-entry-init : goal.loop-entry-init
loop-entry-init g c = (search rules, refl)

on_err : {T E : Type 0} (r : Result T E) (P : Type 0) → P → OnErr r P
on_err (Ok x) P p = tt
on_err (Err e) P p = p

pub returns-in_err-append_entry-clause-front : goal.returns-in_err-append_entry-clause-front
returns-in_err-append_entry-clause-front g c =
    on_err c.from_residual.result _ (c.loop-entry.entry-index, c.in_err-append_entry.ensures.unchanged ∙ c.loop-entry.invariant.0)
