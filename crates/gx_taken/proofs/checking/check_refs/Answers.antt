use Rattle.std.proofs.Common.{refl, sym, ap, ◌∙◌}
use Rattle.std.specs.Option.{option_map}
use Rattle.gx_taken.specs.Refusals.{shown_refused}
use Rattle.gx_taken.proofs.CheckedRefs.{checked_next, refused_at}
use Rattle.gx_taken.proofs.checking.check_refs.Goals as goal

pub loop-item-init : goal.loop-item-init
loop-item-init g c = (c.new-parents.ensures c.args.repo.now.1, refl)

pub returns-in-Some : goal.returns-in-Some
returns-in-Some g c =
    refused_at {A = g.row.A.Denot} c.args.force c.args.repo.now.1 c.args.refs.now c.loop-item.item-index c.item-item.result c.item-item.result (shown_refused c.in-Some.kind) c.loop-item-test.true c.loop-item.invariant.1 c.item-item.is
    (sym (ap (option_map shown_refused) c.in-Some.is) ∙ c.in_ok-against.ensures.against)

pub loop-item-preserved : goal.loop-item-preserved
loop-item-preserved g c = (
  c.in_ok-against.ensures.holds,
  checked_next {A = g.row.A.Denot} c.args.force c.args.repo.now.1 c.args.refs.now c.loop-item.item-index c.item-item.result c.item-item.result c.loop-item-test.true c.loop-item.invariant.1 c.item-item.is
      (sym (ap (option_map shown_refused) c.in-None.is) ∙ c.in_ok-against.ensures.against),
)
