use Rattle.std.proofs.Common.{refl, sym, subst}
use Rattle.gx_tree.specs.Homes.{AreAtHome, IsItemAtHome}
use Rattle.gx_tree.proofs.Copies.{alike_all_behind, alike_more_behind}
use Rattle.gx_tree.proofs.Homes.{all_at, all_joined}
use Rattle.gx_tree.proofs.directory.share_into.Goals as goal

pub loop-entry-init : goal.loop-entry-init
loop-entry-init g c = (refl, λ name rs h. h.0)

pub loop-entry-preserved : goal.loop-entry-preserved
loop-entry-preserved g c = (
  alike_more_behind c.args.entries.now c.loop-entry.entry-index c.entry-item.result c.in_ok-shared.field-0 c.loop-entry.shared.items c.push.new.self.items _ c.loop-entry-test.true c.entry-item.is c.in_ok-shared.ensures.seen c.in_ok-push.ensures.items c.loop-entry.invariant.0,
  λ name rs h. subst (AreAtHome name rs) (sym c.in_ok-push.ensures.items) (all_joined (λ e. IsItemAtHome name rs e.item) c.loop-entry.shared.items _ (c.loop-entry.invariant.1 name rs h) (c.in_ok-shared.ensures.home name rs (all_at (λ e. IsItemAtHome name rs e.item) c.args.entries.now c.loop-entry.entry-index c.entry-item.result c.loop-entry-test.true c.entry-item.is h.1), tt)),
)

pub returns-clause-entries : goal.returns-clause-entries
returns-clause-entries g c = alike_all_behind c.args.entries.now c.loop-entry.entry-index c.loop-entry.shared.items _ c.loop-entry-test.false c.loop-entry.invariant.0
