use Rattle.std.proofs.Common.{◌<◌, refl, sym, arith}
use Rattle.gx_where.specs.Rests.{whole, past_item, past_comment}
use Rattle.gx_where.proofs.NextItems.{item_shorter, comment_shorter, IsEndOf-whole, IsEndOf-further, past_item_left, past_comment_left, end_left}
use Rattle.gx_where.proofs.rest.rest_behind.Goals as goal

pub loop-next-init : goal.loop-next-init
loop-next-init c = record { end = IsEndOf-whole c.args.text.now; reached = whole; items = refl }

pub loop-next-smaller-in-Item : goal.loop-next-smaller-in-Item
loop-next-smaller-in-Item c = item_shorter _ _ _ c.in-Item.ensures.first

pub loop-next-preserved-in-Item : goal.loop-next-preserved-in-Item
loop-next-preserved-in-Item c =
    let some : 0 < c.loop-next.left = omega (arith, c.if-left-eq0.false) in
    record {
      end = IsEndOf-further _ _ _ c.loop-next.invariant.end c.in-Item.ensures.behind;
      reached = past_item _ _ _ c.loop-next.invariant.reached (sym c.in-Item.ensures.first);
      items = past_item_left _ _ _ _ _ some c.in-Item.ensures.first c.loop-next.invariant.items;
    }

pub loop-next-smaller : goal.loop-next-smaller
loop-next-smaller c = comment_shorter _ _ c.in-Comment.ensures.first

pub loop-next-preserved : goal.loop-next-preserved
loop-next-preserved c = record {
  end = IsEndOf-further _ _ _ c.loop-next.invariant.end c.in-Comment.ensures.behind;
  reached = past_comment _ _ c.loop-next.invariant.reached (sym c.in-Comment.ensures.first);
  items = past_comment_left _ _ _ _ c.in-Comment.ensures.first c.loop-next.invariant.items;
}

pub returns-in-End-clause-items : goal.returns-in-End-clause-items
returns-in-End-clause-items c = end_left _ _ _ _ c.in-End.ensures.first c.loop-next.invariant.items
