use Rattle.std.proofs.Common.{arith}
use Rattle.gx_where.proofs.NextItems.{item_shorter, comment_shorter, one_more, comment_more, all_counted}
use Rattle.gx_where.proofs.rest.count_items.Goals as goal

pub loop-next-smaller-in-Item : goal.loop-next-smaller-in-Item
loop-next-smaller-in-Item c = item_shorter _ _ _ c.in-Item.ensures.first

pub loop-next-preserved-in-Item : goal.loop-next-preserved-in-Item
loop-next-preserved-in-Item c = record {
  counted = one_more _ _ _ _ _ c.in-Item.ensures.first c.loop-next.invariant.counted;
  within = omega (arith, item_shorter _ _ _ c.in-Item.ensures.first, c.loop-next.invariant.within);
}

pub loop-next-smaller : goal.loop-next-smaller
loop-next-smaller c = comment_shorter _ _ c.in-Comment.ensures.first

pub loop-next-preserved : goal.loop-next-preserved
loop-next-preserved c = record {
  counted = comment_more _ _ _ _ c.in-Comment.ensures.first c.loop-next.invariant.counted;
  within = omega (arith, comment_shorter _ _ c.in-Comment.ensures.first, c.loop-next.invariant.within);
}

pub returns-in-End : goal.returns-in-End
returns-in-End c = all_counted _ _ _ _ c.in-End.ensures.first c.loop-next.invariant.counted
