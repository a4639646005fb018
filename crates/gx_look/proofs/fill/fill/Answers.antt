use Rattle.std.proofs.Common.{rules, length, ◌-◌}
use Rattle.gx_at.proofs.Parts.{more_stands}
use Rattle.gx_look.proofs.fill.fill.Goals as goal

pub loop-done-preserved : goal.loop-done-preserved
loop-done-preserved g c =
    record {
      within = search rules;
      same = search rules;
      there = more_stands (g.S.ReadAt.text c.args.source.now) c.args.at c.loop-done.done c.in_ok-count.count (length c.loop-done.room - c.loop-done.done) c.loop-done.room c.read_at.new.room c.loop-done.invariant.within c.in_ok-count.ensures.bound c.loop-done.invariant.there c.in_ok-count.ensures.bytes;
    }
