use Rattle.std.proofs.Common.{◌<◌}
use Rattle.gx_stream.specs.Input.{shown_input, IsSound, Keeps, pulls_left}
use Rattle.gx_stream.proofs.input.Input.pull_wanted.Given as goal

abbrev pub invariant-loop-self : goal.invariant-loop-self
invariant-loop-self g l =
    record {
      sound : IsSound l.self;
      keeps : Keeps (shown_input l.fn.self (g.R.Source.coming l.fn.self.source)) (shown_input l.self (g.R.Source.coming l.self.source));
      fewer : pulls_left l.self.state l.self.room < pulls_left l.fn.self.state l.fn.self.room;
    }

abbrev pub decreases-loop-self : goal.decreases-loop-self
decreases-loop-self g l = pulls_left l.self.state l.self.room
