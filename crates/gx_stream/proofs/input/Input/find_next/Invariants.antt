use Rattle.gx_stream.specs.Input.{shown_input, IsSound, Keeps, pulls_left}
use Rattle.gx_stream.proofs.input.Input.find_next.Given as goal

abbrev pub invariant-loop-found : goal.invariant-loop-found
invariant-loop-found g l =
    record {
      sound : IsSound l.self;
      keeps : Keeps (shown_input l.fn.self (g.R.Source.coming l.fn.self.source)) (shown_input l.self (g.R.Source.coming l.self.source));
    }

abbrev pub decreases-loop-found : goal.decreases-loop-found
decreases-loop-found g l = pulls_left l.self.state l.self.room
