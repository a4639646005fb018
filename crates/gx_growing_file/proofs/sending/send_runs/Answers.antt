use Rattle.std.proofs.Common.{◌≡◌, ◌++◌, None, Option, codes, length, subst, sym}
use Rattle.std.specs.List.{flat_map}
use Rattle.gx_model.specs.Objects.{line}
use Rattle.gx_model.specs.Texts.Numbers.{number_text}
use Rattle.gx_file.specs.Sending.{Sent}
use Rattle.gx_growing.specs.GrowingText.{run_text}
use Rattle.gx_growing_parts.specs.declared.runs.Run.{Run as GivenRun}
use Rattle.gx_growing_file.specs.Sending.{runs_of}
use Rattle.gx_growing_file.proofs.SentParts.{no_runs}
use Rattle.gx_growing_file.proofs.sending.send_runs.Goals as goal

pub returns-in-None : goal.returns-in-None
returns-in-None g c =
    let was = g.W.Sink.taken c.args.sink.now in
    let now = g.W.Sink.taken c.send_text.new.sink in
    let none : c.args.run ≡ None = cc c.in-None.is in
    subst (λ (r : Option GivenRun). Sent (line (codes "runs") (number_text (length (runs_of r))) ++ flat_map run_text (runs_of r)) was now c.send_text.result) (sym none)
    (subst (λ t. Sent t was now c.send_text.result) (sym no_runs) c.send_text.ensures)
