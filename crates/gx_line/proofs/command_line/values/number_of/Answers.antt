use Rattle.std.proofs.Common.{◌∙◌}
use Rattle.std.specs.Str.Parse.{ExplainsUnsignedError, HasUnsignedDigitsIfOk, ParsesUnsigned}
use Rattle.clap.specs.Words.{found_of}
use Rattle.clap.proofs.WalkLemmas.{one_text-rows}
use Rattle.gx_line.proofs.Weaker.{reads_weaker}
use Rattle.gx_line.proofs.command_line.values.number_of.Goals as goal

pub returns : goal.returns
returns c =
    let h = one_text-rows (found_of c.args.matches.now) c.args.id.now in
    ((λ e. c.get_one.ensures.none (h ∙ e)), (λ t e. reads_weaker (λ bs r. ParsesUnsigned 64 10 bs r × ExplainsUnsignedError 10 bs r × HasUnsignedDigitsIfOk bs r) (λ bs r. ParsesUnsigned 64 10 bs r) t c.get_one.result (λ bs r g. g.0) (c.get_one.ensures.value t (h ∙ e))))
