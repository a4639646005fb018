use Rattle.std.proofs.Common.{arith}
use Rattle.std.proofs.lemmas.Grind.{common_steps}
use Rattle.gx_model.specs.Streams.Items.{counted_block}
use Rattle.gx_stream.proofs.places.find_counted.Goals as goal

pub returns-clause-begins : goal.returns-clause-begins
unfolding counted_block
returns-clause-begins c = grind (arith, common_steps)
