use Rattle.std.proofs.Common.{None, Some, codes}
use Rattle.std.proofs.lemmas.Bool.Decides.{Decides-eqb}
use Rattle.std.proofs.lemmas.Slice.Eq.{strip_prefix_is}
use Rattle.gx_batch.proofs.PlainParts.{percents_first, plain_first}
use Rattle.gx_batch.proofs.format.plain_part.Goals as goal

pub returns-in-Some : goal.returns-in-Some
returns-in-Some c = percents_first c.args.text.now c.in-Some.after.now (strip_prefix_is Decides-eqb c.args.text.now (codes "%%") (Some c.in-Some.after) c.in-Some.ensures.cases)

pub returns : goal.returns
returns c = plain_first c.args.text.now c.in_ok-byte.byte.now c.in_ok-byte.after.now c.in_ok-byte.ensures.cases.0 c.requires (strip_prefix_is Decides-eqb c.args.text.now (codes "%%") None c.in_default.ensures.cases)
