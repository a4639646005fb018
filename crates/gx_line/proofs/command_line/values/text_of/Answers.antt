use Rattle.std.proofs.Common.{inl, inr, refl, sym, ◌∙◌}
use Rattle.clap.specs.Words.{found_of}
use Rattle.clap.proofs.WalkLemmas.{first_value-rows}
use Rattle.gx_line.proofs.command_line.values.text_of.Goals as goal

pub returns-in-Some : goal.returns-in-Some
returns-in-Some c = inl (sym (c.in-Some.ensures ∙ first_value-rows (found_of c.args.matches.now) c.args.id.now))

pub returns-in-None : goal.returns-in-None
returns-in-None c = inr (sym (c.in-None.ensures ∙ first_value-rows (found_of c.args.matches.now) c.args.id.now), refl)
