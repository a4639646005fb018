use Rattle.std.proofs.Common.{◌∙◌, subst, sym}
use Rattle.clap.specs.Words.{found_of, rows_of, one_of}
use Rattle.clap.proofs.WalkLemmas.{one_text-rows}
use Rattle.gx_line.specs.CommandLine.{IsFlag}
use Rattle.gx_line.proofs.Flags.{flag_told}
use Rattle.gx_line.proofs.command_line.values.is_set.Goals as goal

pub returns : goal.returns
returns c =
    let h = one_text-rows (found_of c.args.matches.now) c.args.id.now in
    let told = flag_told _ (one_of c.args.id.now (rows_of (found_of c.args.matches.now))) c.get_one.result (λ e. c.get_one.ensures.none (h ∙ e)) (λ t e. c.get_one.ensures.value t (h ∙ e)) in
    subst (λ set. IsFlag c.args.id.now (rows_of (found_of c.args.matches.now)) set) (sym c.unwrap_or.ensures) told
