use Rattle.std.proofs.Common.{◌∙◌, [], ap, map, sym, unwrap_or}
use Rattle.clap.specs.Words.{found_of}
use Rattle.clap.proofs.WalkLemmas.{raw_values-rows}
use Rattle.gx_line.proofs.command_line.values.any_words_of.Goals as goal

pub returns-in_ok-from_slice-in-Some-clause-words : goal.returns-in_ok-from_slice-in-Some-clause-words
returns-in_ok-from_slice-in-Some-clause-words c =
    let taken = sym (c.in-Some.ensures ∙ raw_values-rows (found_of c.args.matches.now) c.args.id.now) in
    ap (λ o. unwrap_or o []) taken ∙ ap (λ words. map (λ s. s.now) words) (sym c.in_ok-from_slice-in-Some.ensures.items)

pub returns-in-None-clause-words : goal.returns-in-None-clause-words
returns-in-None-clause-words c =
    let taken = sym (c.in-None.ensures ∙ raw_values-rows (found_of c.args.matches.now) c.args.id.now) in
    ap (λ o. unwrap_or o []) taken ∙ ap (λ words. map (λ s. s.now) words) (sym c.new.ensures.items)
