use Rattle.std.proofs.Common.{ap, codes, map, refl, subst, sym, ◌∙◌, Some}
use Rattle.clap.specs.Words.{found_of, rows_of}
use Rattle.clap.proofs.WalkLemmas.{raw_values-rows}
use Rattle.gx_line.specs.CommandLine.{Asks, IsForm}
use Rattle.gx_line.proofs.NoLines.{caused, no_ranges}
use Rattle.gx_line.proofs.command_line.questions.export_of.Goals as goal

pub returns-in_default-get_strs-clause-question : goal.returns-in_default-get_strs-clause-question
unfolding Asks
returns-in_default-get_strs-clause-question c =
    (refl, (c.in-Some.ensures.form, sym (c.in_default-get_strs.ensures ∙ raw_values-rows (found_of c.args.matches.now) (codes "range"))))

pub returns-in_ok-from_slice-in-Changes-clause-question : goal.returns-in_ok-from_slice-in-Changes-clause-question
unfolding Asks
returns-in_ok-from_slice-in-Changes-clause-question c =
    let form = subst (λ form. IsForm (rows_of (found_of c.args.matches.now)) form) c.in-Changes.is c.in-Some.ensures.form in
    let taken = sym (c.in-Some-get_strs.ensures ∙ raw_values-rows (found_of c.args.matches.now) (codes "range")) in
    (refl, (form, taken ∙ ap (λ words. Some (map (λ s. s.now) words)) (sym c.in_ok-from_slice-in-Changes.ensures.items)))

pub returns-in-FullTree-clause-refused : goal.returns-in-FullTree-clause-refused
returns-in-FullTree-clause-refused c =
    let form = subst (λ form. IsForm (rows_of (found_of c.args.matches.now)) form) c.in-FullTree.is c.in-Some.ensures.form in
    caused _ _ (no_ranges _ _ form.0 (sym (c.in-Some-get_strs.ensures ∙ raw_values-rows (found_of c.args.matches.now) (codes "range"))))
