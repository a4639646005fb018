use Rattle.std.proofs.Common.{◌+◌, [], drop, get_or, refl, sym, ap, ◌∙◌, arith, subst}
use Rattle.gx_tree.specs.Nodes.{is_folder, kept_at}
use Rattle.gx_tree.specs.Searches.{IsEntryAt}
use Rattle.gx_tree.specs.Steps.{kept_grafted}
use Rattle.gx_tree.specs.Views.{shown_entries, shown_item}
use Rattle.gx_tree.proofs.Changed.{anew_end, anew_file}
use Rattle.gx_tree.proofs.InPlace.{standing}
use Rattle.gx_tree.proofs.parting.folder_on.Goals as goal

pub returns-then-depth-length-clause-missing : goal.returns-then-depth-length-clause-missing
returns-then-depth-length-clause-missing g c = λ none k. anew_end c.args.path.now c.args.depth k _ (omega (arith, c.if-depth-length.true, c.len-length.ensures.length))

pub returns-in_err-place-clause-missing : goal.returns-in_err-place-clause-missing
returns-in_err-place-clause-missing g c = λ none k.
    ap (kept_grafted (drop (c.args.depth + 1) c.args.path.now) k) (sym (ap (λ z. kept_at z (shown_entries c.args.entries.now)) (sym c.component.ensures.component) ∙ c.in_err-place.ensures.missing refl))

pub returns-then-not-is_folder-clause-missing : goal.returns-then-not-is_folder-clause-missing
returns-then-not-is_folder-clause-missing g c = λ none k.
    let q = drop (c.args.depth + 1) c.args.path.now in
    let b = get_or c.args.path.now c.args.depth [] in
    anew_file q k (shown_item c.index-entries-place.result.item) (ap (λ z. is_folder (shown_item z.item)) c.index-entries-place.is ∙ sym c.is_folder.ensures ∙ c.if-not-is_folder.true)
    ∙ ap (kept_grafted q k) (sym (standing b c.args.entries.now c.in_ok-place.place c.index-entries-place.result c.requires.level (subst (λ z. IsEntryAt z c.args.entries.now c.in_ok-place.place) c.component.ensures.component c.in_ok-place.ensures.found) c.index-entries-place.is))
