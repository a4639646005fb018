use Rattle.std.proofs.Common.{◌≡◌, ◌∙◌, ap, map, rules}
use Rattle.std.specs.List.{filter}
use Rattle.std.proofs.lemmas.Fn.{filter_same}
use Rattle.gx_model.specs.Texts.Paths.{path_text}
use Rattle.gx_text.specs.Lent.{lent_texts}
use Rattle.gx_differences.specs.Listed.{shown_difference}
use Rattle.gx_diff.specs.Paths.{ask_for}
use Rattle.gx_diff.proofs.Shown.{seen_filter}
use Rattle.gx_diff.proofs.paths.retain_asked.Goals as goal

pub returns : goal.returns
returns g c =
    let asked = lent_texts c.args.asked.now in
    let left : c.retain.new.self.items ≡ filter (λ d. ask_for asked (path_text d.path)) c.args.found.now.items = filter_same _ _ _ (λ x b f' k. search rules) _ _ c.retain.ensures.filtered in
    ap (map shown_difference) left ∙ seen_filter shown_difference (λ s. ask_for asked (path_text s.0)) c.args.found.now.items
