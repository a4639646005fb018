use Rattle.std.proofs.Common.{◌++◌, ◌∷◌, ◌∙◌, [], map, sym}
use Rattle.gx_model.specs.declared.objects.Kind.TheVariants as kinds
use Rattle.gx_links.specs.Links.{shown_link}
use Rattle.gx_links.proofs.BodyLinks.{parent_link, tag_link, told_bad, told_good}
use Rattle.gx_links.proofs.links.link_of_tag.Goals as goal

pub returns-in_default : goal.returns-in_default
returns-in_default g c = told_bad kinds.Tag c.args.body.now (λ p. c.in_default.ensures.only p.0 p.1)

pub returns : goal.returns
returns g c = (
  told_good kinds.Tag c.args.body.now (c.in-Ok.tag, c.in-Ok.ensures.found),
  c.in_ok-push.ensures ∙ (λ j. map shown_link (c.new-links.ensures.items j) ++ parent_link (c.object.ensures j) ∷ []) ∙ sym (tag_link c.in-Ok.tag c.args.body.now c.in-Ok.ensures.found),
)
