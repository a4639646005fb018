use Rattle.std.proofs.Common.{◌++◌, ◌∷◌, ◌∙◌, [], ap, inl, inr, map, sym}
use Rattle.gx_model.proofs.ObjectTexts.BodiesReadBack.{tag_read}
use Rattle.gx_reached.specs.Links.{no_blob, shown_link}
use Rattle.gx_reached.proofs.links.link_of_tag.Goals as goal

pub returns-in_default : goal.returns-in_default
returns-in_default g c = inr (c.new-links.ensures.items, λ p. c.in_default.ensures.only p.0 p.1)

pub returns : goal.returns
returns g c =
    inl (c.in_ok-push.ensures ∙ (λ j. map shown_link (c.new-links.ensures.items j) ++ no_blob (c.object.ensures j) ∷ []) ∙ ap (λ p. no_blob p.object ∷ []) (sym (tag_read c.in-Ok.tag c.args.body.now c.in-Ok.ensures.found)))
