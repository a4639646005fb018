use Rattle.std.proofs.Common.{◌≡◌, ◌++◌, ◌∙◌, ap, append-nil, inl, inr, map, sym}
use Rattle.std.specs.List.{filter_map}
use Rattle.gx_model.specs.declared.objects.Kind.TheVariants as kinds
use Rattle.gx_model.proofs.ObjectTexts.BodiesReadBack.{entries_read}
use Rattle.gx_object.specs.Entries.{shown}
use Rattle.gx_reached.specs.Links.{entry_link, links_in, shown_link}
use Rattle.gx_reached.proofs.BodyLinks.{next_entry}
use Rattle.gx_reached.proofs.links.links_of_tree.Goals as goal

pub returns-in_default : goal.returns-in_default
returns-in_default g c = inr (c.new-links.ensures.items, λ p. c.in_default.ensures.only p.0 p.1)

pub loop-entry-init : goal.loop-entry-init
loop-entry-init g c =
    let es = c.in-Ok.entries in
    let same : c.into_iter-entry-iterator.result ≡ es = c.into_iter-entry-iterator.ensures.into_iter_gives in
    (λ i. map shown_link (c.new-links.ensures.items i) ++ filter_map entry_link (same i)) ∙ ap (filter_map entry_link) (sym (entries_read es c.args.body.now c.in-Ok.ensures.found))

pub loop-entry-preserved : goal.loop-entry-preserved
loop-entry-preserved g c =
    next_entry (map shown_link c.loop-entry.links.items) (map shown_link c.push_entry.new.links.items) (links_in kinds.Tree c.args.body.now) (shown c.in-Some.entry) c.loop-entry.entry-iterator c.next.new.self
    c.in_ok-push_entry.ensures c.in-Some.ensures.steps c.loop-entry.invariant

pub returns : goal.returns
returns g c =
    let links = map shown_link c.loop-entry.links.items in
    inl (sym (append-nil links) ∙ ap (λ es. links ++ filter_map entry_link es) (sym c.in-None.ensures.steps.0) ∙ c.loop-entry.invariant)
