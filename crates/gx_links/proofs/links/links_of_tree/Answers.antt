use Rattle.std.proofs.Common.{◌≡◌, ◌++◌, ◌∙◌, ap, append-nil, map, sym}
use Rattle.std.specs.List.{filter_map}
use Rattle.gx_model.specs.declared.objects.Kind.TheVariants as kinds
use Rattle.gx_model.proofs.ObjectTexts.BodiesReadBack.{entries_read}
use Rattle.gx_object.specs.Entries.{shown}
use Rattle.gx_wide.specs.Placing.{wide_links}
use Rattle.gx_links.specs.Links.{link_in, shown_link}
use Rattle.gx_links.proofs.BodyLinks.{next_entry, told_bad, told_good}
use Rattle.gx_links.proofs.links.links_of_tree.Goals as goal

pub returns-in_default : goal.returns-in_default
returns-in_default g c = told_bad kinds.Tree c.args.body.now (λ p. c.in_default.ensures.only p.0 p.1)

pub loop-entry-init : goal.loop-entry-init
loop-entry-init g c =
    let es = c.in-Ok.entries in
    let same : c.into_iter-entry-iterator.result ≡ es = c.into_iter-entry-iterator.ensures.into_iter_gives in
    (λ i. map shown_link (c.new-links.ensures.items i) ++ filter_map link_in (same i)) ∙ ap (filter_map link_in) (sym (entries_read es c.args.body.now c.in-Ok.ensures.found))

pub loop-entry-preserved : goal.loop-entry-preserved
loop-entry-preserved g c =
    next_entry (map shown_link c.loop-entry.links.items) (map shown_link c.push_entry.new.links.items) (wide_links kinds.Tree c.args.body.now) (shown c.in-Some.entry) c.loop-entry.entry-iterator c.next.new.self
    c.in_ok-push_entry.ensures c.in-Some.ensures.steps c.loop-entry.invariant

pub returns : goal.returns
returns g c =
    let links = map shown_link c.loop-entry.links.items in (
      told_good kinds.Tree c.args.body.now (c.in-Ok.entries, c.in-Ok.ensures.found),
      sym (append-nil links) ∙ ap (λ es. links ++ filter_map link_in es) (sym c.in-None.ensures.steps.0) ∙ c.loop-entry.invariant,
    )
