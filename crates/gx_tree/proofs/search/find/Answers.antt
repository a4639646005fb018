use Rattle.std.proofs.Common.{Some, refl, ap, ◌∙◌, subst}
use Rattle.gx_tree.specs.Components.{bytes_of}
use Rattle.gx_tree.specs.Homes.{IsItemAtHome}
use Rattle.gx_tree.specs.Views.{shown_item}
use Rattle.gx_tree.proofs.Homes.{all_at}
use Rattle.gx_tree.proofs.Searches.{kept_at_place}
use Rattle.gx_tree.proofs.Texts.{bytes_same}
use Rattle.gx_tree.proofs.search.find.Goals as goal

pub returns-in-Some-clause-kept : goal.returns-in-Some-clause-kept
returns-in-Some-clause-kept g c =
    let r = c.index-entries-place.result in
    let same = bytes_same (bytes_of r.component) c.args.component.now (ap (λ z. bytes_of z.component) c.index-entries-place.is ∙ c.in-Some.ensures.found.1 r) in
    kept_at_place c.args.component.now (bytes_of r.component) c.args.entries.now c.in-Some.place r c.requires c.in-Some.ensures.found.0 c.index-entries-place.is refl same ∙ ap (λ z. Some (shown_item z.item)) c.index-entries-place.is

pub returns-in-Some-clause-home : goal.returns-in-Some-clause-home
returns-in-Some-clause-home g c name rs h =
    subst (λ z. IsItemAtHome name rs z.item) c.index-entries-place.is (all_at (λ e. IsItemAtHome name rs e.item) c.args.entries.now c.in-Some.place c.index-entries-place.result c.in-Some.ensures.found.0 c.index-entries-place.is h)

pub returns-in-None-clause-kept : goal.returns-in-None-clause-kept
returns-in-None-clause-kept g c = c.in-None.ensures.missing refl
