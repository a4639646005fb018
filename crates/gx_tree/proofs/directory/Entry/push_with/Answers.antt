use Rattle.std.proofs.Common.{◌∷◌, [], ◌++◌, sym, ap, ◌∙◌, subst}
use Rattle.std.proofs.lemmas.List.{map-append}
use Rattle.gx_tree.specs.Homes.{AreAtHome, IsItemAtHome}
use Rattle.gx_tree.specs.Views.{RememberAll, Remembers, shown_entries, shown_entry, shown_item}
use Rattle.gx_tree.proofs.Homes.{all_joined}
use Rattle.gx_tree.proofs.directory.Entry.push_with.Goals as goal

pub returns-clause-seen : goal.returns-clause-seen
returns-clause-seen g c =
    let old = c.args.named.now.items in
    ap shown_entries c.in_ok-push.ensures.items ∙ map-append shown_entry old (_ ∷ []) ∙ ap (λ b. shown_entries old ++ (b, shown_item c.args.item) ∷ []) c.in_ok-component.ensures

pub returns-clause-home : goal.returns-clause-home
returns-clause-home g c name rs h =
    subst (AreAtHome name rs) (sym c.in_ok-push.ensures.items) (all_joined (λ e. IsItemAtHome name rs e.item) c.args.named.now.items _ h.1 (h.0, tt))

pub returns-clause-remember : goal.returns-clause-remember
returns-clause-remember g c own all =
    subst RememberAll (sym c.in_ok-push.ensures.items) (all_joined (λ e. Remembers e.item) c.args.named.now.items _ all (own, tt))
