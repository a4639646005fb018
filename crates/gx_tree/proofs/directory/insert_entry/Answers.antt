use Rattle.std.proofs.Common.{sym, subst, ap, ◌∙◌}
use Rattle.gx_tree.specs.Homes.{AreAtHome, IsItemAtHome}
use Rattle.gx_tree.specs.Rooms.{counted, kept_reach}
use Rattle.gx_tree.proofs.Copies.{inserted_is}
use Rattle.gx_tree.proofs.Homes.{all_inserted}
use Rattle.gx_tree.proofs.directory.insert_entry.Goals as goal

pub returns-clause-entries : goal.returns-clause-entries
returns-clause-entries g c =
    inserted_is c.in_ok-new.new c.args.entries.now.items c.deref.result.now c.insert.new.self.items c.place_of-place.result c.in_ok-new.ensures.seen c.mark.ensures c.deref.ensures.value c.in_ok-insert.ensures.items c.place_of-place.ensures.within c.place_of-place.ensures.place

pub returns-clause-home : goal.returns-clause-home
returns-clause-home g c name rs h =
    let item = subst (IsItemAtHome name rs) (sym c.in_ok-new.ensures.item) h.0 in
    subst (AreAtHome name rs) (sym c.in_ok-insert.ensures.items) (all_inserted (λ e. IsItemAtHome name rs e.item) c.args.entries.now.items c.place_of-place.result c.in_ok-new.new h.1 item)

pub returns-clause-reach : goal.returns-clause-reach
returns-clause-reach g c = c.reach-reach.ensures ∙ ap (λ e. counted (kept_reach e)) c.in_ok-new.ensures.seen
