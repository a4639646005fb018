use Rattle.std.proofs.Common.{◌≡◌, None, true, refl, sym, ap, ◌∙◌, subst}
use Rattle.std.specs.Bool.{if◌then◌else◌}
use Rattle.std.specs.List.{insert}
use Rattle.std.specs.Result.{is_ok}
use Rattle.gx_tree.specs.Homes.{AreAtHome, IsItemAtHome}
use Rattle.gx_tree.specs.Nodes.{files, inserted, kept_at, others}
use Rattle.gx_tree.specs.Rooms.{IsReach}
use Rattle.gx_tree.specs.Views.{shown_entry, shown_entries, shown_item}
use Rattle.gx_tree.proofs.Changed.{replaced_level}
use Rattle.gx_tree.proofs.Copies.{inserted_is}
use Rattle.gx_tree.proofs.Homes.{all_inserted}
use Rattle.gx_tree.proofs.Levels.{kept_at-others}
use Rattle.gx_tree.proofs.Rooms.{come}
use Rattle.gx_tree.proofs.Texts.{same_itself}
use Rattle.gx_tree.proofs.placing.put.Goals as goal

pub returns-clause-entries : goal.returns-clause-entries
returns-clause-entries g c =
    let a = (shown_entry c.args.new).0 in
    let k = shown_item c.args.new.item in
    let mid = c.take_out-reach.new.entries.items in
    let into = insert mid c.place_of-place.result c.args.new in
    let ok : is_ok c.insert.result ≡ true = c.insert.ensures.succeeds (c.take_out-reach.ensures.room c.requires.room) in
    let is = c.insert.ensures.items ∙ ap (λ b. if b then into else mid) ok in
    let seen : shown_entry c.args.new ≡ (c.component-2.result.now, k) = ap (λ z. (z, k)) (sym c.component-2.ensures) in
    inserted_is c.args.new mid c.deref.result.now c.insert.new.self.items c.place_of-place.result seen c.mark.ensures c.deref.ensures.value is c.place_of-place.ensures.within c.place_of-place.ensures.place
    ∙ ap (λ z. inserted z k (shown_entries mid)) c.component-2.ensures
    ∙ ap (inserted a k) (c.take_out-reach.ensures.others ∙ ap (λ z. others z (shown_entries c.args.entries.now.items)) c.component.ensures)

pub returns-clause-reach : goal.returns-clause-reach
returns-clause-reach g c =
    let a = (shown_entry c.args.new).0 in
    let k = shown_item c.args.new.item in
    let es = shown_entries c.args.entries.now.items in
    let mid = c.take_out-reach.new.entries.items in
    let into = insert mid c.place_of-place.result c.args.new in
    let ok : is_ok c.insert.result ≡ true = c.insert.ensures.succeeds (c.take_out-reach.ensures.room c.requires.room) in
    let is = c.insert.ensures.items ∙ ap (λ b. if b then into else mid) ok in
    let seen : shown_entry c.args.new ≡ (c.component-2.result.now, k) = ap (λ z. (z, k)) (sym c.component-2.ensures) in
    let put = inserted_is c.args.new mid c.deref.result.now c.insert.new.self.items c.place_of-place.result seen c.mark.ensures c.deref.ensures.value is c.place_of-place.ensures.within c.place_of-place.ensures.place ∙ ap (λ z. inserted z k (shown_entries mid)) c.component-2.ensures in
    let left = c.take_out-reach.ensures.others ∙ ap (λ z. others z es) c.component.ensures in
    let level = replaced_level a k es (shown_entries c.insert.new.self.items) c.requires.component c.requires.kept c.requires.level (put ∙ ap (inserted a k) left) in
    let none : kept_at a (shown_entries mid) ≡ None = ap (kept_at a) left ∙ kept_at-others a a es ∙ rw (same_itself a) refl in
    subst (λ n. IsReach n (files (shown_entries c.insert.new.self.items))) (sym c.max.ensures) (come a k c.take_out-reach.result (shown_entries mid) (shown_entries c.insert.new.self.items) level none put c.take_out-reach.ensures.reach c.reach-far.ensures)

pub returns-clause-home : goal.returns-clause-home
returns-clause-home g c = λ name rs h.
    let mid = c.take_out-reach.new.entries.items in
    let into = insert mid c.place_of-place.result c.args.new in
    let ok : is_ok c.insert.result ≡ true = c.insert.ensures.succeeds (c.take_out-reach.ensures.room c.requires.room) in
    let is = c.insert.ensures.items ∙ ap (λ b. if b then into else mid) ok in
    subst (AreAtHome name rs) (sym is) (all_inserted (λ e. IsItemAtHome name rs e.item) mid c.place_of-place.result c.args.new (c.take_out-reach.ensures.home name rs h.1) h.0)
