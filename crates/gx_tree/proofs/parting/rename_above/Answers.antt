use Rattle.std.proofs.Common.{◌≡◌, ◌+◌, [], None, drop, get_or, true, sym, ap, ◌∙◌, arith, subst}
use Rattle.std.proofs.lemmas.Bool.{and_parts}
use Rattle.gx_model.specs.Texts.Paths.{is_component}
use Rattle.gx_tree.specs.Edits.{without_path}
use Rattle.gx_tree.specs.Homes.{AreAtHome, IsItemAtHome}
use Rattle.gx_tree.specs.Nodes.{IsKept, IsLevel, files, with_kept}
use Rattle.gx_tree.specs.Rooms.{IsReach}
use Rattle.gx_tree.specs.Searches.{IsEntryAt}
use Rattle.gx_tree.specs.Views.{shown_entries, shown_item}
use Rattle.gx_tree.proofs.Above.{carried_above}
use Rattle.gx_tree.proofs.EditSteps.{inner_at}
use Rattle.gx_tree.proofs.Grafts.{IsKept-grafted}
use Rattle.gx_tree.proofs.parting.rename_above.Goals as goal

pub remove_at-requires-clause-level : goal.remove_at-requires-clause-level
remove_at-requires-clause-level g c = subst (λ z. IsLevel (shown_entries z)) (sym c.in_ok-reserve.ensures.items) c.requires.level

pub remove_at-requires-clause-reach : goal.remove_at-requires-clause-reach
remove_at-requires-clause-reach g c = subst (λ z. IsReach c.args.reach (files (shown_entries z))) (sym c.in_ok-reserve.ensures.items) c.requires.reach

pub remove_at-requires-clause-place : goal.remove_at-requires-clause-place
remove_at-requires-clause-place g c = subst (λ z. IsEntryAt (get_or c.args.from.now c.args.depth []) z c.args.place) (sym c.in_ok-reserve.ensures.items) c.requires.place

pub put-requires-clause-component : goal.put-requires-clause-component
put-requires-clause-component g c =
    subst (λ z. is_component z ≡ true) (sym (ap (λ z. z.0) c.in_ok-new.ensures.seen)) (and_parts _ _ (inner_at c.args.to.now c.args.depth c.requires.to c.component.ensures.component (and_parts _ _ c.component.ensures.path).0)).0

pub put-requires-clause-kept : goal.put-requires-clause-kept
put-requires-clause-kept g c =
    let inner = inner_at c.args.to.now c.args.depth c.requires.to c.component.ensures.component (and_parts _ _ c.component.ensures.path).0 in
    subst (λ i. IsKept (shown_item i)) (sym c.in_ok-new.ensures.item) (subst IsKept (sym c.in_ok-made.ensures.kept) (IsKept-grafted (drop (c.args.depth + 1) c.args.to.now) (shown_item c.args.item.now) None (and_parts _ _ inner).1 c.requires.kept tt))

pub returns-clause-files : goal.returns-clause-files
returns-clause-files g c =
    let s = c.args.from.now in
    let d = c.args.to.now in
    let i = c.args.depth in
    let k = shown_item c.args.item.now in
    let mid = shown_entries c.remove_at.new.entries.items in
    let gone = c.in_ok-reach.ensures.entries ∙ ap (λ z. without_path (drop i s) (shown_entries z)) c.in_ok-reserve.ensures.items in
    let come = c.put.ensures.entries ∙ ap (λ z. with_kept z (shown_item c.in_ok-new.new.item) mid) (ap (λ z. z.0) c.in_ok-new.ensures.seen ∙ c.component.ensures.component) ∙ ap (λ z. with_kept (get_or d i []) (shown_item z) mid) c.in_ok-new.ensures.item in
    (carried_above s d i k (shown_entries c.args.entries.now.items) mid (shown_entries c.put.new.entries.items) (omega (arith, c.requires.from)) c.requires.to (and_parts _ _ c.len.ensures.path).0 (and_parts _ _ c.component.ensures.path).0 c.requires.apart c.requires.kept c.requires.level (c.requires.anew k) gone c.in_ok-made.ensures.kept come).is

pub returns-clause-level : goal.returns-clause-level
returns-clause-level g c =
    let s = c.args.from.now in
    let d = c.args.to.now in
    let i = c.args.depth in
    let k = shown_item c.args.item.now in
    let mid = shown_entries c.remove_at.new.entries.items in
    let gone = c.in_ok-reach.ensures.entries ∙ ap (λ z. without_path (drop i s) (shown_entries z)) c.in_ok-reserve.ensures.items in
    let come = c.put.ensures.entries ∙ ap (λ z. with_kept z (shown_item c.in_ok-new.new.item) mid) (ap (λ z. z.0) c.in_ok-new.ensures.seen ∙ c.component.ensures.component) ∙ ap (λ z. with_kept (get_or d i []) (shown_item z) mid) c.in_ok-new.ensures.item in
    (carried_above s d i k (shown_entries c.args.entries.now.items) mid (shown_entries c.put.new.entries.items) (omega (arith, c.requires.from)) c.requires.to (and_parts _ _ c.len.ensures.path).0 (and_parts _ _ c.component.ensures.path).0 c.requires.apart c.requires.kept c.requires.level (c.requires.anew k) gone c.in_ok-made.ensures.kept come).level

pub returns-clause-home : goal.returns-clause-home
returns-clause-home g c = λ name rs h.
    c.put.ensures.home name rs (subst (IsItemAtHome name rs) (sym c.in_ok-new.ensures.item) (c.in_ok-made.ensures.home name rs h.0), c.remove_at.ensures.home name rs (subst (AreAtHome name rs) (sym c.in_ok-reserve.ensures.items) h.1))
