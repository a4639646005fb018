use Rattle.std.proofs.Common.{◌≡◌, None, refl, sym, ap, ◌∙◌, subst}
use Rattle.gx_tree.specs.Nodes.{IsLevel, files, kept_at}
use Rattle.gx_tree.specs.Rooms.{Changes}
use Rattle.gx_tree.specs.Searches.{IsEntryAt}
use Rattle.gx_tree.specs.Views.{shown_entries}
use Rattle.gx_tree.proofs.InPlace.{others_same}
use Rattle.gx_tree.proofs.Renamed.{none_taken, taken_out, taken_reach}
use Rattle.gx_tree.proofs.TakenOut.{seen_without}
use Rattle.gx_tree.proofs.placing.take_out.Goals as goal

pub reach_after-requires-clause-level : goal.reach_after-requires-clause-level
reach_after-requires-clause-level g c =
    subst (λ z. IsLevel (shown_entries z)) (sym c.deref-in-Some.ensures.value) (taken_out c.args.component.now c.in-Some.place c.args.entries.now.items c.remove.new.self.items c.index.result.now c.requires.component c.requires.level (subst (λ z. IsEntryAt c.args.component.now z c.in-Some.place) c.deref.ensures.value c.in-Some.ensures.found) c.index.ensures c.remove.ensures.items).level

pub reach_after-requires-clause-changes : goal.reach_after-requires-clause-changes
reach_after-requires-clause-changes g c =
    subst (λ z. Changes c.args.reach c.reach-before.result 0 (files (shown_entries z))) (sym c.deref-in-Some.ensures.value) (taken_reach c.args.component.now c.in-Some.place c.args.entries.now.items c.remove.new.self.items c.index.result.now c.args.reach c.requires.level (subst (λ z. IsEntryAt c.args.component.now z c.in-Some.place) c.deref.ensures.value c.in-Some.ensures.found) c.index.ensures c.remove.ensures.items c.requires.reach c.reach-before.ensures)

pub returns-in-Some-clause-level : goal.returns-in-Some-clause-level
returns-in-Some-clause-level g c =
    (taken_out c.args.component.now c.in-Some.place c.args.entries.now.items c.remove.new.self.items c.index.result.now c.requires.component c.requires.level (subst (λ z. IsEntryAt c.args.component.now z c.in-Some.place) c.deref.ensures.value c.in-Some.ensures.found) c.index.ensures c.remove.ensures.items).level

pub returns-in-Some-clause-files : goal.returns-in-Some-clause-files
returns-in-Some-clause-files g c =
    (taken_out c.args.component.now c.in-Some.place c.args.entries.now.items c.remove.new.self.items c.index.result.now c.requires.component c.requires.level (subst (λ z. IsEntryAt c.args.component.now z c.in-Some.place) c.deref.ensures.value c.in-Some.ensures.found) c.index.ensures c.remove.ensures.items).is

pub returns-in-None-clause-files : goal.returns-in-None-clause-files
returns-in-None-clause-files g c =
    none_taken c.args.component.now (shown_entries c.args.entries.now.items) c.requires.component c.requires.level (subst (λ z. kept_at c.args.component.now (shown_entries z) ≡ None) c.deref.ensures.value (c.in-None.ensures.missing refl))

pub returns-in-Some-clause-others : goal.returns-in-Some-clause-others
returns-in-Some-clause-others g c =
    ap shown_entries c.remove.ensures.items ∙ seen_without c.args.component.now c.args.entries.now.items c.in-Some.place c.requires.level (subst (λ z. IsEntryAt c.args.component.now z c.in-Some.place) c.deref.ensures.value c.in-Some.ensures.found)

pub returns-in-None-clause-others : goal.returns-in-None-clause-others
returns-in-None-clause-others g c =
    sym (others_same c.args.component.now (shown_entries c.args.entries.now.items) (subst (λ z. kept_at c.args.component.now (shown_entries z) ≡ None) c.deref.ensures.value (c.in-None.ensures.missing refl)))
