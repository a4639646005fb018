use Rattle.gx_tree.proofs.Homes.{items_are_those, entries_at_home, files_same}
use Rattle.std.proofs.Common.{◌+◌, drop, sym, ap, ◌∙◌, arith, subst}
use Rattle.gx_model.specs.Histories.Files.{sub_map}
use Rattle.gx_tree.specs.Homes.{AreAtHome}
use Rattle.gx_tree.specs.Views.{shown_lent, shown_entries}
use Rattle.gx_tree.proofs.Below.{kept_step, taken_end, taken_further}
use Rattle.gx_tree.proofs.directory.Directory.+item_at.Goals as goal

pub returns-then-depth-length-clause-files : goal.returns-then-depth-length-clause-files
returns-then-depth-length-clause-files g t c = taken_end c.args.path.now c.args.depth (shown_entries c.self.inside.entries.value.items) (shown_lent c.find-item.result) (omega arith) (files_same c.self.view_is) c.self.invariant.0 c.component.ensures.component (ap shown_entries (items_are_those c.as_slice.ensures.value c.deref.ensures)) c.find-item.ensures.kept

pub returns-then-depth-length-clause-kept : goal.returns-then-depth-length-clause-kept
returns-then-depth-length-clause-kept g t c = kept_step c.component.result.now (shown_entries c.self.inside.entries.value.items) (shown_lent c.find-item.result) c.self.invariant.0 (ap shown_entries (items_are_those c.as_slice.ensures.value c.deref.ensures)) c.find-item.ensures.kept

pub returns-in-Some-clause-files : goal.returns-in-Some-clause-files
returns-in-Some-clause-files g t c =
    taken_further c.args.path.now c.args.depth (shown_entries c.self.inside.entries.value.items) (shown_lent c.find-item.result) (omega (arith, c.requires)) (files_same c.self.view_is) c.self.invariant.0 c.component.ensures.component (ap shown_entries (items_are_those c.as_slice.ensures.value c.deref.ensures)) c.find-item.ensures.kept
    ∙ ap (λ f. sub_map f (drop (c.args.depth + 1) c.args.path.now)) c.in-Some.ensures.files ∙ c.item_at.ensures.files

pub returns-in-None-clause-files : goal.returns-in-None-clause-files
returns-in-None-clause-files g t c =
    taken_further c.args.path.now c.args.depth (shown_entries c.self.inside.entries.value.items) (shown_lent c.find-item.result) (omega (arith, c.requires)) (files_same c.self.view_is) c.self.invariant.0 c.component.ensures.component (ap shown_entries (items_are_those c.as_slice.ensures.value c.deref.ensures)) c.find-item.ensures.kept
    ∙ ap (λ f. sub_map f (drop (c.args.depth + 1) c.args.path.now)) c.in-None.ensures.files

pub returns-then-depth-length-clause-home : goal.returns-then-depth-length-clause-home
returns-then-depth-length-clause-home g t c name rs h =
    c.find-item.ensures.home name rs (subst (AreAtHome name rs) (sym (items_are_those c.as_slice.ensures.value c.deref.ensures)) (entries_at_home name rs c.self.inside.remembered c.self.inside.entries.value.items c.args.self.now c.self.view_is c.self.invariant.0 h))

pub returns-in-Some-clause-home : goal.returns-in-Some-clause-home
returns-in-Some-clause-home g t c name rs h =
    let item = c.find-item.ensures.home name rs (subst (AreAtHome name rs) (sym (items_are_those c.as_slice.ensures.value c.deref.ensures)) (entries_at_home name rs c.self.inside.remembered c.self.inside.entries.value.items c.args.self.now c.self.view_is c.self.invariant.0 h)) in
    c.item_at.ensures.home name rs (c.in-Some.ensures.home name rs item)
