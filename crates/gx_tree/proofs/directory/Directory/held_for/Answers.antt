use Rattle.std.proofs.Common.{sym, ◌∙◌}
use Rattle.gx_tree.specs.Copies.{shown_held}
use Rattle.gx_tree.proofs.CopyLaws.{copy_fault_is, fault_none}
use Rattle.gx_tree.proofs.directory.Directory.held_for.Goals as goal

pub returns-in_default-clause-refused : goal.returns-in_default-clause-refused
returns-in_default-clause-refused g c = fault_none c.args.self.now.files c.args.source.now c.args.destination.now c.in_default.ensures.held

pub returns-in-Some-refusal-clause-refused : goal.returns-in-Some-refusal-clause-refused
returns-in-Some-refusal-clause-refused g c =
    copy_fault_is c.args.self.now.files c.args.source.now c.args.destination.now (shown_held c.in-Some.held) c.in-Some.ensures.held c.in-Some.ensures.kept ∙ sym c.in-Some-refusal.ensures.fault

pub returns-in-None-clause-fits : goal.returns-in-None-clause-fits
returns-in-None-clause-fits g c = sym c.in-None.ensures.fault
