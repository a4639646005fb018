use Rattle.std.proofs.Common.{sym, length}
use Rattle.std.specs.Prelude.{nat_lt}
use Rattle.std.proofs.lemmas.Bool.{and_parts}
use Rattle.gx_object.specs.Order.{is_kept}
use Rattle.gx_object.specs.Entries.{shown}
use Rattle.gx_object.proofs.MetFiles.{after_added}
use Rattle.gx_object.proofs.earlier_files.EarlierFiles.meet.Goals as goal

pub returns-then-is_added-clause-met : goal.returns-then-is_added-clause-met
returns-then-is_added-clause-met c = λ others.
    let p = and_parts (nat_lt (length c.args.first.now.component.now) 4096) (is_kept (shown c.args.first.now) (shown c.args.next.now)) (sym c.if-is_added.ensures) in
    after_added (shown c.args.first.now) (shown c.args.next.now) others c.args.self.now.above c.args.self.now.is_file c.add.new.is_file p.0 p.1 c.requires.within c.add.ensures.below c.add.ensures.between c.add.ensures.added
