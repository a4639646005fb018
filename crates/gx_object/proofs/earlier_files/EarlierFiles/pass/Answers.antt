use Rattle.std.proofs.Common.{refl}
use Rattle.gx_object.specs.Entries.{shown}
use Rattle.gx_object.proofs.MetFiles.{after_kept}
use Rattle.gx_object.proofs.earlier_files.EarlierFiles.pass.Goals as goal

pub returns-clause-met : goal.returns-clause-met
returns-clause-met c = λ others.
    after_kept (shown c.args.first.now) (shown c.args.next.now) others c.args.self.now.above c.kept-self.result c.args.self.now.is_file c.requires.other c.requires.within c.kept-self.ensures.within (c.kept-self.ensures.met (shown c.args.next.now) refl others) c.kept-self.ensures.top
