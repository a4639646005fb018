use Rattle.std.proofs.Common.{sym, ◌∙◌}
use Rattle.gx_adapt.specs.Adapting.{holds_mark}
use Rattle.gx_adapt.specs.Marks.{is_blob_or_tag}
use Rattle.gx_adapt.proofs.SetMarks.{no_longer}
use Rattle.gx_adapt.proofs.marks.Marks.set.Goals as goal

pub returns-else-is_blob_or_tag-clause-sets : goal.returns-else-is_blob_or_tag-clause-sets
returns-else-is_blob_or_tag-clause-sets g c = λ number.
    no_longer c.args.line.now c.in-Some.number number (is_blob_or_tag c.args.self.now.command) (holds_mark c.args.self.now number) _ c.in-Some.ensures (sym c.is_blob_or_tag.ensures ∙ c.if-is_blob_or_tag.false) (c.remove.ensures.updates.0 number)
