use Rattle.std.specs.Bool.{passes}
use Rattle.gx_model.proofs.Texts.PathTests.{is_true}
use Rattle.gx_model.proofs.ObjectTexts.CanonicalTrees.{canonical_entries}
use Rattle.gx_model.proofs.object_laws.trees_are_canonical.Goals as goal

pub returns : goal.returns
returns c = λ name namer f h. is_true _ (canonical_entries name namer f (passes _ h))
