use Rattle.std.proofs.Common.{sym, ap}
use Rattle.gx_model.specs.Objects.Naming.{kind_word}
use Rattle.gx_model.proofs.objects.Kind.word.Goals as goal

pub returns-in-Tag : goal.returns-in-Tag
returns-in-Tag c = ap kind_word (sym c.in-Tag.is)
