use Rattle.std.proofs.Common.{◌∙◌, sym}
use Rattle.gx_stream.proofs.FirstItems.{first_comment, first_taken, rest_stands}
use Rattle.gx_stream.proofs.first.first_item.Goals as goal

pub returns-then-starts_with-clause-first : goal.returns-then-starts_with-clause-first
returns-then-starts_with-clause-first c = first_comment _ _ c.in-Some.ensures (sym c.starts_with.ensures.value ∙ c.if-starts_with.true)

pub returns-in-Line-clause-first : goal.returns-in-Line-clause-first
returns-in-Line-clause-first c = first_taken _ _ c.in-Some.ensures _ _ c.in-Line.ensures.begins.1

pub returns-in-Data-clause-first : goal.returns-in-Data-clause-first
returns-in-Data-clause-first c = first_taken _ _ c.in-Some.ensures _ _ c.in-Data.ensures.begins.1

pub returns-then-starts_with-clause-behind : goal.returns-then-starts_with-clause-behind
returns-then-starts_with-clause-behind c = rest_stands _ _ c.in-Some.ensures.within.2

pub returns-in-Line-clause-behind : goal.returns-in-Line-clause-behind
returns-in-Line-clause-behind c = rest_stands _ _ c.in-Line.ensures.begins.0.2

pub returns-in-Data-clause-behind : goal.returns-in-Data-clause-behind
returns-in-Data-clause-behind c = rest_stands _ _ c.in-Data.ensures.begins.0.2
