use Rattle.std.proofs.Common.{rules}
use Rattle.gx_stream.proofs.reader.ItemReader.new.Goals as goal

pub returns-clause-stream : goal.returns-clause-stream
returns-clause-stream g c = search rules

pub returns-clause-most : goal.returns-clause-most
returns-clause-most g c = search rules

pub returns-clause-explains : goal.returns-clause-explains
returns-clause-explains g c = λ items m. m
