use Rattle.std.proofs.Common.{◌<◌, ◌^◌, [], length, arith, sym}
use Rattle.gx_file.proofs.StoreTexts.{refused, text_of_read}
use Rattle.gx_file.proofs.reading.read_text.Goals as goal

pub returns-clause-text : goal.returns-clause-text
returns-clause-text g c =
    let name = g.N.Namer.name_of c.args.namer in
    let law = c.stores_are_read.ensures name (g.met.N.Namer.is_namer c.args.namer) in
    text_of_read name law c.args.text (λ repo. repo.1) c.read_store.result (rw c.as_slice.ensures at c.read_store.ensures.store)

pub returns-clause-store : goal.returns-clause-store
returns-clause-store g c = rw c.as_slice.ensures at c.read_store.ensures.store

pub returns-clause-refused : goal.returns-clause-refused
returns-clause-refused g c =
    let name = g.N.Namer.name_of c.args.namer in
    let law = c.stores_are_read.ensures name (g.met.N.Namer.is_namer c.args.namer) in
    let short : length c.as_slice.result.now < 2 ^ 64 = omega arith in
    refused name law c.args.text (λ repo. repo.1) c.read_store.result (rw c.as_slice.ensures at short) (rw c.as_slice.ensures at c.read_store.ensures.store)

pub read_store-requires : goal.read_store-requires
read_store-requires g c = record { left = ([], sym c.as_slice.ensures) }

pub returns-clause-memory : goal.returns-clause-memory
returns-clause-memory g c = rw c.as_slice.ensures at c.read_store.ensures.memory
