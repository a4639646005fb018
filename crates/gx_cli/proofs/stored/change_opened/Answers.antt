use Rattle.std.proofs.Common.{subst, sym}
use Rattle.gx_text.specs.Lent.{lent_texts}
use Rattle.gx_cli.specs.Dropping.{DropsFrom, shown_left}
use Rattle.gx_cli.specs.Serving.{ChangesOpened, EndsCollected}
use Rattle.gx_cli.proofs.DroppedStores.{text_left}
use Rattle.gx_cli.proofs.stored.change_opened.Goals as goal

pub returns-in-Drop : goal.returns-in-Drop
returns-in-Drop g c =
    let name = g.N.Namer.name_of c.args.repo.0 in
    let coming = g.R.Source.coming c.args.source in
    let answer = shown_left c.drop_named.result in
    let dropped = subst (λ words. DropsFrom name c.in-Drop.stdin c.args.repo.1 (lent_texts words) coming answer) c.as_slice.ensures.value c.drop_named.ensures.dropped in
    let text = text_left g.N.Namer.name_of c.args.repo.0 c.drop_named.result c.left_text.result c.drop_named.ensures.namer c.left_text.ensures in
    subst (λ l. ChangesOpened name l c.args.repo.1 coming c.left_text.result) (sym c.in-Drop.is) (answer, dropped, text)

pub returns-in-SetRef : goal.returns-in-SetRef
returns-in-SetRef g c =
    let name = g.N.Namer.name_of c.args.repo.0 in
    let coming = g.R.Source.coming c.args.source in
    let text = text_left g.N.Namer.name_of c.args.repo.0 c.set_told.result c.left_text-in-SetRef.result c.set_told.ensures.namer c.left_text-in-SetRef.ensures in
    subst (λ l. ChangesOpened name l c.args.repo.1 coming c.left_text-in-SetRef.result) (sym c.in-SetRef.is) (shown_left c.set_told.result, c.set_told.ensures.set, text)

pub returns-in-Gc : goal.returns-in-Gc
returns-in-Gc g c =
    let name = g.N.Namer.name_of c.args.repo.0 in
    let collected = subst (λ keeps. EndsCollected name keeps c.args.repo.1 c.collect.result) c.is_some.ensures c.collect.ensures in
    subst (λ l. ChangesOpened name l c.args.repo.1 (g.R.Source.coming c.args.source) c.collect.result) (sym c.in-Gc.is) collected
