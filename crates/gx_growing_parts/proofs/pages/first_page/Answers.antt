use Rattle.std.proofs.Common.{sym}
use Rattle.std.proofs.lemmas.List.{drop_all, take_all}
use Rattle.gx_growing_parts.proofs.pages.first_page.Goals as goal

pub returns-then-rows-le-PAGE-clause-page : goal.returns-then-rows-le-PAGE-clause-page
returns-then-rows-le-PAGE-clause-page c = sym (take_all 16380 c.args.rows.now c.if-rows-le-PAGE.true)

pub returns-then-rows-le-PAGE-clause-behind : goal.returns-then-rows-le-PAGE-clause-behind
returns-then-rows-le-PAGE-clause-behind c = sym (drop_all 16380 c.args.rows.now c.if-rows-le-PAGE.true)
