use Rattle.std.proofs.Common.{ap, arith, codes, length}
use Rattle.std.proofs.lemmas.Result.{IfOk-weaker}
use Rattle.gx_growing.specs.GrowingText.{table_length}
use Rattle.gx_file.proofs.LeftTexts.{left_after, left_body, left_count}
use Rattle.gx_growing_segments.proofs.Ends.{body_less, count_less, ends_long, ends_more}
use Rattle.gx_growing_segments.proofs.segments.read_segment.Goals as goal

pub read_records-requires-clause-left : goal.read_records-requires-clause-left
read_records-requires-clause-left g c =
    left_count c.args.whole.now (codes "objects") c.args.text.now c.in_ok-objects.objects c.in_ok-objects.rest.now c.requires.left c.in_ok-objects.ensures.count

pub returns-clause-within : goal.returns-clause-within
returns-clause-within g c =
    let k = c.args.whole.now in
    let counted = left_count k (codes "rows") c.in_ok-rest.rest.now c.in_ok-rows.rows c.in_ok-rows.rest.now c.in_ok-rest.ensures.left c.in_ok-rows.ensures.count in
    let table = left_body k (table_length c.in_ok-rows.rows) c.in_ok-rows.rest.now c.in_ok-_table._table.now c.in_ok-_table.rest.now counted c.in_ok-_table.ensures.table in
    let short = ends_long k c.in_ok-_table.rest.now (left_after k c.in_ok-_table._table.now c.in_ok-_table.rest.now table) in
    IfOk-weaker c.read_tail.result _ _ (λ parts e. let same = ap length e in omega (arith, same, short)) c.read_tail.ensures.text

pub returns-clause-left : goal.returns-clause-left
returns-clause-left g c =
    let k = c.args.whole.now in
    let counted = left_count k (codes "rows") c.in_ok-rest.rest.now c.in_ok-rows.rows c.in_ok-rows.rest.now c.in_ok-rest.ensures.left c.in_ok-rows.ensures.count in
    let table = left_body k (table_length c.in_ok-rows.rows) c.in_ok-rows.rest.now c.in_ok-_table._table.now c.in_ok-_table.rest.now counted c.in_ok-_table.ensures.table in
    let left = left_after k c.in_ok-_table._table.now c.in_ok-_table.rest.now table in
    IfOk-weaker c.read_tail.result _ _ (λ parts h. ends_more k c.in_ok-_table.rest.now parts.1.now left h) c.read_tail.ensures.behind

pub returns-clause-less : goal.returns-clause-less
returns-clause-less g c =
    let a = count_less (codes "objects") c.args.text.now c.in_ok-objects.objects c.in_ok-objects.rest.now c.in_ok-objects.ensures.count in
    let b = c.in_ok-rest.ensures.shorter in
    let d = count_less (codes "rows") c.in_ok-rest.rest.now c.in_ok-rows.rows c.in_ok-rows.rest.now c.in_ok-rows.ensures.count in
    let f = body_less (table_length c.in_ok-rows.rows) c.in_ok-rows.rest.now c.in_ok-_table._table.now c.in_ok-_table.rest.now c.in_ok-_table.ensures.table in
    IfOk-weaker c.read_tail.result _ _ (λ parts h. let e = ends_long c.in_ok-_table.rest.now parts.1.now h in omega (arith, a, b, d, f, e)) c.read_tail.ensures.behind
