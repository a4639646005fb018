use Rattle.std.proofs.Common.{◌≡◌, ◌+◌, ◌-◌, length, drop, refl, sym, ap, ◌∙◌, arith}
use Rattle.std.proofs.lemmas.Result.{err_from_is_err_and}
use Rattle.gx_model.specs.Stores.StoreReading.{stored_body, stored_line}
use Rattle.gx_text.specs.Lent.{lent_pair}
use Rattle.gx_plain.proofs.RoomsRead.{from_place}
use Rattle.gx_plain.proofs.Fronts.{refuses}
use Rattle.gx_plain.proofs.ToldParts.{ends_told, found_told, line_fits, no_body_told, no_heading_told, no_line_told, unknown_parts}
use Rattle.gx_plain.proofs.records.read_parts.Goals as goal

pub returns-then-left-le-BLOCK-clause-parts : goal.returns-then-left-le-BLOCK-clause-parts
returns-then-left-le-BLOCK-clause-parts g c = unknown_parts c.args.version (g.S.ReadAt.text c.args.source.now) c.args.at c.args.room.now.items _ (λ e. cc)

pub returns-in_err-read_front-clause-parts : goal.returns-in_err-read_front-clause-parts
returns-in_err-read_front-clause-parts g c =
    let p = err_from_is_err_and c.from_residual.result c.from_residual.ensures.1 in
    rw (p.1, p.2) (unknown_parts c.args.version (g.S.ReadAt.text c.args.source.now) c.args.at c.read_front.new.room.items c.in_err-read_front.field-0.0 c.in_err-read_front.ensures.fault)

pub returns-in_default-clause-parts : goal.returns-in_default-clause-parts
returns-in_default-clause-parts g c =
    let first = c.read_front.new.room.items in
    let line = ap stored_line (sym c.as_slice.ensures.value) ∙ refuses lent_pair c.read_line.result (stored_line c.as_slice.result.now) c.in_default.field-0 c.read_line.ensures.line c.read_line.ensures.memory c.in_default.is in
    no_line_told c.args.version (g.S.ReadAt.text c.args.source.now) c.args.at first 4096 (omega arith) c.in_ok-read_front.ensures.front first c.in_default.field-0 line

pub returns-in_default-heading_of-clause-parts : goal.returns-in_default-heading_of-clause-parts
returns-in_default-heading_of-clause-parts g c =
    let first = c.read_front.new.room.items in
    let l = lent_pair (c.in-Ok.line, c.in-Ok.behind) in
    let line = ap stored_line (sym c.as_slice.ensures.value) ∙ c.in-Ok.ensures.line in
    no_heading_told c.args.version (g.S.ReadAt.text c.args.source.now) c.args.at first 4096 (omega arith) c.in_ok-read_front.ensures.front l line first c.in_default-heading_of.ensures

pub overflow_sub-start : goal.overflow_sub-start
overflow_sub-start g c =
    let fits = line_fits c.read_front.new.room.items (lent_pair (c.in-Ok.line, c.in-Ok.behind)) (ap stored_line (sym c.as_slice.ensures.value) ∙ c.in-Ok.ensures.line) in
    grind arith

pub returns-then-heading-left-clause-parts : goal.returns-then-heading-left-clause-parts
returns-then-heading-left-clause-parts g c = unknown_parts c.args.version (g.S.ReadAt.text c.args.source.now) c.args.at c.read_front.new.room.items _ (λ e. cc)

pub read_behind-requires-clause-front : goal.read_behind-requires-clause-front
read_behind-requires-clause-front g c = (4096, c.in_ok-read_front.ensures.front)

pub returns-in_err-read_behind-clause-parts : goal.returns-in_err-read_behind-clause-parts
returns-in_err-read_behind-clause-parts g c =
    let first = c.read_front.new.room.items in
    let l = lent_pair (c.in-Ok.line, c.in-Ok.behind) in
    let line = ap stored_line (sym c.as_slice.ensures.value) ∙ c.in-Ok.ensures.line in
    let start = c.len.result - length c.in-Ok.behind.now in
    let heading = c.in-Some.heading in
    let starts : start ≡ length first - length l.1 = grind arith in
    let p = err_from_is_err_and c.from_residual-in_err-read_behind.result c.from_residual-in_err-read_behind.ensures.1 in
    rw (p.1, p.2) (ends_told c.args.version (g.S.ReadAt.text c.args.source.now) c.args.at first 4096 (omega arith) c.in_ok-read_front.ensures.front l line heading start (start + heading.length) c.in-Some.ensures starts refl c.read_behind.new.room.items c.in_err-read_behind.field-0.0 c.in_err-read_behind.ensures.fault)

pub returns-in_default-read_body-clause-parts : goal.returns-in_default-read_body-clause-parts
returns-in_default-read_body-clause-parts g c =
    let first = c.read_front.new.room.items in
    let l = lent_pair (c.in-Ok.line, c.in-Ok.behind) in
    let line = ap stored_line (sym c.as_slice.ensures.value) ∙ c.in-Ok.ensures.line in
    let start = c.len.result - length c.in-Ok.behind.now in
    let heading = c.in-Some.heading in
    let starts : start ≡ length first - length l.1 = grind arith in
    let room = c.read_behind.new.room.items in
    let front = c.in_ok-read_behind.ensures.front in
    let place = ap (stored_body heading.length) (ap (drop start) (sym c.as_slice-2.ensures.value) ∙ sym (from_place start c.as_slice-2.result.now)) in
    let none = refuses lent_pair c.read_body.result _ c.in_default-read_body.field-0 c.read_body.ensures.body c.read_body.ensures.memory c.in_default-read_body.is in
    no_body_told c.args.version (g.S.ReadAt.text c.args.source.now) c.args.at first 4096 (omega arith) c.in_ok-read_front.ensures.front l line heading start (start + heading.length) c.in-Some.ensures starts refl room front.0 front.1 c.in_ok-read_behind.ensures.behind c.in_default-read_body.field-0 (place ∙ none)

pub returns-clause-parts : goal.returns-clause-parts
returns-clause-parts g c =
    let first = c.read_front.new.room.items in
    let l = lent_pair (c.in-Ok.line, c.in-Ok.behind) in
    let line = ap stored_line (sym c.as_slice.ensures.value) ∙ c.in-Ok.ensures.line in
    let start = c.len.result - length c.in-Ok.behind.now in
    let heading = c.in-Some.heading in
    let starts : start ≡ length first - length l.1 = grind arith in
    let room = c.read_behind.new.room.items in
    let front = c.in_ok-read_behind.ensures.front in
    let place = ap (stored_body heading.length) (ap (drop start) (sym c.as_slice-2.ensures.value) ∙ sym (from_place start c.as_slice-2.result.now)) in
    found_told c.args.version (g.S.ReadAt.text c.args.source.now) c.args.at first 4096 (omega arith) c.in_ok-read_front.ensures.front l line heading start (start + heading.length) c.in-Some.ensures starts refl room front.0 front.1 c.in_ok-read_behind.ensures.behind
    (lent_pair (c.in-Ok-read_body._body, c.in-Ok-read_body._rest)) (place ∙ c.in-Ok-read_body.ensures.body)
