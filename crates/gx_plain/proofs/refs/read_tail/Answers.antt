use Rattle.std.proofs.Common.{◌≡◌, ◌-◌, Some, codes, length, drop, sym, ap, ◌∙◌, subst, rules, arith}
use Rattle.std.proofs.lemmas.Result.{err_from_is_err_and}
use Rattle.gx_model.specs.Stores.StoreReading.{stored_count}
use Rattle.gx_model.specs.Texts.{Bytes}
use Rattle.gx_lines.specs.Reads.{shown_count}
use Rattle.gx_look.specs.Tails.{SpellsLines}
use Rattle.gx_plain.proofs.Fronts.{refuses, rest_is}
use Rattle.gx_plain.proofs.ToldTails.{lines_last, no_count_told, not_passed_told, tail_told, targets_told, unknown_tail}
use Rattle.gx_plain.proofs.refs.read_tail.Goals as goal

pub returns-in_err-read_front-clause-tail : goal.returns-in_err-read_front-clause-tail
returns-in_err-read_front-clause-tail g c =
    let p = err_from_is_err_and c.from_residual.result c.from_residual.ensures.1 in
    rw (p.1, p.2) (unknown_tail _ (g.N.Namer.name_of c.args.namer.now) (g.met.N.Namer.is_namer c.args.namer.now) c.args.version c.args.listing.now c.args.place c.read_front.new.room.items (g.S.ReadAt.text c.args.source.now) c.in_err-read_front.field-0.0 c.in_err-read_front.ensures.fault)

pub returns-then-len-left-clause-tail : goal.returns-then-len-left-clause-tail
returns-then-len-left-clause-tail g c =
    unknown_tail _ (g.N.Namer.name_of c.args.namer.now) (g.met.N.Namer.is_namer c.args.namer.now) c.args.version c.args.listing.now c.args.place c.read_front.new.room.items (g.S.ReadAt.text c.args.source.now) _ (λ e. cc)

pub returns-in_default-clause-tail : goal.returns-in_default-clause-tail
returns-in_default-clause-tail g c =
    let told = g.S.ReadAt.text c.args.source.now in
    let room = c.read_front.new.room.items in
    let within = c.in_ok-read_front.ensures.within in
    let long : c.len.result ≡ length room = search rules in
    let rest : (text : Bytes) → told ≡ Some text → room ≡ drop c.args.place text = rest_is told c.args.place (18446744073709551615 - c.args.place) room c.in_ok-read_front.ensures.front (grind (arith, within, long, c.if-len-left.false)) in
    let none = ap (stored_count (codes "refs")) (sym c.as_slice.ensures.value) ∙ refuses shown_count c.read_count.result (stored_count (codes "refs") c.as_slice.result.now) c.in_default.field-0 c.read_count.ensures.count c.read_count.ensures.memory c.in_default.is in
    no_count_told _ (g.N.Namer.name_of c.args.namer.now) (g.met.N.Namer.is_namer c.args.namer.now) c.args.version c.args.listing.now c.args.place room told rest c.in_default.field-0 none

pub returns-then-not-are_refs-clause-tail : goal.returns-then-not-are_refs-clause-tail
returns-then-not-are_refs-clause-tail g c =
    let told = g.S.ReadAt.text c.args.source.now in
    let room = c.read_front.new.room.items in
    let within = c.in_ok-read_front.ensures.within in
    let long : c.len.result ≡ length room = search rules in
    let rest : (text : Bytes) → told ≡ Some text → room ≡ drop c.args.place text = rest_is told c.args.place (18446744073709551615 - c.args.place) room c.in_ok-read_front.ensures.front (grind (arith, within, long, c.if-len-left.false)) in
    let counted = ap (stored_count (codes "refs")) (sym c.as_slice.ensures.value) ∙ c.in-Ok.ensures.count in
    not_passed_told _ (g.N.Namer.name_of c.args.namer.now) (g.met.N.Namer.is_namer c.args.namer.now) c.args.version c.args.listing.now c.args.place room c.in-Ok.count c.in-Ok.lines.now counted told rest
    (λ refs e named many. sym c.if-not-are_refs.true ∙ c.are_refs.ensures.all refs e named many)

pub overflow_sub-refs : goal.overflow_sub-refs
overflow_sub-refs g c =
    let room = c.read_front.new.room.items in
    let last = lines_last room c.in-Ok.count c.in-Ok.lines.now (ap (stored_count (codes "refs")) (sym c.as_slice.ensures.value) ∙ c.in-Ok.ensures.count) in
    let size : c.len-2.result ≡ length room = search rules in
    omega (arith, size, last.0)

pub returns-in_err-test_targets-clause-tail : goal.returns-in_err-test_targets-clause-tail
returns-in_err-test_targets-clause-tail g c =
    let told = g.S.ReadAt.text c.args.source.now in
    let room = c.read_front.new.room.items in
    let within = c.in_ok-read_front.ensures.within in
    let long : c.len.result ≡ length room = search rules in
    let rest : (text : Bytes) → told ≡ Some text → room ≡ drop c.args.place text = rest_is told c.args.place (18446744073709551615 - c.args.place) room c.in_ok-read_front.ensures.front (grind (arith, within, long, c.if-len-left.false)) in
    let counted = ap (stored_count (codes "refs")) (sym c.as_slice.ensures.value) ∙ c.in-Ok.ensures.count in
    let p = err_from_is_err_and c.from_residual-in_err-test_targets.result c.from_residual-in_err-test_targets.ensures.1 in
    rw (p.1, p.2) (targets_told _ (g.N.Namer.name_of c.args.namer.now) (g.met.N.Namer.is_namer c.args.namer.now) c.args.version c.args.listing.now c.args.place room c.in-Ok.count c.in-Ok.lines.now counted told rest c.in_err-test_targets.field-0.0 c.in_err-test_targets.ensures)

pub returns-clause-lines : goal.returns-clause-lines
returns-clause-lines g c =
    let room = c.read_front.new.room.items in
    let last = lines_last room c.in-Ok.count c.in-Ok.lines.now (ap (stored_count (codes "refs")) (sym c.as_slice.ensures.value) ∙ c.in-Ok.ensures.count) in
    let size : c.len-2.result ≡ length room = search rules in
    record {
      within = omega (arith, size);
      lines = subst SpellsLines (sym (ap (λ n. drop (n - length c.in-Ok.lines.now) room) size ∙ last.1)) (c.are_refs.ensures.spelled c.if-not-are_refs.false);
    }

pub returns-clause-tail : goal.returns-clause-tail
returns-clause-tail g c =
    let told = g.S.ReadAt.text c.args.source.now in
    let room = c.read_front.new.room.items in
    let within = c.in_ok-read_front.ensures.within in
    let long : c.len.result ≡ length room = search rules in
    let rest : (text : Bytes) → told ≡ Some text → room ≡ drop c.args.place text = rest_is told c.args.place (18446744073709551615 - c.args.place) room c.in_ok-read_front.ensures.front (grind (arith, within, long, c.if-len-left.false)) in
    let counted = ap (stored_count (codes "refs")) (sym c.as_slice.ensures.value) ∙ c.in-Ok.ensures.count in
    let last = lines_last room c.in-Ok.count c.in-Ok.lines.now counted in
    let size : c.len-2.result ≡ length room = search rules in
    tail_told _ (g.N.Namer.name_of c.args.namer.now) (g.met.N.Namer.is_namer c.args.namer.now) c.args.version c.args.listing.now c.args.place room c.in-Ok.count c.in-Ok.lines.now counted told rest c.in_ok-test_targets.ensures _ (ap (λ n. drop (n - length c.in-Ok.lines.now) room) size ∙ last.1)
