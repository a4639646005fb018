use Rattle.std.proofs.Common.{◌∙◌, ◌++◌, ap, arith, drop, length, sym, take}
use Rattle.std.proofs.lemmas.List.{take-append-drop}
use Rattle.std.proofs.lemmas.Result.{err_from_is_err_and}
use Rattle.sha2.specs.Sha256.{sha256}
use Rattle.gx_growing.specs.GrowingReading.{has_rows}
use Rattle.gx_growing_parts.specs.Shown.{shown_slot}
use Rattle.gx_growing_segments.specs.Seen.{seen_with}
use Rattle.gx_growing_file.proofs.Whole.{left_refused, no_head, refs_set, rows_right, rows_wrong, tail_elsewhere}
use Rattle.gx_growing_file.proofs.reading.read_into.Goals as goal

pub returns-then-bytes-lt-HEAD-clause-store : goal.returns-then-bytes-lt-HEAD-clause-store
returns-then-bytes-lt-HEAD-clause-store g c =
    no_head (g.N.Namer.name_of c.args.repo.now.0) sha256 (shown_slot c.args.slot.now) c.args.whole.now (drop 226 c.args.whole.now) c.requires.ends (omega (arith, c.if-bytes-lt-HEAD.true, ap length c.as_slice-bytes.ensures))

pub read_segments-requires-clause-left : goal.read_segments-requires-clause-left
read_segments-requires-clause-left g c =
    let whole = c.args.whole.now in
    let rest = c.split_at.ensures.back ∙ ap (drop 226) c.as_slice-bytes.ensures in
    (take 226 whole, sym (take-append-drop 226 whole) ∙ ap (λ t. take 226 whole ++ t) (sym rest))

pub returns-in_err-tail-clause-store : goal.returns-in_err-tail-clause-store
returns-in_err-tail-clause-store g c =
    let p = err_from_is_err_and c.from_residual.result c.from_residual.ensures.1 in
    let rest = c.split_at.ensures.back ∙ ap (drop 226) c.as_slice-bytes.ensures in
    rw (p.1, p.2) (left_refused (g.N.Namer.name_of c.args.repo.now.0) sha256 (shown_slot c.args.slot.now) c.args.whole.now c.split_at.result.1.now c.requires.ends rest c.in_err-tail.field-0.0 c.in_err-tail.ensures.segments)

pub returns-then-bytes-tail-clause-store : goal.returns-then-bytes-tail-clause-store
returns-then-bytes-tail-clause-store g c =
    let rest = c.split_at.ensures.back ∙ ap (drop 226) c.as_slice-bytes.ensures in
    let whole = ap length c.as_slice-bytes.ensures in
    tail_elsewhere (g.N.Namer.name_of c.args.repo.now.0) sha256 (shown_slot c.args.slot.now) c.args.whole.now c.split_at.result.1.now c.requires.ends rest
    (seen_with c.read_segments.new.repo.1.records c.read_segments.new.places.items c.in_ok-tail.tail) c.in_ok-tail.ensures.segments (λ e. omega (arith, c.if-bytes-tail.true, whole, e))

pub returns-then-not-branch-clause-store : goal.returns-then-not-branch-clause-store
returns-then-not-branch-clause-store g c =
    let slot = shown_slot c.args.slot.now in
    let records = c.read_segments.new.repo.1.records in
    let rest = c.split_at.ensures.back ∙ ap (drop 226) c.as_slice-bytes.ensures in
    let whole = ap length c.as_slice-bytes.ensures in
    let told = c.in_ok-has_rows.ensures.rows ∙ (λ i. has_rows sha256 (c.as_slice-bytes.ensures i) slot (seen_with records (c.as_slice.ensures.value i) c.in_ok-tail.tail)) in
    rows_wrong (g.N.Namer.name_of c.args.repo.now.0) sha256 slot c.args.whole.now c.split_at.result.1.now c.requires.ends rest
    (seen_with records c.read_segments.new.places.items c.in_ok-tail.tail) c.in_ok-tail.ensures.segments (omega (arith, c.if-bytes-tail.false, whole)) c.in_ok-has_rows.field-0 told c.if-not-branch.true

pub returns-clause-store : goal.returns-clause-store
returns-clause-store g c =
    let slot = shown_slot c.args.slot.now in
    let records = c.read_segments.new.repo.1.records in
    let rest = c.split_at.ensures.back ∙ ap (drop 226) c.as_slice-bytes.ensures in
    let whole = ap length c.as_slice-bytes.ensures in
    let told = c.in_ok-has_rows.ensures.rows ∙ (λ i. has_rows sha256 (c.as_slice-bytes.ensures i) slot (seen_with records (c.as_slice.ensures.value i) c.in_ok-tail.tail)) in
    let refs = refs_set records c.in_ok-tail.tail c.in_ok-tail.ensures.told c.read_refs.new.repo.1.refs c.in_ok-_rest._rest.now c.in_ok-_rest.ensures.refs in
    rows_right (g.N.Namer.name_of c.args.repo.now.0) sha256 slot c.args.whole.now c.split_at.result.1.now c.requires.ends rest
    (seen_with records c.read_segments.new.places.items c.in_ok-tail.tail) c.in_ok-tail.ensures.segments (omega (arith, c.if-bytes-tail.false, whole)) c.in_ok-has_rows.field-0 told c.if-not-branch.false
    c.read_refs.new.repo.1 c.read_refs.ensures.records refs
