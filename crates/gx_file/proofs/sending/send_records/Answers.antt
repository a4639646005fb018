use Rattle.std.proofs.Common.{◌++◌, ◌+◌, ◌<◌, ◌^◌, List, codes, drop, length, ap, arith, subst}
use Rattle.std.specs.List.{flat_map}
use Rattle.gx_model.specs.Texts.Numbers.{number_text}
use Rattle.std.proofs.lemmas.Result.{err_from_is_err_and}
use Rattle.gx_model.specs.declared.store_versions.Version.TheVariants.{Two}
use Rattle.gx_model.specs.Histories.{Record}
use Rattle.gx_model.specs.Objects.{line}
use Rattle.gx_model.specs.Stores.StoreText.{stored_record}
use Rattle.gx_file.specs.Sending.{HaveLengths}
use Rattle.gx_model.specs.Texts.Sinks.{FailedWithin, Took}
use Rattle.gx_model.proofs.Texts.SentTexts.{all_left, left_fails, less_left}
use Rattle.gx_file.proofs.SentTexts.{all_from, all_of, from_place, is_within, next_left, took_all}
use Rattle.gx_file.proofs.sending.send_records.Goals as goal

pub returns-in_err-send_count-clause-text : goal.returns-in_err-send_count-clause-text
returns-in_err-send_count-clause-text g c =
    let p = err_from_is_err_and c.from_residual.result c.from_residual.ensures.1 in
    let texts = λ (rs : List Record). line (codes "objects") (number_text (length rs)) ++ flat_map (stored_record Two) rs in
    let rs = c.store-store.result.now.1 in
    let was = g.W.Sink.taken c.args.sink.now in
    let now = g.W.Sink.taken c.send_count.new.sink in
    let counted = subst (λ n. FailedWithin was now (line (codes "objects") (number_text n))) c.len-count.ensures.count c.in_err-send_count.ensures in
    let fails = left_fails (texts rs) was was now (line (codes "objects") (number_text (length rs))) (flat_map (stored_record Two) rs) (all_left (texts rs) was) counted in
    rw p.1 (subst (λ rs. FailedWithin was now (texts rs)) (ap (λ s. s.1) c.store-store.ensures.held) fails)

pub unreachable-requires : goal.unreachable-requires
unreachable-requires g c = is_within c.store-store.result.now.1 c.loop-place.place c.in_default.ensures (rw c.len-count.ensures.count at c.loop-place-test.true)

pub returns-in_err-send_record-clause-text : goal.returns-in_err-send_record-clause-text
returns-in_err-send_record-clause-text g c =
    let p = err_from_is_err_and c.from_residual-in_err-send_record.result c.from_residual-in_err-send_record.ensures.1 in
    let texts = λ (rs : List Record). line (codes "objects") (number_text (length rs)) ++ flat_map (stored_record Two) rs in
    let rs = c.store-store.result.now.1 in
    let place = c.loop-place.place in
    let r : Record = record { name = c.in-Some.name.bytes; kind = c.in-Some.kind; body = c.in-Some.body.now } in
    let was = g.W.Sink.taken c.args.sink.now in
    let mid = g.W.Sink.taken c.loop-place.sink in
    let now = g.W.Sink.taken c.send_record.new.sink in
    let left = next_left (stored_record Two) (texts rs) was mid rs place r (from_place rs place r c.in-Some.ensures) c.loop-place.invariant.0 in
    let fails = left_fails (texts rs) was mid now (stored_record Two r) (flat_map (stored_record Two) (drop (place + 1) rs)) left c.in_err-send_record.ensures.text in
    rw p.1 (subst (λ rs. FailedWithin was now (texts rs)) (ap (λ s. s.1) c.store-store.ensures.held) fails)

pub loop-place-preserved : goal.loop-place-preserved
loop-place-preserved g c =
    let texts = λ (rs : List Record). line (codes "objects") (number_text (length rs)) ++ flat_map (stored_record Two) rs in
    let rs = c.store-store.result.now.1 in
    let place = c.loop-place.place in
    let r : Record = record { name = c.in-Some.name.bytes; kind = c.in-Some.kind; body = c.in-Some.body.now } in
    let here = from_place rs place r c.in-Some.ensures in
    let was = g.W.Sink.taken c.args.sink.now in
    let mid = g.W.Sink.taken c.loop-place.sink in
    let now = g.W.Sink.taken c.send_record.new.sink in
    let left = next_left (stored_record Two) (texts rs) was mid rs place r here c.loop-place.invariant.0 in (
      less_left (texts rs) was mid now (stored_record Two r) (flat_map (stored_record Two) (drop (place + 1) rs)) left c.in_ok-send_record.ensures.text,
      all_from (λ x. length x.body < 2 ^ 64) rs place r here c.in_ok-send_record.ensures.length c.loop-place.invariant.1,
    )

pub loop-place-init : goal.loop-place-init
loop-place-init g c =
    let texts = λ (rs : List Record). line (codes "objects") (number_text (length rs)) ++ flat_map (stored_record Two) rs in
    let rs = c.store-store.result.now.1 in
    let was = g.W.Sink.taken c.args.sink.now in
    let now = g.W.Sink.taken c.send_count.new.sink in
    let counted = subst (λ n. Took was now (line (codes "objects") (number_text n))) c.len-count.ensures.count c.in_ok-send_count.ensures in
    (less_left (texts rs) was was now (line (codes "objects") (number_text (length rs))) (flat_map (stored_record Two) rs) (all_left (texts rs) was) counted, λ lengths. lengths)

pub returns-clause-text : goal.returns-clause-text
returns-clause-text g c =
    let texts = λ (rs : List Record). line (codes "objects") (number_text (length rs)) ++ flat_map (stored_record Two) rs in
    let rs = c.store-store.result.now.1 in
    let was = g.W.Sink.taken c.args.sink.now in
    let now = g.W.Sink.taken c.loop-place.sink in
    let took = took_all (stored_record Two) (texts rs) was now rs c.loop-place.place (rw c.len-count.ensures.count at c.loop-place-test.false) c.loop-place.invariant.0 in
    subst (λ rs. Took was now (texts rs)) (ap (λ s. s.1) c.store-store.ensures.held) took

pub returns-clause-lengths : goal.returns-clause-lengths
returns-clause-lengths g c =
    let all = all_of (λ x. length x.body < 2 ^ 64) c.store-store.result.now.1 c.loop-place.place (rw c.len-count.ensures.count at c.loop-place-test.false) c.loop-place.invariant.1 in
    subst HaveLengths (ap (λ s. s.1) c.store-store.ensures.held) all

pub returns-clause-count : goal.returns-clause-count
returns-clause-count g c =
    let few : length c.store-store.result.now.1 < 2 ^ 64 = omega (arith, c.len-count.ensures.count) in
    subst (λ rs. length rs < 2 ^ 64) (ap (λ s. s.1) c.store-store.ensures.held) few

pub returns-in_err-send_count-clause-count : goal.returns-in_err-send_count-clause-count
returns-in_err-send_count-clause-count g c =
    let few : length c.store-store.result.now.1 < 2 ^ 64 = omega (arith, c.len-count.ensures.count) in
    subst (λ rs. length rs < 2 ^ 64) (ap (λ s. s.1) c.store-store.ensures.held) few

pub returns-in_err-send_record-clause-count : goal.returns-in_err-send_record-clause-count
returns-in_err-send_record-clause-count g c =
    let few : length c.store-store.result.now.1 < 2 ^ 64 = omega (arith, c.len-count.ensures.count) in
    subst (λ rs. length rs < 2 ^ 64) (ap (λ s. s.1) c.store-store.ensures.held) few
