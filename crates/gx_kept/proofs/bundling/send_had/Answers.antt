use Rattle.std.proofs.Common.{◌+◌, List, ◌∷◌, ◌++◌, [], ap, drop, get_or, subst, sym, ◌∙◌, arith}
use Rattle.std.specs.Prelude.{IsTrue}
use Rattle.std.specs.List.{flat_map}
use Rattle.std.proofs.lemmas.List.{drop_all, drop_more}
use Rattle.std.proofs.lemmas.Result.{err_from_is_err_and}
use Rattle.gx_model.specs.Objects.{is_name}
use Rattle.gx_model.specs.Texts.Sinks.{FailedWithin, Took}
use Rattle.gx_model.proofs.Texts.SentTexts.{IsLeft, all_left, left_fails, less_left, none_left}
use Rattle.gx_file.proofs.SentTexts.{all_from, all_of}
use Rattle.gx_object.specs.Commits.{bytes_of_names}
use Rattle.gx_object.specs.declared.name.Name.{Name}
use Rattle.gx_pack.specs.Bundles.{had_line}
use Rattle.gx_kept.proofs.bundling.send_had.Goals as goal

pub loop-name-init : goal.loop-name-init
loop-name-init g c = (all_left (flat_map had_line (bytes_of_names c.args.had.now)) (g.W.Sink.taken c.args.sink.now), λ all. all)

pub returns-in_err-send_all-clause-text : goal.returns-in_err-send_all-clause-text
returns-in_err-send_all-clause-text g c =
    let p = err_from_is_err_and c.from_residual.result c.from_residual.ensures.1 in
    let had = c.args.had.now in
    let i = c.loop-name.name-index in
    let whole = flat_map had_line (bytes_of_names had) in
    let was = g.W.Sink.taken c.args.sink.now in
    let mid = g.W.Sink.taken c.loop-name.sink in
    let now = g.W.Sink.taken c.send_all.new.sink in
    let name = get_or had i _ in
    let next = drop_more had i _ c.loop-name-test.true in
    let left = subst (λ (ns : List Name). IsLeft whole was mid (flat_map had_line (bytes_of_names ns))) next c.loop-name.invariant.0 in
    let digits = c.as_slice.ensures ∙ c.hex-digits.ensures.digits in
    rw p.1 (left_fails whole was mid now (had_line name.bytes) (flat_map had_line (bytes_of_names (drop (i + 1) had))) left (subst (λ d. FailedWithin mid now ((45 ∷ d) ++ 32 ∷ 10 ∷ [])) digits c.in_err-send_all.ensures))

pub loop-name-preserved : goal.loop-name-preserved
loop-name-preserved g c =
    let had = c.args.had.now in
    let i = c.loop-name.name-index in
    let whole = flat_map had_line (bytes_of_names had) in
    let was = g.W.Sink.taken c.args.sink.now in
    let mid = g.W.Sink.taken c.loop-name.sink in
    let now = g.W.Sink.taken c.send_all.new.sink in
    let name = get_or had i _ in
    let next = drop_more had i _ c.loop-name-test.true in
    let left = subst (λ (ns : List Name). IsLeft whole was mid (flat_map had_line (bytes_of_names ns))) next c.loop-name.invariant.0 in
    let digits = c.as_slice.ensures ∙ c.hex-digits.ensures.digits in (
      less_left whole was mid now (had_line name.bytes) (flat_map had_line (bytes_of_names (drop (i + 1) had))) left (subst (λ d. Took mid now ((45 ∷ d) ++ 32 ∷ 10 ∷ [])) digits c.in_ok-send_all.ensures),
      all_from (λ (called : Name). IsTrue (is_name called.bytes)) had i name next c.hex-digits.ensures.bytes c.loop-name.invariant.1,
    )

pub returns-clause-text : goal.returns-clause-text
returns-clause-text g c =
    let had = c.args.had.now in
    none_left (flat_map had_line (bytes_of_names had)) (g.W.Sink.taken c.args.sink.now) (g.W.Sink.taken c.loop-name.sink) _ (ap (λ (ns : List Name). flat_map had_line (bytes_of_names ns)) (drop_all c.loop-name.name-index had (omega (arith, c.loop-name-test.false)))) c.loop-name.invariant.0

pub returns-clause-names : goal.returns-clause-names
returns-clause-names g c = all_of (λ (called : Name). IsTrue (is_name called.bytes)) c.args.had.now c.loop-name.name-index (omega (arith, c.loop-name-test.false)) c.loop-name.invariant.1
