use Rattle.std.proofs.Common.{◌≡◌, ◌∙◌, ap, length, subst}
use Rattle.gx_model.specs.Texts.Sinks.{FailedWithin, Took}
use Rattle.gx_versions.specs.Versions.{counts_text, version_of}
use Rattle.gx_versions.proofs.verifying.verify_store.Goals as goal

pub returns-in-Ok-send_counts : goal.returns-in-Ok-send_counts
returns-in-Ok-send_counts g c =
    let items = c.args.store.items in
    let r = c.in-Ok.repo.1 in
    let was = g.W.Sink.taken c.args.sink.now in
    let now = g.W.Sink.taken c.send_counts.new.sink in
    let version : c.version_of-version.result ≡ version_of items = c.version_of-version.ensures ∙ ap version_of c.as_slice-text.ensures.value in
    let bytes : length c.as_slice-text.result.now ≡ length items = ap length c.as_slice-text.ensures.value in
    let took = subst (λ v. Took was now (counts_text v (length c.as_slice-text.result.now) r)) version c.in-Ok-send_counts.ensures in
    (r, c.in-Ok.ensures.store, subst (λ n. Took was now (counts_text (version_of items) n r)) bytes took)

pub returns-in-Ok : goal.returns-in-Ok
returns-in-Ok g c =
    let items = c.args.store.items in
    let r = c.in-Ok.repo.1 in
    let was = g.W.Sink.taken c.args.sink.now in
    let now = g.W.Sink.taken c.send_counts.new.sink in
    let version : c.version_of-version.result ≡ version_of items = c.version_of-version.ensures ∙ ap version_of c.as_slice-text.ensures.value in
    let bytes : length c.as_slice-text.result.now ≡ length items = ap length c.as_slice-text.ensures.value in
    let failed = subst (λ v. FailedWithin was now (counts_text v (length c.as_slice-text.result.now) r)) version c.in-Err-send_counts.ensures in
    (r, c.in-Ok.ensures.store, subst (λ n. FailedWithin was now (counts_text (version_of items) n r)) bytes failed)
