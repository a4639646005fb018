use Rattle.std.proofs.Common.{◌≡◌, ◌∙◌, ◌<◌, ◌^◌, Bool, List, length, sym, ap, subst, refl, arith}
use Rattle.std.specs.Prelude.{IfSome, ⊤, Err}
use Rattle.std.specs.List.{filter}
use Rattle.std.proofs.lemmas.Result.{err_from_is_err_and}
use Rattle.gx_kept.specs.Faults.{of_look}
use Rattle.gx_kept.specs.Telling.{OfRefs, SendsBundled}
use Rattle.gx_kept.specs.declared.bundle_fault.BundleFault.TheVariants.{Stopped, Unsupported}
use Rattle.gx_kept.proofs.SentBundles.{AreMarks, bundle_read, bundle_stops, bundle_went, too_many}
use Rattle.gx_kept.proofs.Stopping.{look_stops, look_told, of_told}
use Rattle.gx_kept.proofs.Weights.{marked_long}
use Rattle.gx_kept.proofs.bundling.bundle.Goals as goal

pub returns-in_err-marks-clause-text : goal.returns-in_err-marks-clause-text
returns-in_err-marks-clause-text g c =
    let p = err_from_is_err_and c.from_residual.result c.from_residual.ensures.1 in
    let was = g.W.Sink.taken c.args.sink.now in
    let fault = c.in_err-marks.field-0.0 in
    rw (p.1, p.2) (of_told (g.O.Objects.told c.args.objects.now) (SendsBundled c.args.bundled.now was was (Err (Stopped (of_look fault)))) (λ r refs a e. look_stops was fault _))

pub returns-in_err-marks-clause-read : goal.returns-in_err-marks-clause-read
returns-in_err-marks-clause-read g c =
    let p = err_from_is_err_and c.from_residual.result c.from_residual.ensures.1 in
    rw (p.1, p.2) (of_told (g.O.Objects.told c.args.objects.now) (λ r. OfRefs c.args.bundled.now.refs.now (λ refs. ⊤)) (λ r refs a e. tt))

pub returns-in_err-marks-clause-many : goal.returns-in_err-marks-clause-many
returns-in_err-marks-clause-many g c =
    let p = err_from_is_err_and c.from_residual.result c.from_residual.ensures.1 in
    rw (p.1, p.2) (of_told (g.O.Objects.told c.args.objects.now) (λ r. OfRefs c.args.bundled.now.refs.now (λ refs. ⊤)) (λ r refs a e. tt))

pub returns-in_err-marks-clause-fault : goal.returns-in_err-marks-clause-fault
returns-in_err-marks-clause-fault g c =
    let p = err_from_is_err_and c.from_residual.result c.from_residual.ensures.1 in
    rw (p.1, p.2) (look_told (Unit {0}) (g.O.Objects.told c.args.objects.now) c.in_err-marks.field-0.0 c.in_err-marks.ensures.fault)

-- ---- too many

pub returns-in_err-count-clause-text : goal.returns-in_err-count-clause-text
returns-in_err-count-clause-text g c =
    let p = err_from_is_err_and c.from_residual-in_err-count.result c.from_residual-in_err-count.ensures.1 in
    let was = g.W.Sink.taken c.args.sink.now in
    rw (p.1, p.2, c.in_err-count.ensures.many.0) (of_told (g.O.Objects.told c.args.objects.now) (SendsBundled c.args.bundled.now was was (Err Unsupported)) (λ r refs a e. refl))

pub returns-in_err-count-clause-read : goal.returns-in_err-count-clause-read
returns-in_err-count-clause-read g c =
    let p = err_from_is_err_and c.from_residual-in_err-count.result c.from_residual-in_err-count.ensures.1 in
    rw p.1 (of_told (g.O.Objects.told c.args.objects.now) (λ r. OfRefs c.args.bundled.now.refs.now (λ refs. ⊤)) (λ r refs a e. tt))

pub returns-in_err-count-clause-many : goal.returns-in_err-count-clause-many
returns-in_err-count-clause-many g c =
    let p = err_from_is_err_and c.from_residual-in_err-count.result c.from_residual-in_err-count.ensures.1 in
    let told = g.O.Objects.told c.args.objects.now in
    let marks = c.as_slice.result.now in
    let are = subst (λ (m : List Bool). IfSome told (AreMarks c.args.bundled.now m)) (sym c.as_slice.ensures.value) c.in_ok-marks.ensures.marks in
    let long = ap length c.as_slice.ensures.value ∙ c.in_ok-marks.ensures.count in
    rw (p.1, p.2, c.in_err-count.ensures.many.0) (too_many told c.args.bundled.now marks are (g.O.Objects.stands c.args.objects.now) c.args.listing.now c.requires.listed long c.in_err-count.ensures.many.1)

pub returns-in_err-count-clause-fault : goal.returns-in_err-count-clause-fault
returns-in_err-count-clause-fault g c =
    let p = err_from_is_err_and c.from_residual-in_err-count.result c.from_residual-in_err-count.ensures.1 in
    rw (p.1, p.2, c.in_err-count.ensures.many.0) tt

-- ---- what goes out

pub send_bundle-requires-clause-long : goal.send_bundle-requires-clause-long
send_bundle-requires-clause-long g c = ap length c.as_slice-2.ensures.value ∙ c.in_ok-marks.ensures.count

pub send_bundle-requires-clause-count : goal.send_bundle-requires-clause-count
send_bundle-requires-clause-count g c =
    let marks = c.as_slice-2.result.now in
    let same = c.as_slice.ensures.value ∙ sym c.as_slice-2.ensures.value in
    let long = ap length c.as_slice-2.ensures.value ∙ c.in_ok-marks.ensures.count in
    c.in_ok-count.ensures.count ∙ ap (λ (m : List Bool). length (filter (λ mark. mark) m)) same ∙ sym (marked_long marks c.args.listing.now long)

pub returns-in_err-send_bundle-clause-text : goal.returns-in_err-send_bundle-clause-text
returns-in_err-send_bundle-clause-text g c =
    let p = err_from_is_err_and c.from_residual-in_err-send_bundle.result c.from_residual-in_err-send_bundle.ensures.1 in
    let told = g.O.Objects.told c.args.objects.now in
    let are = subst (λ (m : List Bool). IfSome told (AreMarks c.args.bundled.now m)) (sym c.as_slice-2.ensures.value) c.in_ok-marks.ensures.marks in
    rw (p.1, p.2) (bundle_stops told c.args.bundled.now c.as_slice-2.result.now are (g.W.Sink.taken c.args.sink.now) (g.W.Sink.taken c.send_bundle.new.sink) c.in_err-send_bundle.field-0.0 c.in_err-send_bundle.ensures.text)

pub returns-in_err-send_bundle-clause-read : goal.returns-in_err-send_bundle-clause-read
returns-in_err-send_bundle-clause-read g c =
    let p = err_from_is_err_and c.from_residual-in_err-send_bundle.result c.from_residual-in_err-send_bundle.ensures.1 in
    rw (p.1, p.2) (of_told (g.O.Objects.told c.args.objects.now) (λ r. OfRefs c.args.bundled.now.refs.now (λ refs. ⊤)) (λ r refs a e. tt))

pub returns-in_err-send_bundle-clause-many : goal.returns-in_err-send_bundle-clause-many
returns-in_err-send_bundle-clause-many g c =
    let p = err_from_is_err_and c.from_residual-in_err-send_bundle.result c.from_residual-in_err-send_bundle.ensures.1 in
    rw (p.1, p.2) (of_told (g.O.Objects.told c.args.objects.now) (λ r. OfRefs c.args.bundled.now.refs.now (λ refs. ⊤)) (λ r refs a e. tt))

pub returns-in_err-send_bundle-clause-fault : goal.returns-in_err-send_bundle-clause-fault
returns-in_err-send_bundle-clause-fault g c =
    let p = err_from_is_err_and c.from_residual-in_err-send_bundle.result c.from_residual-in_err-send_bundle.ensures.1 in
    rw (p.1, p.2) c.in_err-send_bundle.ensures.fault

pub returns-clause-text : goal.returns-clause-text
returns-clause-text g c =
    let told = g.O.Objects.told c.args.objects.now in
    let are = subst (λ (m : List Bool). IfSome told (AreMarks c.args.bundled.now m)) (sym c.as_slice-2.ensures.value) c.in_ok-marks.ensures.marks in
    bundle_went told c.args.bundled.now c.as_slice-2.result.now are (g.W.Sink.taken c.args.sink.now) (g.W.Sink.taken c.send_bundle.new.sink) c.in_ok-send_bundle.ensures.text

pub returns-clause-read : goal.returns-clause-read
returns-clause-read g c =
    let told = g.O.Objects.told c.args.objects.now in
    let marks = c.as_slice.result.now in
    let are = subst (λ (m : List Bool). IfSome told (AreMarks c.args.bundled.now m)) (sym c.as_slice.ensures.value) c.in_ok-marks.ensures.marks in
    let long = ap length c.as_slice.ensures.value ∙ c.in_ok-marks.ensures.count in
    bundle_read told c.args.bundled.now marks are (g.O.Objects.stands c.args.objects.now) c.args.listing.now c.requires.listed long c.in_ok-count.ensures.few c.in_ok-send_bundle.ensures.names

pub returns-clause-named : goal.returns-clause-named
returns-clause-named g c = (c.as_slice-2.result.now, c.in_ok-send_bundle.ensures.named)

pub returns-clause-many : goal.returns-clause-many
returns-clause-many g c = of_told (g.O.Objects.told c.args.objects.now) (λ r. OfRefs c.args.bundled.now.refs.now (λ refs. ⊤)) (λ r refs a e. tt)
