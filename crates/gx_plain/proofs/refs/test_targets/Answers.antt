use Rattle.std.proofs.Common.{◌≡◌, ◌≢◌, false, true, ◌++◌, ◌∷◌, [], codes, sym, ◌∙◌, arith}
use Rattle.std.specs.Bool.{passes}
use Rattle.std.specs.Option.{option_map}
use Rattle.std.proofs.lemmas.Result.{err_from_is_err_and}
use Rattle.gx_model.specs.Texts.{Bytes, same_bytes}
use Rattle.gx_model.proofs.Texts.PathTests.{is_same, is_true, same_is}
use Rattle.gx_file.specs.Gathering.{first_ref, shown_change}
use Rattle.gx_plain.proofs.Fronts.{refuses}
use Rattle.gx_plain.proofs.NextRefs.{disordered, no_ref, one_ref, other_target}
use Rattle.gx_plain.proofs.TestedRefs.{all_tested, begun_tested, more_tested, other_end, refused_tested, told_target, untold_tested}
use Rattle.gx_plain.proofs.refs.test_targets.Goals as goal

-- what is told unlike another isn't it
unlike : (x y : Bytes) → same_bytes x y ≡ false → x ≢ y
unlike x y other same = let both : true ≡ false = sym (is_true _ (is_same x y same)) ∙ other in cc

pub loop-init : goal.loop-init
loop-init g c = begun_tested (g.N.Namer.name_of c.args.namer.now) c.args.version (g.S.ReadAt.text c.args.source.now) c.args.listing.now c.args.count c.args.lines.now

pub returns-in_default : goal.returns-in_default
returns-in_default g c =
    let name = g.N.Namer.name_of c.args.namer.now in
    let last = option_map (λ last. last.now) c.loop.last in
    let rest = c.loop.rest.now in
    let none = refuses shown_change c.read_ref.result (first_ref rest) c.in_default.field-0 c.read_ref.ensures.change c.read_ref.ensures.memory c.in_default.is in
    refused_tested name c.args.version (g.S.ReadAt.text c.args.source.now) c.args.listing.now c.args.count c.args.lines.now c.loop.counter last rest c.loop.invariant c.loop-test.true (λ text is rs h. no_ref rs last rest c.in_default.field-0 none)

pub returns-in_err-may_hold : goal.returns-in_err-may_hold
returns-in_err-may_hold g c =
    let p = err_from_is_err_and c.from_residual.result c.from_residual.ensures.1 in
    rw (p.1, p.2) (untold_tested (g.N.Namer.name_of c.args.namer.now) c.args.version (g.S.ReadAt.text c.args.source.now) c.args.listing.now c.args.count c.args.lines.now c.in-Ok.change c.in_err-may_hold.field-0.0 c.in_err-may_hold.ensures)

pub returns-then-not-branch : goal.returns-then-not-branch
returns-then-not-branch g c =
    let name = g.N.Namer.name_of c.args.namer.now in
    let told = g.S.ReadAt.text c.args.source.now in
    let last = option_map (λ last. last.now) c.loop.last in
    let rest = c.loop.rest.now in
    let f = shown_change (c.in-Ok.change, c.in-Ok.behind) in
    let held = rw c.if-not-branch.true at c.in_ok-may_hold.ensures in
    refused_tested name c.args.version told c.args.listing.now c.args.count c.args.lines.now c.loop.counter last rest c.loop.invariant c.loop-test.true (λ text is rs h.
    other_target rs last rest f c.in-Ok.ensures.change (sym (told_target name c.args.version told c.args.listing.now c.args.count c.args.lines.now c.in-Ok.change false held text is rs h)))

pub returns-then-not-is_after : goal.returns-then-not-is_after
returns-then-not-is_after g c =
    let name = g.N.Namer.name_of c.args.namer.now in
    let told = g.S.ReadAt.text c.args.source.now in
    let last = option_map (λ last. last.now) c.loop.last in
    let rest = c.loop.rest.now in
    let f = shown_change (c.in-Ok.change, c.in-Ok.behind) in
    let held = rw c.if-not-branch.false at c.in_ok-may_hold.ensures in
    refused_tested name c.args.version told c.args.listing.now c.args.count c.args.lines.now c.loop.counter last rest c.loop.invariant c.loop-test.true (λ text is rs h.
    disordered rs last rest f c.in-Ok.ensures.change (sym (told_target name c.args.version told c.args.listing.now c.args.count c.args.lines.now c.in-Ok.change true held text is rs h)) (sym c.is_after.ensures ∙ c.if-not-is_after.true))

pub loop-preserved : goal.loop-preserved
loop-preserved g c =
    let name = g.N.Namer.name_of c.args.namer.now in
    let told = g.S.ReadAt.text c.args.source.now in
    let last = option_map (λ last. last.now) c.loop.last in
    let rest = c.loop.rest.now in
    let f = shown_change (c.in-Ok.change, c.in-Ok.behind) in
    let held = rw c.if-not-branch.false at c.in_ok-may_hold.ensures in
    more_tested name c.args.version told c.args.listing.now c.args.count c.args.lines.now c.loop.counter last rest c.loop.invariant c.loop-test.true f (λ text is rs h.
    one_ref rs last rest f c.in-Ok.ensures.change (sym (told_target name c.args.version told c.args.listing.now c.args.count c.args.lines.now c.in-Ok.change true held text is rs h)) (sym c.is_after.ensures ∙ c.if-not-is_after.false))

pub returns-then-eq : goal.returns-then-eq
returns-then-eq g c =
    let last = option_map (λ last. last.now) c.loop.last in
    let ends : c.loop.rest.now ≡ codes "end" ++ 10 ∷ [] = same_is c.loop.rest.now c.as_slice.result.now (passes _ (sym c.eq.ensures ∙ c.if-eq.true)) ∙ c.as_slice.ensures in
    all_tested (g.N.Namer.name_of c.args.namer.now) c.args.version (g.S.ReadAt.text c.args.source.now) c.args.listing.now c.args.count c.args.lines.now c.loop.counter last c.loop.rest.now c.loop.invariant (omega (arith, c.loop-test.false)) ends

pub returns : goal.returns
returns g c =
    let last = option_map (λ last. last.now) c.loop.last in
    let other = unlike c.loop.rest.now c.as_slice.result.now (sym c.eq.ensures ∙ c.if-eq.false) in
    other_end (g.N.Namer.name_of c.args.namer.now) c.args.version (g.S.ReadAt.text c.args.source.now) c.args.listing.now c.args.count c.args.lines.now c.loop.counter last c.loop.rest.now c.loop.invariant (omega (arith, c.loop-test.false)) (λ same. other (same ∙ sym c.as_slice.ensures))
