use Rattle.std.proofs.Common.{◌∙◌}
use Rattle.gx_push.specs.Calls.{texts}
use Rattle.gx_push.specs.Wants.{shown_wants}
use Rattle.gx_ref_lines.specs.Refs.{shown_refs}
use Rattle.gx_growing_import.proofs.RefsTold.{sorted_lines, told_lines}
use Rattle.gx_growing_push.proofs.WholePushes.{pushes_told}
use Rattle.gx_growing_push.proofs.pushing.push_over.Goals as goal

pub wants_of-requires : goal.wants_of-requires
wants_of-requires g c = record { sorted = sorted_lines c.in_ok-ref_lines.field-0.now (shown_refs c.in_ok-before.before.refs.items) c.in_ok-before.ensures.all c.in_ok-ref_lines.ensures.spelled }

pub returns-clause-pushed : goal.returns-clause-pushed
returns-clause-pushed g c =
    let name = g.N.Namer.name_of c.args.namer in
    let namer = g.met.N.Namer.is_namer c.args.namer in
    let told = g.O.Objects.told c.args.objects.now in
    let refs = shown_refs c.in_ok-before.before.refs.items in
    let wants = shown_wants c.in_ok-wants.wants.list.items in
    let made = c.in_ok-made.made in
    let same = told_lines (g.O.Objects.name_of c.args.objects.now) c.sound_if_told.ensures.namer told c.sound_if_told.ensures.sound
    c.in_ok-ref_lines.field-0.now refs c.in_ok-before.ensures.all c.in_ok-ref_lines.ensures.lines in
    pushes_told name namer c.args.done (texts c.args.lines.now) told c.args.stream.now c.args.fails refs same wants c.in_ok-wants.ensures.wanted
    made.objects.1 made.refs.items made.ref_count made.progress.items made.report c.in_ok-made.ensures.whole
    c.in_ok-left.left.lines.items c.in_ok-left.left.count (λ refs lines. c.in_ok-left.ensures refs (c.deref.ensures.value ∙ lines))
