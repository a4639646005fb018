use Rattle.gx_push.specs.Calls.{texts}
use Rattle.gx_push.specs.Wants.{shown_wants}
use Rattle.gx_ref_lines.specs.Refs.{shown_refs}
use Rattle.gx_growing_import.proofs.RefsTold.{sorted_lines, told_lines}
use Rattle.gx_growing_push.proofs.WholePushes.{lines_hold}
use Rattle.gx_growing_push.proofs.pushing.look_at_lines.Goals as goal

pub wants_of-requires : goal.wants_of-requires
wants_of-requires g c = record { sorted = sorted_lines c.in_ok-ref_lines.field-0.now (shown_refs c.in_ok-held.held.refs.items) c.in_ok-held.ensures.all c.in_ok-ref_lines.ensures.spelled }

pub returns : goal.returns
returns g c =
    let told = g.O.Objects.told c.args.objects.now in
    let refs = shown_refs c.in_ok-held.held.refs.items in
    let same = told_lines (g.O.Objects.name_of c.args.objects.now) c.sound_if_told.ensures.namer told c.sound_if_told.ensures.sound
    c.in_ok-ref_lines.field-0.now refs c.in_ok-held.ensures.all c.in_ok-ref_lines.ensures.lines in
    lines_hold told refs (texts c.args.lines.now) (shown_wants c.in_ok-wants_of.field-0.list.items) same c.in_ok-wants_of.ensures.wanted c.in_ok-wants_of.ensures.free
