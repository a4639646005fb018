use Rattle.std.proofs.Common.{◌≤◌, length, refl, sym, subst, arith}
use Rattle.std.specs.List.{AllByRecursion}
use Rattle.gx_export.specs.FileTexts.{AreKept, IsKept}
use Rattle.gx_export.proofs.Keeping.{all_more, stands_empty}
use Rattle.gx_export.proofs.lines.Lines.open.Goals as goal

pub returns-clause-kept : goal.returns-clause-kept
returns-clause-kept g c = λ name r ws h.
    let s = c.pass_one.new.self in
    let k : AreKept name r ws s = subst (AreKept name r ws) (sym c.pass_one.ensures) (record { now = h.now; earlier = h.earlier }) in
    let within : c.len-start.result ≤ length s.text.items = omega (arith, c.len-start.ensures, s.text.ok) in
    record {
      now = subst (AllByRecursion (IsKept name r ws s.text.items)) (sym c.in_ok-push.ensures.items) (all_more (IsKept name r ws s.text.items) s.directories.items _ k.now (stands_empty name r ws _ _ _ s.text.items c.len-start.result c.len-start.result refl within refl c.new.ensures.items));
      earlier = k.earlier;
    }
