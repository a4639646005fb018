use Rattle.std.proofs.Common.{codes}
use Rattle.gx_patch.proofs.Putting.{five_parts}
use Rattle.gx_patch.proofs.bodies.put_binary.Goals as goal

pub returns : goal.returns
returns g c =
    five_parts c.args.text.now.items (codes "Binary files ") c.args.from.now (codes " and ") c.args.to.now (codes " differ\n") c.extend_from_slice.new.self.items c.extend_from_slice-2.new.self.items c.extend_from_slice-3.new.self.items
    c.extend_from_slice-4.new.self.items c.extend_from_slice-5.new.self.items c.in_ok-extend_from_slice.ensures.items c.in_ok-extend_from_slice-2.ensures.items c.in_ok-extend_from_slice-3.ensures.items c.in_ok-extend_from_slice-4.ensures.items
    c.in_ok-extend_from_slice-5.ensures.items
