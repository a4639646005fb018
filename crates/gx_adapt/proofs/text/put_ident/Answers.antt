use Rattle.gx_adapt.proofs.Appended.{spaced_put}
use Rattle.gx_adapt.proofs.text.put_ident.Goals as goal

pub returns : goal.returns
returns g c =
    spaced_put c.extend_from_slice-3.result c.args.out.now.items c.extend_from_slice.new.self.items c.extend_from_slice-2.new.self.items c.extend_from_slice-3.new.self.items _ c.args.word.now c.args.ident.now
    c.in_ok-extend_from_slice.ensures.items c.in_ok-extend_from_slice-2.ensures.items c.extend_from_slice-3.ensures.items
