use Rattle.std.proofs.Common.{refl, inl}
use Rattle.gx_cli.proofs.next_text.with_text.Goals as goal

pub returns-in-Ok : goal.returns-in-Ok
returns-in-Ok g c = inl (refl, refl, (c.in-Ok.text, refl, c.in-Ok.ensures.text, c.in-Ok.ensures.read))
