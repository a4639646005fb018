use Rattle.std.proofs.Common.{Vec, ℕ, ◌∙◌, take, drop, ap, arith}
use Rattle.std.proofs.lemmas.List.{length-take-le}
use Rattle.gx_stream.proofs.Given.{front_part}
use Rattle.gx_stream.proofs.input.Input.part_with.Goals as goal

pub returns-clause-bytes : goal.returns-clause-bytes
returns-clause-bytes g c =
    let i = c.args.self.now in
    let p = c.args.place in
    c.cut_to.ensures ∙ ap (λ (v : Vec ℕ g.row.A.Denot). drop p.start (take p.end v.items)) c.replace-bytes.ensures.value ∙ front_part i.text.items i.came p.start p.end c.requires.within.0 (omega (arith, c.requires.within, length-take-le i.came i.text.items c.requires.sound.1))
