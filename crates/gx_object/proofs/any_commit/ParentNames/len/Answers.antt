use Rattle.std.proofs.Common.{◌≡◌, ◌*◌, length, ap, ◌∙◌, arith}
use Rattle.gx_object.specs.Commits.{parents_of}
use Rattle.gx_object.proofs.Parents.{lines_long}
use Rattle.gx_object.proofs.any_commit.ParentNames.len.Goals as goal

pub returns : goal.returns
returns c =
    let names = (parents_of c.self.inside.lines.now).0 in
    let long : length c.self.inside.lines.now ≡ length names * 48 = ap length c.self.invariant.lines ∙ lines_long names c.self.invariant.names in
    let view = ap length c.self.view_is in
    omega arith
