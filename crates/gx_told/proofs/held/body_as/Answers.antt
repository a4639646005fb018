use Rattle.std.proofs.Common.{◌≡◌}
use Rattle.gx_questions.specs.Objects.{IsObjectAt}
use Rattle.gx_model.specs.Records.{body_of}
use Rattle.gx_rev.specs.Objects.{value_at}
use Rattle.gx_told.proofs.ShownBodies.{shown_held}
use Rattle.gx_told.proofs.Tellings.{map_told}
use Rattle.gx_told.proofs.held.body_as.Goals as goal

pub body-requires : goal.body-requires
body-requires g c = record { held = shown_held (g.O.Objects.name_of c.args.objects.now) (g.O.Objects.told c.args.objects.now) c.args.kind c.args.name.now c.requires }

pub returns-then-eq-clause-body : goal.returns-then-eq-clause-body
returns-then-eq-clause-body g c =
    let told = g.O.Objects.told c.args.objects.now in
    let name = g.O.Objects.name_of c.args.objects.now in
    map_told told (λ r. IsObjectAt name c.args.name.now r c.in_ok-object.object) (λ r. c.in_ok-object.object.body.now ≡ body_of name (value_at r c.args.name.now)) (λ r h. h.body) c.in_ok-object.ensures.object
