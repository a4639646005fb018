use Rattle.std.proofs.Common.{subst}
use Rattle.gx_questions.specs.Answers.{IfTold}
use Rattle.gx_rev.specs.Answers.{IsNamed}
use Rattle.gx_told.proofs.batches.revisions.answer_shown.Goals as goal

pub answer_object-requires : goal.answer_object-requires
answer_object-requires g c =
    let told = g.O.Objects.told c.args.objects.now in
    let name = g.O.Objects.name_of c.args.objects.now in
    subst (IfTold told (IsNamed name)) c.in-Object.is c.requires
