use Rattle.std.proofs.Common.{Ok, Err}
use Rattle.gx_model.specs.Revisions.Denotation.{at_path, files_in}
use Rattle.gx_rev.specs.Answers.{shown_as, shown_by}
use Rattle.gx_rev.specs.declared.fault.RevFault.TheVariants.{NoSuchPath}
use Rattle.gx_questions.specs.declared.fault.AskFault.TheVariants.{Revision}
use Rattle.gx_rev.specs.Objects.{files_at, value_at}
use Rattle.gx_questions.proofs.Paths.{no_place, place_shown}
use Rattle.gx_questions.proofs.Told.{goes_on}
use Rattle.gx_questions.proofs.shown.show_path.Goals as goal

pub returns-in-None-clause-shown : goal.returns-in-None-clause-shown
returns-in-None-clause-shown g c =
    goes_on (g.O.Objects.told c.args.objects.now) files_at (λ r. files_in (value_at r c.args.object.now)) c.in_ok-tree.tree shown_by (λ r f. at_path f c.args.path.now) (Err (Revision NoSuchPath)) c.in_ok-tree.ensures.files (no_place (g.O.Objects.name_of c.args.objects.now) c.sound_if_told.ensures.namer (g.O.Objects.told c.args.objects.now) c.in_ok-tree.tree c.args.path.now c.sound_if_told.ensures.sound c.in_ok-tree.ensures.held (rw c.in-None.is at c.in_ok-walk_down.ensures.place))

pub returns-in-Some-clause-shown : goal.returns-in-Some-clause-shown
returns-in-Some-clause-shown g c =
    rw c.shown_as.ensures (goes_on (g.O.Objects.told c.args.objects.now) files_at (λ r. files_in (value_at r c.args.object.now)) c.in_ok-tree.tree shown_by (λ r f. at_path f c.args.path.now) (Ok (shown_as c.in-Some.mode c.in-Some.name)) c.in_ok-tree.ensures.files (place_shown (g.O.Objects.name_of c.args.objects.now) c.sound_if_told.ensures.namer (g.O.Objects.told c.args.objects.now) c.in_ok-tree.tree c.args.path.now (c.in-Some.mode, c.in-Some.name) c.sound_if_told.ensures.sound c.in_ok-tree.ensures.held (rw c.in-Some.is at c.in_ok-walk_down.ensures.place)).0)

pub returns-in-Some-clause-named : goal.returns-in-Some-clause-named
returns-in-Some-clause-named g c =
    rw c.shown_as.ensures (place_shown (g.O.Objects.name_of c.args.objects.now) c.sound_if_told.ensures.namer (g.O.Objects.told c.args.objects.now) c.in_ok-tree.tree c.args.path.now (c.in-Some.mode, c.in-Some.name) c.sound_if_told.ensures.sound c.in_ok-tree.ensures.held (rw c.in-Some.is at c.in_ok-walk_down.ensures.place)).1
