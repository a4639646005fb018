use Rattle.std.proofs.Common.{◌∙◌, ap, length, map}
use Rattle.gx_model.specs.Laws.RangeLaws.{is_excluded}
use Rattle.gx_model.specs.Laws.RepositoryLaws.{values_of}
use Rattle.gx_model.specs.Records.HistoryOf.{history_of}
use Rattle.gx_rev.specs.Views.{shown_range}
use Rattle.gx_rev.specs.Walking.{is_included}
use Rattle.gx_rev.proofs.Listings.{names_are}
use Rattle.gx_rev.proofs.WordMarks.{marks_long}
use Rattle.gx_rev.proofs.walking.walk.Goals as goal

pub names_marked-requires-clause-included : goal.names_marked-requires-clause-included
names_marked-requires-clause-included g c =
    let w = c.in_ok-included.ensures.marks in
    ap length (c.deref.ensures.value ∙ w.2) ∙ marks_long (values_of c.args.repo.now.1) (is_included w.0)

pub names_marked-requires-clause-excluded : goal.names_marked-requires-clause-excluded
names_marked-requires-clause-excluded g c =
    let w = c.in_ok-included.ensures.marks in
    ap length (c.deref-2.ensures.value ∙ w.3) ∙ marks_long (values_of c.args.repo.now.1) (is_excluded w.0)

pub returns-clause-names : goal.returns-clause-names
returns-clause-names g c =
    let w = c.in_ok-included.ensures.marks in
    names_are (g.N.Namer.name_of c.args.repo.now.0) (history_of c.args.repo.now.1) (map shown_range c.args.words.now) w.0 (map (λ n. n.bytes) c.in_ok-names.names.items) w.1
    (c.in_ok-names.ensures (is_included w.0) (is_excluded w.0) (c.deref.ensures.value ∙ w.2) (c.deref-2.ensures.value ∙ w.3))
