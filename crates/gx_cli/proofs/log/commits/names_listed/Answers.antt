use Rattle.std.proofs.Common.{◌∙◌, ap, map}
use Rattle.gx_model.specs.Histories.Values.{commit_value}
use Rattle.gx_model.specs.Laws.RangeLaws.{is_excluded}
use Rattle.gx_model.specs.Records.{name_of}
use Rattle.gx_model.specs.Records.HistoryOf.{history_of}
use Rattle.gx_rev.specs.Views.{shown_range}
use Rattle.gx_rev.specs.Walking.{is_included}
use Rattle.gx_print.specs.Stored.{all_words}
use Rattle.gx_print.proofs.ListedCommits.{listing_with, logged_held}
use Rattle.gx_cli.proofs.ListedCommits.{logged_refused}
use Rattle.gx_cli.proofs.log.commits.names_listed.Goals as goal

pub returns-in_ok-names-in-Ok-clause-commits : goal.returns-in_ok-names-in-Ok-clause-commits
returns-in_ok-names-in-Ok-clause-commits g c =
    let name = g.N.Namer.name_of c.args.repo.now.0 in
    let r = c.args.repo.now.1 in
    let w = c.in-Ok.ensures.marks in
    let marked = c.in_ok-names-in-Ok.ensures (is_included w.0) (is_excluded w.0) (c.as_mut_slice-marks.ensures.value ∙ w.2) (c.as_slice.ensures.value ∙ w.3) in
    let named = marked ∙ ap (map (λ made. name_of name (commit_value made))) (listing_with (history_of r) c.args.refs w.0) in
    ap all_words (logged_held name (g.met.N.Namer.is_namer c.args.repo.now.0) r c.sound.ensures c.args.refs (map shown_range c.args.ranges.now) w.0 c.in_ok-names-in-Ok.names.items w.1 named).1

pub returns-in_ok-names-in-Ok-clause-held : goal.returns-in_ok-names-in-Ok-clause-held
returns-in_ok-names-in-Ok-clause-held g c =
    let name = g.N.Namer.name_of c.args.repo.now.0 in
    let r = c.args.repo.now.1 in
    let w = c.in-Ok.ensures.marks in
    let marked = c.in_ok-names-in-Ok.ensures (is_included w.0) (is_excluded w.0) (c.as_mut_slice-marks.ensures.value ∙ w.2) (c.as_slice.ensures.value ∙ w.3) in
    let named = marked ∙ ap (map (λ made. name_of name (commit_value made))) (listing_with (history_of r) c.args.refs w.0) in
    (logged_held name (g.met.N.Namer.is_namer c.args.repo.now.0) r c.sound.ensures c.args.refs (map shown_range c.args.ranges.now) w.0 c.in_ok-names-in-Ok.names.items w.1 named).0

pub returns-in-Err-clause-commits : goal.returns-in-Err-clause-commits
returns-in-Err-clause-commits g c =
    let name = g.N.Namer.name_of c.args.repo.now.0 in
    rw c.refused.ensures (logged_refused name (history_of c.args.repo.now.1) c.args.refs (map shown_range c.args.ranges.now) c.in-Err.fault.word c.in-Err.fault.kind c.in-Err.ensures.marks)
