use Rattle.std.proofs.Common.{map, subst, sym, Err}
use Rattle.gx_model.specs.Histories.Values.{commit_value}
use Rattle.gx_model.specs.Records.{name_of}
use Rattle.gx_model.specs.Records.HistoryOf.{history_of}
use Rattle.gx_model.specs.Revisions.Ranges.{listed, listing, words_denoted}
use Rattle.gx_rev.specs.Views.{shown_range}
use Rattle.gx_cli.specs.Questions.{ListsAs}
use Rattle.gx_cli.proofs.Replies.{all_listed, refused_range}
use Rattle.gx_cli.proofs.questions.list_in.Goals as goal

pub returns-in-Err : goal.returns-in-Err
unfolding listed
returns-in-Err g c =
    let name = g.N.Namer.name_of c.args.repo.now.0 in
    let h = history_of c.args.repo.now.1 in
    let asked = map shown_range c.args.ranges.now in
    subst (λ fault. ListsAs {A = g.row.A.Denot} (listed name h asked) (Err fault)) (sym c.refused.ensures)
    (refused_range g.row.A.Denot (listed name h asked) c.in-Err.fault.word c.in-Err.fault.kind
    (λ none. all_listed (words_denoted name h asked) (λ words. map (λ made. name_of name (commit_value made)) (listing h words)) (c.in-Err.ensures.first none)) c.in-Err.ensures.names)
