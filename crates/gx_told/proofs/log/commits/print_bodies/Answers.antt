use Rattle.std.proofs.Common.{ap, map, subst, Err}
use Rattle.std.specs.List.{flat_map}
use Rattle.std.proofs.lemmas.Result.{err_from_is_err_and}
use Rattle.gx_model.specs.declared.objects.Kind.TheVariants as kinds
use Rattle.gx_model.specs.Texts.Sinks.{Took}
use Rattle.gx_model.proofs.Texts.SentTexts.{IsLeft, all_left, less_left}
use Rattle.gx_rev.specs.Objects.{IsHeldAs, commit_at}
use Rattle.gx_print.specs.Logs.{AreCommits, entries_text, entry_of, next_entry}
use Rattle.gx_told.specs.Printing.{PrintsText}
use Rattle.gx_told.proofs.CommitLines.{no_entries}
use Rattle.gx_told.proofs.Pieces.{cut_short, last_sent}
use Rattle.gx_told.proofs.Tellings.{both_told, each_told, map_told}
use Rattle.gx_told.proofs.log.commits.print_bodies.Goals as goal

pub returns-in_default : goal.returns-in_default
returns-in_default g c =
    let name = g.O.Objects.name_of c.args.objects.now in
    each_told (g.O.Objects.told c.args.objects.now) _ (λ r. no_entries name c.args.options r c.args.names.now (g.W.Sink.taken c.args.sink.now) c.in_default.ensures.cases)

pub print_commit-requires : goal.print_commit-requires
print_commit-requires g c =
    map_told (g.O.Objects.told c.args.objects.now) (λ r. AreCommits r c.args.names.now) (λ r. IsHeldAs kinds.Commit r c.in-Some.first.now) (λ r h. (subst (AreCommits r) c.in-Some.ensures.cases.0 h).0) c.requires

pub print_others-requires : goal.print_others-requires
print_others-requires g c =
    map_told (g.O.Objects.told c.args.objects.now) (λ r. AreCommits r c.args.names.now) (λ r. AreCommits r c.in-Some.others.now) (λ r h. (subst (AreCommits r) c.in-Some.ensures.cases.0 h).1) c.requires

pub returns-in_err-print_commit : goal.returns-in_err-print_commit
returns-in_err-print_commit g c =
    let p = err_from_is_err_and c.from_residual.result c.from_residual.ensures.1 in
    let told = g.O.Objects.told c.args.objects.now in
    let name = g.O.Objects.name_of c.args.objects.now in
    let o = c.args.options in
    let was = g.W.Sink.taken c.args.sink.now in
    let now = g.W.Sink.taken c.print_commit.new.sink in
    let fault = c.in_err-print_commit.field-0.0 in
    rw (p.1, p.2) (map_told told (λ r. PrintsText (entry_of name o (commit_at r c.in-Some.first.now)) was now (Err fault)) (λ r. PrintsText (entries_text name o (map (commit_at r) c.args.names.now)) was now (Err fault))
    (λ r h.
    let whole = entries_text name o (map (commit_at r) c.args.names.now) in
    let start = subst (IsLeft whole was was) (ap (λ names. entries_text name o (map (commit_at r) names)) c.in-Some.ensures.cases.0) (all_left whole was) in
    cut_short was was now whole (entry_of name o (commit_at r c.in-Some.first.now)) (flat_map (next_entry name o) (map (commit_at r) c.in-Some.others.now)) fault start h)
    c.in_err-print_commit.ensures)

pub returns : goal.returns
returns g c =
    let told = g.O.Objects.told c.args.objects.now in
    let name = g.O.Objects.name_of c.args.objects.now in
    let o = c.args.options in
    let was = g.W.Sink.taken c.args.sink.now in
    let mid = g.W.Sink.taken c.print_commit.new.sink in
    let now = g.W.Sink.taken c.print_others.new.sink in
    let answer = c.print_others.result in
    both_told told (λ r. Took was mid (entry_of name o (commit_at r c.in-Some.first.now))) (λ r. PrintsText (flat_map (next_entry name o) (map (commit_at r) c.in-Some.others.now)) mid now answer)
    (λ r. PrintsText (entries_text name o (map (commit_at r) c.args.names.now)) was now answer)
    (λ r h k.
    let whole = entries_text name o (map (commit_at r) c.args.names.now) in
    let rest = flat_map (next_entry name o) (map (commit_at r) c.in-Some.others.now) in
    let start = subst (IsLeft whole was was) (ap (λ names. entries_text name o (map (commit_at r) names)) c.in-Some.ensures.cases.0) (all_left whole was) in
    last_sent was mid now whole rest answer (less_left whole was was mid (entry_of name o (commit_at r c.in-Some.first.now)) rest start h) k)
    c.in_ok-print_commit.ensures c.print_others.ensures
