use Rattle.std.proofs.Common.{map, take}
use Rattle.gx_command.specs.Views.{shown_commit_ish}
use Rattle.gx_asked.specs.Entering.{AsksCommitIsh}
use Rattle.gx_asked.proofs.EnteredCommands.{all_next, commits_kept, keeps_more}
use Rattle.gx_asked.proofs.asked.Asked.ask_all.Goals as goal

pub loop-commit-preserved : goal.loop-commit-preserved
loop-commit-preserved g c =
    let l = c.loop-commit in
    let all = c.args.commits.now in
    record {
      kept = keeps_more c.args.self.now l.self c.ask.new.self l.invariant.kept c.ask.ensures.kept;
      asked = all_next (AsksCommitIsh c.ask.new.self) shown_commit_ish all l.commit-index c.commit-item.result c.loop-commit-test.true c.commit-item.is
          (commits_kept l.self c.ask.new.self c.ask.ensures.kept (map shown_commit_ish (take l.commit-index all)) l.invariant.asked) c.in_ok-ask.ensures.asked;
    }
