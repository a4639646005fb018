use Rattle.std.proofs.Common.{List, map, take, length, sym, ap, subst, ◌∙◌}
use Rattle.std.specs.List.{AllByRecursion}
use Rattle.gx_model.specs.Texts.{Bytes, same_bytes}
use Rattle.gx_stand_ins.specs.declared.bodies.TheConstants.{NONCE}
use Rattle.gx_command.specs.Views.{commit_parts, shown_change, shown_commit_ish}
use Rattle.gx_command.specs.declared.commands.Change.{Change}
use Rattle.gx_command.specs.declared.commands.CommitIsh.{CommitIsh}
use Rattle.gx_asked.specs.Asking.{IsAmong, texts_of}
use Rattle.gx_asked.specs.Entering.{AsksChange, AsksCommit, AsksCommitIsh, IsOtherChange, IsOtherCommit}
use Rattle.gx_asked.proofs.EnteredCommands.{commit_entered, if_why, on_ok}
use Rattle.gx_asked.proofs.asked.Asked.enter_commit.Goals as goal

pub returns-clause-asked : goal.returns-clause-asked
returns-clause-asked g c =
    let parts = commit_parts c.args.commit.now in
    let last = c.enter_changes.new.self in
    on_ok c.enter_changes.result (AllByRecursion (AsksChange last) (map shown_change c.as_slice-4.result.now)) (AsksCommit last parts) (λ changes.
    commit_entered parts _ c.ask_where.new.self c.ask_all.new.self last
    (subst (IsAmong (texts_of c.enter_text.new.texts.keys)) c.as_slice-2.ensures.value c.in_ok-enter_text.ensures.entered)
    (ap (λ (x : Bytes). same_bytes (take (length NONCE) x) NONCE) (sym c.as_slice.ensures.value) ∙ sym c.may_stand_in.ensures ∙ c.if-may_stand_in.false)
    c.ask_where.ensures.kept c.in_ok-ask_where.ensures.asked
    c.ask_all.ensures.kept (subst (λ (cs : List (CommitIsh g.row.A.Denot)). AllByRecursion (AsksCommitIsh c.ask_all.new.self) (map shown_commit_ish cs)) c.as_slice-3.ensures.value c.in_ok-ask_all.ensures.asked)
    c.enter_changes.ensures.kept (subst (λ (cs : List (Change g.row.A.Denot)). AllByRecursion (AsksChange last) (map shown_change cs)) c.as_slice-4.ensures.value changes))
    c.enter_changes.ensures.asked

pub returns-clause-fault : goal.returns-clause-fault
returns-clause-fault g c =
    let parts = commit_parts c.args.commit.now in
    if_why c.enter_changes.result (AllByRecursion IsOtherChange (map shown_change c.as_slice-4.result.now)) (IsOtherCommit parts)
    (λ h. subst (λ (cs : List (Change g.row.A.Denot)). AllByRecursion IsOtherChange (map shown_change cs)) (sym c.as_slice-4.ensures.value) h.changes) c.enter_changes.ensures.fault
