use Rattle.std.proofs.Common.{sym, ◌∙◌, refl}
use Rattle.std.proofs.lemmas.Result.{err_from_is_err_and}
use Rattle.gx_command.specs.Lines.{shown_words}
use Rattle.gx_command.proofs.BegunCommands.{commit_begins, reset_begins, same_fault, tag_begins}
use Rattle.gx_command.proofs.BegunHeads.{at_blob, at_commit, at_reset, at_tag, begins, fails_first}
use Rattle.gx_command.proofs.heads.read_head.Goals as goal

pub returns-then-is-clause-begins : goal.returns-then-is-clause-begins
returns-then-is-clause-begins g c = λ s. rw (at_blob g.row.A.Denot c.args.is_early (shown_words c.args.words) s (sym c.is.ensures ∙ c.if-is.true)) (begins _ s _ c.bare.ensures.bare)

pub returns-in_err-read-clause-begins : goal.returns-in_err-read-clause-begins
returns-in_err-read-clause-begins g c = λ s.
    let p = err_from_is_err_and c.from_residual.result c.from_residual.ensures.1 in
    rw (p.1, p.2, at_commit g.row.A.Denot c.args.is_early (shown_words c.args.words) s (sym c.is.ensures ∙ c.if-is.false) (sym c.is-else-is.ensures ∙ c.if-is-2.true)) (fails_first _ _ _ c.in_err-read.ensures.name)

pub returns-in_ok-read-clause-begins : goal.returns-in_ok-read-clause-begins
returns-in_ok-read-clause-begins g c = λ s. rw (at_commit g.row.A.Denot c.args.is_early (shown_words c.args.words) s (sym c.is.ensures ∙ c.if-is.false) (sym c.is-else-is.ensures ∙ c.if-is-2.true), c.in_ok-read.ensures.name) refl

pub returns-in_err-read-2-clause-begins : goal.returns-in_err-read-2-clause-begins
returns-in_err-read-2-clause-begins g c = λ s.
    let p = err_from_is_err_and c.from_residual-in_err-read-2.result c.from_residual-in_err-read-2.ensures.1 in
    rw (p.1, p.2, at_tag g.row.A.Denot c.args.is_early (shown_words c.args.words) s (sym c.is.ensures ∙ c.if-is.false) (sym c.is-else-is.ensures ∙ c.if-is-2.false) (sym c.is-else-is-2.ensures ∙ c.if-is-3.true)) (fails_first _ _ _ c.in_err-read-2.ensures.name)

pub returns-in_ok-read-2-clause-begins : goal.returns-in_ok-read-2-clause-begins
returns-in_ok-read-2-clause-begins g c = λ s. rw (at_tag g.row.A.Denot c.args.is_early (shown_words c.args.words) s (sym c.is.ensures ∙ c.if-is.false) (sym c.is-else-is.ensures ∙ c.if-is-2.false) (sym c.is-else-is-2.ensures ∙ c.if-is-3.true), c.in_ok-read-2.ensures.name) refl

pub returns-in_err-read-3-clause-begins : goal.returns-in_err-read-3-clause-begins
returns-in_err-read-3-clause-begins g c = λ s.
    let p = err_from_is_err_and c.from_residual-in_err-read-3.result c.from_residual-in_err-read-3.ensures.1 in
    rw (p.1, p.2, at_reset g.row.A.Denot c.args.is_early (shown_words c.args.words) s (sym c.is.ensures ∙ c.if-is.false) (sym c.is-else-is.ensures ∙ c.if-is-2.false) (sym c.is-else-is-2.ensures ∙ c.if-is-3.false) (sym c.is-else-is-3.ensures ∙ c.if-is-4.true)) (fails_first _ _ _ c.in_err-read-3.ensures.name)

pub returns-in_ok-read-3-clause-begins : goal.returns-in_ok-read-3-clause-begins
returns-in_ok-read-3-clause-begins g c = λ s. rw (at_reset g.row.A.Denot c.args.is_early (shown_words c.args.words) s (sym c.is.ensures ∙ c.if-is.false) (sym c.is-else-is.ensures ∙ c.if-is-2.false) (sym c.is-else-is-2.ensures ∙ c.if-is-3.false) (sym c.is-else-is-3.ensures ∙ c.if-is-4.true), c.in_ok-read-3.ensures.name) refl

pub returns-in_err-read-clause-memory : goal.returns-in_err-read-clause-memory
returns-in_err-read-clause-memory g c =
    let p = err_from_is_err_and c.from_residual.result c.from_residual.ensures.1 in
    rw (p.1, p.2) (λ w. commit_begins g.row.A.Denot c.args.is_early (shown_words c.args.words) (sym c.is.ensures ∙ c.if-is.false) (sym c.is-else-is.ensures ∙ c.if-is-2.true) (c.in_err-read.ensures.memory (same_fault _ _ _ w)))

pub returns-in_err-read-2-clause-memory : goal.returns-in_err-read-2-clause-memory
returns-in_err-read-2-clause-memory g c =
    let p = err_from_is_err_and c.from_residual-in_err-read-2.result c.from_residual-in_err-read-2.ensures.1 in
    rw (p.1, p.2) (λ w. tag_begins g.row.A.Denot c.args.is_early (shown_words c.args.words) (sym c.is.ensures ∙ c.if-is.false) (sym c.is-else-is.ensures ∙ c.if-is-2.false) (sym c.is-else-is-2.ensures ∙ c.if-is-3.true) (c.in_err-read-2.ensures.memory (same_fault _ _ _ w)))

pub returns-in_err-read-3-clause-memory : goal.returns-in_err-read-3-clause-memory
returns-in_err-read-3-clause-memory g c =
    let p = err_from_is_err_and c.from_residual-in_err-read-3.result c.from_residual-in_err-read-3.ensures.1 in
    rw (p.1, p.2) (λ w. reset_begins g.row.A.Denot c.args.is_early (shown_words c.args.words) (sym c.is.ensures ∙ c.if-is.false) (sym c.is-else-is.ensures ∙ c.if-is-2.false) (sym c.is-else-is-2.ensures ∙ c.if-is-3.false) (sym c.is-else-is-3.ensures ∙ c.if-is-4.true) (c.in_err-read-3.ensures.memory (same_fault _ _ _ w)))
