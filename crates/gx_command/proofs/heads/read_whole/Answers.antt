use Rattle.std.proofs.Common.{sym, ◌∙◌, refl, inr}
use Rattle.std.proofs.lemmas.Result.{err_from_is_err_and}
use Rattle.gx_command.proofs.BegunCommands.{option_begins, progress_begins}
use Rattle.gx_command.proofs.BegunHeads.{at_checkpoint, at_done, at_feature, at_left_out, at_option, at_progress, at_unknown, fails_first, is_whole, is_whole_of}
use Rattle.gx_command.proofs.heads.read_whole.Goals as goal

pub returns-then-is-clause-begins : goal.returns-then-is-clause-begins
returns-then-is-clause-begins g c = λ s. rw (at_checkpoint g.row.A.Denot c.args.is_early _ s c.requires (sym c.is.ensures ∙ c.if-is.true)) (is_whole _ s _ c.bare.ensures.bare)

pub returns-then-is-2-clause-begins : goal.returns-then-is-2-clause-begins
returns-then-is-2-clause-begins g c = λ s. rw (at_progress g.row.A.Denot c.args.is_early _ s c.requires (sym c.is.ensures ∙ c.if-is.false) (sym c.is-else-is.ensures ∙ c.if-is-2.true)) (is_whole_of _ s _ c.read_progress.ensures.reads)

pub returns-in_err-read_feature-clause-begins : goal.returns-in_err-read_feature-clause-begins
returns-in_err-read_feature-clause-begins g c = λ s.
    let p = err_from_is_err_and c.from_residual.result c.from_residual.ensures.1 in
    rw (p.1, p.2, at_feature g.row.A.Denot c.args.is_early _ s c.requires (sym c.is.ensures ∙ c.if-is.false) (sym c.is-else-is.ensures ∙ c.if-is-2.false) (sym c.is-else-is-2.ensures ∙ c.if-is-3.true)) (fails_first _ _ _ c.in_err-read_feature.ensures.reads)

pub returns-in_ok-read_feature-clause-begins : goal.returns-in_ok-read_feature-clause-begins
returns-in_ok-read_feature-clause-begins g c = λ s. rw (at_feature g.row.A.Denot c.args.is_early _ s c.requires (sym c.is.ensures ∙ c.if-is.false) (sym c.is-else-is.ensures ∙ c.if-is-2.false) (sym c.is-else-is-2.ensures ∙ c.if-is-3.true), c.in_ok-read_feature.ensures.reads) refl

pub returns-then-is-4-clause-begins : goal.returns-then-is-4-clause-begins
returns-then-is-4-clause-begins g c = λ s. rw (at_option g.row.A.Denot c.args.is_early _ s c.requires (sym c.is.ensures ∙ c.if-is.false) (sym c.is-else-is.ensures ∙ c.if-is-2.false) (sym c.is-else-is-2.ensures ∙ c.if-is-3.false) (sym c.is-else-is-3.ensures ∙ c.if-is-4.true)) (is_whole_of _ s _ c.read_option.ensures.reads)

pub returns-then-is-5-clause-begins : goal.returns-then-is-5-clause-begins
returns-then-is-5-clause-begins g c = λ s. rw (at_done g.row.A.Denot c.args.is_early _ s c.requires (sym c.is.ensures ∙ c.if-is.false) (sym c.is-else-is.ensures ∙ c.if-is-2.false) (sym c.is-else-is-2.ensures ∙ c.if-is-3.false) (sym c.is-else-is-3.ensures ∙ c.if-is-4.false) (sym c.is-else-is-4.ensures ∙ c.if-is-5.true)) (is_whole _ s _ c.bare-then-is-5.ensures.bare)

pub returns-then-is_left_out-clause-begins : goal.returns-then-is_left_out-clause-begins
returns-then-is_left_out-clause-begins g c = λ s. inr (rw (at_left_out g.row.A.Denot c.args.is_early _ s c.requires (sym c.is.ensures ∙ c.if-is.false) (sym c.is-else-is.ensures ∙ c.if-is-2.false) (sym c.is-else-is-2.ensures ∙ c.if-is-3.false) (sym c.is-else-is-3.ensures ∙ c.if-is-4.false) (sym c.is-else-is-4.ensures ∙ c.if-is-5.false) (sym c.is_left_out.ensures ∙ c.if-is_left_out.true)) refl)

pub returns-else-is_left_out-clause-begins : goal.returns-else-is_left_out-clause-begins
returns-else-is_left_out-clause-begins g c = λ s. inr (rw (at_unknown g.row.A.Denot c.args.is_early _ s c.requires (sym c.is.ensures ∙ c.if-is.false) (sym c.is-else-is.ensures ∙ c.if-is-2.false) (sym c.is-else-is-2.ensures ∙ c.if-is-3.false) (sym c.is-else-is-3.ensures ∙ c.if-is-4.false) (sym c.is-else-is-4.ensures ∙ c.if-is-5.false) (sym c.is_left_out.ensures ∙ c.if-is_left_out.false)) refl)

pub returns-then-is-2-clause-memory : goal.returns-then-is-2-clause-memory
returns-then-is-2-clause-memory g c = λ w. progress_begins g.row.A.Denot c.args.is_early _ c.requires (sym c.is.ensures ∙ c.if-is.false) (sym c.is-else-is.ensures ∙ c.if-is-2.true) (c.read_progress.ensures.memory w)

pub returns-then-is-4-clause-memory : goal.returns-then-is-4-clause-memory
returns-then-is-4-clause-memory g c = λ w. option_begins g.row.A.Denot c.args.is_early _ c.requires (sym c.is.ensures ∙ c.if-is.false) (sym c.is-else-is.ensures ∙ c.if-is-2.false) (sym c.is-else-is-2.ensures ∙ c.if-is-3.false) (sym c.is-else-is-3.ensures ∙ c.if-is-4.true) (c.read_option.ensures.memory w)
