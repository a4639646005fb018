use Rattle.std.proofs.Common.{sym, refl, ◌∙◌}
use Rattle.gx_model.specs.Streams.Grammar.{change_at}
use Rattle.gx_command.specs.Lines.{shown_words}
use Rattle.gx_command.proofs.BegunHeads.{cleared}
use Rattle.gx_command.proofs.change_lines.read_change.Goals.{then-is-2+in_ok-rest-2+in_ok-read_last_path, else-is-2+then-is-3+in_ok-rest-3+in_ok-source, else-is-2+else-is-3+then-is-4+in_ok-rest-4+in_ok-source-2, else-is-2+else-is-3+else-is-4+then-is-5+in_ok-change}
use Rattle.gx_command.proofs.change_lines.read_change.Goals as goal

pub returns : goal.returns
unfolding change_at
returns g c = λ s. elim c.if-is-2.branch [
  | then-is-2+in_ok-rest-2+in_ok-read_last_path w ↦ rw (sym c.of-words.ensures, sym c.is.ensures ∙ c.if-is.false, sym c.is-else-is.ensures ∙ w.if-is-2.true, w.in_ok-rest-2.ensures.rest, w.in_ok-read_last_path.ensures.path, w.change-is) refl
  | else-is-2+then-is-3+in_ok-rest-3+in_ok-source w ↦ rw (sym c.of-words.ensures, sym c.is.ensures ∙ c.if-is.false, sym c.is-else-is.ensures ∙ w.if-is-2.false, sym w.is-else-is-2.ensures ∙ w.if-is-3.true, w.in_ok-rest-3.ensures.rest, w.in_ok-source.ensures, w.change-is) refl
  | else-is-2+else-is-3+then-is-4+in_ok-rest-4+in_ok-source-2 w ↦ rw (sym c.of-words.ensures, sym c.is.ensures ∙ c.if-is.false, sym c.is-else-is.ensures ∙ w.if-is-2.false, sym w.is-else-is-2.ensures ∙ w.if-is-3.false, sym w.is-else-is-3.ensures ∙ w.if-is-4.true, w.in_ok-rest-4.ensures.rest, w.in_ok-source-2.ensures, w.change-is) refl
  | else-is-2+else-is-3+else-is-4+then-is-5+in_ok-change w ↦ rw (sym c.of-words.ensures, sym c.is.ensures ∙ c.if-is.false, sym c.is-else-is.ensures ∙ w.if-is-2.false, sym w.is-else-is-2.ensures ∙ w.if-is-3.false, sym w.is-else-is-3.ensures ∙ w.if-is-4.false, sym w.is-else-is-4.ensures ∙ w.if-is-5.true, cleared (shown_words c.of-words.result) s w.in_ok-change.change w.in_ok-change.ensures.bare, w.change-is) refl
]
