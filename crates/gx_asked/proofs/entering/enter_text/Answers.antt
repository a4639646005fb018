use Rattle.std.proofs.Common.{ℕ, List, sym, subst, ◌∙◌}
use Rattle.std.specs.declared.vec.Vec.{Vec}
use Rattle.gx_asked.specs.Asking.{IsAmong, texts_of}
use Rattle.gx_asked.specs.Entering.{KeepsTexts}
use Rattle.gx_asked.proofs.EnteredTexts.{found, inserted, others_kept}
use Rattle.gx_asked.proofs.entering.enter_text.Goals as goal

pub returns-in_ok-insert-clause-kept : goal.returns-in_ok-insert-clause-kept
returns-in_ok-insert-clause-kept g c =
    subst (λ (ks : List (Vec ℕ g.row.A.Denot)). KeepsTexts c.args.texts.now.keys ks) (sym c.in_ok-insert.ensures.keys) (others_kept c.args.texts.now.keys c.in_ok-from_slice.field-0)

pub returns-in_ok-insert-clause-entered : goal.returns-in_ok-insert-clause-entered
returns-in_ok-insert-clause-entered g c =
    subst (IsAmong (texts_of c.insert.new.self.keys)) c.in_ok-from_slice.ensures.items
    (subst (λ (ks : List (Vec ℕ g.row.A.Denot)). IsAmong (texts_of ks) c.in_ok-from_slice.field-0.items) (sym c.in_ok-insert.ensures.keys) (inserted c.args.texts.now.keys c.in_ok-from_slice.field-0))

pub returns-else-not-contains-clause-entered : goal.returns-else-not-contains-clause-entered
returns-else-not-contains-clause-entered g c = found c.args.texts.now.keys c.args.text.now (sym c.contains.ensures ∙ c.if-not-contains.false)
