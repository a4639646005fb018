use Rattle.std.proofs.Common.{◌≡◌, ◌++◌, length, take, sym, ◌∙◌}
use Rattle.std.specs.Cmp.Lexicographic.{bytes_decides}
use Rattle.std.proofs.lemmas.List.{take-append-drop}
use Rattle.gx_object.proofs.Readings.{text_left, text_some, text_stands}
use Rattle.gx_object.proofs.tree.TreeEntries.pass.Goals as goal

pub invariant_of-self : goal.invariant_of-self
invariant_of-self c =
    let cases = c.in-Some.ensures.cases in
    let text = c.args.text.now in
    let bytes = c.self.inside.rest.now in
    let parts : bytes ≡ text ++ c.in-Some.rest.now = sym (take-append-drop (length text) bytes) ∙ (λ i. (bytes_decides (take (length text) bytes) text).0 cases.0 i ++ sym cases.1 i) in
    text_some c.requires.text.0 text bytes c.in-Some.rest.now c.requires.text.1 parts c.self.invariant

pub returns-in-Some-clause-passed : goal.returns-in-Some-clause-passed
returns-in-Some-clause-passed c = λ _ e is.
    let cases = c.in-Some.ensures.cases in
    let text = c.args.text.now in
    let bytes = c.self.inside.rest.now in
    let parts : bytes ≡ text ++ c.in-Some.rest.now = sym (take-append-drop (length text) bytes) ∙ (λ i. (bytes_decides (take (length text) bytes) text).0 cases.0 i ++ sym cases.1 i) in
    sym c.self.view_is ∙ text_left e text bytes c.in-Some.rest.now is parts c.self.invariant

pub returns-in-None-clause-met : goal.returns-in-None-clause-met
returns-in-None-clause-met c = λ e es is is_first.
    let text = c.args.text.now in
    let bytes = c.self.inside.rest.now in
    let stands : take (length text) bytes ≡ text = text_stands e es text bytes is c.self.invariant (c.self.view_is ∙ is_first) in
    sym c.in-None.ensures.cases ∙ (bytes_decides (take (length text) bytes) text).1 stands
