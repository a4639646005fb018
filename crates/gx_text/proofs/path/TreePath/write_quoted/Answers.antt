use Rattle.std.proofs.Common.{◌≡◌, ◌++◌, Ok, ap, sym, ◌∙◌}
use Rattle.gx_model.specs.Texts.{Bytes}
use Rattle.gx_model.specs.Texts.Paths.{Path, parts_of, path_of, path_text, printed}
use Rattle.gx_model.specs.Streams.Lines.{last_path}
use Rattle.gx_model.proofs.Texts.PathTexts.{text_of_parts}
use Rattle.gx_text.proofs.path.TreePath.write_quoted.Goals as goal

same_text : (p : Path) (text : Bytes) → parts_of text ≡ p → path_text p ≡ text
same_text p text e = ap path_text (sym e) ∙ text_of_parts text

again : (p : Path) (text seen : Bytes) → seen ≡ text → parts_of text ≡ p → path_of text ≡ Ok (parts_of text) → last_path (printed seen) ≡ path_of seen → last_path (printed (path_text p)) ≡ Ok p
again p text seen e v proper h = ap (λ t. last_path (printed t)) (same_text p text v ∙ sym e) ∙ h ∙ ap path_of e ∙ proper ∙ ap Ok v

pub returns-in-Ok-clause-printed : goal.returns-in-Ok-clause-printed
returns-in-Ok-clause-printed g c = c.in-Ok.ensures.ok ∙ ap (λ (t : Bytes). c.args.out.now.items ++ printed t) (c.deref.ensures.value ∙ sym (same_text c.args.self.now c.self.inside.text.items c.self.view_is))

pub returns-in-Ok-clause-again : goal.returns-in-Ok-clause-again
returns-in-Ok-clause-again g c = again c.args.self.now c.self.inside.text.items c.deref.result.now c.deref.ensures.value c.self.view_is c.self.invariant.0 c.put_printed.ensures.again

pub returns-in-Err-clause-again : goal.returns-in-Err-clause-again
returns-in-Err-clause-again g c = again c.args.self.now c.self.inside.text.items c.deref.result.now c.deref.ensures.value c.self.view_is c.self.invariant.0 c.put_printed.ensures.again
