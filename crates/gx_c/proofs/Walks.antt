-- The commits that range words list, in lines.
use Rattle.std.proofs.Common.{◌≡◌, ℕ, ap, refl, sym, ◌∙◌, List, [], ◌∷◌, ◌++◌, map, Result, Ok, Err}
use Rattle.std.specs.List.{flat_map}
use Rattle.gx_model.specs.Faults.{Given}
use Rattle.gx_model.specs.Texts.{Bytes}
use Rattle.gx_model.specs.Revisions.Ranges.{WordFault}
use Rattle.gx_object.specs.declared.name.Name.{Name}
use Rattle.gx_rev.specs.declared.fault.RevFault.TheVariants.{OutOfMemory}
use Rattle.gx_c.specs.Answers.{AnswersSo, AnswersWords, digits_line}
use Rattle.gx_c.specs.declared.answer.Answer.{Answer}
use Rattle.gx_c.specs.declared.answer.Why.{Why}
use Rattle.gx_c.specs.declared.answer.Why.TheVariants.{Done, Empty, Field, Import, Item, Revision, Store, Unsupported}

-- names by their bytes
lines_of : (names : List Name) → flat_map (λ name. digits_line name.bytes) names ≡ flat_map digits_line (map (λ name. name.bytes) names)
lines_of [] = refl
lines_of (name ∷ names) = ap (λ text. digits_line name.bytes ++ text) (lines_of names)

-- the text of what is answered
abbrev text_of : Given (ℕ × Bytes) → Bytes
text_of (Ok answered) = answered.1
text_of (Err fault) = []

module _ {A : Type 0} (given : Result (List Bytes) WordFault) (answer : Answer A) (names : List Name) (is : given ≡ Ok (map (λ name. name.bytes) names)) where
  abbrev pub Lists : Bytes → Type 0
  Lists text = (called : List Bytes) × (given ≡ Ok called) × (text ≡ flat_map digits_line called)

  -- where the names' lines are answered, what range words list is
  pub walked : (why : Why) → answer.number ≡ 0 → AnswersSo (Ok (0, flat_map (λ name. digits_line name.bytes) names)) why answer → AnswersWords given Lists why answer
  walked Done none h = (map (λ name. name.bytes) names, is, sym (ap text_of h) ∙ lines_of names)
  walked (Revision OutOfMemory) none h = (none, h.1)
  walked (Revision fault) none h = absurd (cc h.0)
  walked (Import fault) none h = absurd h
  walked (Store fault) none h = absurd h
  walked (Item told) none h = absurd h
  walked Empty none h = absurd h
  walked Field none h = absurd h
  walked Unsupported none h = absurd h
