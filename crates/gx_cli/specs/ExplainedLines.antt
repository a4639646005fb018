-- The lines that explain a refused import.
-- Source: git-fast-import(1), "from", "filemodify" to "filedeleteall", and "force".
use Rattle.std.specs.Prelude.{ℕ, [], ◌∷◌, ◌++◌, Option, Some, None, codes}
use Rattle.std.specs.Fmt.{decimal}
use Rattle.std.specs.Option.{option_map_or}
use Rattle.gx_model.specs.Texts.{Bytes}
use Rattle.gx_model.specs.Texts.Paths.{Path, path_text, printed}
use Rattle.gx_model.specs.Objects.{hex}
use Rattle.gx_import.specs.declared.explanation.Asked.{Asked}
use Rattle.gx_import.specs.declared.explanation.Asked.TheVariants.{Mark, Object, Text}
use Rattle.gx_import.specs.declared.explanation.Explanation.{Explanation}
use Rattle.gx_import.specs.declared.explanation.RefLoss.{RefLoss}

-- where a change has a path, it stands behind its number as paths are printed
abbrev pub behind_number : Option Path → Bytes
behind_number None = 10 ∷ []
behind_number (Some path) = codes ": " ++ printed (path_text path) ++ 10 ∷ []

-- the number of the change that is refused, and its path
abbrev pub change_line : ℕ → Option Path → Bytes
change_line number path = codes "gx: change " ++ decimal number ++ behind_number path

-- what was asked for: a colon and the number of a mark, a text as paths are printed, or the digits of an object's name
abbrev pub asked_text : {A : Type 0} → Asked A → Bytes
asked_text (Mark number) = 58 ∷ decimal number
asked_text (Text text) = printed text.items
asked_text (Object name) = name.digits

-- the line of what was asked for in vain
abbrev pub asked_line : {A : Type 0} → Asked A → Bytes
asked_line asked = codes "gx: asked for " ++ asked_text asked ++ 10 ∷ []

-- the ref that would lose a commit, the digits of its commit and those of the new one
abbrev pub loss_line : {A : Type 0} → RefLoss A → Bytes
loss_line loss = codes "gx: " ++ loss.name.items ++ codes ": from " ++ hex loss.old.bytes ++ codes " to " ++ hex loss.new.bytes ++ 10 ∷ []

-- what is told of a refusal, one line for each
abbrev pub explanation_text : {A : Type 0} → Explanation A → Bytes
explanation_text told =
    option_map_or (λ number. change_line number told.path) told.change [] ++ option_map_or asked_line told.asked [] ++ option_map_or loss_line told.loss []

-- what stands before the text of a line: its number, from 1, and the byte at which it begins, from 0
abbrev pub place_head : ℕ → ℕ → Bytes
place_head line byte = codes "gx: line " ++ decimal line ++ codes ", byte " ++ decimal byte ++ codes ": "

-- where an item of a stream stands
abbrev pub item_line : ℕ → ℕ → Bytes → Bytes
item_line line byte text = place_head line byte ++ printed text ++ 10 ∷ []
