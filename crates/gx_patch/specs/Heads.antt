-- The lines before the changes of a patch. A file stands here by its mode and the name of what it holds.
-- Source: git-diff(1), "GENERATING PATCH TEXT WITH -P", with the full names of `--full-index`.
use Rattle.std.specs.Prelude.{ℕ, if◌then◌else◌, [], ◌∷◌, ◌++◌, Option, Some, None, codes}
use Rattle.gx_model.specs.declared.objects.Mode.{Mode}
use Rattle.gx_model.specs.Export.{mode_digits}
use Rattle.gx_model.specs.Histories.Files.{Leaf}
use Rattle.gx_model.specs.Histories.Values.{same_mode}
use Rattle.gx_model.specs.Texts.{Bytes, same_bytes}
use Rattle.gx_model.specs.Texts.Paths.{printed}
use Rattle.gx_diff.specs.Lines.{name_field}

-- ---- paths

-- a path as a side of a patch has it: behind a letter and a slash, and quoted where a path is
abbrev pub sided : ℕ → Bytes → Bytes
sided letter path = printed (letter ∷ 47 ∷ path)

-- what the changes of a side stand behind: the path as that side has it, or that there is no file
abbrev pub label : Option (Leaf Bytes) → Bytes → Bytes
label None sided = codes "/dev/null"
label (Some leaf) sided = sided

-- ---- modes

abbrev pub mode_line : Bytes → Mode → Bytes
mode_line words mode = words ++ mode_digits mode ++ 10 ∷ []

-- two modes, unless they are one
abbrev pub both_modes : Mode → Mode → Bytes
both_modes old new =
    if same_mode old new then [] else mode_line (codes "old mode ") old ++ mode_line (codes "new mode ") new

-- the mode of a file that is new or gone, or both modes
abbrev pub modes_text : Option (Leaf Bytes) → Option (Leaf Bytes) → Bytes
modes_text None None = []
modes_text None (Some new) = mode_line (codes "new file mode ") new.0
modes_text (Some old) None = mode_line (codes "deleted file mode ") old.0
modes_text (Some old) (Some new) = both_modes old.0 new.0

-- ---- names

-- a space and the mode that both files have, where they have one
abbrev pub shared_mode : Option (Leaf Bytes) → Option (Leaf Bytes) → Bytes
shared_mode (Some old) (Some new) = if same_mode old.0 new.0 then 32 ∷ mode_digits old.0 else []
shared_mode _ _ = []

-- the names of what the files hold, unless they are one; zeros stand for no file
abbrev pub names_text : Option (Leaf Bytes) → Option (Leaf Bytes) → Bytes
names_text old new =
    if same_bytes (name_field old) (name_field new) then []
    else codes "index " ++ name_field old ++ codes ".." ++ name_field new ++ shared_mode old new ++ 10 ∷ []

-- ---- the whole head

-- the head of the patch of a path that both sides have so
abbrev pub head_text : Bytes → Bytes → Option (Leaf Bytes) → Option (Leaf Bytes) → Bytes
head_text from to old new =
    codes "diff --git " ++ from ++ 32 ∷ to ++ 10 ∷ modes_text old new ++ names_text old new
