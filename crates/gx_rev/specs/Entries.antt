-- What is printed of a tree's entry before its path. Source: git-ls-tree(1), "OUTPUT FORMAT".
use Rattle.std.specs.Prelude.{[], ◌∷◌, ◌++◌}
use Rattle.gx_model.specs.declared.objects.Kind.{Kind}
use Rattle.gx_model.specs.declared.objects.Kind.TheVariants.{Blob, Commit, Tree}
use Rattle.gx_model.specs.declared.objects.Mode.{Mode}
use Rattle.gx_model.specs.declared.objects.Mode.TheVariants.{Dir, Gitlink}
use Rattle.gx_model.specs.Export.{mode_digits}
use Rattle.gx_model.specs.Objects.{hex}
use Rattle.gx_model.specs.Objects.Naming.{kind_word}
use Rattle.gx_model.specs.Texts.{Bytes}

-- the kind of what an entry of this mode names
abbrev pub kind_of_mode : Mode → Kind
kind_of_mode Dir = Tree
kind_of_mode Gitlink = Commit
kind_of_mode _ = Blob

-- the mode in six octal digits and that kind, each with a space behind it
abbrev pub mode_and_kind : Mode → Bytes
mode_and_kind mode = mode_digits mode ++ 32 ∷ kind_word (kind_of_mode mode) ++ 32 ∷ []

-- the two, the digits of what is named, and a TAB
abbrev pub entry_head : Mode → Bytes → Bytes
entry_head mode name = mode_and_kind mode ++ hex name ++ 9 ∷ []
