-- The patch of a path at which two trees differ: a text by the modes, the names and the contents of both files.
-- Source: git-diff(1), "GENERATING PATCH TEXT WITH -P", with `--full-index` and `--no-renames`; a hunk has no line of its function.
use Rattle.std.specs.Prelude.{◌≡◌, ◌==◌, Bool, true, false, List, [], ◌∷◌, ◌++◌, Option, Some, None, Result, OnOk, codes}
use Rattle.gx_model.specs.declared.objects.Mode.{Mode}
use Rattle.gx_model.specs.declared.objects.Mode.TheVariants.{Gitlink}
use Rattle.gx_model.specs.Histories.Files.{Leaf}
use Rattle.gx_model.specs.Records.HistoryOf.{Named, content_of}
use Rattle.gx_model.specs.Texts.{Bytes}
use Rattle.gx_model.specs.Texts.Paths.{path_text}
use Rattle.gx_differences.specs.Listed.{Standing}
use Rattle.gx_diff.specs.Lines.{status_of}
use Rattle.gx_patch.specs.Bodies.{TellsBody}
use Rattle.gx_patch.specs.Heads.{head_text, label, sided}

-- ---- the text of a file

abbrev pub is_submodule : Mode → Bool
is_submodule Gitlink = true
is_submodule mode = false

-- the line of a submodule, by the digits of its commit's name
abbrev pub submodule_text : Bytes → Bytes
submodule_text digits = codes "Subproject commit " ++ digits ++ 10 ∷ []

-- what a patch has of a file: its bytes, those of a link, or the line of a submodule
abbrev pub file_text : Mode → Bytes → Bytes
file_text Gitlink digits = submodule_text digits
file_text mode bytes = bytes

-- the text of a file that may be there, by the name of what it holds
abbrev pub side_text : Named → Option (Leaf Bytes) → Bytes
side_text named None = []
side_text named (Some leaf) = file_text leaf.0 (content_of named leaf.0 leaf.1)

-- ---- patches

-- the file of a path has another type
abbrev pub is_turned : Standing → Bool
is_turned s = status_of s == 84

-- a text is the patch of a path, where both files have these texts
abbrev pub TellsFile : Bytes → Option (Leaf Bytes) → Option (Leaf Bytes) → Bytes → Bytes → Bytes → Type 0
TellsFile path old new old_text new_text text =
    (body : Bytes) × TellsBody (label old (sided 97 path)) (label new (sided 98 path)) old_text new_text body
    × (text ≡ head_text (sided 97 path) (sided 98 path) old new ++ body)

module _ (named : Named) where
  -- a text is the patch of a path and the files that stand there before and after
  abbrev pub IsFilePatch : Bytes → Option (Leaf Bytes) → Option (Leaf Bytes) → Bytes → Type 0
  IsFilePatch path old new text = TellsFile path old new (side_text named old) (side_text named new) text

  -- the old file goes, and the new one comes
  abbrev pub IsTurned : Standing → Bytes → Type 0
  IsTurned s text = (goes comes : Bytes) × IsFilePatch (path_text s.0) s.1.0 None goes × IsFilePatch (path_text s.0) None s.1.1 comes
      × (text ≡ goes ++ comes)

  abbrev pub IsPatchBy : Bool → Standing → Bytes → Type 0
  IsPatchBy true s text = IsTurned s text
  IsPatchBy false s text = IsFilePatch (path_text s.0) s.1.0 s.1.1 text

  -- a text is the patch of a path at which two trees differ: where the type changes, in two parts
  abbrev pub IsPatch : Standing → Bytes → Type 0
  IsPatch s text = IsPatchBy (is_turned s) s text

  -- it is that of several paths, one behind the other
  abbrev pub ArePatches : List Standing → Bytes → Type 0
  ArePatches [] text = text ≡ []
  ArePatches (s ∷ ss) text = (patch rest : Bytes) × IsPatch s patch × ArePatches ss rest × (text ≡ patch ++ rest)

-- ---- what is appended

-- such a text stands behind what stood there
abbrev pub Puts : (Bytes → Type 0) → Bytes → Bytes → Type 0
Puts Is old new = (text : Bytes) × (new ≡ old ++ text) × Is text

abbrev pub PutsFile : {E : Type 0} → Bytes → Option (Leaf Bytes) → Option (Leaf Bytes) → Bytes → Bytes → Bytes → Bytes → Result (Unit {0}) E → Type 0
PutsFile path old new old_text new_text was now result = OnOk result (Puts (TellsFile path old new old_text new_text) was now)
