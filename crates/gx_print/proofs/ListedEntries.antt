-- The entries of a tree's listing: their lines are those of the file map.
use Rattle.std.proofs.Common.{◌≡◌, refl, ap, ◌∙◌, List, [], ◌∷◌, ◌++◌, map}
use Rattle.std.specs.List.{flat_map}
use Rattle.gx_model.specs.declared.objects.Kind.{Kind}
use Rattle.gx_model.specs.Texts.{Bytes}
use Rattle.gx_model.specs.Histories.Files.{FileMap, first_components}
use Rattle.gx_model.specs.Objects.{Entry, IsNamer}
use Rattle.gx_model.specs.Records.{entries, named_map}
use Rattle.gx_model.proofs.ObjectTexts.OneTree.{node_entry, spelling}
use Rattle.gx_print.specs.Listings.{entry_line, tree_lines}

lines_map : (g : Bytes → Entry) (cs : List Bytes) → flat_map entry_line (map g cs) ≡ flat_map (λ c. entry_line (g c)) cs
lines_map g [] = refl
lines_map g (c ∷ cs) = ap (λ x. entry_line (g c) ++ x) (lines_map g cs)

module _ (name : Kind → Bytes → Bytes) (namer : IsNamer name) where
  -- the lines of a tree's entries are those of its file map
  pub all_lines : (f : FileMap Bytes) → flat_map entry_line (entries name (named_map name f)) ≡ tree_lines name f
  all_lines f = ap (flat_map entry_line) (spelling name namer f) ∙ lines_map (node_entry name namer f) (first_components f)
