-- What a revision shows, as text: bytes, digits, the body of a commit or a tag, and a tree's entries as lines.
-- Source: git-cat-file(1) and git-ls-tree(1), "OUTPUT FORMAT".
use Rattle.std.specs.Prelude.{[], ◌∷◌, ◌++◌, Ok}
use Rattle.std.specs.List.{flat_map}
use Rattle.std.specs.Option.{option_map}
use Rattle.gx_model.specs.declared.objects.Kind.{Kind}
use Rattle.gx_model.specs.Texts.{Bytes}
use Rattle.gx_model.specs.Faults.{Given, ◌>>=◌}
use Rattle.gx_model.specs.Texts.Paths.{printed}
use Rattle.gx_model.specs.Histories.Files.{FileMap, file_at, first_components, sub_map}
use Rattle.gx_model.specs.Histories.Values.{Value, blob_value, commit_value, tag_value, tree_value}
use Rattle.gx_model.specs.Objects.{Entry}
use Rattle.gx_model.specs.Records.{commit_body, content_name, entry, node, tag_body, tree_name}
use Rattle.gx_model.specs.Histories.{History}
use Rattle.gx_model.specs.Revisions.{revision_of}
use Rattle.gx_rev.specs.Entries.{entry_head}
use Rattle.gx_model.specs.Revisions.Denotation.{Shown, denoted, object, submodule}

-- an entry's line: its mode, its kind, its name's digits, and behind a TAB its component as a path is printed
abbrev pub entry_line : Entry → Bytes
entry_line listed = entry_head listed.mode listed.name ++ printed listed.component ++ 10 ∷ []

module _ (name : Kind → Bytes → Bytes) where
  -- what a first component of a file map names: a file's content, or else the tree of its sub-map
  abbrev pub listed_entry : FileMap Bytes → Bytes → Entry
  listed_entry files component = entry name component (node name (option_map (λ leaf. (leaf.0, content_name name leaf.0 leaf.1)) (file_at files (component ∷ []))) (tree_name name (sub_map files (component ∷ []))))

  -- the lines of a file map's first components
  abbrev pub tree_lines : FileMap Bytes → Bytes
  tree_lines files = flat_map (λ component. entry_line (listed_entry files component)) (first_components files)

  -- a blob's bytes, a tree's lines, and the body of a commit or a tag
  abbrev pub value_text : Value → Bytes
  value_text (blob_value bytes) = bytes
  value_text (tree_value files) = tree_lines files
  value_text (commit_value made) = commit_body name made
  value_text (tag_value tag) = tag_body name tag

  -- the text of what is shown; a submodule's digits
  abbrev pub shown_text : Shown → Bytes
  shown_text (object value) = value_text value
  shown_text (submodule digits) = digits

  -- the text that a word shows as a revision in a history
  abbrev pub text_of_word : History → Bytes → Given Bytes
  text_of_word h word = (revision_of word >>= denoted name h) >>= λ shown. Ok (shown_text shown)
