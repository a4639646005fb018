-- What is answered to a line: the object that it names as a revision, or why there is none.
-- Source: git-cat-file(1), "BATCH OUTPUT", and what git 2.39 does with a `/` behind a path.
use Rattle.std.specs.Prelude.{Bool, nat_eq, if◌then◌else◌, List, [], ◌∷◌, ◌++◌, length, codes, Option, Some, None, Ok, Err}
use Rattle.std.specs.List.{ends_with, flat_map}
use Rattle.gx_model.specs.declared.objects.Kind.{Kind}
use Rattle.gx_model.specs.declared.faults.Fault.{Fault}
use Rattle.gx_model.specs.declared.faults.Fault.TheVariants.{Ambiguous, WrongKind}
use Rattle.gx_model.specs.Texts.{Bytes, cut_at, same_bytes}
use Rattle.gx_model.specs.Faults.{Given, ◌>>=◌}
use Rattle.gx_model.specs.Histories.Values.{Value, blob_value, commit_value, tag_value, tree_value}
use Rattle.gx_model.specs.Objects.{line}
use Rattle.gx_model.specs.Records.{body_of, kind_of, name_of}
use Rattle.gx_model.specs.Histories.{History}
use Rattle.gx_model.specs.Revisions.{revision_of, without_last}
use Rattle.gx_model.specs.Revisions.Denotation.{Shown, denoted, object, submodule}
use Rattle.gx_batch.specs.Formats.{object_line}
use Rattle.gx_batch.specs.declared.format.Part.{Part}

-- ---- what a line asks for

-- the slash that may end a path, alone
abbrev pub slash : Bytes
slash = codes "/"

-- a text without the slash at its end, where there is one
abbrev pub without_slash : Bytes → Option Bytes
without_slash text = if ends_with nat_eq text slash then Some (without_last 1 text) else None

-- a line's revision with the path of a directory: what stands before the slash at the end of its path, which isn't a slash alone
abbrev pub directory_in : Bytes → Option (Bytes × Bytes) → Option Bytes
directory_in asked None = None
directory_in asked (Some p) = if same_bytes p.1 slash then None else without_slash asked

abbrev pub directory_of : Bytes → Option Bytes
directory_of asked = directory_in asked (cut_at 58 asked)

-- a tree alone
abbrev pub only_tree : Shown → Given Shown
only_tree (object (tree_value files)) = Ok (object (tree_value files))
only_tree (object (blob_value bytes)) = Err WrongKind
only_tree (object (commit_value revision)) = Err WrongKind
only_tree (object (tag_value tag)) = Err WrongKind
only_tree (submodule digits) = Err WrongKind

-- ---- what is answered

-- why a line gives no object
abbrev pub reason : Fault → Bytes
reason Ambiguous = codes "ambiguous"
reason fault = codes "missing"

module _ (name : Kind → Bytes → Bytes) where
  -- what a text gives as a revision in a history
  abbrev pub given_by : History → Bytes → Given Shown
  given_by h text = revision_of text >>= denoted name h

  -- what a line asks for: a revision, or the tree of one with a slash behind its path
  abbrev pub asked_by : History → Bytes → Option Bytes → Given Shown
  asked_by h asked None = given_by h asked
  asked_by h asked (Some front) = given_by h front >>= only_tree

  abbrev pub asked_for : History → Bytes → Given Shown
  asked_for h asked = asked_by h asked (directory_of asked)

  -- an object's line in a format, and where its bytes are asked for these and an LF
  abbrev pub object_text : Bool → List Part → Value → Bytes
  object_text check parts value =
      object_line parts (name_of name value) (kind_of name value) (length (body_of name value)) ++ (if check then [] else body_of name value ++ 10 ∷ [])

  -- what is answered where this is shown; a submodule is no object
  abbrev pub answer_by : Bool → List Part → Bytes → Given Shown → Bytes
  answer_by check parts asked (Ok (object value)) = object_text check parts value
  answer_by check parts asked (Ok (submodule digits)) = line asked (codes "missing")
  answer_by check parts asked (Err fault) = line asked (reason fault)

  -- what is answered to a line in a history
  abbrev pub batch_answer : Bool → List Part → History → Bytes → Bytes
  batch_answer check parts h asked = answer_by check parts asked (asked_for h asked)

  -- what is answered to lines
  abbrev pub batch_text : Bool → List Part → History → List Bytes → Bytes
  batch_text check parts h = flat_map (batch_answer check parts h)
