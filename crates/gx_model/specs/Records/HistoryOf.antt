-- The history that records give: each body is read, with the values of the records before it at hand. Source: Pro Git, "Git Objects".
use Rattle.std.specs.Prelude.{ℕ, zero, suc, nat_eq, if◌then◌else◌, List, [], ◌∷◌, ◌++◌, map, take, drop, length, Option, None, Some}
use Rattle.std.specs.List.{flat_map}
use Rattle.gx_model.specs.declared.objects.Kind.{Kind}
use Rattle.gx_model.specs.declared.objects.Kind.TheVariants as kind
use Rattle.gx_model.specs.declared.objects.Mode.{Mode}
use Rattle.gx_model.specs.declared.objects.Mode.TheVariants.{File, Exec, Link, Gitlink, Dir}
use Rattle.gx_model.specs.Texts.{Bytes, same_bytes}
use Rattle.gx_model.specs.Texts.Headers.{headers_in}
use Rattle.gx_model.specs.Histories.Files.{FileMap}
use Rattle.gx_model.specs.Histories.Values.{Commit, CommitText, Tag, Value, blob_value, commit, commit_value, commits_of, none, tag_value, tree_value}
use Rattle.gx_model.specs.Objects.{CommitParts, Entry, TagParts, hex, mode_text, unhex}
use Rattle.gx_model.specs.Histories.{History, Record, Records, Target, at_commit, at_tag}

-- ---- the parts of a body

-- what stands before the first of this byte, and after it
abbrev pub sides_at : ℕ → Bytes → Bytes × Bytes
sides_at mark [] = ([], [])
sides_at mark (x ∷ xs) = if nat_eq x mark then ([], xs) else (x ∷ (sides_at mark xs).0, (sides_at mark xs).1)

-- the mode that a text writes
abbrev pub mode_in : Bytes → Mode
mode_in text =
    if same_bytes text (mode_text File) then File
    else if same_bytes text (mode_text Exec) then Exec
    else if same_bytes text (mode_text Link) then Link
    else if same_bytes text (mode_text Gitlink) then Gitlink
    else Dir

-- the entry that a tree body begins with
abbrev pub entry_in : Bytes → Entry
entry_in body = record { mode = mode_in (sides_at 32 body).0; component = (sides_at 0 (sides_at 32 body).1).0; name = take 20 (sides_at 0 (sides_at 32 body).1).1 }

-- what follows the first entry
abbrev pub after_entry : Bytes → Bytes
after_entry body = drop 20 (sides_at 0 (sides_at 32 body).1).1

-- the entries of a tree body, at most n
abbrev pub entries_in_to : ℕ → Bytes → List Entry
entries_in_to zero body = []
entries_in_to (suc n) [] = []
entries_in_to (suc n) (x ∷ xs) = entry_in (x ∷ xs) ∷ entries_in_to n (after_entry (x ∷ xs))

-- the entries of a tree's body
abbrev pub entries_in : Bytes → List Entry
entries_in body = entries_in_to (length body) body

-- a line's rest, after a word and its space of this length; and what follows the line
abbrev pub field : ℕ → Bytes → Bytes × Bytes
field word text = sides_at 10 (drop word text)

-- the names in the lines that begin with a p, and what follows these lines
abbrev pub parents_in_to : ℕ → Bytes → List Bytes × Bytes
parents_in_to zero text = ([], text)
parents_in_to (suc n) [] = ([], [])
parents_in_to (suc n) (x ∷ xs) =
    if nat_eq x 112 then (unhex (field 6 xs).0 ∷ (parents_in_to n (field 6 xs).1).0, (parents_in_to n (field 6 xs).1).1) else ([], x ∷ xs)

-- a line with a word of this length, or none; and what follows the empty line
abbrev pub optional_in : ℕ → Bytes → Option Bytes × Bytes
optional_in word [] = (None, [])
optional_in word (x ∷ xs) = if nat_eq x 10 then (None, xs) else (Some (field word xs).0, drop 1 (field word xs).1)

-- the texts of a commit, behind its parents
abbrev pub text_in : Bytes → CommitText
text_in text =
    let author = field 7 text in
    let committer = field 10 author.1 in
    let headers = headers_in committer.1 in
    record { author = author.0; committer = committer.0; headers = headers.0; message = headers.1 }

-- the parts of a commit body
abbrev pub commit_parts_in : Bytes → CommitParts
commit_parts_in body =
    let tree = field 5 body in
    let parents = parents_in_to (length tree.1) tree.1 in
    record { tree = unhex tree.0; parents = parents.0; text = text_in parents.1 }

-- the parts of a tag body
abbrev pub tag_parts_in : Bytes → TagParts
tag_parts_in body =
    let object = field 7 body in
    let name = field 4 (field 5 object.1).1 in
    let tagger = optional_in 6 name.1 in
    record { object = unhex object.0; name = name.0; tagger = tagger.0; message = tagger.1 }

-- ---- the value of a body

-- the bytes of a value that is a blob
abbrev pub bytes_of_blob : Value → Bytes
bytes_of_blob (blob_value bytes) = bytes
bytes_of_blob _ = []

-- the file map of a value that is a tree
abbrev pub files_of_tree : Value → FileMap Bytes
files_of_tree (tree_value files) = files
files_of_tree _ = []

-- texts that are all empty
abbrev pub no_text : CommitText
no_text = record { author = []; committer = []; headers = []; message = [] }

-- the commit of a value that is one
abbrev pub commit_of_value : Value → Commit
commit_of_value (commit_value revision) = revision
commit_of_value _ = commit [] none no_text

-- the values at hand, by their names
abbrev pub Named : Type 0
Named = List (Bytes × Value)

-- the value of a name
abbrev pub value_named : Named → Bytes → Value
value_named [] name = blob_value []
value_named (k ∷ ks) name = if same_bytes name k.0 then k.1 else value_named ks name

-- what is at or below an entry, with its component taken off
abbrev pub files_at : Named → Mode → Bytes → FileMap Bytes
files_at named Dir name = files_of_tree (value_named named name)
files_at named Gitlink name = ([], (Gitlink, hex name)) ∷ []
files_at named mode name = ([], (mode, bytes_of_blob (value_named named name))) ∷ []

-- files with a component before each path
abbrev pub placed : Bytes → FileMap Bytes → FileMap Bytes
placed component files = map (λ entry. (component ∷ entry.0, entry.1)) files

-- the file map that entries give
abbrev pub files_of_entries : Named → List Entry → FileMap Bytes
files_of_entries named = flat_map (λ entry. placed entry.component (files_at named entry.mode entry.name))

-- the commit of the parts of a body
abbrev pub commit_of_parts : Named → CommitParts → Commit
commit_of_parts named parts = commit (files_of_tree (value_named named parts.tree)) (commits_of (map (λ name. commit_of_value (value_named named name)) parts.parents)) parts.text

-- the tag of the parts of a body
abbrev pub tag_of_parts : Named → TagParts → Tag
tag_of_parts named parts = record { target = commit_of_value (value_named named parts.object); name = parts.name; tagger = parts.tagger; message = parts.message }

-- the value of a body of this kind
abbrev pub value_in : Named → Kind → Bytes → Value
value_in named kind.Blob body = blob_value body
value_in named kind.Tree body = tree_value (files_of_entries named (entries_in body))
value_in named kind.Commit body = commit_value (commit_of_parts named (commit_parts_in body))
value_in named kind.Tag body = tag_value (tag_of_parts named (tag_parts_in body))

-- ---- the history

-- the values by their names, with that of one record more
abbrev pub with_record : Named → Record → Named
with_record named held = named ++ (held.name, value_in named held.kind held.body) ∷ []

-- the values of records, by their names, after those at hand
abbrev pub named_from : Named → List Record → Named
named_from named [] = named
named_from named (r ∷ rs) = named_from (with_record named r) rs

-- the values of records, by their names
abbrev pub named_values : List Record → Named
named_values = named_from []

-- what a ref with this value holds
abbrev pub target_in : Value → Target
target_in (tag_value tag) = at_tag tag
target_in value = at_commit (commit_of_value value)

-- of a sound repository, the history that it stands for
abbrev pub history_of : Records → History
history_of repository = record {
  values = map (λ named. named.1) (named_values repository.records);
  refs = map (λ ref. (ref.0, target_in (value_named (named_values repository.records) ref.1))) repository.refs;
}

-- the value that a name has among records
abbrev pub value_of_name : List Record → Bytes → Value
value_of_name records name = value_named (named_values records) name

-- ---- a map of names, as the map of what they name

-- what a file with this name holds
abbrev pub content_of : Named → Mode → Bytes → Bytes
content_of named Gitlink name = hex name
content_of named mode name = bytes_of_blob (value_named named name)

-- a map of names, with what they name
abbrev pub contents_of : Named → FileMap Bytes → FileMap Bytes
contents_of named names = map (λ entry. (entry.0, (entry.1.0, content_of named entry.1.0 entry.1.1))) names
