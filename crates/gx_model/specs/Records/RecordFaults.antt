-- Why a record is refused by a repository: its body, its links, what is below it, its name.
-- Source: Pro Git, "Git Objects".
use Rattle.std.specs.Prelude.{Bool, true, false, not, ◌&&◌, ◌||◌, nat_eq, if◌then◌else◌, List, length, Option, None, Some, is_some}
use Rattle.std.specs.List.{list_all, list_any}
use Rattle.gx_model.specs.declared.objects.Kind.{Kind}
use Rattle.gx_model.specs.declared.objects.Kind.TheVariants as kind
use Rattle.gx_model.specs.declared.objects.Mode.{Mode}
use Rattle.gx_model.specs.declared.objects.Mode.TheVariants.{Gitlink, Dir}
use Rattle.gx_model.specs.declared.store_faults.FileFault.{FileFault}
use Rattle.gx_model.specs.declared.store_faults.FileFault.TheVariants as fault
use Rattle.gx_model.specs.Texts.{Bytes, same_bytes}
use Rattle.gx_model.specs.Texts.RefNames.{is_tag_name}
use Rattle.gx_model.specs.Texts.Paths.{is_short}
use Rattle.gx_model.specs.Histories.Values.{is_optional_ident, is_proper_text}
use Rattle.gx_model.specs.Objects.{CommitParts, Entry, TagParts, commit_text, is_canonical, is_dir, is_name, tag_text, tree_text}
use Rattle.gx_model.specs.Histories.{Record}
use Rattle.gx_model.specs.Records.HistoryOf.{commit_parts_in, entries_in, files_of_entries, named_values, tag_parts_in}
use Rattle.gx_model.specs.Records.Growth.{record_named, same_kind}

-- ---- bodies: each is the canonical text of the parts that are read in it

-- whether a body is a tree's
abbrev pub is_tree_body : Bytes → Bool
is_tree_body body =
    let es : List Entry = entries_in body in
    same_bytes body (tree_text es) && is_canonical es && list_all (λ e. is_name e.name) es

-- whether a body is a commit's
abbrev pub is_commit_body : Bytes → Bool
is_commit_body body =
    let p : CommitParts = commit_parts_in body in
    same_bytes body (commit_text p) && is_name p.tree && list_all is_name p.parents && is_proper_text p.text

-- whether a body is a tag's
abbrev pub is_tag_body : Bytes → Bool
is_tag_body body =
    let p : TagParts = tag_parts_in body in
    same_bytes body (tag_text p) && is_name p.object && is_tag_name p.name && is_optional_ident p.tagger

-- whether a body is one of its kind
abbrev pub is_body : Kind → Bytes → Bool
is_body kind.Blob body = true
is_body kind.Tree body = is_tree_body body
is_body kind.Commit body = is_commit_body body
is_body kind.Tag body = is_tag_body body

-- ---- links

-- some record held has this name, and it has this kind
abbrev pub is_of_kind : Kind → Option Record → Bool
is_of_kind k None = false
is_of_kind k (Some r) = same_kind r.kind k

-- whether a record of this kind and name is held
abbrev pub is_held : List Record → Kind → Bytes → Bool
is_held rs k n = is_of_kind k (record_named rs n)

-- a gitlink is no link
abbrev pub is_entry_held : List Record → Mode → Bytes → Bool
is_entry_held rs Gitlink n = true
is_entry_held rs Dir n = is_held rs kind.Tree n
is_entry_held rs _ n = is_held rs kind.Blob n

-- whether the links of a body are held with their kinds
abbrev pub are_links_held : List Record → Kind → Bytes → Bool
are_links_held rs kind.Blob body = true
are_links_held rs kind.Tree body = list_all (λ e. is_entry_held rs e.mode e.name) (entries_in body)
are_links_held rs kind.Commit body = is_held rs kind.Tree (commit_parts_in body).tree && list_all (is_held rs kind.Commit) (commit_parts_in body).parents
are_links_held rs kind.Tag body = is_held rs kind.Commit (tag_parts_in body).object

-- ---- what is below a tree

-- whether a tree has no entries
abbrev pub is_without_entries : Option Record → Bool
is_without_entries None = false
is_without_entries (Some r) = nat_eq (length r.body) 0

-- whether an entry names a tree without entries
abbrev pub has_empty_directory : List Record → Bytes → Bool
has_empty_directory rs body = list_any (λ e. is_dir e.mode && is_without_entries (record_named rs e.name)) (entries_in body)

-- whether a path below a tree is over 4,095 bytes
abbrev pub has_long_path : List Record → Bytes → Bool
has_long_path rs body = not (list_all (λ e. is_short e.0) (files_of_entries (named_values rs) (entries_in body)))

-- whether what is below a tree is bad
abbrev pub is_bad_below : List Record → Kind → Bytes → Bool
is_bad_below rs kind.Tree body = has_empty_directory rs body || has_long_path rs body
is_bad_below rs _ body = false

-- ---- in this order

-- why a body of this kind isn't taken, whatever its name
unfoldable pub content_fault : List Record → Kind → Bytes → Option FileFault
content_fault rs k body =
    if not (is_body k body) then Some fault.BadObject
    else (if not (are_links_held rs k body) then Some fault.Dangling
    else (if is_bad_below rs k body then Some fault.BadObject else None))

-- a fault, or else DuplicateObject where the name is held
abbrev pub or_duplicate : Option FileFault → Bool → Option FileFault
or_duplicate (Some f) held = Some f
or_duplicate None held = if held then Some fault.DuplicateObject else None

-- why a record with this name, kind and body isn't added to these
unfoldable pub record_fault : List Record → Record → Option FileFault
record_fault rs r = or_duplicate (content_fault rs r.kind r.body) (is_some (record_named rs r.name))
