-- Tags of blobs and of tags. Items stand the latest first here, so that what a line belongs to stands behind it.
-- Source: git-fast-import(1), "mark" and "tag".
use Rattle.std.specs.Prelude.{ℕ, ◌+◌, Bool, true, false, ◌&&◌, nat_eq, List, [], ◌∷◌, reverse, codes, Option, Some, None, if◌then◌else◌}
use Rattle.std.specs.Option.{option_or, option_map_or}
use Rattle.std.specs.Result.{result_ok}
use Rattle.std.specs.Str.{bytes_eq}
use Rattle.gx_model.specs.Texts.{Bytes, cut_at}
use Rattle.gx_model.specs.Streams.Items.{Item, Line, Data}
use Rattle.gx_model.specs.Streams.Lines.{mark_of}
use Rattle.gx_adapt.specs.Lines.{begins, is_reset_line}
use Rattle.gx_adapt.specs.declared.marks.Command.{Command}
use Rattle.gx_adapt.specs.declared.marks.Command.TheVariants.{Blob, Commit, Tag, Reset}

-- the command that a line begins, of those with a mark or a `from`
unfoldable pub command_begun : Bytes → Option Command
command_begun l =
    if bytes_eq l (codes "blob") then Some Blob
    else (if begins (codes "commit ") l then Some Commit
    else (if begins (codes "tag ") l then Some Tag
    else (if is_reset_line l then Some Reset else None)))

-- the command that these items are in: that of the latest line that begins one
abbrev pub command_of : List Item → Option Command
command_of [] = None
command_of (Line l ∷ earlier) = option_or (command_begun l) (command_of earlier)
command_of (Data x ∷ earlier) = command_of earlier

-- the mark behind a line's word, where it is this word
abbrev pub mark_in : Bytes → Option (Bytes × Bytes) → Option ℕ
mark_in word None = None
mark_in word (Some p) = if bytes_eq p.0 word then result_ok (mark_of p.1) else None

-- the same of a line, at its first space
unfoldable pub mark_behind : Bytes → Bytes → Option ℕ
mark_behind word l = mark_in word (cut_at 32 l)

-- a command whose mark no tag may have
abbrev pub is_blob_or_tag : Option Command → Bool
is_blob_or_tag None = false
is_blob_or_tag (Some Blob) = true
is_blob_or_tag (Some Commit) = false
is_blob_or_tag (Some Tag) = true
is_blob_or_tag (Some Reset) = false

abbrev pub is_tag : Option Command → Bool
is_tag None = false
is_tag (Some Blob) = false
is_tag (Some Commit) = false
is_tag (Some Tag) = true
is_tag (Some Reset) = false

-- whether a line sets this mark
abbrev pub sets_mark : Bytes → ℕ → Bool
sets_mark l number = option_map_or (nat_eq number) (mark_behind (codes "mark") l) false

-- whether a mark is that of a blob or a tag: the latest line that sets it stands in one
abbrev pub is_of_blob_or_tag : List Item → ℕ → Bool
is_of_blob_or_tag [] number = false
is_of_blob_or_tag (Line l ∷ earlier) number = if sets_mark l number then is_blob_or_tag (command_of earlier) else is_of_blob_or_tag earlier number
is_of_blob_or_tag (Data x ∷ earlier) number = is_of_blob_or_tag earlier number

-- whether an item is the `from` of a tag, and names such a mark
abbrev pub names_blob_or_tag : List Item → Item → Bool
names_blob_or_tag earlier (Line l) = is_tag (command_of earlier) && option_map_or (is_of_blob_or_tag earlier) (mark_behind (codes "from") l) false
names_blob_or_tag earlier (Data x) = false

-- how many items are so
abbrev pub many_named : List Item → ℕ
many_named [] = 0
many_named (i ∷ earlier) = if names_blob_or_tag earlier i then many_named earlier + 1 else many_named earlier

-- how many tags of a stream are of a blob or of a tag
abbrev pub tags_of_blobs_or_tags : List Item → ℕ
tags_of_blobs_or_tags is = many_named (reverse is)
