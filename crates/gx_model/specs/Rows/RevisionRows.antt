-- Worked rows on revisions and range words: how they are read, and what they give.
use Rattle.std.specs.Prelude.{◌≡◌, ◌^◌, ◌-◌, List, [], ◌∷◌, ◌++◌, map, replicate, codes, Option, Some, None, Result, Ok, Err, refl}
use Rattle.std.specs.Fmt.{digits}
use Rattle.gx_model.specs.declared.objects.Mode.TheVariants.{File}
use Rattle.gx_model.specs.declared.faults.Fault.TheVariants as fault
use Rattle.gx_model.specs.Texts.{Bytes, cut_at}
use Rattle.gx_model.specs.Texts.Idents.{is_ident}
use Rattle.gx_model.specs.Texts.Paths.{char_at, unquote_within, quoted_of}
use Rattle.gx_model.specs.Streams.Items.{counted_block, lines_before, delimited, first_line, first_of, read_upto, items_of}
use Rattle.gx_model.specs.Streams.Grammar.{unsigned_in, item_after_in, modify_at, two_paths, change_at, changes_within, merges_within, blob_at, commit_at, links_at, tag_at, reset_at, command_at, commands_within}
use Rattle.gx_model.specs.Streams.Lines.{rest_line_in, block_in, mark_of, commit_ish_of, last_path, source_path}
use Rattle.gx_model.specs.Faults.{Given}
use Rattle.gx_model.specs.Revisions.{AllParents, Alone, Apart, Between, RangeWord, Revision, Suffix, WithAncestors, WithoutAncestors, WithoutOne, ancestor, as_blob, as_commit, as_tag, as_tree, itself, parent, peeled, range_of, revision_of}
use Rattle.gx_model.specs.Histories.Files.{FileMap}
use Rattle.gx_model.specs.Histories.Values.{Commit, CommitText, Tag, blob_value, commit, commit_value, more, none, tag_value, tree_value}
use Rattle.gx_model.specs.Records.{name_of}
use Rattle.gx_model.specs.Histories.{History, at_commit, at_tag}
use Rattle.gx_model.specs.Revisions.Denotation.{Shown, denoted, object}
use Rattle.gx_model.specs.Revisions.Ranges.{WordFault, listed}
use Rattle.gx_model.specs.Objects.Naming.{short_name}
use Rattle.gx_model.specs.Replay.{imported_asked}
use Rattle.gx_model.specs.Rows.RowTexts.{history_of_lines, log, shown}

-- ---- how they are read

abbrev rev : Bytes → List Suffix → Option (List Bytes) → Revision
rev b ss p = record { base = b; suffixes = ss; path = p }

abbrev plain : Bytes → Revision
plain b = rev b [] None

abbrev revisions : List (Bytes × Given Revision)
revisions =
    (codes "main", Ok (rev (codes "main") [] None))
    ∷ (codes "@", Ok (rev (codes "HEAD") [] None))
    ∷ (codes "@~2^3", Ok (rev (codes "HEAD") (ancestor 2 ∷ parent 3 ∷ []) None))
    ∷ (codes "a^", Ok (rev (codes "a") (parent 1 ∷ []) None))
    ∷ (codes "a^^0~~0", Ok (rev (codes "a") (parent 1 ∷ parent 0 ∷ ancestor 1 ∷ ancestor 0 ∷ []) None))
    ∷ (codes "a^{}^{object}^{commit}^{blob}^{tree}^{tag}", Ok (rev (codes "a") (peeled ∷ itself ∷ as_commit ∷ as_blob ∷ as_tree ∷ as_tag ∷ []) None))
    ∷ (codes "a^007:", Ok (rev (codes "a") (parent 7 ∷ []) (Some [])))
    ∷ (codes "a:b/c^1:d", Ok (rev (codes "a") [] (Some (codes "b" ∷ codes "c^1:d" ∷ []))))
    ∷ ([], Err fault.BadRevision)
    ∷ (codes "a..b", Err fault.BadRevision)
    ∷ (codes "^a", Err fault.BadRevision)
    ∷ (codes ":a", Err fault.BadRevision)
    ∷ (codes "a^{branch}", Err fault.BadRevision)
    ∷ (codes "a^{/text}", Err fault.BadRevision)
    ∷ (codes "a^{tree", Err fault.BadRevision)
    ∷ (codes "a@{1}", Err fault.BadRevision)
    ∷ (codes "a^1x", Err fault.BadRevision)
    ∷ (codes "a^-", Err fault.BadRevision)
    ∷ (codes "a^18446744073709551615", Ok (rev (codes "a") (parent (2 ^ 64 - 1) ∷ []) None))
    ∷ (codes "a~18446744073709551616", Err fault.BadRevision)
    ∷ (codes "a:b//c", Err fault.BadPath)
    ∷ (codes "a^x:b//c", Err fault.BadRevision)
    ∷ []

abbrev range_words : List (Bytes × Given RangeWord)
range_words =
    (codes "a", Ok (WithAncestors (plain (codes "a"))))
    ∷ (codes "^a", Ok (WithoutAncestors (plain (codes "a"))))
    ∷ (codes "a..b", Ok (Between (plain (codes "a")) (plain (codes "b"))))
    ∷ (codes "a...b", Ok (Apart (plain (codes "a")) (plain (codes "b"))))
    ∷ (codes "a..", Ok (Between (plain (codes "a")) (plain (codes "HEAD"))))
    ∷ (codes "...b", Ok (Apart (plain (codes "HEAD")) (plain (codes "b"))))
    ∷ (codes "a^@", Ok (AllParents (plain (codes "a"))))
    ∷ (codes "a^!", Ok (Alone (plain (codes "a"))))
    ∷ (codes "a^-", Ok (WithoutOne (plain (codes "a")) 1))
    ∷ (codes "a~2^-3", Ok (WithoutOne (rev (codes "a") (ancestor 2 ∷ []) None) 3))
    ∷ (codes "^@", Ok (WithoutAncestors (plain (codes "HEAD"))))
    ∷ (codes "..", Err fault.BadRevision)
    ∷ (codes "...", Err fault.BadRevision)
    ∷ (codes "....", Err fault.BadRevision)
    ∷ (codes "a..^b", Err fault.BadRevision)
    ∷ (codes "^a^@", Err fault.BadRevision)
    ∷ (codes "a^-0", Err fault.BadRevision)
    ∷ (codes "a^-18446744073709551616", Err fault.BadRevision)
    ∷ (codes "a:b//c^-0", Err fault.BadPath)
    ∷ []

pub revisions_read : map (λ r. revision_of r.0) revisions ≡ map (λ r. r.1) revisions
unfolding cut_at revision_of short_name
revisions_read = refl

pub range_words_read : map (λ r. range_of r.0) range_words ≡ map (λ r. r.1) range_words
unfolding cut_at revision_of range_of short_name
range_words_read = refl

-- ---- a commit that is made twice

abbrev root_on : Bytes → List Bytes
root_on ref = (codes "commit " ++ ref) ∷ codes "committer A <a@x> 1 +0000" ∷ codes "data 1" ∷ codes "r" ∷ []

abbrev twice : History
twice = history_of_lines (root_on (codes "refs/heads/x") ++ root_on (codes "refs/heads/y"))

abbrev says : Bytes → CommitText
says x = record { author = codes "A <a@x> 1 +0000"; committer = codes "A <a@x> 1 +0000"; headers = []; message = x }

abbrev root : Commit
root = commit [] none (says (codes "r"))

pub record TwiceRows : Type 0 where
  -- it is one commit, listed once
  pub one : twice.values ≡ tree_value [] ∷ commit_value root ∷ []
  pub same : map (shown twice) (codes "x" ∷ codes "y" ∷ []) ≡ replicate 2 (Ok (object (commit_value root)))
  pub between : log twice (codes "x..y" ∷ []) ≡ Ok []
  pub apart : log twice (codes "x...y" ∷ []) ≡ Ok []
  pub both : log twice (codes "x" ∷ codes "y" ∷ []) ≡ Ok (root ∷ [])

pub twice_rows : TwiceRows
unfolding char_at unsigned_in item_after_in rest_line_in block_in cut_at is_ident unquote_within quoted_of mark_of commit_ish_of last_path source_path modify_at two_paths change_at changes_within merges_within blob_at commit_at links_at tag_at reset_at command_at commands_within counted_block lines_before delimited first_line first_of read_upto items_of digits revision_of imported_asked denoted range_of listed short_name
twice_rows = record { one = refl; same = refl; between = refl; apart = refl; both = refl }

-- ---- two roots and their merge

abbrev commit_on : Bytes → Bytes → List Bytes → List Bytes
commit_on x mark ls =
    (codes "commit refs/heads/" ++ x) ∷ (codes "mark :" ++ mark) ∷ codes "committer A <a@x> 1 +0000" ∷ codes "data 1" ∷ x ∷ ls

abbrev merged : History
merged =
    history_of_lines (commit_on (codes "p") (codes "1") [] ++ commit_on (codes "q") (codes "2") [] ++ commit_on (codes "y") (codes "3") (codes "merge :1" ∷ codes "merge :2" ∷ []))

abbrev p : Commit
p = commit [] none (says (codes "p"))

abbrev q : Commit
q = commit [] none (says (codes "q"))

abbrev y : Commit
y = commit [] (more p (more q none)) (says (codes "y"))

-- a commit with a `from` and a `merge`, and one with a `merge` alone on a branch that has a commit
abbrev both_given : History
both_given =
    history_of_lines (commit_on (codes "p") (codes "1") [] ++ commit_on (codes "q") (codes "2") [] ++ commit_on (codes "y") (codes "3") (codes "from :2" ∷ codes "merge :1" ∷ []) ++ commit_on (codes "p") (codes "4") (codes "merge :2" ∷ []))

abbrev of_commit : Commit → Given Shown
of_commit c = Ok (object (commit_value c))

abbrev merged_revisions : List (Bytes × Given Shown)
merged_revisions =
    (codes "y^1", of_commit p)
    ∷ (codes "y^2", of_commit q)
    ∷ (codes "y^0", of_commit y)
    ∷ (codes "y~", of_commit p)
    ∷ (codes "y~0", of_commit y)
    ∷ (codes "y^3", Err fault.NoParent)
    ∷ (codes "y~2", Err fault.NoParent)
    ∷ (codes "y^{tree}", Ok (object (tree_value [])))
    ∷ (codes "y^{tree}^", Err fault.WrongKind)
    ∷ (codes "y:a", Err fault.NoSuchPath)
    ∷ (codes "z", Err fault.UnknownRef)
    ∷ []

abbrev logs : List (List Bytes × Result (List Commit) WordFault)
logs =
    (codes "y" ∷ [], Ok (y ∷ q ∷ p ∷ []))
    ∷ (codes "y^@" ∷ [], Ok (q ∷ p ∷ []))
    ∷ (codes "y^!" ∷ [], Ok (y ∷ []))
    ∷ (codes "y^-" ∷ [], Ok (y ∷ q ∷ []))
    ∷ (codes "y^-2" ∷ [], Ok (y ∷ p ∷ []))
    ∷ (codes "p...q" ∷ [], Ok (q ∷ p ∷ []))
    ∷ (codes "p..y" ∷ [], Ok (y ∷ q ∷ []))
    ∷ (codes "y..p" ∷ [], Ok [])
    ∷ (codes "y" ∷ codes "^q" ∷ [], Ok (y ∷ p ∷ []))
    ∷ (codes ".." ∷ [], Err (record { word = 1; fault = fault.BadRevision }))
    ∷ (codes "y" ∷ codes "p..z" ∷ [], Err (record { word = 2; fault = fault.UnknownRef }))
    ∷ (codes "z" ∷ codes "x" ∷ [], Err (record { word = 1; fault = fault.UnknownRef }))
    ∷ (codes "z" ∷ codes ".." ∷ [], Err (record { word = 2; fault = fault.BadRevision }))
    ∷ (codes "y^-3" ∷ [], Err (record { word = 1; fault = fault.NoParent }))
    ∷ (codes "y^{tree}" ∷ [], Err (record { word = 1; fault = fault.WrongKind }))
    ∷ (codes "y" ∷ codes "..y" ∷ [], Err (record { word = 2; fault = fault.UnknownRef }))
    ∷ []

pub record MergeRows : Type 0 where
  pub revisions : map (λ r. shown merged r.0) merged_revisions ≡ map (λ r. r.1) merged_revisions
  -- the newest made first; all words are read before one is evaluated
  pub ranges : map (λ r. log merged r.0) logs ≡ map (λ r. r.1) logs
  -- the first parent is that of `from`, or else the branch's own commit
  pub from_first : map (shown both_given) (codes "y^1" ∷ codes "y^2" ∷ codes "p^1" ∷ codes "p^2" ∷ []) ≡ of_commit q ∷ of_commit p ∷ of_commit p ∷ of_commit q ∷ []
  -- the names are those of the commits
  pub names : listed short_name merged (WithAncestors (plain (codes "y")) ∷ []) ≡ Ok (map (λ c. name_of short_name (commit_value c)) (y ∷ q ∷ p ∷ []))

pub merge_rows : MergeRows
unfolding char_at unsigned_in item_after_in rest_line_in block_in cut_at is_ident unquote_within quoted_of mark_of commit_ish_of last_path source_path modify_at two_paths change_at changes_within merges_within blob_at commit_at links_at tag_at reset_at command_at commands_within counted_block lines_before delimited first_line first_of read_upto items_of digits revision_of imported_asked denoted range_of listed short_name
merge_rows = record { revisions = refl; ranges = refl; from_first = refl; names = refl }

-- ---- a tag

abbrev first_commit : List Bytes
first_commit =
    codes "commit refs/heads/main" ∷
    codes "mark :1" ∷
    codes "committer A <a@x> 1 +0000" ∷
    codes "data 2" ∷
    codes "v1" ∷
    codes "M 100644 inline test.txt" ∷
    codes "data 10" ∷
    codes "version 1" ∷ []

abbrev tagged : History
tagged = history_of_lines (first_commit ++ codes "tag v1" ∷ codes "from :1" ∷ codes "data 3" ∷ codes "one" ∷ codes "reset refs/tags/v1" ∷ codes "from :1" ∷ [])

abbrev version_1 : Bytes
version_1 = codes "version 1" ++ 10 ∷ []

abbrev test_files : FileMap Bytes
test_files = (codes "test.txt" ∷ [], (File, version_1)) ∷ []

abbrev tagged_commit : Commit
tagged_commit = commit test_files none (says (codes "v1"))

abbrev tag : Tag
tag = record { target = tagged_commit; name = codes "v1"; tagger = None; message = codes "one" }

abbrev tag_revisions : List (Bytes × Given Shown)
tag_revisions =
    (codes "v1", Ok (object (tag_value tag)))
    ∷ (codes "v1^{}", of_commit tagged_commit)
    ∷ (codes "main", of_commit tagged_commit)
    ∷ (codes "v1^0", of_commit tagged_commit)
    ∷ (codes "v1^{commit}", of_commit tagged_commit)
    ∷ (codes "v1^{tree}:", Ok (object (tree_value test_files)))
    ∷ (codes "v1:test.txt", Ok (object (blob_value version_1)))
    ∷ (codes "v1^{tag}", Ok (object (tag_value tag)))
    ∷ (codes "v1^{object}", Ok (object (tag_value tag)))
    ∷ (codes "v1^{blob}", Err fault.WrongKind)
    ∷ (codes "main^{tag}", Err fault.WrongKind)
    ∷ (codes "v1^", Err fault.NoParent)
    ∷ []

pub record TagRows : Type 0 where
  -- the tag is set over the branch of its ref
  pub refs : tagged.refs ≡ (codes "refs/heads/main", at_commit tagged_commit) ∷ (codes "refs/tags/v1", at_tag tag) ∷ []
  pub revisions : map (λ r. shown tagged r.0) tag_revisions ≡ map (λ r. r.1) tag_revisions

pub tag_rows : TagRows
unfolding char_at unsigned_in item_after_in rest_line_in block_in cut_at is_ident unquote_within quoted_of mark_of commit_ish_of last_path source_path modify_at two_paths change_at changes_within merges_within blob_at commit_at links_at tag_at reset_at command_at commands_within counted_block lines_before delimited first_line first_of read_upto items_of digits revision_of imported_asked denoted range_of listed short_name
tag_rows = record { refs = refl; revisions = refl }

-- ---- names by their digits

-- the blobs `a` and `ab`, whose short names differ in their last digit
abbrev two_blobs : History
two_blobs = record { values = blob_value (codes "a") ∷ blob_value (codes "ab") ∷ []; refs = [] }

abbrev digit_revisions : List (Bytes × Given Shown)
digit_revisions =
    (codes "1111", Err fault.Ambiguous)
    ∷ (replicate 36 49 ++ codes "000", Err fault.Ambiguous)
    ∷ (replicate 36 49 ++ codes "0001", Ok (object (blob_value (codes "a"))))
    ∷ (replicate 36 49 ++ codes "0002", Ok (object (blob_value (codes "ab"))))
    ∷ (codes "111", Err fault.UnknownRef)
    ∷ (codes "ffff", Err fault.UnknownRef)
    ∷ (replicate 40 102, Err fault.UnknownObject)
    ∷ (replicate 41 49, Err fault.UnknownRef)
    ∷ []

-- a blob whose name has letters among its digits: its length is 171
abbrev long_blob : History
long_blob = record { values = blob_value (replicate 171 97) ∷ []; refs = [] }

abbrev lettered : List Bytes
lettered = (replicate 36 49 ++ codes "00ab") ∷ (replicate 36 49 ++ codes "00AB") ∷ (replicate 36 49 ++ codes "00A") ∷ []

pub record DigitRows : Type 0 where
  pub table : map (λ r. shown two_blobs r.0) digit_revisions ≡ map (λ r. r.1) digit_revisions
  -- digits are of either case
  pub either_case : map (shown long_blob) lettered ≡ replicate 3 (Ok (object (blob_value (replicate 171 97))))

pub digit_rows : DigitRows
unfolding char_at unsigned_in item_after_in rest_line_in block_in cut_at is_ident unquote_within quoted_of mark_of commit_ish_of last_path source_path modify_at two_paths change_at changes_within merges_within blob_at commit_at links_at tag_at reset_at command_at commands_within counted_block lines_before delimited first_line first_of read_upto items_of digits revision_of imported_asked denoted range_of listed short_name
digit_rows = record { table = refl; either_case = refl }
