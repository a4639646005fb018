-- Worked rows: lines of texts, and what is answered to lines.
use Rattle.std.specs.Prelude.{◌≡◌, true, false, List, [], ◌∷◌, ◌++◌, map, replicate, codes, refl, Option, None, Some}
use Rattle.std.specs.Fmt.{digits}
use Rattle.gx_model.specs.declared.objects.Mode.TheVariants.{File, Gitlink}
use Rattle.gx_model.specs.Texts.{Bytes, cut_at}
use Rattle.gx_text.specs.Devices.{Coming}
use Rattle.gx_model.specs.declared.objects.Kind.TheVariants as kinds
use Rattle.gx_model.specs.Histories.Files.{FileMap}
use Rattle.gx_model.specs.Histories.Values.{Commit, blob_value, commit, commit_value, none, tree_value}
use Rattle.gx_model.specs.Histories.{History, at_commit}
use Rattle.gx_model.specs.Objects.Naming.{short_name}
use Rattle.gx_model.specs.Revisions.{revision_of}
use Rattle.gx_model.specs.Revisions.Denotation.{denoted}
use Rattle.gx_batch.specs.Answers.{batch_answer, batch_text}
use Rattle.gx_batch.specs.Formats.{default_format, default_parts, format_of, object_line, parts_behind}
use Rattle.gx_batch.specs.Lines.{lines_from, lines_of, without_crs}
use Rattle.gx_batch.specs.declared.ending.LineEnding.TheVariants.{Lf, Nul}
use Rattle.gx_batch.specs.declared.format.Part.{Part}
use Rattle.gx_batch.specs.declared.format.Part.TheVariants.{Byte, ObjectName, ObjectSize, ObjectType}

-- ---- lines

abbrev with_lf : Bytes → Bytes
with_lf l = l ++ 10 ∷ []

abbrev with_cr : Bytes → Bytes
with_cr l = l ++ 13 ∷ []

pub record LineRows : Type 0 where
  pub none : lines_of 10 [] false ≡ []
  pub last_without_lf : lines_of 10 (with_lf (codes "HEAD") ++ with_lf [] ++ codes "main:a b") false ≡ codes "HEAD" ∷ [] ∷ codes "main:a b" ∷ []
  pub last_with_lf : lines_of 10 (with_lf (codes "HEAD") ++ with_lf (codes "main")) false ≡ codes "HEAD" ∷ codes "main" ∷ []
  pub cut : lines_of 10 (with_lf (codes "HEAD") ++ codes "mai") true ≡ codes "HEAD" ∷ []

pub line_rows : LineRows
unfolding lines_of
line_rows = record { none = refl; last_without_lf = refl; last_with_lf = refl; cut = refl }

abbrev with_nul : Bytes → Bytes
with_nul l = l ++ 0 ∷ []

abbrev coming : Bytes → Coming
coming text = record { bytes = text; fails = false }

-- where lines end with NUL, an LF and a CR are bytes as others are
pub record NulRows : Type 0 where
  pub with_lfs : lines_from Nul (coming (with_nul (codes "HEAD") ++ with_nul (with_cr (codes "main:a")) ++ with_lf (codes "main:b"))) ≡ codes "HEAD" ∷ with_cr (codes "main:a") ∷ with_lf (codes "main:b") ∷ []
  pub with_nuls : lines_from Lf (coming (with_lf (with_nul (codes "HEAD")) ++ codes "main")) ≡ with_nul (codes "HEAD") ∷ codes "main" ∷ []

pub nul_rows : NulRows
unfolding lines_of without_crs
nul_rows = record { with_lfs = refl; with_nuls = refl }

-- one CR goes, and only before an LF
pub record CrRows : Type 0 where
  pub with_cr_lf : without_crs (with_lf (with_cr (codes "HEAD")) ++ codes "main") ≡ with_lf (codes "HEAD") ++ codes "main"
  pub with_two : without_crs (with_lf (with_cr (with_cr (codes "HEAD")))) ≡ with_lf (with_cr (codes "HEAD"))
  pub alone : without_crs (with_lf (with_cr [])) ≡ with_lf []
  pub without_lf : without_crs (with_cr (codes "HEAD")) ≡ with_cr (codes "HEAD")
  pub within : without_crs (with_lf (codes "a" ++ with_cr [] ++ codes "b")) ≡ with_lf (codes "a" ++ with_cr [] ++ codes "b")

pub cr_rows : CrRows
unfolding without_crs
cr_rows = record { with_cr_lf = refl; with_two = refl; alone = refl; without_lf = refl; within = refl }

-- ---- formats

abbrev format_lines : List (Bytes × Option (List Part))
format_lines =
    (default_format, Some default_parts)
    ∷ ([], Some [])
    ∷ (codes "a%(objectname)b", Some (Byte 97 ∷ ObjectName ∷ Byte 98 ∷ []))
    ∷ (codes "%(objectsize)%(objecttype)", Some (ObjectSize ∷ ObjectType ∷ []))
    ∷ (codes "%%(objectname)", Some (map Byte (codes "%(objectname)")))
    ∷ (codes "%%%(objecttype)", Some (Byte 37 ∷ ObjectType ∷ []))
    ∷ (codes "%x", Some (Byte 37 ∷ Byte 120 ∷ []))
    ∷ (codes "%", Some (Byte 37 ∷ []))
    ∷ (codes "%n%)", Some (map Byte (codes "%n%)")))
    ∷ (codes "%(rest)", None)
    ∷ (codes "%(deltabase)", None)
    ∷ (codes "%(objectsize:disk)", None)
    ∷ (codes "%(objectname ) ", None)
    ∷ (codes "%()", None)
    ∷ (codes "%((objecttype)", None)
    ∷ (codes "%(objectname", None)
    ∷ (codes "a%(", None)
    ∷ []

pub record FormatRows : Type 0 where
  pub table : map (λ r. format_of r.0) format_lines ≡ map (λ r. r.1) format_lines
  pub line : object_line (ObjectSize ∷ Byte 124 ∷ ObjectType ∷ []) (replicate 20 17) kinds.Blob 12 ≡ codes "12|blob" ++ 10 ∷ []
  pub empty : object_line [] (replicate 20 17) kinds.Blob 12 ≡ 10 ∷ []

pub format_rows : FormatRows
unfolding digits parts_behind
format_rows = record { table = refl; line = refl; empty = refl }

-- ---- answers

abbrev files : FileMap Bytes
files = (codes "a" ∷ [], (File, codes "hi")) ∷ (codes "sub" ∷ [], (Gitlink, replicate 40 49)) ∷ []

abbrev first : Commit
first = commit files none (record { author = codes "A <a@x> 1 +0000"; committer = codes "A <a@x> 1 +0000"; headers = []; message = codes "m" })

abbrev held : History
held = record { values = blob_value (codes "hi") ∷ tree_value files ∷ commit_value first ∷ []; refs = (codes "refs/heads/main", at_commit first) ∷ [] }

-- a short name's digits, up to the kind's number
abbrev ones : Bytes
ones = replicate 36 49

abbrev tree_bytes : Bytes
tree_bytes = codes "100644 a" ++ 0 ∷ (replicate 18 17 ++ 0 ∷ 2 ∷ (codes "160000 sub" ++ 0 ∷ replicate 20 17))

abbrev answers : List (Bytes × Bytes)
answers =
    (codes "main:a", with_lf (ones ++ codes "0002 blob 2") ++ with_lf (codes "hi"))
    ∷ (codes "main:", with_lf (ones ++ codes "013c tree 60") ++ with_lf tree_bytes)
    ∷ (codes "main:sub", with_lf (codes "main:sub missing"))
    ∷ (codes "main:sub/", with_lf (codes "main:sub/ missing"))
    ∷ (codes "main:a/", with_lf (codes "main:a/ missing"))
    ∷ (codes "main:/", with_lf (codes "main:/ missing"))
    ∷ (codes "main/", with_lf (codes "main/ missing"))
    ∷ (codes "main:b", with_lf (codes "main:b missing"))
    ∷ (codes "nope", with_lf (codes "nope missing"))
    ∷ (codes "a..b", with_lf (codes "a..b missing"))
    ∷ ([], with_lf (codes " missing"))
    ∷ (codes "1111", with_lf (codes "1111 ambiguous"))
    ∷ []

-- the same with a file in a directory
abbrev deep : FileMap Bytes
deep = (codes "d" ∷ codes "x" ∷ [], (File, codes "hi")) ∷ []

abbrev nested : Commit
nested = commit deep none (record { author = codes "A <a@x> 1 +0000"; committer = codes "A <a@x> 1 +0000"; headers = []; message = codes "m" })

abbrev held_nested : History
held_nested = record {
  values = blob_value (codes "hi") ∷ tree_value ((codes "x" ∷ [], (File, codes "hi")) ∷ []) ∷ tree_value deep ∷ commit_value nested ∷ [];
  refs = (codes "refs/heads/main", at_commit nested) ∷ [];
}

abbrev nested_lines : List Bytes
nested_lines = codes "main:d" ∷ codes "main:d/" ∷ codes "main^{tree}:d/" ∷ codes "main:d//" ∷ codes "main:/" ∷ codes "main:d/x/" ∷ []

abbrev directory : Bytes
directory = with_lf (ones ++ codes "011d tree 29")

pub record AnswerRows : Type 0 where
  pub table : map (λ r. batch_answer short_name false default_parts held r.0) answers ≡ map (λ r. r.1) answers
  -- with the first line alone, one after the other
  pub checked : batch_text short_name true default_parts held (codes "main:" ∷ codes "nope" ∷ codes "main:a" ∷ []) ≡ with_lf (ones ++ codes "013c tree 60") ++ with_lf (codes "nope missing") ++ with_lf (ones ++ codes "0002 blob 2")
  -- a slash behind a directory's path
  pub nested : batch_text short_name true default_parts held_nested nested_lines ≡ directory ++ directory ++ directory ++ with_lf (codes "main:d// missing") ++ with_lf (codes "main:/ missing") ++ with_lf (codes "main:d/x/ missing")

pub answer_rows : AnswerRows
unfolding cut_at digits revision_of denoted short_name
answer_rows = record { table = refl; checked = refl; nested = refl }
