-- What stand-ins stand for: objects of a small repository that have the names of what a whole one holds.
-- Source: Pro Git, "Git Objects", on names, and git-fast-import(1), "Commands".
use Rattle.std.specs.Prelude.{◌≡◌, IsTrue, map, Option, None, Some, ⊤}
use Rattle.std.specs.List.{AllByRecursion, list_all}
use Rattle.gx_model.specs.declared.objects.Kind.{Kind}
use Rattle.gx_model.specs.declared.objects.Kind.TheVariants as kind
use Rattle.gx_model.specs.declared.objects.Mode.{Mode}
use Rattle.gx_model.specs.declared.objects.Mode.TheVariants.{Gitlink}
use Rattle.gx_model.specs.Texts.{Bytes}
use Rattle.gx_model.specs.Objects.{CommitParts, commit_text, is_name}
use Rattle.gx_model.specs.Histories.Files.{FileMap, Leaf}
use Rattle.gx_model.specs.Histories.Values.{Commit, CommitText, Commits, Tag, Value, blob_value, commit, commit_value, more, none, tag_value, tree_value}
use Rattle.gx_model.specs.Histories.{Target, at_commit, at_tag}
use Rattle.gx_model.specs.Records.{commit_body, content_name}

-- What the bytes of a blob stand for, and which parents and texts the texts of a commit without parents stand for, where they
-- stand for others.
pub record StandIns : Type 0 where
  pub bytes : Bytes → Bytes
  pub elders : CommitText → Option (Commits × CommitText)

-- ---- what values stand for

module _ (ins : StandIns) where
  -- a gitlink's digits stand for themselves
  abbrev pub whole_content : Mode → Bytes → Bytes
  whole_content Gitlink digits = digits
  whole_content _ bytes = ins.bytes bytes

  -- the mode stays
  abbrev pub whole_leaf : Leaf Bytes → Leaf Bytes
  whole_leaf leaf = (leaf.0, whole_content leaf.0 leaf.1)

  -- the same paths
  abbrev pub whole_files : FileMap Bytes → FileMap Bytes
  whole_files files = map (λ entry. (entry.0, whole_leaf entry.1)) files

  -- a commit of these files; one without parents whose texts stand for others has those, and the parents of what it stands for
  abbrev pub with_elders : FileMap Bytes → Commits → CommitText → Commit
  with_elders files none text = elim (ins.elders text) [ None ↦ commit files none text | Some elders ↦ commit files elders.0 elders.1 ]
  with_elders files (more c cs) text = commit files (more c cs) text

  abbrev mutual
    -- the files of a commit stand for others, and so do its parents
    pub whole_commit : Commit → Commit
    whole_commit (commit files parents text) = with_elders (whole_files files) (whole_commits parents) text

    -- each of some parents
    pub whole_commits : Commits → Commits
    whole_commits none = none
    whole_commits (more c cs) = more (whole_commit c) (whole_commits cs)

  -- the target of a tag stands for another
  abbrev pub whole_tag : Tag → Tag
  whole_tag tag = record tag { target = whole_commit tag.target }

  -- what a ref holds
  abbrev pub whole_target : Target → Target
  whole_target (at_commit revision) = at_commit (whole_commit revision)
  whole_target (at_tag tag) = at_tag (whole_tag tag)

  -- the value for which a value stands
  abbrev pub whole_value : Value → Value
  whole_value (blob_value bytes) = blob_value (ins.bytes bytes)
  whole_value (tree_value files) = tree_value (whole_files files)
  whole_value (commit_value revision) = commit_value (whole_commit revision)
  whole_value (tag_value tag) = tag_value (whole_tag tag)

-- ---- names

-- names of the small repository's objects are those of the whole one's for each tree and each tag
pub record AreNamers (stand name : Kind → Bytes → Bytes) : Type 0 where
  pub trees : (body : Bytes) → stand kind.Tree body ≡ name kind.Tree body
  pub tags : (body : Bytes) → stand kind.Tag body ≡ name kind.Tag body

module _ (stand name : Kind → Bytes → Bytes) (ins : StandIns) where
  -- a file's content is named as what it stands for
  abbrev pub LeafKeepsName : Leaf Bytes → Type 0
  LeafKeepsName leaf = content_name stand leaf.0 leaf.1 ≡ content_name name leaf.0 (whole_content ins leaf.0 leaf.1)

  -- and so is each of a file map
  abbrev pub FilesKeepNames : FileMap Bytes → Type 0
  FilesKeepNames files = AllByRecursion (λ entry. LeafKeepsName entry.1) files

  abbrev mutual
    -- a commit is named as the one for which it stands, its files and its ancestors are
    pub CommitKeepsName : Commit → Type 0
    CommitKeepsName (commit files parents text) =
        (stand kind.Commit (commit_body stand (commit files parents text)) ≡ name kind.Commit (commit_body name (whole_commit ins (commit files parents text))))
        × FilesKeepNames files × CommitsKeepNames parents

    -- each of some parents is
    pub CommitsKeepNames : Commits → Type 0
    CommitsKeepNames none = ⊤
    CommitsKeepNames (more c cs) = CommitKeepsName c × CommitsKeepNames cs

  -- a value is named as the one for which it stands, and so is what it is made of
  abbrev pub ValueKeepsName : Value → Type 0
  ValueKeepsName (blob_value bytes) = stand kind.Blob bytes ≡ name kind.Blob (ins.bytes bytes)
  ValueKeepsName (tree_value files) = FilesKeepNames files
  ValueKeepsName (commit_value revision) = CommitKeepsName revision
  ValueKeepsName (tag_value tag) = CommitKeepsName tag.target

  -- bytes that stand for themselves, as a blob of one name
  pub record AreOwnBytes (bytes : Bytes) : Type 0 where
    pub same : ins.bytes bytes ≡ bytes
    pub named : stand kind.Blob bytes ≡ name kind.Blob bytes

  -- texts that stand for no others: each commit that has them has one name
  pub record AreOwnTexts (text : CommitText) : Type 0 where
    pub same : ins.elders text ≡ None
    pub named : (parts : CommitParts) → parts.text ≡ text → IsTrue (is_name parts.tree) → IsTrue (list_all is_name parts.parents)
        → stand kind.Commit (commit_text parts) ≡ name kind.Commit (commit_text parts)
