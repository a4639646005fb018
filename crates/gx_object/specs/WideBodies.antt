-- The bodies of all commits and tags that Git has, read from the left.
use Rattle.std.specs.Prelude.{◌≡◌, codes, Option, Some, Result, IsOkAnd}
use Rattle.std.specs.Option.{option_copied}
use Rattle.gx_model.specs.declared.objects.Kind.{Kind}
use Rattle.gx_model.specs.Texts.{Bytes}
use Rattle.gx_wide.specs.WideTexts.{WideCommitParts, WideTagParts, kind_of_word, tail_of}
use Rattle.gx_object.specs.Lines.{◌>>=◌, field, name_field, or_absent}
use Rattle.gx_object.specs.Commits.{bytes_of_names, parents_of}
use Rattle.gx_object.specs.declared.any_commit.AnyCommit.{AnyCommit}
use Rattle.gx_object.specs.declared.any_commit.AnyCommitParts.{AnyCommitParts}
use Rattle.gx_object.specs.declared.any_tag.AnyTag.{AnyTag}

unfoldable pub any_commit_of : Bytes → Option WideCommitParts
any_commit_of body = do
  tree ← name_field (codes "tree") body
  author ← field (codes "author") (parents_of tree.1).1
  committer ← field (codes "committer") author.1
  tail ← tail_of committer.1
  Some (record {
    tree = tree.0;
    parents = (parents_of tree.1).0;
    text = record { author = author.0; committer = committer.0; headers = tail.0; message = tail.1 };
  })

-- the kind that a tag tells of its object, and what follows the line
unfoldable pub kind_field : Bytes → Option (Kind × Bytes)
kind_field bytes = do
  a ← field (codes "type") bytes
  of_kind ← kind_of_word a.0
  Some (of_kind, a.1)

-- who a line at the front names as the tagger, and what follows it
abbrev pub any_tagger_and_rest : Bytes → Option Bytes × Bytes
any_tagger_and_rest bytes = or_absent (field (codes "tagger") bytes) bytes

unfoldable pub any_tag_of : Bytes → Option WideTagParts
any_tag_of body = do
  object ← name_field (codes "object") body
  of_kind ← kind_field object.1
  name ← field (codes "tag") of_kind.1
  tail ← tail_of (any_tagger_and_rest name.1).1
  Some (record { object = object.0; of_kind = of_kind.0; name = name.0; tagger = (any_tagger_and_rest name.1).0; further = tail.0; message = tail.1 })

-- ---- parts without where they lie in memory

abbrev pub shown_any_commit : AnyCommit → WideCommitParts
shown_any_commit c = record {
  tree = c.tree.bytes;
  parents = c.parents;
  text = record { author = c.author.now; committer = c.committer.now; headers = c.headers.now; message = option_copied c.message };
}

abbrev pub given_any_commit : AnyCommitParts → WideCommitParts
given_any_commit p = record {
  tree = p.tree.bytes;
  parents = bytes_of_names p.parents.now;
  text = record {
    author = p.author.now;
    committer = p.committer.now;
    headers = p.headers.now;
    message = option_copied p.message;
  };
}

abbrev pub shown_any_tag : AnyTag → WideTagParts
shown_any_tag t = record {
  object = t.object.bytes;
  of_kind = t.kind;
  name = t.name.now;
  tagger = option_copied t.tagger;
  further = t.further.now;
  message = option_copied t.message;
}

-- what is found, seen so, is the text of the body, and nothing is found where it is none
abbrev pub Reads : {X T E : Type 0} → (X → T) → (T → Bytes → Type 0) → Bytes → Result X E → Type 0
Reads {X} {T} view is_text body result = (written : T) → is_text written body → IsOkAnd result (λ found. view found ≡ written)
