-- The parts of commits and tags without where they lie in memory.
use Rattle.std.specs.Prelude.{◌≡◌, ◌++◌, codes, Option, Result, IsOkAnd}
use Rattle.std.specs.Borrow.{Bor}
use Rattle.std.specs.Option.{option_copied, option_map}
use Rattle.gx_model.specs.Objects.{CommitParts, TagParts, optional_line}
use Rattle.gx_model.specs.Texts.{Bytes}
use Rattle.gx_text.specs.Idents.{ident_bytes}
use Rattle.gx_object.specs.Commits.{bytes_of_names, parents_of}
use Rattle.gx_object.specs.declared.name.Name.{Name}
use Rattle.gx_object.specs.declared.commit.CommitParts.{CommitParts as GivenCommit}
use Rattle.gx_object.specs.declared.tag.TagParts.{TagParts as GivenTag}

-- where a body is the text of something, that is what is found
abbrev pub FindsEach : {T E : Type 0} → (T → Bytes → Type 0) → Bytes → Result T E → Type 0
FindsEach {T} is_text body result = (written : T) → is_text written body → IsOkAnd result (λ found. found ≡ written)

-- the bytes of a name that may be absent
abbrev pub bytes_if : Option Name → Option Bytes
bytes_if name = option_map (λ name. name.bytes) name

abbrev pub commit_parts : GivenCommit → CommitParts
commit_parts p = record {
  tree = p.tree.bytes;
  parents = bytes_of_names p.parents.now;
  text = record {
    author = ident_bytes p.author;
    committer = ident_bytes p.committer;
    headers = optional_line (codes "encoding") (option_copied p.encoding) ++ p.further.now;
    message = p.message.now;
  };
}

abbrev pub tag_parts : GivenTag → TagParts
tag_parts p = record { object = p.object.bytes; name = p.name.now; tagger = option_map ident_bytes p.tagger; message = p.message.now }

-- what a commit's body was cut into, where the parents' lines stand uncut
abbrev pub shown_commit : Name → Bor Bytes → Bor Bytes → Bor Bytes → Bor Bytes → Bor Bytes → CommitParts
shown_commit tree parents author committer headers message = record {
  tree = tree.bytes;
  parents = (parents_of parents.now).0;
  text = record {
    author = author.now;
    committer = committer.now;
    headers = headers.now;
    message = message.now;
  };
}

-- what a tag's body was cut into
abbrev pub shown_tag : Name → Bor Bytes → Option (Bor Bytes) → Bor Bytes → TagParts
shown_tag object name tagger message = record { object = object.bytes; name = name.now; tagger = option_copied tagger; message = message.now }
