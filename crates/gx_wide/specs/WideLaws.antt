-- The laws of wide bodies and repositories. Source: gitglossary(7), "commit object" and "tag object".
use Rattle.gx_model.specs.declared.objects.Kind.{Kind}
use Rattle.gx_model.specs.Texts.{Bytes}
use Rattle.gx_model.specs.Histories.{Records}
use Rattle.gx_model.specs.Objects.{CommitParts, IsCommitText, IsTagText, TagParts}
use Rattle.gx_model.specs.Records.Sound.{IsSound}
use Rattle.gx_wide.specs.WideSound.{IsWide}
use Rattle.gx_wide.specs.WideTexts.{IsWideCommitText, IsWideTagText, widened_commit, widened_tag}

-- the body of a commit by identities with a message, or of a tag of a commit without further headers, is a wide one of the same parts
pub record BodiesAreWide : Type 0 where
  pub commits : (parts : CommitParts) (body : Bytes) → IsCommitText parts body → IsWideCommitText (widened_commit parts) body
  pub tags : (parts : TagParts) (body : Bytes) → IsTagText parts body → IsWideTagText (widened_tag parts) body

-- a sound repository is a wide one
abbrev pub SoundIsWide : (Kind → Bytes → Bytes) → Type 0
SoundIsWide name = (repository : Records) → IsSound name repository → IsWide name repository
