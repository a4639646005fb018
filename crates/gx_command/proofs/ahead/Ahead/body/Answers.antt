use Rattle.std.proofs.Common.{refl}
use Rattle.gx_command.specs.Views.{shown_blob, shown_commit, shown_tag, shown_reset, shown_command}
use Rattle.gx_command.proofs.Sequences.{reads_as}
use Rattle.gx_command.proofs.Explained.{explained_as}
use Rattle.gx_command.proofs.ahead.Ahead.body.Goals as goal

pub returns-in_ok-blob-in-Blob-clause-reads : goal.returns-in_ok-blob-in-Blob-clause-reads
returns-in_ok-blob-in-Blob-clause-reads g c = rw c.in-Blob.is (reads_as shown_blob shown_command _ _ _ _ _ refl c.in_ok-blob-in-Blob.ensures.reads)

pub returns-in_ok-commit-in-Commit-clause-reads : goal.returns-in_ok-commit-in-Commit-clause-reads
returns-in_ok-commit-in-Commit-clause-reads g c = rw c.in-Commit.is (reads_as shown_commit shown_command _ _ _ _ _ refl c.in_ok-commit-in-Commit.ensures.reads)

pub returns-in_ok-tag-in-Tag-clause-reads : goal.returns-in_ok-tag-in-Tag-clause-reads
returns-in_ok-tag-in-Tag-clause-reads g c = rw c.in-Tag.is (reads_as shown_tag shown_command _ _ _ _ _ refl c.in_ok-tag-in-Tag.ensures.reads)

pub returns-in_ok-reset-in-Reset-clause-reads : goal.returns-in_ok-reset-in-Reset-clause-reads
returns-in_ok-reset-in-Reset-clause-reads g c = rw c.in-Reset.is (reads_as shown_reset shown_command _ _ _ _ _ refl c.in_ok-reset-in-Reset.ensures.reads)

pub returns-in_ok-blob-in-Blob-clause-explains : goal.returns-in_ok-blob-in-Blob-clause-explains
returns-in_ok-blob-in-Blob-clause-explains g c = rw c.in-Blob.is (explained_as shown_blob shown_command _ _ _ _ _ refl c.in_ok-blob-in-Blob.ensures.explains)

pub returns-in_ok-commit-in-Commit-clause-explains : goal.returns-in_ok-commit-in-Commit-clause-explains
returns-in_ok-commit-in-Commit-clause-explains g c = rw c.in-Commit.is (explained_as shown_commit shown_command _ _ _ _ _ refl c.in_ok-commit-in-Commit.ensures.explains)

pub returns-in_ok-tag-in-Tag-clause-explains : goal.returns-in_ok-tag-in-Tag-clause-explains
returns-in_ok-tag-in-Tag-clause-explains g c = rw c.in-Tag.is (explained_as shown_tag shown_command _ _ _ _ _ refl c.in_ok-tag-in-Tag.ensures.explains)

pub returns-in_ok-reset-in-Reset-clause-explains : goal.returns-in_ok-reset-in-Reset-clause-explains
returns-in_ok-reset-in-Reset-clause-explains g c = rw c.in-Reset.is (explained_as shown_reset shown_command _ _ _ _ _ refl c.in_ok-reset-in-Reset.ensures.explains)
