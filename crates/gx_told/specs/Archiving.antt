-- What an archive prints, or why it is refused. Source: git-archive(1).
use Rattle.gx_model.specs.declared.objects.Kind.{Kind}
use Rattle.gx_model.specs.Faults.{◌>>=◌}
use Rattle.gx_model.specs.Histories.{History}
use Rattle.gx_model.specs.Revisions.{revision_of}
use Rattle.gx_model.specs.Texts.{Bytes}
use Rattle.gx_archive.specs.Archives.{archive_of}
use Rattle.gx_archive.specs.declared.fault.AskedArchiveFault.{AskedArchiveFault}
use Rattle.gx_archive.specs.declared.fault.AskedArchiveFault.TheVariants as archive
use Rattle.gx_print.specs.Stored.{Printed, only_word}
use Rattle.gx_told.specs.declared.fault.ToldFault.{ToldFault}
use Rattle.gx_told.specs.declared.fault.ToldFault.TheVariants.{Damaged, OutOfMemory, Revision, StoreReadFailed, WriteFailed}

-- the archive of a revision's tree, with this before each path
abbrev pub tar_text : (Kind → Bytes → Bytes) → Bytes → History → Bytes → Printed
tar_text name prefix h word = only_word (revision_of word >>= λ r. archive_of name h r prefix)

-- a fault of an archive; the revision is the only word
abbrev pub of_archive : AskedArchiveFault → ToldFault
of_archive (archive.Revision kind) = Revision 1 kind
of_archive archive.WriteFailed = WriteFailed
of_archive archive.OutOfMemory = OutOfMemory
of_archive archive.ReadFailed = StoreReadFailed
of_archive archive.Damaged = Damaged
