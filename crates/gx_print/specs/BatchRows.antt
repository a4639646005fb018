-- Worked rows: what lines of a batch with commands ask.
use Rattle.std.specs.Prelude.{◌≡◌, true, false, [], ◌∷◌, codes, refl}
use Rattle.gx_model.specs.Texts.{cut_at}
use Rattle.gx_print.specs.Asking.{archive, asked_of, contents, flush, info, log, ls, refs, rev_parse, unknown}

pub record AskedRows : Type 0 where
  pub contents_of : asked_of (codes "contents main:my file") ≡ contents (codes "main:my file")
  pub info_of_nothing : asked_of (codes "info ") ≡ info []
  pub info_alone : asked_of (codes "info") ≡ unknown
  pub flush_alone : asked_of (codes "flush") ≡ flush
  pub flush_with : asked_of (codes "flush x") ≡ unknown
  pub refs_alone : asked_of (codes "refs") ≡ refs
  pub entries : asked_of (codes "ls main:docs") ≡ ls false (codes "main:docs")
  pub files : asked_of (codes "ls -r main") ≡ ls true (codes "main")
  pub files_of_none : asked_of (codes "ls -r") ≡ unknown
  pub archive_of : asked_of (codes "archive v1") ≡ archive (codes "v1")
  pub log_of : asked_of (codes "log main ^v1") ≡ log (codes "main" ∷ codes "^v1" ∷ [])
  pub log_of_two_spaces : asked_of (codes "log main  v1") ≡ log (codes "main" ∷ [] ∷ codes "v1" ∷ [])
  pub names_of : asked_of (codes "rev-parse HEAD main") ≡ rev_parse (codes "HEAD" ∷ codes "main" ∷ [])
  pub nothing : asked_of [] ≡ unknown
  pub space_before : asked_of (codes " refs") ≡ unknown
  pub other : asked_of (codes "drop main") ≡ unknown

pub asked_rows : AskedRows
unfolding cut_at
asked_rows = record {
  contents_of = refl;
  info_of_nothing = refl;
  info_alone = refl;
  flush_alone = refl;
  flush_with = refl;
  refs_alone = refl;
  entries = refl;
  files = refl;
  files_of_none = refl;
  archive_of = refl;
  log_of = refl;
  log_of_two_spaces = refl;
  names_of = refl;
  nothing = refl;
  space_before = refl;
  other = refl;
}
