-- Worked rows: what git 2.39 shows of messages and of identities.
use Rattle.std.specs.Prelude.{◌≡◌, [], ◌∷◌, ◌++◌, codes, refl}
use Rattle.gx_model.specs.Texts.{Bytes, cut_at}
use Rattle.gx_print.specs.Identities.{email_in, name_in, seconds_in}
use Rattle.gx_print.specs.Messages.{indented, subject, trimmed}

abbrev with_lf : Bytes → Bytes
with_lf line = line ++ 10 ∷ []

abbrev with_cr : Bytes → Bytes
with_cr line = line ++ 13 ∷ []

-- a form feed and a vertical tab are no white space
abbrev odd : Bytes
odd = 11 ∷ 12 ∷ codes " form" ++ 11 ∷ []

pub record SubjectRows : Type 0 where
  pub nothing : subject [] ≡ []
  pub blank : subject (with_lf (codes "  ") ++ with_lf []) ≡ []
  pub one : subject (codes "a subject") ≡ codes "a subject"
  pub behind_blank_lines : subject (with_lf [] ++ with_lf (codes "  lead ") ++ with_lf (codes "second line  ") ++ with_lf [] ++ with_lf (codes "body")) ≡ codes "  lead second line"
  pub with_crs : subject (with_lf (with_cr (codes "next")) ++ with_lf (with_cr []) ++ with_lf (with_cr (codes "body"))) ≡ codes "next"
  pub without_lf : subject (with_lf (codes "one") ++ with_lf (codes "two") ++ with_lf (codes "  ") ++ codes "three") ≡ codes "one two"
  pub of_odd_bytes : subject (with_lf odd ++ codes "z") ≡ odd ++ codes " z"

pub subject_rows : SubjectRows
unfolding trimmed
subject_rows = record { nothing = refl; blank = refl; one = refl; behind_blank_lines = refl; with_crs = refl; without_lf = refl; of_odd_bytes = refl }

pub record IndentedRows : Type 0 where
  pub nothing : trimmed (indented (with_lf (codes "  "))) ≡ []
  pub within : trimmed (indented (with_lf [] ++ with_lf (codes "xx") ++ with_lf (codes "  ") ++ with_lf (codes " y ") ++ with_lf [] ++ codes " ")) ≡ with_lf (codes "    xx") ++ with_lf (codes "    ") ++ codes "     y"

pub indented_rows : IndentedRows
unfolding trimmed
indented_rows = record { nothing = refl; within = refl }

abbrev ident : Bytes
ident = codes "  Lead  Name" ++ 9 ∷ codes "  <a@b c > 0010 +0100"

pub record IdentityRows : Type 0 where
  pub name : name_in ident ≡ codes "  Lead  Name"
  pub email : email_in ident ≡ codes "a@b c "
  pub seconds : seconds_in ident ≡ codes "0010"
  pub no_name : name_in (codes "<c@d> 200 -0200") ≡ []

pub identity_rows : IdentityRows
unfolding trimmed cut_at
identity_rows = record { name = refl; email = refl; seconds = refl; no_name = refl }
