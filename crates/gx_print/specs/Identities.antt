-- What an identity says. Source: git-log(1), "PRETTY FORMATS", `%an`, `%ae` and `%at`, and git-fast-import(1), "Date Formats".
use Rattle.std.specs.Prelude.{◌++◌, codes}
use Rattle.gx_model.specs.Texts.{Bytes, parts_at}
use Rattle.gx_print.specs.Messages.{trimmed}

-- the name stands before the `<`
abbrev pub name_in : Bytes → Bytes
name_in ident = trimmed (parts_at 60 ident).0

-- the email stands between `<` and `>`
abbrev pub email_in : Bytes → Bytes
email_in ident = (parts_at 62 (parts_at 60 ident).1).0

-- the name, and the email between `<` and `>`
abbrev pub name_and_email : Bytes → Bytes
name_and_email ident = name_in ident ++ codes " <" ++ email_in ident ++ codes ">"

-- the digits of the seconds stand behind `> `, before a space
abbrev pub seconds_in : Bytes → Bytes
seconds_in ident = (parts_at 32 (parts_at 32 (parts_at 62 ident).1).1).0
