-- What an identity shows.
use Rattle.gx_model.specs.Texts.{Bytes}
use Rattle.gx_text.specs.declared.ident.Ident.{Ident}

-- the bytes as they were written
abbrev pub ident_bytes : Ident → Bytes
ident_bytes i = i.bytes.now
