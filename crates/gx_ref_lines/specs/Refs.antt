-- Refs by their lines. Source: git-show-ref(1).
use Rattle.std.specs.Prelude.{List, map}
use Rattle.std.specs.Borrow.{Bor}
use Rattle.gx_model.specs.Texts.{Bytes}
use Rattle.gx_object.specs.declared.name.Name.{Name}
use Rattle.gx_repo.specs.Refs.{shown_lent_ref}

-- refs as they are lent
abbrev pub shown_refs : List (Bor Bytes × Name) → List (Bytes × Bytes)
shown_refs refs = map shown_lent_ref refs

-- a ref in front of a text, and what is behind it, as they are lent
abbrev pub shown_front : (Bor Bytes × Name) × Bor Bytes → (Bytes × Bytes) × Bytes
shown_front front = (shown_lent_ref front.0, front.1.now)
