-- Ref names. Source: git-check-ref-format(1).
use Rattle.std.specs.Prelude.{ℕ, Bool, not, ◌&&◌, ◌==◌, nat_eq, nat_lt, codes, List, ◌++◌, length}
use Rattle.std.specs.List.{list_all, slice_split, starts_with, ends_with}
use Rattle.std.specs.Str.{bytes_eq}
use Rattle.gx_model.specs.Texts.{Bytes, has_pair}

-- a byte that a ref name may hold: none below 0x20, no DEL, none of SP ~ ^ : ? * [ \
abbrev pub is_ref_byte : ℕ → Bool
is_ref_byte b = nat_lt 32 b && not (b == 127) && not (b == 126) && not (b == 94) && not (b == 58) && not (b == 63) && not (b == 42) && not (b == 91) && not (b == 92)

-- a component of a ref name: not empty, with no dot at its front and no `.lock` at its end
abbrev pub is_ref_component : Bytes → Bool
is_ref_component c = not (length c == 0) && not (starts_with nat_eq c (codes ".")) && not (ends_with nat_eq c (codes ".lock"))

-- the components between the slashes
abbrev pub ref_components : Bytes → List Bytes
ref_components bs = slice_split (λ b. b == 47) bs

-- whether a text is a ref name
abbrev pub is_ref_name : Bytes → Bool
is_ref_name n = list_all is_ref_component (ref_components n) && list_all is_ref_byte n
    && not (has_pair 46 46 n) && not (has_pair 64 123 n) && not (ends_with nat_eq n (codes ".")) && not (bytes_eq n (codes "@"))

-- the ref that a tag's name makes
abbrev pub tag_ref : Bytes → Bytes
tag_ref n = codes "refs/tags/" ++ n

-- whether a text is a tag name: it makes a ref name
abbrev pub is_tag_name : Bytes → Bool
is_tag_name n = is_ref_name (tag_ref n)
