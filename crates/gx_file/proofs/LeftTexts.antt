-- What is left of a text behind what is read of it.
use Rattle.std.proofs.Common.{◌≡◌, ℕ, ◌∷◌, ◌++◌, [], Ok, sym, subst, ◌∙◌, append_assoc}
use Rattle.std.specs.Prelude.{codes}
use Rattle.gx_model.specs.Texts.Numbers.{number_text}
use Rattle.gx_model.specs.declared.store_versions.Version.{Version}
use Rattle.gx_model.specs.Texts.{Bytes}
use Rattle.gx_model.specs.Objects.{line}
use Rattle.gx_model.specs.Stores.StoreText.{version_text}
use Rattle.gx_model.specs.Stores.StoreReading.{after_magic, stored_body, stored_count, stored_line}
use Rattle.gx_model.proofs.Stores.StoreTexts.{body_of, count_of, line_of, magic_of}
use Rattle.gx_file.specs.TextEnds.{EndsWith}

-- what stands behind a part of what is left is left
pub left_behind : (k front rest : Bytes) → EndsWith k (front ++ rest) → EndsWith k rest
left_behind k front rest h = (h.0 ++ front, h.1 ∙ sym (append_assoc h.0 front rest))

-- what stands behind a first line is left
pub left_line : (k text l rest : Bytes) → EndsWith k text → stored_line text ≡ Ok (l, rest) → EndsWith k rest
left_line k text l rest h e =
    let spelled = line_of text (l, rest) e ∙ sym (append_assoc l (10 ∷ []) rest) in
    left_behind k (l ++ 10 ∷ []) rest (subst (EndsWith k) spelled h)

-- a body is left in front of what is left behind it
pub left_body : (k : Bytes) (n : ℕ) (text body rest : Bytes) → EndsWith k text → stored_body n text ≡ Ok (body, rest) → EndsWith k (body ++ 10 ∷ rest)
left_body k n text body rest h e = subst (EndsWith k) (body_of n text (body, rest) e).0 h

-- what stands behind a body's LF is left
pub left_after : (k body rest : Bytes) → EndsWith k (body ++ 10 ∷ rest) → EndsWith k rest
left_after k body rest h = left_behind k (body ++ 10 ∷ []) rest (subst (EndsWith k) (sym (append_assoc body (10 ∷ []) rest)) h)

-- what stands behind the line of a count is left
pub left_count : (k word text : Bytes) (n : ℕ) (rest : Bytes) → EndsWith k text → stored_count word text ≡ Ok (n, rest) → EndsWith k rest
left_count k word text n rest h e = left_behind k (line word (number_text n)) rest (subst (EndsWith k) (count_of word text (n, rest) e) h)

-- what stands behind the first line is left
pub left_magic : (k text : Bytes) (v : Version) (rest : Bytes) → EndsWith k text → after_magic text ≡ Ok (v, rest) → EndsWith k rest
left_magic k text v rest h e = left_behind k (line (codes "gxstore") (version_text v)) rest (subst (EndsWith k) (magic_of text (v, rest) e) h)
