-- A decoded tag's body is the text of its parts, and the text of parts is decoded as them.
use Rattle.std.proofs.Common.{◌≡◌, ℕ, suc, ◌-◌, ◌<◌, length-append, Bool, true, false, not, [], ◌∷◌, ◌++◌, length, drop, Option, Some, None, Result, Ok, Err, refl, sym, ap, subst, ◌∙◌, arith}
use Rattle.std.specs.Prelude.{codes, nat_eq, IfOk, IsOkAnd, ◌&&◌, ◌||◌}
use Rattle.std.specs.List.{list_all, ends_with}
use Rattle.std.specs.Result.{result_ok}
use Rattle.std.specs.Cmp.Lexicographic.{bytes_decides, pointwise}
use Rattle.gx_model.specs.Texts.{Bytes, has_pair, same_bytes}
use Rattle.gx_model.specs.Texts.RefNames.{is_ref_byte, is_ref_component, is_ref_name, is_tag_name, ref_components, tag_ref}
use Rattle.gx_model.specs.Histories.Values.{is_optional_ident}
use Rattle.gx_model.specs.Objects.{IsTagText, TagParts, hex, line, optional_line, tag_text}
use Rattle.gx_model.proofs.ObjectTexts.BodiesReadBack.{tag_text_flat}
use Rattle.gx_model.proofs.Texts.LineTexts.{tag_is_line}
use Rattle.gx_object.specs.Lines.{field, ident_field, name_field, or_absent, stripped}
use Rattle.gx_object.specs.Tags.{tag_field, tag_parts_of}
use Rattle.gx_object.proofs.Fields.{bind_some, test_some, field_spelled, field_again, ident_spelled, ident_again, name_spelled, name_field_again, stripped_spelled, stripped_again}
use Rattle.gx_object.proofs.Commits.{HasOptional}

-- ---- names of tags

abbrev dot : Bytes
dot = codes "."

-- the tests of a ref name but for the last, that it isn't `@`
abbrev has_form : Bytes → Bool
has_form n = list_all is_ref_component (ref_components n) && list_all is_ref_byte n && not (has_pair 46 46 n) && not (has_pair 64 123 n) && not (ends_with nat_eq n dot)

-- what stands in front leaves the end
ends_past : (x : ℕ) (ws : Bytes) → 0 < length ws → ends_with nat_eq (x ∷ ws) dot ≡ ends_with nat_eq ws dot
ends_past x ws some =
    let long : length (x ∷ ws) - 1 ≡ suc (length ws - 1) = omega arith in
    ap (λ n. pointwise nat_eq dot (drop n (x ∷ ws))) long

ends_after : (xs : Bytes) (y : ℕ) (zs : Bytes) → ends_with nat_eq (xs ++ y ∷ zs) dot ≡ ends_with nat_eq (y ∷ zs) dot
ends_after [] y zs = refl
ends_after (x ∷ xs) y zs = let long = length-append xs (y ∷ zs) in ends_past x (xs ++ y ∷ zs) (omega arith) ∙ ends_after xs y zs

tag_ends : (n : Bytes) → ends_with nat_eq (tag_ref n) dot ≡ ends_with nat_eq n dot
tag_ends [] = refl
tag_ends (y ∷ zs) = ends_after (codes "refs/tags/") y zs

tag_form : (n : Bytes) → is_tag_name n ≡ has_form n
tag_form [] = refl
tag_form (y ∷ zs) = ap (λ e. list_all is_ref_component (ref_components (y ∷ zs)) && list_all is_ref_byte (y ∷ zs) && not (has_pair 46 46 (y ∷ zs)) && not (has_pair 64 123 (y ∷ zs)) && not e && true) (tag_ends (y ∷ zs)) ∙ last _
  where
    last : (b : Bool) → (b && true) ≡ b
    last true = refl
    last false = refl

-- only `@` is a tag's name and no ref name
pub tag_name_is : (n : Bytes) → is_tag_name n ≡ (is_ref_name n || same_bytes n (codes "@"))
tag_name_is n = tag_form n ∙ by (same_bytes n (codes "@")) refl
  where
    by : (at : Bool) → same_bytes n (codes "@") ≡ at → has_form n ≡ ((has_form n && not at) || at)
    by true e = ap has_form ((bytes_decides n (codes "@")).0 e) ∙ sym (or_true (has_form n && false))
      where
        or_true : (b : Bool) → (b || true) ≡ true
        or_true true = refl
        or_true false = refl
    by false e = same (has_form n)
      where
        same : (b : Bool) → b ≡ ((b && true) || false)
        same true = refl
        same false = refl

-- ---- the lines

tagger_spelled : (bytes : Bytes) → HasOptional is_optional_ident (codes "tagger") bytes (or_absent (ident_field (codes "tagger") bytes) bytes)
tagger_spelled bytes = by (ident_field (codes "tagger") bytes) refl
  where
    by : (o : Option (Bytes × Bytes)) → ident_field (codes "tagger") bytes ≡ o → HasOptional is_optional_ident (codes "tagger") bytes (or_absent o bytes)
    by None e = record { parts = refl; proper = refl }
    by (Some p) e = let l = ident_spelled (codes "tagger") bytes p e in record { parts = l.parts; proper = l.ident }

tagger_again : (o : Option Bytes) (m : Bytes) → is_optional_ident o ≡ true
    → or_absent (ident_field (codes "tagger") (optional_line (codes "tagger") o ++ (10 ∷ m))) (optional_line (codes "tagger") o ++ (10 ∷ m)) ≡ (o, 10 ∷ m)
unfolding ident_field field stripped
tagger_again None m h = refl
tagger_again (Some x) m h = ap (λ o. or_absent o (line (codes "tagger") x ++ (10 ∷ m))) (ident_again (codes "tagger") x (10 ∷ m) h)

record HasTag (bytes : Bytes) (p : Bytes × Bytes) : Type 0 where
  parts : bytes ≡ line (codes "tag") p.0 ++ p.1
  tag : is_tag_name p.0 ≡ true

name_spelled_tag : (bytes : Bytes) (p : Bytes × Bytes) → tag_field bytes ≡ Some p → HasTag bytes p
unfolding tag_field
name_spelled_tag bytes p e =
    let a = bind_some (field (codes "tag") bytes) _ p e in
    let t = test_some (is_tag_name a.0.0) a.0 p a.2 in
    let l = field_spelled (codes "tag") bytes a.0 a.1 in
    subst (HasTag bytes) t.1 (record { parts = l.parts; tag = t.0 })

tag_name_again : (x r : Bytes) → is_tag_name x ≡ true → tag_field (line (codes "tag") x ++ r) ≡ Some (x, r)
unfolding tag_field
tag_name_again x r h = rw (field_again (codes "tag") x r (tag_is_line x h), h) refl

-- ---- the whole body

tag_takes : (body : Bytes) (p : TagParts) → tag_parts_of body ≡ Some p → IsTagText p body
unfolding tag_parts_of
tag_takes body p e =
    let object = bind_some (name_field (codes "object") body) _ p e in
    let kind = bind_some (stripped (codes "type commit\n") object.0.1) _ p object.2 in
    let name = bind_some (tag_field kind.0) _ p kind.2 in
    let last = or_absent (ident_field (codes "tagger") name.0.1) name.0.1 in
    let message = bind_some (stripped (10 ∷ []) last.1) _ p name.2 in
    let o = name_spelled (codes "object") body object.0 object.1 in
    let k = stripped_spelled (codes "type commit\n") object.0.1 kind.0 kind.1 in
    let n = name_spelled_tag kind.0 name.0 name.1 in
    let t = tagger_spelled name.0.1 in
    let m = stripped_spelled (10 ∷ []) last.1 message.0 message.1 in
    let made : TagParts = record { object = object.0.0; name = name.0.0; tagger = last.0; message = message.0 } in
    let is : made ≡ p = cc in
    let ending : name.0.1 ≡ optional_line (codes "tagger") last.0 ++ (10 ∷ message.0) = t.parts ∙ ap (λ r. optional_line (codes "tagger") last.0 ++ r) m in
    let whole : body ≡ tag_text made =
    o.parts ∙ ap (λ r. line (codes "object") (hex object.0.0) ++ r) (k ∙ ap (λ r. line (codes "type") (codes "commit") ++ r) (n.parts ∙ ap (λ r. line (codes "tag") name.0.0 ++ r) ending))
    ∙ sym (tag_text_flat made) in
    subst (λ (q : TagParts). IsTagText q body) is (whole, o.name, n.tag, t.proper)

tag_again : (body : Bytes) (p : TagParts) → IsTagText p body → tag_parts_of body ≡ Some p
unfolding tag_parts_of
tag_again body p h =
    let ending = optional_line (codes "tagger") p.tagger ++ (10 ∷ p.message) in
    let named = line (codes "tag") p.name ++ ending in
    let start = h.0 ∙ tag_text_flat p in
    ap tag_parts_of start
    ∙ rw (
      name_field_again (codes "object") p.object (line (codes "type") (codes "commit") ++ named) h.1,
      stripped_again (codes "type commit\n") named,
      tag_name_again p.name ending h.2,
      tagger_again p.tagger p.message h.3,
      stripped_again (10 ∷ []) p.message,
    ) refl

pub tag_found : {E : Type 0} (body : Bytes) (r : Result TagParts E) → tag_parts_of body ≡ result_ok r → IfOk r (λ p. IsTagText p body)
tag_found body (Ok p) e = tag_takes body p e
tag_found body (Err d) e = tt

pub tag_only : {E : Type 0} (body : Bytes) (r : Result TagParts E) → tag_parts_of body ≡ result_ok r → (p : TagParts) → IsTagText p body → IsOkAnd r (λ found. found ≡ p)
tag_only body (Ok q) e p h = cc (tag_again body p h)
tag_only body (Err d) e p h = cc (tag_again body p h)
