-- Lines read from the left: what is read stands there, and a line is read as what it has.
use Rattle.std.proofs.Common.{◌≡◌, Bool, true, false, cond, not, [], ◌∷◌, ◌++◌, length, take, drop, Option, Some, None, refl, sym, ap, subst, ◌∙◌, append_assoc}
use Rattle.std.specs.Prelude.{nat_eq}
use Rattle.std.specs.List.{list_any}
use Rattle.std.specs.Option.{option_map}
use Rattle.std.specs.Cmp.Lexicographic.{pointwise, bytes_decides}
use Rattle.std.proofs.lemmas.Bool.{and_from, and_parts, or_from, not-true, not_from_false}
use Rattle.std.proofs.lemmas.List.{take-append-drop, take_at, drop_at}
use Rattle.gx_model.specs.Texts.{Bytes, cut_at, is_line, lacks}
use Rattle.gx_model.specs.Texts.Idents.{is_ident}
use Rattle.gx_model.specs.Objects.{hex, is_name, line}
use Rattle.gx_model.specs.Objects.Naming.{lower_name_in}
use Rattle.gx_model.proofs.Texts.Cuts.{cut_after, cut_spelled, map_some}
use Rattle.gx_model.proofs.Texts.LineTexts.{ident_is_line}
use Rattle.gx_object.specs.Lines.{◌>>=◌, field, ident_field, name_field, stripped}
use Rattle.gx_model.proofs.ObjectTexts.NameDigits.{name_found, name_again, name_line}

-- the value of a step that did not fail
pub bind_some : {A B : Type 0} (o : Option A) (f : A → Option B) (y : B) → (o >>= f) ≡ Some y → (x : A) × (o ≡ Some x) × (f x ≡ Some y)
bind_some (Some x) f y e = (x, refl, e)
bind_some None f y e = absurd cc

-- a test that did not fail
pub test_some : {A : Type 0} (b : Bool) (x y : A) → cond b (Some x) None ≡ Some y → (b ≡ true) × (x ≡ y)
test_some true x y e = (refl, cc)
test_some false x y e = absurd cc

pub refused_some : {A : Type 0} (b : Bool) (x y : A) → cond b None (Some x) ≡ Some y → (b ≡ false) × (x ≡ y)
refused_some true x y e = absurd cc
refused_some false x y e = (refl, cc)

-- ---- fronts

pub stripped_spelled : (front bytes rest : Bytes) → stripped front bytes ≡ Some rest → bytes ≡ front ++ rest
unfolding stripped
stripped_spelled front bytes rest e =
    let p = test_some (pointwise nat_eq (take (length front) bytes) front) (drop (length front) bytes) rest e in
    let same = (bytes_decides (take (length front) bytes) front).0 p.0 in
    sym (take-append-drop (length front) bytes) ∙ (λ i. same i ++ p.1 i)

pub stripped_again : (front rest : Bytes) → stripped front (front ++ rest) ≡ Some rest
unfolding stripped
stripped_again front rest =
    let taken = take_at front rest (length front) refl in
    let dropped = drop_at front rest (length front) refl in
    let same = (bytes_decides (take (length front) (front ++ rest)) front).1 taken in
    rw (same, dropped) refl

-- ---- lines

pub line_lacks : (x : Bytes) → is_line x ≡ true → lacks 10 x ≡ true
line_lacks x h = not_from_false _ (none x h)
  where
    none : (x : Bytes) → is_line x ≡ true → list_any (λ b. nat_eq b 10) x ≡ false
    none [] h = refl
    none (b ∷ x) h = let p = and_parts (not (nat_eq b 10)) _ h in or_from _ _ (not-true _ p.0) (none x p.1)

pub cut_line : (bytes : Bytes) (p : Bytes × Bytes) → cut_at 10 bytes ≡ Some p → is_line p.0 ≡ true
unfolding cut_at
cut_line [] p e = absurd cc
cut_line (b ∷ bytes) p e = by (nat_eq b 10) refl e (λ q f. cut_line bytes q f)
  where
    by : (t : Bool) → nat_eq b 10 ≡ t → cond t (Some ([], bytes)) (option_map (λ q. (b ∷ q.0, q.1)) (cut_at 10 bytes)) ≡ Some p → ((q : Bytes × Bytes) → cut_at 10 bytes ≡ Some q → is_line q.0 ≡ true) → is_line p.0 ≡ true
    by true h f again = let same : ([], bytes) ≡ p = cc in ap (λ (q : Bytes × Bytes). is_line q.0) (sym same)
    by false h f again =
        let q = map_some (λ (q : Bytes × Bytes). let r : Bytes × Bytes = (b ∷ q.0, q.1) in r) (cut_at 10 bytes) p f in
        ap (λ (r : Bytes × Bytes). is_line r.0) (sym q.2) ∙ and_from _ _ (not_from_false _ h) (again q.0 q.1)

-- a line and what follows it, grouped to the right
pub line_flat : (word x r : Bytes) → line word x ++ r ≡ word ++ (32 ∷ (x ++ 10 ∷ r))
line_flat word x r = simp append_assoc

pub record HasLine (word bytes : Bytes) (p : Bytes × Bytes) : Type 0 where
  pub parts : bytes ≡ line word p.0 ++ p.1
  pub rest : is_line p.0 ≡ true

pub field_spelled : (word bytes : Bytes) (p : Bytes × Bytes) → field word bytes ≡ Some p → HasLine word bytes p
unfolding field
field_spelled word bytes p e =
    let a = bind_some (stripped word bytes) _ p e in
    let b = bind_some (stripped (32 ∷ []) a.0) _ p a.2 in
    let whole : bytes ≡ word ++ (32 ∷ (p.0 ++ 10 ∷ p.1)) = stripped_spelled word bytes a.0 a.1 ∙ ap (λ r. word ++ r) (stripped_spelled (32 ∷ []) a.0 b.0 b.1 ∙ ap (λ r. 32 ∷ r) (cut_spelled 10 b.0 p b.2)) in
    record { parts = whole ∙ sym (line_flat word p.0 p.1); rest = cut_line b.0 p b.2 }

pub field_front : (word rest : Bytes) → field word (word ++ (32 ∷ rest)) ≡ cut_at 10 rest
unfolding field
field_front word rest = rw (stripped_again word (32 ∷ rest), stripped_again (32 ∷ []) rest) refl

pub field_again : (word x r : Bytes) → is_line x ≡ true → field word (line word x ++ r) ≡ Some (x, r)
unfolding field
field_again word x r h =
    ap (field word) (line_flat word x r)
    ∙ rw (stripped_again word (32 ∷ (x ++ 10 ∷ r)), stripped_again (32 ∷ []) (x ++ 10 ∷ r)) (cut_after 10 x r (line_lacks x h))

pub record HasName (word bytes : Bytes) (p : Bytes × Bytes) : Type 0 where
  pub parts : bytes ≡ line word (hex p.0) ++ p.1
  pub name : is_name p.0 ≡ true

pub name_spelled : (word bytes : Bytes) (p : Bytes × Bytes) → name_field word bytes ≡ Some p → HasName word bytes p
unfolding name_field
name_spelled word bytes p e =
    let a = bind_some (field word bytes) _ p e in
    let n = bind_some (lower_name_in a.0.0) _ p a.2 in
    let is : (n.0, a.0.1) ≡ p = cc in
    let l = field_spelled word bytes a.0 a.1 in
    let f = name_found a.0.0 n.0 n.1 in
    subst (HasName word bytes) is (record { parts = l.parts ∙ ap (λ x. line word x ++ a.0.1) f.0; name = f.1 })

pub name_field_again : (word n r : Bytes) → is_name n ≡ true → name_field word (line word (hex n) ++ r) ≡ Some (n, r)
unfolding name_field
name_field_again word n r h = rw (field_again word (hex n) r (name_line n h), name_again n h) refl

pub record HasIdent (word bytes : Bytes) (p : Bytes × Bytes) : Type 0 where
  pub parts : bytes ≡ line word p.0 ++ p.1
  pub ident : is_ident p.0 ≡ true

pub ident_spelled : (word bytes : Bytes) (p : Bytes × Bytes) → ident_field word bytes ≡ Some p → HasIdent word bytes p
unfolding ident_field
ident_spelled word bytes p e =
    let a = bind_some (field word bytes) _ p e in
    let t = test_some (is_ident a.0.0) a.0 p a.2 in
    let l = field_spelled word bytes a.0 a.1 in
    subst (HasIdent word bytes) t.1 (record { parts = l.parts; ident = t.0 })

pub ident_again : (word x r : Bytes) → is_ident x ≡ true → ident_field word (line word x ++ r) ≡ Some (x, r)
unfolding ident_field
ident_again word x r h = rw (field_again word x r (ident_is_line x h), h) refl
