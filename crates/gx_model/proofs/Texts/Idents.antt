-- Reading an identity from the left accepts just the identities.
use Rattle.std.proofs.Common.{◌≡◌, ℕ, ◌-◌, Bool, ◌||◌, true, false, not, eqb, ltb, ◌&&◌, [], ◌∷◌, ◌++◌, length, take, drop, Option, Some, None, refl, sym, ap, ◌∙◌, arith, inl, inr, append_assoc, ◌⊎◌}
use Rattle.std.specs.Prelude.{nat_eq, IsTrue, codes}
use Rattle.std.specs.List.{list_any, list_all, ends_with}
use Rattle.std.specs.Char.{is_ascii_digit}
use Rattle.std.specs.Cmp.Lexicographic.{bytes_decides}
use Rattle.std.proofs.lemmas.Bool.{eqb-true, false≢true, and_parts, and_from, or_cases, or_right}
use Rattle.std.proofs.lemmas.Bool.Decides.{nat_tests}
use Rattle.std.proofs.lemmas.List.{nil_from_length, take-append-drop, length-append, drop_at}
use Rattle.std.proofs.lemmas.List.Folds.{list_any-append}
use Rattle.gx_model.specs.Texts.{Bytes, cut_at, lacks}
use Rattle.gx_model.specs.Texts.Numbers.{is_number}
use Rattle.gx_model.specs.Texts.Idents.{is_plain, is_offset, IsIdentHead, IsIdent, on_some, is_head, is_signed_offset, is_ident}
use Rattle.gx_model.proofs.Texts.Cuts.{cut_after, cut_spelled, cut_here}

pub and_one : (a b : Bool) → (a && b) ≡ true → a ≡ true
and_one a b e = (and_parts a b e).0

pub and_two : (a b : Bool) → (a && b) ≡ true → b ≡ true
and_two a b e = (and_parts a b e).1

-- ---- the head

plain-space : (name : Bytes) → is_plain (name ++ 32 ∷ []) ≡ is_plain name
plain-space name = rw (list_any-append (λ b. eqb b 60) name (32 ∷ []), list_any-append (λ b. eqb b 62) name (32 ∷ []), list_any-append (λ b. eqb b 10) name (32 ∷ [])) (same (list_any (λ b. eqb b 60) name) (list_any (λ b. eqb b 62) name) (list_any (λ b. eqb b 10) name)) where
  same : (x y z : Bool) → (not (x || false) && not (y || false) && not (z || false)) ≡ (not x && not y && not z)
  same true y z = refl
  same false true z = refl
  same false false true = refl
  same false false false = refl

head_is : (head : Bytes) → is_head head ≡ true → IsIdentHead head
head_is head e = elim (or_cases (eqb (length head) 0) _ e) [
  | inl a ↦ inl (nil_from_length head (eqb-true _ _ a))
  | inr b ↦ inr (named head (and_one (is_plain head) _ b) ((bytes_decides (codes " ") _).0 (and_two (is_plain head) _ b)))
] where
  named : (head : Bytes) → is_plain head ≡ true → codes " " ≡ drop (length head - 1) head → (name : Bytes) × IsTrue (is_plain name) × (head ≡ name ++ 32 ∷ [])
  named head p e =
      let name = take (length head - 1) head in
      let whole : head ≡ name ++ 32 ∷ [] = sym (take-append-drop (length head - 1) head) ∙ ap (λ (r : Bytes). name ++ r) (sym e) in
      (name, sym (plain-space name) ∙ ap is_plain (sym whole) ∙ p, whole)

head_again : (head : Bytes) → IsIdentHead head → is_head head ≡ true
head_again head (inl e) = rw e refl
head_again head (inr h) = rw h.2 (ends h.0 (plain-space h.0 ∙ h.1)) where
  ends : (name : Bytes) → is_plain (name ++ 32 ∷ []) ≡ true → is_head (name ++ 32 ∷ []) ≡ true
  ends name p =
      let last : drop (length (name ++ 32 ∷ []) - 1) (name ++ 32 ∷ []) ≡ 32 ∷ [] = drop_at name (32 ∷ []) (length (name ++ 32 ∷ []) - 1) (omega (arith, length-append name (32 ∷ []))) in
      let t : ends_with nat_eq (name ++ 32 ∷ []) (codes " ") ≡ true = rw last refl in
      or_right (eqb (length (name ++ 32 ∷ [])) 0) _ (and_from _ _ p t)

-- a head has no `<`
head_lacks : (head : Bytes) → IsIdentHead head → lacks 60 head ≡ true
head_lacks head (inl e) = rw e refl
head_lacks head (inr h) = rw h.2 (and_one (lacks 60 (h.0 ++ 32 ∷ [])) _ (and_one _ _ (plain-space h.0 ∙ h.1)))

-- ---- from the test to the parts

-- what a step that passed found
some_of : {A : Type 0} (o : Option A) (f : A → Bool) → on_some o f ≡ true → (x : A) × (o ≡ Some x) × (f x ≡ true)
some_of None f e = absurd (false≢true e)
some_of (Some x) f e = (x, refl, e)

signed : (ds : Bytes) → is_signed_offset ds ≡ true → (sign : ℕ) × (offset : Bytes) × (ds ≡ sign ∷ offset) × ((sign ≡ 43) ⊎ (sign ≡ 45)) × IsTrue (is_offset offset)
signed [] e = absurd (false≢true e)
signed (s ∷ ds) e = (s, ds, refl, (elim (or_cases (eqb s 43) (eqb s 45) (and_one _ (is_offset ds) e)) [ inl a ↦ inl (eqb-true s 43 a) | inr b ↦ inr (eqb-true s 45 b) ]), and_two _ (is_offset ds) e)

-- the tests of the parts
abbrev parts_pass : (a b c d : Bytes × Bytes) → Bool
parts_pass a b c d = is_head a.0 && is_plain b.0 && eqb (length c.0) 0 && is_number d.0 && is_signed_offset d.1

spelled_of : (bs : Bytes) (a b c d : Bytes × Bytes) (s : ℕ) (o : Bytes) → bs ≡ a.0 ++ 60 ∷ a.1 → a.1 ≡ b.0 ++ 62 ∷ b.1 → b.1 ≡ c.0 ++ 32 ∷ c.1 → c.0 ≡ [] → c.1 ≡ d.0 ++ 32 ∷ d.1 → d.1 ≡ s ∷ o → bs ≡ a.0 ++ 60 ∷ b.0 ++ 62 ∷ 32 ∷ d.0 ++ 32 ∷ s ∷ o
spelled_of bs a b c d s o e f g gap h is = rw (e, f, g, gap, h, is) (simp append_assoc)

joined : (bs : Bytes) (a b c d : Bytes × Bytes) → bs ≡ a.0 ++ 60 ∷ a.1 → a.1 ≡ b.0 ++ 62 ∷ b.1 → b.1 ≡ c.0 ++ 32 ∷ c.1 → c.1 ≡ d.0 ++ 32 ∷ d.1 → parts_pass a b c d ≡ true → IsIdent bs
joined bs a b c d e f g h pass =
    let t1 = and_one _ (is_signed_offset d.1) pass in
    let t2 = and_one _ (is_number d.0) t1 in
    let t3 = and_one _ (eqb (length c.0) 0) t2 in
    let gap : c.0 ≡ [] = nil_from_length c.0 (eqb-true _ _ (and_two _ (eqb (length c.0) 0) t2)) in
    let s = signed d.1 (and_two _ (is_signed_offset d.1) pass) in
    record {
      head = a.0;
      email = b.0;
      seconds = d.0;
      sign = s.0;
      offset = s.1;
      spelled = spelled_of bs a b c d s.0 s.1 e f g gap h s.2;
      head_is = head_is a.0 (and_one _ (is_plain b.0) t3);
      email_is = and_two _ (is_plain b.0) t3;
      seconds_is = and_two _ (is_number d.0) t1;
      sign_is = s.3;
      offset_is = s.4;
    }

third : (bs : Bytes) (a b c : Bytes × Bytes) → bs ≡ a.0 ++ 60 ∷ a.1 → a.1 ≡ b.0 ++ 62 ∷ b.1 → b.1 ≡ c.0 ++ 32 ∷ c.1 → on_some (cut_at 32 c.1) (parts_pass a b c) ≡ true → IsIdent bs
third bs a b c e f g h = let s = some_of (cut_at 32 c.1) (parts_pass a b c) h in joined bs a b c s.0 e f g (cut_spelled 32 c.1 s.0 s.1) s.2

second : (bs : Bytes) (a b : Bytes × Bytes) → bs ≡ a.0 ++ 60 ∷ a.1 → a.1 ≡ b.0 ++ 62 ∷ b.1 → on_some (cut_at 32 b.1) (λ c. on_some (cut_at 32 c.1) (parts_pass a b c)) ≡ true → IsIdent bs
second bs a b e f h = let s = some_of (cut_at 32 b.1) (λ c. on_some (cut_at 32 c.1) (parts_pass a b c)) h in third bs a b s.0 e f (cut_spelled 32 b.1 s.0 s.1) s.2

first : (bs : Bytes) (a : Bytes × Bytes) → bs ≡ a.0 ++ 60 ∷ a.1 → on_some (cut_at 62 a.1) (λ b. on_some (cut_at 32 b.1) (λ c. on_some (cut_at 32 c.1) (parts_pass a b c))) ≡ true → IsIdent bs
first bs a e h = let s = some_of (cut_at 62 a.1) (λ b. on_some (cut_at 32 b.1) (λ c. on_some (cut_at 32 c.1) (parts_pass a b c))) h in second bs a s.0 e (cut_spelled 62 a.1 s.0 s.1) s.2

pub reads_ident : (bs : Bytes) → is_ident bs ≡ true → IsIdent bs
unfolding is_ident
reads_ident bs h = let s = some_of (cut_at 60 bs) (λ a. on_some (cut_at 62 a.1) (λ b. on_some (cut_at 32 b.1) (λ c. on_some (cut_at 32 c.1) (parts_pass a b c)))) h in first bs s.0 (cut_spelled 60 bs s.0 s.1) s.2

-- ---- from the parts to the test

digits_lack_space : (ds : Bytes) → is_number ds ≡ true → lacks 32 ds ≡ true
digits_lack_space ds e = ap not (no_space ds (and_one _ (ltb 0 (length ds)) (and_one _ _ e))) where
  not_space : (d : ℕ) → is_ascii_digit d ≡ true → eqb d 32 ≡ false
  not_space d e = grind (arith, nat_tests)

  no_space : (ds : Bytes) → list_all is_ascii_digit ds ≡ true → list_any (λ b. eqb b 32) ds ≡ false
  no_space [] e = refl
  no_space (d ∷ ds) e = rw (not_space d (and_one _ _ e)) (no_space ds (and_two (is_ascii_digit d) _ e))

is_sign : (s : ℕ) → (s ≡ 43) ⊎ (s ≡ 45) → (eqb s 43 || eqb s 45) ≡ true
is_sign s h = grind (arith, nat_tests)

pub ident_read : (bs : Bytes) → IsIdent bs → is_ident bs ≡ true
unfolding is_ident
ident_read bs h =
    let regrouped : bs ≡ h.head ++ 60 ∷ (h.email ++ 62 ∷ (32 ∷ (h.seconds ++ 32 ∷ (h.sign ∷ h.offset)))) = h.spelled ∙ simp append_assoc in
    ap is_ident regrouped ∙ rw (cut_after 60 h.head (h.email ++ 62 ∷ (32 ∷ (h.seconds ++ 32 ∷ (h.sign ∷ h.offset)))) (head_lacks h.head h.head_is), cut_after 62 h.email (32 ∷ (h.seconds ++ 32 ∷ (h.sign ∷ h.offset))) (and_two (lacks 60 h.email) (lacks 62 h.email) (and_one _ (lacks 10 h.email) h.email_is)), cut_here 32 (h.seconds ++ 32 ∷ (h.sign ∷ h.offset)), cut_after 32 h.seconds (h.sign ∷ h.offset) (digits_lack_space h.seconds h.seconds_is), head_again h.head h.head_is, h.email_is, h.seconds_is, h.offset_is, is_sign h.sign h.sign_is) refl

pub ident_tells : (bs : Bytes) → ((is_ident bs ≡ true) → IsIdent bs) × (IsIdent bs → is_ident bs ≡ true)
ident_tells bs = (reads_ident bs, ident_read bs)
