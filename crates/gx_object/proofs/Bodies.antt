-- The body of a tree, read from the left: what is read stands in the body, and the text of entries is read as them.
use Rattle.std.proofs.Common.{◌≡◌, ℕ, zero, suc, ◌<◌, ◌≤◌, Bool, true, false, cond, ltb, List, [], ◌∷◌, ◌++◌, length, take, drop, Option, Some, None, refl, ap, subst, ◌∙◌, arith, append_assoc, length-append, inl, inr, ◌⊎◌}
use Rattle.std.specs.Prelude.{codes}
use Rattle.std.specs.Option.{is_some, unwrap_or}
use Rattle.std.specs.Str.{bytes_eq}
use Rattle.std.specs.Cmp.Lexicographic.{bytes_decides}
use Rattle.std.proofs.lemmas.Bool.{ltb-false, le-ltb, false≢true}
use Rattle.std.proofs.lemmas.List.{take-append-drop, length-take, take_at, drop_at}
use Rattle.gx_model.specs.Texts.{cut_at, lacks}
use Rattle.gx_model.proofs.Texts.Cuts.{cut_after, cut_spelled}
use Rattle.gx_model.specs.declared.objects.Mode.{Mode}
use Rattle.gx_model.specs.declared.objects.Mode.TheVariants.{File, Exec, Link, Gitlink, Dir}
use Rattle.std.specs.Iterator.{MakesProgress, item_count}
use Rattle.gx_object.specs.declared.entry.Entry.{Entry as Read}
use Rattle.gx_object.specs.Entries.{shown}
use Rattle.gx_model.specs.Objects.{Entry, entry_text, mode_text}
use Rattle.gx_object.specs.Trees.{mode_at, mode_of, entry_at, entries_within, entries_of, entries_left}
use Rattle.gx_object.specs.Lines.{◌>>=◌}

-- the value of a step that did not fail
pub bind_some : {A B : Type 0} (o : Option A) (f : A → Option B) (y : B) → (o >>= f) ≡ Some y → (x : A) × (o ≡ Some x) × (f x ≡ Some y)
bind_some (Some x) f y e = (x, refl, e)
bind_some None f y e = absurd cc

-- a test that did not fail
pub guard_some : {A : Type 0} (b : Bool) (x y : A) → cond b None (Some x) ≡ Some y → (b ≡ false) × (x ≡ y)
guard_some true x y e = absurd cc
guard_some false x y e = (refl, cc)

chosen : {A : Type 0} (b : Bool) (x y z : A) → cond b x y ≡ z → ((b ≡ true) × (x ≡ z)) ⊎ ((b ≡ false) × (y ≡ z))
chosen true x y z e = inl (refl, e)
chosen false x y z e = inr (refl, e)

same : (a b : List ℕ) → bytes_eq a b ≡ true → a ≡ b
same a b e = (bytes_decides a b).0 e

same_is : (a : List ℕ) → bytes_eq a a ≡ true
same_is a = (bytes_decides a a).1 refl

pub some_is : {A : Type 0} (x y : A) → Some x ≡ Some y → x ≡ y
some_is x y e = cc

at_mode : (m n : Mode) (ds : List ℕ) → ds ≡ mode_text m → Some m ≡ Some n → ds ≡ mode_text n
at_mode m n ds e h = e ∙ ap mode_text (some_is m n h)

mode_spelled : (ds : List ℕ) (m : Mode) → mode_of ds ≡ Some m → ds ≡ mode_text m
mode_spelled ds m e =
    elim (chosen (bytes_eq ds (codes "100644")) _ _ _ e) [
      | inl a ↦ at_mode File m ds (same ds _ a.0) a.1
      | inr a ↦ elim (chosen (bytes_eq ds (codes "100755")) _ _ _ a.1) [
        | inl b ↦ at_mode Exec m ds (same ds _ b.0) b.1
        | inr b ↦ elim (chosen (bytes_eq ds (codes "120000")) _ _ _ b.1) [
          | inl c ↦ at_mode Link m ds (same ds _ c.0) c.1
          | inr c ↦ elim (chosen (bytes_eq ds (codes "160000")) _ _ _ c.1) [
            | inl d ↦ at_mode Gitlink m ds (same ds _ d.0) d.1
            | inr d ↦ elim (chosen (bytes_eq ds (codes "40000")) _ _ _ d.1) [
              | inl f ↦ at_mode Dir m ds (same ds _ f.0) f.1
              | inr f ↦ absurd cc
            ]
          ]
        ]
      ]
    ]

mode_again : (m : Mode) → mode_of (mode_text m) ≡ Some m
mode_again File = refl
mode_again Exec = refl
mode_again Link = refl
mode_again Gitlink = refl
mode_again Dir = refl

mode_lacks_space : (m : Mode) → lacks 32 (mode_text m) ≡ true
mode_lacks_space File = refl
mode_lacks_space Exec = refl
mode_lacks_space Link = refl
mode_lacks_space Gitlink = refl
mode_lacks_space Dir = refl

-- a mode that is read stands at the front
pub mode_takes : (bytes : List ℕ) (x : Mode × List ℕ) → mode_at bytes ≡ Some x → bytes ≡ mode_text x.0 ++ 32 ∷ x.1
unfolding mode_at
mode_takes bytes x e =
    let a = bind_some (cut_at 32 bytes) _ x e in
    let m = bind_some (mode_of a.0.0) _ x a.2 in
    subst (λ (y : Mode × List ℕ). bytes ≡ mode_text y.0 ++ 32 ∷ y.1) (some_is (m.0, a.0.1) x m.2) (cut_spelled 32 bytes a.0 a.1 ∙ ap (λ (ds : List ℕ). ds ++ 32 ∷ a.0.1) (mode_spelled a.0.0 m.0 m.1))

-- and one that stands there is read
pub mode_front : (m : Mode) (rest : List ℕ) → mode_at (mode_text m ++ 32 ∷ rest) ≡ Some (m, rest)
unfolding mode_at
mode_front m rest = rw (cut_after 32 (mode_text m) rest (mode_lacks_space m), mode_again m) refl

-- what a reader took from the front
pub record Takes (bytes : List ℕ) (x : Entry × List ℕ) : Type 0 where
  pub parts : bytes ≡ entry_text x.0 ++ x.1
  pub name : length x.0.name ≡ 20

pub entry_takes : (bytes : List ℕ) (x : Entry × List ℕ) → entry_at bytes ≡ Some x → Takes bytes x
unfolding entry_at
entry_takes bytes x e =
    let a = bind_some (mode_at bytes) _ x e in
    let b = bind_some (cut_at 0 a.0.1) _ x a.2 in
    let g = guard_some _ _ x b.2 in
    let long : 20 ≤ length b.0.1 = ltb-false _ _ g.0 in
    taken bytes a.0 b.0 x (mode_takes bytes a.0 a.1) (cut_spelled 0 a.0.1 b.0 b.1) long g.1 where
      taken : (bytes : List ℕ) (a : Mode × List ℕ) (b : List ℕ × List ℕ) (x : Entry × List ℕ) → bytes ≡ mode_text a.0 ++ 32 ∷ a.1 → a.1 ≡ b.0 ++ 0 ∷ b.1 → 20 ≤ length b.1 → (record { mode = a.0; component = b.0; name = take 20 b.1 }, drop 20 b.1) ≡ x → Takes bytes x
      taken bytes a b x e g long is =
          let whole = take-append-drop 20 b.1 in
          let made : Entry × List ℕ = (record { mode = a.0; component = b.0; name = take 20 b.1 }, drop 20 b.1) in
          let spelled : bytes ≡ entry_text made.0 ++ made.1 = rw (e, g) (simp (append_assoc, whole)) in
          subst (Takes bytes) is (record { parts = spelled; name = omega (arith, length-take 20 b.1) })

pub entry_again : (e : Entry) (rest : List ℕ) → lacks 0 e.component ≡ true → length e.name ≡ 20 → entry_at (entry_text e ++ rest) ≡ Some (e, rest)
unfolding entry_at
entry_again e rest no_nul name =
    let regrouped : entry_text e ++ rest ≡ mode_text e.mode ++ 32 ∷ (e.component ++ 0 ∷ (e.name ++ rest)) = simp append_assoc in
    let long : ltb (length (e.name ++ rest)) 20 ≡ false = le-ltb _ _ (omega (arith, length-append e.name rest)) in
    ap entry_at regrouped ∙ rw (mode_front e.mode (e.component ++ 0 ∷ (e.name ++ rest)), cut_after 0 e.component (e.name ++ rest) no_nul, long, take_at e.name rest 20 name, drop_at e.name rest 20 name) refl

pub entry_shorter : (bytes : List ℕ) (x : Entry × List ℕ) → entry_at bytes ≡ Some x → length x.1 < length bytes
entry_shorter bytes x e = let t = entry_takes bytes x e in omega (arith, simp length-append at (ap length t.parts))

-- more steps than bytes make no difference
enough : (n m : ℕ) (bytes : List ℕ) → length bytes ≤ n → length bytes ≤ m → entries_within n bytes ≡ entries_within m bytes
unfolding entries_within
enough n m [] p q = refl
enough zero m (b ∷ bytes) p q = absurd (omega arith)
enough (suc n) zero (b ∷ bytes) p q = absurd (omega arith)
enough (suc n) (suc m) (b ∷ bytes) p q = step (entry_at (b ∷ bytes)) refl (λ rest h k. enough n m rest h k) where
  step : (o : Option (Entry × List ℕ)) → entry_at (b ∷ bytes) ≡ o → ((rest : List ℕ) → length rest ≤ n → length rest ≤ m → entries_within n rest ≡ entries_within m rest) → (o >>= λ first. entries_within n first.1 >>= λ others. Some (first.0 ∷ others)) ≡ (o >>= λ first. entries_within m first.1 >>= λ others. Some (first.0 ∷ others))
  step None e again = refl
  step (Some x) e again = let lt = entry_shorter (b ∷ bytes) x e in rw (again x.1 (omega arith) (omega arith)) refl

pub entries_step : (bytes : List ℕ) (x : Entry × List ℕ) → entry_at bytes ≡ Some x → entries_of bytes ≡ (entries_of x.1 >>= λ es. Some (x.0 ∷ es))
unfolding entries_within
entries_step [] x e = absurd (omega (arith, entry_shorter [] x e))
entries_step (b ∷ bytes) x e =
    let lt = entry_shorter (b ∷ bytes) x e in
    rw (e, enough (length bytes) (length x.1) x.1 (omega arith) (omega arith)) refl

pub entries_end : (bytes : List ℕ) → entry_at bytes ≡ None → is_some (entries_of bytes) ≡ true → bytes ≡ []
unfolding entries_within
entries_end [] e h = refl
entries_end (b ∷ bytes) e h = absurd (false≢true (rw e at h))

pub entries_stop : (bytes : List ℕ) → entry_at bytes ≡ None → 0 < length bytes → entries_of bytes ≡ None
unfolding entries_within
entries_stop [] e lt = absurd (omega arith)
entries_stop (b ∷ bytes) e lt = rw e refl

-- the same of what is left
pub is_some-step : (bytes : List ℕ) (x : Entry × List ℕ) → entry_at bytes ≡ Some x → is_some (entries_of x.1) ≡ is_some (entries_of bytes)
is_some-step bytes x e = rw (entries_step bytes x e) (shows (entries_of x.1)) where
  shows : (o : Option (List Entry)) → is_some o ≡ is_some (o >>= λ es. Some (x.0 ∷ es))
  shows None = refl
  shows (Some es) = refl

pub left-step : (bytes : List ℕ) (x : Entry × List ℕ) → entry_at bytes ≡ Some x → is_some (entries_of bytes) ≡ true → entries_left bytes ≡ x.0 ∷ entries_left x.1
left-step bytes x e h = rw (entries_step bytes x e) (shows (entries_of x.1) (is_some-step bytes x e ∙ h)) where
  shows : (o : Option (List Entry)) → is_some o ≡ true → unwrap_or (o >>= λ es. Some (x.0 ∷ es)) [] ≡ x.0 ∷ unwrap_or o []
  shows None h = absurd (false≢true h)
  shows (Some es) h = refl

pub left-end : (bytes : List ℕ) → entry_at bytes ≡ None → is_some (entries_of bytes) ≡ true → entries_left bytes ≡ []
unfolding entries_within
left-end bytes e h = rw (entries_end bytes e h) refl

-- a call of `next` that gave the first entry left
pub goes-on : (can : List Entry → Type 0) → ((l : List Entry) → can l) → (s t : List Entry) (y : Read) → s ≡ shown y ∷ t → MakesProgress can (item_count {A = Entry} (λ (rest : List Entry). rest)) s (Some y) t
goes-on can every s t y e = record {
  on = λ _. (every t, tt, omega (arith, ap length e));
  keeps = every t;
  rests = λ _. tt;
}
