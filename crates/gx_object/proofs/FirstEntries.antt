-- The entry at the front of a body: its mode, and a component that a NUL ends.
use Rattle.std.proofs.Common.{◌≡◌, ℕ, zero, suc, ◌+◌, ◌<◌, ◌≤◌, Bool, true, false, cond, not, [], ◌∷◌, ◌++◌, length, take, drop, get_or, Option, Some, None, refl, sym, ap, ◌∙◌, arith, append_assoc, drop-cons}
use Rattle.std.specs.Prelude.{◌==◌}
use Rattle.std.specs.List.{position_or_len}
use Rattle.std.proofs.lemmas.Bool.{eqb-true}
use Rattle.std.proofs.lemmas.List.{get_or-take, length-take-le, take-append-drop, take-take}
use Rattle.gx_model.proofs.Texts.Cuts.{cut_after}
use Rattle.gx_model.specs.Texts.{Bytes, cut_at, lacks}
use Rattle.gx_model.specs.declared.objects.Mode.{Mode}
use Rattle.gx_model.specs.declared.objects.Mode.TheVariants.{File, Exec, Link, Gitlink, Dir}
use Rattle.gx_model.specs.Objects.{mode_text}
use Rattle.gx_object.specs.Lines.{stripped}
use Rattle.gx_object.specs.Trees.{IsPlainFront, mode_at}
use Rattle.gx_object.proofs.Bodies.{mode_front, mode_takes}
use Rattle.gx_object.proofs.Fields.{stripped_again, stripped_spelled}

-- ---- the mode

-- where no mode is stripped, none is read
pub mode_none : (bytes : Bytes) → ((m : Mode) → None ≡ stripped (mode_text m ++ 32 ∷ []) bytes) → None ≡ mode_at bytes
mode_none bytes h = by (mode_at bytes) refl
  where
    by : (o : Option (Mode × Bytes)) → mode_at bytes ≡ o → None ≡ o
    by None e = refl
    by (Some x) e =
        let whole = mode_takes bytes x e ∙ sym (append_assoc (mode_text x.0) (32 ∷ []) x.1) in
        let clash : None ≡ Some x.1 = h x.0 ∙ ap (stripped (mode_text x.0 ++ 32 ∷ [])) whole ∙ stripped_again (mode_text x.0 ++ 32 ∷ []) x.1 in
        absurd cc

-- what holds of five holds of each
pub each_mode : (P : Mode → Type 0) → P File → P Exec → P Link → P Gitlink → P Dir → (m : Mode) → P m
each_mode P f x l g d File = f
each_mode P f x l g d Exec = x
each_mode P f x l g d Link = l
each_mode P f x l g d Gitlink = g
each_mode P f x l g d Dir = d

-- the text of a mode and a space at the front are read
pub mode_there : (m : Mode) (bytes rest : Bytes) → Some rest ≡ stripped (mode_text m ++ 32 ∷ []) bytes → Some (m, rest) ≡ mode_at bytes
mode_there m bytes rest e = sym (ap mode_at (stripped_spelled (mode_text m ++ 32 ∷ []) bytes rest (sym e) ∙ append_assoc (mode_text m) (32 ∷ []) rest) ∙ mode_front m rest)

-- ---- where a component ends

-- what stands before the first NUL is that component
pub plain_cut : (bytes : Bytes) (len : ℕ) → IsPlainFront bytes len → cut_at 0 bytes ≡ Some (take len bytes, drop (suc len) bytes)
plain_cut bytes len front =
    let whole : bytes ≡ take len bytes ++ 0 ∷ drop (suc len) bytes =
    sym (take-append-drop len bytes) ∙ ap (λ t. take len bytes ++ t) (drop-cons bytes len 0 front.within ∙ ap (λ b. b ∷ drop (suc len) bytes) front.ended) in
    ap (cut_at 0) whole ∙ cut_after 0 (take len bytes) (drop (suc len) bytes) front.no_nul

-- before the first of these bytes there is none of them
pub lacks_before : (c n : ℕ) (bytes : Bytes) → n ≤ position_or_len (λ b. b == c) bytes → lacks c (take n bytes) ≡ true
lacks_before c zero bytes le = refl
lacks_before c (suc n) [] le = refl
lacks_before c (suc n) (b ∷ bytes) le = by (b == c) refl (lacks_before c n bytes)
  where
    by : (is : Bool) → (b == c) ≡ is → (n ≤ position_or_len (λ b. b == c) bytes → lacks c (take n bytes) ≡ true) → lacks c (b ∷ take n bytes) ≡ true
    by true e later = absurd (omega (arith, le, ap (λ t. cond (not t) (1 + position_or_len (λ b. b == c) bytes) 0) e))
    by false e later = rw e (later (omega (arith, le, ap (λ t. cond (not t) (1 + position_or_len (λ b. b == c) bytes) 0) e)))

one_more : (n : ℕ) → 1 + n ≡ suc n
one_more n = omega arith

-- and where there is one, it stands there
pub ended_there : (c : ℕ) (bytes : Bytes) → position_or_len (λ b. b == c) bytes < length bytes → get_or bytes (position_or_len (λ b. b == c) bytes) 0 ≡ c
ended_there c [] lt = absurd (omega (arith, lt))
ended_there c (b ∷ bytes) lt = by (b == c) refl (ended_there c bytes)
  where
    by : (is : Bool) → (b == c) ≡ is → (position_or_len (λ b. b == c) bytes < length bytes → get_or bytes (position_or_len (λ b. b == c) bytes) 0 ≡ c)
        → get_or (b ∷ bytes) (position_or_len (λ b. b == c) (b ∷ bytes)) 0 ≡ c
    by true e later = rw e (eqb-true b c e)
    by false e later =
        let more = ap (λ t. cond (not t) (1 + position_or_len (λ b. b == c) bytes) 0) e in
        ap (λ n. get_or (b ∷ bytes) n 0) (more ∙ one_more (position_or_len (λ b. b == c) bytes)) ∙ later (omega (arith, lt, more))

-- what stands in the first bytes stands in all
pub front_of_all : (bytes near : Bytes) (n len : ℕ) → n ≤ length bytes → near ≡ take n bytes → IsPlainFront near len → IsPlainFront bytes len
front_of_all bytes near n len enough same front =
    let long = ap length same ∙ length-take-le n bytes enough in
    let le : len ≤ n = omega (arith, front.within, long) in
    let part : take len near ≡ take len bytes = ap (take len) same ∙ take-take len n bytes le in
    record {
      within = omega (arith, front.within, long, enough);
      ended = sym (ap (λ l. get_or l len 0) same ∙ get_or-take n bytes len 0 (omega (arith, front.within, long))) ∙ front.ended;
      no_nul = sym (ap (lacks 0) part) ∙ front.no_nul;
      no_slash = sym (ap (lacks 47) part) ∙ front.no_slash;
    }
