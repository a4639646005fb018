-- Chains with one name more, and without the last one.
use Rattle.std.proofs.Common.{◌≡◌, ℕ, zero, suc, ◌+◌, ◌<◌, ◌≤◌, Bool, true, false, cond, List, [], ◌∷◌, ◌++◌, length, take, Some, refl, sym, ap, subst, ◌∙◌, arith, get_or, set, replicate, vec_capacity}
use Rattle.std.specs.Prelude.{nat_lt, nat_eq}
use Rattle.std.specs.List.{slice_get}
use Rattle.std.proofs.lemmas.Bool.{lt-ltb, eqb-true, ltb-true, false≢true, eq-eqb}
use Rattle.std.proofs.lemmas.List.{length_push, length-replicate, take-append-le, take_all, get_or-set_other, get_or-set_same, length-set}
use Rattle.std.proofs.lemmas.Option.{slice_get_within, get_or_from_slice_get, slice_get_read}
use Rattle.std.proofs.Math.ListN.{get_or-append}
use Rattle.std.proofs.Math.Numerals.{suc-eq-add-one}
use Rattle.std.proofs.Math.Seq.{get_or-append_seam, take-suc}
use Rattle.gx_object.specs.declared.name.Name.{Name}
use Rattle.gx_store.specs.Chains.{AreFronts, chain_of, is_in_chain, up_to_last}
use Rattle.gx_store.specs.declared.fronts.Fronts.{Fronts}

-- ---- how many names there are up to the last that passes

pub up_to_last_bound : (test : Name → Bool) (ns : List Name) → up_to_last test ns ≤ length ns
unfolding up_to_last
up_to_last_bound test [] = omega arith
up_to_last_bound test (n ∷ ns) = by (nat_lt 0 (up_to_last test ns)) (test n) (up_to_last_bound test ns)
  where
    by : (b c : Bool) → up_to_last test ns ≤ length ns → cond b (suc (up_to_last test ns)) (cond c 1 0) ≤ length (n ∷ ns)
    by true c h = omega arith
    by false true h = omega arith
    by false false h = omega arith

passed : (last len other : ℕ) → last ≡ suc len → cond (nat_lt 0 last) (suc last) other ≡ suc (suc len)
passed last len other e = ap (λ b. cond b (suc last) other) (lt-ltb 0 last (omega arith)) ∙ ap suc e

pub up_to_last_more : (test : Name → Bool) (ns : List Name) (n : Name) → up_to_last test (ns ++ n ∷ []) ≡ cond (test n) (suc (length ns)) (up_to_last test ns)
unfolding up_to_last
up_to_last_more test [] n = refl
up_to_last_more test (m ∷ ns) n = by (test n) (up_to_last_more test ns n)
  where
    by : (b : Bool) → up_to_last test (ns ++ n ∷ []) ≡ cond b (suc (length ns)) (up_to_last test ns)
        → cond (nat_lt 0 (up_to_last test (ns ++ n ∷ []))) (suc (up_to_last test (ns ++ n ∷ []))) (cond (test m) 1 0)
        ≡ cond b (suc (suc (length ns))) (cond (nat_lt 0 (up_to_last test ns)) (suc (up_to_last test ns)) (cond (test m) 1 0))
    by true e = passed (up_to_last test (ns ++ n ∷ [])) (length ns) (cond (test m) 1 0) e
    by false e = ap (λ last. cond (nat_lt 0 last) (suc last) (cond (test m) 1 0)) e

-- among the names up to the last that passes, it is the last
pub up_to_last_again : (test : Name → Bool) (ns : List Name) → up_to_last test (take (up_to_last test ns) ns) ≡ up_to_last test ns
unfolding up_to_last
up_to_last_again test [] = refl
up_to_last_again test (n ∷ ns) = by (nat_lt 0 (up_to_last test ns)) refl (test n) refl (up_to_last_again test ns)
  where
    by : (b : Bool) → nat_lt 0 (up_to_last test ns) ≡ b → (c : Bool) → test n ≡ c → up_to_last test (take (up_to_last test ns) ns) ≡ up_to_last test ns
        → up_to_last test (take (cond b (suc (up_to_last test ns)) (cond c 1 0)) (n ∷ ns)) ≡ cond b (suc (up_to_last test ns)) (cond c 1 0)
    by true p c q rest = ap (λ last. cond (nat_lt 0 last) (suc last) (cond (test n) 1 0)) rest ∙ ap (λ b. cond b (suc (up_to_last test ns)) (cond (test n) 1 0)) p
    by false p true q rest = ap (λ c. cond c 1 0) q
    by false p false q rest = refl

-- ---- names at their places

pub at_front : (ns more : List Name) (place : ℕ) → place < length ns → slice_get (ns ++ more) place ≡ slice_get ns place
at_front [] more place h = absurd (omega arith)
at_front (n ∷ ns) more zero h = refl
at_front (n ∷ ns) more (suc place) h = at_front ns more place (omega arith)

pub at_end : (ns : List Name) (n : Name) → slice_get (ns ++ n ∷ []) (length ns) ≡ Some n
at_end [] n = refl
at_end (m ∷ ns) n = at_end ns n

-- a name at a place is the next after those before it
pub taken : (ns : List Name) (place : ℕ) (n : Name) → slice_get ns place ≡ Some n → take (suc place) ns ≡ take place ns ++ n ∷ []
taken ns place n h = take-suc ns place n (slice_get_within ns place n h) ∙ ap (λ m. take place ns ++ m ∷ []) (get_or_from_slice_get ns place n n h)

pub taken_more : (ns : List Name) (place : ℕ) (n : Name) → slice_get ns place ≡ Some n → take (place + 1) ns ≡ take place ns ++ n ∷ []
taken_more ns place n h = ap (λ k. take k ns) (sym (suc-eq-add-one place)) ∙ taken ns place n h

same_some : (n m : Name) → Some n ≡ Some m → n ≡ m
same_some n m e = cc

-- what is read at a place doesn't depend on what is answered past the end
pub read_so : (xs : List ℕ) (place x : ℕ) → place < length xs → x ≡ get_or xs place x → get_or xs place 0 ≡ x
read_so xs place x h e = get_or_from_slice_get xs place x 0 (slice_get_read xs (length xs) place x refl h e)

-- ---- one name more

module _ {A : Type 0} (old new : Fronts A) (ns : List Name) (n : Name) where
  abbrev chains : ℕ
  chains = length old.heads.items

  abbrev own : ℕ
  own = chain_of chains n

  -- what a write to the name's own chain leaves
  written : (len : ℕ) → new.heads.items ≡ set old.heads.items own len → (chain : ℕ) → (b : Bool) → nat_eq own chain ≡ b → chain < chains
      → get_or new.heads.items chain 0 ≡ cond b len (get_or old.heads.items chain 0)
  written len e chain true p within =
      let same = eqb-true own chain p in
      ap (λ heads. get_or heads chain 0) e ∙ ap (λ at. get_or (set old.heads.items own len) at 0) (sym same) ∙ get_or-set_same old.heads.items own len 0 (omega arith)
  written len e chain false p within =
      ap (λ heads. get_or heads chain 0) e ∙ get_or-set_other old.heads.items own chain len 0 (λ same. false≢true (sym p ∙ eq-eqb own chain (sym same)))

  pub put_fronts : (len : ℕ) → len ≡ length new.next.items → new.next.items ≡ old.next.items ++ get_or old.heads.items own 0 ∷ [] → new.heads.items ≡ set old.heads.items own len → vec_capacity new.next ≡ vec_capacity old.next
      → own < chains → length old.next.items < chains → AreFronts old ns → AreFronts new (ns ++ n ∷ [])
  put_fronts len count nexts heads capacity within free f = record {
    chains = omega (arith, many, length_push ns n, f.long);
    heads = λ chain h.
        subst (λ m. get_or new.heads.items chain 0 ≡ up_to_last (is_in_chain m chain) (ns ++ n ∷ [])) (sym many)
        (heads_at chain (omega (arith, many)) (nat_eq own chain) refl ∙ sym (up_to_last_more (is_in_chain chains chain) ns n));
    long = omega (arith, ap length nexts, length_push old.next.items (get_or old.heads.items own 0), length_push ns n, f.long);
    next = λ place name h.
        subst (λ m. get_or new.next.items place 0 ≡ up_to_last (is_in_chain m (chain_of m name)) (take place (ns ++ n ∷ []))) (sym many) (next_at place name h (nat_lt place (length ns)) refl);
    room = omega (arith, many, capacity, f.room);
  }
    where
      many : length new.heads.items ≡ chains
      many = ap length heads ∙ length-set old.heads.items own len

      longer : len ≡ suc (length ns)
      longer = omega (arith, count, ap length nexts, length_push old.next.items (get_or old.heads.items own 0), f.long)

      heads_at : (chain : ℕ) → chain < chains → (b : Bool) → nat_eq own chain ≡ b → get_or new.heads.items chain 0 ≡ cond (nat_eq own chain) (suc (length ns)) (up_to_last (is_in_chain chains chain) ns)
      heads_at chain h true p = written len heads chain true p h ∙ longer ∙ ap (λ b. cond b (suc (length ns)) (up_to_last (is_in_chain chains chain) ns)) (sym p)
      heads_at chain h false p = written len heads chain false p h ∙ f.heads chain h ∙ ap (λ b. cond b (suc (length ns)) (up_to_last (is_in_chain chains chain) ns)) (sym p)

      next_at : (place : ℕ) (name : Name) → slice_get (ns ++ n ∷ []) place ≡ Some name → (b : Bool) → nat_lt place (length ns) ≡ b
          → get_or new.next.items place 0 ≡ up_to_last (is_in_chain chains (chain_of chains name)) (take place (ns ++ n ∷ []))
      next_at place name h true p =
          let short = ltb-true place (length ns) p in
          ap (λ next. get_or next place 0) nexts ∙ get_or-append old.next.items (get_or old.heads.items own 0 ∷ []) 0 place (omega (arith, f.long))
          ∙ f.next place name (sym (at_front ns (n ∷ []) place short) ∙ h) ∙ ap (up_to_last (is_in_chain chains (chain_of chains name))) (sym (take-append-le place ns (n ∷ []) (omega arith)))
      next_at place name h false p = last place (omega (arith, slice_get_within (ns ++ n ∷ []) place name h, length_push ns n, λ (l : place < length ns). false≢true (sym p ∙ lt-ltb place (length ns) l))) h
        where
          last : (place : ℕ) → place ≡ length ns → slice_get (ns ++ n ∷ []) place ≡ Some name → get_or new.next.items place 0 ≡ up_to_last (is_in_chain chains (chain_of chains name)) (take place (ns ++ n ∷ []))
          last place e h =
              let same = same_some n name (sym (at_end ns n) ∙ ap (slice_get (ns ++ n ∷ [])) (sym e) ∙ h) in
              ap (λ next. get_or next place 0) nexts ∙ ap (λ at. get_or (old.next.items ++ get_or old.heads.items own 0 ∷ []) at 0) (e ∙ sym f.long)
              ∙ get_or-append_seam old.next.items (get_or old.heads.items own 0) [] 0 ∙ f.heads own within
              ∙ ap (λ m. up_to_last (is_in_chain chains (chain_of chains m)) ns) same
              ∙ ap (up_to_last (is_in_chain chains (chain_of chains name))) (sym (take_all (length ns) ns (omega arith)) ∙ sym (take-append-le (length ns) ns (n ∷ []) (omega arith)) ∙ ap (λ k. take k (ns ++ n ∷ [])) (sym e))

  pub pop_fronts : (before : ℕ) → old.next.items ≡ new.next.items ++ before ∷ [] → new.heads.items ≡ set old.heads.items own before → vec_capacity new.next ≡ vec_capacity old.next
      → own < chains → AreFronts old (ns ++ n ∷ []) → AreFronts new ns
  pop_fronts before nexts heads capacity within f = record {
    chains = omega (arith, many, length_push ns n, f.chains);
    heads = λ chain h.
        subst (λ m. get_or new.heads.items chain 0 ≡ up_to_last (is_in_chain m chain) ns) (sym many) (heads_at chain (omega (arith, many)) (nat_eq own chain) refl);
    long = shorter;
    next = λ place name h.
        subst (λ m. get_or new.next.items place 0 ≡ up_to_last (is_in_chain m (chain_of m name)) (take place ns)) (sym many) (next_at place name h);
    room = omega (arith, many, capacity, f.room);
  }
    where
      many : length new.heads.items ≡ chains
      many = ap length heads ∙ length-set old.heads.items own before

      shorter : length new.next.items ≡ length ns
      shorter = omega (arith, ap length nexts, length_push new.next.items before, length_push ns n, f.long)

      front : take (length ns) (ns ++ n ∷ []) ≡ ns
      front = take-append-le (length ns) ns (n ∷ []) (omega arith) ∙ take_all (length ns) ns (omega arith)

      before_is : before ≡ up_to_last (is_in_chain chains own) ns
      before_is =
          sym (get_or-append_seam new.next.items before [] 0) ∙ ap (λ next. get_or next (length new.next.items) 0) (sym nexts) ∙ ap (λ at. get_or old.next.items at 0) shorter
          ∙ f.next (length ns) n (at_end ns n) ∙ ap (up_to_last (is_in_chain chains own)) front

      heads_at : (chain : ℕ) → chain < chains → (b : Bool) → nat_eq own chain ≡ b → get_or new.heads.items chain 0 ≡ up_to_last (is_in_chain chains chain) ns
      heads_at chain h true p = written before heads chain true p h ∙ before_is ∙ ap (λ at. up_to_last (is_in_chain chains at) ns) (eqb-true own chain p)
      heads_at chain h false p =
          written before heads chain false p h ∙ f.heads chain h ∙ up_to_last_more (is_in_chain chains chain) ns n ∙ ap (λ b. cond b (suc (length ns)) (up_to_last (is_in_chain chains chain) ns)) p

      next_at : (place : ℕ) (name : Name) → slice_get ns place ≡ Some name → get_or new.next.items place 0 ≡ up_to_last (is_in_chain chains (chain_of chains name)) (take place ns)
      next_at place name h =
          let short = slice_get_within ns place name h in
          sym (get_or-append new.next.items (before ∷ []) 0 place (omega (arith, shorter))) ∙ ap (λ next. get_or next place 0) (sym nexts)
          ∙ f.next place name (at_front ns (n ∷ []) place short ∙ h) ∙ ap (up_to_last (is_in_chain chains (chain_of chains name))) (take-append-le place ns (n ∷ []) (omega arith))

-- ---- no name

pub no_fronts : {A : Type 0} (fronts : Fronts A) (many : ℕ) → fronts.heads.items ≡ replicate many 0 → fronts.next.items ≡ [] → many ≤ vec_capacity fronts.next → AreFronts fronts []
unfolding up_to_last
no_fronts fronts many heads next room = record {
  chains = omega arith;
  heads = λ chain h. ap (λ all. get_or all chain 0) heads ∙ all_none many chain;
  long = ap length next;
  next = λ place name h. cc;
  room = let none : ℕ = 0 in omega (arith, room, ap length heads, length-replicate many none);
}
  where
    all_none : (many chain : ℕ) → let none : ℕ = 0 in get_or (replicate many none) chain none ≡ none
    all_none zero chain = refl
    all_none (suc many) zero = refl
    all_none (suc many) (suc chain) = all_none many chain
