-- Where the components of a path stand in its text.
use Rattle.std.proofs.Common.{◌≡◌, ℕ, zero, suc, ◌+◌, ◌-◌, ◌<◌, ◌≤◌, Bool, true, false, cond, eqb, leb, List, [], ◌∷◌, ◌++◌, length, get_or, take, drop, Ok, Err, refl, sym, ap, subst, ◌∙◌, arith, append_assoc, zero-add, add-zero, sub-one}
use Rattle.std.specs.List.{list_all, slice_split, onto_first}
use Rattle.std.proofs.lemmas.List.{append-nil, length-append, take_at, drop_at}
use Rattle.std.proofs.lemmas.List.Splits.{length-slice_split}
use Rattle.std.proofs.lemmas.Bool.{and_parts, leb-true}
use Rattle.gx_model.specs.Texts.{Bytes}
use Rattle.gx_model.specs.Texts.Paths.{Path, is_component, path_text, parts_of, path_of}
use Rattle.gx_model.specs.declared.faults.Fault.TheVariants as faults
use Rattle.gx_text.specs.TreePaths.{is_path, slashes, component_ends}
use Rattle.gx_model.proofs.Texts.PathTexts.{text_of_parts}

-- ---- the ends, by the components

abbrev ends_from : ℕ → Path → List ℕ
ends_from at [] = []
ends_from at (c ∷ cs) = (at + length c) ∷ ends_from (at + length c + 1) cs

length-ends_from : (at : ℕ) (cs : Path) → length (ends_from at cs) ≡ length cs
length-ends_from at [] = refl
length-ends_from at (c ∷ cs) = ap suc (length-ends_from (at + length c + 1) cs)

onto_ends : (at b : ℕ) (cs : Path) → 0 < length cs → ends_from at (onto_first b cs) ≡ ends_from (at + 1) cs
onto_ends at b [] some = absurd (omega arith)
onto_ends at b (c ∷ cs) some =
    let e : at + suc (length c) ≡ at + 1 + length c = omega arith in
    ap (λ n. n ∷ ends_from (n + 1) cs) e

same_ends : (at : ℕ) (bs : Bytes) → slashes at bs ++ (at + length bs) ∷ [] ≡ ends_from at (slice_split (λ x. eqb x 47) bs)
same_ends at [] = refl
same_ends at (b ∷ bs) = by (eqb b 47) (same_ends (at + 1) bs) where
  by : (t : Bool) → slashes (at + 1) bs ++ (at + 1 + length bs) ∷ [] ≡ ends_from (at + 1) (slice_split (λ x. eqb x 47) bs) → cond t (at ∷ slashes (at + 1) bs) (slashes (at + 1) bs) ++ (at + suc (length bs)) ∷ [] ≡ ends_from at (cond t ([] ∷ slice_split (λ x. eqb x 47) bs) (onto_first b (slice_split (λ x. eqb x 47) bs)))
  by true h =
      let last : at + suc (length bs) ≡ at + 1 + length bs = omega arith in
      rw (last, add-zero at) (ap (λ ns. at ∷ ns) h)
  by false h =
      let last : at + suc (length bs) ≡ at + 1 + length bs = omega arith in
      let some : 0 < length (slice_split (λ x. eqb x 47) bs) = omega (arith, length-slice_split (λ x. eqb x 47) bs) in
      rw last (h ∙ sym (onto_ends at b (slice_split (λ x. eqb x 47) bs) some))

ends_of_parts : (bs : Bytes) → component_ends bs ≡ ends_from 0 (parts_of bs)
ends_of_parts [] = refl
ends_of_parts (b ∷ bs) = ap (λ n. slashes 0 (b ∷ bs) ++ n ∷ []) (sym (zero-add (length (b ∷ bs)))) ∙ same_ends 0 (b ∷ bs)

pub length-component_ends : (bs : Bytes) → length (component_ends bs) ≡ length (parts_of bs)
length-component_ends bs = ap length (ends_of_parts bs) ∙ length-ends_from 0 (parts_of bs)

-- ---- what stands between two ends

-- c stands in bs from a place up to another
pub record Stands (bs : Bytes) (start end : ℕ) (c : Bytes) : Type 0 where
  pub before : Bytes
  pub after : Bytes
  pub whole : bs ≡ before ++ (c ++ after)
  pub starts : start ≡ length before
  pub ends : end ≡ length before + length c

-- a component begins behind the slash at which the one before it ends
abbrev pub start_in : ℕ → List ℕ → ℕ → ℕ
start_in at ends zero = at
start_in at ends (suc i) = get_or ends i 0 + 1

next_start : (at end : ℕ) (ends : List ℕ) (i : ℕ) → at ≡ end + 1 → start_in at ends i ≡ get_or (end ∷ ends) i 0 + 1
next_start at end ends zero e = e
next_start at end ends (suc i) e = refl

stands : (front : Bytes) (at : ℕ) (c : Bytes) (cs : Path) (i : ℕ) → at ≡ length front → i < length (c ∷ cs) → Stands (front ++ path_text (c ∷ cs)) (start_in at (ends_from at (c ∷ cs)) i) (get_or (ends_from at (c ∷ cs)) i 0) (get_or (c ∷ cs) i [])
stands front at c [] zero e lt = record { before = front; after = []; whole = ap (λ r. front ++ r) (sym (append-nil c)); starts = e; ends = ap (λ n. n + length c) e }
stands front at c [] (suc i) e lt = absurd (omega arith)
stands front at c (d ∷ ds) zero e lt = record { before = front; after = 47 ∷ path_text (d ∷ ds); whole = refl; starts = e; ends = ap (λ n. n + length c) e }
stands front at c (d ∷ ds) (suc i) e lt =
    let front' : Bytes = (front ++ c) ++ 47 ∷ [] in
    let long : at + length c + 1 ≡ length front' = omega (arith, e, length-append (front ++ c) (47 ∷ []), length-append front c) in
    let below = stands front' (at + length c + 1) d ds i long (omega arith) in
    record {
      before = below.before;
      after = below.after;
      whole = sym (append_assoc (front ++ c) (47 ∷ []) (path_text (d ∷ ds)) ∙ append_assoc front c (47 ∷ path_text (d ∷ ds))) ∙ below.whole;
      starts = sym (next_start (at + length c + 1) (at + length c) (ends_from (at + length c + 1) (d ∷ ds)) i refl) ∙ below.starts;
      ends = below.ends;
    }

stands_in : (cs : Path) (i : ℕ) → i < length cs → Stands (path_text cs) (start_in 0 (ends_from 0 cs) i) (get_or (ends_from 0 cs) i 0) (get_or cs i [])
stands_in [] i lt = absurd (omega arith)
stands_in (c ∷ cs) i lt = stands [] 0 c cs i refl lt

pub component_stands : (bs : Bytes) (i : ℕ) → i < length (parts_of bs) → Stands bs (start_in 0 (component_ends bs) i) (get_or (component_ends bs) i 0) (get_or (parts_of bs) i [])
component_stands bs i lt = rw (ends_of_parts bs) (subst (λ (t : Bytes). Stands t (start_in 0 (ends_from 0 (parts_of bs)) i) (get_or (ends_from 0 (parts_of bs)) i 0) (get_or (parts_of bs) i [])) (text_of_parts bs) (stands_in (parts_of bs) i lt))

pub stands_within : (bs : Bytes) (start end : ℕ) (c : Bytes) → Stands bs start end c → (start ≤ end) × (end ≤ length bs)
stands_within bs start end c h = (omega (arith, h.starts, h.ends), omega (arith, h.ends, ap length h.whole, length-append h.before (c ++ h.after), length-append c h.after))

pub stands_there : (bs : Bytes) (start end : ℕ) (c : Bytes) → Stands bs start end c → take (end - start) (drop start bs) ≡ c
stands_there bs start end c h =
    let rest : drop start bs ≡ c ++ h.after = ap (drop start) h.whole ∙ drop_at h.before (c ++ h.after) start (sym h.starts) in
    ap (take (end - start)) rest ∙ take_at c h.after (end - start) (omega (arith, h.starts, h.ends))

-- the same, of ends in memory and of a start by the end before
pub placed : (bs : Bytes) (ends : List ℕ) (i start end : ℕ) → ends ≡ component_ends bs → i < length (parts_of bs) → start ≡ start_in 0 ends i → end ≡ get_or ends i 0 → Stands bs start end (get_or (parts_of bs) i [])
placed bs ends i start end e lt s t =
    let h = component_stands bs i lt in
    record {
      before = h.before;
      after = h.after;
      whole = h.whole;
      starts = s ∙ ap (λ ns. start_in 0 ns i) e ∙ h.starts;
      ends = t ∙ ap (λ ns. get_or ns i 0) e ∙ h.ends;
    }

pub start_first : (ends : List ℕ) (i start : ℕ) → i ≡ 0 → start ≡ 0 → start ≡ start_in 0 ends i
start_first ends zero start e s = s
start_first ends (suc i) start e s = absurd (omega arith)

pub start_later : (ends : List ℕ) (i start : ℕ) → (i ≡ 0 → ⊥) → start ≡ get_or ends (i - 1) 0 + 1 → start ≡ start_in 0 ends i
start_later ends zero start e s = absurd (e refl)
start_later ends (suc i) start e s = rw sub-one at s

-- ---- a text that is a path's

pub text_is_path : (bs : Bytes) → path_of bs ≡ Ok (parts_of bs) → is_path (parts_of bs) ≡ true
text_is_path bs e = by (list_all is_component (parts_of bs)) (leb (length bs) 4095) refl refl e where
  by : (a b : Bool) → list_all is_component (parts_of bs) ≡ a → leb (length bs) 4095 ≡ b → cond a (cond b (Ok (parts_of bs)) (Err faults.PathTooLong)) (Err faults.BadPath) ≡ Ok (parts_of bs) → is_path (parts_of bs) ≡ true
  by true true h k e = rw (h, text_of_parts bs, k) refl
  by true false h k e = absurd cc
  by false b h k e = absurd cc

pub text_is_short : (bs : Bytes) → path_of bs ≡ Ok (parts_of bs) → length bs ≤ 4095
text_is_short bs e =
    let short = (and_parts (list_all is_component (parts_of bs)) _ (text_is_path bs e)).1 in
    leb-true _ _ (rw (text_of_parts bs) at short)
