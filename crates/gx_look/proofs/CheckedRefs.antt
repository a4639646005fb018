-- The lines of refs that are checked one after the other.
use Rattle.std.proofs.Common.{◌≡◌, ℕ, suc, ◌+◌, ◌-◌, Bool, true, cond, refl, sym, ap, ◌∙◌, subst, List, [], ◌∷◌, ◌++◌, codes, length, Option, Some, None, append_assoc, arith}
use Rattle.std.specs.Prelude.{T, ◌&&◌, IsTrue}
use Rattle.std.specs.Bool.{passes}
use Rattle.std.specs.List.{AllByRecursion, flat_map, list_all}
use Rattle.std.specs.Option.{option_and_then, option_map}
use Rattle.std.specs.Ordering.{is_lt, is_some_and, nat_cmp, partial_lt}
use Rattle.std.specs.declared.cmp.Ordering.{Ordering}
use Rattle.std.specs.declared.cmp.Ordering.TheVariants.{Less, Equal, Greater}
use Rattle.std.specs.Cmp.Lexicographic.{lists_agrees, nat_list_cmp_total, slice_partial_cmp}
use Rattle.std.specs.FinMap.Entries.{below_all, is_sorted}
use Rattle.std.proofs.lemmas.Option.{cond_some}
use Rattle.gx_model.specs.Texts.{Bytes, byte_cmp, cut_at, is_line}
use Rattle.gx_model.specs.Texts.Digits.{is_name_text}
use Rattle.gx_model.specs.Texts.RefNames.{is_ref_name}
use Rattle.gx_model.specs.Objects.{hex, is_name, unhex}
use Rattle.gx_model.specs.Objects.Naming.{lower_name_in}
use Rattle.gx_model.specs.Stores.StoreReading.{if_ref, is_after, is_less, ref_line}
use Rattle.gx_model.specs.Stores.StoreText.{stored_ref}
use Rattle.gx_model.proofs.Histories.PathRuns.{less_is}
use Rattle.gx_model.proofs.ObjectTexts.BodiesReadBack.{bytes_name, unhex_hex}
use Rattle.gx_model.proofs.ObjectTexts.NameDigits.{name_found}
use Rattle.gx_model.proofs.Records.ReadRecords.{hex_text}
use Rattle.gx_model.proofs.Stores.RecordLines.{hex_unhex}
use Rattle.gx_model.proofs.Stores.StoreTexts.{both_some, line_text}
use Rattle.gx_model.proofs.Stores.StoredRefs.{IsBefore}
use Rattle.gx_model.proofs.Texts.Cuts.{cut_spelled, map_some, some_is}
use Rattle.gx_model.proofs.Texts.LineTexts.{ref_is_line}
use Rattle.gx_model.proofs.Texts.PathTests.{both, first, is_true, second}
use Rattle.gx_objects.specs.Answers.{AreRefs}
use Rattle.gx_look.specs.Refs.{AreLines, first_ref, name_and_rest}
use Rattle.gx_look.specs.Tails.{SpellsLines, refs_text}
use Rattle.gx_look.proofs.LinesOfRefs.{one_cut, one_line}

-- ---- the order of refs

-- what is less than a ref name is less than those above it
below_next : (x y : Bytes) (refs : List (Bytes × Bytes)) → byte_cmp x y ≡ Less → T (below_all byte_cmp y refs) → T (below_all byte_cmp x refs)
below_next x y [] l h = tt
below_next x y (r ∷ rs) l h =
    both _ _ (subst (λ o. T (is_lt o)) (sym (nat_list_cmp_total.trans x y r.0 l (less_is _ (first _ _ h)))) tt)
    (below_next x y rs l (second (is_lt (byte_cmp y r.0)) (below_all byte_cmp y rs) h))

-- what stands before a ref stands before those after it
before_next : (last : Option Bytes) (name : Bytes) (object : Bytes) (refs : List (Bytes × Bytes)) → is_after last name ≡ true → T (below_all byte_cmp name refs) → IsBefore last ((name, object) ∷ refs)
before_next None name object refs e h = tt
before_next (Some last) name object refs e h =
    let less = less_of (byte_cmp last name) e in
    both _ _ (subst (λ o. T (is_lt o)) (sym less) tt) (below_next last name refs less h)
  where
    less_of : (o : Ordering) → is_less o ≡ true → o ≡ Less
    less_of Less e = refl
    less_of Equal e = absurd (cc)
    less_of Greater e = absurd (cc)

-- the first of refs stands after the one before it
after_last : (last : Option Bytes) (x : Bytes × Bytes) (refs : List (Bytes × Bytes)) → IsBefore last (x ∷ refs) → is_after last x.0 ≡ true
after_last None x refs h = refl
after_last (Some last) x refs h = ap is_less (less_is _ (first (is_lt (byte_cmp last x.0)) (below_all byte_cmp last refs) h))

-- two orders of texts are one
pub less_so : (x y : Bytes) → partial_lt (slice_partial_cmp (λ a b. Some (nat_cmp a b))) x y ≡ is_less (byte_cmp x y)
less_so x y = ap (is_some_and is_lt) (lists_agrees (λ a b. refl) x y) ∙ by (byte_cmp x y)
  where
    by : (o : Ordering) → is_lt o ≡ is_less o
    by Less = refl
    by Equal = refl
    by Greater = refl

-- ---- the line in front

-- digits in lower case and a ref name are a ref's line
pub line_read : (l digits name object : Bytes) (b : Bool) → Some (digits, name) ≡ cut_at 32 l → Some object ≡ lower_name_in digits → is_ref_name name ≡ b → ref_line l ≡ cond b (Some (name, object)) None
unfolding lower_name_in
line_read l digits name object b cut read named =
    let q = cond_some (is_name_text digits) (unhex digits) object (sym read) in
    ap (option_and_then if_ref) (sym cut) ∙ (λ i. cond (q.0 i && named i) (Some (name, q.1 i)) None)

-- a ref whose line is read: how it is spelled, its name and its object
record IsRef (line : Bytes) (x : Bytes × Bytes) : Type 0 where
  spelled : line ≡ hex x.1 ++ 32 ∷ x.0
  named : T (is_ref_name x.0)
  object : IsTrue (is_name x.1)

ref_read : (line : Bytes) (x : Bytes × Bytes) → ref_line line ≡ Some x → IsRef line x
unfolding lower_name_in
ref_read line x e =
    let p = both_some if_ref (cut_at 32 line) x e in
    let q = cond_some (is_name_text p.0.0 && is_ref_name p.0.1) (p.0.1, unhex p.0.0) x p.2 in
    let t = passes _ q.0 in
    let text = first (is_name_text p.0.0) (is_ref_name p.0.1) t in
    subst (IsRef line) q.1 (record {
      spelled = cut_spelled 32 line p.0 p.1 ∙ ap (λ z. z ++ 32 ∷ p.0.1) (sym (hex_unhex p.0.0 text));
      named = second (is_name_text p.0.0) (is_ref_name p.0.1) t;
      object = (name_found p.0.0 (unhex p.0.0) (rw (is_true _ text) refl)).1;
    })

-- a text whose first line is read begins with a ref's
pub record IsFirst (text : Bytes) (name behind : Bytes) : Type 0 where
  pub object : Bytes
  pub spelled : text ≡ stored_ref (name, object) ++ behind
  pub named : T (is_ref_name name)
  pub held : IsTrue (is_name object)

pub first_is : (text name behind : Bytes) → Some (name, behind) ≡ option_map name_and_rest (first_ref text) → IsFirst text name behind
first_is text name behind e =
    let f = map_some name_and_rest (first_ref text) (name, behind) (sym e) in
    let l = both_some (λ (l : Bytes × Bytes). option_map (λ (ref : Bytes × Bytes). (ref, l.1)) (ref_line l.0)) (cut_at 10 text) f.0 f.1 in
    let r = map_some (λ (ref : Bytes × Bytes). (ref, l.0.1)) (ref_line l.0.0) f.0 l.2 in
    let one = ref_read l.0.0 r.0 r.1 in
    let name_is : r.0.0 ≡ name = ap (λ (z : (Bytes × Bytes) × Bytes). z.0.0) r.2 ∙ ap (λ (z : Bytes × Bytes). z.0) f.2 in
    let rest_is : l.0.1 ≡ behind = ap (λ (z : (Bytes × Bytes) × Bytes). z.1) r.2 ∙ ap (λ (z : Bytes × Bytes). z.1) f.2 in
    let spelled : text ≡ stored_ref r.0 ++ l.0.1 =
    cut_spelled 10 text l.0 l.1 ∙ ap (λ z. z ++ 10 ∷ l.0.1) one.spelled ∙ line_text (hex r.0.1) r.0.0 l.0.1 in
    record {
      object = r.0.1;
      spelled = spelled ∙ (λ i. stored_ref (name_is i, r.0.1) ++ rest_is i);
      named = subst (λ z. T (is_ref_name z)) name_is one.named;
      held = one.object;
    }

-- what is told of a line is told of the text that begins with it
pub first_so : (text line rest : Bytes) (name : Option Bytes) → Some (line, rest) ≡ cut_at 10 text → name ≡ option_map (λ (ref : Bytes × Bytes). ref.0) (ref_line line)
    → option_map (λ n. (n, rest)) name ≡ option_map name_and_rest (first_ref text)
first_so text line rest name cut e =
    ap (option_map (λ n. (n, rest))) e ∙ by (ref_line line)
    ∙ ap (λ o. option_map name_and_rest (option_and_then (λ (l : Bytes × Bytes). option_map (λ (ref : Bytes × Bytes). (ref, l.1)) (ref_line l.0)) o)) cut
  where
    by : (o : Option (Bytes × Bytes)) → option_map (λ n. (n, rest)) (option_map (λ (ref : Bytes × Bytes). ref.0) o) ≡ option_map name_and_rest (option_map (λ (ref : Bytes × Bytes). (ref, rest)) o)
    by None = refl
    by (Some x) = refl

-- ---- what was checked

-- refs with one in front are as a repository may have them
with_first : (x : Bytes × Bytes) (refs : List (Bytes × Bytes)) → T (is_ref_name x.0) → IsTrue (is_name x.1) → T (below_all byte_cmp x.0 refs) → AreRefs refs → AreRefs (x ∷ refs)
with_first x refs n o b h =
    record {
      sorted = is_true _ (both _ _ b (passes _ h.sorted));
      names = is_true _ (both _ _ n (passes _ h.names));
      objects = (o, h.objects);
    }

-- whatever refs follow, the whole text has such refs
abbrev pub IsAhead : Bytes → Option Bytes → Bytes → Type 0
IsAhead text last rest = (refs : List (Bytes × Bytes)) → rest ≡ refs_text refs → AreRefs refs → IsBefore last refs → SpellsLines text

pub first_ahead : (text : Bytes) → IsAhead text None text
first_ahead text refs e h b = (refs, e, h)

pub next_ahead : (text rest name behind : Bytes) (last : Option Bytes) → IsAhead text last rest → IsFirst rest name behind → is_after last name ≡ true → IsAhead text (Some name) behind
next_ahead text rest name behind last ahead f after refs e h b =
    let x : Bytes × Bytes = (name, f.object) in
    ahead (x ∷ refs) (f.spelled ∙ ap (λ z. stored_ref x ++ z) e ∙ sym (append_assoc (stored_ref x) (flat_map stored_ref refs) (codes "end" ++ 10 ∷ [])))
    (with_first x refs f.named f.held b h) (before_next last name f.object refs after b)

pub last_ahead : (text rest : Bytes) (last : Option Bytes) → IsAhead text last rest → rest ≡ codes "end" ++ 10 ∷ [] → SpellsLines text
last_ahead text rest last ahead e = ahead [] e (record { sorted = refl; names = refl; objects = tt }) (none last)
  where
    none : (last : Option Bytes) → IsBefore last []
    none None = tt
    none (Some x) = tt

-- ---- what is left

-- so many refs are left, each greater than the last one
pub record AreLeft (last : Option Bytes) (rest : Bytes) (n : ℕ) : Type 0 where
  pub refs : List (Bytes × Bytes)
  pub spelled : rest ≡ refs_text refs
  pub named : AreRefs refs
  pub before : IsBefore last refs
  pub count : length refs ≡ n

-- the lines of refs as a repository may have them
pub lines_of : (lines : Bytes) (refs : List (Bytes × Bytes)) → lines ≡ refs_text refs → AreRefs refs → AreLines lines refs
lines_of lines refs e h = record { spelled = e; names = names refs (passes _ h.names); targets = h.objects; sorted = h.sorted }
  where
    names : (refs : List (Bytes × Bytes)) → T (list_all (λ ref. is_ref_name ref.0) refs) → AllByRecursion (λ ref. IsTrue (is_line ref.0)) refs
    names [] h = tt
    names (x ∷ xs) h = (ref_is_line x.0 (is_true _ (first (is_ref_name x.0) (list_all (λ ref. is_ref_name ref.0) xs) h)), names xs (second (is_ref_name x.0) (list_all (λ ref. is_ref_name ref.0) xs) h))

-- the one in front of those that are left
pub record IsNext (last : Option Bytes) (rest : Bytes) (n : ℕ) : Type 0 where
  pub name : Bytes
  pub behind : Bytes
  pub read : option_map name_and_rest (first_ref rest) ≡ Some (name, behind)
  pub after : is_after last name ≡ true
  pub left : AreLeft (Some name) behind n

pub next_there : (last : Option Bytes) (rest : Bytes) (n : ℕ) → AreLeft last rest (suc n) → IsNext last rest n
next_there last rest n h = by h.refs h.spelled h.named h.before h.count
  where
    by : (refs : List (Bytes × Bytes)) → rest ≡ refs_text refs → AreRefs refs → IsBefore last refs → length refs ≡ suc n → IsNext last rest n
    by [] e h b l = absurd (omega (arith, l))
    by (x ∷ xs) e h b l =
        let lines = lines_of rest (x ∷ xs) e h in
        let names = passes _ h.names in
        let name = first (is_ref_name x.0) (list_all (λ ref. is_ref_name ref.0) xs) names in
        let held = passes _ h.objects.0 in
        let sorted = passes _ h.sorted in
        let line : ref_line (hex x.1 ++ 32 ∷ x.0) ≡ Some x =
        ap (option_and_then if_ref) (one_cut rest x xs lines)
        ∙ ap (λ b. cond b (Some (x.0, unhex (hex x.1))) None) (is_true _ (both _ _ (hex_text x.1 held) name))
        ∙ (λ i. Some (x.0, unhex_hex x.1 (bytes_name x.1 held) i)) in
        let read : first_ref rest ≡ Some (x, refs_text xs) =
        ap (option_and_then (λ (l : Bytes × Bytes). option_map (λ (ref : Bytes × Bytes). (ref, l.1)) (ref_line l.0))) (one_line rest x xs lines)
        ∙ ap (option_map (λ (ref : Bytes × Bytes). (ref, refs_text xs))) line in
        record {
          name = x.0;
          behind = refs_text xs;
          read = ap (option_map name_and_rest) read;
          after = after_last last x xs b;
          left = record {
            refs = xs;
            spelled = refl;
            named = record {
              sorted = is_true _ (second (below_all byte_cmp x.0 xs) (is_sorted byte_cmp xs) sorted);
              names = is_true _ (second (is_ref_name x.0) (list_all (λ ref. is_ref_name ref.0) xs) names);
              objects = h.objects.1;
            };
            before = first (below_all byte_cmp x.0 xs) (is_sorted byte_cmp xs) sorted;
            count = omega (arith, l);
          };
        }

-- a line that isn't read is no ref's
pub never_none : (last : Option Bytes) (rest : Bytes) (n m : ℕ) → m ≡ suc n → AreLeft last rest m → None ≡ option_map name_and_rest (first_ref rest) → ⊥
never_none last rest n m k h e = let next = next_there last rest n (subst (AreLeft last rest) k h) in let l = e ∙ next.read in cc l

-- one that is read is in order, and the others are left
pub one_left : (last : Option Bytes) (rest name behind : Bytes) (n m : ℕ) → m ≡ suc n → AreLeft last rest m → Some (name, behind) ≡ option_map name_and_rest (first_ref rest) → (is_after last name ≡ true) × AreLeft (Some name) behind n
one_left last rest name behind n m k h e =
    let next = next_there last rest n (subst (AreLeft last rest) k h) in
    let is = some_is (next.name, next.behind) (name, behind) (sym (e ∙ next.read)) in
    (subst (λ (z : Bytes × Bytes). is_after last z.0 ≡ true) is next.after, subst (λ (z : Bytes × Bytes). AreLeft (Some z.0) z.1 n) is next.left)

-- once none is left, the last line is
pub last_there : (last : Option Bytes) (rest : Bytes) → AreLeft last rest 0 → rest ≡ codes "end" ++ 10 ∷ []
last_there last rest h = by h.refs h.spelled h.count
  where
    by : (refs : List (Bytes × Bytes)) → rest ≡ refs_text refs → length refs ≡ 0 → rest ≡ codes "end" ++ 10 ∷ []
    by [] e l = e
    by (x ∷ xs) e l = absurd (omega (arith, l))
