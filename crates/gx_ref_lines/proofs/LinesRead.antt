-- Lines of refs, read one after the other.
use Rattle.std.proofs.Common.{◌≡◌, ℕ, ◌<◌, Bool, true, false, refl, sym, ap, subst, ◌∙◌, arith, List, [], ◌∷◌, ◌++◌, length, length-append, Option, Some, None, append_assoc, append-nil}
use Rattle.std.specs.Prelude.{IsTrue, ◌==◌}
use Rattle.std.proofs.lemmas.Bool.Decides.{nat_tests}
use Rattle.std.specs.Bool.{passes}
use Rattle.std.specs.List.{AllByRecursion, flat_map, list_all}
use Rattle.std.specs.Option.{option_and_then, option_map}
use Rattle.std.proofs.lemmas.Grind.{flat_map-append}
use Rattle.std.proofs.lemmas.List.Folds.{list_all-append}
use Rattle.gx_model.specs.Objects.{hex, is_name}
use Rattle.gx_model.specs.Objects.Naming.{lower_name_in}
use Rattle.gx_model.specs.Stores.StoreText.{stored_ref}
use Rattle.gx_model.specs.Texts.{Bytes, cut_at}
use Rattle.gx_model.specs.Texts.RefNames.{is_ref_name}
use Rattle.gx_model.proofs.ObjectTexts.NameDigits.{name_again, name_found}
use Rattle.gx_model.proofs.Records.OneHistory.{hex_line}
use Rattle.gx_model.proofs.Records.ReadRecords.{hex_text}
use Rattle.gx_model.proofs.Stores.StoreTexts.{both_some, line_lacks, line_text}
use Rattle.gx_model.proofs.Streams.CommandFields.{link_no_space}
use Rattle.gx_model.proofs.Texts.Cuts.{cut_after, cut_spelled, map_some}
use Rattle.gx_model.proofs.Texts.LineTexts.{line_append, ref_is_line}
use Rattle.gx_model.proofs.Texts.PathTests.{first, is_true, second}
use Rattle.gx_objects.specs.Answers.{AreRefs, SpellsRefs}

-- ---- the first line

abbrev Front : Type 0
Front = (Bytes × Bytes) × Bytes

-- the ref of a line that is cut at its space
abbrev pub of_parts : Bytes → Bytes × Bytes → Option Front
of_parts rest parts = option_map (λ called. ((parts.1, called), rest)) (lower_name_in parts.0)

-- the ref of a line, with what is behind this
abbrev pub of_line : Bytes × Bytes → Option Front
of_line line = option_and_then (of_parts line.1) (cut_at 32 line.0)

-- what is cut off is so spelled
pub front_spelled : (text : Bytes) (front : Front) → option_and_then of_line (cut_at 10 text) ≡ Some front → text ≡ stored_ref front.0 ++ front.1
front_spelled text front e =
    let line = both_some of_line (cut_at 10 text) front e in
    let parts = both_some (of_parts line.0.1) (cut_at 32 line.0.0) front line.2 in
    let named = map_some (λ called. ((parts.0.1, called), line.0.1)) (lower_name_in parts.0.0) front parts.2 in
    let digits = (name_found parts.0.0 named.0 named.1).0 in
    subst (λ (f : Front). text ≡ stored_ref f.0 ++ f.1) named.2
    (cut_spelled 10 text line.0 line.1 ∙ ap (λ l. l ++ 10 ∷ line.0.1) (cut_spelled 32 line.0.0 parts.0 parts.1 ∙ ap (λ d. d ++ 32 ∷ parts.0.1) digits) ∙ line_text (hex named.0) parts.0.1 line.0.1)

-- and a ref that stands in front is cut off
pub ref_cut : (ref : Bytes × Bytes) (rest : Bytes) → IsTrue (is_ref_name ref.0) → IsTrue (is_name ref.1) → option_and_then of_line (cut_at 10 (stored_ref ref ++ rest)) ≡ Some (ref, rest)
ref_cut ref rest r n =
    ap (λ t. option_and_then of_line (cut_at 10 t)) (sym (line_text (hex ref.1) ref.0 rest))
    ∙ ap (option_and_then of_line) (cut_after 10 (hex ref.1 ++ 32 ∷ ref.0) rest (line_lacks (hex ref.1 ++ 32 ∷ ref.0) (passes _ (line_append (hex ref.1) (32 ∷ ref.0) (is_true _ (hex_line ref.1)) (ref_is_line ref.0 r)))))
    ∙ ap (option_and_then (of_parts rest)) (cut_after 32 (hex ref.1) ref.0 (link_no_space (hex ref.1) (is_true _ (hex_text ref.1 (passes _ n)))))
    ∙ ap (option_map (λ called. ((ref.0, called), rest))) (name_again ref.1 n)

-- where nothing is cut off, none stands there
pub none_cut_off : (text : Bytes) → None ≡ option_and_then of_line (cut_at 10 text) → (ref : Bytes × Bytes) (rest : Bytes) → text ≡ stored_ref ref ++ rest → IsTrue (is_ref_name ref.0) → IsTrue (is_name ref.1) → ⊥
none_cut_off text none ref rest e r n =
    let both : None ≡ Some (ref, rest) = none ∙ ap (λ t. option_and_then of_line (cut_at 10 t)) e ∙ ref_cut ref rest r n in cc both

-- the line of a ref is some bytes, so what is behind it is shorter
pub line_long : (ref : Bytes × Bytes) (rest text : Bytes) → text ≡ stored_ref ref ++ rest → length rest < length text
line_long ref rest text e =
    let l = ap length (e ∙ sym (line_text (hex ref.1) ref.0 rest)) in
    let k = length-append (hex ref.1 ++ 32 ∷ ref.0) (10 ∷ rest) in omega arith

-- ---- whether text is left

zero_is : (n : ℕ) → (n == 0) ≡ true → n ≡ 0
zero_is n e = grind (arith, nat_tests)

pub some_left : (text : Bytes) {b : Bool} → b ≡ (length text == 0) → b ≡ false → text ≡ [] → ⊥
some_left text e f g = let h : true ≡ false = ap (λ (t : Bytes). length t == 0) (sym g) ∙ sym e ∙ f in cc h

pub no_text_left : (text : Bytes) {b : Bool} → b ≡ (length text == 0) → b ≡ true → text ≡ []
no_text_left [] e f = refl
no_text_left (x ∷ xs) e f = absurd (let l = zero_is (length (x ∷ xs)) (sym e ∙ f) in omega (arith, l))

-- ---- all lines

-- What is found is so spelled in front of the lines that are left, and where all lines are those of refs, these are the first.
pub record AreFirst (lines rest : Bytes) (found : List (Bytes × Bytes)) : Type 0 where
  pub spelled : lines ≡ flat_map stored_ref found ++ rest
  pub first : (refs : List (Bytes × Bytes)) → lines ≡ flat_map stored_ref refs → AreRefs refs → (left : List (Bytes × Bytes)) × (refs ≡ found ++ left) × (rest ≡ flat_map stored_ref left)

pub none_found : (lines : Bytes) → AreFirst lines lines []
none_found lines = record { spelled = refl; first = λ refs e are. (refs, refl, e) }

-- no lines are of no refs
none_left : (left : List (Bytes × Bytes)) → flat_map stored_ref left ≡ [] → left ≡ []
none_left [] e = refl
none_left (ref ∷ left) e = absurd (let l = line_long ref (flat_map stored_ref left) [] (sym e) in omega (arith, l))

pub all_found : (lines rest : Bytes) (found : List (Bytes × Bytes)) → rest ≡ [] → AreFirst lines rest found
    → (lines ≡ flat_map stored_ref found) × ((refs : List (Bytes × Bytes)) → lines ≡ flat_map stored_ref refs → AreRefs refs → found ≡ refs)
all_found lines rest found e a = (
  a.spelled ∙ ap (λ r. flat_map stored_ref found ++ r) e ∙ append-nil (flat_map stored_ref found),
  λ refs f are.
      let l = a.first refs f are in
      sym (append-nil found) ∙ ap (λ left. found ++ left) (sym (none_left l.0 (sym l.2 ∙ e))) ∙ sym l.1,
)

-- the objects of refs have names, behind the first ones too
names_behind : (found left : List (Bytes × Bytes)) → AllByRecursion (λ ref. IsTrue (is_name ref.1)) (found ++ left) → AllByRecursion (λ ref. IsTrue (is_name ref.1)) left
names_behind [] left h = h
names_behind (ref ∷ found) left h = names_behind found left h.1

-- a ref that stands behind the first ones is a ref's
record IsNext (rest : Bytes) (found refs : List (Bytes × Bytes)) : Type 0 where
  ref : Bytes × Bytes
  left : List (Bytes × Bytes)
  are : refs ≡ found ++ ref ∷ left
  line : rest ≡ stored_ref ref ++ flat_map stored_ref left
  named : IsTrue (is_ref_name ref.0)
  object : IsTrue (is_name ref.1)

is_next : (lines rest : Bytes) (found refs : List (Bytes × Bytes)) → (rest ≡ [] → ⊥) → AreFirst lines rest found → lines ≡ flat_map stored_ref refs → AreRefs refs → IsNext rest found refs
is_next lines rest found refs some a e are = let l = a.first refs e are in by l.0 l.1 l.2
  where
    by : (left : List (Bytes × Bytes)) → refs ≡ found ++ left → rest ≡ flat_map stored_ref left → IsNext rest found refs
    by [] f g = absurd (some g)
    by (ref ∷ left) f g = record {
      ref = ref;
      left = left;
      are = f;
      line = g;
      named = is_true _ (first _ _ (second (list_all (λ q. is_ref_name q.0) found) _ (passes _ (sym (list_all-append (λ q. is_ref_name q.0) found (ref ∷ left)) ∙ ap (list_all (λ q. is_ref_name q.0)) (sym f) ∙ are.names))));
      object = (names_behind found (ref ∷ left) (subst (λ qs. AllByRecursion (λ q. IsTrue (is_name q.1)) qs) f are.objects)).0;
    }

module _ (lines rest : Bytes) (found : List (Bytes × Bytes)) (some : rest ≡ [] → ⊥) (a : AreFirst lines rest found) where
  -- what is cut off a text
  abbrev Cuts : Option Front → Type 0
  Cuts front = (ref : Bytes × Bytes) (behind : Bytes) → rest ≡ stored_ref ref ++ behind → IsTrue (is_ref_name ref.0) → IsTrue (is_name ref.1) → front ≡ Some (ref, behind)

  -- where none is, the lines aren't those of refs
  pub none_cut : Cuts None → SpellsRefs lines → ⊥
  none_cut cuts spelled =
      let n = is_next lines rest found spelled.0 some a spelled.1 spelled.2 in
      let is = cuts n.ref (flat_map stored_ref n.left) n.line n.named n.object in cc is

  -- one more is found
  pub one_cut : (ref : Bytes × Bytes) (behind : Bytes) → rest ≡ stored_ref ref ++ behind → Cuts (Some (ref, behind)) → AreFirst lines behind (found ++ ref ∷ [])
  one_cut ref behind e cuts = record {
    spelled = a.spelled ∙ ap (λ r. flat_map stored_ref found ++ r) e ∙ sym (append_assoc (flat_map stored_ref found) (stored_ref ref) behind)
        ∙ ap (λ r. r ++ behind) (ap (λ r. flat_map stored_ref found ++ r) (sym (append-nil (stored_ref ref))) ∙ sym (flat_map-append stored_ref found (ref ∷ [])));
    first = λ refs f are.
        let n = is_next lines rest found refs some a f are in
        let is : ◌≡◌ {A = Front} (ref, behind) (n.ref, flat_map stored_ref n.left) = some_is (cuts n.ref (flat_map stored_ref n.left) n.line n.named n.object) in (
          n.left,
          n.are ∙ ap (λ q. found ++ q ∷ n.left) (sym (ap (λ (p : Front). p.0) is)) ∙ sym (append_assoc found (ref ∷ []) n.left),
          ap (λ (p : Front). p.1) is,
        );
  }
    where
      some_is : {x y : Front} → Some x ≡ Some y → x ≡ y
      some_is e = cc e
