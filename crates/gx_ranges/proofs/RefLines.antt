-- Refs line by line: what a line gives, what it peels to, and what the refs that are read reach.
use Rattle.std.proofs.Common.{◌≡◌, ℕ, ◌<◌, Bool, true, false, refl, sym, ap, subst, ◌∙◌, arith, List, [], ◌∷◌, ◌++◌, map, length, length-append, Option, Some, None, Ok, append_assoc, append-nil}
use Rattle.std.specs.Prelude.{IfSome, IsTrue, is_some, ◌==◌, ◌||◌}
use Rattle.std.proofs.lemmas.Bool.Decides.{nat_tests}
use Rattle.std.specs.Bool.{passes}
use Rattle.std.specs.List.{AllByRecursion, flat_map, list_all}
use Rattle.std.specs.Option.{option_and_then, option_map}
use Rattle.std.proofs.lemmas.List.{map-append}
use Rattle.gx_model.specs.declared.objects.Kind.{Kind}
use Rattle.gx_model.specs.Export.{is_reached}
use Rattle.gx_model.specs.Histories.{Records}
use Rattle.gx_model.specs.Objects.{IsNamer, hex, is_name}
use Rattle.gx_model.specs.Objects.Naming.{lower_name_in}
use Rattle.gx_model.specs.Records.{body_of, kind_of}
use Rattle.gx_model.specs.Records.Growth.{record_named}
use Rattle.gx_model.specs.Records.HistoryOf.{target_in, value_of_name}
use Rattle.gx_model.specs.Records.Sound.{IsSound, IsTarget}
use Rattle.gx_model.specs.Replay.{peeled_at}
use Rattle.gx_model.specs.Revisions.Denotation.{commit_in}
use Rattle.gx_model.specs.Revisions.Ranges.{reaches}
use Rattle.gx_model.specs.Stores.StoreText.{stored_ref}
use Rattle.gx_model.specs.Texts.{Bytes, cut_at}
use Rattle.gx_model.specs.Texts.RefNames.{is_ref_name}
use Rattle.gx_model.proofs.ObjectTexts.NameDigits.{name_again}
use Rattle.gx_model.proofs.ObjectTexts.TreePaths.{name_is_name}
use Rattle.gx_model.proofs.Records.HeldValues.{held_is}
use Rattle.gx_model.proofs.Records.OneHistory.{hex_line}
use Rattle.gx_model.proofs.Records.PeeledRefs.{target_peels, told}
use Rattle.gx_model.proofs.Records.ReadRecords.{hex_text}
use Rattle.gx_model.proofs.Stores.StoreTexts.{both_some, line_lacks, line_text}
use Rattle.gx_model.proofs.Streams.CommandFields.{link_no_space}
use Rattle.gx_model.proofs.Texts.Cuts.{cut_after, cut_spelled}
use Rattle.gx_model.proofs.Texts.LineTexts.{line_append, ref_is_line}
use Rattle.gx_model.proofs.Texts.PathTests.{first, is_true, second}
use Rattle.gx_object.specs.declared.name.Name.{Name}
use Rattle.gx_rev.specs.Objects.{commit_at, value_at}
use Rattle.gx_rev.specs.Reached.{is_wanted}
use Rattle.gx_ranges.specs.Fronts.{Adds, AreTips, lead_to}
use Rattle.gx_ranges.specs.Refs.{IsPeeled, first_ref, named_in, with_rest}
use Rattle.gx_ranges.proofs.Reached.{or_none}
use Rattle.gx_ranges.proofs.WordTips.{adds_both, adds_same, ref_more}

-- ---- a line

pub line_cut : (ref : Bytes × Bytes) (rest : Bytes) → IsTrue (is_ref_name ref.0) → cut_at 10 (stored_ref ref ++ rest) ≡ Some (hex ref.1 ++ 32 ∷ ref.0, rest)
line_cut ref rest r =
    ap (cut_at 10) (sym (line_text (hex ref.1) ref.0 rest))
    ∙ cut_after 10 (hex ref.1 ++ 32 ∷ ref.0) rest (line_lacks (hex ref.1 ++ 32 ∷ ref.0) (passes _ (line_append (hex ref.1) (32 ∷ ref.0) (is_true _ (hex_line ref.1)) (ref_is_line ref.0 r))))

pub digits_cut : (ref : Bytes × Bytes) → IsTrue (is_name ref.1) → cut_at 32 (hex ref.1 ++ 32 ∷ ref.0) ≡ Some (hex ref.1, ref.0)
digits_cut ref n = cut_after 32 (hex ref.1) ref.0 (link_no_space (hex ref.1) (is_true _ (hex_text ref.1 (passes _ n))))

pub digits_read : (ref : Bytes × Bytes) → IsTrue (is_name ref.1) → lower_name_in (hex ref.1) ≡ Some ref.1
digits_read ref n = name_again ref.1 n

-- the line of a ref isn't empty
some_line : (ref : Bytes × Bytes) (rest : Bytes) → stored_ref ref ++ rest ≡ [] → ⊥
some_line ref rest e =
    let l = ap length (line_text (hex ref.1) ref.0 rest ∙ e) in
    let k = length-append (hex ref.1 ++ 32 ∷ ref.0) (10 ∷ rest) in omega arith

-- no lines are of no refs
pub none_behind : (left : List (Bytes × Bytes)) → flat_map stored_ref left ≡ [] → left ≡ []
none_behind [] e = refl
none_behind (ref ∷ left) e = absurd (some_line ref (flat_map stored_ref left) e)

pub ref_first : (ref : Bytes × Bytes) (rest : Bytes) → IsTrue (is_name ref.1) → IsTrue (is_ref_name ref.0) → first_ref (stored_ref ref ++ rest) ≡ Some (ref, rest)
unfolding first_ref
ref_first ref rest n r =
    ap (option_and_then named_in) (line_cut ref rest r) ∙ ap (option_and_then (with_rest rest)) (digits_cut ref n) ∙ ap (option_map (λ called. ((ref.0, called), rest))) (digits_read ref n)

-- what follows a line is shorter
cut_shorter : (c : ℕ) (text : Bytes) (p : Bytes × Bytes) → cut_at c text ≡ Some p → length p.1 < length text
cut_shorter c text p e =
    let s = ap length (cut_spelled c text p e) ∙ length-append p.0 (c ∷ p.1) in omega arith

pub rest_shorter : (text : Bytes) (p : (Bytes × Bytes) × Bytes) → first_ref text ≡ Some p → length p.1 < length text
unfolding first_ref
rest_shorter text p e =
    let line = both_some named_in (cut_at 10 text) p e in
    let parts = both_some (with_rest line.0.1) (cut_at 32 line.0.0) p line.2 in
    let same : p.1 ≡ line.0.1 = kept (lower_name_in parts.0.0) parts.0.1 line.0.1 p parts.2 in
    let l = cut_shorter 10 text line.0 line.1 in
    let m = ap length same in omega (arith, l, m)
  where
    kept : (o : Option Bytes) (called rest : Bytes) (p : (Bytes × Bytes) × Bytes) → option_map (λ n. ((called, n), rest)) o ≡ Some p → p.1 ≡ rest
    kept None called rest p e = absurd cc
    kept (Some n) called rest p e = let same : ((called, n), rest) ≡ p = cc in sym (ap (λ (q : (Bytes × Bytes) × Bytes). q.1) same)

-- whether text is left

zero_is : (n : ℕ) → (n == 0) ≡ true → n ≡ 0
zero_is n e = grind (arith, nat_tests)

pub some_left : (text : Bytes) {b : Bool} → b ≡ (length text == 0) → b ≡ false → text ≡ [] → ⊥
some_left text e f g = let h : true ≡ false = ap (λ (t : Bytes). length t == 0) (sym g) ∙ sym e ∙ f in cc h

pub none_left : (text : Bytes) {b : Bool} → b ≡ (length text == 0) → b ≡ true → text ≡ []
none_left [] e f = refl
none_left (x ∷ xs) e f = absurd (let l = zero_is (length (x ∷ xs)) (sym e ∙ f) in omega (arith, l))

-- ---- the refs of a repository

-- a ref whose line is read, and whose object peels to a commit
pub record IsPeeling (r : Records) (ref : Bytes × Bytes) : Type 0 where
  pub name : IsTrue (is_name ref.1)
  pub ref_name : IsTrue (is_ref_name ref.0)
  pub held : IsTrue (is_some (record_named r.records ref.1))
  pub peels : commit_in (value_of_name r.records ref.1) ≡ Ok (peeled_at (target_in (value_of_name r.records ref.1)))

all_parts : (P : Bytes × Bytes → Type 0) (xs : List (Bytes × Bytes)) (y : Bytes × Bytes) (zs : List (Bytes × Bytes)) → AllByRecursion P (xs ++ y ∷ zs) → P y
all_parts P [] y zs h = h.0
all_parts P (x ∷ xs) y zs h = all_parts P xs y zs h.1

test_part : (p : Bytes × Bytes → Bool) (xs : List (Bytes × Bytes)) (y : Bytes × Bytes) (zs : List (Bytes × Bytes)) → IsTrue (list_all p (xs ++ y ∷ zs)) → IsTrue (p y)
test_part p [] y zs h = is_true _ (first (p y) (list_all p zs) (passes _ h))
test_part p (x ∷ xs) y zs h = test_part p xs y zs (is_true _ (second (p x) (list_all p (xs ++ y ∷ zs)) (passes _ h)))

-- each ref of a sound repository is so
pub peeling : (name : Kind → Bytes → Bytes) → IsNamer name → (r : Records) → IsSound name r → (done left : List (Bytes × Bytes)) (ref : Bytes × Bytes) → r.refs ≡ done ++ ref ∷ left → IsPeeling r ref
peeling name namer r sound done left ref e =
    let target = all_parts (λ q. IsTarget r.records q.0 q.1) done ref left (subst (AllByRecursion (λ q. IsTarget r.records q.0 q.1)) e sound.held) in
    let peel = target_peels name namer r sound ref.0 ref.1 target in
    let value = held_is name namer r sound ref.1 peel.held in
    record {
      name = subst (λ n. IsTrue (is_name n)) value.named (is_true _ (name_is_name name namer (kind_of name (value_of_name r.records ref.1)) (body_of name (value_of_name r.records ref.1))));
      ref_name = test_part (λ q. is_ref_name q.0) done ref left (subst (λ qs. IsTrue (list_all (λ q. is_ref_name q.0) qs)) e sound.ref_names);
      held = peel.held;
      peels = peel.to;
    }

-- the line that is cut off is its own
pub cut_first : (r : Records) (ref : Bytes × Bytes) (rest text : Bytes) (cut : Option ((Bytes × Bytes) × Bytes)) → IsPeeling r ref → text ≡ stored_ref ref ++ rest → cut ≡ first_ref text → cut ≡ Some (ref, rest)
cut_first r ref rest text cut is line e = e ∙ ap first_ref line ∙ ref_first ref rest is.name is.ref_name

-- so is its object
pub object_peels : (r : Records) (ref : Bytes × Bytes) (object : Name) → IsPeeling r ref → ref.1 ≡ object.bytes → IsPeeled object r
object_peels r ref object is e = (
  subst (λ b. IsTrue (is_some (record_named r.records b))) e is.held,
  (peeled_at (target_in (value_of_name r.records ref.1)), subst (λ b. commit_in (value_of_name r.records b) ≡ Ok (peeled_at (target_in (value_of_name r.records ref.1)))) e is.peels),
)

-- ---- what refs reach

module _ (stands : ℕ → ℕ) (r : Records) (old : List (ℕ × Name)) where
  -- The commits of the first refs were added, and the others' lines are to be read.
  pub record AreAdded (text : Bytes) (now : List (ℕ × Name)) : Type 0 where
    pub done : List (Bytes × Bytes)
    pub left : List (Bytes × Bytes)
    pub refs : r.refs ≡ done ++ left
    pub lines : text ≡ flat_map stored_ref left
    pub adds : Adds stands (is_reached (map (told r) done)) old now r

  pub none_added : (text : Bytes) → text ≡ flat_map stored_ref r.refs → AreTips stands old r → AreAdded text old
  none_added text e t = record { done = []; left = r.refs; refs = refl; lines = e; adds = record { tips = t; reach = λ c. sym (or_none (lead_to r old c)) } }

  pub all_added : (text : Bytes) (now : List (ℕ × Name)) → text ≡ [] → AreAdded text now → Adds stands (is_wanted r) old now r
  all_added text now e a =
      let all = a.refs ∙ ap (λ left. a.done ++ left) (none_behind a.left (sym a.lines ∙ e)) ∙ append-nil a.done in
      subst (λ refs. Adds stands (is_reached (map (told r) refs)) old now r) (sym all) a.adds

  -- the next line is that of a ref, whose object peels to a commit
  pub record IsNext (text : Bytes) (now : List (ℕ × Name)) : Type 0 where
    pub ref : Bytes × Bytes
    pub rest : Bytes
    pub line : text ≡ stored_ref ref ++ rest
    pub is : IsPeeling r ref
    pub then_added : (new : List (ℕ × Name)) → Adds stands (reaches (peeled_at (target_in (value_of_name r.records ref.1)))) now new r → AreAdded rest new

  module _ (name : Kind → Bytes → Bytes) (namer : IsNamer name) (sound : IsSound name r) where
    pub next_added : (text : Bytes) (now : List (ℕ × Name)) → (text ≡ [] → ⊥) → AreAdded text now → IsNext text now
    next_added text now some a = by a.left a.refs a.lines
      where
        by : (left : List (Bytes × Bytes)) → r.refs ≡ a.done ++ left → text ≡ flat_map stored_ref left → IsNext text now
        by [] f g = absurd (some g)
        by (ref ∷ left) f g = record {
          ref = ref;
          rest = flat_map stored_ref left;
          line = g;
          is = peeling name namer r sound a.done left ref f;
          then_added = λ new adds. record {
            done = a.done ++ ref ∷ [];
            left = left;
            refs = f ∙ sym (append_assoc a.done (ref ∷ []) left);
            lines = refl;
            adds = adds_same stands r (λ c. is_reached (map (told r) a.done) c || reaches (peeled_at (told r ref).1) c) (is_reached (map (told r) (a.done ++ ref ∷ []))) old new
                (λ c. ref_more (map (told r) a.done) (told r ref) c ∙ ap (λ refs. is_reached refs c) (sym (map-append (told r) a.done (ref ∷ []))))
                (adds_both stands r (is_reached (map (told r) a.done)) (reaches (peeled_at (told r ref).1)) old now new a.adds adds);
          };
        }

-- ---- the same of the repository that is told

module _ (name : Kind → Bytes → Bytes) (namer : IsNamer name) (stands : ℕ → ℕ) (old : List (ℕ × Name)) where
  pub lines_begin : (told : Option Records) (text : Bytes) → IfSome told (λ r. text ≡ flat_map stored_ref r.refs) → IfSome told (AreTips stands old) → IfSome told (λ r. AreAdded stands r old text old)
  lines_begin None text e t = tt
  lines_begin (Some r) text e t = none_added stands r old text e t

  pub lines_end : (told : Option Records) (text : Bytes) (now : List (ℕ × Name)) → text ≡ [] → IfSome told (λ r. AreAdded stands r old text now) → IfSome told (λ r. Adds stands (is_wanted r) old now r)
  lines_end None text now e a = tt
  lines_end (Some r) text now e a = all_added stands r old text now e a

  pub lines_tips : (told : Option Records) (text : Bytes) (now : List (ℕ × Name)) → IfSome told (λ r. AreAdded stands r old text now) → IfSome told (AreTips stands now)
  lines_tips None text now a = tt
  lines_tips (Some r) text now a = a.adds.tips

  module _ (text : Bytes) (now : List (ℕ × Name)) (some : text ≡ [] → ⊥) where
    pub line_told : (told : Option Records) → None ≡ first_ref text → IfSome told (IsSound name) → IfSome told (λ r. AreAdded stands r old text now) → told ≡ None
    line_told None e s a = refl
    line_told (Some r) e s a =
        let n = next_added stands r old name namer s text now some a in
        absurd (let o = cut_first r n.ref n.rest text None n.is n.line e in cc o)

    module _ (object : Name) (called behind : Bytes) (cut : Some ((called, object.bytes), behind) ≡ first_ref text) where
      is_next : (r : Records) (n : IsNext stands r old text now) → (object.bytes ≡ n.ref.1) × (behind ≡ n.rest)
      is_next r n =
          let o = cut_first r n.ref n.rest text (Some ((called, object.bytes), behind)) n.is n.line cut in
          let p : ((called, object.bytes), behind) ≡ (n.ref, n.rest) = cc o in
          (ap (λ (q : (Bytes × Bytes) × Bytes). q.0.1) p, ap (λ (q : (Bytes × Bytes) × Bytes). q.1) p)

      pub line_peels : (told : Option Records) → IfSome told (IsSound name) → IfSome told (λ r. AreAdded stands r old text now) → IfSome told (IsPeeled object)
      line_peels None s a = tt
      line_peels (Some r) s a =
          let n = next_added stands r old name namer s text now some a in
          object_peels r n.ref object n.is (sym (is_next r n).0)

      pub line_added : (told : Option Records) (commit : Name) (new : List (ℕ × Name)) → IfSome told (IsSound name) → IfSome told (λ r. AreAdded stands r old text now) → IfSome told (λ r. commit_in (value_at r object) ≡ Ok (commit_at r commit))
          → IfSome told (λ r. Adds stands (reaches (commit_at r commit)) now new r) → IfSome told (λ r. AreAdded stands r old behind new)
      line_added None commit new s a e adds = tt
      line_added (Some r) commit new s a e adds =
          let n = next_added stands r old name namer s text now some a in
          let i = is_next r n in
          let both = sym e ∙ ap (λ b. commit_in (value_of_name r.records b)) i.0 ∙ n.is.peels in
          let same : commit_at r commit ≡ peeled_at (target_in (value_of_name r.records n.ref.1)) = cc both in
          subst (λ t. AreAdded stands r old t new) (sym i.1) (n.then_added new (subst (λ c. Adds stands (reaches c) now new r) same adds))
