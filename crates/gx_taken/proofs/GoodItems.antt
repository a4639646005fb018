-- The items that are read of a text are good: refs have names, and objects their own.
use Rattle.std.proofs.Common.{◌≡◌, ℕ, zero, suc, ◌+◌, Bool, true, false, List, [], ◌∷◌, Option, Some, None, Result, Ok, Err, length, refl, sym, ap, subst}
use Rattle.std.specs.Prelude.{codes, if◌then◌else◌}
use Rattle.std.specs.Bool.{passes}
use Rattle.std.specs.Option.{ok_or}
use Rattle.gx_model.specs.declared.objects.Kind.{Kind}
use Rattle.gx_model.specs.Texts.{Bytes, cut_at, same_bytes}
use Rattle.gx_model.specs.Texts.Digits.{is_name_text}
use Rattle.gx_model.specs.Texts.RefNames.{is_ref_name}
use Rattle.gx_model.specs.Faults.{◌>>=◌}
use Rattle.gx_model.specs.Objects.{unhex}
use Rattle.gx_model.proofs.Texts.PathTests.{same_is}
use Rattle.gx_wide.specs.ObjectsTexts.{BadLine, BadRefName, Item, ItemFault, Missing, NameMismatch, TruncatedData, at_item, body_in, item_at, item_in, items_of, items_within, length_in, object_in, object_item, only_where, ref_in, ref_item}
use Rattle.gx_wide.specs.WideTexts.{kind_of_word}
use Rattle.gx_taken.specs.Calls.{AreGoodItems, IsGoodItem}

-- two steps that gave something
both_gave : {A B E : Type 0} (r : Result A E) (f : A → Result B E) (b : B) → (r >>= f) ≡ Ok b → (a : A) × (r ≡ Ok a) × (f a ≡ Ok b)
both_gave (Ok a) f b e = (a, refl, e)
both_gave (Err fault) f b e = absurd (cc e)

passed : (test : Bool) (fault : ItemFault) (u : Unit {0}) → only_where test fault ≡ Ok u → test ≡ true
passed true fault u e = refl
passed false fault u e = absurd (cc e)

numbered : {A : Type 0} (number : ℕ) (r : Result A ItemFault) (x : A) → at_item number r ≡ Ok x → r ≡ Ok x
numbered number (Ok y) x e = let is : y ≡ x = cc e in ap Ok is
numbered number (Err fault) x e = absurd (cc e)

module _ (name : Kind → Bytes → Bytes) where
  good_ref : (digits ref : Bytes) (item : Item) → ref_in digits ref ≡ Ok item → IsGoodItem name item
  good_ref digits ref item e = by (same_bytes ref (codes "missing")) (is_ref_name ref) refl e where
    by : (a b : Bool) → is_ref_name ref ≡ b → (if a then Err Missing else (if b then Ok (ref_item (unhex digits) ref) else Err BadRefName)) ≡ Ok item → IsGoodItem name item
    by true b k e = absurd (cc e)
    by false false k e = absurd (cc e)
    by false true k e = let is : ref_item (unhex digits) ref ≡ item = cc e in subst (IsGoodItem name) is k

  good_object : (digits word size text : Bytes) (read : Item × Bytes) → object_in name digits word size text ≡ Ok read → IsGoodItem name read.0
  good_object digits word size text read e =
      let a = both_gave (ok_or (kind_of_word word) BadLine) _ read e in
      let b = both_gave (length_in size) _ read a.2 in
      let c = both_gave (body_in b.0 text) _ read b.2 in
      let d = both_gave (only_where (same_bytes (name a.0 c.0.0) (unhex digits)) NameMismatch) _ read c.2 in
      let same = same_is (name a.0 c.0.0) (unhex digits) (passes _ (passed _ NameMismatch d.0 d.1)) in
      let is : (object_item a.0 (unhex digits) c.0.0, c.0.1) ≡ read = cc d.2 in
      subst (λ (r : Item × Bytes). IsGoodItem name r.0) is (sym same)

  good_line : (digits rest : Bytes) (parts : Option (Bytes × Bytes)) (text : Bytes) (read : Item × Bytes) → item_in name digits rest parts text ≡ Ok read → IsGoodItem name read.0
  good_line digits rest None text read e =
      let a = both_gave (ref_in digits rest) _ read e in
      let is : (a.0, text) ≡ read = cc a.2 in
      subst (λ (r : Item × Bytes). IsGoodItem name r.0) is (good_ref digits rest a.0 a.1)
  good_line digits rest (Some parts) text read e = good_object digits parts.0 parts.1 text read e

  good_item : (text : Bytes) (read : Item × Bytes) → item_at name text ≡ Ok read → IsGoodItem name read.0
  unfolding item_at
  good_item text read e =
      let a = both_gave (ok_or (cut_at 10 text) TruncatedData) _ read e in
      let b = both_gave (ok_or (cut_at 32 a.0.0) BadLine) _ read a.2 in
      let c = both_gave (only_where (is_name_text b.0.0) BadLine) _ read b.2 in
      good_line b.0.0 b.0.1 (cut_at 32 b.0.1) a.0.1 read c.2

  good_within : (n number : ℕ) (text : Bytes) (items : List Item) → items_within name n number text ≡ Ok items → AreGoodItems name items
  unfolding items_within
  good_within n number [] items e = let is : [] ≡ items = cc e in subst (AreGoodItems name) is tt
  good_within zero number (b ∷ bs) items e = let is : [] ≡ items = cc e in subst (AreGoodItems name) is tt
  good_within (suc n) number (b ∷ bs) items e =
      let a = both_gave (at_item number (item_at name (b ∷ bs))) _ items e in
      let o = both_gave (items_within name n (number + 1) a.0.1) _ items a.2 in
      let is : a.0.0 ∷ o.0 ≡ items = cc o.2 in
      subst (AreGoodItems name) is (good_item (b ∷ bs) a.0 (numbered number (item_at name (b ∷ bs)) a.0 a.1), good_within n (number + 1) a.0.1 o.0 o.1)

  pub good_items : (text : Bytes) (items : List Item) → items_of name text ≡ Ok items → AreGoodItems name items
  good_items text items e = good_within (length text) 1 text items e
