-- The items of a text, one after the other.
use Rattle.std.proofs.Common.{◌≡◌, ℕ, zero, suc, ◌+◌, ◌<◌, ◌≤◌, Bool, true, false, inl, inr, List, [], ◌∷◌, ◌++◌, length, map, Result, Ok, Err, refl, sym, ap, subst, ◌∙◌, append_assoc, append-nil, length-append, arith}
use Rattle.std.specs.Prelude.{◌==◌, ◌⊎◌}
use Rattle.std.specs.declared.vec.Vec.{Vec}
use Rattle.std.proofs.lemmas.Bool.Decides.{nat_tests}
use Rattle.std.proofs.lemmas.List.{map-append}
use Rattle.gx_model.specs.declared.objects.Kind.{Kind}
use Rattle.gx_model.specs.Faults.{◌>>=◌}
use Rattle.gx_model.specs.Texts.{Bytes}
use Rattle.gx_wide.specs.ObjectsTexts.{Item, ItemFault, at_item, item_at, items_of, items_within}
use Rattle.gx_offered.specs.Ends.{EndsWith}
use Rattle.gx_offered.specs.Items.{shown_offer, shown_offered}
use Rattle.gx_offered.specs.Offers.{BeginsWell}
use Rattle.gx_offered.specs.declared.offered.Offered.{Offered}

-- what a text gives
abbrev Given : Type 0
Given = Result (List Item) (ℕ × ItemFault)

-- items before those that are given
abbrev pub prefixed : List Item → Given → Given
prefixed front (Ok items) = Ok (front ++ items)
prefixed front (Err fault) = Err fault

no_front : (given : Given) → given ≡ prefixed [] given
no_front (Ok items) = refl
no_front (Err fault) = refl

one_more : (front : List Item) (item : Item) (given : Given) → prefixed front (given >>= λ others. Ok (item ∷ others)) ≡ prefixed (front ++ item ∷ []) given
one_more front item (Ok items) = ap Ok (sym (append_assoc front (item ∷ []) items))
one_more front item (Err fault) = refl

-- ---- what is left of a text

pub ends_behind : (whole rest left : Bytes) → EndsWith whole rest → EndsWith rest left → EndsWith whole left
ends_behind whole rest left h k = (h.0 ++ k.0, h.1 ∙ ap (λ r. h.0 ++ r) k.1 ∙ sym (append_assoc h.0 k.0 left))

-- what stands behind an LF is shorter
pub is_shorter : (rest bytes after : Bytes) → EndsWith rest (bytes ++ 10 ∷ after) → length after < length rest
is_shorter rest bytes after h =
    let a = ap length h.1 in
    let b = length-append h.0 (bytes ++ 10 ∷ after) in
    let c = length-append bytes (10 ∷ after) in
    omega arith

pub ends_after : (whole bytes after : Bytes) → EndsWith whole (bytes ++ 10 ∷ after) → EndsWith whole after
ends_after whole bytes after h =
    (h.0 ++ (bytes ++ 10 ∷ []), h.1 ∙ ap (λ r. h.0 ++ r) (sym (append_assoc bytes (10 ∷ []) after)) ∙ sym (append_assoc h.0 (bytes ++ 10 ∷ []) after))

-- ---- items

-- the items of some vector, and of one item more
pub offers_none : {A : Type 0} (items : Vec (Offered A) A) → items.items ≡ [] → shown_offer items ≡ []
offers_none {A} items e = ap (map (λ (it : Offered A). shown_offered it)) e

pub offers_more : {A : Type 0} (items more : Vec (Offered A) A) (it : Offered A) (item : Item) → shown_offered it ≡ item → more.items ≡ items.items ++ it ∷ [] → shown_offer more ≡ shown_offer items ++ item ∷ []
offers_more {A} items more it item e m =
    ap (map (λ (it : Offered A). shown_offered it)) m ∙ map-append (λ (it : Offered A). shown_offered it) items.items (it ∷ []) ∙ ap (λ x. shown_offer items ++ x ∷ []) e

count : {X Y : Type 0} (f : X → Y) (xs : List X) → length (map f xs) ≡ length xs
count f [] = refl
count f (x ∷ xs) = ap suc (count f xs)

pub offers_number : {A : Type 0} (items : Vec (Offered A) A) → length (shown_offer items) ≡ length items.items
offers_number {A} items = count (λ (it : Offered A). shown_offered it) items.items

-- whether something is left
pub some_left : (text : Bytes) {b : Bool} → b ≡ (length text == 0) → b ≡ false → 0 < length text
some_left [] e f = absurd (let h : true ≡ false = sym e ∙ f in cc h)
some_left (x ∷ xs) e f = omega arith

zero_is : (n : ℕ) → (n == 0) ≡ true → n ≡ 0
zero_is n e = grind (arith, nat_tests)

pub none_left : (text : Bytes) {b : Bool} → b ≡ (length text == 0) → b ≡ true → length text ≡ 0
none_left text e f = zero_is (length text) (sym e ∙ f)

module _ (name : Kind → Bytes → Bytes) (whole : Bytes) where
  -- these items stand before what is left, and each item there has more than no bytes
  abbrev pub AreReadTo : List Item → Bytes → Type 0
  AreReadTo items rest = (n : ℕ) × (length rest ≤ n) × (items_of name whole ≡ prefixed items (items_within name n (length items + 1) rest))

  pub none_read : AreReadTo [] whole
  none_read = (length whole, omega arith, no_front (items_of name whole))

  pub one_read : (items : List Item) (rest : Bytes) (item : Item) (after : Bytes) → AreReadTo items rest → item_at name rest ≡ Ok (item, after) → length after < length rest → AreReadTo (items ++ item ∷ []) after
  unfolding items_within
  one_read items [] item after h e l = absurd (omega arith)
  one_read items (b ∷ bs) item after (zero, m, r) e l = absurd (omega arith)
  one_read items (b ∷ bs) item after (suc n, m, r) e l =
      let longer : length items + 1 + 1 ≡ length (items ++ item ∷ []) + 1 = (let a = length-append items (item ∷ []) in omega arith) in
      let first = ap (λ g. prefixed items (at_item (length items + 1) g >>= λ one. items_within name n (length items + 1 + 1) one.1 >>= λ others. Ok (one.0 ∷ others))) e in (
        n,
        omega arith,
        r ∙ first ∙ one_more items item (items_within name n (length items + 1 + 1) after) ∙ ap (λ k. prefixed (items ++ item ∷ []) (items_within name n k after)) longer,
      )

  pub one_refused : (items : List Item) (rest : Bytes) (fault : ItemFault) → AreReadTo items rest → item_at name rest ≡ Err fault → 0 < length rest → items_of name whole ≡ Err (length items + 1, fault)
  unfolding items_within
  one_refused items [] fault h e l = absurd (omega arith)
  one_refused items (b ∷ bs) fault (zero, m, r) e l = absurd (omega arith)
  one_refused items (b ∷ bs) fault (suc n, m, r) e l =
      r ∙ ap (λ g. prefixed items (at_item (length items + 1) g >>= λ one. items_within name n (length items + 1 + 1) one.1 >>= λ others. Ok (one.0 ∷ others))) e

  pub all_read : (items : List Item) (rest : Bytes) → AreReadTo items rest → length rest ≡ 0 → items_of name whole ≡ Ok items
  unfolding items_within
  all_read items [] (zero, m, r) z = r ∙ ap Ok (append-nil items)
  all_read items [] (suc n, m, r) z = r ∙ ap Ok (append-nil items)
  all_read items (b ∷ bs) h z = absurd (omega arith)

  -- nothing is read yet
  pub read_none : {A : Type 0} (items : Vec (Offered A) A) (rest : Bytes) → items.items ≡ [] → rest ≡ whole → AreReadTo (shown_offer items) rest
  read_none items rest n e = subst (AreReadTo (shown_offer items)) (sym e) (subst (λ xs. AreReadTo xs whole) (sym (offers_none items n)) none_read)

  -- one item more is read
  pub read_more : {A : Type 0} (items more : Vec (Offered A) A) (it : Offered A) (rest : Bytes) (item : Item) (after : Bytes) → shown_offered it ≡ item → more.items ≡ items.items ++ it ∷ [] → AreReadTo (shown_offer items) rest
      → item_at name rest ≡ Ok (item, after) → length after < length rest → AreReadTo (shown_offer more) after
  read_more items more it rest item after s m h e l =
      subst (λ xs. AreReadTo xs after) (sym (offers_more items more it item s m)) (one_read (shown_offer items) rest item after h e l)

  -- an item stands at the front, where one was read
  pub begins : (rest : Bytes) (read : Item × Bytes) → (rest ≡ whole) ⊎ BeginsWell name whole → item_at name rest ≡ Ok read → BeginsWell name whole
  begins rest read (inl e) h = (read, subst (λ r. item_at name r ≡ Ok read) e h)
  begins rest read (inr b) h = b
