-- The rows of objects that are marked, laid out before a body is read: whatever the bodies are, they are those of the records.
use Rattle.std.proofs.Common.{◌≡◌, ℕ, zero, suc, ◌+◌, ◌<◌, ◌≤◌, Bool, true, false, codes, List, [], ◌∷◌, ◌++◌, append_assoc, append-nil, drop, get_or, length, length-append, map, Some, refl, sym, ap, ◌∙◌, subst, arith}
use Rattle.std.specs.List.{filter, flat_map, slice_get}
use Rattle.std.proofs.lemmas.List.{drop_all}
use Rattle.gx_model.specs.declared.store_versions.Version.TheVariants.{Two}
use Rattle.gx_model.specs.Histories.{Record}
use Rattle.gx_model.specs.Objects.{line}
use Rattle.gx_model.specs.Stores.StoreText.{stored_record}
use Rattle.gx_model.specs.Texts.{Bytes}
use Rattle.gx_model.specs.Texts.Numbers.{number_text}
use Rattle.gx_store.specs.Marked.{marked}
use Rattle.gx_growing.specs.GrowingText.{Row, first_place, head_length, placed}
use Rattle.gx_listed.specs.Listings.{HaveHeads, Head, Listed, head_of, shown_head}
use Rattle.gx_kept.specs.Layouts.{ArePlaced}
use Rattle.gx_kept.proofs.ListedRecords.{same_length}
use Rattle.gx_kept.proofs.Weights.{marked_long, marked_on, marked_past}

-- something stands at each place before the length
pub some_at : {X : Type 0} (xs : List X) (i : ℕ) → i < length xs → (x : X) × (slice_get xs i ≡ Some x)
some_at [] i h = absurd (omega (arith, h))
some_at (x ∷ xs) zero h = (x, refl)
some_at (x ∷ xs) (suc i) h = some_at xs i (omega (arith, h))

abbrev texts : List Record → Bytes
texts = flat_map (stored_record Two)

-- where the record of an object ends that stands at a place, whatever its body of that length is
abbrev pub EndsAt : Listed → ℕ → ℕ → Type 0
EndsAt one place behind = (body : Bytes) → length body ≡ one.1.length → behind ≡ place + length (stored_record Two (record { name = one.0.bytes; kind = one.1.kind; body = body }))

module _ (listed : List Listed) (marks : List Bool) (first : ℕ) (records : List Record) where
  -- of these records the last ones are left, which are marked from a number on; the others have their rows, and the next one stands here
  pub record AreLaid (i : ℕ) (rows : List Row) (place : ℕ) : Type 0 where
    pub behind : List Record
    pub heads : HaveHeads (marked (drop i marks) (drop i listed)) behind
    pub told : rows ++ placed place behind ≡ placed first records
    pub ends : place + length (texts behind) ≡ first + length (texts records)

  -- before the first, all are left
  pub none_laid : HaveHeads (marked marks listed) records → AreLaid 0 [] first
  none_laid h = record { behind = records; heads = h; told = refl; ends = refl }

  module _ (i : ℕ) (rows : List Row) (place : ℕ) (a : AreLaid i rows place) (one : Listed) (at : slice_get listed i ≡ Some one) where
    pub past_laid : get_or marks i false ≡ false → AreLaid (i + 1) rows place
    past_laid mark = record {
      behind = a.behind;
      heads = subst (λ xs. HaveHeads xs a.behind) (marked_past marks listed i one at mark) a.heads;
      told = a.told;
      ends = a.ends;
    }

    pub one_laid : (end : ℕ) → get_or marks i false ≡ true → EndsAt one place end → AreLaid (i + 1) (rows ++ (one.0.bytes, place) ∷ []) end
    one_laid end mark long = by a.behind (subst (λ xs. HaveHeads xs a.behind) (marked_on marks listed i one at mark) a.heads) a.told a.ends
      where
        left : List Listed
        left = marked (drop (i + 1) marks) (drop (i + 1) listed)

        sums : (p b t m w f : ℕ) → b ≡ p + t → w ≡ t + m → p + w ≡ f → b + m ≡ f
        sums p b t m w f x y z = omega arith

        by : (behind : List Record) → HaveHeads (one ∷ left) behind → rows ++ placed place behind ≡ placed first records → place + length (texts behind) ≡ first + length (texts records)
            → AreLaid (i + 1) (rows ++ (one.0.bytes, place) ∷ []) end
        by [] h t e = absurd (cc)
        by (held ∷ rest) h t e =
            let head : shown_head one ≡ head_of held = cc in
            let more : map shown_head left ≡ map head_of rest = cc in
            let name : one.0.bytes ≡ held.name = ap (λ (x : Head). x.name) head in
            let kind : one.1.kind ≡ held.kind = ap (λ (x : Head). x.kind) head in
            let size : length held.body ≡ one.1.length = sym (ap (λ (x : Head). x.size) head) in
            let whole : (record { name = one.0.bytes; kind = one.1.kind; body = held.body }) ≡ held = λ j. record { name = name j; kind = kind j; body = held.body } in
            let here : end ≡ place + length (stored_record Two held) = long held.body size ∙ ap (λ (x : Record). place + length (stored_record Two x)) whole in
            record {
              behind = rest;
              heads = more;
              told = append_assoc rows ((one.0.bytes, place) ∷ []) (placed end rest) ∙ (λ j. rows ++ ((name j, place) ∷ placed (here j) rest)) ∙ t;
              ends = sums place end (length (stored_record Two held)) (length (texts rest)) (length (stored_record Two held ++ texts rest)) (first + length (texts records)) here (length-append (stored_record Two held) (texts rest)) e;
            }

  -- behind the last, all have their rows
  pub all_laid : (i : ℕ) (rows : List Row) (place : ℕ) → AreLaid i rows place → length listed ≤ i → (rows ≡ placed first records) × (place ≡ first + length (texts records))
  all_laid i rows place a last = by a.behind (subst (λ xs. HaveHeads (marked (drop i marks) xs) a.behind) (drop_all i listed last) a.heads) a.told a.ends
    where
      none : (p f : ℕ) → p + 0 ≡ f → p ≡ f
      none p f e = omega arith

      by : (behind : List Record) → HaveHeads [] behind → rows ++ placed place behind ≡ placed first records → place + length (texts behind) ≡ first + length (texts records)
          → (rows ≡ placed first records) × (place ≡ first + length (texts records))
      by [] h t e = (sym (append-nil rows) ∙ t, none place (first + length (texts records)) e)
      by (r ∷ rs) h t e = absurd (cc)

-- the first one stands behind the line of their number
pub first_is : (listed : List Listed) (marks : List Bool) (records : List Record) (first count : ℕ) → length marks ≡ length listed → HaveHeads (marked marks listed) records → count ≡ length (filter (λ mark. mark) marks)
    → first ≡ head_length + length (line (codes "objects") (number_text count)) → first ≡ first_place head_length records
first_is listed marks records first count long h c f =
    f ∙ ap (λ n. head_length + length (line (codes "objects") (number_text n))) (c ∙ sym (marked_long marks listed long) ∙ same_length (marked marks listed) records h)

-- so these are the rows of the records
pub placed_is : (listed : List Listed) (marks : List Bool) (records : List Record) (first i : ℕ) (rows : List Row) (place : ℕ) → first ≡ first_place head_length records → AreLaid listed marks first records i rows place → length listed ≤ i → ArePlaced records rows place
placed_is listed marks records first i rows place f a last =
    let all = all_laid listed marks first records i rows place a last in
    record { rows_are = all.0 ∙ ap (λ p. placed p records) f; ends = all.1 ∙ ap (λ p. p + length (texts records)) f }
