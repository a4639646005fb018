-- The items of a text, by what it begins with, and the ends of a text.
use Rattle.std.proofs.Common.{◌≡◌, ℕ, zero, suc, ◌+◌, ◌-◌, ◌<◌, ◌≤◌, ◌^◌, true, false, [], length, drop, nat_le, refl, sym, ap, subst, ◌∙◌, arith}
use Rattle.std.proofs.lemmas.List.{drop-drop}
use Rattle.std.proofs.lemmas.Bool.Decides.{nat_tests}
use Rattle.gx_model.specs.Texts.{Bytes}
use Rattle.gx_model.specs.Streams.Items.{Item, End, Stream, First, takes, drops, ends, first_of, then_comes, after, items_of}
use Rattle.gx_stream.specs.Heard.{heard_upto, items_from}
use Rattle.gx_stream.specs.FirstItems.{IsEndOf}
use Rattle.gx_stream.proofs.Firsts.{Shortens, first_of-shortens, items_of-first}
use Rattle.gx_where.specs.Rests.{IsNoComment, without_first}

module _ (rest : Bytes) where
  shorter : (v : First) → v ≡ first_of rest false → Shortens (length rest) v
  shorter v e = subst (Shortens (length rest)) (sym e) (first_of-shortens rest false)

  items_by : (v : First) → v ≡ first_of rest false → items_of rest false ≡ after v (λ next. items_of next false)
  items_by v e = items_of-first rest false ∙ ap (λ w. after w (λ next. items_of next false)) (sym e)

  pub item_shorter : (item : Item) (next : Bytes) → takes item next ≡ first_of rest false → length next < length rest
  item_shorter item next e = shorter (takes item next) e

  pub comment_shorter : (next : Bytes) → drops next ≡ first_of rest false → length next < length rest
  comment_shorter next e = shorter (drops next) e

  pub item_first : (item : Item) (next : Bytes) → takes item next ≡ first_of rest false → items_of rest false ≡ then_comes item (items_of next false)
  item_first item next e = items_by (takes item next) e

  pub comment_first : (next : Bytes) → drops next ≡ first_of rest false → items_of rest false ≡ items_of next false
  comment_first next e = items_by (drops next) e

  pub end_first : (end : End) → ends end ≡ first_of rest false → items_of rest false ≡ record { items = []; end = end }
  end_first end e = items_by (ends end) e

  pub no_comment : (v : First) → v ≡ first_of rest false → IsNoComment v → IsNoComment (first_of rest false)
  no_comment v e h = subst IsNoComment e h

-- ---- counts

pub one_more : (count : ℕ) (rest next text : Bytes) (item : Item) → takes item next ≡ first_of rest false → count + length (items_of rest false).items ≡ length (items_of text false).items → count + 1 + length (items_of next false).items ≡ length (items_of text false).items
one_more count rest next text item e h = omega (arith, h, ap (λ (s : Stream). length s.items) (item_first rest item next e))

pub comment_more : (count : ℕ) (rest next text : Bytes) → drops next ≡ first_of rest false → count + length (items_of rest false).items ≡ length (items_of text false).items → count + length (items_of next false).items ≡ length (items_of text false).items
comment_more count rest next text e h = omega (arith, h, ap (λ (s : Stream). length s.items) (comment_first rest next e))

pub all_counted : (count : ℕ) (rest text : Bytes) (end : End) → ends end ≡ first_of rest false → count + length (items_of rest false).items ≡ length (items_of text false).items → count ≡ length (items_of text false).items
all_counted count rest text end e h = omega (arith, h, ap (λ (s : Stream). length s.items) (end_first rest end e))

-- ---- without the first items

pub IsEndOf-whole : (text : Bytes) → IsEndOf text text
IsEndOf-whole text =
    let none : 0 ≡ length text - length text = omega arith in
    (omega arith, ap (λ k. drop k text) none)

pub IsEndOf-further : (text rest next : Bytes) → IsEndOf text rest → IsEndOf rest next → IsEndOf text next
IsEndOf-further text rest next (l, e) (k, h) =
    let there : length text - length rest + (length rest - length next) ≡ length text - length next = omega (arith, l, k) in
    (omega (arith, l, k), h ∙ ap (drop (length rest - length next)) e ∙ drop-drop (length rest - length next) (length text - length rest) text ∙ ap (λ n. drop n text) there)

-- what stands without the first items that are left, as the whole does without the first that are wanted
pub past_item_left : (left : ℕ) (rest next : Bytes) (item : Item) (s : Stream) → 0 < left → takes item next ≡ first_of rest false → without_first left (items_of rest false) ≡ s → without_first (left - 1) (items_of next false) ≡ s
past_item_left zero rest next item s some e h = absurd (omega (arith, some))
past_item_left (suc n) rest next item s some e h =
    let one : suc n - 1 ≡ n = omega arith in
    ap (λ k. without_first k (items_of next false)) one ∙ sym (ap (without_first (suc n)) (item_first rest item next e)) ∙ h

pub past_comment_left : (left : ℕ) (rest next : Bytes) (s : Stream) → drops next ≡ first_of rest false → without_first left (items_of rest false) ≡ s → without_first left (items_of next false) ≡ s
past_comment_left left rest next s e h = sym (ap (without_first left) (comment_first rest next e)) ∙ h

pub none_left : (rest : Bytes) (s : Stream) → without_first 0 (items_of rest false) ≡ s → items_of rest false ≡ s
none_left rest s h = h

pub end_left : (left : ℕ) (rest : Bytes) (end : End) (s : Stream) → ends end ≡ first_of rest false → without_first left (items_of rest false) ≡ s → items_of rest false ≡ s
end_left left rest end s e h =
    let is = end_first rest end e in
    is ∙ sym (nothing left) ∙ sym (ap (without_first left) is) ∙ h
  where
    nothing : (n : ℕ) → without_first n (record { items = []; end = end }) ≡ record { items = []; end = end }
    nothing zero = refl
    nothing (suc n) = refl

-- ---- all of a text is heard

pub items_from_text : (text : Bytes) → length text ≤ 2 ^ 63 - 1 → items_from (record { bytes = text; fails = false }) ≡ items_of text false
unfolding heard_upto
items_from_text text short =
    let fits : nat_le (length text) (2 ^ 63 - 1) ≡ true = grind (arith, nat_tests) in
    rw fits refl
