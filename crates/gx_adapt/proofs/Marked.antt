-- The marks behind items, one after the other, and how many tags they make refused.
use Rattle.std.proofs.Common.{◌≡◌, ℕ, ◌+◌, ◌≤◌, Bool, true, false, ◌&&◌, if◌then◌else◌, List, [], ◌∷◌, ◌++◌, length, reverse, codes, Option, Some, None, refl, ap, subst, ◌∙◌, arith}
use Rattle.std.specs.Option.{option_or, option_map_or}
use Rattle.std.proofs.lemmas.List.{reverse-append, length-reverse}
use Rattle.gx_model.specs.Streams.Items.{Item, Line, Data}
use Rattle.gx_adapt.specs.Marks.{command_begun, command_of, mark_behind, is_blob_or_tag, is_tag, sets_mark, is_of_blob_or_tag, names_blob_or_tag, many_named, tags_of_blobs_or_tags}
use Rattle.gx_adapt.specs.Adapting.{one_if, holds_mark, StandsBehind, names_held, Passes}
use Rattle.gx_adapt.specs.declared.marks.Marks.{Marks}

-- the last item stands first where the latest do
pub reverse-push : (xs : List Item) (i : Item) → reverse (xs ++ i ∷ []) ≡ i ∷ reverse xs
reverse-push xs i = reverse-append xs (i ∷ [])

same_test : (f g : ℕ → Bool) (o : Option ℕ) → ((n : ℕ) → f n ≡ g n) → option_map_or f o false ≡ option_map_or g o false
same_test f g None h = refl
same_test f g (Some n) h = h n

pub names-same : {A : Type 0} (marks : Marks A) (earlier : List Item) (i : Item) → StandsBehind earlier marks → names_held marks i ≡ names_blob_or_tag earlier i
names-same marks earlier (Line l) s =
    ap (λ c. is_tag c && option_map_or (holds_mark marks) (mark_behind (codes "from") l) false) s.command
    ∙ ap (λ b. is_tag (command_of earlier) && b) (same_test (holds_mark marks) (is_of_blob_or_tag earlier) (mark_behind (codes "from") l) s.numbers)
names-same marks earlier (Data x) s = refl

-- an item further
pub stands-push : {A : Type 0} (was is : Marks A) (earlier : List Item) (i : Item) → StandsBehind earlier was → Passes i was is → StandsBehind (i ∷ earlier) is
stands-push was is earlier (Line l) s p = record {
  command = p.command ∙ ap (λ c. option_or (command_begun l) c) s.command;
  numbers = λ n. p.numbers n ∙ ap (λ c. if sets_mark l n then is_blob_or_tag c else holds_mark was n) s.command ∙ ap (λ b. if sets_mark l n then is_blob_or_tag (command_of earlier) else b) (s.numbers n);
}
stands-push was is earlier (Data x) s p = record { command = p.command ∙ s.command; numbers = λ n. p.numbers n ∙ s.numbers n }

-- ---- counts

pub tags-push : (xs : List Item) (i : Item) → tags_of_blobs_or_tags (xs ++ i ∷ []) ≡ one_if (names_blob_or_tag (reverse xs) i) (tags_of_blobs_or_tags xs)
tags-push xs i = ap many_named (reverse-push xs i)

named-few : (is : List Item) → many_named is ≤ length is
named-few [] = omega arith
named-few (i ∷ is) = by (names_blob_or_tag is i) (named-few is) where
  by : (b : Bool) → many_named is ≤ length is → (if b then many_named is + 1 else many_named is) ≤ length (i ∷ is)
  by true h = omega (arith, h)
  by false h = omega (arith, h)

pub tags-few : (is : List Item) → tags_of_blobs_or_tags is ≤ length is
tags-few is = subst (λ n. tags_of_blobs_or_tags is ≤ n) (length-reverse is) (named-few (reverse is))
