-- Items that are counted past the empty lines before them.
use Rattle.std.proofs.Common.{◌≡◌, ℕ, zero, suc, ◌+◌, List, [], length, Option, Some, None, Result, Ok, ap, arith, refl, subst, inl, inr}
use Rattle.gx_model.specs.Streams.Items.{Item, Stream}
use Rattle.gx_stream.specs.declared.item.Item as stream
use Rattle.gx_command.specs.Ahead.{Takes}
use Rattle.gx_command.specs.Behind.{CountsLeft, past_empty}
use Rattle.gx_command.specs.declared.fault.CommandFault.{CommandFault}

-- before an item is counted, empty lines are passed
abbrev pub past_if : ℕ → List Item → List Item
past_if zero items = past_empty items
past_if (suc n) items = items

-- so many items were counted, and this is what is left
abbrev pub AreCounted : ℕ → Option Stream → Option Stream → Type 0
AreCounted count None now = Unit {0}
AreCounted count (Some s) now = (t : Stream) × (now ≡ Some t) × (length (past_empty s.items) ≡ count + length (past_if count t.items))

none_more : (count : ℕ) (items : List Item) → items ≡ [] → length (past_if count items) ≡ 0
none_more zero items e = rw e refl
none_more (suc n) items e = rw e refl

-- at the end all items are counted
pub all_counted : {T : Type 0} (post : stream.Item → Result (Option T) CommandFault → Type 0) (count : ℕ) (old now new : Option Stream) → ((i : stream.Item) → post i (Ok None) → ⊥) → AreCounted count old now → Takes post now new (Ok None) → CountsLeft old (Ok count)
all_counted post count None now new says h k = tt
all_counted post count (Some s) now new says (t, is, e) k = by (subst (λ m. Takes post m new (Ok None)) is k) where
  by : Takes post (Some t) new (Ok None) → length (past_empty s.items) ≡ count
  by (same, inl end) = let none : length (past_if count t.items) ≡ 0 = none_more count t.items (ap (λ (s : Stream). s.items) end) in omega (arith, e, none)
  by (same, inr (left, n)) = absurd (says n.item n.read)
