-- What is left of a text behind its first items.
use Rattle.std.specs.Prelude.{◌≡◌, ℕ, false, drop}
use Rattle.gx_model.specs.Texts.{Bytes}
use Rattle.gx_model.specs.Streams.Items.{Item, Stream, First, takes, drops, ends, first_of}

-- the rests that are reached from the front of a text, item by item and comment by comment
pub data Reaches (text : Bytes) : Bytes → Type 0 where
  whole : Reaches text text
  past_item : (rest next : Bytes) (item : Item) → Reaches text rest → first_of rest false ≡ takes item next → Reaches text next
  past_comment : (rest next : Bytes) → Reaches text rest → first_of rest false ≡ drops next → Reaches text next

-- without its first n items
abbrev pub without_first : ℕ → Stream → Stream
without_first n s = record { items = drop n s.items; end = s.end }

abbrev pub IsNoComment : First → Type 0
IsNoComment (takes item rest) = Unit {0}
IsNoComment (drops rest) = ⊥
IsNoComment (ends end) = Unit {0}

-- a text that begins with an item, or has none
abbrev pub BeginsNoComment : Bytes → Type 0
BeginsNoComment text = IsNoComment (first_of text false)
