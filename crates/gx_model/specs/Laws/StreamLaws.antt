-- What holds of the items of every text.
-- Source: git-fast-import(1), "Comments" and "data".
use Rattle.std.specs.Prelude.{◌≡◌, Bool, List}
use Rattle.gx_model.specs.Texts.{Bytes}
use Rattle.gx_model.specs.Streams.Items.{Item, End, items_of}
use Rattle.gx_model.specs.Streams.Spelling.{IsReading}

-- the function's reading is one
abbrev pub SomeReading : Type 0
SomeReading = (text : Bytes) (fails : Bool) → IsReading fails text (items_of text fails).items (items_of text fails).end

-- and the only one
abbrev pub OneReading : Type 0
OneReading = (text : Bytes) (fails : Bool) (is : List Item) (e : End) → IsReading fails text is e → items_of text fails ≡ record { items = is; end = e }
