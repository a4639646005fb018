-- How a text spells its items: a relation on the whole text, without positions or pieces.
-- Source: git-fast-import(1), "Comments" and "data".
use Rattle.std.specs.Prelude.{◌≡◌, ℕ, ◌<◌, ◌≤◌, ◌⊎◌, Bool, true, false, List, [], ◌∷◌, ◌++◌, length, codes, Some, None}
use Rattle.std.specs.List.{flat_map}
use Rattle.gx_model.specs.Texts.Numbers.{decimal_of}
use Rattle.gx_model.specs.Texts.{Bytes}
use Rattle.gx_model.specs.declared.faults.Fault.TheVariants as faults
use Rattle.gx_model.specs.Streams.Items.{Item, Line, Data, End, Finished, Failed, is_lf}

-- no LF stands in a text
abbrev pub HasNoLf : Bytes → Type 0
HasNoLf [] = Unit {0}
HasNoLf (b ∷ bs) = (is_lf b ≡ false) × HasNoLf bs

-- The text begins with this line. Only a last line, of a text that ends, may lack its LF, and then it isn't empty.
abbrev pub BeginsLine : Bytes → Bool → Bytes → Bytes → Type 0
BeginsLine text fails l rest = HasNoLf l × ((text ≡ l ++ 10 ∷ rest) ⊎ ((text ≡ l) × (rest ≡ []) × (0 < length l) × (fails ≡ false)))

-- the line of a comment
abbrev pub comment_line : Bytes → Bytes
comment_line x = codes "#" ++ x

-- the line that announces a block
abbrev pub data_line : Bytes → Bytes
data_line x = codes "data " ++ x

-- what announces a delimited block, behind `data`
abbrev pub delimiter_text : Bytes → Bytes
delimiter_text d = codes "<<" ++ d

-- a line is of no such form
abbrev pub IsNot : (Bytes → Bytes) → Bytes → Type 0
IsNot form l = (x : Bytes) → l ≡ form x → ⊥

-- a text begins with no LF
abbrev pub NoLfFirst : Bytes → Type 0
NoLfFirst [] = Unit {0}
NoLfFirst (b ∷ bs) = is_lf b ≡ false

-- An LF directly after a block belongs to it. Where the text fails, a byte has to stand after a block.
abbrev pub EndsBlock : Bytes → Bool → Bytes → Type 0
EndsBlock after fails rest = (after ≡ 10 ∷ rest) ⊎ ((after ≡ rest) × NoLfFirst rest × (fails ≡ true → 0 < length rest))

-- lines, and none is this one
abbrev pub AreOther : Bytes → List Bytes → Type 0
AreOther d [] = Unit {0}
AreOther d (l ∷ ls) = HasNoLf l × (l ≡ d → ⊥) × AreOther d ls

-- lines, each with its LF
abbrev pub text_of_lines : List Bytes → Bytes
text_of_lines ls = flat_map (λ l. l ++ 10 ∷ []) ls

-- after a `data` line, a block of a stated length, or up to a line that is the delimiter
abbrev pub IsCounted : Bytes → Bytes → Bool → Bytes → Bytes → Type 0
IsCounted digits bytes fails x rest = IsNot delimiter_text digits × (decimal_of digits ≡ Some (length x)) × (after : Bytes) × (bytes ≡ x ++ after) × EndsBlock after fails rest

-- a block of the lines up to the delimiter
abbrev pub IsDelimited : Bytes → Bytes → Bool → Bytes → Bytes → Type 0
IsDelimited d bytes fails x rest =
    (ls : List Bytes) × (more : Bytes) × (after : Bytes) × AreOther d ls × (x ≡ text_of_lines ls) × (bytes ≡ x ++ more) × BeginsLine more fails d after × EndsBlock after fails rest

-- the text begins with this item
abbrev pub Spells : Bytes → Bool → Item → Bytes → Type 0
Spells text fails (Line l) rest = BeginsLine text fails l rest × IsNot comment_line l × IsNot data_line l
Spells text fails (Data x) rest =
    (y : Bytes) × (bytes : Bytes) × BeginsLine text fails (data_line y) bytes × (IsCounted y bytes fails x rest ⊎ ((d : Bytes) × (y ≡ delimiter_text d) × IsDelimited d bytes fails x rest))

-- the block that begins the text isn't complete
abbrev pub IsCut : Bytes → Bool → Type 0
IsCut text fails =
    (y : Bytes) × (bytes : Bytes) × BeginsLine text fails (data_line y) bytes
    × ((IsNot delimiter_text y × (n : ℕ) × (decimal_of y ≡ Some n) × (length bytes ≤ n) × (fails ≡ false → length bytes < n))
    ⊎ ((d : Bytes) × (y ≡ delimiter_text d) × (ls : List Bytes) × (last : Bytes) × AreOther d ls × (bytes ≡ text_of_lines ls ++ last)
    × ((HasNoLf last × (fails ≡ false → last ≡ d → last ≡ [])) ⊎ ((fails ≡ true) × HasNoLf d × (last ≡ d ++ 10 ∷ [])))))

-- the text begins with no item and no comment, and this is its end
abbrev pub Ends : Bytes → Bool → End → Type 0
Ends text fails Finished = (text ≡ []) × (fails ≡ false)
Ends text fails (Failed faults.BadNumber) = (y : Bytes) × (bytes : Bytes) × BeginsLine text fails (data_line y) bytes × IsNot delimiter_text y × (decimal_of y ≡ None)
Ends text fails (Failed faults.TruncatedData) = (fails ≡ false) × IsCut text fails
Ends text fails (Failed faults.ReadFailed) = (fails ≡ true) × (HasNoLf text ⊎ IsCut text fails)
Ends text fails (Failed _) = ⊥

-- the text is spelled by comments and these items, and then a rest with this end
pub data IsReading (fails : Bool) : Bytes → List Item → End → Type 0 where
  ended : {text : Bytes} {e : End} → Ends text fails e → IsReading fails text [] e
  taken : {text : Bytes} {i : Item} {is : List Item} {e : End} (rest : Bytes) → Spells text fails i rest → IsReading fails rest is e → IsReading fails text (i ∷ is) e
  dropped : {text : Bytes} {is : List Item} {e : End} (x rest : Bytes) → BeginsLine text fails (comment_line x) rest → IsReading fails rest is e → IsReading fails text is e
