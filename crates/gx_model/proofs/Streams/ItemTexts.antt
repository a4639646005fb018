-- The text of items is read as these items.
use Rattle.std.proofs.Common.{◌≡◌, true, false, not, List, [], ◌∷◌, ◌++◌, length, nat_eq, codes, refl, sym, ap, subst, ◌∙◌, append_assoc, inl}
use Rattle.std.specs.List.{flat_map, list_all, AllByRecursion}
use Rattle.std.specs.Char.{is_ascii_digit}
use Rattle.std.specs.Fmt.{decimal}
use Rattle.std.proofs.lemmas.Bool.{false≢true, not-true}
use Rattle.std.proofs.lemmas.List.Concat.{flat_map-cons}
use Rattle.gx_model.specs.Texts.{Bytes, is_line}
use Rattle.gx_model.specs.Streams.Items.{Item, Line, Data, Finished, items_of}
use Rattle.gx_model.specs.Streams.Spelling.{HasNoLf, BeginsLine, data_line, delimiter_text, IsNot, Spells, IsReading, ended, taken}
use Rattle.gx_model.specs.Export.{item_text}
use Rattle.gx_model.specs.Laws.ExportLaws.{IsItem}
use Rattle.gx_model.proofs.Texts.Idents.{and_one, and_two}
use Rattle.gx_model.proofs.Texts.Decimals.{AreDigits, decimal_digits, decimal_read}
use Rattle.gx_model.proofs.Texts.LineTexts.{digits_are_line}
use Rattle.gx_model.proofs.Streams.Readings.{only_reading}
use Rattle.gx_model.proofs.Streams.Found.{not_form}

no_lf : (l : Bytes) → is_line l ≡ true → HasNoLf l
no_lf [] h = tt
no_lf (b ∷ bs) h = (not-true _ (and_one (not (nat_eq b 10)) _ h), no_lf bs (and_two (not (nat_eq b 10)) _ h))

no_delimiter : (ds : Bytes) → AreDigits ds → IsNot delimiter_text ds
no_delimiter ds h x is = false≢true (sym (ap (list_all is_ascii_digit) is) ∙ h)

-- an item's text begins with this item
pub item_spelled : (i : Item) (rest : Bytes) → IsItem i → Spells (item_text i ++ rest) false i rest
item_spelled (Line l) rest h =
    ((no_lf l h.line, inl (append_assoc l (10 ∷ []) rest)), not_form (codes "#") l h.no_comment, not_form (codes "data ") l h.no_data)
item_spelled (Data x) rest h =
    let digits = decimal (length x) in
    let are = decimal_digits (length x) h in
    let line : BeginsLine (item_text (Data x) ++ rest) false (data_line digits) (x ++ 10 ∷ rest) = (no_lf (data_line digits) (digits_are_line digits are), inl (simp append_assoc)) in
    (digits, x ++ 10 ∷ rest, line, inl (no_delimiter digits are, decimal_read (length x) h, 10 ∷ rest, refl, inl refl))

all_spelled : (is : List Item) → AllByRecursion IsItem is → IsReading false (flat_map item_text is) is Finished
all_spelled [] h = ended (refl, refl)
all_spelled (i ∷ is) h =
    subst (λ text. IsReading false text (i ∷ is) Finished) (sym (flat_map-cons item_text i is))
    (taken (flat_map item_text is) (item_spelled i (flat_map item_text is) h.0) (all_spelled is h.1))

pub items_read : (is : List Item) → AllByRecursion IsItem is → items_of (flat_map item_text is) false ≡ record { items = is; end = Finished }
items_read is h = only_reading (flat_map item_text is) false is Finished (all_spelled is h)
