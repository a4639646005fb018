-- The places of records in a text of segments: each record's text stands at its place, and those of later records are greater.
use Rattle.std.proofs.Common.{◌≡◌, ℕ, suc, ◌+◌, ◌≤◌, ◌<◌, refl, sym, ap, subst, ◌∙◌, List, [], ◌∷◌, ◌++◌, length, map, take, codes, arith, append_assoc, length-append}
use Rattle.std.specs.Prelude.{⊤}
use Rattle.std.specs.List.{AllByRecursion, AllZip, flat_map, zip}
use Rattle.std.proofs.lemmas.List.{drop_at, take_at}
use Rattle.gx_model.specs.Texts.{Bytes}
use Rattle.gx_model.specs.Texts.Numbers.{number_text}
use Rattle.gx_model.specs.Objects.{line}
use Rattle.gx_model.specs.Histories.{Record}
use Rattle.gx_model.specs.declared.store_versions.Version.TheVariants.{Two}
use Rattle.gx_model.specs.Stores.StoreText.{stored_record}
use Rattle.gx_growing.specs.GrowingText.{Row, Segment, first_place, part, placed, placed_rows, records_of, segment_text, tail_text}
use Rattle.gx_growing.specs.GrowingLaws.{GoUp, StandsAt}
use Rattle.gx_growing.proofs.ReadSegments.{segment_flat}
use Rattle.gx_growing.proofs.TextLengths.{record_some}

-- ---- where records stand

-- what stands between a front and a rest
stands_between : (front x rest : Bytes) → part (front ++ (x ++ rest)) (length front) (length x) ≡ x
stands_between front x rest = ap (take (length x)) (drop_at front (x ++ rest) (length front) refl) ∙ take_at x rest (length x) refl

-- a row tells a record: its name, and where its text stands
abbrev pub Tells : Bytes → Row → Record → Type 0
Tells text row held = (row.0 ≡ held.name) × StandsAt text row.1 held

-- each record's text stands at its row's place
placed_stand : (text front : Bytes) (rs : List Record) (rest : Bytes) → text ≡ front ++ (flat_map (stored_record Two) rs ++ rest) → AllZip (Tells text) (placed (length front) rs) rs
placed_stand text front [] rest e = tt
placed_stand text front (r ∷ rs) rest e =
    let t = stored_record Two r in
    let more = flat_map (stored_record Two) rs in
    let here : text ≡ front ++ (t ++ (more ++ rest)) = e ∙ ap (λ z. front ++ z) (append_assoc t more rest) in
    let next : text ≡ (front ++ t) ++ (more ++ rest) = here ∙ sym (append_assoc front t (more ++ rest)) in
    let tail = placed_stand text (front ++ t) rs rest next in (
      (refl, subst (λ z. StandsAt z (length front) r) (sym here) (stands_between front t (more ++ rest))),
      subst (λ n. AllZip (Tells text) (placed n rs) rs) (length-append front t) tail,
    )

-- two lists and two more, pair by pair
zip_append : {A B : Type 0} (R : A → B → Type 0) (xs us : List A) (ys vs : List B) → AllZip R xs ys → AllZip R us vs → AllZip R (xs ++ us) (ys ++ vs)
zip_append R [] us [] vs h g = g
zip_append R [] us (y ∷ ys) vs h g = absurd h
zip_append R (x ∷ xs) us [] vs h g = absurd h
zip_append R (x ∷ xs) us (y ∷ ys) vs h g = (h.0, zip_append R xs us ys vs h.1 g)

-- the same of the records of segments
pub segments_stand : (text front : Bytes) (ss : List Segment) (rest : Bytes) → text ≡ front ++ (flat_map segment_text ss ++ rest) → AllZip (Tells text) (placed_rows (length front) ss) (records_of ss)
segments_stand text front [] rest e = tt
segments_stand text front (s ∷ ss) rest e =
    let t = segment_text s in
    let more = flat_map segment_text ss in
    let objects = line (codes "objects") (number_text (length s.records)) in
    let behind = line (codes "rows") (number_text s.count) ++ (s.table ++ (10 ∷ (tail_text s.runs s.refs ++ (more ++ rest)))) in
    let here : text ≡ front ++ (t ++ (more ++ rest)) = e ∙ ap (λ z. front ++ z) (append_assoc t more rest) in
    let first : text ≡ (front ++ objects) ++ (flat_map (stored_record Two) s.records ++ behind) =
    here ∙ ap (λ z. front ++ z) (segment_flat s (more ++ rest)) ∙ sym (append_assoc front objects (flat_map (stored_record Two) s.records ++ behind)) in
    let next : text ≡ (front ++ t) ++ (more ++ rest) = here ∙ sym (append_assoc front t (more ++ rest)) in
    zip_append (Tells text) (placed (first_place (length front) s.records) s.records) (placed_rows (length front + length t) ss) s.records (records_of ss)
    (subst (λ n. AllZip (Tells text) (placed n s.records) s.records) (length-append front objects) (placed_stand text (front ++ objects) s.records behind first))
    (subst (λ n. AllZip (Tells text) (placed_rows n ss) (records_of ss)) (length-append front t) (segments_stand text (front ++ t) ss rest next))

-- ---- their order

-- the first place is the least or greater, and each later one is greater
abbrev pub Rise : ℕ → List Row → Type 0
Rise least [] = ⊤
Rise least (x ∷ xs) = least ≤ x.1 × Rise (suc x.1) xs

-- greater places follow greater ones
rise_later : (low least : ℕ) (rows : List Row) → low ≤ least → Rise least rows → Rise low rows
rise_later low least [] l h = tt
rise_later low least (x ∷ xs) l h = let g = h.0 in (omega arith, h.1)

-- the places of records rise, and more behind them do
placed_rise : (place : ℕ) (rs : List Record) (more : List Row) → Rise (place + length (flat_map (stored_record Two) rs)) more → Rise place (placed place rs ++ more)
placed_rise place [] more h = rise_later place (place + 0) more (omega arith) h
placed_rise place (r ∷ rs) more h =
    let t = stored_record Two r in
    let ts = flat_map (stored_record Two) rs in
    let some = record_some r in
    let joined : place + length (t ++ ts) ≡ (place + length t) + length ts = let a = length-append t ts in omega arith in
    let tail = placed_rise (place + length t) rs more (subst (λ n. Rise n more) joined h) in
    (omega arith, rise_later (suc place) (place + length t) (placed (place + length t) rs ++ more) (omega arith) tail)

-- the places of the records of segments rise
pub segments_rise : (place : ℕ) (ss : List Segment) → Rise place (placed_rows place ss)
segments_rise place [] = tt
segments_rise place (s ∷ ss) =
    let objects = line (codes "objects") (number_text (length s.records)) in
    let held = flat_map (stored_record Two) s.records in
    let behind = line (codes "rows") (number_text s.count) ++ (s.table ++ (10 ∷ tail_text s.runs s.refs)) in
    let more = placed_rows (place + length (segment_text s)) ss in
    let fits : first_place place s.records + length held ≤ place + length (segment_text s) = within place (length objects) (length held) (length behind) (length (held ++ behind)) (length (segment_text s)) (length-append objects (held ++ behind)) (length-append held behind) in
    let rest = rise_later (first_place place s.records + length held) (place + length (segment_text s)) more fits (segments_rise (place + length (segment_text s)) ss) in
    rise_later place (first_place place s.records) (placed (first_place place s.records) s.records ++ more) (after place (length objects)) (placed_rise (first_place place s.records) s.records more rest)
  where
    within : (place objects held behind both whole : ℕ) → whole ≡ objects + both → both ≡ held + behind → (place + objects) + held ≤ place + whole
    within place objects held behind both whole e f = omega arith

    after : (place objects : ℕ) → place ≤ place + objects
    after place objects = omega arith

-- places that rise are above what is below the first
rise_above : (p low : ℕ) (rows : List Row) → p < low → Rise low rows → AllByRecursion (λ later. p < later) (map (λ row. row.1) rows)
rise_above p low [] l h = tt
rise_above p low (x ∷ xs) l h = let g = h.0 in (omega arith, rise_above p (suc x.1) xs (omega arith) h.1)

-- places that rise go up
pub rise_go_up : (low : ℕ) (rows : List Row) → Rise low rows → GoUp (map (λ row. row.1) rows)
rise_go_up low [] h = tt
rise_go_up low (x ∷ xs) h = (rise_above x.1 (suc x.1) xs (omega arith) h.1, rise_go_up (suc x.1) xs h.1)

-- ---- rows beside their records

-- there are as many rows as records
pub zip_length : (text : Bytes) (rows : List Row) (rs : List Record) → AllZip (Tells text) rows rs → length (map (λ row. row.1) rows) ≡ length rs
zip_length text [] [] h = refl
zip_length text [] (r ∷ rs) h = absurd h
zip_length text (x ∷ xs) [] h = absurd h
zip_length text (x ∷ xs) (r ∷ rs) h = ap suc (zip_length text xs rs h.1)

-- records stand at the places of their rows
pub zip_stand : (text : Bytes) (rows : List Row) (rs : List Record) → AllZip (Tells text) rows rs → AllByRecursion (λ (p : ℕ × Record). StandsAt text p.0 p.1) (zip (map (λ row. row.1) rows) rs)
zip_stand text [] rs h = tt
zip_stand text (x ∷ xs) [] h = tt
zip_stand text (x ∷ xs) (r ∷ rs) h = (h.0.1, zip_stand text xs rs h.1)

-- rows are the names of their records with their places
pub zip_rows : (text : Bytes) (rows : List Row) (rs : List Record) → AllZip (Tells text) rows rs → zip (map (λ held. held.name) rs) (map (λ row. row.1) rows) ≡ rows
zip_rows text [] [] h = refl
zip_rows text [] (r ∷ rs) h = absurd h
zip_rows text (x ∷ xs) [] h = absurd h
zip_rows text (x ∷ xs) (r ∷ rs) h = let rest = zip_rows text xs rs h.1 in λ i. (sym h.0.0 i, x.1) ∷ rest i
