-- Records that are read one by one, with their places.
use Rattle.std.proofs.Common.{◌≡◌, ℕ, ◌+◌, ◌-◌, ◌≤◌, refl, sym, ap, ◌∙◌, List, [], ◌∷◌, ◌++◌, length, drop, Ok, arith, append_assoc, append-nil}
use Rattle.std.specs.List.{flat_map}
use Rattle.std.proofs.lemmas.Grind.{flat_map-append}
use Rattle.std.proofs.Math.Seq.{drop-append_seam}
use Rattle.std.proofs.lemmas.List.{length-append}
use Rattle.gx_model.specs.declared.objects.Kind.{Kind}
use Rattle.gx_model.specs.declared.store_versions.Version.TheVariants.{Two}
use Rattle.gx_model.specs.Histories.{Record, record_for}
use Rattle.gx_model.specs.Stores.StoreText.{stored_record}
use Rattle.gx_model.specs.Stores.StoreReading.{next_record}
use Rattle.gx_model.specs.Texts.{Bytes}
use Rattle.gx_model.proofs.Stores.StoredRecords.{record_of_text}
use Rattle.gx_growing.specs.GrowingText.{placed}
use Rattle.gx_growing_parts.specs.Placing.{rows_of}

-- A record more has its place behind those of the others.
row_more : (rs : List Record) (ps : List ℕ) (r : Record) (p : ℕ) → length ps ≡ length rs → rows_of (rs ++ r ∷ []) (ps ++ p ∷ []) ≡ rows_of rs ps ++ (r.name, p) ∷ []
row_more [] [] r p l = refl
row_more [] (q ∷ ps) r p l = absurd (omega (arith, l))
row_more (x ∷ rs) [] r p l = absurd (omega (arith, l))
row_more (x ∷ rs) (q ∷ ps) r p l = ap (λ rows. (x.name, q) ∷ rows) (row_more rs ps r p (omega (arith, l)))

-- A record that stands behind others is placed behind them.
placed_more : (at : ℕ) (rs : List Record) (r : Record) → placed at (rs ++ r ∷ []) ≡ placed at rs ++ (r.name, at + length (flat_map (stored_record Two) rs)) ∷ []
placed_more at [] r = let same : at ≡ at + 0 = omega arith in ap (λ n. (r.name, n) ∷ []) same
placed_more at (x ∷ rs) r =
    let long = length-append (stored_record Two x) (flat_map (stored_record Two) rs) in
    let same : (at + length (stored_record Two x)) + length (flat_map (stored_record Two) rs) ≡ at + length (stored_record Two x ++ flat_map (stored_record Two) rs) = omega (arith, long) in
    ap (λ rows. (x.name, at) ∷ rows) (placed_more (at + length (stored_record Two x)) rs r ∙ ap (λ n. placed (at + length (stored_record Two x)) rs ++ (r.name, n) ∷ []) same)

-- records behind others, with their places, and what is left of the text
pub record ArePlaced (whole : ℕ) (before : List Record) (first : List ℕ) (text : Bytes) (rs : List Record) (ps : List ℕ) (rest : Bytes) : Type 0 where
  pub more : List Record
  pub records : rs ≡ before ++ more
  pub aligned : length ps ≡ length rs
  pub spelled : text ≡ flat_map (stored_record Two) more ++ rest
  pub rows : rows_of rs ps ≡ rows_of before first ++ placed (whole - length text) more

-- Before the first record, none is placed.
pub none_placed : (whole : ℕ) (before : List Record) (first : List ℕ) (text : Bytes) → length first ≡ length before → ArePlaced whole before first text before first text
none_placed whole before first text l = record { more = []; records = sym (append-nil before); aligned = l; spelled = refl; rows = sym (append-nil (rows_of before first)) }

-- A record that is read stands behind those that were.
pub one_placed : (name : Kind → Bytes → Bytes) (whole : ℕ) (before : List Record) (first : List ℕ) (text : Bytes) (rs : List Record) (ps : List ℕ) (rest : Bytes)
    → ArePlaced whole before first text rs ps rest → length text ≤ whole → (x : List Record × Bytes) → next_record name Two rs rest ≡ Ok x
    → ArePlaced whole before first text x.0 (ps ++ (whole - length rest) ∷ []) x.1
one_placed name whole before first text rs ps rest a le x e =
    let o = record_of_text name Two rs rest x e in
    let r = record_for name o.kind o.body in
    let p = whole - length rest in
    let texts = flat_map (stored_record Two) a.more in
    let spelled = a.spelled ∙ ap (λ t. texts ++ t) o.spelled ∙ sym (append_assoc texts (stored_record Two r) x.1) in
    let flat = flat_map-append (stored_record Two) a.more (r ∷ []) ∙ ap (λ t. texts ++ t) (append-nil (stored_record Two r)) in
    let long = ap length a.spelled ∙ length-append texts rest in
    let place : p ≡ (whole - length text) + length texts = omega (arith, long, le) in
    record {
      more = a.more ++ r ∷ [];
      records = o.last ∙ ap (λ z. z ++ r ∷ []) a.records ∙ append_assoc before a.more (r ∷ []);
      aligned = length-append ps (p ∷ []) ∙ ap (λ n. n + 1) a.aligned ∙ sym (ap length o.last ∙ length-append rs (r ∷ []));
      spelled = spelled ∙ ap (λ t. t ++ x.1) (sym flat);
      rows =
          ap (λ z. rows_of z (ps ++ p ∷ [])) o.last ∙ row_more rs ps r p a.aligned ∙ ap (λ z. z ++ (r.name, p) ∷ []) a.rows
          ∙ append_assoc (rows_of before first) (placed (whole - length text) a.more) ((r.name, p) ∷ [])
          ∙ ap (λ n. rows_of before first ++ (placed (whole - length text) a.more ++ (r.name, n) ∷ [])) place
          ∙ ap (λ z. rows_of before first ++ z) (sym (placed_more (whole - length text) a.more r));
    }

-- What is placed behind others are the records that are new.
pub placed_new : (whole : ℕ) (before : List Record) (first : List ℕ) (text : Bytes) (rs : List Record) (ps : List ℕ) (rest : Bytes) → ArePlaced whole before first text rs ps rest
    → rows_of rs ps ≡ rows_of before first ++ placed (whole - length text) (drop (length before) rs)
placed_new whole before first text rs ps rest a =
    a.rows ∙ ap (λ z. rows_of before first ++ placed (whole - length text) z) (sym (ap (drop (length before)) a.records ∙ drop-append_seam before a.more))
