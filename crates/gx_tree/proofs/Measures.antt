-- A directory below another has fewer components.
use Rattle.std.proofs.Common.{◌≡◌, ℕ, ◌<◌, ◌+◌, ◌*◌, zero, suc, List, [], ◌∷◌, length, get_or, refl, sym, ap, ◌∙◌, arith, subst}
use Rattle.gx_model.specs.Histories.Files.{FileMap}
use Rattle.gx_model.specs.Texts.{Bytes}
use Rattle.gx_model.specs.Records.HistoryOf.{placed}
use Rattle.gx_tree.specs.Components.{bytes_of}
use Rattle.gx_tree.specs.Nodes.{IsKept, IsLevel, components, files, folder, kept_map}
use Rattle.gx_tree.specs.Falls.{components-append, components-placed, some_length}
use Rattle.gx_tree.specs.Views.{shown_item, shown_entries}
use Rattle.gx_tree.specs.declared.directory.Entry.{Entry}
use Rattle.gx_tree.specs.declared.directory.Item.{Item}
use Rattle.gx_tree.specs.declared.directory.Item.TheVariants.{File, Folder}

folder_at : {A : Type 0} (es : List (Entry A)) (i : ℕ) (d : Entry A) (f : FileMap Bytes) → IsLevel (shown_entries es) → i < length es → shown_item (get_or es i d).item ≡ folder f → components f < components (files (shown_entries es))
folder_at [] i d f h l e = absurd (omega arith)
folder_at (x ∷ es) zero d f h l e =
    let k : IsKept (folder f) = subst IsKept e h.1 in
    let same : components (placed (bytes_of x.component) (kept_map (shown_item x.item))) ≡ components (placed (bytes_of x.component) f) = ap (λ z. components (placed (bytes_of x.component) (kept_map z))) e in
    omega (arith, components-append (placed (bytes_of x.component) (kept_map (shown_item x.item))) (files (shown_entries es)), same, components-placed (bytes_of x.component) f, some_length f k.0)
folder_at (x ∷ es) (suc i) d f h l e = omega (arith, folder_at es i d f h.3 (omega arith) e, components-append (placed (bytes_of x.component) (kept_map (shown_item x.item))) (files (shown_entries es)))

-- the entry at i, read as r
pub folder_less : {A : Type 0} {f : FileMap Bytes} (es xs : List (Entry A)) (i : ℕ) (r : Entry A) (g b : FileMap Bytes) → i < length xs → r ≡ get_or xs i r → xs ≡ es → files (shown_entries es) ≡ f → IsLevel (shown_entries es) → shown_item r.item ≡ folder g → b ≡ g → components b < components f
folder_less es xs i r g b l ir ex view h ek eb =
    let k : shown_item (get_or xs i r).item ≡ folder g = ap (λ z. shown_item z.item) (sym ir) ∙ ek in
    let a = folder_at xs i r g (subst (λ z. IsLevel (shown_entries z)) (sym ex) h) l k in
    omega (arith, a, ap components eb, ap (λ z. components (files (shown_entries z))) ex, ap components view)

-- how far down an item may still be written
abbrev pub item_measure : {A : Type 0} → Item A → ℕ
item_measure (File m n) = 0
item_measure (Folder d) = 4 * components d.files + 4

item_less_by : {A : Type 0} {f : FileMap Bytes} (es xs : List (Entry A)) (i : ℕ) (r : Entry A) (item : Item A) → r.item ≡ item → i < length xs → r ≡ get_or xs i r → xs ≡ es → files (shown_entries es) ≡ f → IsLevel (shown_entries es) → item_measure item < 4 * components f + 1
item_less_by es xs i r (File m n) e l ir ex view h = omega arith
item_less_by es xs i r (Folder d) e l ir ex view h = omega (arith, folder_less es xs i r d.files d.files l ir ex view h (ap shown_item e) refl)

pub item_less : {A : Type 0} {f : FileMap Bytes} (es xs : List (Entry A)) (i : ℕ) (r : Entry A) → i < length xs → r ≡ get_or xs i r → xs ≡ es → files (shown_entries es) ≡ f → IsLevel (shown_entries es) → item_measure r.item < 4 * components f + 1
item_less es xs i r l ir ex view h = item_less_by es xs i r r.item refl l ir ex view h
