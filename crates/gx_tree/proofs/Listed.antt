-- The list of a tree's files, made directory by directory.
use Rattle.std.proofs.Common.{◌≡◌, ◌≢◌, ℕ, ◌+◌, ◌<◌, ◌≤◌, zero, suc, true, ◌&&◌, List, [], ◌∷◌, ◌++◌, map, length, get_or, drop, refl, sym, ap, ◌∙◌, arith, append_assoc, subst}
use Rattle.std.specs.Prelude.{Result, Ok}
use Rattle.std.specs.List.{list_all, AllByRecursion}
use Rattle.std.proofs.lemmas.List.{length-append, length-map, map-append, get_or-map}
use Rattle.std.proofs.lemmas.List.Folds.{list_all-append}
use Rattle.std.proofs.lemmas.Bool.{and_from, and_parts, leb-true, le-leb, false≢true}
use Rattle.gx_model.specs.declared.objects.Mode.{Mode}
use Rattle.gx_object.specs.declared.name.Name.{Name}
use Rattle.gx_model.specs.declared.faults.Fault.{Fault}
use Rattle.gx_model.specs.Texts.{Bytes}
use Rattle.gx_model.specs.Faults.{IsFaultOf}
use Rattle.gx_text.specs.declared.fault.TextFault.{TextFault}
use Rattle.gx_text.specs.declared.fault.TextFault.TheVariants.{OutOfMemory, BadPath, PathTooLong, BadIdent}
use Rattle.gx_text.specs.TextFaults.{fault_of}
use Rattle.gx_model.specs.Texts.Paths.{Path, is_component, is_file_path, is_short, path_of, path_text}
use Rattle.gx_model.specs.Histories.Files.{FileMap, are_file_paths, is_file_map}
use Rattle.gx_model.specs.Records.HistoryOf.{placed}
use Rattle.gx_model.proofs.Texts.PathTexts.{path_again}
use Rattle.gx_tree.specs.Components.{bytes_of}
use Rattle.gx_tree.specs.Nodes.{Kept, Level, IsKept, IsLevel, file, files, folder, kept_map}
use Rattle.gx_tree.specs.Views.{shown_item, shown_entry, shown_entries}
use Rattle.gx_tree.specs.Lists.{below, shown_listed}
use Rattle.gx_tree.specs.declared.directory.Entry.{Entry}
use Rattle.gx_tree.proofs.Copies.{seen_more}

-- ---- a path with one more component

text_more : (d : Bytes) (p : Path) (c : Bytes) → path_text ((d ∷ p) ++ c ∷ []) ≡ path_text (d ∷ p) ++ 47 ∷ c
text_more d [] c = refl
text_more d (e ∷ p) c = ap (λ t. d ++ 47 ∷ t) (text_more e p c) ∙ sym (append_assoc d (47 ∷ path_text (e ∷ p)) (47 ∷ c))

pub child_text : (p : Path) (c : Bytes) → (0 < length p) → path_text (p ++ c ∷ []) ≡ (path_text p ++ 47 ∷ []) ++ c
child_text [] c l = absurd (omega arith)
child_text (d ∷ p) c l = text_more d p c ∙ sym (append_assoc (path_text (d ∷ p)) (47 ∷ []) c)

pub child_of_root : (p : Path) (c : Bytes) → length p ≤ 0 → path_text (p ++ c ∷ []) ≡ path_text p ++ c
child_of_root [] c l = refl
child_of_root (d ∷ p) c l = absurd (omega arith)

all_components : (p : Path) (c : Bytes) → list_all is_component p ≡ true → is_component c ≡ true → list_all is_component (p ++ c ∷ []) ≡ true
all_components p c h k = list_all-append is_component p (c ∷ []) ∙ and_from _ _ h (and_from _ _ k refl)

pub child_read : (p : Path) (c text : Bytes) → (list_all is_component p && is_short p) ≡ true → is_component c ≡ true → is_short (p ++ c ∷ []) ≡ true → text ≡ path_text (p ++ c ∷ []) → path_of text ≡ Ok (p ++ c ∷ [])
child_read p c text h k s e = ap path_of e ∙ path_again (p ++ c ∷ []) (all_components p c (and_parts _ _ h).0 k) (leb-true _ _ s)

-- ---- files below a path

below-append : (p : Path) (f g : FileMap Bytes) → below p (f ++ g) ≡ below p f ++ below p g
below-append p f g = map-append _ f g

pub below-placed : (p : Path) (c : Bytes) (f : FileMap Bytes) → below (p ++ c ∷ []) f ≡ below p (placed c f)
below-placed p c [] = refl
below-placed p c (e ∷ f) = rw (append_assoc p (c ∷ []) e.0) (ap (λ r. (p ++ c ∷ e.0, e.1) ∷ r) (below-placed p c f))

pub below_root : (f : FileMap Bytes) → below [] f ≡ f
below_root [] = refl
below_root (e ∷ f) = ap (λ r. e ∷ r) (below_root f)

-- ---- how long the paths are

text_front : (p q : Path) → length (path_text p) ≤ length (path_text (p ++ q))
text_front [] q = omega arith
text_front (c ∷ []) [] = omega arith
text_front (c ∷ []) (d ∷ q) = omega (arith, length-append c (47 ∷ path_text (d ∷ q)))
text_front (c ∷ d ∷ p) q = omega (arith, text_front (d ∷ p) q, length-append c (47 ∷ path_text (d ∷ p)), length-append c (47 ∷ path_text ((d ∷ p) ++ q)))

pub short_front : (p q : Path) → is_short (p ++ q) ≡ true → is_short p ≡ true
short_front p q h = le-leb _ _ (omega (arith, text_front p q, leb-true _ _ h))

abbrev pub AreShort : FileMap Bytes → Type 0
AreShort f = list_all (λ e. is_short e.0) f ≡ true

-- an entry's component, its path below p, and the paths of its files
abbrev pub IsListed : Path → Bytes × Kept → Type 0
IsListed p e = (is_component e.0 ≡ true) × (is_short (p ++ e.0 ∷ []) ≡ true) × AreShort (below (p ++ e.0 ∷ []) (kept_map e.1))

short_child : (p : Path) (c : Bytes) (k : Kept) → IsKept k → AreShort (below (p ++ c ∷ []) (kept_map k)) → is_short (p ++ c ∷ []) ≡ true
short_child p c (file x) h s = short_front (p ++ c ∷ []) [] (and_parts _ _ s).0
short_child p c (folder []) h s = absurd (h.0 refl)
short_child p c (folder (e ∷ f)) h s = short_front (p ++ c ∷ []) e.0 (and_parts _ _ s).0

pub all_listed : (p : Path) (es : Level) → IsLevel es → AreShort (below p (files es)) → AllByRecursion (IsListed p) es
all_listed p [] h s = tt
all_listed p (e ∷ es) h s =
    let parts = and_parts _ _ (sym (list_all-append (λ x. is_short x.0) (below p (placed e.0 (kept_map e.1))) (below p (files es))) ∙ ap (list_all (λ x. is_short x.0)) (sym (below-append p (placed e.0 (kept_map e.1)) (files es))) ∙ s) in
    let here : AreShort (below (p ++ e.0 ∷ []) (kept_map e.1)) = ap (list_all (λ x. is_short x.0)) (below-placed p e.0 (kept_map e.1)) ∙ parts.0 in
    ((h.0, short_child p e.0 e.1 h.1 here, here), all_listed p es h.3 parts.1)

pub all_at : {X : Type 0} (P : X → Type 0) (xs : List X) (i : ℕ) (d : X) → i < length xs → AllByRecursion P xs → P (get_or xs i d)
all_at P [] i d l h = absurd (omega arith)
all_at P (x ∷ xs) zero d l h = h.0
all_at P (x ∷ xs) (suc i) d l h = all_at P xs i d (omega arith) h.1

-- of the entry at i, read as r
pub listed_at : {A : Type 0} {f : FileMap Bytes} (p : Path) (es xs : List (Entry A)) (i : ℕ) (r : Entry A) → i < length xs → r ≡ get_or xs i r → xs ≡ es → files (shown_entries es) ≡ f → IsLevel (shown_entries es) → AreShort (below p f) → IsListed p (shown_entry r)
listed_at {f} p es xs i r l ir ex view h s =
    let a : AllByRecursion (IsListed p) (shown_entries es) = all_listed p (shown_entries es) h (ap (λ z. list_all (λ x. is_short x.0) (below p z)) view ∙ s) in
    let b : AllByRecursion (IsListed p) (shown_entries xs) = subst (λ z. AllByRecursion (IsListed p) (shown_entries z)) (sym ex) a in
    subst (λ z. IsListed p (shown_entry z)) (sym ir) (subst (IsListed p) (get_or-map shown_entry xs i r (shown_entry r) l) (all_at (IsListed p) (shown_entries xs) i (shown_entry r) (omega (arith, length-map xs shown_entry)) b))

-- ---- a step of the loop

pub list_file : (front path : Path) (t c : Bytes) (m : Mode) (n : Name) (out out' : List (Path × Mode × Name)) → path ≡ front ++ t ∷ [] → t ≡ c → out' ≡ out ++ (path, m, n) ∷ [] → map shown_listed out' ≡ map shown_listed out ++ below front (placed c (kept_map (file (m, n.bytes))))
list_file front path t c m n out out' ep et eo = rw (eo, map-append shown_listed out ((path, m, n) ∷ []), ep, et) refl

pub list_folder : (front path : Path) (t c : Bytes) (f g : FileMap Bytes) (out out' : List (Path × Mode × Name)) → path ≡ front ++ t ∷ [] → t ≡ c → g ≡ f → map shown_listed out' ≡ map shown_listed out ++ below path g → map shown_listed out' ≡ map shown_listed out ++ below front (placed c (kept_map (folder f)))
list_folder front path t c f g out out' ep et eg eo = rw (eo, eg, ep, et, below-placed front c f) refl

pub list_more : {A : Type 0} (front : Path) (es : List (Entry A)) (i : ℕ) (r : Entry A) (k : Kept) (total : FileMap Bytes) (out out' : List (Path × Mode × Name)) → i < length es → r ≡ get_or es i r → shown_item r.item ≡ k → map shown_listed out' ≡ map shown_listed out ++ below front (placed (bytes_of r.component) (kept_map k)) → map shown_listed out ++ below front (files (shown_entries (drop i es))) ≡ total → map shown_listed out' ++ below front (files (shown_entries (drop (i + 1) es))) ≡ total
list_more front es i r k total out out' l ir ek eo h =
    let step : shown_entries (drop i es) ≡ (bytes_of r.component, k) ∷ shown_entries (drop (i + 1) es) = rw (seen_more es i r l ir, ek) refl in
    let whole : map shown_listed out ++ (below front (placed (bytes_of r.component) (kept_map k)) ++ below front (files (shown_entries (drop (i + 1) es)))) ≡ total =
    rw (step, below-append front (placed (bytes_of r.component) (kept_map k)) (files (shown_entries (drop (i + 1) es)))) at h in
    rw (eo, append_assoc (map shown_listed out) (below front (placed (bytes_of r.component) (kept_map k))) (below front (files (shown_entries (drop (i + 1) es))))) whole

-- ---- the whole tree

file_path_short : (p : Path) → is_file_path p ≡ true → is_short p ≡ true
file_path_short [] h = absurd (false≢true h)
file_path_short (c ∷ p) h = (and_parts _ _ h).1

pub all_short : (f : FileMap Bytes) → are_file_paths f ≡ true → AreShort f
all_short [] h = refl
all_short (e ∷ f) h = and_from _ _ (file_path_short e.0 (and_parts _ _ h).0) (all_short f (and_parts _ _ h).1)

pub map_short : (f : FileMap Bytes) → is_file_map f ≡ true → AreShort f
map_short f h = all_short f (and_parts _ _ (and_parts _ _ h).0).0

-- a path that is read is refused for want of memory alone
pub not_refused : (p : Path) (given : Result Path Fault) (f : TextFault) → given ≡ Ok p → (f ≢ OutOfMemory) → IsFaultOf (fault_of f) given → ⊥
not_refused p given OutOfMemory e n h = n refl
not_refused p given BadPath e n h = let k = sym e ∙ h in cc
not_refused p given PathTooLong e n h = let k = sym e ∙ h in cc
not_refused p given BadIdent e n h = let k = sym e ∙ h in cc
