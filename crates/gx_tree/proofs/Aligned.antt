-- Renames where one path begins with the other: all that stands at or below the shorter goes.
use Rattle.std.proofs.Common.{◌≡◌, ◌<◌, ◌≤◌, Bool, true, false, cond, not, ◌||◌, List, [], ◌∷◌, ◌++◌, length, drop, Option, None, inl, inr, refl, sym, ap, ◌∙◌, arith, subst}
use Rattle.std.specs.List.{filter, list_all}
use Rattle.std.proofs.lemmas.Bool.{and_from, and_parts, cases_Bool, false≢true, true≢false}
use Rattle.std.proofs.lemmas.List.{length-drop}
use Rattle.std.proofs.lemmas.List.Folds.{list_all-append}
use Rattle.gx_model.specs.Texts.{Bytes, same_bytes}
use Rattle.gx_model.specs.Texts.Paths.{Path, begins, is_component}
use Rattle.gx_model.specs.Histories.Files.{FileMap, Leaf, file_at}
use Rattle.gx_model.specs.Histories.Edits.{removed, with_all}
use Rattle.gx_tree.specs.Edits.{are_apart}
use Rattle.gx_tree.specs.Lists.{below}
use Rattle.gx_tree.specs.Nodes.{Kept, IsInner, IsKept, folder, is_inner_path, kept_map}
use Rattle.gx_tree.specs.Steps.{grafted}
use Rattle.gx_tree.proofs.Below.{no_root_before}
use Rattle.gx_tree.proofs.CopyLaws.{grafted_at_root}
use Rattle.gx_tree.proofs.EditLaws.{IsInner-removed, cond_none, is_beside, same_files}
use Rattle.gx_tree.proofs.EditSteps.{kept_grafted_folder, removed_root}
use Rattle.gx_tree.proofs.Grafts.{IsInner-grafted, IsKept-grafted, file_at-grafted, found_in, kept_below, taken}
use Rattle.gx_tree.proofs.Lookups.{either, either_none, file_at-filter}
use Rattle.gx_tree.proofs.Texts.{bytes_are, bytes_same, cases_bytes, same_bytes_flip}

neither : (a b : Bool) → (a || b) ≡ false → (a ≡ false) × (b ≡ false)
neither false b h = (refl, h)
neither true b h = absurd (true≢false h)

must : (b : Bool) → not b ≡ false → b ≡ true
must true h = refl
must false h = absurd (true≢false h)

-- ---- the one begins with the other

pub in_front : (s d : Path) → are_apart s d ≡ false → length d ≤ length s → begins d s ≡ true
in_front s [] a l = refl
in_front [] (d ∷ q) a l = absurd (omega (arith, l))
in_front (c ∷ s) (d ∷ q) a l =
    let h = neither (not (same_bytes c d)) (are_apart s q) a in
    and_from _ _ (same_bytes_flip d c ∙ must _ h.0) (in_front s q h.1 (omega (arith, l)))

pub goes_on : (s d : Path) → are_apart s d ≡ false → length s ≤ length d → d ≡ s ++ drop (length s) d
goes_on [] d a l = refl
goes_on (c ∷ s) [] a l = absurd (omega (arith, l))
goes_on (c ∷ s) (d ∷ q) a l =
    let h = neither (not (same_bytes c d)) (are_apart s q) a in
    ap (λ z. z ∷ q) (sym (bytes_are c d (must _ h.0))) ∙ ap (λ z. c ∷ z) (goes_on s q h.1 (omega (arith, l)))

further : (p q r : Path) → begins p q ≡ true → begins q r ≡ true → begins p r ≡ true
further [] q r h k = refl
further (a ∷ p) [] r h k = absurd (false≢true h)
further (a ∷ p) (b ∷ q) [] h k = absurd (false≢true k)
further (a ∷ p) (b ∷ q) (c ∷ r) h k =
    and_from _ _ (bytes_same a c (bytes_are a b (and_parts _ _ h).0 ∙ bytes_are b c (and_parts _ _ k).0)) (further p q r (and_parts _ _ h).1 (and_parts _ _ k).1)

-- ---- the second is the shorter

filter_only : {X : Type 0} (p q : X → Bool) (xs : List X) → ((x : X) → q x ≡ false → p x ≡ false) → filter p (filter q xs) ≡ filter p xs
filter_only p q [] h = refl
filter_only p q (x ∷ xs) h = elim (cases_Bool (q x)) [
  | inl a ↦ elim (cases_Bool (p x)) [
    | inl b ↦ rw (a, b) (ap (λ r. x ∷ r) (filter_only p q xs h))
    | inr b ↦ rw (a, b) (filter_only p q xs h)
  ]
  | inr a ↦ rw (a, h x a) (filter_only p q xs h)
]

-- what is put at d takes with it what stood at or below s
pub put_over : (s d : Path) (g f : FileMap Bytes) → are_apart s d ≡ false → length d ≤ length s → grafted d g f ≡ grafted d g (removed f s)
put_over s d g f a l =
    ap (with_all (below d g)) (sym (filter_only (λ e. is_beside d e.0) (λ e. not (begins s e.0)) f
    (λ e h. ap (λ z. not (z || begins e.0 d)) (further d s e.0 (in_front s d a l) (must _ h)))))

-- ---- the first is the shorter

found_below : (s q r : Path) (g : FileMap Bytes) → list_all is_component q ≡ true → list_all (λ e. is_inner_path e.0) (below q g) ≡ true → found_in (taken s r) (grafted q g []) ≡ found_in (taken (s ++ q) r) g
found_below [] q r g hq hg = file_at-grafted q r g [] hg refl ∙ ap (either (found_in (taken q r) g)) (cond_none {X = Leaf Bytes} (is_beside q r)) ∙ either_none (found_in (taken q r) g)
found_below (c ∷ s) q [] g hq hg = refl
found_below (c ∷ s) q (e ∷ r) g hq hg = elim (cases_Bool (same_bytes c e)) [
  | inl b ↦ rw b (found_below s q r g hq hg)
  | inr b ↦ rw b refl
]

-- what isn't below s is beside all of a path that goes on from s, or it is in line with s
beside_both : (s q r : Path) → begins s r ≡ false → is_beside (s ++ q) r ≡ is_beside s r
beside_both [] q r h = absurd (true≢false h)
beside_both (c ∷ s) q [] h = refl
beside_both (c ∷ s) q (e ∷ r) h = elim (cases_bytes c e) [
  | inl i ↦
      let a = bytes_same c e i in
      let b = bytes_same e c (sym i) in
      let k : begins s r ≡ false = rw a at h in
      rw (a, b) (beside_both s q r k)
  | inr n ↦
      let m : same_bytes e c ≡ false = same_bytes_flip e c ∙ n in
      rw (n, m) refl
]

kept_beside : (s q r : Path) (x : Option (Leaf Bytes)) → cond (is_beside s r) x None ≡ cond (is_beside (s ++ q) r) (cond (not (begins s r)) x None) None
kept_beside s q r x = elim (cases_Bool (begins s r)) [
  | inl b ↦ rw b (sym (cond_none {X = Leaf Bytes} (is_beside (s ++ q) r)))
  | inr b ↦ ap (λ z. cond z x None) (sym (beside_both s q r b)) ∙ rw b refl
]

-- what is put below s, where nothing else is, is put at a path that goes on from s
put_below : (s q : Path) (k : Kept) (f : FileMap Bytes) → list_all is_component (s ++ q) ≡ true → IsKept k → IsInner f → 0 < length q → grafted s (grafted q (kept_map k) []) f ≡ grafted (s ++ q) (kept_map k) (removed f s)
put_below s [] k f hp hk h l = absurd (omega (arith, l))
put_below [] (b ∷ t) k f hp hk h l =
    grafted_at_root [] f (grafted (b ∷ t) (kept_map k) []) (omega arith) (IsKept-grafted (b ∷ t) k None hp hk tt) ∙ ap (grafted (b ∷ t) (kept_map k)) (sym (removed_root [] f refl))
put_below (c ∷ s) (b ∷ t) k f hp hk h l =
    let q : Path = b ∷ t in
    let g = kept_map k in
    let parts = and_parts _ _ (sym (list_all-append is_component (c ∷ s) q) ∙ hp) in
    let into = kept_below b t k parts.1 hk in
    let first = kept_below c s (folder (grafted q g [])) parts.0 (IsKept-grafted q k None parts.1 hk tt) in
    let all = kept_below c (s ++ q) k hp hk in
    let rest = IsInner-removed (c ∷ s) f h in
    same_files (grafted (c ∷ s) (grafted q g []) f) (grafted ((c ∷ s) ++ q) g (removed f (c ∷ s)))
    (IsInner-grafted (c ∷ s) (grafted q g []) f first h) (IsInner-grafted ((c ∷ s) ++ q) g (removed f (c ∷ s)) all rest)
    (λ d r.
    let p : Path = d ∷ r in
    file_at-grafted (c ∷ s) p (grafted q g []) f first h.paths
    ∙ ap (λ z. either z (cond (is_beside (c ∷ s) p) (file_at f p) None)) (found_below (c ∷ s) q p g parts.1 into)
    ∙ ap (either (found_in (taken ((c ∷ s) ++ q) p) g)) (kept_beside (c ∷ s) q p (file_at f p) ∙ ap (λ z. cond (is_beside ((c ∷ s) ++ q) p) z None) (sym (file_at-filter (λ x. not (begins (c ∷ s) x)) p f)))
    ∙ sym (file_at-grafted ((c ∷ s) ++ q) p g (removed f (c ∷ s)) all rest.paths))

pub put_further : (s d : Path) (k : Kept) (f : FileMap Bytes) → are_apart s d ≡ false → length s < length d → list_all is_component d ≡ true → IsKept k → IsInner f → grafted s (grafted (drop (length s) d) (kept_map k) []) f ≡ grafted d (kept_map k) (removed f s)
put_further s d k f a l hd hk h =
    let on = goes_on s d a (omega (arith, l)) in
    put_below s (drop (length s) d) k f (subst (λ z. list_all is_component z ≡ true) on hd) hk h (omega (arith, l, length-drop (length s) d))
    ∙ ap (λ z. grafted z (kept_map k) (removed f s)) (sym on)

pub kept_further : (s d : Path) (k : Kept) → are_apart s d ≡ false → length s < length d → list_all is_component d ≡ true → IsKept k → IsKept (folder (grafted (drop (length s) d) (kept_map k) []))
kept_further s d k a l hd hk =
    let q = drop (length s) d in
    let on = goes_on s d a (omega (arith, l)) in
    let hq : list_all is_component q ≡ true = (and_parts _ _ (sym (list_all-append is_component s q) ∙ subst (λ z. list_all is_component z ≡ true) on hd)).1 in
    subst IsKept (sym (kept_grafted_folder q k None (no_root_before d (length s) l))) (IsKept-grafted q k None hq hk tt)
