-- What a body tells of its parts.
use Rattle.std.proofs.Common.{◌≡◌, ℕ, Bool, refl, sym, ap, subst, ◌∙◌, arith, List, [], ◌∷◌, ◌++◌, length, append_assoc, eq-eqb}
use Rattle.std.specs.Prelude.{T, not, nat_eq}
use Rattle.std.specs.List.{list_all, AllByRecursion}
use Rattle.gx_model.specs.declared.objects.Mode.{Mode}
use Rattle.gx_model.specs.declared.objects.Mode.TheVariants.{File, Exec, Link, Gitlink, Dir}
use Rattle.std.specs.Bool.{passes}
use Rattle.gx_model.specs.Texts.{Bytes, same_bytes}
use Rattle.gx_model.specs.Texts.Paths.{is_component}
use Rattle.gx_model.specs.Histories.Values.{same_mode}
use Rattle.gx_model.specs.Objects.{Entry, tree_text, entry_text, mode_text}
use Rattle.gx_model.proofs.Texts.PathTests.{component_free, first, second, not_both, is_same}
use Rattle.gx_model.proofs.Histories.SameValues.{mode_is}

-- the byte stands nowhere in the text
abbrev pub is_free : ℕ → Bytes → Bool
is_free b = list_all (λ a. not (nat_eq a b))

-- a byte that the test tells from another isn't that one
pub is_not : (a b : ℕ) → T (not (nat_eq a b)) → a ≡ b → ⊥
is_not a b h e = not_both (nat_eq a b) h (passes _ (eq-eqb a b e))

-- two texts up to a mark that neither holds are told by what they begin
pub split_at : (b : ℕ) (x y r s : Bytes) → T (is_free b x) → T (is_free b y) → x ++ (b ∷ r) ≡ y ++ (b ∷ s) → (x ≡ y) × (r ≡ s)
split_at b [] [] r s f g e = (refl, cc)
split_at b [] (a ∷ y) r s f g e = let k : a ≡ b = cc in absurd (is_not a b (first _ _ g) k)
split_at b (a ∷ x) [] r s f g e = let k : a ≡ b = cc in absurd (is_not a b (first _ _ f) k)
split_at b (a ∷ x) (a' ∷ y) r s f g e =
    let k : a ≡ a' = cc in
    let t : x ++ (b ∷ r) ≡ y ++ (b ∷ s) = cc in
    let rest = split_at b x y r s (second _ _ f) (second _ _ g) t in
    (λ i. k i ∷ rest.0 i, rest.1)

-- two texts of one length are told by what they begin
pub split_long : (x y r s : Bytes) → length x ≡ length y → x ++ r ≡ y ++ s → (x ≡ y) × (r ≡ s)
split_long [] [] r s l e = (refl, e)
split_long [] (a ∷ y) r s l e = absurd (omega arith)
split_long (a ∷ x) [] r s l e = absurd (omega arith)
split_long (a ∷ x) (a' ∷ y) r s l e =
    let k : a ≡ a' = cc in
    let t : x ++ r ≡ y ++ s = cc in
    let rest = split_long x y r s (omega arith) t in
    (λ i. k i ∷ rest.0 i, rest.1)

modes_told : (m n : Mode) → same_bytes (mode_text m) (mode_text n) ≡ same_mode m n
modes_told File File = refl
modes_told Exec Exec = refl
modes_told Link Link = refl
modes_told Gitlink Gitlink = refl
modes_told Dir Dir = refl
modes_told _ _ = refl

one_mode : (m n : Mode) → mode_text m ≡ mode_text n → m ≡ n
one_mode m n e = mode_is m n (subst T (modes_told m n) (is_same _ _ e))

-- a mode's digits hold no space
pub mode_free : (m : Mode) → T (is_free 32 (mode_text m))
mode_free File = tt
mode_free Exec = tt
mode_free Link = tt
mode_free Gitlink = tt
mode_free Dir = tt

-- an entry's text, grouped to the right
pub entry_flat : (e : Entry) (r : Bytes) → entry_text e ++ r ≡ mode_text e.mode ++ (32 ∷ (e.component ++ (0 ∷ (e.name ++ r))))
entry_flat e r = append_assoc (mode_text e.mode) (32 ∷ (e.component ++ 0 ∷ e.name)) r ∙ ap (λ z. mode_text e.mode ++ (32 ∷ z)) (append_assoc e.component (0 ∷ e.name) r)

one_entry : (e f : Entry) (r s : Bytes) → T (is_component e.component) → T (is_component f.component) → length e.name ≡ length f.name → entry_text e ++ r ≡ entry_text f ++ s → (e ≡ f) × (r ≡ s)
one_entry e f r s h g l k =
    let a = split_at 32 (mode_text e.mode) (mode_text f.mode) _ _ (mode_free e.mode) (mode_free f.mode) (sym (entry_flat e r) ∙ k ∙ entry_flat f s) in
    let b = split_at 0 e.component f.component _ _ (component_free e.component h).1 (component_free f.component g).1 a.1 in
    let d = split_long e.name f.name r s l b.1 in
    let m = one_mode e.mode f.mode a.0 in
    (λ i. record { mode = m i; component = b.0 i; name = d.0 i }, d.1)

-- an entry's text isn't empty
pub starts_some : (m : Mode) (x r : Bytes) → (mode_text m ++ x) ++ r ≡ [] → ⊥
starts_some File x r e = cc
starts_some Exec x r e = cc
starts_some Link x r e = cc
starts_some Gitlink x r e = cc
starts_some Dir x r e = cc

-- entries with names of one length
abbrev pub AreNamed : ℕ → List Entry → Type 0
AreNamed n es = AllByRecursion (λ e. T (is_component e.component) × (length e.name ≡ n)) es

-- the body of a tree tells its entries
pub one_tree_text : (n : ℕ) (es fs : List Entry) → AreNamed n es → AreNamed n fs → tree_text es ≡ tree_text fs → es ≡ fs
one_tree_text n [] [] h k e = refl
one_tree_text n [] (f ∷ fs) h k e = absurd (starts_some f.mode _ _ (sym e))
one_tree_text n (e ∷ es) [] h k q = absurd (starts_some e.mode _ _ q)
one_tree_text n (e ∷ es) (f ∷ fs) h k q =
    let one = one_entry e f (tree_text es) (tree_text fs) h.0.0 k.0.0 (h.0.1 ∙ sym k.0.1) q in
    let rest = one_tree_text n es fs h.1 k.1 one.1 in
    λ i. one.0 i ∷ rest i
