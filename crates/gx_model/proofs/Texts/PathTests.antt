-- Tests that hold, and paths that begin one another.
use Rattle.std.proofs.Common.{◌≡◌, ℕ, zero, suc, Bool, true, false, cond, refl, sym, ◌∙◌, List, [], ◌∷◌, ◌++◌, length, drop, map}
use Rattle.std.specs.Prelude.{nat_lt, T, not, ◌&&◌, ◌||◌, ◌==◌, nat_eq, codes}
use Rattle.std.specs.List.{list_all, list_any, filter}
use Rattle.std.specs.Str.{bytes_eq}
use Rattle.std.specs.Cmp.Lexicographic.{bytes_decides}
use Rattle.std.specs.Bool.{passes}
use Rattle.gx_model.specs.Texts.{Bytes, same_bytes}
use Rattle.gx_model.specs.Texts.Paths.{Path, same_path, begins, are_in_line, is_component}

-- both tests pass
pub both : (a b : Bool) → T a → T b → T (a && b)
both true b p q = q
both false b p q = p

-- where both tests pass, the first does
pub first : (a b : Bool) → T (a && b) → T a
first true b p = tt
first false b p = p

-- where both tests pass, the second does
pub second : (a b : Bool) → T (a && b) → T b
second true b p = p
second false b p = absurd p

-- a test that passes is true
pub is_true : (b : Bool) → T b → b ≡ true
is_true true p = refl
is_true false p = absurd p

-- one of two tests passes where the first does
pub left_or : (a b : Bool) → T a → T (a || b)
left_or true b p = tt
left_or false b p = absurd p

-- one of two tests passes where the second does
pub right_or : (a b : Bool) → T b → T (a || b)
right_or true b p = tt
right_or false b p = p

-- where one of two tests passes, one of two follows
pub one_of : {A : Type 0} (a b : Bool) → T (a || b) → (T a → A) → (T b → A) → A
one_of true b p f g = f p
one_of false b p f g = g p

-- two tests can be turned
pub or_comm : (a b : Bool) → (a || b) ≡ (b || a)
or_comm true true = refl
or_comm true false = refl
or_comm false true = refl
or_comm false false = refl

-- a test that fails doesn't pass
pub not_both : (a : Bool) → T (not a) → T a → ⊥
not_both true p q = p
not_both false p q = q

-- a test that can't pass fails
pub not_by : (a : Bool) → (T a → ⊥) → T (not a)
not_by true f = f tt
not_by false f = tt

-- ---- tests of lists

-- what all elements pass is passed by those that a filter leaves
pub all_filter : {X : Type 0} (t p : X → Bool) (xs : List X) → T (list_all t xs) → T (list_all t (filter p xs))
all_filter t p [] h = tt
all_filter t p (x ∷ xs) h =
    let rest = all_filter t p xs (second _ _ h) in
    elim (p x) as (λ b. T (list_all t (cond b (x ∷ filter p xs) (filter p xs)))) [ true ↦ both _ _ (first _ _ h) rest | false ↦ rest ]

-- what passes the filter's test passes what follows from it
pub all_passing : {X : Type 0} (t p : X → Bool) → ((x : X) → T (p x) → T (t x)) → (xs : List X) → T (list_all t (filter p xs))
all_passing t p f [] = tt
all_passing t p f (x ∷ xs) =
    let rest = all_passing t p f xs in
    elim (p x) as (λ b. p x ≡ b → T (list_all t (cond b (x ∷ filter p xs) (filter p xs)))) [ true ↦ λ e. both _ _ (f x (passes _ e)) rest | false ↦ λ e. rest ] refl

-- what all elements pass is passed where it follows
pub all_each : {X : Type 0} (t u : X → Bool) → ((x : X) → T (t x) → T (u x)) → (xs : List X) → T (list_all t xs) → T (list_all u xs)
all_each t u f [] h = tt
all_each t u f (x ∷ xs) h = both _ _ (f x (first _ _ h)) (all_each t u f xs (second _ _ h))

-- what the images pass is passed by the list of images
pub all_map : {X Y : Type 0} (t : Y → Bool) (f : X → Y) (xs : List X) → T (list_all (λ x. t (f x)) xs) → T (list_all t (map f xs))
all_map t f [] h = tt
all_map t f (x ∷ xs) h = both _ _ (first _ _ h) (all_map t f xs (second _ _ h))

-- what the elements of two lists pass is passed by both in a row
pub all_append : {X : Type 0} (t : X → Bool) (xs ys : List X) → T (list_all t xs) → T (list_all t ys) → T (list_all t (xs ++ ys))
all_append t [] ys h g = g
all_append t (x ∷ xs) ys h g = both _ _ (first _ _ h) (all_append t xs ys (second _ _ h) g)

-- what all elements pass is passed by the last ones
pub all_drop : {X : Type 0} (t : X → Bool) (n : ℕ) (xs : List X) → T (list_all t xs) → T (list_all t (drop n xs))
all_drop t zero xs h = h
all_drop t (suc n) [] h = tt
all_drop t (suc n) (x ∷ xs) h = all_drop t n xs (second _ _ h)

-- where no element passes a test, each fails it
pub none_passes : {X : Type 0} (t : X → Bool) (xs : List X) → T (not (list_any t xs)) → T (list_all (λ x. not (t x)) xs)
none_passes t [] h = tt
none_passes t (x ∷ xs) h = elim (t x) as (λ b. T (not (b || list_any t xs)) → T (not b && list_all (λ x. not (t x)) xs)) [ true ↦ λ k. absurd k | false ↦ none_passes t xs ] h

-- ---- paths

-- a component holds no slash and no NUL
pub component_free : (c : Bytes) → T (is_component c) → T (list_all (λ b. not (nat_eq b 47)) c) × T (list_all (λ b. not (nat_eq b 0)) c)
component_free c h =
    let slash = second (list_all (λ b. nat_lt b 256) c && not (length c == 0) && not (bytes_eq c (codes ".")) && not (bytes_eq c (codes ".."))) (not (list_any (λ b. b == 47) c)) (first _ (not (list_any (λ b. b == 0) c)) h) in
    (none_passes (λ b. nat_eq b 47) c slash, none_passes (λ b. nat_eq b 0) c (second _ (not (list_any (λ b. b == 0) c)) h))

-- texts that the test finds equal are one
pub same_is : (c d : Bytes) → T (same_bytes c d) → c ≡ d
same_is c d h = (bytes_decides c d).0 (is_true _ h)

-- a text passes the test with itself
pub is_same : (c d : Bytes) → c ≡ d → T (same_bytes c d)
is_same c d e = passes _ ((bytes_decides c d).1 e)

-- paths that the test finds equal are one
pub path_is : (p q : Path) → T (same_path p q) → p ≡ q
path_is [] [] h = refl
path_is [] (d ∷ q) h = absurd h
path_is (c ∷ p) [] h = absurd h
path_is (c ∷ p) (d ∷ q) h = λ i. same_is c d (first _ _ h) i ∷ path_is p q (second _ _ h) i

-- a path passes the test with itself
pub path_same : (p : Path) → T (same_path p p)
path_same [] = tt
path_same (c ∷ p) = both _ _ (is_same c c refl) (path_same p)

-- a path begins itself
pub begins_itself : (p : Path) → T (begins p p)
begins_itself [] = tt
begins_itself (c ∷ p) = both _ _ (is_same c c refl) (begins_itself p)

-- what begins a path begins what that begins
pub begins_trans : (p q r : Path) → T (begins p q) → T (begins q r) → T (begins p r)
begins_trans [] q r h g = tt
begins_trans (c ∷ p) [] r h g = absurd h
begins_trans (c ∷ p) (d ∷ q) [] h g = absurd g
begins_trans (c ∷ p) (d ∷ q) (e ∷ r) h g =
    both _ _ (is_same c e (same_is c d (first _ _ h) ∙ same_is d e (first _ _ g))) (begins_trans p q r (second _ _ h) (second _ _ g))

-- two paths that begin a third are in line
pub in_line_below : (p q r : Path) → T (begins p r) → T (begins q r) → T (are_in_line p q)
in_line_below [] q r h g = tt
in_line_below (c ∷ p) [] r h g = tt
in_line_below (c ∷ p) (d ∷ q) [] h g = absurd h
in_line_below (c ∷ p) (d ∷ q) (e ∷ r) h g =
    let cd : c ≡ d = same_is c e (first _ _ h) ∙ sym (same_is d e (first _ _ g)) in
    one_of _ _ (in_line_below p q r (second _ _ h) (second _ _ g))
    (λ k. left_or _ _ (both _ _ (is_same c d cd) k))
    (λ k. right_or _ _ (both _ _ (is_same d c (sym cd)) k))

-- a path begins what is below it
pub begins_append : (d x : Path) → T (begins d (d ++ x))
begins_append [] x = tt
begins_append (c ∷ d) x = both _ _ (is_same c c refl) (begins_append d x)

-- paths below one path begin one another as they do without it
pub begins_after : (d x y : Path) → T (begins (d ++ x) (d ++ y)) → T (begins x y)
begins_after [] x y h = h
begins_after (c ∷ d) x y h = begins_after d x y (second _ _ h)

-- what is in line with a path below d is in line with d
pub in_line_above : (d x q : Path) → T (are_in_line (d ++ x) q) → T (are_in_line d q)
in_line_above d x q h =
    one_of _ _ h
    (λ k. left_or _ _ (begins_trans d (d ++ x) q (begins_append d x) k))
    (λ k. in_line_below d q (d ++ x) (begins_append d x) k)

-- paths at or below s begin one another as they do with s taken off
pub begins_drop : (s p q : Path) → T (begins s p) → T (begins s q) → T (begins (drop (length s) p) (drop (length s) q)) → T (begins p q)
begins_drop [] p q h g k = k
begins_drop (c ∷ s) [] q h g k = absurd h
begins_drop (c ∷ s) (d ∷ p) [] h g k = absurd g
begins_drop (c ∷ s) (d ∷ p) (e ∷ q) h g k =
    both _ _ (is_same d e (sym (same_is c d (first _ _ h)) ∙ same_is c e (first _ _ g))) (begins_drop s p q (second _ _ h) (second _ _ g) k)

-- a move keeps apart
pub in_line_moved : (s d p q : Path) → T (begins s p) → T (begins s q) → T (are_in_line (d ++ drop (length s) p) (d ++ drop (length s) q)) → T (are_in_line p q)
in_line_moved s d p q h g k =
    let x = drop (length s) p in
    let y = drop (length s) q in
    one_of (begins (d ++ x) (d ++ y)) (begins (d ++ y) (d ++ x)) k
    (λ a. left_or _ _ (begins_drop s p q h g (begins_after d x y a)))
    (λ a. right_or _ _ (begins_drop s q p g h (begins_after d y x a)))
