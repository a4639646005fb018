-- A map of files by its files, put one by one.
use Rattle.std.proofs.Common.{◌≡◌, ◌≢◌, ℕ, ◌+◌, ◌<◌, zero, suc, true, false, not, [], ◌∷◌, length, get_or, take, refl, sym, ap, ◌∙◌, subst, arith}
use Rattle.std.specs.Prelude.{Ok, Err, IfOk, IsErr, IsErrAnd, Result, List, map}
use Rattle.std.proofs.lemmas.List.{get_or-map, length-map}
use Rattle.std.specs.declared.cmp.Ordering.TheVariants.{Less, Greater}
use Rattle.std.specs.Ordering.{is_lt, ordering_reverse}
use Rattle.std.specs.FinMap.Entries.{below_all, is_sorted, put}
use Rattle.std.proofs.lemmas.Bool.{and_parts, false≢true, not-true}
use Rattle.gx_model.specs.Faults.{IsFaultOf}
use Rattle.gx_model.specs.Texts.{Bytes}
use Rattle.gx_model.specs.Texts.Paths.{Path, are_in_line, begins, is_file_path, path_cmp}
use Rattle.gx_model.specs.Histories.Files.{FileMap, Leaf, are_apart, is_file_map}
use Rattle.gx_model.specs.Histories.Edits.{modified, without_line}
use Rattle.gx_model.proofs.Histories.FileMapEdits.{path_order}
use Rattle.gx_model.proofs.Texts.PathTests.{or_comm}
use Rattle.gx_model.specs.declared.objects.Mode.{Mode}
use Rattle.gx_object.specs.declared.name.Name.{Name}
use Rattle.gx_tree.specs.Calls.{GivesFiles}
use Rattle.gx_tree.specs.Faults.{fault_of}
use Rattle.gx_tree.specs.Lists.{shown_listed}
use Rattle.gx_tree.specs.Named.{NamedTree}
use Rattle.gx_tree.specs.declared.fault.TreeFault.{TreeFault}
use Rattle.gx_tree.specs.declared.fault.TreeFault.TheVariants.{OutOfMemory, NoSuchPath, RootNotTree, PathTooLong, NameHeld}
use Rattle.gx_tree.proofs.Homes.{all_at}
use Rattle.gx_tree.proofs.Lookups.{less_is}
use Rattle.gx_tree.proofs.NamedFiles.{all_tests}
use Rattle.gx_model.specs.declared.objects.Mode.TheVariants.{Dir}
use Rattle.gx_model.specs.Objects.NameMaps.{IsNameMap}
use Rattle.gx_model.specs.declared.faults.Fault.{Fault}

-- a path before those of all files is before that of each
before_each : (p : Path) (f : FileMap Bytes) (i : ℕ) (e : Path × Leaf Bytes) → below_all path_cmp p f ≡ true → i < length f → e ≡ get_or f i e → path_cmp p e.0 ≡ Less
before_each p [] i e h l is = absurd (omega arith)
before_each p (x ∷ f) zero e h l is = less_is (path_cmp p e.0) (subst (λ z. is_lt (path_cmp p z.0) ≡ true) (sym is) (and_parts _ _ h).0)
before_each p (x ∷ f) (suc i) e h l is = before_each p f i e (and_parts _ _ h).1 (omega arith) is

-- the next file is put behind those that stand
next_put : (f : FileMap Bytes) (i : ℕ) (e : Path × Leaf Bytes) → are_apart f ≡ true → is_sorted path_cmp f ≡ true → i < length f → e ≡ get_or f i e → put path_cmp e.0 e.1 (without_line e.0 (take i f)) ≡ take (i + 1) f
next_put [] i e a s l is = absurd (omega arith)
next_put (x ∷ f) zero e a s l is = ap (λ z. z ∷ []) is
next_put (x ∷ f) (suc i) e a s l is =
    let after : path_cmp e.0 x.0 ≡ Greater = path_order.antisymm e.0 x.0 ∙ ap ordering_reverse (before_each x.0 f i e (and_parts _ _ s).0 (omega arith) is) in
    let off : are_in_line e.0 x.0 ≡ false = or_comm (begins e.0 x.0) (begins x.0 e.0) ∙ not-true _ (all_at (λ z. not (are_in_line x.0 z.0) ≡ true) f i e (omega arith) is (all_tests (λ z. not (are_in_line x.0 z.0)) f (and_parts _ _ a).0)) in
    let n : suc (i + 1) ≡ suc i + 1 = omega arith in
    rw (off, after) (ap (λ z. x ∷ z) (next_put f i e (and_parts _ _ a).1 (and_parts _ _ s).1 (omega arith) is) ∙ ap (λ z. take z (x ∷ f)) n)

modified_path : (f : FileMap Bytes) (p : Path) (x : Leaf Bytes) → is_file_path p ≡ true → modified f p x ≡ Ok (put path_cmp p x (without_line p f))
modified_path f [] x h = absurd (false≢true h)
modified_path f (c ∷ p) x h = refl

next_modified : (f : FileMap Bytes) (i : ℕ) (e : Path × Leaf Bytes) → is_file_map f ≡ true → i < length f → e ≡ get_or f i e → modified (take i f) e.0 e.1 ≡ Ok (take (i + 1) f)
next_modified f i e h l is =
    let parts = and_parts _ _ h in
    let path = all_at (λ z. is_file_path z.0 ≡ true) f i e l is (all_tests (λ z. is_file_path z.0) f (and_parts _ _ parts.0).0) in
    modified_path (take i f) e.0 e.1 path ∙ ap Ok (next_put f i e (and_parts _ _ parts.0).1 parts.1 l is)

-- the next of a list of files is no directory, and is put behind those that stand
pub next_file : (xs : List (Path × Mode × Name)) (i : ℕ) (r : Path × Mode × Name) → IsNameMap (map shown_listed xs) → i < length xs → r ≡ get_or xs i r
    → (r.1 ≢ Dir) × (modified (take i (map shown_listed xs)) r.0 (r.1, r.2.bytes) ≡ Ok (take (i + 1) (map shown_listed xs)))
next_file xs i r m l is =
    let all = map shown_listed xs in
    let at : i < length all = omega (arith, length-map xs shown_listed, l) in
    let there = ap shown_listed is ∙ sym (get_or-map shown_listed xs i r (shown_listed r) l) in
    (all_at (λ e. e.1.0 ≢ Dir) all i (shown_listed r) at there m.files, next_modified all i (shown_listed r) m.file_map at there)

pub same_ok : {X E : Type 0} (x y : X) → ◌≡◌ {A = Result X E} (Ok x) (Ok y) → x ≡ y
same_ok x y e = subst (λ r. IfOk r (λ z. x ≡ z)) e refl

-- an edit that the definition makes is refused for want of memory alone, and so is what stands on it
pub refused_alone : (f made : FileMap Bytes) (given : Result (FileMap Bytes) Fault) (r : Result NamedTree TreeFault) (x : TreeFault) → IsErr r → IsErrAnd r (λ e. e ≡ x) → given ≡ Ok made → IsFaultOf (fault_of x) given → GivesFiles r (Ok f)
refused_alone f made given (Ok t) x e h is k = absurd (false≢true e)
refused_alone f made given (Err y) x e h is k = subst (λ z. IsFaultOf (fault_of z) (Ok f)) (sym h) (alone x (subst (IsFaultOf (fault_of x)) is k))
  where
    alone : (x : TreeFault) → IsFaultOf (fault_of x) (Ok made) → IsFaultOf (fault_of x) (Ok f)
    alone OutOfMemory h = tt
    alone NoSuchPath h = absurd (cc)
    alone RootNotTree h = absurd (cc)
    alone PathTooLong h = absurd (cc)
    alone NameHeld h = absurd (cc)
