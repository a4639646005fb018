-- What is gone and what differs between two file maps makes the one of the other.
use Rattle.std.proofs.Common.{◌≡◌, Bool, true, false, cond, not, ◌||◌, Option, None, Some, Result, Ok, List, [], ◌∷◌, map, refl, sym, ap, subst, ◌∙◌}
use Rattle.std.specs.Prelude.{T, is_some, IfOk}
use Rattle.std.specs.List.{filter, list_any, AllByRecursion}
use Rattle.std.specs.Bool.{passes}
use Rattle.std.specs.FinMap.Entries.{below_all, is_sorted}
use Rattle.gx_model.specs.declared.faults.Fault.{Fault}
use Rattle.gx_model.specs.Faults.{◌>>=◌}
use Rattle.gx_model.specs.Texts.{Bytes}
use Rattle.gx_model.specs.Texts.Paths.{Path, are_in_line, begins, is_file_path, path_cmp, same_path}
use Rattle.gx_model.specs.Histories.Files.{FileMap, Leaf, are_file_paths, file_at}
use Rattle.gx_model.specs.Histories.Edits.{modified, removed}
use Rattle.gx_model.specs.Histories.Values.{same_mode}
use Rattle.gx_model.specs.Changes.{changed_files, gone_paths, is_this_leaf}
use Rattle.gx_model.specs.Laws.FileMapLaws.{IsModified}
use Rattle.gx_model.proofs.Texts.PathTests.{all_filter, begins_itself, first, is_true, left_or, not_both, one_of, path_is, path_same, right_or, same_is, second}
use Rattle.gx_model.proofs.Histories.PathRuns.{tail_parts}
use Rattle.gx_model.proofs.Histories.FileMapEdits.{Parts, modified_parts, removed_parts}
use Rattle.gx_model.proofs.Histories.FoundFiles.{at_filter}
use Rattle.std.specs.Option.{option_or}
use Rattle.gx_model.proofs.Histories.EditMeanings.{found_first, found_later, modify_means}
use Rattle.gx_model.proofs.Histories.SameFileMaps.{none_below, one_in_line, same_maps}
use Rattle.gx_model.proofs.Histories.SameValues.{mode_is}

-- ---- what is removed

-- without these paths
abbrev pub all_removed : FileMap Bytes → List Path → FileMap Bytes
all_removed f [] = f
all_removed f (p ∷ ps) = all_removed (removed f p) ps

all_removed_parts : (f : FileMap Bytes) (ps : List Path) → Parts f → Parts (all_removed f ps)
all_removed_parts f [] h = h
all_removed_parts f (p ∷ ps) h = all_removed_parts (removed f p) ps (removed_parts f p h)

either_cut : (a b : Bool) (o : Option (Leaf Bytes)) → cond b None (cond (not a) o None) ≡ cond (a || b) None o
either_cut true true o = refl
either_cut true false o = refl
either_cut false b o = refl

at_all_removed : (f : FileMap Bytes) (ps : List Path) (q : Path) → file_at (all_removed f ps) q ≡ cond (list_any (λ p. begins p q) ps) None (file_at f q)
at_all_removed f [] q = refl
at_all_removed f (p ∷ ps) q =
    at_all_removed (removed f p) ps q ∙ ap (cond (list_any (λ r. begins r q) ps) None) (at_filter (λ r. not (begins p r)) f q)
    ∙ either_cut (begins p q) (list_any (λ r. begins r q) ps) (file_at f q)

module _ (new : FileMap Bytes) where
  abbrev left : FileMap Bytes → FileMap Bytes
  left es = filter (λ f. not (is_some (file_at new f.0))) es

  -- a path that is gone stood there, and is none of the new ones
  record IsGone (old : FileMap Bytes) (p q : Path) : Type 0 where
    pub before : T (begins p q)
    pub there : is_some (file_at old p) ≡ true
    pub gone : T (not (is_some (file_at new p)))

  gone_later : (e : Path × Leaf Bytes) (es : FileMap Bytes) (q : Path) → (p : Path) × IsGone es p q → (p : Path) × IsGone (e ∷ es) p q
  gone_later e es q g = (g.0, record { before = g.1.before; there = found_later e es g.0 g.1.there; gone = g.1.gone })

  any_gone : (es : FileMap Bytes) (q : Path) → T (list_any (λ p. begins p q) (gone_paths es new)) → (p : Path) × IsGone es p q
  any_gone [] q h = absurd h
  any_gone (e ∷ es) q h = by (is_some (file_at new e.0)) refl h (λ k. gone_later e es q (any_gone es q k)) where
    by : (t : Bool) → is_some (file_at new e.0) ≡ t → T (list_any (λ p. begins p q) (map (λ f. f.0) (cond (not t) (e ∷ filter (λ f. not (is_some (file_at new f.0))) es) (filter (λ f. not (is_some (file_at new f.0))) es))))
        → (T (list_any (λ p. begins p q) (gone_paths es new)) → (p : Path) × IsGone (e ∷ es) p q) → (p : Path) × IsGone (e ∷ es) p q
    by true k g again = again g
    by false k g again = one_of (begins e.0 q) (list_any (λ p. begins p q) (gone_paths es new)) g (λ b. (e.0, record { before = b; there = found_first e es e.0 refl; gone = subst (λ t. T (not t)) (sym k) tt })) again

  is_gone : (es : FileMap Bytes) (q : Path) → T (is_some (file_at es q)) → is_some (file_at new q) ≡ false → T (list_any (λ p. begins p q) (gone_paths es new))
  is_gone [] q h n = absurd h
  is_gone (e ∷ es) q h n =
      elim (same_path q e.0) as (λ b. same_path q e.0 ≡ b → T (is_some (cond b (Some e.1) (file_at es q))) → T (list_any (λ p. begins p q) (gone_paths (e ∷ es) new))) [
        | true ↦ λ k _.
            let same = path_is q e.0 (passes _ k) in
            taken (is_some (file_at new e.0)) (ap (λ (p : Path). is_some (file_at new p)) (sym same) ∙ n) (subst (λ (p : Path). T (begins p q)) same (begins_itself q))
        | false ↦ λ k i. later (is_some (file_at new e.0)) (is_gone es q i n)
      ] refl h
    where
      taken : (t : Bool) → t ≡ false → T (begins e.0 q) → T (list_any (λ p. begins p q) (map (λ f. f.0) (cond (not t) (e ∷ left es) (left es))))
      taken true k b = absurd cc
      taken false k b = left_or (begins e.0 q) _ b

      later : (t : Bool) → T (list_any (λ p. begins p q) (map (λ f. f.0) (left es))) → T (list_any (λ p. begins p q) (map (λ f. f.0) (cond (not t) (e ∷ left es) (left es))))
      later true i = i
      later false i = right_or (begins e.0 q) _ i

  -- without what is gone stands what both have a path of
  kept_at : (old : FileMap Bytes) → Parts old → (q : Path) → file_at (all_removed old (gone_paths old new)) q ≡ cond (is_some (file_at new q)) (file_at old q) None
  kept_at old h q =
      at_all_removed old (gone_paths old new) q
      ∙ by (file_at old q) refl (list_any (λ p. begins p q) (gone_paths old new)) refl (is_some (file_at new q)) refl
    where
      by : (o : Option (Leaf Bytes)) → file_at old q ≡ o → (a : Bool) → list_any (λ p. begins p q) (gone_paths old new) ≡ a → (b : Bool) → is_some (file_at new q) ≡ b → cond a None o ≡ cond b o None
      by None i true j true k = refl
      by None i true j false k = refl
      by None i false j true k = refl
      by None i false j false k = refl
      by (Some x) i true j false k = refl
      by (Some x) i false j true k = refl
      by (Some x) i true j true k =
          let g = any_gone old q (passes _ j) in
          let same = one_in_line old g.0 q h.apart (passes _ g.1.there) (subst (λ (o : Option (Leaf Bytes)). T (is_some o)) (sym i) tt) (left_or (begins g.0 q) (begins q g.0) g.1.before) in
          absurd (not_both (is_some (file_at new q)) (subst (λ (p : Path). T (not (is_some (file_at new p)))) same g.1.gone) (passes _ k))
      by (Some x) i false j false k =
          let g = is_true _ (is_gone old q (subst (λ (o : Option (Leaf Bytes)). T (is_some o)) (sym i) tt) k) in
          let never = sym g ∙ j in absurd cc

-- ---- what is put

-- these files put one after the other
abbrev pub all_put : FileMap Bytes → FileMap Bytes → Result (FileMap Bytes) Fault
all_put f [] = Ok f
all_put f (e ∷ es) = modified f e.0 e.1 >>= λ g. all_put g es

-- what is found at a path, as a file map or none
abbrev AreOf : FileMap Bytes → FileMap Bytes → Type 0
AreOf new es = AllByRecursion (λ e. file_at new e.0 ≡ Some e.1) es

-- a file map with these files, too
record IsPut (f es g : FileMap Bytes) : Type 0 where
  pub put : all_put f es ≡ Ok g
  pub parts : Parts g
  pub at : (q : Path) → file_at g q ≡ option_or (file_at es q) (file_at f q)

module _ (new : FileMap Bytes) (h : Parts new) where
  of_new : (es : FileMap Bytes) → AreOf new es → (q : Path) (x : Leaf Bytes) → file_at es q ≡ Some x → file_at new q ≡ Some x
  of_new [] k q x i = absurd cc
  of_new (e ∷ es) k q x i =
      elim (same_path q e.0) as (λ b. same_path q e.0 ≡ b → cond b (Some e.1) (file_at es q) ≡ Some x → file_at new q ≡ Some x) [
        | true ↦ λ j m. ap (file_at new) (path_is q e.0 (passes _ j)) ∙ k.0 ∙ m
        | false ↦ λ j m. of_new es k.1 q x m
      ] refl i

  -- each path is one of the new map's
  abbrev IsBelow : FileMap Bytes → Type 0
  IsBelow f = (q : Path) → T (is_some (file_at f q)) → T (is_some (file_at new q))

  absent : (f : FileMap Bytes) → IsBelow f → (p q : Path) → T (is_some (file_at new p)) → T (are_in_line p q) → same_path q p ≡ false → file_at f q ≡ None
  absent f s p q there l n = by (file_at f q) refl where
    by : (o : Option (Leaf Bytes)) → file_at f q ≡ o → o ≡ None
    by None i = refl
    by (Some x) i =
        let found = s q (subst (λ (o : Option (Leaf Bytes)). T (is_some o)) (sym i) tt) in
        let same = one_in_line new p q h.apart there found l in
        let never = sym (is_true _ (subst (λ (r : Path). T (same_path q r)) (sym same) (path_same q))) ∙ n in absurd cc

  one_put : (f : FileMap Bytes) → IsBelow f → (p : Path) (x : Leaf Bytes) (g : FileMap Bytes) → T (is_some (file_at new p)) → IsModified f p x g → (q : Path) → file_at g q ≡ cond (same_path q p) (Some x) (file_at f q)
  one_put f s p x g there m q =
      elim (same_path q p) as (λ b. same_path q p ≡ b → file_at g q ≡ cond b (Some x) (file_at f q)) [
        | true ↦ λ k. ap (file_at g) (path_is q p (passes _ k)) ∙ m.there
        | false ↦ λ k. elim (are_in_line p q) as (λ b. are_in_line p q ≡ b → file_at g q ≡ file_at f q) [
          | true ↦ λ l.
              m.in_line q l (λ same. let never = sym (is_true _ (subst (λ (r : Path). T (same_path q r)) (sym same) (path_same q))) ∙ k in absurd cc)
              ∙ sym (absent f s p q there (passes _ l) k)
          | false ↦ λ l. m.elsewhere q l
        ] refl
      ] refl

  all_are_put : (es : FileMap Bytes) → AreOf new es → T (are_file_paths es) → (f : FileMap Bytes) → Parts f → IsBelow f → (g : FileMap Bytes) × IsPut f es g
  all_are_put [] k p f hf s = (f, record { put = refl; parts = hf; at = λ q. refl })
  all_are_put (e ∷ es) k p f hf s =
      let there : T (is_some (file_at new e.0)) = subst (λ (o : Option (Leaf Bytes)). T (is_some o)) (sym k.0) tt in
      let path = first (is_file_path e.0) _ p in
      let m = modify_means f e.0 e.1 hf path in
      let now = m.0 in
      let parts = subst (λ r. IfOk r Parts) m.1 (modified_parts f e.0 e.1 path hf) in
      let at = one_put f s e.0 e.1 now there m.2 in
      let below : IsBelow now = λ q i.
      elim (same_path q e.0) as (λ b. same_path q e.0 ≡ b → T (is_some (cond b (Some e.1) (file_at f q))) → T (is_some (file_at new q))) [
        | true ↦ λ j _. subst (λ (r : Path). T (is_some (file_at new r))) (sym (path_is q e.0 (passes _ j))) there
        | false ↦ λ j n. s q n
      ] refl (subst (λ (o : Option (Leaf Bytes)). T (is_some o)) (at q) i) in
      let rest = all_are_put es k.1 (second (is_file_path e.0) _ p) now parts below in (
        rest.0,
        record {
          put = ap (λ r. r >>= λ g. all_put g es) m.1 ∙ rest.1.put;
          parts = rest.1.parts;
          at = λ q. rest.1.at q ∙ ap (option_or (file_at es q)) (at q) ∙ joined q;
        },
      )
    where
      joined : (q : Path) → option_or (file_at es q) (cond (same_path q e.0) (Some e.1) (file_at f q)) ≡ option_or (cond (same_path q e.0) (Some e.1) (file_at es q)) (file_at f q)
      joined q = by (same_path q e.0) refl (file_at es q) refl where
        by : (b : Bool) → same_path q e.0 ≡ b → (o : Option (Leaf Bytes)) → file_at es q ≡ o → option_or o (cond b (Some e.1) (file_at f q)) ≡ option_or (cond b (Some e.1) o) (file_at f q)
        by false i o j = refl
        by true i None j = refl
        by true i (Some x) j = sym (of_new es k.1 q x j) ∙ ap (file_at new) (path_is q e.0 (passes _ i)) ∙ k.0

-- ---- what differs

of_more : (e : Path × Leaf Bytes) (all es : FileMap Bytes) → file_at all e.0 ≡ None → AreOf all es → AreOf (e ∷ all) es
of_more e all [] n k = tt
of_more e all (f ∷ es) n k = (
  elim (same_path f.0 e.0) as (λ b. same_path f.0 e.0 ≡ b → cond b (Some e.1) (file_at all f.0) ≡ Some f.1) [
    | true ↦ λ i. let never = sym n ∙ ap (file_at all) (sym (path_is f.0 e.0 (passes _ i))) ∙ k.0 in absurd cc
    | false ↦ λ i. k.0
  ] refl,
  of_more e all es n k.1,
)

missing : (e : Path × Leaf Bytes) (es : FileMap Bytes) → Parts (e ∷ es) → file_at es e.0 ≡ None
missing e es h = none_below e.0 es (first (below_all path_cmp e.0 es) (is_sorted path_cmp es) h.sorted)

of_itself : (es : FileMap Bytes) → Parts es → AreOf es es
of_itself [] h = tt
of_itself (e ∷ es) h = (found, of_more e es es (missing e es h) (of_itself es (tail_parts e es h))) where
  found : file_at (e ∷ es) e.0 ≡ Some e.1
  found = ap (λ b. cond b (Some e.1) (file_at es e.0)) (is_true _ (path_same e.0))

of_filter : (new : FileMap Bytes) (t : Path × Leaf Bytes → Bool) (es : FileMap Bytes) → AreOf new es → AreOf new (filter t es)
of_filter new t [] k = tt
of_filter new t (e ∷ es) k =
    let rest = of_filter new t es k.1 in
    elim (t e) as (λ b. AreOf new (cond b (e ∷ filter t es) (filter t es))) [ true ↦ (k.0, rest) | false ↦ rest ]

pub same_leaf : (o : Option (Leaf Bytes)) (x : Leaf Bytes) → is_this_leaf o x ≡ true → o ≡ Some x
same_leaf None x h = absurd cc
same_leaf (Some y) x h =
    let t = passes _ h in
    let mode = mode_is y.0 x.0 (first _ _ t) in
    let bytes = same_is y.1 x.1 (second (same_mode y.0 x.0) _ t) in
    λ i. Some (mode i, bytes i)

-- a leaf, unless it was this one before
abbrev unless_same : Option (Leaf Bytes) → Option (Leaf Bytes) → Option (Leaf Bytes)
unless_same old None = None
unless_same old (Some x) = cond (is_this_leaf old x) None (Some x)

-- what differs at a path
at_changed : (old es : FileMap Bytes) → Parts es → (q : Path) → file_at (changed_files old es) q ≡ unless_same (file_at old q) (file_at es q)
at_changed old [] h q = refl
at_changed old (e ∷ es) h q =
    let again = at_changed old es (tail_parts e es h) q in
    let rest = changed_files old es in
    elim (same_path q e.0) as (λ b. same_path q e.0 ≡ b → file_at (cond (not (is_this_leaf (file_at old e.0) e.1)) (e ∷ rest) rest) q ≡ unless_same (file_at old q) (cond b (Some e.1) (file_at es q))) [
      | true ↦ λ k.
          let same = path_is q e.0 (passes _ k) in
          let none : file_at rest q ≡ None = again ∙ ap (unless_same (file_at old q)) (ap (file_at es) same ∙ missing e es h) in
          elim (is_this_leaf (file_at old e.0) e.1) as (λ t. file_at (cond (not t) (e ∷ rest) rest) q ≡ cond t None (Some e.1)) [ true ↦ none | false ↦ ap (λ b. cond b (Some e.1) (file_at rest q)) k ]
          ∙ ap (λ (p : Path). cond (is_this_leaf (file_at old p) e.1) None (Some e.1)) (sym same)
      | false ↦ λ k.
          elim (is_this_leaf (file_at old e.0) e.1) as (λ t. file_at (cond (not t) (e ∷ rest) rest) q ≡ file_at rest q) [ true ↦ refl | false ↦ ap (λ b. cond b (Some e.1) (file_at rest q)) k ]
          ∙ again
    ] refl

both_together : (old new : Option (Leaf Bytes)) → option_or (unless_same old new) (cond (is_some new) old None) ≡ new
both_together old None = refl
both_together old (Some x) = by (is_this_leaf old x) refl where
  by : (t : Bool) → is_this_leaf old x ≡ t → option_or (cond t None (Some x)) old ≡ Some x
  by true k = same_leaf old x k
  by false k = refl

some_or_none : (b : Bool) (o : Option (Leaf Bytes)) → T (is_some (cond b o None)) → T b
some_or_none true o h = tt
some_or_none false o h = absurd h

-- what is gone is removed, and what differs is put: that makes the new map of the old one
pub changes_make : (old new : FileMap Bytes) → Parts old → Parts new → all_put (all_removed old (gone_paths old new)) (changed_files old new) ≡ Ok new
changes_make old new h k =
    let kept = all_removed old (gone_paths old new) in
    let es = changed_files old new in
    let made = all_are_put new k es (of_filter new (λ e. not (is_this_leaf (file_at old e.0) e.1)) new (of_itself new k)) (all_filter (λ e. is_file_path e.0) (λ e. not (is_this_leaf (file_at old e.0) e.1)) new k.paths)
    kept (all_removed_parts old (gone_paths old new) h) (λ q i. some_or_none (is_some (file_at new q)) (file_at old q) (subst (λ (o : Option (Leaf Bytes)). T (is_some o)) (kept_at new old h q) i)) in
    let same = same_maps made.0 new made.1.parts k (λ q. made.1.at q ∙ (λ i. option_or (at_changed old new k q i) (kept_at new old h q i)) ∙ both_together (file_at old q) (file_at new q)) in
    made.1.put ∙ ap (λ g. Ok g) same
