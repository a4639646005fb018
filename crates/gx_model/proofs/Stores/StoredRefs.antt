-- The refs of a store text: those of a sound repository are read again, and whatever is read is sound and spelled so.
use Rattle.std.proofs.Common.{◌≡◌, ℕ, zero, suc, Bool, true, false, cond, refl, sym, ap, subst, ◌∙◌, List, [], ◌∷◌, ◌++◌, length, map, Option, None, Some, Ok, inl, inr, append_assoc}
use Rattle.std.specs.Prelude.{T, ◌&&◌, ⊤}
use Rattle.std.specs.Bool.{passes}
use Rattle.std.specs.List.{AllByRecursion, flat_map, list_all}
use Rattle.std.specs.Option.{ok_or, option_and_then}
use Rattle.std.specs.Ordering.{is_lt, nat_cmp}
use Rattle.std.specs.declared.cmp.Ordering.{Ordering}
use Rattle.std.specs.declared.cmp.Ordering.TheVariants.{Less, Equal, Greater}
use Rattle.std.specs.Cmp.Lexicographic.{nat_list_cmp_total, slice_cmp}
use Rattle.std.specs.FinMap.Entries.{below_all, is_sorted}
use Rattle.gx_model.specs.declared.objects.Kind.{Kind}
use Rattle.gx_model.specs.declared.objects.Kind.TheVariants as kind
use Rattle.gx_model.specs.declared.store_faults.FileFault.TheVariants as fault
use Rattle.gx_model.specs.Texts.{Bytes, cut_at}
use Rattle.gx_model.specs.Texts.RefNames.{is_ref_name, tag_ref}
use Rattle.gx_model.specs.Faults.{◌>>=◌}
use Rattle.gx_model.specs.Texts.Digits.{is_name_text}
use Rattle.gx_model.specs.Objects.{IsNamer, IsTagText, TagParts, hex, is_name, unhex}
use Rattle.gx_model.specs.Histories.{AreDistinct, Record}
use Rattle.gx_model.specs.Records.HistoryOf.{tag_parts_in}
use Rattle.gx_model.specs.Records.Growth.{record_named}
use Rattle.gx_model.specs.Records.Sound.{IsLinked, IsLinkedAfter, IsTarget}
use Rattle.gx_model.specs.Records.RecordFaults.{is_body}
use Rattle.gx_model.specs.Stores.StoreText.{stored_ref}
use Rattle.gx_model.specs.Stores.StoreReading.{Stored, if_ref, is_after, is_less, is_target, is_target_of_kind, next_ref, next_refs, only_if, ref_line, stored_line}
use Rattle.gx_model.proofs.Texts.PathTests.{both, first, is_same, is_true, same_is, second}
use Rattle.gx_model.proofs.Histories.PathRuns.{less_is}
use Rattle.gx_model.proofs.Texts.Cuts.{cut_after, cut_spelled}
use Rattle.gx_model.proofs.Texts.LineTexts.{ref_is_line}
use Rattle.gx_model.proofs.Streams.CommandFields.{link_no_space}
use Rattle.gx_model.proofs.Records.OneHistory.{hex_line}
use Rattle.gx_model.proofs.ObjectTexts.BodiesReadBack.{bytes_name, tag_read, unhex_hex}
use Rattle.gx_model.proofs.ObjectTexts.TreePaths.{name_is_name}
use Rattle.gx_model.proofs.Records.ReadRecords.{hex_text}
use Rattle.gx_model.proofs.ObjectTexts.BodyTests.{commit_test, tag_test, tag_text_in, tree_test}
use Rattle.gx_model.proofs.Records.TakenRecords.{all_named, named_some, some_named}
use Rattle.gx_model.proofs.Stores.RecordLines.{hex_unhex}
use Rattle.gx_model.proofs.Stores.StoreTexts.{both_some, both_steps, if_there, line_of, line_text, ok_is, unless_holds, word_line_read}

-- ---- what a ref may hold

-- a body that links to others is one of its kind
linked_body : (rs : List Record) (k : Kind) (body : Bytes) → IsLinked rs k body → is_body k body ≡ true
linked_body rs kind.Blob body h = refl
linked_body rs kind.Tree body h = is_true _ (tree_test h.0 body h.1)
linked_body rs kind.Commit body h = is_true _ (commit_test h.0 body h.1)
linked_body rs kind.Tag body h = is_true _ (tag_test h.0 body h.1)

-- bodies that link to earlier ones are of their kinds
linked_bodies : (before rs : List Record) → IsLinkedAfter before rs → AllByRecursion (λ r. is_body r.kind r.body ≡ true) rs
linked_bodies before [] h = tt
linked_bodies before (r ∷ rs) h = (linked_body before r.kind r.body h.0, linked_bodies (before ++ r ∷ []) rs h.1)

-- what passes the test of targets is a commit, or a tag of its own
target_of : (rs : List Record) → IsLinkedAfter [] rs → (ref n : Bytes) → is_target ref (record_named rs n) ≡ true → IsTarget rs ref n
target_of rs h ref n e = by (record_named rs n) refl e
  where
    of_kind : (r : Record) → record_named rs n ≡ Some r → is_body r.kind r.body ≡ true → (k : Kind) → r.kind ≡ k → is_target_of_kind ref k r.body ≡ true → IsTarget rs ref n
    of_kind r f b kind.Blob i t = absurd (cc)
    of_kind r f b kind.Tree i t = absurd (cc)
    of_kind r f b kind.Commit i t = inl (some_named (λ x. (x.kind ≡ kind.Commit) × (x.name ≡ n)) rs n r f (λ s. (i, s)))
    of_kind r f b kind.Tag i t =
        let body : is_body kind.Tag r.body ≡ true = subst (λ k. is_body k r.body ≡ true) i b in
        inr (some_named (λ x. (x.kind ≡ kind.Tag) × (x.name ≡ n) × ((p : TagParts) × IsTagText p x.body × (ref ≡ tag_ref p.name))) rs n r f
        (λ s. (i, s, (tag_parts_in r.body, tag_text_in r.body (passes _ body), same_is ref (tag_ref (tag_parts_in r.body).name) (passes _ t)))))

    by : (o : Option Record) → record_named rs n ≡ o → is_target ref o ≡ true → IsTarget rs ref n
    by None f t = absurd (cc)
    by (Some r) f t = of_kind r f (all_named (λ x. is_body x.kind x.body ≡ true) rs n r (linked_bodies [] rs h) f) r.kind refl t

-- a commit, or a tag of its own, passes the test of targets
target_test : (rs : List Record) → AreDistinct (map (λ r. r.name) rs) → (ref n : Bytes) → IsTarget rs ref n → is_target ref (record_named rs n) ≡ true
target_test rs d ref n (inl h) =
    let q = named_some (λ x. (x.kind ≡ kind.Commit) × (x.name ≡ n)) n (λ x p. p.1) rs d h in
    ap (is_target ref) q.1 ∙ ap (λ k. is_target_of_kind ref k q.0.body) q.2.0
target_test rs d ref n (inr h) =
    let q = named_some (λ x. (x.kind ≡ kind.Tag) × (x.name ≡ n) × ((p : TagParts) × IsTagText p x.body × (ref ≡ tag_ref p.name))) n (λ x p. p.1) rs d h in
    let t = q.2.2 in
    let same : ref ≡ tag_ref (tag_parts_in q.0.body).name = t.2 ∙ ap (λ (p : TagParts). tag_ref p.name) (sym (tag_read t.0 q.0.body t.1)) in
    ap (is_target ref) q.1 ∙ ap (λ k. is_target_of_kind ref k q.0.body) q.2.0 ∙ is_true _ (is_same ref (tag_ref (tag_parts_in q.0.body).name) same)

-- what a ref holds has a name
target_name : (name : Kind → Bytes → Bytes) → IsNamer name → (rs : List Record) → AreDistinct (map (λ r. r.name) rs) → AllByRecursion (λ r. r.name ≡ name r.kind r.body) rs → (ref n : Bytes) → IsTarget rs ref n → T (is_name n)
target_name name namer rs d named ref n h = elim h [
  | inl k ↦ (let q = named_some (λ x. (x.kind ≡ kind.Commit) × (x.name ≡ n)) n (λ x p. p.1) rs d k in of_record q.0 q.1 q.2.1)
  | inr k ↦ (let q = named_some (λ x. (x.kind ≡ kind.Tag) × (x.name ≡ n) × ((p : TagParts) × IsTagText p x.body × (ref ≡ tag_ref p.name))) n (λ x p. p.1) rs d k in of_record q.0 q.1 q.2.1)
]
  where
    of_record : (r : Record) → record_named rs n ≡ Some r → r.name ≡ n → T (is_name n)
    of_record r f e = subst (λ z. T (is_name z)) (sym (all_named (λ x. x.name ≡ name x.kind x.body) rs n r named f) ∙ e) (name_is_name name namer r.kind r.body)

-- ---- the order of refs

-- a ref name before the names of these refs, if there is one
abbrev pub IsBefore : Option Bytes → List (Bytes × Bytes) → Type 0
IsBefore None xs = ⊤
IsBefore (Some last) xs = T (below_all (slice_cmp nat_cmp) last xs)

-- what the test of order passes is less
less_of : (o : Ordering) → is_less o ≡ true → o ≡ Less
less_of Less e = refl
less_of Equal e = absurd (cc)
less_of Greater e = absurd (cc)

-- what is less than a ref name is less than those above it
below_next : (x y : Bytes) (rs : List (Bytes × Bytes)) → slice_cmp nat_cmp x y ≡ Less → T (below_all (slice_cmp nat_cmp) y rs) → T (below_all (slice_cmp nat_cmp) x rs)
below_next x y [] l h = tt
below_next x y (r ∷ rs) l h =
    both _ _ (subst (λ o. T (is_lt o)) (sym (nat_list_cmp_total.trans x y r.0 l (less_is _ (first _ _ h)))) tt)
    (below_next x y rs l (second (is_lt (slice_cmp nat_cmp y r.0)) (below_all (slice_cmp nat_cmp) y rs) h))

-- what stands before a ref stands before those after it
before_next : (last : Option Bytes) (r : Bytes × Bytes) (rs : List (Bytes × Bytes)) → is_after last r.0 ≡ true → T (below_all (slice_cmp nat_cmp) r.0 rs) → IsBefore last (r ∷ rs)
before_next None r rs e h = tt
before_next (Some x) r rs e h = let l = less_of (slice_cmp nat_cmp x r.0) e in both _ _ (subst (λ o. T (is_lt o)) (sym l) tt) (below_next x r.0 rs l h)

-- the first of the refs stands after the one before it
after_last : (last : Option Bytes) (r : Bytes × Bytes) (rs : List (Bytes × Bytes)) → IsBefore last (r ∷ rs) → is_after last r.0 ≡ true
after_last None r rs h = refl
after_last (Some x) r rs h = ap is_less (less_is _ (first (is_lt (slice_cmp nat_cmp x r.0)) (below_all (slice_cmp nat_cmp) x rs) h))

-- ---- one ref

-- a ref's line has its object's digits and its name
ref_line_of : (l : Bytes) (x : Bytes × Bytes) → ref_line l ≡ Some x → (l ≡ hex x.1 ++ 32 ∷ x.0) × T (is_ref_name x.0)
ref_line_of l x e =
    let p = both_some if_ref (cut_at 32 l) x e in
    by p.0 (is_name_text p.0.0 && is_ref_name p.0.1) refl p.2 (cut_spelled 32 l p.0 p.1)
  where
    by : (p : Bytes × Bytes) (b : Bool) → (is_name_text p.0 && is_ref_name p.1) ≡ b → cond b (Some (p.1, unhex p.0)) None ≡ Some x → l ≡ p.0 ++ 32 ∷ p.1 → (l ≡ hex x.1 ++ 32 ∷ x.0) × T (is_ref_name x.0)
    by p false k i s = absurd (cc)
    by p true k i s =
        let same : ◌≡◌ {A = Bytes × Bytes} (p.1, unhex p.0) x = cc i in
        let t = passes _ k in (
          s ∙ ap (λ z. z ++ 32 ∷ p.1) (sym (hex_unhex p.0 (first _ _ t))) ∙ ap (λ (z : Bytes × Bytes). hex z.1 ++ 32 ∷ z.0) same,
          subst (λ (z : Bytes × Bytes). T (is_ref_name z.0)) same (second (is_name_text p.0) (is_ref_name p.1) t),
        )

-- a ref's line is read
ref_line_read : (x : Bytes × Bytes) → T (is_name x.1) → T (is_ref_name x.0) → ref_line (hex x.1 ++ 32 ∷ x.0) ≡ Some x
ref_line_read x n r =
    let text = hex_text x.1 n in
    ap (option_and_then if_ref) (cut_after 32 (hex x.1) x.0 (link_no_space (hex x.1) (is_true _ text)))
    ∙ ap (λ b. cond b (Some (x.0, unhex (hex x.1))) None) (is_true _ (both _ _ text r))
    ∙ (λ i. Some (x.0, unhex_hex x.1 (bytes_name x.1 n) i))

module _ (rs : List Record) where
  -- what is read once the target is found
  abbrev order_rest : Option Bytes → Bytes → Bytes × Bytes → Stored ((Bytes × Bytes) × Bytes)
  order_rest last rest x = only_if (is_after last x.0) fault.RefOrder >>= λ u. Ok (x, rest)

  -- what is read once the ref's line is
  abbrev target_rest : Option Bytes → Bytes → Bytes × Bytes → Stored ((Bytes × Bytes) × Bytes)
  target_rest last rest x = only_if (is_target x.0 (record_named rs x.1)) fault.BadRef >>= λ u. order_rest last rest x

  -- what is read in a ref's line
  abbrev ref_rest : Option Bytes → Bytes × Bytes → Stored ((Bytes × Bytes) × Bytes)
  ref_rest last l = ok_or (ref_line l.0) fault.BadRef >>= target_rest last l.1

  -- one ref is read: its name is one, its target is held, and it stands after the one before
  pub record IsOneRef (last : Option Bytes) (text : Bytes) (x : (Bytes × Bytes) × Bytes) : Type 0 where
    pub spelled : text ≡ stored_ref x.0 ++ x.1
    pub named : T (is_ref_name x.0.0)
    pub target : is_target x.0.0 (record_named rs x.0.1) ≡ true
    pub after : is_after last x.0.0 ≡ true

  -- what is read as the next ref is its text
  pub ref_of_text : (last : Option Bytes) (text : Bytes) (x : (Bytes × Bytes) × Bytes) → next_ref rs last text ≡ Ok x → IsOneRef last text x
  ref_of_text last text x e =
      let p = both_steps (stored_line text) (ref_rest last) x e in
      let r = both_steps (ok_or (ref_line p.0.0) fault.BadRef) (target_rest last p.0.1) x p.2 in
      let t = both_steps (only_if (is_target r.0.0 (record_named rs r.0.1)) fault.BadRef) (λ u. order_rest last p.0.1 r.0) x r.2 in
      let o = both_steps (only_if (is_after last r.0.0) fault.RefOrder) (λ u. Ok (r.0, p.0.1)) x t.2 in
      let same : ◌≡◌ {A = (Bytes × Bytes) × Bytes} (r.0, p.0.1) x = ok_is (r.0, p.0.1) x o.2 in
      let l = ref_line_of p.0.0 r.0 (if_there fault.BadRef (ref_line p.0.0) r.0 r.1) in
      subst (IsOneRef last text) same (record {
        spelled = line_of text p.0 p.1 ∙ ap (λ z. z ++ 10 ∷ p.0.1) l.0 ∙ line_text (hex r.0.1) r.0.0 p.0.1;
        named = l.1;
        target = unless_holds (is_target r.0.0 (record_named rs r.0.1)) fault.BadRef t.0 t.1;
        after = unless_holds (is_after last r.0.0) fault.RefOrder o.0 o.1;
      })

  -- a ref is read from its text
  pub ref_read : (last : Option Bytes) (x : Bytes × Bytes) (rest : Bytes) → T (is_name x.1) → T (is_ref_name x.0) → is_target x.0 (record_named rs x.1) ≡ true → is_after last x.0 ≡ true
      → next_ref rs last (stored_ref x ++ rest) ≡ Ok (x, rest)
  ref_read last x rest n r t a =
      ap (λ s. s >>= ref_rest last) (word_line_read (hex x.1) x.0 rest (hex_line x.1) (passes _ (ref_is_line x.0 (is_true _ r))))
      ∙ ap (λ o. ok_or o fault.BadRef >>= target_rest last rest) (ref_line_read x n r)
      ∙ ap (λ b. only_if b fault.BadRef >>= λ u. order_rest last rest x) t
      ∙ ap (λ b. only_if b fault.RefOrder >>= λ u. Ok (x, rest)) a

  -- ---- all refs

  -- refs are read: their names are ref names and in order, and their targets are held
  pub record AreRefs (last : Option Bytes) (n : ℕ) (text : Bytes) (x : List (Bytes × Bytes) × Bytes) : Type 0 where
    pub count : length x.0 ≡ n
    pub spelled : text ≡ flat_map stored_ref x.0 ++ x.1
    pub named : T (list_all (λ r. is_ref_name r.0) x.0)
    pub targets : AllByRecursion (λ r. is_target r.0 (record_named rs r.1) ≡ true) x.0
    pub before : IsBefore last x.0
    pub sorted : T (is_sorted (slice_cmp nat_cmp) x.0)

  -- a ref name is before the names of no refs
  no_refs_before : (last : Option Bytes) → IsBefore last []
  no_refs_before None = tt
  no_refs_before (Some x) = tt

  -- what is read as the next refs is their text
  pub refs_of_text : (n : ℕ) (last : Option Bytes) (text : Bytes) (x : List (Bytes × Bytes) × Bytes) → next_refs n rs last text ≡ Ok x → AreRefs last n text x
  refs_of_text zero last text x e =
      let same : ◌≡◌ {A = List (Bytes × Bytes) × Bytes} ([], text) x = ok_is ([], text) x e in
      subst (AreRefs last zero text) same (record { count = refl; spelled = refl; named = tt; targets = tt; before = no_refs_before last; sorted = tt })
  refs_of_text (suc n) last text x e =
      let p = both_steps (next_ref rs last text) (λ y. next_refs n rs (Some y.0.0) y.1 >>= λ ys. Ok (y.0 ∷ ys.0, ys.1)) x e in
      let q = both_steps (next_refs n rs (Some p.0.0.0) p.0.1) (λ ys. Ok (p.0.0 ∷ ys.0, ys.1)) x p.2 in
      let o = ref_of_text last text p.0 p.1 in
      let m = refs_of_text n (Some p.0.0.0) p.0.1 q.0 q.1 in
      let same : ◌≡◌ {A = List (Bytes × Bytes) × Bytes} (p.0.0 ∷ q.0.0, q.0.1) x = ok_is (p.0.0 ∷ q.0.0, q.0.1) x q.2 in
      subst (AreRefs last (suc n) text) same (record {
        count = ap suc m.count;
        spelled = o.spelled ∙ ap (λ z. stored_ref p.0.0 ++ z) m.spelled ∙ sym (append_assoc (stored_ref p.0.0) (flat_map stored_ref q.0.0) q.0.1);
        named = both _ _ o.named m.named;
        targets = (o.target, m.targets);
        before = before_next last p.0.0 q.0.0 o.after m.before;
        sorted = both _ _ m.before m.sorted;
      })

  -- the refs of a repository are read from their texts
  pub refs_read : (last : Option Bytes) (xs : List (Bytes × Bytes)) (rest : Bytes) → AllByRecursion (λ r. T (is_name r.1)) xs → T (list_all (λ r. is_ref_name r.0) xs)
      → AllByRecursion (λ r. is_target r.0 (record_named rs r.1) ≡ true) xs → IsBefore last xs → T (is_sorted (slice_cmp nat_cmp) xs) → next_refs (length xs) rs last (flat_map stored_ref xs ++ rest) ≡ Ok (xs, rest)
  refs_read last [] rest n r t b s = refl
  refs_read last (x ∷ xs) rest n r t b s =
      let one = ref_read last x (flat_map stored_ref xs ++ rest) n.0 (first (is_ref_name x.0) (list_all (λ r. is_ref_name r.0) xs) r) t.0 (after_last last x xs b) in
      let more = refs_read (Some x.0) xs rest n.1 (second (is_ref_name x.0) (list_all (λ r. is_ref_name r.0) xs) r) t.1
      (first (below_all (slice_cmp nat_cmp) x.0 xs) (is_sorted (slice_cmp nat_cmp) xs) s) (second (below_all (slice_cmp nat_cmp) x.0 xs) (is_sorted (slice_cmp nat_cmp) xs) s) in
      ap (next_refs (length (x ∷ xs)) rs last) (append_assoc (stored_ref x) (flat_map stored_ref xs) rest)
      ∙ ap (λ t. t >>= λ y. next_refs (length xs) rs (Some y.0.0) y.1 >>= λ ys. Ok (y.0 ∷ ys.0, ys.1)) one
      ∙ ap (λ t. t >>= λ ys. Ok (x ∷ ys.0, ys.1)) more

-- ---- sound refs

-- refs that pass their tests hold commits and tags of their own
pub targets_of : (rs : List Record) → IsLinkedAfter [] rs → (xs : List (Bytes × Bytes)) → AllByRecursion (λ r. is_target r.0 (record_named rs r.1) ≡ true) xs → AllByRecursion (λ r. IsTarget rs r.0 r.1) xs
targets_of rs h [] t = tt
targets_of rs h (x ∷ xs) t = (target_of rs h x.0 x.1 t.0, targets_of rs h xs t.1)

-- refs that hold commits and tags of their own pass their tests
pub targets_test : (rs : List Record) → AreDistinct (map (λ r. r.name) rs) → (xs : List (Bytes × Bytes)) → AllByRecursion (λ r. IsTarget rs r.0 r.1) xs → AllByRecursion (λ r. is_target r.0 (record_named rs r.1) ≡ true) xs
targets_test rs d [] t = tt
targets_test rs d (x ∷ xs) t = (target_test rs d x.0 x.1 t.0, targets_test rs d xs t.1)

-- what refs hold has names
pub targets_name : (name : Kind → Bytes → Bytes) → IsNamer name → (rs : List Record) → AreDistinct (map (λ r. r.name) rs) → AllByRecursion (λ r. r.name ≡ name r.kind r.body) rs → (xs : List (Bytes × Bytes)) → AllByRecursion (λ r. IsTarget rs r.0 r.1) xs
    → AllByRecursion (λ r. T (is_name r.1)) xs
targets_name name namer rs d named [] t = tt
targets_name name namer rs d named (x ∷ xs) t = (target_name name namer rs d named x.0 x.1 t.0, targets_name name namer rs d named xs t.1)
