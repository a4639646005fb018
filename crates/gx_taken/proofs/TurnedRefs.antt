-- What comes of refs that are looked at from the last one on.
use Rattle.std.proofs.Common.{◌≡◌, ℕ, ◌+◌, ◌-◌, ◌<◌, ◌≤◌, Bool, true, false, cond, List, [], ◌∷◌, ◌++◌, append-nil, append_assoc, length, map, drop, get_or, Option, Some, None, refl, sym, ap, subst, ◌∙◌, arith, drop_of_length-le}
use Rattle.std.specs.Prelude.{T, not, is_some, ◌&&◌, ◌||◌, if◌then◌else◌, reverse}
use Rattle.std.specs.Borrow.{Bor}
use Rattle.std.specs.BTreeMap.{is_at}
use Rattle.std.specs.BTreeSet.{BTreeSet}
use Rattle.std.specs.List.{list_any}
use Rattle.std.specs.Map.{lookup}
use Rattle.std.specs.Bool.{passes}
use Rattle.std.specs.FinMap.Entries.{find, is_sorted, same_entries}
use Rattle.std.proofs.lemmas.Bool.{true≢false}
use Rattle.std.proofs.lemmas.List.{drop_more, map-append, reverse-append}
use Rattle.std.proofs.lemmas.List.Folds.{list_any-append}
use Rattle.std.proofs.lemmas.Map.Text.{is_eq-slice_cmp}
use Rattle.gx_model.specs.Texts.{Bytes, byte_cmp, same_bytes}
use Rattle.gx_model.specs.Histories.{Records}
use Rattle.gx_model.specs.Records.Publishing.{Change, Ref, changes_fault, with_changes}
use Rattle.gx_model.proofs.Records.SortedRefs.{order, same_text}
use Rattle.gx_model.proofs.Texts.PathTests.{same_is}
use Rattle.gx_repo.specs.Dropping.{AreIn, is_among, is_entered, unknown_behind, without}
use Rattle.gx_object.specs.Parts.{bytes_if}
use Rattle.gx_object.specs.declared.name.Name.{Name}
use Rattle.gx_repo.specs.Refs.{is_ref_held, object_named}
use Rattle.gx_text.specs.Lent.{lent_texts}
use Rattle.gx_wide.specs.Placing.{is_dropped}
use Rattle.gx_taken.specs.Parts.{ref_offered, shown_ref_items}
use Rattle.gx_taken.specs.Setting.{IsTurned}
use Rattle.gx_taken.specs.declared.parts.RefItem.{RefItem}
use Rattle.gx_taken.proofs.ToldRefs.{all_turned, found_left, sorted_left, turn, turned}

-- the two look-ups of a name
pub found : (n : Bytes) (refs : List Ref) → find byte_cmp n refs ≡ lookup (same_bytes n) refs
found n [] = refl
found n (r ∷ rs) = λ i. cond (is_eq-slice_cmp n r.0 i) (Some r.1) (found n rs i)

abbrev no_object : Option Bytes
no_object = None

either : (b : Bool) → cond b no_object no_object ≡ no_object
either true = refl
either false = refl

-- ---- names that can be dropped

module _ (refs : List Ref) where
  -- these names are those of refs, each once, and among them is what is held of others
  pub record AreDroppable (names others : List Bytes) : Type 0 where
    pub known : unknown_behind refs [] names ≡ None
    pub named : (n : Bytes) → is_among names n ≡ (is_among others n && is_ref_held refs n)

  known_more : (before names : List Bytes) (n : Bytes) → unknown_behind refs before names ≡ None → is_ref_held refs n ≡ true → is_among (before ++ names) n ≡ false → unknown_behind refs before (names ++ n ∷ []) ≡ None
  known_more before [] n h held new =
      let fresh : is_among before n ≡ false = ap (λ ns. is_among ns n) (sym (append-nil before)) ∙ new in
      ap (λ b. if b && not (is_among before n) then None else Some (length before + 1)) held ∙ ap (λ b. if not b then None else Some (length before + 1)) fresh
  known_more before (m ∷ ms) n h held new =
      by (is_ref_held refs m && not (is_among before m)) h (λ k. known_more (before ++ m ∷ []) ms n k held (ap (λ ns. is_among ns n) (append_assoc before (m ∷ []) ms) ∙ new))
    where
      by : (b : Bool) → (if b then unknown_behind refs (before ++ m ∷ []) ms else Some (length before + 1)) ≡ None
          → (unknown_behind refs (before ++ m ∷ []) ms ≡ None → unknown_behind refs (before ++ m ∷ []) (ms ++ n ∷ []) ≡ None)
          → (if b then unknown_behind refs (before ++ m ∷ []) (ms ++ n ∷ []) else Some (length before + 1)) ≡ None
      by true h k = k h
      by false h k = absurd (cc h)

  held_alike : (n m : Bytes) → same_bytes n m ≡ true → is_ref_held refs m ≡ is_ref_held refs n
  held_alike n m e = ap (is_ref_held refs) (sym (same_is n m (passes _ e)))

  -- one more that is held
  pub one_dropped : (names others : List Bytes) (n : Bytes) → AreDroppable names others → is_among others n ≡ false → is_ref_held refs n ≡ true → AreDroppable (names ++ n ∷ []) (n ∷ others)
  one_dropped names others n h new held = record {
    known = known_more [] names n h.known held (h.named n ∙ ap (λ b. b && is_ref_held refs n) new);
    named = λ m. list_any-append (λ x. same_bytes x m) names (n ∷ []) ∙ ap (λ b. b || (same_bytes n m || false)) (h.named m) ∙ by m (same_bytes n m) refl (is_among others m) (is_ref_held refs m) refl;
  } where
    by : (m : Bytes) (s : Bool) → same_bytes n m ≡ s → (a b : Bool) → is_ref_held refs m ≡ b → ((a && b) || (s || false)) ≡ ((s || a) && b)
    by m true e true true k = refl
    by m true e false true k = refl
    by m true e a false k = absurd (true≢false (sym held ∙ sym (held_alike n m e) ∙ k))
    by m false e true true k = refl
    by m false e true false k = refl
    by m false e false b k = refl

  -- one that isn't held
  pub one_absent : (names others : List Bytes) (n : Bytes) → AreDroppable names others → is_ref_held refs n ≡ false → AreDroppable names (n ∷ others)
  one_absent names others n h absent = record {
    known = h.known;
    named = λ m. h.named m ∙ by m (same_bytes n m) refl (is_among others m) (is_ref_held refs m) refl;
  } where
    by : (m : Bytes) (s : Bool) → same_bytes n m ≡ s → (a b : Bool) → is_ref_held refs m ≡ b → (a && b) ≡ ((s || a) && b)
    by m true e a true k = absurd (true≢false (sym k ∙ held_alike n m e ∙ absent))
    by m true e true false k = refl
    by m true e false false k = refl
    by m false e a b k = refl

  -- so those are left that would be without the others
  pub same_left : (names others : List Bytes) → T (is_sorted byte_cmp refs) → AreDroppable names others → without names refs ≡ without others refs
  same_left names others s h =
      same_entries byte_cmp order same_text (without names refs) (without others refs) (sorted_left names refs s) (sorted_left others refs s)
      (λ q. found_left names q refs ∙ by q (is_among names q) (is_among others q) (find byte_cmp q refs) (h.named q ∙ ap (λ o. is_among others q && is_some o) (sym (found q refs))) ∙ sym (found_left others q refs))
    where
      by : (q : Bytes) (a b : Bool) (o : Option Bytes) → a ≡ (b && is_some o) → cond (not a) o None ≡ cond (not b) o None
      by q a b None e = either (not a) ∙ sym (either (not b))
      by q a true (Some x) e = ap (λ b. cond (not b) (Some x) None) e
      by q a false (Some x) e = ap (λ b. cond (not b) (Some x) None) e

-- ---- refs, one after the other

module _ {A : Type 0} where
  -- what is told of refs
  abbrev pub told_of : List (RefItem A) → List Ref
  told_of items = map (λ it. it.1) (shown_ref_items items)

  -- what comes of the refs from a place on
  abbrev pub later : List (RefItem A) → ℕ → List Bytes × List Change
  later items place = turned (told_of (drop place items))

  at_next : (items : List (RefItem A)) (place : ℕ) (d : RefItem A) → place < length items → later items place ≡ turn (ref_offered (get_or items place d).offered) (later items (place + 1))
  at_next items place d lt = ap (λ its. turned (told_of its)) (drop_more items place d lt)

abbrev lent : Bytes → Bor Bytes
lent name = record { ref_ptr = (0, 0); now = name }

module _ {A : Type 0} (refs : List Ref) (items : List (RefItem A)) where
  -- the refs from a place on are looked at
  pub record AreLooked (place : ℕ) (seen : BTreeSet (Bor Bytes)) (names : List Bytes) (changes : List Change) : Type 0 where
    pub seen_are : AreIn seen (later items place).0
    pub droppable : AreDroppable refs names (later items place).0
    pub changes_are : changes ≡ (later items place).1

  pub none_looked : (place : ℕ) (seen : BTreeSet (Bor Bytes)) (names : List Bytes) (changes : List Change) → length items ≤ place → seen.keys ≡ [] → names ≡ [] → changes ≡ [] → AreLooked place seen names changes
  none_looked place seen names changes le s n c =
      let none : later items place ≡ ([], []) = ap (λ its. turned (told_of its)) (drop_of_length-le items le) in record {
        seen_are = λ name. ap (list_any (is_at (λ (m : Bor Bytes). byte_cmp name m.now))) s ∙ ap (λ (l : List Bytes × List Change). is_among l.0 name) (sym none);
        droppable = subst (λ (l : List Bytes × List Change). AreDroppable refs names l.0) (sym none) (subst (λ ns. AreDroppable refs ns []) (sym n) (record { known = refl; named = λ m. refl }));
        changes_are = c ∙ ap (λ (l : List Bytes × List Change). l.1) (sym none);
      }

  module _ (place : ℕ) (seen : BTreeSet (Bor Bytes)) (names : List Bytes) (changes : List Change) (d : RefItem A) (told : Ref) (lt : place < length items) (told_is : told ≡ ref_offered (get_or items place d).offered) (h : AreLooked (place + 1) seen names changes) where
    abbrev behind : List Bytes × List Change
    behind = later items (place + 1)

    -- what comes of the next one
    by_turn : (a b : Bool) → is_among behind.0 told.0 ≡ a → is_dropped told.1 ≡ b → later items place ≡ (if a then behind else (if b then (told.0 ∷ behind.0, behind.1) else (behind.0, told ∷ behind.1)))
    by_turn a b e f =
        at_next items place d lt ∙ ap (λ t. turn t behind) (sym told_is) ∙ ap (λ t. if t then behind else (if is_dropped told.1 then (told.0 ∷ behind.0, behind.1) else (behind.0, told ∷ behind.1))) e
        ∙ ap (λ t. if a then behind else (if t then (told.0 ∷ behind.0, behind.1) else (behind.0, told ∷ behind.1))) f

    same : (now : List Bytes × List Change) → later items place ≡ now → AreIn seen now.0 → AreDroppable refs names now.0 → changes ≡ now.1 → AreLooked place seen names changes
    same now e s k c = record {
      seen_are = subst (λ (l : List Bytes × List Change). AreIn seen l.0) (sym e) s;
      droppable = subst (λ (l : List Bytes × List Change). AreDroppable refs names l.0) (sym e) k;
      changes_are = c ∙ ap (λ (l : List Bytes × List Change). l.1) (sym e);
    }

    -- one that is dropped behind it
    pub looked_seen : is_entered seen told.0 ≡ true → AreLooked place seen names changes
    looked_seen e = same behind (by_turn true (is_dropped told.1) (sym (h.seen_are told.0) ∙ e) refl) h.seen_are h.droppable h.changes_are

    new : is_entered seen told.0 ≡ false → is_among behind.0 told.0 ≡ false
    new e = sym (h.seen_are told.0) ∙ e

    -- one that is set
    pub looked_set : is_entered seen told.0 ≡ false → is_dropped told.1 ≡ false → (now : List Change) → now ≡ told ∷ changes → AreLooked place seen names now
    looked_set e f now made =
        let is = by_turn false false (new e) f in record {
          seen_are = subst (λ (l : List Bytes × List Change). AreIn seen l.0) (sym is) h.seen_are;
          droppable = subst (λ (l : List Bytes × List Change). AreDroppable refs names l.0) (sym is) h.droppable;
          changes_are = made ∙ ap (λ cs. told ∷ cs) h.changes_are ∙ ap (λ (l : List Bytes × List Change). l.1) (sym is);
        }

    entered : (now : BTreeSet (Bor Bytes)) → ((n : Bor Bytes) → is_entered now n.now ≡ cond (is_at (λ (m : Bor Bytes). byte_cmp told.0 m.now) n) true (is_entered seen n.now)) → AreIn now (told.0 ∷ behind.0)
    entered now g = λ n.
        g (lent n) ∙ ap (λ b. cond b true (is_entered seen n)) (is_eq-slice_cmp told.0 n) ∙ ap (λ b. cond (same_bytes told.0 n) true b) (h.seen_are n) ∙ or (same_bytes told.0 n) (is_among behind.0 n)
      where
        or : (a b : Bool) → cond a true b ≡ (a || b)
        or true b = refl
        or false b = refl

    -- one that is dropped
    looked_dropped : is_entered seen told.0 ≡ false → is_dropped told.1 ≡ true → (now : BTreeSet (Bor Bytes))
        → ((n : Bor Bytes) → is_entered now n.now ≡ cond (is_at (λ (m : Bor Bytes). byte_cmp told.0 m.now) n) true (is_entered seen n.now))
        → (left : List Bytes) → AreDroppable refs left (told.0 ∷ behind.0) → AreLooked place now left changes
    looked_dropped e f now g left k =
        let is = by_turn false true (new e) f in record {
          seen_are = subst (λ (l : List Bytes × List Change). AreIn now l.0) (sym is) (entered now g);
          droppable = subst (λ (l : List Bytes × List Change). AreDroppable refs left l.0) (sym is) k;
          changes_are = h.changes_are ∙ ap (λ (l : List Bytes × List Change). l.1) (sym is);
        }

    -- and is there
    pub looked_held : is_entered seen told.0 ≡ false → is_dropped told.1 ≡ true → is_ref_held refs told.0 ≡ true → (now : BTreeSet (Bor Bytes))
        → ((n : Bor Bytes) → is_entered now n.now ≡ cond (is_at (λ (m : Bor Bytes). byte_cmp told.0 m.now) n) true (is_entered seen n.now))
        → (left : List Bytes) → left ≡ names ++ told.0 ∷ [] → AreLooked place now left changes
    looked_held e f held now g left made = looked_dropped e f now g left (subst (λ ns. AreDroppable refs ns (told.0 ∷ behind.0)) (sym made) (one_dropped refs names behind.0 told.0 h.droppable (new e) held))

    -- or isn't
    pub looked_absent : is_entered seen told.0 ≡ false → is_dropped told.1 ≡ true → is_ref_held refs told.0 ≡ false → (now : BTreeSet (Bor Bytes))
        → ((n : Bor Bytes) → is_entered now n.now ≡ cond (is_at (λ (m : Bor Bytes). byte_cmp told.0 m.now) n) true (is_entered seen n.now)) → AreLooked place now names changes
    looked_absent e f absent now g = looked_dropped e f now g names (one_absent refs names behind.0 told.0 h.droppable absent)

-- all are looked at
pub all_looked : {A : Type 0} (r : Records) (items : List (RefItem A)) (seen : BTreeSet (Bor Bytes)) (names : List Bytes) (changes : List Change) → T (is_sorted byte_cmp r.refs) → changes_fault r.records (turned (told_of items)).1 ≡ None
    → AreLooked r.refs items 0 seen names changes → IsTurned r (shown_ref_items items) names changes
all_looked r items seen names changes s free h =
    let all = turned (told_of items) in record {
      known = h.droppable.known;
      free = ap (changes_fault r.records) h.changes_are ∙ free;
      refs = ap (λ rs. with_changes rs changes) (same_left r.refs names all.0 s h.droppable) ∙ ap (with_changes (without all.0 r.refs)) h.changes_are ∙ sym (all_turned (told_of items) r.refs s);
    }

-- a list that is made from its end on
pub reversed_more : {V X : Type 0} (see : V → X) (vs now : List V) (v : V) → now ≡ vs ++ v ∷ [] → map see (reverse now) ≡ see v ∷ map see (reverse vs)
reversed_more see vs now v e = ap (λ xs. map see (reverse xs)) e ∙ ap (map see) (reverse-append vs (v ∷ []))

-- the place before one that isn't the first
pub before : {A : Type 0} (refs : List Ref) (items : List (RefItem A)) (place : ℕ) (seen : BTreeSet (Bor Bytes)) (names : List Bytes) (changes : List Change) → 0 < place → AreLooked refs items place seen names changes
    → AreLooked refs items (place - 1 + 1) seen names changes
before refs items place seen names changes lt h = let same : place ≡ place - 1 + 1 = omega arith in subst (λ n. AreLooked refs items n seen names changes) same h

-- what was found at a name tells whether such a ref is held
pub near : (refs : List Ref) (name : Bytes) (o : Option Name) (b : Bool) → bytes_if o ≡ object_named refs name → is_some o ≡ b → is_ref_held refs name ≡ b
near refs name o b e f = sym (ap is_some e) ∙ by o ∙ f where
  by : (o : Option Name) → is_some (bytes_if o) ≡ is_some o
  by None = refl
  by (Some x) = refl

-- one name more
pub lent_more : (names now : List (Bor Bytes)) (name : Bor Bytes) → now ≡ names ++ name ∷ [] → lent_texts now ≡ lent_texts names ++ name.now ∷ []
lent_more names now name e = ap lent_texts e ∙ map-append (λ n. n.now) names (name ∷ [])
