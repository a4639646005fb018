-- Lists that are read one by one, and invariants of the loops that read them.
use Rattle.std.proofs.Common.{◌≡◌, ℕ, zero, suc, ◌<◌, ◌≤◌, List, [], ◌∷◌, ◌++◌, length, Option, Some, None, Ok, Err, refl, sym, ap, subst, ◌∙◌, inl, inr, arith, append_assoc}
use Rattle.std.specs.Prelude.{codes}
use Rattle.std.specs.Option.{option_map}
use Rattle.std.proofs.lemmas.List.{append-nil}
use Rattle.gx_model.specs.Faults.{◌>>=◌}
use Rattle.gx_model.specs.Streams.Items.{Item, Line, Data, End, Finished, Failed, Stream}
use Rattle.gx_model.specs.Streams.Commands.{Change, CommitIsh}
use Rattle.gx_model.specs.Streams.Grammar.{change_at, changes_within, changes, merges_within, merges}
use Rattle.gx_model.specs.Streams.Lines.{Read, at_end, after, words_of, optional, commit_ish_of}
use Rattle.gx_command.specs.Ahead.{Fails, Reads}
use Rattle.gx_command.specs.Bodies.{next_change_in, next_change}
use Rattle.gx_command.specs.declared.fault.CommandFault.{CommandFault}
use Rattle.gx_command.proofs.Leaves.{LeavesIf, Shortens, change_leaves, optional_shortens}

-- one, and the others after it
abbrev pub then_more : {Y : Type 0} → (Stream → Read (List Y)) → Option Y × Stream → Read (List Y)
then_more all (None, t) = Ok ([], t)
then_more all (Some y, t) = all t >>= λ ys. Ok (y ∷ ys.0, ys.1)

-- all is what next gives, one after another
abbrev pub IsUnrolled : {Y : Type 0} → (Stream → Read (Option Y)) → (Stream → Read (List Y)) → Type 0
IsUnrolled next all = (s : Stream) → all s ≡ next s >>= then_more all

-- ---- changes

change_left : (l : List ℕ) (s : Stream) (x : Change × Stream) → change_at (words_of l) s ≡ Some (Ok x) → length x.1.items ≤ length s.items
change_left l s x e = subst (λ c. LeavesIf c s) e (change_leaves (words_of l) s)

enough_changes : (n m : ℕ) (items : List Item) (s : Stream) → s.items ≡ items → length items ≤ n → length items ≤ m → changes_within n items s ≡ changes_within m items s
unfolding changes_within
enough_changes n m [] s is p q = refl
enough_changes zero m (i ∷ more) s is p q = absurd (omega arith)
enough_changes (suc n) zero (i ∷ more) s is p q = absurd (omega arith)
enough_changes (suc n) (suc m) (Data b ∷ more) s is p q = refl
enough_changes (suc n) (suc m) (Line l ∷ more) s is p q = by (change_at (words_of l) (after more s)) refl (λ t h k. enough_changes n m t.items t refl h k) where
  by : (c : Option (Read Change)) → change_at (words_of l) (after more s) ≡ c → ((t : Stream) → length t.items ≤ n → length t.items ≤ m → changes_within n t.items t ≡ changes_within m t.items t) → changes_within (suc n) (Line l ∷ more) s ≡ changes_within (suc m) (Line l ∷ more) s
  by None e again = rw e refl
  by (Some (Err f)) e again = rw e refl
  by (Some (Ok x)) e again =
      let left = change_left l (after more s) x e in
      rw e (ap (λ r. r >>= λ xs. Ok (x.0 ∷ xs.0, xs.1)) (again x.1 (omega arith) (omega arith)))

pub changes_unrolled : IsUnrolled next_change changes
unfolding changes_within next_change_in
changes_unrolled s = at s.items refl where
  at : (items : List Item) → s.items ≡ items → changes_within (length items) items s ≡ next_change_in items s >>= then_more changes
  at [] is = ended s.end where
    ended : (e : End) → at_end {A = List Change × Stream} e (Ok ([], s)) ≡ at_end {A = Option Change × Stream} e (Ok (None, s)) >>= then_more changes
    ended Finished = refl
    ended (Failed f) = refl
  at (Data b ∷ more) is = refl
  at (Line l ∷ more) is = by (change_at (words_of l) (after more s)) refl where
    by : (c : Option (Read Change)) → change_at (words_of l) (after more s) ≡ c → changes_within (suc (length more)) (Line l ∷ more) s ≡ next_change_in (Line l ∷ more) s >>= then_more changes
    by None e = rw e refl
    by (Some (Err f)) e = rw e refl
    by (Some (Ok x)) e =
        let left = change_left l (after more s) x e in
        rw e (ap (λ r. r >>= λ xs. Ok (x.0 ∷ xs.0, xs.1)) (enough_changes (length more) (length x.1.items) x.1.items x.1 refl (omega arith) (omega arith)))

-- ---- merges

-- a line that is taken shortens the stream
merge_left : (s t : Stream) (c : CommitIsh) → optional (codes "merge") commit_ish_of s ≡ Ok (Some c, t) → length t.items < length s.items
merge_left s t c e = subst (λ r. Shortens r s) e (optional_shortens (codes "merge") commit_ish_of s)

enough_merges : (n m : ℕ) (s : Stream) → length s.items < n → length s.items < m → merges_within n s ≡ merges_within m s
unfolding merges_within
enough_merges zero m s p q = absurd (omega arith)
enough_merges (suc n) zero s p q = absurd (omega arith)
enough_merges (suc n) (suc m) s p q = by (optional (codes "merge") commit_ish_of s) refl (enough_merges n m) where
  by : (r : Read (Option CommitIsh)) → optional (codes "merge") commit_ish_of s ≡ r → ((t : Stream) → length t.items < n → length t.items < m → merges_within n t ≡ merges_within m t) → merges_within (suc n) s ≡ merges_within (suc m) s
  by (Err f) e again = rw e refl
  by (Ok (None, t)) e again = rw e refl
  by (Ok (Some c, t)) e again =
      let left = merge_left s t c e in
      rw e (ap (λ r. r >>= λ xs. Ok (c ∷ xs.0, xs.1)) (again t (omega arith) (omega arith)))

pub merges_unrolled : IsUnrolled (optional (codes "merge") commit_ish_of) merges
unfolding merges_within
merges_unrolled s = by (optional (codes "merge") commit_ish_of s) refl where
  by : (r : Read (Option CommitIsh)) → optional (codes "merge") commit_ish_of s ≡ r → merges s ≡ optional (codes "merge") commit_ish_of s >>= then_more merges
  by (Err f) e = rw e refl
  by (Ok (None, t)) e = rw e refl
  by (Ok (Some c, t)) e =
      let left = merge_left s t c e in
      rw e (ap (λ r. r >>= λ xs. Ok (c ∷ xs.0, xs.1)) (enough_merges (length s.items) (suc (length t.items)) t (omega arith) (omega arith)))

-- ---- loops

-- these before what is still to come
abbrev pub behind : {Y : Type 0} → List Y → Read (List Y) → Read (List Y)
behind front read = read >>= λ ys. Ok (front ++ ys.0, ys.1)

-- so many were read of all
abbrev pub Collects : {Y : Type 0} → (Stream → Read (List Y)) → List Y → Option Stream → Option Stream → Type 0
Collects all front None now = Unit {0}
Collects all front (Some s) now = (t : Stream) × (now ≡ Some t) × (all s ≡ behind front (all t))

behind_none : {Y : Type 0} (r : Read (List Y)) → r ≡ behind [] r
behind_none (Ok (ys, t)) = refl
behind_none (Err f) = refl

pub collects_none : {Y : Type 0} (all : Stream → Read (List Y)) (old : Option Stream) → Collects all [] old old
collects_none all None = tt
collects_none all (Some s) = (s, refl, behind_none (all s))

pub behind_one : {Y : Type 0} (front : List Y) (y : Y) (r : Read (List Y)) → behind front (r >>= λ ys. Ok (y ∷ ys.0, ys.1)) ≡ behind (front ++ y ∷ []) r
behind_one front y (Err f) = refl
behind_one front y (Ok (ys, t)) = ap (λ xs. Ok (xs, t)) (sym (append_assoc front (y ∷ []) ys))

module _ {X Y : Type 0} (next : Stream → Read (Option Y)) (all : Stream → Read (List Y)) (unrolled : IsUnrolled next all) (view : X → Y) where
  pub collects_one : (front : List Y) (old now new : Option Stream) (x : X) → Collects all front old now → Reads (option_map view) next now new (Ok (Some x)) → Collects all (front ++ view x ∷ []) old new
  collects_one front None now new x c r = tt
  collects_one front (Some s) now new x (t, is, e) r =
      let l = subst (λ (m : Option Stream). Reads (option_map view) next m new (Ok (Some x))) is r in
      (l.0, l.1, e ∙ ap (behind front) (unrolled t ∙ ap (λ q. q >>= then_more all) l.2) ∙ behind_one front (view x) (all l.0))

  pub collects_all : {U : Type 0} (shown : U → List Y) (made : U) (old now new : Option Stream) → Collects all (shown made) old now → Reads (option_map view) next now new (Ok None) → Reads shown all old new (Ok made)
  collects_all shown made None now new c r = tt
  collects_all shown made (Some s) now new (t, is, e) r =
      let l = subst (λ (m : Option Stream). Reads (option_map view) next m new (Ok None)) is r in
      (l.0, l.1, e ∙ ap (behind (shown made)) (unrolled t ∙ ap (λ q. q >>= then_more all) l.2) ∙ ap (λ xs. Ok (xs, l.0)) (append-nil (shown made)))

  pub collects_fails : {U : Type 0} (shown : U → List Y) (front : List Y) (old now new new' : Option Stream) (f : CommandFault) → Collects all front old now → Reads (option_map view) next now new (Err f) → Reads shown all old new' (Err f)
  collects_fails shown front None now new new' f c r = tt
  collects_fails shown front (Some s) now new new' f (t, is, e) r = by (subst (λ (m : Option Stream). Reads (option_map view) next m new (Err f)) is r) where
    by : Fails f (next t) → Fails f (all s)
    by (inl out) = inl out
    by (inr g) = inr (e ∙ ap (behind front) (unrolled t ∙ ap (λ q. q >>= then_more all) g))
