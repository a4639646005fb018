-- Whether no branch loses a commit, asked of each branch with what its ref holds.
use Rattle.std.proofs.Common.{◌≡◌, Bool, true, false, cond, List, [], ◌∷◌, map, Option, Some, None, inl, inr, refl, sym, ap, subst, ◌∙◌}
use Rattle.std.specs.Prelude.{◌&&◌, ◌||◌, IfSome}
use Rattle.std.specs.List.{AllByRecursion, list_all}
use Rattle.std.specs.Bool.{passes}
use Rattle.std.specs.Map.{lookup}
use Rattle.std.specs.Option.{option_map}
use Rattle.std.proofs.lemmas.Bool.{true≢false}
use Rattle.gx_model.specs.declared.objects.Kind.{Kind}
use Rattle.gx_model.specs.declared.objects.Kind.TheVariants as kinds
use Rattle.gx_model.specs.Texts.{Bytes, same_bytes}
use Rattle.gx_model.specs.Histories.Values.{Commit, commit_value}
use Rattle.gx_model.specs.Objects.{IsNamer}
use Rattle.gx_model.specs.Histories.{Records, Target}
use Rattle.gx_model.specs.Records.HistoryOf.{commit_of_value, history_of, target_in, value_of_name}
use Rattle.gx_model.specs.Laws.RepositoryLaws.{values_of}
use Rattle.gx_model.specs.Records.Sound.{AnyByRecursion, Holds, IsSound, IsTarget}
use Rattle.gx_model.specs.Records.Lookups.{commit_named}
use Rattle.gx_model.specs.Revisions.Denotation.{ref_at}
use Rattle.gx_model.specs.Revisions.Ranges.{reaches}
use Rattle.gx_model.specs.Replay.{State, is_fast_forward, is_forward, peeled_at}
use Rattle.gx_model.proofs.Texts.PathTests.{is_true, same_is}
use Rattle.gx_model.proofs.Records.PeeledRefs.{held_holds, old_is, told}
use Rattle.gx_model.proofs.Histories.ReachedCommits.{itself}
use Rattle.gx_object.specs.declared.name.Name.{Name}
use Rattle.gx_import.specs.declared.branches.Tip.{Tip}
use Rattle.gx_import.specs.declared.tables.Tables.{Tables}
use Rattle.gx_import.specs.Objects.{IsCommitOf}
use Rattle.gx_import.specs.RefChanges.{IsHeldByRef, is_at}
use Rattle.gx_import.specs.Rows.{AreBoth, AreRows}
use Rattle.gx_import.specs.Standing.{IsTip, Stands}
use Rattle.gx_import.proofs.Parents.{commit_by_name}
use Rattle.gx_model.proofs.Records.HeldValues.{value_held}

-- what one of two tests tells, with a further one
or_then : (a b c : Bool) → (a || b) ≡ true → (a || (b && c)) ≡ (a || c)
or_then true b c e = refl
or_then false b c e = ap (λ x. x && c) e

or_none : (a b c : Bool) → (a || b) ≡ false → (a || (b && c)) ≡ false
or_none true b c e = absurd (true≢false e)
or_none false b c e = ap (λ x. x && c) e

or_true : (a : Bool) → (a || true) ≡ true
or_true true = refl
or_true false = refl

-- a branch stands in this state
abbrev pub IsBranchOf : State → Bytes × Option Commit → Type 0
IsBranchOf s branch = AnyByRecursion (λ b. b ≡ branch) s.branches

-- each of these does
all_branches : (P : Bytes × Option Commit → Type 0) (branches : List (Bytes × Option Commit)) → ((b : Bytes × Option Commit) → AnyByRecursion (λ x. x ≡ b) branches → P b) → AllByRecursion P branches
all_branches P [] h = tt
all_branches P (b ∷ bs) h = (h b (inl refl), all_branches P bs (λ d i. h d (inr i)))

-- these branches are left to be asked
abbrev pub AreLeft : (Kind → Bytes → Bytes) → {A : Type 0} → State → List (Bytes × Tip A) → Type 0
AreLeft name s rows =
    (rest : List (Bytes × Option Commit)) × AreRows (IsTip name s.history.values) rest rows
    × (is_fast_forward s ≡ (s.is_forced || list_all (λ b. is_forward (ref_at s.history b.0) b.1) rest))
    × AllByRecursion (IsBranchOf s) rest

-- the first of them is asked, and the others are left
pub record IsAsked (name : Kind → Bytes → Bytes) {A : Type 0} (s : State) (row : Bytes × Tip A) (others : List (Bytes × Tip A)) : Type 0 where
  pub made : Option Commit
  pub is_made : AreBoth (IsCommitOf name s.history.values) made row.1.commit
  pub rest : List (Bytes × Option Commit)
  pub related : AreRows (IsTip name s.history.values) rest others
  pub stands : IsBranchOf s (row.0, made)
  pub rest_stands : AllByRecursion (IsBranchOf s) rest
  pub so : is_fast_forward s ≡ (s.is_forced || (is_forward (ref_at s.history row.0) made && list_all (λ b. is_forward (ref_at s.history b.0) b.1) rest))

module _ (name : Kind → Bytes → Bytes) {A : Type 0} (s : State) where
  pub all_left : (r : Records) (tables : Tables A) → Stands name r tables s → AreLeft name s tables.branches
  all_left r tables h = (s.branches, h.branches, refl, all_branches (IsBranchOf s) s.branches (λ b i. i))

  pub first_asked : (row : Bytes × Tip A) (rows : List (Bytes × Tip A)) → AreLeft name s (row ∷ rows) → IsAsked name s row rows
  first_asked row rows ([], related, all, stand) = absurd related
  first_asked row rows (b ∷ bs, related, all, stand) =
      record {
        made = b.1;
        is_made = related.1.commit;
        rest = bs;
        related = related.2;
        stands = subst (λ n. IsBranchOf s (n, b.1)) related.0 stand.0;
        rest_stands = stand.1;
        so = all ∙ ap (λ n. s.is_forced || (is_forward (ref_at s.history n) b.1 && list_all (λ b. is_forward (ref_at s.history b.0) b.1) bs)) related.0;
      }

  -- where it is movable, it is decided by the others
  pub others_left : (row : Bytes × Tip A) (rows : List (Bytes × Tip A)) (asked : IsAsked name s row rows) → (s.is_forced || is_forward (ref_at s.history row.0) asked.made) ≡ true → AreLeft name s rows
  others_left row rows asked e = (asked.rest, asked.related, asked.so ∙ or_then s.is_forced (is_forward (ref_at s.history row.0) asked.made) (list_all (λ b. is_forward (ref_at s.history b.0) b.1) asked.rest) e, asked.rest_stands)

  -- and where it isn't, the whole isn't
  pub not_forward : (row : Bytes × Tip A) (rows : List (Bytes × Tip A)) (asked : IsAsked name s row rows) → (s.is_forced || is_forward (ref_at s.history row.0) asked.made) ≡ false → is_fast_forward s ≡ false
  not_forward row rows asked e = asked.so ∙ or_none s.is_forced (is_forward (ref_at s.history row.0) asked.made) (list_all (λ b. is_forward (ref_at s.history b.0) b.1) asked.rest) e

-- no branch is left
pub none_left : (name : Kind → Bytes → Bytes) {A : Type 0} (s : State) → AreLeft name {A = A} s [] → is_fast_forward s ≡ true
none_left name s ([], related, all, stand) = all ∙ or_true s.is_forced
none_left name s (b ∷ bs, related, all, stand) = absurd related

-- ---- what the refs hold

abbrev pub target_of : Records → Name → Target
target_of r held = target_in (value_of_name r.records held.bytes)

module _ (r : Records) (n : Bytes) where
  among : (object : Bytes) (refs : List (Bytes × Bytes)) → AllByRecursion (λ ref. IsTarget r.records ref.0 ref.1) refs → lookup (same_bytes n) refs ≡ Some object → (ref_name : Bytes) × IsTarget r.records ref_name object
  among object [] h e = absurd (cc)
  among object (ref ∷ refs) h e =
      elim (same_bytes n ref.0) as (λ b. cond b (Some ref.1) (lookup (same_bytes n) refs) ≡ Some object → (ref_name : Bytes) × IsTarget r.records ref_name object) [
        | true ↦ λ k. let is : ref.1 ≡ object = cc k in (ref.0, subst (IsTarget r.records ref.0) is h.0)
        | false ↦ λ k. among object refs h.1 k
      ] e

  -- what is found at a name may be held
  pub found_target : (name : Kind → Bytes → Bytes) → IsSound name r → (object : Option Name) → option_map (λ o. o.bytes) object ≡ lookup (same_bytes n) r.refs → IfSome object (IsHeldByRef r)
  found_target name sound None e = tt
  found_target name sound (Some object) e = among object.bytes r.refs sound.held (sym e)

  told_found : (refs : List (Bytes × Bytes)) → lookup (same_bytes n) (map (told r) refs) ≡ option_map (λ o. target_in (value_of_name r.records o)) (lookup (same_bytes n) refs)
  told_found [] = refl
  told_found (ref ∷ refs) =
      elim (same_bytes n ref.0) as (λ b. cond b (Some (target_in (value_of_name r.records ref.1))) (lookup (same_bytes n) (map (told r) refs)) ≡ option_map (λ o. target_in (value_of_name r.records o)) (cond b (Some ref.1) (lookup (same_bytes n) refs))) [
        | true ↦ refl
        | false ↦ told_found refs
      ]

  by_bytes : (object : Option Name) → option_map (λ o. target_in (value_of_name r.records o)) (option_map (λ o. o.bytes) object) ≡ option_map (target_of r) object
  by_bytes None = refl
  by_bytes (Some object) = refl

  -- and is what the history has there
  pub ref_is : (s : State) → history_of r ≡ s.history → (object : Option Name) → option_map (λ o. o.bytes) object ≡ lookup (same_bytes n) r.refs → option_map (target_of r) object ≡ ref_at s.history n
  ref_is s h object e =
      sym (by_bytes object) ∙ ap (option_map (λ o. target_in (value_of_name r.records o))) e ∙ sym (told_found r.refs) ∙ ap (λ z. ref_at z n) h

  -- so whether a branch may be moved is what the history tells
  pub movable_is : (s : State) → history_of r ≡ s.history → (is_forced : Bool) → s.is_forced ≡ is_forced → (object : Option Name) → option_map (λ o. o.bytes) object ≡ lookup (same_bytes n) r.refs → (made : Option Commit)
      → (s.is_forced || is_forward (ref_at s.history n) made) ≡ (is_forced || is_forward (option_map (target_of r) object) made)
  movable_is s h is_forced f object e made = ap (λ b. b || is_forward (ref_at s.history n) made) f ∙ ap (λ o. is_forced || is_forward o made) (sym (ref_is s h object e))

-- ---- a branch with a commit, and what its ref holds

-- a ref that isn't there loses nothing
pub forward_new : (made : Option Commit) → is_forward None made ≡ true
forward_new None = refl
forward_new (Some c) = refl

module _ (name : Kind → Bytes → Bytes) (namer : IsNamer name) (r : Records) (sound : IsSound name r) where
  pub new_holds : (made : Option Commit) (new : Name) → AreBoth (IsCommitOf name (values_of r)) made (Some new) → Holds r.records kinds.Commit new.bytes
  new_holds None new h = absurd h
  new_holds (Some c) new h = held_holds name namer r sound new.bytes (commit_by_name name namer r sound c new h).held

  -- the same commit
  forward_same : (made : Option Commit) (new object : Name) → AreBoth (IsCommitOf name (values_of r)) made (Some new) → new.bytes ≡ object.bytes → is_forward (Some (target_of r object)) made ≡ true
  forward_same None new object h e = absurd h
  forward_same (Some c) new object h e =
      let held = value_held name namer r sound kinds.Commit (commit_value c) new.bytes h.stands refl h.named in
      ap (λ n. reaches c (peeled_at (target_in (value_of_name r.records n)))) (sym e)
      ∙ ap (λ v. reaches c (peeled_at (target_in v))) held.1
      ∙ is_true _ (itself c)

  -- so is a branch whose ref holds its commit
  pub movable_at : (is_forced : Bool) (made : Option Commit) (new : Name) (held : Option Name) → AreBoth (IsCommitOf name (values_of r)) made (Some new) → is_at (option_map (λ n. n.bytes) held) new.bytes ≡ true
      → (is_forced || is_forward (option_map (target_of r) held) made) ≡ true
  movable_at is_forced made new None h e = absurd (true≢false (sym e))
  movable_at is_forced made new (Some object) h e =
      ap (λ b. is_forced || b) (forward_same made new object h (sym (same_is object.bytes new.bytes (passes _ e)))) ∙ or_true is_forced

  -- another one, which the new one reaches or doesn't
  pub forward_so : (made : Option Commit) (new object : Name) → AreBoth (IsCommitOf name (values_of r)) made (Some new) → (ref old : Bytes) → IsTarget r.records ref object.bytes → Some old ≡ commit_named r.records object.bytes
      → reaches (commit_of_value (value_of_name r.records new.bytes)) (commit_of_value (value_of_name r.records old)) ≡ is_forward (Some (target_of r object)) made
  forward_so None new object h ref old t p = absurd h
  forward_so (Some c) new object h ref old t p =
      ap (λ d. reaches d (commit_of_value (value_of_name r.records old))) (commit_by_name name namer r sound c new h).same
      ∙ ap (reaches c) (sym (old_is name namer r sound ref object.bytes old t p))
