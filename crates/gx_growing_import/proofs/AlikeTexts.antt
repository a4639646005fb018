-- What both repositories tell alike, text by text, and so what commands ask for.
use Rattle.std.proofs.Common.{◌≡◌, ℕ, Bool, true, false, List, [], ◌∷◌, ◌++◌, map, Option, None, Some, refl, sym, subst}
use Rattle.std.specs.Borrow.{Bor}
use Rattle.std.specs.Prelude.{◌||◌, IfSome, IsTrue}
use Rattle.std.specs.Bool.{passes}
use Rattle.std.specs.List.{AllByRecursion, list_any}
use Rattle.std.specs.Map.Iter.{deref}
use Rattle.std.specs.declared.vec.Vec.{Vec}
use Rattle.gx_model.specs.declared.objects.Kind.{Kind}
use Rattle.gx_model.specs.Texts.{Bytes, same_bytes}
use Rattle.gx_model.specs.Histories.{Records}
use Rattle.gx_model.specs.Revisions.Denotation.{ref_names}
use Rattle.gx_model.specs.Streams.Commands.{Command}
use Rattle.gx_model.proofs.Texts.PathTests.{same_is}
use Rattle.gx_asked.specs.Asking.{AsksAmong, IsAmong, texts_of}
use Rattle.gx_asked.specs.declared.asked.Asked.{Asked}
use Rattle.gx_stand_ins.specs.MoreAsked.{commands_more}
use Rattle.gx_stand_ins.specs.SmallRepositories.{AsksAlike, BeginsOtherwise, IsSameBase, IsSameRef}
use Rattle.gx_stand_ins.specs.declared.bodies.TheConstants.{NONCE}
use Rattle.gx_growing_import.specs.Alike.{AreAlike, AreSameRefs, IsSameBaseName}

-- ---- loops over texts

-- what holds of each text that was met, as it is lent, holds of each text
pub all_lent : {A : Type 0} (P : Bytes → Type 0) (xs : List (Bor (Vec ℕ A))) → AllByRecursion (λ x. P x.now.items) xs → AllByRecursion P (texts_of (map deref xs))
all_lent P [] h = tt
all_lent P (x ∷ xs) h = (h.0, all_lent P xs h.1)

-- and so of each that is owned
pub all_owned : {A : Type 0} (P : Bytes → Type 0) (xs : List (Vec ℕ A)) → AllByRecursion (λ x. P x.items) xs → AllByRecursion P (map (λ x. x.items) xs)
all_owned P [] h = tt
all_owned P (x ∷ xs) h = (h.0, all_owned P xs h.1)

-- one more
pub all_next : {X : Type 0} (P : X → Type 0) (xs : List X) (x : X) → AllByRecursion P xs → P x → AllByRecursion P (xs ++ x ∷ [])
all_next P [] x h k = (k, tt)
all_next P (y ∷ ys) x h k = (h.0, all_next P ys x h.1 k)

-- ---- what is told

module _ (name : Kind → Bytes → Bytes) (small : Records) where
  -- a base that gives one name in both, with its refs
  abbrev pub IsTold : Option Records → Bytes → Type 0
  IsTold told base = IfSome told (λ whole. IsSameBase name NONCE whole small base)

  pub base_told : (told : Option Records) (refs : List (Bytes × Bytes)) (base first second : Bytes) → first ≡ base → second ≡ base → IfSome told (λ whole. refs ≡ whole.refs)
      → IfSome told (λ whole. IsSameBaseName name whole small first) → AreSameRefs refs small.refs (ref_names second) → IsTold told base
  base_told None refs base first second one other same value names = tt
  base_told (Some whole) refs base first second one other same value names = record {
    refs = subst (λ rs. AreSameRefs rs small.refs (ref_names base)) same (subst (λ x. AreSameRefs refs small.refs (ref_names x)) other names);
    value = subst (λ x. IsSameBaseName name whole small x) one value;
  }

  -- so both tell alike the branches and the bases
  pub alike_told : (told : Option Records) (refs : List (Bytes × Bytes)) {A : Type 0} (asked : Asked A) → IfSome told (λ whole. refs ≡ whole.refs)
      → AreSameRefs refs small.refs (texts_of asked.branches.keys) → (xs : List (Bor (Vec ℕ A))) → AllByRecursion (λ x. IsTold told x.now.items) xs → map deref xs ≡ asked.bases.keys
      → IfSome told (λ whole. AreAlike name whole small asked)
  alike_told None refs asked same branches xs bases all = tt
  alike_told (Some whole) refs asked same branches xs bases all = record {
    branches = subst (λ rs. AreSameRefs rs small.refs (texts_of asked.branches.keys)) same branches;
    bases = subst (λ keys. AllByRecursion (IsSameBase name NONCE whole small) (texts_of keys)) all (all_lent (IsSameBase name NONCE whole small) xs bases);
  }

-- ---- what commands ask for

all_among : (P : Bytes → Type 0) (texts : List Bytes) → AllByRecursion P texts → (x : Bytes) → IsAmong texts x → P x
all_among P [] h x i = absurd (cc)
all_among P (t ∷ ts) h x i = by (λ j. all_among P ts h.1 x j) (same_bytes x t) refl i
  where
    by : (IsAmong ts x → P x) → (b : Bool) → same_bytes x t ≡ b → IsTrue (b || list_any (same_bytes x) ts) → P x
    by rest true e j = subst P (sym (same_is x t (passes _ e))) h.0
    by rest false e j = rest j

-- commands that ask for these alone ask for what both tell alike
pub among_alike : (name : Kind → Bytes → Bytes) (whole small : Records) (branches bases : List Bytes)
    → AllByRecursion (IsSameRef whole small) branches → AllByRecursion (IsSameBase name NONCE whole small) bases
    → (commands : List Command) → AllByRecursion (AsksAmong branches bases) commands → AllByRecursion (AsksAlike name NONCE whole small) commands
among_alike name whole small branches bases refs same commands asked =
    commands_more (IsAmong branches) (IsSameRef whole small) (IsAmong bases) (IsSameBase name NONCE whole small)
    (BeginsOtherwise NONCE) (BeginsOtherwise NONCE) (λ text. BeginsOtherwise NONCE text.message) (λ text. BeginsOtherwise NONCE text.message)
    (all_among (IsSameRef whole small) branches refs) (all_among (IsSameBase name NONCE whole small) bases same) (λ x h. h) (λ t h. h) commands asked
