-- What commands ask for that were entered one after the other.
use Rattle.std.proofs.Common.{◌≡◌, ℕ, zero, suc, ◌+◌, ◌<◌, List, [], ◌∷◌, length, map, take, Option, Result, Ok, Err, sym, subst, arith}
use Rattle.std.specs.Prelude.{IfErr, IfSome, OnOk}
use Rattle.std.specs.List.{AllByRecursion}
use Rattle.std.proofs.Math.ListN.{get_or}
use Rattle.gx_model.specs.Replay.{text_made}
use Rattle.gx_model.specs.Streams.Commands.{Change, Command, CommitIsh, CommitParts}
use Rattle.gx_stand_ins.specs.MoreAsked.{all_more, changes_more, command_more, some_more}
use Rattle.gx_stand_ins.specs.SmallRepositories.{BeginsOtherwise}
use Rattle.gx_stand_ins.specs.declared.bodies.TheConstants.{NONCE}
use Rattle.gx_asked.specs.Asking.{HasOtherMessage}
use Rattle.gx_asked.specs.Entering.{Asks, AsksChange, AsksCommit, AsksCommitIsh, HasBase, HasBranch, IsWhy, Keeps}
use Rattle.gx_asked.specs.declared.asked.Asked.{Asked}
use Rattle.gx_asked.specs.declared.fault.AskedFault.{AskedFault}
use Rattle.gx_asked.specs.declared.fault.AskedFault.TheVariants.{OutOfMemory, Unread, StandsForAnother}

one_more : {X Y : Type 0} (P : Y → Type 0) (f : X → Y) (xs : List X) (i : ℕ) (x : X) → i < length xs → x ≡ get_or xs i x → AllByRecursion P (map f (take i xs)) → P (f x) → AllByRecursion P (map f (take (suc i) xs))
one_more P f [] i x l e h p = absurd (omega (arith, l))
one_more P f (y ∷ xs) zero x l e h p = (subst (λ z. P (f z)) e p, tt)
one_more P f (y ∷ xs) (suc i) x l e h p = (h.0, one_more P f xs i x (omega (arith, l)) e h.1 p)

-- what holds of the first ones and of the next
pub all_next : {X Y : Type 0} (P : Y → Type 0) (f : X → Y) (xs : List X) (i : ℕ) (x : X) → i < length xs → x ≡ get_or xs i x → AllByRecursion P (map f (take i xs)) → P (f x) → AllByRecursion P (map f (take (i + 1) xs))
all_next P f xs i x l e h p = let on : suc i ≡ i + 1 = omega arith in subst (λ n. AllByRecursion P (map f (take n xs))) on (one_more P f xs i x l e h p)

-- of all, and so of one
pub all_at : {X Y : Type 0} (P : Y → Type 0) (f : X → Y) (xs : List X) (i : ℕ) (x : X) → i < length xs → x ≡ get_or xs i x → AllByRecursion P (map f xs) → P (f x)
all_at P f [] i x l e h = absurd (omega (arith, l))
all_at P f (y ∷ xs) zero x l e h = subst (λ z. P (f z)) (sym e) h.0
all_at P f (y ∷ xs) (suc i) x l e h = all_at P f xs i x (omega (arith, l)) e h.1

-- ---- answers

pub on_ok : {E : Type 0} (r : Result (Unit {0}) E) (P Q : Type 0) → (P → Q) → OnOk r P → OnOk r Q
on_ok (Ok x) P Q more h = more h
on_ok (Err e) P Q more h = tt

pub why_more : (P Q : Type 0) → (Q → P) → (f : AskedFault) → IsWhy P f → IsWhy Q f
why_more P Q less OutOfMemory h = tt
why_more P Q less (Unread fault) h = h
why_more P Q less StandsForAnother h = λ q. h (less q)

pub if_why : (r : Result (Unit {0}) AskedFault) (P Q : Type 0) → (Q → P) → IfErr r (IsWhy P) → IfErr r (IsWhy Q)
if_why (Ok x) P Q less h = tt
if_why (Err f) P Q less h = why_more P Q less f h

-- ---- commands

module _ {A : Type 0} where
  pub keeps_same : (asked : Asked A) → Keeps asked asked
  keeps_same asked = record { branches = λ text h. h; bases = λ text h. h }

  pub keeps_more : (first second third : Asked A) → Keeps first second → Keeps second third → Keeps first third
  keeps_more first second third h k = record { branches = λ text e. k.branches text (h.branches text e); bases = λ text e. k.bases text (h.bases text e) }

  -- what was asked for and entered stays entered
  module _ (old new : Asked A) (kept : Keeps old new) where
    pub command_kept : (c : Command) → Asks old c → Asks new c
    command_kept = command_more (HasBranch old) (HasBranch new) (HasBase old) (HasBase new) (BeginsOtherwise NONCE) (BeginsOtherwise NONCE) HasOtherMessage HasOtherMessage kept.branches kept.bases (λ x h. h) (λ t h. h)

    pub commands_kept : (cs : List Command) → AllByRecursion (Asks old) cs → AllByRecursion (Asks new) cs
    commands_kept [] h = tt
    commands_kept (c ∷ cs) h = (command_kept c h.0, commands_kept cs h.1)

    pub commits_kept : (cs : List CommitIsh) → AllByRecursion (AsksCommitIsh old) cs → AllByRecursion (AsksCommitIsh new) cs
    commits_kept = all_more (HasBranch old) (HasBranch new) (HasBase old) (HasBase new) (BeginsOtherwise NONCE) (BeginsOtherwise NONCE) HasOtherMessage HasOtherMessage kept.branches kept.bases (λ x h. h) (λ t h. h)

    pub commit_kept : (c : Option CommitIsh) → IfSome c (AsksCommitIsh old) → IfSome c (AsksCommitIsh new)
    commit_kept = some_more (HasBranch old) (HasBranch new) (HasBase old) (HasBase new) (BeginsOtherwise NONCE) (BeginsOtherwise NONCE) HasOtherMessage HasOtherMessage kept.branches kept.bases (λ x h. h) (λ t h. h)

    pub changes_kept : (cs : List Change) → AllByRecursion (AsksChange old) cs → AllByRecursion (AsksChange new) cs
    changes_kept = changes_more (HasBranch old) (HasBranch new) (HasBase old) (HasBase new) (BeginsOtherwise NONCE) (BeginsOtherwise NONCE) HasOtherMessage HasOtherMessage kept.branches kept.bases (λ x h. h) (λ t h. h)

  -- a commit, part by part
  pub commit_entered : (parts : CommitParts) (first second third last : Asked A) → HasBranch first parts.ref → HasOtherMessage (text_made parts) → Keeps first second → IfSome parts.parent (AsksCommitIsh second)
      → Keeps second third → AllByRecursion (AsksCommitIsh third) parts.merges → Keeps third last → AllByRecursion (AsksChange last) parts.changes → AsksCommit last parts
  commit_entered parts first second third last ref text k parent m merges n changes =
      record {
        ref = n.branches parts.ref (m.branches parts.ref (k.branches parts.ref ref));
        text = text;
        parent = commit_kept second last (keeps_more second third last m n) parts.parent parent;
        merges = commits_kept third last n parts.merges merges;
        changes = changes;
      }
