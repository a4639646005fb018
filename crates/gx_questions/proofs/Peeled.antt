-- The commit and the tree that a held object gives, and a commit's parents.
use Rattle.std.proofs.Common.{◌≡◌, ℕ, ◌-◌, ◌<◌, Option, None, Some, Ok, Err, refl, sym, ap, ◌∙◌}
use Rattle.std.specs.Prelude.{IfSome}
use Rattle.std.specs.Borrow.{Bor}
use Rattle.std.specs.List.{slice_get}
use Rattle.gx_model.specs.declared.faults.Fault.TheVariants as fault
use Rattle.gx_model.specs.declared.objects.Kind.{Kind}
use Rattle.gx_model.specs.declared.objects.Kind.TheVariants as kind
use Rattle.gx_model.specs.Texts.{Bytes}
use Rattle.gx_model.specs.Faults.{◌>>=◌}
use Rattle.gx_model.specs.Histories.{Records}
use Rattle.gx_model.specs.Objects.{CommitParts, IsNamer, IsTagText, TagParts}
use Rattle.gx_model.specs.Records.Sound.{IsSound}
use Rattle.gx_model.specs.Revisions.Denotation.{commit_in, files_in, nth_ancestor, nth_parent}
use Rattle.gx_model.proofs.ObjectTexts.BodiesReadBack.{tag_read}
use Rattle.gx_model.proofs.Records.HeldObjects.{IsShown, tag_peeled, tag_shown}
use Rattle.gx_model.proofs.Records.HeldValues.{held_is, held_kind, next_ancestor, parent_found, parent_none, peeled_to, tree_found}
use Rattle.gx_model.proofs.Records.LinkedValues.{is_commit, is_tree}
use Rattle.gx_object.specs.declared.name.Name.{Name}
use Rattle.gx_objects.specs.declared.objects.Object.{Object}
use Rattle.gx_rev.specs.Objects.{IsHeld, IsHeldAs, commit_at, files_at, value_at}
use Rattle.gx_questions.specs.Answers.{IfTold, Refuses}
use Rattle.gx_questions.specs.Objects.{IsCommitAt, IsObjectAt}
use Rattle.gx_questions.specs.declared.fault.AskFault.{AskFault}
use Rattle.gx_questions.proofs.Found.{Sound}
use Rattle.gx_questions.proofs.Told.{fails_first, given_alike}

module _ (name : Kind → Bytes → Bytes) (namer : IsNamer name) where
  -- this is the commit that an object gives
  abbrev pub GivesCommit : Option Records → Name → Name → Type 0
  GivesCommit told n c = IfSome told (λ r. commit_in (value_at r n) ≡ Ok (commit_at r c)) × IfTold told (IsHeldAs kind.Commit) c

  -- a commit gives itself
  pub itself : (told : Option Records) (n : Name) (o : Object) → Sound name namer told → IfTold told IsHeld n → o.kind ≡ kind.Commit → IfTold told (IsObjectAt name n) o → GivesCommit told n n
  itself None n o s h k f = (tt, tt)
  itself (Some r) n o s h k f =
      let e = sym f.kind ∙ k in
      (ap commit_in (is_commit name (value_at r n) e), held_kind name namer r s kind.Commit n.bytes h e)

  shown_as : (r : Records) → IsSound name r → (n : Name) (o : Object) → IsHeld r n → o.kind ≡ kind.Tag → IsObjectAt name n r o → IsShown r.records n.bytes kind.Tag o.body.now
  shown_as r s n o h k f =
      let is = held_is name namer r s n.bytes h in
      record { held = _; found = is.found; named = is.named; of_kind = sym f.kind ∙ k; of_body = sym f.body }

  -- a tag gives the commit that it names
  pub tagged : (told : Option Records) (n c : Name) (o : Object) (parts : TagParts) → Sound name namer told → IfTold told IsHeld n → o.kind ≡ kind.Tag → IfTold told (IsObjectAt name n) o
      → IsTagText parts o.body.now → c.bytes ≡ parts.object → GivesCommit told n c
  tagged None n c o parts s h k f t e = (tt, tt)
  tagged (Some r) n c o parts s h k f t e =
      let one : (other : TagParts) → IsTagText other o.body.now → Some c.bytes ≡ Some other.object =
      λ other is. ap Some (e ∙ ap (λ (q : TagParts). q.object) (sym (tag_read parts o.body.now t) ∙ tag_read other o.body.now is)) in
      peeled_to name namer r s n.bytes c.bytes h (tag_peeled name namer r s n.bytes o.body.now (shown_as r s n o h k f) (Some c.bytes) one)

  -- a held tag has parts
  pub tag_reads : (told : Option Records) (n : Name) (o : Object) → Sound name namer told → IfTold told IsHeld n → o.kind ≡ kind.Tag → IfTold told (IsObjectAt name n) o
      → ((written : TagParts) → IsTagText written o.body.now → ⊥) → told ≡ None
  tag_reads None n o s h k f only = refl
  tag_reads (Some r) n o s h k f only = let p = tag_shown name namer r s n.bytes o.body.now (shown_as r s n o h k f) in absurd (only p.0 p.1)

  -- ---- parents

  -- this is the commit that a commit has as this parent
  pub parent_is : (told : Option Records) (n p : Name) (k : ℕ) (found : Bor Bytes × CommitParts) → Sound name namer told → IfTold told (IsHeldAs kind.Commit) n → 0 < k → IfTold told (IsCommitAt name n) found
      → Some p.bytes ≡ slice_get found.1.parents (k - 1) → IfSome told (λ r. nth_parent k (commit_at r n) ≡ Ok (commit_at r p)) × IfTold told (IsHeldAs kind.Commit) p
  parent_is None n p k found s h l f e = (tt, tt)
  parent_is (Some r) n p k found s h l f e = parent_found name namer r s n.bytes p.bytes k h l (e ∙ ap (λ (q : CommitParts). slice_get q.parents (k - 1)) f.parts)

  pub no_parent : (told : Option Records) (n : Name) (k : ℕ) (found : Bor Bytes × CommitParts) → Sound name namer told → 0 < k → IfTold told (IsCommitAt name n) found
      → None ≡ slice_get found.1.parents (k - 1) → IfSome told (λ r. nth_parent k (commit_at r n) ≡ Err fault.NoParent)
  no_parent None n k found s l f e = tt
  no_parent (Some r) n k found s l f e = parent_none name namer r s n.bytes k l (e ∙ ap (λ (q : CommitParts). slice_get q.parents (k - 1)) f.parts)

  -- ---- trees

  -- this is the tree that an object gives
  abbrev pub GivesTree : Option Records → Name → Name → Type 0
  GivesTree told n t = IfSome told (λ r. files_in (value_at r n) ≡ Ok (files_at r t)) × IfTold told (IsHeldAs kind.Tree) t

  -- a tree gives itself
  pub tree_itself : (told : Option Records) (n : Name) (o : Object) → Sound name namer told → IfTold told IsHeld n → o.kind ≡ kind.Tree → IfTold told (IsObjectAt name n) o → GivesTree told n n
  tree_itself None n o s h k f = (tt, tt)
  tree_itself (Some r) n o s h k f =
      let e = sym f.kind ∙ k in
      (ap files_in (is_tree name (value_at r n) e), held_kind name namer r s kind.Tree n.bytes h e)

  -- a commit and a tag give the tree in the commit's body
  pub tree_is : (told : Option Records) (n c t : Name) (found : Bor Bytes × CommitParts) → Sound name namer told → IfTold told IsHeld n → GivesCommit told n c → IfTold told (IsCommitAt name c) found → t.bytes ≡ found.1.tree → GivesTree told n t
  tree_is None n c t found s h g f e = (tt, tt)
  tree_is (Some r) n c t found s h g f e = tree_found name namer r s n.bytes c.bytes t.bytes h g.0 g.1 (e ∙ ap (λ (q : CommitParts). q.tree) f.parts)

-- ---- first parents

-- so many first parents up from the one is so many from the other
abbrev pub LeadsOn : Option Records → Name → ℕ → Name → ℕ → Type 0
LeadsOn told from number to left = IfSome told (λ r. nth_ancestor number (commit_at r from) ≡ nth_ancestor left (commit_at r to))

pub one_up : (told : Option Records) (from to next : Name) (number left : ℕ) → 0 < left → LeadsOn told from number to left → IfSome told (λ r. nth_parent 1 (commit_at r to) ≡ Ok (commit_at r next)) → LeadsOn told from number next (left - 1)
one_up None from to next number left l h e = tt
one_up (Some r) from to next number left l h e = h ∙ next_ancestor left (commit_at r to) l ∙ ap (λ g. g >>= nth_ancestor (left - 1)) e

pub none_up : (told : Option Records) (from to : Name) (number left : ℕ) (e : AskFault) → 0 < left → LeadsOn told from number to left → Refuses told (λ r. nth_parent 1 (commit_at r to)) e → Refuses told (λ r. nth_ancestor number (commit_at r from)) e
none_up told from to number left e l h f =
    given_alike {X = Name} told commit_at (λ r. nth_parent 1 (commit_at r to) >>= nth_ancestor (left - 1)) (λ r. nth_ancestor number (commit_at r from)) (Err e) (so told h)
    (fails_first told (λ r. nth_parent 1 (commit_at r to)) (λ r. nth_ancestor (left - 1)) e f)
  where
    so : (told : Option Records) → LeadsOn told from number to left → IfSome told (λ r. nth_ancestor number (commit_at r from) ≡ (nth_parent 1 (commit_at r to) >>= nth_ancestor (left - 1)))
    so None h = tt
    so (Some r) h = h ∙ next_ancestor left (commit_at r to) l
