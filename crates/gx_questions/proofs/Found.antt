-- What a look-up tells of an object that is held: its kind and its body, a commit's parts, and a tree's entries.
use Rattle.std.proofs.Common.{◌≡◌, ◌≢◌, ◌⊎◌, inl, inr, Option, None, Some, List, [], refl, sym, ap, ◌∙◌}
use Rattle.std.specs.Prelude.{IfSome}
use Rattle.gx_model.specs.declared.objects.Kind.{Kind}
use Rattle.gx_model.specs.declared.objects.Kind.TheVariants as kind
use Rattle.gx_model.specs.Texts.{Bytes}
use Rattle.gx_model.specs.Histories.{Record, Records}
use Rattle.gx_model.specs.Objects.{CommitParts, Entry, IsCommitText, IsNamer, IsTreeText}
use Rattle.gx_model.specs.Records.{parts_of_commit}
use Rattle.gx_model.specs.Records.Growth.{record_named}
use Rattle.gx_model.specs.Records.HistoryOf.{entries_in, files_of_tree}
use Rattle.gx_model.specs.Records.Sound.{IsSound}
use Rattle.gx_model.proofs.ObjectTexts.BodiesReadBack.{entries_read}
use Rattle.gx_model.proofs.ObjectTexts.TreePaths.{entries_of}
use Rattle.gx_model.proofs.Records.HeldTrees.{tree_text_held}
use Rattle.gx_model.proofs.Records.HeldValues.{commit_text_held, got, held_is, kind_held}
use Rattle.gx_object.specs.declared.name.Name.{Name}
use Rattle.gx_objects.specs.Answers.{Holds}
use Rattle.gx_objects.specs.declared.objects.Object.{Object}
use Rattle.gx_rev.specs.Objects.{IsHeld, IsHeldAs, commit_at, entries_at, value_at}
use Rattle.gx_questions.specs.Answers.{IfTold}
use Rattle.gx_questions.specs.Objects.{AreEntriesAt, IsCommitAt, IsObjectAt}

-- a kind that is one of the others
pub no_commit_kind : (k : Kind) → (k ≡ kind.Blob) ⊎ (k ≡ kind.Tree) ⊎ (k ≡ kind.Tag) → k ≢ kind.Commit
no_commit_kind k (inl e) d = let l : kind.Blob ≡ kind.Commit = sym e ∙ d in cc l
no_commit_kind k (inr (inl e)) d = let l : kind.Tree ≡ kind.Commit = sym e ∙ d in cc l
no_commit_kind k (inr (inr e)) d = let l : kind.Tag ≡ kind.Commit = sym e ∙ d in cc l

pub no_tree_kind : (k : Kind) → (k ≡ kind.Blob) ⊎ (k ≡ kind.Commit) ⊎ (k ≡ kind.Tag) → k ≢ kind.Tree
no_tree_kind k (inl e) d = let l : kind.Blob ≡ kind.Tree = sym e ∙ d in cc l
no_tree_kind k (inr (inl e)) d = let l : kind.Commit ≡ kind.Tree = sym e ∙ d in cc l
no_tree_kind k (inr (inr e)) d = let l : kind.Tag ≡ kind.Tree = sym e ∙ d in cc l

module _ (name : Kind → Bytes → Bytes) (namer : IsNamer name) where
  -- the repository that is told is sound
  abbrev pub Sound : Option Records → Type 0
  Sound told = IfSome told (IsSound name)

  pub object_is : (told : Option Records) (n : Name) (o : Object) → Sound told → IfTold told IsHeld n → IfSome told (λ r. Holds n.bytes r (Some o)) → IfTold told (IsObjectAt name n) o
  object_is None n o s h f = tt
  object_is (Some r) n o s h f =
      let same = got name namer r s n.bytes (o.kind, o.body.now) h f in
      record { kind = ap (λ p. p.0) same; body = ap (λ p. p.1) same }

  -- what is held as of a kind is held
  pub is_held : (told : Option Records) (k : Kind) (n : Name) → Sound told → IfTold told (IsHeldAs k) n → IfTold told IsHeld n
  is_held None k n s h = tt
  is_held (Some r) k n s h = (kind_held name namer r s k n.bytes h).0

  -- and is found as of that kind
  pub not_other : (told : Option Records) (k : Kind) (n : Name) (o : Object) → Sound told → IfTold told (IsHeldAs k) n → IfTold told (IsObjectAt name n) o → o.kind ≢ k → told ≡ None
  not_other None k n o s h f d = refl
  not_other (Some r) k n o s h f d = absurd (d (f.kind ∙ (kind_held name namer r s k n.bytes h).1))

  -- ---- commits

  -- a body that decodes as one text alone
  pub commit_is : (told : Option Records) (n : Name) (o : Object) (parts : CommitParts) → Sound told → IfTold told (IsHeldAs kind.Commit) n → IfTold told (IsObjectAt name n) o
      → ((written : CommitParts) → IsCommitText written o.body.now → parts ≡ written) → IfTold told (IsCommitAt name n) (o.body, parts)
  commit_is None n o parts s h f only = tt
  commit_is (Some r) n o parts s h f only =
      record { body = f.body; parts = only (parts_of_commit name (commit_at r n)) (commit_text_held name namer r s n.bytes o.body.now h f.body) }

  pub commit_reads : (told : Option Records) (n : Name) (o : Object) → Sound told → IfTold told (IsHeldAs kind.Commit) n → IfTold told (IsObjectAt name n) o
      → ((written : CommitParts) → IsCommitText written o.body.now → ⊥) → told ≡ None
  commit_reads None n o s h f only = refl
  commit_reads (Some r) n o s h f only = absurd (only (parts_of_commit name (commit_at r n)) (commit_text_held name namer r s n.bytes o.body.now h f.body))

  -- ---- trees

  -- the entries that a held tree's body has
  entries_found : (r : Records) (n : Name) (es : List Entry) (body : Bytes) (found : Record) → record_named r.records n.bytes ≡ Some found → found.body ≡ body → IsTreeText es body → entries_at r n ≡ es
  entries_found r n es body found f b t =
      ap (λ (p : Option Record). elim p [ None ↦ [] | Some held ↦ entries_in held.body ]) f ∙ ap entries_in b ∙ entries_read es body t

  -- the entries that a held tree's body writes
  pub record AreWritten (r : Records) (n : Name) (o : Object) : Type 0 where
    pub text : IsTreeText (entries_of name namer (files_of_tree (value_at r n))) o.body.now
    pub named : entries_at r n ≡ entries_of name namer (files_of_tree (value_at r n))

  pub entries_written : (r : Records) (n : Name) (o : Object) → IsSound name r → IsHeldAs kind.Tree r n → IsObjectAt name n r o → AreWritten r n o
  entries_written r n o s h f =
      let is = held_is name namer r s n.bytes (kind_held name namer r s kind.Tree n.bytes h).0 in
      let text = tree_text_held name namer r s n.bytes o.body.now h f.body in
      record { text = text; named = entries_found r n (entries_of name namer (files_of_tree (value_at r n))) o.body.now _ is.found (sym f.body) text }

  pub entries_are : (told : Option Records) (n : Name) (o : Object) (found : List Entry) → Sound told → IfTold told (IsHeldAs kind.Tree) n → IfTold told (IsObjectAt name n) o
      → IsTreeText found o.body.now → ((written : List Entry) → IsTreeText written o.body.now → found ≡ written) → IfTold told (AreEntriesAt name n) found
  entries_are None n o found s h f t only = tt
  entries_are (Some r) n o found s h f t only =
      let is = held_is name namer r s n.bytes (kind_held name namer r s kind.Tree n.bytes h).0 in
      record {
        named = sym (entries_found r n found o.body.now _ is.found (sym f.body) t);
        of_files = only (entries_of name namer (files_of_tree (value_at r n))) (tree_text_held name namer r s n.bytes o.body.now h f.body);
      }

  pub tree_reads : (told : Option Records) (n : Name) (o : Object) → Sound told → IfTold told (IsHeldAs kind.Tree) n → IfTold told (IsObjectAt name n) o
      → ((written : List Entry) → IsTreeText written o.body.now → ⊥) → told ≡ None
  tree_reads None n o s h f only = refl
  tree_reads (Some r) n o s h f only = absurd (only (entries_of name namer (files_of_tree (value_at r n))) (tree_text_held name namer r s n.bytes o.body.now h f.body))
