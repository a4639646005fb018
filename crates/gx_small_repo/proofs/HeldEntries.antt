-- What the entries of a held tree name is held.
use Rattle.std.proofs.Common.{◌≡◌, ◌⊎◌, inl, inr, true, false, cond, List, [], ◌∷◌, ◌++◌, Option, None, Some, sym, subst, ◌∙◌, append_assoc}
use Rattle.std.specs.Prelude.{IfSome}
use Rattle.std.specs.List.{AllByRecursion}
use Rattle.gx_model.specs.declared.objects.Kind.{Kind}
use Rattle.gx_model.specs.declared.objects.Kind.TheVariants as kind
use Rattle.gx_model.specs.declared.objects.Mode.{Mode}
use Rattle.gx_model.specs.declared.objects.Mode.TheVariants.{Dir, Exec, File, Gitlink, Link}
use Rattle.gx_model.specs.Texts.{Bytes, same_bytes}
use Rattle.gx_model.specs.Objects.{Entry, IsTreeText}
use Rattle.gx_model.specs.Histories.{Record, Records}
use Rattle.gx_model.specs.Records.Growth.{record_named}
use Rattle.gx_model.specs.Records.Sound.{AnyByRecursion, IsHeldAs, IsLinked, IsLinkedAfter, IsSound, IsTree}
use Rattle.gx_model.proofs.ObjectTexts.BodiesReadBack.{entries_read}
use Rattle.gx_model.proofs.Records.HeldObjects.{is_shown}
use Rattle.gx_object.specs.declared.name.Name.{Name}
use Rattle.gx_small_repo.specs.Small.{IsBodyOfTold, IsHeldByTold}

some_left : {X : Type 0} (P : X → Type 0) (xs ys : List X) → AnyByRecursion P xs → AnyByRecursion P (xs ++ ys)
some_left P [] ys h = absurd h
some_left P (x ∷ xs) ys (inl h) = inl h
some_left P (x ∷ xs) ys (inr h) = inr (some_left P xs ys h)

held_more : (xs ys : List Record) (m : Mode) (n : Bytes) → IsHeldAs xs m n → IsHeldAs (xs ++ ys) m n
held_more xs ys File n h = some_left _ xs ys h
held_more xs ys Exec n h = some_left _ xs ys h
held_more xs ys Link n h = some_left _ xs ys h
held_more xs ys Gitlink n h = tt
held_more xs ys Dir n h = some_left _ xs ys h

entries_more : (xs ys : List Record) (es : List Entry) → AllByRecursion (λ e. IsHeldAs xs e.mode e.name) es → AllByRecursion (λ e. IsHeldAs (xs ++ ys) e.mode e.name) es
entries_more xs ys [] h = tt
entries_more xs ys (e ∷ es) h = (held_more xs ys e.mode e.name h.0, entries_more xs ys es h.1)

-- the tree that a name finds has its links among all records
linked_named : (before rs : List Record) (n : Bytes) (r : Record) → IsLinkedAfter before rs → record_named rs n ≡ Some r → r.kind ≡ kind.Tree → IsTree (before ++ rs) r.body
linked_named before [] n r h e k = absurd (cc)
linked_named before (x ∷ xs) n r h e k =
    elim (same_bytes n x.name) as (λ b. cond b (Some x) (record_named xs n) ≡ Some r → IsTree (before ++ x ∷ xs) r.body) [
      | true ↦ λ i.
          let s : x ≡ r = cc i in
          let its = subst (λ j. IsLinked before j r.body) k (subst (λ (z : Record). IsLinked before z.kind z.body) s h.0) in
          (its.0, its.1, entries_more before (x ∷ xs) its.0 its.2)
      | false ↦ λ i. subst (λ z. IsTree z r.body) (append_assoc before (x ∷ []) xs) (linked_named (before ++ x ∷ []) xs n r h.1 i k)
    ] e

-- what these entries name is held in what is told
abbrev pub AreHeld : Option Records → List Entry → Type 0
AreHeld told es = IfSome told (λ whole. AllByRecursion (λ e. IsHeldAs whole.records e.mode e.name) es)

pub entries_held : (told : Option Records) (name : Kind → Bytes → Bytes) → IfSome told (IsSound name) → (called body : Bytes) → IsBodyOfTold told kind.Tree called body → (es : List Entry) → IsTreeText es body → AreHeld told es
entries_held None name sound called body h es text = tt
entries_held (Some whole) name sound called body h es text =
    let shown = is_shown whole.records called kind.Tree body h in
    let its = linked_named [] whole.records called shown.held sound.linked shown.found shown.of_kind in
    let same : its.0 ≡ es = sym (entries_read its.0 body (subst (IsTreeText its.0) shown.of_body its.1)) ∙ entries_read es body text in
    subst (AllByRecursion (λ e. IsHeldAs whole.records e.mode e.name)) same its.2

pub first_held : (told : Option Records) (before left : List Entry) (e : Entry) → AreHeld told before → before ≡ e ∷ left → IfSome told (λ whole. IsHeldAs whole.records e.mode e.name)
first_held None before left e h steps = tt
first_held (Some whole) before left e h steps = (subst (AllByRecursion (λ e. IsHeldAs whole.records e.mode e.name)) steps h).0

pub rest_held : (told : Option Records) (before left : List Entry) (e : Entry) → AreHeld told before → before ≡ e ∷ left → AreHeld told left
rest_held None before left e h steps = tt
rest_held (Some whole) before left e h steps = (subst (AllByRecursion (λ e. IsHeldAs whole.records e.mode e.name)) steps h).1

-- what a file names is a blob
pub blob_held : (told : Option Records) (m : Mode) (n : Name) → (m ≡ File) ⊎ (m ≡ Exec) ⊎ (m ≡ Link) → IsHeldByTold told m n → IsHeldByTold told File n
blob_held None m n is h = tt
blob_held (Some whole) m n (inl e) h = subst (λ k. IsHeldAs whole.records k n.bytes) e h
blob_held (Some whole) m n (inr (inl e)) h = subst (λ k. IsHeldAs whole.records k n.bytes) e h
blob_held (Some whole) m n (inr (inr e)) h = subst (λ k. IsHeldAs whole.records k n.bytes) e h
