-- Records that are put are held from then on.
use Rattle.std.proofs.Common.{◌≡◌, true, false, cond, List, [], ◌∷◌, ◌++◌, Option, Some, None, Result, Ok, Err, refl, sym, ap, ◌∙◌, subst}
use Rattle.std.specs.Prelude.{IfOk}
use Rattle.std.specs.List.{AllByRecursion}
use Rattle.std.proofs.lemmas.Bool.{and_parts, false≢true}
use Rattle.gx_model.specs.declared.objects.Kind.{Kind}
use Rattle.gx_model.specs.declared.objects.Kind.TheVariants.{Blob, Tree, Commit, Tag}
use Rattle.gx_model.specs.Texts.{Bytes, same_bytes}
use Rattle.gx_model.specs.Histories.Files.{FileMap}
use Rattle.gx_model.specs.Histories.{Record}
use Rattle.gx_model.specs.Records.Growth.{put, put_all, put_under, record_named, same_kind, same_object, tree_records}
use Rattle.std.specs.Option.{option_and_then}
use Rattle.gx_model.specs.Objects.NameMaps.{IsHeldTree, IsNameMap}
use Rattle.gx_object.specs.declared.name.Name.{Name}
use Rattle.gx_tree.specs.declared.fault.TreeFault.{TreeFault}
use Rattle.gx_tree.specs.Writes.{PutsAll, map_name}
use Rattle.gx_tree.proofs.Texts.{bytes_are, same_itself}

-- the record that a name finds is found before more records
pub found_before : (rs more : List Record) (n : Bytes) (s : Record) → record_named rs n ≡ Some s → record_named (rs ++ more) n ≡ Some s
found_before [] more n s e = absurd (cc)
found_before (r ∷ rs) more n s e =
    elim (same_bytes n r.name) as (λ b. cond b (Some r) (record_named rs n) ≡ Some s → cond b (Some r) (record_named (rs ++ more) n) ≡ Some s) [
      | true ↦ λ k. k
      | false ↦ λ k. found_before rs more n s k
    ] e

-- the last record is found, where its name was free
found_last : (rs : List Record) (r : Record) → record_named rs r.name ≡ None → record_named (rs ++ r ∷ []) r.name ≡ Some r
found_last [] r e = ap (λ b. cond b (Some r) None) (same_itself r.name)
found_last (s ∷ rs) r e =
    elim (same_bytes r.name s.name) as (λ b. cond b (Some s) (record_named rs r.name) ≡ None → cond b (Some s) (record_named (rs ++ r ∷ []) r.name) ≡ Some r) [
      | true ↦ λ k. absurd (cc)
      | false ↦ λ k. found_last rs r k
    ] e

-- what a name finds has the name
found_name : (rs : List Record) (n : Bytes) (s : Record) → record_named rs n ≡ Some s → s.name ≡ n
found_name [] n s e = absurd (cc)
found_name (r ∷ rs) n s e =
    elim (same_bytes n r.name) as (λ b. same_bytes n r.name ≡ b → cond b (Some r) (record_named rs n) ≡ Some s → s.name ≡ n) [
      | true ↦ λ t k. let is : r ≡ s = cc in ap (λ (z : Record). z.name) (sym is) ∙ sym (bytes_are n r.name t)
      | false ↦ λ t k. found_name rs n s k
    ] refl e

kind_is : (k l : Kind) → same_kind k l ≡ true → k ≡ l
kind_is Blob Blob e = refl
kind_is Tree Tree e = refl
kind_is Commit Commit e = refl
kind_is Tag Tag e = refl
kind_is _ _ e = absurd (false≢true e)

-- a record that is the same object under the same name
one_record : (s r : Record) → s.name ≡ r.name → same_object s r ≡ true → s ≡ r
one_record s r n e =
    let h = and_parts (same_kind s.kind r.kind) (same_bytes s.body r.body) e in
    let k = kind_is s.kind r.kind h.0 in
    let b = bytes_are s.body r.body h.1 in
    λ i. record { name = n i; kind = k i; body = b i }

-- what a put holds: its record, and what was held
pub record Holds (old new : List Record) (r : Record) : Type 0 where
  pub its : record_named new r.name ≡ Some r
  pub older : (n : Bytes) (s : Record) → record_named old n ≡ Some s → record_named new n ≡ Some s

pub put_holds : (old new : List Record) (r : Record) → put old r ≡ Some new → Holds old new r
put_holds old new r e = by (record_named old r.name) refl e
  where
    by : (o : Option Record) → record_named old r.name ≡ o → put_under o old r ≡ Some new → Holds old new r
    by None free k =
        let is : old ++ r ∷ [] ≡ new = cc in
        subst (λ z. Holds old z r) is (record { its = found_last old r free; older = λ n s h. found_before old (r ∷ []) n s h })
    by (Some s) found k =
        elim (same_object s r) as (λ b. same_object s r ≡ b → cond b (Some old) None ≡ Some new → Holds old new r) [
          | true ↦ λ same j.
              let is : old ≡ new = cc in
              subst (λ z. Holds old z r) is (record { its = found ∙ ap Some (one_record s r (found_name old r.name s found) same); older = λ n t h. h })
          | false ↦ λ same j. absurd (cc)
        ] refl k

after_first : (r : Record) (rs old new : List Record) (P : Type 0) → ((mid : List Record) → put old r ≡ Some mid → put_all mid rs ≡ Some new → P) → put_all old (r ∷ rs) ≡ Some new → P
after_first r rs old new P then e =
    elim (put old r) as (λ o. put old r ≡ o → option_and_then (λ z. put_all z rs) o ≡ Some new → P) [
      | None ↦ λ k j. absurd (cc)
      | Some mid ↦ λ k j. then mid k j
    ] refl e

pub still_held : (rs old new : List Record) (n : Bytes) (s : Record) → put_all old rs ≡ Some new → record_named old n ≡ Some s → record_named new n ≡ Some s
still_held [] old new n s e h = let is : old ≡ new = cc in subst (λ z. record_named z n ≡ Some s) is h
still_held (r ∷ rs) old new n s e h = after_first r rs old new (record_named new n ≡ Some s) (λ mid k j. still_held rs mid new n s j ((put_holds old mid r k).older n s h)) e

pub all_held : (rs old new : List Record) → put_all old rs ≡ Some new → AllByRecursion (λ r. record_named new r.name ≡ Some r) rs
all_held [] old new e = tt
all_held (r ∷ rs) old new e =
    after_first r rs old new (AllByRecursion (λ s. record_named new s.name ≡ Some s) (r ∷ rs)) (λ mid k j. (still_held rs mid new r.name r j (put_holds old mid r k).its, all_held rs mid new j)) e

-- a tree that was written is held
pub held_if_written : (name : Kind → Bytes → Bytes) (old new : List Record) (r : Result Name TreeFault) (g : FileMap Bytes) → IsNameMap g → IfOk r (λ n. n.bytes ≡ map_name name g) → PutsAll (tree_records name g) old new r
    → IfOk r (λ n. IsHeldTree name new n.bytes g)
held_if_written name old new (Ok n) g m named e = record { map = m; named = named; held = all_held (tree_records name g) old new e }
held_if_written name old new (Err f) g m named e = tt
