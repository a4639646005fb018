-- Objects that are listed, as the records that they are: their numbers are the places of records, and what a record names has a lower
-- one.
use Rattle.std.proofs.Common.{◌≡◌, inl, inr, ℕ, zero, suc, ◌+◌, ◌<◌, Bool, true, false, cond, List, [], ◌∷◌, length, map, take, Option, Some, None, refl, sym, ap, ◌∙◌, subst, arith}
use Rattle.std.specs.Prelude.{◌||◌, nat_lt, not}
use Rattle.std.specs.List.{AllByRecursion, filter_map, list_any, position_or_len, slice_get}
use Rattle.std.specs.Bool.{passes}
use Rattle.std.specs.Option.{option_map}
use Rattle.std.proofs.lemmas.Bool.{false≢true, false_from_ne_true}
use Rattle.std.proofs.lemmas.Bool.Decides.{nat_tests}
use Rattle.std.proofs.lemmas.List.{length-map}
use Rattle.std.proofs.lemmas.Option.{cond_some}
use Rattle.gx_model.specs.declared.objects.Kind.{Kind}
use Rattle.gx_model.specs.declared.objects.Kind.TheVariants as kinds
use Rattle.gx_model.specs.declared.objects.Mode.{Mode}
use Rattle.gx_model.specs.declared.objects.Mode.TheVariants.{Dir, Exec, File, Gitlink, Link}
use Rattle.gx_model.specs.Texts.{Bytes, same_bytes}
use Rattle.gx_model.specs.Histories.{AreDistinct, Record, Records}
use Rattle.gx_model.specs.Objects.{CommitParts, Entry, TagParts}
use Rattle.gx_model.specs.Pruning.{link_of, links_of}
use Rattle.gx_model.specs.Records.Growth.{record_named}
use Rattle.gx_model.specs.Records.Publishing.{Ref}
use Rattle.gx_model.specs.Records.Sound.{AnyByRecursion, Holds, IsHeldAs, IsLinked, IsSound, IsTarget}
use Rattle.gx_model.proofs.ObjectTexts.BodiesReadBack.{commit_read, entries_read, tag_read}
use Rattle.gx_model.proofs.Texts.PathTests.{is_same, is_true, same_is}
use Rattle.gx_store.specs.Stores.{place_named}
use Rattle.gx_repo.specs.Pruning.{objects_held}
use Rattle.gx_repo.proofs.Places.{found_before, held_by_all, held_nowhere, is_place, no_place, no_record}
use Rattle.gx_repo.proofs.PrunedRecords.{entry_links, gitlink_links, store_sound}
use Rattle.gx_repo.proofs.RecordRooms.{linked_at}
use Rattle.gx_listed.proofs.Numbers.{position_step}
use Rattle.gx_listed.specs.Listings.{HaveHeads, Listed, head_of, number_named, shown_head}
use Rattle.gx_kept.specs.Marking.{IsBelow}

-- ---- numbers

same_position : (n : Bytes) (listed : List Listed) (rs : List Record) → HaveHeads listed rs → position_or_len (λ one. same_bytes n one.0.bytes) listed ≡ position_or_len (λ held. same_bytes n held.name) rs
same_position n [] [] h = refl
same_position n [] (r ∷ rs) h = absurd (cc)
same_position n (o ∷ os) [] h = absurd (cc)
same_position n (o ∷ os) (r ∷ rs) h =
    let one : shown_head o ≡ head_of r = cc in
    let more : map shown_head os ≡ map head_of rs = cc in
    let rest = same_position n os rs more in
    λ i. cond (not (same_bytes n (one i).name)) (1 + rest i) 0

-- as many are listed as there are records
pub same_length : (listed : List Listed) (rs : List Record) → HaveHeads listed rs → length listed ≡ length rs
same_length listed rs h = sym (length-map listed shown_head) ∙ ap length h ∙ length-map rs head_of

-- the number of a name is the place of its record
pub number_is : (n : Bytes) (listed : List Listed) (rs : List Record) → HaveHeads listed rs → number_named listed n ≡ place_named rs n
number_is n listed rs h =
    let at = same_position n listed rs h in
    let long = same_length listed rs h in
    λ i. cond (nat_lt (at i) (long i)) (Some (at i)) None

-- the number of a name is one of those that are listed
pub within_listed : (listed : List Listed) (n : Bytes) (i : ℕ) → Some i ≡ number_named listed n → i < length listed
within_listed listed n i e =
    let k = position_or_len (λ one. same_bytes n one.0.bytes) listed in
    let q = cond_some (nat_lt k (length listed)) k i (sym e) in
    let l : nat_lt k (length listed) ≡ true = q.0 in
    let m : k ≡ i = q.1 in
    grind (arith, nat_tests)

-- what is listed under a number is the record of that place
pub record_listed : (listed : List Listed) (rs : List Record) (k : ℕ) (one : Listed) → HaveHeads listed rs → slice_get listed k ≡ Some one → (held : Record) × (slice_get rs k ≡ Some held) × (shown_head one ≡ head_of held)
record_listed [] rs k one h e = absurd (cc)
record_listed (o ∷ os) [] k one h e = absurd (cc)
record_listed (o ∷ os) (r ∷ rs) zero one h e =
    let head : shown_head o ≡ head_of r = cc in
    let same : o ≡ one = cc in
    (r, refl, ap shown_head (sym same) ∙ head)
record_listed (o ∷ os) (r ∷ rs) (suc k) one h e = let more : map shown_head os ≡ map head_of rs = cc in record_listed os rs k one more e

-- each number below their count is that of one
pub one_listed : (listed : List Listed) (k : ℕ) → k < length listed → (one : Listed) × (Some one ≡ slice_get listed k)
one_listed [] k l = absurd (omega (arith, l))
one_listed (o ∷ os) zero l = (o, refl)
one_listed (o ∷ os) (suc k) l = one_listed os k (omega (arith, l))

pub some_listed : (listed : List Listed) (k : ℕ) → k < length listed → None ≡ slice_get listed k → ⊥
some_listed listed k l none = let x = one_listed listed k l in let clash : None ≡ Some x.0 = none ∙ sym x.1 in cc clash

-- ---- the own number of a record

-- a name that no record has isn't that of one of them
other_there : (n : Bytes) (rs : List Record) (k : ℕ) (held : Record) → list_any (same_bytes n) (map (λ r. r.name) rs) ≡ false → slice_get rs k ≡ Some held → held.name ≡ n → ⊥
other_there n [] k held f e s = absurd (cc)
other_there n (r ∷ rs) k held f e s = by (same_bytes n r.name) refl k f e (other_there n rs)
  where
    by : (b : Bool) → same_bytes n r.name ≡ b → (k : ℕ) → (b || list_any (same_bytes n) (map (λ r. r.name) rs)) ≡ false → slice_get (r ∷ rs) k ≡ Some held
        → ((j : ℕ) (held : Record) → list_any (same_bytes n) (map (λ r. r.name) rs) ≡ false → slice_get rs j ≡ Some held → held.name ≡ n → ⊥) → ⊥
    by true g k f e again = false≢true (sym f)
    by false g zero f e again =
        let same : r ≡ held = cc in
        false≢true (sym g ∙ is_true _ (is_same n r.name (sym (ap (λ (x : Record). x.name) same ∙ s))))
    by false g (suc k) f e again = again k held f e s

-- a record stands under its own name where all names differ
pub own_place : (rs : List Record) (k : ℕ) (held : Record) → AreDistinct (map (λ r. r.name) rs) → slice_get rs k ≡ Some held → place_named rs held.name ≡ Some k
own_place [] k held d e = absurd (cc)
own_place (r ∷ rs) zero held d e =
    let same : r ≡ held = cc in
    position_step (λ x. same_bytes held.name x.name) r rs ∙ ap (λ b. cond b (Some 0) (option_map suc (place_named rs held.name))) (is_true _ (is_same held.name r.name (ap (λ (x : Record). x.name) (sym same))))
own_place (r ∷ rs) (suc k) held d e =
    let turned : same_bytes held.name r.name ≡ false = false_from_ne_true _ (λ t. other_there r.name rs k held d.0 e (same_is held.name r.name (passes _ t))) in
    position_step (λ x. same_bytes held.name x.name) r rs ∙ ap (λ b. cond b (Some 0) (option_map suc (place_named rs held.name))) turned ∙ ap (option_map suc) (own_place rs k held d.1 e)

pub own_record : (rs : List Record) (k : ℕ) (held : Record) → AreDistinct (map (λ r. r.name) rs) → slice_get rs k ≡ Some held → record_named rs held.name ≡ Some held
own_record [] k held d e = absurd (cc)
own_record (r ∷ rs) zero held d e =
    let same : r ≡ held = cc in
    ap (λ b. cond b (Some r) (record_named rs held.name)) (is_true _ (is_same held.name r.name (ap (λ (x : Record). x.name) (sym same)))) ∙ ap Some same
own_record (r ∷ rs) (suc k) held d e =
    let turned : same_bytes held.name r.name ≡ false = false_from_ne_true _ (λ t. other_there r.name rs k held d.0 e (same_is held.name r.name (passes _ t))) in
    ap (λ b. cond b (Some r) (record_named rs held.name)) turned ∙ own_record rs k held d.1 e

-- in front of it, no record has its name
pub front_lacks : (rs : List Record) (k : ℕ) (held : Record) → AreDistinct (map (λ r. r.name) rs) → slice_get rs k ≡ Some held → place_named (take k rs) held.name ≡ None
front_lacks [] k held d e = absurd (cc)
front_lacks (r ∷ rs) zero held d e = refl
front_lacks (r ∷ rs) (suc k) held d e =
    let turned : same_bytes held.name r.name ≡ false = false_from_ne_true _ (λ t. other_there r.name rs k held d.0 e (same_is held.name r.name (passes _ t))) in
    position_step (λ x. same_bytes held.name x.name) r (take k rs) ∙ ap (λ b. cond b (Some 0) (option_map suc (place_named (take k rs) held.name))) turned ∙ ap (option_map suc) (front_lacks rs k held d.1 e)

-- ---- what a record names

module _ (rs : List Record) (k : ℕ) where
  -- the record of a name stands before a place
  abbrev pub StandsBefore : Bytes → Type 0
  StandsBefore n = (i : ℕ) × (place_named rs n ≡ Some i) × (i < k)

  before_of : (P : Record → Type 0) (n : Bytes) → ((r : Record) → P r → r.name ≡ n) → AnyByRecursion P (take k rs) → StandsBefore n
  before_of P n named a = by (place_named rs n) refl
    where
      by : (o : Option ℕ) → place_named rs n ≡ o → StandsBefore n
      by None e = absurd (held_nowhere P n named rs (no_place rs n e) (held_by_all P k rs a))
      by (Some i) e = (i, e, found_before P n named k rs i (λ j l. (is_place rs n i e).earlier j no_record l) a)

  kind_before : (of : Kind) (n : Bytes) → Holds (take k rs) of n → StandsBefore n
  kind_before of n h = before_of (λ held. (held.kind ≡ of) × (held.name ≡ n)) n (λ r p. p.1) h

  entries_before : (es : List Entry) → AllByRecursion (λ e. IsHeldAs (take k rs) e.mode e.name) es → AllByRecursion StandsBefore (filter_map link_of es)
  entries_before [] h = tt
  entries_before (e ∷ es) h = by e.mode refl h.0 (entries_before es h.1)
    where
      more : StandsBefore e.name → AllByRecursion StandsBefore (filter_map link_of es) → (e.mode ≡ Gitlink → ⊥) → AllByRecursion StandsBefore (filter_map link_of (e ∷ es))
      more one rest other = subst (AllByRecursion StandsBefore) (sym (entry_links e es other)) (one, rest)

      by : (m : Mode) → e.mode ≡ m → IsHeldAs (take k rs) m e.name → AllByRecursion StandsBefore (filter_map link_of es) → AllByRecursion StandsBefore (filter_map link_of (e ∷ es))
      by File q a rest = more (kind_before kinds.Blob e.name a) rest (λ g. absurd (let clash = sym q ∙ g in cc clash))
      by Exec q a rest = more (kind_before kinds.Blob e.name a) rest (λ g. absurd (let clash = sym q ∙ g in cc clash))
      by Link q a rest = more (kind_before kinds.Blob e.name a) rest (λ g. absurd (let clash = sym q ∙ g in cc clash))
      by Dir q a rest = more (before_of _ e.name (λ r p. p.1) a) rest (λ g. absurd (let clash = sym q ∙ g in cc clash))
      by Gitlink q a rest = subst (AllByRecursion StandsBefore) (sym (gitlink_links e es q)) rest

  parents_before : (ns : List Bytes) → AllByRecursion (Holds (take k rs) kinds.Commit) ns → AllByRecursion StandsBefore ns
  parents_before [] h = tt
  parents_before (n ∷ ns) h = (kind_before kinds.Commit n h.0, parents_before ns h.1)

  pub linked_before : (of : Kind) (body : Bytes) → IsLinked (take k rs) of body → AllByRecursion StandsBefore (links_of of body)
  linked_before kinds.Blob body h = tt
  linked_before kinds.Tree body (es, t, h) = subst (λ xs. AllByRecursion StandsBefore (filter_map link_of xs)) (sym (entries_read es body t)) (entries_before es h)
  linked_before kinds.Commit body (p, t, h, hs) =
      subst (λ (q : CommitParts). AllByRecursion StandsBefore (q.tree ∷ q.parents)) (sym (commit_read p body t)) (kind_before kinds.Tree p.tree h, parents_before p.parents hs)
  linked_before kinds.Tag body (p, t, h) = subst (λ (q : TagParts). AllByRecursion StandsBefore (q.object ∷ [])) (sym (tag_read p body t)) (kind_before kinds.Commit p.object h, tt)

below_all : (listed : List Listed) (rs : List Record) (k : ℕ) → HaveHeads listed rs → (ns : List Bytes) → AllByRecursion (StandsBefore rs k) ns → AllByRecursion (IsBelow listed k) ns
below_all listed rs k h [] a = tt
below_all listed rs k h (n ∷ ns) a = ((a.0.0, number_is n listed rs h ∙ a.0.1, a.0.2), below_all listed rs k h ns a.1)

-- what a record of a sound repository names has a number below its own
pub links_below : (name : Kind → Bytes → Bytes) (r : Records) → IsSound name r → (listed : List Listed) → HaveHeads listed r.records → (k : ℕ) (held : Record) → slice_get r.records k ≡ Some held
    → AllByRecursion (IsBelow listed k) (links_of held.kind held.body)
links_below name r s listed h k held e =
    below_all listed r.records k h (links_of held.kind held.body) (linked_before r.records k held.kind held.body (linked_at name r.records k held (store_sound name r s) e))

-- and what its refs hold is listed
pub tips_below : (name : Kind → Bytes → Bytes) (r : Records) → IsSound name r → (listed : List Listed) → HaveHeads listed r.records → AllByRecursion (IsBelow listed (length listed)) (objects_held r.refs)
tips_below name r s listed h = by r.refs s.held
  where
    there : (P : Record → Type 0) (n : Bytes) → ((held : Record) → P held → held.name ≡ n) → AnyByRecursion P r.records → IsBelow listed (length listed) n
    there P n named a = at (place_named r.records n) refl
      where
        at : (o : Option ℕ) → place_named r.records n ≡ o → IsBelow listed (length listed) n
        at None e = absurd (held_nowhere P n named r.records (no_place r.records n e) a)
        at (Some i) e =
            let l : i < length r.records = (is_place r.records n i e).within in
            (i, number_is n listed r.records h ∙ e, subst (λ c. i < c) (sym (same_length listed r.records h)) l)

    one : (ref called : Bytes) → IsTarget r.records ref called → IsBelow listed (length listed) called
    one ref called (inl a) = there _ called (λ held p. p.1) a
    one ref called (inr a) = there _ called (λ held p. p.1) a

    by : (refs : List Ref) → AllByRecursion (λ ref. IsTarget r.records ref.0 ref.1) refs → AllByRecursion (IsBelow listed (length listed)) (objects_held refs)
    by [] a = tt
    by (q ∷ refs) a = (one q.0 q.1 a.0, by refs a.1)
