-- What is placed: those of before stand in front, each given one under its name, and none else.
use Rattle.std.proofs.Common.{◌≡◌, ℕ, zero, suc, true, false, Bool, cond, sym, ap, ◌∙◌, refl, subst, List, [], ◌∷◌, ◌++◌, length, Option, Some, None, inl, inr, append_assoc, append-nil}
use Rattle.std.specs.Prelude.{Ok, Err, Result, not}
use Rattle.std.specs.Bool.{passes}
use Rattle.std.specs.List.{AllByRecursion}
use Rattle.gx_model.specs.declared.objects.Kind.{Kind}
use Rattle.gx_model.specs.Texts.{Bytes, same_bytes}
use Rattle.gx_model.specs.Faults.{◌>>=◌}
use Rattle.gx_model.specs.Histories.{Record}
use Rattle.gx_model.specs.Records.Growth.{record_named, same_kind, same_object}
use Rattle.gx_model.specs.Records.RecordFaults.{is_bad_below, is_body}
use Rattle.gx_model.proofs.Records.GrownRecords.{kind_is}
use Rattle.gx_model.proofs.Records.HeldObjects.{named_so}
use Rattle.gx_model.proofs.Records.TakenRecords.{all_named}
use Rattle.gx_model.proofs.Texts.PathTests.{first, second, same_is}
use Rattle.gx_wide.specs.Placing.{BadObject, Dangling, NameHeld, Placed, link_placed, links_placed, put_last, wide_links}
use Rattle.gx_placed.specs.Placed.{ArePlaced, IsOneOf, others, placed_all, placed_in_order, placed_within}
use Rattle.gx_placed.proofs.Lookups.{behind_front, found_behind, found_last, found_still}
use Rattle.gx_placed.proofs.Resumes.{by_name, through, through_given, unfolded}

-- two records of one name, one kind and one body
pub one_record : (a b : Record) → a.name ≡ b.name → same_object a b ≡ true → a ≡ b
one_record a b n e =
    let k = kind_is a.kind b.kind (first (same_kind a.kind b.kind) (same_bytes a.body b.body) (passes _ e)) in
    let t = same_is a.body b.body (second (same_kind a.kind b.kind) (same_bytes a.body b.body) (passes _ e)) in
    λ i. record { name = n i; kind = k i; body = t i }

-- those of other names have other names
others_are : (a : Bytes) (rs : List Record) → AllByRecursion (λ (r : Record). same_bytes a r.name ≡ false) (others a rs)
others_are a [] = tt
others_are a (r ∷ rs) = elim (same_bytes a r.name) as (λ b. same_bytes a r.name ≡ b → AllByRecursion (λ (r : Record). same_bytes a r.name ≡ false) (cond (not b) (r ∷ others a rs) (others a rs))) [
  | true ↦ λ e. others_are a rs
  | false ↦ λ e. (e, others_are a rs)
] refl

others_too : (P : Record → Type 0) (a : Bytes) (rs : List Record) → AllByRecursion P rs → AllByRecursion P (others a rs)
others_too P a [] h = tt
others_too P a (r ∷ rs) h = elim (same_bytes a r.name) as (λ b. AllByRecursion P (cond (not b) (r ∷ others a rs) (others a rs))) [
  | true ↦ others_too P a rs h.1
  | false ↦ (h.0, others_too P a rs h.1)
]

not_among : (n : Bytes) (rs : List Record) → AllByRecursion (λ (r : Record). same_bytes n r.name ≡ false) rs → record_named rs n ≡ None
not_among n [] h = refl
not_among n (r ∷ rs) h = behind_front rs r n h.0 ∙ not_among n rs h.1

join_all : (P : Record → Type 0) (xs ys : List Record) → AllByRecursion P xs → AllByRecursion P ys → AllByRecursion P (xs ++ ys)
join_all P [] ys a b = b
join_all P (x ∷ xs) ys a b = (a.0, join_all P xs ys a.1 b)

-- records of which this holds are behind those of before
pub record IsGrown (P : Record → Type 0) (held now : List Record) : Type 0 where
  pub added : List Record
  pub front : now ≡ held ++ added
  pub each : AllByRecursion P added

not_at_all : (P : Record → Type 0) (held : List Record) → IsGrown P held held
not_at_all P held = record { added = []; front = sym (append-nil held); each = tt }

further : (P : Record → Type 0) (held now later : List Record) → IsGrown P held now → IsGrown P now later → IsGrown P held later
further P held now later a b = record {
  added = a.added ++ b.added;
  front = b.front ∙ ap (λ rs. rs ++ b.added) a.front ∙ append_assoc held a.added b.added;
  each = join_all P a.added b.added a.each b.each;
}

-- the parts of two steps
both : {A B E : Type 0} (m : Result A E) (f : A → Result B E) (y : B) → (m >>= f) ≡ Ok y → (x : A) × (m ≡ Ok x) × (f x ≡ Ok y)
both (Ok x) f y e = (x, refl, e)
both (Err g) f y e = absurd (cc)

good : {A E : Type 0} (b : Bool) (x y : A) (g : E) → cond b (Ok x) (Err g) ≡ Ok y → (b ≡ true) × (x ≡ y)
good true x y g e = (refl, cc e)
good false x y g e = absurd (cc)

bad : {A E : Type 0} (b : Bool) (x : Result A E) (y : A) (g : E) → cond b (Err g) x ≡ Ok y → x ≡ Ok y
bad true x y g e = absurd (cc)
bad false x y g e = e

module _ (step : List Record → Record → Placed) (given : List Record) (P : Record → Type 0) (are : AllByRecursion P given)
    (grows : (held : List Record) (new : Record) (now : List Record) → P new → step held new ≡ Ok now → IsGrown P held now) where
  link_grows : (from : Bytes) (link : Kind × Bytes) (held now : List Record) → link_placed step given from link held ≡ Ok now → IsGrown P held now
  link_grows from link held now e = by (record_named held link.1) e
    where
      new_one : (o : Option Record) → record_named given link.1 ≡ o → through_given step given from link held o ≡ Ok now → IsGrown P held now
      new_one None f g = absurd (cc)
      new_one (Some r) f g = by_kind (same_kind r.kind link.0) g
        where
          by_kind : (b : Bool) → cond b (step held r) (Err (Dangling from link.1)) ≡ Ok now → IsGrown P held now
          by_kind true g = grows held r now (all_named P given link.1 r are f) g
          by_kind false g = absurd (cc)

      by : (o : Option Record) → through step given from link held o ≡ Ok now → IsGrown P held now
      by None g = new_one (record_named given link.1) refl g
      by (Some r) g = subst (IsGrown P held) (good (same_kind r.kind link.0) held now (Dangling from link.1) g).1 (not_at_all P held)

  links_grow : (from : Bytes) (links : List (Kind × Bytes)) (held now : List Record) → links_placed step given from links held ≡ Ok now → IsGrown P held now
  links_grow from [] held now e = let z : held ≡ now = cc e in subst (IsGrown P held) z (not_at_all P held)
  links_grow from (link ∷ links) held now e =
      let h = both (link_placed step given from link held) (λ now. links_placed step given from links now) now e in
      further P held h.0 now (link_grows from link held h.0 h.1) (links_grow from links h.0 now h.2)

-- an object is placed behind what it names
pub one_grows : (n : ℕ) (given : List Record) (P : Record → Type 0) → AllByRecursion P given → (held : List Record) (new : Record) (now : List Record) → P new → placed_within n given held new ≡ Ok now
    → IsGrown P held now × (record_named now new.name ≡ Some new)
unfolding placed_within
one_grows zero given P are held new now p e = absurd (cc)
one_grows (suc n) given P are held new now p e =
    by (λ Q kept was one later q f. (one_grows n (others new.name given) Q kept was one later q f).0) (record_named held new.name) refl (sym (unfolded n given held new) ∙ e)
  where
    rest : List Record
    rest = others new.name given

    by : ((Q : Record → Type 0) → AllByRecursion Q rest → (held : List Record) (new : Record) (now : List Record) → Q new → placed_within n rest held new ≡ Ok now → IsGrown Q held now)
        → (o : Option Record) → record_named held new.name ≡ o → by_name n given held new o ≡ Ok now
        → IsGrown P held now × (record_named now new.name ≡ Some new)
    by it (Some known) f g =
        let h = good (same_object known new) held now (NameHeld new.name) g in
        let same : known ≡ new = one_record known new (named_so held new.name known f) h.0 in
        (subst (IsGrown P held) h.1 (not_at_all P held), subst (λ rs. record_named rs new.name ≡ Some new) h.1 (f ∙ ap Some same))
    by it None f g = by_body (is_body new.kind new.body) g
      where
        by_body : (b : Bool) → cond b (links_placed (placed_within n rest) rest new.name (wide_links new.kind new.body) held >>= put_last new) (Err (BadObject new.name)) ≡ Ok now → IsGrown P held now × (record_named now new.name ≡ Some new)
        by_body false g = absurd (cc)
        by_body true g =
            let h = both (links_placed (placed_within n rest) rest new.name (wide_links new.kind new.body) held) (put_last new) now g in
            let below : IsGrown P held h.0 = links_grow (placed_within n rest) rest P (others_too P new.name given are) (λ a r b q. it P (others_too P new.name given are) a r b q) new.name (wide_links new.kind new.body) held h.0 h.1 in
            let apart : IsGrown (λ (r : Record). same_bytes new.name r.name ≡ false) held h.0 =
            links_grow (placed_within n rest) rest (λ (r : Record). same_bytes new.name r.name ≡ false) (others_are new.name given) (λ a r b q. it (λ (r : Record). same_bytes new.name r.name ≡ false) (others_are new.name given) a r b q) new.name (wide_links new.kind new.body) held h.0 h.1 in
            let free : record_named h.0 new.name ≡ None = ap (λ rs. record_named rs new.name) apart.front ∙ found_behind held apart.added new.name f ∙ not_among new.name apart.added apart.each in
            let last : Ok (h.0 ++ new ∷ []) ≡ Ok now = bad (is_bad_below h.0 new.kind new.body) (Ok (h.0 ++ new ∷ [])) now (BadObject new.name) h.2 in
            let z : h.0 ++ new ∷ [] ≡ now = cc last in (
              subst (IsGrown P held) z (further P held h.0 (h.0 ++ new ∷ []) below (record { added = new ∷ []; front = refl; each = (p, tt) })),
              subst (λ rs. record_named rs new.name ≡ Some new) z (found_last h.0 new free),
            )

-- those that are left, in their order
pub order_grows : (given : List Record) (P : Record → Type 0) → AllByRecursion P given → (later : List Record) → AllByRecursion P later → (held now : List Record) → placed_in_order given later held ≡ Ok now
    → IsGrown P held now × AllByRecursion (λ (r : Record). record_named now r.name ≡ Some r) later
order_grows given P are [] a held now e = let z : held ≡ now = cc e in (subst (IsGrown P held) z (not_at_all P held), tt)
order_grows given P are (new ∷ later) a held now e =
    let h = both (placed_within (suc (length given)) given held new) (placed_in_order given later) now e in
    let one = one_grows (suc (length given)) given P are held new h.0 a.0 h.1 in
    let rest = order_grows given P are later a.1 h.0 now h.2 in
    (further P held h.0 now one.0 rest.0, (ap (λ rs. record_named rs new.name) rest.0.front ∙ found_still h.0 rest.0.added new.name new one.1, rest.1))

all_one : (front given : List Record) → AllByRecursion (IsOneOf (front ++ given)) given
all_one front [] = tt
all_one front (r ∷ given) = (at front, subst (λ rs. AllByRecursion (IsOneOf rs) given) (append_assoc front (r ∷ []) given) (all_one (front ++ r ∷ []) given))
  where
    at : (front : List Record) → IsOneOf (front ++ r ∷ given) r
    at [] = inl refl
    at (s ∷ front) = inr (at front)

pub are_placed : (given held now : List Record) → placed_all given held ≡ Ok now → ArePlaced held given now
are_placed given held now e =
    let h = order_grows given (IsOneOf given) (all_one [] given) given (all_one [] given) held now e in
    record { added = h.0.added; front = h.0.front; each = h.1; none_else = h.0.each }
