-- What digits begin among the names of objects that are listed.
use Rattle.std.proofs.Common.{◌≡◌, ℕ, ◌+◌, ◌≤◌, length, drop, slice_get, Some, Bool, true, false, cond, List, [], ◌∷◌, map, refl, sym, ap, ◌∙◌, subst}
use Rattle.std.specs.Prelude.{T}
use Rattle.std.specs.List.{AllByRecursion}
use Rattle.std.proofs.lemmas.Bool.{false≢true}
use Rattle.std.proofs.lemmas.List.{drop_all, drop_more}
use Rattle.std.proofs.lemmas.Option.{get_or_from_slice_get, slice_get_within}
use Rattle.gx_model.specs.declared.objects.Kind.{Kind}
use Rattle.gx_model.specs.Texts.{Bytes}
use Rattle.gx_model.specs.Histories.{Record}
use Rattle.gx_model.specs.Objects.{IsNamer, is_name}
use Rattle.gx_model.specs.Records.Lookups.{records_begun_by}
use Rattle.gx_model.specs.Revisions.Denotation.{begins_with_digits}
use Rattle.gx_model.proofs.ObjectTexts.TreePaths.{name_is_name}
use Rattle.gx_model.proofs.Texts.PathTests.{is_true}
use Rattle.gx_object.specs.declared.name.Name.{Name}
use Rattle.gx_store.specs.NameOrder.{is_within}
use Rattle.gx_store.specs.Prefixes.{AreEnds, BeginNone, found_between, joined, prefix_of}
use Rattle.gx_store.specs.declared.prefix.Prefix.TheVariants.{Absent, Unique}
use Rattle.gx_listed.specs.Listings.{HaveHeads, Head, Listed, head_of, shown_head}

-- ---- one after the other, from the last

pub found_none : (ends : Name × Name) (listed : List Listed) (i : ℕ) → length listed ≤ i → found_between ends (map (λ one. one.0) (drop i listed)) ≡ Absent
found_none ends listed i h = ap (λ xs. found_between ends (map (λ one. one.0) xs)) (drop_all i listed h)

pub found_step : (ends : Name × Name) (listed : List Listed) (i : ℕ) (one : Listed) → slice_get listed i ≡ Some one
    → found_between ends (map (λ one. one.0) (drop i listed))
    ≡ cond (is_within ends.0.bytes ends.1.bytes one.0.bytes) (joined (Unique one.0) (found_between ends (map (λ one. one.0) (drop (i + 1) listed)))) (found_between ends (map (λ one. one.0) (drop (i + 1) listed)))
found_step ends listed i one at =
    ap (λ xs. found_between ends (map (λ one. one.0) xs)) (drop_more listed i one (slice_get_within listed i one at) ∙ ap (λ x. x ∷ drop (i + 1) listed) (get_or_from_slice_get listed i one one at))

-- ---- among records

prefix_more : (r : Record) (rs : List Record) → prefix_of (r ∷ rs) ≡ joined (Unique (record { bytes = r.name })) (prefix_of rs)
prefix_more r [] = refl
prefix_more r (s ∷ []) = refl
prefix_more r (s ∷ t ∷ rs) = refl

-- the names of sound records are names
pub all_names : (name : Kind → Bytes → Bytes) → IsNamer name → (rs : List Record) → AllByRecursion (λ held. held.name ≡ name held.kind held.body) rs → AllByRecursion (λ held. is_name held.name ≡ true) rs
all_names name namer [] h = tt
all_names name namer (x ∷ xs) h = (is_true _ (subst (λ z. T (is_name z)) (sym h.0) (name_is_name name namer x.kind x.body)), all_names name namer xs h.1)

pub begun_listed : (digits : Bytes) (ends : Name × Name) → AreEnds digits ends.0 ends.1 → (listed : List Listed) (rs : List Record) → HaveHeads listed rs → AllByRecursion (λ held. is_name held.name ≡ true) rs
    → found_between ends (map (λ one. one.0) listed) ≡ prefix_of (records_begun_by rs digits)
begun_listed digits ends are [] [] h n = refl
begun_listed digits ends are [] (r ∷ rs) h n = absurd (cc)
begun_listed digits ends are (o ∷ os) [] h n = absurd (cc)
begun_listed digits ends are (o ∷ os) (r ∷ rs) h n =
    let head : shown_head o ≡ head_of r = cc in
    let more : map shown_head os ≡ map head_of rs = cc in
    let same : o.0.bytes ≡ r.name = ap (λ (x : Head). x.name) head in
    by (is_within ends.0.bytes ends.1.bytes o.0.bytes) (begins_with_digits digits r.name)
    (ap (is_within ends.0.bytes ends.1.bytes) same ∙ are r.name n.0) same (begun_listed digits ends are os rs more n.1)
  where
    by : (b c : Bool) → b ≡ c → o.0.bytes ≡ r.name → found_between ends (map (λ one. one.0) os) ≡ prefix_of (records_begun_by rs digits)
        → cond b (joined (Unique o.0) (found_between ends (map (λ one. one.0) os))) (found_between ends (map (λ one. one.0) os)) ≡ prefix_of (cond c (r ∷ records_begun_by rs digits) (records_begun_by rs digits))
    by true true e s rest = (λ i. joined (Unique (record { bytes = s i })) (rest i)) ∙ sym (prefix_more r (records_begun_by rs digits))
    by false false e s rest = rest
    by true false e s rest = absurd (false≢true (sym e))
    by false true e s rest = absurd (false≢true e)

-- digits that no name begins with begin none
pub none_begun : (digits : Bytes) → BeginNone digits → (rs : List Record) → AllByRecursion (λ held. is_name held.name ≡ true) rs → Absent ≡ prefix_of (records_begun_by rs digits)
none_begun digits none rs n = ap prefix_of (sym (by rs n))
  where
    by : (rs : List Record) → AllByRecursion (λ held. is_name held.name ≡ true) rs → records_begun_by rs digits ≡ []
    by [] n = refl
    by (r ∷ rs) n = ap (λ b. cond b (r ∷ records_begun_by rs digits) (records_begun_by rs digits)) (none r.name n.0) ∙ by rs n.1
