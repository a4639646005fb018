-- Objects that aren't saved: with one more, and beside one record more.
use Rattle.std.proofs.Common.{◌≡◌, ℕ, zero, suc, ◌+◌, ◌<◌, arith, get_or, length, map, take, Bool, true, false, cond, refl, sym, ap, subst, ◌∙◌, List, [], ◌∷◌, ◌++◌, Option, Some, None, inl, inr, ◌⊎◌}
use Rattle.std.specs.Prelude.{◌||◌, is_some, IfSome, IsTrue}
use Rattle.std.specs.List.{AllByRecursion, list_any}
use Rattle.std.specs.Bool.{passes}
use Rattle.std.specs.declared.vec.Vec.{Vec}
use Rattle.std.proofs.lemmas.List.{take_more}
use Rattle.gx_model.specs.declared.objects.Kind.{Kind}
use Rattle.gx_model.specs.Texts.{Bytes, same_bytes}
use Rattle.gx_model.specs.Histories.{Record, Records}
use Rattle.gx_model.specs.Pruning.{links_of}
use Rattle.gx_model.specs.Records.Growth.{record_named}
use Rattle.gx_model.specs.Records.Sound.{AnyByRecursion}
use Rattle.gx_model.proofs.Texts.PathTests.{is_same, is_true, left_or, right_or, same_is}
use Rattle.gx_reached.specs.Damages.{AreDamages, Enters, IsBad, IsDamage, damage_in, itself, through}
use Rattle.gx_reached.specs.Links.{AreLinksOf, Link as Named, links_in, shown_link}
use Rattle.gx_reached.specs.declared.bad.Bad.{Bad}
use Rattle.gx_reached.specs.declared.damage.Cause.TheVariants.{ReadFailed}
use Rattle.gx_reached.specs.declared.damage.Damage.{Damage}
use Rattle.gx_reached.specs.declared.links.Link.{Link}
use Rattle.gx_reached.proofs.Closing.{all_with}
use Rattle.gx_reached.proofs.Entering.{bad_now, entered, keeps_bad}
use Rattle.gx_reached.proofs.LinkedRecords.{links_named}
use Rattle.gx_salvage_refs.specs.Taking.{AreUnsaved, FindsDamage}

-- one that is some isn't none
pub not_some : {X : Type 0} (o : Option X) → o ≡ None → IsTrue (is_some o) → ⊥
not_some None e h = passes _ h
not_some (Some x) e h = cc e

-- before one record is taken over
pub none_taken : {A : Type 0} (name : Kind → Bytes → Bytes) (told : Option Records) (records : List Record) (bad : Bad A) → records ≡ [] → AreDamages name told bad → AreUnsaved name told records bad
none_taken name told records bad none are = record { damages = are; unheld = λ called d e. ap (λ rs. record_named rs d.object.bytes) none }

-- ---- one damage more

module _ {A : Type 0} (old new : Bad A) (called : Bytes) (damage : Damage) (enters : Enters old new called damage) (name : Kind → Bytes → Bytes) (told : Option Records) (records : List Record) where
  unsaved_with : IsDamage name told called damage → IsBad new damage.object.bytes → record_named records damage.object.bytes ≡ None → AreUnsaved name told records old → AreUnsaved name told records new
  unsaved_with is bad unheld are = record {
    damages = entered old new called damage enters name told is bad are.damages;
    unheld = λ other d e. by d (same_bytes called other) other (sym (enters other) ∙ e);
  }
    where
      by : (d : Damage) (b : Bool) (other : Bytes) → cond b (Some damage) (damage_in old other) ≡ Some d → record_named records d.object.bytes ≡ None
      by d true other e = let same : damage ≡ d = cc e in subst (λ (x : Damage). record_named records x.object.bytes ≡ None) same unheld
      by d false other e = are.unheld other d e

-- an object that is damaged itself
pub unsaved_itself : {A : Type 0} (old new : Bad A) (damage : Damage) → Enters old new damage.object.bytes damage → (name : Kind → Bytes → Bytes) (told : Option Records) (records : List Record)
    → record_named records damage.object.bytes ≡ None → IfSome told (λ _. damage.cause ≡ ReadFailed) → AreUnsaved name told records old → AreUnsaved name told records new
unsaved_itself old new damage enters name told records unheld unread are =
    unsaved_with old new damage.object.bytes damage enters name told records (record { leads = itself damage.object.bytes damage.object.bytes refl; unread = unread }) (bad_now old new damage.object.bytes damage enters) unheld are

-- ---- one record more

named_with : (rs : List Record) (r : Record) (n : Bytes) → record_named rs n ≡ None → same_bytes n r.name ≡ false → record_named (rs ++ r ∷ []) n ≡ None
named_with [] r n e f = ap (λ b. cond b (Some r) None) f
named_with (x ∷ xs) r n e f = by (same_bytes n x.name) e (named_with xs r n)
  where
    by : (b : Bool) → cond b (Some x) (record_named xs n) ≡ None → (record_named xs n ≡ None → same_bytes n r.name ≡ false → record_named (xs ++ r ∷ []) n ≡ None) → cond b (Some x) (record_named (xs ++ r ∷ []) n) ≡ None
    by true i again = absurd cc
    by false i again = again i f

-- a record more that isn't bad
pub grown : {A : Type 0} (name : Kind → Bytes → Bytes) (told : Option Records) (records : List Record) (bad : Bad A) (r : Record) → damage_in bad r.name ≡ None → AreUnsaved name told records bad → AreUnsaved name told (records ++ r ∷ []) bad
grown name told records bad r fresh are = record {
  damages = are.damages;
  unheld = λ called d e. named_with records r d.object.bytes (are.unheld called d e) (other d (are.damages.itself called d e) (same_bytes d.object.bytes r.name) refl);
}
  where
    other : (d : Damage) → IsBad bad d.object.bytes → (b : Bool) → same_bytes d.object.bytes r.name ≡ b → b ≡ false
    other d bad_is true k =
        let same = same_is d.object.bytes r.name (passes _ k) in
        absurd (not_some (damage_in bad r.name) fresh (subst (λ n. IsTrue (is_some (damage_in bad n))) same bad_is))
    other d bad_is false k = refl

-- ---- what a link leads to

-- one of some links
pub record IsLinkBy {A : Type 0} (bad : Bad A) (links : List Bytes) (damage : Damage) : Type 0 where
  pub link : Bytes
  pub among : IsTrue (list_any (same_bytes link) links)
  pub known : damage_in bad link ≡ Some damage

pub link_by : {A : Type 0} (bad : Bad A) (damage : Damage) (links : List Bytes) → AnyByRecursion (λ link. damage_in bad link ≡ Some damage) links → IsLinkBy bad links damage
link_by bad damage [] h = absurd h
link_by bad damage (l ∷ ls) h = elim h [
  | inl e ↦ record { link = l; among = is_true _ (left_or (same_bytes l l) _ (is_same l l refl)); known = e }
  | inr q ↦
      let k = link_by bad damage ls q in
      record { link = k.link; among = is_true _ (right_or (same_bytes k.link l) _ (passes _ k.among)); known = k.known }
]

module _ {A : Type 0} (old new : Bad A) (own damage : Damage) (enters : Enters old new own.object.bytes damage) (name : Kind → Bytes → Bytes) (told : Option Records) (records : List Record)
    (of_kind : Kind) (body : Bytes) (named : name of_kind body ≡ own.object.bytes) (unheld : record_named records own.object.bytes ≡ None) (are : AreUnsaved name told records old) where
  -- an object that was refused, with what it is lost by
  pub refused : FindsDamage old own of_kind body damage → IfSome told (λ _. damage.cause ≡ ReadFailed) → AreUnsaved name told records new
  refused finds unread = elim finds [
    | inl any ↦
        let k = link_by old damage (links_of of_kind body) any in
        let is = are.damages.each k.link damage k.known in
        unsaved_with old new own.object.bytes damage enters name told records
        (record { leads = through own.object.bytes k.link damage.object.bytes (record { of_kind = of_kind; body = body; named = named; linked = k.among }) is.leads; unread = unread })
        (keeps_bad old new own.object.bytes damage enters damage.object.bytes (are.damages.itself k.link damage k.known)) (are.unheld k.link damage k.known) are
    | inr alone ↦
        let same : own ≡ damage = sym alone.0 in
        unsaved_itself old new damage (subst (λ (d : Damage). Enters old new d.object.bytes damage) same enters) name told records
        (subst (λ (d : Damage). record_named records d.object.bytes ≡ None) same unheld) unread are
  ]

-- ---- the links of a body, one after the other

named_links : {A : Type 0} (k : Kind) (body : Bytes) (links : Vec Link A) → map shown_link links.items ≡ links_in k body → map (λ (l : Link). l.name.bytes) links.items ≡ links_of k body
named_links k body links e = names links.items ∙ ap (map (λ (l : Named). l.0)) e ∙ links_named k body
  where
    names : (ls : List Link) → map (λ (l : Link). l.name.bytes) ls ≡ map (λ (l : Named). l.0) (map shown_link ls)
    names [] = refl
    names (l ∷ ls) = ap (λ ns. l.name.bytes ∷ ns) (names ls)

any_at : {X : Type 0} (P : Bytes → Type 0) (see : X → Bytes) (xs : List X) (i : ℕ) (d : X) → i < length xs → P (see (get_or xs i d)) → AnyByRecursion P (map see xs)
any_at P see [] i d l p = absurd (omega (arith, l))
any_at P see (x ∷ xs) zero d l p = inl p
any_at P see (x ∷ xs) (suc i) d l p = inr (any_at P see xs i d (omega (arith, l)) p)

all_mapped : {X : Type 0} (P : Bytes → Type 0) (see : X → Bytes) (xs : List X) → AllByRecursion (λ x. P (see x)) xs → AllByRecursion P (map see xs)
all_mapped P see [] h = tt
all_mapped P see (x ∷ xs) h = (h.0, all_mapped P see xs h.1)

-- one more of those whose damage isn't known
pub one_without : {X : Type 0} (P : X → Type 0) (xs : List X) (i : ℕ) (d : X) → i < length xs → AllByRecursion P (take i xs) → P (get_or xs i d) → AllByRecursion P (take (i + 1) xs)
one_without P xs i d l h p = subst (AllByRecursion P) (sym (take_more xs i d l)) (all_with P (take i xs) (get_or xs i d) h p)

module _ {A B : Type 0} (bad : Bad A) (own : Damage) (k : Kind) (body : Bytes) (links : Vec Link B) (are : AreLinksOf k body links) (items : List Link) (is : items ≡ links.items) where
  -- the damage of a link
  pub link_found : (i : ℕ) (d : Link) (damage : Damage) → i < length items → damage_in bad (get_or items i d).name.bytes ≡ Some damage → FindsDamage bad own k body damage
  link_found i d damage l e = elim are [
    | inl same ↦ inl (subst (AnyByRecursion (λ link. damage_in bad link ≡ Some damage)) (named_links k body links same)
        (subst (λ xs. AnyByRecursion (λ link. damage_in bad link ≡ Some damage) (map (λ (x : Link). x.name.bytes) xs)) is (any_at (λ link. damage_in bad link ≡ Some damage) (λ (x : Link). x.name.bytes) items i d l e)))
    | inr none ↦ absurd (let long = ap length (is ∙ none.0) in omega (arith, l, long))
  ]

  -- none has any
  pub none_found : AllByRecursion (λ (l : Link). damage_in bad l.name.bytes ≡ None) items → FindsDamage bad own k body own
  none_found h = inr (refl, λ canonical. elim are [
    | inl same ↦ subst (AllByRecursion (λ link. damage_in bad link ≡ None)) (named_links k body links same)
        (subst (λ xs. AllByRecursion (λ link. damage_in bad link ≡ None) (map (λ (x : Link). x.name.bytes) xs)) is (all_mapped (λ link. damage_in bad link ≡ None) (λ (x : Link). x.name.bytes) items h))
    | inr none ↦ absurd (none.1 canonical)
  ])
