-- What refs lead to.
use Rattle.std.proofs.Common.{◌≡◌, ℕ, refl, sym, subst, List, [], ◌∷◌, ◌++◌, map, inl, inr, ◌⊎◌}
use Rattle.std.specs.Prelude.{IsTrue}
use Rattle.std.specs.Bool.{passes}
use Rattle.std.specs.List.{list_any}
use Rattle.std.specs.declared.vec.Vec.{Vec}
use Rattle.gx_model.specs.declared.objects.Kind.{Kind}
use Rattle.gx_model.specs.Records.Sound.{AnyByRecursion}
use Rattle.gx_model.specs.Texts.{Bytes, same_bytes}
use Rattle.gx_model.proofs.Texts.PathTests.{is_same, is_true, left_or, right_or}
use Rattle.gx_object.specs.declared.name.Name.{Name}
use Rattle.gx_repo.specs.declared.publishing.RefChange.{RefChange}
use Rattle.gx_reached.specs.Damages.{Leads, Links, itself, through}
use Rattle.gx_reached.specs.Links.{AreLinksOf, Link as Named, links_in, shown_link}
use Rattle.gx_reached.specs.Reaching.{Among, InFront, IsLed, OnlyAdds, OnlyAddsLinks, targets_of, tip_links}
use Rattle.gx_reached.specs.declared.links.Link.{Link}
use Rattle.gx_reached.proofs.Closing.{among_cases}
use Rattle.gx_reached.proofs.Fronts.{front_last, front_left}
use Rattle.gx_reached.proofs.LinkedRecords.{links_named}

-- ---- what a body names

any_listed : (ls : List Named) (n : Bytes) → AnyByRecursion (λ l. l.0 ≡ n) ls → IsTrue (list_any (same_bytes n) (map (λ l. l.0) ls))
any_listed [] n h = absurd h
any_listed (l ∷ ls) n h = elim h [
  | inl e ↦ is_true _ (left_or (same_bytes n l.0) _ (is_same n l.0 (sym e)))
  | inr q ↦ is_true _ (right_or (same_bytes n l.0) _ (passes _ (any_listed ls n q)))
]

module _ (name : Kind → Bytes → Bytes) where
  -- a link of a body is what its object names
  linked : {A : Type 0} (k : Kind) (body called n : Bytes) (links : Vec Link A) → name k body ≡ called → AreLinksOf k body links → AnyByRecursion (λ l. l.0 ≡ n) (map shown_link links.items) → Links name called n
  linked k body called n links named (inl e) h = record {
    of_kind = k;
    body = body;
    named = named;
    linked = subst (λ ns. IsTrue (list_any (same_bytes n) ns)) (links_named k body) (any_listed (links_in k body) n (subst (AnyByRecursion (λ l. l.0 ≡ n)) e h));
  }
  linked k body called n links named (inr none) h = absurd (subst (λ ls. AnyByRecursion (λ l. l.0 ≡ n) (map shown_link ls)) none.0 h)

  -- links of a body are added
  pub only_linked : {A : Type 0} (k : Kind) (body called : Bytes) (links : Vec Link A) (old new : List (ℕ × Link)) → name k body ≡ called → AreLinksOf k body links → OnlyAdds (map shown_link links.items) old new → OnlyAddsLinks name called old new
  only_linked k body called links old new named are only n i = elim (only n i) [ inl f ↦ inl f | inr a ↦ inr (linked k body called n links named are a) ]

  -- ---- from refs on

  further : (tip called n : Bytes) → Leads name tip called → Links name called n → Leads name tip n
  further tip called n (itself a b e) l = through tip n n (subst (λ m. Links name m n) (sym e) l) (itself n n refl)
  further tip called n (through a m b k h) l = through tip m n k (further m called n h l)

  led_further : (tips : List Bytes) (called n : Bytes) → IsLed name tips called → Links name called n → IsLed name tips n
  led_further [] called n h l = absurd h
  led_further (t ∷ ts) called n h l = elim h [ inl p ↦ inl (further t called n p l) | inr q ↦ inr (led_further ts called n q l) ]

  -- what a ref holds
  led_tip : (refs : List RefChange) (called : Bytes) → AnyByRecursion (λ l. l.0 ≡ called) (tip_links refs) → IsLed name (targets_of refs) called
  led_tip [] called h = absurd h
  led_tip (x ∷ xs) called h = elim h [ inl e ↦ inl (itself x.target.bytes called e) | inr q ↦ inr (led_tip xs called q) ]

  -- refs lead to what was visited, and to what is in front
  abbrev pub AreLed : List Bytes → List (ℕ × Name) → List (ℕ × Link) → Type 0
  AreLed tips order front = (called : Bytes) → Among order called ⊎ InFront front called → IsLed name tips called

  -- before one is visited
  pub led_first : (refs : List RefChange) (order : List (ℕ × Name)) (old front : List (ℕ × Link)) → order ≡ [] → old ≡ [] → OnlyAdds (tip_links refs) old front → AreLed (targets_of refs) order front
  led_first refs order old front none empty only n h = elim h [
    | inl a ↦ absurd (subst (λ xs. Among xs n) none a)
    | inr i ↦ elim (only n i) [ inl f ↦ absurd (subst (λ xs. InFront xs n) empty f) | inr a ↦ led_tip refs n a ]
  ]

  module _ (tips : List Bytes) (order : List (ℕ × Name)) (front new : List (ℕ × Link)) (k : ℕ × Link) (led : AreLed tips order (front ++ k ∷ [])) where
    last_led : (n : Bytes) → k.1.name.bytes ≡ n → IsLed name tips n
    last_led n e = led n (inr (front_last front k n e))

    -- the last in front is visited
    pub led_on : OnlyAddsLinks name k.1.name.bytes front new → AreLed tips (order ++ (k.0, k.1.name) ∷ []) new
    led_on only n h = elim h [
      | inl a ↦ elim (among_cases order (k.0, k.1.name) n a) [ inl q ↦ led n (inl q) | inr e ↦ last_led n e ]
      | inr i ↦ elim (only n i) [ inl f ↦ led n (inr (front_left front k n f)) | inr l ↦ led_further tips k.1.name.bytes n (last_led k.1.name.bytes refl) l ]
    ]
