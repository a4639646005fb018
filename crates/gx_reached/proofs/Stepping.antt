-- What an object of a repository names is put in front, and visited.
use Rattle.std.proofs.Common.{◌≡◌, ℕ, zero, suc, ◌+◌, ◌<◌, ◌≤◌, true, false, sym, ap, subst, ◌∙◌, arith, get_or, List, [], ◌∷◌, ◌++◌, length, length-append, map, take, Option, Some, None, inl, inr}
use Rattle.std.specs.Prelude.{IfSome, OnOk, Result}
use Rattle.std.specs.List.{AllByRecursion}
use Rattle.std.specs.Option.{option_map}
use Rattle.std.specs.Ordering.{nat_cmp}
use Rattle.std.specs.BTreeMap.{insert_entry}
use Rattle.std.specs.declared.vec.Vec.{Vec}
use Rattle.std.proofs.lemmas.Bool.{false≢true}
use Rattle.std.proofs.lemmas.List.{map-append, take_more}
use Rattle.gx_model.specs.declared.objects.Kind.{Kind}
use Rattle.gx_model.specs.declared.objects.Kind.TheVariants as kind
use Rattle.gx_model.specs.Histories.{Record, Records}
use Rattle.gx_model.specs.Laws.StoreLaws.{IsBody}
use Rattle.gx_model.specs.Pruning.{links_of}
use Rattle.gx_model.specs.Records.Growth.{record_named}
use Rattle.gx_model.specs.Records.Sound.{AnyByRecursion, IsLinked, IsLinkedAfter, IsSound}
use Rattle.gx_model.specs.Texts.{Bytes}
use Rattle.gx_model.proofs.Records.HeldObjects.{is_shown}
use Rattle.gx_model.proofs.Records.TakenRecords.{named_some}
use Rattle.gx_object.specs.declared.name.Name.{Name}
use Rattle.gx_objects.specs.Answers.{GoesUp, IsHeldThere, StandsThere}
use Rattle.gx_objects.specs.declared.objects.Object.{Object}
use Rattle.gx_repo.specs.declared.publishing.RefChange.{RefChange}
use Rattle.gx_store.specs.Stores.{place_named}
use Rattle.gx_reached.specs.Damages.{IsBad, KeepsBad}
use Rattle.gx_reached.specs.Links.{AreLinksOf, Link as Named, links_in, shown_link}
use Rattle.gx_reached.specs.Reaching.{AddsAll, AddsLinks, AddsTo, InFront, IsBefore, IsOfLink, IsPlaced, IsStep, IsVisited, LinksHave, OnlyAdds, StandsSomewhere, Waits, targets_of, tip_links}
use Rattle.gx_reached.specs.declared.bad.Bad.{Bad}
use Rattle.gx_reached.specs.declared.links.Link.{Link}
use Rattle.gx_reached.proofs.Closing.{all_weaker, all_with, visited_more, visited_with}
use Rattle.gx_reached.proofs.Entering.{on_ok}
use Rattle.gx_reached.proofs.Fronts.{front_cases, in_front, inserted, only_inserted, steps_last}
use Rattle.gx_reached.proofs.LinkedRecords.{IsLinkedTo, earlier, linked_at, links_named, links_there, split_at}

-- ---- of what tells a repository

-- each of what is told
pub told_alone : (told : Option Records) (P Q : Records → Type 0) → ((r : Records) → P r → Q r) → IfSome told P → IfSome told Q
told_alone None P Q f h = tt
told_alone (Some r) P Q f h = f r h

pub told_both : (told : Option Records) (P Q S : Records → Type 0) → ((r : Records) → P r → Q r → S r) → IfSome told P → IfSome told Q → IfSome told S
told_both None P Q S f h k = tt
told_both (Some r) P Q S f h k = f r h k

pub told_each : (told : Option Records) (P : Records → Type 0) → ((r : Records) → P r) → IfSome told P
told_each None P f = tt
told_each (Some r) P f = f r

-- ---- the links of a record

linked_body : (rs : List Record) (k : Kind) (body : Bytes) → IsLinked rs k body → IsBody k body
linked_body rs kind.Blob body h = tt
linked_body rs kind.Tree body h = (h.0, h.1)
linked_body rs kind.Commit body h = (h.0, h.1)
linked_body rs kind.Tag body h = (h.0, h.1)

any_left : {X : Type 0} (P : X → Type 0) (xs ys : List X) → AnyByRecursion P xs → AnyByRecursion P (xs ++ ys)
any_left P [] ys h = absurd h
any_left P (x ∷ xs) ys h = elim h [ inl p ↦ inl p | inr q ↦ inr (any_left P xs ys q) ]

any_last : (links : List Named) (l : Named) (n : Bytes) → l.0 ≡ n → AnyByRecursion (λ x. x.0 ≡ n) (links ++ l ∷ [])
any_last [] l n e = inl e
any_last (x ∷ xs) l n e = inr (any_last xs l n e)

-- one more of a list, in a map
pub mapped_more : {X Y : Type 0} (f : X → Y) (xs : List X) (i : ℕ) (d : X) → i < length xs → map f (take (i + 1) xs) ≡ map f (take i xs) ++ f (get_or xs i d) ∷ []
mapped_more f xs i d l = ap (map f) (take_more xs i d l) ∙ map-append f (take i xs) (get_or xs i d ∷ [])

pub all_at : {X : Type 0} (P : X → Type 0) (xs : List X) (i : ℕ) (d : X) → i < length xs → AllByRecursion P xs → P (get_or xs i d)
all_at P [] i d l h = absurd (omega (arith, l))
all_at P (x ∷ xs) zero d l h = h.0
all_at P (x ∷ xs) (suc i) d l h = all_at P xs i d (omega (arith, l)) h.1

pub all_of_named : (P : Bytes → Type 0) (ls : List Named) → AllByRecursion (λ l. P l.0) ls → AllByRecursion P (map (λ l. l.0) ls)
all_of_named P [] h = tt
all_of_named P (l ∷ ls) h = (h.0, all_of_named P ls h.1)

module _ (name : Kind → Bytes → Bytes) (stands : ℕ → ℕ) (r : Records) (sound : IsSound name r) (order : GoesUp stands (length r.records)) (called : Bytes) where
  module _ (t : Record) (e : record_named r.records called ≡ Some t) where
    -- a record of a sound repository has a canonical body
    pub body_is : IsBody t.kind t.body
    body_is =
        let at = split_at r.records called t e in
        linked_body at.before t.kind t.body (linked_at [] at.before t at.behind (subst (IsLinkedAfter []) at.whole sound.linked))

    -- what it names stands before it
    pub links_before : (p : ℕ) → StandsThere stands called r (Some p) → AllByRecursion (IsBefore r stands p) (links_in t.kind t.body)
    links_before p there =
        let at = split_at r.records called t e in
        let linked = linked_at [] at.before t at.behind (subst (IsLinkedAfter []) at.whole sound.linked) in
        let here : p ≡ stands (length at.before) = (let same : Some p ≡ Some (stands (length at.before)) = there ∙ ap (option_map stands) at.place in cc same) in
        all_weaker (λ l. AnyByRecursion (IsLinkedTo l) at.before) (IsBefore r stands p) (λ l any. one at.before at.behind at.whole p here l any) (links_in t.kind t.body) (links_there at.before t.kind t.body linked)
      where
        one : (before behind : List Record) → r.records ≡ before ++ t ∷ behind → (p : ℕ) → p ≡ stands (length before) → (l : Named) → AnyByRecursion (IsLinkedTo l) before → IsBefore r stands p l
        one before behind whole p here l any =
            let at = earlier before (t ∷ behind) l any in
            let long = ap length whole ∙ length-append before (t ∷ behind) in
            let low : stands at.number < stands (length before) = order at.number (length before) at.low (omega (arith, long)) in
            let found = named_some (IsLinkedTo l) l.0 (λ x q. q.named) r.records sound.distinct (subst (AnyByRecursion (IsLinkedTo l)) (sym whole) (any_left (IsLinkedTo l) before (t ∷ behind) any)) in
            (stands at.number, ap (option_map stands) (sym (ap (λ rs. place_named rs l.0) whole ∙ at.place)), omega (arith, low, here), λ blob held f. (let same : Some found.0 ≡ Some held = sym found.1 ∙ f in let is : found.0 ≡ held = cc same in subst (λ (x : Record). x.kind ≡ kind.Blob) is (found.2.blob blob)))

  -- the same of an object that is shown
  pub shown_body : (o : Object) → IsHeldThere called r o → IsBody o.kind o.body.now
  shown_body o h =
      let s = is_shown r.records called o.kind o.body.now h in
      subst (λ b. IsBody o.kind b) s.of_body (subst (λ k. IsBody k s.held.body) s.of_kind (body_is s.held s.found))

  pub shown_before : (o : Object) → IsHeldThere called r o → (p : ℕ) → StandsThere stands called r (Some p) → AllByRecursion (IsBefore r stands p) (links_in o.kind o.body.now)
  shown_before o h p there =
      let s = is_shown r.records called o.kind o.body.now h in
      subst (λ b. AllByRecursion (IsBefore r stands p) (links_in o.kind b)) s.of_body (subst (λ k. AllByRecursion (IsBefore r stands p) (links_in k s.held.body)) s.of_kind (links_before s.held s.found p there))

-- what an object that is shown names has a property, where its links have
pub shown_links_have : (r : Records) (P : Bytes → Type 0) (called : Bytes) (o : Object) → IsHeldThere called r o → AllByRecursion (λ l. P l.0) (links_in o.kind o.body.now) → LinksHave r P called
shown_links_have r P called o h all held e =
    let s = is_shown r.records called o.kind o.body.now h in
    let same : s.held ≡ held = (let k : Some s.held ≡ Some held = sym s.found ∙ e in cc k) in
    let links = subst (AllByRecursion P) (links_named o.kind o.body.now) (all_of_named P (links_in o.kind o.body.now) all) in
    subst (λ (x : Record). AllByRecursion P (links_of x.kind x.body)) same
    (subst (λ k. AllByRecursion P (links_of k s.held.body)) (sym s.of_kind) (subst (λ b. AllByRecursion P (links_of o.kind b)) (sym s.of_body) links))

-- a blob names nothing
pub blob_links : (r : Records) (P : Bytes → Type 0) (l : Link) → IsOfLink r (shown_link l) → l.is_blob ≡ true → LinksHave r P l.name.bytes
blob_links r P l of blob held e = subst (λ k. AllByRecursion P (links_of k held.body)) (sym (of blob held e)) tt

-- ---- one link after the other

module _ {A : Type 0} (r : Records) (stands : ℕ → ℕ) where
  waits_more : (old new : List (ℕ × Link)) (bad then : Bad A) → ((n : Bytes) → InFront old n → InFront new n) → KeepsBad bad then → (n : Bytes) → Waits old bad n → Waits new then n
  waits_more old new bad then more keeps n w = elim w [ inl i ↦ inl (more n i) | inr b ↦ inr (keeps n b) ]

  pub adds_none : (front : List (ℕ × Link)) (bad : Bad A) → AllByRecursion (IsStep r stands) front → AddsAll r stands [] front front bad
  adds_none front bad s = record { adds = record { steps = s; more = λ n i. i }; all = tt }

  adds_more : (links : List Named) (l : Named) (old front new : List (ℕ × Link)) (bad then : Bad A) → AddsAll r stands links old front bad → AddsTo r stands front new → KeepsBad bad then → Waits new then l.0
      → AddsAll r stands (links ++ l ∷ []) old new then
  adds_more links l old front new bad then a to keeps own = record {
    adds = record { steps = to.steps; more = λ n i. to.more n (a.adds.more n i) };
    all = all_with (λ x. Waits new then x.0) links l (all_weaker (λ x. Waits front bad x.0) (λ x. Waits new then x.0) (λ x w. waits_more front new bad then to.more keeps x.0 w) links a.all) own;
  }

  -- a link that is put in front
  pub adds_placed : GoesUp stands (length r.records) → (links : List Named) (l : Link) (p : ℕ) (old front : List (ℕ × Link)) (bad then : Bad A) → AddsAll r stands links old front bad → KeepsBad bad then → IsStep r stands (p, l)
      → AddsAll r stands (links ++ shown_link l ∷ []) old (insert_entry nat_cmp front p l) then
  adds_placed order links l p old front bad then a keeps s =
      adds_more links (shown_link l) old front (insert_entry nat_cmp front p l) bad then a (inserted stands r order p l front s a.adds.steps) keeps (inl (in_front p l front))

  -- a link that isn't saved
  pub adds_bad : (links : List Named) (l : Named) (old front : List (ℕ × Link)) (bad then : Bad A) → AddsAll r stands links old front bad → KeepsBad bad then → IsBad then l.0 → AddsAll r stands (links ++ l ∷ []) old front then
  adds_bad links l old front bad then a keeps b = adds_more links l old front front bad then a (record { steps = a.adds.steps; more = λ n i. i }) keeps (inr b)

stays : (links : List Named) (l : Named) (old front : List (ℕ × Link)) → OnlyAdds links old front → OnlyAdds (links ++ l ∷ []) old front
stays links l old front only n i = elim (only n i) [ inl f ↦ inl f | inr a ↦ inr (any_left (λ x. x.0 ≡ n) links (l ∷ []) a) ]

puts : (links : List Named) (l : Link) (p : ℕ) (old front : List (ℕ × Link)) → OnlyAdds links old front → OnlyAdds (links ++ shown_link l ∷ []) old (insert_entry nat_cmp front p l)
puts links l p old front only n i = elim (only_inserted p l front n i) [
  | inl f ↦ stays links (shown_link l) old front only n f
  | inr e ↦ inr (any_last links (shown_link l) n e)
]

-- ---- one more of a list of what is to be added

pub next_stays : {X : Type 0} (f : X → Named) (xs : List X) (i : ℕ) → i < length xs → (old front : List (ℕ × Link)) → OnlyAdds (map f (take i xs)) old front → OnlyAdds (map f (take (i + 1) xs)) old front
next_stays f [] i lt old front only = absurd (omega (arith, lt))
next_stays f (x ∷ xs) i lt old front only =
    subst (λ ls. OnlyAdds ls old front) (sym (mapped_more f (x ∷ xs) i x lt)) (stays (map f (take i (x ∷ xs))) (f (get_or (x ∷ xs) i x)) old front only)

pub next_puts : {X : Type 0} (f : X → Named) (xs : List X) (i : ℕ) (d : X) → i < length xs → (old front new : List (ℕ × Link)) (l : Link) (p : ℕ) → new ≡ insert_entry nat_cmp front p l → shown_link l ≡ f (get_or xs i d)
    → OnlyAdds (map f (take i xs)) old front → OnlyAdds (map f (take (i + 1) xs)) old new
next_puts f xs i d lt old front new l p made is only =
    subst (λ ls. OnlyAdds ls old new) (ap (λ m. map f (take i xs) ++ m ∷ []) is ∙ sym (mapped_more f xs i d lt))
    (subst (OnlyAdds (map f (take i xs) ++ shown_link l ∷ []) old) (sym made) (puts (map f (take i xs)) l p old front only))

-- a link that isn't saved
pub next_bad : {A X : Type 0} (f : X → Named) (xs : List X) (i : ℕ) (d : X) → i < length xs → (old front : List (ℕ × Link)) (bad then : Bad A) → KeepsBad bad then → (told : Option Records) (stands : ℕ → ℕ)
    → IfSome told (λ r. AddsAll r stands (map f (take i xs)) old front bad) → IfSome told (λ r. IsBad then (f (get_or xs i d)).0) → IfSome told (λ r. AddsAll r stands (map f (take (i + 1) xs)) old front then)
next_bad f xs i d lt old front bad then keeps told stands adds b =
    told_both told (λ r. AddsAll r stands (map f (take i xs)) old front bad) (λ r. IsBad then (f (get_or xs i d)).0) (λ r. AddsAll r stands (map f (take (i + 1) xs)) old front then)
    (λ r a q. subst (λ ls. AddsAll r stands ls old front then) (sym (mapped_more f xs i d lt)) (adds_bad r stands (map f (take i xs)) (f (get_or xs i d)) old front bad then a keeps q)) adds b

-- a link that is put in front
pub next_placed : {A X : Type 0} (f : X → Named) (xs : List X) (i : ℕ) (d : X) → i < length xs → (old front new : List (ℕ × Link)) (l : Link) (p : ℕ) → new ≡ insert_entry nat_cmp front p l → shown_link l ≡ f (get_or xs i d) → (bad then : Bad A) → KeepsBad bad then
    → (told : Option Records) (stands : ℕ → ℕ) → IfSome told (λ r. GoesUp stands (length r.records)) → IfSome told (λ r. AddsAll r stands (map f (take i xs)) old front bad) → IfSome told (λ r. IsStep r stands (p, l))
    → IfSome told (λ r. AddsAll r stands (map f (take (i + 1) xs)) old new then)
next_placed f xs i d lt old front new l p made is bad then keeps None stands order adds step = tt
next_placed f xs i d lt old front new l p made is bad then keeps (Some r) stands order adds step =
    subst (λ ls. AddsAll r stands ls old new then) (ap (λ m. map f (take i xs) ++ m ∷ []) is ∙ sym (mapped_more f xs i d lt))
    (subst (λ es. AddsAll r stands (map f (take i xs) ++ shown_link l ∷ []) old es then) (sym made) (adds_placed r stands order (map f (take i xs)) l p old front bad then adds keeps step))

-- ---- one object after the other

module _ {A : Type 0} (r : Records) (stands : ℕ → ℕ) (tips : List Bytes) (order : List (ℕ × Name)) (k : ℕ × Link) (front new : List (ℕ × Link)) (bad then : Bad A) where
  -- the last in front is visited
  pub visits : AllByRecursion (IsStep r stands) (front ++ k ∷ []) → KeepsBad bad then → AddsLinks r stands k.1.name.bytes front new then
      → IsVisited r stands (IsBad bad) (Waits (front ++ k ∷ []) bad) tips order → IsVisited r stands (IsBad then) (Waits new then) tips (order ++ (k.0, k.1.name) ∷ [])
  visits s keeps a v =
      visited_with r (IsBad bad) (IsBad then) (Waits (front ++ k ∷ []) bad) (Waits new then) keeps stands (k.0, k.1.name) tips order
      (λ n w. elim w [
        | inl i ↦ elim (front_cases front k n i) [ inl j ↦ inr (inl (a.adds.more n j)) | inr e ↦ inl e ]
        | inr b ↦ inr (inr (keeps n b))
      ]) (steps_last r stands front k s).1.0 a.all v

-- so of what is told
pub visits_told : {A : Type 0} (told : Option Records) (stands : ℕ → ℕ) (tips : List Bytes) (order order_then : List (ℕ × Name)) (k : ℕ × Link) (whole rest new : List (ℕ × Link)) (bad then : Bad A) → whole ≡ rest ++ k ∷ [] → order_then ≡ order ++ (k.0, k.1.name) ∷ []
    → KeepsBad bad then → IfSome told (λ r. AllByRecursion (IsStep r stands) whole) → IfSome told (λ r. AddsLinks r stands k.1.name.bytes rest new then) → IfSome told (λ r. IsVisited r stands (IsBad bad) (Waits whole bad) tips order)
    → IfSome told (λ r. IsVisited r stands (IsBad then) (Waits new then) tips order_then)
visits_told None stands tips order order_then k whole rest new bad then taken pushed keeps steps adds v = tt
visits_told (Some r) stands tips order order_then k whole rest new bad then taken pushed keeps steps adds v =
    subst (IsVisited r stands (IsBad then) (Waits new then) tips) (sym pushed)
    (visits r stands tips order k rest new bad then (subst (AllByRecursion (IsStep r stands)) taken steps) keeps adds (subst (λ xs. IsVisited r stands (IsBad bad) (Waits xs bad) tips order) taken v))

-- nothing is in front any more
pub all_visited : {A : Type 0} (told : Option Records) (stands : ℕ → ℕ) (tips : List Bytes) (order : List (ℕ × Name)) (front : List (ℕ × Link)) (bad : Bad A) → front ≡ [] → IfSome told (λ r. IsVisited r stands (IsBad bad) (Waits front bad) tips order)
    → IfSome told (λ r. IsVisited r stands (IsBad bad) (IsBad bad) tips order)
all_visited told stands tips order front bad none v =
    told_alone told (λ r. IsVisited r stands (IsBad bad) (Waits front bad) tips order) (λ r. IsVisited r stands (IsBad bad) (IsBad bad) tips order)
    (λ r w. visited_more r (IsBad bad) (IsBad bad) (Waits front bad) (IsBad bad) (λ n b. b) stands tips order (λ n h. elim h [ inl i ↦ absurd (subst (λ xs. InFront xs n) none i) | inr b ↦ b ]) w) v

-- nothing was visited
none_visited : {A : Type 0} (r : Records) (stands : ℕ → ℕ) (tips : List Bytes) (front : List (ℕ × Link)) (bad : Bad A) → AllByRecursion (Waits front bad) tips → IsVisited r stands (IsBad bad) (Waits front bad) tips []
none_visited r stands tips front bad h = record { standing = tt; closed = tt; tips_are = all_weaker (Waits front bad) _ (λ n w. inr w) tips h }

-- ---- an object that is told

module _ {A : Type 0} (name : Kind → Bytes → Bytes) (stands : ℕ → ℕ) (called : Bytes) (place : ℕ) (o : Object) (links : Vec Link A) (are : AreLinksOf o.kind o.body.now links) where
  -- the links of an object that is shown are what it names
  these_links : (r : Records) → IsSound name r → GoesUp stands (length r.records) → IsHeldThere called r o → map shown_link links.items ≡ links_in o.kind o.body.now
  these_links r sound order held = elim are [ inl e ↦ e | inr none ↦ absurd (none.1 (shown_body name stands r sound order called o held)) ]

  all_shown : (P : Named → Type 0) (ls : List Link) → AllByRecursion P (map shown_link ls) → AllByRecursion (λ l. P (shown_link l)) ls
  all_shown P [] h = tt
  all_shown P (l ∷ ls) h = (h.0, all_shown P ls h.1)

  -- so each stands before it
  pub links_stand : (told : Option Records) → IfSome told (IsSound name) → IfSome told (λ r. GoesUp stands (length r.records)) → IfSome told (λ r. StandsThere stands called r (Some place)) → IfSome told (λ r. IsHeldThere called r o)
      → IfSome told (λ r. AllByRecursion (λ l. IsBefore r stands place (shown_link l)) links.items)
  links_stand None sound order there held = tt
  links_stand (Some r) sound order there held =
      all_shown (IsBefore r stands place) links.items (subst (AllByRecursion (IsBefore r stands place)) (sym (these_links r sound order held)) (shown_before name stands r sound order called o held place there))

  -- and where they are added, so is what it names
  pub links_added : {B X E : Type 0} (told : Option Records) (old new : List (ℕ × Link)) (bad : Bad B) (answer : Result X E) → IfSome told (IsSound name) → IfSome told (λ r. GoesUp stands (length r.records)) → IfSome told (λ r. IsHeldThere called r o)
      → IfSome told (λ r. OnOk answer (AddsAll r stands (map shown_link links.items) old new bad)) → IfSome told (λ r. OnOk answer (AddsLinks r stands called old new bad))
  links_added None old new bad answer sound order held adds = tt
  links_added (Some r) old new bad answer sound order held adds =
      on_ok (AddsAll r stands (map shown_link links.items) old new bad) (AddsLinks r stands called old new bad) answer
      (λ a. record {
        adds = a.adds;
        all = inr (shown_links_have r (Waits new bad) called o held (subst (AllByRecursion (λ l. Waits new bad l.0)) (these_links r sound order held) a.all));
      }) adds

-- ---- what is answered of a place

pub place_told : {A : Type 0} (told : Option Records) (stands : ℕ → ℕ) (called : Bytes) (bad : Bad A) (found : Option ℕ) (place : ℕ) → found ≡ Some place → IfSome told (λ r. IsPlaced r stands called bad found) → IfSome told (λ r. StandsThere stands called r (Some place))
place_told told stands called bad found place is h = subst (λ o. IfSome told (λ r. IsPlaced r stands called bad o)) is h

pub none_told : {A : Type 0} (told : Option Records) (stands : ℕ → ℕ) (called : Bytes) (bad : Bad A) (found : Option ℕ) → found ≡ None → IfSome told (λ r. IsPlaced r stands called bad found) → IfSome told (λ r. IsBad bad called)
none_told told stands called bad found is h = subst (λ o. IfSome told (λ r. IsPlaced r stands called bad o)) is h

-- ---- what stands before a place

pub one_before : (stands : ℕ → ℕ) (limit : ℕ) (links : List Link) (i : ℕ) (d : Link) (told : Option Records) → i < length links → IfSome told (λ r. AllByRecursion (λ x. IsBefore r stands limit (shown_link x)) links) → IfSome told (λ r. IsBefore r stands limit (shown_link (get_or links i d)))
one_before stands limit links i d told lt h = told_alone told (λ r. AllByRecursion (λ x. IsBefore r stands limit (shown_link x)) links) (λ r. IsBefore r stands limit (shown_link (get_or links i d))) (λ r a. all_at (λ x. IsBefore r stands limit (shown_link x)) links i d lt a) h

pub before_stands : (stands : ℕ → ℕ) (limit : ℕ) (l : Link) (told : Option Records) → IfSome told (λ r. IsBefore r stands limit (shown_link l)) → IfSome told (λ r. StandsSomewhere r stands l.name.bytes)
before_stands stands limit l told h = told_alone told (λ r. IsBefore r stands limit (shown_link l)) (λ r. StandsSomewhere r stands l.name.bytes) (λ r b. (b.0, b.1)) h

module _ (stands : ℕ → ℕ) (limit place : ℕ) (l : Link) where
  -- a link that stands before it is put in front
  pub step_before : (told : Option Records) → IfSome told (λ r. StandsThere stands l.name.bytes r (Some place)) → IfSome told (λ r. IsBefore r stands limit (shown_link l)) → IfSome told (λ r. IsStep r stands (place, l))
  step_before told there before = told_both told (λ r. StandsThere stands l.name.bytes r (Some place)) (λ r. IsBefore r stands limit (shown_link l)) (λ r. IsStep r stands (place, l)) (λ r t b. (t, b.3)) there before

  -- no other is a link of a repository's object
  pub none_behind : (told : Option Records) (P : Records → Type 0) → limit ≤ place → IfSome told (λ r. StandsThere stands l.name.bytes r (Some place)) → IfSome told (λ r. IsBefore r stands limit (shown_link l)) → IfSome told P
  none_behind told P late there before =
      told_both told (λ r. StandsThere stands l.name.bytes r (Some place)) (λ r. IsBefore r stands limit (shown_link l)) P
      (λ r t b. absurd (let same : Some place ≡ Some b.0 = t ∙ sym b.1 in let is : place ≡ b.0 = cc same in let low = b.2 in omega (arith, late, is, low))) there before

-- ---- what refs hold

-- each of some stands somewhere
pub one_stands : {X : Type 0} (see : X → Bytes) (stands : ℕ → ℕ) (xs : List X) (i : ℕ) (d : X) (told : Option Records) → i < length xs → IfSome told (λ r. AllByRecursion (λ x. StandsSomewhere r stands (see x)) xs) → IfSome told (λ r. StandsSomewhere r stands (see (get_or xs i d)))
one_stands see stands xs i d told lt h = told_alone told (λ r. AllByRecursion (λ x. StandsSomewhere r stands (see x)) xs) (λ r. StandsSomewhere r stands (see (get_or xs i d))) (λ r a. all_at (λ x. StandsSomewhere r stands (see x)) xs i d lt a) h

-- an object that a ref holds is put in front
pub step_tip : (stands : ℕ → ℕ) (place : ℕ) (name : Name) (told : Option Records) → IfSome told (λ r. StandsThere stands name.bytes r (Some place)) → IfSome told (λ r. IsStep r stands (place, record { name = name; is_blob = false }))
step_tip stands place name told there =
    told_alone told (λ r. StandsThere stands name.bytes r (Some place)) (λ r. IsStep r stands (place, record { name = name; is_blob = false })) (λ r t. (t, λ blob held e. absurd (false≢true blob))) there

all_tips : (P : Bytes → Type 0) (refs : List RefChange) → AllByRecursion (λ l. P l.0) (tip_links refs) → AllByRecursion P (targets_of refs)
all_tips P [] h = tt
all_tips P (x ∷ xs) h = (h.0, all_tips P xs h.1)

-- before one is visited, what refs hold waits
pub waits_first : {A : Type 0} (told : Option Records) (stands : ℕ → ℕ) (refs : List RefChange) (order : List (ℕ × Name)) (old front : List (ℕ × Link)) (bad : Bad A) → order ≡ [] → IfSome told (λ r. AddsAll r stands (tip_links refs) old front bad)
    → IfSome told (λ r. IsVisited r stands (IsBad bad) (Waits front bad) (targets_of refs) order)
waits_first told stands refs order old front bad none adds =
    told_alone told (λ r. AddsAll r stands (tip_links refs) old front bad) (λ r. IsVisited r stands (IsBad bad) (Waits front bad) (targets_of refs) order)
    (λ r a. subst (IsVisited r stands (IsBad bad) (Waits front bad) (targets_of refs)) (sym none) (none_visited r stands (targets_of refs) front bad (all_tips (Waits front bad) refs a.all))) adds
