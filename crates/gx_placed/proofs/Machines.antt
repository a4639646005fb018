-- What is known while objects are placed, from one step to the next.
use Rattle.std.proofs.Common.{◌≡◌, ℕ, zero, suc, ◌+◌, ◌≤◌, true, sym, ap, ◌∙◌, refl, subst, List, [], ◌∷◌, ◌++◌, length, map, set, take, Option, Some, None, inl, inr, ◌⊎◌, arith, append_assoc, append-nil, length-append}
use Rattle.std.specs.Prelude.{⊤}
use Rattle.std.specs.Bool.{passes}
use Rattle.std.specs.List.{AllByRecursion, slice_get}
use Rattle.gx_model.specs.declared.objects.Kind.{Kind}
use Rattle.gx_model.specs.Texts.{Bytes}
use Rattle.gx_model.specs.Histories.{Record}
use Rattle.gx_model.specs.Records.Growth.{record_named, same_kind}
use Rattle.gx_model.specs.Records.RecordFaults.{is_body, is_held, is_of_kind}
use Rattle.gx_model.proofs.Records.GrownRecords.{kind_is}
use Rattle.gx_model.proofs.Records.HeldValues.{kinds_same}
use Rattle.gx_wide.specs.Placing.{wide_links}
use Rattle.gx_placed.specs.Placed.{others}
use Rattle.gx_placed.specs.Machine.{AreBegun, AreSlots, Begun, IsAmong, IsBegun, IsCovered, IsLooked, IsMachine, IsUnderWay, beside, count, looked_at, place_in, slot_at, waits, weight}
use Rattle.gx_placed.proofs.Lookups.{all_wait, apart_too, first_there, found_last, found_still, free_among, free_before, free_still, none_found, none_waits, one_or_two, other_found, place_named_so, two, waits_at, waits_still}
use Rattle.gx_placed.proofs.Resumes.{beside_last}

-- ---- lists

pub all_then : {X : Type 0} {P Q : X → Type 0} → ((x : X) → P x → Q x) → (xs : List X) → AllByRecursion P xs → AllByRecursion Q xs
all_then f [] a = tt
all_then f (x ∷ xs) a = (f x a.0, all_then f xs a.1)

pub all_snoc : {X : Type 0} (P : X → Type 0) (xs : List X) (x : X) → AllByRecursion P xs → P x → AllByRecursion P (xs ++ x ∷ [])
all_snoc P [] x a p = (p, tt)
all_snoc P (y ∷ xs) x a p = (a.0, all_snoc P xs x a.1 p)

pub all_at : {X : Type 0} (P : X → Type 0) (xs : List X) (k : ℕ) (x : X) → AllByRecursion P xs → slice_get xs k ≡ Some x → P x
all_at P [] k x a e = absurd (cc)
all_at P (y ∷ xs) zero x a e = let z : y ≡ x = cc e in subst P z a.0
all_at P (y ∷ xs) (suc k) x a e = all_at P xs k x a.1 e

-- ---- objects that were begun

pub among_front : (below more : List Begun) (r : Record) → IsAmong below r → IsAmong (below ++ more) r
among_front [] more r h = absurd h
among_front (b ∷ below) more r h = elim h [ inl e ↦ inl e | inr h ↦ inr (among_front below more r h) ]

pub among_back : (below more : List Begun) (r : Record) → IsAmong more r → IsAmong (below ++ more) r
among_back [] more r h = h
among_back (b ∷ below) more r h = inr (among_back below more r h)

pub among_either : (below more : List Begun) (r : Record) → IsAmong (below ++ more) r → IsAmong below r ⊎ IsAmong more r
among_either [] more r h = inr h
among_either (b ∷ below) more r h = elim h [
  | inl e ↦ inl (inl e)
  | inr h ↦ elim (among_either below more r h) [ inl k ↦ inl (inr k) | inr k ↦ inr k ]
]

under_front : (below more : List Begun) (l : Kind × Bytes) → IsUnderWay below l → IsUnderWay (below ++ more) l
under_front [] more l h = absurd h
under_front (b ∷ below) more l h = elim h [ inl e ↦ inl e | inr h ↦ inr (under_front below more l h) ]

under_back : (below more : List Begun) (l : Kind × Bytes) → IsUnderWay more l → IsUnderWay (below ++ more) l
under_back [] more l h = h
under_back (b ∷ below) more l h = inr (under_back below more l h)

under_either : (below more : List Begun) (l : Kind × Bytes) → IsUnderWay (below ++ more) l → IsUnderWay below l ⊎ IsUnderWay more l
under_either [] more l h = inr h
under_either (b ∷ below) more l h = elim h [
  | inl e ↦ inl (inl e)
  | inr h ↦ elim (under_either below more l h) [ inl k ↦ inl (inr k) | inr k ↦ inr k ]
]

-- what isn't given isn't beside
free_beside : (given : List Record) (below : List Begun) (n : Bytes) → record_named given n ≡ None → record_named (beside given below) n ≡ None
free_beside given [] n e = e
free_beside given (b ∷ below) n e = free_beside (others b.new.name given) below n (free_among b.new.name n given e)

-- what is held stays held
held_still : (held more : List Record) (k : Kind) (n : Bytes) → is_held held k n ≡ true → is_held (held ++ more) k n ≡ true
held_still held more k n e = by (record_named held n) refl e
  where
    by : (o : Option Record) → record_named held n ≡ o → is_of_kind k o ≡ true → is_held (held ++ more) k n ≡ true
    by None f g = absurd (cc)
    by (Some r) f g = ap (is_of_kind k) (found_still held more n r f) ∙ g

module _ (names : Kind → Bytes → Bytes) (all : List Record) where
  -- the last that was begun
  pub top_begun : (given held : List Record) (below : List Begun) (one : Begun) → AreBegun names all given held (below ++ one ∷ []) → IsBegun names all (beside given below) held one []
  top_begun given held [] one h = h.0
  top_begun given held (b ∷ below) one h = top_begun (others b.new.name given) held below one h.1

  -- others in place of the last
  pub replaced : (given held now : List Record) (below : List Begun) (one : Begun) (more : List Begun) → AreBegun names all given held (below ++ one ∷ []) → AreBegun names all (beside given below) now more
      → ((n : Bytes) → record_named held n ≡ None → record_named (beside given below) n ≡ None → record_named now n ≡ None)
      → ((l : Kind × Bytes) → is_held held l.0 l.1 ≡ true → is_held now l.0 l.1 ≡ true)
      → ((l : Kind × Bytes) → IsUnderWay (one ∷ []) l → IsLooked now more l)
      → AreBegun names all given now (below ++ more)
  replaced given held now [] one more h t free keep link = t
  replaced given held now (b ∷ below) one more h t free keep link = (
    record {
      stands = h.0.stands;
      found = h.0.found;
      free = free b.new.name h.0.free (free_beside (others b.new.name given) below b.new.name (none_found b.new.name given));
      is_one = h.0.is_one;
      named = h.0.named;
      links = h.0.links;
      looked = all_then (λ l k. seen l k) b.done h.0.looked;
    },
    replaced (others b.new.name given) held now below one more h.1 t free keep link,
  )
    where
      seen : (l : Kind × Bytes) → IsLooked held (below ++ one ∷ []) l → IsLooked now (below ++ more) l
      seen l k = elim k [
        | inl e ↦ inl (keep l e)
        | inr u ↦ elim (under_either below (one ∷ []) l u) [
          | inl v ↦ inr (under_front below more l v)
          | inr v ↦ elim (link l v) [ inl e ↦ inl e | inr w ↦ inr (under_back below more l w) ]
        ]
      ]

-- ---- those that wait

slots_then : (held now : List Record) (begun still : List Begun) → ((r : Record) → IsCovered held begun r → IsCovered now still r) → (given : List Record) (slots : List (Option Record)) → AreSlots held begun given slots
    → AreSlots now still given slots
slots_then held now begun still f [] [] h = tt
slots_then held now begun still f [] (s ∷ slots) h = absurd h
slots_then held now begun still f (r ∷ given) [] h = absurd h
slots_then held now begun still f (r ∷ given) (None ∷ slots) h = (f r h.0, slots_then held now begun still f given slots h.1)
slots_then held now begun still f (r ∷ given) (Some o ∷ slots) h = (h.0, slots_then held now begun still f given slots h.1)

slots_emptied : (held : List Record) (begun : List Begun) (given : List Record) (slots : List (Option Record)) (p : ℕ) (r : Record) → slice_get given p ≡ Some r → IsCovered held begun r → AreSlots held begun given slots
    → AreSlots held begun given (set slots p None)
slots_emptied held begun [] [] p r e c h = tt
slots_emptied held begun [] (s ∷ slots) p r e c h = absurd h
slots_emptied held begun (s ∷ given) [] p r e c h = absurd h
slots_emptied held begun (s ∷ given) (t ∷ slots) zero r e c h = let z : s ≡ r = cc e in (subst (IsCovered held begun) (sym z) c, h.1)
slots_emptied held begun (s ∷ given) (t ∷ slots) (suc p) r e c h = (h.0, slots_emptied held begun given slots p r e c h.1)

-- what waits at a place is what was given there
pub slot_is : (held : List Record) (begun : List Begun) (given : List Record) (slots : List (Option Record)) (p : ℕ) (o : Record) → AreSlots held begun given slots → slot_at slots p ≡ Some o → slice_get given p ≡ Some o
slot_is held begun [] [] p o h e = absurd (cc)
slot_is held begun [] (s ∷ slots) p o h e = absurd h
slot_is held begun (r ∷ given) [] p o h e = absurd h
slot_is held begun (r ∷ given) (None ∷ slots) zero o h e = absurd (cc)
slot_is held begun (r ∷ given) (Some s ∷ slots) zero o h e = ap Some (sym h.0) ∙ e
slot_is held begun (r ∷ given) (s ∷ slots) (suc p) o h e = slot_is held begun given slots p o h.1 e

-- where nothing waits, what was given doesn't
pub slot_covered : (held : List Record) (begun : List Begun) (given : List Record) (slots : List (Option Record)) (p : ℕ) (r : Record) → AreSlots held begun given slots → slot_at slots p ≡ None → slice_get given p ≡ Some r → IsCovered held begun r
slot_covered held begun [] slots p r h e f = absurd (cc)
slot_covered held begun (s ∷ given) [] p r h e f = absurd h
slot_covered held begun (s ∷ given) (None ∷ slots) zero r h e f = let z : s ≡ r = cc f in subst (IsCovered held begun) z h.0
slot_covered held begun (s ∷ given) (Some o ∷ slots) zero r h e f = absurd (cc)
slot_covered held begun (s ∷ given) (t ∷ slots) (suc p) r h e f = slot_covered held begun given slots p r h.1 e f

-- a slot that is emptied weighs no more
pub weight_emptied : (number : Record → ℕ) (slots : List (Option Record)) (p : ℕ) (o : Record) → slot_at slots p ≡ Some o → weight number (set slots p None) + number o ≡ weight number slots
weight_emptied number [] p o e = absurd (cc)
weight_emptied number (None ∷ slots) zero o e = absurd (cc)
weight_emptied number (Some s ∷ slots) zero o e = let z : s ≡ o = cc e in let k : number s ≡ number o = ap number z in omega (arith, k)
weight_emptied number (s ∷ slots) (suc p) o e = let k = weight_emptied number slots p o e in omega (arith, k)

pub weighs_no_more : (number : Record → ℕ) (slots : List (Option Record)) (p : ℕ) → weight number (set slots p None) ≤ weight number slots
weighs_no_more number [] p = omega arith
weighs_no_more number (s ∷ slots) zero = omega arith
weighs_no_more number (s ∷ slots) (suc p) = let k = weighs_no_more number slots p in omega (arith, k)

-- all wait at first
pub count_all : (given : List Record) → count (map Some given) ≡ length given
count_all [] = refl
count_all (r ∷ given) = let k = count_all given in omega (arith, k)

slots_all : (given : List Record) → AreSlots [] [] given (map Some given)
slots_all [] = tt
slots_all (r ∷ given) = (refl, slots_all given)

-- ---- steps

module _ (names : Kind → Bytes → Bytes) (all : List Record) where
  -- at first
  pub at_first : (held : List Record) → AllByRecursion (λ (one : Record). one.name ≡ names one.kind one.body) all → IsMachine names all (map Some all) held []
  at_first held n = record {
    named = n;
    waiting = λ called e. all_wait all called;
    covered = slots_then [] held [] [] (λ r c. elim c [ inl e ↦ absurd (cc) | inr h ↦ absurd h ]) all (map Some all) (slots_all all);
    room = (let k = count_all all in omega (arith, k));
    stack = tt;
  }

  module _ (slots : List (Option Record)) (held : List Record) (below : List Begun) (one : Begun) where
    -- with a link looked at that is held
    pub over : (link : Kind × Bytes) (left : List (Kind × Bytes)) → IsMachine names all slots held (below ++ one ∷ []) → one.left ≡ link ∷ left → is_held held link.0 link.1 ≡ true
        → IsMachine names all slots held (below ++ looked_at one link left ∷ [])
    over link left m l e =
        let top = top_begun names all all held below one m.stack in
        record {
          named = m.named;
          waiting = λ called f. m.waiting called f ∙ ap (λ rs. record_named rs called) (beside_last all below one ∙ sym (beside_last all below (looked_at one link left)));
          covered = slots_then held held (below ++ one ∷ []) (below ++ looked_at one link left ∷ []) (λ r c. still r c) all slots m.covered;
          room = (let a = length-append below (one ∷ []) in let b = length-append below (looked_at one link left ∷ []) in let r = m.room in omega (arith, a, b, r));
          stack = replaced names all all held held below one (looked_at one link left ∷ []) m.stack (
            record {
              stands = top.stands;
              found = top.found;
              free = top.free;
              is_one = top.is_one;
              named = top.named;
              links = append_assoc one.done (link ∷ []) left ∙ ap (λ ls. one.done ++ ls) (sym l) ∙ top.links;
              looked = all_snoc (IsLooked held []) one.done link top.looked (inl e);
            },
            tt,
          )
              (λ n f g. f) (λ l f. f) (λ l u. inr u);
        }
      where
        still : (r : Record) → IsCovered held (below ++ one ∷ []) r → IsCovered held (below ++ looked_at one link left ∷ []) r
        still r c = elim c [
          | inl f ↦ inl f
          | inr a ↦ inr (elim (among_either below (one ∷ []) r a) [ inl b ↦ among_front below (looked_at one link left ∷ []) r b | inr b ↦ among_back below (looked_at one link left ∷ []) r b ])
        ]

    -- what a link names that isn't held, where it waits
    pub needed : (link : Kind × Bytes) (p : ℕ) (r : Record) → IsMachine names all slots held (below ++ one ∷ []) → record_named held link.1 ≡ None → place_in all link.1 ≡ Some p → slot_at slots p ≡ Some r
        → (slice_get all p ≡ Some r) × (r.name ≡ link.1) × (record_named (others one.new.name (beside all below)) link.1 ≡ Some r)
    needed link p r m e f g =
        let there : slice_get all p ≡ Some r = slot_is held (below ++ one ∷ []) all slots p r m.covered g in
        let named = place_named_so all link.1 p f in
        let same : named.0 ≡ r = cc (sym named.1 ∙ there) in
        let found : waits all slots link.1 ≡ Some r = sym (waits_at all slots link.1) ∙ ap (λ o. elim o [ None ↦ None | Some q ↦ slot_at slots q ]) f ∙ g in
        (there, ap (λ (x : Record). x.name) (sym same) ∙ named.2, ap (λ rs. record_named rs link.1) (sym (beside_last all below one)) ∙ sym (m.waiting link.1 e) ∙ found)

    -- ... and where it doesn't
    pub unneeded : (link : Kind × Bytes) → IsMachine names all slots held (below ++ one ∷ []) → record_named held link.1 ≡ None → waits all slots link.1 ≡ None → record_named (others one.new.name (beside all below)) link.1 ≡ None
    unneeded link m e g = ap (λ rs. record_named rs link.1) (sym (beside_last all below one)) ∙ sym (m.waiting link.1 e) ∙ g

    -- with an object begun that a link names
    pub into : (link : Kind × Bytes) (left : List (Kind × Bytes)) (new : Begun) → IsMachine names all slots held (below ++ one ∷ []) → one.left ≡ link ∷ left → record_named held link.1 ≡ None
        → place_in all link.1 ≡ Some new.place → slot_at slots new.place ≡ Some new.new → same_kind new.new.kind link.0 ≡ true → is_body new.new.kind new.new.body ≡ true → new.done ≡ [] → new.left ≡ wide_links new.new.kind new.new.body
        → IsMachine names all (set slots new.place None) held (below ++ looked_at one link left ∷ new ∷ [])
    into link left new m l e f g k b d w =
        let top = top_begun names all all held below one m.stack in
        let need = needed link new.place new.new m e f g in
        let free : record_named held new.new.name ≡ None = ap (record_named held) need.1 ∙ e in
        let found : record_named (others one.new.name (beside all below)) new.new.name ≡ Some new.new = ap (record_named (others one.new.name (beside all below))) need.1 ∙ need.2 in
        let first : place_in all new.new.name ≡ Some new.place = ap (place_in all) need.1 ∙ f in
        let flat = append_assoc below (looked_at one link left ∷ []) (new ∷ []) in
        let beside_new : beside all (below ++ looked_at one link left ∷ new ∷ []) ≡ others new.new.name (beside all (below ++ one ∷ [])) =
        ap (beside all) (sym flat) ∙ beside_last all (below ++ looked_at one link left ∷ []) new ∙ ap (others new.new.name) (beside_last all below (looked_at one link left) ∙ sym (beside_last all below one)) in
        record {
          named = m.named;
          waiting = λ called free_name. waits_so called free_name need.0 first beside_new (λ a. m.waiting called free_name);
          covered = slots_emptied held (below ++ looked_at one link left ∷ new ∷ []) all slots new.place new.new need.0 (inr (among_back below (looked_at one link left ∷ new ∷ []) new.new (inr (inl refl))))
              (slots_then held held (below ++ one ∷ []) (below ++ looked_at one link left ∷ new ∷ []) (λ r c. still r c) all slots m.covered);
          room = (let a = length-append below (one ∷ []) in let b = length-append below (looked_at one link left ∷ new ∷ []) in let r = m.room in let q = weight_emptied (λ _. 1) slots new.place new.new g in omega (arith, a, b, r, q));
          stack = replaced names all all held held below one (looked_at one link left ∷ new ∷ []) m.stack (
            record {
              stands = top.stands;
              found = top.found;
              free = top.free;
              is_one = top.is_one;
              named = top.named;
              links = append_assoc one.done (link ∷ []) left ∙ ap (λ ls. one.done ++ ls) (sym l) ∙ top.links;
              looked = all_snoc (IsLooked held (new ∷ [])) one.done link (all_then (λ x h. elim h [ inl h ↦ inl h | inr u ↦ absurd u ]) one.done top.looked) (inr (inl (kind_is new.new.kind link.0 (passes _ k), need.1)));
            },
            (
              record {
                stands = need.0;
                found = found;
                free = free;
                is_one = b;
                named = all_at (λ (one : Record). one.name ≡ names one.kind one.body) all new.place new.new m.named need.0;
                links = ap (λ ls. ls ++ new.left) d ∙ w;
                looked = subst (AllByRecursion (IsLooked held [])) (sym d) tt;
              },
              tt,
            ),
          )
              (λ n f g. f) (λ l f. f) (λ l u. elim u [ inl v ↦ inr (inl v) | inr v ↦ absurd v ]);
        }
      where
        still : (r : Record) → IsCovered held (below ++ one ∷ []) r → IsCovered held (below ++ looked_at one link left ∷ new ∷ []) r
        still r c = elim c [
          | inl f ↦ inl f
          | inr a ↦ inr (elim (among_either below (one ∷ []) r a) [
            | inl b ↦ among_front below (looked_at one link left ∷ new ∷ []) r b
            | inr b ↦ among_back below (looked_at one link left ∷ new ∷ []) r (elim b [ inl x ↦ inl x | inr x ↦ absurd x ])
          ])
        ]

        waits_so : (called : Bytes) → record_named held called ≡ None → slice_get all new.place ≡ Some new.new → place_in all new.new.name ≡ Some new.place
            → beside all (below ++ looked_at one link left ∷ new ∷ []) ≡ others new.new.name (beside all (below ++ one ∷ [])) → (⊤ → waits all slots called ≡ record_named (beside all (below ++ one ∷ [])) called)
            → waits all (set slots new.place None) called ≡ record_named (beside all (below ++ looked_at one link left ∷ new ∷ [])) called
        waits_so called e there first besides waited = elim (one_or_two called new.new.name) [
          | inl same ↦ subst (λ n. waits all (set slots new.place None) n ≡ record_named (beside all (below ++ looked_at one link left ∷ new ∷ [])) n) (sym same)
              (none_waits all slots new.new.name new.place first ∙ sym (none_found new.new.name (beside all (below ++ one ∷ []))) ∙ ap (λ rs. record_named rs new.new.name) (sym besides))
          | inr h ↦ waits_still all slots new.new called new.place there h ∙ waited tt ∙ sym (other_found new.new.name called (beside all (below ++ one ∷ [])) (apart_too called new.new.name h)) ∙ ap (λ rs. record_named rs called) (sym besides)
        ]

    -- with the last one held
    pub ended : IsMachine names all slots held (below ++ one ∷ []) → one.left ≡ [] → IsMachine names all slots (held ++ one.new ∷ []) below
    ended m l =
        let top = top_begun names all all held below one m.stack in
        record {
          named = m.named;
          waiting = λ called f.
              (let apart = two called one.new.name (λ same. let k : Some one.new ≡ None = sym (found_last held one.new top.free) ∙ ap (record_named (held ++ one.new ∷ [])) (sym same) ∙ f in cc) in
              m.waiting called (free_before held (one.new ∷ []) called f) ∙ ap (λ rs. record_named rs called) (beside_last all below one) ∙ other_found one.new.name called (beside all below) (apart_too called one.new.name apart));
          covered = slots_then held (held ++ one.new ∷ []) (below ++ one ∷ []) below (λ r c. still r c top.free) all slots m.covered;
          room = (let a = length-append below (one ∷ []) in let r = m.room in omega (arith, a, r));
          stack = subst (AreBegun names all all (held ++ one.new ∷ [])) (append-nil below)
              (replaced names all all held (held ++ one.new ∷ []) below one [] m.stack tt
              (λ n f g. free_still held one.new n f (two n one.new.name (λ same. let k : Some one.new ≡ None = sym top.found ∙ ap (record_named (beside all below)) (sym same) ∙ g in cc)))
              (λ l f. held_still held (one.new ∷ []) l.0 l.1 f)
              (λ l u. elim u [ inl v ↦ inl (is_now l v.0 v.1 top.free) | inr v ↦ absurd v ]));
        }
      where
        still : (r : Record) → IsCovered held (below ++ one ∷ []) r → record_named held one.new.name ≡ None → IsCovered (held ++ one.new ∷ []) below r
        still r c free = elim c [
          | inl f ↦ inl (found_still held (one.new ∷ []) r.name r f)
          | inr a ↦ elim (among_either below (one ∷ []) r a) [
            | inl b ↦ inr b
            | inr b ↦ elim b [ inl same ↦ inl (subst (λ (x : Record). record_named (held ++ one.new ∷ []) x.name ≡ Some x) same (found_last held one.new free)) | inr x ↦ absurd x ]
          ]
        ]

        is_now : (l : Kind × Bytes) → one.new.kind ≡ l.0 → one.new.name ≡ l.1 → record_named held one.new.name ≡ None → is_held (held ++ one.new ∷ []) l.0 l.1 ≡ true
        is_now l k n free = ap (λ x. is_held (held ++ one.new ∷ []) l.0 x) (sym n) ∙ ap (is_of_kind l.0) (found_last held one.new free) ∙ kinds_same one.new.kind l.0 k

    -- all links of the last one are held, where none is left
    pub links_held : IsMachine names all slots held (below ++ one ∷ []) → one.left ≡ [] → AllByRecursion (λ (l : Kind × Bytes). is_held held l.0 l.1 ≡ true) (wide_links one.new.kind one.new.body)
    links_held m l =
        let top = top_begun names all all held below one m.stack in
        subst (AllByRecursion (λ (l : Kind × Bytes). is_held held l.0 l.1 ≡ true)) (sym (append-nil one.done) ∙ ap (λ ls. one.done ++ ls) (sym l) ∙ top.links)
        (all_then (λ l h. elim h [ inl e ↦ e | inr u ↦ absurd u ]) one.done top.looked)

  -- an object that is held is left out
  pub left_out : (slots : List (Option Record)) (held : List Record) (p : ℕ) (r : Record) → IsMachine names all slots held [] → slice_get all p ≡ Some r → record_named held r.name ≡ Some r → IsMachine names all (set slots p None) held []
  left_out slots held p r m e f = record {
    named = m.named;
    waiting = λ called g.
        waits_still all slots r called p e (two called r.name (λ same. let k : Some r ≡ None = sym f ∙ ap (record_named held) (sym same) ∙ g in cc)) ∙ m.waiting called g;
    covered = slots_emptied held [] all slots p r e (inl f) m.covered;
    room = (let r = m.room in let q = weighs_no_more (λ _. 1) slots p in omega (arith, r, q));
    stack = tt;
  }

  -- an object is begun that nothing waits for
  pub begins : (slots : List (Option Record)) (held : List Record) (new : Begun) → IsMachine names all slots held [] → slot_at slots new.place ≡ Some new.new → record_named held new.new.name ≡ None
      → AllByRecursion (λ (r : Record). record_named held r.name ≡ Some r) (take new.place all) → is_body new.new.kind new.new.body ≡ true → new.done ≡ [] → new.left ≡ wide_links new.new.kind new.new.body
      → IsMachine names all (set slots new.place None) held (new ∷ [])
  begins slots held new m g e a b d w =
      let there : slice_get all new.place ≡ Some new.new = slot_is held [] all slots new.place new.new m.covered g in
      let first = first_there (λ (r : Record). record_named held r.name ≡ Some r) all new.new new.place there a
      (λ s f. two new.new.name s.name (λ same. let k : None ≡ Some s = sym e ∙ ap (record_named held) same ∙ f in cc)) in
      record {
        named = m.named;
        waiting = λ called f. (elim (one_or_two called new.new.name) as (λ _. waits all (set slots new.place None) called ≡ record_named (others new.new.name all) called) [
          | inl same ↦ subst (λ n. waits all (set slots new.place None) n ≡ record_named (others new.new.name all) n) (sym same) (none_waits all slots new.new.name new.place first.0 ∙ sym (none_found new.new.name all))
          | inr h ↦ waits_still all slots new.new called new.place there h ∙ m.waiting called f ∙ sym (other_found new.new.name called all (apart_too called new.new.name h))
        ]);
        covered = slots_emptied held (new ∷ []) all slots new.place new.new there (inr (inl refl)) (slots_then held held [] (new ∷ []) (λ r c. elim c [ inl f ↦ inl f | inr x ↦ absurd x ]) all slots m.covered);
        room = (let r = m.room in let q = weight_emptied (λ _. 1) slots new.place new.new g in omega (arith, r, q));
        stack = (
          record {
            stands = there;
            found = first.1;
            free = e;
            is_one = b;
            named = all_at (λ (one : Record). one.name ≡ names one.kind one.body) all new.place new.new m.named there;
            links = ap (λ ls. ls ++ new.left) d ∙ w;
            looked = subst (AllByRecursion (IsLooked held [])) (sym d) tt;
          },
          tt,
        );
      }
