-- Of all modes, the one that is handed on is the widest that widens nothing.
use Rattle.std.proofs.Common.{◌≡◌, ◌≢◌, ℕ, ◌+◌, suc, Bool, true, false, ◌==◌, ◌&&◌, if◌then◌else◌, refl, sym, subst, arith}
use Rattle.std.proofs.lemmas.Bool.{eqb-true, eqb-false, eq-eqb, ne_eqb, false≢true}
use Rattle.gx_place.specs.declared.rights.Access.{Access}
use Rattle.gx_place.specs.declared.rights.Mode.{Mode}
use Rattle.gx_place.specs.declared.rights.Rights.{Rights}
use Rattle.gx_place.specs.Permissions.{User, both, AtMost, WidensNothing, known, known_rights, in_only, IsHandedOn}
use Rattle.gx_place.specs.Narrowing.{regrouped, reowned}

-- ---- accesses

first : (a b : Bool) → (a && b) ≡ true → a ≡ true
first true b h = refl
first false b h = h

second : (a b : Bool) → (a && b) ≡ true → b ≡ true
second true b h = h
second false b h = elim (false≢true h) [ ]

meets : (x a b : Bool) → (x ≡ true → a ≡ true) → (x ≡ true → b ≡ true) → x ≡ true → (a && b) ≡ true
meets x a b f g h = rw (f h) (g h)

same : (a : Access) → AtMost a a
same a = record { reads = λ h. h; writes = λ h. h; runs = λ h. h }

left : (a b : Access) → AtMost (both a b) a
left a b = record { reads = first a.reads b.reads; writes = first a.writes b.writes; runs = first a.runs b.runs }

right : (a b : Access) → AtMost (both a b) b
right a b = record { reads = second a.reads b.reads; writes = second a.writes b.writes; runs = second a.runs b.runs }

meet : (x a b : Access) → AtMost x a → AtMost x b → AtMost x (both a b)
meet x a b f g = record {
  reads = meets x.reads a.reads b.reads f.reads g.reads;
  writes = meets x.writes a.writes b.writes f.writes g.writes;
  runs = meets x.runs a.runs b.runs f.runs g.runs;
}

chain : {a b c : Access} → AtMost a b → AtMost b c → AtMost a c
chain f g = record { reads = λ h. g.reads (f.reads h); writes = λ h. g.writes (f.writes h); runs = λ h. g.runs (f.runs h) }

-- ---- nobody gets more

classes : (s in_new in_old : Bool) (k : Mode) → (s ≡ true → in_new ≡ in_old)
    → AtMost (if in_new then (regrouped s k).group else (regrouped s k).others) (if in_old then k.group else k.others)
classes true in_new in_old k h = rw (h refl) (same _)
classes false true true k h = left _ _
classes false true false k h = right _ _
classes false false true k h = left _ _
classes false false false k h = right _ _

below_owner : (in_new : Bool) (k : Mode) → AtMost (if in_new then (reowned false k).group else (reowned false k).others) k.owner
below_owner true k = right _ _
below_owner false k = right _ _

below_classes : (in_new : Bool) (k : Mode) → AtMost (if in_new then (reowned false k).group else (reowned false k).others) (if in_new then k.group else k.others)
below_classes true k = left _ _
below_classes false k = left _ _

owners : (o is_old s in_new in_old : Bool) (k : Mode) → (o ≡ true → is_old ≡ false) → (s ≡ true → in_new ≡ in_old)
    → AtMost (if in_new then (reowned o (regrouped s k)).group else (reowned o (regrouped s k)).others) (if is_old then k.owner else (if in_old then k.group else k.others))
owners true is_old s in_new in_old k f g = rw (f refl) (classes s in_new in_old k g)
owners false true true in_new in_old k f g = below_owner in_new k
owners false true false in_new in_old k f g = below_owner in_new (regrouped false k)
owners false false s in_new in_old k f g = chain (below_classes in_new (regrouped s k)) (classes s in_new in_old k g)

bits_stay : (o s m : Bool) (x : Mode) → (reowned o (regrouped s (known m x))).owner ≡ x.owner
bits_stay true true true x = refl
bits_stay true true false x = refl
bits_stay true false true x = refl
bits_stay true false false x = refl
bits_stay false true true x = refl
bits_stay false true false x = refl
bits_stay false false true x = refl
bits_stay false false false x = refl

-- who isn't the new owner, where the owner stays, isn't the old one
not_owner : (n owner old : ℕ) → n ≢ owner → (owner == old) ≡ true → (n == old) ≡ false
not_owner n owner old d e = ne_eqb n old (λ h. d (subst (λ x. n ≡ x) (sym (eqb-true owner old e)) h))

in_same : (u : User) (group old : ℕ) → (group == old) ≡ true → u.is_in group ≡ u.is_in old
in_same u group old e = subst (λ x. u.is_in group ≡ u.is_in x) (eqb-true group old e) refl

widens : (old : Rights) (m : Bool) (owner group : ℕ) (o s : Bool) → (owner == old.owner) ≡ o → (group == old.group) ≡ s
    → WidensNothing (known_rights m old) (record { owner = owner; group = group; mode = reowned o (regrouped s (known m old.mode)) })
widens old m owner group o s eo es u d =
    rw (ne_eqb u.number owner d)
    (owners o (u.number == old.owner) s (u.is_in group) (u.is_in old.group) (known m old.mode)
    (λ h. not_owner u.number owner old.owner d (subst (λ b. (owner == old.owner) ≡ b) h eo))
    (λ h. in_same u group old.group (subst (λ b. (group == old.group) ≡ b) h es)))

-- ---- nothing wider does

-- a user who is neither the old owner nor the new one
abbrev fresh : ℕ → ℕ → ℕ
fresh a b = suc (a + b)

not_first : (a b : ℕ) → fresh a b ≢ a
not_first a b h = omega (arith, h)

not_second : (a b : ℕ) → fresh a b ≢ b
not_second a b h = omega (arith, h)

-- what a user may do with the new file and could do with the old one, where he owns neither, is in the new one's group or not, and in the
-- old one's or not
told : (old new : Rights) (n : ℕ) (is_in : ℕ → Bool) (in_new in_old : Bool) → WidensNothing old new → n ≢ new.owner → n ≢ old.owner
    → is_in new.group ≡ in_new → is_in old.group ≡ in_old
    → AtMost (if in_new then new.mode.group else new.mode.others) (if in_old then old.mode.group else old.mode.others)
told old new n is_in in_new in_old w dn dd hn ho =
    let t = w (record { number = n; is_in = is_in }) dn in
    rw (ne_eqb n new.owner dn, ne_eqb n old.owner dd, hn, ho) at t

-- the same of who owned the old one
told_owner : (old new : Rights) (is_in : ℕ → Bool) (in_new : Bool) → WidensNothing old new → old.owner ≢ new.owner → is_in new.group ≡ in_new
    → AtMost (if in_new then new.mode.group else new.mode.others) old.mode.owner
told_owner old new is_in in_new w d hn =
    let t = w (record { number = old.owner; is_in = is_in }) d in
    rw (ne_eqb old.owner new.owner d, eq-eqb old.owner old.owner refl, hn) at t

abbrev all : ℕ → Bool
all g = true

abbrev none : ℕ → Bool
none g = false

differ : (a b : ℕ) → (a == b) ≡ false → b ≢ a
differ a b e h = eqb-false a b e (sym h)

module _ (owner group : ℕ) (k other : Mode) (o_owner o_group : ℕ) where
  abbrev before : Rights
  before = record { owner = o_owner; group = o_group; mode = k }

  abbrev after : Rights
  after = record { owner = owner; group = group; mode = other }

  member : (w : WidensNothing before after) (is_in : ℕ → Bool) (in_new in_old : Bool) → is_in group ≡ in_new → is_in o_group ≡ in_old
      → AtMost (if in_new then other.group else other.others) (if in_old then k.group else k.others)
  member w is_in in_new in_old hn ho = told before after (fresh owner o_owner) is_in in_new in_old w (not_first owner o_owner) (not_second owner o_owner) hn ho

  group_stays : (s : Bool) → (group == o_group) ≡ s → WidensNothing before after → AtMost other.group (regrouped s k).group
  group_stays true e w = member w all true true refl refl
  group_stays false e w = meet _ _ _ (member w all true true refl refl)
      (member w (in_only group) true false (eq-eqb group group refl) (ne_eqb o_group group (differ group o_group e)))

  others_stay : (s : Bool) → (group == o_group) ≡ s → WidensNothing before after → AtMost other.others (regrouped s k).others
  others_stay true e w = member w none false false refl refl
  others_stay false e w = meet _ _ _
      (member w (in_only o_group) false true (ne_eqb group o_group (λ h. differ group o_group e (sym h))) (eq-eqb o_group o_group refl))
      (member w none false false refl refl)

  group_owner : (o s : Bool) → (owner == o_owner) ≡ o → (group == o_group) ≡ s → WidensNothing before after → AtMost other.group (reowned o (regrouped s k)).group
  group_owner true s eo es w = group_stays s es w
  group_owner false true eo es w = meet _ _ _ (group_stays true es w) (told_owner before after all true w (differ owner o_owner eo) refl)
  group_owner false false eo es w = meet _ _ _ (group_stays false es w) (told_owner before after all true w (differ owner o_owner eo) refl)

  others_owner : (o s : Bool) → (owner == o_owner) ≡ o → (group == o_group) ≡ s → WidensNothing before after → AtMost other.others (reowned o (regrouped s k)).others
  others_owner true s eo es w = others_stay s es w
  others_owner false true eo es w = meet _ _ _ (others_stay true es w) (told_owner before after none false w (differ owner o_owner eo) refl)
  others_owner false false eo es w = meet _ _ _ (others_stay false es w) (told_owner before after none false w (differ owner o_owner eo) refl)

-- what is handed on is the widest mode that widens nothing
pub handing : (old : Rights) (m : Bool) (owner group : ℕ) (mode : Mode)
    → mode ≡ reowned (owner == old.owner) (regrouped (group == old.group) (known m old.mode)) → IsHandedOn old m owner group mode
handing old m owner group mode e = rw e (record {
  owner_bits = bits_stay (owner == old.owner) (group == old.group) m old.mode;
  widens_nothing = widens old m owner group (owner == old.owner) (group == old.group) refl refl;
  widest = λ other _ w. (group_owner owner group (known m old.mode) other old.owner old.group _ _ refl refl w, others_owner owner group (known m old.mode) other old.owner old.group _ _ refl refl w);
})
