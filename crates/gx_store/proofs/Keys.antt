-- Names as keys: a map finds one by `==`, which is the equality of the bytes.
use Rattle.std.proofs.Common.{◌≡◌, Bool, true, false, cond, List, [], ◌∷◌, map, Option, Some, None, refl, sym, ap, ◌∙◌, option_map}
use Rattle.std.specs.Prelude.{nat_lt, not, ◌+◌}
use Rattle.std.specs.List.{position, position_or_len}
use Rattle.std.specs.Map.{keys_of}
use Rattle.std.proofs.lemmas.List.{length-map}
use Rattle.gx_store.specs.Stores.{place_named}
use Rattle.std.specs.Cmp.Lexicographic.{bytes_decides}
use Rattle.std.specs.Map.{lookup}
use Rattle.gx_model.specs.Texts.{same_bytes}
use Rattle.gx_model.specs.Histories.{Record}
use Rattle.gx_model.specs.Records.Growth.{record_named}
use Rattle.gx_object.specs.declared.name.Name.{Name}
use Rattle.gx_object.specs.contracts.name.NamePartialEq.TheImpl as equality
use Rattle.gx_store.specs.Bodies.{bytes_of}
use Rattle.gx_store.specs.Objects.{shown_stored}
use Rattle.gx_store.specs.declared.store.Object.{Object}

pub same_name : (n m : Name) → same_bytes n.bytes m.bytes ≡ true → n ≡ m
same_name n m h = ap (λ bytes. record { bytes = bytes }) ((bytes_decides n.bytes m.bytes).0 h)

-- the record under a name
abbrev pub under : {A : Type 0} → Name → Object A → Record
under n object = record { name = n.bytes; kind = object.kind; body = bytes_of object.body }

-- a look-up in the map finds the record
pub found : {A : Type 0} (n : Name) (es : List (Name × Object A)) → record_named (map shown_stored es) n.bytes ≡ option_map (under n) (lookup ((equality.eq-value).it n) es)
found n [] = refl
found {A} n (e ∷ es) = by (same_bytes n.bytes e.0.bytes) refl (found n es)
  where
    by : (b : Bool) → same_bytes n.bytes e.0.bytes ≡ b → record_named (map shown_stored es) n.bytes ≡ option_map (under n) (lookup ((equality.eq-value).it n) es) → cond b (Some (shown_stored e)) (record_named (map shown_stored es) n.bytes) ≡ option_map (under n) (cond b (Some e.1) (lookup ((equality.eq-value).it n) es))
    by true h rest = ap (λ (m : Name). Some (under m e.1)) (sym (same_name n e.0 h))
    by false h rest = rest

-- where no record has a name, a look-up in the map finds nothing
pub lookup_free : {A : Type 0} (n : Name) (es : List (Name × Object A)) → record_named (map shown_stored es) n.bytes ≡ None → lookup ((equality.eq-value).it n) es ≡ None
lookup_free {A} n es free = none (lookup ((equality.eq-value).it n) es) (sym (found n es) ∙ free)
  where
    none : (o : Option (Object A)) → option_map (under n) o ≡ None → o ≡ None
    none None h = refl
    none (Some o) h = absurd (cc)

-- ---- the place of a name

-- a test of what is seen finds the same place among what is seen so
position_map : {X Y : Type 0} (view : X → Y) (test : Y → Bool) (xs : List X) → position_or_len test (map view xs) ≡ position_or_len (λ x. test (view x)) xs
position_map view test [] = refl
position_map view test (x ∷ xs) = ap (λ n. cond (not (test (view x))) (1 + n) 0) (position_map view test xs)

pub place_found : {A : Type 0} (n : Name) (es : List (Name × Object A)) → position ((equality.eq-value).it n) (keys_of es) ≡ place_named (map shown_stored es) n.bytes
place_found n es =
    let e = position_map (λ e. e.0) (λ m. same_bytes n.bytes m.bytes) es ∙ sym (position_map shown_stored (λ r. same_bytes n.bytes r.name) es) in
    let l = length-map es (λ e. e.0) ∙ sym (length-map es shown_stored) in
    λ i. cond (nat_lt (e i) (l i)) (Some (e i)) None
