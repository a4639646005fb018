-- Going over a directory's entries: a step of each loop.
use Rattle.std.proofs.Common.{◌≡◌, ℕ, ◌+◌, ◌<◌, ◌≤◌, List, [], ◌∷◌, ◌++◌, length, get_or, drop, take, refl, sym, ap, ◌∙◌, append_assoc, subst}
use Rattle.std.proofs.lemmas.List.{append-nil, drop_all, drop_more, map-append}
use Rattle.std.specs.List.{insert}
use Rattle.gx_model.specs.Texts.{Bytes}
use Rattle.gx_tree.specs.Nodes.{Kept, inserted, mark}
use Rattle.gx_tree.specs.Views.{shown_item, shown_entry, shown_entries}
use Rattle.gx_tree.specs.declared.directory.Entry.{Entry}
use Rattle.gx_tree.proofs.Searches.{IsPlace, inserted_at}

pub seen_more : {A : Type 0} (es : List (Entry A)) (i : ℕ) (r : Entry A) → i < length es → r ≡ get_or es i r → shown_entries (drop i es) ≡ shown_entry r ∷ shown_entries (drop (i + 1) es)
seen_more es i r l ir = rw (drop_more es i r l, ← ir) refl

-- one more that is seen alike
pub alike_more : {A : Type 0} (es : List (Entry A)) (i : ℕ) (r : Entry A) (out out' : List (Entry A)) → i < length es → r ≡ get_or es i r → shown_entries out' ≡ shown_entries out ++ shown_entry r ∷ [] → shown_entries out ++ shown_entries (drop i es) ≡ shown_entries es → shown_entries out' ++ shown_entries (drop (i + 1) es) ≡ shown_entries es
alike_more es i r out out' l ir so h =
    rw (so, append_assoc (shown_entries out) (shown_entry r ∷ []) (shown_entries (drop (i + 1) es))) (rw (seen_more es i r l ir) at h)

-- all of them
pub alike_all : {A : Type 0} (es xs : List (Entry A)) (i : ℕ) (out : List (Entry A)) → length xs ≤ i → xs ≡ es → shown_entries out ++ shown_entries (drop i xs) ≡ shown_entries xs → shown_entries out ≡ shown_entries es
alike_all es xs i out l ex h = sym (append-nil (shown_entries out)) ∙ ap (λ r. shown_entries out ++ shown_entries r) (sym (drop_all i xs l)) ∙ h ∙ ap shown_entries ex

-- the same behind others
pub alike_more_behind : {A : Type 0} (es : List (Entry A)) (i : ℕ) (r e : Entry A) (out out' front : List (Entry A)) → i < length es → r ≡ get_or es i r → shown_entry e ≡ shown_entry r → out' ≡ out ++ e ∷ [] → shown_entries out ++ shown_entries (drop i es) ≡ shown_entries front ++ shown_entries es → shown_entries out' ++ shown_entries (drop (i + 1) es) ≡ shown_entries front ++ shown_entries es
alike_more_behind es i r e out out' front l ir se so h =
    rw (so, map-append shown_entry out (e ∷ []), append_assoc (shown_entries out) (shown_entry e ∷ []) (shown_entries (drop (i + 1) es)), se) (rw (seen_more es i r l ir) at h)

pub alike_all_behind : {A : Type 0} (es : List (Entry A)) (i : ℕ) (out front : List (Entry A)) → length es ≤ i → shown_entries out ++ shown_entries (drop i es) ≡ shown_entries front ++ shown_entries es → shown_entries out ≡ shown_entries front ++ shown_entries es
alike_all_behind es i out front l h = sym (append-nil (shown_entries out)) ∙ ap (λ r. shown_entries out ++ shown_entries r) (sym (drop_all i es l)) ∙ h

-- an entry inserted at its place
pub inserted_is : {A : Type 0} {c m : Bytes} {k : Kept} (new : Entry A) (es es' out : List (Entry A)) (i : ℕ) → shown_entry new ≡ (c, k) → m ≡ mark (shown_item new.item) → es' ≡ es → out ≡ insert es i new → i ≤ length es' → IsPlace (c ++ m) es' i → shown_entries out ≡ inserted c k (shown_entries es)
inserted_is {c = c} {m = m} {k = k} new es es' out i en em ee eo l p =
    let place : IsPlace (c ++ mark (shown_item new.item)) es i = rw (em, ee) at p in
    let within : i ≤ length es = rw ee at l in
    let is : shown_entries out ≡ shown_entries (take i es) ++ shown_entry new ∷ shown_entries (drop i es) = rw eo (map-append shown_entry (take i es) (new ∷ drop i es)) in
    is ∙ ap (λ z. shown_entries (take i es) ++ z ∷ shown_entries (drop i es)) en ∙ sym (inserted_at c k es i within (subst (λ z. IsPlace (c ++ mark z.1) es i) en place))
