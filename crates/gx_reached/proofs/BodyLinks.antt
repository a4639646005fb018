-- What the entries of a tree and the parts of a commit name, one after the other.
use Rattle.std.proofs.Common.{◌≡◌, ℕ, ◌+◌, sym, ap, ◌∙◌, refl, List, [], ◌∷◌, ◌++◌, append_assoc, append-nil, drop, map, Option, Some, None}
use Rattle.std.specs.List.{cons_option, filter_map, slice_get}
use Rattle.std.proofs.lemmas.List.{drop_more, map-append}
use Rattle.std.proofs.lemmas.Option.{get_or_from_slice_get, slice_get_within}
use Rattle.gx_model.specs.Objects.{Entry}
use Rattle.gx_model.specs.Texts.{Bytes}
use Rattle.gx_reached.specs.Links.{Link as Named, entry_link, no_blob, shown_link}
use Rattle.gx_reached.specs.declared.links.Link.{Link}

-- an entry that names nothing
pub none_more : (links : List Named) (e : Entry) → None ≡ entry_link e → links ≡ links ++ filter_map entry_link (e ∷ [])
none_more links e h = sym (append-nil links) ∙ ap (λ (o : Option Named). links ++ cons_option o []) h

-- an entry that names an object
pub one_more : (links new : List Link) (l : Link) (e : Entry) → new ≡ links ++ l ∷ [] → Some (shown_link l) ≡ entry_link e → map shown_link new ≡ map shown_link links ++ filter_map entry_link (e ∷ [])
one_more links new l e n h = ap (map shown_link) n ∙ map-append shown_link links (l ∷ []) ∙ ap (λ (o : Option Named). map shown_link links ++ cons_option o []) h

-- the next entry
pub next_entry : (links new all : List Named) (e : Entry) (old left : List Entry) → new ≡ links ++ filter_map entry_link (e ∷ []) → old ≡ e ∷ left → links ++ filter_map entry_link old ≡ all → new ++ filter_map entry_link left ≡ all
next_entry links new all e old left n s h =
    ap (λ xs. xs ++ filter_map entry_link left) n
    ∙ append_assoc links (filter_map entry_link (e ∷ [])) (filter_map entry_link left)
    ∙ ap (λ xs. links ++ xs) (by (entry_link e))
    ∙ ap (λ es. links ++ filter_map entry_link es) (sym s)
    ∙ h
  where
    by : (o : Option Named) → cons_option o [] ++ filter_map entry_link left ≡ cons_option o (filter_map entry_link left)
    by None = refl
    by (Some l) = refl

-- the next parent
pub next_parent : (links new all : List Named) (n : Bytes) (ns : List Bytes) (i : ℕ) → new ≡ links ++ no_blob n ∷ [] → Some n ≡ slice_get ns i → links ++ map no_blob (drop i ns) ≡ all → new ++ map no_blob (drop (i + 1) ns) ≡ all
next_parent links new all n ns i e s h =
    ap (λ xs. xs ++ map no_blob (drop (i + 1) ns)) e
    ∙ append_assoc links (no_blob n ∷ []) (map no_blob (drop (i + 1) ns))
    ∙ ap (λ ms. links ++ map no_blob ms) (sym (drop_more ns i n (slice_get_within ns i n (sym s)) ∙ ap (λ x. x ∷ drop (i + 1) ns) (get_or_from_slice_get ns i n n (sym s))))
    ∙ h
