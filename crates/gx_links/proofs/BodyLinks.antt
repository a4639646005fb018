-- What the entries of a tree, the parts of a commit and those of a tag name.
use Rattle.std.proofs.Common.{◌≡◌, ℕ, ◌+◌, true, false, sym, ap, ◌∙◌, refl, List, [], ◌∷◌, ◌++◌, append_assoc, append-nil, drop, map, Option, Some, None}
use Rattle.std.specs.Prelude.{codes}
use Rattle.std.specs.List.{cons_option, filter_map, slice_get}
use Rattle.std.specs.Option.{unwrap_or}
use Rattle.std.proofs.lemmas.Bool.{false_from_ne_true}
use Rattle.std.proofs.lemmas.List.{drop_more, map-append}
use Rattle.std.proofs.lemmas.Option.{get_or_from_slice_get, slice_get_within}
use Rattle.gx_model.specs.declared.objects.Kind.{Kind}
use Rattle.gx_model.specs.declared.objects.Kind.TheVariants as kinds
use Rattle.gx_model.specs.Laws.StoreLaws.{IsBody}
use Rattle.gx_model.specs.Objects.{Entry, IsTagText, TagParts, hex, line, optional_line, tag_text}
use Rattle.gx_model.specs.Records.HistoryOf.{field}
use Rattle.gx_model.specs.Records.RecordFaults.{is_body}
use Rattle.gx_model.specs.Texts.{Bytes}
use Rattle.gx_model.proofs.ObjectTexts.BodiesReadBack.{cut_law, tag_read, tag_text_flat}
use Rattle.gx_model.proofs.ObjectTexts.BodyTests.{body_told}
use Rattle.gx_model.proofs.Records.OneHistory.{hex_line, line_flat}
use Rattle.gx_wide.specs.Placing.{wide_links}
use Rattle.gx_wide.specs.WideTexts.{kind_of_word}
use Rattle.gx_links.specs.Links.{link_in, shown_link}
use Rattle.gx_links.specs.declared.links.Link.{Link}

-- the kind and the name of an object that is named
abbrev Named : Type 0
Named = Kind × Bytes

-- ---- whether a body is one of its kind

pub told_good : (k : Kind) (body : Bytes) → IsBody k body → is_body k body ≡ true
told_good k body h = (body_told k body).1 h

pub told_bad : (k : Kind) (body : Bytes) → (IsBody k body → ⊥) → is_body k body ≡ false
told_bad k body h = false_from_ne_true (is_body k body) (λ t. h ((body_told k body).0 t))

-- ---- trees

-- an entry that names nothing
pub none_more : (links : List Named) (e : Entry) → None ≡ link_in e → links ≡ links ++ filter_map link_in (e ∷ [])
none_more links e h = sym (append-nil links) ∙ ap (λ (o : Option Named). links ++ cons_option o []) h

-- an entry that names an object
pub one_more : (links new : List Link) (l : Link) (e : Entry) → new ≡ links ++ l ∷ [] → Some (shown_link l) ≡ link_in e → map shown_link new ≡ map shown_link links ++ filter_map link_in (e ∷ [])
one_more links new l e n h = ap (map shown_link) n ∙ map-append shown_link links (l ∷ []) ∙ ap (λ (o : Option Named). map shown_link links ++ cons_option o []) h

-- the next entry
pub next_entry : (links new all : List Named) (e : Entry) (old left : List Entry) → new ≡ links ++ filter_map link_in (e ∷ []) → old ≡ e ∷ left → links ++ filter_map link_in old ≡ all → new ++ filter_map link_in left ≡ all
next_entry links new all e old left n s h =
    ap (λ xs. xs ++ filter_map link_in left) n
    ∙ append_assoc links (filter_map link_in (e ∷ [])) (filter_map link_in left)
    ∙ ap (λ xs. links ++ xs) (by (link_in e))
    ∙ ap (λ es. links ++ filter_map link_in es) (sym s)
    ∙ h
  where
    by : (o : Option Named) → cons_option o [] ++ filter_map link_in left ≡ cons_option o (filter_map link_in left)
    by None = refl
    by (Some l) = refl

-- ---- commits

-- a parent
abbrev pub parent_link : Bytes → Named
parent_link parent = (kinds.Commit, parent)

-- the next parent
pub next_parent : (links new all : List Named) (n : Bytes) (ns : List Bytes) (i : ℕ) → new ≡ links ++ parent_link n ∷ [] → Some n ≡ slice_get ns i → links ++ map parent_link (drop i ns) ≡ all → new ++ map parent_link (drop (i + 1) ns) ≡ all
next_parent links new all n ns i e s h =
    ap (λ xs. xs ++ map parent_link (drop (i + 1) ns)) e
    ∙ append_assoc links (parent_link n ∷ []) (map parent_link (drop (i + 1) ns))
    ∙ ap (λ ms. links ++ map parent_link ms) (sym (drop_more ns i n (slice_get_within ns i n (sym s)) ∙ ap (λ x. x ∷ drop (i + 1) ns) (get_or_from_slice_get ns i n n (sym s))))
    ∙ h

-- ---- tags

-- the word of a type is cut from its line
type_cut : (p : TagParts) → (field 5 (field 7 (tag_text p)).1).0 ≡ codes "commit"
type_cut p =
    let r2 = line (codes "tag") p.name ++ (optional_line (codes "tagger") p.tagger ++ (10 ∷ p.message)) in
    let r1 = line (codes "type") (codes "commit") ++ r2 in
    let o : field 7 (tag_text p) ≡ (hex p.object, r1) = ap (field 7) (tag_text_flat p ∙ line_flat (codes "object") (hex p.object) r1) ∙ cut_law 10 (hex p.object) r1 (hex_line p.object) in
    let k : field 5 r1 ≡ (codes "commit", r2) = ap (field 5) (line_flat (codes "type") (codes "commit") r2) ∙ cut_law 10 (codes "commit") r2 tt in
    ap (λ (q : Bytes × Bytes). (field 5 q.1).0) o ∙ ap (λ (q : Bytes × Bytes). q.0) k

-- a tag that a stream can say tags a commit
pub tag_link : (p : TagParts) (body : Bytes) → IsTagText p body → wide_links kinds.Tag body ≡ (kinds.Commit, p.object) ∷ []
tag_link p body h =
    let word : (field 5 (field 7 body).1).0 ≡ codes "commit" = ap (λ b. (field 5 (field 7 b).1).0) h.0 ∙ type_cut p in
    let object = ap (λ (q : TagParts). q.object) (tag_read p body h) in
    λ i. (unwrap_or (kind_of_word (word i)) kinds.Commit, object i) ∷ []
