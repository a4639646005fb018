-- Where each object that a body names is held, its links are.
use Rattle.std.proofs.Common.{◌≡◌, true, Bool, ap, ◌∙◌, refl, subst, List, [], ◌∷◌, map}
use Rattle.std.specs.Prelude.{◌&&◌}
use Rattle.std.specs.List.{AllByRecursion, cons_option, filter_map, list_all}
use Rattle.gx_model.specs.declared.objects.Kind.{Kind}
use Rattle.gx_model.specs.declared.objects.Kind.TheVariants as kinds
use Rattle.gx_model.specs.declared.objects.Mode.{Mode}
use Rattle.gx_model.specs.declared.objects.Mode.TheVariants as modes
use Rattle.gx_model.specs.Objects.{Entry, TagParts}
use Rattle.gx_model.specs.Texts.{Bytes}
use Rattle.gx_model.specs.Histories.{Record}
use Rattle.gx_model.specs.Records.HistoryOf.{commit_parts_in, entries_in}
use Rattle.gx_model.specs.Records.RecordFaults.{are_links_held, is_body, is_entry_held, is_held}
use Rattle.gx_model.proofs.ObjectTexts.BodiesReadBack.{tag_read}
use Rattle.gx_model.proofs.ObjectTexts.BodyTests.{body_told}
use Rattle.gx_wide.specs.Placing.{entry_link, wide_links}
use Rattle.gx_links.proofs.BodyLinks.{tag_link}

-- a link is held
abbrev pub IsHeld : List Record → Kind × Bytes → Type 0
IsHeld held link = is_held held link.0 link.1 ≡ true

both_true : (a b : Bool) → a ≡ true → b ≡ true → (a && b) ≡ true
both_true a b e f = λ i. e i && f i

entries_held : (held : List Record) (entries : List Entry) → AllByRecursion (IsHeld held) (filter_map (λ (e : Entry). entry_link e.mode e.name) entries) → list_all (λ (e : Entry). is_entry_held held e.mode e.name) entries ≡ true
entries_held held [] h = refl
entries_held held (e ∷ entries) h = by e.mode h (λ k. entries_held held entries k)
  where
    rest : List (Kind × Bytes)
    rest = filter_map (λ (e : Entry). entry_link e.mode e.name) entries

    by : (m : Mode) → AllByRecursion (IsHeld held) (cons_option (entry_link m e.name) rest) → (AllByRecursion (IsHeld held) rest → list_all (λ (e : Entry). is_entry_held held e.mode e.name) entries ≡ true)
        → (is_entry_held held m e.name && list_all (λ (e : Entry). is_entry_held held e.mode e.name) entries) ≡ true
    by modes.Gitlink h it = it h
    by modes.Dir h it = both_true _ _ h.0 (it h.1)
    by modes.File h it = both_true _ _ h.0 (it h.1)
    by modes.Exec h it = both_true _ _ h.0 (it h.1)
    by modes.Link h it = both_true _ _ h.0 (it h.1)

parents_held : (held : List Record) (parents : List Bytes) → AllByRecursion (IsHeld held) (map (λ parent. (kinds.Commit, parent)) parents) → list_all (is_held held kinds.Commit) parents ≡ true
parents_held held [] h = refl
parents_held held (p ∷ parents) h = both_true _ _ h.0 (parents_held held parents h.1)

pub are_held : (held : List Record) (k : Kind) (body : Bytes) → is_body k body ≡ true → AllByRecursion (IsHeld held) (wide_links k body) → are_links_held held k body ≡ true
are_held held kinds.Blob body b h = refl
are_held held kinds.Tree body b h = entries_held held (entries_in body) h
are_held held kinds.Commit body b h = both_true _ _ h.0 (parents_held held (commit_parts_in body).parents h.1)
are_held held kinds.Tag body b h =
    let tag = (body_told kinds.Tag body).0 b in
    let links = tag_link tag.0 body tag.1 in
    let one : AllByRecursion (IsHeld held) ((kinds.Commit, (tag.0).object) ∷ []) = subst (AllByRecursion (IsHeld held)) links h in
    ap (λ (p : TagParts). is_held held kinds.Commit p.object) (tag_read tag.0 body tag.1) ∙ one.0
