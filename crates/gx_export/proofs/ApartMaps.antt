-- What differs between two file maps, part by part: what stands at other paths makes no difference.
use Rattle.std.proofs.Common.{◌≡◌, ◌∙◌, cond, not, [], ◌∷◌, ◌++◌, map, None, refl, ap}
use Rattle.std.specs.Prelude.{is_some}
use Rattle.std.specs.List.{filter, AllByRecursion}
use Rattle.std.proofs.lemmas.List.{map-append}
use Rattle.std.proofs.lemmas.List.Elements.{filter-append}
use Rattle.gx_model.specs.Changes.{changed_files, gone_paths, is_this_leaf}
use Rattle.gx_model.specs.Histories.Files.{FileMap, file_at}
use Rattle.gx_model.specs.Texts.{Bytes}
use Rattle.gx_tree.proofs.Lookups.{either, either_none, file_at-append}

-- no path of the second map stands in the first
abbrev pub IsApart : FileMap Bytes → FileMap Bytes → Type 0
IsApart f g = AllByRecursion (λ e. file_at f e.0 ≡ None) g

pub apart_more : (f g h : FileMap Bytes) → IsApart f g → IsApart f h → IsApart f (g ++ h)
apart_more f [] h a b = b
apart_more f (e ∷ g) h a b = (a.0, apart_more f g h a.1 b)

pub apart_both : (f g h : FileMap Bytes) → IsApart f h → IsApart g h → IsApart (f ++ g) h
apart_both f g [] a b = tt
apart_both f g (e ∷ h) a b = (file_at-append e.0 f g ∙ ap (λ o. either o (file_at g e.0)) a.0 ∙ b.0, apart_both f g h a.1 b.1)

pub none_apart : (g : FileMap Bytes) → IsApart [] g
none_apart [] = tt
none_apart (e ∷ g) = (refl, none_apart g)

-- ---- files that differ

pub changed_append : (old f g : FileMap Bytes) → changed_files old (f ++ g) ≡ changed_files old f ++ changed_files old g
changed_append old f g = filter-append (λ e. not (is_this_leaf (file_at old e.0) e.1)) f g

-- what stands at other paths behind the old files
pub changed_left : (a b g : FileMap Bytes) → IsApart b g → changed_files (a ++ b) g ≡ changed_files a g
changed_left a b [] h = refl
changed_left a b (e ∷ g) h =
    let here = file_at-append e.0 a b ∙ ap (either (file_at a e.0)) h.0 ∙ either_none (file_at a e.0) in
    let rest = changed_left a b g h.1 in
    λ i. cond (not (is_this_leaf (here i) e.1)) (e ∷ rest i) (rest i)

-- and before them
pub changed_right : (a b g : FileMap Bytes) → IsApart a g → changed_files (a ++ b) g ≡ changed_files b g
changed_right a b [] h = refl
changed_right a b (e ∷ g) h =
    let here = file_at-append e.0 a b ∙ ap (λ o. either o (file_at b e.0)) h.0 in
    let rest = changed_right a b g h.1 in
    λ i. cond (not (is_this_leaf (here i) e.1)) (e ∷ rest i) (rest i)

-- ---- paths that are gone

abbrev left : FileMap Bytes → FileMap Bytes → FileMap Bytes
left old new = filter (λ e. not (is_some (file_at new e.0))) old

pub gone_append : (f g new : FileMap Bytes) → gone_paths (f ++ g) new ≡ gone_paths f new ++ gone_paths g new
gone_append f g new = ap (map (λ e. e.0)) (filter-append (λ e. not (is_some (file_at new e.0))) f g) ∙ map-append (λ e. e.0) (left f new) (left g new)

left_left : (old a b : FileMap Bytes) → IsApart b old → left old (a ++ b) ≡ left old a
left_left [] a b h = refl
left_left (e ∷ old) a b h =
    let here = file_at-append e.0 a b ∙ ap (either (file_at a e.0)) h.0 ∙ either_none (file_at a e.0) in
    let rest = left_left old a b h.1 in
    λ i. cond (not (is_some (here i))) (e ∷ rest i) (rest i)

left_right : (old a b : FileMap Bytes) → IsApart a old → left old (a ++ b) ≡ left old b
left_right [] a b h = refl
left_right (e ∷ old) a b h =
    let here = file_at-append e.0 a b ∙ ap (λ o. either o (file_at b e.0)) h.0 in
    let rest = left_right old a b h.1 in
    λ i. cond (not (is_some (here i))) (e ∷ rest i) (rest i)

-- new files at other paths, behind these and before them
pub gone_left : (old a b : FileMap Bytes) → IsApart b old → gone_paths old (a ++ b) ≡ gone_paths old a
gone_left old a b h = ap (map (λ e. e.0)) (left_left old a b h)

pub gone_right : (old a b : FileMap Bytes) → IsApart a old → gone_paths old (a ++ b) ≡ gone_paths old b
gone_right old a b h = ap (map (λ e. e.0)) (left_right old a b h)
