-- What digits begin in a repository that is told, and the lines of its refs.
use Rattle.std.proofs.Common.{◌≡◌, Bool, inl, inr, ℕ, true, List, [], ◌∷◌, map, take, Option, refl, sym, ap, ◌∙◌, subst}
use Rattle.std.specs.Prelude.{IfSome, T}
use Rattle.std.specs.List.{AllByRecursion, Contains}
use Rattle.std.proofs.lemmas.Bool.{false≢true}
use Rattle.std.proofs.lemmas.List.Sorted.{Contains-permutation, IsPermutation-sym}
use Rattle.std.proofs.lemmas.Option.{IfSome_then}
use Rattle.gx_model.specs.declared.objects.Kind.{Kind}
use Rattle.gx_model.specs.Texts.{Bytes}
use Rattle.gx_model.specs.Objects.{IsNamer, is_name}
use Rattle.gx_model.specs.Histories.{Record, Records}
use Rattle.gx_model.specs.Records.Sound.{AnyByRecursion, IsSound}
use Rattle.gx_model.specs.Revisions.Denotation.{begins_with_digits}
use Rattle.gx_model.proofs.Texts.PathTests.{is_true}
use Rattle.gx_model.proofs.ObjectTexts.TreePaths.{name_is_name}
use Rattle.gx_growing.specs.GrowingText.{Row, live_rows}
use Rattle.gx_growing_parts.specs.Shown.{shown_run}
use Rattle.gx_object.specs.declared.name.Name.{Name}
use Rattle.gx_objects.specs.Answers.{FindsBegun}
use Rattle.gx_store.specs.Prefixes.{AreEnds, BeginNone}
use Rattle.gx_store.specs.declared.prefix.Prefix.{Prefix}
use Rattle.gx_store.specs.declared.prefix.Prefix.TheVariants.{Absent}
use Rattle.gx_look.specs.declared.tail.Tail.{Tail}
use Rattle.gx_look.specs.Looking.{told_by}
use Rattle.gx_look.specs.Opened.{IsOpened}
use Rattle.gx_look.specs.Rows.{AreSorted, BegunIn, IsBetween, IsFoundOf}
use Rattle.gx_look.proofs.FoundTogether.{begun_found}
use Rattle.gx_look.proofs.TellingRows.{Stands, record_of_row, row_of_record}
use Rattle.gx_look.proofs.ToldNames.{each_told, in_order, same_live, seen, told_sound}

-- what holds of each name of records holds of them all
each_name : (P : Bytes → Type 0) (rs : List Record) → ((n : Bytes) → AnyByRecursion (λ held. held.name ≡ n) rs → P n) → AllByRecursion (λ held. P held.name) rs
each_name P [] h = tt
each_name P (r ∷ rs) h = (h r.name (inl refl), each_name P rs (λ n k. h n (inr k)))

of_name : (P : Bytes → Type 0) (rs : List Record) (n : Bytes) → AllByRecursion (λ held. P held.name) rs → AnyByRecursion (λ held. held.name ≡ n) rs → P n
of_name P [] n all h = absurd h
of_name P (r ∷ rs) n all (inl e) = subst P e all.0
of_name P (r ∷ rs) n all (inr h) = of_name P rs n all.1 h

-- the record of a row, with what holds of its name
row_begins : (digits : Bytes) (text : Bytes) (row : Row) (rs : List Record) → AnyByRecursion (Stands text row) rs → begins_with_digits digits row.0 ≡ true → AnyByRecursion (λ held. (held.name ≡ row.0) × (begins_with_digits digits held.name ≡ true)) rs
row_begins digits text row [] h e = absurd h
row_begins digits text row (r ∷ rs) (inl k) e = inl (k.0, ap (begins_with_digits digits) k.0 ∙ e)
row_begins digits text row (r ∷ rs) (inr k) e = inr (row_begins digits text row rs k e)

row_named : (text : Bytes) (row : Row) (rs : List Record) → AnyByRecursion (Stands text row) rs → AnyByRecursion (λ held. held.name ≡ row.0) rs
row_named text row [] h = absurd h
row_named text row (r ∷ rs) (inl k) = inl k.0
row_named text row (r ∷ rs) (inr k) = inr (row_named text row rs k)

module _ (name : Kind → Bytes → Bytes) (namer : IsNamer name) where
  -- the names of a sound repository are names
  all_names : (r : Records) → IsSound name r → AllByRecursion (λ held. is_name held.name ≡ true) r.records
  all_names r sound = names r.records sound.named
    where
      names : (rs : List Record) → AllByRecursion (λ held. held.name ≡ name held.kind held.body) rs → AllByRecursion (λ held. is_name held.name ≡ true) rs
      names [] h = tt
      names (x ∷ xs) h = (is_true _ (subst (λ z. T (is_name z)) (sym h.0) (name_is_name name namer x.kind x.body)), names xs h.1)

  -- digits that no name begins with begin none here
  pub none_tells : (told : Option Bytes) (digits : Bytes) → BeginNone digits → IfSome (told_by name told) (λ r. FindsBegun digits r Absent)
  none_tells told digits none = IfSome_then (told_by name told) (told_sound name namer told) (λ r sound.
      begun_found digits (λ n. ⊥) r.records sound.distinct (λ n h. absurd h)
      (each_name (λ n. begins_with_digits digits n ≡ true → ⊥) r.records (λ n h e. false≢true (sym (none n (of_name (λ m. is_name m ≡ true) r.records n (all_names r sound) h)) ∙ e)))
      Absent (λ n h. h))

  module _ {A : Type 0} {is_first : Bool} (told : Option Bytes) (stop : ℕ) (tail : Tail A) (opened : IsOpened name told is_first stop tail) where
    -- what is found between the ends of digits is what these begin
    pub begun_tells : (digits : Bytes) (ends : Name × Name) (found : Prefix) → AreEnds digits ends.0 ends.1 → BegunIn told tail.runs.items ends found → IfSome (told_by name told) (λ r. FindsBegun digits r found)
    begun_tells digits ends found are h = each_told name namer told (λ r. FindsBegun digits r found) (λ text e r g.
        let s = seen name namer told stop tail opened text e r g in
        let t = s.told_is in
        let front = take s.x.0.ends text in
        let given = map shown_run tail.runs.items in
        let rows = live_rows front s.x.1.runs in
        let live : live_rows text given ≡ rows = ap (live_rows text) s.tail_is.0 ∙ same_live text s.x.0.ends s.x.1.runs t.runs in
        let sorted : AreSorted text given = subst (AreSorted text) (sym s.tail_is.0) (in_order text s.x.0.ends s.x.1.runs t.runs) in
        let here : IsFoundOf (IsBetween text given ends) found = (subst (λ z. BegunIn z tail.runs.items ends found) e h) sorted in
        let names = all_names r t.sound in
        begun_found digits (IsBetween text given ends) r.records t.sound.distinct (λ n k.
        let row : Row = (n, k.place) in
        let there = record_of_row front s.x.1.rows r.records row t.stand (Contains-permutation rows s.x.1.rows row t.rows (subst (λ z. Contains z row) live k.row)) in
        let is = of_name (λ m. is_name m ≡ true) r.records n names (row_named front row r.records there) in
        row_begins digits front row r.records there (sym (are n is) ∙ k.within)) (each_name (λ n. begins_with_digits digits n ≡ true → IsBetween text given ends n) r.records (λ n k begins.
        let there = row_of_record front s.x.1.rows r.records n t.stand k in
        let row : Row = (n, there.0) in
        let is = of_name (λ m. is_name m ≡ true) r.records n names k in
        record {
          place = there.0;
          row = subst (λ z. Contains z row) (sym live) (Contains-permutation s.x.1.rows rows row (IsPermutation-sym rows s.x.1.rows t.rows) there.1);
          within = are n is ∙ begins;
        })) found here)
