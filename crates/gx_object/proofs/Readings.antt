-- A body is read once: each entry is tested against the one before it and the bytes behind it.
use Rattle.std.proofs.Common.{◌≡◌, ℕ, ◌<◌, ◌-◌, Bool, true, false, cond, not, eqb, List, [], ◌∷◌, ◌++◌, length, take, Option, Some, None, refl, sym, ap, ◌∙◌, arith, length-append}
use Rattle.std.specs.Prelude.{◌&&◌, IfSome}
use Rattle.std.specs.Option.{is_some, option_map, unwrap_or}
use Rattle.std.proofs.lemmas.Bool.{and_parts, false≢true, eqb-true}
use Rattle.std.proofs.lemmas.List.{take_at}
use Rattle.gx_model.proofs.ObjectTexts.NameDigits.{AreBytes}
use Rattle.gx_model.specs.Texts.{Bytes, lacks}
use Rattle.gx_model.specs.Texts.Paths.{is_component}
use Rattle.gx_model.specs.Objects.{Entry, IsTreeText, entry_text}
use Rattle.gx_object.specs.declared.earlier_files.EarlierFiles.{EarlierFiles}
use Rattle.gx_object.specs.declared.entry.Entry.{Entry as Read}
use Rattle.gx_object.specs.Entries.{shown}
use Rattle.gx_object.specs.Order.{are_ordered, is_repeated, leads, meets_any, precedes}
use Rattle.gx_object.specs.Passing.{LeadsPastFrom}
use Rattle.gx_object.specs.Reading.{FollowsFrom, IsReadWith}
use Rattle.gx_object.specs.Trees.{IsEntryText, entry_at, entries_within, entries_of, entries_left, followers, may_follow, tree_of}
use Rattle.gx_object.specs.Lines.{◌>>=◌}
use Rattle.gx_object.proofs.Bodies.{entries_step, entries_stop, entry_again, entry_takes, is_some-step, left-end, left-step}
use Rattle.gx_object.proofs.Laws.{tree_again, tree_takes}
use Rattle.gx_object.proofs.Orders.{ordered_is}
use Rattle.gx_object.proofs.Steps.{past_end, past_first}

-- the entries that were read, where they pass a test
abbrev passed : (List Entry → Bool) → Option (List Entry) → Option (List Entry)
passed test o = o >>= λ es. cond (test es) (Some es) None

-- one entry more, where the others pass
picked : (b : Bool) (e : Entry) (es : List Entry) → cond b (Some (e ∷ es)) None ≡ option_map (λ fs. e ∷ fs) (cond b (Some es) None)
picked true e es = refl
picked false e es = refl

-- what an entry at the front tells of the one before it goes on to the bytes behind it
pub followers_next : (above rest : ℕ) (old new : List Bool) (before : Option Entry) (bytes : Bytes) (x : Entry × Bytes) → entry_at bytes ≡ Some x
    → (is_some (entries_of x.1) ≡ true → may_follow above old before (x.0 ∷ entries_left x.1) ≡ (true && may_follow rest new (Some x.0) (entries_left x.1)))
    → followers above old before bytes ≡ option_map (λ es. x.0 ∷ es) (followers rest new (Some x.0) x.1)
followers_next above rest old new before bytes x is h = ap (passed (may_follow above old before)) (entries_step bytes x is) ∙ shows (entries_of x.1) h where
  shows : (o : Option (List Entry)) → (is_some o ≡ true → may_follow above old before (x.0 ∷ unwrap_or o []) ≡ (true && may_follow rest new (Some x.0) (unwrap_or o [])))
      → passed (may_follow above old before) (o >>= λ es. Some (x.0 ∷ es)) ≡ option_map (λ es. x.0 ∷ es) (passed (may_follow rest new (Some x.0)) o)
  shows None h = refl
  shows (Some es) h = ap (λ b. cond b (Some (x.0 ∷ es)) None) (h refl) ∙ picked (may_follow rest new (Some x.0) es) x.0 es

-- where it may not stand there, the body is no tree's
pub followers_not : (above rest : ℕ) (old new : List Bool) (before : Option Entry) (bytes : Bytes) (x : Entry × Bytes) → entry_at bytes ≡ Some x
    → (is_some (entries_of x.1) ≡ true → may_follow above old before (x.0 ∷ entries_left x.1) ≡ (false && may_follow rest new (Some x.0) (entries_left x.1)))
    → followers above old before bytes ≡ None
followers_not above rest old new before bytes x is h = ap (passed (may_follow above old before)) (entries_step bytes x is) ∙ shows (entries_of x.1) h where
  shows : (o : Option (List Entry)) → (is_some o ≡ true → may_follow above old before (x.0 ∷ unwrap_or o []) ≡ (false && may_follow rest new (Some x.0) (unwrap_or o [])))
      → passed (may_follow above old before) (o >>= λ es. Some (x.0 ∷ es)) ≡ None
  shows None h = refl
  shows (Some es) h = ap (λ b. cond b (Some (x.0 ∷ es)) None) (h refl)

unordered : (e : Entry) (es : List Entry) → is_component e.component ≡ false → are_ordered (e ∷ es) ≡ false
unfolding are_ordered
unordered e es h = λ i. (h i && precedes e es && not (is_repeated e es)) && are_ordered es

both_not : (b c d : Bool) → c ≡ false → ((b && c) && d) ≡ false
both_not true c d h = λ i. h i && d
both_not false c d h = refl

improper_not : (above : ℕ) (is_file : List Bool) (before : Option Entry) (e : Entry) (es : List Entry) → is_component e.component ≡ false → may_follow above is_file before (e ∷ es) ≡ false
unfolding are_ordered
improper_not above is_file None e es h = sym (ordered_is (e ∷ es)) ∙ unordered e es h
improper_not above is_file (Some b) e es h = both_not (leads b (e ∷ es)) (are_ordered (e ∷ es)) (not (meets_any above is_file b.component (e ∷ es))) (unordered e es h)

-- an improper component is no tree's
pub followers_improper : (above : ℕ) (is_file : List Bool) (before : Option Entry) (bytes : Bytes) (x : Entry × Bytes) → entry_at bytes ≡ Some x → is_component x.0.component ≡ false
    → followers above is_file before bytes ≡ None
followers_improper above is_file before bytes x is h = ap (passed (may_follow above is_file before)) (entries_step bytes x is) ∙ shows (entries_of x.1) where
  shows : (o : Option (List Entry)) → passed (may_follow above is_file before) (o >>= λ es. Some (x.0 ∷ es)) ≡ None
  shows None = refl
  shows (Some es) = ap (λ b. cond b (Some (x.0 ∷ es)) None) (improper_not above is_file before x.0 es h)

-- at the end, nothing is left
pub followers_end : (files : EarlierFiles) (before : Option Read) (bytes : Bytes) → IsReadWith files before → eqb (length bytes) 0 ≡ true
    → followers files.above files.is_file (option_map shown before) bytes ≡ Some []
unfolding entries_within
followers_end files None [] i h = refl
followers_end files (Some e) [] i h = ap (λ b. cond b (Some []) None) (past_end files.above files.is_file (shown e) ∙ i.1)
followers_end files before (b ∷ bytes) i h = absurd (omega (arith, eqb-true _ _ h))

some_left : (bytes : Bytes) → eqb (length bytes) 0 ≡ false → 0 < length bytes
some_left [] h = absurd (false≢true (sym h))
some_left (b ∷ bytes) h = omega arith

-- bytes with no entry in front are no tree's
pub followers_stop : (above : ℕ) (is_file : List Bool) (before : Option Entry) (bytes : Bytes) → entry_at bytes ≡ None → eqb (length bytes) 0 ≡ false → followers above is_file before bytes ≡ None
followers_stop above is_file before bytes e h = ap (passed (may_follow above is_file before)) (entries_stop bytes e (some_left bytes h))

-- ---- one entry behind another

after_one : (l o m a n : Bool) → (l && m) ≡ (a && n) → ((l && o) && m) ≡ (a && (o && n))
after_one true true m a n h = h
after_one false true m a n h = h
after_one true false m true n h = refl
after_one true false m false n h = refl
after_one false false m true n h = refl
after_one false false m false n h = refl

-- what is told of the entry before and an earlier file is told of all that stands behind them
pub follows_one : (old new : EarlierFiles) (first next : Read) (after : Bytes) (answer : Bool) → LeadsPastFrom old new first next after answer → FollowsFrom old new (Some first) next after answer
unfolding are_ordered
follows_one old new first next after answer h = λ are. after_one (leads (shown first) (shown next ∷ entries_left after)) (are_ordered (shown next ∷ entries_left after)) _ answer _ (h are)

-- the first entry is followed by what is canonical behind it
pub follows_none : (files : EarlierFiles) (next : Read) (after : Bytes) → files.above ≡ 0 → FollowsFrom files files None next after true
follows_none files next after e = λ _.
    sym (ordered_is (shown next ∷ entries_left after))
    ∙ sym (past_first files.is_file (shown next) (entries_left after))
    ∙ ap (λ above. may_follow above files.is_file (Some (shown next)) (entries_left after)) (sym e)

-- ---- a whole body

pub tree_some : (body : Bytes) (o : Option (List Entry)) → AreBytes body → o ≡ tree_of body → IfSome o (λ es. IsTreeText es body)
tree_some body None bytes e = tt
tree_some body (Some es) bytes e = tree_takes body es bytes (sym e)

-- what a reader begins with is what the body is read as
pub reader_is : (body : Bytes) (o : Option (List Entry)) → AreBytes body → IfSome o (λ es. IsTreeText es body) → ((es : List Entry) → IsTreeText es body → o ≡ Some es) → o ≡ tree_of body
reader_is body None bytes found only = by (tree_of body) refl
  where
    by : (t : Option (List Entry)) → tree_of body ≡ t → None ≡ t
    by None e = refl
    by (Some es) e = only es (tree_takes body es bytes e)
reader_is body (Some es) bytes found only = sym (tree_again body es found)

-- ---- the text of an entry

-- behind the text of an entry, its bytes go on
pub text_first : (e : Entry) (text bytes rest : Bytes) → IsEntryText e text → bytes ≡ text ++ rest → entry_at bytes ≡ Some (e, rest)
text_first e text bytes rest is h = ap entry_at (h ∙ ap (λ t. t ++ rest) is.0) ∙ entry_again e rest is.1 is.2

pub text_some : (e : Entry) (text bytes rest : Bytes) → IsEntryText e text → bytes ≡ text ++ rest → is_some (entries_of bytes) ≡ true → is_some (entries_of rest) ≡ true
text_some e text bytes rest is h some = is_some-step bytes (e, rest) (text_first e text bytes rest is h) ∙ some

pub text_left : (e : Entry) (text bytes rest : Bytes) → IsEntryText e text → bytes ≡ text ++ rest → is_some (entries_of bytes) ≡ true → entries_left bytes ≡ e ∷ entries_left rest
text_left e text bytes rest is h some = left-step bytes (e, rest) (text_first e text bytes rest is h) some

-- bytes whose first entry has this text begin with it
pub text_stands : (e : Entry) (es : List Entry) (text bytes : Bytes) → IsEntryText e text → is_some (entries_of bytes) ≡ true → entries_left bytes ≡ e ∷ es → take (length text) bytes ≡ text
text_stands e es text bytes is some h = by (entry_at bytes) refl
  where
    nothing : (es : List Entry) → [] ≡ e ∷ es → take (length text) bytes ≡ text
    nothing es h = cc

    first : (x : Entry) (fs gs : List Entry) → x ∷ fs ≡ e ∷ gs → x ≡ e
    first x fs gs h = cc

    by : (o : Option (Entry × Bytes)) → entry_at bytes ≡ o → take (length text) bytes ≡ text
    by None none = nothing es (sym (left-end bytes none some) ∙ h)
    by (Some x) found =
        let same : x.0 ≡ e = first x.0 (entries_left x.1) es (sym (left-step bytes x found some) ∙ h) in
        let parts : bytes ≡ text ++ x.1 = (entry_takes bytes x found).parts ∙ (λ i. entry_text (same i) ++ x.1) ∙ (λ i. sym is.0 i ++ x.1) in
        ap (take (length text)) parts ∙ take_at text x.1 (length text) refl

-- what an entry was read from is its text
pub text_taken : (bytes : Bytes) (x : Entry × Bytes) → entry_at bytes ≡ Some x → is_component x.0.component ≡ true → IsEntryText x.0 (take (length bytes - length x.1) bytes)
text_taken bytes x e proper =
    let t = entry_takes bytes x e in
    let len : length (entry_text x.0) ≡ length bytes - length x.1 = omega (arith, ap length t.parts, length-append (entry_text x.0) x.1) in (
      ap (take (length bytes - length x.1)) t.parts ∙ take_at (entry_text x.0) x.1 (length bytes - length x.1) len,
      (and_parts _ (lacks 0 x.0.component) proper).1,
      t.name,
    )
