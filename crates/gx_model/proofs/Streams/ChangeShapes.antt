-- Items have one shape as a change, as changes and as merge lines, and it is what the functions give.
use Rattle.std.proofs.Common.{◌≡◌, ◌⊎◌, inl, inr, ℕ, suc, zero, ◌<◌, ◌≤◌, true, Option, Some, None, Ok, Err, List, [], ◌∷◌, length, codes, refl, sym, ap, subst, ◌∙◌, arith}
use Rattle.gx_model.specs.declared.faults.Fault.TheVariants as faults
use Rattle.gx_model.specs.declared.objects.Mode.{Mode}
use Rattle.gx_model.specs.declared.objects.Mode.TheVariants as modes
use Rattle.gx_model.specs.Texts.{Bytes, lacks, cut_at}
use Rattle.gx_model.specs.Faults.{Given, ◌>>=◌}
use Rattle.gx_model.specs.Texts.Paths.{Path}
use Rattle.gx_model.specs.Streams.Items.{Item, Line, Data, End, Finished, Failed}
use Rattle.gx_model.specs.Streams.Commands.{CommitIsh, DataRef, Mark, Object, Inline, Change, Modify, Remove, Copy, Rename, Clear}
use Rattle.gx_model.specs.Streams.Grammar.{Where, AtMark, AtName, AtBlock, where_of, suits, bytes_from, modify_at, change_at, changes_within, changes, merges_within, merges}
use Rattle.gx_model.specs.Streams.Lines.{Read, words_of, mode_of, optional, commit_ish_of}
use Rattle.gx_model.specs.Streams.LineShapes.{line_of, IsOfNone, IsOfOne, BeginsPart, IsCommitIshText, IsModeText, IsDataRefText, IsLastPath, AreTwoPaths}
use Rattle.gx_model.specs.Streams.CommandShapes.{all_change_words, Optional, Block, Repeated, no_more, one_more, next_fault, later_fault, Content, content_of_mark, content_of_name, content_of_block, no_content, Unfit, mark_of_gitlink, block_of_gitlink, BeginsModify, IsModify, modify, bad_mode, no_dataref, bad_dataref, unfit_dataref, no_path, bad_path, no_block, made, refused, of_text, text_fault, IsChange, modified, removed, copied, renamed, cleared, clear_of_text, change_without_text, note, no_change_at_line, no_change_at_block, no_change_at_end, change_failure, TakenFrom}
use Rattle.gx_model.proofs.Streams.WordShapes.{part_read, part_there, other_word, which_word}
use Rattle.gx_model.proofs.Streams.TextShapes.{mode_shape, mode_there, dataref_shape, dataref_there, commit_ish_shape}
use Rattle.gx_model.proofs.Streams.PathShapes.{last_shape, last_there, two_shape, two_there}
use Rattle.gx_model.proofs.Streams.PartShapes.{stream, as_read, IsPartOf, IsWhole, IsNoLonger, IsShorter, optional_shape, optional_shorter, block_shape, block_there, block_no_longer}

-- ---- the content of a modify

content_shape : (end : End) (at : Where) (is : List Item) (out : TakenFrom DataRef) → Content end at is out → bytes_from at (stream end is) ≡ as_read end out
content_shape end at is out content_of_mark = refl
content_shape end at is out content_of_name = refl
content_shape end at is out (content_of_block {bytes = bytes} {rest = rest} h) = rw (block_shape end is (Ok (bytes, rest)) h) refl
content_shape end at is out (no_content {f = f} h) = rw (block_shape end is (Err f) h) refl

content_there : (end : End) (at : Where) (is : List Item) → (out : TakenFrom DataRef) × Content end at is out
content_there end (AtMark n) is = (Ok (Mark n, is), content_of_mark)
content_there end (AtName x) is = (Ok (Object x, is), content_of_name)
content_there end AtBlock is = let o = block_there end is in by o.0 o.1 where
  by : (o : TakenFrom Bytes) → Block end is o → (out : TakenFrom DataRef) × Content end AtBlock is out
  by (Ok (b, rest)) h = (Ok (Inline b, rest), content_of_block h)
  by (Err f) h = (Err f, no_content h)

content_no_longer : (end : End) (at : Where) (is : List Item) (x : DataRef) (rest : List Item) → Content end at is (Ok (x, rest)) → length rest ≤ length is
content_no_longer end at is x rest content_of_mark = omega arith
content_no_longer end at is x rest content_of_name = omega arith
content_no_longer end at is x rest (content_of_block {bytes = bytes} h) = block_no_longer end is bytes rest h

unfit : (m : Mode) (at : Where) → Unfit m at → suits m at ≡ Err faults.Unsupported
unfit m at mark_of_gitlink = refl
unfit m at block_of_gitlink = refl

-- content suits a mode or is unfit
fits : (m : Mode) (at : Where) → ((Unfit m at → ⊥) × (suits m at ≡ Ok tt)) ⊎ Unfit m at
fits modes.Gitlink (AtMark n) = inr mark_of_gitlink
fits modes.Gitlink AtBlock = inr block_of_gitlink
fits modes.Gitlink (AtName x) = inl (λ h. elim h [ ], refl)
fits modes.File at = inl (λ h. elim h [ ], refl)
fits modes.Exec at = inl (λ h. elim h [ ], refl)
fits modes.Link at = inl (λ h. elim h [ ], refl)
fits modes.Dir at = inl (λ h. elim h [ ], refl)

fit : (m : Mode) (at : Where) → (Unfit m at → ⊥) → suits m at ≡ Ok tt
fit m at n = by (fits m at) where
  by : ((Unfit m at → ⊥) × (suits m at ≡ Ok tt)) ⊎ Unfit m at → suits m at ≡ Ok tt
  by (inl h) = h.1
  by (inr h) = absurd (n h)

-- ---- a modify

-- what a mode and a dataref at the front are read as
record FrontRead (text : Bytes) (m : Mode) (at : Where) (path : Option Bytes) (h : BeginsModify text m at path) : Type 0 where
  pub mode_first : words_of text ≡ record { word = h.mode; rest = Some h.more }
  pub mode : mode_of h.mode ≡ Ok m
  pub dataref_next : words_of h.more ≡ record { word = h.dataref; rest = path }
  pub dataref : where_of h.dataref ≡ Ok at

front_read : (text : Bytes) (m : Mode) (at : Where) (path : Option Bytes) (h : BeginsModify text m at path) → FrontRead text m at path h
front_read text m at path h = record {
  mode_first = part_read text h.mode (Some h.more) h.mode_first;
  mode = mode_shape h.mode (Ok m) h.mode_is;
  dataref_next = part_read h.more h.dataref path h.dataref_next;
  dataref = dataref_shape h.dataref (Ok at) h.dataref_is;
}

modify_shape : (end : End) (text : Bytes) (is : List Item) (out : TakenFrom Change) → IsModify text end is out → modify_at text (stream end is) ≡ as_read end out
unfolding modify_at
modify_shape end text is out (modify {path = path} {m = m} {at = at} {p = p} {content = content} {rest = rest} a e f g) =
    let r = front_read text m at (Some path) a in
    rw (r.mode_first, r.mode, r.dataref_next, r.dataref, fit m at e, last_shape path (Ok p) f, content_shape end at is (Ok (content, rest)) g) refl
modify_shape end text is out (bad_mode {mode = mode} {f = f} after a b) = rw (part_read text mode after a, mode_shape mode (Err f) b) refl
modify_shape end text is out (no_dataref {m = m} a b) = rw (part_read text text None a, mode_shape text (Ok m) b) refl
modify_shape end text is out (bad_dataref {mode = mode} {dataref = dataref} {m = m} {f = f} more after a b c d) =
    rw (part_read text mode (Some more) a, mode_shape mode (Ok m) b, part_read more dataref after c, dataref_shape dataref (Err f) d) refl
modify_shape end text is out (unfit_dataref {m = m} {at = at} {after = after} a e) =
    let r = front_read text m at after a in
    rw (r.mode_first, r.mode, r.dataref_next, r.dataref, unfit m at e) refl
modify_shape end text is out (no_path {m = m} {at = at} a e) =
    let r = front_read text m at None a in
    rw (r.mode_first, r.mode, r.dataref_next, r.dataref, fit m at e) refl
modify_shape end text is out (bad_path {path = path} {m = m} {at = at} {f = f} a e g) =
    let r = front_read text m at (Some path) a in
    rw (r.mode_first, r.mode, r.dataref_next, r.dataref, fit m at e, last_shape path (Err f) g) refl
modify_shape end text is out (no_block {path = path} {m = m} {at = at} {p = p} {f = f} a e g h) =
    let r = front_read text m at (Some path) a in
    rw (r.mode_first, r.mode, r.dataref_next, r.dataref, fit m at e, last_shape path (Ok p) g, content_shape end at is (Err f) h) refl

abbrev SomeModify : End → Bytes → List Item → Type 0
SomeModify end text is = (out : TakenFrom Change) × IsModify text end is out

modify_there : (end : End) (text : Bytes) (is : List Item) → SomeModify end text is
modify_there end text is = let a = part_there text in let b = mode_there a.0 in of_mode a.0 a.1 a.2 b.0 b.1 where
  of_content : (path : Bytes) (m : Mode) (at : Where) (p : Path) → BeginsModify text m at (Some path) → (Unfit m at → ⊥) → IsLastPath path (Ok p)
      → (o : TakenFrom DataRef) → Content end at is o → SomeModify end text is
  of_content path m at p a e f (Ok (x, rest)) g = (Ok (Modify m x p, rest), modify a e f g)
  of_content path m at p a e f (Err z) g = (Err z, no_block a e f g)

  of_path : (path : Bytes) (m : Mode) (at : Where) → BeginsModify text m at (Some path) → (Unfit m at → ⊥) → (g : Given Path) → IsLastPath path g → SomeModify end text is
  of_path path m at a e (Ok p) f = let o = content_there end at is in of_content path m at p a e f o.0 o.1
  of_path path m at a e (Err z) f = (Err z, bad_path a e f)

  of_fit : (path : Option Bytes) (m : Mode) (at : Where) → BeginsModify text m at path → ((Unfit m at → ⊥) × (suits m at ≡ Ok tt)) ⊎ Unfit m at → SomeModify end text is
  of_fit path m at a (inr e) = (Err faults.Unsupported, unfit_dataref a e)
  of_fit None m at a (inl e) = (Err faults.BadLine, no_path a e.0)
  of_fit (Some path) m at a (inl e) = let o = last_there path in of_path path m at a e.0 o.0 o.1

  of_dataref : (mode more dataref : Bytes) (after : Option Bytes) (m : Mode) → BeginsPart text mode (Some more) → IsModeText mode (Ok m) → BeginsPart more dataref after
      → (g : Given Where) → IsDataRefText dataref g → SomeModify end text is
  of_dataref mode more dataref after m a b c (Ok at) d =
      of_fit after m at (record { mode = mode; dataref = dataref; more = more; mode_first = a; mode_is = b; dataref_next = c; dataref_is = d }) (fits m at)
  of_dataref mode more dataref after m a b c (Err z) d = (Err z, bad_dataref more after a b c d)

  of_more : (mode : Bytes) (m : Mode) → IsModeText mode (Ok m) → (after : Option Bytes) → BeginsPart text mode after → SomeModify end text is
  of_more mode m b None a = (Err faults.BadLine, no_dataref (subst (λ x. lacks 32 x ≡ true) (sym a.1) a.0, refl) (subst (λ x. IsModeText x (Ok m)) (sym a.1) b))
  of_more mode m b (Some more) a = let c = part_there more in let d = dataref_there c.0 in of_dataref mode more c.0 c.1 m a b c.2 d.0 d.1

  of_mode : (mode : Bytes) (after : Option Bytes) → BeginsPart text mode after → (g : Given Mode) → IsModeText mode g → SomeModify end text is
  of_mode mode after a (Ok m) b = of_more mode m b after a
  of_mode mode after a (Err z) b = (Err z, bad_mode after a b)

modify_no_longer : (end : End) (text : Bytes) (is : List Item) (x : Change) (rest : List Item) → IsModify text end is (Ok (x, rest)) → length rest ≤ length is
modify_no_longer end text is x rest (modify {at = at} {content = content} a e f g) = content_no_longer end at is content rest g

-- ---- a change

-- the change at a line, as the function gives it
as_change : End → TakenFrom (Option Change) → Option (Read Change)
as_change end (Ok (None, rest)) = None
as_change end (Ok (Some c, rest)) = Some (Ok (c, stream end rest))
as_change end (Err f) = Some (Err f)

change_at_line : (end : End) (line : Bytes) (more : List Item) (out : TakenFrom (Option Change)) → IsChange end (Line line ∷ more) out → change_at (words_of line) (stream end more) ≡ as_change end out
unfolding change_at cut_at as_change
change_at_line end line more out (modified {text = text} (made {rest = rest} {x = c} h)) = rw (modify_shape end text more (Ok (c, rest)) h) refl
change_at_line end line more out (modified {text = text} (refused {f = f} h)) = rw (modify_shape end text more (Err f) h) refl
change_at_line end line more out (removed {text = text} (of_text {x = p} h)) = rw (last_shape text (Ok p) h) refl
change_at_line end line more out (removed {text = text} (text_fault {f = f} h)) = rw (last_shape text (Err f) h) refl
change_at_line end line more out (copied {text = text} (of_text {x = p} h)) = rw (two_shape text (Ok p) h) refl
change_at_line end line more out (copied {text = text} (text_fault {f = f} h)) = rw (two_shape text (Err f) h) refl
change_at_line end line more out (renamed {text = text} (of_text {x = p} h)) = rw (two_shape text (Ok p) h) refl
change_at_line end line more out (renamed {text = text} (text_fault {f = f} h)) = rw (two_shape text (Err f) h) refl
change_at_line end line more out cleared = refl
change_at_line end line more out clear_of_text = refl
change_at_line end line more out (change_without_text (inl e)) = rw e refl
change_at_line end line more out (change_without_text (inr (inl e))) = rw e refl
change_at_line end line more out (change_without_text (inr (inr (inl e)))) = rw e refl
change_at_line end line more out (change_without_text (inr (inr (inr (inl e))))) = rw e refl
change_at_line end line more out (change_without_text (inr (inr (inr (inr e))))) = absurd e
change_at_line end line more out (note (inl e)) = rw e refl
change_at_line end line more out (note (inr h)) = rw h.1 refl
change_at_line end line more out (no_change_at_line h) =
    rw (other_word (codes "M") line h.0, other_word (codes "D") line h.1.0, other_word (codes "C") line h.1.1.0, other_word (codes "R") line h.1.1.1.0, other_word (codes "deleteall") line h.1.1.1.1.0, other_word (codes "N") line h.1.1.1.1.1.0) refl

abbrev SomeChange : End → List Item → Bytes → Type 0
SomeChange end rest line = (out : TakenFrom (Option Change)) × IsChange end (Line line ∷ rest) out

pub change_there : IsWhole IsChange
change_there end (Data b ∷ rest) = (Ok (None, Data b ∷ rest), no_change_at_block)
change_there Finished [] = (Ok (None, []), no_change_at_end refl)
change_there (Failed f) [] = (Err f, change_failure refl)
change_there end (Line line ∷ rest) = by (which_word all_change_words line refl) where
  modifies : (text : Bytes) (o : TakenFrom Change) → IsModify text end rest o → SomeChange end rest (line_of (codes "M") text)
  modifies text (Ok (c, more)) h = (Ok (Some c, more), modified (made h))
  modifies text (Err f) h = (Err f, modified (refused h))

  removes : (text : Bytes) (g : Given Path) → IsLastPath text g → SomeChange end rest (line_of (codes "D") text)
  removes text (Ok p) h = (Ok (Some (Remove p), rest), removed (of_text h))
  removes text (Err f) h = (Err f, removed (text_fault h))

  copies : (text : Bytes) (g : Given (Path × Path)) → AreTwoPaths text g → SomeChange end rest (line_of (codes "C") text)
  copies text (Ok p) h = (Ok (Some (Copy p.0 p.1), rest), copied (of_text h))
  copies text (Err f) h = (Err f, copied (text_fault h))

  renames : (text : Bytes) (g : Given (Path × Path)) → AreTwoPaths text g → SomeChange end rest (line_of (codes "R") text)
  renames text (Ok p) h = (Ok (Some (Rename p.0 p.1), rest), renamed (of_text h))
  renames text (Err f) h = (Err f, renamed (text_fault h))

  by : IsOfOne all_change_words line ⊎ IsOfNone all_change_words line → SomeChange end rest line
  by (inl (inl (inl q))) = (Err faults.BadLine, change_without_text (inl q))
  by (inl (inl (inr (text, q)))) = let o = modify_there end text rest in subst (SomeChange end rest) (sym q) (modifies text o.0 o.1)
  by (inl (inr (inl (inl q)))) = (Err faults.BadLine, change_without_text (inr (inl q)))
  by (inl (inr (inl (inr (text, q))))) = let o = last_there text in subst (SomeChange end rest) (sym q) (removes text o.0 o.1)
  by (inl (inr (inr (inl (inl q))))) = (Err faults.BadLine, change_without_text (inr (inr (inl q))))
  by (inl (inr (inr (inl (inr (text, q)))))) = let o = two_there text in subst (SomeChange end rest) (sym q) (copies text o.0 o.1)
  by (inl (inr (inr (inr (inl (inl q)))))) = (Err faults.BadLine, change_without_text (inr (inr (inr (inl q)))))
  by (inl (inr (inr (inr (inl (inr (text, q))))))) = let o = two_there text in subst (SomeChange end rest) (sym q) (renames text o.0 o.1)
  by (inl (inr (inr (inr (inr (inl (inl q))))))) = subst (SomeChange end rest) (sym q) (Ok (Some Clear, rest), cleared)
  by (inl (inr (inr (inr (inr (inl (inr (text, q)))))))) = subst (SomeChange end rest) (sym q) (Err faults.BadLine, clear_of_text)
  by (inl (inr (inr (inr (inr (inr (inl h))))))) = (Err faults.Unsupported, note h)
  by (inl (inr (inr (inr (inr (inr (inr h))))))) = absurd h
  by (inr h) = (Ok (None, Line line ∷ rest), no_change_at_line h)

pub change_shorter : IsShorter IsChange
change_shorter end is x rest (modified {text = text} {is = more} (made h)) = let l = modify_no_longer end text more x rest h in omega (arith, l)
change_shorter end is x rest (removed (of_text h)) = omega arith
change_shorter end is x rest (copied (of_text h)) = omega arith
change_shorter end is x rest (renamed (of_text h)) = omega arith
change_shorter end is x rest cleared = omega arith

unchanged : (end : End) (is rest : List Item) → IsChange end is (Ok (None, rest)) → rest ≡ is
unchanged end is rest (modified h) = elim h [ ]
unchanged end is rest (removed h) = elim h [ ]
unchanged end is rest (copied h) = elim h [ ]
unchanged end is rest (renamed h) = elim h [ ]
unchanged end is rest (no_change_at_line n) = refl
unchanged end is rest no_change_at_block = refl
unchanged end is rest (no_change_at_end e) = refl

pub change_no_longer : IsNoLonger IsChange
change_no_longer end is (Some x) rest h = let l = change_shorter end is x rest h in omega (arith, l)
change_no_longer end is None rest h = rw (unchanged end is rest h) (omega arith)

-- ---- all changes

-- one change, and the changes after it
goes_on : ℕ → End → TakenFrom (Option Change) → Read (List Change)
goes_on n end (Ok (None, rest)) = Ok ([], stream end rest)
goes_on n end (Err f) = Err f
goes_on n end (Ok (Some c, rest)) = changes_within n rest (stream end rest) >>= λ xs. Ok (c ∷ xs.0, xs.1)

line_goes_on : (n : ℕ) (end : End) (line : Bytes) (more : List Item) (out : TakenFrom (Option Change)) → change_at (words_of line) (stream end more) ≡ as_change end out
    → ((rest : List Item) → out ≡ Ok (None, rest) → rest ≡ Line line ∷ more) → changes_within (suc n) (Line line ∷ more) (stream end (Line line ∷ more)) ≡ goes_on n end out
unfolding changes_within as_change goes_on
line_goes_on n end line more (Ok (None, rest)) e same = rw (e, same rest refl) refl
line_goes_on n end line more (Ok (Some c, rest)) e same = rw e refl
line_goes_on n end line more (Err f) e same = rw e refl

block_goes_on : (n : ℕ) (end : End) (b : Bytes) (more : List Item) (out : TakenFrom (Option Change)) → IsChange end (Data b ∷ more) out → changes_within (suc n) (Data b ∷ more) (stream end (Data b ∷ more)) ≡ goes_on n end out
unfolding changes_within goes_on
block_goes_on n end b more out no_change_at_block = refl

end_goes_on : (n m : ℕ) (end : End) (out : TakenFrom (Option Change)) → IsChange end [] out → changes_within n [] (stream end []) ≡ goes_on m end out
unfolding changes_within goes_on
end_goes_on n m end out (no_change_at_end e) = rw e refl
end_goes_on n m end out (change_failure e) = rw e refl

change_goes_on : (n : ℕ) (end : End) (is : List Item) (out : TakenFrom (Option Change)) → length is ≤ suc n → IsChange end is out → changes_within (suc n) is (stream end is) ≡ goes_on n end out
change_goes_on n end [] out l h = end_goes_on (suc n) n end out h
change_goes_on n end (Data b ∷ more) out l h = block_goes_on n end b more out h
change_goes_on n end (Line line ∷ more) out l h =
    line_goes_on n end line more out (change_at_line end line more out h) (λ rest e. unchanged end (Line line ∷ more) rest (rw e at h))

changes_at_end : (n : ℕ) (end : End) (out : TakenFrom (List Change)) → Repeated IsChange end [] out → changes_within n [] (stream end []) ≡ as_read end out
unfolding goes_on
changes_at_end n end out (no_more {rest = rest} h) = end_goes_on n n end (Ok (None, rest)) h ∙ refl
changes_at_end n end out (one_more {more = more} {x = x} h k) = let l = change_shorter end [] x more h in absurd (omega (arith, l))
changes_at_end n end out (next_fault {f = f} h) = end_goes_on n n end (Err f) h
changes_at_end n end out (later_fault {more = more} {x = x} h k) = let l = change_shorter end [] x more h in absurd (omega (arith, l))

changes_in : (n : ℕ) (end : End) (is : List Item) (out : TakenFrom (List Change)) → length is ≤ n → Repeated IsChange end is out → changes_within n is (stream end is) ≡ as_read end out
unfolding goes_on
changes_in n end [] out l h = changes_at_end n end out h
changes_in zero end (i ∷ is) out l h = absurd (omega (arith, l))
changes_in (suc n) end (i ∷ is) out l (no_more {rest = rest} h) = change_goes_on n end (i ∷ is) (Ok (None, rest)) l h
changes_in (suc n) end (i ∷ is) out l (next_fault {f = f} h) = change_goes_on n end (i ∷ is) (Err f) l h
changes_in (suc n) end (i ∷ is) out l (one_more {more = more} {rest = rest} {x = x} {xs = xs} h k) =
    let s = change_shorter end (i ∷ is) x more h in
    change_goes_on n end (i ∷ is) (Ok (Some x, more)) l h ∙ ap (λ r. r >>= λ xs. Ok (x ∷ xs.0, xs.1)) (changes_in n end more (Ok (xs, rest)) (omega (arith, s, l)) k)
changes_in (suc n) end (i ∷ is) out l (later_fault {more = more} {x = x} {f = f} h k) =
    let s = change_shorter end (i ∷ is) x more h in
    change_goes_on n end (i ∷ is) (Ok (Some x, more)) l h ∙ ap (λ r. r >>= λ xs. Ok (x ∷ xs.0, xs.1)) (changes_in n end more (Err f) (omega (arith, s, l)) k)

pub changes_shape : IsPartOf (Repeated IsChange) changes
changes_shape end is out h = changes_in (length is) end is out (omega arith) h

-- ---- merge lines

merge_shape : (end : End) (is : List Item) (out : TakenFrom (Option CommitIsh)) → Optional (codes "merge") IsCommitIshText end is out → optional (codes "merge") commit_ish_of (stream end is) ≡ as_read end out
merge_shape = optional_shape (codes "merge") IsCommitIshText commit_ish_of refl commit_ish_shape

merges_in : (n : ℕ) (end : End) (is : List Item) (out : TakenFrom (List CommitIsh)) → length is < n → Repeated (Optional (codes "merge") IsCommitIshText) end is out → merges_within n (stream end is) ≡ as_read end out
unfolding merges_within
merges_in zero end is out l h = absurd (omega (arith, l))
merges_in (suc n) end is out l (no_more {rest = rest} h) = rw (merge_shape end is (Ok (None, rest)) h) refl
merges_in (suc n) end is out l (next_fault {f = f} h) = rw (merge_shape end is (Err f) h) refl
merges_in (suc n) end is out l (one_more {more = more} {rest = rest} {x = x} {xs = xs} h k) =
    let s = optional_shorter (codes "merge") IsCommitIshText end is x more h in
    rw (merge_shape end is (Ok (Some x, more)) h, merges_in n end more (Ok (xs, rest)) (omega (arith, s, l)) k) refl
merges_in (suc n) end is out l (later_fault {more = more} {x = x} {f = f} h k) =
    let s = optional_shorter (codes "merge") IsCommitIshText end is x more h in
    rw (merge_shape end is (Ok (Some x, more)) h, merges_in n end more (Err f) (omega (arith, s, l)) k) refl

pub merges_shape : IsPartOf (Repeated (Optional (codes "merge") IsCommitIshText)) merges
merges_shape end is out h = merges_in (suc (length is)) end is out (omega arith) h
