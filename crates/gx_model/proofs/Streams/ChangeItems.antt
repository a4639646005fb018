-- The items of a commit's changes are read as these changes.
use Rattle.std.proofs.Common.{◌≡◌, ℕ, zero, suc, ◌≤◌, true, Some, None, Ok, List, [], ◌∷◌, ◌++◌, length, codes, refl, ap, arith}
use Rattle.std.specs.List.{flat_map, AllByRecursion}
use Rattle.std.specs.Fmt.{decimal}
use Rattle.gx_model.specs.declared.objects.Mode.{Mode}
use Rattle.gx_model.specs.declared.objects.Mode.TheVariants.{File, Exec, Link, Gitlink, Dir}
use Rattle.gx_model.specs.Texts.{Bytes, cut_at, lacks}
use Rattle.gx_model.specs.Faults.{◌>>=◌}
use Rattle.gx_model.specs.Texts.Paths.{Path, path_text, printed}
use Rattle.gx_model.specs.Streams.Items.{Item, Line, Finished, Stream}
use Rattle.gx_model.specs.Streams.Commands.{DataRef, Mark, Object, Inline, Change, Modify, Remove, Copy, Rename, Clear}
use Rattle.gx_model.specs.Streams.Grammar.{modify_at, change_at, changes_within}
use Rattle.gx_model.specs.Streams.Lines.{last_path, words_of, words_by}
use Rattle.gx_model.specs.Export.{mode_digits, dataref_text, dataref_block, change_items}
use Rattle.gx_model.specs.Laws.ExportLaws.{IsMark, IsLink, IsPath, IsDataRef, IsSpelledChange}
use Rattle.gx_model.proofs.Texts.Cuts.{cut_after}
use Rattle.gx_model.proofs.Streams.CommandFields.{where_mark, where_link, mark_no_space, link_no_space, path_read}

abbrev pub stream : List Item → Stream
stream is = record { items = is; end = Finished }

pub words_at : (word rest : Bytes) → lacks 32 word ≡ true → words_of (word ++ 32 ∷ rest) ≡ record { word = word; rest = Some rest }
words_at word rest h = ap (words_by (word ++ 32 ∷ rest)) (cut_after 32 word rest h)

-- ---- changes

-- a mode, and what follows it
pub mode_words : (m : Mode) (r : Bytes) → words_of (mode_digits m ++ 32 ∷ r) ≡ record { word = mode_digits m; rest = Some r }
unfolding cut_at
mode_words File r = refl
mode_words Exec r = refl
mode_words Link r = refl
mode_words Gitlink r = refl
mode_words Dir r = refl

mark_words : (n : ℕ) (r : Bytes) → IsMark n → words_of ((58 ∷ decimal n) ++ 32 ∷ r) ≡ record { word = 58 ∷ decimal n; rest = Some r }
mark_words n r h = words_at (58 ∷ decimal n) r (mark_no_space n h.1)

link_words : (x r : Bytes) → IsLink x → words_of (x ++ 32 ∷ r) ≡ record { word = x; rest = Some r }
link_words x r h = words_at x r (link_no_space x h.0)

pub modify_read : (m : Mode) (s : DataRef) (p : Path) (t : Stream) → IsDataRef m s → IsPath p → modify_at (mode_digits m ++ 32 ∷ dataref_text s ++ 32 ∷ printed (path_text p)) t ≡ Ok (Modify m s p, t)
unfolding modify_at
modify_read File (Mark n) p t h k = rw (mode_words File, mark_words n _ h, where_mark n h, path_read p k) refl
modify_read Exec (Mark n) p t h k = rw (mode_words Exec, mark_words n _ h, where_mark n h, path_read p k) refl
modify_read Link (Mark n) p t h k = rw (mode_words Link, mark_words n _ h, where_mark n h, path_read p k) refl
modify_read Gitlink (Object x) p t h k = rw (mode_words Gitlink, link_words x _ h, where_link x h, path_read p k) refl
modify_read File (Object x) p t h k = absurd h
modify_read Exec (Object x) p t h k = absurd h
modify_read Link (Object x) p t h k = absurd h
modify_read File (Inline x) p t h k = absurd h
modify_read Exec (Inline x) p t h k = absurd h
modify_read Link (Inline x) p t h k = absurd h
modify_read Gitlink (Mark n) p t h k = absurd h
modify_read Gitlink (Inline x) p t h k = absurd h
modify_read Dir (Mark n) p t h k = absurd h
modify_read Dir (Object x) p t h k = absurd h
modify_read Dir (Inline x) p t h k = absurd h

pub modify_line : (r : Bytes) (t : Stream) → change_at (words_of (codes "M" ++ 32 ∷ r)) t ≡ Some (modify_at r t)
unfolding change_at cut_at
modify_line r t = refl

pub remove_line : (r : Bytes) (t : Stream) → change_at (words_of (codes "D" ++ 32 ∷ r)) t ≡ Some (last_path r >>= λ p. Ok (Remove p, t))
unfolding change_at cut_at
remove_line r t = refl

pub clear_line : (t : Stream) → change_at (words_of (codes "deleteall")) t ≡ Some (Ok (Clear, t))
unfolding change_at cut_at
clear_line t = refl

pub empty_line : (t : Stream) → change_at (words_of []) t ≡ None
unfolding change_at cut_at
empty_line t = refl

pub no_block : (m : Mode) (s : DataRef) → IsDataRef m s → dataref_block s ≡ []
no_block m (Mark n) h = refl
no_block m (Object x) h = refl
no_block File (Inline x) h = absurd h
no_block Exec (Inline x) h = absurd h
no_block Link (Inline x) h = absurd h
no_block Gitlink (Inline x) h = absurd h
no_block Dir (Inline x) h = absurd h

-- the changes of a commit, up to its empty line
pub changes_read : (n : ℕ) (cs : List Change) (rest : List Item) → length cs ≤ n → AllByRecursion IsSpelledChange cs
    → changes_within n (flat_map change_items cs ++ Line [] ∷ rest) (stream (flat_map change_items cs ++ Line [] ∷ rest)) ≡ Ok (cs, stream (Line [] ∷ rest))
unfolding changes_within
changes_read zero [] rest lt h = refl
changes_read (suc n) [] rest lt h = rw empty_line refl
changes_read zero (c ∷ cs) rest lt h = absurd (omega arith)
changes_read (suc n) (Clear ∷ cs) rest lt h =
    let again = changes_read n cs rest (omega arith) h.1 in
    rw (clear_line, again) refl
changes_read (suc n) (Modify m s p ∷ cs) rest lt h =
    let again = changes_read n cs rest (omega arith) h.1 in
    rw (no_block m s h.0.0, modify_line, modify_read m s p _ h.0.0 h.0.1, again) refl
changes_read (suc n) (Remove p ∷ cs) rest lt h =
    let again = changes_read n cs rest (omega arith) h.1 in
    rw (remove_line, path_read p h.0, again) refl
changes_read (suc n) (Copy p q ∷ cs) rest lt h = absurd h.0
changes_read (suc n) (Rename p q ∷ cs) rest lt h = absurd h.0
