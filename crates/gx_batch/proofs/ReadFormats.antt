-- The parts of a format, read one after the other.
use Rattle.std.proofs.Common.{◌≡◌, ℕ, suc, ◌+◌, ◌<◌, true, false, eqb, [], ◌∷◌, ◌++◌, List, Option, None, Some, Err, refl, sym, ap, subst, ◌∙◌, arith, length, get_or, drop, length-append, append_assoc, append-nil}
use Rattle.std.specs.Prelude.{IsSome}
use Rattle.std.specs.List.{flat_map}
use Rattle.std.specs.Option.{option_map}
use Rattle.std.proofs.Math.Seq.{drop-cons}
use Rattle.gx_model.specs.Texts.{Bytes, cut_at, lacks}
use Rattle.gx_model.proofs.Texts.Cuts.{cut_spelled, lacks-cons}
use Rattle.gx_batch.specs.Formats.{GivesFormat, GivesPart, IsUnread, format_of, part_named, parts_behind, with_named, with_part}
use Rattle.gx_batch.specs.declared.fault.FormatFault.{FormatFault}
use Rattle.gx_batch.specs.declared.fault.FormatFault.TheVariants.{BadFormat, OutOfMemory}
use Rattle.gx_batch.specs.declared.format.Part.{Part}
use Rattle.gx_batch.proofs.CutLines.{cut_lacks, uncut_lacks}

-- ---- names

-- a byte of a name
longer : (word : Bytes) (b : ℕ) (bs : Bytes) → eqb b 41 ≡ false → parts_behind (Some word) (b ∷ bs) ≡ parts_behind (Some (word ++ b ∷ [])) bs
unfolding parts_behind
longer word b bs h = rw h refl

-- the end of a name
ended : (word bs : Bytes) → parts_behind (Some word) (41 ∷ bs) ≡ with_named (part_named word) (format_of bs)
unfolding parts_behind
ended word bs = refl

endless : (word : Bytes) → parts_behind (Some word) [] ≡ None
unfolding parts_behind
endless word = refl

named : (word front after : Bytes) → lacks 41 front ≡ true → parts_behind (Some word) (front ++ 41 ∷ after) ≡ with_named (part_named (word ++ front)) (format_of after)
named word [] after h = ended word after ∙ ap (λ w. with_named (part_named w) (format_of after)) (sym (append-nil word))
named word (b ∷ bs) after h =
    let p = lacks-cons 41 b bs h in
    longer word b (bs ++ 41 ∷ after) p.0 ∙ named (word ++ b ∷ []) bs after p.1 ∙ ap (λ w. with_named (part_named w) (format_of after)) (append_assoc word (b ∷ []) bs)

unnamed : (word bs : Bytes) → lacks 41 bs ≡ true → parts_behind (Some word) bs ≡ None
unnamed word [] h = endless word
unnamed word (b ∷ bs) h = let p = lacks-cons 41 b bs h in longer word b bs p.0 ∙ unnamed (word ++ b ∷ []) bs p.1

-- there is no end of a name
pub name_uncut : (text : Bytes) → None ≡ cut_at 41 text → parts_behind (Some []) text ≡ None
name_uncut text e = unnamed [] text (uncut_lacks 41 text e)

module _ (text word after : Bytes) (e : Some (word, after) ≡ cut_at 41 text) where
  spelled : text ≡ word ++ 41 ∷ after
  spelled = cut_spelled 41 text (word, after) (sym e)

  read : parts_behind (Some []) text ≡ with_named (part_named word) (format_of after)
  read = ap (parts_behind (Some [])) spelled ∙ named [] word after (cut_lacks 41 text (word, after) (sym e))

  -- a name that is known
  pub name_known : (part : Part) → Some part ≡ part_named word → parts_behind (Some []) text ≡ with_part part (format_of after)
  name_known part k = read ∙ ap (λ o. with_named o (format_of after)) (sym k)

  -- one that isn't
  pub name_unknown : None ≡ part_named word → parts_behind (Some []) text ≡ None
  name_unknown k = read ∙ ap (λ o. with_named o (format_of after)) (sym k)

  pub name_shorter : length after < length text
  name_shorter = let long = ap length spelled in let parts = length-append word (41 ∷ after) in omega (arith, long, parts)

-- ---- parts

-- nothing was read yet
pub none_done : (o : Option (List Part)) → o ≡ option_map (λ ps. [] ++ ps) o
none_done None = refl
none_done (Some ps) = refl

nothing : format_of [] ≡ Some []
unfolding parts_behind
nothing = refl

module _ (whole : Option (List Part)) (done : List Part) where
  -- one part more
  pub one_done : (rest after : Option (List Part)) (now : List Part) (part : Part) → whole ≡ option_map (λ ps. done ++ ps) rest → rest ≡ with_part part after → now ≡ done ++ part ∷ [] → whole ≡ option_map (λ ps. now ++ ps) after
  one_done rest None now part e f n = e ∙ ap (option_map (λ ps. done ++ ps)) f
  one_done rest (Some ps) now part e f n = e ∙ ap (option_map (λ ps. done ++ ps)) f ∙ ap Some (sym (append_assoc done (part ∷ []) ps)) ∙ ap (λ bs. Some (bs ++ ps)) (sym n)

  -- all were read
  pub all_done : (rest : Bytes) → rest ≡ [] → whole ≡ option_map (λ ps. done ++ ps) (format_of rest) → whole ≡ Some done
  all_done rest r e = e ∙ ap (λ bs. option_map (λ ps. done ++ ps) (format_of bs)) r ∙ ap (option_map (λ ps. done ++ ps)) nothing ∙ ap Some (append-nil done)

-- why what is left isn't read is why all isn't
pub unread_behind : (whole rest : Option (List Part)) (done : List Part) (fault : FormatFault) → whole ≡ option_map (λ ps. done ++ ps) rest → IsUnread rest fault → IsUnread whole fault
unread_behind whole rest done BadFormat e h = e ∙ ap (option_map (λ ps. done ++ ps)) h
unread_behind whole None done OutOfMemory e h = absurd (cc h)
unread_behind whole (Some ps) done OutOfMemory e h = subst IsSome (sym e) refl

-- nothing is a format
pub nothing_read : (text : Bytes) → text ≡ [] → IsUnread (format_of text) OutOfMemory
nothing_read text e = subst IsSome (sym (ap format_of e ∙ nothing)) refl

-- what is left is no format, and so is all
pub none_read : (A : Type 0) (text rest : Bytes) (done : List Part) (fault : FormatFault) → format_of text ≡ option_map (λ ps. done ++ ps) (format_of rest) → GivesPart (format_of rest) rest (Err fault) → GivesFormat {A = A} text (Err fault)
none_read A text rest done BadFormat e h = e ∙ ap (option_map (λ ps. done ++ ps)) h
none_read A text rest done OutOfMemory e h = absurd h

-- what a list gives, one after the other: one more, and what the others give
pub parts_next : {X Y : Type 0} (f : X → List Y) (xs : List X) (i : ℕ) (x d : X) (all mid now : List Y) → i < length xs → x ≡ get_or xs i d → mid ++ flat_map f (drop i xs) ≡ all → now ≡ mid ++ f x → now ++ flat_map f (drop (i + 1) xs) ≡ all
parts_next f xs i x d all mid now h e m n =
    let step : i + 1 ≡ suc i = omega arith in
    let left = flat_map f (drop (i + 1) xs) in
    let first : drop i xs ≡ x ∷ drop (i + 1) xs = drop-cons xs i d h ∙ ap (λ y. y ∷ drop (suc i) xs) (sym e) ∙ ap (λ k. x ∷ drop k xs) (sym step) in
    ap (λ t. t ++ left) n ∙ append_assoc mid (f x) left ∙ ap (λ ys. mid ++ flat_map f ys) (sym first) ∙ m
