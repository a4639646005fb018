-- Range words one after the other: those that are done, the next, and what all list.
use Rattle.std.proofs.Common.{◌≡◌, ℕ, zero, suc, ◌+◌, ◌<◌, ◌≤◌, drop, Bool, true, false, refl, sym, ap, ◌∙◌, arith, List, [], ◌∷◌, ◌++◌, map, length, Result, Ok, Err, append_assoc, append-nil}
use Rattle.std.specs.Prelude.{◌||◌, slice_index_or}
use Rattle.std.specs.List.{list_any}
use Rattle.std.proofs.lemmas.List.Folds.{list_any-append}
use Rattle.gx_model.specs.declared.faults.Fault.{Fault}
use Rattle.gx_model.specs.declared.objects.Kind.{Kind}
use Rattle.gx_model.specs.Texts.{Bytes}
use Rattle.gx_model.specs.Faults.{Given, IsFaultOf, ◌>>=◌}
use Rattle.gx_model.specs.Revisions.{RangeWord}
use Rattle.gx_model.specs.Histories.Values.{Commit, commit_value}
use Rattle.gx_model.specs.Records.{name_of}
use Rattle.gx_model.specs.Histories.{History, Records}
use Rattle.gx_model.specs.Revisions.Ranges.{Word, WordFault, at_word, each_from, listed, listing, no_commit, span, word_denoted}
use Rattle.gx_rev.specs.declared.fault.RevFault.{RevFault}
use Rattle.gx_rev.specs.declared.fault.RevFault.TheVariants.{OutOfMemory}
use Rattle.gx_model.specs.Laws.RangeLaws.{is_excluded}
use Rattle.gx_rev.specs.RevFaults.{fault_of}
use Rattle.gx_rev.specs.Walking.{IsWordFault, is_included, refused_at}
use Rattle.gx_rev.specs.Tips.{AddsTips, AreTips}
use Rattle.gx_rev.proofs.Tips.{same_tips}

-- the first words are these
abbrev pub AreRead : (RangeWord → Given Word) → List RangeWord → List RangeWord → ℕ → List Word → Type 0
AreRead f all left count done = each_from 1 f all ≡ (each_from (1 + count) f left >>= λ ws. Ok (done ++ ws))

-- and their tips are marked
pub record AreDone (f : RangeWord → Given Word) (repository : Records) (all left : List RangeWord) (count : ℕ) (ins outs : List Bool) (done : List Word) : Type 0 where
  pub words : AreRead f all left count done
  pub included : AreTips repository (is_included done) ins
  pub excluded : AreTips repository (is_excluded done) outs

module _ {X : Type 0} where
  -- the words from a place on
  pub words_from : (xs : List X) (i : ℕ) (x : X) → i < length xs → x ≡ slice_index_or xs i x → drop i xs ≡ x ∷ drop (i + 1) xs
  words_from [] i x h e = absurd (omega arith)
  words_from (y ∷ ys) zero x h e = ap (λ z. z ∷ ys) (sym e)
  words_from (y ∷ ys) (suc i) x h e = let s : suc i + 1 ≡ suc (i + 1) = omega arith in rw s (words_from ys i x (omega arith) e)

  pub words_end : (xs : List X) (i : ℕ) → length xs ≤ i → drop i xs ≡ []
  words_end [] zero h = refl
  words_end [] (suc i) h = refl
  words_end (y ∷ ys) zero h = absurd (omega arith)
  words_end (y ∷ ys) (suc i) h = words_end ys i (omega arith)

or_false : (b : Bool) → (b || false) ≡ b
or_false true = refl
or_false false = refl

module _ (f : RangeWord → Given Word) where
  and_same : (r : Result (List Word) WordFault) → r ≡ (r >>= λ ws. Ok ([] ++ ws))
  and_same (Ok ws) = refl
  and_same (Err e) = refl

  pub none_read : (all : List RangeWord) → AreRead f all all 0 []
  none_read all = and_same (each_from 1 f all)

  pub none_done : (r : Records) (all : List RangeWord) (included excluded : List Bool) → AreTips r no_commit included → AreTips r no_commit excluded → AreDone f r all all 0 included excluded []
  none_done r all included excluded i e = record { words = none_read all; included = i; excluded = e }

  some_next : (p : Word → Commit → Bool) (done : List Word) (w : Word) (c : Commit) → (list_any (λ x. p x c) done || p w c) ≡ list_any (λ x. p x c) (done ++ w ∷ [])
  some_next p done w c = sym (list_any-append (λ x. p x c) done (w ∷ []) ∙ ap (λ b. list_any (λ x. p x c) done || b) (or_false (p w c)))

  then_next : (done : List Word) (w : Word) (r : Result (List Word) WordFault) → ((r >>= λ ys. Ok (w ∷ ys)) >>= λ ws. Ok (done ++ ws)) ≡ (r >>= λ ws. Ok ((done ++ w ∷ []) ++ ws))
  then_next done w (Ok ws) = ap Ok (sym (append_assoc done (w ∷ []) ws))
  then_next done w (Err e) = refl

  -- one word more
  pub word_done : (all left : List RangeWord) (x : RangeWord) (count : ℕ) (done : List Word) (w : Word) → f x ≡ Ok w → AreRead f all (x ∷ left) count done → AreRead f all left (count + 1) (done ++ w ∷ [])
  word_done all left x count done w e read =
      read ∙ ap (λ r. (at_word (1 + count) r >>= λ y. each_from (1 + count + 1) f left >>= λ ys. Ok (y ∷ ys)) >>= λ ws. Ok (done ++ ws)) e
      ∙ then_next done w (each_from (1 + count + 1) f left) ∙ ap (λ n. each_from n f left >>= λ ws. Ok ((done ++ w ∷ []) ++ ws)) (let s : 1 + count + 1 ≡ 1 + (count + 1) = omega arith in s)

  -- and its tips
  pub next_done : (r : Records) (all left : List RangeWord) (x : RangeWord) (count : ℕ) (included excluded joined apart : List Bool) (done : List Word) (w : Word)
      → f x ≡ Ok w → AddsTips r (span w).included included joined → AddsTips r (span w).excluded excluded apart
      → AreDone f r all (x ∷ left) count included excluded done → AreDone f r all left (count + 1) joined apart (done ++ w ∷ [])
  next_done r all left x count included excluded joined apart done w e i k d = record {
    words = word_done all left x count done w e d.words;
    included = same_tips r (λ c. is_included done c || (span w).included c) (is_included (done ++ w ∷ [])) joined (λ c. some_next (λ x c. (span x).included c) done w c) (i (is_included done) d.included);
    excluded = same_tips r (λ c. is_excluded done c || (span w).excluded c) (is_excluded (done ++ w ∷ [])) apart (λ c. some_next (λ x c. (span x).excluded c) done w c) (k (is_excluded done) d.excluded);
  }

  -- the next word is refused, and so are all
  pub next_fails : (all left : List RangeWord) (x : RangeWord) (count : ℕ) (done : List Word) (g : Fault) → f x ≡ Err g → AreRead f all (x ∷ left) count done → each_from 1 f all ≡ Err (record { word = 1 + count; fault = g })
  next_fails all left x count done g e read =
      read ∙ ap (λ r. (at_word (1 + count) r >>= λ y. each_from (1 + count + 1) f left >>= λ ys. Ok (y ∷ ys)) >>= λ ws. Ok (done ++ ws)) e

  pub all_done : (all : List RangeWord) (count : ℕ) (done : List Word) → AreRead f all [] count done → each_from 1 f all ≡ Ok done
  all_done all count done read = read ∙ ap Ok (append-nil done)

module _ (name : Kind → Bytes → Bytes) (h : History) where
  pub listed_fails : (ws : List RangeWord) (e : WordFault) → each_from 1 (word_denoted name h) ws ≡ Err e → listed name h ws ≡ Err e
  unfolding listed
  listed_fails ws e k = ap (λ r. r >>= λ xs. Ok (map (λ c. name_of name (commit_value c)) (listing h xs))) k

  pub listed_is : (ws : List RangeWord) (done : List Word) → each_from 1 (word_denoted name h) ws ≡ Ok done → listed name h ws ≡ Ok (map (λ c. name_of name (commit_value c)) (listing h done))
  unfolding listed
  listed_is ws done k = ap (λ r. r >>= λ xs. Ok (map (λ c. name_of name (commit_value c)) (listing h xs))) k

  -- the names of the commits that are included and not excluded are those that are listed
  pub names_are : (ws : List RangeWord) (done : List Word) (names : List Bytes) → each_from 1 (word_denoted name h) ws ≡ Ok done
      → names ≡ map (λ c. name_of name (commit_value c)) (listing h done) → listed name h ws ≡ Ok names
  names_are ws done names k n = listed_is ws done k ∙ ap Ok (sym n)

  -- a word's fault, or want of memory
  pub word_fails : (ws : List RangeWord) (count : ℕ) (kind : RevFault) (x : RangeWord) → IsFaultOf (fault_of kind) (word_denoted name h x)
      → ((g : Fault) → word_denoted name h x ≡ Err g → each_from 1 (word_denoted name h) ws ≡ Err (record { word = 1 + count; fault = g })) → (n : ℕ) → n ≡ 1 + count
      → IsWordFault (refused_at n kind).word (fault_of (refused_at n kind).kind) (listed name h ws)
  word_fails ws count OutOfMemory x i k n s = refl
  word_fails ws count kind x i k n s = listed_fails ws _ (k (fault_of kind) i) ∙ ap (λ m. Err (record { word = m; fault = fault_of kind })) (sym s)
