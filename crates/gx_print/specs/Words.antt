-- The words of a text, and what words give that are read one after the other, or the first of them that is refused.
use Rattle.std.specs.Prelude.{◌≡◌, ℕ, ◌-◌, ◌==◌, ◌++◌, List, [], get_or, map, Result, Ok, Err}
use Rattle.std.specs.Borrow.{Bor}
use Rattle.std.specs.List.{slice_split}
use Rattle.std.specs.declared.vec.Vec.{Vec}
use Rattle.gx_model.specs.declared.faults.Fault.{Fault}
use Rattle.gx_model.specs.declared.faults.Fault.TheVariants as model
use Rattle.gx_model.specs.Revisions.Ranges.{WordFault}
use Rattle.gx_model.specs.Texts.{Bytes}
use Rattle.gx_text.specs.Lent.{lent_texts}
use Rattle.gx_rev.specs.RevFaults.{fault_of}
use Rattle.gx_rev.specs.declared.fault.WalkFault.{WalkFault}

-- the words of a text, which single spaces divide
abbrev pub words_in : Bytes → List Bytes
words_in text = slice_split (λ b. b == 32) text

-- words, and lines behind them
abbrev pub with_lines : {A : Type 0} → List (Bor Bytes) → List (Vec ℕ A) → List Bytes
with_lines words lines = lent_texts words ++ map (λ line. line.items) lines

-- the word with this number, from 1
abbrev pub word_at : List Bytes → ℕ → Bytes
word_at words number = get_or words (number - 1) []

-- the word with this number is refused for this; want of memory is of none
abbrev pub IsRefusedAt : {Y : Type 0} → ℕ → Fault → Result Y WordFault → Type 0
IsRefusedAt word model.OutOfMemory given = word ≡ 0
IsRefusedAt word f given = given ≡ Err (record { word = word; fault = f })

-- what words give, seen so, or the first that is refused
abbrev pub ReadsWords : {X Y : Type 0} → (X → Y) → Result X WalkFault → Result Y WordFault → Type 0
ReadsWords view (Ok x) given = given ≡ Ok (view x)
ReadsWords view (Err fault) given = IsRefusedAt fault.word (fault_of fault.kind) given
