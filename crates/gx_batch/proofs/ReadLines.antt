-- All the lines of a source are read.
use Rattle.std.proofs.Common.{◌≡◌, ℕ, true, false, refl, sym, ap, ◌∙◌, List, [], ◌∷◌, ◌++◌, append-nil, map, Option, None, Some, Ok, Err}
use Rattle.std.specs.Option.{option_map}
use Rattle.std.specs.declared.vec.Vec.{Vec}
use Rattle.std.proofs.lemmas.List.{map-append}
use Rattle.gx_model.specs.Texts.{Bytes}
use Rattle.gx_text.specs.Devices.{Coming}
use Rattle.gx_stream.specs.Heard.{heard}
use Rattle.gx_stream.specs.Pulled.{behind}
use Rattle.gx_batch.specs.Lines.{lines_from}
use Rattle.gx_batch.specs.Reading.{Reads}
use Rattle.gx_batch.specs.Batches.{GivesLines, texts_of}
use Rattle.gx_batch.specs.declared.ending.LineEnding.{LineEnding}
use Rattle.gx_batch.specs.declared.fault.BatchFault.{BatchFault}
use Rattle.gx_batch.specs.declared.fault.BatchFault.TheVariants.{OutOfMemory, ReadFailed, WriteFailed}
use Rattle.gx_batch.proofs.Answering.{ArePassed}
use Rattle.gx_batch.proofs.PassedBytes.{none_left}

-- the texts of no lines, and of one line more
pub texts_none : {A : Type 0} (lines : Vec (Vec ℕ A) A) → lines.items ≡ [] → texts_of lines ≡ []
texts_none {A} lines e = ap (map (λ (l : Vec ℕ A). l.items)) e

pub texts_more : {A : Type 0} (lines more : Vec (Vec ℕ A) A) (line : Vec ℕ A) (text : Bytes) → line.items ≡ text → more.items ≡ lines.items ++ line ∷ [] → texts_of more ≡ texts_of lines ++ text ∷ []
texts_more {A} lines more line text e m =
    ap (map (λ (l : Vec ℕ A). l.items)) m ∙ map-append (λ (l : Vec ℕ A). l.items) lines.items (line ∷ []) ∙ ap (λ t. texts_of lines ++ t ∷ []) e

module _ (A : Type 0) (ending : LineEnding) where
  -- there is no memory
  pub lines_unheld : (coming : Option Coming) → GivesLines {A = A} ending coming (Err OutOfMemory)
  lines_unheld None = (record { bytes = []; fails = false }, tt)
  lines_unheld (Some c) = tt

  -- no line is left
  pub lines_read : (coming here next : Option Coming) (line : Bytes) (lines : Vec (Vec ℕ A) A) → ArePassed ending (texts_of lines) (option_map heard coming) here → Reads ending here next line (Ok false) → GivesLines ending coming (Ok lines)
  lines_read None None next line lines a r =
      let front = texts_of lines in
      let none : Coming = record { bytes = []; fails = false } in
      (behind a.0 none, (refl, sym (a.1 none tt ∙ ap (λ ls. front ++ ls) (none_left ending false) ∙ append-nil front)))
  lines_read None (Some d) next line lines a r =
      let front = texts_of lines in
      (behind a.0 d, (r.1, sym (a.1 d refl ∙ ap (λ ls. front ++ ls) r.0 ∙ append-nil front)))
  lines_read (Some c) None next line lines a r = absurd (cc a.1)
  lines_read (Some c) (Some d) next line lines a r =
      let same : d ≡ a.0 = cc a.1 in
      let front = texts_of lines in
      let none = ap (lines_from ending) (sym same) ∙ r.0 in
      (sym a.3 ∙ ap (λ (x : Coming). x.fails) (sym same) ∙ r.1, sym (a.2 ∙ ap (λ ls. front ++ ls) none ∙ append-nil front))

  -- no line is left, and the source failed
  pub lines_failed : (coming here next : Option Coming) (line : Bytes) (front : List Bytes) (fault : BatchFault) → ArePassed ending front (option_map heard coming) here → Reads ending here next line (Err fault) → GivesLines {A = A} ending coming (Err fault)
  lines_failed coming here next line front OutOfMemory a r = lines_unheld coming
  lines_failed None None next line front ReadFailed a r = (record { bytes = []; fails = true }, refl)
  lines_failed None (Some d) next line front ReadFailed a r = (record { bytes = []; fails = true }, refl)
  lines_failed (Some c) None next line front ReadFailed a r = absurd (cc a.1)
  lines_failed (Some c) (Some d) next line front ReadFailed a r =
      let same : d ≡ a.0 = cc a.1 in
      sym a.3 ∙ ap (λ (x : Coming). x.fails) (sym same) ∙ r.1
  lines_failed coming None next line front WriteFailed a r = absurd r
  lines_failed coming (Some d) next line front WriteFailed a r = absurd r
