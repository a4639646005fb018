-- What was sent, one part after another.
use Rattle.std.proofs.Common.{◌≡◌, ◌≢◌, ℕ, suc, ◌+◌, ◌<◌, List, [], ◌∷◌, ◌++◌, length, take, drop, get_or, Result, Ok, Err, refl, sym, ap, ◌∙◌, subst, arith}
use Rattle.std.proofs.Math.Seq.{take-suc, drop-cons}
use Rattle.std.proofs.lemmas.List.{take-append-drop}
use Rattle.gx_model.specs.Export.{items_text}
use Rattle.gx_model.specs.Histories.{Records}
use Rattle.gx_model.specs.Histories.Values.{Value}
use Rattle.gx_model.specs.Streams.Items.{Item}
use Rattle.gx_export.specs.Outputs.{Sent, Writes}
use Rattle.gx_export.specs.declared.fault.ExportFault.{ExportFault}
use Rattle.gx_export.specs.declared.fault.ExportFault.TheVariants as export
use Rattle.gx_export.proofs.Writing.{items_later, items_sooner, stops_first, stops_last, writes_none}
use Rattle.gx_sending.specs.Faults.{of_export, stop, stopped}
use Rattle.gx_sending.specs.Marks.{Adds, HasWritten}
use Rattle.gx_sending.specs.declared.fault.SendFault.{SendFault}
use Rattle.gx_sending.specs.declared.fault.SendFault.TheVariants.{Damaged}
use Rattle.gx_sending.specs.declared.written.Written.{Written}

-- ---- lists, one element after another

module _ {X : Type 0} (xs : List X) (i : ℕ) (x : X) (l : i < length xs) (e : x ≡ get_or xs i x) where
  -- one more
  pub next_listed : take (i + 1) xs ≡ take i xs ++ (x ∷ [])
  next_listed =
      let step : i + 1 ≡ suc i = omega arith in
      ap (λ n. take n xs) step ∙ take-suc xs i x l ∙ ap (λ y. take i xs ++ (y ∷ [])) (sym e)

  -- those before, this one, and those behind it
  pub listed_parts : xs ≡ take i xs ++ (x ∷ drop (suc i) xs)
  listed_parts = sym (take-append-drop i xs) ∙ ap (λ t. take i xs ++ t) (drop-cons xs i x l ∙ ap (λ y. y ∷ drop (suc i) xs) (sym e))

-- ---- parts of a text

-- a fault of the sink
pub sink_told : (e : ExportFault) → of_export e ≢ Damaged
sink_told export.OutOfMemory q = cc q
sink_told (export.WriteFailed n) q = cc q
sink_told export.Unsupported q = cc q

pub sink_stops : (e : ExportFault) → stop (of_export e) ≡ e
sink_stops export.OutOfMemory = refl
sink_stops (export.WriteFailed n) = refl
sink_stops export.Unsupported = refl

module _ {W A : Type 0} (r : Records) where
  -- nothing goes out
  pub adds_nothing : (ws : List Value) (written : Written W A) → HasWritten r ws written → Adds ws [] written written (Ok tt) r
  adds_nothing ws written h = record { written = h; told = tt; text = writes_none written.output }

  -- what was written stays so behind items that give no marks
  pub still_written : (ws : List Value) (items : List Item) (old : Written W A) (after : Sent) → HasWritten r ws old → Writes old.output after (items_text items) (Ok tt) → HasWritten r ws (record old { output = after })
  still_written ws items old after h k = record {
    count = h.count;
    marks = h.marks;
    each = (let more = h.each in let l = k.1.0 in omega (arith, l, more));
    most = k.1.1 h.most;
  }

  pub adds_bytes : (ws : List Value) (items : List Item) (old : Written W A) (after : Sent) → HasWritten r ws old → Writes old.output after (items_text items) (Ok tt) → Adds ws items old (record old { output = after }) (Ok tt) r
  adds_bytes ws items old after h k = record { written = still_written ws items old after h k; told = tt; text = k }

  -- or the sink fails within them
  pub sink_fails : (ws : List Value) (items : List Item) (old : Written W A) (after : Sent) (e : ExportFault) → Writes old.output after (items_text items) (Err e) → Adds ws items old (record old { output = after }) (Err (of_export e)) r
  sink_fails ws items old after e k = record { written = tt; told = sink_told e; text = subst (λ f. Writes old.output after (items_text items) (Err f)) (sym (sink_stops e)) k }

  -- items go out behind others
  pub adds_later : (us vs : List Value) (xs ys : List Item) (old mid new : Written W A) (result : Result (Unit {0}) SendFault) → Adds us xs old mid (Ok tt) r → Adds vs ys mid new result r → Adds vs (xs ++ ys) old new result r
  adds_later us vs xs ys old mid new result h k = record { written = k.written; told = k.told; text = items_later old.output mid.output new.output xs ys (stopped result) h.text k.text }

  -- what stops within items stops within these and others
  pub stops_sooner : (us vs : List Value) (xs ys : List Item) (old new : Written W A) (e : SendFault) → Adds us xs old new (Err e) r → Adds vs (xs ++ ys) old new (Err e) r
  stops_sooner us vs xs ys old new e h = record { written = tt; told = h.told; text = items_sooner old.output new.output xs ys (stop e) h.text }

  -- a stop before items that isn't the sink's
  pub stops_here : (ws : List Value) (items : List Item) (written : Written W A) (e : SendFault) → e ≢ Damaged → stop e ≡ export.OutOfMemory → Adds ws items written written (Err e) r
  stops_here ws items written e d q = record { written = tt; told = d; text = subst (λ f. Writes written.output written.output (items_text items) (Err f)) (sym q) (stops_first written.output (items_text items)) }

  -- and behind them, where no bytes went out since
  pub stops_behind : (vs : List Value) (items : List Item) (old mid new : Written W A) (e : SendFault) → e ≢ Damaged → stop e ≡ export.OutOfMemory → new.output ≡ mid.output → Writes old.output mid.output (items_text items) (Ok tt) → Adds vs items old new (Err e) r
  stops_behind vs items old mid new e d q same k = record {
    written = tt;
    told = d;
    text = subst (λ f. Writes old.output new.output (items_text items) (Err f)) (sym q) (subst (λ s. Writes old.output s (items_text items) (Err export.OutOfMemory)) (sym same) (stops_last old.output mid.output (items_text items) k));
  }

  -- ---- the items of a list, one element after another

  module _ {X : Type 0} (ws : List Value) (items : List X → List Item) (parts : (ys zs : List X) → items (ys ++ zs) ≡ items ys ++ items zs) (xs : List X) (i : ℕ) (x : X) (l : i < length xs) (e : x ≡ get_or xs i x)
      (first now new : Written W A) (done : Adds ws (items (take i xs)) first now (Ok tt) r) where
    pub next_sent : Adds ws (items (x ∷ [])) now new (Ok tt) r → Adds ws (items (take (i + 1) xs)) first new (Ok tt) r
    next_sent k =
        subst (λ is. Adds ws is first new (Ok tt) r) (sym (ap items (next_listed xs i x l e) ∙ parts (take i xs) (x ∷ [])))
        (adds_later ws ws (items (take i xs)) (items (x ∷ [])) first now new (Ok tt) done k)

    pub stops_within : (fault : SendFault) → Adds ws (items (x ∷ [])) now new (Err fault) r → Adds ws (items xs) first new (Err fault) r
    stops_within fault k =
        let rest = drop (suc i) xs in
        let all = ap items (listed_parts xs i x l e) ∙ parts (take i xs) (x ∷ rest) ∙ ap (λ t. items (take i xs) ++ t) (parts (x ∷ []) rest) in
        subst (λ is. Adds ws is first new (Err fault) r) (sym all)
        (adds_later ws ws (items (take i xs)) (items (x ∷ []) ++ items rest) first now new (Err fault) done (stops_sooner ws ws (items (x ∷ [])) (items rest) now new fault k))
