-- The parts of a commit's lines, one behind the other.
use Rattle.std.proofs.Common.{◌≡◌, ◌+◌, ℕ, suc, List, [], ◌++◌, length, Result, Ok, Err, subst, arith, append_assoc}
use Rattle.gx_model.specs.Export.{items_text}
use Rattle.gx_model.specs.Histories.{Records}
use Rattle.gx_model.specs.Histories.Values.{CommitText, Value}
use Rattle.gx_model.specs.Streams.Items.{Item}
use Rattle.gx_model.specs.Texts.{Bytes}
use Rattle.gx_export.specs.Outputs.{Sent, Writes}
use Rattle.gx_export.specs.Texts.{head_items, root_items}
use Rattle.gx_export.specs.declared.fault.ExportFault.{ExportFault}
use Rattle.gx_sending.specs.Faults.{of_export}
use Rattle.gx_sending.specs.Marks.{Adds, HasWritten, IsNextMark}
use Rattle.gx_sending.specs.declared.fault.SendFault.{SendFault}
use Rattle.gx_sending.specs.declared.written.Written.{Written}
use Rattle.gx_sending.proofs.Sending.{adds_bytes, adds_later, sink_fails, stops_sooner}

-- ---- up to the message

module _ {W A : Type 0} (branch : Bytes) (parents : ℕ) (text : CommitText) (old : Written W A) where
  abbrev pub HeadOut : Written W A → Result (Unit {0}) SendFault → Type 0
  HeadOut new result = (r : Records) (ws : List Value) → HasWritten r ws old → Adds ws (root_items branch parents ++ head_items branch (suc (length ws)) text) old new result r

  pub root_fails : (after : Sent) (e : ExportFault) → Writes old.output after (items_text (root_items branch parents)) (Err e) → HeadOut (record old { output = after }) (Err (of_export e))
  root_fails after e k = λ r ws h.
      stops_sooner r ws ws (root_items branch parents) (head_items branch (suc (length ws)) text) old (record old { output = after }) (of_export e) (sink_fails r ws (root_items branch parents) old after e k)

  module _ (mid : Sent) (root : Writes old.output mid (items_text (root_items branch parents)) (Ok tt)) (mark : ℕ) (next : IsNextMark (record old { output = mid }) mark) (after : Sent) where
    behind_root : (result : Result (Unit {0}) SendFault) → ((r : Records) (ws : List Value) → HasWritten r ws (record old { output = mid }) → mark ≡ suc (length ws) → Adds ws (head_items branch (suc (length ws)) text) (record old { output = mid }) (record old { output = after }) result r)
        → HeadOut (record old { output = after }) result
    behind_root result k = λ r ws h.
        let first = adds_bytes r ws (root_items branch parents) old mid h root in
        let e = next r ws first.written in
        adds_later r ws ws (root_items branch parents) (head_items branch (suc (length ws)) text) old (record old { output = mid }) (record old { output = after }) result first (k r ws first.written (omega (arith, e)))

    pub head_fails : (e : ExportFault) → Writes mid after (items_text (head_items branch mark text)) (Err e) → HeadOut (record old { output = after }) (Err (of_export e))
    head_fails e k = behind_root (Err (of_export e)) (λ r ws h same. sink_fails r ws (head_items branch (suc (length ws)) text) (record old { output = mid }) after e (subst (λ m. Writes mid after (items_text (head_items branch m text)) (Err e)) same k))

    pub head_out : Writes mid after (items_text (head_items branch mark text)) (Ok tt) → HeadOut (record old { output = after }) (Ok tt)
    head_out k = behind_root (Ok tt) (λ r ws h same. adds_bytes r ws (head_items branch (suc (length ws)) text) (record old { output = mid }) after h (subst (λ m. Writes mid after (items_text (head_items branch m text)) (Ok tt)) same k))

-- ---- all of them

module _ {W A : Type 0} (r : Records) (ws : List Value) (front head parents rest : List Item) (old : Written W A) where
  pub head_stops : (new : Written W A) (e : SendFault) → Adds ws (front ++ head) old new (Err e) r → Adds ws (front ++ (head ++ (parents ++ rest))) old new (Err e) r
  head_stops new e k = subst (λ items. Adds ws items old new (Err e) r) (append_assoc front head (parents ++ rest)) (stops_sooner r ws ws (front ++ head) (parents ++ rest) old new e k)

  module _ (one : Written W A) (k : Adds ws (front ++ head) old one (Ok tt) r) where
    behind_head : (new : Written W A) (result : Result (Unit {0}) SendFault) → Adds ws (parents ++ rest) one new result r → Adds ws (front ++ (head ++ (parents ++ rest))) old new result r
    behind_head new result j = subst (λ items. Adds ws items old new result r) (append_assoc front head (parents ++ rest)) (adds_later r ws ws (front ++ head) (parents ++ rest) old one new result k j)

    pub parents_stop : (new : Written W A) (e : SendFault) → Adds ws parents one new (Err e) r → Adds ws (front ++ (head ++ (parents ++ rest))) old new (Err e) r
    parents_stop new e j = behind_head new (Err e) (stops_sooner r ws ws parents rest one new e j)

    pub rest_out : (two new : Written W A) (result : Result (Unit {0}) SendFault) → Adds ws parents one two (Ok tt) r → Adds ws rest two new result r → Adds ws (front ++ (head ++ (parents ++ rest))) old new result r
    rest_out two new result j l = behind_head new result (adds_later r ws ws parents rest one two new result j l)
