use Rattle.std.proofs.Common.{◌<◌, ◌^◌, ◌∙◌, ap, length, subst, sym}
use Rattle.std.proofs.lemmas.Result.{err_from_is_err_and}
use Rattle.sha2.specs.Sha256.{sha256}
use Rattle.gx_model.specs.Texts.{Bytes}
use Rattle.gx_lines.specs.Reads.{IsFaultOf}
use Rattle.gx_growing.specs.GrowingReading.{head_of}
use Rattle.gx_growing.specs.declared.fault.GrowingFault.TheVariants.{Text}
use Rattle.gx_growing_parts.specs.Shown.{shown_slot}
use Rattle.gx_growing_file.specs.Grown.{IsGrownFault, grown_behind}
use Rattle.gx_growing_file.proofs.Whole.{front_ends, front_read, head_refused, is_text, refuses}
use Rattle.gx_growing_file.proofs.reading.read_text.Goals as goal

pub returns-in_err-slot-clause-store : goal.returns-in_err-slot-clause-store
returns-in_err-slot-clause-store g c =
    let p = err_from_is_err_and c.from_residual.result c.from_residual.ensures.1 in
    let refused = subst (λ (t : Bytes). IsFaultOf c.in_err-slot.field-0.0 (head_of t)) c.as_slice-bytes.ensures c.in_err-slot.ensures.head in
    rw (p.1, p.2) (head_refused (g.N.Namer.name_of c.args.namer) sha256 c.args.text c.in_err-slot.field-0.0 refused)

pub read_into-requires-clause-ends : goal.read_into-requires-clause-ends
read_into-requires-clause-ends g c =
    let read = ap head_of (sym c.as_slice-bytes.ensures) ∙ c.in_ok-slot.ensures.head in
    front_ends (g.N.Namer.name_of c.args.namer) sha256 c.args.text (shown_slot c.in_ok-slot.slot) c.in_ok-slot._rest.now read c.in-Ok.whole c.in-Ok.ensures

pub returns-in_err-read_into-clause-store : goal.returns-in_err-read_into-clause-store
returns-in_err-read_into-clause-store g c =
    let p = err_from_is_err_and c.from_residual-in_err-read_into.result c.from_residual-in_err-read_into.ensures.1 in
    let name = g.N.Namer.name_of c.args.namer in
    let read = ap head_of (sym c.as_slice-bytes.ensures) ∙ c.in_ok-slot.ensures.head in
    let same = front_read name sha256 c.args.text (shown_slot c.in_ok-slot.slot) c.in_ok-slot._rest.now read c.in-Ok.whole c.in-Ok.ensures in
    let named = ap (λ n. grown_behind (g.N.Namer.name_of n) sha256 (shown_slot c.in_ok-slot.slot) c.in-Ok.whole) (ap (λ r. r.0) c.new-repo.ensures) in
    rw (p.1, p.2) (subst (IsGrownFault c.in_err-read_into.field-0.0) (named ∙ sym same) c.in_err-read_into.ensures.store)

pub returns-clause-store : goal.returns-clause-store
returns-clause-store g c =
    let name = g.N.Namer.name_of c.args.namer in
    let read = ap head_of (sym c.as_slice-bytes.ensures) ∙ c.in_ok-slot.ensures.head in
    let named = ap (λ n. grown_behind (g.N.Namer.name_of n) sha256 (shown_slot c.in_ok-slot.slot) c.in-Ok.whole) (ap (λ r. r.0) c.new-repo.ensures) in
    front_read name sha256 c.args.text (shown_slot c.in_ok-slot.slot) c.in_ok-slot._rest.now read c.in-Ok.whole c.in-Ok.ensures ∙ sym named ∙ c.in_ok-read_into.ensures.store

pub returns-clause-text : goal.returns-clause-text
returns-clause-text g c =
    let name = g.N.Namer.name_of c.args.namer in
    let read = ap head_of (sym c.as_slice-bytes.ensures) ∙ c.in_ok-slot.ensures.head in
    let named = ap (λ n. grown_behind (g.N.Namer.name_of n) sha256 (shown_slot c.in_ok-slot.slot) c.in-Ok.whole) (ap (λ r. r.0) c.new-repo.ensures) in
    is_text name (c.growing_is_read.ensures name (g.met.N.Namer.is_namer c.args.namer)) c.args.text c.read_into.new.repo.1
    (front_read name sha256 c.args.text (shown_slot c.in_ok-slot.slot) c.in_ok-slot._rest.now read c.in-Ok.whole c.in-Ok.ensures ∙ sym named ∙ c.in_ok-read_into.ensures.store)

pub returns-in_err-slot-clause-refused : goal.returns-in_err-slot-clause-refused
returns-in_err-slot-clause-refused g c =
    let p = err_from_is_err_and c.from_residual.result c.from_residual.ensures.1 in
    let name = g.N.Namer.name_of c.args.namer in
    let law = c.growing_is_read.ensures name (g.met.N.Namer.is_namer c.args.namer) in
    let short = subst (λ (t : Bytes). length t < 2 ^ 63) c.as_slice-bytes.ensures c.is_short.ensures in
    let refused = subst (λ (t : Bytes). IsFaultOf c.in_err-slot.field-0.0 (head_of t)) c.as_slice-bytes.ensures c.in_err-slot.ensures.head in
    rw (p.1, p.2) (refuses name law c.args.text (Text c.in_err-slot.field-0.0) short (head_refused name sha256 c.args.text c.in_err-slot.field-0.0 refused))

pub returns-in_err-read_into-clause-refused : goal.returns-in_err-read_into-clause-refused
returns-in_err-read_into-clause-refused g c =
    let p = err_from_is_err_and c.from_residual-in_err-read_into.result c.from_residual-in_err-read_into.ensures.1 in
    let name = g.N.Namer.name_of c.args.namer in
    let law = c.growing_is_read.ensures name (g.met.N.Namer.is_namer c.args.namer) in
    let short = subst (λ (t : Bytes). length t < 2 ^ 63) c.as_slice-bytes.ensures c.is_short.ensures in
    let read = ap head_of (sym c.as_slice-bytes.ensures) ∙ c.in_ok-slot.ensures.head in
    let same = front_read name sha256 c.args.text (shown_slot c.in_ok-slot.slot) c.in_ok-slot._rest.now read c.in-Ok.whole c.in-Ok.ensures in
    let named = ap (λ n. grown_behind (g.N.Namer.name_of n) sha256 (shown_slot c.in_ok-slot.slot) c.in-Ok.whole) (ap (λ r. r.0) c.new-repo.ensures) in
    rw (p.1, p.2) (refuses name law c.args.text c.in_err-read_into.field-0.0 short (subst (IsGrownFault c.in_err-read_into.field-0.0) (named ∙ sym same) c.in_err-read_into.ensures.store))
