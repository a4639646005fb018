use Rattle.std.proofs.Common.{refl, sym, subst}
use Rattle.sha1.specs.Sha1.{Holds, sha1}
use Rattle.gx_model.specs.Texts.{Bytes}
use Rattle.gx_model.proofs.Texts.SentTexts.{failed_within, sent_took}
use Rattle.gx_pack.specs.Writing.{Delivers, Sent, WritesDigest}
use Rattle.gx_pack.proofs.output.Output.write_digest.Goals.{in-Ok, in-Err}
use Rattle.gx_pack.proofs.output.Output.write_digest.Goals as goal

pub returns : goal.returns
returns g c =
    let taken = g.W.Sink.taken in
    let it = c.self.inside in
    let was = taken it.sink.now in
    let now = taken c.send.new.sink in
    let old : Sent = record { name = it.sink.ghost_name; taken = was; hasher = it.hasher } in
    let new : Sent = record { name = it.sink.ghost_name; taken = now; hasher = c.new.result } in
    let digest = c.finalize.result in
    let sent : Delivers was now digest c.match-send.result = elim c.match-send.branch [
      | in-Ok w ↦ subst (Delivers was now digest) (sym w.result-is) (sent_took was now digest _ w.in-Ok.ensures.bytes)
      | in-Err w ↦ subst (Delivers was now digest) (sym w.result-is) (failed_within was now digest _ w.in-Err.ensures.bytes)
    ] in
    let goes : (text : Bytes) → Holds it.hasher text → Delivers was now (sha1 text) c.match-send.result = λ text is.
    subst (λ t. Delivers was now t c.match-send.result) (c.finalize.ensures text (subst (λ h. Holds h text) (sym c.replace-hasher.ensures.value) is)) sent in
    subst (λ v. WritesDigest v new c.match-send.result) c.self.view_is (refl, goes)
