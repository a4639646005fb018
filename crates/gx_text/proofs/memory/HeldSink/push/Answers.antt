use Rattle.std.proofs.Common.{◌≡◌, ◌++◌, take, Bool, false, Some, refl, ap, subst}
use Rattle.gx_model.specs.Texts.{Bytes}
use Rattle.gx_model.specs.Texts.Sinks.{Taken}
use Rattle.gx_text.specs.Devices.{Holding}
use Rattle.gx_text.proofs.memory.HeldSink.push.Goals as goal

abbrev took : Bytes → Bool → Taken
took bytes failed = record { bytes = bytes; failed = failed }

takes : (old : Taken) (bytes more now : Bytes) (failed : Bool) → took bytes failed ≡ old → now ≡ bytes ++ more → failed ≡ false → (old.failed ≡ false) × (Some (took now failed) ≡ Some (took (old.bytes ++ more) false))
takes old bytes more now failed was grown well =
    subst (λ (t : Taken). (t.failed ≡ false) × (Some (took now failed) ≡ Some (took (t.bytes ++ more) false))) was (well, rw (grown, well) refl)

pub returns-clause-bytes : goal.returns-clause-bytes
returns-clause-bytes g c = takes c.args.self.now.taken c.self.inside.bytes.items (take c.min-count.result c.args.bytes.now) c.extend_from_slice.new.self.items c.self.inside.failed (ap (λ (h : Holding). h.taken) c.self.view_is) c.in-Ok.ensures.items c.if-self.false
