use Rattle.std.proofs.Common.{◌≡◌, Ok, Some, subst}
use Rattle.sha2.specs.Sha256.{sha256}
use Rattle.gx_model.specs.Histories.{Records}
use Rattle.gx_model.specs.Texts.{Bytes}
use Rattle.gx_growing.specs.GrowingReading.{grown_of}
use Rattle.gx_growing.specs.GrowingText.{IsGrowingText}
use Rattle.gx_growing_parts.specs.Endings.{IsEnding}
use Rattle.gx_look.proofs.OldTexts.{ending_told}
use Rattle.gx_look.proofs.look.Look.ending.Goals as goal

pub returns : goal.returns
returns g c =
    let it = c.self.inside in
    subst (λ v. (text : Bytes) (r : Records) → v.1 ≡ Some text → grown_of (g.N.Namer.name_of v.0) sha256 text ≡ Ok r
    → (old : IsGrowingText (g.N.Namer.name_of v.0) sha256 text r) × IsEnding old (record { is_first = it.is_first; ends = it.ends; runs = c.as_slice.result })) c.self.view_is
    (ending_told (g.N.Namer.name_of it.namer) (g.met.N.Namer.is_namer it.namer) (g.S.ReadAt.text it.source) c.self.invariant c.as_slice.result c.as_slice.ensures.value)
