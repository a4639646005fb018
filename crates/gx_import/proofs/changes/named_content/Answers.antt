use Rattle.std.proofs.Common.{◌≡◌, map, Some, None, refl, ◌∙◌}
use Rattle.gx_model.specs.Objects.{unhex}
use Rattle.gx_model.specs.Texts.Digits.{lower}
use Rattle.gx_model.proofs.Revisions.Bases.{name_written, whole_digits}
use Rattle.gx_import.proofs.HeldBlobs.{content_found, lower_text}
use Rattle.gx_import.proofs.changes.named_content.Goals as goal

pub unreachable-requires : goal.unreachable-requires
unreachable-requires g c =
    let x = c.args.digits.now.digits in
    let w = whole_digits x c.args.digits.now.proper in
    let k : None ≡ Some (unhex (map lower x)) = c.in_default.ensures ∙ name_written x w.1 w.0 in
    cc k

pub returns-in-Gitlink : goal.returns-in-Gitlink
returns-in-Gitlink g c = λ s h.
    let x = c.args.digits.now.digits in
    let w = whole_digits x c.args.digits.now.proper in
    let k : Some c.in-Some.name.bytes ≡ Some (unhex (map lower x)) = c.in-Some.ensures ∙ name_written x w.1 w.0 in
    let e : c.in-Some.name.bytes ≡ unhex (map lower x) = cc k in
    rw c.in-Gitlink.is ((s, map lower x), refl, record { same = refl; leaf = lower_text x c.args.digits.now.proper; named = e; known = tt })

pub returns-in_default-mode : goal.returns-in_default-mode
returns-in_default-mode g c = λ s h.
    let x = c.args.digits.now.digits in
    let w = whole_digits x c.args.digits.now.proper in
    let k : Some c.in-Some.name.bytes ≡ Some (unhex (map lower x)) = c.in-Some.ensures ∙ name_written x w.1 w.0 in
    let e : c.in-Some.name.bytes ≡ unhex (map lower x) = cc k in
    content_found (g.N.Namer.name_of c.args.repo.now.0) (g.met.N.Namer.is_namer c.args.repo.now.0) c.args.repo.now.1 c.sound.ensures s h c.args.mode c.in_default-mode.not-Gitlink c.requires x c.in-Some.name c.args.digits.now.proper e c.held_blob.result c.held_blob.ensures
