use Rattle.gx_model.specs.declared.objects.Mode.TheVariants.{File, Exec, Link, Gitlink, Dir}
use Rattle.std.proofs.Common.{◌≡◌, ◌++◌, ◌∷◌, [], None}
use Rattle.gx_model.specs.Objects.{mode_text}
use Rattle.gx_object.specs.Lines.{stripped}
use Rattle.gx_object.proofs.FirstEntries.{each_mode, mode_none, mode_there}
use Rattle.gx_object.proofs.entry.read_mode.Goals as goal

pub returns-in-Some : goal.returns-in-Some
returns-in-Some c = mode_there File c.args.bytes.now c.in-Some.rest.now c.in-Some.ensures

pub returns-in-Some-strip : goal.returns-in-Some-strip
returns-in-Some-strip c = mode_there Dir c.args.bytes.now c.in-Some-strip.rest.now c.in-Some-strip.ensures

pub returns-in-Some-strip-2 : goal.returns-in-Some-strip-2
returns-in-Some-strip-2 c = mode_there Exec c.args.bytes.now c.in-Some-strip-2.rest.now c.in-Some-strip-2.ensures

pub returns-in-Some-strip-3 : goal.returns-in-Some-strip-3
returns-in-Some-strip-3 c = mode_there Link c.args.bytes.now c.in-Some-strip-3.rest.now c.in-Some-strip-3.ensures

pub returns-in-Some-strip-4 : goal.returns-in-Some-strip-4
returns-in-Some-strip-4 c = mode_there Gitlink c.args.bytes.now c.in-Some-strip-4.rest.now c.in-Some-strip-4.ensures

pub returns : goal.returns
returns c = mode_none c.args.bytes.now (each_mode (λ m. None ≡ stripped (mode_text m ++ 32 ∷ []) c.args.bytes.now) c.in_default.ensures c.in_default-strip-2.ensures c.in_default-strip-3.ensures c.in_default-strip-4.ensures c.in_default-strip.ensures)
