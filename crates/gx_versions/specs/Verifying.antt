-- How it is told what a store holds. Source: this project's own.
use Rattle.std.specs.Prelude.{◌≡◌, length, Option, Result, Ok, Err}
use Rattle.gx_model.specs.declared.objects.Kind.{Kind}
use Rattle.gx_model.specs.Histories.{Records}
use Rattle.gx_model.specs.Texts.{Bytes}
use Rattle.gx_model.specs.Texts.Sinks.{FailedWithin, Taken, Took}
use Rattle.gx_growing_file.specs.Grown.{IsGrownFault}
use Rattle.gx_versions.specs.declared.verifying.VerifyFault.{VerifyFault}
use Rattle.gx_versions.specs.declared.verifying.VerifyFault.TheVariants.{Store, WriteFailed}
use Rattle.gx_versions.specs.Versions.{counts_text, opened_of, version_of}

-- what is told of the repository of a text
abbrev pub told_of : Bytes → Records → Bytes
told_of text repository = counts_text (version_of text) (length text) repository

-- it is told what the repository of a text holds, or why it has none, and then nothing went out
abbrev pub Verifies : (Kind → Bytes → Bytes) → Bytes → Option Taken → Option Taken → Result (Unit {0}) VerifyFault → Type 0
Verifies name text was now (Ok done) = (repository : Records) × (opened_of name text ≡ Ok repository) × Took was now (told_of text repository)
Verifies name text was now (Err WriteFailed) =
    (repository : Records) × (opened_of name text ≡ Ok repository) × FailedWithin was now (told_of text repository)
Verifies name text was now (Err (Store fault)) = IsGrownFault fault (opened_of name text) × (now ≡ was)
