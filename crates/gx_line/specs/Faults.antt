-- What a fault prints.
use Rattle.std.specs.Prelude.{List, ℕ, codes}
use Rattle.std.specs.String.{string_bytes}
use Rattle.gx_line.specs.declared.fault.LineFault.{LineFault}
use Rattle.gx_line.specs.declared.fault.LineFault.TheVariants.{OutOfMemory, Status}

-- clap's text, and without memory a line of its own
abbrev pub refusal : LineFault → List ℕ
refusal OutOfMemory = codes "gx: out of memory"
refusal (Status status text) = string_bytes text
