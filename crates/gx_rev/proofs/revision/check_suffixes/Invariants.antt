use Rattle.std.proofs.Common.{◌≡◌, List, map, [], ◌++◌, length, Ok}
use Rattle.gx_model.specs.Faults.{◌>>=◌}
use Rattle.gx_model.specs.Revisions.{base_and_suffixes, suffixes_of}
use Rattle.gx_rev.specs.Views.{shown_suffix}
use Rattle.gx_rev.specs.declared.suffix.Suffix.{Suffix}
use Rattle.gx_rev.proofs.revision.check_suffixes.Given as goal

abbrev pub invariant-loop-mark : goal.invariant-loop-mark
invariant-loop-mark l = record {
  front : (base_and_suffixes l.rest).0 ≡ [];
  read : (before : List Suffix) × (suffixes_of (base_and_suffixes l.text).1 ≡ (suffixes_of (base_and_suffixes l.rest).1 >>= λ ss. Ok (map shown_suffix before ++ ss)));
}

abbrev pub decreases-loop-mark : goal.decreases-loop-mark
decreases-loop-mark l = length l.rest
