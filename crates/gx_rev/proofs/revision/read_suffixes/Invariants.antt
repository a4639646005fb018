use Rattle.std.proofs.Common.{◌≡◌, map, [], ◌++◌, length, Ok}
use Rattle.gx_model.specs.Faults.{◌>>=◌}
use Rattle.gx_model.specs.Revisions.{base_and_suffixes, suffixes_of}
use Rattle.gx_rev.specs.Views.{shown_suffix}
use Rattle.gx_rev.proofs.revision.read_suffixes.Given as goal

abbrev pub invariant-loop-mark : goal.invariant-loop-mark
invariant-loop-mark g l = record {
  front : (base_and_suffixes l.rest).0 ≡ [];
  read : suffixes_of (base_and_suffixes l.text).1 ≡ (suffixes_of (base_and_suffixes l.rest).1 >>= λ ss. Ok (map shown_suffix l.suffixes.items ++ ss));
}

abbrev pub decreases-loop-mark : goal.decreases-loop-mark
decreases-loop-mark g l = length l.rest
