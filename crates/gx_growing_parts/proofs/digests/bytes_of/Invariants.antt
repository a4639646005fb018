use Rattle.std.proofs.Common.{◌≡◌, ◌*◌, length, take}
use Rattle.gx_model.specs.Objects.{unhex}
use Rattle.gx_growing_parts.proofs.digests.bytes_of.Given as goal

abbrev pub invariant-loop-place : goal.invariant-loop-place
invariant-loop-place l = record {
  long : length l.bytes ≡ 32;
  read : take l.place l.bytes ≡ unhex (take (2 * l.place) l.digits);
}
