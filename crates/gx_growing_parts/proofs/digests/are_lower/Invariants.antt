use Rattle.std.proofs.Common.{◌≡◌, take}
use Rattle.std.specs.List.{list_all}
use Rattle.gx_model.specs.Texts.Digits.{is_lower_digit}
use Rattle.gx_growing_parts.proofs.digests.are_lower.Given as goal

abbrev pub invariant-loop-digit : goal.invariant-loop-digit
invariant-loop-digit l = l.are ≡ list_all is_lower_digit (take l.digit-index l.text)
