use Rattle.gx_cli.proofs.Pieces.{in_parts}
use Rattle.gx_cli.proofs.where_place.write_place.Goals as goal

pub returns : goal.returns
returns g c =
    rw (
      c.in_ok-push-3.ensures.items,
      c.in_ok-extend_from_slice-3.ensures.items,
      c.in_ok-push-2.ensures.items,
      c.in_ok-extend_from_slice-2.ensures.items,
      c.in_ok-push.ensures.items,
      c.in_ok-extend_from_slice.ensures.items,
      c.requires.empty,
      c.as_bytes.ensures.value,
      c.format.ensures.text,
      c.as_bytes-2.ensures.value,
      c.format-2.ensures.text,
    ) (in_parts _ _ _)
