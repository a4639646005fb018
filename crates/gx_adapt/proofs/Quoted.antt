-- What follows a quoted text is no longer.
use Rattle.std.proofs.Common.{◌≡◌, ◌≤◌, ◌∷◌, Some, ap, subst, arith, length}
use Rattle.std.proofs.lemmas.List.{length-append}
use Rattle.gx_model.specs.Texts.{Bytes}
use Rattle.gx_model.specs.Texts.Paths.{unquote}
use Rattle.gx_model.proofs.Texts.Cuts.{map_some}
use Rattle.gx_model.proofs.Texts.Quotes.{quoted_text_tells}
use Rattle.gx_text.specs.Quoting.{after_quoted}

rest_shorter : (bs text rest : Bytes) → unquote bs ≡ Some (text, rest) → length rest ≤ length bs
rest_shorter bs text rest e =
    let q = (quoted_text_tells bs text rest).0 e in
    omega (arith, ap length q.spelled, length-append q.body (34 ∷ rest))

pub after_shorter : (bs rest : Bytes) → after_quoted bs ≡ Some rest → length rest ≤ length bs
after_shorter bs rest e =
    let h = map_some (λ (p : Bytes × Bytes). p.1) (unquote bs) rest e in
    subst (λ (r : Bytes). length r ≤ length bs) h.2 (rest_shorter bs h.0.0 h.0.1 h.1)
