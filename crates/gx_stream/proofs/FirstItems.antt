-- What a text in memory begins with, by its first line.
use Rattle.std.proofs.Common.{◌≡◌, ℕ, ◌≤◌, ◌-◌, arith, true, false, length, slice_range, drop, nat_eq, codes, sym, ap, ◌∙◌}
use Rattle.std.specs.List.{starts_with}
use Rattle.std.proofs.lemmas.List.{take_rest, length-drop}
use Rattle.gx_model.specs.Texts.{Bytes}
use Rattle.gx_model.specs.Streams.Items.{Item, takes, drops, first_line, first_of}
use Rattle.gx_stream.specs.FirstItems.{IsEndOf}
use Rattle.gx_stream.specs.Places.{IsLine, bytes_at}
use Rattle.gx_stream.specs.declared.places.Place.{Place}
use Rattle.gx_stream.proofs.Comments.{line_first}
use Rattle.gx_stream.proofs.Firsts.{first_line-comment}

module _ (text : Bytes) (line : Place) (is : IsLine text false 0 line) where
  pub first_comment : starts_with nat_eq (bytes_at text line) (codes "#") ≡ true → drops (slice_range text line.next (length text)) ≡ first_of text false
  first_comment e = ap drops (take_rest text line.next) ∙ sym (line_first text false 0 line is ∙ first_line-comment (bytes_at text line) (drop line.next text) false e)

  pub first_taken : (item : Item) (next : ℕ) → first_line (bytes_at text line) (drop line.next text) false ≡ takes item (drop next text) → takes item (slice_range text next (length text)) ≡ first_of text false
  first_taken item next e = ap (takes item) (take_rest text next) ∙ sym (line_first text false 0 line is ∙ e)

-- what stands from a place on
pub rest_stands : (text : Bytes) (next : ℕ) → next ≤ length text → IsEndOf text (slice_range text next (length text))
rest_stands text next l =
    let rest = take_rest text next in
    let len : length (slice_range text next (length text)) ≡ length text - next = ap length rest ∙ length-drop next text in
    let at : next ≡ length text - length (slice_range text next (length text)) = omega (arith, l, len) in
    (omega (arith, len), rest ∙ ap (λ k. drop k text) at)
