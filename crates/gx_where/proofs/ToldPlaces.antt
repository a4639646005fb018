-- What is told of the commands of a text in memory.
use Rattle.std.proofs.Common.{◌≡◌, ℕ, ◌-◌, ◌<◌, ◌≤◌, ◌^◌, false, [], length, drop, Option, Some, Result, Ok, Err, sym, ap, subst, ◌∙◌}
use Rattle.std.specs.Option.{option_map}
use Rattle.gx_model.specs.Texts.{Bytes}
use Rattle.gx_model.specs.Streams.Items.{Stream, items_of}
use Rattle.gx_text.specs.Devices.{Coming}
use Rattle.gx_stream.specs.Heard.{items_from}
use Rattle.gx_command.specs.Behind.{TellsBehind, last_of, left_behind}
use Rattle.gx_command.specs.declared.behind.BehindFault.{BehindFault}
use Rattle.gx_command.specs.declared.behind.BehindFault.TheVariants as behind
use Rattle.gx_where.specs.Faults.{IsWhy, of_behind}
use Rattle.gx_where.specs.Rests.{without_first}
use Rattle.gx_where.proofs.NextItems.{items_from_text}

module _ (text : Bytes) (short : length text ≤ 2 ^ 63 - 1) (coming : Coming) (whole : coming ≡ record { bytes = text; fails = false }) where
  pub told : (n : ℕ) (answer : Result (Option ℕ) BehindFault) → TellsBehind n (option_map items_from (Some coming)) answer → TellsBehind n (Some (items_of text false)) answer
  told n answer h = subst (λ s. TellsBehind n (Some s) answer) (ap items_from whole ∙ items_from_text text short) h

  pub is_why : (command : ℕ) (fault : BehindFault) → 0 < command → TellsBehind (command - 1) (option_map items_from (Some coming)) (Err fault) → IsWhy command text (of_behind fault)
  is_why command behind.OutOfMemory some h = (some, short)
  is_why command (behind.Command number kind) some h = told (command - 1) (Err (behind.Command number kind)) h

-- what is left of the text has the items that are left
pub begins : (text rest : Bytes) (n byte count left : ℕ) → TellsBehind n (Some (items_of text false)) (Ok (Some left)) → count ≡ length (items_of text false).items → items_of rest false ≡ without_first (count - left) (items_of text false) → drop byte text ≡ rest → left_behind n [] (items_of text false) ≡ Ok (Some (items_of (drop byte text) false))
begins text rest n byte count left h all items at =
    let last : last_of (items_of text false) left ≡ items_of (drop byte text) false =
    ap (λ k. without_first (k - left) (items_of text false)) (sym all) ∙ sym items ∙ ap (λ t. items_of t false) (sym at) in
    h.1 ∙ ap (λ (s : Stream). Ok (Some s)) last
