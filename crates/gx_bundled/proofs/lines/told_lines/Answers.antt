use Rattle.std.proofs.Common.{ap, map, ◌∙◌}
use Rattle.std.specs.List.{filter, flat_map}
use Rattle.gx_model.specs.Records.Publishing.{Ref}
use Rattle.gx_model.specs.Stores.StoreText.{stored_ref}
use Rattle.gx_model.specs.Texts.{Bytes}
use Rattle.std.specs.Prelude.{List}
use Rattle.gx_ref_lines.specs.Refs.{shown_refs}
use Rattle.gx_bundled.specs.Named.{is_told}
use Rattle.gx_bundled.proofs.lines.told_lines.Goals as goal

pub returns-clause-lines : goal.returns-clause-lines
returns-clause-lines g c =
    let refs = shown_refs c.args.held.now.refs.items in
    let lines = λ (names : List Bytes) (refs : List Ref). flat_map stored_ref (filter (λ ref. is_told c.args.all c.args.with_head names ref.0) refs) in
    c.in_ok-lines_of.ensures ∙ ap (λ rs. lines (map (λ name. name.items) c.as_slice-2.result.now) (shown_refs rs)) c.as_slice.ensures.value
    ∙ ap (λ vs. lines (map (λ name. name.items) vs) refs) c.as_slice-2.ensures.value ∙ ap (λ names. lines names refs) c.in_ok-names.ensures
