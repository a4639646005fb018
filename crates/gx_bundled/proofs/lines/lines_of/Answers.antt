use Rattle.std.proofs.Common.{map, sym, ◌∙◌, arith}
use Rattle.gx_model.specs.Records.Publishing.{Ref}
use Rattle.gx_bundled.specs.Named.{is_told}
use Rattle.gx_bundled.proofs.ToldRefs.{line_more, line_same, lines_all}
use Rattle.gx_bundled.proofs.lines.lines_of.Goals as goal
use Rattle.gx_bundled.proofs.lines.lines_of.Goals.{then-is_told+in_ok-put_ref, else-is_told}

pub loop-name-preserved : goal.loop-name-preserved
loop-name-preserved g c =
    let test = λ (ref : Ref). is_told c.args.all c.args.with_head (map (λ name. name.items) c.args.names.now) ref.0 in
    let refs = c.args.refs.now in
    let l = c.loop-name in
    elim c.if-is_told.branch [
      | then-is_told+in_ok-put_ref w ↦ rw w.lines-is (line_more test refs l.lines.items l.name-index _ c.loop-name-test.true l.invariant (sym c.is_told.ensures ∙ w.if-is_told.true) _ w.in_ok-put_ref.ensures)
      | else-is_told w ↦ rw w.lines-is (line_same test refs l.lines.items l.name-index _ c.loop-name-test.true l.invariant (sym c.is_told.ensures ∙ w.if-is_told.false))
    ]

pub returns : goal.returns
returns g c =
    let test = λ (ref : Ref). is_told c.args.all c.args.with_head (map (λ name. name.items) c.args.names.now) ref.0 in
    lines_all test c.args.refs.now c.loop-name.lines.items c.loop-name.name-index (omega (arith, c.loop-name-test.false)) c.loop-name.invariant
