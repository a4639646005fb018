use Rattle.std.proofs.Common.{sym, ◌∙◌, arith}
use Rattle.std.proofs.lemmas.Result.{on_ok_weaker}
use Rattle.gx_tree.specs.Nodes.{kept_map}
use Rattle.gx_tree.specs.Views.{shown_item}
use Rattle.gx_tree.proofs.Aligned.{put_over}
use Rattle.gx_tree.proofs.Renamed.{apart_other, apart_some}
use Rattle.gx_tree.proofs.directory.Directory.carry.Goals as goal

pub returns-then-len-clause-files : goal.returns-then-len-clause-files
returns-then-len-clause-files g c =
    on_ok_weaker c.place.result (λ e. e ∙ put_over c.args.from.now c.args.to.now (kept_map (shown_item c.args.item)) c.args.self.now.files (sym c.are_apart.ensures ∙ c.if-are_apart.false) (omega (arith, c.if-len.true, c.len.ensures.length, c.len-2.ensures.length))) c.place.ensures.files

pub rename-requires : goal.rename-requires
rename-requires g c =
    let apart = sym c.are_apart.ensures ∙ c.if-are_apart.true in
    record { from = apart_some c.args.from.now c.args.to.now apart; to = apart_other c.args.from.now c.args.to.now apart; apart = apart; kept = c.requires.kept }
