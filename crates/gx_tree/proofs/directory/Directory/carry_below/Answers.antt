use Rattle.std.proofs.Common.{◌≡◌, [], drop, length, sym, ap, ◌∙◌, arith, subst}
use Rattle.std.proofs.lemmas.Bool.{and_parts}
use Rattle.std.proofs.lemmas.Result.{on_ok_weaker}
use Rattle.gx_tree.specs.Nodes.{IsKept, folder, kept_map}
use Rattle.gx_tree.specs.Steps.{grafted}
use Rattle.gx_tree.specs.Views.{shown_item}
use Rattle.gx_tree.proofs.Aligned.{kept_further, put_further}
use Rattle.gx_tree.proofs.CopyLaws.{grafted_at_root}
use Rattle.gx_tree.proofs.directory.Directory.carry_below.Goals as goal

pub returns-then-len-eq0-clause-files : goal.returns-then-len-eq0-clause-files
returns-then-len-eq0-clause-files g c =
    let s = c.args.from.now in
    let d = c.args.to.now in
    let k = shown_item c.args.item.now in
    let f = c.args.self.now.files in
    let hd = (and_parts _ _ c.len.ensures.path).0 in
    let at : c.in_ok-below.below.files ≡ grafted (drop (length s) d) (kept_map k) [] = c.in_ok-below.ensures.files ∙ ap (λ n. grafted (drop n d) (kept_map k) []) c.len-2.ensures.length in
    at
    ∙ sym (grafted_at_root s f (grafted (drop (length s) d) (kept_map k) []) (omega (arith, c.if-len-eq0.true, c.len-3.ensures.length)) (kept_further s d k c.requires.aligned c.requires.below hd c.requires.kept))
    ∙ put_further s d k f c.requires.aligned c.requires.below hd c.requires.kept c.order.ensures

pub returns-then-len-eq0-clause-home : goal.returns-then-len-eq0-clause-home
returns-then-len-eq0-clause-home g c = λ name rs h. c.in_ok-below.ensures.home name rs h.0

pub graft-requires-clause-kept : goal.graft-requires-clause-kept
graft-requires-clause-kept g c =
    let s = c.args.from.now in
    let d = c.args.to.now in
    let k = shown_item c.args.item.now in
    let at : c.in_ok-below.below.files ≡ grafted (drop (length s) d) (kept_map k) [] = c.in_ok-below.ensures.files ∙ ap (λ n. grafted (drop n d) (kept_map k) []) c.len-2.ensures.length in
    subst (λ z. IsKept (folder z)) (sym at) (kept_further s d k c.requires.aligned c.requires.below (and_parts _ _ c.len.ensures.path).0 c.requires.kept)

pub returns-clause-files : goal.returns-clause-files
returns-clause-files g c =
    let s = c.args.from.now in
    let d = c.args.to.now in
    let k = shown_item c.args.item.now in
    let f = c.args.self.now.files in
    let at : c.in_ok-below.below.files ≡ grafted (drop (length s) d) (kept_map k) [] = c.in_ok-below.ensures.files ∙ ap (λ n. grafted (drop n d) (kept_map k) []) c.len-2.ensures.length in
    on_ok_weaker c.graft.result (λ e. e ∙ ap (λ z. grafted s z f) at ∙ put_further s d k f c.requires.aligned c.requires.below (and_parts _ _ c.len.ensures.path).0 c.requires.kept c.order.ensures) c.graft.ensures.files

pub returns-clause-home : goal.returns-clause-home
returns-clause-home g c = on_ok_weaker c.graft.result (λ keeps name rs h. keeps name rs (c.in_ok-below.ensures.home name rs h.0, h.1)) c.graft.ensures.home
