use Rattle.std.proofs.Common.{◌≡◌, ◌∙◌, ap, length, replicate, false}
use Rattle.gx_model.proofs.Records.Standing.{as_many}
use Rattle.gx_rev.proofs.Tips.{no_tips}
use Rattle.gx_rev.proofs.reached.unmarked.Goals as goal

pub returns : goal.returns
returns g c =
    let n = as_many (g.N.Namer.name_of c.args.repo.now.0) (g.met.N.Namer.is_namer c.args.repo.now.0) c.args.repo.now.1 c.store.ensures.sound in
    let m : c.len-count.result ≡ length c.args.repo.now.1.records = c.len-count.ensures.count ∙ ap (λ s. length s.1) c.store.ensures.held in
    no_tips c.args.repo.now.1 _ (c.in_ok-marks.ensures.items_if_clones_equal (λ y e. e) ∙ ap (λ k. replicate k false) (m ∙ n))
