use Rattle.std.proofs.Common.{refl, subst}
use Rattle.gx_model.specs.Records.HistoryOf.{history_of}
use Rattle.gx_model.specs.Records.Sound.{IsSound}
use Rattle.gx_cli.specs.Questions.{Replies}
use Rattle.gx_cli.proofs.trips.come_back.Goals as goal

pub returns-in-Ok-clause-back : goal.returns-in-Ok-clause-back
returns-in-Ok-clause-back g c =
    let name = g.N.Namer.name_of in
    let made = c.args.repo.now.1 in
    let histories = c.histories_of_records.ensures (name c.args.namer) (g.met.N.Namer.is_namer c.args.namer) in (
      refl,
      record {
        stands = histories.stands made (subst (λ (n : g.row.N.Denot). IsSound (name n) made) c.requires.namer c.sound.ensures);
        reply = subst (λ (n : g.row.N.Denot). Replies (name n) (history_of made) c.args.options.now.question c.reply_asked-reply.result) c.requires.namer c.reply_asked-reply.ensures;
        text = c.in-Ok.ensures.made.0;
        again = c.in-Ok.ensures.made.1;
        stands_again = histories.stands c.in-Ok.again.1 c.in-Ok.ensures.sound;
      },
    )
