use Rattle.gx_text.specs.Lent.{lent_texts}
use Rattle.gx_hunks.proofs.Told.{grown}
use Rattle.gx_hunks.proofs.texts.put_changes.Goals as goal

pub returns : goal.returns
returns g c =
    let found = c.in_ok-found.ensures in
    grown c.put_hunks.result c.args.text.now.items c.put_hunks.new.text.items (lent_texts c.args.old.now) (lent_texts c.args.new.now) c.in_ok-found.found.items c.as_slice.result.now
    c.as_slice.ensures.value c.put_hunks.ensures found.equal found.apart found.real found.none
