use Rattle.std.proofs.Common.{refl, subst}
use Rattle.gx_stream.specs.Input.{FindsNext, is_full, text_of}
use Rattle.gx_stream.specs.declared.places.Found.TheVariants.{Data}
use Rattle.gx_stream.proofs.Given.{block_given}
use Rattle.gx_stream.proofs.Views.{Answers-found, no_block}
use Rattle.gx_stream.proofs.input.Input.take_block.Goals as goal

pub returns-in_default-found : goal.returns-in_default-found
returns-in_default-found g c =
    let i = c.find_next.new.self in
    let found = c.in-Ok.ensures.found in
    record {
      sound = c.in-Ok.ensures.sound;
      gives = (c.in-Ok.ensures.keeps, no_block (is_full i) i.state i.room (g.R.Source.coming i.source) (text_of i) i.at c.in-Ok.found found.0 found.1 c.in_default-found.not-Data);
    }

pub returns-clause-gives : goal.returns-clause-gives
returns-clause-gives g c =
    let i = c.find_next.new.self in
    let p = c.in-Data.place in
    let found = subst (FindsNext i) c.in-Data.is c.in-Ok.ensures.found in
    let taken = Answers-found (is_full i) _ i.room (g.R.Source.coming i.source) (text_of i) i.state i.state i.at i.at p.next (Data p) c.in-Ok.ensures.keeps found.0 found.1 (refl, refl) in
    block_given _ _ _ _ _ taken c.in-Ok-part_with.ensures.keeps c.in-Ok-part_with.ensures.bytes
