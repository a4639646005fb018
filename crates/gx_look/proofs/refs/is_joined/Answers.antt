use Rattle.std.proofs.Common.{◌∙◌, Some, None}
use Rattle.std.proofs.lemmas.Bool.Decides.{Decides-eqb}
use Rattle.std.proofs.lemmas.Slice.Eq.{strip_prefix_is}
use Rattle.gx_look.proofs.JoinedTexts.{first_misses, second_misses, third_decides}
use Rattle.gx_look.proofs.refs.is_joined.Goals as goal

pub returns-in-Some-strip_prefix : goal.returns-in-Some-strip_prefix
returns-in-Some-strip_prefix c =
    let one = strip_prefix_is Decides-eqb c.args.text.now c.args.before.now (Some c.in-Some.rest) c.in-Some.ensures.cases in
    let two = strip_prefix_is Decides-eqb c.in-Some.rest.now c.args.word.now (Some c.in-Some-strip_prefix.rest) c.in-Some-strip_prefix.ensures.cases in
    c.eq.ensures ∙ third_decides c.args.text.now c.args.before.now c.args.word.now c.args.after.now c.in-Some.rest.now c.in-Some-strip_prefix.rest.now one two

pub returns-in-None-strip_prefix : goal.returns-in-None-strip_prefix
returns-in-None-strip_prefix c =
    let one = strip_prefix_is Decides-eqb c.args.text.now c.args.before.now (Some c.in-Some.rest) c.in-Some.ensures.cases in
    let two = strip_prefix_is Decides-eqb c.in-Some.rest.now c.args.word.now None c.in-None-strip_prefix.ensures.cases in
    second_misses c.args.text.now c.args.before.now c.args.word.now c.args.after.now c.in-Some.rest.now one two

pub returns-in-None : goal.returns-in-None
returns-in-None c =
    let one = strip_prefix_is Decides-eqb c.args.text.now c.args.before.now None c.in-None.ensures.cases in
    first_misses c.args.text.now c.args.before.now c.args.word.now c.args.after.now one
