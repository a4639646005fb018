use Rattle.std.proofs.Common.{◌≡◌, ◌∙◌, ap, sym, arith}
use Rattle.gx_model.specs.declared.objects.Kind.TheVariants as kind
use Rattle.gx_model.specs.Export.{number_in}
use Rattle.gx_model.specs.Records.{name_of}
use Rattle.gx_model.proofs.Records.HeldValues.{commit_stands, held_is, kind_held}
use Rattle.gx_rev.specs.Objects.{commit_at}
use Rattle.gx_export.proofs.CommitNames.{named_digits, named_marked}
use Rattle.gx_export.proofs.naming.commit_ish.Goals as goal

pub mark_of-mark-requires-clause-held : goal.mark_of-mark-requires-clause-held
mark_of-mark-requires-clause-held g c = (kind_held (g.N.Namer.name_of c.args.repo.now.0) (g.met.N.Namer.is_namer c.args.repo.now.0) c.args.repo.now.1 c.sound.ensures kind.Commit c.args.commit.now.bytes c.requires.held).0

pub returns-then-mark-gt0 : goal.returns-then-mark-gt0
returns-then-mark-gt0 g c = λ ws numbers.
    let name = g.N.Namer.name_of c.args.repo.now.0 in
    let namer = g.met.N.Namer.is_namer c.args.repo.now.0 in
    let r = c.args.repo.now.1 in
    let mark = c.mark_of-mark.ensures ws numbers ∙ ap (number_in ws) (commit_stands name namer r c.sound.ensures c.args.commit.now.bytes c.requires.held).0 in
    named_marked name ws (commit_at r c.args.commit.now) c.mark_of-mark.result mark c.if-mark-gt0.true

pub returns : goal.returns
returns g c = λ ws numbers.
    let name = g.N.Namer.name_of c.args.repo.now.0 in
    let namer = g.met.N.Namer.is_namer c.args.repo.now.0 in
    let r = c.args.repo.now.1 in
    let n = c.args.commit.now.bytes in
    let value = (commit_stands name namer r c.sound.ensures n c.requires.held).0 in
    let mark = c.mark_of-mark.ensures ws numbers ∙ ap (number_in ws) value in
    let none : c.mark_of-mark.result ≡ 0 = omega (arith, c.if-mark-gt0.false) in
    let digits = sym (held_is name namer r c.sound.ensures n (kind_held name namer r c.sound.ensures kind.Commit n c.requires.held).0).named ∙ ap (name_of name) value in
    named_digits name ws (commit_at r c.args.commit.now) c.mark_of-mark.result mark n none digits
