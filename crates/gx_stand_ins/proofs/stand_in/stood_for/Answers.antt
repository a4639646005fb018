use Rattle.std.proofs.Common.{None, Some, sym, ◌∙◌}
use Rattle.std.proofs.lemmas.Bool.Decides.{Decides-eqb}
use Rattle.std.proofs.lemmas.Slice.Eq.{strip_prefix_is}
use Rattle.gx_stand_ins.proofs.ReadNames.{header, other_header, read_header, short_body}
use Rattle.gx_stand_ins.proofs.stand_in.stood_for.Goals as goal

pub returns-in_err-get-in-Commit : goal.returns-in_err-get-in-Commit
returns-in_err-get-in-Commit c = rw c.from_residual.ensures (sym (short_body c.args.nonce.now c.args.body.now c.args.kind c.in-Commit.is c.in_err-get-in-Commit.ensures.lookup.0))

pub returns-in_err-strip_prefix-in-Commit : goal.returns-in_err-strip_prefix-in-Commit
returns-in_err-strip_prefix-in-Commit c =
    let part = c.in_ok-get-in-Commit.field-0.now in
    let other = strip_prefix_is Decides-eqb part header None c.in_err-strip_prefix-in-Commit.ensures.cases in
    rw c.from_residual-in_err-strip_prefix-in-Commit.ensures (sym (other_header c.args.nonce.now c.args.body.now part c.args.kind c.in-Commit.is c.in_ok-get-in-Commit.ensures.lookup.0.2 other))

pub returns-in_ok-strip_prefix-in-Commit : goal.returns-in_ok-strip_prefix-in-Commit
returns-in_ok-strip_prefix-in-Commit c =
    let part = c.in_ok-get-in-Commit.field-0.now in
    let rest = c.in_ok-strip_prefix-in-Commit.field-0 in
    let begins = strip_prefix_is Decides-eqb part header (Some rest) c.in_ok-strip_prefix-in-Commit.ensures.cases in
    c.name_behind-in-Commit.ensures ∙ sym (read_header c.args.nonce.now c.args.body.now part rest.now c.args.kind c.in-Commit.is c.in_ok-get-in-Commit.ensures.lookup.0.2 begins)
