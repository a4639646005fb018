use Rattle.std.proofs.Common.{◌≡◌, Option, Some, refl, sym, ap, ◌∙◌}
use Rattle.std.specs.Prelude.{codes}
use Rattle.std.specs.Option.{option_copied}
use Rattle.gx_model.specs.Texts.{Bytes}
use Rattle.gx_wide.specs.WideTexts.{tail_of}
use Rattle.gx_object.specs.Lines.{ident_field, name_field}
use Rattle.gx_object.specs.Commits.{commit_parts_of, parents_of}
use Rattle.gx_object.proofs.Parents.{are_parents}
use Rattle.gx_object.proofs.commit.read_commit.Goals as goal

pub invariant_of-result : goal.invariant_of-result
invariant_of-result c = (are_parents _ _ c.split_parents.ensures.lines c.split_parents.ensures.names).0

-- the steps, one after the other
read_so : (body : Bytes) (tree author committer : Bytes × Bytes) (tail : Bytes × Option Bytes) (message : Bytes) → name_field (codes "tree") body ≡ Some tree → ident_field (codes "author") (parents_of tree.1).1 ≡ Some author
    → ident_field (codes "committer") author.1 ≡ Some committer → tail_of committer.1 ≡ Some tail → tail.1 ≡ Some message
    → commit_parts_of body ≡ Some (record {
      tree = tree.0;
      parents = (parents_of tree.1).0;
      text = record { author = author.0; committer = committer.0; headers = tail.0; message = message };
    })
unfolding commit_parts_of
read_so body tree author committer tail message t a c h m = rw (t, a, c, h, m) refl

pub returns : goal.returns
returns c =
    let same = (are_parents _ _ c.split_parents.ensures.lines c.split_parents.ensures.names).1 in
    (λ i. Some (record {
      tree = c.in_ok-tree.tree.bytes;
      parents = (same i).0;
      text = record { author = c.in_ok-author.author.now; committer = c.in_ok-committer.committer.now; headers = c.in_ok-headers.headers.now; message = c.in_ok-message.message.now };
    }))
    ∙ sym (read_so c.args.body.now (c.in_ok-tree.tree.bytes, c.in_ok-tree.rest.now) (c.in_ok-author.author.now, c.in_ok-author.rest.now) (c.in_ok-committer.committer.now, c.in_ok-committer.rest.now)
    (c.in_ok-headers.headers.now, option_copied c.in_ok-headers.last) c.in_ok-message.message.now
    (sym c.in_ok-tree.ensures)
    (ap (ident_field (codes "author")) (sym c.split_parents.ensures.rest) ∙ sym c.in_ok-author.ensures)
    (sym c.in_ok-committer.ensures)
    (sym c.in_ok-headers.ensures)
    (ap option_copied c.in_ok-message.was))
