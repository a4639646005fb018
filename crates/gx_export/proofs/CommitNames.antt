-- What names a commit: its mark, or its digits and `^0`.
use Rattle.std.proofs.Common.{◌≡◌, ◌<◌, ◌++◌, ◌∙◌, ℕ, true, false, codes, cond, List, sym, ap, arith, inl, inr, ◌⊎◌}
use Rattle.gx_model.specs.declared.objects.Kind.{Kind}
use Rattle.gx_model.specs.Changes.{commit_revision, named_in}
use Rattle.gx_model.specs.Export.{number_in}
use Rattle.gx_model.specs.Histories.Values.{Commit, Value, commit_value}
use Rattle.gx_model.specs.Histories.{is_in}
use Rattle.gx_model.specs.Objects.{hex}
use Rattle.gx_model.specs.Records.{name_of}
use Rattle.gx_model.specs.Streams.Commands.{CommitIsh, Marked, Named}
use Rattle.gx_model.specs.Texts.{Bytes}
use Rattle.gx_export.proofs.Numbering.{number_tells}

module _ (name : Kind → Bytes → Bytes) (ws : List Value) (c : Commit) (mark : ℕ) (e : mark ≡ number_in ws (commit_value c)) where
  abbrev digits : CommitIsh
  digits = Named (commit_revision name c)

  pub named_marked : 0 < mark → Marked mark ≡ named_in name ws c
  named_marked h = by (number_tells ws (commit_value c))
    where
      by : ((is_in ws (commit_value c) ≡ true) × (0 < number_in ws (commit_value c))) ⊎ ((is_in ws (commit_value c) ≡ false) × (number_in ws (commit_value c) ≡ 0)) → Marked mark ≡ named_in name ws c
      by (inl k) = ap Marked e ∙ sym (ap (λ b. cond b (Marked (number_in ws (commit_value c))) digits) k.0)
      by (inr k) = absurd (let z = k.1 in omega (arith, e, h))

  pub named_digits : (n : Bytes) → mark ≡ 0 → n ≡ name_of name (commit_value c) → Named (hex n ++ codes "^0") ≡ named_in name ws c
  named_digits n z d = by (number_tells ws (commit_value c))
    where
      by : ((is_in ws (commit_value c) ≡ true) × (0 < number_in ws (commit_value c))) ⊎ ((is_in ws (commit_value c) ≡ false) × (number_in ws (commit_value c) ≡ 0)) → Named (hex n ++ codes "^0") ≡ named_in name ws c
      by (inl k) = absurd (let p = k.1 in omega (arith, e, z))
      by (inr k) = ap (λ t. Named (hex t ++ codes "^0")) d ∙ sym (ap (λ b. cond b (Marked (number_in ws (commit_value c))) digits) k.0)
