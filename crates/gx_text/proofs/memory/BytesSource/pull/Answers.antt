use Rattle.std.proofs.Common.{◌≡◌, ℕ, ◌<◌, min, [], length, Bool, true, false, Result, Ok, Err, Some, refl, subst, arith}
use Rattle.std.proofs.lemmas.List.{nil_from_length}
use Rattle.gx_model.specs.Texts.{Bytes}
use Rattle.gx_text.specs.Devices.{Supply, PullsFrom}
use Rattle.gx_text.specs.declared.device.Failed.{Failed}
use Rattle.gx_text.proofs.memory.BytesSource.pull.Goals as goal
use Rattle.gx_text.proofs.memory.BytesSource.pull.Goals.{then-self, else-self}

none_left : (bytes : Bytes) (piece room least count : ℕ) → 0 < piece → 0 < room → least ≡ min (length bytes) piece → count ≡ min least room → count ≡ 0 → bytes ≡ []
none_left bytes piece room least count p r l c z = nil_from_length bytes (omega (arith, p, r, l, c, z))

fails_then : (bytes : Bytes) (fails : Bool) (buffer : Bytes) (f : Failed) (r : Result ℕ Failed) → bytes ≡ [] → fails ≡ true → r ≡ Err f → PullsFrom (record { bytes = bytes; fails = fails }) (Some (record { bytes = bytes; fails = fails })) buffer r
fails_then bytes fails buffer f r e t s = rw s (e, t, refl)

ends_then : (bytes : Bytes) (fails : Bool) (buffer : Bytes) (r : Result ℕ Failed) → bytes ≡ [] → fails ≡ false → r ≡ Ok 0 → PullsFrom (record { bytes = bytes; fails = fails }) (Some (record { bytes = bytes; fails = fails })) buffer r
ends_then bytes fails buffer r e f s = rw (s, e, f) (omega arith, refl, refl, λ _. (refl, refl))

pub returns-then-count-eq0-clause-bytes : goal.returns-then-count-eq0-clause-bytes
returns-then-count-eq0-clause-bytes c =
    let none = none_left c.self.inside.rest.now c.self.inside.piece (length c.args.buffer.now) c.min.result c.min-count.result c.self.invariant c.requires.nonempty c.min.ensures c.min-count.ensures c.if-count-eq0.true in
    subst (λ (s : Supply). PullsFrom s.coming (Some s.coming) c.args.buffer.now c.if-self.result) c.self.view_is
    (elim c.if-self.branch [ then-self w ↦ fails_then c.self.inside.rest.now c.self.inside.fails c.args.buffer.now _ _ none w.if-self.true w.result-is | else-self w ↦ ends_then c.self.inside.rest.now c.self.inside.fails c.args.buffer.now _ none w.if-self.false w.result-is ])
