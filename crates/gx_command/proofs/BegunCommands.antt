-- Lines that begin a command, with some items behind them.
use Rattle.std.proofs.Common.{◌≡◌, Bool, true, false, Ok, Err, [], ◌∷◌, refl, ap, codes, IsOk}
use Rattle.std.proofs.lemmas.Result.{IfErr-at_err}
use Rattle.std.specs.Result.{IsErrOf}
use Rattle.gx_model.specs.Texts.{Bytes, cut_at}
use Rattle.gx_model.specs.Texts.Idents.{is_ident}
use Rattle.gx_model.specs.Faults.{Given, ◌>>=◌}
use Rattle.gx_model.specs.Streams.Items.{Data, Finished, Line, Stream}
use Rattle.gx_model.specs.Streams.Grammar.{changes_within, commit_at, item_after_in, links_at, merges_within, reset_at, tag_at, unsigned_in}
use Rattle.gx_model.specs.Streams.Lines.{Words, block_in, commit_ish_of, is_word, mark_of, rest_line_in}
use Rattle.gx_command.specs.Heads.{BeginsCommand, MayBeWhole, name_at, option_of, progress_of, ref_named}
use Rattle.gx_command.proofs.BegunHeads.{at_commit, at_option, at_progress, at_reset, at_tag, whole}

-- the first step gives something, of which the second does
ok_next : {A B : Type 0} (first : Given A) (next : A → Given B) → IsOk first → ((x : A) → IsOk (next x)) → IsOk (first >>= next)
ok_next (Ok x) next one two = two x
ok_next (Err f) next one two = absurd (cc one)

-- a fault is the same of whatever was asked for
pub same_fault : (X : Type 0) {Y E : Type 0} (f g : E) → IsErrOf {T = Y} (Err f) g → IsErrOf {T = X} (Err f) g
same_fault X f g h = ap (λ e. Err e) (IfErr-at_err (λ e. f ≡ e) h refl)

-- a committer and an empty message
abbrev behind_commit : Stream
behind_commit = record { items = Line (codes "committer A <a> 0 +0000") ∷ Data [] ∷ []; end = Finished }

-- a target and an empty message
abbrev behind_tag : Stream
behind_tag = record { items = Line (codes "from a") ∷ Data [] ∷ []; end = Finished }

abbrev nothing : Stream
nothing = record { items = []; end = Finished }

a_commit : (ref : Bytes) → IsOk (commit_at ref behind_commit)
unfolding cut_at is_ident commit_at links_at rest_line_in mark_of unsigned_in block_in merges_within changes_within item_after_in
a_commit ref = refl

a_tag : (name : Bytes) → IsOk (tag_at name behind_tag)
unfolding cut_at tag_at rest_line_in mark_of block_in commit_ish_of
a_tag name = refl

a_reset : (ref : Bytes) → IsOk (reset_at ref nothing)
unfolding reset_at rest_line_in item_after_in
a_reset ref = refl

module _ (A : Type 0) (early : Bool) (w : Words) where
  pub commit_begins : is_word w (codes "blob") ≡ false → is_word w (codes "commit") ≡ true → IsOk (ref_named w) → BeginsCommand early w
  commit_begins blob commit named =
      (behind_commit, rw (at_commit A early w behind_commit blob commit) (ok_next (ref_named w) (λ ref. commit_at ref behind_commit) named a_commit))

  pub tag_begins : is_word w (codes "blob") ≡ false → is_word w (codes "commit") ≡ false → is_word w (codes "tag") ≡ true → IsOk (name_at w) → BeginsCommand early w
  tag_begins blob commit tag named =
      (behind_tag, rw (at_tag A early w behind_tag blob commit tag) (ok_next (name_at w) (λ name. tag_at name behind_tag) named a_tag))

  pub reset_begins : is_word w (codes "blob") ≡ false → is_word w (codes "commit") ≡ false → is_word w (codes "tag") ≡ false → is_word w (codes "reset") ≡ true → IsOk (ref_named w) → BeginsCommand early w
  reset_begins blob commit tag reset named =
      (nothing, rw (at_reset A early w nothing blob commit tag reset) (ok_next (ref_named w) (λ ref. reset_at ref nothing) named a_reset))

  module _ (o : MayBeWhole w) (checkpoint : is_word w (codes "checkpoint") ≡ false) where
    pub progress_begins : is_word w (codes "progress") ≡ true → IsOk (progress_of w) → BeginsCommand early w
    progress_begins progress text = (nothing, rw (at_progress A early w nothing o checkpoint progress) (ok_next (progress_of w) (whole nothing) text (λ c. refl)))

    pub option_begins : is_word w (codes "progress") ≡ false → is_word w (codes "feature") ≡ false → is_word w (codes "option") ≡ true → IsOk (option_of early w) → BeginsCommand early w
    option_begins progress feature option text =
        (nothing, rw (at_option A early w nothing o checkpoint progress feature option) (ok_next (option_of early w) (whole nothing) text (λ c. refl)))
