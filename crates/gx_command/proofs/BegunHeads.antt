-- What a line's words begin, by the first of them.
use Rattle.std.proofs.Common.{◌≡◌, Bool, true, false, Result, Ok, Err, refl, sym, ap, ◌∙◌, codes, inl, inr}
use Rattle.gx_model.specs.Texts.{Bytes}
use Rattle.gx_model.specs.Faults.{Given, Gives, IsFaultOf, ◌>>=◌}
use Rattle.gx_model.specs.declared.faults.Fault.TheVariants as model
use Rattle.gx_model.specs.Streams.Items.{Stream}
use Rattle.gx_model.specs.Streams.Commands as commands
use Rattle.gx_model.specs.Streams.Grammar.{command_at, commit_at, if_early, reset_at, tag_at}
use Rattle.gx_model.specs.Streams.Lines.{Read, Words, bare, feature_of, is_word, ref_of, rest_of, tag_of}
use Rattle.gx_command.specs.Ahead.{Fails}
use Rattle.gx_command.specs.CommandFaults.{fault_of}
use Rattle.gx_command.specs.Heads.{Begins, BeginsWhole, MayBeWhole, begun, early_feature, early_rest, is_left_out, name_at, option_of, progress_of, ref_named}
use Rattle.gx_command.specs.Lines.{bare_as}
use Rattle.gx_command.specs.Views.{shown_change, shown_command}
use Rattle.gx_command.specs.declared.commands.Change.{Change}
use Rattle.gx_command.specs.declared.commands.Change.TheVariants as changes
use Rattle.gx_command.specs.declared.commands.Command.{Command}
use Rattle.gx_command.specs.declared.commands.Command.TheVariants as own
use Rattle.gx_command.specs.declared.fault.CommandFault.{CommandFault}
use Rattle.gx_command.specs.declared.fault.CommandFault.TheVariants as faults
use Rattle.gx_command.specs.declared.heads.Head.{Head}
use Rattle.gx_command.specs.declared.heads.Head.TheVariants as heads

-- the first step fails
pub fails_first : {A B : Type 0} (f : CommandFault) (first : Given A) (next : A → Given B) → IsFaultOf (fault_of f) first → Fails f (first >>= next)
fails_first faults.OutOfMemory first next h = inl refl
fails_first f first next h = inr (rw h refl)

-- two steps and a third are one step and two others
regrouped : {A B C : Type 0} (first : Given A) (next : A → Given B) (last : B → Given C) → ((first >>= next) >>= last) ≡ (first >>= λ x. next x >>= last)
regrouped (Ok x) next last = refl
regrouped (Err f) next last = refl

-- an option's rest is refused where it is late
early_first : {A : Type 0} (early : Bool) (rest : Given Bytes) (next : Bytes → Given A) → ((rest >>= λ r. if_early early (Ok r)) >>= next) ≡ (rest >>= λ r. if_early early (next r))
early_first true (Ok r) next = refl
early_first false (Ok r) next = refl
early_first early (Err f) next = refl

-- ---- answers

-- the answer is what begins
pub begins : {A : Type 0} (first : Given (Head A)) (s : Stream) (q : Result (Head A) CommandFault) → Gives fault_of (λ x. x) q first → Begins s q (first >>= λ h. begun h s)
begins first s (Ok h) g = rw g refl
begins first s (Err f) g = fails_first f first (λ h. begun h s) g

-- the answer is all of a command
pub is_whole : {A : Type 0} (first : Given (Command A)) (s : Stream) (q : Result (Command A) CommandFault) → Gives fault_of (λ x. x) q first → BeginsWhole s q (first >>= λ x. Ok (shown_command x, s))
is_whole first s (Ok x) g = rw g refl
is_whole first s (Err f) g = fails_first f first (λ x. Ok (shown_command x, s)) g

-- the command, with what is left
abbrev pub whole : Stream → commands.Command → Read commands.Command
whole s command = Ok (command, s)

-- the answer is all of a command, seen as the model has it
pub is_whole_of : {A : Type 0} (first : Given commands.Command) (s : Stream) (q : Result (Command A) CommandFault) → Gives fault_of shown_command q first → BeginsWhole s q (first >>= whole s)
is_whole_of first s (Ok x) g = rw g refl
is_whole_of first s (Err f) g = fails_first f first (whole s) g

-- a change, with what is left
abbrev made : commands.Change → Stream → Read commands.Change
made change s = Ok (change, s)

-- a line that clears all files has no rest
pub cleared : {A : Type 0} (w : Words) (s : Stream) (x : Change A) → bare_as {Y = Change A} changes.Clear w ≡ Ok x → (bare w >>= λ u. made commands.Clear s) ≡ made (shown_change x) s
cleared {A} w s x h =
    sym (regrouped {B = Change A} (bare w) (λ u. Ok changes.Clear) (λ x. made (shown_change x) s)) ∙ ap (λ (g : Given (Change A)). g >>= λ x. made (shown_change x) s) h

-- ---- the first words

module _ (A : Type 0) (early : Bool) (w : Words) (s : Stream) where
  pub at_blob : is_word w (codes "blob") ≡ true → command_at early w s ≡ (bare_as {Y = Head A} heads.Blob w >>= λ h. begun h s)
  unfolding command_at
  at_blob blob = rw blob (sym (regrouped (bare w) (λ u. Ok heads.Blob) (λ h. begun h s)))

  pub at_commit : is_word w (codes "blob") ≡ false → is_word w (codes "commit") ≡ true → command_at early w s ≡ (ref_named w >>= λ ref. commit_at ref s)
  unfolding command_at
  at_commit blob commit = rw (blob, commit) (sym (regrouped (rest_of w) ref_of (λ ref. commit_at ref s)))

  pub at_tag : is_word w (codes "blob") ≡ false → is_word w (codes "commit") ≡ false → is_word w (codes "tag") ≡ true → command_at early w s ≡ (name_at w >>= λ name. tag_at name s)
  unfolding command_at
  at_tag blob commit tag = rw (blob, commit, tag) (sym (regrouped (rest_of w) tag_of (λ name. tag_at name s)))

  pub at_reset : is_word w (codes "blob") ≡ false → is_word w (codes "commit") ≡ false → is_word w (codes "tag") ≡ false → is_word w (codes "reset") ≡ true → command_at early w s ≡ (ref_named w >>= λ ref. reset_at ref s)
  unfolding command_at
  at_reset blob commit tag reset = rw (blob, commit, tag, reset) (sym (regrouped (rest_of w) ref_of (λ ref. reset_at ref s)))

  module _ (o : MayBeWhole w) where
    pub at_checkpoint : is_word w (codes "checkpoint") ≡ true → command_at early w s ≡ (bare_as {Y = Command A} own.Checkpoint w >>= λ x. Ok (shown_command x, s))
    unfolding command_at
    at_checkpoint checkpoint = rw (o.no_blob, o.no_commit, o.no_tag, o.no_reset, checkpoint) (sym (regrouped (bare w) (λ u. Ok own.Checkpoint) (λ x. Ok (shown_command x, s))))

    pub at_progress : is_word w (codes "checkpoint") ≡ false → is_word w (codes "progress") ≡ true → command_at early w s ≡ (progress_of w >>= whole s)
    unfolding command_at
    at_progress checkpoint progress = rw (o.no_blob, o.no_commit, o.no_tag, o.no_reset, checkpoint, progress) (sym (regrouped (rest_of w) (λ r. Ok (commands.Progress r)) (whole s)))

    pub at_feature : is_word w (codes "checkpoint") ≡ false → is_word w (codes "progress") ≡ false → is_word w (codes "feature") ≡ true → command_at early w s ≡ (early_feature early w >>= λ f. Ok (commands.Asks f, s))
    unfolding command_at
    at_feature checkpoint progress feature = rw (o.no_blob, o.no_commit, o.no_tag, o.no_reset, checkpoint, progress, feature) (sym (regrouped (early_rest early w) feature_of (λ f. Ok (commands.Asks f, s)) ∙ early_first early (rest_of w) (λ r. feature_of r >>= λ f. Ok (commands.Asks f, s))))

    pub at_option : is_word w (codes "checkpoint") ≡ false → is_word w (codes "progress") ≡ false → is_word w (codes "feature") ≡ false → is_word w (codes "option") ≡ true → command_at early w s ≡ (option_of early w >>= whole s)
    unfolding command_at
    at_option checkpoint progress feature option = rw (o.no_blob, o.no_commit, o.no_tag, o.no_reset, checkpoint, progress, feature, option) (sym (regrouped (early_rest early w) (λ r. Ok (commands.OptionLine r)) (whole s) ∙ early_first early (rest_of w) (λ r. whole s (commands.OptionLine r))))

    pub at_done : is_word w (codes "checkpoint") ≡ false → is_word w (codes "progress") ≡ false → is_word w (codes "feature") ≡ false → is_word w (codes "option") ≡ false → is_word w (codes "done") ≡ true → command_at early w s ≡ (bare_as {Y = Command A} own.Done w >>= λ x. Ok (shown_command x, s))
    unfolding command_at
    at_done checkpoint progress feature option done = rw (o.no_blob, o.no_commit, o.no_tag, o.no_reset, checkpoint, progress, feature, option, done) (sym (regrouped (bare w) (λ u. Ok own.Done) (λ x. Ok (shown_command x, s))))

    pub at_left_out : is_word w (codes "checkpoint") ≡ false → is_word w (codes "progress") ≡ false → is_word w (codes "feature") ≡ false → is_word w (codes "option") ≡ false → is_word w (codes "done") ≡ false → is_left_out w ≡ true → command_at early w s ≡ Err model.Unsupported
    unfolding command_at
    at_left_out checkpoint progress feature option done left = rw (o.no_blob, o.no_commit, o.no_tag, o.no_reset, checkpoint, progress, feature, option, done, left) refl

    pub at_unknown : is_word w (codes "checkpoint") ≡ false → is_word w (codes "progress") ≡ false → is_word w (codes "feature") ≡ false → is_word w (codes "option") ≡ false → is_word w (codes "done") ≡ false → is_left_out w ≡ false → command_at early w s ≡ Err model.UnknownCommand
    unfolding command_at
    at_unknown checkpoint progress feature option done known = rw (o.no_blob, o.no_commit, o.no_tag, o.no_reset, checkpoint, progress, feature, option, done, known) refl
