-- Who wrote a commit, and what, read as one part of the commit.
use Rattle.std.proofs.Common.{◌≡◌, ℕ, Option, Some, None, Result, Ok, Err, refl, sym, ◌∙◌, inl, inr, codes}
use Rattle.gx_model.specs.Texts.{Bytes}
use Rattle.gx_model.specs.Texts.Headers.{encoding_header}
use Rattle.gx_model.specs.Faults.{◌>>=◌}
use Rattle.gx_model.specs.Streams.Items.{Stream}
use Rattle.gx_model.specs.Streams.Commands.{Command, Commit}
use Rattle.gx_model.specs.Streams.Grammar.{unsigned, links_at}
use Rattle.gx_model.specs.Streams.Lines.{Read, optional, needed, block, ident_of, encoding_of}
use Rattle.gx_command.specs.Ahead.{Reads}
use Rattle.gx_command.specs.Bodies.{written_at}
use Rattle.gx_command.specs.declared.fault.CommandFault.{CommandFault}

-- three steps are a first one and the others, or the last one after the others
regrouped : {A B C : Type 0} (r : Read A) (next : A × Stream → Read B) (last : B × Stream → Read C) (others : A × Stream → Read C) → ((x : A × Stream) → (next x >>= last) ≡ others x) → ((r >>= next) >>= last) ≡ (r >>= others)
regrouped (Ok x) next last others same = same x
regrouped (Err f) next last others same = refl

pub written_first : {C : Type 0} (last : (Option Bytes × (Bytes × (Option Bytes × Bytes))) × Stream → Read C) (s : Stream) → (written_at s >>= last) ≡ (optional (codes "author") ident_of s >>= λ author. needed (codes "committer") ident_of author.1 >>= λ committer. unsigned committer.1 >>= λ plain. optional (codes "encoding") encoding_of plain.1 >>= λ encoding. block encoding.1 >>= λ message. last ((author.0, (committer.0, (encoding.0, message.0))), message.1))
unfolding written_at
written_first last s =
    regrouped (optional (codes "author") ident_of s) _ last _ (λ author.
    regrouped (needed (codes "committer") ident_of author.1) _ last _ (λ committer.
    regrouped (unsigned committer.1) _ last _ (λ plain.
    regrouped (optional (codes "encoding") encoding_of plain.1) _ last _ (λ encoding.
    regrouped (block encoding.1) _ last _ (λ message. refl)))))

-- a commit behind what was written of it
abbrev pub commit_behind : Bytes → Option ℕ → (Option Bytes × (Bytes × (Option Bytes × Bytes))) × Stream → Read Command
commit_behind ref mark w = links_at w.1 >>= λ links. Ok (Commit (record { ref = ref; mark = mark; author = w.0.0; committer = w.0.1.0; headers = encoding_header w.0.1.1.0; message = w.0.1.1.1; parent = links.0.0; merges = links.0.1.0; changes = links.0.1.1 }), links.1)

-- the same reading in other words
pub reads_alike : {Y U : Type 0} (shown : U → Y) (one other : Stream → Read Y) (old new : Option Stream) (r : Result U CommandFault) → ((s : Stream) → one s ≡ other s) → Reads shown one old new r → Reads shown other old new r
reads_alike shown one other None new r same h = tt
reads_alike shown one other (Some s) new (Ok x) same (t, is, e) = (t, is, sym (same s) ∙ e)
reads_alike shown one other (Some s) new (Err f) same (inl out) = inl out
reads_alike shown one other (Some s) new (Err f) same (inr e) = inr (sym (same s) ∙ e)
