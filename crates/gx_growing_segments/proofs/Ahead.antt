-- Segments that are read one by one.
use Rattle.std.proofs.Common.{◌≡◌, ℕ, zero, suc, ◌<◌, false, cond, refl, ap, ◌∙◌, List, [], length, Ok, arith}
use Rattle.std.specs.Prelude.{nat_eq}
use Rattle.gx_model.specs.declared.objects.Kind.{Kind}
use Rattle.gx_model.specs.declared.store_faults.FileFault.{FileFault}
use Rattle.gx_model.specs.Faults.{◌>>=◌}
use Rattle.gx_model.specs.Histories.{Record}
use Rattle.gx_model.specs.Texts.{Bytes}
use Rattle.gx_lines.specs.Reads.{IsFaultOf}
use Rattle.gx_growing_segments.proofs.Steps.{moved}
use Rattle.gx_growing.specs.GrowingReading.{Front, next_segment, next_segments, no_front}
use Rattle.gx_growing_parts.specs.Placing.{rows_of}
use Rattle.gx_growing_segments.specs.Seen.{seen_so_far}

module _ (name : Kind → Bytes → Bytes) (ends fuel : ℕ) (text : Bytes) where
  -- some segments were read, and what is left of the text has the others
  pub record SegmentsAhead (rs : List Record) (ps : List ℕ) (rest : Bytes) : Type 0 where
    pub left : ℕ
    pub seen : Front
    pub records : seen.records ≡ rs
    pub rows : seen.rows ≡ rows_of rs ps
    pub enough : length rest < left
    pub ahead : next_segments name ends fuel no_front text ≡ next_segments name ends left seen rest

  -- Before the first segment, none was read.
  pub no_segments : length text < fuel → SegmentsAhead [] [] text
  no_segments lt = record { left = fuel; seen = no_front; records = refl; rows = refl; enough = lt; ahead = refl }

  module _ (rs : List Record) (ps : List ℕ) (rest : Bytes) (a : SegmentsAhead rs ps rest) where
    more_left : (n : ℕ) × (a.left ≡ suc n)
    more_left = by a.left refl
      where
        by : (n : ℕ) → a.left ≡ n → (m : ℕ) × (a.left ≡ suc m)
        by zero e = absurd (omega (arith, a.enough, e))
        by (suc m) e = (m, e)

    -- the next segment is read with what was read before
    alike : next_segment name ends a.seen rest ≡ next_segment name ends (seen_so_far rs ps) rest
    alike = λ i. next_segment name ends (record { records = a.records i; rows = a.rows i; tail = []; runs = []; refs = [] }) rest

    here : next_segments name ends fuel no_front text
        ≡ (next_segment name ends (seen_so_far rs ps) rest >>= λ x. cond (nat_eq (length x.1) 0) (Ok x.0) (next_segments name ends more_left.0 x.0 x.1))
    here =
        a.ahead ∙ ap (λ n. next_segments name ends n a.seen rest) more_left.1
        ∙ ap (λ s. s >>= λ x. cond (nat_eq (length x.1) 0) (Ok x.0) (next_segments name ends more_left.0 x.0 x.1)) alike

    -- A segment with nothing behind it is the last.
    pub last_segment : (front : Front) (behind : Bytes) → next_segment name ends (seen_so_far rs ps) rest ≡ Ok (front, behind) → length behind ≡ 0
        → next_segments name ends fuel no_front text ≡ Ok front
    last_segment front behind e none =
        here ∙ ap (λ s. s >>= λ x. cond (nat_eq (length x.1) 0) (Ok x.0) (next_segments name ends more_left.0 x.0 x.1)) e
        ∙ ap (λ n. cond (nat_eq n 0) (Ok front) (next_segments name ends more_left.0 front behind)) none

    -- Behind another one there are more.
    pub one_segment : (front : Front) (behind : Bytes) (more : List Record) (places : List ℕ) → next_segment name ends (seen_so_far rs ps) rest ≡ Ok (front, behind)
        → front.records ≡ more → front.rows ≡ rows_of more places → nat_eq (length behind) 0 ≡ false → length behind < length rest → SegmentsAhead more places behind
    one_segment front behind more places e r w some less = record {
      left = more_left.0;
      seen = front;
      records = r;
      rows = w;
      enough = omega (arith, less, a.enough, more_left.1);
      ahead = here ∙ ap (λ s. s >>= λ x. cond (nat_eq (length x.1) 0) (Ok x.0) (next_segments name ends more_left.0 x.0 x.1)) e
          ∙ ap (λ b. cond b (Ok front) (next_segments name ends more_left.0 front behind)) some;
    }

    -- A segment that is refused refuses all.
    pub segment_refused : (fault : FileFault) → IsFaultOf fault (next_segment name ends (seen_so_far rs ps) rest) → IsFaultOf fault (next_segments name ends fuel no_front text)
    segment_refused fault h =
        moved fault _ _ (λ e. here ∙ ap (λ s. s >>= λ x. cond (nat_eq (length x.1) 0) (Ok x.0) (next_segments name ends more_left.0 x.0 x.1)) e) h
