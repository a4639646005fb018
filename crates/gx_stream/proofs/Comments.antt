-- Past comments to the next item.
use Rattle.std.proofs.Common.{◌≡◌, ℕ, ◌+◌, ◌<◌, ◌≤◌, Bool, true, false, Option, ◌++◌, length, drop, nat_eq, codes, refl, sym, ap, subst, ◌∙◌, arith}
use Rattle.std.specs.List.{starts_with}
use Rattle.std.proofs.lemmas.List.{length-drop}
use Rattle.gx_model.specs.Texts.{Bytes}
use Rattle.gx_model.specs.declared.faults.Fault.TheVariants as faults
use Rattle.gx_model.specs.Streams.Items.{Item, Line, Data, Failed, First, takes, drops, ends, line_len, has_no_line, end_of, first_line, first_of, after, items_of}
use Rattle.gx_stream.specs.Faults.{ended, shown_end}
use Rattle.gx_stream.specs.Places.{IsLine, IsWithin, Begins, Skipped, ComesNext, NoneComes, Finds, GoesOn, bytes_at}
use Rattle.gx_stream.specs.declared.fault.StreamFault.{StreamFault}
use Rattle.gx_stream.specs.declared.places.Place.{Place}
use Rattle.gx_stream.specs.declared.places.Found.{Found}
use Rattle.gx_stream.specs.declared.places.Found.TheVariants as found
use Rattle.gx_stream.proofs.Longer.{and_more, IsDecided, first_of-goes_on}
use Rattle.gx_stream.proofs.Firsts.{Shortens, first_of-shortens, first_of-line, first_of-none, first_line-comment, items_of-first}

pub Skipped-none : (text : Bytes) (fails : Bool) (start : ℕ) → start ≤ length text → Skipped text fails start start
Skipped-none text fails start l = record { from = omega arith; within = l; same = λ more then_fails g. refl }

pub line_first : (text : Bytes) (fails : Bool) (at : ℕ) (line : Place) → IsLine text fails at line → first_of (drop at text) fails ≡ first_line (bytes_at text line) (drop line.next text) fails
line_first text fails at line is =
    first_of-line (drop at text) fails is.some ∙ ap (λ l. first_line l (drop (line_len (drop at text) + 1) (drop at text)) fails) (sym is.bytes) ∙ ap (λ rest. first_line (bytes_at text line) rest fails) (sym is.rest)

-- the items from a place on, by what stands there
from_first : (text : Bytes) (fails : Bool) (v : First) (more : Bytes) (then_fails : Bool) → first_of text fails ≡ v → IsDecided v → GoesOn fails more then_fails → items_of (text ++ more) then_fails ≡ after (and_more v more) (λ rest. items_of rest then_fails)
from_first text fails v more then_fails e d g =
    items_of-first (text ++ more) then_fails ∙ ap (λ w. after w (λ rest. items_of rest then_fails)) (first_of-goes_on text more fails then_fails g (subst IsDecided (sym e) d) ∙ ap (λ w. and_more w more) e)

pub Skipped-more : (text : Bytes) (fails : Bool) (start at : ℕ) (line : Place) → IsLine text fails at line → starts_with nat_eq (bytes_at text line) (codes "#") ≡ true → Skipped text fails start at → Skipped text fails start line.next
Skipped-more text fails start at line is e s =
    let first = line_first text fails at line is ∙ first_line-comment (bytes_at text line) (drop line.next text) fails e in
    record {
      from = omega (arith, s.from, is.further);
      within = is.within.2;
      same = λ more then_fails g. s.same more then_fails g ∙ from_first (drop at text) fails (drops (drop line.next text)) more then_fails first tt g;
    }

pub Finds-none : (text : Bytes) (fails : Bool) (at : ℕ) (e : Option StreamFault) → shown_end e ≡ end_of fails → has_no_line (drop at text) fails ≡ true → NoneComes text fails at e
Finds-none text fails at e is h =
    record {
      end = items_of-first (drop at text) fails ∙ ap (λ v. after v (λ rest. items_of rest fails)) (first_of-none (drop at text) fails h) ∙ ap ended (sym is);
      stays = λ bad. absurd (no_number fails (ap shown_end (sym bad) ∙ is));
    }
  where
    no_number : (f : Bool) → Failed faults.BadNumber ≡ end_of f → ⊥
    no_number true e = cc
    no_number false e = cc

comes : (text : Bytes) (fails : Bool) (at : ℕ) (i : Item) (p : Place) → at ≤ length text → IsWithin text p → first_of (drop at text) fails ≡ takes i (drop p.next text) → ComesNext text fails at i p
comes text fails at i p l w e =
    let less : length (drop p.next text) < length (drop at text) = subst (Shortens (length (drop at text))) e (first_of-shortens (drop at text) fails) in
    record {
      within = w;
      further = omega (arith, less, length-drop p.next text, length-drop at text, w.2, l);
      next = λ more then_fails g. from_first (drop at text) fails (takes i (drop p.next text)) more then_fails e tt g;
    }

pub Finds-item : (text : Bytes) (fails : Bool) (at : ℕ) (line : Place) (r : Found) → at ≤ length text → IsLine text fails at line → Begins text (first_line (bytes_at text line) (drop line.next text) fails) r → Finds text fails at r
Finds-item text fails at line (found.Line p) l is b = comes text fails at (Line (bytes_at text p)) p l b.0 (line_first text fails at line is ∙ b.1)
Finds-item text fails at line (found.Data p) l is b = comes text fails at (Data (bytes_at text p)) p l b.0 (line_first text fails at line is ∙ b.1)
Finds-item text fails at line (found.End e) l is b =
    let first = line_first text fails at line is ∙ b in
    record {
      end = items_of-first (drop at text) fails ∙ ap (λ v. after v (λ rest. items_of rest fails)) first;
      stays = λ bad more then_fails g. from_first (drop at text) fails (ends (shown_end e)) more then_fails first (ap shown_end bad) g;
    }
