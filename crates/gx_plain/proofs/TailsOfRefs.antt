-- What stands behind the records of a plain text: the number of the refs, the refs, and the last line.
use Rattle.std.proofs.Common.{◌≡◌, ℕ, false, List, [], ◌∷◌, ◌++◌, codes, length, None, Ok, Err, sym, ap, ◌∙◌}
use Rattle.std.specs.Prelude.{T, IsTrue}
use Rattle.std.specs.List.{AllByRecursion}
use Rattle.gx_model.specs.declared.objects.Kind.{Kind}
use Rattle.gx_model.specs.declared.store_faults.FileFault.{FileFault}
use Rattle.gx_model.specs.Faults.{◌>>=◌}
use Rattle.gx_model.specs.Texts.{Bytes}
use Rattle.gx_model.specs.Histories.{Record}
use Rattle.gx_model.specs.Objects.{IsNamer, is_name}
use Rattle.gx_model.specs.Records.Publishing.{Ref}
use Rattle.gx_model.specs.Records.Sound.{IsSound}
use Rattle.gx_model.specs.Stores.StoreReading.{Stored, next_refs, stored_count, stored_end}
use Rattle.gx_model.proofs.Stores.StoredRefs.{refs_of_text, targets_name, targets_of}
use Rattle.gx_model.proofs.Stores.StoreTexts.{both_steps, end_of, end_read}
use Rattle.gx_model.proofs.Texts.PathTests.{is_true}
use Rattle.gx_objects.specs.Answers.{AreRefs}
use Rattle.gx_look.specs.Refs.{PassesRefs}
use Rattle.gx_look.specs.Tails.{refs_text}
use Rattle.gx_repo.specs.Repositories.{held_in}
use Rattle.gx_plain.specs.Reading.{IsRefused}
use Rattle.gx_plain.specs.Refs.{refs_behind}
use Rattle.gx_plain.proofs.Fronts.{refused_unless}

module _ (rs : List Record) (text : Bytes) where
  -- what is read once the refs are counted
  abbrev with_count : ℕ × Bytes → Stored (List Ref)
  with_count refs = next_refs refs.0 rs None refs.1 >>= λ named. stored_end named.1 >>= λ ended. Ok named.0

  pub no_count : (why : FileFault) → stored_count (codes "refs") text ≡ Err why → IsRefused (refs_behind rs text)
  no_count why e = (why, ap (λ s. s >>= with_count) e)

  module _ (count : ℕ) (lines : Bytes) (counted : stored_count (codes "refs") text ≡ Ok (count, lines)) where
    here : refs_behind rs text ≡ with_count (count, lines)
    here = ap (λ s. s >>= with_count) counted

    pub refused_behind : IsRefused (next_refs count rs None lines >>= λ named. stored_end named.1) → IsRefused (refs_behind rs text)
    refused_behind r = (r.0, here ∙ by (next_refs count rs None lines) r.1)
      where
        last : (refs : List Ref) (s : Stored (Unit {0})) → s ≡ Err r.0 → ◌≡◌ {A = Stored (List Ref)} (s >>= λ ended. Ok refs) (Err r.0)
        last refs (Ok u) e = absurd (cc)
        last refs (Err why) e = cc

        by : (s : Stored (List Ref × Bytes)) → (s >>= λ named. stored_end named.1) ≡ Err r.0 → ◌≡◌ {A = Stored (List Ref)} (s >>= λ named. stored_end named.1 >>= λ ended. Ok named.0) (Err r.0)
        by (Ok x) e = last x.0 (stored_end x.1) e
        by (Err why) e = cc

    pub read_behind : (refs : List Ref) → next_refs count rs None lines ≡ Ok (refs, codes "end" ++ 10 ∷ []) → refs_behind rs text ≡ Ok refs
    read_behind refs e = here ∙ ap (λ s. s >>= λ named. stored_end named.1 >>= λ ended. Ok named.0) e ∙ ap (λ s. s >>= λ ended. Ok refs) end_read

    module _ (name : Kind → Bytes → Bytes) (namer : IsNamer name) (sound : IsSound name (held_in rs [])) where
      -- refs that are read are as a repository may have them, and spelled so
      pub record AreSpelled (refs : List Ref) : Type 0 where
        pub spelled : lines ≡ refs_text refs
        pub named : AreRefs refs
        pub many : length refs ≡ count

      pub spelled_refs : (refs : List Ref) → next_refs count rs None lines ≡ Ok (refs, codes "end" ++ 10 ∷ []) → AreSpelled refs
      spelled_refs refs e =
          let a = refs_of_text rs count None lines (refs, codes "end" ++ 10 ∷ []) e in
          record {
            spelled = a.spelled;
            named = record {
              sorted = is_true _ a.sorted;
              names = is_true _ a.named;
              objects = all refs (targets_name name namer rs sound.distinct sound.named refs (targets_of rs sound.linked refs a.targets));
            };
            many = a.count;
          }
        where
          all : (refs : List Ref) → AllByRecursion (λ r. T (is_name r.1)) refs → AllByRecursion (λ r. IsTrue (is_name r.1)) refs
          all [] h = tt
          all (x ∷ xs) h = (is_true _ h.0, all xs h.1)

      pub not_passed : PassesRefs count lines false → IsRefused (refs_behind rs text)
      not_passed h = refused_unless (refs_behind rs text) (λ refs e.
          let n = both_steps (next_refs count rs None lines) (λ named. stored_end named.1 >>= λ ended. Ok named.0) refs (sym here ∙ e) in
          let l = both_steps (stored_end n.0.1) (λ ended. Ok n.0.0) refs n.2 in
          let a = spelled_refs n.0.0 (n.1 ∙ ap (λ z. Ok (n.0.0, z)) (end_of n.0.1 l.0 l.1)) in
          let clash = h n.0.0 a.spelled a.named a.many in
          cc clash)
