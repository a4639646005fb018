-- What is answered of the commits that revisions give.
use Rattle.std.proofs.Common.{◌≡◌, ◌∙◌, ℕ, ◌<◌, Bool, false, refl, sym, ap, subst, arith, List, [], ◌∷◌, map, length, get_or, Option, None, Some, Result, Ok}
use Rattle.std.specs.Prelude.{IfSome}
use Rattle.gx_model.specs.declared.objects.Kind.{Kind}
use Rattle.gx_model.specs.Faults.{◌>>=◌}
use Rattle.gx_model.specs.Histories.{Records}
use Rattle.gx_model.specs.Records.HistoryOf.{history_of}
use Rattle.gx_model.specs.Revisions.{Revision}
use Rattle.gx_model.specs.Revisions.Ranges.{WordFault, reaches}
use Rattle.gx_model.specs.Texts.{Bytes}
use Rattle.gx_object.specs.declared.name.Name.{Name}
use Rattle.gx_print.specs.Logs.{AreCommits}
use Rattle.gx_questions.specs.declared.fault.AskFault.{AskFault}
use Rattle.gx_questions.specs.declared.fault.AskFault.TheVariants as ask
use Rattle.gx_ranges.specs.Answers.{RefusesWord}
use Rattle.gx_rev.specs.Objects.{commit_at}
use Rattle.gx_merge_base.specs.Asked.{AreBasesGiven, ancestry_denoted, first_is_ancestor}
use Rattle.gx_merge_base.specs.Bases.{AreBases, bases}
use Rattle.gx_merge_base.specs.Words.{AreGiven}

-- what is refused is, whatever was to be made of it
pub refused_then : {Y Z : Type 0} (told : Option Records) (given : Records → Result Y WordFault) (next : Records → Y → Result Z WordFault) (word : ℕ) (kind : AskFault) → RefusesWord told given word kind
    → RefusesWord told (λ r. given r >>= next r) word kind
refused_then told given next word ask.OutOfMemory h = h
refused_then told given next word ask.ReadFailed h = h
refused_then told given next word ask.Damaged h = h
refused_then None given next word (ask.Revision f) h = tt
refused_then (Some r) given next word (ask.Revision f) h = ap (λ x. x >>= next r) h

module _ (name : Kind → Bytes → Bytes) (revisions : List Revision) (called asked : List Name) (same : asked ≡ called) where
  -- the commits that were given are held
  pub given_held : (told : Option Records) → IfSome told (λ r. AreGiven name revisions r called) → IfSome told (λ r. AreCommits r asked)
  given_held None h = tt
  given_held (Some r) h = subst (AreCommits r) (sym same) h.1

  -- their best common ancestors
  pub given_bases : (told : Option Records) (octopus : Bool) (names : List Name) → IfSome told (λ r. AreGiven name revisions r called) → IfSome told (λ r. AreBases octopus asked r names) → IfSome told (λ r. AreBasesGiven name octopus revisions r names)
  given_bases None octopus names h b = tt
  given_bases (Some r) octopus names h b = (
    ap (λ x. x >>= λ cs. Ok (bases octopus cs (history_of r))) h.0 ∙ ap (λ ns. Ok (bases octopus (map (commit_at r) ns) (history_of r))) (sym same) ∙ ap Ok (sym b.0),
    b.1,
  )

  -- fewer than two
  pub given_few : (told : Option Records) → (length asked < 2) → IfSome told (λ r. AreGiven name revisions r called) → IfSome told (λ r. ancestry_denoted name revisions r ≡ Ok false)
  given_few None l h = tt
  given_few (Some r) l h = ap (λ x. x >>= λ cs. Ok (first_is_ancestor cs)) h.0 ∙ ap (λ ns. Ok (first_is_ancestor (map (commit_at r) ns))) (sym same) ∙ few asked l
    where
      few : (ns : List Name) → length ns < 2 → ◌≡◌ {A = Result Bool WordFault} (Ok (first_is_ancestor (map (commit_at r) ns))) (Ok false)
      few [] k = refl
      few (n ∷ []) k = refl
      few (n ∷ m ∷ ns) k = absurd (omega arith)

  pub first_two : (told : Option Records) (is_one : Bool) (d e : Name) → (1 < length asked) → IfSome told (λ r. AreGiven name revisions r called) → IfSome told (λ r. is_one ≡ reaches (commit_at r (get_or asked 1 e)) (commit_at r (get_or asked 0 d)))
      → IfSome told (λ r. ancestry_denoted name revisions r ≡ Ok is_one)
  first_two None is_one d e l h k = tt
  first_two (Some r) is_one d e l h k = ap (λ x. x >>= λ cs. Ok (first_is_ancestor cs)) h.0 ∙ ap (λ ns. Ok (first_is_ancestor (map (commit_at r) ns))) (sym same) ∙ two asked l k
    where
      two : (ns : List Name) → 1 < length ns → is_one ≡ reaches (commit_at r (get_or ns 1 e)) (commit_at r (get_or ns 0 d)) → ◌≡◌ {A = Result Bool WordFault} (Ok (first_is_ancestor (map (commit_at r) ns))) (Ok is_one)
      two [] m f = absurd (omega arith)
      two (n ∷ []) m f = absurd (omega arith)
      two (n ∷ o ∷ ns) m f = ap Ok (sym f)
