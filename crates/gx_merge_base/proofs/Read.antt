-- The commits that revisions give, one after the other.
use Rattle.std.proofs.Common.{◌≡◌, ℕ, ◌+◌, Bool, false, true, arith, refl, sym, ap, subst, ◌∙◌, List, [], ◌∷◌, ◌++◌, map, Option, Some, None, Result, Ok, Err}
use Rattle.std.specs.Prelude.{IfSome, if◌then◌else◌}
use Rattle.std.specs.Result.{is_err, is_ok}
use Rattle.std.proofs.lemmas.List.{map-append}
use Rattle.gx_model.specs.declared.objects.Kind.{Kind}
use Rattle.gx_model.specs.declared.objects.Kind.TheVariants as kinds
use Rattle.gx_model.specs.Faults.{◌>>=◌}
use Rattle.gx_model.specs.Histories.{Records}
use Rattle.gx_model.specs.Histories.Values.{Commit}
use Rattle.gx_model.specs.Records.HistoryOf.{history_of}
use Rattle.gx_model.specs.Revisions.{Revision}
use Rattle.gx_model.specs.Revisions.Denotation.{commit_denoted}
use Rattle.gx_model.specs.Revisions.Ranges.{WordFault, each_word}
use Rattle.gx_model.specs.Texts.{Bytes}
use Rattle.gx_object.specs.declared.name.Name.{Name}
use Rattle.gx_print.specs.Logs.{AreCommits}
use Rattle.gx_print.proofs.ReadWords.{AreRead, all_read, next_fails, next_read}
use Rattle.gx_questions.specs.Answers.{Refuses}
use Rattle.gx_questions.specs.declared.fault.AskFault.{AskFault}
use Rattle.gx_questions.specs.declared.fault.AskFault.TheVariants as ask
use Rattle.gx_ranges.specs.Answers.{RefusesWord, refused_at}
use Rattle.gx_rev.specs.Objects.{IsHeldAs, commit_at}
use Rattle.gx_rev.specs.RevFaults.{fault_of}
use Rattle.gx_merge_base.specs.Words.{AreGiven, commits_denoted}

-- what was pushed without a fault stands behind the others
pub pushed : {T E X : Type 0} (result : Result T E) (failed : Bool) (new more old : List X) → failed ≡ is_err result → failed ≡ false → new ≡ (if is_ok result then more else old) → new ≡ more
pushed (Ok x) failed new more old e f h = h
pushed (Err x) failed new more old e f h = absurd (let o : false ≡ true = sym f ∙ e in cc o)

module _ (name : Kind → Bytes → Bytes) (all : List Revision) where
  -- the first revisions give these, and the others are left
  pub record AreSoFar (left : List Revision) (count : ℕ) (names : List Name) (r : Records) : Type 0 where
    pub read : AreRead (commit_denoted name (history_of r)) all left count (map (commit_at r) names)
    pub held : AreCommits r names

  pub none_so_far : (told : Option Records) (names : List Name) → names ≡ [] → IfSome told (AreSoFar all 0 names)
  none_so_far None names e = tt
  none_so_far (Some r) names e = subst (λ xs. AreSoFar all 0 xs r) (sym e) (record { read = by (each_word (commit_denoted name (history_of r)) all); held = tt })
    where
      by : (d : Result (List Commit) WordFault) → d ≡ (d >>= λ ys. Ok ([] ++ ys))
      by (Ok ys) = refl
      by (Err e) = refl

  module _ (now left : List Revision) (x : Revision) (count : ℕ) (names : List Name) (from : now ≡ x ∷ left) where
    -- one commit more
    pub one_more : (told : Option Records) (called : Name) (more : List Name) → more ≡ names ++ called ∷ [] → IfSome told (λ r. commit_denoted name (history_of r) x ≡ Ok (commit_at r called)) → IfSome told (λ r. IsHeldAs kinds.Commit r called)
        → IfSome told (AreSoFar now count names) → IfSome told (AreSoFar left (count + 1) more)
    one_more None called more e f h s = tt
    one_more (Some r) called more e f h s =
        let read = next_read (commit_denoted name (history_of r)) all left x count (map (commit_at r) names) (commit_at r called) f (subst (λ ws. AreRead (commit_denoted name (history_of r)) all ws count (map (commit_at r) names)) from s.read) in
        subst (λ xs. AreSoFar left (count + 1) xs r) (sym e) (record {
          read = subst (λ cs. AreRead (commit_denoted name (history_of r)) all left (count + 1) cs) (sym (map-append (commit_at r) names (called ∷ []))) read;
          held = all_held names s.held;
        })
      where
        all_held : (ns : List Name) → AreCommits r ns → AreCommits r (ns ++ called ∷ [])
        all_held [] k = (h, tt)
        all_held (n ∷ ns) k = (k.0, all_held ns k.1)

    -- the next one is refused
    pub one_refused : (told : Option Records) (kind : AskFault) (at : ℕ) → at ≡ count + 1 → IfSome told (AreSoFar now count names) → Refuses told (λ r. commit_denoted name (history_of r) x) kind
        → RefusesWord told (commits_denoted name all) (refused_at at kind).word (refused_at at kind).kind
    one_refused told ask.OutOfMemory at e s h = refl
    one_refused told ask.ReadFailed at e s h = refl
    one_refused told ask.Damaged at e s h = (refl, h)
    one_refused None (ask.Revision f) at e s h = tt
    one_refused (Some r) (ask.Revision f) at e s h =
        next_fails (commit_denoted name (history_of r)) all left x count (map (commit_at r) names) (fault_of f) h (subst (λ ws. AreRead (commit_denoted name (history_of r)) all ws count (map (commit_at r) names)) from s.read)
        ∙ ap (λ n. Err (record { word = n; fault = fault_of f })) (let s : 1 + count ≡ at = omega arith in s)

  pub all_so_far : (told : Option Records) (left : List Revision) (count : ℕ) (names : List Name) → left ≡ [] → IfSome told (AreSoFar left count names) → IfSome told (λ r. AreGiven name all r names)
  all_so_far None left count names e s = tt
  all_so_far (Some r) left count names e s = (
    all_read (commit_denoted name (history_of r)) all count (map (commit_at r) names) (subst (λ ws. AreRead (commit_denoted name (history_of r)) all ws count (map (commit_at r) names)) e s.read),
    s.held,
  )
