-- What the entries left tell of a tree's body, of which nothing was known before it was read.
use Rattle.std.proofs.Common.{◌≡◌, ℕ, true, false, List, [], ◌∷◌, Option, Some, None, Result, Ok, Err, refl, sym, ap, subst, ◌∙◌, arith}
use Rattle.std.specs.Prelude.{IfSome, IfErr, IsErrAnd}
use Rattle.std.specs.List.{list_all}
use Rattle.std.specs.Option.{option_map}
use Rattle.gx_model.specs.declared.objects.Kind.{Kind}
use Rattle.gx_model.specs.declared.objects.Kind.TheVariants as kinds
use Rattle.gx_model.specs.declared.store_faults.FileFault.TheVariants as model
use Rattle.gx_model.specs.Texts.{Bytes}
use Rattle.gx_model.specs.Objects.{Entry, IsTreeText}
use Rattle.gx_model.specs.Histories.{Record}
use Rattle.gx_model.specs.Records.HistoryOf.{entries_in}
use Rattle.gx_model.specs.Records.RecordFaults.{are_links_held, content_fault, is_body, is_entry_held}
use Rattle.gx_model.specs.Laws.StoreLaws.{BodiesAreRead}
use Rattle.gx_repo.specs.declared.fault.AddFault.{AddFault}
use Rattle.gx_repo.specs.declared.fault.AddFault.TheVariants.{BadObject}
use Rattle.gx_repo.specs.Checking.{entry_room, fault_behind, wider, widest}
use Rattle.gx_repo.specs.Records.{add_fault}
use Rattle.gx_repo.proofs.ContentFaults.{held_at_end, next_dangling, next_held, not_canonical, not_held, told_bad, told_good, wider_next, widest_at_end}

wider_first : (w : Option ℕ) → wider (Some 0) w ≡ w
wider_first None = refl
wider_first (Some x) = ap Some (omega arith)

module _ (rs : List Record) (body : Bytes) where
  -- with the widest of those read so far, these are left of a canonical body whose entries so far are held; or the body
  -- isn't canonical
  abbrev pub IsLeft : Option ℕ → Option (List Entry) → Type 0
  IsLeft far None = is_body kinds.Tree body ≡ false
  IsLeft far (Some left) =
      (is_body kinds.Tree body ≡ true)
      × (list_all (λ e. is_entry_held rs e.mode e.name) (entries_in body) ≡ list_all (λ e. is_entry_held rs e.mode e.name) left)
      × (wider far (widest rs left) ≡ widest rs (entries_in body))

  -- so are all, before one is read
  pub left_first : BodiesAreRead → (entries : Option (List Entry)) → IfSome entries (λ es. IsTreeText es body) → ((es : List Entry) → IsTreeText es body → entries ≡ Some es) → IsLeft (Some 0) entries
  left_first law None found only = told_bad law kinds.Tree body (λ p. let clash = only p.0 p.1 in absurd (cc))
  left_first law (Some es) found only =
      let read = law.trees es body found in
      (told_good law kinds.Tree body (es, found), ap (list_all (λ e. is_entry_held rs e.mode e.name)) read, wider_first (widest rs es) ∙ ap (widest rs) (sym read))

  -- and the others, once one is read that is held
  pub left_next : (e : Entry) (far next now : Option ℕ) (old new : Option (List Entry)) → old ≡ option_map (λ left. e ∷ left) new → IsLeft far old
      → is_entry_held rs e.mode e.name ≡ true → next ≡ entry_room rs e → now ≡ wider far next → IsLeft now new
  left_next e far next now old None s i h n w = subst (IsLeft far) s i
  left_next e far next now old (Some left) s i h n w =
      let j = subst (IsLeft far) s i in
      (j.0, next_held rs body e (e ∷ left) left refl j.1 h, wider_next rs body e (e ∷ left) left far next now refl j.2 n w)

  -- an entry that isn't held is against the body, unless that isn't canonical
  pub left_dangling : (e : Entry) (far : Option ℕ) (old new : Option (List Entry)) → old ≡ option_map (λ left. e ∷ left) new → IsLeft far old
      → is_entry_held rs e.mode e.name ≡ false → content_fault rs kinds.Tree body ≡ Some (add_fault (fault_behind new))
  left_dangling e far old None s i h = not_canonical rs kinds.Tree body (subst (IsLeft far) s i)
  left_dangling e far old (Some left) s i h =
      let j = subst (IsLeft far) s i in
      not_held rs kinds.Tree body j.0 (next_dangling rs body e (e ∷ left) left refl j.1 h)

  -- the body isn't canonical
  pub left_bad : (far : Option ℕ) (old : Option (List Entry)) → old ≡ None → IsLeft far old → content_fault rs kinds.Tree body ≡ Some model.BadObject
  left_bad far old s i = not_canonical rs kinds.Tree body (subst (IsLeft far) s i)

  -- at the end of a canonical body, all are held and the widest is known
  pub record IsWhole (far : Option ℕ) : Type 0 where
    pub good : is_body kinds.Tree body ≡ true
    pub links : are_links_held rs kinds.Tree body ≡ true
    pub all : far ≡ widest rs (entries_in body)

  pub left_end : (far : Option ℕ) (old : Option (List Entry)) → old ≡ Some [] → IsLeft far old → IsWhole far
  left_end far old s i =
      let j = subst (IsLeft far) s i in
      record { good = j.0; links = held_at_end rs body [] refl j.1; all = widest_at_end rs body far [] refl j.2 }

-- a body that isn't canonical, told
pub bad_passed : {X : Type 0} (rs : List Record) (k : Kind) (body : Bytes) (answer : Result X AddFault) → IsErrAnd answer (λ y. y ≡ BadObject) → content_fault rs k body ≡ Some model.BadObject
    → IfErr answer (λ y. content_fault rs k body ≡ Some (add_fault y))
bad_passed rs k body (Ok x) is against = tt
bad_passed rs k body (Err y) is against = against ∙ ap (λ z. Some (add_fault z)) (sym is)
