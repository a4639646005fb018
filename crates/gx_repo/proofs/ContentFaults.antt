-- What is against a body, by its parts.
use Rattle.std.proofs.Common.{◌≡◌, Bool, true, false, not, ◌&&◌, ◌||◌, ◌<◌, ◌≤◌, ℕ, max, if◌then◌else◌, List, [], ◌∷◌, Option, Some, None, Result, Ok, Err, IsErrAnd, IfErr, suc, ◌+◌, drop, slice_get, refl, sym, ap, subst, ◌∙◌, add-one, arith}
use Rattle.std.specs.List.{list_all, list_any}
use Rattle.std.proofs.Math.Seq.{drop-cons}
use Rattle.std.proofs.lemmas.Bool.{false_from_ne_true, le-leb, lt-leb}
use Rattle.std.proofs.lemmas.Option.{get_or_from_slice_get, slice_get_within}
use Rattle.gx_model.specs.declared.objects.Kind.{Kind}
use Rattle.gx_model.specs.declared.objects.Kind.TheVariants as kinds
use Rattle.gx_model.specs.declared.store_faults.FileFault.TheVariants as model
use Rattle.gx_model.specs.Texts.{Bytes}
use Rattle.gx_model.specs.Objects.{CommitParts, Entry, IsCommitText, IsTagText, TagParts, is_dir}
use Rattle.gx_model.specs.Histories.{Record}
use Rattle.gx_model.specs.Records.HistoryOf.{entries_in, files_at, files_of_entries, named_values, placed}
use Rattle.gx_model.specs.Records.Growth.{record_named}
use Rattle.gx_model.specs.Records.RecordFaults.{are_links_held, content_fault, has_empty_directory, has_long_path, is_bad_below, is_body, is_entry_held, is_held, is_without_entries}
use Rattle.gx_model.specs.Laws.StoreLaws.{BodiesAreRead, IsBody}
use Rattle.gx_model.proofs.Records.TakenRecords.{nothing_against as taken}
use Rattle.gx_repo.specs.declared.fault.AddFault.{AddFault}
use Rattle.gx_repo.specs.declared.fault.AddFault.TheVariants.{OutOfMemory, BadObject, Dangling, DuplicateObject}
use Rattle.gx_repo.specs.Checking.{IsAgainst, MayRefuse, entry_room, wider, widest}
use Rattle.gx_repo.specs.Records.{IsLinkedTree, add_fault}
use Rattle.gx_repo.specs.Rooms.{room}
use Rattle.gx_repo.proofs.EntryRooms.{room_of_entries}
use Rattle.gx_repo.proofs.PathRooms.{short_by_room}

-- ---- in order

-- a body that isn't canonical
pub not_canonical : (rs : List Record) (k : Kind) (body : Bytes) → is_body k body ≡ false → content_fault rs k body ≡ Some model.BadObject
unfolding content_fault
not_canonical rs k body e = rw e refl

-- a canonical body with a link that isn't held
pub not_held : (rs : List Record) (k : Kind) (body : Bytes) → is_body k body ≡ true → are_links_held rs k body ≡ false → content_fault rs k body ≡ Some model.Dangling
unfolding content_fault
not_held rs k body e h = rw (e, h) refl

-- a canonical body whose links are held, with what is below it bad
pub bad_below : (rs : List Record) (k : Kind) (body : Bytes) → is_body k body ≡ true → are_links_held rs k body ≡ true → is_bad_below rs k body ≡ true → content_fault rs k body ≡ Some model.BadObject
unfolding content_fault
bad_below rs k body e h b = rw (e, h, b) refl

-- a canonical body whose links are held, with nothing bad below it
pub nothing_against : (rs : List Record) (k : Kind) (body : Bytes) → is_body k body ≡ true → are_links_held rs k body ≡ true → is_bad_below rs k body ≡ false → content_fault rs k body ≡ None
unfolding content_fault
nothing_against rs k body e h b = rw (e, h, b) refl

-- a text that is no canonical body is told
pub told_bad : BodiesAreRead → (k : Kind) (body : Bytes) → (IsBody k body → ⊥) → is_body k body ≡ false
told_bad law k body h = false_from_ne_true (is_body k body) (λ t. h ((law.told k body).0 t))

-- a canonical body is told
pub told_good : BodiesAreRead → (k : Kind) (body : Bytes) → IsBody k body → is_body k body ≡ true
told_good law k body h = (law.told k body).1 h

module _ (law : BodiesAreRead) (rs : List Record) (body : Bytes) where
  -- a commit with a link that isn't held
  pub commit_dangling : (p : CommitParts) → IsCommitText p body → (is_held rs kinds.Tree p.tree && list_all (is_held rs kinds.Commit) p.parents) ≡ false → content_fault rs kinds.Commit body ≡ Some model.Dangling
  commit_dangling p t h = not_held rs kinds.Commit body (told_good law kinds.Commit body (p, t)) (ap (λ (q : CommitParts). is_held rs kinds.Tree q.tree && list_all (is_held rs kinds.Commit) q.parents) (law.commits p body t) ∙ h)

  -- a commit whose links are held
  pub commit_fine : (p : CommitParts) → IsCommitText p body → (is_held rs kinds.Tree p.tree && list_all (is_held rs kinds.Commit) p.parents) ≡ true → content_fault rs kinds.Commit body ≡ None
  commit_fine p t h = nothing_against rs kinds.Commit body (told_good law kinds.Commit body (p, t)) (ap (λ (q : CommitParts). is_held rs kinds.Tree q.tree && list_all (is_held rs kinds.Commit) q.parents) (law.commits p body t) ∙ h) refl

  -- a tag whose commit isn't held
  pub tag_dangling : (p : TagParts) → IsTagText p body → is_held rs kinds.Commit p.object ≡ false → content_fault rs kinds.Tag body ≡ Some model.Dangling
  tag_dangling p t h = not_held rs kinds.Tag body (told_good law kinds.Tag body (p, t)) (ap (λ (q : TagParts). is_held rs kinds.Commit q.object) (law.tags p body t) ∙ h)

  -- a tag whose commit is held
  pub tag_fine : (p : TagParts) → IsTagText p body → is_held rs kinds.Commit p.object ≡ true → content_fault rs kinds.Tag body ≡ None
  tag_fine p t h = nothing_against rs kinds.Tag body (told_good law kinds.Tag body (p, t)) (ap (λ (q : TagParts). is_held rs kinds.Commit q.object) (law.tags p body t) ∙ h) refl

-- a link that isn't held, passed on
pub dangling_passed : {X : Type 0} (rs : List Record) (k : Kind) (body : Bytes) (answer : Result X AddFault) (f : AddFault) → IsErrAnd answer (λ y. y ≡ f) → f ≡ Dangling → content_fault rs k body ≡ Some model.Dangling
    → IfErr answer (λ y. content_fault rs k body ≡ Some (add_fault y))
dangling_passed rs k body (Ok x) f e is against = tt
dangling_passed rs k body (Err y) f e is against = against ∙ ap (λ z. Some (add_fault z)) (sym (e ∙ is))

-- want of memory is against no body
never_memory : (rs : List Record) (k : Kind) (body : Bytes) → content_fault rs k body ≡ Some model.OutOfMemory → ⊥
unfolding content_fault
never_memory rs k body e = by (is_body k body) (are_links_held rs k body) (is_bad_below rs k body) e
  where
    by : (canonical held bad : Bool)
        → (if not canonical then Some model.BadObject else (if not held then Some model.Dangling
        else (if bad then Some model.BadObject else None))) ≡ Some model.OutOfMemory → ⊥
    by false held bad e = absurd (cc)
    by true false bad e = absurd (cc)
    by true true true e = absurd (cc)
    by true true false e = absurd (cc)

-- what is against a body may refuse it
pub may_refuse : {X : Type 0} (rs : List Record) (k : Kind) (body : Bytes) (answer : Result X AddFault) → IfErr answer (IsAgainst rs k body) → IfErr answer (MayRefuse rs k body)
may_refuse rs k body (Ok x) h = tt
may_refuse rs k body (Err OutOfMemory) h = absurd (never_memory rs k body h)
may_refuse rs k body (Err BadObject) h = h
may_refuse rs k body (Err Dangling) h = h
may_refuse rs k body (Err DuplicateObject) h = h

-- a tree with nothing against it is canonical, and its links are held
pub linked_tree : (rs : List Record) (k : Kind) (body : Bytes) → k ≡ kinds.Tree → content_fault rs k body ≡ None → IsLinkedTree rs k body
linked_tree rs k body tree e = let good = taken rs k body e in (tree, good.0, good.1)

-- what refuses it, passed on
pub refused_by : {X : Type 0} (rs : List Record) (k : Kind) (body : Bytes) (answer : Result X AddFault) (f : AddFault) → IsErrAnd answer (λ y. y ≡ f) → MayRefuse rs k body f → IfErr answer (MayRefuse rs k body)
refused_by rs k body (Ok x) f e h = tt
refused_by rs k body (Err y) f e h = subst (MayRefuse rs k body) (sym e) h

-- ---- parents, one by one

-- the next of some names
pub next_name : (i : ℕ) (ns : List Bytes) (n : Bytes) → Some n ≡ slice_get ns i → drop i ns ≡ n ∷ drop (i + 1) ns
next_name i ns n e =
    drop-cons ns i n (slice_get_within ns i n (sym e)) ∙ ap (λ m. m ∷ drop (suc i) ns) (get_or_from_slice_get ns i n n (sym e)) ∙ ap (λ m. n ∷ drop m ns) (sym (add-one i))

-- ---- the widest of the entries

-- no room behind another leaves that
pub wider_last : (a : Option ℕ) → wider a (Some 0) ≡ a
wider_last None = refl
wider_last (Some x) = ap Some (omega arith)

-- of three rooms it is the same from either side
wider_turned : (a b c : Option ℕ) → wider (wider a b) c ≡ wider a (wider b c)
wider_turned None b c = refl
wider_turned (Some x) None c = refl
wider_turned (Some x) (Some y) None = refl
wider_turned (Some x) (Some y) (Some z) = ap Some (omega arith)

-- of two rooms that may be missing, one is
both_rooms : (b c : Bool) (x y : ℕ) → wider (if b then None else Some x) (if c then None else Some y) ≡ (if b || c then None else Some (max x y))
both_rooms true c x y = refl
both_rooms false true x y = refl
both_rooms false false x y = refl

-- whether an entry names a tree without entries
abbrev is_empty : List Record → Entry → Bool
is_empty rs e = is_dir e.mode && is_without_entries (record_named rs e.name)

-- the widest is the room of all the files, or missing where an entry names a tree without entries
pub widest_is : (rs : List Record) (es : List Entry) → widest rs es ≡ (if list_any (is_empty rs) es then None else Some (room (files_of_entries (named_values rs) es)))
widest_is rs [] = refl
widest_is rs (e ∷ es) =
    let ks = named_values rs in
    ap (wider (entry_room rs e)) (widest_is rs es)
    ∙ both_rooms (is_empty rs e) (list_any (is_empty rs) es) (room (placed e.component (files_at ks e.mode e.name))) (room (files_of_entries ks es))
    ∙ ap (λ x. if is_empty rs e || list_any (is_empty rs) es then None else Some x) (sym (room_of_entries ks e es))

-- a room is missing where the test says so
missing : (b : Bool) (x : ℕ) → None ≡ (if b then None else Some x) → b ≡ true
missing true x e = refl
missing false x e = absurd (cc)

-- a room that is there is the one behind the test
there : (b : Bool) (x y : ℕ) → Some y ≡ (if b then None else Some x) → (b ≡ false) × (x ≡ y)
there true x y e = absurd (cc)
there false x y e = (refl, cc)

module _ (rs : List Record) (body : Bytes) where
  -- the room of the files that a body's entries give
  abbrev files_room : ℕ
  files_room = room (files_of_entries (named_values rs) (entries_in body))

  -- with an empty directory, what is below is bad
  pub empty_below : None ≡ widest rs (entries_in body) → is_bad_below rs kinds.Tree body ≡ true
  empty_below e = ap (λ b. b || has_long_path rs body) (missing (has_empty_directory rs body) files_room (e ∙ widest_is rs (entries_in body)))

  -- a test or a true one
  or_true : (b : Bool) → (b || true) ≡ true
  or_true true = refl
  or_true false = refl

  -- with a path too long, what is below is bad
  pub long_below : (x : ℕ) → Some x ≡ widest rs (entries_in body) → 4096 < x → is_bad_below rs kinds.Tree body ≡ true
  long_below x e l =
      let h = there (has_empty_directory rs body) files_room x (e ∙ widest_is rs (entries_in body)) in
      let short = short_by_room (files_of_entries (named_values rs) (entries_in body)) ∙ lt-leb files_room 4096 (omega (arith, l, h.1)) in
      ap (λ b. has_empty_directory rs body || not b) short ∙ or_true (has_empty_directory rs body)

  -- otherwise it isn't
  pub fine_below : (x : ℕ) → Some x ≡ widest rs (entries_in body) → x ≤ 4096 → is_bad_below rs kinds.Tree body ≡ false
  fine_below x e l =
      let h = there (has_empty_directory rs body) files_room x (e ∙ widest_is rs (entries_in body)) in
      let short = short_by_room (files_of_entries (named_values rs) (entries_in body)) ∙ le-leb files_room 4096 (omega (arith, l, h.1)) in
      λ i. h.0 i || not (short i)

  -- the widest is the tree's room
  pub widest_room : (x : ℕ) → Some x ≡ widest rs (entries_in body) → x ≡ files_room
  widest_room x e = sym (there (has_empty_directory rs body) files_room x (e ∙ widest_is rs (entries_in body))).1

  -- once no entry is left, the widest so far is that of all
  pub widest_at_end : (far : Option ℕ) (left : List Entry) → left ≡ [] → wider far (widest rs left) ≡ widest rs (entries_in body) → far ≡ widest rs (entries_in body)
  widest_at_end far left e h = sym (wider_last far) ∙ ap (λ es. wider far (widest rs es)) (sym e) ∙ h

  -- once no entry is left, all are held
  pub held_at_end : (left : List Entry) → left ≡ [] → list_all (λ e. is_entry_held rs e.mode e.name) (entries_in body) ≡ list_all (λ e. is_entry_held rs e.mode e.name) left → are_links_held rs kinds.Tree body ≡ true
  held_at_end left e h = h ∙ ap (list_all (λ e. is_entry_held rs e.mode e.name)) e

  -- the next entry's room, entered
  pub wider_next : (e : Entry) (left more : List Entry) (far next now : Option ℕ) → left ≡ e ∷ more → wider far (widest rs left) ≡ widest rs (entries_in body) → next ≡ entry_room rs e → now ≡ wider far next
      → wider now (widest rs more) ≡ widest rs (entries_in body)
  wider_next e left more far next now s h n w =
      ap (λ x. wider x (widest rs more)) (w ∙ ap (wider far) n) ∙ wider_turned far (entry_room rs e) (widest rs more) ∙ sym (ap (λ es. wider far (widest rs es)) s) ∙ h

  -- where the next entry is held, all are where the others are
  pub next_held : (e : Entry) (left more : List Entry) → left ≡ e ∷ more → list_all (λ e. is_entry_held rs e.mode e.name) (entries_in body) ≡ list_all (λ e. is_entry_held rs e.mode e.name) left → is_entry_held rs e.mode e.name ≡ true
      → list_all (λ e. is_entry_held rs e.mode e.name) (entries_in body) ≡ list_all (λ e. is_entry_held rs e.mode e.name) more
  next_held e left more s h d = h ∙ ap (list_all (λ x. is_entry_held rs x.mode x.name)) s ∙ ap (λ b. b && list_all (λ x. is_entry_held rs x.mode x.name) more) d

  -- where the next entry isn't held, not all are
  pub next_dangling : (e : Entry) (left more : List Entry) → left ≡ e ∷ more → list_all (λ e. is_entry_held rs e.mode e.name) (entries_in body) ≡ list_all (λ e. is_entry_held rs e.mode e.name) left → is_entry_held rs e.mode e.name ≡ false
      → are_links_held rs kinds.Tree body ≡ false
  next_dangling e left more s h d = h ∙ ap (list_all (λ x. is_entry_held rs x.mode x.name)) s ∙ ap (λ b. b && list_all (λ x. is_entry_held rs x.mode x.name) more) d
