-- What is against a body, by what is listed of the records before it.
use Rattle.std.proofs.Common.{◌≡◌, ◌≢◌, ◌⊎◌, inl, inr, ℕ, ◌+◌, ◌<◌, ◌≤◌, true, false, Bool, ◌&&◌, List, [], ◌∷◌, length, drop, get_or, slice_get, max, Option, Some, None, refl, sym, ap, ◌∙◌, subst, arith}
use Rattle.std.specs.Prelude.{IfSome}
use Rattle.std.specs.List.{list_all}
use Rattle.std.specs.Option.{option_map}
use Rattle.std.proofs.lemmas.Bool.{false_from_ne_true}
use Rattle.gx_model.specs.declared.objects.Kind.{Kind}
use Rattle.gx_model.specs.declared.objects.Kind.TheVariants as kinds
use Rattle.gx_model.specs.declared.objects.Mode.{Mode}
use Rattle.gx_model.specs.declared.objects.Mode.TheVariants.{Dir, Exec, File, Gitlink, Link}
use Rattle.gx_model.specs.declared.store_faults.FileFault.{FileFault}
use Rattle.gx_model.specs.declared.store_faults.FileFault.TheVariants as fault
use Rattle.gx_model.specs.Texts.{Bytes}
use Rattle.gx_model.specs.Histories.{Record}
use Rattle.gx_model.specs.Laws.StoreLaws.{BodiesAreRead, IsBody}
use Rattle.gx_model.specs.Objects.{CommitParts, Entry, IsCommitText, IsTagText, IsTreeText, TagParts}
use Rattle.gx_model.specs.Records.Growth.{same_kind}
use Rattle.gx_model.specs.Records.HistoryOf.{entries_in}
use Rattle.gx_model.specs.Records.RecordFaults.{are_links_held, content_fault, is_bad_below, is_body, is_entry_held, is_held, is_of_kind}
use Rattle.gx_repo.specs.Checking.{entry_room, fault_behind, wider, widest}
use Rattle.gx_repo.specs.Records.{add_fault}
use Rattle.gx_repo.specs.Rooms.{room_at, rooms_of}
use Rattle.gx_repo.proofs.CheckedEntries.{empty_entry, full_entry, held_at_place, nothing_held}
use Rattle.gx_repo.proofs.ContentFaults.{bad_below, commit_dangling, commit_fine, empty_below, fine_below, long_below, not_canonical, not_held, nothing_against, tag_dangling, tag_fine, told_bad, widest_room}
use Rattle.gx_repo.proofs.HeldRecords.{kind_is}
use Rattle.gx_repo.proofs.Places.{is_place}
use Rattle.gx_repo.proofs.ReadTrees.{IsLeft, left_bad, left_dangling, left_end, left_first, left_next}
use Rattle.gx_repo.proofs.RecordRooms.{rooms_count, rooms_small}
use Rattle.gx_listed.specs.Listings.{HaveHeads, Head, Listed, number_named}
use Rattle.gx_plain.proofs.ListedObjects.{number_is, record_listed}
use Rattle.gx_plain.specs.Held.{AreHeld, ChecksBody, FindsHeld, IsHeld, LooksAtEntry}

-- ---- one object

same_itself : (k : Kind) → same_kind k k ≡ true
same_itself kinds.Blob = refl
same_itself kinds.Tree = refl
same_itself kinds.Commit = refl
same_itself kinds.Tag = refl

module _ (listed : List Listed) (of_kind : Kind) (n : Bytes) where
  pub none_found : None ≡ number_named listed n → FindsHeld listed of_kind n None
  none_found e = λ rs h. nothing_held rs of_kind n (e ∙ number_is n listed rs h)

  module _ (i : ℕ) (one : Listed) (named : Some i ≡ number_named listed n) (at : slice_get listed i ≡ Some one) where
    held_is : (rs : List Record) → HaveHeads listed rs → is_held rs of_kind n ≡ same_kind one.1.kind of_kind
    held_is rs h =
        let r = record_listed listed rs i one h at in
        held_at_place rs of_kind n i (named ∙ number_is n listed rs h) ∙ ap (is_of_kind of_kind) r.1 ∙ ap (λ (x : Head). same_kind x.kind of_kind) (sym r.2)

    pub kind_found : one.1.kind ≡ of_kind → FindsHeld listed of_kind n (Some i)
    kind_found same = λ rs h. (named ∙ number_is n listed rs h, held_is rs h ∙ ap (λ k. same_kind k of_kind) same ∙ same_itself of_kind)

    pub other_found : one.1.kind ≢ of_kind → FindsHeld listed of_kind n None
    other_found other = λ rs h. held_is rs h ∙ false_from_ne_true _ (λ t. other (kind_is one.1.kind of_kind t))

-- ---- entries

-- the room of an entry that is no directory
own_room : (rs : List Record) (m : Mode) (c n : Bytes) → m ≢ Dir → room_at rs (record { mode = m; component = c; name = n }) ≡ 1 + length c
own_room rs File c n h = omega arith
own_room rs Exec c n h = omega arith
own_room rs Link c n h = omega arith
own_room rs Gitlink c n h = omega arith
own_room rs Dir c n h = absurd (h refl)

own_entry : (rs : List Record) (e : Entry) → e.mode ≢ Dir → Some (1 + length e.component) ≡ entry_room rs e
own_entry rs e other = by e.mode refl
  where
    by : (m : Mode) → e.mode ≡ m → Some (1 + length e.component) ≡ entry_room rs (record { mode = m; component = e.component; name = e.name })
    by File g = ap Some (sym (own_room rs File e.component e.name (λ z. cc)))
    by Exec g = ap Some (sym (own_room rs Exec e.component e.name (λ z. cc)))
    by Link g = ap Some (sym (own_room rs Link e.component e.name (λ z. cc)))
    by Gitlink g = ap Some (sym (own_room rs Gitlink e.component e.name (λ z. cc)))
    by Dir g = absurd (other g)

-- the mode of a file is none of the others
file_mode : (m : Mode) → (m ≡ File) ⊎ ((m ≡ Exec) ⊎ (m ≡ Link)) → (m ≢ Gitlink) × (m ≢ Dir)
file_mode m (inl e) = (λ g. let l : File ≡ Gitlink = sym e ∙ g in cc l, λ g. let l : File ≡ Dir = sym e ∙ g in cc l)
file_mode m (inr (inl e)) = (λ g. let l : Exec ≡ Gitlink = sym e ∙ g in cc l, λ g. let l : Exec ≡ Dir = sym e ∙ g in cc l)
file_mode m (inr (inr e)) = (λ g. let l : Link ≡ Gitlink = sym e ∙ g in cc l, λ g. let l : Link ≡ Dir = sym e ∙ g in cc l)

module _ (listed : List Listed) (rooms : List ℕ) (e : Entry) where
  pub link_looked : e.mode ≡ Gitlink → LooksAtEntry listed rooms e (Some (1 + length e.component))
  link_looked g = λ name rs h. (ap (λ m. is_entry_held rs m e.name) g, own_entry rs e (λ z. let l = sym g ∙ z in cc l))

  -- a file's blob is held, or isn't
  file_held : (rs : List Record) → e.mode ≢ Gitlink → e.mode ≢ Dir → is_entry_held rs e.mode e.name ≡ is_held rs kinds.Blob e.name
  file_held rs a b = by e.mode refl
    where
      by : (m : Mode) → e.mode ≡ m → is_entry_held rs m e.name ≡ is_held rs kinds.Blob e.name
      by File g = refl
      by Exec g = refl
      by Link g = refl
      by Gitlink g = absurd (a g)
      by Dir g = absurd (b g)

  pub file_looked : (e.mode ≡ File) ⊎ ((e.mode ≡ Exec) ⊎ (e.mode ≡ Link)) → (i : ℕ) → FindsHeld listed kinds.Blob e.name (Some i) → LooksAtEntry listed rooms e (Some (1 + length e.component))
  file_looked m i f = λ name rs h. let d = file_mode e.mode m in (file_held rs d.0 d.1 ∙ (f rs h.heads).1, own_entry rs e d.1)

  pub no_file : (e.mode ≡ File) ⊎ ((e.mode ≡ Exec) ⊎ (e.mode ≡ Link)) → FindsHeld listed kinds.Blob e.name None → LooksAtEntry listed rooms e None
  no_file m f = λ name rs h. let d = file_mode e.mode m in inl (file_held rs d.0 d.1 ∙ f rs h.heads)

  pub no_directory : e.mode ≡ Dir → FindsHeld listed kinds.Tree e.name None → LooksAtEntry listed rooms e None
  no_directory m f = λ name rs h. inl (ap (λ x. is_entry_held rs x e.name) m ∙ f rs h.heads)

  module _ (m : e.mode ≡ Dir) (i : ℕ) (f : FindsHeld listed kinds.Tree e.name (Some i)) where
    room_is : (name : Kind → Bytes → Bytes) (rs : List Record) → IsHeld name listed rooms rs → get_or rooms i 0 ≡ get_or (rooms_of rs) i 0
    room_is name rs h = ap (λ ns. get_or ns i 0) h.rooms_are

    pub empty_looked : get_or rooms i 0 ≡ 0 → LooksAtEntry listed rooms e None
    empty_looked none = λ name rs h. inr (empty_entry name h.namer rs h.sound e i m (f rs h.heads).0 (f rs h.heads).1 (sym (room_is name rs h) ∙ none))

    pub full_looked : get_or rooms i 0 ≢ 0 → LooksAtEntry listed rooms e (Some (1 + length e.component + get_or rooms i 0))
    full_looked some = λ name rs h. (
      ap (λ x. is_entry_held rs x e.name) m ∙ (f rs h.heads).1,
      ap (λ x. Some (1 + length e.component + x)) (room_is name rs h)
          ∙ full_entry name h.namer rs h.sound e i m (f rs h.heads).0 (f rs h.heads).1 (λ z. some (room_is name rs h ∙ z)),
    )

-- the number of an object has a room, which isn't large
pub room_within : (listed : List Listed) (rooms : List ℕ) → AreHeld listed rooms → (k : Kind) (n : Bytes) (i : ℕ) → FindsHeld listed k n (Some i) → i < length rooms
room_within listed rooms h k n i f =
    let p = is_place h.1 n i (sym (f h.1 h.2.heads).0) in
    let all = rooms_count h.1 in
    let same = ap length h.2.rooms_are in
    let within = p.within in
    omega arith

pub room_small : (listed : List Listed) (rooms : List ℕ) → AreHeld listed rooms → (i : ℕ) → get_or rooms i 0 ≤ 4096
room_small listed rooms h i =
    let small = rooms_small h.0 h.2.namer h.1 h.2.sound i in
    let same = ap (λ ns. get_or ns i 0) h.2.rooms_are in
    omega arith

-- ---- trees

module _ (listed : List Listed) (rooms : List ℕ) (body : Bytes) where
  -- these are left of a tree's entries, whatever is held
  abbrev pub AreLeft : ℕ → Option (List Entry) → Type 0
  AreLeft far left = (name : Kind → Bytes → Bytes) (rs : List Record) → IsHeld name listed rooms rs → IsLeft rs body (Some far) left

  -- before one is read all are
  pub tree_first : BodiesAreRead → (entries : Option (List Entry)) → IfSome entries (λ es. IsTreeText es body) → ((es : List Entry) → IsTreeText es body → entries ≡ Some es) → AreLeft 0 entries
  tree_first law entries found only = λ name rs h. left_first rs body law entries found only

  -- an entry that names a tree without entries is against the body
  left_empty : (rs : List Record) (e : Entry) (far : ℕ) (old new : Option (List Entry)) → old ≡ option_map (λ left. e ∷ left) new → IsLeft rs body (Some far) old → None ≡ entry_room rs e
      → (why : FileFault) × (content_fault rs kinds.Tree body ≡ Some why)
  left_empty rs e far old None s i none = (fault.BadObject, not_canonical rs kinds.Tree body (subst (IsLeft rs body (Some far)) s i))
  left_empty rs e far old (Some left) s i none =
      let j = subst (IsLeft rs body (Some far)) s i in
      let all : None ≡ widest rs (entries_in body) = ap (λ x. wider (Some far) (wider x (widest rs left))) none ∙ j.2 in
      by (are_links_held rs kinds.Tree body) refl j.0 (empty_below rs body all)
    where
      by : (b : Bool) → are_links_held rs kinds.Tree body ≡ b → is_body kinds.Tree body ≡ true → is_bad_below rs kinds.Tree body ≡ true → (why : FileFault) × (content_fault rs kinds.Tree body ≡ Some why)
      by true g good bad = (fault.BadObject, bad_below rs kinds.Tree body good g bad)
      by false g good bad = (fault.Dangling, not_held rs kinds.Tree body good g)

  pub tree_unlooked : (e : Entry) (far : ℕ) (old new : Option (List Entry)) → old ≡ option_map (λ left. e ∷ left) new → AreLeft far old → LooksAtEntry listed rooms e None → ChecksBody listed rooms kinds.Tree body None
  tree_unlooked e far old new s all l = λ name rs h. elim (l name rs h) [
    | inl dangling ↦ (add_fault (fault_behind new), left_dangling rs body e (Some far) old new s (all name rs h) dangling)
    | inr empty ↦ left_empty rs e far old new s (all name rs h) empty
  ]

  pub tree_next : (e : Entry) (far room : ℕ) (old new : Option (List Entry)) → old ≡ option_map (λ left. e ∷ left) new → AreLeft far old → LooksAtEntry listed rooms e (Some room) → AreLeft (max far room) new
  tree_next e far room old new s all l = λ name rs h. let k = l name rs h in left_next rs body e (Some far) (Some room) (Some (max far room)) old new s (all name rs h) k.0 k.1 refl

  pub tree_bad : (far : ℕ) (old : Option (List Entry)) → old ≡ None → AreLeft far old → ChecksBody listed rooms kinds.Tree body None
  tree_bad far old s all = λ name rs h. (fault.BadObject, left_bad rs body (Some far) old s (all name rs h))

  module _ (far : ℕ) (old : Option (List Entry)) (s : old ≡ Some []) (all : AreLeft far old) where
    pub tree_long : 4096 < far → ChecksBody listed rooms kinds.Tree body None
    tree_long l = λ name rs h.
        let w = left_end rs body (Some far) old s (all name rs h) in
        (fault.BadObject, bad_below rs kinds.Tree body w.good w.links (long_below rs body far w.all l))

    pub tree_fine : far ≤ 4096 → ChecksBody listed rooms kinds.Tree body (Some far)
    tree_fine l = λ name rs h.
        let w = left_end rs body (Some far) old s (all name rs h) in
        (nothing_against rs kinds.Tree body w.good w.links (fine_below rs body far w.all l), widest_room rs body far w.all)

-- ---- others

pub blob_fine : (listed : List Listed) (rooms : List ℕ) (body : Bytes) → ChecksBody listed rooms kinds.Blob body (Some 0)
blob_fine listed rooms body = λ name rs h. (nothing_against rs kinds.Blob body refl refl refl, refl)

pub bad_body : BodiesAreRead → (listed : List Listed) (rooms : List ℕ) (k : Kind) (body : Bytes) → (IsBody k body → ⊥) → ChecksBody listed rooms k body None
bad_body law listed rooms k body h = λ name rs held. (fault.BadObject, not_canonical rs k body (told_bad law k body h))

module _ (law : BodiesAreRead) (listed : List Listed) (rooms : List ℕ) (body : Bytes) where
  module _ (p : CommitParts) (t : IsCommitText p body) where
    pub no_tree : FindsHeld listed kinds.Tree p.tree None → ChecksBody listed rooms kinds.Commit body None
    no_tree f = λ name rs h. (fault.Dangling, commit_dangling law rs body p t (ap (λ b. b && list_all (is_held rs kinds.Commit) p.parents) (f rs h.heads)))

    -- the parents before a place are held
    abbrev pub ParentsBefore : ℕ → Type 0
    ParentsBefore place = (rs : List Record) → HaveHeads listed rs → list_all (is_held rs kinds.Commit) p.parents ≡ list_all (is_held rs kinds.Commit) (drop place p.parents)

    module _ (i : ℕ) (tree : FindsHeld listed kinds.Tree p.tree (Some i)) where
      pub no_parent : (place : ℕ) (n : Bytes) → ParentsBefore place → drop place p.parents ≡ n ∷ drop (place + 1) p.parents → FindsHeld listed kinds.Commit n None → ChecksBody listed rooms kinds.Commit body None
      no_parent place n before next f = λ name rs h.
          let all = before rs h.heads ∙ ap (list_all (is_held rs kinds.Commit)) next ∙ ap (λ b. b && list_all (is_held rs kinds.Commit) (drop (place + 1) p.parents)) (f rs h.heads) in
          let there = (tree rs h.heads).1 in
          (fault.Dangling, commit_dangling law rs body p t (λ j. there j && all j))

      pub parents_fine : (place : ℕ) → ParentsBefore place → drop place p.parents ≡ [] → ChecksBody listed rooms kinds.Commit body (Some 0)
      parents_fine place before last = λ name rs h.
          let all = before rs h.heads ∙ ap (list_all (is_held rs kinds.Commit)) last in
          let there = (tree rs h.heads).1 in
          (commit_fine law rs body p t (λ j. there j && all j), refl)

    pub one_parent : (place i : ℕ) (n : Bytes) → ParentsBefore place → drop place p.parents ≡ n ∷ drop (place + 1) p.parents → FindsHeld listed kinds.Commit n (Some i) → ParentsBefore (place + 1)
    one_parent place i n before next f = λ rs h.
        before rs h ∙ ap (list_all (is_held rs kinds.Commit)) next ∙ ap (λ b. b && list_all (is_held rs kinds.Commit) (drop (place + 1) p.parents)) (f rs h).1

  module _ (p : TagParts) (t : IsTagText p body) where
    pub no_object : FindsHeld listed kinds.Commit p.object None → ChecksBody listed rooms kinds.Tag body None
    no_object f = λ name rs h. (fault.Dangling, tag_dangling law rs body p t (f rs h.heads))

    pub object_there : (i : ℕ) → FindsHeld listed kinds.Commit p.object (Some i) → ChecksBody listed rooms kinds.Tag body (Some 0)
    object_there i f = λ name rs h. (tag_fine law rs body p t (f rs h.heads).1, refl)
