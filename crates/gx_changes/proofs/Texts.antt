-- The text of an export of changes in its parts, and what goes out of it.
use Rattle.std.proofs.Common.{◌≡◌, ◌≢◌, ◌∙◌, ◌≤◌, ◌<◌, ◌+◌, ◌-◌, ℕ, suc, Bool, true, false, cond, ◌&&◌, List, [], ◌∷◌, ◌++◌, map, reverse, length, take, drop, get_or, Option, Some, None, Result, Ok, Err, refl, sym, ap, subst, arith, append_assoc}
use Rattle.std.specs.Prelude.{IfSome}
use Rattle.std.specs.List.{list_all}
use Rattle.std.proofs.lemmas.Option.{slice_get_read}
use Rattle.std.proofs.lemmas.Grind.{flat_map-append}
use Rattle.std.proofs.Math.Seq.{drop-cons}
use Rattle.std.proofs.lemmas.List.{append-nil, map-append, reverse-append}
use Rattle.std.proofs.lemmas.List.Folds.{list_all-append, list_all-map}
use Rattle.gx_model.specs.declared.objects.Kind.{Kind}
use Rattle.gx_model.specs.declared.objects.Kind.TheVariants as kinds
use Rattle.gx_model.specs.Changes.{all_changes, carrier_reset, closed_by, commit_ref, commits_with_changes, named_in, sending_commands, with_changes}
use Rattle.gx_model.specs.Export.{carrier, command_items, is_reached, items_text, ref_by, to_nothing}
use Rattle.gx_model.specs.Histories.{Records, Target}
use Rattle.gx_model.specs.Histories.Values.{Commit, Value}
use Rattle.gx_model.specs.Streams.Commands.{Command, Done}
use Rattle.gx_model.specs.Streams.Items.{Item}
use Rattle.gx_model.specs.Texts.{Bytes}
use Rattle.gx_model.specs.Texts.Sinks.{Taken}
use Rattle.gx_object.specs.declared.name.Name.{Name}
use Rattle.gx_objects.specs.declared.fault.LookFault.{LookFault}
use Rattle.gx_objects.specs.declared.fault.LookFault.TheVariants as look
use Rattle.gx_rev.specs.Objects.{IsHeldAs, commit_at}
use Rattle.gx_export.specs.ChangedParts.{closing, one_on, opening}
use Rattle.gx_export.specs.Outputs.{Delivers, Sent, StopsAt, Writes, most}
use Rattle.gx_export.specs.Texts.{command_text, items_of}
use Rattle.gx_export.specs.declared.fault.ExportFault.{ExportFault}
use Rattle.gx_export.specs.declared.fault.ExportFault.TheVariants.{OutOfMemory, Unsupported, WriteFailed}
use Rattle.gx_export.proofs.CommitLines.{passes_at}
use Rattle.gx_export.proofs.Writing.{nothing_yet, writes_none}
use Rattle.gx_export.proofs.ChangedLists.{changed_first, changed_items, changed_last, changed_parted, changes_append, one_items}
use Rattle.gx_sending.specs.Faults.{of_export, of_look, stopped}
use Rattle.gx_sending.specs.Marks.{Adds, HasWritten, IsWritten}
use Rattle.gx_sending.specs.declared.fault.SendFault.{SendFault}
use Rattle.gx_sending.specs.declared.written.Written.{Written}
use Rattle.gx_sending.proofs.Sending.{adds_bytes, adds_later, adds_nothing, listed_parts, sink_fails, stops_sooner}
use Rattle.gx_print.specs.Logs.{AreCommits}
use Rattle.gx_tips.specs.Tips.{targets}
use Rattle.gx_tips.specs.declared.tips.Tip.{Tip}
use Rattle.gx_branches.specs.Branches.{FindsBranches, all_reached, branch_at}
use Rattle.gx_branches.specs.declared.branches.Branches.{Branches}
use Rattle.gx_changes.specs.Commits.{AddsItems}
use Rattle.gx_changes.specs.Texts.{DeliversAll, behind_items, commits_sent}
use Rattle.gx_changes.proofs.SentRefs.{refs_items}

-- ---- the whole text

closed_parts : (closed : Bool) (cs : List Command) → items_of (closed_by closed cs) ≡ opening closed ++ (items_of cs ++ closing closed)
closed_parts true cs = ap (λ (is : List Item). opening true ++ is) (flat_map-append command_items cs (Done ∷ []) ∙ ap (λ (is : List Item). items_of cs ++ is) (append-nil (command_items Done)))
closed_parts false cs = sym (append-nil (items_of cs))

module _ (name : Kind → Bytes → Bytes) (closed : Bool) (sent : List Commit) (refs : List (Bytes × Target)) where
  abbrev pub commit_items : List Item
  commit_items = items_of (commits_with_changes name refs [] sent)

  abbrev pub all_items : List Item
  all_items = opening closed ++ (commit_items ++ behind_items name closed sent refs (all_changes sent))

  parts_of : items_of (closed_by closed (sending_commands name sent refs)) ≡ all_items
  parts_of =
      let commits = commits_with_changes name refs [] sent in
      let reset = carrier_reset refs sent in
      let last = map (ref_by (named_in name (all_changes sent))) refs in
      let inner : items_of (sending_commands name sent refs) ≡ items_of commits ++ (items_of reset ++ items_of last) =
      flat_map-append command_items commits (reset ++ last) ∙ ap (λ (is : List Item). items_of commits ++ is) (flat_map-append command_items reset last) in
      closed_parts closed (sending_commands name sent refs) ∙ ap (λ (is : List Item). opening closed ++ (is ++ closing closed)) inner
      ∙ ap (λ (is : List Item). opening closed ++ is) (append_assoc (items_of commits) (items_of reset ++ items_of last) (closing closed) ∙ ap (λ (is : List Item). items_of commits ++ is) (append_assoc (items_of reset) (items_of last) (closing closed)))

  delivered : (text : Bytes) (old new : Sent) (result : Result (Unit {0}) ExportFault) → old.bytes ≡ 0 → Writes old new text result → Delivers text text old.taken new.taken result
  delivered text old new (Ok x) z h =
      let start : old.bytes ≤ most = omega (arith, z) in
      let fits = h.1.1 start in
      let count = h.1.0 in
      (h.1.2, omega (arith, z, fits, count))
  delivered text old new (Err OutOfMemory) z h = h.1
  delivered text old new (Err Unsupported) z h = absurd h.1
  delivered text old new (Err (WriteFailed count)) z h = subst (λ n. StopsAt n count old.taken new.taken text) z h.1

  -- what goes out from the start is the text
  delivers : {W A : Type 0} (r : Records) (vs : List Value) (old new : Written W A) (result : Result (Unit {0}) SendFault) → old.output.bytes ≡ 0 → Adds vs all_items old new result r → DeliversAll name closed sent refs old.output.taken new.output.taken (stopped result)
  delivers r vs old new result z k =
      subst (λ is. Delivers (items_text is) (items_text is) old.output.taken new.output.taken (stopped result)) (sym parts_of) (delivered (items_text all_items) old.output new.output (stopped result) z k.text)

  -- ---- its parts, one behind the other

  module _ {W A : Type 0} (r : Records) (old : Written W A) (h : HasWritten r [] old) (after : Sent) where
    abbrev vs : List Value
    vs = all_changes sent

    abbrev behind : List Item
    behind = behind_items name closed sent refs (all_changes sent)

    opening_fails : (e : ExportFault) → Writes old.output after (items_text (opening closed)) (Err e) → Adds vs all_items old (record old { output = after }) (Err (of_export e)) r
    opening_fails e k = stops_sooner r [] vs (opening closed) (commit_items ++ behind) old (record old { output = after }) (of_export e) (sink_fails r [] (opening closed) old after e k)

    module _ (k : Writes old.output after (items_text (opening closed)) (Ok tt)) where
      opened : Adds [] (opening closed) old (record old { output = after }) (Ok tt) r
      opened = adds_bytes r [] (opening closed) old after h k

      commits_stop : (new : Written W A) (e : SendFault) → Adds vs commit_items (record old { output = after }) new (Err e) r → Adds vs all_items old new (Err e) r
      commits_stop new e c =
          adds_later r [] vs (opening closed) (commit_items ++ behind) old (record old { output = after }) new (Err e) opened (stops_sooner r vs vs commit_items behind (record old { output = after }) new e c)

      behind_out : (last new : Written W A) (result : Result (Unit {0}) SendFault) → Adds vs commit_items (record old { output = after }) last (Ok tt) r → Adds vs behind last new result r → Adds vs all_items old new result r
      behind_out last new result c b =
          adds_later r [] vs (opening closed) (commit_items ++ behind) old (record old { output = after }) new result opened
          (adds_later r vs vs commit_items behind (record old { output = after }) last new result c b)

-- ---- of the repository that is told

module _ {W A : Type 0} (name : Kind → Bytes → Bytes) (closed : Bool) (commits : List Name) (refs : List Tip) (old : Written W A) where
  abbrev pub AddsAll : Option Records → Written W A → Result (Unit {0}) SendFault → Type 0
  AddsAll told new result = IfSome told (λ r. Adds (all_changes (commits_sent r commits)) (all_items name closed (commits_sent r commits) (targets r refs)) old new result r)

  pub all_delivered : (told : Option Records) (new : Written W A) (result : Result (Unit {0}) SendFault) → old.output.bytes ≡ 0 → AddsAll told new result
      → IfSome told (λ r. DeliversAll name closed (commits_sent r commits) (targets r refs) old.output.taken new.output.taken (stopped result))
  all_delivered None new result z k = tt
  all_delivered (Some r) new result z k = delivers name closed (commits_sent r commits) (targets r refs) r (all_changes (commits_sent r commits)) old new result z k

  module _ {B : Type 0} (branches : Branches B) (none : (r : Records) → HasWritten r [] old) (after : Sent) where
    pub opening_stops : (told : Option Records) (e : ExportFault) → Writes old.output after (items_text (opening closed)) (Err e) → AddsAll told (record old { output = after }) (Err (of_export e))
    opening_stops None e k = tt
    opening_stops (Some r) e k = opening_fails name closed (commits_sent r commits) (targets r refs) r old (none r) after e k

    module _ (gone : Writes old.output after (items_text (opening closed)) (Ok tt)) where
      -- nothing was written behind the first line
      pub still_none : (told : Option Records) → IfSome told (λ r. HasWritten r [] (record old { output = after }))
      still_none None = tt
      still_none (Some r) = (adds_bytes r [] (opening closed) old after (none r) gone).written

      -- the commits go out, whatever refs they are on
      abbrev pub AddsCommits : Option Records → Written W A → Result (Unit {0}) SendFault → Type 0
      AddsCommits told new result = IfSome told (λ r. (refs : List Tip) → FindsBranches refs commits r branches
          → Adds (all_changes (commits_sent r commits)) (items_of (commits_with_changes name (targets r refs) [] (commits_sent r commits))) (record old { output = after }) new result r)

      pub commits_stop_told : (told : Option Records) (new : Written W A) (e : SendFault) → IfSome told (λ r. FindsBranches refs commits r branches) → AddsCommits told new (Err e) → AddsAll told new (Err e)
      commits_stop_told None new e b k = tt
      commits_stop_told (Some r) new e b k = commits_stop name closed (commits_sent r commits) (targets r refs) r old (none r) after gone new e (k refs b)

      pub behind_told : (told : Option Records) (last new : Written W A) (result : Result (Unit {0}) SendFault) → IfSome told (λ r. FindsBranches refs commits r branches) → AddsCommits told last (Ok tt)
          → IfSome told (λ r. (commits : List Name) → FindsBranches refs commits r branches → (ws : List Value) → HasWritten r ws last → Adds ws (behind_items name closed (commits_sent r commits) (targets r refs) ws) last new result r) → AddsAll told new result
      behind_told None last new result b k h = tt
      behind_told (Some r) last new result b k h =
          let c = k refs b in
          behind_out name closed (commits_sent r commits) (targets r refs) r old (none r) after gone last new result c (h commits b (all_changes (commits_sent r commits)) c.written)

-- ---- commits, the last of them first

module _ (r : Records) (commits : List Name) (i : ℕ) (called : Name) (l : i < length commits) (e : called ≡ get_or commits i called) where
  -- one more
  pub sent_next : commits_sent r (drop i commits) ≡ commits_sent r (drop (suc i) commits) ++ commit_at r called ∷ []
  sent_next = ap (commits_sent r) (dropped commits i called l e) ∙ reverse-append (commit_at r called ∷ []) (map (commit_at r) (drop (suc i) commits))
    where
      dropped : (xs : List Name) (i : ℕ) (x : Name) → i < length xs → x ≡ get_or xs i x → drop i xs ≡ x ∷ drop (suc i) xs
      dropped xs i x l e = drop-cons xs i x l ∙ ap (λ y. y ∷ drop (suc i) xs) (sym e)

  -- those that went out before, this one, and those behind it
  pub sent_parts : commits_sent r commits ≡ commits_sent r (drop (suc i) commits) ++ (commit_at r called ∷ commits_sent r (take i commits))
  sent_parts =
      let rest = drop (suc i) commits in
      let before = map (commit_at r) (take i commits) in
      ap (commits_sent r) (listed_parts commits i called l e) ∙ ap reverse (map-append (commit_at r) (take i commits) (called ∷ rest)) ∙ reverse-append before (map (commit_at r) (called ∷ rest))
      ∙ ap (λ cs. cs ++ reverse before) (reverse-append (commit_at r called ∷ []) (map (commit_at r) rest))
      ∙ append_assoc (commits_sent r (drop (suc i) commits)) (commit_at r called ∷ []) (commits_sent r (take i commits))

pub none_left : (xs : List Name) → drop (length xs) xs ≡ []
none_left [] = refl
none_left (x ∷ xs) = none_left xs

module _ {W A B : Type 0} (name : Kind → Bytes → Bytes) (commits : List Name) (branches : Branches B) (first : Written W A) where
  -- these commits went out
  pub record SentAs (cs : List Commit) (now : Written W A) (r : Records) : Type 0 where
    pub written : HasWritten r (all_changes cs) now
    pub adds : (refs : List Tip) → FindsBranches refs commits r branches → Adds (all_changes cs) (changed_items name (targets r refs) [] cs) first now (Ok tt) r

  -- those from a place on
  abbrev pub SentFrom : Written W A → ℕ → Records → Type 0
  SentFrom now i r = SentAs (commits_sent r (drop i commits)) now r

  pub none_sent : (told : Option Records) (i : ℕ) → i ≡ length commits → IfSome told (λ r. HasWritten r [] first) → IfSome told (SentFrom first i)
  none_sent None i e h = tt
  none_sent (Some r) i e h =
      let none : drop i commits ≡ [] = ap (λ n. drop n commits) e ∙ none_left commits in
      let nothing : SentAs [] first r = record { written = h; adds = λ refs f. adds_nothing r [] first h } in
      subst (λ xs. SentAs (commits_sent r xs) first r) (sym none) nothing

  pub sent_written : (told : Option Records) (i : ℕ) (now : Written W A) → IfSome told (SentFrom now i) → IfSome told (IsWritten now)
  sent_written None i now h = tt
  sent_written (Some r) i now h = (all_changes (commits_sent r (drop i commits)), h.written)

  pub all_sent : (told : Option Records) (i : ℕ) (now : Written W A) → i ≡ 0 → IfSome told (SentFrom now i)
      → IfSome told (λ r. (refs : List Tip) → FindsBranches refs commits r branches → Adds (all_changes (commits_sent r commits)) (changed_items name (targets r refs) [] (commits_sent r commits)) first now (Ok tt) r)
  all_sent None i now e h = tt
  all_sent (Some r) i now e h = (subst (λ n. SentFrom now n r) e h).adds

  module _ (i : ℕ) (called : Name) (l : i < length commits) (e : called ≡ get_or commits i called) (branch : Bytes) (on : branch ≡ branch_at branches i) (now new : Written W A) where
    abbrev AddsOne : Result (Unit {0}) SendFault → Records → Type 0
    AddsOne result r = (ws : List Value) → HasWritten r ws now → Adds (with_changes ws (commit_at r called)) (items_of (one_on name branch ws (commit_at r called))) now new result r

    -- this commit is on the ref that reaches it
    on_ref : (r : Records) (refs : List Tip) → FindsBranches refs commits r branches → branch ≡ commit_ref (targets r refs) (commit_at r called)
    on_ref r refs f = on ∙ f.found i called (slice_get_read commits (length commits) i called refl l e)

    one_more : (r : Records) → SentFrom now (suc i) r → AddsOne (Ok tt) r → SentFrom new i r
    one_more r h k =
        let cs = commits_sent r (drop (suc i) commits) in
        let c = commit_at r called in
        let us = all_changes cs in
        let one = k us h.written in
        let whole = changes_append [] cs (c ∷ []) in
        let more : SentAs (cs ++ c ∷ []) new r = record {
          written = subst (λ vs. HasWritten r vs new) (sym whole) one.written;
          adds = λ refs f.
              let on_it = subst (λ b. Adds (with_changes us c) (items_of (one_on name b us c)) now new (Ok tt) r) (on_ref r refs f) one in
              let both = adds_later r us (with_changes us c) (changed_items name (targets r refs) [] cs) (one_items name (targets r refs) us c) first now new (Ok tt) (h.adds refs f) on_it in
              subst (λ vs. Adds vs (changed_items name (targets r refs) [] (cs ++ c ∷ [])) first new (Ok tt) r) (sym whole)
              (subst (λ is. Adds (with_changes us c) is first new (Ok tt) r) (sym (changed_last name (targets r refs) cs c)) both);
        } in
        subst (λ ds. SentAs ds new r) (sym (sent_next r commits i called l e)) more

    one_stops : (fault : SendFault) (r : Records) → SentFrom now (suc i) r → AddsOne (Err fault) r
        → (refs : List Tip) → FindsBranches refs commits r branches → Adds (all_changes (commits_sent r commits)) (changed_items name (targets r refs) [] (commits_sent r commits)) first new (Err fault) r
    one_stops fault r h k refs f =
        let cs = commits_sent r (drop (suc i) commits) in
        let c = commit_at r called in
        let us = all_changes cs in
        let vs = all_changes (commits_sent r commits) in
        let rest = commits_sent r (take i commits) in
        let ts = targets r refs in
        let on_it = subst (λ b. Adds (with_changes us c) (items_of (one_on name b us c)) now new (Err fault) r) (on_ref r refs f) (k us h.written) in
        let sooner = stops_sooner r (with_changes us c) vs (one_items name ts us c) (changed_items name ts (with_changes us c) rest) now new fault on_it in
        let stop = adds_later r us vs (changed_items name ts [] cs) (one_items name ts us c ++ changed_items name ts (with_changes us c) rest) first now new (Err fault) (h.adds refs f) sooner in
        let parts = ap (changed_items name ts []) (sent_parts r commits i called l e) ∙ changed_parted name ts [] cs (c ∷ rest) ∙ ap (λ is. changed_items name ts [] cs ++ is) (changed_first name ts us c rest) in
        subst (λ is. Adds vs is first new (Err fault) r) (sym parts) stop

    pub one_more_told : (told : Option Records) → IfSome told (SentFrom now (suc i)) → IfSome told (AddsOne (Ok tt)) → IfSome told (SentFrom new i)
    one_more_told None h k = tt
    one_more_told (Some r) h k = one_more r h k

    pub one_stops_told : (told : Option Records) (fault : SendFault) → IfSome told (SentFrom now (suc i)) → IfSome told (AddsOne (Err fault))
        → IfSome told (λ r. (refs : List Tip) → FindsBranches refs commits r branches → Adds (all_changes (commits_sent r commits)) (changed_items name (targets r refs) [] (commits_sent r commits)) first new (Err fault) r)
    one_stops_told None fault h k = tt
    one_stops_told (Some r) fault h k = one_stops fault r h k

-- the commit at a place
pub commit_there : (told : Option Records) (commits : List Name) (i : ℕ) (called : Name) → i < length commits → called ≡ get_or commits i called → IfSome told (λ r. AreCommits r commits) → IfSome told (λ r. IsHeldAs kinds.Commit r called)
commit_there None commits i called l e h = tt
commit_there (Some r) commits i called l e h = passes_at (IsHeldAs kinds.Commit r) commits i called h (sym (slice_get_read commits (length commits) i called refl l e))

-- ---- behind the commits

and_swapped : (a b : Bool) → (a && (b && true)) ≡ (b && a)
and_swapped true true = refl
and_swapped true false = refl
and_swapped false true = refl
and_swapped false false = refl

-- all commits pass in any order
all_reversed : (P : Commit → Bool) (cs : List Commit) → list_all P (reverse cs) ≡ list_all P cs
all_reversed P [] = refl
all_reversed P (c ∷ cs) = ap (list_all P) (reverse-append (c ∷ []) cs) ∙ list_all-append P (reverse cs) (c ∷ []) ∙ ap (λ b. b && (P c && true)) (all_reversed P cs) ∙ and_swapped (list_all P cs) (P c)

module _ {B : Type 0} (branches : Branches B) (r : Records) (refs : List Tip) (commits : List Name) (f : FindsBranches refs commits r branches) where
  pub all_on_refs : all_reached branches ≡ list_all (is_reached (targets r refs)) (commits_sent r commits)
  all_on_refs = f.reached ∙ sym (list_all-map (is_reached (targets r refs)) (commit_at r) commits) ∙ sym (all_reversed (is_reached (targets r refs)) (map (commit_at r) commits))

  pub none_reset : (was : Sent) → true ≡ all_reached branches → Writes was was (items_text (items_of (carrier_reset (targets r refs) (commits_sent r commits)))) (Ok tt)
  none_reset was e =
      let none : List Command = [] in
      subst (λ b. Writes was was (items_text (items_of (cond b none (to_nothing carrier ∷ none)))) (Ok tt)) (e ∙ all_on_refs) (writes_none was)

  pub reset_out : (was now : Sent) (result : Result (Unit {0}) ExportFault) → false ≡ all_reached branches → Writes was now (command_text (to_nothing carrier)) result → Writes was now (items_text (items_of (carrier_reset (targets r refs) (commits_sent r commits)))) result
  reset_out was now result e k =
      let none : List Command = [] in
      subst (λ b. Writes was now (items_text (items_of (cond b none (to_nothing carrier ∷ none)))) result) (e ∙ all_on_refs)
      (subst (λ is. Writes was now (items_text is) result) (sym (append-nil (command_items (to_nothing carrier)))) k)

module _ {W A B : Type 0} (name : Kind → Bytes → Bytes) (closed : Bool) (refs : List Tip) (branches : Branches B) (old : Written W A) (after : Sent) where
  -- the carrier's reset goes out, where it is wanted
  abbrev pub ResetsCarrier : Result (Unit {0}) ExportFault → Type 0
  ResetsCarrier result = (r : Records) (refs : List Tip) (commits : List Name) → FindsBranches refs commits r branches → Writes old.output after (items_text (items_of (carrier_reset (targets r refs) (commits_sent r commits)))) result

  abbrev pub BehindOut : Option Records → Written W A → Result (Unit {0}) SendFault → Type 0
  BehindOut told new result = IfSome told (λ r. (commits : List Name) → FindsBranches refs commits r branches → AddsItems (λ r ws. behind_items name closed (commits_sent r commits) (targets r refs) ws) old new result r)

  pub carrier_stops : (told : Option Records) (e : ExportFault) → ResetsCarrier (Err e) → BehindOut told (record old { output = after }) (Err (of_export e))
  carrier_stops None e k = tt
  carrier_stops (Some r) e k = λ commits f ws h.
      let reset = items_of (carrier_reset (targets r refs) (commits_sent r commits)) in
      stops_sooner r ws ws reset (refs_items name refs r ws ++ closing closed) old (record old { output = after }) (of_export e) (sink_fails r ws reset old after e (k r refs commits f))

  module _ (k : ResetsCarrier (Ok tt)) where
    pub refs_stop : (told : Option Records) (new : Written W A) (e : SendFault) → IfSome told (AddsItems (refs_items name refs) (record old { output = after }) new (Err e)) → BehindOut told new (Err e)
    refs_stop None new e g = tt
    refs_stop (Some r) new e g = λ commits f ws h.
        let reset = items_of (carrier_reset (targets r refs) (commits_sent r commits)) in
        let first = adds_bytes r ws reset old after h (k r refs commits f) in
        adds_later r ws ws reset (refs_items name refs r ws ++ closing closed) old (record old { output = after }) new (Err e) first
        (stops_sooner r ws ws (refs_items name refs r ws) (closing closed) (record old { output = after }) new e (g ws first.written))

    module _ (last : Written W A) (end : Sent) where
      closing_with : (r : Records) (commits : List Name) → FindsBranches refs commits r branches → AddsItems (refs_items name refs) (record old { output = after }) last (Ok tt) r → (result : Result (Unit {0}) SendFault)
          → ((ws : List Value) → HasWritten r ws last → Adds ws (closing closed) last (record last { output = end }) result r) → AddsItems (λ r ws. behind_items name closed (commits_sent r commits) (targets r refs) ws) old (record last { output = end }) result r
      closing_with r commits f g result c = λ ws h.
          let reset = items_of (carrier_reset (targets r refs) (commits_sent r commits)) in
          let first = adds_bytes r ws reset old after h (k r refs commits f) in
          let with_refs = g ws first.written in
          adds_later r ws ws reset (refs_items name refs r ws ++ closing closed) old (record old { output = after }) (record last { output = end }) result first
          (adds_later r ws ws (refs_items name refs r ws) (closing closed) (record old { output = after }) last (record last { output = end }) result with_refs (c ws with_refs.written))

      pub closing_stops : (told : Option Records) (e : ExportFault) → IfSome told (AddsItems (refs_items name refs) (record old { output = after }) last (Ok tt)) → Writes last.output end (items_text (closing closed)) (Err e)
          → BehindOut told (record last { output = end }) (Err (of_export e))
      closing_stops None e g c = tt
      closing_stops (Some r) e g c = λ commits f. closing_with r commits f g (Err (of_export e)) (λ ws h. sink_fails r ws (closing closed) last end e c)

      pub closed_out : (told : Option Records) → IfSome told (AddsItems (refs_items name refs) (record old { output = after }) last (Ok tt)) → Writes last.output end (items_text (closing closed)) (Ok tt) → BehindOut told (record last { output = end }) (Ok tt)
      closed_out None g c = tt
      closed_out (Some r) g c = λ commits f. closing_with r commits f g (Ok tt) (λ ws h. adds_bytes r ws (closing closed) last end h c)

-- where the branches aren't found nothing goes out
module _ (name : Kind → Bytes → Bytes) (closed : Bool) (commits : List Name) (refs : List Tip) where
  pub not_begun : (told : Option Records) (e : LookFault) (was : Option Taken) → (e ≡ look.Damaged → told ≡ None) → IfSome told (λ r. DeliversAll name closed (commits_sent r commits) (targets r refs) was was (stopped (Err (of_look e))))
  not_begun None e was h = tt
  not_begun (Some r) look.OutOfMemory was h = nothing_yet was _
  not_begun (Some r) look.ReadFailed was h = nothing_yet was _
  not_begun (Some r) look.Damaged was h = absurd (let q : Some r ≡ None = h refl in cc q)
