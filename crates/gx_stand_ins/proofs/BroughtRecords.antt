-- What the import of a text into a small repository brings to the whole one.
use Rattle.std.proofs.Common.{◌≡◌, ℕ, ◌+◌, Bool, true, false, cond, List, [], ◌∷◌, ◌++◌, map, length, drop, append_assoc, Option, None, Some, Result, Ok, Err, refl, sym, ap, subst, ◌∙◌}
use Rattle.std.specs.Prelude.{IsTrue, T, ◌&&◌}
use Rattle.std.specs.Bool.{passes}
use Rattle.std.specs.List.{AllByRecursion, fold, list_all}
use Rattle.std.specs.Map.{lookup}
use Rattle.std.specs.Option.{option_map, option_or}
use Rattle.std.specs.Ordering.{is_lt}
use Rattle.std.specs.FinMap.Entries.{below_all, find, is_sorted, is_sorted-put, put, same_entries}
use Rattle.std.proofs.lemmas.List.{map-append}
use Rattle.gx_model.specs.declared.faults.Fault.{Fault}
use Rattle.gx_model.specs.declared.faults.Fault.TheVariants as fault
use Rattle.gx_model.specs.declared.features.Feature.TheVariants as feature
use Rattle.gx_model.specs.declared.features.Features.{Features}
use Rattle.gx_model.specs.declared.objects.Kind.{Kind}
use Rattle.gx_model.specs.Objects.{IsNamer}
use Rattle.gx_model.specs.Texts.{Bytes, byte_cmp, same_bytes}
use Rattle.gx_model.specs.Histories.Values.{Value, is_proper, parts}
use Rattle.gx_model.specs.Histories.{History, IsClosedAfter, IsHistory, IsIn, IsWhole, AreDistinct, Record, Records, StandsFor, Target, at_commit, at_tag, is_in, record_of, value_at, with_one}
use Rattle.gx_model.specs.Records.{name_of}
use Rattle.gx_model.specs.Records.Growth.{AreReady, put_all, with_values}
use Rattle.gx_model.specs.Records.HistoryOf.{history_of}
use Rattle.gx_model.specs.Records.Publishing.{with_changes}
use Rattle.gx_model.specs.Records.Sound.{IsSound}
use Rattle.gx_model.specs.Replay.{Outcome, Report, State, begun, ended, final, finished, imported_asked, is_fast_forward, refused, replayed, report, start, step}
use Rattle.gx_model.specs.Replay.ProperReplays.{IsProperCommand}
use Rattle.gx_model.specs.Streams.Commands.{Asks, Command}
use Rattle.gx_model.specs.Streams.Grammar.{asked, commands_asked}
use Rattle.gx_model.specs.Streams.Items.{items_of}
use Rattle.gx_model.specs.Laws.FeatureLaws.{asking}
use Rattle.gx_model.proofs.Histories.AddedValues.{is_in_is}
use Rattle.gx_model.proofs.ObjectTexts.OneTree.{all_right}
use Rattle.gx_model.proofs.Records.GrownRecords.{are_added, distinct_of, puts_add, whole_of}
use Rattle.gx_model.proofs.Records.HistoriesExist.{stands}
use Rattle.gx_model.proofs.Records.LinkedValues.{parts_in, proper_in}
use Rattle.gx_model.proofs.Records.OneHistory.{names_of_records}
use Rattle.gx_model.proofs.Replay.HistorySteps.{replays_give}
use Rattle.gx_model.proofs.Streams.AskedFeatures.{commands_are_asked}
use Rattle.gx_model.proofs.Streams.ReadCommands.{all_proper}
use Rattle.gx_model.proofs.Texts.PathTests.{both, first, is_true, same_is, second}
use Rattle.gx_model.proofs.Texts.TextMaps.{lookup_is, none_below, order, same_text}
use Rattle.gx_stand_ins.specs.SmallRepositories.{IsSmallOf, stand_ins, stand_name}
use Rattle.gx_stand_ins.specs.StandIns.{StandIns, ValueKeepsName, whole_target, whole_value}
use Rattle.gx_stand_ins.specs.StandInLaws.{GrewAlike, StandInsBring, whole_refs, whole_report, with_refs_set}
use Rattle.gx_stand_ins.proofs.EachValue.{each, each_lookup}
use Rattle.gx_stand_ins.proofs.LedNames.{found_put}
use Rattle.gx_stand_ins.proofs.LedReplays.{told}
use Rattle.gx_stand_ins.proofs.SmallAsked.{asked_alike, is_small, small_ref, whole_ref}
use Rattle.gx_stand_ins.proofs.StoodFor.{stand_trees}
use Rattle.gx_stand_ins.specs.StandInNames.{stand_is_namer}
use Rattle.gx_stand_ins.proofs.WholeNames.{value_alike}

-- ---- replays give histories, whatever features are asked for

module _ (name : Kind → Bytes → Bytes) where
  renumbered_end : (n m : ℕ) (s : State) (end : Option Fault) (h : History) (x : Bytes) (r : Report) → ended n s end ≡ finished h x r → (q : Report) × (ended m s end ≡ finished h x q)
  renumbered_end n m s (Some e) h x r k = absurd (cc)
  renumbered_end n m s None h x r k = by (is_fast_forward s) k
    where
      by : (b : Bool) → cond b (finished (final s) s.progress (report n s)) (refused (n + 1) fault.NotFastForward s.progress s.kept) ≡ finished h x r
          → (q : Report) × (cond b (finished (final s) s.progress (report m s)) (refused (m + 1) fault.NotFastForward s.progress s.kept) ≡ finished h x q)
      by true l = (report m s, cc l)
      by false l = absurd (cc)

  renumbered : (n m : ℕ) (s : State) (cs : List Command) (end : Option Fault) (h : History) (x : Bytes) (r : Report) → replayed name n s cs end ≡ finished h x r → (q : Report) × (replayed name m s cs end ≡ finished h x q)
  renumbered n m s [] end h x r k = renumbered_end n m s end h x r k
  renumbered n m s (c ∷ cs) end h x r k = by (step name s c) k (λ t l. renumbered (n + 1) (m + 1) t cs end h x r l)
    where
      by : (a : Result State Fault) → elim a as (λ _. Outcome) [ Ok t ↦ replayed name (n + 1) t cs end | Err e ↦ refused (n + 1) e s.progress s.kept ] ≡ finished h x r
          → ((t : State) → replayed name (n + 1) t cs end ≡ finished h x r → (q : Report) × (replayed name (m + 1) t cs end ≡ finished h x q))
          → (q : Report) × (elim a as (λ _. Outcome) [ Ok t ↦ replayed name (m + 1) t cs end | Err e ↦ refused (m + 1) e s.progress s.kept ] ≡ finished h x q)
      by (Ok t) l rest = rest t l
      by (Err e) l rest = absurd (cc)

  -- commands whose parts have their forms leave a history one
  begun_gives : (f : Features) (h k : History) (cs : List Command) (end : Option Fault) (x : Bytes) (r : Report) → IsHistory h → AllByRecursion IsProperCommand cs → replayed name 0 (begun f h) cs end ≡ finished k x r → IsHistory k
  begun_gives f h k cs end x r is proper e = by f.force e
    where
      by : (forced : Bool) → replayed name 0 (record (start h) { is_forced = forced }) cs end ≡ finished k x r → IsHistory k
      by false l = replays_give name h k cs end 0 x r is proper l
      by true l =
          let again = renumbered 0 1 (record (start h) { is_forced = true }) cs end k x r l in
          replays_give name h k (Asks feature.Force ∷ cs) end 0 x again.0 is (tt, proper) again.1

asked_proper : (f : Features) (text : Bytes) (fails : Bool) → AllByRecursion IsProperCommand (commands_asked f (items_of text fails)).list
asked_proper f text fails =
    all_right IsProperCommand (asked f) (commands_asked f (items_of text fails)).list
    (subst (λ cs. AllByRecursion IsProperCommand cs.list) (commands_are_asked f (items_of text fails)) (all_proper (asking f (items_of text fails))))

-- ---- values that make whole ones are ready

closed_front : (before vs ws : List Value) → IsClosedAfter before (vs ++ ws) → IsClosedAfter before vs
closed_front before [] ws h = tt
closed_front before (v ∷ vs) ws h = (h.0, h.1, closed_front (before ++ v ∷ []) vs ws h.2)

whole_front : (vs ws : List Value) → IsWhole (vs ++ ws) → IsWhole vs
whole_front vs ws h = record { closed = closed_front [] vs ws h.closed; proper = is_true _ (proper_front vs ws (passes _ h.proper)) }
  where
    proper_front : (vs ws : List Value) → T (list_all is_proper (vs ++ ws)) → T (list_all is_proper vs)
    proper_front [] ws p = tt
    proper_front (v ∷ vs) ws p = both (is_proper v) _ (first _ _ p) (proper_front vs ws (second (is_proper v) _ p))

closed_last : (before vs : List Value) (w : Value) → IsClosedAfter before (vs ++ w ∷ []) → AllByRecursion (IsIn (before ++ vs)) (parts w)
closed_last before [] w h = subst (λ xs. AllByRecursion (IsIn xs) (parts w)) (sym (none_more before)) h.1
  where
    none_more : (us : List Value) → us ++ [] ≡ us
    none_more [] = refl
    none_more (u ∷ us) = ap (λ z. u ∷ z) (none_more us)
closed_last before (v ∷ vs) w h = subst (λ xs. AllByRecursion (IsIn xs) (parts w)) (append_assoc before (v ∷ []) vs) (closed_last (before ++ v ∷ []) vs w h.2)

fold_front : (ws vs : List Value) → (more : List Value) × (fold with_one vs ws ≡ vs ++ more)
fold_front [] vs = ([], sym (none_more vs))
  where
    none_more : (us : List Value) → us ++ [] ≡ us
    none_more [] = refl
    none_more (u ∷ us) = ap (λ z. u ∷ z) (none_more us)
fold_front (w ∷ ws) vs = by (is_in vs w) (fold_front ws)
  where
    by : (b : Bool) → ((us : List Value) → (more : List Value) × (fold with_one us ws ≡ us ++ more)) → (more : List Value) × (fold with_one (cond b vs (vs ++ w ∷ [])) ws ≡ vs ++ more)
    by true rest = rest vs
    by false rest = let r = rest (vs ++ w ∷ []) in (w ∷ r.0, r.1 ∙ append_assoc vs (w ∷ []) r.0)

ready : (ws vs : List Value) → IsWhole vs → IsWhole (fold with_one vs ws) → AreReady vs ws
ready [] vs h k = tt
ready (w ∷ ws) vs h k =
    let front = fold_front ws (with_one vs w) in
    let one : IsWhole (with_one vs w) = whole_front (with_one vs w) front.0 (subst IsWhole front.1 k) in
    let known = by (is_in vs w) refl one in
    (known.0, known.1, ready ws (with_one vs w) one k)
  where
    last_proper : (us : List Value) → T (list_all is_proper (us ++ w ∷ [])) → T (is_proper w)
    last_proper [] p = first (is_proper w) true p
    last_proper (u ∷ us) p = last_proper us (second (is_proper u) _ p)

    by : (b : Bool) → is_in vs w ≡ b → IsWhole (cond b vs (vs ++ w ∷ [])) → IsTrue (is_proper w) × AllByRecursion (IsIn vs) (parts w)
    by true e one = let there = is_in_is vs w (passes _ e) in (is_true _ (proper_in vs w (passes _ h.proper) there), parts_in vs w h there)
    by false e one = (is_true _ (last_proper vs (passes _ one.proper)), closed_last [] vs w one.closed)

-- ---- refs by names

module _ {X Y : Type 0} (g : X → Y) where
  each_below : (p : Bytes) (es : List (Bytes × X)) → below_all byte_cmp p (each g es) ≡ below_all byte_cmp p es
  each_below p [] = refl
  each_below p (e ∷ es) = ap (λ b. is_lt (byte_cmp p e.0) && b) (each_below p es)

  each_sorted : (es : List (Bytes × X)) → is_sorted byte_cmp (each g es) ≡ is_sorted byte_cmp es
  each_sorted [] = refl
  each_sorted (e ∷ es) = λ i. each_below e.0 es i && each_sorted es i

changes_sorted : (cs rs : List (Bytes × Bytes)) → T (is_sorted byte_cmp rs) → T (is_sorted byte_cmp (with_changes rs cs))
changes_sorted [] rs h = h
changes_sorted (c ∷ cs) rs h = changes_sorted cs (put byte_cmp c.0 c.1 rs) (is_sorted-put byte_cmp order c.0 c.1 rs h)

changes_found : (q : Bytes) (cs rs : List (Bytes × Bytes)) → T (is_sorted byte_cmp cs) → lookup (same_bytes q) (with_changes rs cs) ≡ option_or (lookup (same_bytes q) cs) (lookup (same_bytes q) rs)
changes_found q [] rs h = refl
changes_found q (c ∷ cs) rs h =
    changes_found q cs (put byte_cmp c.0 c.1 rs) (second (below_all byte_cmp c.0 cs) _ h) ∙ ap (option_or (lookup (same_bytes q) cs)) (found_put c.0 c.1 rs q) ∙ by (same_bytes q c.0) refl
  where
    by : (b : Bool) → same_bytes q c.0 ≡ b → option_or (lookup (same_bytes q) cs) (cond b (Some c.1) (lookup (same_bytes q) rs)) ≡ option_or (cond b (Some c.1) (lookup (same_bytes q) cs)) (lookup (same_bytes q) rs)
    by false e = refl
    by true e =
        let none : lookup (same_bytes q) cs ≡ None = lookup_is q cs ∙ ap (λ p. find byte_cmp p cs) (same_is q c.0 (passes _ e)) ∙ none_below c.0 cs (first _ _ h) in
        ap (λ o. option_or o (Some c.1)) none

module _ (name : Kind → Bytes → Bytes) (namer : IsNamer name) (nonce : Bytes) (whole : Records) (sound : IsSound name whole)
    (small : Records) (small_sound : IsSound (stand_name nonce name) small) (of_whole : IsSmallOf nonce whole small) where
  abbrev stand : Kind → Bytes → Bytes
  stand = stand_name nonce name

  abbrev ins : StandIns
  ins = stand_ins nonce whole.records

  abbrev hs : History
  hs = history_of small

  abbrev hb : History
  hb = history_of whole

  abbrev small_name : Target → Bytes
  small_name t = name_of stand (value_at t)

  abbrev whole_name : Target → Bytes
  whole_name t = name_of name (value_at t)

  abbrev Refs : Type 0
  Refs = List (Bytes × Target)

  -- what is found in the refs of both, by the names of objects
  abbrev AreJoined : Refs → Refs → Bytes → Type 0
  AreJoined rs ss q = option_map whole_name (lookup (same_bytes q) ss) ≡ option_or (option_map small_name (lookup (same_bytes q) rs)) (lookup (same_bytes q) whole.refs)

  target_named : (t : Target) → ValueKeepsName stand name ins (value_at t) → whole_name (whole_target ins t) ≡ small_name t
  target_named t h = ap (name_of name) (target_value t) ∙ sym (value_alike stand name (stand_trees nonce name) ins (value_at t) h)
    where
      target_value : (t : Target) → value_at (whole_target ins t) ≡ whole_value ins (value_at t)
      target_value (at_commit c) = refl
      target_value (at_tag t) = refl

  put_joined : (q n : Bytes) (t : Target) → ValueKeepsName stand name ins (value_at t) → (rs ss : Refs) → AreJoined rs ss q → AreJoined (put byte_cmp n t rs) (put byte_cmp n (whole_target ins t) ss) q
  put_joined q n t k rs ss h =
      ap (option_map whole_name) (found_put n (whole_target ins t) ss q) ∙ by (same_bytes q n) ∙ ap (λ o. option_or (option_map small_name o) (lookup (same_bytes q) whole.refs)) (sym (found_put n t rs q))
    where
      by : (b : Bool) → option_map whole_name (cond b (Some (whole_target ins t)) (lookup (same_bytes q) ss)) ≡ option_or (option_map small_name (cond b (Some t) (lookup (same_bytes q) rs))) (lookup (same_bytes q) whole.refs)
      by true = ap Some (target_named t k)
      by false = h

  all_joined : (sets : Refs) → AllByRecursion (λ r. ValueKeepsName stand name ins (value_at r.1)) sets → (rs ss : Refs) (q : Bytes) → AreJoined rs ss q → AreJoined (with_refs_set rs sets) (with_refs_set ss (whole_refs ins sets)) q
  all_joined [] k rs ss q h = h
  all_joined (r ∷ sets) k rs ss q h = all_joined sets k.1 (put byte_cmp r.0 r.1 rs) (put byte_cmp r.0 (whole_target ins r.1) ss) q (put_joined q r.0 r.1 k.0 rs ss h)

  small_in_whole : (rs : List (Bytes × Bytes)) → AllByRecursion (λ r. lookup (same_bytes r.0) whole.refs ≡ Some r.1) rs → (q : Bytes) → lookup (same_bytes q) whole.refs ≡ option_or (lookup (same_bytes q) rs) (lookup (same_bytes q) whole.refs)
  small_in_whole [] h q = refl
  small_in_whole (r ∷ rs) h q = by (same_bytes q r.0) refl (small_in_whole rs h.1 q)
    where
      by : (b : Bool) → same_bytes q r.0 ≡ b → lookup (same_bytes q) whole.refs ≡ option_or (lookup (same_bytes q) rs) (lookup (same_bytes q) whole.refs)
          → lookup (same_bytes q) whole.refs ≡ option_or (cond b (Some r.1) (lookup (same_bytes q) rs)) (lookup (same_bytes q) whole.refs)
      by true e rest = ap (λ p. lookup (same_bytes p) whole.refs) (same_is q r.0 (passes _ e)) ∙ h.0
      by false e rest = rest

  first_joined : (q : Bytes) → AreJoined hs.refs hb.refs q
  first_joined q =
      sym (whole_ref name namer nonce whole sound small small_sound of_whole q) ∙ small_in_whole small.refs of_whole.refs q
      ∙ ap (λ o. option_or o (lookup (same_bytes q) whole.refs)) (small_ref name namer nonce whole sound small small_sound of_whole q)

  module _ (small_now : Records) (h k : History) (small_stands : StandsFor stand small_now h) (grew : GrewAlike stand name ins hs hb h k) (history : IsHistory k) where
    joined : (q : Bytes) → AreJoined h.refs k.refs q
    joined q = subst (λ ss. AreJoined h.refs ss q) (sym grew.whole_refs) (subst (λ rs. AreJoined rs (with_refs_set hb.refs (whole_refs ins grew.sets)) q) (sym grew.small_refs) (all_joined grew.sets grew.named hs.refs hb.refs q (first_joined q)))

    now_sorted : T (is_sorted byte_cmp small_now.refs)
    now_sorted = subst (λ rs. T (is_sorted byte_cmp rs)) (sym small_stands.refs) (subst T (sym (each_sorted small_name h.refs)) (passes _ small_stands.history.sorted))

    -- the refs of what the whole import gives
    refs_brought : with_changes whole.refs small_now.refs ≡ map (λ ref. (ref.0, whole_name ref.1)) k.refs
    refs_brought =
        same_entries byte_cmp order same_text (with_changes whole.refs small_now.refs) (each whole_name k.refs)
        (changes_sorted small_now.refs whole.refs (passes _ sound.sorted)) (subst T (sym (each_sorted whole_name k.refs)) (passes _ history.sorted))
        (λ q. sym (lookup_is q (with_changes whole.refs small_now.refs)) ∙ changes_found q small_now.refs whole.refs now_sorted
        ∙ ap (λ o. option_or o (lookup (same_bytes q) whole.refs)) (ap (lookup (same_bytes q)) small_stands.refs ∙ each_lookup small_name (same_bytes q) h.refs)
        ∙ sym (joined q) ∙ sym (each_lookup whole_name (same_bytes q) k.refs) ∙ lookup_is q (each whole_name k.refs))

    dropped : (xs ys : List Record) → drop (length xs) (xs ++ ys) ≡ ys
    dropped [] ys = refl
    dropped (x ∷ xs) ys = dropped xs ys

    records_same : (vs : List Value) → AllByRecursion (λ v. record_of stand v ≡ record_of name (whole_value ins v)) vs → map (record_of stand) vs ≡ map (record_of name) (map (whole_value ins) vs)
    records_same [] e = refl
    records_same (v ∷ vs) e = λ i. e.0 i ∷ records_same vs e.1 i

    -- the records that the small import added
    new_records : drop (length small.records) small_now.records ≡ map (record_of name) (map (whole_value ins) grew.new)
    new_records =
        let before : small.records ≡ map (record_of stand) hs.values = (stands stand (stand_is_namer nonce name namer) small small_sound).records in
        let now : small_now.records ≡ small.records ++ map (record_of stand) grew.new =
        small_stands.records ∙ ap (map (record_of stand)) grew.small_values ∙ map-append (record_of stand) hs.values grew.new ∙ ap (λ rs. rs ++ map (record_of stand) grew.new) (sym before) in
        ap (drop (length small.records)) now ∙ dropped small.records (map (record_of stand) grew.new) ∙ records_same grew.new grew.records

    brought : (records : List Record) → put_all whole.records (drop (length small.records) small_now.records) ≡ Some records → StandsFor name (record { records = records; refs = with_changes whole.refs small_now.refs }) k
    brought records e =
        let ws = map (whole_value ins) grew.new in
        let s = stands name namer whole sound in
        let base = whole_of name namer hb s.history in
        let can = ready ws hb.values base (subst IsWhole grew.whole_values (whole_of name namer k history)) in
        by (with_values name hb.values ws) refl can (sym (puts_add name namer whole sound ws can) ∙ ap (put_all whole.records) (sym new_records) ∙ e)
      where
        by : (o : Option (List Value)) → with_values name hb.values (map (whole_value ins) grew.new) ≡ o → AreReady hb.values (map (whole_value ins) grew.new) → option_map (map (record_of name)) o ≡ Some records
            → StandsFor name (record { records = records; refs = with_changes whole.refs small_now.refs }) k
        by None l can m = absurd (cc)
        by (Some us) l can m =
            let s = stands name namer whole sound in
            let a = are_added name namer (map (whole_value ins) grew.new) hb.values us (whole_of name namer hb s.history) (distinct_of name namer whole hb s) can l in
            let values : us ≡ k.values = a.added ∙ sym grew.whole_values in
            let same : map (record_of name) us ≡ records = cc m in
            record {
              history = history;
              records = sym same ∙ ap (map (record_of name)) values;
              distinct = subst (λ rs. AreDistinct (map (λ x. x.name) rs)) same (subst AreDistinct (sym (names_of_records name namer us)) a.distinct);
              refs = refs_brought;
            }

pub bring : (name : Kind → Bytes → Bytes) → IsNamer name → StandInsBring name
unfolding imported_asked
bring name namer nonce whole small small_now sound small_sound of_whole features text fails asks h progress counts e small_stands =
    let commands = commands_asked features (items_of text fails) in
    let found = told (stand_name nonce name) name namer (stand_trees nonce name) (stand_ins nonce whole.records) (history_of small) (history_of whole) h (is_small name namer nonce whole sound small small_sound of_whole)
    features commands.list commands.fault (asked_alike name namer nonce whole sound small small_sound of_whole commands.list asks (asked_proper features text fails)) progress counts e in
    let history = begun_gives name features (history_of whole) found.0 commands.list commands.fault progress (whole_report (history_of whole) found.0 counts) (stands name namer whole sound).history (asked_proper features text fails) found.1 in
    (found.0, found.1, brought name namer nonce whole sound small small_sound of_whole small_now h found.0 small_stands found.2 history)
