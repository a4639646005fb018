-- What two repositories tell alike by the names of their objects, their histories tell alike.
use Rattle.std.proofs.Common.{◌≡◌, true, false, cond, List, [], ◌∷◌, Option, None, Some, Result, Ok, Err, refl, sym, ap, ◌∙◌}
use Rattle.std.specs.Prelude.{IfOk, IfSome}
use Rattle.std.specs.List.{AllByRecursion}
use Rattle.std.specs.Map.{lookup}
use Rattle.std.specs.Option.{option_map}
use Rattle.gx_model.specs.declared.faults.Fault.{Fault}
use Rattle.gx_model.specs.declared.objects.Kind.{Kind}
use Rattle.gx_model.specs.declared.objects.Kind.TheVariants as kind
use Rattle.gx_model.specs.Faults.{◌>>=◌}
use Rattle.gx_model.specs.Objects.{IsNamer, commit_text, text_lines}
use Rattle.gx_model.specs.Texts.{Bytes, same_bytes}
use Rattle.gx_model.specs.Histories.Values.{CommitText, Value}
use Rattle.gx_model.specs.Histories.{History, IsIn, Records, StandsFor, Target, at_commit, at_tag, value_at}
use Rattle.gx_model.specs.Records.{name_of}
use Rattle.gx_model.specs.Records.HistoryOf.{bytes_of_blob, history_of, value_of_name}
use Rattle.gx_model.specs.Records.Sound.{IsSound}
use Rattle.gx_model.specs.Revisions.Denotation.{base_value, ref_at, ref_names}
use Rattle.gx_model.specs.Replay.ProperReplays.{IsProperCommand}
use Rattle.gx_model.specs.Streams.Commands as command
use Rattle.gx_model.specs.Streams.Commands.{Asks, Blob, Change, Checkpoint, Clear, Command, CommitIsh, Copy, Done, Inline, Mark, Marked, Modify, Named, Object, OptionLine, Progress, Remove, Rename, Reset}
use Rattle.gx_model.proofs.Export.KeptCommits.{all_in, each_in}
use Rattle.gx_model.proofs.Records.HistoriesExist.{stands}
use Rattle.gx_model.proofs.Replay.GivenCommits.{base_kept}
use Rattle.gx_stand_ins.specs.Asked.{IsAlike, IsAlikeBase, IsAlikeRef, OfCommand}
use Rattle.gx_stand_ins.specs.MoreAsked.{commands_more}
use Rattle.gx_stand_ins.specs.SmallRepositories.{AsksAlike, BeginsOtherwise, IsSameBase, IsSameRef, IsSmallOf, commit_front, elders_held, name_behind, stand_ins, stand_name}
use Rattle.gx_stand_ins.specs.StandIns.{AreOwnBytes, AreOwnTexts, StandIns, ValueKeepsName, whole_target, whole_value}
use Rattle.gx_stand_ins.specs.StandInLaws.{IsSmall}
use Rattle.gx_stand_ins.proofs.EachValue.{each_lookup}
use Rattle.gx_stand_ins.proofs.SmallHistories.{IsGood, small_good, told}
use Rattle.gx_stand_ins.proofs.StoodFor.{IsOwnText, commit_stood_for, named_own, no_stand_in, none_behind, stand_trees, stood_by, text_proper}
use Rattle.gx_stand_ins.specs.StandInNames.{stand_is_namer}
use Rattle.gx_stand_ins.proofs.WholeNames.{value_alike}

-- ---- a small repository and the whole one

module _ (name : Kind → Bytes → Bytes) (namer : IsNamer name) (nonce : Bytes) (whole : Records) (sound : IsSound name whole)
    (small : Records) (small_sound : IsSound (stand_name nonce name) small) (of_whole : IsSmallOf nonce whole small) where
  abbrev stand : Kind → Bytes → Bytes
  stand = stand_name nonce name

  abbrev ins : StandIns
  ins = stand_ins nonce whole.records

  abbrev hs : History
  hs = history_of small

  abbrev hb : History
  hb = history_of whole

  small_stands : StandsFor stand small hs
  small_stands = stands stand (stand_is_namer nonce name namer) small small_sound

  whole_stands : StandsFor name whole hb
  whole_stands = stands name namer whole sound

  good : AllByRecursion (IsGood name namer nonce whole sound) hs.values
  good = small_good name namer nonce whole sound small small_sound of_whole

  -- a value of the small history stands for that of its name
  pub stands_for_named : (v w : Value) → IsIn hs.values v → IsIn hb.values w → name_of stand v ≡ name_of name w → w ≡ whole_value ins v
  stands_for_named v w i j e =
      let g = all_in (IsGood name namer nonce whole sound) hs.values v good i in
      told name namer nonce whole sound w (whole_value ins v) j g.0 (sym e ∙ value_alike stand name (stand_trees nonce name) ins v g.1)

  target_value : (t : Target) → value_at (whole_target ins t) ≡ whole_value ins (value_at t)
  target_value (at_commit c) = refl
  target_value (at_tag t) = refl

  one_target : (t u : Target) → value_at t ≡ value_at u → t ≡ u
  one_target (at_commit c) (at_commit d) e = let same : c ≡ d = cc in ap at_commit same
  one_target (at_tag t) (at_tag u) e = let same : t ≡ u = cc in ap at_tag same
  one_target (at_commit c) (at_tag u) e = absurd (cc)
  one_target (at_tag t) (at_commit d) e = absurd (cc)

  found_in : (vs : List Value) (rs : List (Bytes × Target)) → AllByRecursion (λ r. IsIn vs (value_at r.1)) rs → (q : Bytes) → IfSome (lookup (same_bytes q) rs) (λ t. IsIn vs (value_at t))
  found_in vs [] h q = tt
  found_in vs (r ∷ rs) h q = elim (same_bytes q r.0) as (λ b. IfSome (cond b (Some r.1) (lookup (same_bytes q) rs)) (λ t. IsIn vs (value_at t))) [ true ↦ h.0 | false ↦ found_in vs rs h.1 q ]

  -- what a ref has, by the name of its object
  pub small_ref : (q : Bytes) → lookup (same_bytes q) small.refs ≡ option_map (λ t. name_of stand (value_at t)) (ref_at hs q)
  small_ref q = ap (lookup (same_bytes q)) small_stands.refs ∙ each_lookup (λ t. name_of stand (value_at t)) (same_bytes q) hs.refs

  pub whole_ref : (q : Bytes) → lookup (same_bytes q) whole.refs ≡ option_map (λ t. name_of name (value_at t)) (ref_at hb q)
  whole_ref q = ap (lookup (same_bytes q)) whole_stands.refs ∙ each_lookup (λ t. name_of name (value_at t)) (same_bytes q) hb.refs

  pub alike_ref : (q : Bytes) → IsSameRef whole small q → IsAlikeRef stand name ins hs hb q
  alike_ref q e = by (ref_at hs q) (ref_at hb q) (found_in hs.values hs.refs small_stands.history.held q) (found_in hb.values hb.refs whole_stands.history.held q) (sym (small_ref q) ∙ e ∙ whole_ref q)
    where
      by : (o p : Option Target) → IfSome o (λ t. IsIn hs.values (value_at t)) → IfSome p (λ t. IsIn hb.values (value_at t))
          → option_map (λ t. name_of stand (value_at t)) o ≡ option_map (λ t. name_of name (value_at t)) p → p ≡ option_map (whole_target ins) o
      by None None i j k = refl
      by None (Some u) i j k = absurd (cc)
      by (Some t) None i j k = absurd (cc)
      by (Some t) (Some u) i j k =
          let same : name_of stand (value_at t) ≡ name_of name (value_at u) = cc in
          ap Some (one_target u (whole_target ins t) (stands_for_named (value_at t) (value_at u) i j same ∙ sym (target_value t)))

  alike_refs : (qs : List Bytes) → AllByRecursion (IsSameRef whole small) qs → AllByRecursion (IsAlikeRef stand name ins hs hb) qs
  alike_refs [] h = tt
  alike_refs (q ∷ qs) h = (alike_ref q h.0, alike_refs qs h.1)

  alike_base : (x : Bytes) → IsSameBase name nonce whole small x → IsAlikeBase stand name ins hs hb x
  alike_base x h = record {
    refs = alike_refs (ref_names x) h.refs;
    value = by (base_value stand hs x) (base_value name hb x)
        (base_kept (IsIn hs.values) stand hs (each_in (IsIn hs.values) hs.values (λ u i. i)) small_stands.history.held x)
        (base_kept (IsIn hb.values) name hb (each_in (IsIn hb.values) hb.values (λ u i. i)) whole_stands.history.held x) h.value;
  }
    where
      by : (r q : Result Value Fault) → IfOk r (IsIn hs.values) → IfOk q (IsIn hb.values) → (r >>= λ v. Ok (name_of stand v)) ≡ (q >>= λ v. Ok (name_of name v)) → q ≡ (r >>= λ v. Ok (whole_value ins v))
      by (Ok v) (Ok w) i j k = let same : name_of stand v ≡ name_of name w = cc in ap Ok (stands_for_named v w i j same)
      by (Ok v) (Err e) i j k = absurd (cc)
      by (Err e) (Ok w) i j k = absurd (cc)
      by (Err e) (Err f) i j k = let same : e ≡ f = cc in ap Err (sym same)

  own_bytes : (x : Bytes) → BeginsOtherwise nonce x → AreOwnBytes stand name ins x
  own_bytes x h = let e = none_behind nonce x h in record { same = ap (λ o. elim o as (λ _. Bytes) [ None ↦ x | Some called ↦ bytes_of_blob (value_of_name whole.records called) ]) e; named = named_own nonce name kind.Blob x e }

  own_texts : (t : CommitText) → IsOwnText nonce t → AreOwnTexts stand name ins t
  own_texts t h =
      let e = no_stand_in nonce t h.0 h.1 in
      record { same = ap (option_map (elders_held whole.records)) e; named = λ p same tree parents. named_own nonce name kind.Commit (commit_text p) (commit_stood_for nonce p tree ∙ by e p.parents p.text same) }
    where
      by : name_behind (commit_front nonce) (text_lines t) ≡ None → (ns : List Bytes) (u : CommitText) → u ≡ t → stood_by nonce ns u ≡ None
      by e [] u same = ap (λ v. name_behind (commit_front nonce) (text_lines v)) same ∙ e
      by e (n ∷ ns) u same = refl

  -- commands that ask and bring so, and whose parts have their forms
  pub asked_alike : (cs : List Command) → AllByRecursion (AsksAlike name nonce whole small) cs → AllByRecursion IsProperCommand cs → AllByRecursion (IsAlike stand name ins hs hb) cs
  asked_alike cs h proper =
      commands_more (IsSameRef whole small) (IsAlikeRef stand name ins hs hb) (IsSameBase name nonce whole small) (IsAlikeBase stand name ins hs hb)
      (BeginsOtherwise nonce) (AreOwnBytes stand name ins) (IsOwnText nonce) (AreOwnTexts stand name ins) alike_ref alike_base own_bytes own_texts cs (all_proper cs h proper)
    where
      one_proper : (c : Command) → AsksAlike name nonce whole small c → IsProperCommand c → OfCommand (IsSameRef whole small) (IsSameBase name nonce whole small) (BeginsOtherwise nonce) (IsOwnText nonce) c
      one_proper (Blob b) h k = h
      one_proper (command.Commit c) h k = record { ref = h.ref; text = (h.text, text_proper c k); parent = h.parent; merges = h.merges; changes = h.changes }
      one_proper (command.Tag t) h k = h
      one_proper (Reset r) h k = h
      one_proper Checkpoint h k = tt
      one_proper (Progress x) h k = tt
      one_proper (Asks f) h k = tt
      one_proper (OptionLine x) h k = tt
      one_proper Done h k = tt

      all_proper : (cs : List Command) → AllByRecursion (AsksAlike name nonce whole small) cs → AllByRecursion IsProperCommand cs
          → AllByRecursion (OfCommand (IsSameRef whole small) (IsSameBase name nonce whole small) (BeginsOtherwise nonce) (IsOwnText nonce)) cs
      all_proper [] h k = tt
      all_proper (c ∷ cs) h k = (one_proper c h.0 k.0, all_proper cs h.1 k.1)

  good_split : (vs : List Value) → AllByRecursion (IsGood name namer nonce whole sound) vs → AllByRecursion (λ v. IsIn hb.values (whole_value ins v)) vs × AllByRecursion (ValueKeepsName stand name ins) vs
  good_split [] h = (tt, tt)
  good_split (v ∷ vs) h = let rest = good_split vs h.1 in ((h.0.0, rest.0), (h.0.1, rest.1))

  refs_good : (rs : List (Bytes × Target)) → AllByRecursion (λ r. IsIn hs.values (value_at r.1)) rs → AllByRecursion (λ r. ValueKeepsName stand name ins (value_at r.1)) rs
  refs_good [] h = tt
  refs_good (r ∷ rs) h = ((all_in (IsGood name namer nonce whole sound) hs.values (value_at r.1) good h.0).1, refs_good rs h.1)

  -- the small history stands for the whole one
  pub is_small : IsSmall stand name ins hs hb
  is_small = let split = good_split hs.values good in record { held = split.0; values = split.1; refs = refs_good hs.refs small_stands.history.held }
