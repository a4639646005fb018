-- What range words send, and what an export of that answers.
use Rattle.std.proofs.Common.{◌≡◌, ◌∙◌, ℕ, Bool, List, map, reverse, Option, Some, None, Result, Ok, Err, refl, sym, ap, subst}
use Rattle.std.specs.Prelude.{IfErr, IfOk, IfSome}
use Rattle.gx_model.specs.declared.objects.Kind.{Kind}
use Rattle.gx_model.specs.Changes.{range_text, set_refs}
use Rattle.gx_model.specs.Histories.{Records}
use Rattle.gx_model.specs.Laws.ExportLaws.{HaveEncodingsAlone}
use Rattle.gx_model.specs.Records.HistoryOf.{history_of}
use Rattle.gx_model.specs.Revisions.{RangeWord}
use Rattle.gx_model.specs.Revisions.Ranges.{Word, WordFault, listing, words_denoted}
use Rattle.gx_model.specs.Texts.{Bytes}
use Rattle.gx_model.specs.Texts.Sinks.{Taken, TookFront}
use Rattle.gx_object.specs.declared.name.Name.{Name}
use Rattle.gx_print.specs.Logs.{AreCommits}
use Rattle.gx_rev.specs.Objects.{commit_at}
use Rattle.gx_export.specs.ChangedParts.{DeliversRange}
use Rattle.gx_export.proofs.Writing.{nothing_yet}
use Rattle.gx_sending.specs.Faults.{IsOnTheWay, stopped}
use Rattle.gx_sending.specs.declared.fault.SendFault.{SendFault}
use Rattle.gx_sending.specs.declared.fault.SendFault.TheVariants as send
use Rattle.gx_tips.specs.Spans.{AreHeld, AreListed, AreNewestFirst, AreSetRefs, FindsSpans}
use Rattle.gx_tips.specs.Tips.{AreTips, targets}
use Rattle.gx_tips.specs.declared.spans.Spans.{Spans}
use Rattle.gx_changes.specs.Faults.{of_send}
use Rattle.gx_changes.specs.Sayable.{FindsSayable}
use Rattle.gx_changes.specs.Sending.{FindsSent, IsFoundIn, IsSent, SendsFront, SendsRange}
use Rattle.gx_changes.specs.Texts.{DeliversAll, commits_sent}
use Rattle.gx_changes.specs.declared.fault.ChangesFault.{ChangesFault}
use Rattle.gx_changes.specs.declared.fault.ChangesFault.TheVariants.{OutOfMemory, ReadFailed, Damaged, Unsupported, WriteFailed, Word as Refused}
use Rattle.gx_changes.specs.declared.finding.Sent.{Sent}

-- ---- finding

-- the refs and the commits of spans
pub both_found : {A : Type 0} (stands : ℕ → ℕ) (told : Option Records) (spans : Spans A) (sent : Sent A) → IfSome told (λ r. AreSetRefs stands spans r sent.refs.items) → IfSome told (λ r. AreListed stands spans r sent.commits.items) → IfSome told (λ r. IsFoundIn stands spans r sent)
both_found stands None spans sent h k = tt
both_found stands (Some r) spans sent h k = record { words = λ words s. record { refs = h.set words s; commits = ap reverse (k.listed words s); each = h.each; order = k.order } }

module _ {A : Type 0} (name : Kind → Bytes → Bytes) (stands : ℕ → ℕ) (asked : List RangeWord) where
  pub spans_held : (told : Option Records) (spans : Spans A) → FindsSpans name stands told asked (Ok spans) → IfSome told (AreHeld stands spans)
  spans_held None spans h = tt
  spans_held (Some r) spans h = record { included = h.2.included.tips; excluded = h.2.excluded.tips }

  pub sent_found : (told : Option Records) (spans : Spans A) (sent : Sent A) → FindsSpans name stands told asked (Ok spans) → IfSome told (λ r. IsFoundIn stands spans r sent) → FindsSent name stands told asked (Ok sent)
  sent_found None spans sent h k = tt
  sent_found (Some r) spans sent h k = (h.0, h.1, k.words h.0 h.2)

  pub tips_found : (told : Option Records) (sent : Sent A) → FindsSent name stands told asked (Ok sent) → IfSome told (λ r. AreTips stands sent.refs.items r)
  tips_found None sent h = tt
  tips_found (Some r) sent h = h.2.each

  pub order_found : (told : Option Records) (sent : Sent A) → FindsSent name stands told asked (Ok sent) → IfSome told (λ r. AreNewestFirst sent.commits.items r)
  order_found None sent h = tt
  order_found (Some r) sent h = h.2.order

  pub commits_found : (told : Option Records) (sent : Sent A) → FindsSent name stands told asked (Ok sent) → IfSome told (λ r. AreCommits r sent.commits.items)
  commits_found None sent h = tt
  commits_found (Some r) sent h = h.2.order.commits

-- ---- what an export answers

module _ (name : Kind → Bytes → Bytes) (closed : Bool) (asked : List RangeWord) where
  -- nothing went out
  none_out : (r : Records) (was : Option Taken) → SendsFront name closed (history_of r) asked was was
  none_out r was = by (words_denoted name (history_of r) asked) refl
    where
      by : (given : Result (List Word) WordFault) → words_denoted name (history_of r) asked ≡ given → SendsFront name closed (history_of r) asked was was
      by (Ok words) e = record {
        front = subst (λ g. IfOk g (λ ws. TookFront was was (range_text name closed (history_of r) ws))) (sym e) (nothing_yet was (range_text name closed (history_of r) words));
        none = subst (λ g. IfErr g (λ refusal. was ≡ was)) (sym e) tt;
      }
      by (Err refusal) e = record {
        front = subst (λ g. IfOk g (λ ws. TookFront was was (range_text name closed (history_of r) ws))) (sym e) tt;
        none = subst (λ g. IfErr g (λ refusal. was ≡ was)) (sym e) refl;
      }

  pub not_found : (A : Type 0) (stands : ℕ → ℕ) (told : Option Records) (e : ChangesFault) (was : Option Taken) → FindsSent {A = A} name stands told asked (Err e) → IfSome told (SendsRange name closed asked was was (Err e))
  not_found A stands None e was h = tt
  not_found A stands (Some r) OutOfMemory was h = none_out r was
  not_found A stands (Some r) ReadFailed was h = none_out r was
  not_found A stands (Some r) Damaged was h = absurd (cc h)
  not_found A stands (Some r) (WriteFailed n) was h = absurd h
  not_found A stands (Some r) Unsupported was h = absurd h
  not_found A stands (Some r) (Refused number kind) was h = (refl, h)

  -- where a stream can't say what was found, or a look at it stops, nothing goes out
  pub not_said : {A : Type 0} (stands : ℕ → ℕ) (sent : Sent A) (was : Option Taken) (told : Option Records) (e : SendFault) → FindsSent name stands told asked (Ok sent)
      → IfSome told (λ r. FindsSayable (commits_sent r sent.commits.items) (Err e)) → IfSome told (SendsRange name closed asked was was (Err (of_send e)))
  not_said stands sent was None e h k = tt
  not_said stands sent was (Some r) send.OutOfMemory h k = none_out r was
  not_said stands sent was (Some r) send.ReadFailed h k = none_out r was
  not_said stands sent was (Some r) send.Damaged h k = absurd k
  not_said stands sent was (Some r) (send.WriteFailed n) h k = absurd k
  not_said stands sent was (Some r) send.Unsupported h k = (h.0, h.1, (refl, λ each. k (subst HaveEncodingsAlone (sym h.2.commits) each)))

  module _ {A : Type 0} (stands : ℕ → ℕ) (sent : Sent A) (was now : Option Taken) where
    -- what goes out is the text of the words
    of_words : (r : Records) (words : List Word) (result : Result (Unit {0}) SendFault) → IsSent stands words r sent → DeliversAll name closed (commits_sent r sent.commits.items) (targets r sent.refs.items) was now (stopped result)
        → DeliversAll name closed (reverse (listing (history_of r) words)) (set_refs (history_of r) words) was now (stopped result)
    of_words r words result s k =
        subst (λ cs. DeliversAll name closed cs (set_refs (history_of r) words) was now (stopped result)) s.commits
        (subst (λ refs. DeliversAll name closed (commits_sent r sent.commits.items) refs was now (stopped result)) s.refs k)

    -- a front of it
    front_out : (r : Records) (words : List Word) → words_denoted name (history_of r) asked ≡ Ok words → TookFront was now (range_text name closed (history_of r) words) → SendsFront name closed (history_of r) asked was now
    front_out r words e k = record {
      front = subst (λ g. IfOk g (λ ws. TookFront was now (range_text name closed (history_of r) ws))) (sym e) k;
      none = subst (λ g. IfErr g (λ refusal. now ≡ was)) (sym e) tt;
    }

    pub sent_out : (told : Option Records) → FindsSent name stands told asked (Ok sent) → IfSome told (λ r. FindsSayable (commits_sent r sent.commits.items) (Ok tt))
        → IfSome told (λ r. DeliversAll name closed (commits_sent r sent.commits.items) (targets r sent.refs.items) was now (Ok tt)) → IfSome told (SendsRange name closed asked was now (Ok tt))
    sent_out None h s k = tt
    sent_out (Some r) h s k = (h.0, h.1, (subst HaveEncodingsAlone h.2.commits s, of_words r h.0 (Ok tt) h.2 k))

    pub sent_stops : (told : Option Records) (e : SendFault) → FindsSent name stands told asked (Ok sent) → IsOnTheWay {X = Unit {0}} told (Err e)
        → IfSome told (λ r. DeliversAll name closed (commits_sent r sent.commits.items) (targets r sent.refs.items) was now (stopped (Err e))) → IfSome told (SendsRange name closed asked was now (Err (of_send e)))
    sent_stops None e h w k = tt
    sent_stops (Some r) send.OutOfMemory h w k = front_out r h.0 h.1 (of_words r h.0 (Err send.OutOfMemory) h.2 k)
    sent_stops (Some r) send.ReadFailed h w k = front_out r h.0 h.1 (of_words r h.0 (Err send.ReadFailed) h.2 k)
    sent_stops (Some r) send.Damaged h w k = absurd (cc w)
    sent_stops (Some r) (send.WriteFailed n) h w k = (h.0, h.1, of_words r h.0 (Err (send.WriteFailed n)) h.2 k)
    sent_stops (Some r) send.Unsupported h w k = absurd k
