-- The record at the front of a text, by what is read of it into a room.
use Rattle.std.proofs.Common.{◌≡◌, ℕ, ◌+◌, ◌-◌, ◌<◌, ◌≤◌, ◌∷◌, ◌++◌, [], append_assoc, length, take, drop, Some, None, Ok, Err, sym, ap, ◌∙◌, arith}
use Rattle.std.specs.Option.{ok_or}
use Rattle.std.proofs.Math.Seq.{drop-append_seam, drop-drop}
use Rattle.std.proofs.lemmas.List.{drop-take, length-append, length-take, take_at}
use Rattle.gx_model.specs.declared.objects.Kind.{Kind}
use Rattle.gx_model.specs.declared.store_versions.Version.{Version}
use Rattle.gx_model.specs.declared.store_faults.FileFault.{FileFault}
use Rattle.gx_model.specs.declared.store_faults.FileFault.TheVariants as fault
use Rattle.gx_model.specs.Faults.{◌>>=◌}
use Rattle.gx_model.specs.Texts.{Bytes}
use Rattle.gx_model.specs.Stores.StoreReading.{Length, Stored, record_line, stored_body, stored_line}
use Rattle.gx_model.proofs.Stores.StoreTexts.{body_of, both_steps, if_there, line_of}
use Rattle.gx_plain.specs.Reading.{IsRefused}
use Rattle.gx_plain.specs.Records.{Parts, next_parts}
use Rattle.gx_plain.proofs.Fronts.{body_front, body_whole, line_front, line_whole, refused_unless}
use Rattle.gx_plain.proofs.ShortLines.{line_short}

-- what is read once the record's line is
abbrev pub with_body : Kind × Length → Bytes → Stored Parts
with_body k rest = stored_body k.1.0 rest >>= λ body. Ok (k, body)

abbrev pub with_line : Version → Bytes × Bytes → Stored Parts
with_line v l = ok_or (record_line v l.0) fault.BadRecord >>= λ k. with_body k l.1

module _ (v : Version) (text : Bytes) (c : ℕ) where
  -- where no line stands in a front that is long enough, there is no record
  pub no_line : (why : FileFault) → 80 ≤ c → stored_line (take c text) ≡ Err why → IsRefused (next_parts v text)
  no_line why long e = refused_unless (next_parts v text) (λ p h.
      let l = both_steps (stored_line text) (with_line v) p h in
      let k = both_steps (ok_or (record_line v l.0.0) fault.BadRecord) (λ k. with_body k l.0.1) p l.2 in
      let short = line_short v l.0.0 k.0 (if_there fault.BadRecord (record_line v l.0.0) k.0 k.1) in
      let clash = sym e ∙ line_front c text l.0 l.1 (omega arith) in
      cc clash)

  module _ (l : Bytes × Bytes) (line : stored_line (take c text) ≡ Ok l) where
    -- what follows the line
    abbrev pub behind : Bytes
    behind = l.1 ++ drop c text

    here : next_parts v text ≡ with_line v (l.0, behind)
    here = ap (λ s. s >>= with_line v) (line_whole c text l line)

    spelled : text ≡ l.0 ++ 10 ∷ behind
    spelled = line_of text (l.0, behind) (line_whole c text l line)

    -- where no record's line stands, there is none
    pub no_heading : None ≡ record_line v l.0 → IsRefused (next_parts v text)
    no_heading none = (fault.BadRecord, here ∙ ap (λ o. ok_or o fault.BadRecord >>= λ k. with_body k behind) (sym none))

    module _ (k : Kind × Length) (start : ℕ) (heading : Some k ≡ record_line v l.0) (starts : start ≡ length l.0 + 1) where
      left : drop start text ≡ behind
      left =
          let s : start ≡ length (l.0 ++ 10 ∷ []) = starts ∙ sym (length-append l.0 (10 ∷ [])) in
          (λ i. drop (s i) (spelled i)) ∙ ap (drop (length (l.0 ++ 10 ∷ []))) (sym (append_assoc l.0 (10 ∷ []) behind)) ∙ drop-append_seam (l.0 ++ 10 ∷ []) behind

      pub heading_then : next_parts v text ≡ with_body k behind
      heading_then = here ∙ ap (λ o. ok_or o fault.BadRecord >>= λ k. with_body k behind) (sym heading)

      -- so long is the text with a body and its LF
      body_within : (x : Bytes × Bytes) → stored_body k.1.0 behind ≡ Ok x → start + k.1.0 + 1 ≤ length text
      body_within x e =
          let b = body_of k.1.0 behind x e in
          let a = ap length spelled ∙ length-append l.0 (10 ∷ behind) in
          let d = ap length b.0 ∙ length-append x.0 (10 ∷ x.1) in
          let n = b.1 in
          omega arith

      -- where the text ends before the LF, there is no record
      pub ends_before : length text < start + k.1.0 + 1 → IsRefused (next_parts v text)
      ends_before short = refused_unless (next_parts v text) (λ p h.
          let b = both_steps (stored_body k.1.0 behind) (λ body. Ok (k, body)) p (sym heading_then ∙ h) in
          let long = body_within b.0 b.1 in
          absurd (omega arith))

      module _ (room : Bytes) (m : ℕ) (front : room ≡ take m text) (enough : start + k.1.0 + 1 ≤ length room) where
        few : length room ≤ m
        few = let a = ap length front ∙ length-take m text in omega arith

        room_left : drop start room ≡ take (m - start) behind
        room_left =
            let f = few in
            let s : m ≡ start + (m - start) = omega arith in
            ap (drop start) (front ∙ ap (λ n. take n text) s) ∙ drop-take start (m - start) text ∙ ap (take (m - start)) left

        -- where no body stands behind the line, there is no record
        pub no_body : (why : FileFault) → stored_body k.1.0 (drop start room) ≡ Err why → IsRefused (next_parts v text)
        no_body why e = refused_unless (next_parts v text) (λ p h.
            let b = both_steps (stored_body k.1.0 behind) (λ body. Ok (k, body)) p (sym heading_then ∙ h) in
            let f = few in
            let there = body_front k.1.0 (m - start) behind b.0 b.1 (omega arith) in
            let clash = sym e ∙ ap (stored_body k.1.0) room_left ∙ there in
            cc clash)

        -- a body that stands there is the record's
        pub body_there : (x : Bytes × Bytes) → stored_body k.1.0 (drop start room) ≡ Ok x
            → (next_parts v text ≡ Ok (k, (take k.1.0 (drop start room), drop (start + k.1.0 + 1) text))) × (start + k.1.0 + 1 ≤ length text)
        body_there x e =
            let n = k.1.0 in
            let whole = body_whole n (m - start) behind x (ap (stored_body n) (sym room_left) ∙ e) in
            let here = body_of n (drop start room) x e in
            let there = body_of n behind (x.0, x.1 ++ drop (m - start) behind) whole in
            let body : x.0 ≡ take n (drop start room) = sym (take_at x.0 (10 ∷ x.1) n here.1) ∙ ap (take n) (sym here.0) in
            let rest : x.1 ++ drop (m - start) behind ≡ drop (start + n + 1) text =
            (let s : n + 1 ≡ length (x.0 ++ 10 ∷ []) = ap (λ z. z + 1) (sym here.1) ∙ sym (length-append x.0 (10 ∷ [])) in
            let sum : start + (n + 1) ≡ start + n + 1 = omega arith in
            sym (drop-append_seam (x.0 ++ 10 ∷ []) (x.1 ++ drop (m - start) behind))
            ∙ ap (drop (length (x.0 ++ 10 ∷ []))) (append_assoc x.0 (10 ∷ []) (x.1 ++ drop (m - start) behind) ∙ sym there.0)
            ∙ ap (λ z. drop z behind) (sym s)
            ∙ ap (drop (n + 1)) (sym left)
            ∙ drop-drop (n + 1) start text
            ∙ ap (λ z. drop z text) sum) in
            (heading_then ∙ ap (λ s. s >>= λ body. Ok (k, body)) whole ∙ (λ i. Ok (k, (body i, rest i))), body_within (x.0, x.1 ++ drop (m - start) behind) whole)
