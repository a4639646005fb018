-- The front of a plain text, read in so many bytes of it.
use Rattle.std.proofs.Common.{◌≡◌, ℕ, ◌+◌, ◌-◌, ◌<◌, ◌≤◌, ◌^◌, [], ◌∷◌, ◌++◌, append_assoc, codes, length, take, drop, Ok, Err, refl, sym, ap, ◌∙◌, subst, arith}
use Rattle.std.specs.Option.{ok_or, option_and_then}
use Rattle.std.proofs.Math.Seq.{drop-append_seam, take-append-add}
use Rattle.std.proofs.lemmas.List.{length-append, take-append-drop}
use Rattle.gx_model.specs.declared.store_faults.FileFault.{FileFault}
use Rattle.gx_model.specs.declared.store_faults.FileFault.TheVariants as fault
use Rattle.gx_model.specs.declared.store_versions.Version.{Version}
use Rattle.gx_model.specs.declared.store_versions.Version.TheVariants.{One, Two}
use Rattle.gx_model.specs.Faults.{◌>>=◌}
use Rattle.gx_model.specs.Objects.{line}
use Rattle.gx_model.specs.Texts.{Bytes}
use Rattle.gx_model.specs.Texts.Numbers.{number_text}
use Rattle.gx_model.specs.Stores.StoreReading.{Stored, after_magic, after_word, stored_count, stored_line, stored_number}
use Rattle.gx_model.specs.Stores.StoreText.{version_text}
use Rattle.gx_model.proofs.Stores.StoreTexts.{both_some, both_steps, count_of, count_read, if_there, magic_of, magic_read, ok_is}
use Rattle.gx_plain.specs.Reading.{IsRefused}
use Rattle.gx_plain.specs.Starts.{start_of}
use Rattle.gx_plain.proofs.Fronts.{refused_unless}
use Rattle.gx_plain.proofs.ShortLines.{few_digits, stored_small}

-- ---- the first line

first_long : (v : Version) → length (line (codes "gxstore") (version_text v)) ≡ 10
first_long One = refl
first_long Two = refl

module _ (text : Bytes) (c : ℕ) (x : Version × Bytes) where
  pub magic_whole : after_magic (take c text) ≡ Ok x → after_magic text ≡ Ok (x.0, x.1 ++ drop c text)
  magic_whole e =
      let first = line (codes "gxstore") (version_text x.0) in
      let whole : text ≡ first ++ (x.1 ++ drop c text) = sym (take-append-drop c text) ∙ ap (λ z. z ++ drop c text) (magic_of (take c text) x e) ∙ append_assoc first x.1 (drop c text) in
      ap after_magic whole ∙ magic_read x.0 (x.1 ++ drop c text)

  pub magic_front : 10 ≤ c → after_magic text ≡ Ok x → after_magic (take c text) ≡ Ok (x.0, take (c - 10) x.1)
  magic_front h e =
      let first = line (codes "gxstore") (version_text x.0) in
      let long = first_long x.0 in
      let split : c ≡ length first + (c - 10) = omega arith in
      let front : take c text ≡ first ++ take (c - 10) x.1 = (λ i. take (split i) (magic_of text x e i)) ∙ take-append-add first x.1 (c - 10) in
      ap after_magic front ∙ magic_read x.0 (take (c - 10) x.1)

-- ---- the number

count_small : (w text : Bytes) (x : ℕ × Bytes) → stored_count w text ≡ Ok x → x.0 < 2 ^ 64
count_small w text x e =
    let l = both_steps (stored_line text) (λ (l : Bytes × Bytes). ok_or (option_and_then stored_number (after_word w l.0)) fault.BadRecord >>= λ n. Ok (n, l.1)) x e in
    let n = both_steps (ok_or (option_and_then stored_number (after_word w l.0.0)) fault.BadRecord) (λ (n : ℕ). Ok (n, l.0.1)) x l.2 in
    let o = both_some stored_number (after_word w l.0.0) n.0 (if_there fault.BadRecord (option_and_then stored_number (after_word w l.0.0)) n.0 n.1) in
    let same : ◌≡◌ {A = ℕ × Bytes} (n.0, l.0.1) x = ok_is (n.0, l.0.1) x n.2 in
    subst (λ (z : ℕ × Bytes). z.0 < 2 ^ 64) same (stored_small o.0 n.0 o.2)

count_long : (n : ℕ) → n < 2 ^ 64 → length (line (codes "objects") (number_text n)) ≤ 29
count_long n h =
    let few = few_digits n h in
    let a = length-append (codes "objects" ++ 32 ∷ number_text n) (10 ∷ []) in
    let b = length-append (codes "objects") (32 ∷ number_text n) in
    omega arith

module _ (front more : Bytes) (x : ℕ × Bytes) where
  pub count_whole : stored_count (codes "objects") front ≡ Ok x → stored_count (codes "objects") (front ++ more) ≡ Ok (x.0, x.1 ++ more)
  count_whole e =
      let first = line (codes "objects") (number_text x.0) in
      ap (λ z. stored_count (codes "objects") (z ++ more)) (count_of (codes "objects") front x e) ∙ ap (stored_count (codes "objects")) (append_assoc first x.1 more)
      ∙ count_read (codes "objects") x.0 (x.1 ++ more) tt (count_small (codes "objects") front x e)

module _ (text : Bytes) (m : ℕ) (x : ℕ × Bytes) where
  pub count_front : 29 ≤ m → stored_count (codes "objects") text ≡ Ok x → (k : ℕ) × (stored_count (codes "objects") (take m text) ≡ Ok (x.0, take k x.1))
  count_front h e =
      let first = line (codes "objects") (number_text x.0) in
      let small = count_small (codes "objects") text x e in
      let long = count_long x.0 small in
      let k = m - length first in
      let split : m ≡ length first + k = omega arith in
      let front : take m text ≡ first ++ take k x.1 = (λ i. take (split i) (count_of (codes "objects") text x e i)) ∙ take-append-add first x.1 k in
      (k, ap (stored_count (codes "objects")) front ∙ count_read (codes "objects") x.0 (take k x.1) tt small)

-- ---- both

module _ (text : Bytes) (c : ℕ) where
  abbrev with_start : Version × Bytes → Stored (Version × (ℕ × Bytes))
  with_start start = stored_count (codes "objects") start.1 >>= λ objects. Ok (start.0, objects)

  pub no_magic : (why : FileFault) → 10 ≤ c → after_magic (take c text) ≡ Err why → IsRefused (start_of text)
  no_magic why h e = refused_unless (start_of text) (λ s f.
      let a = both_steps (after_magic text) with_start s f in
      let clash = sym e ∙ magic_front text c a.0 h a.1 in
      cc clash)

  module _ (x : Version × Bytes) (magic : after_magic (take c text) ≡ Ok x) where
    pub no_objects : (why : FileFault) → 39 ≤ c → stored_count (codes "objects") x.1 ≡ Err why → IsRefused (start_of text)
    no_objects why h e = refused_unless (start_of text) (λ s f.
        let a = both_steps (after_magic text) with_start s f in
        let o = both_steps (stored_count (codes "objects") a.0.1) (λ (objects : ℕ × Bytes). Ok (a.0.0, objects)) s a.2 in
        let front = magic_front text c a.0 (omega arith) a.1 in
        let same = ok_is (a.0.0, take (c - 10) a.0.1) x (sym front ∙ magic) in
        let there = count_front a.0.1 (c - 10) o.0 (omega arith) o.1 in
        let clash = sym e ∙ ap (λ (z : Version × Bytes). stored_count (codes "objects") z.1) (sym same) ∙ there.1 in
        cc clash)

    pub start_there : (y : ℕ × Bytes) → stored_count (codes "objects") x.1 ≡ Ok y → start_of text ≡ Ok (x.0, (y.0, y.1 ++ drop c text))
    start_there y e = ap (λ s. s >>= with_start) (magic_whole text c x magic) ∙ ap (λ s. s >>= λ objects. Ok (x.0, objects)) (count_whole x.1 (drop c text) y e)

    -- what follows both lines stands behind their bytes
    pub start_at : (y : ℕ × Bytes) (place : ℕ) → stored_count (codes "objects") x.1 ≡ Ok y → place ≡ length (take c text) - length y.1 → (y.1 ++ drop c text ≡ drop place text) × (place ≤ length text)
    start_at y place e p =
        let first = line (codes "gxstore") (version_text x.0) in
        let second = line (codes "objects") (number_text y.0) in
        let room : take c text ≡ (first ++ second) ++ y.1 = magic_of (take c text) x magic ∙ ap (λ z. first ++ z) (count_of (codes "objects") x.1 y e) ∙ sym (append_assoc first second y.1) in
        let long = ap length room ∙ length-append (first ++ second) y.1 in
        let at : length (first ++ second) ≡ place = omega arith in
        let whole : text ≡ (first ++ second) ++ (y.1 ++ drop c text) = sym (take-append-drop c text) ∙ ap (λ z. z ++ drop c text) room ∙ append_assoc (first ++ second) y.1 (drop c text) in
        let all = ap length whole ∙ length-append (first ++ second) (y.1 ++ drop c text) in
        (sym ((λ i. drop (sym at i) (whole i)) ∙ drop-append_seam (first ++ second) (y.1 ++ drop c text)), omega arith)
