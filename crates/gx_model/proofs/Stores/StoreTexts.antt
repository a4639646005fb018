-- The lines of a store text: each is read again, and whatever is read is spelled so.
use Rattle.std.proofs.Common.{◌≡◌, ℕ, ◌+◌, ◌<◌, ◌^◌, Bool, true, false, cond, refl, sym, ap, subst, ◌∙◌, [], ◌∷◌, ◌++◌, length, take, drop, Option, None, Some, Ok, Err, codes, arith, append_assoc, suc}
use Rattle.std.specs.Prelude.{T, not, ◌&&◌, ◌||◌, nat_eq, nat_lt}
use Rattle.std.specs.Bool.{passes}
use Rattle.std.specs.Fmt.{decimal}
use Rattle.std.specs.Char.{is_ascii_digit}
use Rattle.std.specs.Str.Parse.{digits_value}
use Rattle.std.specs.List.{list_all, starts_with}
use Rattle.std.specs.Option.{ok_or, option_and_then}
use Rattle.std.proofs.Math.Seq.{drop-append-add}
use Rattle.std.proofs.lemmas.Bool.{not-true}
use Rattle.std.proofs.lemmas.Bool.Decides.{Decides-eqb, nat_tests}
use Rattle.std.proofs.lemmas.List.{drop_at, length-append, length-take, take-append-drop, take_at}
use Rattle.std.proofs.lemmas.Slice.Eq.{starts_is}
use Rattle.gx_model.specs.declared.store_versions.Version.{Version}
use Rattle.gx_model.specs.declared.store_versions.Version.TheVariants.{One, Two}
use Rattle.gx_model.specs.declared.store_faults.FileFault.{FileFault}
use Rattle.gx_model.specs.declared.store_faults.FileFault.TheVariants as fault
use Rattle.gx_model.specs.Texts.{Bytes, cut_at, is_line, lacks, same_bytes}
use Rattle.gx_model.specs.Texts.Numbers.{decimal_of, is_number, number_text}
use Rattle.gx_model.specs.Faults.{◌>>=◌}
use Rattle.gx_model.specs.Objects.{line}
use Rattle.gx_model.specs.Stores.StoreText.{version_text}
use Rattle.gx_model.specs.Stores.StoreReading.{Stored, after_magic, after_word, if_written_so, only_if, stored_body, stored_count, stored_end, stored_line, stored_number, version_of}
use Rattle.gx_model.proofs.Texts.PathTests.{first, is_same, is_true, same_is, second}
use Rattle.gx_model.proofs.Texts.Cuts.{cut_after, cut_spelled}
use Rattle.gx_model.proofs.Texts.Decimals.{decimal_read, text_digits, text_is_decimal}
use Rattle.gx_model.proofs.Texts.LineTexts.{digits_are_line, line_append}
use Rattle.gx_model.proofs.Records.OneHistory.{line_flat}

-- ---- steps

-- where two steps give something, so does the first, and the second with it
pub both_steps : {A B : Type 0} (r : Stored A) (f : A → Stored B) (b : B) → (r >>= f) ≡ Ok b → (a : A) × (r ≡ Ok a) × (f a ≡ Ok b)
both_steps (Ok a) f b e = (a, refl, e)
both_steps (Err g) f b e = absurd (cc)

-- what is given is one
pub ok_is : {A : Type 0} (a b : A) → ◌≡◌ {A = Stored A} (Ok a) (Ok b) → a ≡ b
ok_is a b e = cc

-- what is read where a test holds
pub if_there : {A : Type 0} (g : FileFault) (o : Option A) (x : A) → ok_or o g ≡ Ok x → o ≡ Some x
if_there g None x e = absurd (cc)
if_there g (Some y) x e = let s : y ≡ x = cc in ap Some s

-- what is read unless there is a fault
pub unless_holds : (b : Bool) (g : FileFault) (u : Unit {0}) → only_if b g ≡ Ok u → b ≡ true
unless_holds true g u e = refl
unless_holds false g u e = absurd (cc)

-- where two steps give something, so does the first, and the second with it
pub both_some : {A B : Type 0} (f : A → Option B) (o : Option A) (b : B) → option_and_then f o ≡ Some b → (a : A) × (o ≡ Some a) × (f a ≡ Some b)
both_some f None b e = absurd (cc)
both_some f (Some a) b e = (a, refl, e)

-- ---- lines

-- a line holds no LF
pub line_lacks : (x : Bytes) → T (is_line x) → lacks 10 x ≡ true
line_lacks [] h = refl
line_lacks (b ∷ bs) h =
    let a = not-true _ (is_true _ (first (not (nat_eq b 10)) (is_line bs) h)) in
    let r = not-true _ (line_lacks bs (second (not (nat_eq b 10)) (is_line bs) h)) in
    λ i. not (a i || r i)

-- a word, a space and a rest, an LF, and what follows
pub line_text : (w x r : Bytes) → (w ++ 32 ∷ x) ++ 10 ∷ r ≡ line w x ++ r
line_text w x r = append_assoc w (32 ∷ x) (10 ∷ r) ∙ sym (line_flat w x r)

-- a first line stands before an LF
pub line_of : (text : Bytes) (l : Bytes × Bytes) → stored_line text ≡ Ok l → text ≡ l.0 ++ 10 ∷ l.1
line_of text l e = cut_spelled 10 text l (if_there fault.Truncated (cut_at 10 text) l e)

-- a line before an LF is the first one
pub line_read : (x r : Bytes) → lacks 10 x ≡ true → stored_line (x ++ 10 ∷ r) ≡ Ok (x, r)
line_read x r h = ap (λ o. ok_or o fault.Truncated) (cut_after 10 x r h)

-- a word's line is the first one
pub word_line_read : (w x r : Bytes) → T (is_line w) → T (is_line x) → stored_line (line w x ++ r) ≡ Ok (w ++ 32 ∷ x, r)
word_line_read w x r h g =
    ap stored_line (sym (line_text w x r)) ∙ line_read (w ++ 32 ∷ x) r (line_lacks (w ++ 32 ∷ x) (passes _ (line_append w (32 ∷ x) (is_true _ h) (is_true _ g))))

-- what follows a word and a space
pub word_of : (w l x : Bytes) → after_word w l ≡ Some x → l ≡ w ++ 32 ∷ x
word_of w l x e = by (starts_with nat_eq l (w ++ 32 ∷ [])) refl e
  where
    by : (b : Bool) → starts_with nat_eq l (w ++ 32 ∷ []) ≡ b → cond b (Some (drop (length w + 1) l)) None ≡ Some x → l ≡ w ++ 32 ∷ x
    by true k i =
        let s = (starts_is Decides-eqb l (w ++ 32 ∷ []) _ refl).0 k in
        let d : drop (length w + 1) l ≡ x = cc i in
        s ∙ append_assoc w (32 ∷ []) (drop (length (w ++ 32 ∷ [])) l) ∙ ap (λ n. w ++ 32 ∷ drop n l) (length-append w (32 ∷ [])) ∙ ap (λ y. w ++ 32 ∷ y) d
    by false k i = absurd (cc)

-- a word and a space are taken off
pub word_read : (w x : Bytes) → after_word w (w ++ 32 ∷ x) ≡ Some x
word_read w x =
    let s = (starts_is Decides-eqb (w ++ 32 ∷ x) (w ++ 32 ∷ []) _ refl).1 x (sym (append_assoc w (32 ∷ []) x)) in
    ap (λ b. cond b (Some (drop (length w + 1) (w ++ 32 ∷ x))) None) s ∙ ap Some (drop-append-add w (32 ∷ x) 1)

-- ---- numbers

-- a number that is read is below 2^64
number_small : (x : Bytes) (n : ℕ) → decimal_of x ≡ Some n → n < 2 ^ 64
number_small x n e = by (is_number x) refl e
  where
    by : (b : Bool) → is_number x ≡ b → cond b (Some (digits_value 10 x)) None ≡ Some n → n < 2 ^ 64
    by false h i = absurd (cc)
    by true h i =
        let small : nat_lt (digits_value 10 x) (2 ^ 64) ≡ true = is_true _ (second (list_all is_ascii_digit x && nat_lt 0 (length x)) _ (passes _ h)) in
        let same : digits_value 10 x ≡ n = cc i in
        let below : digits_value 10 x < 2 ^ 64 = grind (arith, nat_tests) in
        subst (λ m. m < 2 ^ 64) same below

-- a number is written as its text
pub number_of : (x : Bytes) (n : ℕ) → stored_number x ≡ Some n → x ≡ number_text n
number_of x n e = let p = both_some (if_written_so x) (decimal_of x) n e in by p.0 (number_small x p.0 p.1) (same_bytes (decimal p.0) x) refl p.2
  where
    by : (m : ℕ) → m < 2 ^ 64 → (b : Bool) → same_bytes (decimal m) x ≡ b → cond b (Some m) None ≡ Some n → x ≡ number_text n
    by m l true k i = let j : m ≡ n = cc i in sym (same_is (decimal m) x (passes _ k)) ∙ sym (text_is_decimal m l) ∙ ap number_text j
    by m l false k i = absurd (cc)

-- a number's text is read as the number
pub number_read : (n : ℕ) → n < 2 ^ 64 → stored_number (number_text n) ≡ Some n
number_read n h =
    ap stored_number (text_is_decimal n h) ∙ ap (option_and_then (if_written_so (decimal n))) (decimal_read n h)
    ∙ ap (λ b. cond b (Some n) None) (is_true _ (is_same (decimal n) (decimal n) refl))

-- a number's text is a line
pub number_line : (n : ℕ) → T (is_line (number_text n))
number_line n = passes _ (digits_are_line (number_text n) (text_digits n))

-- ---- counts

-- what is read in the line of a count
abbrev count_rest : Bytes → Bytes × Bytes → Stored (ℕ × Bytes)
count_rest w l = ok_or (option_and_then stored_number (after_word w l.0)) fault.BadRecord >>= λ n. Ok (n, l.1)

-- a count stands in a line behind its word
pub count_of : (w text : Bytes) (x : ℕ × Bytes) → stored_count w text ≡ Ok x → text ≡ line w (number_text x.0) ++ x.1
count_of w text x e =
    let p = both_steps (stored_line text) (count_rest w) x e in
    let q = both_steps (ok_or (option_and_then stored_number (after_word w p.0.0)) fault.BadRecord) (λ n. Ok (n, p.0.1)) x p.2 in
    let k = both_some stored_number (after_word w p.0.0) q.0 (if_there fault.BadRecord (option_and_then stored_number (after_word w p.0.0)) q.0 q.1) in
    let spelled : p.0.0 ≡ w ++ 32 ∷ number_text q.0 = word_of w p.0.0 k.0 k.1 ∙ ap (λ z. w ++ 32 ∷ z) (number_of k.0 q.0 k.2) in
    let same : ◌≡◌ {A = ℕ × Bytes} (q.0, p.0.1) x = ok_is (q.0, p.0.1) x q.2 in
    line_of text p.0 p.1 ∙ ap (λ z. z ++ 10 ∷ p.0.1) spelled ∙ line_text w (number_text q.0) p.0.1 ∙ ap (λ (z : ℕ × Bytes). line w (number_text z.0) ++ z.1) same

-- a count's line is read as the count
pub count_read : (w : Bytes) (n : ℕ) (r : Bytes) → T (is_line w) → n < 2 ^ 64 → stored_count w (line w (number_text n) ++ r) ≡ Ok (n, r)
count_read w n r h l =
    ap (λ s. s >>= count_rest w) (word_line_read w (number_text n) r h (number_line n))
    ∙ ap (λ o. ok_or (option_and_then stored_number o) fault.BadRecord >>= λ m. Ok (m, r)) (word_read w (number_text n))
    ∙ ap (λ o. ok_or o fault.BadRecord >>= λ m. Ok (m, r)) (number_read n l)

-- ---- the first line and the last

-- what is read in the first line
abbrev magic_rest : Bytes × Bytes → Stored (Version × Bytes)
magic_rest l = ok_or (after_word (codes "gxstore") l.0) fault.BadMagic >>= λ w. ok_or (version_of w) fault.BadVersion >>= λ v. Ok (v, l.1)

-- a version is read from its text alone
version_is : (x : Bytes) (v : Version) → version_of x ≡ Some v → x ≡ version_text v
version_is x v e = by (same_bytes x (version_text One)) (same_bytes x (version_text Two)) refl refl e
  where
    is : (w : Version) → same_bytes x (version_text w) ≡ true → ◌≡◌ {A = Option Version} (Some w) (Some v) → x ≡ version_text v
    is w h i = let s : w ≡ v = cc i in same_is x (version_text w) (passes _ h) ∙ ap version_text s

    by : (a b : Bool) → same_bytes x (version_text One) ≡ a → same_bytes x (version_text Two) ≡ b → cond a (Some One) (cond b (Some Two) None) ≡ Some v → x ≡ version_text v
    by true b f g i = is One f i
    by false true f g i = is Two g i
    by false false f g i = absurd (cc)

-- a store text begins with its magic word and its version
pub magic_of : (text : Bytes) (x : Version × Bytes) → after_magic text ≡ Ok x → text ≡ line (codes "gxstore") (version_text x.0) ++ x.1
magic_of text x e =
    let p = both_steps (stored_line text) magic_rest x e in
    let q = both_steps (ok_or (after_word (codes "gxstore") p.0.0) fault.BadMagic) (λ w. ok_or (version_of w) fault.BadVersion >>= λ v. Ok (v, p.0.1)) x p.2 in
    let u = both_steps (ok_or (version_of q.0) fault.BadVersion) (λ v. Ok (v, p.0.1)) x q.2 in
    let version = version_is q.0 u.0 (if_there fault.BadVersion (version_of q.0) u.0 u.1) in
    let spelled = word_of (codes "gxstore") p.0.0 q.0 (if_there fault.BadMagic (after_word (codes "gxstore") p.0.0) q.0 q.1) in
    let same : ◌≡◌ {A = Version × Bytes} (u.0, p.0.1) x = ok_is (u.0, p.0.1) x u.2 in
    line_of text p.0 p.1 ∙ ap (λ z. z ++ 10 ∷ p.0.1) spelled ∙ line_text (codes "gxstore") q.0 p.0.1
    ∙ ap (λ z. line (codes "gxstore") z ++ p.0.1) version ∙ ap (λ (z : Version × Bytes). line (codes "gxstore") (version_text z.0) ++ z.1) same

-- the first line is read
pub magic_read : (v : Version) (rest : Bytes) → after_magic (line (codes "gxstore") (version_text v) ++ rest) ≡ Ok (v, rest)
magic_read One rest = ap (λ s. s >>= magic_rest) (word_line_read (codes "gxstore") (version_text One) rest tt tt)
magic_read Two rest = ap (λ s. s >>= magic_rest) (word_line_read (codes "gxstore") (version_text Two) rest tt tt)

-- what is read in the last line
abbrev end_rest : Bytes × Bytes → Stored (Unit {0})
end_rest l = only_if (same_bytes l.0 (codes "end")) fault.BadRecord >>= λ u. only_if (nat_eq (length l.1) 0) fault.TrailingBytes

-- a text without a length is empty
no_bytes : (x : Bytes) → nat_eq (length x) 0 ≡ true → x ≡ []
no_bytes [] e = refl
no_bytes (b ∷ bs) e = let n : nat_eq (length (b ∷ bs)) 0 ≡ false = grind (arith, nat_tests) in absurd (let l = sym n ∙ e in (cc))

-- a store text ends with its last line
pub end_of : (text : Bytes) (u : Unit {0}) → stored_end text ≡ Ok u → text ≡ codes "end" ++ 10 ∷ []
end_of text u e =
    let p = both_steps (stored_line text) end_rest u e in
    let q = both_steps (only_if (same_bytes p.0.0 (codes "end")) fault.BadRecord) (λ v. only_if (nat_eq (length p.0.1) 0) fault.TrailingBytes) u p.2 in
    let word = same_is p.0.0 (codes "end") (passes _ (unless_holds (same_bytes p.0.0 (codes "end")) fault.BadRecord q.0 q.1)) in
    let none = no_bytes p.0.1 (unless_holds (nat_eq (length p.0.1) 0) fault.TrailingBytes u q.2) in
    line_of text p.0 p.1 ∙ (λ i. word i ++ 10 ∷ none i)

-- the last line is read
pub end_read : stored_end (codes "end" ++ 10 ∷ []) ≡ Ok tt
end_read = ap (λ s. s >>= end_rest) (line_read (codes "end") [] refl)

-- ---- a body

-- what is read of a text that is longer than the body
abbrev body_rest : ℕ → Bytes → Stored (Bytes × Bytes)
body_rest n text = only_if (starts_with nat_eq (drop n text) (10 ∷ [])) fault.BadRecord >>= λ v. Ok (take n text, drop (n + 1) text)

-- a body has its length, and an LF follows it
pub body_of : (n : ℕ) (text : Bytes) (x : Bytes × Bytes) → stored_body n text ≡ Ok x → (text ≡ x.0 ++ 10 ∷ x.1) × (length x.0 ≡ n)
body_of n text x e =
    let p = both_steps (only_if (nat_lt n (length text)) fault.Truncated) (λ u. body_rest n text) x e in
    let q = both_steps (only_if (starts_with nat_eq (drop n text) (10 ∷ [])) fault.BadRecord) (λ v. Ok (take n text, drop (n + 1) text)) x p.2 in
    let more : nat_lt n (length text) ≡ true = unless_holds (nat_lt n (length text)) fault.Truncated p.0 p.1 in
    let long : n < length text = grind (arith, nat_tests) in
    let size : length (take n text) ≡ n = omega (arith, length-take n text, long) in
    let rest = drop 1 (drop n text) in
    let ended : drop n text ≡ 10 ∷ rest = (starts_is Decides-eqb (drop n text) (10 ∷ []) _ refl).0 (unless_holds (starts_with nat_eq (drop n text) (10 ∷ [])) fault.BadRecord q.0 q.1) in
    let spelled : text ≡ take n text ++ 10 ∷ rest = sym (take-append-drop n text) ∙ ap (λ z. take n text ++ z) ended in
    let behind : drop (n + 1) text ≡ rest = ap (λ m. drop (m + 1) text) (sym size) ∙ ap (drop (length (take n text) + 1)) spelled ∙ drop-append-add (take n text) (10 ∷ rest) 1 in
    let same : ◌≡◌ {A = Bytes × Bytes} (take n text, drop (n + 1) text) x = ok_is (take n text, drop (n + 1) text) x q.2 in
    (spelled ∙ ap (λ z. take n text ++ 10 ∷ z) (sym behind) ∙ ap (λ (z : Bytes × Bytes). z.0 ++ 10 ∷ z.1) same, ap (λ (z : Bytes × Bytes). length z.0) (sym same) ∙ size)

-- a body before an LF is read
pub body_read : (b r : Bytes) → stored_body (length b) (b ++ 10 ∷ r) ≡ Ok (b, r)
body_read b r =
    let text = b ++ 10 ∷ r in
    let size = length-append b (10 ∷ r) in
    let more : nat_lt (length b) (length text) ≡ true = longer (length b) (length text) (length r) size in
    let behind : drop (length b) text ≡ 10 ∷ r = drop_at b (10 ∷ r) (length b) refl in
    let ended : starts_with nat_eq (drop (length b) text) (10 ∷ []) ≡ true = (starts_is Decides-eqb (drop (length b) text) (10 ∷ []) _ refl).1 r behind in
    ap (λ t. only_if t fault.Truncated >>= λ u. body_rest (length b) text) more
    ∙ ap (λ t. only_if t fault.BadRecord >>= λ u. Ok (take (length b) text, drop (length b + 1) text)) ended
    ∙ (λ i. Ok (take_at b (10 ∷ r) (length b) refl i, drop-append-add b (10 ∷ r) 1 i))
  where
    longer : (n m k : ℕ) → m ≡ n + suc k → nat_lt n m ≡ true
    longer n m k e = grind (arith, nat_tests)
