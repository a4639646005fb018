-- Each text has one shape as a path in a line, and it is what the functions give.
use Rattle.std.proofs.Common.{◌≡◌, ◌⊎◌, inl, inr, Bool, true, false, Option, Some, None, Ok, Err, [], ◌∷◌, length, refl, ap, ◌∙◌, arith}
use Rattle.std.specs.Prelude.{◌==◌}
use Rattle.std.proofs.lemmas.Bool.{eqb-true}
use Rattle.std.proofs.lemmas.Bool.Decides.{nat_tests}
use Rattle.gx_model.specs.declared.faults.Fault.TheVariants as faults
use Rattle.gx_model.specs.Texts.{Bytes, cut_at}
use Rattle.gx_model.specs.Faults.{Given}
use Rattle.gx_model.specs.Streams.Spelling.{IsNot}
use Rattle.gx_model.specs.Texts.Paths.{Path, is_quoted, path_of, quoted_of}
use Rattle.gx_model.specs.Laws.TextLaws.{IsQuotedPath}
use Rattle.gx_model.specs.Streams.Grammar.{two_paths}
use Rattle.gx_model.specs.Streams.Lines.{last_path, source_path, after_space}
use Rattle.gx_model.specs.Streams.LineShapes.{BeginsPart, quote_text, space_text, IsLastPath, bare_last, bare_last_fault, quoted_last, quoted_last_goes_on, quoted_last_fault, IsSource, bare_source, bare_source_fault, bare_source_is_last, quoted_source, quoted_source_goes_on, quoted_source_fault, AreTwoPaths, source_and_destination, source_fault, destination_fault}
use Rattle.gx_model.proofs.Texts.Cuts.{cut_after}
use Rattle.gx_model.proofs.Streams.Readings.{refuted}
use Rattle.gx_model.proofs.Texts.PathTexts.{path_tells, path_refused}
use Rattle.gx_model.proofs.Texts.Quotes.{quoted_path_tells, quoted_path_refused}
use Rattle.gx_model.proofs.Streams.WordShapes.{tested, cut_none, part_there}
use Rattle.gx_model.proofs.Streams.TextShapes.{IsReadBy, IsTotal}

-- begins with a quote, or not
quote : (text : Bytes) → ((x : Bytes) × (text ≡ quote_text x)) ⊎ IsNot quote_text text
quote [] = inr (λ x e. absurd cc)
quote (b ∷ bs) = by (tested (b == 34)) where
  by : ((b == 34) ≡ true) ⊎ ((b == 34) ≡ true → ⊥) → ((x : Bytes) × (b ∷ bs ≡ quote_text x)) ⊎ IsNot quote_text (b ∷ bs)
  by (inl e) = inl (bs, ap (λ x. x ∷ bs) (eqb-true b 34 e))
  by (inr n) = inr (λ x e. let k : b ≡ 34 = cc in n (let t : (b == 34) ≡ true = grind (arith, nat_tests) in t))

bare : (text : Bytes) → IsNot quote_text text → is_quoted text ≡ false
bare [] h = refl
bare (b ∷ bs) h = refuted (b == 34) (λ e. h bs (ap (λ x. x ∷ bs) (eqb-true b 34 e)))

quoted : (text : Bytes) (p : Path) (rest : Bytes) → IsQuotedPath text p rest → is_quoted text ≡ true
quoted text p rest h = ap is_quoted h.quoted.spelled

-- ---- the path that ends a line

pub last_shape : IsReadBy IsLastPath last_path
unfolding last_path
last_shape text g (bare_last {p = p} n h) = rw (bare text n) ((path_tells text p).1 h)
last_shape text g (bare_last_fault {f = f} n h) = rw (bare text n) ((path_refused text f).1 h)
last_shape text g (quoted_last {p = p} h) = rw (quoted text p [] h, (quoted_path_tells text p []).1 h) refl
last_shape text g (quoted_last_goes_on {p = p} {b = b} {rest = rest} h) =
    let t : (length (b ∷ rest) == 0) ≡ false = grind (arith, nat_tests) in
    rw (quoted text p (b ∷ rest) h, (quoted_path_tells text p (b ∷ rest)).1 h, t) refl
last_shape text g (quoted_last_fault {f = f} e h) = rw (ap is_quoted e, (quoted_path_refused text f).1 h) refl

pub last_there : IsTotal IsLastPath
last_there text = by (quote text) where
  unquoted : IsNot quote_text text → (o : Given Path) → path_of text ≡ o → (g : Given Path) × IsLastPath text g
  unquoted n (Ok p) e = (Ok p, bare_last n ((path_tells text p).0 e))
  unquoted n (Err f) e = (Err f, bare_last_fault n ((path_refused text f).0 e))

  in_quotes : (x : Bytes) → text ≡ quote_text x → (o : Given (Path × Bytes)) → quoted_of text ≡ o → (g : Given Path) × IsLastPath text g
  in_quotes x q (Ok (p, [])) e = (Ok p, quoted_last ((quoted_path_tells text p []).0 e))
  in_quotes x q (Ok (p, b ∷ rest)) e = (Err faults.BadLine, quoted_last_goes_on ((quoted_path_tells text p (b ∷ rest)).0 e))
  in_quotes x q (Err f) e = (Err f, quoted_last_fault q ((quoted_path_refused text f).0 e))

  by : ((x : Bytes) × (text ≡ quote_text x)) ⊎ IsNot quote_text text → (g : Given Path) × IsLastPath text g
  by (inl h) = in_quotes h.0 h.1 (quoted_of text) refl
  by (inr n) = unquoted n (path_of text) refl

-- ---- a source

no_space : (p : Path) (rest : Bytes) → IsNot space_text rest → after_space p rest ≡ Err faults.BadLine
no_space p [] h = refl
no_space p (b ∷ rest) h = rw (refuted (b == 32) (λ e. h rest (ap (λ x. x ∷ rest) (eqb-true b 32 e)))) refl

cut_there : (text part rest : Bytes) → BeginsPart text part (Some rest) → cut_at 32 text ≡ Some (part, rest)
cut_there text part rest h = ap (cut_at 32) h.1 ∙ cut_after 32 part rest h.0

pub source_shape : IsReadBy IsSource source_path
unfolding source_path
source_shape text g (bare_source {part = part} {rest = rest} {p = p} n c h) = rw (bare text n, cut_there text part rest c, (path_tells part p).1 h) refl
source_shape text g (bare_source_fault {part = part} {f = f} rest n c h) = rw (bare text n, cut_there text part rest c, (path_refused part f).1 h) refl
source_shape text g (bare_source_is_last n c) = rw (bare text n, cut_none 32 text c.0) refl
source_shape text g (quoted_source {rest = rest} {p = p} h) = rw (quoted text p (space_text rest) h, (quoted_path_tells text p (space_text rest)).1 h) refl
source_shape text g (quoted_source_goes_on {rest = rest} {p = p} h n) = rw (quoted text p rest h, (quoted_path_tells text p rest).1 h) (no_space p rest n)
source_shape text g (quoted_source_fault {f = f} e h) = rw (ap is_quoted e, (quoted_path_refused text f).1 h) refl

pub source_there : IsTotal IsSource
source_there text = by (quote text) where
  unquoted : IsNot quote_text text → (part rest : Bytes) → BeginsPart text part (Some rest) → (o : Given Path) → path_of part ≡ o → (g : Given (Path × Bytes)) × IsSource text g
  unquoted n part rest c (Ok p) e = (Ok (p, rest), bare_source n c ((path_tells part p).0 e))
  unquoted n part rest c (Err f) e = (Err f, bare_source_fault rest n c ((path_refused part f).0 e))

  in_part : IsNot quote_text text → (part : Bytes) (more : Option Bytes) → BeginsPart text part more → (g : Given (Path × Bytes)) × IsSource text g
  in_part n part None c = (Err faults.BadLine, bare_source_is_last n (rw (← c.1) at c))
  in_part n part (Some rest) c = unquoted n part rest c (path_of part) refl

  spaced : (p : Path) (rest : Bytes) → IsQuotedPath text p rest → (t : Bool) → (g : Given (Path × Bytes)) × IsSource text g
  spaced p [] h t = (Err faults.BadLine, quoted_source_goes_on h (λ x e. absurd cc))
  spaced p (b ∷ rest) h t = at_space (tested (b == 32)) where
    at_space : ((b == 32) ≡ true) ⊎ ((b == 32) ≡ true → ⊥) → (g : Given (Path × Bytes)) × IsSource text g
    at_space (inl e) = (Ok (p, rest), quoted_source (rw (eqb-true b 32 e) at h))
    at_space (inr n) = (Err faults.BadLine, quoted_source_goes_on h (λ x e. let k : b ≡ 32 = cc in n (let t : (b == 32) ≡ true = grind (arith, nat_tests) in t)))

  in_quotes : (x : Bytes) → text ≡ quote_text x → (o : Given (Path × Bytes)) → quoted_of text ≡ o → (g : Given (Path × Bytes)) × IsSource text g
  in_quotes x q (Ok p) e = spaced p.0 p.1 ((quoted_path_tells text p.0 p.1).0 e) true
  in_quotes x q (Err f) e = (Err f, quoted_source_fault q ((quoted_path_refused text f).0 e))

  by : ((x : Bytes) × (text ≡ quote_text x)) ⊎ IsNot quote_text text → (g : Given (Path × Bytes)) × IsSource text g
  by (inl h) = in_quotes h.0 h.1 (quoted_of text) refl
  by (inr n) = let c = part_there text in in_part n c.0 c.1 c.2

-- ---- a source and a destination

pub two_shape : IsReadBy AreTwoPaths two_paths
unfolding two_paths
two_shape text g (source_and_destination s d) = rw (source_shape text _ s, last_shape _ _ d) refl
two_shape text g (source_fault s) = rw (source_shape text _ s) refl
two_shape text g (destination_fault s d) = rw (source_shape text _ s, last_shape _ _ d) refl

pub two_there : IsTotal AreTwoPaths
two_there text = let s = source_there text in by s.0 s.1 where
  second : (p : Path) (rest : Bytes) → IsSource text (Ok (p, rest)) → (o : Given Path) → IsLastPath rest o → (g : Given (Path × Path)) × AreTwoPaths text g
  second p rest s (Ok q) d = (Ok (p, q), source_and_destination s d)
  second p rest s (Err f) d = (Err f, destination_fault s d)

  by : (o : Given (Path × Bytes)) → IsSource text o → (g : Given (Path × Path)) × AreTwoPaths text g
  by (Ok (p, rest)) s = let d = last_there rest in second p rest s d.0 d.1
  by (Err f) s = (Err f, source_fault s)
