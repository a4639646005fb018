use Rattle.std.proofs.Common.{◌≢◌, ◌≡◌, [], ◌∷◌, ◌++◌, codes, Option, Some, None, refl, sym, ap, ◌∙◌}
use Rattle.std.specs.Prelude.{MatchOption}
use Rattle.std.specs.Borrow.{Bor}
use Rattle.std.specs.List.{flat_map}
use Rattle.std.proofs.lemmas.Bool.Decides.{Decides-eqb}
use Rattle.std.proofs.lemmas.Slice.Eq.{strip_suffix_is}
use Rattle.gx_model.specs.Texts.{Bytes}
use Rattle.gx_model.specs.Stores.StoreText.{stored_ref}
use Rattle.gx_look.specs.Refs.{LeavesEnd}
use Rattle.gx_look.proofs.JoinedTexts.{same_before}
use Rattle.gx_look.proofs.refs.without_end.Goals as goal

stripped : (lines end : Bytes) (left : Option (Bor Bytes)) → end ≡ codes "end" ++ 10 ∷ [] → MatchOption left ((front : Bytes) → lines ≢ front ++ end) (λ x. lines ≡ x.now ++ end) → LeavesEnd lines left
stripped lines end None last m = λ refs h. absurd (m (flat_map stored_ref refs) (h.spelled ∙ ap (λ z. flat_map stored_ref refs ++ z) (sym last)))
stripped lines end (Some x) last m = λ refs h. ap Some (same_before x.now (flat_map stored_ref refs) end (sym m ∙ h.spelled ∙ ap (λ z. flat_map stored_ref refs ++ z) (sym last)))

pub returns : goal.returns
returns c = stripped c.args.lines.now (codes "end" ++ 10 ∷ []) c.strip_suffix.result refl (strip_suffix_is Decides-eqb c.args.lines.now (codes "end" ++ 10 ∷ []) c.strip_suffix.result c.strip_suffix.ensures.cases)
