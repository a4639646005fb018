-- `hold` passes on the pointer, and with it what it owns.
use Rattle.std.proofs.Common.{List, [], ◌∷◌, ◌++◌, refl, sym, subst}
use mir.Val.{Val}
use base.Logic.{SProp, ent, id⊢}
use base.Fml.{ftrue}
use prog.Wp.{WpFn}
use types.Kit.{‵, raw, ◌⊛◌, ◌$◌, ◌∵◌, !, qed, keep, drop, split, fsplit, join, suffices, done}
use types.Run.{enter, fld, stop, of_opd, no_more, and_then, returns}
use types.ByLocal.{alloc_all, pass_all, free_all, look_at, get, get_in, sets}
use types.Part.{agg, sub, whole}
use contract.Running.{tables}
use denote.Exit.{no, rest}
use denote.RattleType.{owns}
use denote.RawPtr.{ptr_val}
use denote.Signature.{plain, types_at}
use denote.Steps.{nothing}
use denote.Triple.Entry.{alive}
use denote.Triple.Walked.{Stays, stay_dropped, Goes-dropped, walk_of, says, ends_at}
use Rattle.std.specs.Prelude.{Some}
use Rattle.std.proofs.raw_atomic.Walks.{proved_at}
use Rattle.gx_c.proofs.Pointers.{Held, Loose, alone, held_good, held_in, pointer_good, loose_good, loose_out}
use Rattle.gx_c.specs.contracts.opened.Opened.{the_row as R}
use Rattle.gx_c.specs.contracts.held.hold as f
use Rattle.gx_c.proofs.held.hold.Statement.{statement}
use Rattle.gx_c.proofs.held.hold.Code as code

abbrev stayed : Stays f.ended.signature.params f.ended.kept
stayed = (stay_dropped (plain (λ _. Loose R)) no, tt)

pub hold_spec : {M : Type 1} → statement M
hold_spec 𝓤 𝓛 𝓜 𝓡 wired =
    let c = f.clauses 𝓛 𝓜.mem 𝓡.returns in let 𝓣 = tables 𝓤 𝓛.H 𝓜 𝓡 𝓡.env in
    proved_at 𝓛 f.ended stayed c 𝓜 𝓡 (Goes-dropped 𝓛 0 (plain (λ _. Loose R)) no (λ κs x w. refl), tt) f.Key.name code.function (code.unfolded 𝓤 𝓛.H 𝓜 𝓡 wired) (λ z are.
    let d = z.0.3.0 in let vs = z.0.4.0 in let v = alone (ptr_val d.at) in let h : Held.Denot = record { at = d.at; value = Some d.value } in
    let Post : Val → SProp 𝓤 = (walk_of 𝓛 f.ended stayed c).post z in let Run : List Val → SProp 𝓤 = λ ws. WpFn 𝓤 𝓛.H 𝓣.C 𝓣.Λ code.function ws Post in
    qed 𝓛 ((raw (alive 𝓛 f.signature z.0.0 z.0.1) ⊛ ‵ (owns (types_at f.signature.params z.0.0) z.0.3 z.0.4)) ∷ ‵ ftrue ∷ []) ∵
    split ! $ drop ! $ fsplit ! $ loose_out R ! d vs (λ ws.
    suffices ! (Run (v ∷ [])) (subst (λ (us : List Val). ent 𝓤 (Run (v ∷ [])) (Run us)) (sym (λ i. ws i ++ [])) (id⊢ 𝓤 (Run (v ∷ [])))) $
    enter ! 𝓣.C 𝓣.Λ code.function (v ∷ []) Post $ alloc_all ! (λ l. pass_all ! refl (loose_good R d.at, tt) $
    sets ! (of_opd ! (get_in ! (fld ! refl (stop !)) (sub ! 0 refl (whole !)))) refl (pointer_good d.at) $
    sets ! (of_opd ! (get ! refl)) refl (pointer_good d.at) $
    sets ! (agg ! (and_then ! (get ! refl) (no_more !))) refl (held_good d.at) $
    held_in ! d.at (Some d.value) $
    returns ! (look_at ! 0 refl) $ free_all ! refl $ keep ! (0 ∷ []) $
    suffices ! _ (ends_at 𝓛 f.ended stayed c z v h (rest ((Loose R).exit no) d, tt) (tt, tt)) $ says ! refl $
    nothing ! $ nothing ! $ join ! $ nothing ! $ done !)))
