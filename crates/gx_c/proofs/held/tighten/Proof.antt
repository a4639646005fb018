-- `tighten` makes the box again.
use Rattle.std.proofs.Common.{◌≡◌, List, [], ◌∷◌, ◌++◌, refl, sym, ap, subst}
use base.Fraction.{full_share}
use mir.Syntax.{Fn, Args, a_type}
use mir.Val.{Val}
use mir.MapTy.{inst_fn}
use base.Logic.{SProp, ent, emp, id⊢}
use base.Fml.{ftrue, flft}
use prog.Wp.{WpFn}
use types.Kit.{‵, raw, ◌⊛◌, some, later, at_ret, ◌$◌, ◌∵◌, !, qed, keep, move, drop, split, split3, join, fsplit, fjoin, pick, suffices, use0, use1, await, rewrite, feq_i, done}
use types.Run.{fld, stop, of_opd, no_more, and_then, first, blocks, exec, returns, enter}
use types.ByLocal.{alloc_all, pass_all, free_all, look_at, get, get_in, sets, lands_last, env}
use types.Part.{sub, whole}
use contract.BorrowLft.{◌⊑◌, ⊑_static}
use contract.Lifetimes.{Lfts}
use contract.Monad.{fact, fact_i}
use contract.Running.{tables}
use denote.Exit.{no, yes, rest}
use denote.RattleType.{RattleType, owns}
use denote.RawPtr.{ptr_val}
use denote.Signature.{plain, types_at}
use denote.Steps.{nothing, only, heard}
use denote.Param.{param, layout, layouts}
use denote.Param.NoDrop.{glues}
use denote.Triple.Clauses.{Lasts, lasts}
use denote.Triple.Call.{calls_at_last}
use denote.Triple.Spec.{triple_of}
use denote.Triple.Table.{framed}
use denote.Triple.Walked.{Stays, stay_dropped, walk_of, Goes-dropped, says, ends_at}
use Rattle.std.proofs.alloc.Calls.{handle_tells}
use Rattle.std.proofs.alloc.Shapes.{after}
use Rattle.std.proofs.cell.Inside.{Good}
use Rattle.std.proofs.raw_atomic.Walks.{proved_at}
use Rattle.std.proofs.BoxSteps.Form as box
use Rattle.std.proofs.BoxSteps.Steps.{box_out, box_in}
use Rattle.std.specs.contracts.boxed.Box.from_raw as callee
use Rattle.std.proofs.boxed.Box.from_raw.Met.{met}
use Rattle.std.specs.contracts.alloc.Global.{the_row as Z}
use Rattle.std.specs.contracts.impls.GlobalAllocator.TheImpl.{ghosts, dict}
use Rattle.std.proofs.impls.GlobalAllocator.TheImpl.Met.{passed}
use Rattle.gx_c.specs.contracts.Destruct++none.drop.Key.{symbol as no_drop}
use Rattle.gx_c.proofs.Pointers.{Heap, heap_laws, heap_drops, Loose, alone, pointer_good, loose_good, loose_out}
use Rattle.gx_c.specs.contracts.held.tighten as f
use Rattle.gx_c.proofs.held.tighten.Statement.{statement}
use Rattle.gx_c.proofs.held.tighten.Code as code

abbrev stayed : (T : RattleType) → Stays (f.ended T).signature.params (f.ended T).kept
stayed T = (stay_dropped (plain (λ _. Z)) yes, (stay_dropped (plain (λ _. Loose (param 0 T))) no, tt))

pub tighten_spec : {M : Type 1} → statement M
unfolding Rattle.gx_c.proofs.Destruct++none.drop.Code.code
tighten_spec 𝓤 𝓛 𝓜 𝓡 wired T L =
    let H = 𝓛.H in let 𝓣 = tables 𝓤 H 𝓜 𝓡 𝓡.env in let R = param 0 T in let En = f.ended T in let hs = stayed T in let c = f.clauses T 𝓛 𝓜.mem 𝓡.returns in
    let inst : Args = layouts (a_type ∷ []) (T, tt) in let fn : Fn = inst_fn inst code.function in
    let E : box.Bx = record { row = T; laws = L; al = record { row = Heap; laws = heap_laws; g = ghosts; d = dict; drops = heap_drops } } in let B : RattleType = box.B E in
    proved_at 𝓛 En hs c 𝓜 𝓡 (Goes-dropped 𝓛 1 (plain (λ _. Z)) yes (λ κs x w. refl), (Goes-dropped 𝓛 1 (plain (λ _. Loose (param 0 T))) no (λ κs x w. refl), tt)) (f.Key.name inst) fn (code.unfolded 𝓤 H 𝓜 𝓡 wired (T, tt)) (λ z are.
    let κ = z.0.0.0 in let q = z.0.1.0 in let a = z.0.3.0 in let d = z.0.3.1.0 in let p = d.at in let va = z.0.4.0 in let vl = z.0.4.1.0 in let v = alone (ptr_val p) in
    let Post : Val → SProp 𝓤 = (walk_of 𝓛 En hs c).post z in let Run : List Val → SProp 𝓤 = λ ws. WpFn 𝓤 H 𝓣.C 𝓣.Λ fn ws Post in
    let toks = ‵ (flft κ q) ⊛ (‵ (flft [] full_share) ⊛ ‵ ftrue) in
    let k = triple_of 𝓛 (callee.signature T Heap ghosts dict heap_drops) (callee.spec T Heap ghosts dict heap_drops 𝓛 𝓜.mem 𝓡.returns) in
    qed 𝓛 (((‵ (flft κ q) ⊛ ‵ ftrue) ⊛ ‵ (owns (types_at (f.signature T).params z.0.0) z.0.3 z.0.4)) ∷ (raw (fact 𝓤 (κ ⊑ T.lives)) ⊛ ‵ ftrue) ∷ []) ∵
    split ! $ split ! $ move ! (3 ∷ []) $ split ! $
    -- [what is asked; nothing; the token; nothing; the handle and the pointer]
    move ! (3 ∷ []) $ use0 𝓛 (‵ (flft [] full_share)) (𝓛.lfts.lft-nil full_share) $ join ! $ move ! (3 ∷ 0 ∷ []) $ join ! $ move ! (3 ∷ []) $ fsplit ! $ move ! (1 ∷ []) $ fsplit ! $
    loose_out R ! d vl (λ ws. move ! (2 ∷ []) $ handle_tells E.al ! a va (λ h ea fits.
    -- [the handle; what is owned; nothing; the tokens; what is asked; nothing]
    move ! (1 ∷ []) $ use0 𝓛 (raw (fact 𝓤 ([] ⊑ Heap.lives))) (fact_i 𝓤 ([] ⊑ Heap.lives) (emp 𝓤) (⊑_static [])) $ join ! $ move ! (4 ∷ 0 ∷ []) $ join ! $
    move ! (2 ∷ []) $ feq_i ! (List Val) (ptr_val p ∷ []) (ptr_val p ∷ []) refl $ fjoin ! $ move ! (2 ∷ 0 ∷ []) $ fjoin ! $ move ! (2 ∷ 0 ∷ []) $ join ! $ join ! $
    let κs' : Lfts 2 = (κ, ([], tt)) in let y : k.Ghost = ((κs', (q, (full_share, tt)), tt, (a, (p, tt)), (h ∷ [], (ptr_val p ∷ [], tt))), d.value) in
    use1 𝓛 (raw (k.pre y)) (id⊢ 𝓤 _) $
    suffices ! (Run (h ∷ v ∷ [])) (subst (λ (us : List Val). ent 𝓤 (Run (h ∷ v ∷ [])) (Run (us ++ (vl ++ [])))) (sym ea) (subst (λ (us : List Val). ent 𝓤 (Run (h ∷ v ∷ [])) (Run (h ∷ (us ++ [])))) (sym ws) (id⊢ 𝓤 (Run (h ∷ v ∷ []))))) $
    enter ! 𝓣.C 𝓣.Λ fn (h ∷ v ∷ []) Post $ alloc_all ! (λ l. pass_all ! refl (fits, (loose_good R p, tt)) $ let Ev = env fn.locals l in
    sets ! (of_opd ! (get_in ! (fld ! refl (stop !)) (sub ! 0 refl (whole !)))) refl (pointer_good p) $ first ! $ blocks ! $
    calls_at_last ! (framed 𝓤 H 𝓜 𝓣) k (met 𝓤 𝓛 𝓜 𝓡 (code.calls-std_alloc::boxed::Box::from_raw 𝓡.env wired) T Heap L heap_laws ghosts dict heap_drops
    (passed 𝓡.env (code.calls-std_heap::GlobalAllocator::allocate 𝓡.env wired) (code.calls-std_heap::GlobalAllocator::deallocate 𝓡.env wired) (code.calls-std_heap::GlobalAllocator::grow 𝓡.env wired) (code.calls-std_heap::GlobalAllocator::shrink 𝓡.env wired) _ 𝓤 𝓛 𝓜 𝓡)
    (glues no_drop 𝓡.env (code.calls-gx_c::Destruct++none::drop 𝓡.env wired) Heap heap_laws _ 𝓤 𝓛 𝓜 𝓡)) y (and_then ! (get ! refl) (and_then ! (get ! refl) (no_more !))) (λ u.
    use1 𝓛 (later (some (λ (r : B.Denot). (toks ⊛ ‵ (B.own_val r (u ∷ []))) ⊛ some (λ (ls : Lasts (callee.ended T Heap ghosts dict heap_drops) κs' y.0.3). ‵ (lasts (callee.ended T Heap ghosts dict heap_drops) κs' y.0.3 ls)
    ⊛ (raw (fact 𝓤 (r.value ≡ d.value)) ⊛ raw (fact 𝓤 (r.alloc ≡ a))))))) (id⊢ 𝓤 (k.post y u)) $
    await ! tt $ pick ! (λ r. split ! $ move ! (1 ∷ []) $ pick ! (λ ls. split3 ! $ drop ! $ heard ! (r.value ≡ d.value) (λ same. move ! (1 ∷ []) $ split ! $ move ! (1 ∷ []) $
    box_out E ! r (u ∷ []) (λ b o hv e us fits'. box_in E ! r b o r.value e refl $ rewrite ! 0 (λ (xs : List Val). ‵ (B.own_val r xs)) (sym us) refl $
    let good : Good (layout B) u = subst (Good (layout B)) (sym (ap only us)) (box.box_typed E hv b o fits') in
    lands_last ! refl good $ exec ! 𝓣.C 𝓣.Λ Ev (after 2 fn.body) (at_ret Ev Post) $ sets ! (of_opd ! (get ! refl)) refl good $
    -- [the box; the tokens]
    move ! (1 ∷ []) $ split ! $ returns ! (look_at ! 0 refl) $ free_all ! refl $ keep ! (0 ∷ 2 ∷ []) $ nothing ! $ move ! (1 ∷ 0 ∷ []) $ join ! $
    suffices ! _ (ends_at 𝓛 En hs c z u r (tt, (rest ((Loose R).exit no) d, tt)) (tt, (tt, tt))) $ says ! same $
    nothing ! $ nothing ! $ join ! $ nothing ! $ join ! $ move ! (1 ∷ []) $ done !)))))))))
