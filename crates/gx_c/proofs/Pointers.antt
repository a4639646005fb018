-- The machine values of a `Loose` and of a `Held`: a struct of one pointer. Assumes `Logic`.
use Rattle.std.proofs.Common.{◌≡◌, List, [], ◌∷◌, ◌++◌, refl, subst, lit<}
use lib.Dec.{T}
use seplogic.Ra.Ura.{Ura}
use mir.Raw.{raw as bare}
use mir.Syntax.{Dict, dnil, impl, tcons, tnil, ty_ptr}
use denote.Exit.{no}
use mir.Val.{Val, vstruct, vcons, vnil, of_list, has_ty, WT}
use types.Logic.{Logic}
use types.Kit.{Item, Goal, Seq, Step, step, ‵, ◌$◌, drop, fsplit, fjoin, fpick, fpack, feq_i, feq_l}
use denote.RattleType.{RattleType, Valss}
use denote.Builtin.{RawPtr}
use denote.RawPtr.{Ptr, block_ptr, null_ptr, ptr_val}
use denote.Steps.{nothing}
use denote.Param.{arg, layout}
use denote.Param.Laws.{Laws, arg_laws}
use denote.Struct.Struct.{within}
use denote.Struct.Owning.{shape}
use Rattle.std.specs.Prelude.{Option, None, Some, IsSome, Bool, not}
use Rattle.std.specs.contracts.alloc.Global.{the_row as heap_row}
use Rattle.std.proofs.alloc.Global.TheLaws.{the_row_laws as heap_row_laws}
use Rattle.gx_c.specs.contracts.Destruct++none.drop.Key.{symbol as no_drop}
use Rattle.gx_c.specs.Owned.{is_owned, is_held}
use Rattle.gx_c.specs.contracts.opened.Opened as opened
use Rattle.gx_c.specs.contracts.held.Held as held
use Rattle.gx_c.specs.contracts.held.Loose as loose

-- the allocator as a call passes it
abbrev pub Heap : RattleType
Heap = arg (bare (layout heap_row)) no heap_row

pub heap_laws : Laws Heap
heap_laws = arg_laws (bare (layout heap_row)) no heap_row heap_row_laws refl

abbrev pub heap_drops : Dict
heap_drops = impl (no_drop ∷ []) (tcons (layout Heap) tnil) dnil

abbrev pub alone : Val → Val
alone v = vstruct (vcons v vnil)

abbrev pub Held : RattleType
Held = held.the_row

abbrev pub Loose : RattleType → RattleType
Loose R = loose.the_row R

pub some_of : {X : Type 0} (x : Option X) → IsSome x → (y : X) × (x ≡ Some y)
some_of None is = absurd (subst (λ (b : Bool). T (not b)) is tt)
some_of (Some y) is = (y, refl)

pub pointer_good : (p : Ptr) → T (has_ty ty_ptr (ptr_val p)) × WT (ptr_val p)
pointer_good null_ptr = (tt, record { fits = lit< tt })
pointer_good (block_ptr b o) = (tt, tt)

pub held_good : (p : Ptr) → T (has_ty (layout Held) (alone (ptr_val p))) × WT (alone (ptr_val p))
held_good null_ptr = (tt, (record { fits = lit< tt }, tt))
held_good (block_ptr b o) = (tt, (tt, tt))

pub loose_good : (R : RattleType) (p : Ptr) → T (has_ty (layout (Loose R)) (alone (ptr_val p))) × WT (alone (ptr_val p))
loose_good R null_ptr = (tt, (record { fits = lit< tt }, tt))
loose_good R (block_ptr b o) = (tt, (tt, tt))

module _ {M : Type 1} {𝓤 : Ura M} {𝓛 : Logic 𝓤} {K : Type 0} {Γ : List (Item 𝓤)} {G : Goal 𝓤 𝓛.H} where
  pub held_out : K → (d : Held.Denot) (vs : List Val) → (vs ≡ alone (ptr_val d.at) ∷ [] → Seq K 𝓛 (‵ (is_held opened.the_row d.at d.value) ∷ Γ) G)
      → Seq K 𝓛 (‵ (Held.own_val d vs) ∷ Γ) G
  held_out t d vs k = fsplit t $ fpick t (λ vss. fsplit t $ feq_l t (λ ev. fsplit t $ feq_l t (λ ep. drop t $
      k (subst (λ (ps : List Val). vs ≡ vstruct (of_list (ps ++ [])) ∷ []) ep ev))))

  pub held_in : K → (p : Ptr) (x : Option (opened.the_row).Denot)
      → Step K 𝓛 (‵ (Held.own_val (record { at = p; value = x }) (alone (ptr_val p) ∷ [])) ∷ Γ) G (‵ (is_held opened.the_row p x) ∷ Γ) G
  held_in t p x = step (λ s. nothing t $ feq_i t (List Val) (ptr_val p ∷ []) (ptr_val p ∷ []) refl $ fjoin t $
      feq_i t (List Val) (alone (ptr_val p) ∷ []) (alone (ptr_val p) ∷ []) refl $ fjoin t $
      fpack t (Valss (RawPtr ∷ [])) (within (shape held.the_type) (p, tt) (alone (ptr_val p) ∷ [])) (ptr_val p ∷ [], tt) $ fjoin t $ s)

  module _ (R : RattleType) where
    pub loose_out : K → (d : (Loose R).Denot) (vs : List Val) → (vs ≡ alone (ptr_val d.at) ∷ [] → Seq K 𝓛 (‵ (is_owned R d.at d.value) ∷ Γ) G)
        → Seq K 𝓛 (‵ ((Loose R).own_val d vs) ∷ Γ) G
    loose_out t d vs k = fsplit t $ fpick t (λ vss. fsplit t $ feq_l t (λ ev. fsplit t $ feq_l t (λ ep. drop t $
        k (subst (λ (ps : List Val). vs ≡ vstruct (of_list (ps ++ [])) ∷ []) ep ev))))

    pub loose_in : K → (p : Ptr) (x : R.Denot)
        → Step K 𝓛 (‵ ((Loose R).own_val (record { at = p; value = x }) (alone (ptr_val p) ∷ [])) ∷ Γ) G (‵ (is_owned R p x) ∷ Γ) G
    loose_in t p x = step (λ s. nothing t $ feq_i t (List Val) (ptr_val p ∷ []) (ptr_val p ∷ []) refl $ fjoin t $
        feq_i t (List Val) (alone (ptr_val p) ∷ []) (alone (ptr_val p) ∷ []) refl $ fjoin t $
        fpack t (Valss (RawPtr ∷ [])) (within (shape (loose.the_type R)) (p, tt) (alone (ptr_val p) ∷ [])) (ptr_val p ∷ [], tt) $ fjoin t $ s)
