-- `store16` writes two bytes through a pointer. Assumes `Logic`.
use Rattle.std.proofs.Common.{◌≡◌, ℕ, ◌+◌, ◌/◌, ◌%◌, ◌<◌, ◌^◌, List, [], ◌∷◌, ◌++◌, length, set, Some, refl, sym, subst, ◌∙◌, length-set, arith, w8, w32, w64}
use Rattle.std.proofs.raw_atomic.Walks.{proved_at, leaves}
use base.Fraction.{full_share}
use base.Logic.{SProp, emp, never, id⊢}
use base.Fml.{ftrue, fat, froom, flft}
use mir.Syntax.{ty_int}
use mir.Val.{Val, vint, vptr, vunit}
use contract.Monad.{fact, fact_i}
use contract.Running.{tables}
use prog.Wp.{Env, WpFn}
use types.Kit.{‵, raw, ◌⊛◌, prop, at_ret, ◌$◌, ◌∵◌, !, qed, by, move, keep, use0, use1, use2, split, join, regoal, rewrite, fsplit, fsplit3, fjoin, fjoin3}
use types.Kit.{feq_i, feq_l, flt_i, flt_l}
use types.Part.{whole, sub}
use types.Run.{stop, fld, lit, unit_lit, init, of_opd, bin, un, assigns, assigns_last, first, blocks, exec, returns, enter}
use types.ByLocal.{alloc_all, pass_all, free_all, look_at, get, get_in, through, sets, take_at, give_at, env}
use denote.Param.{layout}
use denote.RattleType.{owns}
use denote.RawPtr.{Ptr, in_a_block}
use denote.Signature.{plain, types_at}
use denote.Steps.{nothing, heard, opens, closes}
use denote.Triple.Entry.{alive}
use denote.Triple.Walked.{Stays, walk_of, stay_dropped, stay_ref, Goes-dropped, Goes-ref}
use Rattle.std.proofs.alloc.Shapes.{after}
use Rattle.std.proofs.RcSteps.{word, word-Good}
use Rattle.ram_arena.specs.Ownership.{slots, cells_own}
use Rattle.ram_arena.proofs.Memory.{Cr, Bs, word_had, room_out, Besides, byte_in, slot_at}
use Rattle.ram_arena.specs.contracts.cells.Cells.store16 as f
use Rattle.ram_arena.proofs.cells.Cells.store16.Statement.{statement}
use Rattle.ram_arena.proofs.cells.Cells.store16.Code as code

abbrev stayed : Stays f.ended.signature.params f.ended.kept
stayed = (
  stay_ref (0 ∷ []) tt (plain (λ _. Cr)),
  (
    stay_dropped (slot_at 1 f.ended.signature.params) f.ended.kept.1.0,
    (stay_dropped (slot_at 2 f.ended.signature.params) f.ended.kept.1.1.0, (stay_dropped (slot_at 3 f.ended.signature.params) f.ended.kept.1.1.1.0, tt)),
  ),
)

pub store16_spec : {M : Type 1} → statement M
store16_spec 𝓤 𝓛 𝓜 𝓡 wired =
    let H = 𝓛.H in let c = f.clauses 𝓛 𝓜.mem 𝓡.returns in let C = (tables 𝓤 H 𝓜 𝓡 𝓡.env).C in let Λ = (tables 𝓤 H 𝓜 𝓡 𝓡.env).Λ in let fn = code.function in
    proved_at 𝓛 f.ended stayed c 𝓜 𝓡 (
      Goes-ref 𝓛 1 0 tt (plain (λ _. Cr)),
      (
        Goes-dropped 𝓛 1 (slot_at 1 f.ended.signature.params) f.ended.kept.1.0 (λ κs x w. refl),
        (
          Goes-dropped 𝓛 1 (slot_at 2 f.ended.signature.params) f.ended.kept.1.1.0 (λ κs x w. refl),
          (Goes-dropped 𝓛 1 (slot_at 3 f.ended.signature.params) f.ended.kept.1.1.1.0 (λ κs x w. refl), tt),
        ),
      ),
    )
    f.Key.name fn (code.unfolded 𝓤 H 𝓜 𝓡 wired) (λ z are.
    let Post : Val → SProp 𝓤 = (walk_of 𝓛 f.ended stayed c).post z in
    let a = z.0.3 in let vss = z.0.4 in let κ = z.0.0.0 in let q = z.0.1.0 in
    let d = a.0.now in let rb = a.0.ref_ptr.0 in let ro = a.0.ref_ptr.1 in let γ = a.0.ghost_name in let base = a.1.0 in let at = a.1.1.0 in
    let value = a.1.1.1.0 in
    let Asked : Type 0 = (base.ptr ≡ d.at) × (at + 1 < length d.slots) × (value < 2 ^ 16) in
    qed 𝓛 ((raw (alive 𝓛 f.ended.signature z.0.0 z.0.1) ⊛ ‵ (owns (types_at f.ended.signature.params z.0.0) a vss)) ∷ raw (fact 𝓤 Asked) ∷ []) ∵
    move ! (1 ∷ []) $ heard ! Asked (λ asked. split ! $ use1 𝓛 (‵ (flft κ q) ⊛ ‵ ftrue) (id⊢ 𝓤 _) $ split ! $ move ! (2 ∷ []) $
    fsplit ! $ fsplit3 ! $ feq_l ! (λ e0. move ! (2 ∷ []) $ fsplit ! $ word_had ! base.ptr vss.1.0
    (λ e1. fsplit ! $ fsplit ! $ feq_l ! (λ e2. flt_l ! (λ fits. fsplit ! $ fsplit ! $ feq_l ! (λ e3. flt_l ! (λ low. keep ! (1 ∷ 2 ∷ 3 ∷ []) $
    -- [what γ is seen at; the borrow; the token]
    regoal ! (λ (us : List Val). prop (WpFn 𝓤 H C Λ fn us Post)) (λ i. e0 i ++ (e1 i ++ (e2 i ++ (e3 i ++ [])))) refl $
    enter ! C Λ fn (vptr rb ro ∷ word base.ptr ∷ vint w64 at ∷ vint w32 value ∷ []) Post $ alloc_all !
    (λ l. pass_all ! refl ((tt, tt), (word-Good [] base.ptr, ((tt, record { fits = fits }), ((tt, record { fits = low }), tt)))) $
    let En : Env 𝓤 H = env fn.locals l in
    opens ! tt Cr {h = d} rb ro (λ vs. move ! (1 ∷ []) $ fsplit ! $ move ! (1 ∷ []) $
    in_a_block ! d.at (λ p. cells_own p d.slots) (id⊢ 𝓤 (never 𝓤)) (λ b o e. fsplit ! $ flt_l ! (λ small.
    take_at ! 2 $ rewrite ! 0 (λ (p : Ptr). ‵ (fat full_share (layout Bs) (l 2) 0 (word p))) (asked.0 ∙ e) refl $ give_at ! 2 $ first ! $ blocks ! $
    -- [the bytes; the mark; its cell; the open borrow; what γ is seen at; the other part of that]
    let cs0 = d.slots in
    let within0 : at < length cs0 = omega (arith, asked.1) in let far0 : at < 2 ^ 64 = omega (arith, asked.1, small) in
    let byte0 : value % 0x100 < 2 ^ 8 = omega arith in sets ! (bin ! (get ! refl) (lit ! tt) (omega arith)) refl (tt, record { fits = omega arith }) $ sets !
    (un ! (get ! refl) (record { fits = byte0 })) refl (tt, record { fits = byte0 }) $
    sets ! (bin ! (get_in ! (fld ! refl (stop !)) (sub ! 0 refl (whole !))) (get ! refl) tt) refl (tt, tt) $
    use1 𝓛 (‵ (froom (ty_int w8) b (at + o)) ⊛ ‵ (Besides 𝓛 b o cs0 at)) (room_out 𝓛 b o cs0 at within0) $ split ! $
    assigns ! (of_opd ! (get ! refl)) (through ! refl (stop !)) (init ! 0 refl (tt, record { fits = byte0 })) $
    let cs1 = set cs0 at (Some (value % 0x100)) in
    use2 𝓛 (‵ (slots b o cs1)) (byte_in 𝓛 b o cs0 at within0 (value % 0x100)) $
    let within1 : (at + 1) < length cs1 = omega (arith, asked.1, length-set cs0 at (Some (value % 0x100))) in
    let far1 : (at + 1) < 2 ^ 64 = omega (arith, asked.1, small) in
    let byte1 : value / 0x100 < 2 ^ 8 = omega (arith, asked.2) in
    sets ! (bin ! (get ! refl) (lit ! tt) (omega arith)) refl (tt, record { fits = omega (arith, low) }) $ sets !
    (un ! (get ! refl) (record { fits = byte1 })) refl (tt, record { fits = byte1 }) $
    sets ! (bin ! (get ! refl) (lit ! tt) (record { fits = far1 })) refl (tt, record { fits = far1 }) $
    sets ! (bin ! (get_in ! (fld ! refl (stop !)) (sub ! 0 refl (whole !))) (get ! refl) tt) refl (tt, tt) $
    use1 𝓛 (‵ (froom (ty_int w8) b ((at + 1) + o)) ⊛ ‵ (Besides 𝓛 b o cs1 (at + 1))) (room_out 𝓛 b o cs1 (at + 1) within1) $ split ! $
    assigns_last ! (of_opd ! (get ! refl)) (through ! refl (stop !)) (init ! 0 refl (tt, record { fits = byte1 })) $
    exec ! C Λ En (after 1 fn.body) (at_ret En Post) $ sets ! (of_opd ! (unit_lit !)) refl (tt, tt) $
    let cs2 = set cs1 (at + 1) (Some (value / 0x100)) in
    use2 𝓛 (‵ (slots b o cs2)) (byte_in 𝓛 b o cs1 (at + 1) within1 (value / 0x100)) $
    let new : Cr.Denot = record { mark = d.mark; at = d.at; slots = cs2 } in
    let long : length cs2 ≡ length d.slots = length-set cs1 (at + 1) (Some (value / 0x100)) ∙ length-set cs0 at (Some (value % 0x100)) in
    flt_i ! (length cs2) (2 ^ 63) (subst (λ (k : ℕ). k < 2 ^ 63) (sym long) small) $ fjoin ! $
    rewrite ! 0 (λ (p : Ptr). ‵ (cells_own p cs2)) (sym e) refl $ move ! (1 ∷ 0 ∷ []) $ fjoin ! $ move ! (1 ∷ 0 ∷ []) $ closes ! tt Cr new vs rb ro $
    returns ! (look_at ! 0 refl) $ free_all ! refl $
    -- [what γ is seen at; the borrow; the token]
    feq_i ! (List Val) vss.0 (vptr rb ro ∷ []) e0 $ move ! (0 ∷ 1 ∷ 2 ∷ []) $ fjoin3 ! $
    nothing ! $ nothing ! $ fjoin ! $ nothing ! $ fjoin ! $ nothing ! $ fjoin ! $ move ! (1 ∷ 0 ∷ []) $ fjoin ! $
    -- [what is had of the parameters; the token]
    let Gives : Type 0 = (new.at ≡ d.at) × (new.slots ≡ cs2) in
    use0 𝓛 (raw (fact 𝓤 Gives)) (fact_i 𝓤 Gives (emp 𝓤) (refl, refl)) $ feq_i ! (List Val) (vunit ∷ []) (vunit ∷ []) refl $ nothing ! $ move !
    (4 ∷ 0 ∷ []) $ join ! $ move ! (0 ∷ 3 ∷ 1 ∷ 2 ∷ []) $ keep ! (0 ∷ 1 ∷ 2 ∷ 3 ∷ []) $
    by ! (leaves 𝓛 f.ended stayed c z vunit tt (new, (tt, (tt, (tt, tt)))) (tt, (tt, (tt, (tt, tt)))))))))))))))))
