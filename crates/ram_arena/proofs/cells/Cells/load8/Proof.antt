-- `load8` reads a byte through a pointer. Assumes `Logic`.
use Rattle.std.proofs.Common.{◌≡◌, ℕ, ◌+◌, ◌<◌, ◌^◌, List, [], ◌∷◌, ◌++◌, length, slice_index, refl, ◌∙◌, arith, w32, w64}
use Rattle.std.proofs.raw_atomic.Walks.{proved_at, leaves}
use base.Fraction.{full_share}
use base.Logic.{SProp, emp, never, id⊢}
use base.Fml.{ftrue, fat, flft}
use mir.Val.{Val, vint, vptr}
use contract.Monad.{fact, fact_i}
use contract.Running.{tables}
use prog.Wp.{Env, WpFn}
use types.Kit.{‵, raw, ◌⊛◌, prop, at_ret, ◌$◌, ◌∵◌, !, qed, by, move, keep, drop, use0, use1, split, join, regoal, rewrite, fsplit, fjoin, feq_l, flt_l}
use types.Part.{whole, sub}
use types.Run.{stop, fld, load, look, of_opd, bin, un, first, blocks, exec, returns, enter}
use types.ByLocal.{alloc_all, pass_all, free_all, look_at, get, get_in, through, sets, sets_last, take_at, give_at, env}
use denote.Builtin.{u32}
use denote.Opens.{unhide}
use denote.Param.{layout}
use denote.Plain.{uint_Makes}
use denote.RattleType.{owns}
use denote.RawPtr.{Ptr, in_a_block}
use denote.Signature.{types_at}
use denote.Steps.{nothing, owned, heard}
use denote.Triple.Entry.{alive}
use denote.Triple.Walked.{Stays, walk_of, stay_dropped, Goes-dropped}
use Rattle.std.proofs.alloc.Shapes.{after}
use Rattle.std.proofs.RcSteps.{word, word-Good}
use Rattle.ram_arena.specs.Ownership.{cells_lent}
use Rattle.ram_arena.specs.Slots.{somes, IsFull}
use Rattle.ram_arena.proofs.Slots.{full_at}
use Rattle.ram_arena.proofs.Memory.{Bs, word_had, byte_shown, sees, seen, slot_at}
use Rattle.ram_arena.specs.contracts.cells.Cells.load8 as f
use Rattle.ram_arena.proofs.cells.Cells.load8.Statement.{statement}
use Rattle.ram_arena.proofs.cells.Cells.load8.Code as code

abbrev stayed : Stays f.ended.signature.params f.ended.kept
stayed = (
  stay_dropped (slot_at 0 f.ended.signature.params) f.ended.kept.0,
  (stay_dropped (slot_at 1 f.ended.signature.params) f.ended.kept.1.0, (stay_dropped (slot_at 2 f.ended.signature.params) f.ended.kept.1.1.0, tt)),
)

pub load8_spec : {M : Type 1} → statement M
load8_spec 𝓤 𝓛 𝓜 𝓡 wired =
    let H = 𝓛.H in let c = f.clauses 𝓛 𝓜.mem 𝓡.returns in let C = (tables 𝓤 H 𝓜 𝓡 𝓡.env).C in let Λ = (tables 𝓤 H 𝓜 𝓡 𝓡.env).Λ in let fn = code.function in
    proved_at 𝓛 f.ended stayed c 𝓜 𝓡 (
      Goes-dropped 𝓛 1 (slot_at 0 f.ended.signature.params) f.ended.kept.0 (λ κs x w. refl),
      (
        Goes-dropped 𝓛 1 (slot_at 1 f.ended.signature.params) f.ended.kept.1.0 (λ κs x w. refl),
        (Goes-dropped 𝓛 1 (slot_at 2 f.ended.signature.params) f.ended.kept.1.1.0 (λ κs x w. refl), tt),
      ),
    )
    f.Key.name fn (code.unfolded 𝓤 H 𝓜 𝓡 wired) (λ z are.
    let Post : Val → SProp 𝓤 = (walk_of 𝓛 f.ended stayed c).post z in
    let a = z.0.3 in let vss = z.0.4 in let κ = z.0.0.0 in let q = z.0.1.0 in
    let d = a.0.now in let rb = a.0.ref_ptr.0 in let ro = a.0.ref_ptr.1 in let base = a.1.0 in let at = a.1.1.0 in
    let Asked : Type 0 = (base.ptr ≡ d.at) × IsFull d.slots × (at < length d.slots) in
    qed 𝓛 ((raw (alive 𝓛 f.ended.signature z.0.0 z.0.1) ⊛ ‵ (owns (types_at f.ended.signature.params z.0.0) a vss)) ∷ raw (fact 𝓤 Asked) ∷ []) ∵
    move ! (1 ∷ []) $ heard ! Asked (λ asked. split ! $ use1 𝓛 (‵ (flft κ q) ⊛ ‵ ftrue) (id⊢ 𝓤 _) $ split ! $ move ! (2 ∷ []) $
    fsplit ! $ fsplit ! $ feq_l ! (λ e0. move ! (1 ∷ []) $ fsplit ! $ word_had ! base.ptr vss.1.0
    (λ e1. fsplit ! $ fsplit ! $ feq_l ! (λ e2. flt_l ! (λ fits. keep ! (1 ∷ 2 ∷ []) $
    -- [what a `&` to the bytes holds; the token]
    regoal ! (λ (us : List Val). prop (WpFn 𝓤 H C Λ fn us Post)) (λ i. e0 i ++ (e1 i ++ (e2 i ++ []))) refl $
    enter ! C Λ fn (vptr rb ro ∷ word base.ptr ∷ vint w64 at ∷ []) Post $ alloc_all !
    (λ l. pass_all ! refl ((tt, tt), (word-Good [] base.ptr, ((tt, record { fits = fits }), tt))) $
    let En : Env 𝓤 H = env fn.locals l in
    unhide ! $ fsplit ! $ drop ! $ in_a_block ! d.at (λ p. cells_lent p d.slots κ) (id⊢ 𝓤 (never 𝓤)) (λ b o e. fsplit ! $ flt_l ! (λ small.
    let full : IsFull d.slots = asked.1 in
    let x : ℕ → ℕ = λ i. slice_index (somes d.slots) i in
    take_at ! 2 $ rewrite ! 0 (λ (p : Ptr). ‵ (fat full_share (layout Bs) (l 2) 0 (word p))) (asked.0 ∙ e) refl $ give_at ! 2 $ first ! $ blocks ! $
    -- [the bytes, lent; the token]
    let within0 : at < length d.slots = omega (arith, asked.2) in let far0 : at < 2 ^ 64 = omega (arith, asked.2, small) in
    sets ! (bin ! (get_in ! (fld ! refl (stop !)) (sub ! 0 refl (whole !))) (get ! refl) tt) refl (tt, tt) $
    sees ! tt (x at) b (at + o) (byte_shown 𝓛 b κ o d.slots at (x at) within0 (full_at d.slots full at within0)) (λ q0 low0.
    sets ! (of_opd ! (load ! (through ! refl (stop !)) (look ! 1 refl))) refl (tt, record { fits = low0 }) $
    seen ! tt (x at) b (at + o) low0 $
    sets_last ! (un ! (get ! refl) (record { fits = omega (arith, low0) })) refl (tt, record { fits = omega (arith, low0) }) $
    exec ! C Λ En (after 1 fn.body) (at_ret En Post) $ sets ! (of_opd ! (get ! refl)) refl (tt, record { fits = omega (arith, low0) }) $
    returns ! (look_at ! 0 refl) $ free_all ! refl $ move ! (1 ∷ []) $
    let r : ℕ = x at in let Gives : Type 0 = (r ≡ x at) × (r < 2 ^ 8) in
    use0 𝓛 (raw (fact 𝓤 Gives)) (fact_i 𝓤 Gives (emp 𝓤) (refl, omega (arith, low0))) $ owned ! u32 _ (uint_Makes 𝓛 w32) r _ (refl, omega (arith, low0)) $
    nothing ! $ nothing ! $ fjoin ! $ nothing ! $ fjoin ! $ nothing ! $ fjoin ! $ nothing ! $ move ! (4 ∷ 0 ∷ []) $ join ! $ keep ! (0 ∷ 1 ∷ 2 ∷ 3 ∷ []) $
    by ! (leaves 𝓛 f.ended stayed c z (vint w32 r) r (tt, (tt, (tt, tt))) (tt, (tt, (tt, tt))))))))))))))
