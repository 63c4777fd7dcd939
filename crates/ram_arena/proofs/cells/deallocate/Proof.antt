-- `deallocate` turns the slots into a block again, and gives it back with the allocator's token. Assumes `Logic`.
use Rattle.std.proofs.Common.{◌≡◌, ◌*◌, ℕ, List, [], ◌∷◌, ◌++◌, length, refl, sym, subst, ◌∙◌, arith, lit<, w64, T}
use mir.Syntax.{Ty, ty_unit, Fn, Args, a_type, dcons, dnil}
use mir.Val.{Val, vint, vptr, vunit, has_ty, WT}
use mir.MapTy.{inst_fn}
use base.Logic.{SProp, id⊢, never}
use base.Fml.{Lft, Share, ftrue, flft, froom, fat}
use prog.Capped.{capped_is}
use prog.Wp.{Env, WpFn}
use contract.BorrowLft.{◌⊑◌, ⊑_trans}
use contract.Monad.{fact}
use contract.Running.{tables}
use types.Kit.{‵, raw, ◌⊛◌, given, later, prop, at_ret, ◌$◌, ◌∵◌, !, qed, by, move, keep, use1, group, learn, split, join, regoal, rewrite, fsplit, fsplit3}
use types.Kit.{fjoin, feq_i, feq_l, flt_l, await}
use types.Part.{whole, sub}
use types.Run.{stop, fld, lit, unit_lit, of_opd, no_more, and_then, first, blocks, exec, returns, enter}
use types.ByLocal.{alloc_all, pass_all, free_all, look_at, get, get_in, sets, take_at, give_at, lands_last, env}
use denote.RattleType.{RattleType, owns}
use denote.RawPtr.{Ptr, in_a_block}
use base.Fraction.{full_share}
use denote.Param.{param, bounded, layout}
use denote.Signature.{types_at}
use denote.Steps.{nothing, heard}
use denote.Triple.Entry.{alive}
use denote.Triple.Call.{calls_at_last}
use denote.Triple.Walked.{Stays, stay_dropped, walk_of, Goes-dropped}
use Rattle.std.proofs.alloc.Calls.{Al, Gives, at_gives, Gives-goes, Gives-Gives, Goes-blank}
use Rattle.std.proofs.alloc.Shapes.{after}
use denote.Triple.Table.{framed}
use Rattle.std.proofs.RcSteps.{word, word-Good}
use Rattle.std.proofs.raw_atomic.Walks.{proved_at, leaves}
use Rattle.ram_arena.proofs.Memory.{slot_at, Bs, mark, mark_had, word_had, to_room}
use Rattle.ram_arena.specs.Ownership.{bytes_of, cells_own, deed_owns}
use Rattle.ram_arena.specs.contracts.cells.deallocate.{ended, clauses}
use Rattle.ram_arena.specs.contracts.cells.deallocate.Key.{name as #self}
use Rattle.ram_arena.proofs.cells.deallocate.Statement.{statement}
use Rattle.ram_arena.proofs.cells.deallocate.Code as compiled

pub deallocate_spec : {M : Type 1} → statement M
deallocate_spec 𝓤 𝓛 𝓜 𝓡 wired A L g d dd met md =
    let H = 𝓛.H in
    let En₀ = ended A g d dd in
    let c = clauses A g d dd 𝓛 𝓜.mem 𝓡.returns in
    let args : Args = bounded (a_type ∷ []) (A, tt) (dcons d (dcons dd dnil)) in
    let fn : Fn = inst_fn args compiled.function in
    let stays : Stays En₀.signature.params En₀.kept = (
      stay_dropped (slot_at 0 En₀.signature.params) En₀.kept.0,
      (
        stay_dropped (slot_at 1 En₀.signature.params) En₀.kept.1.0,
        (
          stay_dropped (slot_at 2 En₀.signature.params) En₀.kept.1.1.0,
          (stay_dropped (slot_at 3 En₀.signature.params) En₀.kept.1.1.1.0, (stay_dropped (slot_at 4 En₀.signature.params) En₀.kept.1.1.1.1.0, tt)),
        ),
      ),
    ) in
    let C = (tables 𝓤 H 𝓜 𝓡 𝓡.env).C in
    let Λ = (tables 𝓤 H 𝓜 𝓡 𝓡.env).Λ in
    proved_at 𝓛 En₀ stays c 𝓜 𝓡 (
      Goes-dropped 𝓛 2 (slot_at 0 En₀.signature.params) En₀.kept.0 (λ κs x f. refl),
      (
        Goes-dropped 𝓛 2 (slot_at 1 En₀.signature.params) En₀.kept.1.0 (λ κs x f. refl),
        (
          Goes-dropped 𝓛 2 (slot_at 2 En₀.signature.params) En₀.kept.1.1.0 (λ κs x f. refl),
          (
            Goes-blank 𝓛 2 (slot_at 3 En₀.signature.params) En₀.kept.1.1.1.0 (λ κs x f. tt),
            (Goes-blank 𝓛 2 (slot_at 4 En₀.signature.params) En₀.kept.1.1.1.1.0 (λ κs x f. tt), tt),
          ),
        ),
      ),
    ) (#self args) fn
    (compiled.unfolded 𝓤 H 𝓜 𝓡 wired (A, tt) d dd) (λ z are.
    let Post : Val → SProp 𝓤 = (walk_of 𝓛 En₀ stays c).post z in
    let a = z.0.3 in
    let vss = z.0.4 in
    let Y : Al = record { row = A; laws = L; g = g; d = d; drops = dd } in
    let κ : Lft = z.0.0.0 in
    let q : Share = z.0.1.0 in
    let Z : RattleType = param 0 A in
    let h = a.0.now in
    let handle = a.0.ref_ptr in
    let base = a.1.0 in
    let n = a.1.1.0 in
    let cells = a.1.1.1.0 in
    let deed = a.1.1.1.1.0 in
    let τ : Ty = bytes_of n in
    let Asked : Type 0 = (cells.at ≡ base.ptr) × (length cells.slots ≡ n) × (deed.at ≡ base.ptr) × (deed.len ≡ n) × (deed.alloc ≡ h) in
    qed 𝓛 ((raw (alive 𝓛 En₀.signature z.0.0 z.0.1) ⊛ ‵ (owns (types_at En₀.signature.params z.0.0) a vss)) ∷
    (raw (fact 𝓤 (z.0.0.1.0 ⊑ A.lives)) ⊛ raw (fact 𝓤 Asked)) ∷ []) ∵
    move ! (1 ∷ []) $ split ! $ heard ! (z.0.0.1.0 ⊑ A.lives) (λ le. heard ! Asked (λ asked. split ! $
    use1 𝓛 (‵ (flft κ q) ⊛ ‵ (flft z.0.0.1.0 z.0.1.1.0) ⊛ ‵ ftrue) (id⊢ 𝓤 _) $ split ! $ move ! (2 ∷ []) $
    -- [what the parameters own; the token of κ; the others]
    fsplit3 ! $ fsplit ! $ feq_l ! (λ e0. move ! (1 ∷ []) $ word_had ! base.ptr vss.1.0
    (λ e1. move ! (1 ∷ []) $ fsplit3 ! $ fsplit ! $ feq_l ! (λ e2. flt_l ! (λ fits.
    fsplit ! $ mark_had ! vss.1.1.1.0 (λ e3. move ! (1 ∷ []) $ fsplit ! $ fsplit ! $ mark_had ! vss.1.1.1.1.0 (λ e4. keep ! (2 ∷ 0 ∷ 3 ∷ 4 ∷ 5 ∷ []) $
    -- [what the bytes own; the token of the block; the handle; the token of κ; the others]
    regoal ! (λ (us : List Val). prop (WpFn 𝓤 H C Λ fn us Post)) (λ i. e0 i ++ (e1 i ++ (e2 i ++ (e3 i ++ (e4 i ++ []))))) refl $
    enter ! C Λ fn (vptr handle.0 handle.1 ∷ word base.ptr ∷ vint w64 n ∷ mark ∷ mark ∷ []) Post $
    alloc_all ! (λ l. pass_all ! refl ((tt, tt), (word-Good [] base.ptr, ((tt, record { fits = fits }), ((tt, (tt, tt)), ((tt, (tt, tt)), tt))))) $
    let En : Env 𝓤 𝓛.H = env fn.locals l in
    rewrite ! 0 (λ (p : Ptr). ‵ (cells_own p cells.slots)) asked.0 refl $
    in_a_block ! base.ptr (λ p. cells_own p cells.slots) (id⊢ 𝓤 (never 𝓤)) (λ b o e. fsplit ! $ flt_l ! (λ small.
    let y = at_gives Y 𝓛 𝓜.mem 𝓡.returns κ q handle h b o n 1 τ in
    rewrite ! 1 (λ (u : A.Denot × Ptr × ℕ). ‵ (deed_owns (g.dealloc_token u.0) u.1 u.2)) (λ i. (asked.4 i, (asked.2 ∙ e) i, asked.3 i)) refl $
    use1 𝓛 (‵ (froom (bytes_of (length cells.slots)) b o)) (to_room 𝓛 b cells.slots o) $ rewrite ! 0 (λ (k : ℕ). ‵ (froom (bytes_of k) b o)) asked.1 refl $
    take_at ! 2 $ rewrite ! 0 (λ (p : Ptr). ‵ (fat full_share (layout Bs) (l 2) 0 (word p))) e refl $ give_at ! 2 $ first ! $ blocks ! $
    group ! 4 $ use1 𝓛 (raw ((Gives Y 𝓛 𝓜.mem 𝓡.returns).pre y))
    (Gives-goes Y 𝓛 𝓜.mem 𝓡.returns κ q handle h (⊑_trans κ z.0.0.1.0 A.lives z.0.2.0 le) b o n 1 τ (capped_is (n * 1) (omega arith) ∙ omega arith) refl
    fits (lit< tt)) $
    calls_at_last ! (framed 𝓤 H 𝓜 (tables 𝓤 H 𝓜 𝓡 𝓡.env)) (Gives Y 𝓛 𝓜.mem 𝓡.returns) (met.deallocate dd) y
    (and_then ! (get ! refl) (and_then ! (get_in ! (fld ! refl (stop !)) (sub ! 0 refl (whole !)))
    (and_then ! (get ! refl) (and_then ! (lit ! tt) (no_more !))))) (λ v.
    use1 𝓛 (later (given (v ≡ vunit) (‵ (flft κ q)))) (Gives-Gives Y 𝓛 𝓜.mem 𝓡.returns κ q handle h b o n 1 τ v) $ await ! tt $ learn ! (λ done_with. join ! $
    lands_last ! refl (subst (λ (u : Val). T (has_ty ty_unit u) × WT u) (sym done_with) (tt, tt)) $
    exec ! C Λ En (after 1 fn.body) (at_ret En Post) $ sets ! (of_opd ! (unit_lit !)) refl (tt, tt) $
    returns ! (look_at ! 0 refl) $ free_all ! refl $
    feq_i ! (List Val) (vunit ∷ []) (vunit ∷ []) refl $ nothing ! $ nothing ! $ nothing ! $ fjoin ! $ nothing ! $ fjoin ! $ nothing ! $ fjoin ! $ nothing ! $
    fjoin ! $ nothing ! $ fjoin ! $ move ! (3 ∷ 0 ∷ 2 ∷ 1 ∷ []) $
    by ! (leaves 𝓛 En₀ stays c z vunit tt (tt, (tt, (tt, (tt, (tt, tt))))) (tt, (tt, (tt, (tt, (tt, tt))))))))))))))))))))
