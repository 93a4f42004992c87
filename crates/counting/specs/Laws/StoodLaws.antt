-- Memory that holds the machine of a started step takes the commands of its holders (02 §14): it holds the next machine, or the command is refused and nothing
-- but the number is new; there is no third case. Where nobody holds commands, the cell asked about tells the truth.
use Rattle.std.specs.Prelude.{ℕ, zero, suc, ◌+◌, ◌<◌, ◌≡◌, Bool, List, [], ◌∷◌, length, get_or}
use Rattle.std.proofs.Common.{arith, subst, ◌∙◌, inl, inr, eq-eqb, ne_eqb}
use Rattle.std.proofs.Math.Path.{refl, sym, ap}
use Rattle.std.proofs.Math.Bool.{true, false}
use Rattle.std.proofs.Math.Option.{some}
use Rattle.std.proofs.Math.ListN.{get_elem?}
use Rattle.types.specs.Types.{Ty, Ty.int, Ty.bool}
use Rattle.types.specs.Values.{Val.bool_val, word}
use Rattle.program.specs.Tree.{Program}
use Rattle.commands.specs.Context.{params_of}
use Rattle.commands.specs.Noted.{Note}
use Rattle.machine.specs.Machine.{Instance, Machine, Out, Out.next, Out.refused, Out.stuck, acting, command_of, command_at, command}
use Rattle.machine.proofs.Laws.MeasureLaws.{command_shortens}
use Rattle.run.specs.Holders.{holds_code}
use Rattle.run.proofs.Laws.TurnLaws.{none_listed, holders_length}
use Rattle.sound.specs.Needs.{ValueAmong}
use Rattle.sound.proofs.Laws.Advance.{Kept as Keeping}
use Rattle.sound.proofs.Laws.CommandKept.{Refused, command_kept}
use Rattle.sound.proofs.Laws.EnvLaws.{param_holds}
use Rattle.sound.proofs.Laws.ElemLaws.{at_below, some_is}
use Rattle.sound.proofs.Laws.ValueLaws.{bool_value}
use Rattle.layout.specs.Layout.{variable, operand, holds}
use Rattle.layout.specs.State.{State, of_cell, refused as refusing}
use Rattle.memory.specs.Act.{act}
use Rattle.memory.specs.Choose.{Kept, holding as holding_in, fewer}
use Rattle.memory.specs.Fit.{Fit}
use Rattle.memory.specs.Frame.{After}
use Rattle.memory.specs.Stands.{Stands}
use Rattle.memory.proofs.Laws.Acts.{acts, act_counts}
use Rattle.memory.proofs.Laws.CellLaws.{shown_operand}
use Rattle.memory.proofs.Laws.ChooseStands.{holds_same, holding_same}
use Rattle.memory.proofs.Laws.FitLaws.{fits}
use Rattle.interpreter.specs.Laws.CountLaws.{holders_behind}
use Rattle.counts.specs.Tally.{Kind, Kind.ends, Kind.stops, value_in, value_at, one_if, at_rest, at_refusal, after, holding, tally_by, tally}
use Rattle.counts.proofs.Laws.TallySteps.{from_command, tally_steps}
use Rattle.counting.specs.declared.count.Asked.{Asked}
use Rattle.counting.specs.declared.count.Tally.{Tally}
use Rattle.counting.specs.Counting.{commands_in, AnyPlace, Stood, tallied, rest_tally, count_of, Tallies}
use Rattle.counting.specs.Laws.CommandLaws.{commands_same}
use Rattle.counting.specs.Laws.KeepsLaws.{command_keeps, truth_kept}

-- The cell that is asked about ---------------------------------------------------------------

pub rest_true : (c : ℕ) → operand c ≡ 1 → rest_tally c ≡ tallied 1 0 0
unfolding rest_tally
rest_true c e = rw (rest_tally, eq-eqb (operand c) 1 e)

pub rest_false : (c : ℕ) → (operand c ≡ 1 → ⊥) → rest_tally c ≡ tallied 0 1 0
unfolding rest_tally
rest_false c e = rw (rest_tally, ne_eqb (operand c) 1 e)

elem_is : {A : Type 0} (xs : List A) (n : ℕ) (d x : A) → get_elem? xs n ≡ some x → get_or xs n d ≡ x
elem_is [] n d x e = let z : ◌≡◌ {A = ℕ} 0 1 = cc in absurd (omega arith)
elem_is (y ∷ xs) zero d x e = some_is e
elem_is (y ∷ xs) (suc n) d x e = elem_is xs n d x e

elem_there : {A : Type 0} (xs : List A) (n : ℕ) → n < length xs → (x : A) × (get_elem? xs n ≡ some x)
elem_there [] n h = absurd (omega (arith, h))
elem_there (x ∷ xs) zero h = (x, refl)
elem_there (x ∷ xs) (suc n) h = elem_there xs n (omega (arith, h))

code_held : (c : List Note) → holds_code c ≡ true → (n : Note) × (r : List Note) × (c ≡ n ∷ r)
unfolding holds_code
code_held [] e = let z : ◌≡◌ {A = ℕ} 0 1 = cc in absurd (omega arith)
code_held (n ∷ r) e = (n, r, refl)

code_none : (c : List Note) → holds_code c ≡ false → c ≡ []
unfolding holds_code
code_none [] e = refl
code_none (n ∷ r) e = let z : ◌≡◌ {A = ℕ} 0 1 = cc in absurd (omega arith)

holding_some : (heads : List ℕ) (l n k : ℕ) → k < n → holds heads (l + k) ≡ true → 0 < holding_in heads l n
unfolding holding_in
holding_some heads l zero k h t = absurd (omega (arith, h))
holding_some heads l (suc n) zero h t = let e : l + 0 ≡ l = omega arith in rw (holding_in, rw e at t) (omega arith)
holding_some heads l (suc n) (suc k) h t =
    let e : l + suc k ≡ suc l + k = omega arith in go (holds heads l) (holding_some heads (suc l) n k (omega (arith, h)) (rw e at t))
  where
    go : (b : Bool) → 0 < holding_in heads (suc l) n → 0 < elim b [ true ↦ suc (holding_in heads (suc l) n) | false ↦ holding_in heads (suc l) n ]
    go true q = omega arith
    go false q = q

module _ {p : Program} {counts list : List ℕ} {a : Asked} {m : Machine} {z : State} (s : Stood p counts list a m z) where
  -- a truth is there, and its cell shows it
  value_there : (b : Bool) × (value_at m a.label a.parameter ≡ some (bool_val b))
      × (operand (of_cell z (variable a.label a.parameter)) ≡ word (bool_val b))
  unfolding value_in
  value_there =
      let t = s.truth in
      let i = t.instance in
      let ts = params_of p i.struct in
      let (x, e, o) =
      param_holds m.instances ts (s.firm.few i.struct) a.parameter (at_below ts a.parameter bool t.typed) i.env
      (s.good.all.each a.label i t.there).fitted in
      let (b, q) = bool_value m.instances x (subst (λ (u : Ty). ValueAmong m.instances u x) (elem_is ts a.parameter int bool t.typed) o) in
      let w = (s.stands.each a.label i t.there).vars a.parameter x e in
      (b, ap (value_in a.parameter) t.there ∙ e ∙ ap some q, shown_operand _ x w ∙ ap word q)

  -- its place is among the cells
  pub asked_within : variable a.label a.parameter < length z.cells
  asked_within =
      let t = s.truth in
      let few = s.firm.few t.instance.struct in
      let one = at_below (params_of p t.instance.struct) a.parameter bool t.typed in
      let two = at_below m.instances a.label t.instance t.there in
      let n = s.stands.counted in
      let k = s.stands.few in
      let c = s.stands.cells_long in
      omega (arith, few, one, two, n, k, c)

  -- Nobody holds commands ----------------------------------------------------------------------

  -- the number that is kept is that of the holders
  pub holders_kept : z.machine.holding ≡ length (holding m)
  holders_kept = s.kept ∙ holding_same m s.stands ∙ holders_length m

  rest_is : (b : Bool) (c : ℕ) → operand c ≡ word (bool_val b) → (κ : Kind) → count_of κ (rest_tally c) ≡ at_rest κ (some (bool_val b))
  unfolding word at_rest one_if
  rest_is true c e (ends true) = ap (count_of (ends true)) (rest_true c e)
  rest_is true c e (ends false) = ap (count_of (ends false)) (rest_true c e)
  rest_is true c e stops = ap (count_of stops) (rest_true c e)
  rest_is false c e (ends true) = ap (count_of (ends true)) (rest_false c (λ q. omega (arith, e, q)))
  rest_is false c e (ends false) = ap (count_of (ends false)) (rest_false c (λ q. omega (arith, e, q)))
  rest_is false c e stops = ap (count_of stops) (rest_false c (λ q. omega (arith, e, q)))

  pub rest_told : z.machine.holding ≡ 0 → (κ : Kind)
      → count_of κ (rest_tally (of_cell z (variable a.label a.parameter))) ≡ tally p a.label a.parameter κ m
  unfolding tally_by
  rest_told e κ =
      let (b, q, w) = value_there in
      let none = none_listed (holding m) (sym holders_kept ∙ e) in
      rest_is b (of_cell z (variable a.label a.parameter)) w κ ∙ ap (at_rest κ) (sym q)
      ∙ sym (tally_steps p a.label a.parameter κ m ∙ ap (tally_by (from_command p a.label a.parameter κ m) (at_rest κ (value_at m a.label a.parameter))) none)

  -- An instance without commands --------------------------------------------------------------------

  -- no sequence begins with its label
  pub idle_told : (h : ℕ) → h < z.machine.count → holds z.heads h ≡ false → (κ : Kind)
      → count_of κ (tallied 0 0 0) ≡ from_command p a.label a.parameter κ m h
  unfolding after command command_at command_of
  idle_told h b t κ =
      let (i, g) = elem_there m.instances h (let n = s.stands.counted in omega (arith, n, b)) in
      let e = code_none i.code (sym (holds_same (s.stands.each h i g)) ∙ t) in
      nought κ ∙ sym (ap (λ o. after κ (λ x. tally p a.label a.parameter κ x) (command_at p (acting h m) h o)) g
      ∙ ap (λ c. after κ (λ x. tally p a.label a.parameter κ x) (command_of p (acting h m) h i c)) e)
    where
      nought : (κ : Kind) → count_of κ (tallied 0 0 0) ≡ 0
      nought (ends true) = refl
      nought (ends false) = refl
      nought stops = refl

  -- A command ------------------------------------------------------------------------------------

  module _ (h : ℕ) (b : h < z.machine.count) (t : holds z.heads h ≡ true) where
    holder : (i : Instance) × (n : Note) × (c : List Note) × (get_elem? m.instances h ≡ some i) × (i.code ≡ n ∷ c)
    holder =
        let (i, g) = elem_there m.instances h (let n = s.stands.counted in omega (arith, n, b)) in
        let (n, c, e) = code_held i.code (sym (holds_same (s.stands.each h i g)) ∙ t) in
        (i, n, c, g, e)

    pub holder_counted : 0 < z.machine.holding
    holder_counted =
        let k = s.kept in
        let q : 0 + h ≡ h = omega arith in
        omega (arith, k, holding_some z.heads 0 z.machine.count h b (rw q t))

    -- it finds what it needs
    pub holder_fits : Fit list counts h z
    holder_fits = let (i, n, c, g, e) = holder in fits s.firm s.bounded s.good list AnyPlace z s.stands h i g c n e

    -- as many hold commands after it, or one fewer
    kept_after : {m' : Machine} → Stands list AnyPlace m' (act list counts h z) → command p h m ≡ next m' → Kept (act list counts h z)
    kept_after {m'} S c =
        let y = act list counts h z in
        let (i, at, q) = holders_behind p h m c in
        let w : holds y.heads h ≡ holds_code i.code = holds_same (S.each h i at) in
        let k : holding_in y.heads 0 y.machine.count ≡ fewer (holds y.heads h) (holding_in z.heads 0 z.machine.count) =
        holding_same m' S ∙ q ∙ rw (w, holding_same m s.stands) in
        act_counts list counts h z ∙ ap (fewer (holds y.heads h)) s.kept ∙ sym k

    came : After list AnyPlace z (act list counts h z) (command p h m)
    came = let (i, n, c, g, e) = holder in acts s.firm s.bounded s.good list AnyPlace z s.stands h i g c n e

    keeping : Keeping p Refused (command p h m)
    keeping = let (i, n, c, g, e) = holder in command_kept s.firm s.good h i g n c e

    -- memory holds the next machine
    pub holder_goes : (act list counts h z).machine.number ≡ 0 → (m' : Machine) × (command p h m ≡ next m') × (Stood p counts list a m' (act list counts h z))
    holder_goes q = go (command p h m) refl
      where
        go : (o : Out) → command p h m ≡ o → (m' : Machine) × (command p h m ≡ next m') × (Stood p counts list a m' (act list counts h z))
        go (next m') e =
            let S : Stands list AnyPlace m' (act list counts h z) = subst (After list AnyPlace z (act list counts h z)) e came in (
              m',
              e,
              record {
                firm = s.firm;
                bounded = s.bounded;
                good = subst (Keeping p Refused) e keeping;
                stands = S;
                kept = kept_after S e;
                truth = truth_kept p (command_keeps p h m e) s.truth;
              },
            )
        go (refused n) e =
            let w : act list counts h z ≡ refusing n z = subst (After list AnyPlace z (act list counts h z)) e came in
            let k : n ≡ 0 = sym (ap (λ (y : State). y.machine.number) w) ∙ q in
            absurd (never (subst (Keeping p Refused) e keeping) k)
          where
            never : Refused n → n ≡ 0 → ⊥
            never (inl u) v = omega (arith, u, v)
            never (inr u) v = omega (arith, u, v)
        go stuck e = absurd (subst (After list AnyPlace z (act list counts h z)) e came)

    -- or it is refused
    pub holder_stops : ((act list counts h z).machine.number ≡ 0 → ⊥) → (n : ℕ) × (command p h m ≡ refused n) × (act list counts h z ≡ refusing n z)
    holder_stops q = go (command p h m) refl
      where
        go : (o : Out) → command p h m ≡ o → (n : ℕ) × (command p h m ≡ refused n) × (act list counts h z ≡ refusing n z)
        go (next m') e = absurd (q (clear (subst (After list AnyPlace z (act list counts h z)) e came)))
          where
            clear : Stands list AnyPlace m' (act list counts h z) → (act list counts h z).machine.number ≡ 0
            clear S = S.clear
        go (refused n) e = (n, e, subst (After list AnyPlace z (act list counts h z)) e came)
        go stuck e = absurd (subst (After list AnyPlace z (act list counts h z)) e came)

    -- fewer commands are left
    pub holder_shortens : (act list counts h z).machine.number ≡ 0
        → commands_in (act list counts h z).heads 0 (act list counts h z).machine.count < commands_in z.heads 0 z.machine.count
    holder_shortens q =
        let (m', e, S) = holder_goes q in
        let x = commands_same m s.stands in
        let y = commands_same m' S.stands in
        omega (arith, command_shortens p h m e, x, y)

    -- what follows it is counted
    pub stop_told : ((act list counts h z).machine.number ≡ 0 → ⊥) → (κ : Kind) → count_of κ (tallied 0 0 1) ≡ from_command p a.label a.parameter κ m h
    unfolding after at_refusal
    stop_told q κ =
        let (n, e, w) = holder_stops q in
        refusal κ ∙ sym (ap (after κ (λ x. tally p a.label a.parameter κ x)) e)
      where
        refusal : (κ : Kind) → count_of κ (tallied 0 0 1) ≡ at_refusal κ
        refusal (ends true) = refl
        refusal (ends false) = refl
        refusal stops = refl

    pub next_told : (q : (act list counts h z).machine.number ≡ 0) {r : Tally} → Tallies counts list a (act list counts h z) r
        → (κ : Kind) → count_of κ r ≡ from_command p a.label a.parameter κ m h
    unfolding after
    next_told q f κ =
        let (m', e, S) = holder_goes q in
        f p m' S κ ∙ sym (ap (after κ (λ x. tally p a.label a.parameter κ x)) e)
