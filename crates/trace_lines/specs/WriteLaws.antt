-- What memory tells of a command's write is what the machines before it and behind it have (docs/FORMAT.md, 'Traces').
use Rattle.std.specs.Prelude.{ℕ, suc, ◌+◌, ◌-◌, ◌*◌, ◌%◌, ◌<◌, ◌≤◌, Bool, true, false, eqb, ltb, Option as Maybe, Some}
use native.Mathlib.Omega.{arith}
use Rattle.std.proofs.Math.Path.{◌≡◌, refl, ap, subst}
use Rattle.std.proofs.Common.{sym, ◌∙◌}
use Rattle.std.proofs.Math.Option.{none, some}
use mathlib.Core.List.{List, [], ◌∷◌, ◌++◌}
use Rattle.std.proofs.Math.ListN.{length, get_or, get_elem?}
use borrow.Author.Tests.{lt-ltb, le-ltb, ltb-true, ltb-false}
use Rattle.types.specs.Limits.{max_structs, max_instances, first_local}
use Rattle.types.specs.Values.{Val, Val.int_val, Val.nat_val, Val.bool_val, Val.label}
use Rattle.program.specs.Tree.{Program}
use Rattle.commands.specs.Commands.{Com.wr, Flat.plain}
use Rattle.commands.specs.Context.{params_of}
use Rattle.commands.specs.Noted.{Note, Note.n_push, Note.n_this, Note.n_not, Note.n_rd, Note.n_wr, Note.n_get, Note.n_set, Note.n_cons, Note.n_op}
use Rattle.commands.specs.Noted.{Note.n_if, erase}
use Rattle.machine.specs.Published.{lookup, structs}
use Rattle.machine.specs.Machine.{Tagged, Instance, Machine}
use Rattle.sound.specs.Needs.{Needs}
use Rattle.sound.proofs.Laws.EnvLaws.{param_holds}
use Rattle.sound.proofs.Laws.ValueLaws.{label_value}
use Rattle.layout.specs.Layout.{head, struct_of, height_of, next_of, variable, stacked, operand, going}
use Rattle.layout.specs.State.{State, of_head, of_cell}
use Rattle.memory.specs.Act.{height, top, beneath, after, next_word, stored, written, written_to, do_wr, perform, act}
use Rattle.memory.specs.Plan.{At}
use Rattle.memory.specs.Frame.{kind_of, operand_of}
use Rattle.memory.proofs.Laws.Acts.{word_says, turned_only}
use Rattle.memory.proofs.Laws.RowLaws.{going_other}
use Rattle.memory.proofs.Laws.HeldLaws.{holds_word, holds_label}
use Rattle.memory.proofs.Laws.StandsLaws.{has_row}
use Rattle.memory.proofs.Laws.ActorLaws.{counts_length, actor_needs, actor_sized}
use Rattle.interpreter.specs.Ready.{Ready}
use Rattle.trace.specs.LineText.{change_text, param_text, target_text, flat_writes, written_text}
use Rattle.trace_lines.specs.declared.writes.Write.{Write}
use Rattle.trace_lines.specs.Parts.{wr_kind, no_write, target_by, target, place_text, values_text, write_text, WriteFits}
use Rattle.trace_lines.specs.PartsLaws.{target_other, target_local, target_null, target_found, write_some}
use Rattle.trace_lines.specs.LineLaws.{worth_shown}

-- Memory behind a write ---------------------------------------------------------

-- instance l has gone on, and no instance is new
record Goes (z y : State) (l : ℕ) : Type 0 where
  height : ℕ
  next : ℕ
  counted : y.machine.count ≡ z.machine.count
  heads : y.heads ≡ going z.heads l height next

one_of : (b : Bool) {x y z : State} {l : ℕ} → Goes z x l → Goes z y l → Goes z (elim b [ true ↦ x | false ↦ y ]) l
one_of true a b = a
one_of false a b = b

module _ (counts : List ℕ) (l : ℕ) (z : State) where
  wr_goes : (x : ℕ) → Goes z (do_wr counts l z x) l
  unfolding do_wr written_to written
  wr_goes x =
      let q = operand (top counts l z) in
      one_of (ltb x (get_or counts (of_head z q struct_of) 0))
      (one_of (ltb q (length counts)) (record { height = height counts l z - 2; next = after counts l z; counted = refl; heads = refl })
      (record { height = height counts l z - 2; next = after counts l z; counted = refl; heads = refl }))
      (record { height = height counts l z - 2; next = after counts l z; counted = refl; heads = refl })

  -- a write leaves the structs of all instances
  kept_structs : (list : List ℕ) → next_word list z l % 256 ≡ wr_kind → (q : ℕ)
      → (of_head (act list counts l z) q struct_of ≡ of_head z q struct_of) × ((act list counts l z).machine.count ≡ z.machine.count)
  unfolding act perform
  kept_structs list e q =
      let w = wr_goes (operand (next_word list z l)) in
      subst (λ (y : State). (of_head y q struct_of ≡ of_head z q struct_of) × (y.machine.count ≡ z.machine.count)) (sym (turned_only l _)) (rw e (
        ap (λ (hs : List ℕ). get_or hs (head q struct_of) 0) w.heads
            ∙ going_other z.heads l w.height w.next (head q struct_of) (λ g. omega arith) (λ g. omega arith),
        w.counted,
      ))

-- Lines --------------------------------------------------------------------------

module _ (p : Program) (c d : Machine) where
  -- `wr x` of a parameter, with a label on top
  flat_label : (x q : ℕ) (t : Tagged) (χ : List Tagged) → t.is ≡ label q → x < first_local
      → flat_writes p c d (plain (wr x)) (t ∷ χ)
      ≡ elim (ltb q (structs p)) [ true ↦ [] | false ↦ param_text q x (get_elem? c.instances q) (get_elem? d.instances q) ]
  unfolding flat_writes target_text
  flat_label x q t χ g h = rw (g, target_text, lt-ltb x first_local h)

  -- of a local
  flat_local : (x : ℕ) (χ : List Tagged) → first_local ≤ x → flat_writes p c d (plain (wr x)) χ ≡ []
  unfolding flat_writes target_text
  flat_local x [] h = refl
  flat_local x (y ∷ χ) h = by y.is
    where
      by : (v : Val) → target_text p c d x v ≡ []
      by (int_val z) = refl
      by (nat_val n) = refl
      by (bool_val b) = refl
      by (label q) = rw (target_text, le-ltb x first_local h)

-- an element below the length
some_below : {A : Type 0} (xs : List A) (q : ℕ) → q < length xs → (x : A) × (get_elem? xs q ≡ some x)
some_below [] q h = absurd (omega arith)
some_below (x ∷ xs) ℕ.zero h = (x, refl)
some_below (x ∷ xs) (suc q) h = some_below xs q (omega arith)

-- the words before and behind -------------------------------------------------------

module _ {p : Program} {counts list items spans : List ℕ} {m m' : Machine} {z y : State} (r : Ready p counts list items spans m z)
    (r' : Ready p counts list items spans m' y) (l : ℕ) (i : Instance) (at : get_elem? m.instances l ≡ some i) (n : Note) (c : List Note)
    (e : i.code ≡ n ∷ c) (a : y ≡ act list counts l z) where
  abbrev to_write : Maybe Write
  to_write = target list (length counts) z.heads z.cells l

  abbrev Tells : Note → Type 0
  Tells k = (write_text y.cells to_write ≡ flat_writes p m m' (erase k) i.stack) × (WriteFits y.cells to_write)

  few : structs p ≤ max_structs
  few = r.prepared.bounded.few

  says : (next_word list z l % 256 ≡ kind_of n) × (operand (next_word list z l) ≡ operand_of n)
  says =
      word_says few n (actor_sized r.prepared.firm r.prepared.bounded r.good l i at n c e) (next_word list z l)
      (holds_word list z l i (r.stands.each l i at) n c e)

  -- nothing is written
  nothing : no_write ≡ to_write → {t : List ℕ} → t ≡ [] → (write_text y.cells to_write ≡ t) × (WriteFits y.cells to_write)
  unfolding write_text
  nothing q g = rw (sym q) (sym g, tt)

  past : next_word list z l % 256 ≡ wr_kind → first_local ≤ operand (next_word list z l) → no_write ≡ to_write
  unfolding target
  past g h = target_local (length counts) z.cells _ _ g h

  other : (next_word list z l % 256 ≡ wr_kind → ⊥) → no_write ≡ to_write
  unfolding target
  other h = target_other (length counts) z.cells _ _ h

  -- a write to a parameter of instance q, which is j, by the value on top
  module _ (k x : ℕ) (is_wr : n ≡ n_wr k x) (t : Tagged) (χ : List Tagged) (s : i.stack ≡ t ∷ χ) (b : x < length (params_of p k)) (q : ℕ)
      (g : t.is ≡ label q) (j : Instance) (at_q : get_elem? m.instances q ≡ some j) (f : j.struct ≡ k) where
    abbrev word : ℕ
    word = next_word list z l

    kind : word % 256 ≡ wr_kind
    kind = says.0 ∙ ap kind_of is_wr

    variable_is : operand word ≡ x
    variable_is = says.1 ∙ ap operand_of is_wr

    low : x < first_local
    low = let h = r.prepared.firm.few k in omega arith

    target_is : operand (top counts l z) ≡ q
    target_is = holds_label list z l i (r.stands.each l i at) counts t χ s q g

    flat_is : flat_writes p m m' (erase (n_wr k x)) i.stack
        ≡ elim (ltb q (structs p)) [ true ↦ [] | false ↦ param_text q x (get_elem? m.instances q) (get_elem? m'.instances q) ]
    unfolding erase
    flat_is = rw s (flat_label p m m' x q t χ g low)

    -- a null instance
    null : q < structs p → Tells (n_wr k x)
    unfolding target
    null h =
        let u : length counts ≡ structs p = counts_length r.prepared.bounded in
        nothing (target_null (length counts) z.cells word (top counts l z) kind (rw variable_is low) (rw (target_is, u) h))
        (flat_is ∙ rw (lt-ltb q (structs p) h))

    -- the instance behind the command
    behind : (j' : Instance) × (get_elem? m'.instances q ≡ some j') × (j'.struct ≡ k)
    behind =
        let (e₁, e₂) = kept_structs counts l z list kind q in
        let h : q < z.machine.count = has_row list (At items) m z r.stands q j at_q in
        let u : y.machine.count ≡ length m'.instances = r'.stands.counted in
        let v : y.machine.count ≡ z.machine.count = ap (λ (w : State). w.machine.count) a ∙ e₂ in
        let (j', at') = some_below m'.instances q (omega arith) in
        let d : of_head y q struct_of ≡ of_head z q struct_of = ap (λ (w : State). of_head w q struct_of) a ∙ e₁ in
        (j', at', sym (r'.stands.each q j' at').struct ∙ d ∙ (r.stands.each q j at_q).struct ∙ f)

    -- any other
    found : structs p ≤ q → Tells (n_wr k x)
    unfolding target write_text place_text values_text param_text change_text
    found h =
        let u : length counts ≡ structs p = counts_length r.prepared.bounded in
        let w : Some (record {
          label = operand (top counts l z);
          variable = operand word;
          old = of_cell z (variable (operand
              (top counts l z)) (operand word));
        })
        ≡ to_write =
        target_found (length counts) z.cells word (top counts l z) kind (rw variable_is low) (rw (target_is, u) h) in
        let w' : Some (record { label = q; variable = x; old = of_cell z (variable q x) }) ≡ to_write = rw (target_is, variable_is) at w in
        let (j', at', f') = behind in
        let b₁ : x < length (params_of p j.struct) = rw f b in
        let b₂ : x < length (params_of p j'.struct) = rw f' b in
        let (v, e₁, o₁) = param_holds m.instances (params_of p j.struct) (r.prepared.firm.few j.struct) x b₁ j.env
        (r.good.all.each q j at_q).fitted in
        let (v', e₂, o₂) =
        param_holds m'.instances (params_of p j'.struct) (r.prepared.firm.few j'.struct) x b₂ j'.env (r'.good.all.each q j' at').fitted in
        let s₁ = worth_shown (of_cell z (variable q x)) v ((r.stands.each q j at_q).vars x v e₁) in
        let s₂ = worth_shown (of_cell y (variable q x)) v' ((r'.stands.each q j' at').vars x v' e₂) in
        let c₁ : q < z.machine.count = has_row list (At items) m z r.stands q j at_q in
        let c₂ : z.machine.count ≤ max_instances = r.stands.few in
        let c₃ = r'.stands.cells_long in
        let c₄ = low in (
          rw (sym w', s₁, s₂) (sym (flat_is ∙ rw (le-ltb q (structs p) h, at_q, at', param_text, e₁, e₂))),
          rw (sym w') (omega arith),
        )

    wrote : Tells (n_wr k x)
    wrote = go (ltb q (structs p)) refl
      where
        go : (b : Bool) → ltb q (structs p) ≡ b → Tells (n_wr k x)
        go true o = null (ltb-true q (structs p) o)
        go false o = found (ltb-false q (structs p) o)

  unlike : (k : Note) → n ≡ k → (kind_of k ≡ wr_kind → ⊥) → no_write ≡ to_write
  unlike k q h = other (λ o. h (sym (says.0 ∙ ap kind_of q) ∙ o))

  tells : (k : Note) → n ≡ k → Tells k
  unfolding erase flat_writes
  tells (n_push t v) q = nothing (unlike (n_push t v) q (λ h. omega arith)) refl
  tells n_this q = nothing (unlike n_this q (λ h. omega arith)) refl
  tells n_not q = nothing (unlike n_not q (λ h. omega arith)) refl
  tells (n_rd k x) q = nothing (unlike (n_rd k x) q (λ h. omega arith)) refl
  tells (n_wr k x) q =
      let w = subst (λ (o : Note). Needs p m l i o) q (actor_needs r.prepared.firm r.prepared.bounded r.good l i at n c e) in
      let (v, t, u, b, o, d) = w in
      let (s, g, j, at_q, f) = label_value m.instances k t.is o.1 in
      wrote k x q t (v ∷ u.0) u.1 b s g j at_q f
  tells (n_get t x) q = nothing (unlike (n_get t x) q (λ h. omega arith)) refl
  tells (n_set d t x) q =
      let o : operand (next_word list z l) ≡ first_local + x = says.1 ∙ ap operand_of q in
      let u : first_local ≤ first_local + x = omega arith in
      nothing (past (says.0 ∙ ap kind_of q) (rw o u)) (flat_local p m m' (first_local + x) i.stack u)
  tells (n_cons k) q = nothing (unlike (n_cons k) q (λ h. omega arith)) refl
  tells (n_op o) q = nothing (unlike (n_op o) q (λ h. omega arith)) refl
  tells (n_if k) q = nothing (unlike (n_if k) q (λ h. omega arith)) refl

  -- what memory tells, and that it stands there
  pub write_told : (write_text y.cells to_write ≡ written_text p m m' i.code i.stack) × (WriteFits y.cells to_write)
  unfolding written_text
  write_told = let (u, v) = tells n refl in (u ∙ rw e, v)
