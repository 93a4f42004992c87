-- The numbers of a count are exact (02 §14): it is refused with a number exactly where that number's condition is foremost, and answered exactly where
-- none holds, with the counts of the definition.
use Rattle.std.specs.Prelude.{ℕ, zero, suc, ◌+◌, ◌<◌, ◌≤◌, ◌↔◌, Bool, true, false, not, ◌||◌, length, get_or, ltb}
use Rattle.std.proofs.Common.{arith, sym, ap₂, subst, ◌∙◌}
use Rattle.std.proofs.Math.Path.{◌≡◌, refl, ap}
use Rattle.std.proofs.Math.Option.{Option, none, some}
use mathlib.Core.List.Memᴰ
use mathlib.Core.List.{List, [], ◌∷◌, Memᴰ}
use Rattle.types.specs.Limits.{max_commands, nat_end}
use Rattle.types.specs.Numbers.{no_room, wrong_names, absent, wrong_types, many_commands}
use Rattle.types.specs.Types.{Ty, Ty.int, Ty.nat, Ty.bool, Ty.ref}
use Rattle.types.specs.Reflects.{Reflects, Reflects.holds, Reflects.fails, reflects_iff, reflects_map, reflects_negation, le_reflects, lt_reflects}
use Rattle.types.specs.Orders.{NoneOf, Foremost, Tells.passes}
use Rattle.types.specs.Stages.{Stage.went, Stages}
use Rattle.types.proofs.Laws.StageLaws.{stage_asked, stage_given, stage_on, stage_number, stage_none, stage_past, stage_refused}
use Rattle.blocks.specs.Images.{stream}
use Rattle.program.specs.Tree.{Step, Program}
use Rattle.commands.specs.Decide.{member}
use Rattle.commands.proofs.Decide.DecideLaws.{member_reflects}
use Rattle.commands.specs.Decide.NamesDecide.{stepped}
use Rattle.commands.specs.Names.{names_of_steps, Had}
use Rattle.verdict.specs.Verdict.{listed}
use Rattle.verdict.specs.ProgramInput.{AcceptedImage, reads_of}
use Rattle.verdict.proofs.ProgramInputLaws.{one_program}
use Rattle.table.specs.Table.{Record, struct_at}
use Rattle.table.specs.TableReader.{table_of_stream}
use Rattle.table.proofs.Laws.TableLaws.{table_answer_exact}
use Rattle.run.specs.Entry.{Begun, begun, not_begun, run_list_by}
use Rattle.run.specs.Input.{TableAccepted}
use Rattle.run.proofs.Laws.InputLaws.{tell_images}
use Rattle.orders.specs.StepAnswer.{alone, step_state}
use Rattle.orders.proofs.Laws.StepAnswerLaws.{stepped_had}
use Rattle.counts.specs.Counts.{Counts}
use Rattle.counts.specs.Tally.{Kind, Kind.ends, Kind.stops, tally}
use Rattle.counts.specs.CountEntry.{most_counted, type_in, type_at, is_bool, started_commands, of_question, with_question, count_begins, Counted, counted}
use Rattle.counts.specs.CountEntry.{count_machine, count_by, count, count_list}
use Rattle.counts.specs.CountInput.{Declares, ReadsBoth, NoStep, NoPlace, NotBool, ManyCommands, count_order, Countable}
use Rattle.counts.proofs.Laws.CountLaws.{step_counts, step_fits}

-- The tests --------------------------------------------------------------------------------

-- a step that some struct has
had_stepped : (n : ℕ) (tss : List (List Step)) (k : ℕ) → Memᴰ n (names_of_steps (get_or tss k [])) → stepped n tss ≡ true
unfolding stepped names_of_steps
had_stepped n [] k u = absurd (Memᴰ.not-nil u)
had_stepped n (ts ∷ tss) zero u = rw ((reflects_iff (member_reflects n (names_of_steps ts))).1 u)
had_stepped n (ts ∷ tss) (suc k) u = go (member n (names_of_steps ts)) (had_stepped n tss k u)
  where
    go : (b : Bool) → stepped n tss ≡ true → b || stepped n tss ≡ true
    go true e = refl
    go false e = e

had_reflects : (n : ℕ) (tss : List (List Step)) → Reflects (Had n tss) (stepped n tss)
had_reflects n tss = go (stepped n tss) refl
  where
    go : (b : Bool) → stepped n tss ≡ b → Reflects (Had n tss) b
    go true e = holds (stepped_had n tss e)
    go false e = fails (λ (k, u). let f = had_stepped n tss k u in let q : ◌≡◌ {A = ℕ} 0 1 = cc in omega arith)

bool_reflects : (t : Ty) → Reflects (t ≡ bool) (is_bool t)
unfolding is_bool
bool_reflects int = fails (λ e. let q : ◌≡◌ {A = ℕ} 0 1 = cc in omega arith)
bool_reflects nat = fails (λ e. let q : ◌≡◌ {A = ℕ} 0 1 = cc in omega arith)
bool_reflects bool = holds refl
bool_reflects (ref k) = fails (λ e. let q : ◌≡◌ {A = ℕ} 0 1 = cc in omega arith)

-- a parameter that is there has one type
module _ (p : Program) (rs : List Record) (l v : ℕ) where
  declared : (o : Option ℕ) → struct_at p.params rs l ≡ o → (t : Ty) → type_in p v o ≡ some t → Declares p rs l v t
  unfolding type_in
  declared none e t q = let z : ◌≡◌ {A = ℕ} 0 1 = cc in absurd (omega arith)
  declared (some k) e t q = record { struct = k; of = e; typed = q }

  type_declared : (t : Ty) → type_at p rs l v ≡ some t → Declares p rs l v t
  type_declared t q = declared (struct_at p.params rs l) refl t q

  pub declared_type : (t : Ty) → Declares p rs l v t → type_at p rs l v ≡ some t
  unfolding type_in
  declared_type t d = ap (type_in p v) d.of ∙ d.typed

-- a condition that is tested and cannot fail
positive : {A : Type 0} {b : Bool} → Reflects A b → ((A → ⊥) → ⊥) → A
positive (holds a) f = a
positive (fails g) f = absurd (f g)

at_most : (a b : ℕ) → (a < b → ⊥) → b ≤ a
at_most a b f = go (lt_reflects a b)
  where
    go : {t : Bool} → Reflects (a < b) t → b ≤ a
    go (holds h) = absurd (f h)
    go (fails g) = positive (le_reflects b a) (λ h. g (omega (arith, h)))

-- two images hold one program and one table
one_table : {x y : List ℕ} {p q : Program} {rs ss : List Record} → ReadsBoth x y p rs → ReadsBoth x y q ss → ◌≡◌ {A = Program × List Record} (p, rs) (q, ss)
one_table {y = y} {p = p} {q = q} {rs = rs} {ss = ss} a b =
    let e : p ≡ q = one_program a.program b.program in
    let t = (table_answer_exact p.params (stream y) rs).1 (a.table.right, a.table.bytes) in
    let u = (table_answer_exact q.params (stream y) ss).1 (b.table.right, b.table.bytes) in
    let v : table_of_stream p.params (stream y) ≡ went ss = rw e u in
    let f : rs ≡ ss = cc in
    ap₂ (λ c r. (c, r)) e f

-- The order --------------------------------------------------------------------------------

module _ (x y : List ℕ) (n l v : ℕ) (list : List ℕ) where
  abbrev Asked : Program × List Record → Type 0
  Asked q = Countable x y n l v list q.0 q.1

  -- what is said of the program and the table that are read, of any that are
  module _ {p : Program} {rs : List Record} (a : AcceptedImage x p) (t : TableAccepted p y rs) where
    both : ReadsBoth x y p rs
    both = record { program = reads_of a; table = t }

    said_here : (P : Program × List Record → Type 0) {q : Program} {ss : List Record} → ReadsBoth x y q ss → P (q, ss) → P (p, rs)
    said_here P b h = subst P (one_table b both) h

    no_step : Reflects (NoStep x n) (not (stepped n p.steps))
    no_step =
        reflects_map (λ f. (p, reads_of a, f)) (λ (q, r, f). subst (λ (c : Program). Had n c.steps → ⊥) (one_program r (reads_of a)) f)
        (reflects_negation (had_reflects n p.steps))

    not_bool : (u : Ty) → type_at p rs l v ≡ some u → Reflects (NotBool x y l v) (not (is_bool u))
    not_bool u e =
        reflects_map (λ f. (p, rs, both, u, type_declared p rs l v u e, f))
        (λ (q, ss, b, w, d, f).
        let c = said_here (λ z. type_at z.0 z.1 l v ≡ some w) b (declared_type q ss l v w d) in
        let s : u ≡ w = cc in
        subst (λ (z : Ty). z ≡ bool → ⊥) (sym s) f)
        (reflects_negation (bool_reflects u))

    many : Reflects (ManyCommands x y n) (ltb most_counted (started_commands p rs n))
    many =
        reflects_map (λ h. (p, rs, both, h)) (λ (q, ss, b, h). said_here (λ z. most_counted < started_commands z.0 z.1 n) b h)
        (lt_reflects most_counted (started_commands p rs n))

    no_place : type_at p rs l v ≡ none → NoPlace x y l v
    no_place e = (p, rs, both, λ u d. let f = declared_type p rs l v u d in let q : ◌≡◌ {A = ℕ} 0 1 = cc in omega arith)

    some_place : (u : Ty) → type_at p rs l v ≡ some u → NoPlace x y l v → ⊥
    some_place u e (q, ss, b, f) =
        f u (type_declared q ss l v u (subst (λ z. type_at z.0 z.1 l v ≡ some u) (one_table both b) e))

    countable : max_commands ≤ length list → (NoStep x n → ⊥) → (u : Ty) → type_at p rs l v ≡ some u → (NotBool x y l v → ⊥) → (ManyCommands x y n → ⊥)
        → Countable x y n l v list p rs
    countable h f u e g k = record {
      program = a;
      table = t;
      list_room = h;
      step = positive (had_reflects n p.steps) (λ c. f (p, reads_of a, c));
      place = subst (Declares p rs l v) (positive (bool_reflects u) (λ c. g (p, rs, both, u, type_declared p rs l v u e, c))) (type_declared p rs l v u e);
      few = at_most most_counted (started_commands p rs n) (λ c. k (p, rs, both, c));
    }

  pub tell_count : Stages Asked (count_order x y n l v list) (count_begins x y n l v list)
  unfolding count_begins with_question of_question
  tell_count =
      stage_on (tell_images x y) λ q (a, t). stage_asked no_room (lt_reflects (length list) max_commands) λ h.
      stage_asked wrong_names (no_step a t) λ f. stage_given absent (type_at q.0 q.1 l v) (no_place a t) (some_place a t) λ u e.
      stage_asked wrong_types (not_bool a t u e) λ g. stage_asked many_commands (many a t) λ k.
      passes tt (q, refl, countable a t (omega (arith, h)) f u e g k)

  -- a count is refused with a number exactly where that number is foremost of those whose condition holds
  pub count_number : (k : ℕ) → (count_begins x y n l v list ≡ not_begun k) ↔ Foremost (count_order x y n l v list) k
  count_number = stage_number tell_count

  -- it is answered exactly where none holds
  pub count_none : ((p : Program) × (rs : List Record) × (count_begins x y n l v list ≡ begun p rs) × (Countable x y n l v list p rs))
      ↔ NoneOf (count_order x y n l v list)
  count_none = (
    λ (p, rs, e, c). (stage_none tell_count).0 ((p, rs), e, c),
    λ f. let (q, e, c) = (stage_none tell_count).1 f in (q.0, q.1, e, c),
  )

  -- a refusal has its number, three zeros, and leaves the list as it was
  pub count_untouched : (k : ℕ) → Foremost (count_order x y n l v list) k
      → (count x y n l v list ≡ counted k 0 0 0) × (count_list x y n l v list ≡ list)
  unfolding count count_by count_list run_list_by
  count_untouched k q = (stage_refused tell_count (count_by n l v) k q, stage_refused tell_count (λ b. run_list_by b list) k q)

  -- The counts ---------------------------------------------------------------------------

  module _ (p : Program) (rs : List Record) (e : count_begins x y n l v list ≡ begun p rs) where
    abbrev of_kind : Kind → ℕ
    of_kind κ = tally (alone p n) l v κ (count_machine p rs n)

    pub begun_count : (count x y n l v list ≡ counted 0 (of_kind (ends true)) (of_kind (ends false)) (of_kind stops)) × (count_list x y n l v list ≡ listed p list)
    unfolding count count_by count_list run_list_by
    begun_count = (ap (count_by n l v) e, ap (λ (b : Begun). run_list_by b list) e)

    -- number 0, and the counts of the definition over the published rules
    pub begun_exact : ((count x y n l v list).number ≡ 0)
        × (Counts p (step_state p rs n) l v (count x y n l v list).true_orders (count x y n l v list).false_orders (count x y n l v list).stopped_orders)
    begun_exact =
        let c = begun_count.0 in (
          ap (λ (r : Counted). r.number) c,
          subst (λ (r : Counted). Counts p (step_state p rs n) l v r.true_orders r.false_orders r.stopped_orders) (sym c) (step_counts p rs n l v),
        )

    pub begun_fits : (count x y n l v list).true_orders + (count x y n l v list).false_orders + (count x y n l v list).stopped_orders < nat_end
    begun_fits =
        subst (λ (r : Counted). r.true_orders + r.false_orders + r.stopped_orders < nat_end) (sym begun_count.0)
        (step_fits p rs n l v (stage_past tell_count (p, rs) e).1.few)
